-- The tests of the picked analyses, one after the other, are those of the components.
use Rattle.std.proofs.Common.{zero, suc, ◌-◌, take, drop, get_or, arith, length, Option}
use Rattle.std.proofs.Common.{◌≡◌, ℕ, ◌<◌, ◌≤◌, Bool, true, false, ◌&&◌, List, [], ◌∷◌}
use Rattle.std.proofs.Common.{refl, sym, ap, ◌∙◌, subst}
use Rattle.std.proofs.lemmas.Option.{same_Some}
use Rattle.cpa_model.specs.declared.facts.Elem.{Elem}
use Rattle.cpa_iface.specs.declared.merging.Pick.{Pick}
use Rattle.cpa_iface.specs.Meanings.{Meaning}
use Rattle.cpa_composite_covers.specs.Components.{Component, picked, picked_before, ArePlaces}
use Rattle.cpa_composite_covers.specs.Components.{IsPicked}
use Rattle.cpa_composite_covers.specs.Covers.{all_cover}
use Rattle.cpa_composite_covers.specs.lemmas.PickLaws.{there_is}

-- two tests, in either order
pub both_false : (b : Bool) → (b && false) ≡ false
both_false true = refl
both_false false = refl

pub both_true : (b : Bool) → b ≡ (b && true)
both_true true = refl
both_true false = refl

-- a row that ends covers, and is covered
pub no_elems_cover : (cs : List Component) (fs : List Elem) → all_cover cs [] fs ≡ true
no_elems_cover [] fs = refl
no_elems_cover (c ∷ cs) fs = refl

pub no_fellows_cover : (cs : List Component) (es : List Elem) → all_cover cs es [] ≡ true
no_fellows_cover [] es = refl
no_fellows_cover (c ∷ cs) [] = refl
no_fellows_cover (c ∷ cs) (e ∷ es) = refl

-- the cover of the component that a pick makes comes first
pub cover_first : (ms : List Meaning) (p : Pick) (picks : List Pick) (e : Elem) (es : List Elem)
    (f : Elem) (fs : List Elem) (first rest : Bool) → p.place < length ms
    → ((c : Component) → IsPicked ms p c → first ≡ c.meaning.cover e f)
    → rest ≡ all_cover (picked ms picks) es fs
    → (first && rest) ≡ all_cover (picked ms (p ∷ picks)) (e ∷ es) (f ∷ fs)
cover_first ms p picks e es f fs first rest inside covers later =
    let there = there_is ms p.place inside in
    let made : Component = record { meaning = there.0; rule = p.rule } in
    let is : IsPicked ms p made = record { meaning = there.1; rule = refl } in
    subst (λ (o : Option Meaning). (first && rest)
    ≡ all_cover (picked_before o p.rule (picked ms picks)) (e ∷ es) (f ∷ fs)) (sym there.1)
    (ap (λ (b : Bool). b && rest) (covers made is)
    ∙ ap (λ (b : Bool). there.0.cover e f && b) later)

-- a list with an item is its first one and the others
split : {X : Type 0} (xs : List X) (x : X) → 1 ≤ length xs → x ≡ get_or xs 0 x
    → xs ≡ x ∷ drop 1 xs
split [] x some at = absurd (omega arith)
split {X} (y ∷ xs) x some at = ap (λ (z : X). z ∷ xs) (sym at)

picks_split : (picks : List Pick) (d : Pick) → 1 ≤ length picks
    → picks ≡ get_or picks 0 d ∷ drop 1 picks
picks_split [] d some = absurd (omega arith)
picks_split (p ∷ picks) d some = refl

-- the same of rows and picks that have a first item
pub cover_split : (ms : List Meaning) (picks : List Pick) (d : Pick) (es : List Elem) (e : Elem)
    (fs : List Elem) (f : Elem) (first rest : Bool) → ArePlaces (length ms) picks
    → 1 ≤ length picks → 1 ≤ length es → 1 ≤ length fs → e ≡ get_or es 0 e → f ≡ get_or fs 0 f
    → ((c : Component) → IsPicked ms (get_or picks 0 d) c → first ≡ c.meaning.cover e f)
    → rest ≡ all_cover (picked ms (drop 1 picks)) (drop 1 es) (drop 1 fs)
    → (first && rest) ≡ all_cover (picked ms picks) es fs
cover_split ms picks d es e fs f first rest within a b k elem fellow covers later =
    let p = get_or picks 0 d in
    let ps = picks_split picks d a in
    let inside : p.place < length ms =
    (subst (λ (l : List Pick). ArePlaces (length ms) l) ps within).0 in
    subst (λ (l : List Pick). (first && rest) ≡ all_cover (picked ms l) es fs) (sym ps)
    (subst (λ (l : List Elem). (first && rest)
    ≡ all_cover (picked ms (p ∷ drop 1 picks)) l fs) (sym (split es e b elem))
    (subst (λ (l : List Elem). (first && rest)
    ≡ all_cover (picked ms (p ∷ drop 1 picks)) (e ∷ drop 1 es) l) (sym (split fs f k fellow))
    (cover_first ms p (drop 1 picks) e (drop 1 es) f (drop 1 fs) first rest inside covers later)))

-- where the others do not cover, the row does not
pub cover_fails : (ms : List Meaning) (picks : List Pick) (es : List Elem) (e : Elem)
    (fs : List Elem) (f : Elem) → ArePlaces (length ms) picks
    → 1 ≤ length picks → 1 ≤ length es → 1 ≤ length fs → e ≡ get_or es 0 e → f ≡ get_or fs 0 f
    → false ≡ all_cover (picked ms (drop 1 picks)) (drop 1 es) (drop 1 fs)
    → false ≡ all_cover (picked ms picks) es fs
cover_fails ms [] es e fs f within a b k elem fellow fails = absurd (omega (arith, a))
cover_fails ms (p ∷ picks) es e fs f within a b k elem fellow fails =
    let there = there_is ms p.place within.0 in
    let first : Bool = there.0.cover e f in
    sym (both_false first)
    ∙ cover_split ms (p ∷ picks) p es e fs f first false within a b k elem fellow
    (λ (c : Component) (is : IsPicked ms p c). ap (λ (m : Meaning). m.cover e f)
    (same_Some there.0 c.meaning (sym there.1 ∙ is.meaning))) fails

-- all of a list is the list
take_whole : {X : Type 0} (xs : List X) (n : ℕ) → length xs ≤ n → take n xs ≡ xs
take_whole [] zero h = refl
take_whole [] (suc n) h = refl
take_whole (x ∷ xs) zero h = absurd (omega arith)
take_whole {X} (x ∷ xs) (suc n) h = ap (λ (l : List X). x ∷ l) (take_whole xs n (omega arith))

rest_whole : {X : Type 0} (xs : List X) → take (length xs - 1) (drop 1 xs) ≡ drop 1 xs
rest_whole {X} [] = take_whole [] (length {A = X} [] - 1) (omega arith)
rest_whole (x ∷ xs) = take_whole xs (length (x ∷ xs) - 1) (omega arith)

-- what is behind the first items, as slices give it
pub cover_rest : (ms : List Meaning) (picks : List Pick) (es fs : List Elem)
    → all_cover (picked ms (take (length picks - 1) (drop 1 picks)))
    (take (length es - 1) (drop 1 es)) (take (length fs - 1) (drop 1 fs))
    ≡ all_cover (picked ms (drop 1 picks)) (drop 1 es) (drop 1 fs)
cover_rest ms picks es fs =
    ap (λ (l : List Pick). all_cover (picked ms l) (take (length es - 1) (drop 1 es))
    (take (length fs - 1) (drop 1 fs))) (rest_whole picks)
    ∙ (ap (λ (l : List Elem). all_cover (picked ms (drop 1 picks)) l
    (take (length fs - 1) (drop 1 fs))) (rest_whole es)
    ∙ ap (λ (l : List Elem). all_cover (picked ms (drop 1 picks)) (drop 1 es) l) (rest_whole fs))
