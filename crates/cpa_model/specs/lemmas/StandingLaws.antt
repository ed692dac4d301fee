-- What a fact that stands in an element shows (this project's own).
use Rattle.std.specs.Prelude.{◌≡◌, ℕ, ◌<◌, ℤ, ◌==◌, ◌&&◌, ◌||◌, Bool, true, false, List, [], ◌∷◌}
use Rattle.std.specs.Prelude.{length, ◌⊎◌, ◌↔◌, IsTrue, refl}
use Rattle.std.proofs.Common.{zero, suc, get_or, ap, sym, ◌∙◌, subst, inl, inr, arith}
use Rattle.std.specs.List.{AllByRecursion, Contains, list_all, list_any}
use Rattle.std.specs.Ordering.{int_eq}
use Rattle.std.proofs.lemmas.Bool.{and_parts}
use Rattle.std.proofs.lemmas.Bool.Decides.{Decides-eqb, Decides-int_eq}
use Rattle.cpa_expr.specs.Equality.{same_expr}
use Rattle.cpa_expr.specs.lemmas.SameTrees.{same_expr_is, same_expr_self}
use Rattle.cpa_facts.specs.declared.fact.Fact.{Fact}
use Rattle.cpa_facts.specs.declared.fact.Fact.TheVariants.{At, Stack, Equals, Within, Truth}
use Rattle.cpa_model.specs.declared.facts.Elem.{Elem}
use Rattle.cpa_model.specs.declared.states.State.{State}
use Rattle.cpa_model.specs.Facts.{FactHolds, HasFacts, IsWithin}
use Rattle.cpa_model.specs.Standing.{same_bool, same_sites, same_fact, has_facts}

either : (a b : Bool) → (a || b) ≡ true → (a ≡ true) ⊎ (b ≡ true)
either true b h = inl refl
either false b h = inr h

eqb-means : (m n : ℕ) → (m == n) ≡ true → m ≡ n
eqb-means m n = (Decides-eqb m n).0

eqb-self : (n : ℕ) → (n == n) ≡ true
eqb-self n = (Decides-eqb n n).1 refl

int_eq-means : (m n : ℤ) → int_eq m n ≡ true → m ≡ n
int_eq-means m n = (Decides-int_eq m n).0

int_eq-self : (n : ℤ) → int_eq n n ≡ true
int_eq-self n = (Decides-int_eq n n).1 refl

same_bool-means : (a b : Bool) → same_bool a b ≡ true → a ≡ b
same_bool-means true b h = sym h
same_bool-means false true h = cc
same_bool-means false false h = refl

same_bool-self : (a : Bool) → same_bool a a ≡ true
same_bool-self true = refl
same_bool-self false = refl

same_sites-means : (s t : List ℕ) → same_sites s t ≡ true → s ≡ t
same_sites-means [] [] h = refl
same_sites-means (m ∷ s) (n ∷ t) h =
    let p = and_parts (m == n) (same_sites s t) h in
    let a = eqb-means m n p.0 in let b = same_sites-means s t p.1 in cc
same_sites-means [] (n ∷ t) h = cc
same_sites-means (m ∷ s) [] h = cc

same_sites-self : (s : List ℕ) → same_sites s s ≡ true
same_sites-self [] = refl
same_sites-self (n ∷ s) = ap (λ b. b && same_sites s s) (eqb-self n) ∙ same_sites-self s

-- facts that are the same to the letter are equal
pub same_fact-means : (f g : Fact) → same_fact f g ≡ true → f ≡ g
same_fact-means (At p) (At q) h = ap At (eqb-means p q h)
same_fact-means (Stack s) (Stack t) h = ap Stack (same_sites-means s t h)
same_fact-means (Equals c v) (Equals d w) h =
    let p = and_parts (c == d) (int_eq v w) h in
    let a = eqb-means c d p.0 in let b = int_eq-means v w p.1 in cc
same_fact-means (Within c lo hi) (Within d low high) h =
    let p = and_parts ((c == d) && int_eq lo low) (int_eq hi high) h in
    let q = and_parts (c == d) (int_eq lo low) p.0 in
    let a = eqb-means c d q.0 in
    let b = int_eq-means lo low q.1 in
    let e = int_eq-means hi high p.1 in cc
same_fact-means (Truth e x) (Truth f y) h =
    let p = and_parts (same_expr e f) (same_bool x y) h in
    let a = same_expr_is e f p.0 in let b = same_bool-means x y p.1 in cc
same_fact-means _ _ h = cc

pub same_fact-self : (f : Fact) → same_fact f f ≡ true
same_fact-self (At p) = eqb-self p
same_fact-self (Stack s) = same_sites-self s
same_fact-self (Equals c v) = ap (λ b. b && int_eq v v) (eqb-self c) ∙ int_eq-self v
same_fact-self (Within c lo hi) =
    ap (λ b. (b && int_eq lo lo) && int_eq hi hi) (eqb-self c)
    ∙ (ap (λ b. b && int_eq hi hi) (int_eq-self lo) ∙ int_eq-self hi)
same_fact-self (Truth e x) = ap (λ b. b && same_bool x x) (same_expr_self e) ∙ same_bool-self x

-- facts are the same to the letter exactly where they are equal
pub same_fact-exact : (f g : Fact) → IsTrue (same_fact f g) ↔ (f ≡ g)
same_fact-exact f g =
    (same_fact-means f g, λ e. subst (λ x. same_fact f x ≡ true) e (same_fact-self f))

or-left : (a b : Bool) → a ≡ true → (a || b) ≡ true
or-left true b h = refl
or-left false b h = absurd (cc)

or-right : (a b : Bool) → b ≡ true → (a || b) ≡ true
or-right true b h = refl
or-right false b h = h

-- a fact that the test finds is one of the list, and the other way round
found : (f : Fact) (own : List Fact) → list_any (λ g. same_fact g f) own ≡ true → Contains own f
found f [] h = absurd (cc)
found f (g ∷ own) h =
    elim (either (same_fact g f) (list_any (λ x. same_fact x f) own) h) [
      | inl here ↦ (0, omega arith, same_fact-means g f here)
      | inr there ↦ let r = found f own there in (suc r.0, omega (arith, r.1), r.2)
    ]

tested : (f : Fact) (own : List Fact) (k : ℕ) → k < length own → get_or own k f ≡ f
    → list_any (λ g. same_fact g f) own ≡ true
tested f [] k less at = absurd (omega arith)
tested f (g ∷ own) zero less at =
    or-left (same_fact g f) (list_any (λ x. same_fact x f) own)
    (subst (λ x. same_fact x f ≡ true) (sym at) (same_fact-self f))
tested f (g ∷ own) (suc k) less at =
    or-right (same_fact g f) (list_any (λ x. same_fact x f) own) (tested f own k (omega arith) at)

all-found : (own others : List Fact)
    → list_all (λ f. list_any (λ g. same_fact g f) own) others ≡ true
    → AllByRecursion (Contains own) others
all-found own [] h = tt
all-found own (f ∷ others) h =
    let rest = list_all (λ x. list_any (λ g. same_fact g x) own) others in
    let p = and_parts (list_any (λ g. same_fact g f) own) rest h in
    (found f own p.0, all-found own others p.1)

all-tested : (own others : List Fact) → AllByRecursion (Contains own) others
    → list_all (λ f. list_any (λ g. same_fact g f) own) others ≡ true
all-tested own [] all = refl
all-tested own (f ∷ others) all =
    let rest = list_all (λ x. list_any (λ g. same_fact g x) own) others in
    let here = tested f own all.0.0 all.0.1 all.0.2 in
    ap (λ b. b && rest) here ∙ all-tested own others all.1

-- the test is true exactly where each fact of the other is one of the element's own
pub has_facts-exact : (e f : Elem) → IsTrue (has_facts e f) ↔ HasFacts e f
has_facts-exact e f = (all-found e.facts f.facts, all-tested e.facts f.facts)

-- what holds of each element of a list holds of one of them
one_holds : (s : State) (own : List Fact) (f : Fact) (k : ℕ) → AllByRecursion (FactHolds s) own
    → k < length own → get_or own k f ≡ f → FactHolds s f
one_holds s [] f k all less at = absurd (omega arith)
one_holds s (g ∷ own) f zero all less at = subst (FactHolds s) at all.0
one_holds s (g ∷ own) f (suc k) all less at = one_holds s own f k all.1 (omega arith) at

others_hold : (s : State) (own others : List Fact) → AllByRecursion (Contains own) others
    → AllByRecursion (FactHolds s) own → AllByRecursion (FactHolds s) others
others_hold s own [] stand all = tt
others_hold s own (f ∷ others) stand all = (
  one_holds s own f stand.0.0 all stand.0.1 stand.0.2,
  others_hold s own others stand.1 all,
)

-- an element that has the facts of another holds of fewer states
pub HasFacts-within : (e f : Elem) → HasFacts e f → IsWithin e f
HasFacts-within e f stand s all = others_hold s e.facts f.facts stand all

later : (g : Fact) (own others : List Fact) → AllByRecursion (Contains own) others
    → AllByRecursion (Contains (g ∷ own)) others
later g own [] stand = tt
later g own (f ∷ others) stand =
    ((suc stand.0.0, omega (arith, stand.0.1), stand.0.2), later g own others stand.1)

all_own : (own : List Fact) → AllByRecursion (Contains own) own
all_own [] = tt
all_own (g ∷ own) = ((0, omega arith, refl), later g own own (all_own own))

-- each element has its own facts
pub HasFacts-same : (e : Elem) → HasFacts e e
HasFacts-same e = all_own e.facts

-- the two corollaries, for the test
pub has_facts-within : (e f : Elem) → IsTrue (has_facts e f) → IsWithin e f
has_facts-within e f h = HasFacts-within e f (all-found e.facts f.facts h)

pub has_facts-same : (e : Elem) → IsTrue (has_facts e e)
has_facts-same e = all-tested e.facts e.facts (HasFacts-same e)
