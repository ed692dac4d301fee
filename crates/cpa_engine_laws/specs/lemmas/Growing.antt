-- Where analyses suggest cells alone, a refinement tracks more of them (`refined_falls`), of which
-- there are so many for each analysis (`all_few`).
use Rattle.std.proofs.Common.{◌≡◌, ℕ, zero, suc, ◌*◌, ◌<◌, ◌≤◌, ◌++◌, Bool, true, false, cond}
use Rattle.std.proofs.Common.{eqb, nat_lt, List, [], ◌∷◌, length, Option, Some, None, IsSomeAnd}
use Rattle.std.proofs.Common.{refl}
use Rattle.std.proofs.Common.{sym, ap, ◌∙◌, subst, inl, inr, ⊎_elim, arith}
use Rattle.std.specs.Prelude.{IfSome}
use Rattle.std.specs.List.{slice_get, AllByRecursion, Contains}
use Rattle.std.proofs.lemmas.Bool.{cases_Bool, eq-eqb, eqb-true, ltb-true, or_cases}
use Rattle.std.proofs.lemmas.List.{length-append}
use Rattle.std.proofs.Math.Nat.{suc-mul}
use Rattle.cpa_model.specs.declared.automaton.Cfa.{Cfa}
use Rattle.cpa_model.specs.declared.automaton.Path.{Path}
use Rattle.cpa_iface.specs.declared.precisions.Precision.{Precision}
use Rattle.cpa_iface.specs.Laws.{RefineLaws, AppendsMissing, AppendsSuggested}
use Rattle.cpa_iface.specs.Meanings.{Meaning, Suggestion, IsPathOf}
use Rattle.cpa_composite.specs.Components.{Component}
use Rattle.cpa_composite.specs.Laws.{RefinedRow, EachRefined, is_longer, some_longer}
use Rattle.cpa_model.specs.lemmas.Lists.{in_list}
use Rattle.cpa_reached.specs.Members.{IsIn, is_in}
use Rattle.cpa_reached.specs.lemmas.MemberLaws.{in_all, in_member}
use Rattle.cpa_engine_laws.specs.Cells.{TellCells, untracked, all_untracked}

-- ---- cells that are not tracked

among_front : (n : ℕ) (xs ys : List ℕ) → is_in n xs ≡ true → is_in n (xs ++ ys) ≡ true
among_front n [] ys is = absurd (cc)
among_front n (x ∷ xs) ys is =
    ⊎_elim
    (λ here. rw here refl)
    (λ other. rw other (among_front n xs ys (rw other at is)))
    (cases_Bool (eqb x n))

among_back : (n : ℕ) (xs ys : List ℕ) → IsIn n ys → is_in n (xs ++ ys) ≡ true
among_back n [] [] there = absurd there
among_back n [] (y ∷ ys) (inl same) = rw (eq-eqb y n same) refl
among_back n [] (y ∷ ys) (inr later) =
    ⊎_elim (λ here. rw here refl) (λ other. rw other (among_back n [] ys later))
    (cases_Bool (eqb y n))
among_back n (x ∷ xs) ys there =
    ⊎_elim (λ here. rw here refl) (λ other. rw other (among_back n xs ys there))
    (cases_Bool (eqb x n))

-- one cell counts no more than before
one_less : (n : ℕ) (xs ys : List ℕ) (b : ℕ) (c : ℕ)
    → (is_in n xs ≡ true → is_in n ys ≡ true)
    → b ≡ cond (is_in n xs) 0 1 → c ≡ cond (is_in n ys) 0 1 → c ≤ b
one_less n xs ys b c goes is_b is_c =
    ⊎_elim
    (λ yes. let also = goes yes in
    let zero_c : c ≡ 0 = is_c ∙ ap (λ (t : Bool). cond t 0 1) also in omega (arith, zero_c))
    (λ no.
    let one_b : b ≡ 1 = is_b ∙ ap (λ (t : Bool). cond t 0 1) no in
    ⊎_elim
    (λ (y : is_in n ys ≡ true).
    let is : c ≡ 0 = is_c ∙ ap (λ (t : Bool). cond t 0 1) y in omega (arith, is))
    (λ (z : is_in n ys ≡ false).
    let is : c ≡ 1 = is_c ∙ ap (λ (t : Bool). cond t 0 1) z in omega (arith, is, one_b))
    (cases_Bool (is_in n ys)))
    (cases_Bool (is_in n xs))

untracked_least : (cells : ℕ) (xs ys : List ℕ)
    → ((n : ℕ) → is_in n xs ≡ true → is_in n ys ≡ true)
    → untracked cells ys ≤ untracked cells xs
untracked_least zero xs ys goes = omega arith
untracked_least (suc n) xs ys goes =
    let here = one_less n xs ys (cond (is_in n xs) 0 1) (cond (is_in n ys) 0 1) (goes n) refl
    refl in
    let rest = untracked_least n xs ys goes in omega (arith, here, rest)

untracked_falls : (cells : ℕ) (xs ys : List ℕ) (m : ℕ)
    → ((n : ℕ) → is_in n xs ≡ true → is_in n ys ≡ true) → m < cells
    → is_in m xs ≡ false → is_in m ys ≡ true → untracked cells ys < untracked cells xs
untracked_falls zero xs ys m goes less out there = absurd (omega (arith, less))
untracked_falls (suc n) xs ys m goes less out there =
    ⊎_elim
    (λ (same : eqb m n ≡ true).
    let is : m ≡ n = eqb-true m n same in
    let out_n : is_in n xs ≡ false = subst (λ (k : ℕ). is_in k xs ≡ false) is out in
    let in_n : is_in n ys ≡ true = subst (λ (k : ℕ). is_in k ys ≡ true) is there in
    let rest = untracked_least n xs ys goes in
    rw out_n (rw in_n (omega (arith, rest))))
    (λ (other : eqb m n ≡ false).
    let differs : m ≡ n → ⊥ = λ is. absurd (cc (eq-eqb m n is, other)) in
    let below : m < n = less_but m n less differs in
    let here = one_less n xs ys (cond (is_in n xs) 0 1) (cond (is_in n ys) 0 1) (goes n) refl
    refl in
    let rest = untracked_falls n xs ys m goes below out there in omega (arith, here, rest))
    (cases_Bool (eqb m n))
  where
    less_but : (m n : ℕ) → m < suc n → (m ≡ n → ⊥) → m < n
    less_but m n less differs = omega (arith, less, differs)

-- ---- what cells alone are suggested for

-- one precision, where cells alone are suggested
record GrowsBy (cells : ℕ) (p q : Precision) : Type 0 where
  more : List ℕ
  is : q.tracked ≡ p.tracked ++ more
  inside : AllByRecursion (λ n. n < cells) q.tracked
  only : AllByRecursion (λ x. Contains p.tracked x → ⊥) more
  preds : length q.preds ≡ length p.preds

told : (P Q : Suggestion → Type 0) (o : Option Suggestion) → IsSomeAnd o P → IfSome o Q
    → (s : Suggestion) × P s × Q s
told P Q None some laws = absurd some
told P Q (Some s) some laws = (s, some, laws)

none_missing : {X : Type 0} (items old new : List X) → items ≡ [] → AppendsMissing items old new
    → length new ≡ length old
none_missing {X} items old new none appends = by appends.more appends.is appends.only
  where
    by : (more : List X) → new ≡ old ++ more
        → AllByRecursion (λ x. Contains items x × (Contains old x → ⊥)) more
        → length new ≡ length old
    by [] is only =
        let size = ap (λ (xs : List X). length xs) is in
        let both = length-append old [] in omega (arith, size, both)
    by (x ∷ more) is only =
        let there = only.0.0 in
        let inside = there.1 in
        let nothing = ap (λ (xs : List X). length xs) none in absurd (omega (
          arith,
          inside,
          nothing,
        ))

seconds : {X : Type 0} (P Q : X → Type 0) (xs : List X) → AllByRecursion (λ x. P x × Q x) xs
    → AllByRecursion Q xs
seconds P Q [] all = tt
seconds P Q (x ∷ xs) all = (all.0.1, seconds P Q xs all.1)

grows_by : (m : Meaning) (cfa : Cfa) (path : Path) (p q : Precision)
    → IsSomeAnd (m.suggestion cfa path) (λ s. s.preds ≡ []) → RefineLaws m cfa path p q
    → GrowsBy (length cfa.cells) p q
grows_by m cfa path p q tells laws =
    let s = told (λ s. s.preds ≡ []) (AppendsSuggested p q) (m.suggestion cfa path) tells
    laws.suggested in
    let cells = s.2.0 in
    record {
      more = cells.more;
      is = cells.is;
      inside = laws.shaped.tracked;
      only = seconds (λ x. Contains s.0.cells x) (λ x. Contains p.tracked x → ⊥) cells.more
          cells.only;
      preds = none_missing s.0.preds p.preds q.preds s.1 s.2.1;
    }

-- ---- a refinement

in_there : {X : Type 0} (xs : List X) (x : X) → IsIn x xs → (k : ℕ) × (slice_get xs k ≡ Some x)
in_there [] x there = absurd there
in_there (y ∷ xs) x (inl same) = (zero, ap Some same)
in_there (y ∷ xs) x (inr later) = let r = in_there xs x later in (suc r.0, r.1)

-- what is contained nowhere is out by the test
is_out : (n : ℕ) (xs : List ℕ) → (Contains xs n → ⊥) → is_in n xs ≡ false
is_out n xs out =
    ⊎_elim
    (λ (there : is_in n xs ≡ true).
    let at = in_there xs n (in_member n xs there) in absurd (out (in_list xs at.0 n at.1)))
    (λ (other : is_in n xs ≡ false). other)
    (cases_Bool (is_in n xs))

one_least : (cells : ℕ) (p q : Precision) → GrowsBy cells p q
    → untracked cells q.tracked ≤ untracked cells p.tracked
one_least cells p q grows =
    subst (λ (ts : List ℕ). untracked cells ts ≤ untracked cells p.tracked) (sym grows.is)
    (untracked_least cells p.tracked (p.tracked ++ grows.more)
    (λ n is. among_front n p.tracked grows.more is))

one_falls : (cells : ℕ) (p q : Precision) → GrowsBy cells p q → is_longer p q ≡ true
    → untracked cells q.tracked < untracked cells p.tracked
one_falls cells p q grows longer =
    subst (λ (ts : List ℕ). untracked cells ts < untracked cells p.tracked) (sym grows.is)
    (by grows.more refl grows.only)
  where
    tracked_longer : length p.tracked < length q.tracked
    tracked_longer =
        ⊎_elim (λ yes. ltb-true (length p.tracked) (length q.tracked) yes)
        (λ preds.
        let less = ltb-true (length p.preds) (length q.preds) preds in
        let same = grows.preds in absurd (omega (arith, less, same)))
        (or_cases (nat_lt (length p.tracked) (length q.tracked))
        (nat_lt (length p.preds) (length q.preds)) longer)

    by : (more : List ℕ) → grows.more ≡ more → AllByRecursion (λ x. Contains p.tracked x → ⊥) more
        → untracked cells (p.tracked ++ grows.more) < untracked cells p.tracked
    by [] none only =
        let longer = tracked_longer in
        let size = ap (λ (ts : List ℕ). length ts) grows.is in
        let both = length-append p.tracked grows.more in
        let nothing = ap (λ (ts : List ℕ). length ts) none in
        absurd (omega (arith, longer, size, both, nothing))
    by (m ∷ more) some only =
        let there : IsIn m grows.more = subst (IsIn m) (sym some) (inl refl) in
        let among : is_in m (p.tracked ++ grows.more) ≡ true =
        among_back m p.tracked grows.more there in
        untracked_falls cells p.tracked (p.tracked ++ grows.more) m
        (λ n is. among_front n p.tracked grows.more is)
        (in_all (λ n. n < cells) (p.tracked ++ grows.more) m
        (subst (AllByRecursion (λ n. n < cells)) grows.is grows.inside) among)
        (is_out m p.tracked only.0) among

later_refined : (cfa : Cfa) (path : Path) (c : Component) (cs : List Component) (p q : Precision)
    (old new : List Precision) → EachRefined cfa path (c ∷ cs) (p ∷ old) (q ∷ new)
    → EachRefined cfa path cs old new
later_refined cfa path c cs p q old new each i d x y at at_x at_y =
    each (suc i) d x y at at_x at_y

all_least : (cfa : Cfa) (path : Path) (cs : List Component) (old new : List Precision)
    → TellCells cfa cs → IsPathOf cfa path → length old ≡ length cs → length new ≡ length cs
    → EachRefined cfa path cs old new
    → all_untracked (length cfa.cells) new ≤ all_untracked (length cfa.cells) old
all_least cfa path [] [] [] tell inside many long each = omega arith
all_least cfa path [] (p ∷ old) new tell inside many long each = absurd (omega (arith, many))
all_least cfa path [] [] (q ∷ new) tell inside many long each = absurd (omega (arith, long))
all_least cfa path (c ∷ cs) [] new tell inside many long each = absurd (omega (arith, many))
all_least cfa path (c ∷ cs) (p ∷ old) [] tell inside many long each = absurd (omega (arith, long))
all_least cfa path (c ∷ cs) (p ∷ old) (q ∷ new) tell inside many long each =
    let one = one_least (length cfa.cells) p q
    (grows_by c.meaning cfa path p q (tell.0 path inside) (each 0 c p q refl refl refl)) in
    let rest = all_least cfa path cs old new tell.1 inside (omega (arith, many))
    (omega (arith, long)) (later_refined cfa path c cs p q old new each) in
    omega (arith, one, rest)

each_falls : (cfa : Cfa) (path : Path) (cs : List Component) (old new : List Precision)
    → TellCells cfa cs → IsPathOf cfa path → length old ≡ length cs → length new ≡ length cs
    → EachRefined cfa path cs old new → some_longer old new ≡ true
    → all_untracked (length cfa.cells) new < all_untracked (length cfa.cells) old
each_falls cfa path cs [] new tell inside many long each longer = absurd (cc)
each_falls cfa path cs (p ∷ old) [] tell inside many long each longer = absurd (cc)
each_falls cfa path [] (p ∷ old) (q ∷ new) tell inside many long each longer =
    absurd (omega (arith, many))
each_falls cfa path (c ∷ cs) (p ∷ old) (q ∷ new) tell inside many long each longer =
    let cells = length cfa.cells in
    let grows = grows_by c.meaning cfa path p q (tell.0 path inside) (each 0 c p q refl refl refl)
    in
    let later = later_refined cfa path c cs p q old new each in
    ⊎_elim
    (λ here.
    let one = one_falls cells p q grows here in
    let rest = all_least cfa path cs old new tell.1 inside (omega (arith, many))
    (omega (arith, long)) later in
    omega (arith, one, rest))
    (λ behind.
    let one = one_least cells p q grows in
    let rest = each_falls cfa path cs old new tell.1 inside (omega (arith, many))
    (omega (arith, long)) later behind in
    omega (arith, one, rest))
    (or_cases (is_longer p q) (some_longer old new) longer)

pub refined_falls : (cfa : Cfa) (cs : List Component) (path : Path) (old new : List Precision)
    → TellCells cfa cs → IsPathOf cfa path → length old ≡ length cs
    → RefinedRow cs cfa path old new
    → all_untracked (length cfa.cells) new < all_untracked (length cfa.cells) old
refined_falls cfa cs path old new tell inside many row =
    each_falls cfa path cs old new tell inside many row.precisions.size row.each row.longer

-- no more cells are untracked than there are
untracked_few : (cells : ℕ) (xs : List ℕ) → untracked cells xs ≤ cells
untracked_few zero xs = omega arith
untracked_few (suc n) xs =
    let rest = untracked_few n xs in
    ⊎_elim (λ yes. rw yes (omega (arith, rest))) (λ no. rw no (omega (arith, rest)))
    (cases_Bool (is_in n xs))

pub all_few : (cells : ℕ) (ps : List Precision) → all_untracked cells ps ≤ length ps * cells
all_few cells [] = omega arith
all_few cells (p ∷ ps) =
    let one = untracked_few cells p.tracked in
    let rest = all_few cells ps in
    let more = suc-mul (length ps) cells in omega (arith, one, rest, more)
