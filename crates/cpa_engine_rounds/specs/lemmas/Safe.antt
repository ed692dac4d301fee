-- What it says of an entry that it may be an error, or not.
use Rattle.std.proofs.Common.{◌≡◌, ℕ, zero, suc, Bool, true, false, not, List, [], ◌∷◌, Some, refl}
use Rattle.std.proofs.Common.{sym}
use Rattle.std.proofs.Common.{ap, ◌∙◌, subst, inl, inr, ⊎_elim, slice_get}
use Rattle.std.specs.Prelude.{◌||◌, IsTrue, ◌↔◌}
use Rattle.std.specs.List.{AllByRecursion, Contains, list_any}
use Rattle.std.proofs.lemmas.Bool.{cases_Bool, or_cases}
use Rattle.std.proofs.lemmas.Option.{same_Some}
use Rattle.cpa_model.specs.declared.automaton.Cfa.{Cfa}
use Rattle.cpa_facts.specs.declared.fact.Fact.{Fact}
use Rattle.cpa_facts.specs.declared.fact.Fact.TheVariants.{At, Stack, Equals, Within, Truth}
use Rattle.cpa_model.specs.declared.facts.Elem.{Elem}
use Rattle.cpa_model.specs.declared.states.State.{State}
use Rattle.cpa_model.specs.Facts.{FactHolds, LiesIn}
use Rattle.cpa_model.specs.lemmas.Lists.{in_list, place_of}
use Rattle.cpa_iface.specs.Pins.{pin}
use Rattle.cpa_reached.specs.Members.{IsIn, is_in}
use Rattle.cpa_reached.specs.lemmas.MemberLaws.{in_member, member_in}
use Rattle.cpa_engine_rounds.specs.Errors.{stands_off, may_err}

-- between a number that is contained and one that is there by the test
in_there : {X : Type 0} (xs : List X) (x : X) → IsIn x xs → (k : ℕ) × (slice_get xs k ≡ Some x)
in_there [] x there = absurd there
in_there (y ∷ xs) x (inl same) = (zero, ap Some same)
in_there (y ∷ xs) x (inr later) = let r = in_there xs x later in (suc r.0, r.1)

there_in : {X : Type 0} (xs : List X) (k : ℕ) (x : X) → slice_get xs k ≡ Some x → IsIn x xs
there_in [] k x at = absurd (cc)
there_in (y ∷ xs) zero x at = inl (same_Some y x at)
there_in (y ∷ xs) (suc k) x at = inr (there_in xs k x at)

pub contained_in : (xs : List ℕ) (n : ℕ) → Contains xs n → is_in n xs ≡ true
contained_in xs n there =
    let at = place_of xs n there in member_in n xs (there_in xs at.0 n at.1)

pub in_contained : (xs : List ℕ) (n : ℕ) → is_in n xs ≡ true → Contains xs n
in_contained xs n there =
    let at = in_there xs n (in_member n xs there) in in_list xs at.0 n at.1

pub same_test : (b : Bool) (xs : List ℕ) (n : ℕ) → IsTrue b ↔ Contains xs n → b ≡ is_in n xs
same_test true xs n is = sym (contained_in xs n (is.0 refl))
same_test false xs n is =
    ⊎_elim
    (λ (there : is_in n xs ≡ true). is.1 (in_contained xs n there) ∙ sym there)
    (λ (other : is_in n xs ≡ false). sym other)
    (cases_Bool (is_in n xs))

-- a test on some item of a list
any_at : {X : Type 0} (p : X → Bool) (xs : List X) (k : ℕ) (x : X) → slice_get xs k ≡ Some x
    → p x ≡ true → list_any p xs ≡ true
any_at p [] k x at is = absurd (cc)
any_at p (y ∷ xs) zero x at is =
    ap (λ (b : Bool). b || list_any p xs) (ap p (same_Some y x at) ∙ is)
any_at p (y ∷ xs) (suc k) x at is =
    ⊎_elim (λ yes. rw yes refl) (λ other. rw other (any_at p xs k x at is)) (cases_Bool (p y))

not_true : (b : Bool) → not b ≡ true → b ≡ false
not_true true is = absurd (cc)
not_true false is = refl

not_false : (b : Bool) → not b ≡ false → b ≡ true
not_false true is = refl
not_false false is = absurd (cc)

-- a pin of a point in a row that may be an error is one of an error
pub pins_err : (cfa : Cfa) (es : List Elem) (i p : ℕ) → may_err cfa es ≡ true
    → slice_get es i ≡ Some (pin p) → Contains cfa.errors p
pins_err cfa es i p may at =
    ⊎_elim
    (λ (yes : is_in p cfa.errors ≡ true). in_contained cfa.errors p yes)
    (λ (other : is_in p cfa.errors ≡ false).
    let off : list_any (stands_off cfa) (pin p).facts ≡ true = rw other refl in
    let some = any_at (λ e. list_any (stands_off cfa) e.facts) es i (pin p) at off in
    absurd (let none = not_true (list_any (λ e. list_any (stands_off cfa) e.facts) es) may in
    cc (some, none)))
    (cases_Bool (is_in p cfa.errors))

-- a fact that is off an error holds of no state at one
off_holds : (cfa : Cfa) (s : State) (f : Fact) → stands_off cfa f ≡ true → FactHolds s f
    → Contains cfa.errors s.point → ⊥
off_holds cfa s (At point) off holds there =
    let out = not_true (is_in point cfa.errors) off in
    let in_it : is_in point cfa.errors ≡ true =
    subst (λ (n : ℕ). is_in n cfa.errors ≡ true) holds (contained_in cfa.errors s.point there) in
    absurd (cc (out, in_it))
off_holds cfa s (Stack sites) off holds there = absurd (cc)
off_holds cfa s (Equals cell value) off holds there = absurd (cc)
off_holds cfa s (Within cell lo hi) off holds there = absurd (cc)
off_holds cfa s (Truth expr holds) off is there = absurd (cc)

some_off : (cfa : Cfa) (s : State) (fs : List Fact) → list_any (stands_off cfa) fs ≡ true
    → AllByRecursion (FactHolds s) fs → Contains cfa.errors s.point → ⊥
some_off cfa s [] off all there = absurd (cc)
some_off cfa s (f ∷ fs) off all there =
    ⊎_elim (λ here. off_holds cfa s f here all.0 there)
    (λ later. some_off cfa s fs later all.1 there)
    (or_cases (stands_off cfa f) (list_any (stands_off cfa) fs) off)

row_off : (cfa : Cfa) (s : State) (es : List Elem)
    → list_any (λ e. list_any (stands_off cfa) e.facts) es ≡ true → LiesIn s es
    → Contains cfa.errors s.point → ⊥
row_off cfa s [] off lies there = absurd (cc)
row_off cfa s (e ∷ es) off lies there =
    ⊎_elim (λ here. some_off cfa s e.facts here lies.0 there)
    (λ later. row_off cfa s es later lies.1 there)
    (or_cases (list_any (stands_off cfa) e.facts)
    (list_any (λ d. list_any (stands_off cfa) d.facts) es) off)

-- and no state of a row that may not is at an error
pub safe_row : (cfa : Cfa) (es : List Elem) (s : State) → may_err cfa es ≡ false → LiesIn s es
    → Contains cfa.errors s.point → ⊥
safe_row cfa es s safe lies there =
    row_off cfa s es (not_false (list_any (λ e. list_any (stands_off cfa) e.facts) es) safe) lies
    there
