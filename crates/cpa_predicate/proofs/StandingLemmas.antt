-- An expression has the same truth before and after an act that writes no cell which it may read.
use Rattle.std.proofs.Common.{◌≡◌, ◌≢◌, ℕ, ◌+◌, ◌<◌, ◌-◌, ◌^◌, ◌==◌, ℤ, Bool, true, false}
use Rattle.std.proofs.Common.{List, [], ◌∷◌, length, refl, sym, ap, ◌∙◌, subst, arith}
use Rattle.std.specs.Prelude.{zero, suc, Option, None, Some, slice_get, slice_set}
use Rattle.std.specs.Prelude.{IsSomeAnd}
use Rattle.std.specs.Prelude.{if◌then◌else◌}
use Rattle.std.specs.List.{AllByRecursion, filter}
use Rattle.std.proofs.lemmas.Option.{same_Some}
use Rattle.std.proofs.lemmas.Bool.Decides.{Decides-eqb}
use Rattle.std.proofs.lemmas.List.{length-map}
use Rattle.cpa_expr.specs.declared.tree.Expr.{Expr}
use Rattle.cpa_expr.specs.Cells.{may_read, AgreesWhereRead}
use Rattle.cpa_expr.specs.Equality.{same_expr}
use Rattle.cpa_expr.specs.lemmas.SameTrees.{same_expr_is}
use Rattle.cpa_expr.specs.Laws.{DependsOnWhatIsRead}
use Rattle.cpa_expr.specs.Values.{HasTruth, is_nonzero}
use Rattle.cpa_model.specs.declared.automaton.Act.{Act}
use Rattle.cpa_model.specs.declared.automaton.Act.TheVariants as act
use Rattle.cpa_model.specs.declared.automaton.Edge.{Edge}
use Rattle.cpa_model.specs.declared.automaton.Cfa.{Cfa}
use Rattle.cpa_model.specs.declared.facts.Elem.{Elem}
use Rattle.cpa_facts.specs.declared.fact.Fact.{Fact}
use Rattle.cpa_facts.specs.declared.fact.Fact.TheVariants.{At, Stack, Equals, Within, Truth}
use Rattle.cpa_model.specs.declared.program.Cell.{Cell}
use Rattle.cpa_model.specs.Acts.{IsActOf}
use Rattle.cpa_model.specs.Automata.{IsAutomaton}
use Rattle.cpa_model.specs.Steps.{StepsStore}
use Rattle.cpa_form_rules.specs.Runs.{StoreFactHolds}
use Rattle.cpa_predicate.specs.Standing.{Writes, or_then, first_said}
use Rattle.cpa_predicate.specs.Steps.{is_truth, HasAfter}

-- a write leaves the other cells
set_other : (vs : List ℤ) (k j : ℕ) (v : ℤ) → j ≢ k
    → slice_get (slice_set vs k v) j ≡ slice_get vs j
set_other [] k j v differs = refl
set_other (x ∷ vs) zero zero v differs = absurd (differs refl)
set_other (x ∷ vs) zero (suc j) v differs = refl
set_other (x ∷ vs) (suc k) zero v differs = refl
set_other (x ∷ vs) (suc k) (suc j) v differs = set_other vs k j v (λ e. differs (ap suc e))

-- a place where there is something
pub inside : {X : Type 0} (xs : List X) (k : ℕ) (x : X) → slice_get xs k ≡ Some x → k < length xs
inside [] k x at = absurd (cc)
inside (y ∷ xs) zero x at = omega arith
inside (y ∷ xs) (suc k) x at = let less = inside xs k x at in omega (arith, less)

-- a store with another value at a cell that the expression does not read
agrees_set : (p : Expr) (old : List ℤ) (k : ℕ) (v : ℤ) → may_read p k ≡ false
    → AgreesWhereRead p old (slice_set old k v)
agrees_set p old k v unread cell reads = by (cell == k) refl
  where
    by : (b : Bool) → (cell == k) ≡ b → slice_get old cell ≡ slice_get (slice_set old k v) cell
    by true same =
        let one = (Decides-eqb cell k).0 same in
        absurd (cc (one, unread, reads))
    by false differs =
        sym (set_other old k cell v
        (λ one. absurd (cc ((Decides-eqb cell k).1 one, differs))))

module _ (cfa : Cfa) (a : IsAutomaton cfa) (p : Expr) where
  few : length cfa.cells < 2 ^ 32 - 1
  few = let same = ap length a.automaton.cells in
      let most = a.well_formed.few_cells in omega (arith, same, most)

  abbrev pub Unread : Act → Type 0
  Unread one = (cell : ℕ) → Writes one cell → cell < 2 ^ 32 - 1 → may_read p cell ≡ false

  -- the expression reads the same before and after the act
  pub stays : (one : Act) (old new : List ℤ) → IsActOf cfa one → Unread one
      → StepsStore cfa.cells one old new → AgreesWhereRead p old new
  stays act.Skip old new is unread step cell reads = ap (λ s. slice_get s cell) (sym step)
  stays (act.Assign base len index value) old new is unread step cell reads =
      let here = inside _ (base + step.place) _ (is.3 step.place step.inside) in
      let long = length-map cfa.cells (λ (c : Cell). c.ty) in
      let most = few in
      let within = step.inside in
      agrees_set p old (base + step.place) step.written
      (unread (base + step.place) (omega arith, omega (arith, within))
      (omega (arith, here, long, most))) cell reads
      ∙ ap (λ s. slice_get s cell) (sym step.after)
  stays (act.Assume test holds) old new is unread step cell reads =
      ap (λ s. slice_get s cell) (sym step.1)
  stays (act.Input own) old new is unread step cell reads =
      let most = few in
      agrees_set p old own step.0 (unread own refl (omega (arith, is, most))) cell reads
      ∙ ap (λ s. slice_get s cell) (sym step.2)
  stays (act.Call site) old new is unread step cell reads = ap (λ s. slice_get s cell) (sym step)
  stays (act.Return site) old new is unread step cell reads =
      ap (λ s. slice_get s cell) (sym step)

  -- what a fact says of the expression holds where the fact does
  said_holds : (store : List ℤ) (holds : Bool) (q : Expr) (own : Bool)
      → (if same_expr q p then Some own else None) ≡ Some holds → HasTruth store q own
      → HasTruth store p holds
  said_holds store holds q own is has = by (same_expr q p) refl is
    where
      by : (b : Bool) → same_expr q p ≡ b → (if b then Some own else None) ≡ Some holds
          → HasTruth store p holds
      by true same one =
          subst (λ x. HasTruth store x holds) (same_expr_is q p same)
          (subst (λ b. HasTruth store q b) (same_Some own holds one) has)
      by false other one = absurd (cc)

  pub stands : (store : List ℤ) (holds : Bool) (facts : List Fact)
      → first_said p facts ≡ Some holds
      → AllByRecursion (StoreFactHolds store) (filter is_truth facts) → HasTruth store p holds
  stands store holds [] is all = absurd (cc)
  stands store holds (At point ∷ facts) is all = stands store holds facts is all
  stands store holds (Stack sites ∷ facts) is all = stands store holds facts is all
  stands store holds (Equals cell value ∷ facts) is all = stands store holds facts is all
  stands store holds (Within cell lo hi ∷ facts) is all = stands store holds facts is all
  stands store holds (Truth q own ∷ facts) is all =
      by (if same_expr q p then Some own else None) refl is (λ e. stands store holds facts e all.1)
    where
      by : (o : Option Bool) → (if same_expr q p then Some own else None) ≡ o
          → or_then o (first_said p facts) ≡ Some holds
          → (first_said p facts ≡ Some holds → HasTruth store p holds) → HasTruth store p holds
      by None none is rest = rest is
      by (Some b) one is rest = said_holds store holds q own (one ∙ is) all.0

  -- A truth that stands in the element is one behind the edge, which needs no question.
  pub stands_after : (e : Elem) (g : Edge) (holds : Bool) → DependsOnWhatIsRead
      → IsActOf cfa g.act → first_said p e.facts ≡ Some holds → Unread g.act
      → HasAfter cfa e g p holds
  stands_after e g holds depends is there unread = λ old new s.
      subst (λ o. IsSomeAnd o (λ v. is_nonzero v ≡ holds))
      (depends p old new (stays g.act old new is unread s.step))
      (stands old holds e.facts there s.truths)
