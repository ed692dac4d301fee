-- An expression has the same truth before and behind an act that writes no cell which it may read;
-- the truth that an act tests holds behind it, and an element that says the other one bars it.
use Rattle.std.proofs.Common.{◌≡◌, ◌≢◌, ℕ, ◌+◌, ◌==◌, not, ℤ, Bool, true, false, List, [], ◌∷◌}
use Rattle.std.proofs.Common.{◌++◌}
use Rattle.std.proofs.Common.{refl, sym, ap, ◌∙◌, subst, arith}
use Rattle.std.specs.Prelude.{zero, suc, slice_get, slice_set, IsSomeAnd, Option, None, Some}
use Rattle.std.specs.List.{AllByRecursion, list_any}
use Rattle.std.proofs.lemmas.Bool.Decides.{Decides-eqb}
use Rattle.cpa_expr.specs.declared.tree.Expr.{Expr}
use Rattle.cpa_expr.specs.Cells.{may_read, AgreesWhereRead}
use Rattle.cpa_expr.specs.Laws.{DependsOnWhatIsRead}
use Rattle.cpa_expr.specs.Values.{HasTruth, is_nonzero, value_of}
use Rattle.cpa_model.specs.declared.automaton.Act.{Act}
use Rattle.cpa_model.specs.declared.automaton.Act.TheVariants as act
use Rattle.cpa_facts.specs.declared.fact.Fact.{Fact}
use Rattle.cpa_facts.specs.declared.fact.Fact.TheVariants.{Truth}
use Rattle.cpa_model.specs.declared.facts.Elem.{Elem}
use Rattle.cpa_model.specs.declared.program.Cell.{Cell}
use Rattle.cpa_model.specs.Standing.{same_fact}
use Rattle.cpa_model.specs.Steps.{StepsStore}
use Rattle.cpa_form_rules.specs.Runs.{StoreFactHolds, StoreHolds}
use Rattle.cpa_recheck_bounds.specs.Standing.{AreTested, IsBarred, Spares, Stands}
use Rattle.cpa_recheck_bounds.proofs.Said.{same_holds}

-- a write leaves the other cells
set_other : (vs : List ℤ) (k j : ℕ) (v : ℤ) → j ≢ k
    → slice_get (slice_set vs k v) j ≡ slice_get vs j
set_other [] k j v differs = refl
set_other (x ∷ vs) zero zero v differs = absurd (differs refl)
set_other (x ∷ vs) zero (suc j) v differs = refl
set_other (x ∷ vs) (suc k) zero v differs = refl
set_other (x ∷ vs) (suc k) (suc j) v differs = set_other vs k j v (λ e. differs (ap suc e))

-- a store with another value at a cell that the expression does not read
agrees_set : (e : Expr) (old : List ℤ) (k : ℕ) (v : ℤ) → may_read e k ≡ false
    → AgreesWhereRead e old (slice_set old k v)
agrees_set e old k v unread cell reads = by (cell == k) refl
  where
    by : (b : Bool) → (cell == k) ≡ b → slice_get old cell ≡ slice_get (slice_set old k v) cell
    by true same =
        let one = (Decides-eqb cell k).0 same in
        absurd (cc (one, unread, reads))
    by false differs =
        sym (set_other old k cell v
        (λ one. absurd (cc ((Decides-eqb cell k).1 one, differs))))

stays : (e : Expr) (cells : List Cell) (a : Act) (old new : List ℤ) → Spares a e
    → StepsStore cells a old new → AgreesWhereRead e old new
stays e cells act.Skip old new spares step cell reads = ap (λ s. slice_get s cell) (sym step)
stays e cells (act.Assign base len index value) old new spares step cell reads =
    let within = step.inside in
    agrees_set e old (base + step.place) step.written
    (spares (base + step.place) (omega arith, omega (arith, within))) cell reads
    ∙ ap (λ s. slice_get s cell) (sym step.after)
stays e cells (act.Assume test holds) old new spares step cell reads =
    ap (λ s. slice_get s cell) (sym step.1)
stays e cells (act.Input own) old new spares step cell reads =
    agrees_set e old own step.0 (spares own refl) cell reads
    ∙ ap (λ s. slice_get s cell) (sym step.2)
stays e cells (act.Call site) old new spares step cell reads =
    ap (λ s. slice_get s cell) (sym step)
stays e cells (act.Return site) old new spares step cell reads =
    ap (λ s. slice_get s cell) (sym step)

pub truth_stands : (a : Act) (e : Expr) (holds : Bool) → DependsOnWhatIsRead → Spares a e
    → Stands a (Truth e holds)
truth_stands a e holds depends spares cells old new has step =
    subst (λ o. IsSomeAnd o (λ v. is_nonzero v ≡ holds))
    (depends e old new (stays e cells a old new spares step)) has

pub is_false : (b : Bool) → not b ≡ true → b ≡ false
is_false true is = absurd (cc)
is_false false is = refl

-- one fact more that holds
pub one_more : (store : List ℤ) (facts : List Fact) (fact : Fact)
    → AllByRecursion (StoreFactHolds store) facts → StoreFactHolds store fact
    → AllByRecursion (StoreFactHolds store) (facts ++ fact ∷ [])
one_more store [] fact all is = (is, tt)
one_more store (first ∷ facts) fact all is = (all.0, one_more store facts fact all.1 is)

-- what is left so far holds behind the act, and what comes still holds before it
abbrev pub IsUnderWay : Act → Elem → List Fact → List Fact → Type 0
IsUnderWay a elem left rest =
    (cells : List Cell) (old new : List ℤ) → StoreHolds old elem → StepsStore cells a old new
    → AllByRecursion (StoreFactHolds new) left × AllByRecursion (StoreFactHolds old) rest

pub goes_on : (a : Act) (elem : Elem) (left last rest : List Fact) (fact : Fact)
    → IsUnderWay a elem left last → last ≡ fact ∷ rest → IsUnderWay a elem left rest
goes_on a elem left last rest fact under is cells old new holds step =
    let both = under cells old new holds step in
    (both.0, (subst (AllByRecursion (StoreFactHolds old)) is both.1).1)

pub takes_in : (a : Act) (elem : Elem) (left last rest : List Fact) (fact : Fact)
    → IsUnderWay a elem left last → last ≡ fact ∷ rest → Stands a fact
    → IsUnderWay a elem (left ++ fact ∷ []) rest
takes_in a elem left last rest fact under is stands cells old new holds step =
    let both = under cells old new holds step in
    let here = subst (AllByRecursion (StoreFactHolds old)) is both.1 in
    (one_more new left fact both.0 (stands cells old new here.0 step), here.1)

-- the truth of a test holds behind it
pub test_holds : (e : Expr) (holds : Bool) (facts : List Fact) → facts ≡ Truth e holds ∷ []
    → AreTested (act.Assume e holds) facts
test_holds e holds facts is cells old new step =
    subst (AllByRecursion (StoreFactHolds new)) (sym is)
    (subst (λ s. HasTruth s e holds) (sym step.1) step.0, tt)

both_truths : (o : Option ℤ) (holds : Bool) → IsSomeAnd o (λ v. is_nonzero v ≡ holds)
    → IsSomeAnd o (λ v. is_nonzero v ≡ not holds) → ⊥
both_truths None holds one other = one
both_truths (Some v) true one other = absurd (cc)
both_truths (Some v) false one other = absurd (cc)

-- an element that says the other truth of the test
pub barred : (e : Expr) (holds : Bool) (elem : Elem)
    → list_any (same_fact (Truth e (not holds))) elem.facts ≡ true
    → IsBarred (act.Assume e holds) elem
barred e holds elem is cells old new has step =
    both_truths (value_of e old) holds step.0
    (same_holds old (Truth e (not holds)) elem.facts is has)
