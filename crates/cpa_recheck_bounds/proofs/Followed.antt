-- The bounds that an element's facts leave have the values of each store on which it holds.
use Rattle.std.proofs.Common.{◌≡◌, ℕ, ℤ, ◌≤ℤ◌, Bool, true, false, List, [], ◌∷◌, map, refl, sym}
use Rattle.std.proofs.Common.{subst}
use Rattle.std.proofs.Common.{arith}
use Rattle.std.specs.Prelude.{Option, None, Some, slice_get, IsSomeAnd, if◌then◌else◌}
use Rattle.std.specs.Prelude.{IfSome}
use Rattle.std.specs.List.{AllByRecursion}
use Rattle.std.proofs.lemmas.Int.{ints}
use Rattle.std.proofs.lemmas.Bool.Decides.{Decides-int_eq}
use Rattle.cpa_expr.specs.declared.tree.CmpOp.TheVariants as cmp
use Rattle.cpa_ints.specs.declared.integers.IntType.{IntType}
use Rattle.cpa_expr.specs.Cells.{AreValues}
use Rattle.cpa_model.specs.declared.program.Cell.{Cell}
use Rattle.cpa_facts.specs.declared.fact.Fact.{Fact}
use Rattle.cpa_facts.specs.declared.fact.Fact.TheVariants.{At, Stack, Equals, Within, Truth}
use Rattle.cpa_model.specs.declared.facts.Elem.{Elem}
use Rattle.cpa_model.specs.declared.automaton.Act.{Act}
use Rattle.cpa_model.specs.declared.automaton.Act.TheVariants.{Skip, Assign, Assume, Input, Call}
use Rattle.cpa_model.specs.declared.automaton.Act.TheVariants.{Return}
use Rattle.cpa_model.specs.declared.automaton.Cfa.{Cfa}
use Rattle.cpa_model.specs.Acts.{IsActOf}
use Rattle.cpa_model.specs.Expressions.{types_of}
use Rattle.cpa_model.specs.Facts.{IsFact, IsElem}
use Rattle.cpa_model.specs.Steps.{StepsStore}
use Rattle.cpa_form_rules.specs.Runs.{StoreFactHolds, StoreHolds}
use Rattle.cpa_interval_bounds.specs.declared.bounds.Bounds.{Bounds}
use Rattle.cpa_interval_bounds.specs.Bounds.{Has, bounds, only}
use Rattle.cpa_interval_bounds.specs.ExpressionBounds.{AreOf, LieWithin}
use Rattle.cpa_interval_acts.specs.Acts.{after_act}
use Rattle.cpa_interval_acts.specs.Cells.{ranges_of}
use Rattle.cpa_interval_acts.specs.Laws.{BoundsFollowActs}
use Rattle.cpa_interval_acts.specs.lemmas.CutLemmas.{Lies, Are, lies_then, are_then, cut_lies}
use Rattle.cpa_interval_acts.specs.lemmas.CutLemmas.{cut_are}
use Rattle.cpa_interval_acts.specs.lemmas.ZipLemmas.{ranges_are, ranges_lie}
use Rattle.cpa_folds.specs.declared.scalars.Scalar.{Scalar}
use Rattle.cpa_folds.specs.Scalars.{read_of}
use Rattle.cpa_folds.specs.lemmas.ScalarReads.{StaysInRange, read_value}
use Rattle.cpa_expr.specs.declared.tree.Expr.{out-Expr}
use Rattle.cpa_expr.specs.Values.{compares, is_nonzero, value_of}
use Rattle.std.specs.Ordering.{int_eq}
use Rattle.std.proofs.Common.{not, pos}
use Rattle.cpa_recheck_bounds.specs.declared.exact.Written.{Written}
use Rattle.cpa_recheck_bounds.specs.Cutting.{cut_by, cut_by_all, cut_by_test, cut_scalar, stepped}
use Rattle.cpa_recheck_bounds.specs.Cutting.{tested}
use Rattle.cpa_recheck_bounds.specs.Exact.{HasIfThere, cut_written, lows_of}
use Rattle.cpa_recheck_bounds.proofs.Exactly.{written_lies}
use Rattle.cpa_recheck_bounds.specs.Saying.{AreFoundBehind, AreSaid}
use Rattle.cpa_recheck_bounds.specs.Standing.{AreLeft}

some_bound : (lo hi : ℤ) (o : Option ℤ) → IsSomeAnd o (λ v. (lo ≤ℤ v) × (v ≤ℤ hi))
    → (v : ℤ) × (o ≡ Some v) × Has (bounds lo hi) v
some_bound lo hi None h = absurd h
some_bound lo hi (Some v) h = (v, refl, record { low = h.0; high = h.1 })

cut_by_lies : (store : List ℤ) (fact : Fact) (all : List Bounds) → StoreFactHolds store fact
    → LieWithin all store → Lies store (cut_by fact all)
cut_by_lies store (Equals cell v) all holds lie =
    cut_lies cmp.Eq cell (only v) all store v v lie holds
    (record { low = omega (arith, ints); high = omega (arith, ints) }) ((Decides-int_eq v v).1 refl)
cut_by_lies store (Within cell lo hi) all holds lie =
    let it = some_bound lo hi (slice_get store cell) holds in
    cut_lies cmp.Eq cell (bounds lo hi) all store it.0 it.0 lie it.1 it.2
    ((Decides-int_eq it.0 it.0).1 refl)
cut_by_lies store (At p) all holds lie = lie
cut_by_lies store (Stack sites) all holds lie = lie
cut_by_lies store (Truth e h) all holds lie = lie

cut_by_are : (cells : List Cell) (points : ℕ) (fact : Fact) (all : List Bounds)
    → IsFact cells points fact → AreOf (types_of cells) all
    → Are (types_of cells) (cut_by fact all)
cut_by_are cells points (Equals cell v) all is are =
    cut_are (types_of cells) cmp.Eq cell (only v) all are (omega (arith, ints))
cut_by_are cells points (Within cell lo hi) all is are =
    cut_are (types_of cells) cmp.Eq cell (bounds lo hi) all are is.2
cut_by_are cells points (At p) all is are = are
cut_by_are cells points (Stack sites) all is are = are
cut_by_are cells points (Truth e h) all is are = are

all_lie : (store : List ℤ) (facts : List Fact) (all : List Bounds)
    → AllByRecursion (StoreFactHolds store) facts → LieWithin all store
    → Lies store (cut_by_all facts all)
all_lie store [] all holds lie = lie
all_lie store (fact ∷ facts) all holds lie =
    lies_then store (cut_by fact all) (cut_by_all facts) (cut_by_lies store fact all holds.0 lie)
    (λ left lies. all_lie store facts left holds.1 lies)

all_are : (cells : List Cell) (points : ℕ) (facts : List Fact) (all : List Bounds)
    → AllByRecursion (IsFact cells points) facts → AreOf (types_of cells) all
    → Are (types_of cells) (cut_by_all facts all)
all_are cells points [] all is are = are
all_are cells points (fact ∷ facts) all is are =
    are_then (types_of cells) (cut_by fact all) (cut_by_all facts)
    (cut_by_are cells points fact all is.0 are)
    (λ left of. all_are cells points facts left is.1 of)

-- what a call leaves in place, where it says whether something is left
some_left : (done : Bool) (left : List Bounds) (o : Option (List Bounds)) (store : List ℤ)
    → (if done then Some left else None) ≡ o → Lies store o
    → (done ≡ true) × LieWithin left store
some_left true left o store is lies = (refl, subst (Lies store) (sym is) lies)
some_left false left o store is lies = absurd (subst (Lies store) (sym is) lies)

-- ---- a test that reads a scalar

zero_then : (v : ℤ) → is_nonzero v ≡ false → compares cmp.Eq v (pos 0) ≡ true
zero_then v is = by (int_eq v (pos 0)) is
  where
    by : (b : Bool) → not b ≡ false → b ≡ true
    by true h = refl
    by false h = absurd (cc)

scalar_lies : (store : List ℤ) (holds : Bool) (read : Scalar) (all : List Bounds) (v : ℤ)
    → slice_get store read.cell ≡ Some v → is_nonzero v ≡ holds → LieWithin all store
    → Lies store (cut_scalar holds (Some read) all)
scalar_lies store true read all v at is lie =
    cut_lies cmp.Ne read.cell (only (pos 0)) all store v (pos 0) lie at
    (record { low = omega (arith, ints); high = omega (arith, ints) }) is
scalar_lies store false read all v at is lie =
    cut_lies cmp.Eq read.cell (only (pos 0)) all store v (pos 0) lie at
    (record { low = omega (arith, ints); high = omega (arith, ints) }) (zero_then v is)

scalar_are : (ts : List IntType) (holds : Bool) (o : Option Scalar) (all : List Bounds)
    → AreOf ts all → Are ts (cut_scalar holds o all)
scalar_are ts true None all are = are
scalar_are ts false None all are = are
scalar_are ts true (Some read) all are =
    cut_are ts cmp.Ne read.cell (only (pos 0)) all are (omega (arith, ints))
scalar_are ts false (Some read) all are =
    cut_are ts cmp.Eq read.cell (only (pos 0)) all are (omega (arith, ints))

truth_at : (o p : Option ℤ) (holds : Bool) → o ≡ p → IsSomeAnd o (λ a. is_nonzero a ≡ holds)
    → (v : ℤ) × (p ≡ Some v) × (is_nonzero v ≡ holds)
truth_at None p holds same h = absurd h
truth_at (Some a) p holds same h = (a, sym same, h)

test_lies : (stays : StaysInRange) (cfa : Cfa) (store new : List ℤ) (a : Act) (all : List Bounds)
    → IsActOf cfa a → AreValues (types_of cfa.cells) store → StepsStore cfa.cells a store new
    → LieWithin all store → Lies store (cut_by_test a all)
test_lies stays cfa store new (Assume test holds) all sound values steps lie =
    by (read_of (out-Expr test)) refl
  where
    by : (o : Option Scalar) → read_of (out-Expr test) ≡ o → Lies store (cut_scalar holds o all)
    by None is = none holds
      where
        none : (h : Bool) → Lies store (cut_scalar h None all)
        none true = lie
        none false = lie
    by (Some read) is =
        let scalar = read_value stays (types_of cfa.cells) store test read values sound.typed is in
        let found = truth_at (value_of test store) (slice_get store read.cell) holds scalar.value_is
        steps.0 in
        scalar_lies store holds read all found.0 found.1 found.2 lie
test_lies stays cfa store new Skip all sound values steps lie = lie
test_lies stays cfa store new (Assign base len index value) all sound values steps lie = lie
test_lies stays cfa store new (Input cell) all sound values steps lie = lie
test_lies stays cfa store new (Call site) all sound values steps lie = lie
test_lies stays cfa store new (Return site) all sound values steps lie = lie

test_are : (ts : List IntType) (a : Act) (all : List Bounds) → AreOf ts all
    → Are ts (cut_by_test a all)
test_are ts (Assume test holds) all are = scalar_are ts holds (read_of (out-Expr test)) all are
test_are ts Skip all are = are
test_are ts (Assign base len index value) all are = are
test_are ts (Input cell) all are = are
test_are ts (Call site) all are = are
test_are ts (Return site) all are = are

-- ---- behind the act

module _ (stays : StaysInRange) (cfa : Cfa) (elem : Elem) (act : Act) (first mid : List Bounds)
    (known : Bool) (sound : IsActOf cfa act) (shaped : IsElem cfa.cells cfa.points elem)
    (begins : first ≡ ranges_of cfa.cells)
    (knows : (if known then Some mid else None) ≡ tested elem.facts act first) (old new : List ℤ)
    (values : AreValues (types_of cfa.cells) old) (holds : StoreHolds old elem)
    (steps : StepsStore cfa.cells act old new) where
  tested_lies : Lies old (tested elem.facts act first)
  tested_lies =
      lies_then old (cut_by_all elem.facts first) (cut_by_test act)
      (all_lie old elem.facts first holds
      (subst (λ l. LieWithin l old) (sym begins) (ranges_lie cfa.cells old values)))
      (λ left lie. test_lies stays cfa old new act left sound values steps lie)

  tested_are : Are (types_of cfa.cells) (tested elem.facts act first)
  tested_are =
      are_then (types_of cfa.cells) (cut_by_all elem.facts first) (cut_by_test act)
      (all_are cfa.cells cfa.points elem.facts first shaped
      (subst (AreOf (types_of cfa.cells)) (sym begins) (ranges_are cfa.cells)))
      (λ left are. test_are (types_of cfa.cells) act left are)

  mid_is : (known ≡ true) × LieWithin mid old
  mid_is = some_left known mid (tested elem.facts act first) old knows tested_lies

  of_left : (b : Bool) → (if b then Some mid else None) ≡ tested elem.facts act first
      → b ≡ true → AreOf (types_of cfa.cells) mid
  of_left true is there = subst (Are (types_of cfa.cells)) (sym is) tested_are
  of_left false is there = absurd (cc)

  mid_are : AreOf (types_of cfa.cells) mid
  mid_are = of_left known knows mid_is.0

  stepped_lies : (law : BoundsFollowActs) (written : Option Written)
      → IfSome written (HasIfThere new) → Lies new (stepped cfa.cells act written mid)
  stepped_lies law written has =
      lies_then new (after_act cfa.cells act mid) (cut_written written)
      (law.lie cfa act mid old new sound mid_are mid_is.1 steps)
      (λ left lie. written_lies new written left has lie)

-- where the facts and the test leave no bounds, the act leads nowhere
pub none_known : (stays : StaysInRange) (cfa : Cfa) (elem : Elem) (act : Act)
    (first mid : List Bounds) (others : List Elem) (known : Bool) → IsActOf cfa act
    → IsElem cfa.cells cfa.points elem → first ≡ ranges_of cfa.cells
    → (if known then Some mid else None) ≡ tested elem.facts act first → known ≡ false
    → AreFoundBehind cfa elem act others
none_known stays cfa elem act first mid others known sound shaped begins knows none old new values
    holds steps fail =
    let is = (mid_is stays cfa elem act first mid known sound shaped begins knows old new values
    holds steps).0 in
    absurd (cc)

-- where the test does not come out so on any store within the bounds, the act leads nowhere
pub refuted : (stays : StaysInRange) (cfa : Cfa) (elem : Elem) (act : Act) (first mid : List Bounds)
    (others : List Elem) (lows : List ℤ) (known refutes : Bool) → IsActOf cfa act
    → IsElem cfa.cells cfa.points elem → first ≡ ranges_of cfa.cells
    → (if known then Some mid else None) ≡ tested elem.facts act first
    → ((cells : List Cell) (old new : List ℤ) → LieWithin mid old → lows ≡ lows_of mid
    → StepsStore cells act old new → refutes ≡ false)
    → lows ≡ lows_of mid → refutes ≡ true → AreFoundBehind cfa elem act others
refuted stays cfa elem act first mid others lows known refutes sound shaped begins knows never are
    is old new values holds steps fail =
    let lie = (mid_is stays cfa elem act first mid known sound shaped begins knows old new values
    holds steps).1 in
    let not_so = never cfa.cells old new lie are steps in
    absurd (cc)

-- what is said behind the act is found there; where no bounds are left, the act leads nowhere
pub found : (law : BoundsFollowActs) (stays : StaysInRange) (cfa : Cfa) (elem : Elem) (act : Act)
    (first mid last : List Bounds) (left : Elem) (others : List Elem) (written : Option Written)
    (lows : List ℤ) (known done : Bool) → IsActOf cfa act → IsElem cfa.cells cfa.points elem
    → first ≡ ranges_of cfa.cells
    → (if known then Some mid else None) ≡ tested elem.facts act first
    → ((cells : List Cell) (old new : List ℤ) → LieWithin mid old → lows ≡ lows_of mid
    → StepsStore cells act old new → IfSome written (HasIfThere new))
    → lows ≡ lows_of mid
    → (if done then Some last else None) ≡ stepped cfa.cells act written mid
    → (done ≡ true → AreLeft act elem left × AreSaid last left others)
    → AreFoundBehind cfa elem act others
found law stays cfa elem act first mid last left others written lows known done sound shaped begins
    knows writes are is said old new values holds steps fail =
    let lie = (mid_is stays cfa elem act first mid known sound shaped begins knows old new values
    holds steps).1 in
    let there = some_left done last (stepped cfa.cells act written mid) new is
    (stepped_lies stays cfa elem act first mid known sound shaped begins knows old new values holds
    steps law written (writes cfa.cells old new lie are steps)) in
    let it = said there.0 in
    it.1 new there.1 (it.0 cfa.cells old new holds steps) fail

-- the bounds of the starts have them
pub starts_lie : (cells : List Cell)
    → LieWithin (map (λ (c : Cell). only c.start) cells) (map (λ (c : Cell). c.start) cells)
starts_lie [] = tt
starts_lie (c ∷ cells) =
    (record { low = omega (arith, ints); high = omega (arith, ints) }, starts_lie cells)
