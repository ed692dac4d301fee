-- That the analysis keeps the laws.
use Rattle.std.proofs.Common.{◌≡◌, ℕ, ◌≤◌, ℤ, ◌≤ℤ◌, Bool, true, false, List, [], ◌∷◌}
use Rattle.std.proofs.Common.{refl, sym, ap, ◌∙◌, subst, arith, cond, length, map, inl}
use Rattle.std.specs.Prelude.{Option, None, Some, slice_get, IfSome, IsSomeAnd, option_map}
use Rattle.std.specs.List.{AllByRecursion, list_any}
use Rattle.std.proofs.lemmas.Int.{ints}
use Rattle.std.proofs.lemmas.Bool.Decides.{Decides-int_eq}
use Rattle.cpa_ints.specs.declared.integers.IntType.{IntType}
use Rattle.cpa_ints.specs.Integers.{IsInRange}
use Rattle.cpa_expr.specs.declared.tree.CmpOp.TheVariants as cmp
use Rattle.cpa_model.specs.declared.program.Cell.{Cell}
use Rattle.cpa_facts.specs.declared.fact.Fact.{Fact}
use Rattle.cpa_facts.specs.declared.fact.Fact.TheVariants.{At, Stack, Equals, Within, Truth}
use Rattle.cpa_model.specs.declared.facts.Elem.{Elem}
use Rattle.cpa_model.specs.declared.states.State.{State}
use Rattle.cpa_model.specs.declared.automaton.Edge.{Edge}
use Rattle.cpa_model.specs.declared.automaton.Cfa.{Cfa}
use Rattle.cpa_model.specs.Acts.{IsEdgeOf}
use Rattle.cpa_model.specs.Automata.{StepsAlong, IsAutomaton, IsStateOf, initial_state}
use Rattle.cpa_model.specs.Expressions.{types_of}
use Rattle.cpa_model.specs.Facts.{FactHolds, Holds, LiesIn, IsFact}
use Rattle.cpa_iface.specs.declared.merging.MergeRule.{MergeRule}
use Rattle.cpa_iface.specs.declared.merging.MergeRule.TheVariants.{Sep, Join, Widen}
use Rattle.cpa_iface.specs.declared.precisions.Precision.{Precision}
use Rattle.cpa_iface.specs.lemmas.CommonLaws.{own-laws}
use Rattle.cpa_iface.specs.Laws.{InitialLaws, TransferLaws, StrengthenLaws, MergeLaws, SomeHolds}
use Rattle.cpa_iface.specs.Laws.{CoversEdge, IsBounded}
use Rattle.cpa_iface.specs.Meanings.{IsShaped, AreShaped}
use Rattle.cpa_folds.specs.Tracking.{is_tracked}
use Rattle.cpa_folds.specs.lemmas.ScalarReads.{StaysInRange}
use Rattle.cpa_interval_bounds.specs.declared.bounds.Bounds.{Bounds}
use Rattle.cpa_interval_bounds.specs.Bounds.{Has, bounds, only}
use Rattle.cpa_interval_bounds.specs.ExpressionBounds.{AreOf, LieWithin}
use Rattle.cpa_interval_bounds.specs.lemmas.Ranges.{only-is}
use Rattle.cpa_interval.specs.Numbers.{near}
use Rattle.cpa_interval.specs.Steps.{distinct}
use Rattle.cpa_interval_acts.specs.Acts.{after_act}
use Rattle.cpa_interval.specs.Cells.{cell_bounds, elem_of, elem_of_all}
use Rattle.cpa_interval.specs.Covers.{covers}
use Rattle.cpa_interval_acts.specs.Cuts.{cut_cell}
use Rattle.cpa_interval.specs.Intervals.{intervals, starts_of}
use Rattle.cpa_interval.specs.Merging.{merged, merged_all, merged_along, is_kept, numbers_for}
use Rattle.cpa_interval.specs.Ranks.{height, rank_along}
use Rattle.cpa_interval.specs.Strengthening.{has_bound, met_cell, met, met_facts, met_elems}
use Rattle.cpa_interval.specs.Strengthening.{strengthened}
use Rattle.cpa_interval.specs.Transfer.{elems_of, next_intervals}
use Rattle.cpa_interval.specs.lemmas.CoverLaws.{covers-within}
use Rattle.cpa_interval_acts.specs.lemmas.ZipLemmas.{as_many, types_length}
use Rattle.cpa_interval.proofs.CellLemmas.{cells_lie, cells_are}
use Rattle.cpa_interval.proofs.ElemLemmas.{facts_hold, facts_shaped, rank_few, kept_bounds}
use Rattle.cpa_interval.proofs.ElemLemmas.{kept_facts, kept_length}
use Rattle.cpa_interval_acts.specs.lemmas.CutLemmas.{Lies, Are, lies_then, are_then, cut_lies}
use Rattle.cpa_interval_acts.specs.lemmas.CutLemmas.{cut_are}
use Rattle.cpa_interval_acts.specs.lemmas.ActLemmas.{act_lies, act_are}
use Rattle.cpa_interval.proofs.MergeLemmas.{merged_are, merged_lies, widened_hold, covered_all}
use Rattle.cpa_interval.proofs.MergeLemmas.{rank_falls}

-- each cell of the types has bounds
long : (cfa : Cfa) (bs : List Bounds) → AreOf (types_of cfa.cells) bs
    → length bs ≡ length cfa.cells
long cfa bs are = as_many (types_of cfa.cells) bs are ∙ types_length cfa.cells

-- the element of bounds has no more steps than the height
bounded_all : (cfa : Cfa) (p : Precision) (bs : List Bounds) → AreOf (types_of cfa.cells) bs
    → IsBounded intervals cfa (elem_of_all cfa.cells bs) p
bounded_all cfa p bs are = rank_few (distinct (near cfa)) cfa.cells bs (long cfa bs are)

bounded_of : (cfa : Cfa) (p : Precision) (kept : ℕ → Bool) (bs : List Bounds)
    → AreOf (types_of cfa.cells) bs → IsBounded intervals cfa (elem_of kept cfa.cells bs) p
bounded_of cfa p kept bs are =
    subst (λ fs. rank_along (distinct (near cfa)) cfa.cells fs ≤ height cfa p)
    (sym (kept_facts kept 0 cfa.cells bs))
    (rank_few (distinct (near cfa)) cfa.cells (kept_bounds kept 0 cfa.cells bs)
    (kept_length kept 0 cfa.cells bs (long cfa bs are)))

-- ---- the first element

starts_are : (cs : List Cell) → AllByRecursion (λ c. IsInRange c.ty c.start) cs
    → AreOf (types_of cs) (map (λ c. only c.start) cs)
starts_are [] all = tt
starts_are (c ∷ cs) all = (only-is c.ty c.start all.0.0 all.0.1, starts_are cs all.1)

starts_lie : (cs : List Cell) → LieWithin (map (λ c. only c.start) cs) (map (λ c. c.start) cs)
starts_lie [] = tt
starts_lie (c ∷ cs) =
    (record { low = omega (arith, ints); high = omega (arith, ints) }, starts_lie cs)

starts_in_range : (cfa : Cfa) → IsAutomaton cfa
    → AllByRecursion (λ c. IsInRange c.ty c.start) cfa.cells
starts_in_range cfa a = subst (AllByRecursion (λ c. IsInRange c.ty c.start))
    (sym a.automaton.cells) a.well_formed.starts

-- the laws of the first element
pub starts-laws : (cfa : Cfa) → IsAutomaton cfa → InitialLaws intervals cfa (starts_of cfa.cells)
starts-laws cfa a =
    let firsts = map (λ (c : Cell). only c.start) cfa.cells in
    let are = starts_are cfa.cells (starts_in_range cfa a) in
    record {
      shaped = facts_shaped cfa.cells cfa.points (λ _. true) firsts are;
      holds = facts_hold (initial_state cfa) (λ _. true) cfa.cells firsts (starts_lie cfa.cells);
      exact = λ other. absurd (other refl);
      bounded = λ p _. bounded_all cfa p firsts are;
      told = refl;
    }

-- ---- transfer

some_elem : (t : State) (kept : ℕ → Bool) (cs : List Cell) (o : Option (List Bounds))
    → Lies t.store.values o → SomeHolds t (elems_of kept cs o)
some_elem t kept cs None lies = absurd lies
some_elem t kept cs (Some after) lies = inl (facts_hold t kept cs after lies)

all_elems : (P : Elem → Type 0) (ts : List IntType) (kept : ℕ → Bool) (cs : List Cell)
    (o : Option (List Bounds)) → Are ts o
    → ((bs : List Bounds) → AreOf ts bs → P (elem_of kept cs bs))
    → AllByRecursion P (elems_of kept cs o)
all_elems P ts kept cs None are each = tt
all_elems P ts kept cs (Some after) are each = (each after are, tt)

same_edge : (cfa : Cfa) (edge : ℕ) (g h : Edge) → slice_get cfa.edges edge ≡ Some g
    → slice_get cfa.edges edge ≡ Some h → g ≡ h
same_edge cfa edge g h p q = cc

covered : (stays : StaysInRange) (cfa : Cfa) (edge : ℕ) (e : Elem) (p : Precision) (g : Edge)
    → IsEdgeOf cfa g → IsShaped cfa e → slice_get cfa.edges edge ≡ Some g
    → CoversEdge cfa edge e (next_intervals cfa p e g)
covered stays cfa edge e p g sound shaped at h s t ath holds along =
    let bs = cell_bounds cfa.cells e.facts in
    let same = same_edge cfa edge h g ath at in
    let moves = subst (λ x. StepsAlong cfa x s t) same along in
    some_elem t (is_tracked p) cfa.cells (after_act cfa.cells g.act bs)
    (act_lies stays cfa g.act bs s.store.values t.store.values sound.act
    (cells_are cfa.cells cfa.points e.facts shaped)
    (cells_lie cfa.cells s e.facts holds moves.before.store) moves.store)

-- the laws of transfer
pub next_intervals-laws : (stays : StaysInRange) (cfa : Cfa) (edge : ℕ) (e : Elem) (p : Precision)
    (g : Edge) → IsEdgeOf cfa g → IsShaped cfa e → slice_get cfa.edges edge ≡ Some g
    → TransferLaws intervals cfa edge e p (next_intervals cfa p e g)
next_intervals-laws stays cfa edge e p g sound shaped at =
    let bs = cell_bounds cfa.cells e.facts in
    let o = after_act cfa.cells g.act bs in
    let are = act_are cfa g.act bs sound.act (cells_are cfa.cells cfa.points e.facts shaped) in
    record {
      shaped = all_elems (IsShaped cfa) (types_of cfa.cells) (is_tracked p) cfa.cells o are
          (λ after of. facts_shaped cfa.cells cfa.points (is_tracked p) after of);
      covers = covered stays cfa edge e p g sound shaped at;
      exact = λ none. absurd none;
      bounded = λ _. all_elems (λ x. IsBounded intervals cfa x p) (types_of cfa.cells)
          (is_tracked p) cfa.cells o are (λ after of. bounded_of cfa p (is_tracked p) after of);
      told = λ h ath. ap (next_intervals cfa p e) (same_edge cfa edge g h at ath);
    }

-- ---- strengthening

some_bound : (vs : List ℤ) (cell : ℕ) (lo hi : ℤ) (o : Option ℤ)
    → IsSomeAnd o (λ v. (lo ≤ℤ v) × (v ≤ℤ hi)) → (v : ℤ) × (o ≡ Some v) × Has (bounds lo hi) v
some_bound vs cell lo hi None h = absurd h
some_bound vs cell lo hi (Some v) h = (v, refl, record { low = h.0; high = h.1 })

met_cell_lies : (tracked : ℕ → Bool) (cell : ℕ) (other : Bounds) (bs : List Bounds) (vs : List ℤ)
    (v : ℤ) → LieWithin bs vs → slice_get vs cell ≡ Some v → Has other v
    → Lies vs (met_cell tracked cell other bs)
met_cell_lies tracked cell other bs vs v all at within = by (tracked cell) where
  by : (x : Bool) → Lies vs (cond x (cut_cell cmp.Eq cell other bs) (Some bs))
  by true =
      cut_lies cmp.Eq cell other bs vs v v all at within ((Decides-int_eq v v).1 refl)
  by false = all

met_cell_are : (ts : List IntType) (tracked : ℕ → Bool) (cell : ℕ) (other : Bounds)
    (bs : List Bounds) → AreOf ts bs → other.lo ≤ℤ other.hi
    → Are ts (met_cell tracked cell other bs)
met_cell_are ts tracked cell other bs all order = by (tracked cell) where
  by : (x : Bool) → Are ts (cond x (cut_cell cmp.Eq cell other bs) (Some bs))
  by true = cut_are ts cmp.Eq cell other bs all order
  by false = all

met_lies : (s : State) (tracked : ℕ → Bool) (f : Fact) (bs : List Bounds) → FactHolds s f
    → LieWithin bs s.store.values → Lies s.store.values (met tracked f bs)
met_lies s tracked (Equals cell v) bs holds all =
    met_cell_lies tracked cell (only v) bs s.store.values v all holds
    (record { low = omega (arith, ints); high = omega (arith, ints) })
met_lies s tracked (Within cell lo hi) bs holds all =
    let it = some_bound s.store.values cell lo hi (slice_get s.store.values cell) holds in
    met_cell_lies tracked cell (bounds lo hi) bs s.store.values it.0 all it.1 it.2
met_lies s tracked (At p) bs holds all = all
met_lies s tracked (Stack sites) bs holds all = all
met_lies s tracked (Truth e h) bs holds all = all

met_are : (cs : List Cell) (points : ℕ) (tracked : ℕ → Bool) (f : Fact) (bs : List Bounds)
    → IsFact cs points f → AreOf (types_of cs) bs → Are (types_of cs) (met tracked f bs)
met_are cs points tracked (Equals cell v) bs is all =
    met_cell_are (types_of cs) tracked cell (only v) bs all (omega (arith, ints))
met_are cs points tracked (Within cell lo hi) bs is all =
    met_cell_are (types_of cs) tracked cell (bounds lo hi) bs all is.2
met_are cs points tracked (At p) bs is all = all
met_are cs points tracked (Stack sites) bs is all = all
met_are cs points tracked (Truth e h) bs is all = all

facts_lie : (s : State) (tracked : ℕ → Bool) (fs : List Fact) (bs : List Bounds)
    → AllByRecursion (FactHolds s) fs → LieWithin bs s.store.values
    → Lies s.store.values (met_facts tracked fs bs)
facts_lie s tracked [] bs holds all = all
facts_lie s tracked (f ∷ fs) bs holds all =
    lies_then s.store.values (met tracked f bs) (met_facts tracked fs)
    (met_lies s tracked f bs holds.0 all)
    (λ after lies. facts_lie s tracked fs after holds.1 lies)

facts_are : (cs : List Cell) (points : ℕ) (tracked : ℕ → Bool) (fs : List Fact) (bs : List Bounds)
    → AllByRecursion (IsFact cs points) fs → AreOf (types_of cs) bs
    → Are (types_of cs) (met_facts tracked fs bs)
facts_are cs points tracked [] bs is all = all
facts_are cs points tracked (f ∷ fs) bs is all =
    are_then (types_of cs) (met tracked f bs) (met_facts tracked fs)
    (met_are cs points tracked f bs is.0 all)
    (λ after are. facts_are cs points tracked fs after is.1 are)

elems_lie : (s : State) (tracked : ℕ → Bool) (es : List Elem) (bs : List Bounds) → LiesIn s es
    → LieWithin bs s.store.values → Lies s.store.values (met_elems tracked es bs)
elems_lie s tracked [] bs holds all = all
elems_lie s tracked (e ∷ es) bs holds all =
    lies_then s.store.values (met_facts tracked e.facts bs) (met_elems tracked es)
    (facts_lie s tracked e.facts bs holds.0 all)
    (λ after lies. elems_lie s tracked es after holds.1 lies)

elems_are : (cfa : Cfa) (tracked : ℕ → Bool) (es : List Elem) (bs : List Bounds)
    → AreShaped cfa es → AreOf (types_of cfa.cells) bs
    → Are (types_of cfa.cells) (met_elems tracked es bs)
elems_are cfa tracked [] bs is all = all
elems_are cfa tracked (e ∷ es) bs is all =
    are_then (types_of cfa.cells) (met_facts tracked e.facts bs) (met_elems tracked es)
    (facts_are cfa.cells cfa.points tracked e.facts bs is.0 all)
    (λ after are. elems_are cfa tracked es after is.1 are)

some_left : (cs : List Cell) (s : State) (o : Option (List Bounds)) → Lies s.store.values o
    → IsSomeAnd (option_map (elem_of_all cs) o) (λ e. Holds e s)
some_left cs s None lies = absurd lies
some_left cs s (Some bs) lies = facts_hold s (λ _. true) cs bs lies

each_left : (P : Elem → Type 0) (ts : List IntType) (cs : List Cell) (o : Option (List Bounds))
    → Are ts o → ((bs : List Bounds) → AreOf ts bs → P (elem_of_all cs bs))
    → IfSome (option_map (elem_of_all cs) o) P
each_left P ts cs None are each = tt
each_left P ts cs (Some bs) are each = each bs are

met-laws : (cfa : Cfa) (own : Elem) (others : List Elem) (p : Precision) → IsShaped cfa own
    → AreShaped cfa others
    → option_map (elem_of_all cfa.cells)
    (met_elems (is_tracked p) others (cell_bounds cfa.cells own.facts))
    ≡ strengthened cfa.cells p own others
    → StrengthenLaws intervals cfa own others p (option_map (elem_of_all cfa.cells)
    (met_elems (is_tracked p) others (cell_bounds cfa.cells own.facts)))
met-laws cfa own others p shaped all told =
    let bs = cell_bounds cfa.cells own.facts in
    let o = met_elems (is_tracked p) others bs in
    let types = types_of cfa.cells in
    let are = elems_are cfa (is_tracked p) others bs all
    (cells_are cfa.cells cfa.points own.facts shaped) in
    record {
      shaped = each_left (IsShaped cfa) types cfa.cells o are
          (λ after of. facts_shaped cfa.cells cfa.points (λ _. true) after of);
      keeps = λ s state holds lies. some_left cfa.cells s o
          (elems_lie s (is_tracked p) others bs lies
          (cells_lie cfa.cells s own.facts holds state.store));
      exact = λ none. absurd none;
      bounded = λ _. each_left (λ e. IsBounded intervals cfa e p) types cfa.cells o are
          (λ after of. bounded_all cfa p after of);
      told = told;
    }

-- the laws of strengthening
pub strengthened-laws : (cfa : Cfa) (own : Elem) (others : List Elem) (p : Precision)
    → IsShaped cfa own → AreShaped cfa others
    → StrengthenLaws intervals cfa own others p (strengthened cfa.cells p own others)
strengthened-laws cfa own others p shaped all = by (list_any has_bound others) refl where
  by : (x : Bool) → list_any has_bound others ≡ x
      → StrengthenLaws intervals cfa own others p
      (cond x (option_map (elem_of_all cfa.cells)
      (met_elems (is_tracked p) others (cell_bounds cfa.cells own.facts))) (Some own))
  by true is =
      met-laws cfa own others p shaped all
      (ap (λ b. cond b (option_map (elem_of_all cfa.cells)
      (met_elems (is_tracked p) others (cell_bounds cfa.cells own.facts))) (Some own)) (sym is))
  by false is =
      own-laws intervals cfa own others p
      (ap (λ b. cond b (option_map (elem_of_all cfa.cells)
      (met_elems (is_tracked p) others (cell_bounds cfa.cells own.facts))) (Some own)) (sym is))
      shaped

-- ---- merging

kept-laws : (cfa : Cfa) (rule : MergeRule) (new old : Elem) (p : Precision) → IsShaped cfa old
    → is_kept rule new old ≡ true → old ≡ merged cfa rule new old
    → MergeLaws intervals cfa rule new old p old
kept-laws cfa Sep new old p shaped kept told = record {
  shaped = shaped;
  covers_old = λ s _ holds. holds;
  sep = λ _. refl;
  covers_new = λ e. absurd (cc);
  covered = λ e. absurd (cc);
  falls = λ e. absurd (cc);
  bounded = λ _ below. below;
  told = told;
}
kept-laws cfa Join new old p shaped kept told = record {
  shaped = shaped;
  covers_old = λ s _ holds. holds;
  sep = λ e. absurd (cc);
  covers_new = λ e. absurd (cc);
  covered = λ e. absurd (cc);
  falls = λ e. absurd (cc);
  bounded = λ _ below. below;
  told = told;
}
kept-laws cfa Widen new old p shaped kept told = record {
  shaped = shaped;
  covers_old = λ s _ holds. holds;
  sep = λ e. absurd (cc);
  covers_new = λ _ s _ holds. covers-within new old kept s holds;
  covered = λ _. kept;
  falls = λ _ differs. absurd (differs refl);
  bounded = λ _ below. below;
  told = told;
}

-- what merged bounds give, but for the widening law
record MergesAll (cfa : Cfa) (rule : MergeRule) (new old : Elem) (p : Precision)
    (after : Elem) : Type 0 where
  shaped : IsShaped cfa after
  covers_old : (s : State) → IsStateOf cfa s → Holds old s → Holds after s
  bounded : IsBounded intervals cfa after p

merges_all : (cfa : Cfa) (rule : MergeRule) (new old : Elem) (p : Precision) → IsShaped cfa new
    → IsShaped cfa old → MergesAll cfa rule new old p
    (merged_all rule (numbers_for rule cfa) cfa.cells new old)
merges_all cfa rule new old p first second =
    let cs = cfa.cells in
    let ns = numbers_for rule cfa in
    let olds = cell_bounds cs old.facts in
    let news = cell_bounds cs new.facts in
    let are_old = cells_are cs cfa.points old.facts second in
    let are_new = cells_are cs cfa.points new.facts first in
    let are = merged_are rule ns cs olds news are_old are_new in
    record {
      shaped = facts_shaped cs cfa.points (λ _. true) (merged_along rule ns cs olds news) are;
      covers_old = λ s state holds. facts_hold s (λ _. true) cs (merged_along rule ns cs olds news)
          (merged_lies rule ns cs olds news s.store.values are_old are_new
          (cells_lie cs s old.facts holds state.store));
      bounded = bounded_all cfa p (merged_along rule ns cs olds news) are;
    }

grown-laws : (cfa : Cfa) (rule : MergeRule) (new old : Elem) (p : Precision) → IsShaped cfa new
    → IsShaped cfa old → is_kept rule new old ≡ false
    → merged_all rule (numbers_for rule cfa) cfa.cells new old ≡ merged cfa rule new old
    → MergeLaws intervals cfa rule new old p
    (merged_all rule (numbers_for rule cfa) cfa.cells new old)
grown-laws cfa Sep new old p first second grows told = absurd (cc)
grown-laws cfa Join new old p first second grows told =
    let it = merges_all cfa Join new old p first second in
    record {
      shaped = it.shaped;
      covers_old = it.covers_old;
      sep = λ e. absurd (cc);
      covers_new = λ e. absurd (cc);
      covered = λ e. absurd (cc);
      falls = λ e. absurd (cc);
      bounded = λ _ _. it.bounded;
      told = told;
    }
grown-laws cfa Widen new old p first second grows told =
    let cs = cfa.cells in
    let ns = near cfa in
    let olds = cell_bounds cs old.facts in
    let news = cell_bounds cs new.facts in
    let are_old = cells_are cs cfa.points old.facts second in
    let are_new = cells_are cs cfa.points new.facts first in
    let it = merges_all cfa Widen new old p first second in
    let whole : covers new (merged_all Widen (near cfa) cfa.cells new old) ≡ true =
    covered_all cs cfa.points new.facts (merged_along Widen ns cs olds news) first
    (merged_are Widen ns cs olds news are_old are_new)
    (widened_hold ns cs olds news are_old are_new) in
    record {
      shaped = it.shaped;
      covers_old = it.covers_old;
      sep = λ e. absurd (cc);
      covers_new = λ _ s _ holds.
          covers-within new (merged_all Widen (near cfa) cfa.cells new old) whole s holds;
      covered = λ _. whole;
      falls = λ _ _. rank_falls ns cs cfa.points new.facts old.facts first second grows;
      bounded = λ _ _. it.bounded;
      told = told;
    }

-- the laws of merging
pub merged-laws : (cfa : Cfa) (rule : MergeRule) (new old : Elem) (p : Precision)
    → IsShaped cfa new → IsShaped cfa old
    → MergeLaws intervals cfa rule new old p (merged cfa rule new old)
merged-laws cfa rule new old p first second = by (is_kept rule new old) refl where
  by : (x : Bool) → is_kept rule new old ≡ x
      → MergeLaws intervals cfa rule new old p
      (cond x old (merged_all rule (numbers_for rule cfa) cfa.cells new old))
  by true is =
      kept-laws cfa rule new old p second is
      (ap (λ b. cond b old (merged_all rule (numbers_for rule cfa) cfa.cells new old)) (sym is))
  by false is =
      grown-laws cfa rule new old p first second is
      (ap (λ b. cond b old (merged_all rule (numbers_for rule cfa) cfa.cells new old)) (sym is))
