-- One turn of the loops over cells and over facts.
use Rattle.std.proofs.Common.{◌≡◌, ℕ, ◌+◌, ◌^◌, ◌<◌, ◌≤◌, ℤ, true, List, [], ◌∷◌}
use Rattle.std.proofs.Common.{refl, sym, ap, ◌∙◌, arith, cond, length, drop}
use Rattle.std.specs.Prelude.{zero, suc, Option, Some, slice_get, option_map}
use Rattle.std.specs.List.{list_any}
use Rattle.std.proofs.lemmas.List.{drop_more}
use Rattle.std.proofs.lemmas.Option.{slice_get_within, get_or_from_slice_get}
use Rattle.cpa_model.specs.declared.program.Cell.{Cell}
use Rattle.cpa_facts.specs.declared.fact.Fact.{Fact}
use Rattle.cpa_model.specs.declared.facts.Elem.{Elem}
use Rattle.cpa_model.specs.declared.automaton.Edge.{Edge}
use Rattle.cpa_model.specs.declared.automaton.Cfa.{Cfa}
use Rattle.cpa_model.specs.Automata.{IsAutomaton}
use Rattle.cpa_iface.specs.declared.merging.MergeRule.{MergeRule}
use Rattle.cpa_iface.specs.declared.precisions.Precision.{Precision}
use Rattle.cpa_folds.specs.Tracking.{is_tracked}
use Rattle.cpa_interval_bounds.specs.declared.bounds.Bounds.{Bounds}
use Rattle.cpa_interval_acts.specs.Acts.{after_act}
use Rattle.cpa_interval.specs.Cells.{with_fact, with_facts, cell_bounds}
use Rattle.cpa_interval.specs.Cells.{elem_of_all}
use Rattle.cpa_interval.specs.Merging.{merged_along}
use Rattle.cpa_interval.specs.Strengthening.{has_bound, met_elems, strengthened}
use Rattle.cpa_interval.specs.Transfer.{elems_of, next_intervals}

pub drop_at : {X : Type 0} (xs : List X) (i : ℕ) (x : X) → slice_get xs i ≡ Some x
    → drop i xs ≡ x ∷ drop (i + 1) xs
drop_at {X} xs i x at =
    drop_more xs i x (slice_get_within xs i x at)
    ∙ ap (λ (y : X). y ∷ drop (i + 1) xs) (get_or_from_slice_get xs i x x at)

pub drop_end : {X : Type 0} (xs : List X) (i : ℕ) → length xs ≤ i → drop i xs ≡ []
drop_end [] zero h = refl
drop_end [] (suc i) h = refl
drop_end (x ∷ xs) zero h = absurd (omega (arith, h))
drop_end (x ∷ xs) (suc i) h = drop_end xs i (omega (arith, h))

pub item_at : {X : Type 0} (xs : List X) (i : ℕ) → i < length xs → (x : X) ×
    (slice_get xs i ≡ Some x)
item_at [] i inside = absurd (omega (arith, inside))
item_at (x ∷ xs) zero inside = (x, refl)
item_at (x ∷ xs) (suc i) inside = item_at xs i (omega (arith, inside))

-- the fact before those that are put
pub put_more : (facts : List Fact) (first now new : List Bounds) (place before : ℕ) (f : Fact)
    → place ≡ before + 1 → slice_get facts before ≡ Some f
    → now ≡ with_facts (drop place facts) first → new ≡ with_fact f now
    → new ≡ with_facts (drop before facts) first
put_more facts first now new place before f next at was is =
    is
    ∙ (ap (with_fact f) (was ∙ ap (λ k. with_facts (drop k facts) first) next)
    ∙ ap (λ l. with_facts l first) (sym (drop_at facts before f at)))

-- ---- the calls that put these together

-- the cells of an automaton are few
pub few_cells : (cfa : Cfa) (cells : List Cell) → IsAutomaton cfa → cells ≡ cfa.cells
    → length cells < 2 ^ 32
few_cells cfa cells a are =
    let few = a.well_formed.few_cells in
    let same : length cfa.cells ≡ length a.program.cells = ap length a.automaton.cells in
    let long : length cells ≡ length cfa.cells = ap length are in
    omega (arith, few, same, long)

-- the table has the cells of the automaton, and the tracked cells are those of the precision
pub same_transfer : (cfa : Cfa) (p q : Precision) (e : Elem) (g : Edge) (cells own : List Cell)
    (bs : List Bounds) (es : List Elem) → cells ≡ cfa.cells → own ≡ cells
    → bs ≡ cell_bounds cells e.facts → q ≡ p
    → es ≡ elems_of (is_tracked q) own (after_act own g.act bs)
    → es ≡ next_intervals cfa p e g
same_transfer cfa p q e g cells own bs es same whole are tracks is =
    is
    ∙ (ap (λ (r : Precision). elems_of (is_tracked r) own (after_act own g.act bs)) tracks
    ∙ (ap (λ l. elems_of (is_tracked p) own (after_act own g.act l)) are
    ∙ (ap (λ l. elems_of (is_tracked p) l (after_act l g.act (cell_bounds cells e.facts))) whole
    ∙ ap (λ l. elems_of (is_tracked p) l (after_act l g.act (cell_bounds l e.facts))) same)))

pub same_strengthening : (whole cells own_cells : List Cell) (p q : Precision) (own : Elem)
    (others : List Elem) (bs : List Bounds) (e : Option Elem) → cells ≡ whole → own_cells ≡ cells
    → bs ≡ cell_bounds cells own.facts → q ≡ p
    → list_any has_bound others ≡ true
    → e ≡ option_map (elem_of_all own_cells) (met_elems (is_tracked q) others bs)
    → e ≡ strengthened whole p own others
same_strengthening whole cells own_cells p q own others bs e same owns are tracks some is =
    let left = option_map (elem_of_all whole)
    (met_elems (is_tracked p) others (cell_bounds whole own.facts)) in
    is
    ∙ (ap (λ (r : Precision). option_map (elem_of_all own_cells)
    (met_elems (is_tracked r) others bs)) tracks
    ∙ (ap (λ l. option_map (elem_of_all own_cells) (met_elems (is_tracked p) others l)) are
    ∙ (ap (λ l. option_map (elem_of_all l)
    (met_elems (is_tracked p) others (cell_bounds cells own.facts))) owns
    ∙ (ap (λ l. option_map (elem_of_all l)
    (met_elems (is_tracked p) others (cell_bounds l own.facts))) same
    ∙ ap (λ b. cond b left (Some own)) (sym some)))))

pub merged_length : (rule : MergeRule) (ns : List ℤ) (cs : List Cell) (olds news : List Bounds)
    → length olds ≡ length cs → length news ≡ length cs
    → length (merged_along rule ns cs olds news) ≡ length cs
merged_length rule ns [] olds news first second = refl
merged_length rule ns (c ∷ cs) [] news first second = absurd (cc)
merged_length rule ns (c ∷ cs) (old ∷ olds) [] first second = absurd (cc)
merged_length rule ns (c ∷ cs) (old ∷ olds) (new ∷ news) first second =
    ap suc (merged_length rule ns cs olds news (omega (arith, first)) (omega (arith, second)))
