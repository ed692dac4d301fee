-- Where heights do not depend on precisions, the ranks of all rows stay within them.
use Rattle.std.proofs.Common.{zero, suc, ◌<◌, ⊎_elim}
use Rattle.std.proofs.Common.{◌≡◌, ℕ, ◌≤◌, List, [], ◌∷◌, ◌++◌, length, map, Some, None, refl}
use Rattle.std.proofs.Common.{sym}
use Rattle.std.proofs.Common.{◌∙◌, subst, inl, inr, arith}
use Rattle.std.specs.List.{slice_get, AllByRecursion, flat_map}
use Rattle.std.proofs.lemmas.Option.{same_Some, slice_get_within}
use Rattle.cpa_model.specs.declared.facts.Elem.{Elem}
use Rattle.cpa_model.specs.declared.automaton.Cfa.{Cfa}
use Rattle.cpa_iface.specs.declared.analysis.Settings.{Settings}
use Rattle.cpa_iface.specs.declared.entries.Entry.{Entry}
use Rattle.cpa_iface.specs.declared.merging.MergeRule.{MergeRule}
use Rattle.cpa_iface.specs.declared.merging.MergeRule.TheVariants.{Sep, Join, Widen}
use Rattle.cpa_iface.specs.declared.precisions.Precision.{Precision}
use Rattle.cpa_iface.specs.Laws.{IsBounded, IsBoundedAt}
use Rattle.cpa_iface.specs.Meanings.{IsPrecision}
use Rattle.cpa_composite.specs.Components.{Component, ArePrecisions, IsEntryOf}
use Rattle.cpa_composite.specs.Laws.{choices, Strengthens, EachStrengthened, InitialRow}
use Rattle.cpa_composite.specs.Laws.{SuccessorRows, MergedRow, AdjustedRow}
use Rattle.cpa_composite.specs.Ranks.{coarsest, rank_by, row_rank, row_height, HasFixedHeight}
use Rattle.cpa_composite.specs.Ranks.{HaveFixedHeights, IsLow, IsRanked}
use Rattle.cpa_composite.proofs.Placed.{all_both, each_at, joined, no_more}
use Rattle.cpa_composite.proofs.Following.{no_rows}
use Rattle.cpa_composite_covers.specs.lemmas.PickLaws.{there_is}

-- a row is ranked where each item is low at its place
ranked_at : (cfa : Cfa) (cs : List Component) (es : List Elem) → IsRanked cfa cs es → (i : ℕ)
    (c : Component) (e : Elem) → slice_get cs i ≡ Some c → slice_get es i ≡ Some e → IsLow cfa c e
ranked_at cfa [] es h i c e at at_e = absurd (cc)
ranked_at cfa (d ∷ cs) [] h i c e at at_e = absurd (cc)
ranked_at cfa (d ∷ cs) (x ∷ es) h zero c e at at_e =
    subst (λ (b : Component). IsLow cfa b e) (same_Some d c at)
    (subst (λ (y : Elem). IsLow cfa d y) (same_Some x e at_e) h.0)
ranked_at cfa (d ∷ cs) (x ∷ es) h (suc i) c e at at_e = ranked_at cfa cs es h.1 i c e at at_e

ranked_by : (cfa : Cfa) (cs : List Component) (es : List Elem)
    → ((i : ℕ) (c : Component) (e : Elem) → slice_get cs i ≡ Some c → slice_get es i ≡ Some e
    → IsLow cfa c e)
    → IsRanked cfa cs es
ranked_by cfa [] es each = tt
ranked_by cfa (c ∷ cs) [] each = tt
ranked_by cfa (c ∷ cs) (e ∷ es) each =
    (each 0 c e refl refl, ranked_by cfa cs es (λ i d x at at_x. each (suc i) d x at at_x))

-- at a precision, low is bounded
bounded : (cfa : Cfa) (c : Component) (e : Elem) (p : Precision) → HasFixedHeight cfa c
    → IsPrecision cfa p → c.rule ≡ Widen → IsLow cfa c e → IsBounded c.meaning cfa e p
bounded cfa c e p fixed is widen low =
    subst (λ (n : ℕ). c.meaning.rank cfa e ≤ n) (sym (fixed widen p is)) (low widen)

low : (cfa : Cfa) (c : Component) (e : Elem) (p : Precision) → HasFixedHeight cfa c
    → IsPrecision cfa p → (c.rule ≡ Widen → IsBounded c.meaning cfa e p) → IsLow cfa c e
low cfa c e p fixed is bound widen =
    subst (λ (n : ℕ). c.meaning.rank cfa e ≤ n) (fixed widen p is) (bound widen)

all_low : (cfa : Cfa) (c : Component) (es : List Elem) (p : Precision) → HasFixedHeight cfa c
    → IsPrecision cfa p
    → (c.rule ≡ Widen → AllByRecursion (λ e. IsBounded c.meaning cfa e p) es)
    → AllByRecursion (IsLow cfa c) es
all_low cfa c [] p fixed is bound = tt
all_low cfa c (e ∷ es) p fixed is bound = (
  low cfa c e p fixed is (λ widen. (bound widen).0),
  all_low cfa c es p fixed is (λ widen. (bound widen).1),
)

-- all elements of each list are low
abbrev AllLow : Cfa → List Component → List (List Elem) → Type 0
AllLow cfa [] lists = Unit {0}
AllLow cfa (c ∷ cs) [] = Unit {0}
AllLow cfa (c ∷ cs) (list ∷ lists) = AllByRecursion (IsLow cfa c) list × AllLow cfa cs lists

all_by : (cfa : Cfa) (cs : List Component) (lists : List (List Elem))
    → ((i : ℕ) (c : Component) (list : List Elem) → slice_get cs i ≡ Some c
    → slice_get lists i ≡ Some list → AllByRecursion (IsLow cfa c) list)
    → AllLow cfa cs lists
all_by cfa [] lists each = tt
all_by cfa (c ∷ cs) [] each = tt
all_by cfa (c ∷ cs) (list ∷ lists) each =
    (each 0 c list refl refl, all_by cfa cs lists (λ i d l at at_l. each (suc i) d l at at_l))

-- so their choices are ranked
first_ranked : (cfa : Cfa) (c : Component) (cs : List Component) (e : Elem)
    (rows : List (List Elem)) → IsLow cfa c e → AllByRecursion (IsRanked cfa cs) rows
    → AllByRecursion (IsRanked cfa (c ∷ cs)) (map (λ (row : List Elem). e ∷ row) rows)
first_ranked cfa c cs e [] is all = tt
first_ranked cfa c cs e (row ∷ rows) is all =
    ((is, all.0), first_ranked cfa c cs e rows is all.1)

before_ranked : (cfa : Cfa) (c : Component) (cs : List Component) (list : List Elem)
    (rows : List (List Elem)) → AllByRecursion (IsLow cfa c) list
    → AllByRecursion (IsRanked cfa cs) rows
    → AllByRecursion (IsRanked cfa (c ∷ cs))
    (flat_map (λ (e : Elem). map (λ (row : List Elem). e ∷ row) rows) list)
before_ranked cfa c cs [] rows lows all = tt
before_ranked cfa c cs (e ∷ list) rows lows all =
    all_both (IsRanked cfa (c ∷ cs)) (map (λ (row : List Elem). e ∷ row) rows)
    (flat_map (λ (d : Elem). map (λ (row : List Elem). d ∷ row) rows) list)
    (first_ranked cfa c cs e rows lows.0 all) (before_ranked cfa c cs list rows lows.1 all)

choices_ranked : (cfa : Cfa) (cs : List Component) (lists : List (List Elem))
    → length lists ≡ length cs → AllLow cfa cs lists
    → AllByRecursion (IsRanked cfa cs) (choices lists)
choices_ranked cfa [] [] size all = (tt, tt)
choices_ranked cfa [] (list ∷ lists) size all = absurd (omega arith)
choices_ranked cfa (c ∷ cs) [] size all = absurd (omega arith)
choices_ranked cfa (c ∷ cs) (list ∷ lists) size all =
    before_ranked cfa c cs list (choices lists) all.0
    (choices_ranked cfa cs lists (omega arith) all.1)

-- strengthening leaves what is behind the front ranked
record Behind (cfa : Cfa) (cs : List Component) (before row : List Elem) : Type 0 where
  after : List Elem
  is : row ≡ before ++ after
  ranked : IsRanked cfa cs after

strengthened : (cfa : Cfa) (cs : List Component) (before es : List Elem) (ps : List Precision)
    (row : List Elem) → Strengthens cfa cs before es ps (Some row) → IsRanked cfa cs es
    → HaveFixedHeights cfa cs → AllByRecursion (IsPrecision cfa) ps → Behind cfa cs before row
strengthened cfa [] before es ps row h ranked fixed are = record {
  after = [];
  is = same_Some row before h ∙ sym (no_more before);
  ranked = tt;
}
strengthened cfa (c ∷ cs) before [] ps row h ranked fixed are = absurd h
strengthened cfa (c ∷ cs) before (e ∷ es) [] row h ranked fixed are = absurd h
strengthened cfa (c ∷ cs) before (e ∷ es) (p ∷ ps) row (inl h) ranked fixed are =
    absurd (let wrong : Some row ≡ None = h.1 in cc)
strengthened cfa (c ∷ cs) before (e ∷ es) (p ∷ ps) row (inr h) ranked fixed are =
    let rest = strengthened cfa cs (before ++ h.0 ∷ []) es ps row h.2 ranked.1 fixed.1 are.1 in
    record {
      after = h.0 ∷ rest.after;
      is = rest.is ∙ joined before h.0 rest.after;
      ranked = (
        low cfa c h.0 p fixed.0 are.0
            (λ widen. h.1.bounded (bounded cfa c e p fixed.0 are.0 widen ranked.0)),
        rest.ranked,
      );
    }

rows_ranked : (cfa : Cfa) (cs : List Component) (ps : List Precision)
    (chosen rows : List (List Elem)) → EachStrengthened cfa cs ps chosen rows
    → HaveFixedHeights cfa cs → AllByRecursion (IsPrecision cfa) ps
    → AllByRecursion (IsRanked cfa cs) chosen → AllByRecursion (IsRanked cfa cs) rows
rows_ranked cfa cs ps [] rows h fixed are all =
    subst (AllByRecursion (IsRanked cfa cs)) (sym h) tt
rows_ranked cfa cs ps (choice ∷ chosen) rows (inl h) fixed are all =
    rows_ranked cfa cs ps chosen rows h.1 fixed are all.1
rows_ranked cfa cs ps (choice ∷ chosen) rows (inr h) fixed are all =
    let made = strengthened cfa cs [] choice ps h.0 h.3 all.0 fixed are in
    subst (AllByRecursion (IsRanked cfa cs)) (sym h.2) (
      subst (IsRanked cfa cs) (sym made.is) made.ranked,
      rows_ranked cfa cs ps chosen h.1 h.4 fixed are all.1,
    )

-- the laws
pub initial_ranked : (cs : List Component) (cfa : Cfa) (settings : Settings) (es : List Elem)
    (ps : List Precision) → HaveFixedHeights cfa cs → InitialRow cs cfa settings es ps
    → IsRanked cfa cs es
initial_ranked cs cfa settings es ps fixed row =
    ranked_by cfa cs es (λ i c e at at_e.
    let inside = slice_get_within cs i c at in
    let p = there_is ps i (let size = row.precisions.size in omega (arith, inside, size)) in
    let is = each_at (IsPrecision cfa) ps row.precisions.each i p.0 p.1 in
    low cfa c e p.0 (each_at (HasFixedHeight cfa) cs fixed i c at) is
    (λ _. (row.each i c e p.0
    (record { component = at; elem = at_e; precision = p.1 })).0.bounded p.0 is))

pub successors_ranked : (cs : List Component) (cfa : Cfa) (edge : ℕ) (es : List Elem)
    (ps : List Precision) (rows : List (List Elem)) → HaveFixedHeights cfa cs
    → length es ≡ length cs → ArePrecisions cfa (length cs) ps → IsRanked cfa cs es
    → SuccessorRows cs cfa edge es ps rows → AllByRecursion (IsRanked cfa cs) rows
successors_ranked cs cfa edge es ps rows fixed many are ranked made =
    ⊎_elim
    (λ (all : length made.lists ≡ length cs).
    rows_ranked cfa cs ps (choices made.lists) rows made.strengthened fixed are.each
    (choices_ranked cfa cs made.lists all
    (all_by cfa cs made.lists (λ i c list at at_list.
    let inside = slice_get_within cs i c at in
    let e = there_is es i (omega (arith, inside, many)) in
    let p = there_is ps i (let size = are.size in omega (arith, inside, size)) in
    let is = each_at (IsPrecision cfa) ps are.each i p.0 p.1 in
    let one = each_at (HasFixedHeight cfa) cs fixed i c at in
    all_low cfa c list p.0 one is
    (λ widen. (made.each i c e.0 p.0 list
    (record { component = at; elem = e.1; precision = p.1 }) at_list).bounded
    (bounded cfa c e.0 p.0 one is widen (ranked_at cfa cs es ranked i c e.0 at e.1)))))))
    (λ (some : (length made.lists ≤ length cs)
    × ((j : ℕ) × (slice_get made.lists j ≡ Some []))).
    subst (AllByRecursion (IsRanked cfa cs))
    (sym (no_rows cs cfa edge es ps rows made some.1.0 some.1.1)) tt)
    made.asked

-- of the entries that are there
bounded_at : (cfa : Cfa) (cs : List Component) (i : ℕ) (c : Component) (reached : List Entry)
    → HasFixedHeight cfa c → slice_get cs i ≡ Some c → c.rule ≡ Widen
    → AllByRecursion (IsEntryOf cfa (length cs)) reached
    → AllByRecursion (λ entry. IsRanked cfa cs entry.elems) reached
    → AllByRecursion (IsBoundedAt c.meaning cfa i) reached
bounded_at cfa cs i c [] fixed at widen are ranked = tt
bounded_at cfa cs i c (x ∷ reached) fixed at widen are ranked = (
  λ e p at_e at_p. bounded cfa c e p fixed
      (each_at (IsPrecision cfa) x.precisions are.0.precisions.each i p at_p) widen
      (ranked_at cfa cs x.elems ranked.0 i c e at at_e),
  bounded_at cfa cs i c reached fixed at widen are.1 ranked.1,
)

pub adjusted_ranked : (cs : List Component) (cfa : Cfa) (es : List Elem) (ps : List Precision)
    (reached : List Entry) (after : List Elem) (next : List Precision) → HaveFixedHeights cfa cs
    → length es ≡ length cs → ArePrecisions cfa (length cs) ps
    → AllByRecursion (IsEntryOf cfa (length cs)) reached
    → AllByRecursion (λ entry. IsRanked cfa cs entry.elems) reached → IsRanked cfa cs es
    → AdjustedRow cs cfa es ps reached after next → IsRanked cfa cs after
adjusted_ranked cs cfa es ps reached after next fixed many are entries all ranked row =
    ranked_by cfa cs after (λ i c f at at_f.
    let inside = slice_get_within cs i c at in
    let e = there_is es i (omega (arith, inside, many)) in
    let p = there_is ps i (let size = are.size in omega (arith, inside, size)) in
    let q = there_is next i (let size = row.precisions.size in omega (arith, inside, size)) in
    let is = each_at (IsPrecision cfa) ps are.each i p.0 p.1 in
    let one = each_at (HasFixedHeight cfa) cs fixed i c at in
    low cfa c f q.0 one (each_at (IsPrecision cfa) next row.precisions.each i q.0 q.1)
    (λ widen. (row.each i c e.0 p.0 f q.0
    (record { component = at; elem = e.1; precision = p.1 }) at_f q.1).bounded
    (bounded cfa c e.0 p.0 one is widen (ranked_at cfa cs es ranked i c e.0 at e.1))
    (bounded_at cfa cs i c reached one at widen entries all)))

pub merged_ranked : (cs : List Component) (cfa : Cfa) (new old : List Elem) (ps : List Precision)
    (merged : List Elem) → HaveFixedHeights cfa cs → length new ≡ length cs
    → length old ≡ length cs → ArePrecisions cfa (length cs) ps → IsRanked cfa cs new
    → IsRanked cfa cs old → MergedRow cs cfa new old ps merged → IsRanked cfa cs merged
merged_ranked cs cfa new old ps merged fixed many long are ranked before row =
    ranked_by cfa cs merged (λ i c g at at_g.
    let inside = slice_get_within cs i c at in
    let e = there_is new i (omega (arith, inside, many)) in
    let f = there_is old i (omega (arith, inside, long)) in
    let p = there_is ps i (let size = are.size in omega (arith, inside, size)) in
    let is = each_at (IsPrecision cfa) ps are.each i p.0 p.1 in
    let one = each_at (HasFixedHeight cfa) cs fixed i c at in
    low cfa c g p.0 one is
    (λ widen. (row.each i c e.0 p.0 f.0 g
    (record { component = at; elem = e.1; precision = p.1 }) f.1 at_g).bounded
    (bounded cfa c e.0 p.0 one is widen (ranked_at cfa cs new ranked i c e.0 at e.1))
    (bounded cfa c f.0 p.0 one is widen (ranked_at cfa cs old before i c f.0 at f.1))))

-- the ranks together are at most the heights together
one_at_most : (rule : MergeRule) (n m : ℕ) → (rule ≡ Widen → n ≤ m)
    → rank_by rule n ≤ rank_by rule m
one_at_most Sep n m at_most = omega arith
one_at_most Join n m at_most = omega arith
one_at_most Widen n m at_most = at_most refl

pub ranks_at_most : (cs : List Component) (cfa : Cfa) (es : List Elem) → IsRanked cfa cs es
    → row_rank cfa cs es ≤ row_height cfa cs
ranks_at_most [] cfa es ranked = omega arith
ranks_at_most (c ∷ cs) cfa [] ranked = omega arith
ranks_at_most (c ∷ cs) cfa (e ∷ es) ranked =
    let first = one_at_most c.rule (c.meaning.rank cfa e) (c.meaning.height cfa coarsest) ranked.0
    in
    let later = ranks_at_most cs cfa es ranked.1 in omega (arith, first, later)
