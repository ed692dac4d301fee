-- Rounds that begin: the search after a refinement (`refined_begins`), after none (`again_begins`),
-- and before the first (`first_search`).
use Rattle.std.proofs.Common.{◌≡◌, ℕ, zero, suc, ◌+◌, ◌*◌, ◌-◌, ◌<◌, true, false, cond}
use Rattle.std.proofs.Common.{List}
use Rattle.std.proofs.Common.{[], ◌∷◌, ◌++◌, length, Some, slice_get, refl, sym, ap, ◌∙◌, subst}
use Rattle.std.proofs.Common.{arith}
use Rattle.std.specs.List.{Contains}
use Rattle.std.proofs.lemmas.List.{length-append}
use Rattle.std.proofs.lemmas.Option.{slice_get_within}
use Rattle.cpa_model.specs.declared.automaton.Cfa.{Cfa}
use Rattle.cpa_model.specs.declared.automaton.Path.{Path}
use Rattle.cpa_model.specs.declared.facts.Elem.{Elem}
use Rattle.cpa_model.specs.lemmas.Lists.{in_list, place_of}
use Rattle.cpa_iface.specs.declared.analysis.Part.{Part}
use Rattle.cpa_iface.specs.declared.analysis.Part.TheVariants as part
use Rattle.cpa_iface.specs.declared.analysis.Settings.{Settings}
use Rattle.cpa_iface.specs.declared.entries.Refined.{Refined}
use Rattle.cpa_iface.specs.declared.precisions.Precision.{Precision}
use Rattle.cpa_iface.specs.Laws.{RefineLaws}
use Rattle.cpa_iface.specs.Meanings.{Meaning}
use Rattle.cpa_iface.specs.Pins.{MustBeExact}
use Rattle.cpa_composite.specs.Components.{Component}
use Rattle.cpa_composite.specs.Exact.{BindAll}
use Rattle.cpa_composite.specs.Keys.{key_places}
use Rattle.cpa_composite.specs.Laws.{InitialRow, RefinedRow}
use Rattle.cpa_config.specs.declared.config.Config.{Config}
use Rattle.cpa_reached.specs.Calls.{begun, indexed}
use Rattle.cpa_reached.specs.Entries.{ReachedSet}
use Rattle.cpa_engine_turn.specs.lemmas.Keyed.{there_is}
use Rattle.cpa_engine_laws.specs.lemmas.Growing.{refined_falls, all_few}
use Rattle.cpa_engine_rounds.specs.Errors.{NoneErrBelow}
use Rattle.cpa_engine.proofs.Beginning.{begins_checked}
use Rattle.cpa_engine.specs.declared.search.Search.{Search}
use Rattle.cpa_engine.specs.Answers.{AreRefinements, newest_after, LeadTo}
use Rattle.cpa_engine.specs.Kept.{IsExactRun, IsRefuted}
use Rattle.cpa_engine.specs.Rounds.{BeginsAgain, BeginsRefined, at_first, by_refinement, once_more}
use Rattle.cpa_engine.specs.Searches.{Stands, CameBy, IsSearch, position, rounds_left}

-- ---- a history with one refinement more

newest_more : (first : List Precision) (h : List Refined) (r : Refined)
    → newest_after first (h ++ r ∷ []) ≡ r.precisions
newest_more first [] r = refl
newest_more first (x ∷ h) r = newest_more x.precisions h r

refinements_more : (cfa : Cfa) (cs : List Component) (settings : Settings)
    (first : List Precision) (h : List Refined) (r : Refined)
    → AreRefinements cfa cs settings first h → IsRefuted cfa cs settings r.path
    → RefinedRow cs cfa r.path (newest_after first h) r.precisions
    → AreRefinements cfa cs settings first (h ++ r ∷ [])
refinements_more cfa cs settings first [] r are refuted row = (refuted, row, tt)
refinements_more cfa cs settings first (x ∷ h) r are refuted row =
    (are.0, are.1, refinements_more cfa cs settings x.precisions h r are.2 refuted row)

abbrev pub item : Path → List Precision → Refined
item path longer = record { path = path; precisions = longer }

lead_more : (cfa : Cfa) (cs : List Component) (settings : Settings) (history : List Refined)
    (newest longer : List Precision) (path : Path) → LeadTo cfa cs settings history newest
    → IsRefuted cfa cs settings path → RefinedRow cs cfa path newest longer
    → LeadTo cfa cs settings (history ++ item path longer ∷ []) longer
lead_more cfa cs settings history newest longer path lead refuted row = record {
  elems = lead.elems;
  first = lead.first;
  begins = lead.begins;
  refinements = refinements_more cfa cs settings lead.first history (item path longer)
      lead.refinements refuted
      (subst (λ (ps : List Precision). RefinedRow cs cfa path ps longer) lead.newest row);
  newest = sym (newest_more lead.first history (item path longer));
}

-- ---- refined precisions bind where the old ones did

contained_front : {X : Type 0} (xs ys : List X) (x : X) → Contains xs x → Contains (xs ++ ys) x
contained_front {X} xs ys x there =
    let at = place_of xs x there in in_list (xs ++ ys) at.0 x (front xs at.0 at.1)
  where
    front : (xs : List X) (k : ℕ) → slice_get xs k ≡ Some x → slice_get (xs ++ ys) k ≡ Some x
    front [] k at = absurd (cc)
    front (z ∷ xs) zero at = at
    front (z ∷ xs) (suc k) at = front xs k at

still_binds : (m : Meaning) (which : Part) (cfa : Cfa) (path : Path) (p q : Precision)
    → RefineLaws m cfa path p q → MustBeExact which cfa p → MustBeExact which cfa q
still_binds m part.Nothing cfa path p q laws must = must
still_binds m part.Point cfa path p q laws must = tt
still_binds m part.Stack cfa path p q laws must = tt
still_binds m part.Store cfa path p q laws must = record {
  cells = λ cell less.
      subst (λ (cells : List ℕ). Contains cells cell) (sym laws.tracked.1)
      (contained_front p.tracked laws.tracked.0 cell (must.cells cell less));
  no_limit = laws.limit ∙ must.no_limit;
}

pub refined_binds : (cfa : Cfa) (cs : List Component) (path : Path) (old new : List Precision)
    → length old ≡ length cs → RefinedRow cs cfa path old new → BindAll cfa cs old
    → BindAll cfa cs new
refined_binds cfa cs path old new many row binds i c q at at_q =
    let inside = slice_get_within cs i c at in
    let p = there_is old i (omega (arith, inside, many)) in
    still_binds c.meaning c.meaning.part cfa path p.0 q (row.each i c p.0 q at p.1 at_q)
    (binds i c p.0 at p.1)

-- ---- after a refinement

abbrev pub refined_search : ℕ → ReachedSet → List Precision → List Refined → Search
refined_search checked r newest history = record {
  reached = r;
  newest = newest;
  history = history;
  again = false;
  checked = checked;
}

more_size : (h : List Refined) (r : Refined) → length (h ++ r ∷ []) ≡ length h + 1
more_size h r = length-append h (r ∷ [])

refined_came : (cfa : Cfa) (cs : List Component) (config : Config) (s : Search) (r : ReachedSet)
    (path : Path) (longer : List Precision) → CameBy cfa cs config s
    → IsRefuted cfa cs config.settings path → RefinedRow cs cfa path s.newest longer
    → length s.history < config.rounds
    → CameBy cfa cs config (refined_search s.checked r longer (s.history ++ item path longer ∷ []))
refined_came cfa cs config s r path longer came refuted row more =
    let one = more_size s.history (item path longer) in
    record {
      lead = lead_more cfa cs config.settings s.history s.newest longer path came.lead refuted row;
      within = omega (arith, one, more);
      precisions = row.precisions;
      binds = λ exact. refined_binds cfa cs path s.newest longer came.precisions.size row
          (came.binds exact);
      cells = λ tell.
          let before = came.cells tell in
          let fewer = refined_falls cfa cs path s.newest longer tell refuted.kept.inside
          came.precisions.size row in
          omega (arith, before, fewer, one);
    }

-- one round fewer may begin
fewer_rounds : (rounds now was : ℕ) (n : ℕ) → now ≡ was + 1 → was < rounds
    → (rounds - now) * 2 + 1 < (rounds - was) * 2 + n
fewer_rounds rounds now was n is less = omega (arith, is, less)

pub refined_begins : (cfa : Cfa) (cs : List Component) (config : Config) (s : Search)
    (r : ReachedSet) (path : Path) (longer newest : List Precision) (history : List Refined)
    → IsSearch cfa cs config s → Stands cfa cs config.settings r → r.journal ≡ []
    → BeginsRefined cfa cs config (position s)
    (position (refined_search s.checked r longer (s.history ++ item path longer ∷ [])))
    → IsRefuted cfa cs config.settings path → RefinedRow cs cfa path s.newest longer
    → length s.history < config.rounds → newest ≡ longer
    → history ≡ s.history ++ item path longer ∷ []
    → IsSearch cfa cs config (refined_search s.checked r newest history) × (r.journal ≡ [])
    × (rounds_left config (refined_search s.checked r newest history) < rounds_left config s)
refined_begins cfa cs config s r path longer newest history search stands none begins refuted row
    more is_new is_more =
    let longest = s.history ++ item path longer ∷ [] in
    let one = more_size s.history (item path longer) in
    let size : length history ≡ length s.history + 1 =
    ap (λ (h : List Refined). length h) is_more ∙ one in
    let is : IsSearch cfa cs config (refined_search s.checked r longer longest) =
    record {
      stands = stands;
      came = refined_came cfa cs config s r path longer search.came refuted row more;
      comes = by_refinement (position s) (position (refined_search s.checked r longer longest))
          search.comes
          begins;
      checked = begins_checked cfa begins.pivot longer s.reached r s.checked begins.begins
          search.checked;
    } in (
      subst (λ (ps : List Precision). IsSearch cfa cs config
          (refined_search s.checked r ps history))
          (sym is_new)
          (subst (λ (h : List Refined). IsSearch cfa cs config
          (refined_search s.checked r longer h))
          (sym is_more) is),
      none,
      fewer_rounds config.rounds (length history) (length s.history) (cond s.again 0 1) size more,
    )

-- ---- after none

abbrev pub again_search : ReachedSet → Search → Search
again_search r s = record s { reached = r; again = true }

pub again_begins : (cfa : Cfa) (cs : List Component) (config : Config) (s : Search)
    (r : ReachedSet) → IsSearch cfa cs config s → Stands cfa cs config.settings r
    → r.journal ≡ [] → BeginsAgain cfa cs config (position s) (position (again_search r s))
    → IsSearch cfa cs config (again_search r s) × (r.journal ≡ [])
    × (rounds_left config (again_search r s) < rounds_left config s)
again_begins cfa cs config s r search stands none begins =
    let first = begins.first in (
      record {
        stands = stands;
        came = record {
          lead = search.came.lead;
          within = search.came.within;
          precisions = search.came.precisions;
          binds = search.came.binds;
          cells = search.came.cells;
        };
        comes = once_more (position s) (position (again_search r s)) search.comes begins;
        checked = begins_checked cfa begins.root s.newest s.reached r s.checked begins.begins
            search.checked;
      },
      none,
      rw first (omega arith),
    )

-- ---- before the first

none_below : (cfa : Cfa) (r : ReachedSet) → NoneErrBelow cfa 0 r.live
none_below cfa r e there less = absurd (omega (arith, less))

pub first_search : (cfa : Cfa) (cs : List Component) (config : Config) (r : ReachedSet)
    (es : List Elem) (newest : List Precision) → InitialRow cs cfa config.settings es newest
    → r ≡ indexed (begun es newest) (key_places cs) → Stands cfa cs config.settings r
    → (IsExactRun cs config.settings → BindAll cfa cs newest)
    → IsSearch cfa cs config (refined_search 0 r newest [])
first_search cfa cs config r es newest row first stands binds = record {
  stands = stands;
  came = record {
    lead = record {
      elems = es;
      first = newest;
      begins = row;
      refinements = tt;
      newest = refl;
    };
    within = omega arith;
    precisions = row.precisions;
    binds = binds;
    cells = λ tell.
        let few = all_few (length cfa.cells) newest in
        let same = ap (λ (n : ℕ). n * length cfa.cells) row.precisions.size in
        omega (arith, few, same);
  };
  comes = at_first (position (refined_search 0 r newest []))
      (record { elems = es; row = row; reached = first; history = refl; again = refl });
  checked = none_below cfa r;
}
