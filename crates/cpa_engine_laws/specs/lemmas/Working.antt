-- The work of a turn keeps lines (`turn_lined`): what an entry has of its parent, whatever that is.
use Rattle.std.proofs.Common.{◌≡◌, ℕ, zero, suc, ◌+◌, ◌<◌, ◌≤◌, Bool, true, false, cond, eqb, List}
use Rattle.std.proofs.Common.{[]}
use Rattle.std.proofs.Common.{◌∷◌, length, Option, Some, None, refl, sym, ap, ◌∙◌, subst, inl, inr}
use Rattle.std.proofs.Common.{⊎_elim, arith}
use Rattle.std.specs.Prelude.{◌⊎◌, IfSome, ⊤}
use Rattle.std.specs.List.{slice_get, AllByRecursion}
use Rattle.std.proofs.lemmas.Bool.{cases_Bool, eqb-true, eq-eqb}
use Rattle.std.proofs.lemmas.Option.{same_Some}
use Rattle.cpa_model.specs.declared.automaton.Cfa.{Cfa}
use Rattle.cpa_model.specs.declared.facts.Elem.{Elem}
use Rattle.cpa_iface.specs.declared.entries.Entry.{Entry}
use Rattle.cpa_iface.specs.declared.precisions.Precision.{Precision}
use Rattle.cpa_composite.specs.Components.{Component, IsEntryOf}
use Rattle.cpa_composite.specs.Laws.{SuccessorRows, MergedRow, AdjustedRow}
use Rattle.cpa_iface.specs.declared.merging.Order.{Order}
use Rattle.cpa_reached.specs.Members.{IsIn}
use Rattle.cpa_reached.specs.lemmas.MemberLaws.{in_all, entry_in, one_entry}
use Rattle.cpa_reached.specs.Entries.{ReachedSet, IsNumbered, numbers}
use Rattle.cpa_reached.specs.Calls.{rename}
use Rattle.cpa_reached.specs.Calls.{at_number, gains, taken}
use Rattle.cpa_engine_turn.specs.Stages.{Stage, taking, noting, adding, replacing_at, Compares}
use Rattle.cpa_engine_turn.specs.Stages.{ComparesAll}
use Rattle.cpa_engine_turn.specs.Stages.{fellows, first_cover, covered_or_added, SettlesAll}
use Rattle.cpa_engine_turn.specs.Stages.{FollowsAll, Works}
use Rattle.cpa_engine_turn.specs.Turns.{AreEntries, HasEdge, Turned}
use Rattle.cpa_engine_laws.specs.Lines.{AreLines}
use Rattle.cpa_engine_laws.specs.lemmas.Kept.{IsBelowNext, gained_from, added_from}
use Rattle.cpa_engine_laws.specs.lemmas.Kept.{same_lines, added_lines, replaced_lines, came}
use Rattle.cpa_engine_laws.specs.lemmas.Kept.{named_parent}
use Rattle.cpa_engine_laws.specs.lemmas.Kept.{rested_from}

module _ (cfa : Cfa) (cs : List Component) (R : ℕ → List Elem → List Elem → Type 0)
    (Root : List Elem → Type 0) (Each : List Precision → Type 0) where
  -- what successors have of the row, and what merging leaves of it
  pub record Relates (es : List Elem) (ps : List Precision) : Type 0 where
    pub comes : (edge : ℕ) (rows : List (List Elem)) (k : ℕ) (row : List Elem)
        (reached : List Entry) (after : List Elem) (next : List Precision)
        → edge < length cfa.edges → SuccessorRows cs cfa edge es ps rows
        → slice_get rows k ≡ Some row → AdjustedRow cs cfa row ps reached after next
        → R edge es after
    pub each : (edge : ℕ) (rows : List (List Elem)) (k : ℕ) (row : List Elem)
        (reached : List Entry) (after : List Elem) (next : List Precision)
        → edge < length cfa.edges → SuccessorRows cs cfa edge es ps rows
        → slice_get rows k ≡ Some row → AdjustedRow cs cfa row ps reached after next
        → Each next
    pub parent : (new old : List Elem) (qs : List Precision) (merged : List Elem)
        → length new ≡ length cs → length old ≡ length cs → length qs ≡ length cs
        → MergedRow cs cfa new old qs merged → (edge : ℕ) (fs : List Elem) → R edge old fs
        → R edge merged fs
    pub child : (new old : List Elem) (qs : List Precision) (merged : List Elem)
        → length new ≡ length cs → length old ≡ length cs → length qs ≡ length cs
        → MergedRow cs cfa new old qs merged → (edge : ℕ) (fs : List Elem) → R edge fs old
        → R edge fs merged
    pub root : (new old : List Elem) (qs : List Precision) (merged : List Elem)
        → length new ≡ length cs → length old ≡ length cs → length qs ≡ length cs
        → MergedRow cs cfa new old qs merged → Root old → Root merged

  -- what is known of a stage: what stands for the taken entry has for a parent what the row has
  pub record LinedAt (es : List Elem) (a : Stage) : Type 0 where
    pub below : IsBelowNext a.reached.next a.reached.live
    pub sized : (e : Entry) → IsIn e a.reached.live → length e.elems ≡ length cs
    pub alike : (d e : Entry) → IsIn d a.reached.live → IsIn e a.reached.live
        → d.number ≡ e.number → d.elems ≡ e.elems
    pub each : (e : Entry) → IsIn e a.reached.live → Each e.precisions
    pub lines : AreLines R Root a.reached.live
    pub current : a.current < a.reached.next
    pub stands : (e : Entry) → IsIn e a.reached.live → e.number ≡ a.current → (edge : ℕ)
        (fs : List Elem) → R edge es fs → R edge e.elems fs

  noted_lined : (es : List Elem) (by : ℕ) (a : Stage) → LinedAt es a → LinedAt es (noting by a)
  noted_lined es by a at =
      let from = gained_from a.current by a.reached.live in
      record {
        below = record {
          below = λ e there. let was = from e there in
              let less = at.below.below was.entry was.is_in in
              let is = was.same.number in omega (arith, less, is);
          parents = λ e p edge there has. let was = from e there in
              at.below.parents was.entry p edge was.is_in (sym was.same.parent ∙ has);
        };
        sized = λ e there. let was = from e there in
            ap (λ (xs : List Elem). length xs) was.same.elems ∙ at.sized was.entry was.is_in;
        alike = λ d e in_d in_e is. let x = from d in_d in let y = from e in_e in
            x.same.elems ∙ at.alike x.entry y.entry x.is_in y.is_in
            (sym x.same.number ∙ is ∙ y.same.number) ∙ sym y.same.elems;
        each = λ e there. let was = from e there in
            subst Each (sym was.same.precisions) (at.each was.entry was.is_in);
        lines = same_lines R Root a.reached.live (at_number a.current (gains by) a.reached.live)
            from
            at.lines;
        current = at.current;
        stands = λ e there is edge fs r. let was = from e there in
            subst (λ (xs : List Elem). R edge xs fs) (sym was.same.elems)
            (at.stands was.entry was.is_in (sym was.same.number ∙ is) edge fs r);
      }

  added_lined : (es : List Elem) (new : List Elem) (ps : List Precision) (edge : ℕ) (a : Stage)
      → length new ≡ length cs → R edge es new → Each ps → LinedAt es a
      → LinedAt es (adding new ps edge a)
  added_lined es new ps edge a size comes one at =
      let next = a.reached.next in
      let from = added_from next a.reached.live new ps (a.current, edge) in
      let known = at.current in
      record {
        below = record {
          below = λ e there. ⊎_elim
              (λ was. let less = at.below.below was.entry was.is_in in
              let is = was.same.number in omega (arith, less, is))
              (λ is. let number = ap (λ (z : Entry). z.number) is in omega (arith, number))
              (from e there);
          parents = λ e p k there has. ⊎_elim
              (λ was. let less = at.below.parents was.entry p k was.is_in (sym was.same.parent ∙
              has)
              in omega (arith, less))
              (λ is.
              let same = same_Some (a.current, edge) (p, k)
              (ap (λ (z : Entry). z.parent) (sym is) ∙ has) in
              let p_is = ap (λ (t : ℕ × ℕ). t.0) same in omega (arith, known, p_is))
              (from e there);
        };
        sized = λ e there. ⊎_elim
            (λ was. ap (λ (xs : List Elem). length xs) was.same.elems ∙ at.sized was.entry
            was.is_in)
            (λ is. ap (λ (z : Entry). length z.elems) is ∙ size)
            (from e there);
        alike = λ d e in_d in_e is. ⊎_elim
            (λ x. ⊎_elim
            (λ y. x.same.elems ∙ at.alike x.entry y.entry x.is_in y.is_in
            (sym x.same.number ∙ is ∙ y.same.number) ∙ sym y.same.elems)
            (λ y_new. let number = ap (λ (z : Entry). z.number) y_new in
            let less = at.below.below x.entry x.is_in in let same = x.same.number in
            absurd (omega (arith, number, less, same, is)))
            (from e in_e))
            (λ x_new. ⊎_elim
            (λ y. let number = ap (λ (z : Entry). z.number) x_new in
            let less = at.below.below y.entry y.is_in in let same = y.same.number in
            absurd (omega (arith, number, less, same, is)))
            (λ y_new. ap (λ (z : Entry). z.elems) (x_new ∙ sym y_new))
            (from e in_e))
            (from d in_d);
        each = λ e there. ⊎_elim
            (λ was. subst Each (sym was.same.precisions) (at.each was.entry was.is_in))
            (λ is. subst (λ (z : Entry). Each z.precisions) (sym is) one)
            (from e there);
        lines = added_lines R Root next a.reached.live new ps (a.current, edge) at.below known
            (λ f there is. at.stands f there is edge new comes) at.lines;
        current = omega (arith, known);
        stands = λ e there is k fs r. ⊎_elim
            (λ was. subst (λ (xs : List Elem). R k xs fs) (sym was.same.elems)
            (at.stands was.entry was.is_in (sym was.same.number ∙ is) k fs r))
            (λ new_is. let number = ap (λ (z : Entry). z.number) new_is in
            absurd (omega (arith, known, number, is)))
            (from e there);
      }

  -- the name of what took a place, and other names
  renamed_at : (old next n : ℕ) → ((n ≡ old) × (rename old next n ≡ next))
      ⊎ ((n ≡ old → ⊥) × (rename old next n ≡ n))
  renamed_at old next n =
      ⊎_elim
      (λ (yes : eqb n old ≡ true). inl (eqb-true n old yes, ap (λ (b : Bool). cond b next n) yes))
      (λ (no : eqb n old ≡ false). inr (
        λ same. absurd (let yes = eq-eqb n old same in cc (yes, no)),
        ap (λ (b : Bool). cond b next n) no,
      ))
      (cases_Bool (eqb n old))

  renamed_below : (old next n : ℕ) → n < next → rename old next n < suc next
  renamed_below old next n less =
      ⊎_elim (λ yes. let is = yes.1 in omega (arith, is))
      (λ no. let is = no.1 in omega (arith, is, less)) (renamed_at old next n)

  replaced_lined : (es : List Elem) (new : List Elem) (qs ps : List Precision) (merged : List Elem)
      (o : Entry) (a : Stage) → Relates es ps → IsIn o a.reached.live → length new ≡ length cs
      → length qs ≡ length cs → MergedRow cs cfa new o.elems qs merged
      → LinedAt es a → LinedAt es (replacing_at o.number merged a)
  replaced_lined es new qs ps merged o a laws there size precise row at =
      let old = o.number in
      let next = a.reached.next in
      let xs = a.reached.live in
      let from = came next old xs merged in
      let known = at.current in
      let own : (d : Entry) → IsIn d xs → d.number ≡ old → o.elems ≡ d.elems =
      λ d in_d is. at.alike o d there in_d (sym is) in
      record {
        below = record {
          below = λ e in_e. let c = from e in_e in
              let less = at.below.below c.entry c.is_in in
              ⊎_elim
              (λ kept. let is = ap (λ (z : Entry). z.number) kept.0 in omega (arith, less, is))
              (λ put. let is = ap (λ (z : Entry). z.number) put.0 in omega (arith, is))
              c.how;
          parents = λ e p k in_e has. let c = from e in_e in
              ⊎_elim
              (λ kept.
              let par = named_parent old next 0 p k c.entry.parent
              (ap (λ (z : Entry). z.parent) (sym kept.0) ∙ has) in
              let less = at.below.parents c.entry par.0 k c.is_in par.1 in
              let low = renamed_below old next par.0 less in
              let is = par.2 in omega (arith, low, is))
              (λ put.
              let less = at.below.parents c.entry p k c.is_in
              (ap (λ (z : Entry). z.parent) (sym put.0) ∙ has) in omega (arith, less))
              c.how;
        };
        sized = λ e in_e. let c = from e in_e in
            ⊎_elim
            (λ kept. ap (λ (z : Entry). length z.elems) kept.0 ∙ at.sized c.entry c.is_in)
            (λ put. ap (λ (z : Entry). length z.elems) put.0 ∙ row.elems.size)
            c.how;
        alike = λ d e in_d in_e is. let x = from d in_d in let y = from e in_e in
            ⊎_elim
            (λ x_kept. ⊎_elim
            (λ y_kept. ap (λ (z : Entry). z.elems) x_kept.0
            ∙ at.alike x.entry y.entry x.is_in y.is_in
            (ap (λ (z : Entry). z.number) (sym x_kept.0) ∙ is ∙ ap (λ (z : Entry). z.number)
            y_kept.0)
            ∙ ap (λ (z : Entry). z.elems) (sym y_kept.0))
            (λ y_put. let one = ap (λ (z : Entry). z.number) x_kept.0 in
            let two = ap (λ (z : Entry). z.number) y_put.0 in
            let less = at.below.below x.entry x.is_in in absurd (omega (arith, one, two, less, is)))
            y.how)
            (λ x_put. ⊎_elim
            (λ y_kept. let one = ap (λ (z : Entry). z.number) x_put.0 in
            let two = ap (λ (z : Entry). z.number) y_kept.0 in
            let less = at.below.below y.entry y.is_in in absurd (omega (arith, one, two, less, is)))
            (λ y_put. ap (λ (z : Entry). z.elems) x_put.0
            ∙ ap (λ (z : Entry). z.elems) (sym y_put.0))
            y.how)
            x.how;
        each = λ e in_e. let c = from e in_e in
            ⊎_elim
            (λ kept. subst (λ (z : Entry). Each z.precisions) (sym kept.0) (at.each c.entry
            c.is_in))
            (λ put. subst (λ (z : Entry). Each z.precisions) (sym put.0) (at.each c.entry c.is_in))
            c.how;
        lines = replaced_lines R Root next old xs merged
            (record {
              parent = λ d edge fs in_d is r. laws.parent new o.elems qs merged size
                  (at.sized o there) precise row edge fs
                  (subst (λ (ys : List Elem). R edge ys fs) (sym (own d in_d is)) r);
              child = λ d edge fs in_d is r. laws.child new o.elems qs merged size
                  (at.sized o there) precise row edge fs
                  (subst (R edge fs) (sym (own d in_d is)) r);
              root = λ d in_d is r. laws.root new o.elems qs merged size (at.sized o there) precise
                  row (subst Root (sym (own d in_d is)) r);
            })
            at.below at.lines;
        current = let low = renamed_below old next a.current known in omega (arith, low);
        stands = λ e in_e is edge fs r. let c = from e in_e in
            ⊎_elim
            (λ kept.
            let number : c.entry.number ≡ rename old next a.current =
            ap (λ (z : Entry). z.number) (sym kept.0) ∙ is in
            let less = at.below.below c.entry c.is_in in
            ⊎_elim
            (λ yes. let now = yes.1 in absurd (omega (arith, number, now, less)))
            (λ no. subst (λ (z : Entry). R edge z.elems fs) (sym kept.0)
            (at.stands c.entry c.is_in (number ∙ no.1) edge fs r))
            (renamed_at old next a.current))
            (λ put.
            let number : next ≡ rename old next a.current =
            ap (λ (z : Entry). z.number) (sym put.0) ∙ is in
            ⊎_elim
            (λ yes. subst (λ (z : Entry). R edge z.elems fs) (sym put.0)
            (laws.parent new o.elems qs merged size (at.sized o there) precise row edge fs
            (at.stands o there (sym yes.0) edge fs r)))
            (λ no. let same = no.1 in absurd (omega (arith, number, same, known)))
            (renamed_at old next a.current))
            c.how;
      }

  -- one comparison, and all of them
  compares_lined : (es : List Elem) (ps : List Precision) (new : List Elem) (qs : List Precision)
      (n : ℕ) (a b : Stage) → Relates es ps → length new ≡ length cs → length qs ≡ length cs
      → Compares cfa cs new qs n a b → LinedAt es a → LinedAt es b
  compares_lined es ps new qs n a b laws size precise (inl leaves) at =
      subst (LinedAt es) (sym leaves.is) at
  compares_lined es ps new qs n a b laws size precise (inr replaces) at =
      subst (LinedAt es) (sym replaces.is)
      (replaced_lined es new qs ps replaces.elems replaces.entry a laws replaces.is_in size precise
      replaces.merged at)

  all_compares_lined : (es : List Elem) (ps : List Precision) (new : List Elem)
      (qs : List Precision) (ns : List ℕ) (a b : Stage) → Relates es ps
      → length new ≡ length cs → length qs ≡ length cs → ComparesAll cfa cs new qs ns a b
      → LinedAt es a → LinedAt es b
  all_compares_lined es ps new qs [] a b laws size precise is at = subst (LinedAt es) (sym is) at
  all_compares_lined es ps new qs (n ∷ ns) a b laws size precise all at =
      all_compares_lined es ps new qs ns all.0 b laws size precise all.2
      (compares_lined es ps new qs n a all.0 laws size precise all.1 at)

  -- covered or added
  ended_lined : (es new : List Elem) (qs : List Precision) (edge : ℕ) (o : Option ℕ) (m b : Stage)
      → length new ≡ length cs → R edge es new → Each qs → b ≡ covered_or_added new qs edge o m
      → LinedAt es m → LinedAt es b
  ended_lined es new qs edge (Some by) m b size comes one is at =
      subst (LinedAt es) (sym is) (noted_lined es by m at)
  ended_lined es new qs edge None m b size comes one is at =
      subst (LinedAt es) (sym is) (added_lined es new qs edge m size comes one at)

  -- the rows of an edge from a place on
  settles_lined : (es : List Elem) (ps : List Precision) (edge : ℕ) (rows : List (List Elem))
      (left : List (List Elem)) (place : ℕ) (a b : Stage) → Relates es ps
      → edge < length cfa.edges → SuccessorRows cs cfa edge es ps rows
      → ((k : ℕ) (row : List Elem) → slice_get left k ≡ Some row
      → slice_get rows (place + k) ≡ Some row)
      → SettlesAll cfa cs ps edge left a b → LinedAt es a → LinedAt es b
  settles_lined es ps edge rows [] place a b laws less made there is at =
      subst (LinedAt es) (sym is) at
  settles_lined es ps edge rows (row ∷ left) place a b laws less made there all at =
      let s = all.1 in
      let comes = laws.comes edge rows (place + 0) row a.reached.live s.elems s.precisions less made
      (there 0 row refl) s.adjusted in
      let one = laws.each edge rows (place + 0) row a.reached.live s.elems s.precisions less made
      (there 0 row refl) s.adjusted in
      let middle = all_compares_lined es ps s.elems s.precisions
      (numbers (fellows a.reached s.elems)) a s.compared laws s.adjusted.elems.size
      s.adjusted.precisions.size s.compares at in
      let first = ended_lined es s.elems s.precisions edge
      (first_cover cs s.elems (fellows s.compared.reached s.elems)) s.compared all.0
      s.adjusted.elems.size comes one s.is middle in
      settles_lined es ps edge rows left (place + 1) all.0 b laws less made
      (λ k next at_k.
      let same : place + 1 + k ≡ place + suc k = omega arith in
      subst (λ (j : ℕ). slice_get rows j ≡ Some next) (sym same) (there (suc k) next at_k))
      all.2 first

  -- all edges
  follows_lined : (es : List Elem) (ps : List Precision) (first count : ℕ) (a b : Stage)
      → Relates es ps → first + count ≤ length cfa.edges → FollowsAll cfa cs es ps first count a b
      → LinedAt es a → LinedAt es b
  follows_lined es ps first zero a b laws less is at = subst (LinedAt es) (sym is) at
  follows_lined es ps first (suc count) a b laws less all at =
      settles_lined es ps (first + count) all.2.rows all.2.rows 0 all.0 b laws
      (omega (arith, less)) all.2.successors
      (λ k row at_k. subst (λ (j : ℕ). slice_get all.2.rows j ≡ Some row) (zero_more k) at_k)
      all.2.settles
      (follows_lined es ps first count a all.0 laws (omega (arith, less)) all.1 at)
    where
      zero_more : (k : ℕ) → k ≡ 0 + k
      zero_more k = omega arith

  -- the whole work of a turn
  pub works_lined : (n : ℕ) (old new : ReachedSet) (works : Works cfa cs n old new)
      → Relates works.entry.elems works.entry.precisions → IsBelowNext old.next old.live
      → ((e : Entry) → IsIn e old.live → length e.elems ≡ length cs)
      → ((d e : Entry) → IsIn d old.live → IsIn e old.live → d.number ≡ e.number
      → d.elems ≡ e.elems) → ((e : Entry) → IsIn e old.live → Each e.precisions)
      → AreLines R Root old.live
      → AreLines R Root new.live × ((e : Entry) → IsIn e new.live → Each e.precisions)
      × ((d e : Entry) → IsIn d new.live → IsIn e new.live → d.number ≡ e.number
      → d.elems ≡ e.elems)
  works_lined n old new works laws below sized alike each lines =
      let x = works.entry in
      let edges = works.expands in
      let low = below.below x works.is_in in
      let is = works.number in
      let last = follows_lined x.elems x.precisions edges.first edges.count (taking old n)
      works.last
      laws edges.within edges.follows
      (record {
        below = below;
        sized = sized;
        alike = alike;
        each = each;
        lines = lines;
        current = omega (arith, low, is);
        stands = λ e there same edge fs r.
            subst (λ (es : List Elem). R edge es fs)
            (alike x e works.is_in there (is ∙ sym same)) r;
      }) in
      subst (λ (s : ReachedSet). AreLines R Root s.live
      × ((e : Entry) → IsIn e s.live → Each e.precisions)
      × ((d e : Entry) → IsIn d s.live → IsIn e s.live → d.number ≡ e.number
      → d.elems ≡ e.elems)) (sym works.closed)
      (last.lines, last.each, last.alike)

-- ---- a turn

pub member_of : {X : Type 0} (P : X → Type 0) (xs : List X) (x : X) → AllByRecursion P xs
    → IsIn x xs → P x
member_of P [] x all there = absurd there
member_of P (y ∷ xs) x all (inl same) = subst P same all.0
member_of P (y ∷ xs) x all (inr later) = member_of P xs x all.1 later

pub each_at : {X : Type 0} (P : X → Type 0) (xs : List X) (k : ℕ) (x : X) → AllByRecursion P xs
    → slice_get xs k ≡ Some x → P x
each_at P [] k x all at = absurd (cc)
each_at P (y ∷ xs) zero x all at = subst P (same_Some y x at) all.0
each_at P (y ∷ xs) (suc k) x all at = each_at P xs k x all.1 at

-- the edges by which entries came
pub edges_of : (cfa : Cfa) (count : ℕ) (xs : List Entry) → AreEntries cfa count xs → (e : Entry)
    (p edge : ℕ) → IsIn e xs → e.parent ≡ Some (p, edge) → edge < length cfa.edges
edges_of cfa count xs are e p edge there has =
    by e.parent (member_of (HasEdge cfa) xs e are.edges there) has
  where
    by : (o : Option (ℕ × ℕ)) → IfSome o (λ q. q.1 < length cfa.edges) → o ≡ Some (p, edge)
        → edge < length cfa.edges
    by None is same = absurd (cc)
    by (Some q) is same =
        subst (λ (r : ℕ × ℕ). r.1 < length cfa.edges) (same_Some q (p, edge) same) is

-- and their sizes
pub shape_of : (cfa : Cfa) (count : ℕ) (xs : List Entry) → AreEntries cfa count xs → (e : Entry)
    → IsIn e xs → IsEntryOf cfa count e
shape_of cfa count xs are e there = member_of (IsEntryOf cfa count) xs e are.each there

pub sizes : (cfa : Cfa) (count : ℕ) (xs : List Entry) → AreEntries cfa count xs → (e : Entry)
    → IsIn e xs → length e.elems ≡ count
sizes cfa count xs are e there = (shape_of cfa count xs are e there).elems.size

below_next : (r : ReachedSet) → IsNumbered r → IsBelowNext r.next r.live
below_next r numbered = record {
  below = λ e there. in_all (λ n. n < r.next) (numbers r.live) e.number numbered.below
      (entry_in e r.live there);
  parents = λ e p edge there has.
      let known = numbered.parents e p edge there has in
      let less = in_all (λ n. n < r.next) (numbers r.live) known.entry.number numbered.below
      (entry_in known.entry r.live known.is_in) in
      let is = known.is in omega (arith, less, is);
}

pub turn_lined : (cfa : Cfa) (cs : List Component) (R : ℕ → List Elem → List Elem → Type 0)
    (Root : List Elem → Type 0) (Each : List Precision → Type 0) (order : Order)
    (old new : ReachedSet) → IsNumbered old → AreEntries cfa (length cs) old.live
    → Turned cfa cs order old new
    → ((e : Entry) → IsIn e old.live → Relates cfa cs R Root Each e.elems e.precisions)
    → ((e : Entry) → IsIn e old.live → Each e.precisions) → AreLines R Root old.live
    → AreLines R Root new.live × ((e : Entry) → IsIn e new.live → Each e.precisions)
    × ((d e : Entry) → IsIn d new.live → IsIn e new.live → d.number ≡ e.number
    → d.elems ≡ e.elems)
turn_lined cfa cs R Root Each order old new numbered are turned relates each lines =
    let n = turned.row.taken in
    let xs = (taken n old).live in
    let from = rested_from n old.live in
    let works = turned.works in
    let low = below_next old numbered in
    let x = from works.entry works.is_in in
    works_lined cfa cs R Root Each n (taken n old) new works
    (subst (λ (es : List Elem). Relates cfa cs R Root Each es works.entry.precisions)
    (sym x.same.elems)
    (subst (λ (ps : List Precision). Relates cfa cs R Root Each x.entry.elems ps)
    (sym x.same.precisions) (relates x.entry x.is_in)))
    (record {
      below = λ e there. let was = from e there in
          let less = low.below was.entry was.is_in in
          let is = was.same.number in omega (arith, less, is);
      parents = λ e p edge there has. let was = from e there in
          low.parents was.entry p edge was.is_in (sym was.same.parent ∙ has);
    })
    (λ e there. let was = from e there in
    ap (λ (es : List Elem). length es) was.same.elems
    ∙ sizes cfa (length cs) old.live are was.entry was.is_in)
    (λ d e in_d in_e same.
    let a = from d in_d in
    let b = from e in_e in
    a.same.elems
    ∙ ap (λ (y : Entry). y.elems) (one_entry old.live a.entry b.entry numbered.ascend a.is_in
    b.is_in
    (sym a.same.number ∙ same ∙ b.same.number))
    ∙ sym b.same.elems)
    (λ e there. let was = from e there in
    subst Each (sym was.same.precisions) (each was.entry was.is_in))
    (same_lines R Root old.live xs from lines)

-- after a turn, too, a number tells the elements
pub turn_alike : (cfa : Cfa) (cs : List Component) (order : Order) (old new : ReachedSet)
    → IsNumbered old → AreEntries cfa (length cs) old.live → Turned cfa cs order old new
    → (d e : Entry) → IsIn d new.live → IsIn e new.live → d.number ≡ e.number
    → d.elems ≡ e.elems
turn_alike cfa cs order old new numbered are turned =
    (turn_lined cfa cs (λ edge es fs. ⊤) (λ es. ⊤) (λ ps. ⊤) order old new numbered are turned
    (λ e there. record {
      comes = λ edge rows k row reached after next less made at adjusted. tt;
      each = λ edge rows k row reached after next less made at adjusted. tt;
      parent = λ new old qs merged a b c row edge fs r. tt;
      child = λ new old qs merged a b c row edge fs r. tt;
      root = λ new old qs merged a b c row r. tt;
    })
    (λ e there. tt)
    (record { roots = λ e there none. tt; steps = λ e f p edge in_e in_f has is. tt })).2
