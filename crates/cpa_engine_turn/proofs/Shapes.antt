-- Each step keeps the shape of the entries (`entries_along`).
use Rattle.std.proofs.Common.{◌≡◌, ℕ, ◌<◌, Bool, not, eqb, cond, List, [], ◌∷◌, ◌++◌}
use Rattle.std.proofs.Common.{length, map, Option, Some, None, sym, subst, inl, inr}
use Rattle.std.specs.Prelude.{IfSome}
use Rattle.std.specs.List.{filter, AllByRecursion}
use Rattle.std.proofs.lemmas.Bool.{cond_both}
use Rattle.cpa_model.specs.declared.automaton.Cfa.{Cfa}
use Rattle.cpa_iface.specs.declared.entries.Entry.{Entry}
use Rattle.cpa_composite.specs.Components.{Component, IsEntryOf}
use Rattle.cpa_reached.specs.Members.{IsIn}
use Rattle.cpa_reached.specs.Calls.{gains, fresh, renamed, rename_parent, replacing, others, those}
use Rattle.cpa_reached.specs.Calls.{at_number, rests}
use Rattle.cpa_engine_turn.specs.Turns.{AreEntries, HasEdge}
use Rattle.cpa_engine_turn.proofs.Chains.{kept_along}
use Rattle.cpa_engine_turn.specs.Stages.{Stage}
use Rattle.cpa_engine_turn.specs.Steps.{Does, Leads}

pub each_in : {X : Type 0} (P : X → Type 0) (xs : List X) (x : X) → AllByRecursion P xs → IsIn x xs
    → P x
each_in P [] x all there = absurd there
each_in P (y ∷ xs) x all (inl same) = subst P same all.0
each_in P (y ∷ xs) x all (inr later) = each_in P xs x all.1 later

pub all_after : {X : Type 0} (P : X → Type 0) (g : X → X) (xs : List X)
    → ((x : X) → P x → P (g x)) → AllByRecursion P xs → AllByRecursion P (map g xs)
all_after P g [] each all = tt
all_after P g (x ∷ xs) each all = (each x all.0, all_after P g xs each all.1)

pub all_both : {X : Type 0} (P : X → Type 0) (xs ys : List X) → AllByRecursion P xs
    → AllByRecursion P ys → AllByRecursion P (xs ++ ys)
all_both P [] ys a b = b
all_both P (x ∷ xs) ys a b = (a.0, all_both P xs ys a.1 b)

pub all_kept : {X : Type 0} (P : X → Type 0) (keep : X → Bool) (xs : List X) → AllByRecursion P xs
    → AllByRecursion P (filter keep xs)
all_kept P keep [] all = tt
all_kept P keep (x ∷ xs) all =
    cond_both (keep x) (x ∷ filter keep xs) (filter keep xs) (AllByRecursion P)
    (λ _. (all.0, all_kept P keep xs all.1)) (λ _. all_kept P keep xs all.1)

-- the entry has the shape
record HasShape (cfa : Cfa) (count : ℕ) (e : Entry) : Type 0 where
  entry : IsEntryOf cfa count e
  edge : HasEdge cfa e

shapes_of : (cfa : Cfa) (count : ℕ) (xs : List Entry) → AllByRecursion (IsEntryOf cfa count) xs
    → AllByRecursion (HasEdge cfa) xs → AllByRecursion (HasShape cfa count) xs
shapes_of cfa count [] a b = tt
shapes_of cfa count (x ∷ xs) a b =
    (record { entry = a.0; edge = b.0 }, shapes_of cfa count xs a.1 b.1)

each_entry : (cfa : Cfa) (count : ℕ) (xs : List Entry) → AllByRecursion (HasShape cfa count) xs
    → AllByRecursion (IsEntryOf cfa count) xs
each_entry cfa count [] all = tt
each_entry cfa count (x ∷ xs) all = (all.0.entry, each_entry cfa count xs all.1)

each_edge : (cfa : Cfa) (count : ℕ) (xs : List Entry) → AllByRecursion (HasShape cfa count) xs
    → AllByRecursion (HasEdge cfa) xs
each_edge cfa count [] all = tt
each_edge cfa count (x ∷ xs) all = (all.0.edge, each_edge cfa count xs all.1)

gains_shape : (cfa : Cfa) (count n by : ℕ) (x : Entry) → HasShape cfa count x
    → HasShape cfa count (cond (eqb x.number n) (gains by x) x)
gains_shape cfa count n by x shape =
    cond_both (eqb x.number n) (gains by x) x (HasShape cfa count)
    (λ _. record {
      entry = record { elems = shape.entry.elems; precisions = shape.entry.precisions };
      edge = shape.edge;
    })
    (λ _. shape)

rename_edge : (cfa : Cfa) (old next : ℕ) (parent : Option (ℕ × ℕ))
    → IfSome parent (λ p. p.1 < length cfa.edges)
    → IfSome (rename_parent old next parent) (λ p. p.1 < length cfa.edges)
rename_edge cfa old next None edge = edge
rename_edge cfa old next (Some p) edge = edge

shapes_step : (cfa : Cfa) (cs : List Component) (a b : Stage)
    → AllByRecursion (HasShape cfa (length cs)) a.reached.live → Does cfa cs a b
    → AllByRecursion (HasShape cfa (length cs)) b.reached.live
shapes_step cfa cs a b all (inl notes) =
    let P = HasShape cfa (length cs) in
    subst (λ (m : Stage). AllByRecursion P m.reached.live) (sym notes.is)
    (all_after P (λ (x : Entry). cond (eqb x.number a.current) (gains notes.by x) x)
    a.reached.live (gains_shape cfa (length cs) a.current notes.by) all)
shapes_step cfa cs a b all (inr (inl adds)) =
    let P = HasShape cfa (length cs) in
    let g : Entry → Entry =
    λ x. cond (eqb x.number a.current) (gains a.reached.next x) x in
    let new = fresh a.reached.next adds.elems adds.precisions (Some (a.current, adds.edge)) in
    subst (λ (m : Stage). AllByRecursion P m.reached.live) (sym adds.is)
    (all_both P (map g a.reached.live) (new ∷ [])
    (all_after P g a.reached.live
    (gains_shape cfa (length cs) a.current a.reached.next) all) (
      record {
        entry = record { elems = adds.are_elems; precisions = adds.are_precisions };
        edge = adds.is_edge;
      },
      tt,
    ))
shapes_step cfa cs a b all (inr (inr replaces)) =
    let P = HasShape cfa (length cs) in
    let o = replaces.entry.number in
    let next = a.reached.next in
    subst (λ (m : Stage). AllByRecursion P m.reached.live) (sym replaces.is)
    (all_both P (map (renamed o next) (others o a.reached.live))
    (map (replacing next replaces.elems) (those o a.reached.live))
    (all_after P (renamed o next) (others o a.reached.live)
    (λ x shape. record {
      entry = record { elems = shape.entry.elems; precisions = shape.entry.precisions };
      edge = rename_edge cfa o next x.parent shape.edge;
    })
    (all_kept P (λ (x : Entry). not (eqb x.number o)) a.reached.live all))
    (all_after P (replacing next replaces.elems) (those o a.reached.live)
    (λ x shape. record {
      entry = record { elems = replaces.merged.elems; precisions = shape.entry.precisions };
      edge = shape.edge;
    })
    (all_kept P (λ (x : Entry). eqb x.number o) a.reached.live all)))

pub entries_along : (cfa : Cfa) (cs : List Component) (a b : Stage) → Leads cfa cs a b
    → AreEntries cfa (length cs) a.reached.live → AreEntries cfa (length cs) b.reached.live
entries_along cfa cs a b leads are =
    let all = kept_along cfa cs
    (λ (m : Stage). AllByRecursion (HasShape cfa (length cs)) m.reached.live)
    (λ m c p does. shapes_step cfa cs m c p does) a b leads
    (shapes_of cfa (length cs) a.reached.live are.each are.edges) in
    record {
      each = each_entry cfa (length cs) b.reached.live all;
      edges = each_edge cfa (length cs) b.reached.live all;
    }

-- the same of other components that are these
pub entries_on : (cfa : Cfa) (cs ds : List Component) (a b : Stage) → ds ≡ cs → Leads cfa cs a b
    → AreEntries cfa (length cs) a.reached.live → AreEntries cfa (length ds) b.reached.live
entries_on cfa cs ds a b same leads are =
    subst (λ (es : List Component). AreEntries cfa (length es) b.reached.live) (sym same)
    (entries_along cfa cs a b leads are)

rests_shape : (cfa : Cfa) (count n : ℕ) (x : Entry) → HasShape cfa count x
    → HasShape cfa count (cond (eqb x.number n) (rests x) x)
rests_shape cfa count n x shape =
    cond_both (eqb x.number n) (rests x) x (HasShape cfa count)
    (λ _. record {
      entry = record { elems = shape.entry.elems; precisions = shape.entry.precisions };
      edge = shape.edge;
    })
    (λ _. shape)

-- the entries after one was taken
pub taken_entries : (cfa : Cfa) (count n : ℕ) (xs : List Entry) → AreEntries cfa count xs
    → AreEntries cfa count (at_number n rests xs)
taken_entries cfa count n xs are =
    let all = all_after (HasShape cfa count) (λ (x : Entry). cond (eqb x.number n) (rests x) x) xs
    (rests_shape cfa count n) (shapes_of cfa count xs are.each are.edges) in
    record {
      each = each_entry cfa count (at_number n rests xs) all;
      edges = each_edge cfa count (at_number n rests xs) all;
    }
