-- A state that is placed stays placed along a turn (`placed_along`).
use Rattle.std.proofs.Common.{◌≡◌, ◌≢◌, ℕ, Bool, true, not, eqb, cond, List, [], ◌∷◌}
use Rattle.std.proofs.Common.{◌++◌}
use Rattle.std.proofs.Common.{map, Some, refl, sym, ap, ◌∙◌, subst, inl, inr, ⊎_elim}
use Rattle.std.specs.Prelude.{◌⊎◌}
use Rattle.std.proofs.lemmas.Bool.{cond_both, cases_Bool, both_ways, eqb-true, eq-eqb}
use Rattle.cpa_model.specs.declared.automaton.Cfa.{Cfa}
use Rattle.cpa_model.specs.declared.facts.Elem.{Elem}
use Rattle.cpa_model.specs.declared.states.State.{State}
use Rattle.cpa_model.specs.Automata.{IsStateOf}
use Rattle.cpa_model.specs.Facts.{LiesIn}
use Rattle.cpa_iface.specs.declared.entries.Entry.{Entry}
use Rattle.cpa_iface.specs.declared.precisions.Precision.{Precision}
use Rattle.cpa_composite.specs.Components.{Component}
use Rattle.cpa_reached.specs.Members.{IsIn}
use Rattle.cpa_reached.specs.lemmas.MemberLaws.{map_in, append_front, append_back, filter_in}
use Rattle.cpa_reached.specs.lemmas.MemberLaws.{one_entry}
use Rattle.cpa_reached.specs.Entries.{IsLive}
use Rattle.cpa_reached.specs.Calls.{gains, fresh, rename, renamed, replacing, others, those}
use Rattle.cpa_reached.specs.Calls.{replaced}
use Rattle.cpa_reached.specs.Successors.{LiesInNamed}
use Rattle.cpa_engine_turn.specs.Turns.{LiesInEntry}
use Rattle.cpa_engine_turn.specs.lemmas.Lists.{in_front, last_in, in_map_of}
use Rattle.cpa_engine_turn.proofs.Effects.{Effect, effect, GoesOnIn, GivesWay, rename_cases}
use Rattle.cpa_engine_turn.proofs.Effects.{mild_forth, gains_mildly}
use Rattle.cpa_engine_turn.proofs.Chains.{kept_along}
use Rattle.cpa_engine_turn.specs.Stages.{Stage, noting, adding}
use Rattle.cpa_engine_turn.specs.Steps.{Does, Leads, IsServed, IsPlaced, IsOrdered}

-- it lies in an entry still
lies_still : (cfa : Cfa) (cs : List Component) (a b : Stage) (t : State) → Effect cfa cs a b
    → IsStateOf cfa t → LiesInEntry t a.reached.live → LiesInEntry t b.reached.live
lies_still cfa cs a b t e state lies =
    ⊎_elim
    (λ (on : GoesOnIn b.reached.live lies.entry). record {
      entry = on.entry;
      is_in = on.is_in;
      lies = subst (λ es. LiesIn t es) (sym on.alike.elems) lies.lies;
    })
    (λ (gives : GivesWay cfa b lies.entry). record {
      entry = gives.entry;
      is_in = gives.is_in;
      lies = gives.holds t state lies.lies;
    })
    (e.forth lies.entry lies.is_in)

-- an entry that gains a use: the others are as before
gains_serve : (t : State) (n by : ℕ) (xs : List Entry) (e : Entry)
    → (e.waiting ≡ true) ⊎ LiesInNamed t e.uses xs
    → let g : Entry → Entry = λ x. cond (eqb x.number n) (gains by x) x in
    ((g e).waiting ≡ true) ⊎ LiesInNamed t (g e).uses (map g xs)
gains_serve t n by xs e serves =
    let g : Entry → Entry = λ x. cond (eqb x.number n) (gains by x) x in
    let mild = gains_mildly n by in
    let uses : (k : ℕ) → IsIn k e.uses → IsIn k (g e).uses = λ k there.
    cond_both (eqb e.number n) (gains by e) e (λ y. IsIn k y.uses)
    (λ _. in_front e.uses (by ∷ []) k there) (λ _. there) in
    ⊎_elim (λ waits. inl ((mild.alike e).waiting ∙ waits))
    (λ (named : LiesInNamed t e.uses xs).
    let on = mild_forth g xs named.entry mild named.is_in in
    inr (record {
      entry = on.entry;
      is_in = on.is_in;
      named = subst (λ (k : ℕ). IsIn k (g e).uses) (sym on.alike.number)
          (uses named.entry.number named.named);
      lies = subst (λ es. LiesIn t es) (sym on.alike.elems) named.lies;
    })) serves

more_serve : (t : State) (xs ys : List Entry) (e : Entry)
    → (e.waiting ≡ true) ⊎ LiesInNamed t e.uses xs
    → (e.waiting ≡ true) ⊎ LiesInNamed t e.uses (xs ++ ys)
more_serve t xs ys e (inl waits) = inl waits
more_serve t xs ys e (inr named) = inr (record {
  entry = named.entry;
  is_in = append_front xs ys named.entry named.is_in;
  named = named.named;
  lies = named.lies;
})

notes_serve : (t : State) (a : Stage) (by : ℕ) → IsServed t a
    → IsServed t (noting by a)
notes_serve t a by served =
    let n = a.current in
    let g : Entry → Entry = λ x. cond (eqb x.number n) (gains by x) x in
    record {
      entry = g served.entry;
      is_in = map_in g a.reached.live served.entry served.is_in;
      number = ((gains_mildly n by).alike served.entry).number ∙ served.number;
      serves = gains_serve t n by a.reached.live served.entry served.serves;
    }

adds_serve : (t : State) (a : Stage) (es : List Elem) (ps : List Precision) (edge : ℕ)
    → IsServed t a
    → IsServed t (adding es ps edge a)
adds_serve t a es ps edge served =
    let n = a.current in
    let next = a.reached.next in
    let g : Entry → Entry = λ x. cond (eqb x.number n) (gains next x) x in
    let new = fresh next es ps (Some (n, edge)) in
    record {
      entry = g served.entry;
      is_in = append_front (map g a.reached.live) (new ∷ []) (g served.entry)
          (map_in g a.reached.live served.entry served.is_in);
      number = ((gains_mildly n next).alike served.entry).number ∙ served.number;
      serves = more_serve t (map g a.reached.live) (new ∷ []) (g served.entry)
          (gains_serve t n next a.reached.live served.entry served.serves);
    }

-- an entry goes on under its new name, or its successor holds of the state
record NamedOn (t : State) (o next : ℕ) (e : Entry) (ys : List Entry) : Type 0 where
  entry : Entry
  is_in : IsIn entry ys
  number : entry.number ≡ rename o next e.number
  lies : LiesIn t e.elems → LiesIn t entry.elems

replaces_serve : (cfa : Cfa) (t : State) (a : Stage) (old : Entry) (es : List Elem)
    → IsOrdered a.reached → IsIn old a.reached.live → IsStateOf cfa t
    → ((s : State) → IsStateOf cfa s → LiesIn s old.elems → LiesIn s es) → IsServed t a
    → (w : ℕ) → w ≡ rename old.number a.reached.next a.current
    → (e : Entry) × IsIn e (replaced a.reached old.number es).live × (e.number ≡ w)
    × ((e.waiting ≡ true) ⊎ LiesInNamed t e.uses (replaced a.reached old.number es).live)
replaces_serve cfa t a old es ordered in_old state holds served w is_w =
    let o = old.number in
    let next = a.reached.next in
    let xs = a.reached.live in
    let keep : Entry → Bool = λ e. not (eqb e.number o) in
    let take : Entry → Bool = λ e. eqb e.number o in
    let front = map (renamed o next) (others o xs) in
    let behind = map (replacing next es) (those o xs) in
    let new = replacing next es old in
    let in_new : IsIn new (front ++ behind) =
    append_back front behind new
    (map_in (replacing next es) (those o xs) old
    (filter_in take xs old in_old (eq-eqb o o refl))) in
    let on : (x : Entry) → IsIn x xs → NamedOn t o next x (front ++ behind) =
    λ x there. ⊎_elim
    (λ (own : (x.number ≡ o) × (rename o next x.number ≡ next)).
    let same : x ≡ old = one_entry xs x old ordered.ascend there in_old own.0 in
    record {
      entry = new;
      is_in = in_new;
      number = sym own.1;
      lies = λ lies. holds t state (subst (λ (y : Entry). LiesIn t y.elems) same lies);
    })
    (λ (other : (x.number ≢ o) × (rename o next x.number ≡ x.number)).
    let no : keep x ≡ true = ⊎_elim (λ yes. absurd (other.0 (eqb-true x.number o yes)))
    (λ is. ap not is) (cases_Bool (eqb x.number o)) in
    record {
      entry = renamed o next x;
      is_in = append_front front behind (renamed o next x)
          (map_in (renamed o next) (others o xs) x (filter_in keep xs x there no));
      number = sym other.1;
      lies = λ lies. lies;
    })
    (rename_cases o next x.number) in
    let e = served.entry in
    ⊎_elim
    (λ (own : (e.number ≡ o) × (rename o next e.number ≡ next)).
    (new, in_new, sym own.1 ∙ (ap (rename o next) served.number ∙ sym is_w), inl refl))
    (λ (other : (e.number ≢ o) × (rename o next e.number ≡ e.number)).
    let no : keep e ≡ true = ⊎_elim (λ yes. absurd (other.0 (eqb-true e.number o yes)))
    (λ is. ap not is) (cases_Bool (eqb e.number o)) in (
      renamed o next e,
      append_front front behind (renamed o next e)
          (map_in (renamed o next) (others o xs) e (filter_in keep xs e served.is_in no)),
      sym other.1 ∙ (ap (rename o next) served.number ∙ sym is_w),
      ⊎_elim (λ waits. inl waits)
          (λ (named : LiesInNamed t e.uses xs).
          let goes = on named.entry named.is_in in
          inr (record {
            entry = goes.entry;
            is_in = goes.is_in;
            named = subst (λ (k : ℕ). IsIn k (map (rename o next) e.uses)) (sym goes.number)
                (in_map_of (rename o next) e.uses named.entry.number named.named);
            lies = goes.lies named.lies;
          })) served.serves,
    ))
    (rename_cases o next e.number)

served_still : (cfa : Cfa) (cs : List Component) (a b : Stage) (t : State) → IsOrdered a.reached
    → IsStateOf cfa t → Does cfa cs a b → IsServed t a → IsServed t b
served_still cfa cs a b t ordered state (inl notes) served =
    subst (IsServed t) (sym notes.is) (notes_serve t a notes.by served)
served_still cfa cs a b t ordered state (inr (inl adds)) served =
    subst (IsServed t) (sym adds.is)
    (adds_serve t a adds.elems adds.precisions adds.edge served)
served_still cfa cs a b t ordered state (inr (inr replaces)) served =
    let old = replaces.entry in
    let r = replaces_serve cfa t a old replaces.elems ordered replaces.is_in state
    replaces.merged.covers served (rename old.number a.reached.next a.current) refl in
    subst (IsServed t) (sym replaces.is)
    (record { entry = r.0; is_in = r.1; number = r.2; serves = r.3 })

record PlacedIn (t : State) (m : Stage) : Type 0 where
  ordered : IsOrdered m.reached
  placed : IsPlaced t m

pub placed_along : (cfa : Cfa) (cs : List Component) (a b : Stage) (t : State) → IsStateOf cfa t
    → Leads cfa cs a b → IsOrdered a.reached → IsPlaced t a → IsPlaced t b
placed_along cfa cs a b t state leads ordered placed =
    (kept_along cfa cs (PlacedIn t)
    (λ m c o does. let e = effect cfa cs m c o.ordered does in
    record {
      ordered = e.ordered;
      placed = record {
        lies = lies_still cfa cs m c t e state o.placed.lies;
        served = served_still cfa cs m c t o.ordered state does o.placed.served;
      };
    }) a b leads (record { ordered = ordered; placed = placed })).placed

-- where an entry that covers it is noted, the state is placed
pub noted_places : (t : State) (a : Stage) (by : Entry) → IsIn by a.reached.live
    → IsLive a.reached.live a.current → LiesIn t by.elems
    → IsPlaced t (noting by.number a)
noted_places t a by in_by current lies =
    let n = a.current in
    let g : Entry → Entry = λ x. cond (eqb x.number n) (gains by.number x) x in
    let mild = gains_mildly n by.number in
    let on = mild_forth g a.reached.live by mild in_by in
    let e = current.entry in
    let in_uses : IsIn by.number (g e).uses =
    cond_both (eqb e.number n) (gains by.number e) e (λ y. IsIn by.number y.uses)
    (λ _. last_in e.uses by.number)
    (λ no. absurd (both_ways (eqb e.number n) no (eq-eqb e.number n current.is))) in
    let there : LiesIn t on.entry.elems = subst (λ es. LiesIn t es) (sym on.alike.elems) lies in
    record {
      lies = record { entry = on.entry; is_in = on.is_in; lies = there };
      served = record {
        entry = g e;
        is_in = map_in g a.reached.live e current.is_in;
        number = (mild.alike e).number ∙ current.is;
        serves = inr (record {
          entry = on.entry;
          is_in = on.is_in;
          named = subst (λ (k : ℕ). IsIn k (g e).uses) (sym on.alike.number) in_uses;
          lies = there;
        });
      };
    }

-- where the successor itself is added, the state is placed
pub added_places : (t : State) (a : Stage) (es : List Elem) (ps : List Precision) (edge : ℕ)
    → IsLive a.reached.live a.current → LiesIn t es
    → IsPlaced t (adding es ps edge a)
added_places t a es ps edge current lies =
    let n = a.current in
    let next = a.reached.next in
    let g : Entry → Entry = λ x. cond (eqb x.number n) (gains next x) x in
    let new = fresh next es ps (Some (n, edge)) in
    let e = current.entry in
    let in_new : IsIn new (map g a.reached.live ++ new ∷ []) =
    append_back (map g a.reached.live) (new ∷ []) new (inl refl) in
    let in_uses : IsIn next (g e).uses =
    cond_both (eqb e.number n) (gains next e) e (λ y. IsIn next y.uses)
    (λ _. last_in e.uses next)
    (λ no. absurd (both_ways (eqb e.number n) no (eq-eqb e.number n current.is))) in
    record {
      lies = record { entry = new; is_in = in_new; lies = lies };
      served = record {
        entry = g e;
        is_in = append_front (map g a.reached.live) (new ∷ []) (g e)
            (map_in g a.reached.live e current.is_in);
        number = ((gains_mildly n next).alike e).number ∙ current.is;
        serves = inr (record { entry = new; is_in = in_new; named = in_uses; lies = lies });
      };
    }
