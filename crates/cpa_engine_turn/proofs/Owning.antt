-- Where all that do not tell entries apart widen, entries keep keys of their own (`turned_keys`).
use Rattle.std.proofs.Common.{◌≡◌, ◌≢◌, ℕ, Bool, false, not, eqb, cond, List, [], ◌∷◌}
use Rattle.std.proofs.Common.{◌++◌}
use Rattle.std.proofs.Common.{map, Some, refl, sym, ap, ◌∙◌, subst, inl, inr, ⊎_elim}
use Rattle.std.specs.Prelude.{◌⊎◌}
use Rattle.std.specs.List.{AllByRecursion}
use Rattle.std.proofs.lemmas.Bool.{cond_both, both_ways, eq-eqb}
use Rattle.cpa_model.specs.declared.automaton.Cfa.{Cfa}
use Rattle.cpa_model.specs.declared.facts.Elem.{Elem}
use Rattle.cpa_iface.specs.declared.entries.Entry.{Entry}
use Rattle.cpa_composite.specs.Components.{Component}
use Rattle.cpa_composite.specs.Covers.{all_cover}
use Rattle.cpa_reached.specs.Members.{IsIn}
use Rattle.cpa_reached.specs.lemmas.MemberLaws.{in_map, in_append, in_filter, one_entry}
use Rattle.cpa_reached.specs.Entries.{ReachedSet}
use Rattle.cpa_reached.specs.Calls.{gains, fresh, renamed, replacing, others, those, taken, rests}
use Rattle.cpa_engine_turn.specs.Keys.{key_of, WidenBesideKeys, HaveOwnKeys, CoversKey, rows_of}
use Rattle.cpa_engine_turn.proofs.Chains.{kept_along}
use Rattle.cpa_engine_turn.specs.lemmas.Keyed.{merged_key}
use Rattle.cpa_engine_turn.proofs.Effects.{effect, gains_mildly}
use Rattle.cpa_engine_turn.specs.lemmas.Lists.{in_map_of}
use Rattle.cpa_engine_turn.proofs.Shapes.{each_in}
use Rattle.cpa_engine_turn.specs.Stages.{Stage, taking}
use Rattle.cpa_engine_turn.specs.Steps.{IsOrdered, Does, Leads, GoesOn}

-- an entry with the number and the key of one of before
record Keyed (cs : List Component) (xs : List Entry) (y : Entry) : Type 0 where
  entry : Entry
  is_in : IsIn entry xs
  number : y.number ≡ entry.number
  key : key_of cs y.elems ≡ key_of cs entry.elems

-- entries whose numbers and keys are those of before
still_own : (cs : List Component) (xs ys : List Entry) → ((y : Entry) → IsIn y ys → Keyed cs xs y)
    → HaveOwnKeys cs xs → HaveOwnKeys cs ys
still_own cs xs ys from own e f in_e in_f same =
    let a = from e in_e in
    let b = from f in_f in
    a.number ∙ (own a.entry b.entry a.is_in b.is_in (sym a.key ∙ (same ∙ b.key)) ∙ sym b.number)

gained_keyed : (cs : List Component) (n by : ℕ) (xs : List Entry) (y : Entry)
    → IsIn y (map (λ (x : Entry). cond (eqb x.number n) (gains by x) x) xs) → Keyed cs xs y
gained_keyed cs n by xs y there =
    let g : Entry → Entry = λ x. cond (eqb x.number n) (gains by x) x in
    let from = in_map g xs y there in
    let alike = (gains_mildly n by).alike from.0 in
    record {
      entry = from.0;
      is_in = from.1;
      number = ap (λ (z : Entry). z.number) from.2 ∙ alike.number;
      key = ap (key_of cs) (ap (λ (z : Entry). z.elems) from.2 ∙ alike.elems);
    }

-- a row that nothing covers has another key
other_key : (cs : List Component) (es : List Elem) (xs : List Entry) (x : Entry)
    → AllByRecursion (CoversKey cs es) (rows_of xs) → IsIn x xs
    → (key_of cs es ≡ key_of cs x.elems → all_cover cs es x.elems ≡ false)
    → key_of cs x.elems ≢ key_of cs es
other_key cs es xs x compared there uncovered same =
    both_ways (all_cover cs es x.elems) (uncovered (sym same))
    (each_in (CoversKey cs es) (rows_of xs) x.elems compared
    (in_map_of (λ (e : Entry). e.elems) xs x there) same)

adds_own : (cfa : Cfa) (cs : List Component) (a : Stage) (adds_next : ℕ) (es : List Elem)
    (new : Entry) → new.number ≡ adds_next → new.elems ≡ es
    → AllByRecursion (CoversKey cs es) (rows_of a.reached.live)
    → ((e : Entry) → IsIn e a.reached.live → key_of cs es ≡ key_of cs e.elems
    → all_cover cs es e.elems ≡ false)
    → HaveOwnKeys cs a.reached.live
    → HaveOwnKeys cs (map (λ (x : Entry). cond (eqb x.number a.current) (gains adds_next x) x)
    a.reached.live ++ new ∷ [])
adds_own cfa cs a next es new number is_es compared uncovered own e f in_e in_f same =
    let xs = a.reached.live in
    let g : Entry → Entry = λ x. cond (eqb x.number a.current) (gains next x) x in
    let split : (y : Entry) → IsIn y (map g xs ++ new ∷ []) → Keyed cs xs y ⊎ (new ≡ y) =
    λ y there. ⊎_elim (λ old. inl (gained_keyed cs a.current next xs y old))
    (λ last. ⊎_elim (λ is. inr is) (λ none. absurd none) last)
    (in_append (map g xs) (new ∷ []) y there) in
    let differ : (y z : Entry) → Keyed cs xs y → new ≡ z → key_of cs y.elems ≡ key_of cs z.elems
    → ⊥ =
    λ y z old is_new keys.
    other_key cs es xs old.entry compared old.is_in (uncovered old.entry old.is_in)
    (sym old.key ∙ (keys ∙ ap (key_of cs) (ap (λ (w : Entry). w.elems) (sym is_new) ∙ is_es))) in
    ⊎_elim
    (λ old_e. ⊎_elim
    (λ old_f. old_e.number
    ∙ (own old_e.entry old_f.entry old_e.is_in old_f.is_in (sym old_e.key ∙ (same ∙ old_f.key))
    ∙ sym old_f.number))
    (λ new_f. absurd (differ e f old_e new_f same)) (split f in_f))
    (λ new_e. ⊎_elim
    (λ old_f. absurd (differ f e old_f new_e (sym same)))
    (λ new_f. ap (λ (w : Entry). w.number) (sym new_e ∙ new_f)) (split f in_f))
    (split e in_e)

replaces_own : (cs : List Component) (next : ℕ) (xs : List Entry) (old : Entry) (es : List Elem)
    → ((x : Entry) → IsIn x xs → x.number ≡ old.number → x ≡ old) → IsIn old xs
    → key_of cs es ≡ key_of cs old.elems → HaveOwnKeys cs xs
    → HaveOwnKeys cs (map (renamed old.number next) (others old.number xs)
    ++ map (replacing next es) (those old.number xs))
replaces_own cs next xs old es one in_old key own e f in_e in_f same =
    let o = old.number in
    let keep : Entry → Bool = λ x. not (eqb x.number o) in
    let take : Entry → Bool = λ x. eqb x.number o in
    let split : (y : Entry)
    → IsIn y (map (renamed o next) (others o xs) ++ map (replacing next es) (those o xs))
    → (Keyed cs xs y × (y.number ≢ o)) ⊎ ((y.number ≡ next) × (y.elems ≡ es)) =
    λ y there. ⊎_elim
    (λ kept. let from = in_map (renamed o next) (others o xs) y kept in
    let was = in_filter keep xs from.0 from.1 in
    let number : y.number ≡ from.0.number = ap (λ (z : Entry). z.number) from.2 in
    inl (
      record {
        entry = from.0;
        is_in = was.0;
        number = number;
        key = ap (λ (z : Entry). key_of cs z.elems) from.2;
      },
      λ is. both_ways (keep from.0) (ap not (eq-eqb from.0.number o (sym number ∙ is))) was.1,
    ))
    (λ last. let from = in_map (replacing next es) (those o xs) y last in
    inr (ap (λ (z : Entry). z.number) from.2, ap (λ (z : Entry). z.elems) from.2))
    (in_append (map (renamed o next) (others o xs)) (map (replacing next es) (those o xs)) y
    there) in
    let differ : (y z : Entry) → Keyed cs xs y × (y.number ≢ o)
    → (z.number ≡ next) × (z.elems ≡ es) → key_of cs y.elems ≡ key_of cs z.elems → ⊥ =
    λ y z kept new keys.
    kept.1 (kept.0.number
    ∙ own kept.0.entry old kept.0.is_in in_old
    (sym kept.0.key ∙ (keys ∙ (ap (key_of cs) new.1 ∙ key)))) in
    ⊎_elim
    (λ old_e. ⊎_elim
    (λ old_f. old_e.0.number
    ∙ (own old_e.0.entry old_f.0.entry old_e.0.is_in old_f.0.is_in
    (sym old_e.0.key ∙ (same ∙ old_f.0.key)) ∙ sym old_f.0.number))
    (λ new_f. absurd (differ e f old_e new_f same)) (split f in_f))
    (λ new_e. ⊎_elim
    (λ old_f. absurd (differ f e old_f new_e (sym same)))
    (λ new_f. new_e.0 ∙ sym new_f.0) (split f in_f))
    (split e in_e)

own_step : (cfa : Cfa) (cs : List Component) (a b : Stage) → WidenBesideKeys cs
    → IsOrdered a.reached → Does cfa cs a b → HaveOwnKeys cs a.reached.live
    → HaveOwnKeys cs b.reached.live
own_step cfa cs a b all ordered (inl notes) own =
    subst (λ (m : Stage). HaveOwnKeys cs m.reached.live) (sym notes.is)
    (still_own cs a.reached.live
    (map (λ (x : Entry). cond (eqb x.number a.current) (gains notes.by x) x) a.reached.live)
    (λ y there. gained_keyed cs a.current notes.by a.reached.live y there) own)
own_step cfa cs a b all ordered (inr (inl adds)) own =
    let new = fresh a.reached.next adds.elems adds.precisions (Some (a.current, adds.edge)) in
    subst (λ (m : Stage). HaveOwnKeys cs m.reached.live) (sym adds.is)
    (adds_own cfa cs a a.reached.next adds.elems new refl refl (adds.compared all) adds.uncovered
    own)
own_step cfa cs a b all ordered (inr (inr replaces)) own =
    let old = replaces.entry in
    subst (λ (m : Stage). HaveOwnKeys cs m.reached.live) (sym replaces.is)
    (replaces_own cs a.reached.next a.reached.live old replaces.elems
    (λ x there is. one_entry a.reached.live x old ordered.ascend there replaces.is_in is)
    replaces.is_in
    (merged_key cfa cs replaces.successor old.elems replaces.precisions replaces.elems
    replaces.are_successor.size replaces.are_old.size replaces.are_precisions.size
    replaces.merged.elems.size replaces.merged.each) own)

record Own (cs : List Component) (m : Stage) : Type 0 where
  ordered : IsOrdered m.reached
  own : HaveOwnKeys cs m.reached.live

taken_keyed : (cs : List Component) (n : ℕ) (xs : List Entry) (y : Entry)
    → IsIn y (map (λ (x : Entry). cond (eqb x.number n) (rests x) x) xs) → Keyed cs xs y
taken_keyed cs n xs y there =
    let g : Entry → Entry = λ x. cond (eqb x.number n) (rests x) x in
    let from = in_map g xs y there in
    record {
      entry = from.0;
      is_in = from.1;
      number = ap (λ (z : Entry). z.number) from.2
          ∙ cond_both (eqb from.0.number n) (rests from.0) from.0
          (λ z. z.number ≡ from.0.number) (λ _. refl) (λ _. refl);
      key = ap (key_of cs) (ap (λ (z : Entry). z.elems) from.2
          ∙ cond_both (eqb from.0.number n) (rests from.0) from.0
          (λ z. z.elems ≡ from.0.elems) (λ _. refl) (λ _. refl));
    }

pub own_along : (cfa : Cfa) (cs : List Component) (a b : Stage) → WidenBesideKeys cs
    → Leads cfa cs a b → IsOrdered a.reached → HaveOwnKeys cs a.reached.live
    → HaveOwnKeys cs b.reached.live
own_along cfa cs a b all leads ordered own =
    (kept_along cfa cs (Own cs)
    (λ m c o does. record {
      ordered = (effect cfa cs m c o.ordered does).ordered;
      own = own_step cfa cs m c all o.ordered does o.own;
    })
    a b leads (record { ordered = ordered; own = own })).own

pub own_taken : (cs : List Component) (r : ReachedSet) (n : ℕ) → HaveOwnKeys cs r.live
    → HaveOwnKeys cs (taken n r).live
own_taken cs r n own =
    still_own cs r.live (taken n r).live (λ y there. taken_keyed cs n r.live y there) own

pub turned_keys : (cfa : Cfa) (cs : List Component) (r : ReachedSet) (n : ℕ) (new : ReachedSet)
    → WidenBesideKeys cs → GoesOn cfa cs n (taken n r) new → HaveOwnKeys cs r.live
    → HaveOwnKeys cs new.live
turned_keys cfa cs r n new all goes own =
    subst (λ (s : ReachedSet). HaveOwnKeys cs s.live) (sym goes.closed)
    (own_along cfa cs (taking (taken n r) n) goes.last all goes.leads goes.ordered
    (own_taken cs r n own))
