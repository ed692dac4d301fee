-- That the calls keep covered successors, one lemma a call. They are the proofs of a law, and for
-- crates above.
use Rattle.std.specs.Prelude.{◌≡◌, ℕ, Bool, true, false, not, cond, ◌||◌, List, [], ◌∷◌, ◌++◌}
use Rattle.std.specs.Prelude.{map, Some, None, refl}
use Rattle.std.proofs.Common.{eqb, sym, ap, ◌∙◌, subst, inl, inr, ⊎_elim}
use Rattle.std.specs.List.{list_any}
use Rattle.std.proofs.lemmas.Bool.{eqb-true, cond_both, cases_Bool}
use Rattle.std.proofs.lemmas.Bool.{both_ways}
use Rattle.cpa_model.specs.declared.automaton.Cfa.{Cfa}
use Rattle.cpa_model.specs.declared.facts.Elem.{Elem}
use Rattle.cpa_model.specs.declared.states.State.{State}
use Rattle.cpa_model.specs.Facts.{LiesIn}
use Rattle.cpa_model.specs.Automata.{IsStateOf, initial_state}
use Rattle.cpa_iface.specs.declared.precisions.Precision.{Precision}
use Rattle.cpa_iface.specs.declared.entries.Entry.{Entry}
use Rattle.cpa_model.specs.Ascending.{AreAscending}
use Rattle.cpa_reached.specs.Members.{IsIn, is_in}
use Rattle.cpa_reached.specs.Entries.{numbers}
use Rattle.cpa_reached.specs.Calls.{at_number, gains, with_precisions, fresh, rename}
use Rattle.cpa_reached.specs.Calls.{renamed, replacing, others, those, added_entries}
use Rattle.cpa_reached.specs.Calls.{replaced_entries}
use Rattle.cpa_reached.specs.Removal.{IsBelow, child, further, is_opened, opened, left, without}
use Rattle.cpa_reached.specs.Removal.{RemovesBelow}
use Rattle.cpa_reached.specs.Successors.{CoversSuccessors, HoldOfAll}
use Rattle.cpa_reached.specs.lemmas.MemberLaws.{one_entry, in_map}
use Rattle.cpa_reached.specs.lemmas.MemberLaws.{map_in, in_append, append_front, append_back}
use Rattle.cpa_reached.specs.lemmas.MemberLaws.{in_filter}
use Rattle.cpa_reached.specs.lemmas.MemberLaws.{filter_in}

-- the number is used still, after one more
used_more : (n : ℕ) (uses : List ℕ) (by : ℕ) → IsIn n uses → IsIn n (uses ++ by ∷ [])
used_more n [] by there = absurd there
used_more n (u ∷ uses) by (inl same) = inl same
used_more n (u ∷ uses) by (inr later) = inr (used_more n uses by later)

-- A change of each entry that leaves number, elements, parent and waiting, and takes no use away.
pub record IsGentle (g : Entry → Entry) : Type 0 where
  pub number : (e : Entry) → (g e).number ≡ e.number
  pub elems : (e : Entry) → (g e).elems ≡ e.elems
  pub parent : (e : Entry) → (g e).parent ≡ e.parent
  pub waiting : (e : Entry) → (g e).waiting ≡ e.waiting
  pub uses : (e : Entry) (n : ℕ) → IsIn n e.uses → IsIn n (g e).uses

pub gentle_covers : (cfa : Cfa) (g : Entry → Entry) (xs : List Entry) → IsGentle g
    → CoversSuccessors cfa xs → CoversSuccessors cfa (map g xs)
gentle_covers cfa g xs gentle covers = record {
  start = record {
    entry = g covers.start.entry;
    is_in = map_in g xs covers.start.entry covers.start.is_in;
    root = gentle.parent covers.start.entry ∙ covers.start.root;
    lies = subst (λ es. LiesIn (initial_state cfa) es) (sym (gentle.elems covers.start.entry))
        covers.start.lies;
  };
  successors = λ e s t there rests lies steps.
      let from = in_map g xs e there in
      let same : e ≡ g from.0 = from.2 in
      let found = covers.successors from.0 s t from.1
      (sym (gentle.waiting from.0) ∙ ap (λ (y : Entry). y.waiting) (sym same) ∙ rests)
      (subst (λ es. LiesIn s es) (ap (λ (y : Entry). y.elems) same ∙ gentle.elems from.0) lies)
      steps in
      record {
        entry = g found.entry;
        is_in = map_in g xs found.entry found.is_in;
        named = subst (λ (n : ℕ). IsIn n e.uses) (sym (gentle.number found.entry))
            (subst (λ (y : Entry). IsIn found.entry.number y.uses) (sym same)
            (gentle.uses from.0 found.entry.number found.named));
        lies = subst (λ es. LiesIn t es) (sym (gentle.elems found.entry)) found.lies;
      };
}

gains_gently : (n by : ℕ) → IsGentle (λ e. cond (eqb e.number n) (gains by e) e)
gains_gently n by = record {
  number = λ e. cond_both (eqb e.number n) (gains by e) e (λ y. y.number ≡ e.number) (λ _. refl)
      (λ _. refl);
  elems = λ e. cond_both (eqb e.number n) (gains by e) e (λ y. y.elems ≡ e.elems) (λ _. refl)
      (λ _. refl);
  parent = λ e. cond_both (eqb e.number n) (gains by e) e (λ y. y.parent ≡ e.parent) (λ _. refl)
      (λ _. refl);
  waiting = λ e. cond_both (eqb e.number n) (gains by e) e (λ y. y.waiting ≡ e.waiting) (λ _. refl)
      (λ _. refl);
  uses = λ e k there. cond_both (eqb e.number n) (gains by e) e (λ y. IsIn k y.uses)
      (λ _. used_more k e.uses by there) (λ _. there);
}

-- `note_use`
pub used-covers : (cfa : Cfa) (n by : ℕ) (xs : List Entry) → CoversSuccessors cfa xs
    → CoversSuccessors cfa (at_number n (gains by) xs)
used-covers cfa n by xs covers =
    gentle_covers cfa (λ e. cond (eqb e.number n) (gains by e) e) xs (gains_gently n by) covers

-- `set_precisions`
pub refined-covers : (cfa : Cfa) (n : ℕ) (ps : List Precision) (xs : List Entry)
    → CoversSuccessors cfa xs → CoversSuccessors cfa (at_number n (with_precisions ps) xs)
refined-covers cfa n ps xs covers =
    gentle_covers cfa (λ e. cond (eqb e.number n) (with_precisions ps e) e) xs
    (record {
      number = λ e. cond_both (eqb e.number n) (with_precisions ps e) e (λ y. y.number ≡ e.number)
          (λ _. refl) (λ _. refl);
      elems = λ e. cond_both (eqb e.number n) (with_precisions ps e) e (λ y. y.elems ≡ e.elems)
          (λ _. refl) (λ _. refl);
      parent = λ e. cond_both (eqb e.number n) (with_precisions ps e) e (λ y. y.parent ≡ e.parent)
          (λ _. refl) (λ _. refl);
      waiting = λ e. cond_both (eqb e.number n) (with_precisions ps e) e
          (λ y. y.waiting ≡ e.waiting) (λ _. refl) (λ _. refl);
      uses = λ e k there. cond_both (eqb e.number n) (with_precisions ps e) e (λ y. IsIn k y.uses)
          (λ _. there) (λ _. there);
    }) covers

-- `add`
pub added-covers : (cfa : Cfa) (next : ℕ) (xs : List Entry) (es : List Elem) (ps : List Precision)
    (parent : ℕ × ℕ)
    → CoversSuccessors cfa xs → CoversSuccessors cfa (added_entries next xs es ps parent)
added-covers cfa next xs es ps parent covers =
    let ys = at_number parent.0 (gains next) xs in
    let new = fresh next es ps (Some parent) in
    let before : CoversSuccessors cfa ys = used-covers cfa parent.0 next xs covers in
    record {
      start = record {
        entry = before.start.entry;
        is_in = append_front ys (new ∷ []) before.start.entry before.start.is_in;
        root = before.start.root;
        lies = before.start.lies;
      };
      successors = λ e s t there rests lies steps. ⊎_elim
          (λ old.
          let found = before.successors e s t old rests lies steps in
          record {
            entry = found.entry;
            is_in = append_front ys (new ∷ []) found.entry found.is_in;
            named = found.named;
            lies = found.lies;
          })
          (λ is_new. ⊎_elim
          (λ same. absurd (both_ways e.waiting rests (ap (λ (y : Entry). y.waiting) (sym same))))
          (λ none. absurd none) is_new)
          (in_append ys (new ∷ []) e there);
    }

-- `replace`
renamed_uses : (old next n : ℕ) (uses : List ℕ) → IsIn n uses
    → IsIn (rename old next n) (map (rename old next) uses)
renamed_uses old next n [] there = absurd there
renamed_uses old next n (u ∷ uses) (inl same) = inl (ap (λ (k : ℕ). rename old next k) same)
renamed_uses old next n (u ∷ uses) (inr later) = inr (renamed_uses old next n uses later)

-- each entry goes on, with all its states, under the number that replaces its own
record GoesOn (cfa : Cfa) (next old : ℕ) (xs : List Entry) (es : List Elem) (e : Entry) : Type 0
  where
    entry : Entry
    is_in : IsIn entry (replaced_entries next xs old es)
    number : entry.number ≡ rename old next e.number
    parent : e.parent ≡ None → entry.parent ≡ None
    lies : (s : State) → IsStateOf cfa s → LiesIn s e.elems → LiesIn s entry.elems

goes_on : (cfa : Cfa) (next old : ℕ) (xs : List Entry) (es : List Elem) (e : Entry) → IsIn e xs
    → HoldOfAll cfa xs old es → GoesOn cfa next old xs es e
goes_on cfa next old xs es e there holds =
    ⊎_elim
    (λ yes. record {
      entry = replacing next es e;
      is_in = append_back (map (renamed old next) (others old xs))
          (map (replacing next es) (those old xs)) (replacing next es e)
          (map_in (replacing next es) (those old xs) e
          (filter_in (λ x. eqb x.number old) xs e there yes));
      number = rw yes refl;
      parent = λ is. is;
      lies = λ s state lies. holds e s there (eqb-true e.number old yes) state lies;
    })
    (λ no. record {
      entry = renamed old next e;
      is_in = append_front (map (renamed old next) (others old xs))
          (map (replacing next es) (those old xs)) (renamed old next e)
          (map_in (renamed old next) (others old xs) e
          (filter_in (λ x. not (eqb x.number old)) xs e there (rw no refl)));
      number = rw no refl;
      parent = λ is. rw is refl;
      lies = λ s state lies. lies;
    })
    (cases_Bool (eqb e.number old))

pub replaced-covers : (cfa : Cfa) (next old : ℕ) (xs : List Entry) (es : List Elem)
    → IsStateOf cfa (initial_state cfa) → HoldOfAll cfa xs old es
    → CoversSuccessors cfa xs → CoversSuccessors cfa (replaced_entries next xs old es)
replaced-covers cfa next old xs es state holds covers = record {
  start =
      let on = goes_on cfa next old xs es covers.start.entry covers.start.is_in holds in
      record {
        entry = on.entry;
        is_in = on.is_in;
        root = on.parent covers.start.root;
        lies =
            on.lies (initial_state cfa) state covers.start.lies;
      };
  successors = λ e s t there rests lies steps. ⊎_elim
      (λ kept.
      let from = in_map (renamed old next) (others old xs) e kept in
      let was = in_filter (λ x. not (eqb x.number old)) xs from.0 from.1 in
      let same : e ≡ renamed old next from.0 = from.2 in
      let found = covers.successors from.0 s t was.0
      (sym (ap (λ (y : Entry). y.waiting) same) ∙ rests)
      (subst (λ (y : Entry). LiesIn s y.elems) same lies) steps in
      let on = goes_on cfa next old xs es found.entry found.is_in holds in
      record {
        entry = on.entry;
        is_in = on.is_in;
        named = subst (λ (n : ℕ). IsIn n e.uses) (sym on.number)
            (subst (λ (y : Entry). IsIn (rename old next found.entry.number) y.uses) (sym same)
            (renamed_uses old next found.entry.number from.0.uses found.named));
        lies = on.lies t steps.2.after found.lies;
      })
      (λ new.
      let from = in_map (replacing next es) (those old xs) e new in
      absurd (both_ways e.waiting rests (ap (λ (y : Entry). y.waiting) from.2)))
      (in_append (map (renamed old next) (others old xs)) (map (replacing next es) (those old xs)) e
      there);
}

-- `remove_below`
pub or_false : (x y : Bool) → (x || y) ≡ false → (x ≡ false) × (y ≡ false)
or_false true y none = absurd (cc)
or_false false y none = (refl, none)

-- no use of an entry that stays as it is goes
pub none_gone : (gone uses : List ℕ) (n : ℕ) → list_any (λ k. is_in k gone) uses ≡ false
    → IsIn n uses → is_in n gone ≡ false
none_gone gone [] n none there = absurd there
none_gone gone (u ∷ uses) n none (inl same) =
    subst (λ (k : ℕ). is_in k gone ≡ false) same
    (or_false (is_in u gone) (list_any (λ k. is_in k gone) uses) none).0
none_gone gone (u ∷ uses) n none (inr later) =
    none_gone gone uses n (or_false (is_in u gone) (list_any (λ k. is_in k gone) uses) none).1 later

pub left_elems : (gone : List ℕ) (pivot : ℕ) (e : Entry) → (left gone pivot e).elems ≡ e.elems
left_elems gone pivot e =
    cond_both (is_opened gone pivot e) (opened e) e (λ y. y.elems ≡ e.elems) (λ _. refl) (λ _. refl)

pub left_number : (gone : List ℕ) (pivot : ℕ) (e : Entry) → (left gone pivot e).number ≡ e.number
left_number gone pivot e =
    cond_both (is_opened gone pivot e) (opened e) e (λ y. y.number ≡ e.number) (λ _. refl)
    (λ _. refl)

pub left_parent : (gone : List ℕ) (pivot : ℕ) (e : Entry) → (left gone pivot e).parent ≡ e.parent
left_parent gone pivot e =
    cond_both (is_opened gone pivot e) (opened e) e (λ y. y.parent ≡ e.parent) (λ _. refl)
    (λ _. refl)

-- an entry that does not wait afterwards is as it was, and uses none that is gone
pub left_rests : (gone : List ℕ) (pivot : ℕ) (e : Entry) → (left gone pivot e).waiting ≡ false
    → (is_opened gone pivot e ≡ false) × (left gone pivot e ≡ e)
left_rests gone pivot e rests =
    cond_both (is_opened gone pivot e) (opened e) e
    (λ y. y.waiting ≡ false → (is_opened gone pivot e ≡ false) × (y ≡ e))
    (λ _ wrong. absurd (cc)) (λ no _. (no, refl)) rests

-- an entry without parent is no descendant
pub root_stays : (xs : List Entry) (pivot : ℕ) (e : Entry) → AreAscending (numbers xs) → IsIn e xs
    → e.parent ≡ None → (n : ℕ) → e.number ≡ n → IsBelow xs pivot n → ⊥
root_stays xs pivot e up there root n is (child m edge d in_d is_d has) =
    let same : e ≡ d = one_entry xs e d up there in_d (is ∙ sym is_d) in
    let wrong : e.parent ≡ Some (pivot, edge) = ap (λ (y : Entry). y.parent) same ∙ has in
    absurd (cc)
root_stays xs pivot e up there root n is (further m p edge d in_d is_d has below) =
    let same : e ≡ d = one_entry xs e d up there in_d (is ∙ sym is_d) in
    let wrong : e.parent ≡ Some (p, edge) = ap (λ (y : Entry). y.parent) same ∙ has in
    absurd (cc)

pub removed-covers : (cfa : Cfa) (pivot : ℕ) (xs ys : List Entry) → AreAscending (numbers xs)
    → RemovesBelow pivot xs ys → CoversSuccessors cfa xs → CoversSuccessors cfa ys
removed-covers cfa pivot xs ys up removes covers =
    let gone = removes.gone in
    let g : Entry → Entry = left gone pivot in
    let root = covers.start in
    let stays : is_in root.entry.number gone ≡ false = ⊎_elim
    (λ yes. absurd (root_stays xs pivot root.entry up root.is_in root.root root.entry.number refl
    (removes.only root.entry.number yes)))
    (λ no. no) (cases_Bool (is_in root.entry.number gone)) in
    subst (λ zs. CoversSuccessors cfa zs) (sym removes.is)
    (record {
      start = record {
        entry = g root.entry;
        is_in = map_in g (without gone xs) root.entry
            (filter_in (λ e. not (is_in e.number gone)) xs root.entry root.is_in (rw stays refl));
        root = left_parent gone pivot root.entry ∙ root.root;
        lies = subst (λ es. LiesIn (initial_state cfa) es) (sym (left_elems gone pivot root.entry))
            root.lies;
      };
      successors = λ e s t there rests lies steps.
          let from = in_map g (without gone xs) e there in
          let was = in_filter (λ x. not (is_in x.number gone)) xs from.0 from.1 in
          let same : e ≡ g from.0 = from.2 in
          let as_was = left_rests gone pivot from.0
          (ap (λ (y : Entry). y.waiting) (sym same) ∙ rests) in
          let is_old : e ≡ from.0 = same ∙ as_was.1 in
          let found = covers.successors from.0 s t was.0
          (ap (λ (y : Entry). y.waiting) (sym is_old) ∙ rests)
          (subst (λ (y : Entry). LiesIn s y.elems) is_old lies) steps in
          let unopened = or_false (eqb from.0.number pivot)
          (list_any (λ k. is_in k gone) from.0.uses) as_was.0 in
          let kept : is_in found.entry.number gone ≡ false =
          none_gone gone from.0.uses found.entry.number unopened.1 found.named in
          record {
            entry = g found.entry;
            is_in = map_in g (without gone xs) found.entry
                (filter_in (λ x. not (is_in x.number gone)) xs found.entry found.is_in
                (rw kept refl));
            named = subst (λ (n : ℕ). IsIn n e.uses) (sym (left_number gone pivot found.entry))
                (subst (λ (y : Entry). IsIn found.entry.number y.uses) (sym is_old) found.named);
            lies = subst (λ es. LiesIn t es) (sym (left_elems gone pivot found.entry)) found.lies;
          };
    })
