-- What the calls of a reached set make of entries keeps lines, one lemma a call.
use Rattle.std.proofs.Common.{◌≡◌, ℕ, ◌<◌, Bool, true, false, not, cond, eqb, List, [], ◌∷◌, map}
use Rattle.std.proofs.Common.{Option, Some, None, refl, sym, ap, ◌∙◌, subst, inl, inr, ⊎_elim}
use Rattle.std.proofs.Common.{arith}
use Rattle.std.specs.Prelude.{◌⊎◌}
use Rattle.std.proofs.lemmas.Bool.{cases_Bool, cond_both, eqb-true}
use Rattle.std.proofs.lemmas.Option.{same_Some}
use Rattle.cpa_model.specs.declared.facts.Elem.{Elem}
use Rattle.cpa_iface.specs.declared.entries.Entry.{Entry}
use Rattle.cpa_iface.specs.declared.precisions.Precision.{Precision}
use Rattle.cpa_reached.specs.Members.{IsIn}
use Rattle.cpa_reached.specs.lemmas.MemberLaws.{in_map, in_append, in_filter}
use Rattle.cpa_reached.specs.Calls.{at_number, rests, gains, fresh, rename, rename_parent, renamed}
use Rattle.cpa_reached.specs.Calls.{begun}
use Rattle.cpa_reached.specs.Calls.{replacing, others, those, added_entries, replaced_entries}
use Rattle.cpa_engine_laws.specs.Lines.{AreLines}

-- numbers and parents are below the next number
pub record IsBelowNext (next : ℕ) (xs : List Entry) : Type 0 where
  pub below : (e : Entry) → IsIn e xs → e.number < next
  pub parents : (e : Entry) (p edge : ℕ) → IsIn e xs → e.parent ≡ Some (p, edge) → p < next

-- what takes the place of the entry has what it had
pub record Stable (R : ℕ → List Elem → List Elem → Type 0) (Root : List Elem → Type 0)
    (xs : List Entry) (old : ℕ) (es : List Elem) : Type 0 where
  pub parent : (o : Entry) (edge : ℕ) (fs : List Elem) → IsIn o xs → o.number ≡ old
      → R edge o.elems fs → R edge es fs
  pub child : (o : Entry) (edge : ℕ) (fs : List Elem) → IsIn o xs → o.number ≡ old
      → R edge fs o.elems → R edge fs es
  pub root : (o : Entry) → IsIn o xs → o.number ≡ old → Root o.elems → Root es

-- the entry is that one, but for what it uses and whether it waits
pub record IsSame (x y : Entry) : Type 0 where
  pub number : y.number ≡ x.number
  pub elems : y.elems ≡ x.elems
  pub precisions : y.precisions ≡ x.precisions
  pub parent : y.parent ≡ x.parent

pub record HasSame (xs : List Entry) (y : Entry) : Type 0 where
  pub entry : Entry
  pub is_in : IsIn entry xs
  pub same : IsSame entry y

pub gained_from : (n by : ℕ) (xs : List Entry) (y : Entry) → IsIn y (at_number n (gains by) xs)
    → HasSame xs y
gained_from n by xs y there =
    let was = in_map (λ e. cond (eqb e.number n) (gains by e) e) xs y there in
    record {
      entry = was.0;
      is_in = was.1;
      same = subst (IsSame was.0) (sym was.2)
          (cond_both (eqb was.0.number n) (gains by was.0) was.0 (IsSame was.0)
          (λ _. record { number = refl; elems = refl; precisions = refl; parent = refl })
          (λ _. record { number = refl; elems = refl; precisions = refl; parent = refl }));
    }

pub added_from : (next : ℕ) (xs : List Entry) (es : List Elem) (ps : List Precision)
    (parent : ℕ × ℕ) (y : Entry) → IsIn y (added_entries next xs es ps parent)
    → HasSame xs y ⊎ (y ≡ fresh next es ps (Some parent))
added_from next xs es ps parent y there =
    ⊎_elim
    (λ front. inl (gained_from parent.0 next xs y front))
    (λ back. ⊎_elim (λ same. inr (sym same)) (λ none. absurd none) back)
    (in_append (at_number parent.0 (gains next) xs) (fresh next es ps (Some parent) ∷ []) y there)

-- an entry of the same number, elements and parent is there
pub record HasRow (xs : List Entry) (y : Entry) : Type 0 where
  pub entry : Entry
  pub is_in : IsIn entry xs
  pub number : y.number ≡ entry.number
  pub elems : y.elems ≡ entry.elems
  pub parent : y.parent ≡ entry.parent

-- what has the rows of what was there has its lines: serves taking, uses, precisions and removal
pub row_lines : (R : ℕ → List Elem → List Elem → Type 0) (Root : List Elem → Type 0)
    (xs ys : List Entry) → ((y : Entry) → IsIn y ys → HasRow xs y) → AreLines R Root xs
    → AreLines R Root ys
row_lines R Root xs ys back lines = record {
  roots = λ e there none.
      let was = back e there in
      subst Root (sym was.elems) (lines.roots was.entry was.is_in (sym was.parent ∙ none));
  steps = λ e f p edge in_e in_f has is.
      let e_was = back e in_e in
      let f_was = back f in_f in
      subst (λ (es : List Elem). R edge es e.elems) (sym f_was.elems)
      (subst (R edge f_was.entry.elems) (sym e_was.elems)
      (lines.steps e_was.entry f_was.entry p edge e_was.is_in f_was.is_in
      (sym e_was.parent ∙ has) (sym f_was.number ∙ is)));
}

pub same_lines : (R : ℕ → List Elem → List Elem → Type 0) (Root : List Elem → Type 0)
    (xs ys : List Entry) → ((y : Entry) → IsIn y ys → HasSame xs y) → AreLines R Root xs
    → AreLines R Root ys
same_lines R Root xs ys back lines =
    row_lines R Root xs ys
    (λ y there.
    let was = back y there in
    record {
      entry = was.entry;
      is_in = was.is_in;
      number = was.same.number;
      elems = was.same.elems;
      parent = was.same.parent;
    }) lines

-- an entry is added below a parent from which it comes
pub added_lines : (R : ℕ → List Elem → List Elem → Type 0) (Root : List Elem → Type 0) (next : ℕ)
    (xs : List Entry) (es : List Elem) (ps : List Precision) (parent : ℕ × ℕ)
    → IsBelowNext next xs → parent.0 < next
    → ((f : Entry) → IsIn f xs → f.number ≡ parent.0 → R parent.1 f.elems es)
    → AreLines R Root xs → AreLines R Root (added_entries next xs es ps parent)
added_lines R Root next xs es ps parent below known comes lines =
    let from = added_from next xs es ps parent in
    record {
      roots = λ e there none. ⊎_elim
          (λ was. subst Root (sym was.same.elems)
          (lines.roots was.entry was.is_in (sym was.same.parent ∙ none)))
          (λ is. let has = ap (λ (z : Entry). z.parent) is in absurd (cc))
          (from e there);
      steps = λ e f p edge in_e in_f has is. ⊎_elim
          (λ e_was. ⊎_elim
          (λ f_was. subst (λ (fs : List Elem). R edge fs e.elems) (sym f_was.same.elems)
          (subst (R edge f_was.entry.elems) (sym e_was.same.elems)
          (lines.steps e_was.entry f_was.entry p edge e_was.is_in f_was.is_in
          (sym e_was.same.parent ∙ has) (sym f_was.same.number ∙ is))))
          (λ f_is.
          let number = ap (λ (z : Entry). z.number) f_is in
          let less = below.parents e_was.entry p edge e_was.is_in (sym e_was.same.parent ∙ has) in
          absurd (omega (arith, less, number, is)))
          (from f in_f))
          (λ e_is.
          let same : Some parent ≡ Some (p, edge) =
          ap (λ (z : Entry). z.parent) (sym e_is) ∙ has in
          let pair : parent ≡ (p, edge) = same_Some parent (p, edge) same in
          let p_is : parent.0 ≡ p = ap (λ (t : ℕ × ℕ). t.0) pair in
          let edge_is : parent.1 ≡ edge = ap (λ (t : ℕ × ℕ). t.1) pair in
          ⊎_elim
          (λ f_was.
          subst (λ (fs : List Elem). R edge fs e.elems) (sym f_was.same.elems)
          (subst (R edge f_was.entry.elems) (ap (λ (z : Entry). z.elems) (sym e_is))
          (subst (λ (k : ℕ). R k f_was.entry.elems es) edge_is
          (comes f_was.entry f_was.is_in (sym f_was.same.number ∙ is ∙ sym p_is)))))
          (λ f_is.
          let number = ap (λ (z : Entry). z.number) f_is in
          absurd (omega (arith, known, number, is, p_is)))
          (from f in_f))
          (from e in_e);
    }

-- where a replacement comes from
pub record Came (next old : ℕ) (xs : List Entry) (es : List Elem) (y : Entry) : Type 0 where
  pub entry : Entry
  pub is_in : IsIn entry xs
  pub how : ((y ≡ renamed old next entry) × (eqb entry.number old ≡ false))
      ⊎ ((y ≡ replacing next es entry) × (entry.number ≡ old))

pub came : (next old : ℕ) (xs : List Entry) (es : List Elem) (y : Entry)
    → IsIn y (replaced_entries next xs old es) → Came next old xs es y
came next old xs es y there =
    ⊎_elim
    (λ front.
    let from = in_map (renamed old next) (others old xs) y front in
    let was = in_filter (λ e. not (eqb e.number old)) xs from.0 from.1 in
    record {
      entry = from.0;
      is_in = was.0;
      how = inl (
        from.2,
        not_true (eqb from.0.number old)
            was.1,
      );
    })
    (λ back.
    let from = in_map (replacing next es) (those old xs) y back in
    let was = in_filter (λ e. eqb e.number old) xs from.0 from.1 in
    record { entry = from.0; is_in = was.0; how = inr (from.2, eqb-true from.0.number old was.1) })
    (in_append (map (renamed old next) (others old xs)) (map (replacing next es) (those old xs)) y
    there)
  where
    not_true : (b : Bool) → not b ≡ true → b ≡ false
    not_true true is = absurd (cc)
    not_true false is = refl

-- the parent that a renamed entry names
pub named_parent : (old next p q edge : ℕ) (o : Option (ℕ × ℕ))
    → rename_parent old next o ≡ Some (q, edge)
    → (p : ℕ) × (o ≡ Some (p, edge)) × (q ≡ rename old next p)
named_parent old next p q edge None is = absurd (cc)
named_parent old next p q edge (Some (r, k)) is =
    let pair : (rename old next r, k) ≡ (q, edge) =
    same_Some (rename old next r, k) (q, edge) is in
    let q_is : rename old next r ≡ q = ap (λ (t : ℕ × ℕ). t.0) pair in
    let k_is : k ≡ edge = ap (λ (t : ℕ × ℕ). t.1) pair in
    (r, ap (λ (j : ℕ). Some (r, j)) k_is, sym q_is)

no_root : (old next : ℕ) (o : Option (ℕ × ℕ)) → rename_parent old next o ≡ None → o ≡ None
no_root old next None is = refl
no_root old next (Some (p, edge)) is = absurd (cc)

pub replaced_lines : (R : ℕ → List Elem → List Elem → Type 0) (Root : List Elem
    → Type 0) (next old : ℕ)
    (xs : List Entry) (es : List Elem) → Stable R Root xs old es → IsBelowNext next xs
    → AreLines R Root xs
    → AreLines R Root (replaced_entries next xs old es)
replaced_lines R Root next old xs es stable below lines = record {
  roots = λ e there none.
      let c = came next old xs es e there in
      ⊎_elim
      (λ kept. subst (λ (z : Entry). Root z.elems) (sym kept.0)
      (lines.roots c.entry c.is_in
      (no_root old next c.entry.parent (ap (λ (z : Entry). z.parent) (sym kept.0) ∙ none))))
      (λ new. subst (λ (z : Entry). Root z.elems) (sym new.0)
      (stable.root c.entry c.is_in new.1
      (lines.roots c.entry c.is_in (ap (λ (z : Entry). z.parent) (sym new.0) ∙ none))))
      c.how;
  steps = λ e f q edge in_e in_f has is.
      let d = came next old xs es f in_f in
      let c = came next old xs es e in_e in
      ⊎_elim
      (λ kept.
      let par = named_parent old next 0 q edge c.entry.parent
      (ap (λ (z : Entry). z.parent) (sym kept.0) ∙ has) in
      let p = par.0 in
      subst (λ (z : Entry). R edge f.elems z.elems) (sym kept.0)
      (⊎_elim
      (λ f_kept.
      let number : d.entry.number ≡ q = ap (λ (z : Entry). z.number) (sym f_kept.0) ∙ is in
      let less = below.below d.entry d.is_in in
      subst (λ (z : Entry). R edge z.elems c.entry.elems) (sym f_kept.0)
      (lines.steps c.entry d.entry p edge c.is_in d.is_in par.1
      (number ∙ other_name p q par.2 number less)))
      (λ f_new.
      let number : next ≡ q = ap (λ (z : Entry). z.number) (sym f_new.0) ∙ is in
      let less = below.parents c.entry p edge c.is_in par.1 in
      subst (λ (z : Entry). R edge z.elems c.entry.elems) (sym f_new.0)
      (stable.parent d.entry edge c.entry.elems d.is_in f_new.1
      (lines.steps c.entry d.entry p edge c.is_in d.is_in par.1
      (f_new.1 ∙ sym (old_name p (sym par.2 ∙ sym number) less)))))
      d.how))
      (λ new.
      let parent : c.entry.parent ≡ Some (q, edge) =
      ap (λ (z : Entry). z.parent) (sym new.0) ∙ has in
      let less = below.parents c.entry q edge c.is_in parent in
      subst (λ (z : Entry). R edge f.elems z.elems) (sym new.0)
      (stable.child c.entry edge f.elems c.is_in new.1
      (⊎_elim
      (λ f_kept.
      let number : d.entry.number ≡ q = ap (λ (z : Entry). z.number) (sym f_kept.0) ∙ is in
      subst (λ (z : Entry). R edge z.elems c.entry.elems) (sym f_kept.0)
      (lines.steps c.entry d.entry q edge c.is_in d.is_in parent number))
      (λ f_new.
      let number : next ≡ q = ap (λ (z : Entry). z.number) (sym f_new.0) ∙ is in
      absurd (omega (arith, less, number)))
      d.how)))
      c.how;
}
  where
    -- a name below the next one is not the new one
    old_name : (p : ℕ) → rename old next p ≡ next → p < next → p ≡ old
    old_name p is less =
        ⊎_elim
        (λ (yes : eqb p old ≡ true). eqb-true p old yes)
        (λ (no : eqb p old ≡ false).
        let same : p ≡ next = subst (λ (b : Bool). cond b next p ≡ next) no is in
        absurd (omega (arith, same, less)))
        (cases_Bool (eqb p old))

    other_name : (p q : ℕ) {m : ℕ} → q ≡ rename old next p → m ≡ q → m < next → q ≡ p
    other_name p q {m} is number less =
        ⊎_elim
        (λ (yes : eqb p old ≡ true).
        let same : q ≡ next = is ∙ ap (λ (b : Bool). cond b next p) yes in
        absurd (omega (arith, same, number, less)))
        (λ (no : eqb p old ≡ false). is ∙ ap (λ (b : Bool). cond b next p) no)
        (cases_Bool (eqb p old))

-- what a turn takes
pub rested_from : (n : ℕ) (xs : List Entry) (y : Entry) → IsIn y (at_number n rests xs)
    → HasSame xs y
rested_from n xs y there =
    let was = in_map (λ e. cond (eqb e.number n) (rests e) e) xs y there in
    record {
      entry = was.0;
      is_in = was.1;
      same = subst (IsSame was.0) (sym was.2)
          (cond_both (eqb was.0.number n) (rests was.0) was.0 (IsSame was.0)
          (λ _. record { number = refl; elems = refl; precisions = refl; parent = refl })
          (λ _. record { number = refl; elems = refl; precisions = refl; parent = refl }));
    }

-- one entry without parent
pub lines_begin : (R : ℕ → List Elem → List Elem → Type 0) (Root : List Elem → Type 0)
    (es : List Elem) (ps : List Precision) → Root es → AreLines R Root (begun es ps).live
lines_begin R Root es ps root = record {
  roots = λ e there none. ⊎_elim
      (λ same. subst (λ (y : Entry). Root y.elems) same root)
      (λ wrong. absurd wrong) there;
  steps = λ e f p edge in_e in_f has is. ⊎_elim
      (λ same. absurd (let wrong = ap (λ (y : Entry). y.parent) same ∙ has in cc))
      (λ wrong. absurd wrong) in_e;
}
