-- Why an entry is passed over: where a state lies in an element of the successor, and not in that
-- of the entry, the entry does not cover the successor, and where such elements are kept apart it
-- does not merge (`stands_apart`).
use Rattle.std.proofs.Common.{◌≡◌, ℕ, zero, suc, Bool, true, false, List, [], ◌∷◌, length}
use Rattle.std.proofs.Common.{Option, None, Some, refl, ap, ◌∙◌, subst, inl, ⊎_elim, arith}
use Rattle.std.specs.Prelude.{◌&&◌, IfSome}
use Rattle.std.specs.List.{slice_get}
use Rattle.std.proofs.lemmas.Bool.{cases_Bool}
use Rattle.std.proofs.lemmas.Option.{same_Some, slice_get_within}
use Rattle.cpa_model.specs.declared.automaton.Cfa.{Cfa}
use Rattle.cpa_model.specs.declared.facts.Elem.{Elem}
use Rattle.cpa_model.specs.Facts.{Holds}
use Rattle.cpa_iface.specs.declared.entries.Entry.{Entry}
use Rattle.cpa_iface.specs.declared.merging.MergeRule.TheVariants.{Sep}
use Rattle.cpa_iface.specs.declared.precisions.Precision.{Precision}
use Rattle.cpa_composite.specs.Components.{Component}
use Rattle.cpa_composite.specs.Covers.{all_cover}
use Rattle.cpa_reached.specs.declared.marks.Mark.{Mark}
use Rattle.cpa_reached.specs.Entries.{ReachedSet, IsLive}
use Rattle.cpa_reached.specs.Marks.{IsMarkOf, IsParted}
use Rattle.cpa_reached.specs.Members.{IsIn}
use Rattle.cpa_engine_turn.specs.Stages.{Compares}
use Rattle.cpa_engine_turn.specs.Steps.{stage, IsApartBy, StandsApart}
use Rattle.cpa_engine_turn.specs.declared.work.Work.{Work}
use Rattle.cpa_engine_turn.specs.lemmas.Keyed.{there_is}

-- the mark of a row as long as the components is of one of them
pub apart_by : (cs : List Component) (row : List Elem) (m : Mark) → length row ≡ length cs
    → IsMarkOf m row
    → ((c : Component) → slice_get cs m.place ≡ Some c → c.rule ≡ Sep) → IsApartBy cs row m
apart_by cs row m many is apart =
    let inside = slice_get_within row m.place is.marked.elem is.marked.at in
    let c = there_is cs m.place (omega (arith, inside, many)) in
    record { marked = is; component = c.0; there = c.1; rule = apart c.0 c.1 }

both_false : (b : Bool) → (b && false) ≡ false
both_false true = refl
both_false false = refl

-- where one cover says no, not all say yes
one_fails : (cs : List Component) (es fs : List Elem) (i : ℕ) (c : Component) (e f : Elem)
    → slice_get cs i ≡ Some c → slice_get es i ≡ Some e → slice_get fs i ≡ Some f
    → c.meaning.cover e f ≡ false → all_cover cs es fs ≡ false
one_fails [] es fs i c e f at_c at_e at_f fails = absurd (cc)
one_fails (d ∷ cs) [] fs i c e f at_c at_e at_f fails = absurd (cc)
one_fails (d ∷ cs) (x ∷ es) [] i c e f at_c at_e at_f fails = absurd (cc)
one_fails (d ∷ cs) (x ∷ es) (y ∷ fs) zero c e f at_c at_e at_f fails =
    let first : d.meaning.cover x y ≡ false =
    ap (λ (b : Component). b.meaning.cover x y) (same_Some d c at_c)
    ∙ (ap (λ (g : Elem). c.meaning.cover g y) (same_Some x e at_e)
    ∙ (ap (c.meaning.cover e) (same_Some y f at_f) ∙ fails)) in
    ap (λ (b : Bool). b && all_cover cs es fs) first
one_fails (d ∷ cs) (x ∷ es) (y ∷ fs) (suc i) c e f at_c at_e at_f fails =
    ap (λ (b : Bool). d.meaning.cover x y && b) (one_fails cs es fs i c e f at_c at_e at_f fails)
    ∙ both_false (d.meaning.cover x y)

-- a state of the one element that is none of the other
not_covered : (c : Component) (row other : List Elem) (place : ℕ)
    (is : IsParted place row other) → c.meaning.cover is.elem is.fellow ≡ false
not_covered c row other place is =
    ⊎_elim
    (λ (yes : c.meaning.cover is.elem is.fellow ≡ true).
    absurd (is.fails (c.meaning.within is.elem is.fellow yes is.state is.holds)))
    (λ (none : c.meaning.cover is.elem is.fellow ≡ false). none)
    (cases_Bool (c.meaning.cover is.elem is.fellow))

pub stands_apart : (cs : List Component) (row other : List Elem) (m : Mark) → IsApartBy cs row m
    → IsParted m.place row other → StandsApart cs row other
stands_apart cs row other m by is = record {
  uncovered = one_fails cs row other m.place by.component is.elem is.fellow by.there is.at is.there
      (not_covered by.component row other m.place is);
  differs = λ agree.
      let same : is.elem ≡ is.fellow =
      agree m.place by.component is.elem is.fellow by.there is.at is.there by.rule in
      is.fails (subst (λ (e : Elem). Holds e is.state) same is.holds);
}

-- the mark that is there
pub the_mark : (cs : List Component) (row : List Elem) (o : Option Mark) (m : Mark) → o ≡ Some m
    → IfSome o (IsApartBy cs row) → IsApartBy cs row m
the_mark cs row o m some by =
    subst (λ (p : Option Mark). IfSome p (IsApartBy cs row)) some by

-- an entry that is passed over stays
pub passed_compares : (cfa : Cfa) (cs : List Component) (r : ReachedSet) (w : Work)
    (successor : List Elem) (ps : List Precision) (n : ℕ) → IsLive r.live n
    → ((e : Entry) → IsIn e r.live → e.number ≡ n → StandsApart cs successor e.elems)
    → Compares cfa cs successor ps n (stage r w) (stage r w)
passed_compares cfa cs r w successor ps n live apart =
    let stands = apart live.entry live.is_in live.is in
    inl (record {
      entry = live.entry;
      is_in = live.is_in;
      number = live.is;
      covers = λ agree. absurd (stands.differs agree);
      each = λ agree. absurd (stands.differs agree);
      is = refl;
    })

-- a mark of the same components and the same row
pub mark_under : (ds cs : List Component) (fs es : List Elem) (o : Option Mark) → ds ≡ cs
    → fs ≡ es → IfSome o (IsApartBy ds fs) → IfSome o (IsApartBy cs es)
mark_under ds cs fs es o same_cs same_es by =
    subst (λ (gs : List Elem). IfSome o (IsApartBy cs gs)) same_es
    (subst (λ (bs : List Component). IfSome o (IsApartBy bs fs)) same_cs by)

-- it is a mark of the row
pub mark_of : (cs : List Component) (row : List Elem) (o : Option Mark)
    → IfSome o (IsApartBy cs row) → IfSome o (λ m. IsMarkOf m row)
mark_of cs row None by = by
mark_of cs row (Some m) by = by.marked
