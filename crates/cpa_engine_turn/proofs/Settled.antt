-- What the calls on one successor do, as steps of `specs/Stages.antt`.
use Rattle.std.specs.declared.vec.Vec.{Vec}
use Rattle.std.specs.declared.alloc.Global.{Global}
use Rattle.std.proofs.Common.{◌≡◌, ℕ, ◌<◌, true, false, eqb}
use Rattle.std.proofs.Common.{List}
use Rattle.std.proofs.Common.{[], ◌∷◌, ◌++◌, length, Option, Some, None, refl, sym, ap}
use Rattle.std.proofs.Common.{◌∙◌}
use Rattle.std.proofs.Common.{subst, inl, inr, ⊎_elim, arith}
use Rattle.std.specs.Prelude.{IfSome, IfNone}
use Rattle.std.specs.List.{AllByRecursion, find}
use Rattle.std.specs.Option.{option_map}
use Rattle.std.proofs.lemmas.Bool.{cond_both, ne_eqb}
use Rattle.cpa_model.specs.declared.automaton.Cfa.{Cfa}
use Rattle.cpa_model.specs.declared.facts.Elem.{Elem}
use Rattle.cpa_iface.specs.declared.entries.Entry.{Entry}
use Rattle.cpa_iface.specs.declared.precisions.Precision.{Precision}
use Rattle.cpa_composite.specs.Components.{Component, AreElems, IsEntryOf}
use Rattle.cpa_composite.specs.Covers.{all_cover}
use Rattle.cpa_composite.specs.Laws.{MergedRow, AgreeOnSep, WidenCovers, EachMerged}
use Rattle.cpa_reached.specs.Members.{IsIn}
use Rattle.cpa_reached.specs.Entries.{ReachedSet, numbers}
use Rattle.cpa_reached.specs.Calls.{added, replaced, used, others}
use Rattle.cpa_engine_turn.specs.declared.work.Work.{Work}
use Rattle.cpa_engine_turn.specs.Stages.{Stage, replacing_at, Compares, ComparesAll, first_cover}
use Rattle.cpa_engine_turn.specs.Stages.{covered_or_added}
use Rattle.cpa_engine_turn.specs.Steps.{stage, with_added, with_replaced}
use Rattle.cpa_engine_turn.specs.Turns.{AreEntries}
use Rattle.cpa_engine_turn.proofs.Shapes.{each_in}

-- with the entry of a number gone there is one entry less
pub all_others : (n m : ℕ) (xs : List Entry) → AllByRecursion (λ k. m < k) (numbers xs) → m ≡ n
    → others n xs ≡ xs
all_others n m [] above same = refl
all_others n m (x ∷ xs) above same =
    let less : m < x.number = above.0 in
    let other : eqb x.number n ≡ false = ne_eqb x.number n (λ e. omega (arith, less, e, same)) in
    rw other (ap (λ (l : List Entry). x ∷ l) (all_others n m xs above.1 same))

-- the first entry that covers
pub record Covering (cs : List Component) (es : List Elem) (xs : List Entry) (n : ℕ) : Type 0 where
  pub entry : Entry
  pub is_in : IsIn entry xs
  pub number : entry.number ≡ n
  pub covers : all_cover cs es entry.elems ≡ true

pub found : (cs : List Component) (es : List Elem) (xs : List Entry) (n : ℕ)
    → option_map (λ (e : Entry). e.number) (find (λ (e : Entry). all_cover cs es e.elems) xs)
    ≡ Some n
    → Covering cs es xs n
found cs es [] n is = absurd (cc)
found cs es (x ∷ xs) n is =
    cond_both (all_cover cs es x.elems) (Some x)
    (find (λ (e : Entry). all_cover cs es e.elems) xs)
    (λ o. option_map (λ (e : Entry). e.number) o ≡ Some n → Covering cs es (x ∷ xs) n)
    (λ yes here. record {
      entry = x;
      is_in = inl refl;
      number = cc;
      covers = yes;
    })
    (λ _ later. let c = found cs es xs n later in
    record { entry = c.entry; is_in = inr c.is_in; number = c.number; covers = c.covers })
    is

pub none_found : (cs : List Component) (es : List Elem) (xs : List Entry)
    → option_map (λ (e : Entry). e.number) (find (λ (e : Entry). all_cover cs es e.elems) xs) ≡ None
    → (e : Entry) → IsIn e xs → all_cover cs es e.elems ≡ false
none_found cs es [] is e there = absurd there
none_found cs es (x ∷ xs) is e there =
    cond_both (all_cover cs es x.elems) (Some x)
    (find (λ (e : Entry). all_cover cs es e.elems) xs)
    (λ o. option_map (λ (e : Entry). e.number) o ≡ None → all_cover cs es e.elems ≡ false)
    (λ _ here. absurd (cc))
    (λ fails later. ⊎_elim
    (λ same. subst (λ (y : Entry). all_cover cs es y.elems ≡ false) same fails)
    (λ behind. none_found cs es xs later e behind) there)
    is

pub found_in : (cs : List Component) (es fs : List Elem) (xs : List Entry) (n : ℕ)
    (o : Option ℕ) → fs ≡ es → o ≡ first_cover cs fs xs → o ≡ Some n → Covering cs es xs n
found_in cs es fs xs n o same is some =
    subst (λ (gs : List Elem). Covering cs gs xs n) same (found cs fs xs n (sym is ∙ some))

pub old_shaped : (cfa : Cfa) (cs : List Component) (xs : List Entry) (x : Entry) (old : List Elem)
    → AreEntries cfa (length cs) xs → IsIn x xs → old ≡ x.elems → AreElems cfa (length cs) old
old_shaped cfa cs xs x old are there same =
    subst (AreElems cfa (length cs)) (sym same)
    (each_in (IsEntryOf cfa (length cs)) xs x are.each there).elems

-- the row that a merge gave
pub merged_row : (cfa : Cfa) (cs : List Component) (x : Entry) (successor old : List Elem)
    (ps : List Precision) (o : Option (Vec Elem Global)) (merged : Vec Elem Global)
    → old ≡ x.elems → o ≡ Some merged
    → IfSome o (λ m. MergedRow cs cfa successor old ps m.items)
    → MergedRow cs cfa successor x.elems ps merged.items
merged_row cfa cs x successor old ps o merged same some row =
    subst (λ es. MergedRow cs cfa successor es ps merged.items) same
    (subst (λ (p : Option (Vec Elem Global)).
    IfSome p (λ m. MergedRow cs cfa successor old ps m.items)) some row)

-- one comparison: what a merge gave has taken the place of the entry
pub merged_compares : (cfa : Cfa) (cs : List Component) (r new : ReachedSet) (w v : Work)
    (x : Entry) (successor old : List Elem) (ps : List Precision) (o : Option (Vec Elem Global))
    (merged : Vec Elem Global) (next k n : ℕ) → IsIn x r.live → x.number ≡ k → k ≡ n
    → old ≡ x.elems → o ≡ Some merged
    → IfSome o (λ m. MergedRow cs cfa successor old ps m.items) → next ≡ r.next
    → new ≡ replaced r k merged.items → v ≡ with_replaced k next w
    → Compares cfa cs successor ps n (stage r w) (stage new v)
merged_compares cfa cs r new w v x successor old ps o merged next k n there is_k is_n same some row
    is_next is is_v = inr (record {
      entry = x;
      is_in = there;
      number = is_k ∙ is_n;
      elems = merged.items;
      merged = merged_row cfa cs x successor old ps o merged same some row;
      is = ap (λ (s : ReachedSet). stage s v) is
          ∙ (ap (λ (u : Work). stage (replaced r k merged.items) u)
          (is_v ∙ ap (λ (j : ℕ). with_replaced k j w) is_next)
          ∙ ap (λ (j : ℕ). replacing_at j merged.items (stage r w)) (sym is_k));
    })

-- or it stays
pub left_compares : (cfa : Cfa) (cs : List Component) (r : ReachedSet) (w : Work) (x : Entry)
    (successor old : List Elem) (ps : List Precision) (o : Option (Vec Elem Global)) (n : ℕ)
    → IsIn x r.live → old ≡ x.elems → o ≡ None
    → IfNone o (AgreeOnSep cs successor old → WidenCovers cs successor old)
    → IfNone o (AgreeOnSep cs successor old → EachMerged cfa cs successor old ps old)
    → x.number ≡ n
    → Compares cfa cs successor ps n (stage r w) (stage r w)
left_compares cfa cs r w x successor old ps o n there same none covers each number = inl (record {
  entry = x;
  is_in = there;
  number = number;
  covers = subst (λ es. AgreeOnSep cs successor es → WidenCovers cs successor es) same
      (subst (λ (p : Option (Vec Elem Global)).
      IfNone p (AgreeOnSep cs successor old → WidenCovers cs successor old)) none covers);
  each = subst (λ es. AgreeOnSep cs successor es → EachMerged cfa cs successor es ps es) same
      (subst (λ (p : Option (Vec Elem Global)).
      IfNone p (AgreeOnSep cs successor old → EachMerged cfa cs successor old ps old)) none each);
  is = refl;
})

-- one comparison more
pub compares_push : (cfa : Cfa) (cs : List Component) (es : List Elem) (ps : List Precision)
    (ns : List ℕ) (n : ℕ) (a m b : Stage) → ComparesAll cfa cs es ps ns a m
    → Compares cfa cs es ps n m b → ComparesAll cfa cs es ps (ns ++ n ∷ []) a b
compares_push cfa cs es ps [] n a m b is one =
    (b, subst (λ (s : Stage). Compares cfa cs es ps n s b) is one, refl)
compares_push cfa cs es ps (k ∷ ns) n a m b all one =
    (all.0, all.1, compares_push cfa cs es ps ns n all.0 m b all.2 one)

-- the successor is covered, or added
pub covered_is : (cs : List Component) (r new : ReachedSet) (w : Work) (by : ℕ) (es : List Elem)
    (ps : List Precision) (edge : ℕ) (o : Option ℕ) (fs : List Elem) (xs : List Entry) → fs ≡ es
    → o ≡ first_cover cs fs xs → o ≡ Some by → new ≡ used r w.current by
    → stage new w ≡ covered_or_added es ps edge (first_cover cs es xs) (stage r w)
covered_is cs r new w by es ps edge o fs xs same is some made =
    ap (λ (s : ReachedSet). stage s w) made
    ∙ ap (λ (p : Option ℕ). covered_or_added es ps edge p (stage r w))
    (sym some ∙ (is ∙ ap (λ (gs : List Elem). first_cover cs gs xs) same))

pub added_is : (cs : List Component) (r new : ReachedSet) (w v : Work) (n : ℕ) (es : List Elem)
    (ps : List Precision) (edge : ℕ) (o : Option ℕ) (fs : List Elem) (xs : List Entry) → fs ≡ es
    → o ≡ first_cover cs fs xs → o ≡ None → n ≡ r.next
    → new ≡ added r es ps (w.current, edge) → v ≡ with_added n w
    → stage new v ≡ covered_or_added es ps edge (first_cover cs es xs) (stage r w)
added_is cs r new w v n es ps edge o fs xs same is none next made is_v =
    ap (λ (s : ReachedSet). stage s v) made
    ∙ (ap (λ (u : Work). stage (added r es ps (w.current, edge)) u)
    (is_v ∙ ap (λ (k : ℕ). with_added k w) next)
    ∙ ap (λ (p : Option ℕ). covered_or_added es ps edge p (stage r w))
    (sym none ∙ (is ∙ ap (λ (gs : List Elem). first_cover cs gs xs) same)))

-- comparisons under equal components, elements and precisions
pub compares_under : (cfa : Cfa) (ds cs : List Component) (fs es : List Elem)
    (qs ps : List Precision) (ns : List ℕ) (a b : Stage) → ds ≡ cs → fs ≡ es → qs ≡ ps
    → ComparesAll cfa ds fs qs ns a b → ComparesAll cfa cs es ps ns a b
compares_under cfa ds cs fs es qs ps ns a b same_cs same_es same_ps all =
    subst (λ (rs : List Precision). ComparesAll cfa cs es rs ns a b) same_ps
    (subst (λ (gs : List Elem). ComparesAll cfa cs gs qs ns a b) same_es
    (subst (λ (bs : List Component). ComparesAll cfa bs fs qs ns a b) same_cs all))
