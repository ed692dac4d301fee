-- That `remove_below` keeps what holds of the parts (`kept_removed`).
use Rattle.std.proofs.Common.{◌≡◌, ℕ, ◌+◌, ◌<◌, ◌≤◌, Bool, true, false, eqb, not}
use Rattle.std.proofs.Common.{List, [], ◌∷◌, map}
use Rattle.std.proofs.Common.{Some, refl, sym, ap, ◌∙◌, subst}
use Rattle.std.proofs.Common.{⊎_elim}
use Rattle.std.specs.List.{AllByRecursion, filter, list_any}
use Rattle.std.proofs.lemmas.Bool.{cond_both, cases_Bool, both_ways, not-true}
use Rattle.cpa_iface.specs.declared.entries.Entry.{Entry}
use Rattle.cpa_reached.specs.declared.links.Link.{Link}
use Rattle.cpa_model.specs.Ascending.{AreAscending}
use Rattle.cpa_reached.specs.Members.{is_in}
use Rattle.cpa_reached.specs.Entries.{numbers, waiting_numbers}
use Rattle.cpa_reached.specs.Removal.{IsBelow, further, is_opened, opened, left, without}
use Rattle.cpa_reached.specs.lemmas.MemberLaws.{numbers_map}
use Rattle.cpa_reached.specs.lemmas.MemberLaws.{in_map, in_filter}
use Rattle.cpa_reached.specs.lemmas.MemberLaws.{all_kept, ascend_kept}
use Rattle.cpa_reached.specs.lemmas.SuccessorLaws.{left_number, none_gone, or_false}
use Rattle.cpa_reached.specs.Kept.{IsTied, IsKept, depth_of}
use Rattle.cpa_reached.specs.Kept.{without_links, waits_after}
use Rattle.cpa_reached.proofs.Tying.{depth_kept, named_kept}
use Rattle.cpa_reached.proofs.Keeping.{links_kept, entries_kept}

stays : (gone : List ℕ) (k : ℕ) → is_in k gone ≡ false → (l : Link) → l.number ≡ k
    → not (is_in l.number gone) ≡ true
stays gone k absent l is = rw (ap (λ (m : ℕ). is_in m gone) is ∙ absent) refl

-- what an opened entry uses, and another one
tied_left : (gone : List ℕ) (pivot : ℕ) (e : Entry) (ls : List Link)
    → IsTied ls e.number e.parent e.uses
    → is_in e.number gone ≡ false
    → ((p edge : ℕ) → e.parent ≡ Some (p, edge) → is_in p gone ≡ false)
    → IsTied (without_links gone ls) (left gone pivot e).number (left gone pivot e).parent
    (left gone pivot e).uses
tied_left gone pivot e ls tied here above =
    let keep : Link → Bool = λ l. not (is_in l.number gone) in
    let own : depth_of e.number (filter keep ls) ≡ depth_of e.number ls =
    depth_kept keep e.number ls (stays gone e.number here) in
    cond_both (is_opened gone pivot e) (opened e) e
    (λ (y : Entry). IsTied (filter keep ls) y.number y.parent y.uses)
    (λ _. record {
      root = λ is. own ∙ tied.root is;
      depth = λ p edge is. own ∙ tied.depth p edge is
          ∙ ap (λ (d : ℕ). d + 1) (sym (depth_kept keep p ls (stays gone p (above p edge is))));
      child = λ p edge is. named_kept keep p e.number ls (stays gone p (above p edge is))
          (tied.child p edge is);
      user = λ k none. absurd none;
      shallow = subst (λ (d : ℕ). d ≤ e.number) (sym own) tied.shallow;
    })
    (λ closed. record {
      root = λ is. own ∙ tied.root is;
      depth = λ p edge is. own ∙ tied.depth p edge is
          ∙ ap (λ (d : ℕ). d + 1) (sym (depth_kept keep p ls (stays gone p (above p edge is))));
      child = λ p edge is. named_kept keep p e.number ls (stays gone p (above p edge is))
          (tied.child p edge is);
      user = λ k used.
          let no = none_gone gone e.uses k
          (or_false (eqb e.number pivot) (list_any (λ m. is_in m gone) e.uses) closed).1 used in
          named_kept keep k e.number ls (stays gone k no) (tied.user k used);
      shallow = subst (λ (d : ℕ). d ≤ e.number) (sym own) tied.shallow;
    })

pub kept_removed : (gone : List ℕ) (pivot : ℕ) (xs : List Entry) (ls : List Link)
    (ws later : List ℕ) (next : ℕ)
    → ((n : ℕ) → IsBelow xs pivot n → is_in n gone ≡ true)
    → ((n : ℕ) → is_in n gone ≡ true → IsBelow xs pivot n)
    → later ≡ waiting_numbers (map (left gone pivot) (without gone xs))
    → IsKept xs ls ws next
    → IsKept (map (left gone pivot) (without gone xs)) (without_links gone ls) later next
kept_removed gone pivot xs ls ws later next all only waits kept =
    let keep : ℕ → Bool = λ n. not (is_in n gone) in
    let same : numbers (map (left gone pivot) (without gone xs)) ≡ numbers (without gone xs) =
    numbers_map (left gone pivot) (without gone xs) (left_number gone pivot) in
    record {
      tree = record {
        ascend = subst (λ ns. AreAscending ns) (sym same)
            (ascend_kept (λ e. keep e.number) xs kept.tree.ascend);
        same = links_kept keep ls ∙ ap (λ ns. filter keep ns) kept.tree.same
            ∙ sym (entries_kept keep xs) ∙ sym same;
        tied = λ e there.
            let from = in_map (left gone pivot) (without gone xs) e there in
            let was = in_filter (λ x. keep x.number) xs from.0 from.1 in
            let here : is_in from.0.number gone ≡ false =
            not-true (is_in from.0.number gone) was.1 in
            subst (λ (y : Entry). IsTied (without_links gone ls) y.number y.parent y.uses)
            (sym from.2)
            (tied_left gone pivot from.0 ls (kept.tree.tied from.0 was.0) here
            (λ p edge is. ⊎_elim
            (λ yes. absurd (both_ways (is_in from.0.number gone) here
            (all from.0.number (further from.0.number p edge from.0 was.0 refl is (only p yes)))))
            (λ no. no) (cases_Bool (is_in p gone))));
      };
      below = subst (λ ns. AllByRecursion (λ n. n < next) ns) (sym same)
          (all_kept (λ n. n < next) (λ e. keep e.number) xs kept.below);
      bound = kept.bound;
      waits = waits;
    }

-- the entries that wait afterwards, by one test
pub waits_left : (gone : List ℕ) (pivot : ℕ) (xs : List Entry)
    → numbers (filter (waits_after gone pivot) xs) ≡ waiting_numbers
    (map (left gone pivot) (without gone xs))
waits_left gone pivot [] = refl
waits_left gone pivot (x ∷ xs) =
    let tail : numbers (filter (waits_after gone pivot) xs) ≡ waiting_numbers
    (map (left gone pivot) (without gone xs)) = waits_left gone pivot xs in
    let name : (left gone pivot x).number ≡ x.number = left_number gone pivot x in
    ⊎_elim
    (λ (is_gone : is_in x.number gone ≡ true). rw is_gone tail)
    (λ (kept : is_in x.number gone ≡ false). ⊎_elim
    (λ (w : (left gone pivot x).waiting ≡ true). rw (kept, w)
    (rw name (ap (λ ns. x.number ∷ ns) tail)))
    (λ (w : (left gone pivot x).waiting ≡ false). rw (kept, w) tail)
    (cases_Bool (left gone pivot x).waiting))
    (cases_Bool (is_in x.number gone))
