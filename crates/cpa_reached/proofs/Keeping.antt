-- That each call keeps what holds of the parts of a reached set (`IsKept`).
use Rattle.std.proofs.Common.{◌≡◌, ℕ, ◌+◌, ◌<◌, ◌≤◌, ◌^◌, Bool, true, false, eqb}
use Rattle.std.proofs.Common.{cond, List, [], ◌∷◌, ◌++◌, map, Some}
use Rattle.std.proofs.Common.{refl, sym, ap, ◌∙◌, subst, inl, inr, ⊎_elim, arith}
use Rattle.std.specs.List.{AllByRecursion, filter}
use Rattle.std.proofs.lemmas.Option.{same_Some}
use Rattle.std.proofs.lemmas.Bool.{eq-eqb, eqb-true}
use Rattle.std.proofs.lemmas.Bool.{cond_both, cases_Bool}
use Rattle.cpa_model.specs.declared.facts.Elem.{Elem}
use Rattle.cpa_iface.specs.declared.precisions.Precision.{Precision}
use Rattle.cpa_iface.specs.declared.entries.Entry.{Entry}
use Rattle.cpa_reached.specs.declared.links.Link.{Link}
use Rattle.cpa_model.specs.Ascending.{AreAscending}
use Rattle.cpa_reached.specs.Members.{IsIn, is_in}
use Rattle.cpa_reached.specs.Entries.{numbers, IsLive, waiting_numbers}
use Rattle.cpa_reached.specs.Calls.{at_number, rests, gains, with_precisions, fresh}
use Rattle.cpa_reached.specs.Kept.{IsTied, IsKept, link_numbers, at_link, lists, link}
use Rattle.cpa_reached.specs.Kept.{depth_of, is_named_by}
use Rattle.cpa_reached.specs.Tables.{but}
use Rattle.cpa_reached.specs.lemmas.MemberLaws.{in_all, entry_in, live_in, in_live, above_absent}
use Rattle.cpa_reached.specs.lemmas.MemberLaws.{numbers_map, in_map, in_append, numbers_append}
use Rattle.cpa_reached.specs.lemmas.MemberLaws.{all_push}
use Rattle.cpa_model.specs.lemmas.Ascending.{ascending_push}
use Rattle.cpa_reached.specs.lemmas.MemberLaws.{all_weaker}
use Rattle.cpa_reached.proofs.Tying.{tied_along, tied_more, named_there, depth_lists, numbers_lists}
use Rattle.cpa_reached.proofs.Tying.{named_lists, depth_front, depth_back, named_front}

pub link_numbers_append : (xs ys : List Link)
    → link_numbers (xs ++ ys) ≡ link_numbers xs ++ link_numbers ys
link_numbers_append [] ys = refl
link_numbers_append (x ∷ xs) ys = ap (λ ns. x.number ∷ ns) (link_numbers_append xs ys)

pub links_kept : (keep : ℕ → Bool) (ls : List Link)
    → link_numbers (filter (λ l. keep l.number) ls) ≡ filter keep (link_numbers ls)
links_kept keep [] = refl
links_kept keep (l ∷ ls) =
    cond_both (keep l.number) (l ∷ filter (λ k. keep k.number) ls) (filter (λ k. keep k.number) ls)
    (λ t. link_numbers t ≡ cond (keep l.number) (l.number ∷ filter keep (link_numbers ls))
    (filter keep (link_numbers ls)))
    (λ yes. rw yes (ap (λ ns. l.number ∷ ns) (links_kept keep ls)))
    (λ no. rw no (links_kept keep ls))

pub entries_kept : (keep : ℕ → Bool) (xs : List Entry)
    → numbers (filter (λ e. keep e.number) xs) ≡ filter keep (numbers xs)
entries_kept keep [] = refl
entries_kept keep (x ∷ xs) =
    cond_both (keep x.number) (x ∷ filter (λ e. keep e.number) xs) (filter (λ e. keep e.number) xs)
    (λ t. numbers t ≡ cond (keep x.number) (x.number ∷ filter keep (numbers xs))
    (filter keep (numbers xs)))
    (λ yes. rw yes (ap (λ ns. x.number ∷ ns) (entries_kept keep xs)))
    (λ no. rw no (entries_kept keep xs))

-- links and entries of the same numbers, of which the same numbers are kept
pub same_kept : (keep : ℕ → Bool) (ls : List Link) (xs : List Entry) → link_numbers ls ≡ numbers xs
    → link_numbers (filter (λ l. keep l.number) ls) ≡ numbers (filter (λ e. keep e.number) xs)
same_kept keep ls xs same = links_kept keep ls ∙ ap (λ ns. filter keep ns) same
    ∙ sym (entries_kept keep xs)

-- A change of each entry that leaves number, parent and waiting, and uses that are listed.
pub record IsMild (ls : List Link) (g : Entry → Entry) (xs : List Entry) : Type 0 where
  pub number : (e : Entry) → (g e).number ≡ e.number
  pub waiting : (e : Entry) → (g e).waiting ≡ e.waiting
  pub tied : (e : Entry) → IsIn e xs → IsTied ls e.number e.parent e.uses
      → IsTied ls (g e).number (g e).parent (g e).uses

waits_head : (b c : Bool) (y x : Entry) (ys xs : List Entry) → b ≡ c → y.number ≡ x.number
    → numbers ys ≡ numbers xs
    → numbers (cond b (y ∷ ys) ys) ≡ numbers (cond c (x ∷ xs) xs)
waits_head true true y x ys xs same head tail =
    ap (λ (n : ℕ). n ∷ numbers ys) head ∙ ap (λ ns. x.number ∷ ns) tail
waits_head true false y x ys xs same head tail = absurd (cc)
waits_head false true y x ys xs same head tail = absurd (cc)
waits_head false false y x ys xs same head tail = tail

pub waiting_same : (g : Entry → Entry) (xs : List Entry) → ((e : Entry) → (g e).number ≡ e.number)
    → ((e : Entry) → (g e).waiting ≡ e.waiting)
    → waiting_numbers (map g xs) ≡ waiting_numbers xs
waiting_same g [] number waiting = refl
waiting_same g (x ∷ xs) number waiting =
    let tail : waiting_numbers (map g xs) ≡ waiting_numbers xs = waiting_same g xs number waiting in
    let head : (g x).number ≡ x.number = number x in
    waits_head (g x).waiting x.waiting (g x) x (filter (λ e. e.waiting) (map g xs))
    (filter (λ e. e.waiting) xs) (waiting x) head tail

pub kept_mild : (g : Entry → Entry) (xs : List Entry) (ls : List Link) (ws : List ℕ) (next : ℕ)
    → IsMild ls g xs → IsKept xs ls ws next → IsKept (map g xs) ls ws next
kept_mild g xs ls ws next mild kept =
    let same : numbers (map g xs) ≡ numbers xs = numbers_map g xs mild.number in
    record {
      tree = record {
        ascend = subst (λ ns. AreAscending ns) (sym same) kept.tree.ascend;
        same = kept.tree.same ∙ sym same;
        tied = λ e there.
            let from = in_map g xs e there in
            subst (λ (y : Entry). IsTied ls y.number y.parent y.uses) (sym from.2)
            (mild.tied from.0 from.1 (kept.tree.tied from.0 from.1));
      };
      below = subst (λ ns. AllByRecursion (λ n. n < next) ns) (sym same) kept.below;
      bound = kept.bound;
      waits = kept.waits ∙ sym (waiting_same g xs mild.number mild.waiting);
    }

-- `set_precisions`
pub kept_precisions : (n : ℕ) (ps : List Precision) (xs : List Entry) (ls : List Link) (ws : List ℕ)
    (next : ℕ) → IsKept xs ls ws next → IsKept (at_number n (with_precisions ps) xs) ls ws next
kept_precisions n ps xs ls ws next kept =
    let g : Entry → Entry = λ e. cond (eqb e.number n) (with_precisions ps e) e in
    kept_mild g xs ls ws next
    (record {
      number = λ e. cond_both (eqb e.number n) (with_precisions ps e) e (λ y. y.number ≡ e.number)
          (λ _. refl) (λ _. refl);
      waiting = λ e. cond_both (eqb e.number n) (with_precisions ps e) e
          (λ y. y.waiting ≡ e.waiting) (λ _. refl) (λ _. refl);
      tied = λ e there tied. cond_both (eqb e.number n) (with_precisions ps e) e
          (λ y. IsTied ls y.number y.parent y.uses) (λ _. tied) (λ _. tied);
    }) kept

-- a use of what lists it
pub kept_gain : (n by : ℕ) (xs : List Entry) (ls : List Link) (ws : List ℕ) (next : ℕ)
    → is_named_by ls by n ≡ true → IsKept xs ls ws next
    → IsKept (at_number n (gains by) xs) ls ws next
kept_gain n by xs ls ws next listed kept =
    let g : Entry → Entry = λ e. cond (eqb e.number n) (gains by e) e in
    kept_mild g xs ls ws next
    (record {
      number = λ e. cond_both (eqb e.number n) (gains by e) e (λ y. y.number ≡ e.number) (λ _. refl)
          (λ _. refl);
      waiting = λ e. cond_both (eqb e.number n) (gains by e) e (λ y. y.waiting ≡ e.waiting)
          (λ _. refl) (λ _. refl);
      tied = λ e there tied. cond_both (eqb e.number n) (gains by e) e
          (λ y. IsTied ls y.number y.parent y.uses)
          (λ yes. tied_more ls e.number e.parent e.uses by
          (subst (λ (m : ℕ). is_named_by ls by m ≡ true) (sym (eqb-true e.number n yes)) listed)
          tied)
          (λ _. tied);
    }) kept

-- one more namer listed
pub kept_lists : (n by : ℕ) (xs : List Entry) (ls : List Link) (ws : List ℕ) (next : ℕ)
    → IsKept xs ls ws next → IsKept xs (at_link n (lists by) ls) ws next
kept_lists n by xs ls ws next kept = record {
  tree = record {
    ascend = kept.tree.ascend;
    same = numbers_lists n by ls ∙ kept.tree.same;
    tied = λ e there. tied_along ls (at_link n (lists by) ls) e.number e.parent e.uses
        (depth_lists n by e.number ls)
        (λ p edge is. depth_lists n by p ls) (λ k named. named_lists n by k e.number ls named)
        (kept.tree.tied e there);
  };
  below = kept.below;
  bound = kept.bound;
  waits = kept.waits;
}

-- `take_next`
waiting_rests : (n : ℕ) (xs : List Entry)
    → waiting_numbers (at_number n rests xs) ≡ but n (waiting_numbers xs)
waiting_rests n [] = refl
waiting_rests n (x ∷ xs) =
    let tail : waiting_numbers (at_number n rests xs) ≡ but n (waiting_numbers xs) =
    waiting_rests n xs in
    ⊎_elim
    (λ (is : eqb x.number n ≡ true). ⊎_elim (λ (w : x.waiting ≡ true). rw (is, w) (rw is tail))
    (λ (w : x.waiting ≡ false). rw (is, w) tail) (cases_Bool x.waiting))
    (λ (other : eqb x.number n ≡ false).
    ⊎_elim (λ (w : x.waiting ≡ true). rw (other, w) (rw other (ap (λ ns. x.number ∷ ns) tail)))
    (λ (w : x.waiting ≡ false). rw (other, w) tail) (cases_Bool x.waiting))
    (cases_Bool (eqb x.number n))

-- a number that waits is live
pub waiting_live : (xs : List Entry) (n : ℕ) → IsIn n (waiting_numbers xs) → IsLive xs n
waiting_live [] n there = absurd there
waiting_live (x ∷ xs) n there =
    cond_both x.waiting (x ∷ filter (λ e. e.waiting) xs) (filter (λ e. e.waiting) xs)
    (λ (t : List Entry). IsIn n (numbers t) → IsLive (x ∷ xs) n)
    (λ _. ⊎_elim (λ same. record { entry = x; is_in = inl refl; is = same })
    (λ later. let l = waiting_live xs n later in
    record { entry = l.entry; is_in = inr l.is_in; is = l.is }))
    (λ _ later. let l = waiting_live xs n later in
    record { entry = l.entry; is_in = inr l.is_in; is = l.is })
    there

pub kept_rests : (n : ℕ) (xs : List Entry) (ls : List Link) (ws : List ℕ) (next : ℕ)
    → IsKept xs ls ws next → IsKept (at_number n rests xs) ls (but n ws) next
kept_rests n xs ls ws next kept =
    let g : Entry → Entry = λ e. cond (eqb e.number n) (rests e) e in
    let same : numbers (map g xs) ≡ numbers xs =
    numbers_map g xs (λ e. cond_both (eqb e.number n) (rests e) e (λ y. y.number ≡ e.number)
    (λ _. refl) (λ _. refl)) in
    record {
      tree = record {
        ascend = subst (λ ns. AreAscending ns) (sym same) kept.tree.ascend;
        same = kept.tree.same ∙ sym same;
        tied = λ e there.
            let from = in_map g xs e there in
            subst (λ (y : Entry). IsTied ls y.number y.parent y.uses) (sym from.2)
            (cond_both (eqb from.0.number n) (rests from.0) from.0
            (λ y. IsTied ls y.number y.parent y.uses)
            (λ _. kept.tree.tied from.0 from.1) (λ _. kept.tree.tied from.0 from.1));
      };
      below = subst (λ ns. AllByRecursion (λ n. n < next) ns) (sym same) kept.below;
      bound = kept.bound;
      waits = ap (λ ns. but n ns) kept.waits ∙ sym (waiting_rests n xs);
    }

-- `add`, once the parent's link lists the new number
pub waiting_append : (xs ys : List Entry)
    → waiting_numbers (xs ++ ys) ≡ waiting_numbers xs ++ waiting_numbers ys
waiting_append [] ys = refl
waiting_append (x ∷ xs) ys =
    cond_both x.waiting (x ∷ filter (λ e. e.waiting) (xs ++ ys))
    (filter (λ e. e.waiting) (xs ++ ys))
    (λ t. numbers t ≡ numbers
    (cond x.waiting (x ∷ filter (λ e. e.waiting) xs) (filter (λ e. e.waiting) xs)) ++
    waiting_numbers ys)
    (λ yes. rw yes (ap (λ ns. x.number ∷ ns) (waiting_append xs ys)))
    (λ no. rw no (waiting_append xs ys))

-- the depth of a link that stands alone
new_depth : (n depth : ℕ) (namers : List ℕ) → depth_of n (link n depth namers ∷ []) ≡ depth
new_depth n depth namers = let yes : eqb n n ≡ true = eq-eqb n n refl in rw yes refl

-- an entry that uses nothing
tied_new : (ls : List Link) (n : ℕ) (parent : ℕ × ℕ) → depth_of n ls ≡ depth_of parent.0 ls + 1
    → is_named_by ls parent.0 n ≡ true → depth_of n ls ≤ n → IsTied ls n (Some parent) []
tied_new ls n parent deep listed shallow = record {
  root = λ is. absurd (cc);
  depth = λ p edge is. let same : parent.0 ≡ p = ap (λ (q : ℕ × ℕ). q.0) (same_Some _ _ is) in
      subst (λ (q : ℕ). depth_of n ls ≡ depth_of q ls + 1) same deep;
  child = λ p edge is. let same : parent.0 ≡ p = ap (λ (q : ℕ × ℕ). q.0) (same_Some _ _ is) in
      subst (λ (q : ℕ). is_named_by ls q n ≡ true) same listed;
  user = λ k none. absurd none;
  shallow = shallow;
}

-- an entry lies less deep than the next number
pub shallow_above : (xs : List Entry) (ls : List Link) (ws : List ℕ) (next p : ℕ)
    → is_in p (link_numbers ls) ≡ true → IsKept xs ls ws next → depth_of p ls + 1 ≤ next
shallow_above xs ls ws next p there kept =
    let live : IsLive xs p = in_live xs p (subst (λ ns. is_in p ns ≡ true) kept.tree.same there) in
    let low : p < next = in_all (λ n. n < next) (numbers xs) p kept.below (live_in xs p live) in
    let deep : depth_of p ls ≤ p =
    subst (λ (n : ℕ). depth_of n ls ≤ n) live.is (kept.tree.tied live.entry live.is_in).shallow in
    omega arith

pub kept_fresh : (xs : List Entry) (ls : List Link) (ws : List ℕ) (next : ℕ) (es : List Elem)
    (ps : List Precision) (parent : ℕ × ℕ) (namers : List ℕ)
    → next < 2 ^ 32 → is_named_by ls parent.0 next ≡ true → IsKept xs ls ws next
    → IsKept (xs ++ fresh next es ps (Some parent) ∷ [])
    (ls ++ link next (depth_of parent.0 ls + 1) namers ∷ []) (ws ++ next ∷ []) (next + 1)
kept_fresh xs ls ws next es ps parent namers fits listed kept =
    let new = fresh next es ps (Some parent) in
    let l = link next (depth_of parent.0 ls + 1) namers in
    let there : is_in parent.0 (link_numbers ls) ≡ true = named_there ls parent.0 next listed in
    let absent : is_in next (link_numbers ls) ≡ false =
    subst (λ ns. is_in next ns ≡ false) (sym kept.tree.same)
    (above_absent next (numbers xs) kept.below) in
    let above : depth_of parent.0 (ls ++ l ∷ []) ≡ depth_of parent.0 ls =
    depth_front parent.0 ls (l ∷ []) there in
    let own : depth_of next (ls ++ l ∷ []) ≡ depth_of parent.0 ls + 1 =
    depth_back next ls (l ∷ []) absent ∙ new_depth next (depth_of parent.0 ls + 1) namers in
    record {
      tree = record {
        ascend = subst (λ ns. AreAscending ns) (sym (numbers_append xs (new ∷ [])))
            (ascending_push (numbers xs) next kept.tree.ascend kept.below);
        same = link_numbers_append ls (l ∷ []) ∙ ap (λ ns. ns ++ next ∷ []) kept.tree.same
            ∙ sym (numbers_append xs (new ∷ []));
        tied = λ e in_new. ⊎_elim
            (λ old. tied_along ls (ls ++ l ∷ []) e.number e.parent e.uses
            (depth_front e.number ls (l ∷ [])
            (subst (λ ns. is_in e.number ns ≡ true) (sym kept.tree.same) (entry_in e xs old)))
            (λ p edge is. depth_front p ls (l ∷ [])
            (named_there ls p e.number ((kept.tree.tied e old).child p edge is)))
            (λ k named. named_front k e.number ls (l ∷ []) named)
            (kept.tree.tied e old))
            (λ is_new. ⊎_elim
            (λ same. subst (λ (y : Entry). IsTied (ls ++ l ∷ []) y.number y.parent y.uses) same
            (tied_new (ls ++ l ∷ []) next parent (own ∙ ap (λ (d : ℕ). d + 1) (sym above))
            (named_front parent.0 next ls (l ∷ []) listed)
            (rw own (shallow_above xs ls ws next parent.0 there kept))))
            (λ none. absurd none) is_new)
            (in_append xs (new ∷ []) e in_new);
      };
      below = subst (λ ns. AllByRecursion (λ n. n < next + 1) ns)
          (sym (numbers_append xs (new ∷ [])))
          (all_push (λ n. n < next + 1) (numbers xs) next
          (all_weaker (λ n. n < next) (λ n. n < next + 1) (numbers xs) (λ n less. omega arith)
          kept.below) (omega arith));
      bound = omega arith;
      waits = ap (λ ns. ns ++ next ∷ []) kept.waits ∙ sym (waiting_append xs (new ∷ []));
    }
