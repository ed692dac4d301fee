-- That `replace` keeps what holds of the parts (`kept_replaced`), and what it makes of the entries
-- step by step.
use Rattle.std.proofs.Common.{◌≡◌, ℕ, ◌+◌, ◌<◌, ◌≤◌, ◌^◌, Bool, true, false, eqb}
use Rattle.std.proofs.Common.{cond, not, List, [], ◌∷◌, ◌++◌, map, Option, Some, None}
use Rattle.std.proofs.Common.{refl, sym, ap, ◌∙◌, subst, inl, inr, ⊎_elim, arith}
use Rattle.std.specs.List.{AllByRecursion, filter}
use Rattle.std.proofs.lemmas.Option.{some_pair_parts}
use Rattle.std.proofs.lemmas.Bool.{eq-eqb, ne_eqb, eqb-true, or_cases}
use Rattle.std.proofs.lemmas.Bool.{cond_both, cases_Bool, both_ways, not-true}
use Rattle.cpa_model.specs.declared.facts.Elem.{Elem}
use Rattle.cpa_iface.specs.declared.entries.Entry.{Entry}
use Rattle.cpa_reached.specs.declared.links.Link.{Link}
use Rattle.cpa_model.specs.Ascending.{AreAscending}
use Rattle.cpa_reached.specs.Members.{IsIn, is_in}
use Rattle.cpa_reached.specs.Entries.{numbers, IsLive, waiting_numbers}
use Rattle.cpa_reached.specs.Calls.{rename, rename_parent, renamed, replacing, others, those}
use Rattle.cpa_reached.specs.Calls.{replaced_entries}
use Rattle.cpa_reached.specs.Kept.{IsTied, IsKept, link_numbers, depth_of, is_named_by}
use Rattle.cpa_reached.specs.Kept.{other_links, those_links, renumbered}
use Rattle.cpa_reached.specs.Tables.{but}
use Rattle.cpa_reached.specs.lemmas.MemberLaws.{or_left, or_right, in_all, entry_in, live_in}
use Rattle.cpa_reached.specs.lemmas.MemberLaws.{above_absent}
use Rattle.cpa_reached.specs.lemmas.MemberLaws.{numbers_map, in_map, in_append, in_filter}
use Rattle.cpa_reached.specs.lemmas.MemberLaws.{numbers_append}
use Rattle.cpa_model.specs.lemmas.Ascending.{ascending_push}
use Rattle.cpa_reached.specs.lemmas.MemberLaws.{all_push, all_weaker, all_kept, ascend_kept}
use Rattle.cpa_reached.proofs.Tying.{named_there, depth_front, depth_back, named_front, named_back}
use Rattle.cpa_reached.proofs.Tying.{depth_kept, named_kept, depth_renumbered, named_renumbered}
use Rattle.cpa_reached.proofs.Keeping.{links_kept, entries_kept, waiting_append, waiting_same}
use Rattle.cpa_reached.proofs.Keeping.{link_numbers_append}

pub those_none : (n : ℕ) (xs : List Entry) → AllByRecursion (λ m. n < m) (numbers xs)
    → those n xs ≡ []
those_none n [] above = refl
those_none n (x ∷ xs) above =
    let here : n < x.number = above.0 in
    let no : eqb x.number n ≡ false = ne_eqb _ _ (λ e. omega arith) in
    rw no (those_none n xs above.1)

-- the one entry of a number
pub record IsOnly (n : ℕ) (xs : List Entry) : Type 0 where
  pub entry : Entry
  pub is_in : IsIn entry xs
  pub is : entry.number ≡ n
  pub only : those n xs ≡ entry ∷ []

pub only_one : (n : ℕ) (xs : List Entry) → AreAscending (numbers xs) → is_in n (numbers xs) ≡ true
    → IsOnly n xs
only_one n [] up there = absurd (cc)
only_one n (x ∷ xs) up there = ⊎_elim
    (λ yes.
    let same : x.number ≡ n = eqb-true x.number n yes in
    let rest : those n xs ≡ [] =
    those_none n xs (subst (λ (k : ℕ). AllByRecursion (λ m. k < m) (numbers xs)) same up.0) in
    record {
      entry = x;
      is_in = inl refl;
      is = same;
      only =
          ap (λ (b : Bool). cond b (x ∷ those n xs) (those n xs)) yes ∙ ap (λ t. x ∷ t) rest;
    })
    (λ no.
    let later : is_in n (numbers xs) ≡ true =
    ⊎_elim (λ yes. absurd (both_ways (eqb x.number n) no yes)) (λ l. l)
    (or_cases (eqb x.number n) (is_in n (numbers xs)) there) in
    let o = only_one n xs up.1 later in
    record {
      entry = o.entry;
      is_in = inr o.is_in;
      is = o.is;
      only =
          ap (λ (b : Bool). cond b (x ∷ those n xs) (those n xs)) no ∙ o.only;
    })
    (cases_Bool (eqb x.number n))

one_link : (ls : List Link) (n next : ℕ) → link_numbers ls ≡ n ∷ []
    → link_numbers (map (renumbered next) ls) ≡ next ∷ []
one_link [] n next is = absurd (cc)
one_link (l ∷ []) n next is = refl
one_link (l ∷ m ∷ ls) n next is = absurd (cc)

all_filter : (P : ℕ → Type 0) (keep : ℕ → Bool) (ns : List ℕ) → AllByRecursion P ns
    → AllByRecursion P (filter keep ns)
all_filter P keep [] all = tt
all_filter P keep (n ∷ ns) all =
    cond_both (keep n) (n ∷ filter keep ns) (filter keep ns) (λ t. AllByRecursion P t)
    (λ _. (all.0, all_filter P keep ns all.1)) (λ _. all_filter P keep ns all.1)

link_in_kept : (keep : Link → Bool) (k : ℕ) (ls : List Link)
    → ((l : Link) → l.number ≡ k → keep l ≡ true) → is_in k (link_numbers ls) ≡ true
    → is_in k (link_numbers (filter keep ls)) ≡ true
link_in_kept keep k [] stays there = absurd (cc)
link_in_kept keep k (l ∷ ls) stays there =
    cond_both (keep l) (l ∷ filter keep ls) (filter keep ls)
    (λ (t : List Link). is_in k (link_numbers t) ≡ true)
    (λ _. ⊎_elim (λ here. or_left (eqb l.number k) (is_in k (link_numbers (filter keep ls))) here)
    (λ later. or_right (eqb l.number k) (is_in k (link_numbers (filter keep ls)))
    (link_in_kept keep k ls stays later))
    (or_cases (eqb l.number k) (is_in k (link_numbers ls)) there))
    (λ gone. ⊎_elim (λ here. absurd (both_ways (keep l) gone (stays l (eqb-true l.number k here))))
    (λ later. link_in_kept keep k ls stays later)
    (or_cases (eqb l.number k) (is_in k (link_numbers ls)) there))

stays_other : (old k : ℕ) → eqb k old ≡ false → (l : Link) → l.number ≡ k
    → not (eqb l.number old) ≡ true
stays_other old k apart l is = rw (ap (λ (m : ℕ). eqb m old) is ∙ apart) refl

depth_renamed : (old next k : ℕ) (ls : List Link) → AllByRecursion (λ n. n < next) (link_numbers ls)
    → is_in k (link_numbers ls) ≡ true
    → depth_of (rename old next k)
    (other_links old ls ++ map (renumbered next) (those_links old ls)) ≡ depth_of k ls
depth_renamed old next k ls low there = ⊎_elim
    (λ yes.
    let same : k ≡ old = eqb-true k old yes in
    let absent : is_in next (link_numbers (other_links old ls)) ≡ false =
    subst (λ ns. is_in next ns ≡ false) (sym (links_kept (λ n. not (eqb n old)) ls))
    (above_absent next (filter (λ n. not (eqb n old)) (link_numbers ls))
    (all_filter (λ n. n < next) (λ n. not (eqb n old)) (link_numbers ls) low)) in
    rw yes (depth_back next (other_links old ls) (map (renumbered next) (those_links old ls)) absent
    ∙ depth_renumbered old next ls ∙ ap (λ (n : ℕ). depth_of n ls) (sym same)))
    (λ no.
    rw no (depth_front k (other_links old ls) (map (renumbered next) (those_links old ls))
    (link_in_kept (λ l. not (eqb l.number old)) k ls (stays_other old k no) there)
    ∙ depth_kept (λ l. not (eqb l.number old)) k ls (stays_other old k no)))
    (cases_Bool (eqb k old))

named_renamed : (old next k m : ℕ) (ls : List Link) → is_named_by ls k m ≡ true
    → is_named_by (other_links old ls ++ map (renumbered next) (those_links old ls))
    (rename old next k) m ≡ true
named_renamed old next k m ls named = ⊎_elim
    (λ yes.
    let same : k ≡ old = eqb-true k old yes in
    rw yes (named_back next m (other_links old ls) (map (renumbered next) (those_links old ls))
    (named_renumbered old next m ls (subst (λ (n : ℕ). is_named_by ls n m ≡ true) same named))))
    (λ no.
    rw no (named_front k m (other_links old ls) (map (renumbered next) (those_links old ls))
    (named_kept (λ l. not (eqb l.number old)) k m ls (stays_other old k no) named)))
    (cases_Bool (eqb k old))

-- what parents and uses are renamed from
pub no_parent : (old next : ℕ) (parent : Option (ℕ × ℕ)) → rename_parent old next parent ≡ None
    → parent ≡ None
no_parent old next None is = refl
no_parent old next (Some (p, edge)) is = absurd (cc)

pub record IsFrom (old next : ℕ) (parent : Option (ℕ × ℕ)) (p edge : ℕ) : Type 0 where
  pub before : ℕ
  pub is : parent ≡ Some (before, edge)
  pub renamed : rename old next before ≡ p

pub from_parent : (old next : ℕ) (parent : Option (ℕ × ℕ)) (p edge : ℕ)
    → rename_parent old next parent ≡ Some (p, edge) → IsFrom old next parent p edge
from_parent old next None p edge is = absurd (cc)
from_parent old next (Some (q, g)) p edge is =
    let same : (rename old next q ≡ p) × (g ≡ edge) =
    some_pair_parts (rename old next q) p g edge is in
    record { before = q; is = ap (λ (n : ℕ). Some (q, n)) same.1; renamed = same.0 }

pub from_use : (old next : ℕ) (uses : List ℕ) (n : ℕ) → IsIn n (map (rename old next) uses)
    → (k : ℕ) × IsIn k uses × (rename old next k ≡ n)
from_use old next [] n there = absurd there
from_use old next (u ∷ uses) n (inl same) = (u, inl refl, same)
from_use old next (u ∷ uses) n (inr later) = let r = from_use old next uses n later in
    (r.0, inr r.1, r.2)

tied_renamed : (old next n : ℕ) (parent : Option (ℕ × ℕ)) (uses : List ℕ) (ls : List Link)
    → AllByRecursion (λ m. m < next) (link_numbers ls) → is_in n (link_numbers ls) ≡ true
    → eqb n old ≡ false → IsTied ls n parent uses
    → IsTied (other_links old ls ++ map (renumbered next) (those_links old ls)) n
    (rename_parent old next parent) (map (rename old next) uses)
tied_renamed old next n parent uses ls low there apart tied =
    let later = other_links old ls ++ map (renumbered next) (those_links old ls) in
    let own : depth_of n later ≡ depth_of n ls =
    rw apart at (depth_renamed old next n ls low there) in
    record {
      root = λ is. own ∙ tied.root (no_parent old next parent is);
      depth = λ p edge is.
          let from = from_parent old next parent p edge is in
          let above : depth_of (rename old next from.before) later ≡ depth_of from.before ls =
          depth_renamed old next from.before ls low
          (named_there ls from.before n (tied.child from.before edge from.is)) in
          own ∙ tied.depth from.before edge from.is
          ∙ ap (λ (d : ℕ). d + 1) (sym above ∙ ap (λ (k : ℕ). depth_of k later) from.renamed);
      child = λ p edge is.
          let from = from_parent old next parent p edge is in
          subst (λ (k : ℕ). is_named_by later k n ≡ true) from.renamed
          (named_renamed old next from.before n ls (tied.child from.before edge from.is));
      user = λ k used.
          let from = from_use old next uses k used in
          subst (λ (m : ℕ). is_named_by later m n ≡ true) from.2
          (named_renamed old next from.0 n ls (tied.user from.0 from.1));
      shallow = subst (λ (d : ℕ). d ≤ n) (sym own) tied.shallow;
    }

-- an entry is not its own parent
pub other_parent : (ls : List Link) (n : ℕ) (parent : Option (ℕ × ℕ)) (uses : List ℕ) (p edge : ℕ)
    → IsTied ls n parent uses → parent ≡ Some (p, edge) → eqb p n ≡ false
other_parent ls n parent uses p edge tied is =
    let deeper : depth_of n ls ≡ depth_of p ls + 1 = tied.depth p edge is in
    ne_eqb p n (λ same. let e : depth_of p ls ≡ depth_of n ls =
    ap (λ (k : ℕ). depth_of k ls) same in omega arith)

tied_replacing : (old next : ℕ) (parent : Option (ℕ × ℕ)) (uses : List ℕ) (ls : List Link)
    → AllByRecursion (λ m. m < next) (link_numbers ls) → is_in old (link_numbers ls) ≡ true
    → old < next
    → ((p edge : ℕ) → parent ≡ Some (p, edge) → is_named_by ls p next ≡ true)
    → IsTied ls old parent uses
    → IsTied (other_links old ls ++ map (renumbered next) (those_links old ls)) next parent []
tied_replacing old next parent uses ls low there less listed tied =
    let later = other_links old ls ++ map (renumbered next) (those_links old ls) in
    let yes : eqb old old ≡ true = eq-eqb old old refl in
    let own : depth_of next later ≡ depth_of old ls =
    rw yes at (depth_renamed old next old ls low there) in
    let shallow : depth_of old ls ≤ old = tied.shallow in
    record {
      root = λ is. own ∙ tied.root is;
      depth = λ p edge is.
          let no = other_parent ls old parent uses p edge tied is in
          let above : depth_of p later ≡ depth_of p ls =
          rw no at (depth_renamed old next p ls low (named_there ls p old (tied.child p edge is)))
          in
          own ∙ tied.depth p edge is ∙ ap (λ (d : ℕ). d + 1) (sym above);
      child = λ p edge is.
          let no = other_parent ls old parent uses p edge tied is in
          rw no at (named_renamed old next p next ls (listed p edge is));
      user = λ k none. absurd none;
      shallow = omega arith;
    }

waiting_others : (n : ℕ) (xs : List Entry)
    → waiting_numbers (others n xs) ≡ but n (waiting_numbers xs)
waiting_others n [] = refl
waiting_others n (x ∷ xs) =
    let tail : waiting_numbers (others n xs) ≡ but n (waiting_numbers xs) = waiting_others n xs in
    ⊎_elim
    (λ (is : eqb x.number n ≡ true). ⊎_elim (λ (w : x.waiting ≡ true). rw (is, w) (rw is tail))
    (λ (w : x.waiting ≡ false). rw (is, w) tail) (cases_Bool x.waiting))
    (λ (other : eqb x.number n ≡ false).
    ⊎_elim (λ (w : x.waiting ≡ true). rw (other, w) (rw other (ap (λ ns. x.number ∷ ns) tail)))
    (λ (w : x.waiting ≡ false). rw (other, w) tail) (cases_Bool x.waiting))
    (cases_Bool (eqb x.number n))

pub numbers_replaced : (next old : ℕ) (xs : List Entry) (es : List Elem) → AreAscending (numbers xs)
    → is_in old (numbers xs) ≡ true
    → numbers (replaced_entries next xs old es) ≡ numbers (others old xs) ++ next ∷ []
numbers_replaced next old xs es up there =
    let o = only_one old xs up there in
    numbers_append (map (renamed old next) (others old xs)) (map (replacing next es) (those old xs))
    ∙ ap (λ ns. ns ++ numbers (map (replacing next es) (those old xs)))
    (numbers_map (renamed old next) (others old xs) (λ e. refl))
    ∙ ap (λ ys. numbers (others old xs) ++ numbers (map (replacing next es) ys)) o.only

pub ascend_succeeded : (next old : ℕ) (xs : List Entry) (es : List Elem) → AreAscending (numbers xs)
    → is_in old (numbers xs) ≡ true → AllByRecursion (λ n. n < next) (numbers xs)
    → AreAscending (numbers (others old xs ++ map (replacing next es) (those old xs)))
ascend_succeeded next old xs es up there low =
    let o = only_one old xs up there in
    subst (λ ns. AreAscending ns)
    (sym (numbers_append (others old xs) (map (replacing next es) (those old xs))
    ∙ ap (λ ys. numbers (others old xs) ++ numbers (map (replacing next es) ys)) o.only))
    (ascending_push (numbers (others old xs)) next (ascend_kept (λ e. not (eqb e.number old)) xs up)
    (all_kept (λ n. n < next) (λ e. not (eqb e.number old)) xs low))

pub kept_replaced : (xs : List Entry) (ls : List Link) (ws : List ℕ) (next old : ℕ) (es : List Elem)
    → next < 2 ^ 32 → IsLive xs old
    → ((e : Entry) (p edge : ℕ) → IsIn e xs → e.number ≡ old → e.parent ≡ Some (p, edge)
    → is_named_by ls p next ≡ true)
    → IsKept xs ls ws next
    → IsKept (replaced_entries next xs old es)
    (other_links old ls ++ map (renumbered next) (those_links old ls)) (but old ws ++ next ∷ [])
    (next + 1)
kept_replaced xs ls ws next old es fits live listed kept =
    let there : is_in old (numbers xs) ≡ true = live_in xs old live in
    let o = only_one old xs kept.tree.ascend there in
    let low : AllByRecursion (λ n. n < next) (link_numbers ls) =
    subst (λ ns. AllByRecursion (λ n. n < next) ns) (sym kept.tree.same) kept.below in
    let less : old < next = in_all (λ n. n < next) (numbers xs) old kept.below there in
    let nums = numbers_replaced next old xs es kept.tree.ascend there in
    let low_others : AllByRecursion (λ n. n < next) (numbers (others old xs)) =
    all_kept (λ n. n < next) (λ e. not (eqb e.number old)) xs kept.below in
    let links_of_old : link_numbers (those_links old ls) ≡ old ∷ [] =
    links_kept (λ n. eqb n old) ls ∙ ap (λ ns. filter (λ n. eqb n old) ns) kept.tree.same
    ∙ sym (entries_kept (λ n. eqb n old) xs)
    ∙ ap (λ ys. numbers ys) o.only ∙ ap (λ (n : ℕ). n ∷ []) o.is in
    record {
      tree = record {
        ascend = subst (λ ns. AreAscending ns) (sym nums)
            (ascending_push (numbers (others old xs)) next
            (ascend_kept (λ e. not (eqb e.number old)) xs kept.tree.ascend) low_others);
        same = link_numbers_append (other_links old ls) (map (renumbered next) (those_links old ls))
            ∙ ap (λ ns. link_numbers (other_links old ls) ++ ns)
            (one_link (those_links old ls) old next links_of_old)
            ∙ ap (λ ns. ns ++ next ∷ [])
            (links_kept (λ n. not (eqb n old)) ls
            ∙ ap (λ ns. filter (λ n. not (eqb n old)) ns) kept.tree.same
            ∙ sym (entries_kept (λ n. not (eqb n old)) xs))
            ∙ sym nums;
        tied = λ e now. ⊎_elim
            (λ kept_one.
            let from = in_map (renamed old next) (others old xs) e kept_one in
            let was = in_filter (λ x. not (eqb x.number old)) xs from.0 from.1 in
            subst (λ (y : Entry). IsTied
            (other_links old ls ++ map (renumbered next) (those_links old ls)) y.number y.parent
            y.uses) (sym from.2)
            (tied_renamed old next from.0.number from.0.parent from.0.uses ls low
            (subst (λ ns. is_in from.0.number ns ≡ true) (sym kept.tree.same)
            (entry_in from.0 xs was.0))
            (not-true (eqb from.0.number old) was.1) (kept.tree.tied from.0 was.0)))
            (λ new_one.
            let from = in_map (replacing next es) (those old xs) e new_one in
            let was = in_filter (λ x. eqb x.number old) xs from.0 from.1 in
            let is_old : from.0.number ≡ old = eqb-true from.0.number old was.1 in
            subst (λ (y : Entry). IsTied
            (other_links old ls ++ map (renumbered next) (those_links old ls)) y.number y.parent
            y.uses) (sym from.2)
            (tied_replacing old next from.0.parent from.0.uses ls low
            (subst (λ ns. is_in old ns ≡ true) (sym kept.tree.same) there) less
            (λ p edge is. listed from.0 p edge was.0 is_old is)
            (subst (λ (n : ℕ). IsTied ls n from.0.parent from.0.uses) is_old
            (kept.tree.tied from.0 was.0))))
            (in_append (map (renamed old next) (others old xs))
            (map (replacing next es) (those old xs)) e now);
      };
      below = subst (λ ns. AllByRecursion (λ n. n < next + 1) ns) (sym nums)
          (all_push (λ n. n < next + 1) (numbers (others old xs)) next
          (all_weaker (λ n. n < next) (λ n. n < next + 1) (numbers (others old xs))
          (λ n below. omega arith) low_others) (omega arith));
      bound = omega arith;
      waits = ap (λ ns. but old ns ++ next ∷ []) kept.waits
          ∙ ap (λ ns. ns ++ next ∷ []) (sym (waiting_others old xs))
          ∙ ap (λ ns. ns ++ next ∷ [])
          (sym (waiting_same (renamed old next) (others old xs) (λ e. refl) (λ e. refl)))
          ∙ ap (λ ys. waiting_numbers (map (renamed old next) (others old xs)) ++ waiting_numbers
          (map (replacing next es) ys)) (sym o.only)
          ∙ sym (waiting_append (map (renamed old next) (others old xs))
          (map (replacing next es) (those old xs)));
    }
