-- That what is kept beside the entries goes on tying them (`IsTied`), whatever a call does to the
-- links.
use Rattle.std.proofs.Common.{◌≡◌, ℕ, ◌+◌, ◌≤◌, Bool, true, false, eqb, cond}
use Rattle.std.proofs.Common.{◌&&◌, ◌||◌, List, [], ◌∷◌, ◌++◌, map, Option, Some, refl}
use Rattle.std.proofs.Common.{sym, ap, ◌∙◌, subst, inl, inr, ⊎_elim}
use Rattle.std.specs.List.{filter}
use Rattle.std.proofs.lemmas.Bool.{eq-eqb, ne_eqb, eqb-true, or_cases, and_parts, and_from}
use Rattle.std.proofs.lemmas.Bool.{cond_both, cases_Bool, both_ways}
use Rattle.cpa_reached.specs.declared.links.Link.{Link}
use Rattle.cpa_reached.specs.Members.{IsIn, is_in}
use Rattle.cpa_reached.specs.Kept.{IsTied, link_numbers, at_link, lists, depth_of}
use Rattle.cpa_reached.specs.Kept.{is_named_by, those_links, renumbered}
use Rattle.cpa_reached.specs.lemmas.MemberLaws.{or_left, or_right, in_push, in_last}

-- How the links may change, so that they go on tying an entry that stays as it is.
pub tied_along : (ls later : List Link) (n : ℕ) (parent : Option (ℕ × ℕ)) (uses : List ℕ)
    → depth_of n later ≡ depth_of n ls
    → ((p edge : ℕ) → parent ≡ Some (p, edge) → depth_of p later ≡ depth_of p ls)
    → ((k : ℕ) → is_named_by ls k n ≡ true → is_named_by later k n ≡ true)
    → IsTied ls n parent uses → IsTied later n parent uses
tied_along ls later n parent uses own above named tied = record {
  root = λ is. own ∙ tied.root is;
  depth = λ p edge is. own ∙ tied.depth p edge is ∙ ap (λ (d : ℕ). d + 1) (sym (above p edge is));
  child = λ p edge is. named p (tied.child p edge is);
  user = λ k there. named k (tied.user k there);
  shallow = subst (λ (d : ℕ). d ≤ n) (sym own) tied.shallow;
}

used_or_new : (ls : List Link) (n : ℕ) (uses : List ℕ) (by k : ℕ) → is_named_by ls by n ≡ true
    → ((m : ℕ) → IsIn m uses → is_named_by ls m n ≡ true) → IsIn k (uses ++ by ∷ [])
    → is_named_by ls k n ≡ true
used_or_new ls n [] by k listed all (inl same) =
    subst (λ (m : ℕ). is_named_by ls m n ≡ true) same listed
used_or_new ls n [] by k listed all (inr none) = absurd none
used_or_new ls n (u ∷ uses) by k listed all (inl same) = all k (inl same)
used_or_new ls n (u ∷ uses) by k listed all (inr later) =
    used_or_new ls n uses by k listed (λ m there. all m (inr there)) later

-- one more use that is listed
pub tied_more : (ls : List Link) (n : ℕ) (parent : Option (ℕ × ℕ)) (uses : List ℕ) (by : ℕ)
    → is_named_by ls by n ≡ true → IsTied ls n parent uses → IsTied ls n parent (uses ++ by ∷ [])
tied_more ls n parent uses by listed tied = record {
  root = tied.root;
  depth = tied.depth;
  child = tied.child;
  user = λ k there. used_or_new ls n uses by k listed tied.user there;
  shallow = tied.shallow;
}

-- what is named is there
pub named_there : (ls : List Link) (k m : ℕ) → is_named_by ls k m ≡ true
    → is_in k (link_numbers ls) ≡ true
named_there [] k m named = absurd (cc)
named_there (l ∷ ls) k m named =
    ⊎_elim (λ here. or_left (eqb l.number k) (is_in k (link_numbers ls))
    (and_parts (eqb l.number k) (is_in m l.namers) here).0)
    (λ later. or_right (eqb l.number k) (is_in k (link_numbers ls)) (named_there ls k m later))
    (or_cases (eqb l.number k && is_in m l.namers) (is_named_by ls k m) named)

-- one more namer listed
pub depth_lists : (n by m : ℕ) (ls : List Link)
    → depth_of m (at_link n (lists by) ls) ≡ depth_of m ls
depth_lists n by m [] = refl
depth_lists n by m (l ∷ ls) =
    let later : depth_of m (at_link n (lists by) ls) ≡ depth_of m ls = depth_lists n by m ls in
    cond_both (eqb l.number n) (lists by l) l
    (λ (h : Link). cond (eqb h.number m) h.depth (depth_of m (at_link n (lists by) ls)) ≡ cond
    (eqb l.number m) l.depth (depth_of m ls))
    (λ _. ap (λ (d : ℕ). cond (eqb l.number m) l.depth d) later)
    (λ _. ap (λ (d : ℕ). cond (eqb l.number m) l.depth d) later)

pub numbers_lists : (n by : ℕ) (ls : List Link)
    → link_numbers (at_link n (lists by) ls) ≡ link_numbers ls
numbers_lists n by [] = refl
numbers_lists n by (l ∷ ls) =
    let later : link_numbers (at_link n (lists by) ls) ≡ link_numbers ls = numbers_lists n by ls in
    cond_both (eqb l.number n) (lists by l) l
    (λ (h : Link). h.number ∷ link_numbers (at_link n (lists by) ls) ≡ l.number ∷ link_numbers ls)
    (λ _. ap (λ ns. l.number ∷ ns) later) (λ _. ap (λ ns. l.number ∷ ns) later)

pub named_lists : (n by k m : ℕ) (ls : List Link) → is_named_by ls k m ≡ true
    → is_named_by (at_link n (lists by) ls) k m ≡ true
named_lists n by k m [] named = absurd (cc)
named_lists n by k m (l ∷ ls) named =
    let rest = at_link n (lists by) ls in
    cond_both (eqb l.number n) (lists by l) l
    (λ (h : Link). ((eqb h.number k && is_in m h.namers) || is_named_by rest k m) ≡ true)
    (λ _. ⊎_elim
    (λ here.
    let both : (eqb l.number k ≡ true) × (is_in m l.namers ≡ true) =
    and_parts (eqb l.number k) (is_in m l.namers) here in
    or_left (eqb l.number k && is_in m (l.namers ++ by ∷ [])) (is_named_by rest k m)
    (and_from (eqb l.number k) (is_in m (l.namers ++ by ∷ [])) both.0
    (in_push m l.namers by both.1)))
    (λ later. or_right (eqb l.number k && is_in m (l.namers ++ by ∷ [])) (is_named_by rest k m)
    (named_lists n by k m ls later))
    (or_cases (eqb l.number k && is_in m l.namers) (is_named_by ls k m) named))
    (λ _. ⊎_elim
    (λ here. or_left (eqb l.number k && is_in m l.namers) (is_named_by rest k m) here)
    (λ later. or_right (eqb l.number k && is_in m l.namers) (is_named_by rest k m)
    (named_lists n by k m ls later))
    (or_cases (eqb l.number k && is_in m l.namers) (is_named_by ls k m) named))

pub now_named : (n by : ℕ) (ls : List Link) → is_in n (link_numbers ls) ≡ true
    → is_named_by (at_link n (lists by) ls) n by ≡ true
now_named n by [] there = absurd (cc)
now_named n by (l ∷ ls) there =
    let rest = at_link n (lists by) ls in
    cond_both (eqb l.number n) (lists by l) l
    (λ (h : Link). ((eqb h.number n && is_in by h.namers) || is_named_by rest n by) ≡ true)
    (λ yes. or_left (eqb l.number n && is_in by (l.namers ++ by ∷ [])) (is_named_by rest n by)
    (and_from (eqb l.number n) (is_in by (l.namers ++ by ∷ [])) yes (in_last l.namers by)))
    (λ no. or_right (eqb l.number n && is_in by l.namers) (is_named_by rest n by)
    (now_named n by ls (⊎_elim (λ yes. absurd (both_ways (eqb l.number n) no yes)) (λ later. later)
    (or_cases (eqb l.number n) (is_in n (link_numbers ls)) there))))

-- links of which some stand in front
pub depth_front : (k : ℕ) (ls more : List Link) → is_in k (link_numbers ls) ≡ true
    → depth_of k (ls ++ more) ≡ depth_of k ls
depth_front k [] more there = absurd (cc)
depth_front k (l ∷ ls) more there =
    cond_both (eqb l.number k) l.depth (depth_of k (ls ++ more))
    (λ (d : ℕ). d ≡ cond (eqb l.number k) l.depth (depth_of k ls))
    (λ yes. rw yes refl)
    (λ no. rw no (depth_front k ls more
    (⊎_elim (λ yes. absurd (both_ways (eqb l.number k) no yes)) (λ later. later)
    (or_cases (eqb l.number k) (is_in k (link_numbers ls)) there))))

pub depth_back : (k : ℕ) (ls more : List Link) → is_in k (link_numbers ls) ≡ false
    → depth_of k (ls ++ more) ≡ depth_of k more
depth_back k [] more absent = refl
depth_back k (l ∷ ls) more absent =
    ⊎_elim (λ yes. absurd
    (both_ways (eqb l.number k || is_in k (link_numbers ls)) absent
    (or_left (eqb l.number k) (is_in k (link_numbers ls)) yes)))
    (λ no. let later : is_in k (link_numbers ls) ≡ false = rw no at absent in
    rw no (depth_back k ls more later))
    (cases_Bool (eqb l.number k))

pub named_front : (k m : ℕ) (ls more : List Link) → is_named_by ls k m ≡ true
    → is_named_by (ls ++ more) k m ≡ true
named_front k m [] more named = absurd (cc)
named_front k m (l ∷ ls) more named =
    ⊎_elim (λ here. or_left (eqb l.number k && is_in m l.namers) (is_named_by (ls ++ more) k m)
    here)
    (λ later. or_right (eqb l.number k && is_in m l.namers) (is_named_by (ls ++ more) k m)
    (named_front k m ls more later))
    (or_cases (eqb l.number k && is_in m l.namers) (is_named_by ls k m) named)

pub named_back : (k m : ℕ) (ls more : List Link) → is_named_by more k m ≡ true
    → is_named_by (ls ++ more) k m ≡ true
named_back k m [] more named = named
named_back k m (l ∷ ls) more named =
    or_right (eqb l.number k && is_in m l.namers) (is_named_by (ls ++ more) k m)
    (named_back k m ls more named)

-- links of which some are taken out
pub depth_kept : (keep : Link → Bool) (k : ℕ) (ls : List Link)
    → ((l : Link) → l.number ≡ k → keep l ≡ true) → depth_of k (filter keep ls) ≡ depth_of k ls
depth_kept keep k [] stays = refl
depth_kept keep k (l ∷ ls) stays =
    cond_both (keep l) (l ∷ filter keep ls) (filter keep ls)
    (λ (t : List Link). depth_of k t ≡ cond (eqb l.number k) l.depth (depth_of k ls))
    (λ _. ap (λ (d : ℕ). cond (eqb l.number k) l.depth d) (depth_kept keep k ls stays))
    (λ gone. let no : eqb l.number k ≡ false =
    ne_eqb _ _ (λ is. both_ways (keep l) gone (stays l is)) in rw no (depth_kept keep k ls stays))

pub named_kept : (keep : Link → Bool) (k m : ℕ) (ls : List Link)
    → ((l : Link) → l.number ≡ k → keep l ≡ true) → is_named_by ls k m ≡ true
    → is_named_by (filter keep ls) k m ≡ true
named_kept keep k m [] stays named = absurd (cc)
named_kept keep k m (l ∷ ls) stays named =
    cond_both (keep l) (l ∷ filter keep ls) (filter keep ls)
    (λ (t : List Link). is_named_by t k m ≡ true)
    (λ _. ⊎_elim (λ here. or_left (eqb l.number k && is_in m l.namers)
    (is_named_by (filter keep ls) k m) here)
    (λ later. or_right (eqb l.number k && is_in m l.namers) (is_named_by (filter keep ls) k m)
    (named_kept keep k m ls stays later))
    (or_cases (eqb l.number k && is_in m l.namers) (is_named_by ls k m) named))
    (λ gone. ⊎_elim (λ here. absurd
    (both_ways (keep l) gone
    (stays l (eqb-true _ _ (and_parts (eqb l.number k) (is_in m l.namers) here).0))))
    (λ later. named_kept keep k m ls stays later)
    (or_cases (eqb l.number k && is_in m l.namers) (is_named_by ls k m) named))

-- the links of a number get another
pub depth_renumbered : (old next : ℕ) (ls : List Link)
    → depth_of next (map (renumbered next) (those_links old ls)) ≡ depth_of old ls
depth_renumbered old next [] = refl
depth_renumbered old next (l ∷ ls) =
    cond_both (eqb l.number old) (l ∷ those_links old ls) (those_links old ls)
    (λ (t : List Link). depth_of next (map (renumbered next) t) ≡ cond (eqb l.number old) l.depth
    (depth_of old ls))
    (λ yes. let same : eqb next next ≡ true = eq-eqb next next refl in rw (same, yes) refl)
    (λ no. rw no (depth_renumbered old next ls))

pub named_renumbered : (old next m : ℕ) (ls : List Link) → is_named_by ls old m ≡ true
    → is_named_by (map (renumbered next) (those_links old ls)) next m ≡ true
named_renumbered old next m [] named = absurd (cc)
named_renumbered old next m (l ∷ ls) named =
    cond_both (eqb l.number old) (l ∷ those_links old ls) (those_links old ls)
    (λ (t : List Link). is_named_by (map (renumbered next) t) next m ≡ true)
    (λ yes. ⊎_elim
    (λ here. or_left (eqb next next && is_in m l.namers)
    (is_named_by (map (renumbered next) (those_links old ls)) next m)
    (and_from (eqb next next) (is_in m l.namers) (eq-eqb next next refl)
    (and_parts (eqb l.number old) (is_in m l.namers) here).1))
    (λ later. or_right (eqb next next && is_in m l.namers)
    (is_named_by (map (renumbered next) (those_links old ls)) next m)
    (named_renumbered old next m ls later))
    (or_cases (eqb l.number old && is_in m l.namers) (is_named_by ls old m) named))
    (λ no. ⊎_elim
    (λ here. absurd (both_ways (eqb l.number old) no
    (and_parts (eqb l.number old) (is_in m l.namers) here).0))
    (λ later. named_renumbered old next m ls later)
    (or_cases (eqb l.number old && is_in m l.namers) (is_named_by ls old m) named))
