-- The parent of an entry is the one to which an edge leads back (`one_back`), and so many parents
-- lead up as edges lead back (`up_more`).
use Rattle.std.proofs.Common.{◌≡◌, ℕ, zero, suc, ◌+◌, ◌<◌, List, ◌∷◌, drop, get_or, length, Option}
use Rattle.std.proofs.Common.{◌≤◌, Some, None, refl, sym, ap, ◌∙◌, subst, arith, reverse}
use Rattle.std.proofs.lemmas.List.{drop_more, length-reverse}
use Rattle.cpa_iface.specs.declared.entries.Entry.{Entry}
use Rattle.cpa_reached.specs.Entries.{numbers}
use Rattle.cpa_reached.specs.lemmas.MemberLaws.{one_entry}
use Rattle.cpa_reached.specs.Members.{IsIn}
use Rattle.cpa_reached.specs.Paths.{LeadsBack, IsPathTo}
use Rattle.cpa_model.specs.Ascending.{AreAscending}
use Rattle.cpa_engine.specs.Rounds.{IsParent, LeadsUp}

pub one_back : (xs : List Entry) → AreAscending (numbers xs) → (x : Entry) → IsIn x xs → (n : ℕ)
    → x.number ≡ n → (edge : ℕ) (edges : List ℕ) → LeadsBack xs n (edge ∷ edges)
    → (p : ℕ) × (x.parent ≡ Some (p, edge)) × LeadsBack xs p edges
one_back xs up x in_x n number edge edges (e, p, in_e, is, parent, back) =
    let same = one_entry xs x e up in_x in_e (number ∙ sym is) in
    (p, ap (λ (y : Entry). y.parent) same ∙ parent, back)

pub parent_back : (xs : List Entry) → AreAscending (numbers xs) → (x : Entry) → IsIn x xs
    → (n : ℕ) → x.number ≡ n → (p edge : ℕ) → x.parent ≡ Some (p, edge) → (first : ℕ)
    (edges : List ℕ) → LeadsBack xs n (first ∷ edges) → LeadsBack xs p edges
parent_back xs up x in_x n number p edge parent first edges back =
    let one = one_back xs up x in_x n number first edges back in
    subst (λ (m : ℕ). LeadsBack xs m edges)
    (ap (λ (o : Option (ℕ × ℕ)). first_of o) (sym one.1 ∙ parent)) one.2
  where
    first_of : Option (ℕ × ℕ) → ℕ
    first_of None = 0
    first_of (Some (a, b)) = a

-- from an entry without parent no edge leads back
pub root_ends : (xs : List Entry) → AreAscending (numbers xs) → (x : Entry) → IsIn x xs
    → (n : ℕ) → x.number ≡ n → x.parent ≡ None → (first : ℕ) (edges : List ℕ)
    → LeadsBack xs n (first ∷ edges) → ⊥
root_ends xs up x in_x n number none first edges back =
    let one = one_back xs up x in_x n number first edges back in
    let wrong = sym none ∙ one.1 in cc

-- one edge more
pub back_more : (xs : List Entry) (at next : ℕ) (edges : List ℕ) (k : ℕ) → k < length edges
    → ((edge : ℕ) (behind : List ℕ) → LeadsBack xs at (edge ∷ behind) → LeadsBack xs next behind)
    → LeadsBack xs at (drop k edges) → LeadsBack xs next (drop (k + 1) edges)
back_more xs at next edges k less step back =
    step (get_or edges k 0) (drop (k + 1) edges)
    (subst (LeadsBack xs at) (drop_more edges k 0 less) back)

-- ---- parents

one_up : (xs : List Entry) (n at next : ℕ) (count : ℕ) → LeadsUp xs n count at
    → IsParent xs at next → LeadsUp xs n (suc count) next
one_up xs n at next zero same parent =
    (next, subst (λ (m : ℕ). IsParent xs m next) (sym same) parent, refl)
one_up xs n at next (suc count) up parent =
    (up.0, up.1, one_up xs up.0 at next count up.2 parent)

-- one parent more
pub up_more : (xs : List Entry) (n at next : ℕ) (edges : List ℕ) (k : ℕ) → k < length edges
    → ((edge : ℕ) (behind : List ℕ) → LeadsBack xs at (edge ∷ behind) → IsParent xs at next)
    → LeadsBack xs at (drop k edges) → LeadsUp xs n k at → LeadsUp xs n (k + 1) next
up_more xs n at next edges k less step back up =
    let parent =
    step (get_or edges k 0) (drop (k + 1) edges)
    (subst (LeadsBack xs at) (drop_more edges k 0 less) back) in
    let more : suc k ≡ k + 1 = omega arith in
    subst (λ (count : ℕ). LeadsUp xs n count next) more (one_up xs n at next k up parent)

-- so many parents lead up from the end of a path of as many edges or more
pub path_up : (xs : List Entry) (n top count wanted : ℕ) (path : List ℕ)
    → ((edges : List ℕ) → LeadsBack xs n edges → count ≤ length edges → LeadsUp xs n count top)
    → IsPathTo xs n path → count ≤ length path → count ≡ wanted → LeadsUp xs n wanted top
path_up xs n top count wanted path up way few same =
    subst (λ (k : ℕ). LeadsUp xs n k top) same
    (up (reverse path) way (subst (λ (m : ℕ). count ≤ m) (sym (length-reverse path)) few))
