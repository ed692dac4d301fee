-- The way up by parents: that it gives the path (`traced`).
use Rattle.std.proofs.Common.{◌≡◌, ℕ, ◌+◌, ◌<◌, ◌≤◌, true, List}
use Rattle.std.proofs.Common.{[], ◌∷◌, ◌++◌, Option, Some, None, slice_get, refl, sym}
use Rattle.std.proofs.Common.{subst, inl, inr, ◌⊎◌, ⊎_elim, append_assoc, append-nil, arith}
use Rattle.cpa_iface.specs.declared.entries.Entry.{Entry}
use Rattle.cpa_reached.specs.declared.links.Link.{Link}
use Rattle.cpa_reached.specs.Members.{IsIn, is_in}
use Rattle.cpa_reached.specs.Entries.{numbers, IsLive}
use Rattle.cpa_reached.specs.Paths.{LeadsBack}
use Rattle.cpa_reached.specs.Removal.{IsBelow}
use Rattle.cpa_reached.specs.lemmas.MemberLaws.{in_live}
use Rattle.cpa_reached.specs.Kept.{IsTied, IsTree, HasParent, link_numbers, depth_of}
use Rattle.cpa_reached.proofs.Tying.{named_there}

-- the way up so far
pub record Traces (xs : List Entry) (ls : List Link) (entry at : ℕ) (edges : List ℕ)
    (done depth : ℕ) : Type 0 where
  pub live : IsLive xs at
  pub deep : depth_of at ls + done ≡ depth
  pub back : (rest : List ℕ) → LeadsBack xs at rest → LeadsBack xs entry (edges ++ rest)

pub tied_live : (xs : List Entry) (ls : List Link) (n : ℕ) → IsTree xs ls → (live : IsLive xs n)
    → IsTied ls n live.entry.parent live.entry.uses
tied_live xs ls n tree live =
    subst (λ (k : ℕ). IsTied ls k live.entry.parent live.entry.uses) live.is
    (tree.tied live.entry live.is_in)

has_or_none : (parent : Option (ℕ × ℕ)) → (parent ≡ None) ⊎ ((p : ℕ × ℕ) × (parent ≡ Some p))
has_or_none None = inl refl
has_or_none (Some p) = inr (p, refl)

pub has_parent : (xs : List Entry) (ls : List Link) (n : ℕ) → IsTree xs ls → IsLive xs n
    → 0 < depth_of n ls → HasParent xs n
has_parent xs ls n tree live deep = ⊎_elim
    (λ none. absurd (let e : depth_of n ls ≡ 0 = (tied_live xs ls n tree live).root none in
    omega arith))
    (λ some. record {
      entry = live.entry;
      is_in = live.is_in;
      is = live.is;
      parent = some.0;
      has =
          some.1;
    })
    (has_or_none live.entry.parent)

pub parent_live : (xs : List Entry) (ls : List Link) (n p edge : ℕ) → IsTree xs ls
    → (live : IsLive xs n) → live.entry.parent ≡ Some (p, edge) → IsLive xs p
parent_live xs ls n p edge tree live has =
    in_live xs p (subst (λ ns. is_in p ns ≡ true) tree.same
    (named_there ls p n ((tied_live xs ls n tree live).child p edge has)))

pub traces_none : (xs : List Entry) (ls : List Link) (entry depth : ℕ) → IsLive xs entry
    → depth ≡ depth_of entry ls → Traces xs ls entry entry [] 0 depth
traces_none xs ls entry depth live deep =
    record { live = live; deep = omega arith; back = λ rest h. h }

pub traces_more : (xs : List Entry) (ls : List Link) (entry at : ℕ) (edges : List ℕ)
    (done depth : ℕ) (up : ℕ × ℕ) → IsTree xs ls
    → Traces xs ls entry at edges done depth
    → ((e : Entry) → IsIn e xs → e.number ≡ at → e.parent ≡ Some up)
    → Traces xs ls entry up.0 (edges ++ up.1 ∷ []) (done + 1) depth
traces_more xs ls entry at edges done depth up tree so_far is =
    let live = so_far.live in
    let has : live.entry.parent ≡ Some (up.0, up.1) = is live.entry live.is_in live.is in
    let deeper : depth_of at ls ≡ depth_of up.0 ls + 1 =
    (tied_live xs ls at tree live).depth up.0 up.1 has in
    let deep : depth_of at ls + done ≡ depth = so_far.deep in
    record {
      live = parent_live xs ls at up.0 up.1 tree live has;
      deep = omega arith;
      back = λ rest h. subst (λ es. LeadsBack xs entry es)
          (sym (append_assoc edges (up.1 ∷ []) rest))
          (so_far.back (up.1 ∷ rest) (live.entry, up.0, live.is_in, live.is, has, h));
    }

-- The edges on the way up to the top lead back.
pub traced : (xs : List Entry) (ls : List Link) (entry at : ℕ) (edges : List ℕ) (done depth : ℕ)
    → IsTree xs ls
    → Traces xs ls entry at edges done depth → depth ≤ done → LeadsBack xs entry edges
traced xs ls entry at edges done depth tree so_far over =
    let live = so_far.live in
    let deep : depth_of at ls + done ≡ depth = so_far.deep in
    let none : live.entry.parent ≡ None = ⊎_elim (λ n. n)
    (λ some. absurd (let e : depth_of at ls ≡ depth_of some.0.0 ls + 1 =
    (tied_live xs ls at tree live).depth some.0.0 some.0.1 some.1 in omega arith))
    (has_or_none live.entry.parent) in
    subst (λ es. LeadsBack xs entry es) (append-nil edges)
    (so_far.back [] (live.entry, live.is_in, live.is, none))

-- at the pivot, or below it
abbrev pub IsUnder : List Entry → ℕ → ℕ → Type 0
IsUnder xs pivot n = (n ≡ pivot) ⊎ IsBelow xs pivot n

-- the depth that is read at the place of a number
pub depth_read : (xs : List Entry) (ls : List Link) (p n r : ℕ) → IsTree xs ls
    → slice_get (numbers xs) p ≡ Some n
    → ((m : ℕ) → slice_get (link_numbers ls) p ≡ Some m → r ≡ depth_of m ls) → r ≡ depth_of n ls
depth_read xs ls p n r tree at read =
    read n (subst (λ ns. slice_get ns p ≡ Some n) (sym tree.same) at)
