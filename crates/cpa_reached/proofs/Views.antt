-- What contracts see of a reached set, from what is known of its parts: that it is numbered, and
-- what a call makes of it.
use Rattle.std.proofs.Common.{◌≡◌, ℕ, true, List}
use Rattle.std.proofs.Common.{Result, Ok, Err, ap, ◌∙◌, subst}
use Rattle.std.specs.Result.{OnOk, OnErr}
use Rattle.cpa_iface.specs.declared.entries.Entry.{Entry}
use Rattle.cpa_iface.specs.declared.entries.Turn.{Turn}
use Rattle.cpa_reached.specs.declared.links.Link.{Link}
use Rattle.cpa_reached.specs.Members.{is_in}
use Rattle.cpa_reached.specs.Entries.{ReachedSet, IsLive, IsNumbered}
use Rattle.cpa_reached.specs.lemmas.MemberLaws.{in_live}
use Rattle.cpa_reached.specs.Kept.{IsKept, is_named_by}
use Rattle.cpa_reached.proofs.Tying.{named_there}

abbrev pub seen : List Entry → List Turn → ℕ → List ℕ → ReachedSet
seen xs j next places = record { live = xs; journal = j; next = next; places = places }

-- A kept reached set is numbered.
pub numbered : (xs : List Entry) (ls : List Link) (ws : List ℕ) (j : List Turn) (next : ℕ)
    (places : List ℕ) → IsKept xs ls ws next → IsNumbered (seen xs j next places)
numbered xs ls ws j next places kept =
    let live : (n m : ℕ) → is_named_by ls n m ≡ true → IsLive xs n =
    λ n m named. in_live xs n
    (subst (λ ns. is_in n ns ≡ true) kept.tree.same (named_there ls n m named)) in
    record {
      ascend = kept.tree.ascend;
      below = kept.below;
      bound = kept.bound;
      parents = λ e p edge there is. live p e.number ((kept.tree.tied e there).child p edge is);
      users = λ e n there used. live n e.number ((kept.tree.tied e there).user n used);
    }

-- what is seen after a call that went well, and after one that did not
pub seen_ok : {T E : Type 0} (r : Result T E) (xs ys : List Entry) (j : List Turn) (n m : ℕ)
    (ps qs : List ℕ) → OnOk r (xs ≡ ys) → OnOk r (n ≡ m) → ps ≡ qs
    → OnOk r (seen xs j n ps ≡ seen ys j m qs)
seen_ok (Ok x) xs ys j n m ps qs live next places =
    ap (λ zs. seen zs j n ps) live ∙ (ap (λ (k : ℕ). seen ys j k ps) next
    ∙ ap (λ ks. seen ys j m ks) places)
seen_ok (Err e) xs ys j n m ps qs live next places = tt

pub seen_err : {T E : Type 0} (r : Result T E) (xs ys : List Entry) (j : List Turn) (n m : ℕ)
    (ps qs : List ℕ) → OnErr r (xs ≡ ys) → OnErr r (n ≡ m) → ps ≡ qs
    → OnErr r (seen xs j n ps ≡ seen ys j m qs)
seen_err (Ok x) xs ys j n m ps qs live next places = tt
seen_err (Err e) xs ys j n m ps qs live next places =
    ap (λ zs. seen zs j n ps) live ∙ (ap (λ (k : ℕ). seen ys j k ps) next
    ∙ ap (λ ks. seen ys j m ks) places)

pub on_ok : {T E P : Type 0} (r : Result T E) → P → OnOk r P
on_ok (Ok x) p = p
on_ok (Err e) p = tt

pub on_err : {T E P : Type 0} (r : Result T E) → P → OnErr r P
on_err (Ok x) p = tt
on_err (Err e) p = p

pub either_way : {T E P : Type 0} (r : Result T E) → OnOk r P → OnErr r P → P
either_way (Ok x) p q = p
either_way (Err e) p q = q
