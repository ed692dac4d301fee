-- That `add` keeps what holds of the parts (`kept_added`), and that a first entry does
-- (`kept_begun`).
use Rattle.std.proofs.Common.{◌≡◌, ℕ, ◌+◌, ◌<◌, ◌^◌, true, false, eqb, cond, ◌&&◌, ◌||◌}
use Rattle.std.proofs.Common.{List, [], ◌∷◌, ◌++◌, Some, None, refl, ap, ◌∙◌}
use Rattle.std.proofs.Common.{subst, inl, inr, arith}
use Rattle.std.proofs.lemmas.Bool.{eq-eqb, ne_eqb, and_from}
use Rattle.std.proofs.lemmas.List.{map-append}
use Rattle.cpa_model.specs.declared.facts.Elem.{Elem}
use Rattle.cpa_iface.specs.declared.precisions.Precision.{Precision}
use Rattle.cpa_iface.specs.declared.entries.Entry.{Entry}
use Rattle.cpa_reached.specs.declared.links.Link.{Link}
use Rattle.cpa_reached.specs.Members.{IsIn}
use Rattle.cpa_reached.specs.Entries.{numbers, IsLive}
use Rattle.cpa_reached.specs.Calls.{at_number, gains, fresh, added_entries}
use Rattle.cpa_reached.specs.lemmas.MemberLaws.{or_left, in_all, live_in}
use Rattle.cpa_reached.specs.Kept.{IsTied, IsKept, link}
use Rattle.cpa_reached.specs.Kept.{depth_of, is_named_by}
use Rattle.cpa_reached.proofs.Tying.{named_back}
use Rattle.cpa_reached.proofs.Keeping.{kept_gain, kept_fresh}

-- the new link names the parent
lists_parent : (next depth p : ℕ) → is_named_by (link next depth (p ∷ []) ∷ []) next p ≡ true
lists_parent next depth p =
    or_left (eqb next next && (eqb p p || false)) false
    (and_from (eqb next next) (eqb p p || false) (eq-eqb next next refl)
    (or_left (eqb p p) false (eq-eqb p p refl)))

-- the new entry is not its own parent
new_stays : (p next : ℕ) (es : List Elem) (ps : List Precision) (parent : ℕ × ℕ)
    → eqb next p ≡ false
    → cond (eqb next p) (gains next (fresh next es ps (Some parent)))
    (fresh next es ps (Some parent)) ≡ fresh next es ps (Some parent)
new_stays p next es ps parent differs = rw differs refl

pub kept_added : (xs : List Entry) (ls : List Link) (ws : List ℕ) (next : ℕ) (es : List Elem)
    (ps : List Precision) (parent : ℕ × ℕ)
    → next < 2 ^ 32 → IsLive xs parent.0 → is_named_by ls parent.0 next ≡ true
    → IsKept xs ls ws next
    → IsKept (added_entries next xs es ps parent)
    (ls ++ link next (depth_of parent.0 ls + 1) (parent.0 ∷ []) ∷ []) (ws ++ next ∷ []) (next + 1)
kept_added xs ls ws next es ps parent fits live listed kept =
    let p = parent.0 in
    let new = fresh next es ps (Some parent) in
    let l = link next (depth_of p ls + 1) (p ∷ []) in
    let low : p < next = in_all (λ n. n < next) (numbers xs) p kept.below (live_in xs p live) in
    let apart : eqb next p ≡ false = ne_eqb _ _ (λ e. omega arith) in
    let with_new : IsKept (xs ++ new ∷ []) (ls ++ l ∷ []) (ws ++ next ∷ []) (next + 1) =
    kept_fresh xs ls ws next es ps parent (p ∷ []) fits listed kept in
    let named : is_named_by (ls ++ l ∷ []) next p ≡ true =
    named_back next p ls (l ∷ []) (lists_parent next (depth_of p ls + 1) p) in
    let used = kept_gain p next (xs ++ new ∷ []) (ls ++ l ∷ []) (ws ++ next ∷ []) (next + 1) named
    with_new in
    subst (λ ys. IsKept ys (ls ++ l ∷ []) (ws ++ next ∷ []) (next + 1))
    (map-append (λ (e : Entry). cond (eqb e.number p) (gains next e) e) xs (new ∷ [])
    ∙ ap (λ (y : Entry). at_number p (gains next) xs ++ y ∷ [])
    (new_stays p next es ps parent apart))
    used

begun_tied : (es : List Elem) (ps : List Precision) (e : Entry) → IsIn e (fresh 0 es ps None ∷ [])
    → IsTied (link 0 0 [] ∷ []) e.number e.parent e.uses
begun_tied es ps e (inl same) =
    subst (λ (y : Entry). IsTied (link 0 0 [] ∷ []) y.number y.parent y.uses) same
    (record {
      root = λ _. refl;
      depth = λ p edge is. absurd (cc);
      child = λ p edge is. absurd (cc);
      user = λ k none. absurd none;
      shallow = omega arith;
    })
begun_tied es ps e (inr none) = absurd none

pub kept_begun : (es : List Elem) (ps : List Precision)
    → IsKept (fresh 0 es ps None ∷ []) (link 0 0 [] ∷ []) (0 ∷ []) 1
kept_begun es ps = record {
  tree = record { ascend = (tt, tt); same = refl; tied = λ e there. begun_tied es ps e there };
  below = (omega arith, tt);
  bound = omega arith;
  waits = refl;
}
