-- One more row of a product, from the high bits of the second word down.
use Rattle.std.proofs.Common.{◌≡◌, ℕ, zero, suc, ◌+◌, ◌-◌, ◌<◌, ◌≤◌, List, [], ◌∷◌, length, take}
use Rattle.std.proofs.Common.{drop}
use Rattle.std.proofs.Common.{get_or, refl, sym, ap, ◌∙◌, arith, add-one}
use Rattle.std.proofs.Math.Seq.{drop-cons, drop-length, take-length}
use Rattle.std.proofs.lemmas.List.{length-take-le}
use Rattle.cpa_blast_gates.specs.declared.gate.Gate.{Gate}
use Rattle.cpa_blast_gates.specs.Nets.{Built, built}
use Rattle.cpa_blast_arithmetic.specs.Products.{masked_word, added_word, front, product}

take_below : (k n : ℕ) (xs : List ℕ) → k ≤ n → take k (take n xs) ≡ take k xs
take_below zero n xs h = refl
take_below (suc k) zero xs h = absurd (omega arith)
take_below (suc k) (suc n) [] h = refl
take_below (suc k) (suc n) (x ∷ xs) h = ap (λ zs. x ∷ zs) (take_below k n xs (omega arith))

-- the front of the first bits is those less one
front_take : (xs : List ℕ) (k : ℕ) → suc k ≤ length xs → front (take (suc k) xs) ≡ take k xs
front_take xs k h =
    ap (λ n. take n (take (suc k) xs)) (ap (λ n. n - 1) (length-take-le (suc k) xs h) ∙ one k)
    ∙ take_below k (suc k) xs (omega arith)
  where
    one : (k : ℕ) → suc k - 1 ≡ k
    one k = omega arith

pub product_next : (net up_net row_net next : List Gate) (xs ys above row out : List ℕ)
    (p i y : ℕ) → p ≡ i + 1 → length xs ≡ length ys → i < length ys → y ≡ get_or ys i y
    → built up_net above ≡ product net (take (length xs - p) xs) (drop p ys)
    → built row_net row ≡ masked_word up_net y (take (length xs - i) xs)
    → built next out ≡ added_word row_net row above
    → built next out ≡ product net (take (length xs - i) xs) (drop i ys)
unfolding product
product_next net up_net row_net next xs ys above row out p i y is_p e inside is so_far masked add =
    let k = length xs - (i + 1) in
    let zs = take (length xs - i) xs in
    let up : front zs ≡ take k xs =
    ap (λ n. front (take n xs)) (count (length xs) i (omega arith))
    ∙ front_take xs k (room (length xs) i (omega arith)) in
    let at : drop i ys ≡ y ∷ drop (i + 1) ys =
    cons_at ys i y inside ∙ ap (λ z. z ∷ drop (i + 1) ys) (sym is) in
    add
    ∙ ap (λ (b : Built (List ℕ)). added_word b.net b.value above) masked
    ∙ ap (λ (a : Built (List ℕ)). (added_word (masked_word a.net y zs).net
    (masked_word a.net y zs).value a.value))
    (so_far ∙ ap (λ q. product net (take (length xs - q) xs) (drop q ys)) is_p
    ∙ ap (λ fs. product net fs (drop (i + 1) ys)) (sym up))
    ∙ ap (product net zs) (sym at)
  where
    count : (n i : ℕ) → i < n → n - i ≡ suc (n - (i + 1))
    count n i h = omega arith

    room : (n i : ℕ) → i < n → suc (n - (i + 1)) ≤ n
    room n i h = omega arith

    cons_at : (zs : List ℕ) (i d : ℕ) → i < length zs
        → drop i zs ≡ get_or zs i d ∷ drop (i + 1) zs
    cons_at zs i d inside = rw (add-one, drop-cons zs i d) refl

-- nothing stands above the last place
pub product_start : (net : List Gate) (zs ys above : List ℕ) → above ≡ []
    → built net above ≡ product net zs (drop (length ys) ys)
unfolding product
product_start net zs ys above e =
    ap (λ ls. built net ls) e ∙ ap (λ ls. product net zs ls) (sym (drop-length ys))

-- and below the first one the product is whole
pub product_end : (net : List Gate) (xs ys : List ℕ) (n p : ℕ) → p ≡ 0 → n ≡ length xs - p
    → product net (take (length xs - p) xs) (drop p ys) ≡ product net xs ys
product_end net xs ys n p e is =
    ap (λ q. product net (take (length xs - q) xs) (drop q ys)) e
    ∙ ap (λ ls. product net ls ys) (ap (λ k. take k xs) (all (length xs)) ∙ take-length xs)
  where
    all : (n : ℕ) → n - 0 ≡ n
    all n = omega arith
