-- One more turn of the loops of a divider, from the high bits down.
use Rattle.std.proofs.Common.{◌≡◌, ℕ, suc, ◌+◌, ◌-◌, ◌<◌, List, [], ◌∷◌, length, take, drop}
use Rattle.std.proofs.Common.{get_or, refl, sym, ap, ◌∙◌, arith, add-one}
use Rattle.std.proofs.Math.Seq.{drop-cons, drop-length}
use Rattle.std.proofs.lemmas.List.{length-drop}
use Rattle.cpa_cnf.specs.Literals.{opposite}
use Rattle.cpa_blast_gates.specs.declared.gate.Gate.{Gate}
use Rattle.cpa_blast_gates.specs.Nets.{Built, built, and_in}
use Rattle.cpa_blast_quotients.specs.declared.dividers.Divided.{Divided}
use Rattle.cpa_blast_quotients.specs.Dividers.{divided, no_bit, stage, divide}

item_at : (zs : List ℕ) (p i d : ℕ) → p ≡ i + 1 → i < length zs → d ≡ get_or zs i d
    → drop i zs ≡ d ∷ drop p zs
item_at zs p i d next inside is =
    at ∙ ap (λ j. get_or zs i d ∷ drop j zs) (sym next) ∙ ap (λ z. z ∷ drop p zs) (sym is)
  where
    at : drop i zs ≡ get_or zs i d ∷ drop (i + 1) zs
    at = rw (add-one, drop-cons zs i d) refl

-- ---- no bit is true

pub none_start : (net : List Gate) (xs : List ℕ) → built net 0 ≡ no_bit net (drop (length xs) xs)
unfolding no_bit
none_start net xs = ap (no_bit net) (sym (drop-length xs))

pub none_next : (net now next : List Gate) (xs : List ℕ) (p i x none out : ℕ) → p ≡ i + 1
    → i < length xs → x ≡ get_or xs i x → built now none ≡ no_bit net (drop p xs)
    → built next out ≡ and_in now none (opposite x) → built next out ≡ no_bit net (drop i xs)
unfolding no_bit
none_next net now next xs p i x none out step inside is so_far made =
    made ∙ ap (λ (b : Built ℕ). and_in b.net b.value (opposite x)) so_far
    ∙ ap (no_bit net) (sym (item_at xs p i x step inside is))

-- ---- the divider

pub divide_start : (net : List Gate) (xs ys : List ℕ) (empty : Divided) → empty ≡ divided [] []
    → built net empty ≡ divide net (drop (length xs) xs) ys
unfolding divide
divide_start net xs ys empty e =
    ap (built net) e ∙ ap (λ ls. divide net ls ys) (sym (drop-length xs))

pub divide_next : (net now next : List Gate) (xs ys : List ℕ) (above out : Divided)
    (p i x done : ℕ) → p ≡ i + 1 → i < length xs → done ≡ length xs - i → x ≡ get_or xs i x
    → built now above ≡ divide net (drop p xs) ys
    → built next out ≡ stage now x above (take done ys) (drop done ys)
    → built next out ≡ divide net (drop i xs) ys
unfolding divide
divide_next net now next xs ys above out p i x done step inside long is so_far made =
    made
    ∙ ap (λ (b : Built Divided). stage b.net x b.value (take done ys) (drop done ys)) so_far
    ∙ ap (λ k. stage (divide net (drop p xs) ys).net x (divide net (drop p xs) ys).value
    (take k ys) (drop k ys)) (long ∙ count (length xs) p i step inside
    ∙ ap suc (sym (length-drop p xs)))
    ∙ ap (λ ls. divide net ls ys) (sym (item_at xs p i x step inside is))
  where
    count : (n p i : ℕ) → p ≡ i + 1 → i < n → n - i ≡ suc (n - p)
    count n p i step inside = omega arith

pub empty_divided : (quotient remainder : List ℕ) → quotient ≡ [] → remainder ≡ []
    → divided quotient remainder ≡ divided [] []
empty_divided quotient remainder e h =
    ap (λ ls. divided ls remainder) e ∙ ap (divided []) h
