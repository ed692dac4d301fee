-- What a loop that counts the items of a list has left.
use Rattle.std.proofs.Common.{◌≡◌, ℕ, zero, suc, ◌+◌, ◌<◌, ◌≤◌, List, [], ◌∷◌, drop, length, Some}
use Rattle.std.proofs.Common.{slice_get, sym, ap, ◌∙◌, arith}

-- the item that is counted next
pub record IsCounted {A : Type 0} (xs : List A) (k : ℕ) (x : A) (ys : List A) : Type 0 where
  pub below : k < length xs
  pub is : slice_get xs k ≡ Some x
  pub behind : ys ≡ drop (k + 1) xs

pub counted : {A : Type 0} (xs last ys : List A) (k : ℕ) (x : A) → last ≡ x ∷ ys
    → last ≡ drop k xs → IsCounted xs k x ys
counted [] last ys zero x is all = absurd (cc)
counted [] last ys (suc k) x is all = absurd (cc)
counted (z ∷ xs) last ys zero x is all = record {
  below = omega arith;
  is = ap Some (first (sym all ∙ is));
  behind = sym (behind (sym all ∙ is));
}
  where
    first : z ∷ xs ≡ x ∷ ys → z ≡ x
    first e = cc

    behind : z ∷ xs ≡ x ∷ ys → xs ≡ ys
    behind e = cc
counted (z ∷ xs) last ys (suc k) x is all =
    let next = counted xs last ys k x is all in
    record {
      below = omega (arith, next.below);
      is = next.is;
      behind = next.behind ∙ ap (λ n. drop n (z ∷ xs)) one_more;
    }
  where
    one_more : suc (k + 1) ≡ suc k + 1
    one_more = omega arith

-- nothing is left where all are counted
pub counted_all : {A : Type 0} (xs last : List A) (k : ℕ) → length last ≡ 0 → last ≡ drop k xs
    → length xs ≤ k
counted_all [] last k none all = omega arith
counted_all (z ∷ xs) last zero none all = absurd (omega (arith, none, ap length all))
counted_all (z ∷ xs) last (suc k) none all =
    let rest = counted_all xs last k none all in omega (arith, rest)
