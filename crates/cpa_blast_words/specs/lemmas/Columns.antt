-- Each row makes of three literals what it makes of their values.
use Rattle.std.proofs.Common.{◌≡◌, ℕ, ◌*◌, ◌<◌, Bool, not, ◌&&◌, List, refl}
use Rattle.std.proofs.Common.{ap, ◌∙◌, arith}
use Rattle.cpa_cnf.specs.Literals.{opposite}
use Rattle.cpa_blast_gates.specs.declared.gate.Gate.{Gate}
use Rattle.cpa_blast_gates.specs.Gates.{lit_value, differ, majority}
use Rattle.cpa_blast_gates.specs.Nets.{vars, IsScoped, Built, and_in, or_in, xor_in, majority_in}
use Rattle.cpa_blast_gates.specs.Nets.{choice_in}
use Rattle.cpa_blast_gates.specs.Meanings.{Grows, Makes}
use Rattle.cpa_blast_gates.specs.Laws.{OperatorsAreMeant, nets_grow, gates_mean_their_operators}
use Rattle.cpa_blast_gates.specs.Laws.{literals_have_values}
use Rattle.cpa_blast_words.specs.declared.rows.Row.{Row}
use Rattle.cpa_blast_words.specs.declared.rows.Row.TheVariants as row
use Rattle.cpa_blast_words.specs.Rows.{row_in, beside, sum_column, less_column, equal_column}
use Rattle.cpa_blast_words.specs.Truths.{row_bit, row_carry}
use Rattle.cpa_blast_words.specs.Meanings.{IsColumn}

-- a literal of a net is one of the grown net
pub still_below : (s t : List Gate) (l : ℕ) → Grows s t → l < 2 * vars s → l < 2 * vars t
still_below s t l grows below = let longer = grows.longer in omega arith

pub opposite_below : (n l : ℕ) → l < 2 * n → opposite l < 2 * n
opposite_below n l h = omega arith

-- a row that makes a bit and leaves the carry
beside_is : (s : List Gate) (made : Built ℕ) (f : (ℕ → Bool) → Bool) (row : Row) (c x y : ℕ)
    → Makes s made f → c < 2 * vars s
    → ((m : ℕ → Bool) → f m ≡ row_bit row (lit_value m c) (lit_value m x) (lit_value m y))
    → ((b u v : Bool) → b ≡ row_carry row b u v)
    → IsColumn s (beside c made) row c x y
beside_is s made f row c x y makes below same stays = record {
  grows = makes.grows;
  bit_below = makes.below;
  carry_below = still_below s made.net c makes.grows below;
  bit = λ m holds. makes.is m holds ∙ same m;
  carry = λ m holds. stays (lit_value m c) (lit_value m x) (lit_value m y);
}

module _ (s : List Gate) (c x y : ℕ) (scoped : IsScoped s) (below_c : c < 2 * vars s)
    (below_x : x < 2 * vars s) (below_y : y < 2 * vars s) where
  law : OperatorsAreMeant
  law = gates_mean_their_operators

  sum_is : IsColumn s (sum_column s c x y) row.Sum c x y
  sum_is =
      let first = law.difference s x y scoped below_x below_y in
      let s1 = (xor_in s x y).net in
      let u = (xor_in s x y).value in
      let second = law.difference s1 u c first.grows.scoped first.below
      (still_below s s1 c first.grows below_c) in
      let s2 = (xor_in s1 u c).net in
      let two = nets_grow.on s s1 s2 first.grows second.grows in
      let third = law.two_of_three s2 x y c second.grows.scoped
      (still_below s s2 x two below_x) (still_below s s2 y two below_y)
      (still_below s s2 c two below_c) in
      let s3 = (majority_in s2 x y c).net in
      record {
        grows = nets_grow.on s s2 s3 two third.grows;
        bit_below = still_below s2 s3 (xor_in s1 u c).value third.grows second.below;
        carry_below = third.below;
        bit = λ m holds.
            let h2 = third.grows.keeps m holds in
            let h1 = second.grows.keeps m h2 in
            second.is m h2 ∙ ap (λ b. differ b (lit_value m c)) (first.is m h1);
        carry = λ m holds. third.is m holds;
      }

  less_is : IsColumn s (less_column s c x y) row.Less c x y
  less_is =
      let made = law.two_of_three s (opposite x) y c scoped (opposite_below (vars s) x below_x)
      below_y below_c in
      record {
        grows = made.grows;
        bit_below = still_below s (majority_in s (opposite x) y c).net x made.grows below_x;
        carry_below = made.below;
        bit = λ m holds. refl;
        carry = λ m holds. made.is m holds
            ∙ ap (λ b. majority b (lit_value m y) (lit_value m c))
            (literals_have_values.negative m x);
      }

  equal_is : IsColumn s (equal_column s c x y) row.Equal c x y
  equal_is =
      let first = law.difference s x y scoped below_x below_y in
      let s1 = (xor_in s x y).net in
      let u = (xor_in s x y).value in
      let second = law.conjunction s1 c (opposite u) first.grows.scoped
      (still_below s s1 c first.grows below_c) (opposite_below (vars s1) u first.below) in
      let s2 = (and_in s1 c (opposite u)).net in
      let two = nets_grow.on s s1 s2 first.grows second.grows in
      record {
        grows = two;
        bit_below = still_below s s2 x two below_x;
        carry_below = second.below;
        bit = λ m holds. refl;
        carry = λ m holds.
            let h1 = second.grows.keeps m holds in
            second.is m holds
            ∙ ap (λ b. lit_value m c && b) (literals_have_values.negative m u
            ∙ ap not (first.is m h1));
      }

  pub column_is : (row : Row) → IsColumn s (row_in row s c x y) row c x y
  unfolding row_in
  column_is row.And =
      beside_is s (and_in s x y) _ row.And c x y (law.conjunction s x y scoped below_x below_y)
      below_c (λ m. refl) (λ b u v. refl)
  column_is row.Or =
      beside_is s (or_in s x y) _ row.Or c x y (law.disjunction s x y scoped below_x below_y)
      below_c (λ m. refl) (λ b u v. refl)
  column_is row.Xor =
      beside_is s (xor_in s x y) _ row.Xor c x y (law.difference s x y scoped below_x below_y)
      below_c (λ m. refl) (λ b u v. refl)
  column_is row.Choose =
      beside_is s (choice_in s c x y) _ row.Choose c x y
      (law.choice s c x y scoped below_c below_x below_y) below_c (λ m. refl) (λ b u v. refl)
  column_is row.Sum = sum_is
  column_is row.Less = less_is
  column_is row.Equal = equal_is
