-- A walk of literals means the walk of their values.
use Rattle.std.proofs.Common.{◌≡◌, ℕ, ◌*◌, ◌<◌, Bool, List, [], ◌∷◌, refl, ap}
use Rattle.std.proofs.Common.{◌∙◌}
use Rattle.cpa_cnf.specs.Lines.{AreBelow}
use Rattle.cpa_blast_gates.specs.declared.gate.Gate.{Gate}
use Rattle.cpa_blast_gates.specs.Gates.{lit_value}
use Rattle.cpa_blast_gates.specs.Nets.{vars, IsScoped, Built, built}
use Rattle.cpa_blast_gates.specs.Meanings.{Grows}
use Rattle.cpa_blast_gates.specs.Laws.{nets_grow}
use Rattle.cpa_blast_words.specs.declared.rows.Row.{Row}
use Rattle.cpa_blast_words.specs.declared.rows.Column.{Column}
use Rattle.cpa_blast_words.specs.declared.walks.Walked.{Walked}
use Rattle.cpa_blast_words.specs.Rows.{row_in}
use Rattle.cpa_blast_words.specs.Walks.{walk, walked_of, with_low}
use Rattle.cpa_blast_words.specs.Truths.{values, row_bit, walked_bits, walked_carry}
use Rattle.cpa_blast_words.specs.Meanings.{IsColumn, IsWalk}
use Rattle.cpa_blast_words.specs.lemmas.Columns.{still_below, column_is}

pub all_still_below : (s t : List Gate) (ls : List ℕ) → Grows s t → AreBelow (vars s) ls
    → AreBelow (vars t) ls
all_still_below s t [] grows below = tt
all_still_below s t (l ∷ ls) grows below =
    (still_below s t l grows below.0, all_still_below s t ls grows below.1)

-- one more column below a walk
lower : (s : List Gate) (first : Built Column) (rest : Built Walked) (row : Row) (c x y : ℕ)
    (xs ys : List ℕ) → IsColumn s first row c x y
    → IsWalk first.net rest row first.value.carry xs ys
    → IsWalk s (with_low first.value.bit rest) row c (x ∷ xs) (y ∷ ys)
lower s first rest row c x y xs ys column walked = record {
  grows = nets_grow.on s first.net rest.net column.grows walked.grows;
  bits_below = (
    still_below first.net rest.net first.value.bit walked.grows column.bit_below,
    walked.bits_below,
  );
  carry_below = walked.carry_below;
  bits = λ m holds.
      let before = walked.grows.keeps m holds in
      ap (λ b. b ∷ values m rest.value.bits) (column.bit m before)
      ∙ ap (λ bs. row_bit row (lit_value m c) (lit_value m x) (lit_value m y) ∷ bs)
      (walked.bits m holds
      ∙ ap (λ b. walked_bits row b (values m xs) (values m ys)) (column.carry m before));
  carry = λ m holds.
      walked.carry m holds
      ∙ ap (λ b. walked_carry row b (values m xs) (values m ys))
      (column.carry m (walked.grows.keeps m holds));
}

stopped : (s : List Gate) (row : Row) (c : ℕ) (xs ys : List ℕ) → IsScoped s → c < 2 * vars s
    → ((b : Bool) (m : ℕ → Bool) → [] ≡ walked_bits row b (values m xs) (values m ys))
    → ((b : Bool) (m : ℕ → Bool) → b ≡ walked_carry row b (values m xs) (values m ys))
    → IsWalk s (built s (walked_of [] c)) row c xs ys
stopped s row c xs ys scoped below none same = record {
  grows = nets_grow.stays s scoped;
  bits_below = tt;
  carry_below = below;
  bits = λ m holds. none (lit_value m c) m;
  carry = λ m holds. same (lit_value m c) m;
}

pub walk_is : (row : Row) (s : List Gate) (c : ℕ) (xs ys : List ℕ) → IsScoped s → c < 2 * vars s
    → AreBelow (vars s) xs → AreBelow (vars s) ys → IsWalk s (walk row s c xs ys) row c xs ys
unfolding walk
walk_is row s c [] ys scoped below below_xs below_ys =
    stopped s row c [] ys scoped below (λ b m. refl) (λ b m. refl)
walk_is row s c (x ∷ xs) [] scoped below below_xs below_ys =
    stopped s row c (x ∷ xs) [] scoped below (λ b m. refl) (λ b m. refl)
walk_is row s c (x ∷ xs) (y ∷ ys) scoped below below_xs below_ys =
    let first = row_in row s c x y in
    let column = column_is s c x y scoped below below_xs.0 below_ys.0 row in
    lower s first (walk row first.net first.value.carry xs ys) row c x y xs ys column
    (walk_is row first.net first.value.carry xs ys column.grows.scoped column.carry_below
    (all_still_below s first.net xs column.grows below_xs.1)
    (all_still_below s first.net ys column.grows below_ys.1))
