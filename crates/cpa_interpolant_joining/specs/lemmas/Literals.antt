-- The value of a renamed literal is that of the literal, where the variables' values are.
use Rattle.std.proofs.Common.{◌≡◌, ℕ, ◌+◌, ◌*◌, ◌/◌, ◌%◌, ◌<◌, Bool, false, not}
use Rattle.std.proofs.Common.{List, ◌++◌, length, take, Option, None, Some}
use Rattle.std.proofs.Common.{refl, sym, ap, ◌∙◌, arith, zero-add}
use Rattle.std.specs.Prelude.{◌==◌, slice_index_or, if◌then◌else◌}
use Rattle.std.specs.List.{range_with_len}
use Rattle.std.proofs.lemmas.List.{get_or_append_left, get_or-append-add, get_or-map, get_or-take}
use Rattle.std.proofs.lemmas.List.FromFn.{length-range_with_len, get_or-range_with_len}
use Rattle.std.proofs.lemmas.Nat.{div-mul-add, mod-mul-add, mod_below, div_below}
use Rattle.cpa_cnf.specs.Models.{value_of_literal}
use Rattle.cpa_interpolant_joining.specs.Joining.{name_of, named_or, renamed, renamed_literal}
use Rattle.cpa_interpolant_joining.specs.Joining.{seen, AreNames, Agree}

-- a value with a sign
abbrev signed : ℕ → Bool → Bool
signed sign value = if sign == 0 then value else not value

literal_value : (values : List Bool) (v sign : ℕ) → sign < 2
    → value_of_literal values (v * 2 + sign) ≡ signed sign (slice_index_or values v false)
literal_value values v sign h =
    ap (λ m. signed m (slice_index_or values ((v * 2 + sign) / 2) false))
    (mod-mul-add v 2 sign h)
    ∙ ap (λ q. signed sign (slice_index_or values q false)) (div-mul-add v 2 sign h)

pub half_below : (l n : ℕ) → l < 2 * n → l / 2 < n
half_below l n h = let turned : l < n * 2 = omega arith in div_below l 2 n (omega arith) turned

module _ (first : ℕ) (names : List (Option ℕ)) where
  -- where the values of the variables are alike, so are those of the literals
  pub renamed_value : (values others : List Bool) (l : ℕ)
      → slice_index_or values (renamed first names (l / 2)) false
      ≡ slice_index_or others (l / 2) false
      → value_of_literal values (renamed_literal first names l) ≡ value_of_literal others l
  renamed_value values others l same =
      literal_value values (renamed first names (l / 2)) (l % 2) (mod_below l 2 (omega arith))
      ∙ ap (signed (l % 2)) same

  -- what is seen of the joined formula's values
  pub seen_at : (vars v : ℕ) (values : List Bool) → v < vars
      → slice_index_or (seen first names vars values) v false
      ≡ slice_index_or values (renamed first names v) false
  seen_at vars v values h =
      let long = length-range_with_len 0 vars in
      get_or-map (λ k. slice_index_or values (renamed first names k) false)
      (range_with_len 0 vars) v 0 false (omega arith)
      ∙ ap (λ k. slice_index_or values (renamed first names k) false)
      (get_or-range_with_len 0 vars v 0 h ∙ zero-add v)

  -- the values of both, one behind the other
  behind : (values others : List Bool) (v : ℕ) (o : Option ℕ) → length values ≡ first
      → name_of names v ≡ o → ((name : ℕ) → o ≡ Some name → name < first)
      → ((name : ℕ) → o ≡ Some name
      → slice_index_or others v false ≡ slice_index_or values name false)
      → slice_index_or (values ++ others) (named_or o (first + v)) false
      ≡ slice_index_or others v false
  behind values others v None long is below agree =
      ap (λ n. slice_index_or (values ++ others) (n + v) false) (sym long)
      ∙ get_or-append-add values others v false
  behind values others v (Some name) long is below agree =
      let inside = below name refl in
      get_or_append_left values others false name (omega arith) ∙ sym (agree name refl)

  pub both_at : (values others : List Bool) (v : ℕ) → length values ≡ first
      → AreNames first names → Agree names values others
      → slice_index_or (values ++ others) (renamed first names v) false
      ≡ slice_index_or others v false
  both_at values others v long below agree =
      behind values others v (name_of names v) long refl (below v) (agree v)

-- ---- values of the first formula alone

pub same_value : (values others : List Bool) (l : ℕ)
    → slice_index_or values (l / 2) false ≡ slice_index_or others (l / 2) false
    → value_of_literal values l ≡ value_of_literal others l
same_value values others l same = ap (signed (l % 2)) same

pub taken_value : (values : List Bool) (n l : ℕ) → l < 2 * n
    → value_of_literal values l ≡ value_of_literal (take n values) l
taken_value values n l h =
    same_value values (take n values) l
    (sym (get_or-take n values (l / 2) false (half_below l n h)))

pub front_value : (values others : List Bool) (n l : ℕ) → length values ≡ n → l < 2 * n
    → value_of_literal values l ≡ value_of_literal (values ++ others) l
front_value values others n l long h =
    let inside = half_below l n h in
    same_value values (values ++ others) l
    (sym (get_or_append_left values others false (l / 2) (omega arith)))
