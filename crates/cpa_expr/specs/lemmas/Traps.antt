-- No value is a trap, and a trap is no value.
use Rattle.std.proofs.Common.{◌≡◌, ◌≢◌, ◌↔◌, ◌⊎◌, inl, inr, ℕ, zero, suc, ◌+◌, ◌<◌, ◌≤◌, nat_lt, ℤ}
use Rattle.std.proofs.Common.{pos, negsuc, ◌≤ℤ◌, ◌<ℤ◌, ◌-ℤ◌, ◌*ℤ◌, int_div, ◌^◌, Bool, true, false}
use Rattle.std.proofs.Common.{not, List, [], ◌∷◌, Option, None, Some, IsSome, IsSomeAnd, slice_get}
use Rattle.std.proofs.Common.{option_map, option_and_then, refl, sym, ap, subst, ◌∙◌, arith}
use Rattle.std.specs.Prelude.{if◌then◌else◌}
use Rattle.std.specs.Int.{int_div_euclid}
use Rattle.std.specs.Ordering.{int_eq}
use Rattle.std.proofs.lemmas.Int.{ints}
use Rattle.std.proofs.lemmas.Bool.Decides.{nat_tests, Decides-int_eq}
use Rattle.cpa_ints.specs.declared.integers.IntType.{IntType}
use Rattle.cpa_ints.specs.Integers.{width}
use Rattle.cpa_ints.specs.Wrapping.{wrapped}
use Rattle.cpa_expr.specs.declared.tree.BinOp.{BinOp}
use Rattle.cpa_expr.specs.declared.tree.BinOp.TheVariants as bin
use Rattle.cpa_expr.specs.declared.tree.Expr.{Expr, out-Expr, roll-Expr}
use Rattle.cpa_expr.specs.declared.tree.Expr.TheVariants.{Read}
use Rattle.cpa_expr.specs.declared.tree.Expr.TheViews.{roll-out-Expr, out-roll-Expr}
use Rattle.cpa_expr.specs.declared.tree.Expr.TheOpen.{Expr-F}
use Rattle.cpa_expr.specs.Shape.{OfParts, AreCells, IsTypedHere, IsTyped}
use Rattle.cpa_expr.specs.Values.{un_value, amount_of, divided_by, bin_value, compares, truth}
use Rattle.cpa_expr.specs.Values.{is_nonzero, truth_of, cell_at, evaluated, logical_and, logical_or}
use Rattle.cpa_expr.specs.Values.{logical_not, conditional, value_step, value_of}
use Rattle.cpa_expr.specs.Cells.{AreValues}
use Rattle.cpa_expr.specs.Evaluations.{Evaluates, at_node, in_part}
use Rattle.cpa_expr.specs.Traps.{IsOutside, HasNoValue, TrapsHere, Traps}
use Rattle.cpa_expr.specs.lemmas.Parts.{by_parts, every_rolled}
use Rattle.cpa_expr.specs.lemmas.Layers.{values_in, value_rolled}
use Rattle.cpa_expr.specs.lemmas.Variants.{value_read, typed_read}

abbrev IsOther : ℤ → Type 0
IsOther a = a ≢ pos 0

zero_or_other : (a : ℤ) → (a ≡ pos 0) ⊎ IsOther a
zero_or_other a = by (int_eq a (pos 0)) refl
  where
    by : (b : Bool) → int_eq a (pos 0) ≡ b → (a ≡ pos 0) ⊎ IsOther a
    by true e = inl ((Decides-int_eq a (pos 0)).0 e)
    by false e = inr (λ z. let t = (Decides-int_eq a (pos 0)).1 z in cc)

other_nonzero : (a : ℤ) → IsOther a → is_nonzero a ≡ true
other_nonzero a h = by (int_eq a (pos 0)) refl
  where
    by : (b : Bool) → int_eq a (pos 0) ≡ b → not b ≡ true
    by true e = absurd (h ((Decides-int_eq a (pos 0)).0 e))
    by false e = refl

-- ---- the operators

mapped_none : {A : Type 0} (f : A → ℤ) (o : Option A) → option_map f o ≡ None → o ≡ None
mapped_none f None h = refl
mapped_none f (Some a) h = absurd (cc)

amount_none : (t : IntType) (b : ℤ) → IsOutside (width t) b → amount_of t b ≡ None
amount_none t (pos n) out = by (nat_lt n (width t)) refl
  where
    by : (c : Bool) → nat_lt n (width t) ≡ c → (if c then Some n else None) ≡ None
    by false e = refl
    by true e =
        let below : n < width t = grind (arith, nat_tests) in
        absurd (elim out [ inl h ↦ omega (arith, ints, h) | inr h ↦ omega (arith, ints, h) ])
amount_none t (negsuc n) out = refl

none_amount : (t : IntType) (b : ℤ) → amount_of t b ≡ None → IsOutside (width t) b
none_amount t (pos n) none = by (nat_lt n (width t)) refl none
  where
    by : (c : Bool) → nat_lt n (width t) ≡ c → (if c then Some n else None) ≡ None →
        IsOutside (width t) (pos n)
    by true e h = absurd (cc)
    by false e h = let above : width t ≤ n = grind (arith, nat_tests) in inr (omega (arith, ints))
none_amount t (negsuc n) none = inl (omega (arith, ints))

divided_none : {A : Type 0} (b : ℤ) (r : A) → divided_by b r ≡ None → b ≡ pos 0
divided_none b r h = elim (zero_or_other b) [ inl z ↦ z | inr o ↦ absurd (other b r h o) ]
  where
    other : {A : Type 0} (b : ℤ) (r : A) → divided_by b r ≡ None → IsOther b → ⊥
    other b r h o = by (int_eq b (pos 0)) refl h
      where
        by : (c : Bool) → int_eq b (pos 0) ≡ c → (if c then None else Some r) ≡ None → ⊥
        by true e k = o ((Decides-int_eq b (pos 0)).0 e)
        by false e k = cc

op_none : (o : BinOp) (t : IntType) (a b : ℤ) → HasNoValue o t b → bin_value o t a b ≡ None
op_none bin.Add t a b h = absurd h
op_none bin.Sub t a b h = absurd h
op_none bin.Mul t a b h = absurd h
op_none bin.Div t a b h = subst (λ z. divided_by z (wrapped t (int_div a z)) ≡ None) (sym h) refl
op_none bin.Rem t a b h = subst (λ z. divided_by z (a -ℤ int_div a z *ℤ z) ≡ None) (sym h) refl
op_none bin.BitAnd t a b h = absurd h
op_none bin.BitOr t a b h = absurd h
op_none bin.BitXor t a b h = absurd h
op_none bin.Shl t a b h = ap (option_map (λ n. wrapped t (a *ℤ pos (2 ^ n)))) (amount_none t b h)
op_none bin.Shr t a b h = ap (option_map (λ n. int_div_euclid a (pos (2 ^ n)))) (amount_none t b h)

none_op : (o : BinOp) (t : IntType) (a b : ℤ) → bin_value o t a b ≡ None → HasNoValue o t b
none_op bin.Add t a b h = absurd (cc)
none_op bin.Sub t a b h = absurd (cc)
none_op bin.Mul t a b h = absurd (cc)
none_op bin.Div t a b h = divided_none b (wrapped t (int_div a b)) h
none_op bin.Rem t a b h = divided_none b (a -ℤ int_div a b *ℤ b) h
none_op bin.BitAnd t a b h = absurd (cc)
none_op bin.BitOr t a b h = absurd (cc)
none_op bin.BitXor t a b h = absurd (cc)
none_op bin.Shl t a b h =
    none_amount t b (mapped_none (λ n. wrapped t (a *ℤ pos (2 ^ n))) (amount_of t b) h)
none_op bin.Shr t a b h =
    none_amount t b (mapped_none (λ n. int_div_euclid a (pos (2 ^ n))) (amount_of t b) h)

-- ---- the combinations of values

both_none : (f : ℤ → ℤ → Option ℤ) (p q : Option ℤ) → evaluated f p q ≡ None
    → (p ≡ None) ⊎ (IsSome p × (q ≡ None)) ⊎ (IsSome p
    × IsSomeAnd q (λ b. (a : ℤ) × (f a b ≡ None)))
both_none f None q h = inl refl
both_none f (Some a) None h = inr (inl (refl, refl))
both_none f (Some a) (Some b) h = inr (inr (refl, (a, h)))

right_none : (f : ℤ → ℤ → Option ℤ) (p : Option ℤ) → evaluated f p None ≡ None
right_none f None = refl
right_none f (Some a) = refl

and_none : (p q : Option ℤ) → logical_and p q ≡ None →
    (p ≡ None) ⊎ (IsSomeAnd p IsOther × (q ≡ None))
and_none None q h = inl refl
and_none (Some a) q h = by (zero_or_other a)
  where
    by : (a ≡ pos 0) ⊎ IsOther a → (Some a ≡ None) ⊎ (IsOther a × (q ≡ None))
    by (inl z) =
        let none : logical_and (Some (pos 0)) q ≡ None = subst (λ b. logical_and (Some b) q ≡ None)
        z h in absurd (cc)
    by (inr o) =
        let right : truth_of q ≡ None = subst (λ b. (if b then truth_of q else Some (pos 0)) ≡ None)
        (other_nonzero a o) h in
        inr (o, mapped_none (λ b. truth (is_nonzero b)) q right)

or_none : (p q : Option ℤ) → logical_or p q ≡ None → (p ≡ None) ⊎ ((p ≡ Some (pos 0)) × (q ≡ None))
or_none None q h = inl refl
or_none (Some a) q h = by (zero_or_other a)
  where
    by : (a ≡ pos 0) ⊎ IsOther a → (Some a ≡ None) ⊎ ((Some a ≡ Some (pos 0)) × (q ≡ None))
    by (inl z) =
        let right : truth_of q ≡ None = subst (λ b. logical_or (Some b) q ≡ None) z h in
        inr (ap Some z, mapped_none (λ b. truth (is_nonzero b)) q right)
    by (inr o) =
        let none : Some (pos 1) ≡ None = subst (λ b. (if b then Some (pos 1)
        else truth_of q) ≡ None) (other_nonzero a o) h in absurd (cc)

cond_none : (p q r : Option ℤ) → conditional p q r ≡ None
    → (p ≡ None) ⊎ (IsSomeAnd p IsOther × (q ≡ None)) ⊎ ((p ≡ Some (pos 0)) × (r ≡ None))
cond_none None q r h = inl refl
cond_none (Some a) q r h = by (zero_or_other a)
  where
    by : (a ≡ pos 0) ⊎ IsOther a →
        (Some a ≡ None) ⊎ (IsOther a × (q ≡ None)) ⊎ ((Some a ≡ Some (pos 0)) × (r ≡ None))
    by (inl z) = inr (inr (ap Some z, subst (λ b. conditional (Some b) q r ≡ None) z h))
    by (inr o) = inr (inl (o, subst (λ b. (if b then q else r) ≡ None) (other_nonzero a o) h))

-- a part that is evaluated and traps
none_and : (p q : Option ℤ) → IsSomeAnd p IsOther → q ≡ None → logical_and p q ≡ None
none_and None q h n = refl
none_and (Some a) q h n =
    ap (λ b. if b then truth_of q else Some (pos 0)) (other_nonzero a h) ∙ ap truth_of n

none_or : (p q : Option ℤ) → p ≡ Some (pos 0) → q ≡ None → logical_or p q ≡ None
none_or p q h n = ap (λ o. logical_or o q) h ∙ ap truth_of n

none_first : (p q r : Option ℤ) → IsSomeAnd p IsOther → q ≡ None → conditional p q r ≡ None
none_first None q r h n = refl
none_first (Some a) q r h n = ap (λ b. if b then q else r) (other_nonzero a h) ∙ n

none_second : (p q r : Option ℤ) → p ≡ Some (pos 0) → r ≡ None → conditional p q r ≡ None
none_second p q r h n = ap (λ o. conditional o q r) h ∙ n

-- ---- the read

value_there : (ts : List IntType) (vs : List ℤ) → AreValues ts vs → (k : ℕ) (t : IntType) →
    slice_get ts k ≡ Some t → IsSome (slice_get vs k)
value_there [] [] h k t e = absurd (cc)
value_there [] (v ∷ vs) h k t e = absurd h
value_there (s ∷ ts) [] h k t e = absurd h
value_there (s ∷ ts) (v ∷ vs) h zero t e = refl
value_there (s ∷ ts) (v ∷ vs) h (suc k) t e = value_there ts vs h.1 k t e

outside_none : (values : List ℤ) (base len : ℕ) (i : ℤ) → IsOutside len i →
    cell_at values base len i ≡ None
outside_none values base len (negsuc i) out = refl
outside_none values base len (pos i) out = by (nat_lt i len) refl
  where
    by : (b : Bool) → nat_lt i len ≡ b → (if b then slice_get values (base + i) else None) ≡ None
    by false e = refl
    by true e =
        let below : i < len = grind (arith, nat_tests) in
        absurd (elim out [ inl h ↦ omega (arith, ints, h) | inr h ↦ omega (arith, ints, h) ])

module _ (cells : List IntType) (values : List ℤ) (fit : AreValues cells values) where
  inside_some : (base len : ℕ) (t : IntType) (i : ℤ) → AreCells cells base len t → pos 0 ≤ℤ i →
      i <ℤ pos len → IsSome (cell_at values base len i)
  inside_some base len t (negsuc i) are low high = absurd (omega (arith, ints, low))
  inside_some base len t (pos i) are low high = by (nat_lt i len) refl
    where
      by : (b : Bool) → nat_lt i len ≡ b → IsSome (if b then slice_get values (base + i) else None)
      by true e =
          let below : i < len = grind (arith, nat_tests) in
          value_there cells values fit (base + i) t (are i below)
      by false e =
          let above : len ≤ i = grind (arith, nat_tests) in absurd (omega (arith, ints, high))

  none_outside : (base len : ℕ) (t : IntType) (i : ℤ) → AreCells cells base len t →
      cell_at values base len i ≡ None → IsOutside len i
  none_outside base len t (negsuc i) are none = inl (omega (arith, ints))
  none_outside base len t (pos i) are none = by (nat_lt i len) refl none
    where
      by : (b : Bool) → nat_lt i len ≡ b →
          (if b then slice_get values (base + i) else None) ≡ None → IsOutside len (pos i)
      by true e n =
          let below : i < len = grind (arith, nat_tests) in
          let there = value_there cells values fit (base + i) t (are i below) in absurd (cc)
      by false e n = let above : len ≤ i = grind (arith, nat_tests) in inr (omega (arith, ints))

within_or_outside : (n : ℕ) (i : ℤ) → ((pos 0 ≤ℤ i) × (i <ℤ pos n)) ⊎ IsOutside n i
within_or_outside n (negsuc i) = inr (inl (omega (arith, ints)))
within_or_outside n (pos i) = by (nat_lt i n) refl
  where
    by : (b : Bool) → nat_lt i n ≡ b → ((pos 0 ≤ℤ pos i) × (pos i <ℤ pos n)) ⊎ IsOutside n (pos i)
    by true e =
        let below : i < n = grind (arith, nat_tests) in
        inl (omega (arith, ints), omega (arith, ints))
    by false e = let above : n ≤ i = grind (arith, nat_tests) in inr (inr (omega (arith, ints)))

-- a well-typed read whose index has a value
pub read_some : (cells : List IntType) (t : IntType) (base len : ℕ) (index : Expr) (values : List ℤ)
    (i : ℤ)
    → IsTyped cells (Read t base len index) → AreValues cells values →
    value_of index values ≡ Some i
    → IsSome (value_of (Read t base len index) values) ↔ ((pos 0 ≤ℤ i) × (i <ℤ pos len))
read_some cells t base len index values i typed fit is =
    let are = ((typed_read cells t base len index).0 typed).1 in
    let whole : value_of (Read t base len index) values ≡ cell_at values base len i =
    value_read t base len index values ∙ ap (option_and_then (cell_at values base len)) is in (
      λ some. elim (within_or_outside len i) [
        | inl h ↦ h
        | inr out ↦ let none = outside_none values base len i out in absurd (cc)
      ],
      λ h. subst IsSome (sym whole) (inside_some cells values fit base len t i are h.0 h.1),
    )

-- ---- a trap is no value

module _ (values : List ℤ) where
  here_none : (x : Expr-F Expr) → TrapsHere values x → value_step values (values_in values x) ≡ None
  here_none (Expr-F.Const t n) h = absurd h
  here_none (Expr-F.Read t base len index) h = read (value_of index values) h
    where
      read : (o : Option ℤ) → IsSomeAnd o (IsOutside len) →
          option_and_then (cell_at values base len) o ≡ None
      read None out = refl
      read (Some i) out = outside_none values base len i out
  here_none (Expr-F.Un o t arg) h = absurd h
  here_none (Expr-F.Bin o t left right) h =
      both (value_of left values) (value_of right values) h.0 h.1
    where
      both : (p q : Option ℤ) → IsSome p → IsSomeAnd q (HasNoValue o t) →
          evaluated (bin_value o t) p q ≡ None
      both None q s d = refl
      both (Some a) None s d = refl
      both (Some a) (Some b) s d = op_none o t a b d
  here_none (Expr-F.Cmp o t left right) h = absurd h
  here_none (Expr-F.Cast t arg) h = absurd h
  here_none (Expr-F.And left right) h = absurd h
  here_none (Expr-F.Or left right) h = absurd h
  here_none (Expr-F.Not arg) h = absurd h
  here_none (Expr-F.Cond t test first second) h = absurd h

  abbrev traps : Expr → Type 0
  traps e = value_of e values ≡ None

  -- the same expression traps too
  same_traps : (p e : Expr) → p ≡ e → traps p → traps e
  same_traps p e is n = subst traps is n

  part_none : (x : Expr-F Expr) (p : Expr) → Evaluates values x p → traps p →
      value_step values (values_in values x) ≡ None
  part_none (Expr-F.Const t n) p e h = absurd e
  part_none (Expr-F.Read t base len index) p e h =
      ap (option_and_then (cell_at values base len)) (same_traps p index e h)
  part_none (Expr-F.Un o t arg) p e h = ap (option_map (un_value o t)) (same_traps p arg e h)
  part_none (Expr-F.Bin o t left right) p (inl e) h =
      ap (λ a. evaluated (bin_value o t) a (value_of right values)) (same_traps p left e h)
  part_none (Expr-F.Bin o t left right) p (inr e) h =
      ap (evaluated (bin_value o t) (value_of left values)) (same_traps p right e.1 h)
      ∙ right_none (bin_value o t) (value_of left values)
  part_none (Expr-F.Cmp o t left right) p (inl e) h =
      ap (λ a. evaluated (λ m n. Some (truth (compares o m n))) a (value_of right values))
      (same_traps p left e h)
  part_none (Expr-F.Cmp o t left right) p (inr e) h =
      ap (evaluated (λ m n. Some (truth (compares o m n))) (value_of left values))
      (same_traps p right e.1 h) ∙
      right_none (λ m n. Some (truth (compares o m n))) (value_of left values)
  part_none (Expr-F.Cast t arg) p e h = ap (option_map (wrapped t)) (same_traps p arg e h)
  part_none (Expr-F.And left right) p (inl e) h =
      ap (λ a. logical_and a (value_of right values)) (same_traps p left e h)
  part_none (Expr-F.And left right) p (inr e) h =
      none_and (value_of left values) (value_of right values) e.0 (same_traps p right e.1 h)
  part_none (Expr-F.Or left right) p (inl e) h =
      ap (λ a. logical_or a (value_of right values)) (same_traps p left e h)
  part_none (Expr-F.Or left right) p (inr e) h =
      none_or (value_of left values) (value_of right values) e.0 (same_traps p right e.1 h)
  part_none (Expr-F.Not arg) p e h = ap logical_not (same_traps p arg e h)
  part_none (Expr-F.Cond t test first second) p (inl e) h =
      ap (λ a. conditional a (value_of first values) (value_of second values))
      (same_traps p test e h)
  part_none (Expr-F.Cond t test first second) p (inr (inl e)) h =
      none_first (value_of test values) (value_of first values) (value_of second values) e.0
      (same_traps p first e.1 h)
  part_none (Expr-F.Cond t test first second) p (inr (inr e)) h =
      none_second (value_of test values) (value_of first values) (value_of second values) e.0
      (same_traps p second e.1 h)

  rolled_none : (e : Expr) → value_step values (values_in values (out-Expr e)) ≡ None → traps e
  rolled_none e h = subst traps (roll-out-Expr e) (value_rolled values (out-Expr e) ∙ h)

  pub traps_none : (e : Expr) → Traps values e → traps e
  traps_none e (at_node d h) = rolled_none d (here_none (out-Expr d) h)
  traps_none e (in_part d p ev t) = rolled_none d (part_none (out-Expr d) p ev (traps_none p t))

-- ---- no value is a trap

module _ (cells : List IntType) (values : List ℤ) (fit : AreValues cells values) where
  abbrev IsTrapped : Expr → Type 0
  IsTrapped e = IsTyped cells e → value_of e values ≡ None → Traps values e

  node : (x : Expr-F Expr) → TrapsHere values x → Traps values (roll-Expr x)
  node x h = at_node (roll-Expr x) (subst (TrapsHere values) (sym (out-roll-Expr x)) h)

  part : (x : Expr-F Expr) (p : Expr) → Evaluates values x p → Traps values p →
      Traps values (roll-Expr x)
  part x p e t =
      in_part (roll-Expr x) p (subst (λ y. Evaluates values y p) (sym (out-roll-Expr x)) e) t

  layer_trapped : (x : Expr-F Expr) → OfParts IsTrapped x → IsTypedHere cells x →
      OfParts (IsTyped cells) x
      → value_step values (values_in values x) ≡ None → Traps values (roll-Expr x)
  layer_trapped (Expr-F.Const t n) h here q none = absurd (cc)
  layer_trapped (Expr-F.Read t base len index) h here q none = by (value_of index values) refl
    where
      by : (o : Option ℤ) → value_of index values ≡ o →
          Traps values (roll-Expr (Expr-F.Read t base len index))
      by None e = part (Expr-F.Read t base len index) index refl (h.0 q.0 e)
      by (Some i) e =
          let outside = none_outside cells values fit base len t i here.1
          (ap (option_and_then (cell_at values base len)) (sym e) ∙ none) in
          node (Expr-F.Read t base len index) (subst (λ o. IsSomeAnd o (IsOutside len)) (sym e)
          outside)
  layer_trapped (Expr-F.Un o t arg) h here q none =
      part (Expr-F.Un o t arg) arg refl (h.0 q.0 (mapped_none (un_value o t) (value_of arg values)
      none))
  layer_trapped (Expr-F.Bin o t left right) h here q none =
      elim (both_none (bin_value o t) (value_of left values) (value_of right values) none) [
        | inl e ↦ part (Expr-F.Bin o t left right) left (inl refl) (h.0 q.0 e)
        | inr r ↦ elim r [
          | inl e ↦ part (Expr-F.Bin o t left right) right (inr (e.0, refl)) ((h.1).0 (q.1).0 e.1)
          | inr e ↦ node (Expr-F.Bin o t left right) (e.0, op (value_of right values) e.1)
        ]
      ]
    where
      op : (q : Option ℤ) → IsSomeAnd q (λ b. (a : ℤ) × (bin_value o t a b ≡ None)) →
          IsSomeAnd q (HasNoValue o t)
      op None k = k
      op (Some b) k = none_op o t k.0 b k.1
  layer_trapped (Expr-F.Cmp o t left right) h here q none =
      elim (both_none (λ m n. Some (truth (compares o m n))) (value_of left values)
      (value_of right values) none) [
        | inl e ↦ part (Expr-F.Cmp o t left right) left (inl refl) (h.0 q.0 e)
        | inr r ↦ elim r [
          | inl e ↦ part (Expr-F.Cmp o t left right) right (inr (e.0, refl)) ((h.1).0 (q.1).0 e.1)
          | inr e ↦ absurd (no (value_of right values) e.1)
        ]
      ]
    where
      no : (q : Option ℤ) → IsSomeAnd q (λ b. (a : ℤ) × (Some (truth (compares o a b)) ≡ None)) → ⊥
      no None k = k
      no (Some b) k = let e = k.1 in cc
  layer_trapped (Expr-F.Cast t arg) h here q none =
      part (Expr-F.Cast t arg) arg refl (h.0 q.0 (mapped_none (wrapped t) (value_of arg values)
      none))
  layer_trapped (Expr-F.And left right) h here q none =
      elim (and_none (value_of left values) (value_of right values) none) [
        | inl e ↦ part (Expr-F.And left right) left (inl refl) (h.0 q.0 e)
        | inr e ↦ part (Expr-F.And left right) right (inr (e.0, refl)) ((h.1).0 (q.1).0 e.1)
      ]
  layer_trapped (Expr-F.Or left right) h here q none =
      elim (or_none (value_of left values) (value_of right values) none) [
        | inl e ↦ part (Expr-F.Or left right) left (inl refl) (h.0 q.0 e)
        | inr e ↦ part (Expr-F.Or left right) right (inr (e.0, refl)) ((h.1).0 (q.1).0 e.1)
      ]
  layer_trapped (Expr-F.Not arg) h here q none =
      part (Expr-F.Not arg) arg refl (h.0 q.0 (mapped_none (λ a. truth (not (is_nonzero a)))
      (value_of arg values) none))
  layer_trapped (Expr-F.Cond t test first second) h here q none =
      elim (cond_none (value_of test values) (value_of first values) (value_of second values)
      none) [
        | inl e ↦ part (Expr-F.Cond t test first second) test (inl refl) (h.0 q.0 e)
        | inr r ↦ elim r [
          | inl e ↦ part (Expr-F.Cond t test first second) first (inr (inl (e.0, refl)))
              ((h.1).0 (q.1).0 e.1)
          | inr e ↦ part (Expr-F.Cond t test first second) second (inr (inr (e.0, refl)))
              (((h.1).1).0 ((q.1).1).0 e.1)
        ]
      ]

  trapped_at : (x : Expr-F Expr) → OfParts IsTrapped x → IsTrapped (roll-Expr x)
  trapped_at x h typed none =
      let q = every_rolled (IsTypedHere cells) x typed in
      layer_trapped x h q.0 q.1 (sym (value_rolled values x) ∙ none)

pub none_traps : (cells : List IntType) (e : Expr) (values : List ℤ) → IsTyped cells e →
    AreValues cells values
    → (value_of e values ≡ None) ↔ Traps values e
none_traps cells e values typed fit = (
  by_parts (IsTrapped cells values fit) (trapped_at cells values fit) e typed,
  traps_none values e,
)
