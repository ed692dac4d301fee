-- There is no check exactly where no node can trap, or overflow.
use Rattle.std.proofs.Common.{◌≡◌, ◌↔◌, ℕ, ◌-◌, Bool, true, false, not, ◌&&◌, None, Some, refl, sym}
use Rattle.std.proofs.Common.{subst, ◌∙◌}
use Rattle.std.specs.Prelude.{if◌then◌else◌}
use Rattle.cpa_ints.specs.declared.integers.IntType.{IntType}
use Rattle.cpa_ints.specs.Integers.{is_signed, least}
use Rattle.cpa_expr.specs.declared.tree.UnOp.{UnOp}
use Rattle.cpa_expr.specs.declared.tree.BinOp.{BinOp}
use Rattle.cpa_expr.specs.declared.tree.UnOp.TheVariants as un
use Rattle.cpa_expr.specs.declared.tree.BinOp.TheVariants as bin
use Rattle.cpa_expr.specs.declared.tree.CmpOp.TheVariants as cmp
use Rattle.cpa_expr.specs.declared.tree.Expr.{Expr, roll-Expr}
use Rattle.cpa_expr.specs.declared.tree.Expr.TheVariants.{Const, Read, Un, Bin, Cmp, Cast, And, Or}
use Rattle.cpa_expr.specs.declared.tree.Expr.TheVariants.{Not, Cond, rolls-Const, rolls-Read}
use Rattle.cpa_expr.specs.declared.tree.Expr.TheVariants.{rolls-Un, rolls-Bin, rolls-Cmp}
use Rattle.cpa_expr.specs.declared.tree.Expr.TheVariants.{rolls-Cast, rolls-And, rolls-Or}
use Rattle.cpa_expr.specs.declared.tree.Expr.TheVariants.{rolls-Not, rolls-Cond}
use Rattle.cpa_expr.specs.declared.tree.Expr.TheOpen.{Expr-F}
use Rattle.cpa_expr.specs.Shape.{OfParts}
use Rattle.cpa_expr.specs.Induction.{Cases, by_variants}
use Rattle.cpa_expr.specs.lemmas.Parts.{every_rolled, every_of_parts}
use Rattle.cpa_trap_checks.specs.Nodes.{is_one_cell, op_can_trap, op_can_wrap, un_can_wrap}
use Rattle.cpa_trap_checks.specs.Nodes.{can_trap_here, can_wrap_here, NoNode}
use Rattle.cpa_trap_checks.specs.Checks.{Check, either, where_nonzero, unless, picked, compared}
use Rattle.cpa_trap_checks.specs.Checks.{outside, own_trap, index_trap, signed_wraps, bin_wraps}
use Rattle.cpa_trap_checks.specs.Checks.{un_wraps, over_then, trap_check, over_check, checked}
use Rattle.cpa_trap_checks.specs.lemmas.Shapes.{trap_constant, trap_read, trap_unary, trap_binary}
use Rattle.cpa_trap_checks.specs.lemmas.Shapes.{trap_comparison, trap_cast, trap_conjunction}
use Rattle.cpa_trap_checks.specs.lemmas.Shapes.{trap_disjunction, trap_negation, trap_conditional}
use Rattle.cpa_trap_checks.specs.lemmas.Shapes.{over_constant, over_read, over_unary, over_binary}
use Rattle.cpa_trap_checks.specs.lemmas.Shapes.{over_comparison, over_cast, over_conjunction}
use Rattle.cpa_trap_checks.specs.lemmas.Shapes.{over_disjunction, over_negation, over_conditional}

-- there is no check
abbrev Gone : Check → Type 0
Gone c = c ≡ None

some_is_there : {A : Type 0} (a : A) → Some a ≡ None → ⊥
some_is_there a e = cc

either_gone : (a b : Check) → Gone (either a b) ↔ (Gone a × Gone b)
either_gone None b = (λ h. (refl, h), λ h. h.1)
either_gone (Some a) None = (λ h. (h, refl), λ h. h.0)
either_gone (Some a) (Some b) =
    (λ h. absurd (some_is_there (Or a b) h), λ h. absurd (some_is_there a h.0))

where_gone : (e : Expr) (c : Check) → Gone (where_nonzero e c) ↔ Gone c
where_gone e None = (λ h. refl, λ h. refl)
where_gone e (Some c) = (λ h. absurd (cc), λ h. absurd (cc))

unless_gone : (d c : Check) → Gone (unless d c) ↔ Gone c
unless_gone None c = (λ h. h, λ h. h)
unless_gone (Some d) c = where_gone (Not d) c

picked_gone : (e : Expr) (a b : Check) → Gone (picked e a b) ↔ (Gone a × Gone b)
picked_gone e None None = (λ h. (refl, refl), λ h. refl)
picked_gone e None (Some b) = (λ h. absurd (cc), λ h. let gone = h.1 in absurd (cc))
picked_gone e (Some a) None = (λ h. absurd (cc), λ h. let gone = h.0 in absurd (cc))
picked_gone e (Some a) (Some b) = (λ h. absurd (cc), λ h. let gone = h.0 in absurd (cc))

then_gone : (e : Expr) (later : Check)
    → Gone (over_then (checked e) later) ↔ (Gone (over_check e) × Gone later)
then_gone e later =
    let first = either_gone (over_check e) (unless (trap_check e) later) in
    let second = unless_gone (trap_check e) later in
    (λ h. ((first.0 h).0, second.0 (first.0 h).1), λ h. first.1 (h.0, second.1 h.1))

own_trap_gone : (o : BinOp) (t : IntType) (e : Expr)
    → Gone (own_trap o t e) ↔ (op_can_trap o ≡ false)
own_trap_gone bin.Add t e = (λ h. refl, λ h. refl)
own_trap_gone bin.Sub t e = (λ h. refl, λ h. refl)
own_trap_gone bin.Mul t e = (λ h. refl, λ h. refl)
own_trap_gone bin.Div t e = (λ h. absurd (cc), λ h. absurd (cc))
own_trap_gone bin.Rem t e = (λ h. absurd (cc), λ h. absurd (cc))
own_trap_gone bin.BitAnd t e = (λ h. refl, λ h. refl)
own_trap_gone bin.BitOr t e = (λ h. refl, λ h. refl)
own_trap_gone bin.BitXor t e = (λ h. refl, λ h. refl)
own_trap_gone bin.Shl t e = (λ h. absurd (cc), λ h. absurd (cc))
own_trap_gone bin.Shr t e = (λ h. absurd (cc), λ h. absurd (cc))

pub index_trap_gone : (len : ℕ) (index : Expr)
    → Gone (index_trap len index) ↔ (not (is_one_cell len index) ≡ false)
index_trap_gone len index = by (is_one_cell len index)
  where
    by : (b : Bool) → Gone (if b then None else Some (outside index (len - 1))) ↔ (not b ≡ false)
    by true = (λ h. refl, λ h. refl)
    by false = (λ h. absurd (cc), λ h. absurd (cc))

signed_gone : (o : BinOp) (t : IntType) (a b : Expr)
    → Gone (signed_wraps o t a b) ↔ (op_can_wrap o ≡ false)
signed_gone bin.Add t a b = (λ h. absurd (cc), λ h. absurd (cc))
signed_gone bin.Sub t a b = (λ h. absurd (cc), λ h. absurd (cc))
signed_gone bin.Mul t a b = (λ h. absurd (cc), λ h. absurd (cc))
signed_gone bin.Div t a b = (λ h. absurd (cc), λ h. absurd (cc))
signed_gone bin.Rem t a b = (λ h. refl, λ h. refl)
signed_gone bin.BitAnd t a b = (λ h. refl, λ h. refl)
signed_gone bin.BitOr t a b = (λ h. refl, λ h. refl)
signed_gone bin.BitXor t a b = (λ h. refl, λ h. refl)
signed_gone bin.Shl t a b = (λ h. absurd (cc), λ h. absurd (cc))
signed_gone bin.Shr t a b = (λ h. refl, λ h. refl)

bin_gone : (o : BinOp) (t : IntType) (a b : Expr)
    → Gone (bin_wraps o t a b) ↔ ((is_signed t && op_can_wrap o) ≡ false)
bin_gone o t a b = by (is_signed t)
  where
    by : (c : Bool) → Gone (if c then signed_wraps o t a b else None)
        ↔ ((c && op_can_wrap o) ≡ false)
    by true = signed_gone o t a b
    by false = (λ h. refl, λ h. refl)

un_gone : (o : UnOp) (t : IntType) (a : Expr)
    → Gone (un_wraps o t a) ↔ ((is_signed t && un_can_wrap o) ≡ false)
un_gone un.Neg t a = by (is_signed t)
  where
    by : (c : Bool) → Gone (if c then Some (compared cmp.Eq t a (least t)) else None)
        ↔ ((c && true) ≡ false)
    by true = (λ h. absurd (cc), λ h. absurd (cc))
    by false = (λ h. refl, λ h. refl)
un_gone un.Flip t a = by (is_signed t)
  where
    by : (c : Bool) → Gone None ↔ ((c && false) ≡ false)
    by true = (λ h. refl, λ h. refl)
    by false = (λ h. refl, λ h. refl)

-- ---- at the variants

module _ (P : Expr-F Expr → Bool) (check : Expr → Check) where
  abbrev Q : Expr-F Expr → Type 0
  Q node = P node ≡ false

  abbrev None_where : Expr → Type 0
  None_where e = Gone (check e) ↔ NoNode P e

  -- the node and its parts
  layer : (e : Expr) (x : Expr-F Expr) (c : Check) → roll-Expr x ≡ e → check e ≡ c
      → (Gone c ↔ (Q x × OfParts (NoNode P) x)) → None_where e
  layer e x c is checks i = (
    λ h. subst (NoNode P) is (let both = i.0 (sym checks ∙ h) in every_of_parts Q x both.0 both.1),
    λ h. checks ∙ i.1 (every_rolled Q x (subst (NoNode P) (sym is) h)),
  )

-- ---- traps

abbrev NoTrap : Expr → Type 0
NoTrap e = Gone (trap_check e) ↔ NoNode can_trap_here e

trap_cases : Cases NoTrap
trap_cases = record {
  constant = λ t n. layer can_trap_here trap_check (Const t n) (Expr-F.Const t n) None
      (rolls-Const t n) (trap_constant t n) (λ h. (refl, tt), λ h. refl);
  read = λ t base len index h.
      let both = either_gone (trap_check index) (index_trap len index) in
      let own = index_trap_gone len index in
      layer can_trap_here trap_check (Read t base len index) (Expr-F.Read t base len index)
      (either (trap_check index) (index_trap len index)) (rolls-Read t base len index)
      (trap_read t base len index) (
        λ k. (own.0 (both.0 k).1, (h.0 (both.0 k).0, tt)),
        λ k. both.1 (h.1 k.1.0, own.1 k.0),
      );
  unary = λ o t arg h. layer can_trap_here trap_check (Un o t arg) (Expr-F.Un o t arg)
      (trap_check arg) (rolls-Un o t arg) (trap_unary o t arg)
      (λ k. (refl, (h.0 k, tt)), λ k. h.1 k.1.0);
  binary = λ o t left right h l.
      let outer = either_gone (trap_check left) (either (trap_check right) (own_trap o t right)) in
      let inner = either_gone (trap_check right) (own_trap o t right) in
      let own = own_trap_gone o t right in
      layer can_trap_here trap_check (Bin o t left right) (Expr-F.Bin o t left right)
      (either (trap_check left) (either (trap_check right) (own_trap o t right)))
      (rolls-Bin o t left right) (trap_binary o t left right) (
        λ k. let rest = inner.0 (outer.0 k).1 in
            (own.0 rest.1, (h.0 (outer.0 k).0, (l.0 rest.0, tt))),
        λ k. outer.1 (h.1 k.1.0, inner.1 (l.1 k.1.1.0, own.1 k.0)),
      );
  comparison = λ o t left right h l.
      let both = either_gone (trap_check left) (trap_check right) in
      layer can_trap_here trap_check (Cmp o t left right) (Expr-F.Cmp o t left right)
      (either (trap_check left) (trap_check right)) (rolls-Cmp o t left right)
      (trap_comparison o t left right) (
        λ k. (refl, (h.0 (both.0 k).0, (l.0 (both.0 k).1, tt))),
        λ k. both.1 (h.1 k.1.0, l.1 k.1.1.0),
      );
  cast = λ t arg h. layer can_trap_here trap_check (Cast t arg) (Expr-F.Cast t arg)
      (trap_check arg) (rolls-Cast t arg) (trap_cast t arg)
      (λ k. (refl, (h.0 k, tt)), λ k. h.1 k.1.0);
  conjunction = λ left right h l.
      let both = either_gone (trap_check left) (where_nonzero left (trap_check right)) in
      let right_gone = where_gone left (trap_check right) in
      layer can_trap_here trap_check (And left right) (Expr-F.And left right)
      (either (trap_check left) (where_nonzero left (trap_check right))) (rolls-And left right)
      (trap_conjunction left right) (
        λ k. (refl, (h.0 (both.0 k).0, (l.0 (right_gone.0 (both.0 k).1), tt))),
        λ k. both.1 (h.1 k.1.0, right_gone.1 (l.1 k.1.1.0)),
      );
  disjunction = λ left right h l.
      let both = either_gone (trap_check left) (where_nonzero (Not left) (trap_check right)) in
      let right_gone = where_gone (Not left) (trap_check right) in
      layer can_trap_here trap_check (Or left right) (Expr-F.Or left right)
      (either (trap_check left) (where_nonzero (Not left) (trap_check right)))
      (rolls-Or left right) (trap_disjunction left right) (
        λ k. (refl, (h.0 (both.0 k).0, (l.0 (right_gone.0 (both.0 k).1), tt))),
        λ k. both.1 (h.1 k.1.0, right_gone.1 (l.1 k.1.1.0)),
      );
  negation = λ arg h. layer can_trap_here trap_check (Not arg) (Expr-F.Not arg)
      (trap_check arg) (rolls-Not arg) (trap_negation arg)
      (λ k. (refl, (h.0 k, tt)), λ k. h.1 k.1.0);
  conditional = λ t test first second h l m.
      let both = either_gone (trap_check test)
      (picked test (trap_check first) (trap_check second)) in
      let ends = picked_gone test (trap_check first) (trap_check second) in
      layer can_trap_here trap_check (Cond t test first second) (Expr-F.Cond t test first second)
      (either (trap_check test) (picked test (trap_check first) (trap_check second)))
      (rolls-Cond t test first second) (trap_conditional t test first second) (
        λ k. let gone = ends.0 (both.0 k).1 in
            (refl, (h.0 (both.0 k).0, (l.0 gone.0, (m.0 gone.1, tt)))),
        λ k. both.1 (h.1 k.1.0, ends.1 (l.1 k.1.1.0, m.1 k.1.1.1.0)),
      );
}

pub no_trap_check : (e : Expr) → (trap_check e ≡ None) ↔ NoNode can_trap_here e
no_trap_check = by_variants NoTrap trap_cases

-- ---- overflows

abbrev NoWrap : Expr → Type 0
NoWrap e = Gone (over_check e) ↔ NoNode can_wrap_here e

over_cases : Cases NoWrap
over_cases = record {
  constant = λ t n. layer can_wrap_here over_check (Const t n) (Expr-F.Const t n) None
      (rolls-Const t n) (over_constant t n) (λ h. (refl, tt), λ h. refl);
  read = λ t base len index h. layer can_wrap_here over_check (Read t base len index)
      (Expr-F.Read t base len index) (over_check index) (rolls-Read t base len index)
      (over_read t base len index) (λ k. (refl, (h.0 k, tt)), λ k. h.1 k.1.0);
  unary = λ o t arg h.
      let both = then_gone arg (un_wraps o t arg) in
      let own = un_gone o t arg in
      layer can_wrap_here over_check (Un o t arg) (Expr-F.Un o t arg)
      (over_then (checked arg) (un_wraps o t arg)) (rolls-Un o t arg) (over_unary o t arg) (
        λ k. (own.0 (both.0 k).1, (h.0 (both.0 k).0, tt)),
        λ k. both.1 (h.1 k.1.0, own.1 k.0),
      );
  binary = λ o t left right h l.
      let outer = then_gone left (over_then (checked right) (bin_wraps o t left right)) in
      let inner = then_gone right (bin_wraps o t left right) in
      let own = bin_gone o t left right in
      layer can_wrap_here over_check (Bin o t left right) (Expr-F.Bin o t left right)
      (over_then (checked left) (over_then (checked right) (bin_wraps o t left right)))
      (rolls-Bin o t left right) (over_binary o t left right) (
        λ k. let rest = inner.0 (outer.0 k).1 in
            (own.0 rest.1, (h.0 (outer.0 k).0, (l.0 rest.0, tt))),
        λ k. outer.1 (h.1 k.1.0, inner.1 (l.1 k.1.1.0, own.1 k.0)),
      );
  comparison = λ o t left right h l.
      let both = then_gone left (over_check right) in
      layer can_wrap_here over_check (Cmp o t left right) (Expr-F.Cmp o t left right)
      (over_then (checked left) (over_check right)) (rolls-Cmp o t left right)
      (over_comparison o t left right) (
        λ k. (refl, (h.0 (both.0 k).0, (l.0 (both.0 k).1, tt))),
        λ k. both.1 (h.1 k.1.0, l.1 k.1.1.0),
      );
  cast = λ t arg h. layer can_wrap_here over_check (Cast t arg) (Expr-F.Cast t arg)
      (over_check arg) (rolls-Cast t arg) (over_cast t arg)
      (λ k. (refl, (h.0 k, tt)), λ k. h.1 k.1.0);
  conjunction = λ left right h l.
      let both = then_gone left (where_nonzero left (over_check right)) in
      let right_gone = where_gone left (over_check right) in
      layer can_wrap_here over_check (And left right) (Expr-F.And left right)
      (over_then (checked left) (where_nonzero left (over_check right))) (rolls-And left right)
      (over_conjunction left right) (
        λ k. (refl, (h.0 (both.0 k).0, (l.0 (right_gone.0 (both.0 k).1), tt))),
        λ k. both.1 (h.1 k.1.0, right_gone.1 (l.1 k.1.1.0)),
      );
  disjunction = λ left right h l.
      let both = then_gone left (where_nonzero (Not left) (over_check right)) in
      let right_gone = where_gone (Not left) (over_check right) in
      layer can_wrap_here over_check (Or left right) (Expr-F.Or left right)
      (over_then (checked left) (where_nonzero (Not left) (over_check right)))
      (rolls-Or left right) (over_disjunction left right) (
        λ k. (refl, (h.0 (both.0 k).0, (l.0 (right_gone.0 (both.0 k).1), tt))),
        λ k. both.1 (h.1 k.1.0, right_gone.1 (l.1 k.1.1.0)),
      );
  negation = λ arg h. layer can_wrap_here over_check (Not arg) (Expr-F.Not arg)
      (over_check arg) (rolls-Not arg) (over_negation arg)
      (λ k. (refl, (h.0 k, tt)), λ k. h.1 k.1.0);
  conditional = λ t test first second h l m.
      let both = then_gone test (picked test (over_check first) (over_check second)) in
      let ends = picked_gone test (over_check first) (over_check second) in
      layer can_wrap_here over_check (Cond t test first second) (Expr-F.Cond t test first second)
      (over_then (checked test) (picked test (over_check first) (over_check second)))
      (rolls-Cond t test first second) (over_conditional t test first second) (
        λ k. let gone = ends.0 (both.0 k).1 in
            (refl, (h.0 (both.0 k).0, (l.0 gone.0, (m.0 gone.1, tt)))),
        λ k. both.1 (h.1 k.1.0, ends.1 (l.1 k.1.1.0, m.1 k.1.1.1.0)),
      );
}

pub no_over_check : (e : Expr) → (over_check e ≡ None) ↔ NoNode can_wrap_here e
no_over_check = by_variants NoWrap over_cases
