-- The expression of a cut whose formula is refuted is its answer, where it is not too large.
use Rattle.std.proofs.Common.{◌≡◌, ℕ, ◌≤◌, Bool, true, false, List, [], ◌∷◌, Option, None, Some}
use Rattle.std.proofs.Common.{sym, ap, ◌∙◌, subst, arith, ◌||◌}
use Rattle.std.specs.Prelude.{nat_lt}
use Rattle.std.proofs.lemmas.Bool.{cond_both, ltb-false}
use Rattle.std.proofs.lemmas.Option.{same_Some}
use Rattle.cpa_cnf.specs.declared.formula.Cnf.{Cnf}
use Rattle.cpa_expr.specs.declared.tree.Expr.{Expr}
use Rattle.cpa_expr.specs.Shape.{size, height, IsTyped}
use Rattle.cpa_model.specs.declared.automaton.Act.{Act}
use Rattle.cpa_model.specs.declared.automaton.Cfa.{Cfa}
use Rattle.cpa_model.specs.Expressions.{types_of}
use Rattle.cpa_chains.specs.Interpolants.{IsInterpolant}
use Rattle.cpa_chains.specs.Partials.{partials_of}
use Rattle.cpa_interpolant_bits.specs.declared.bits.Bit.{Bit}
use Rattle.cpa_interpolant_bits.specs.declared.building.TheConstants.{MAX_SIZE, MAX_HEIGHT}
use Rattle.cpa_interpolant_bits.specs.Limits.{is_large, unless_large}
use Rattle.cpa_interpolant_conditions.specs.Interpolants.{interpolant_expr}
use Rattle.cpa_interpolant_rules.specs.Interpolants.{IsNext}
use Rattle.cpa_interpolant_rules.specs.Parts.{before_cut, behind_cut}
use Rattle.cpa_interpolant_cuts.specs.Cuts.{sides_at, shared_bits_of}
use Rattle.cpa_interpolant_cuts.specs.Laws.{CutsInterpolate, CutsAreTyped}
use Rattle.cpa_interpolant_answers.specs.declared.asking.Refuted.{Refuted}
use Rattle.cpa_interpolant_answers.specs.Answers.{formula_at, expr_at, IsNextBehind, IsLarge}
use Rattle.cpa_interpolant_answers.specs.Answers.{IsExprBehind}
use Rattle.cpa_interpolant_answers.specs.Asked.{IsOfCut}

-- ---- sizes

or_second : (a b : Bool) → (a || b) ≡ false → b ≡ false
or_second true b h = absurd (cc)
or_second false b h = h

at_most : (n m : ℕ) → nat_lt n m ≡ false → m ≤ n
at_most n m h = ltb-false n m h

low : (e : Expr) → is_large e ≡ false → height e ≤ 500
low e h =
    let is = at_most MAX_HEIGHT (height e)
    (or_second (nat_lt MAX_SIZE (size e)) (nat_lt MAX_HEIGHT (height e)) h) in
    omega (arith, is)

some_small : (E f : Expr) → Some f ≡ unless_large E → (f ≡ E) × (is_large E ≡ false)
some_small E f = cond_both (is_large E) None (Some E)
    (λ o. Some f ≡ o → (f ≡ E) × (is_large E ≡ false)) (λ large same. absurd (cc))
    (λ small same. (same_Some f E same, small))

none_large : (E : Expr) → None ≡ unless_large E → is_large E ≡ true
none_large E = cond_both (is_large E) None (Some E) (λ o. None ≡ o → is_large E ≡ true)
    (λ large same. large) (λ small same. absurd (cc))

-- ---- what is made of the cut's formula

module _ (cfa : Cfa) (learnt gates : ℕ) (e : Expr) (a : Act) (acts : List Act) (r : Refuted)
    (of : IsOfCut cfa learnt gates e a acts r) where
  abbrev pub made : Expr
  made = interpolant_expr r.joined.bits.items r.joined.cnf r.joined.sides.items r.lines.items

  abbrev shared : List (Option Bit)
  shared = shared_bits_of cfa.cells (before_cut cfa.cells e a) (behind_cut cfa.cells acts)

  same : made ≡ expr_at cfa e a acts r.lines.items
  same =
      ap (λ bits. interpolant_expr bits r.joined.cnf r.joined.sides.items r.lines.items) of.bits
      ∙ (ap (λ cnf. interpolant_expr shared cnf r.joined.sides.items r.lines.items) of.cnf
      ∙ ap (λ sides. interpolant_expr shared (formula_at cfa e a acts) sides r.lines.items)
      of.sides)

  abbrev partials_at : Cnf → List Bool → Type 0
  partials_at cnf sides = IsInterpolant cnf sides (partials_of cnf sides r.lines.items)

  its_own : partials_at r.joined.cnf r.joined.sides.items
      → partials_at (formula_at cfa e a acts)
      (sides_at (before_cut cfa.cells e a) (behind_cut cfa.cells acts))
  its_own inter =
      subst (partials_at (formula_at cfa e a acts)) of.sides
      (subst (λ cnf. partials_at cnf r.joined.sides.items) of.cnf inter)

  behind_last : (acts : List Act) (b : Act) (bs : List Act) (f : Expr) → acts ≡ b ∷ bs
      → f ≡ expr_at cfa e a acts r.lines.items → is_large f ≡ false
      → IsExprBehind cfa e a acts r.lines.items f
  behind_last [] b bs f onward is small = absurd (cc)
  behind_last (c ∷ cs) b bs f onward is small = (is, small)

  pub next_is : CutsInterpolate → CutsAreTyped
      → partials_at r.joined.cnf r.joined.sides.items → (f : Expr) → Some f ≡ unless_large made
      → IsNextBehind cfa learnt gates e a acts f
  next_is interpolate typed inter f found =
      let (is, small) = some_small made f found in
      let own = is ∙ same in
      let little : is_large f ≡ false = subst (λ E. is_large E ≡ false) (sym is) small in
      record {
        done = record {
          weighs = of.weighs;
          lines = r.lines.items;
          refuted = of.refuted;
          expr = behind_last acts of.act of.behind f of.onward own little;
        };
        next = subst (IsNext cfa.cells a acts e) (sym own)
            (interpolate cfa e a acts r.lines.items of.cut (its_own inter));
        expr = record {
          typed = subst (IsTyped (types_of cfa.cells)) (sym own)
              (typed cfa e a acts r.lines.items of.cut);
          height = low f little;
        };
      }

  pub large_is : None ≡ unless_large made → IsLarge cfa learnt gates e a acts r.lines.items
  large_is found = record {
    weighs = of.weighs;
    refuted = of.refuted;
    large = subst (λ E. is_large E ≡ true) same (none_large made found);
  }
