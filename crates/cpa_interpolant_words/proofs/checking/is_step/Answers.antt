-- Each part of a step was found by one call.
use Rattle.std.proofs.Common.{ℕ, ◌+◌, ◌-◌, ◌^◌, ◌≤◌, min, List, subst}
use Rattle.cpa_model.specs.declared.program.Cell.{Cell}
use Rattle.cpa_model.specs.Expressions.{IsExpr}
use Rattle.cpa_interpolant_rules.specs.Parts.{before_cut}
use Rattle.cpa_interpolant_words.proofs.checking.is_step.Goals as goal

pub returns : goal.returns
returns c = λ g at yes.
    let cells = c.args.cfa.now.cells in
    let first = before_cut cells c.args.e.now g.act in
    record {
      leads = c.in_ok-leads.ensures g at yes;
      reads = c.reads_shared.ensures g at c.if-not-reads_shared.false;
      total = c.in_ok-total.ensures c.if-not-total.false;
      typed = subst (λ (cs : List Cell). IsExpr cs c.args.f.now) c.as_slice.ensures
          (c.is_expr.ensures.0 c.if-not-is_expr.false);
      light = subst (λ (w : ℕ). min (first.weight + w) (2 ^ 64 - 1) ≤ c.args.limits.gates)
          c.requires.weight (c.in_ok-light.ensures g at c.if-not-light.false);
    }
