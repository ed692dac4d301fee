use Rattle.std.proofs.Common.{ℕ, List, ap, ◌∙◌, map, arith}
use Rattle.c_lexer.specs.declared.fault.Rule.TheVariants as rule
use Rattle.c_types_rules.specs.First.{first_with}
use Rattle.c_types_rules.specs.ExpressionRules.{broken}
use Rattle.c_types_jumps.specs.Trees.{stands_in}
use Rattle.c_types_jumps.proofs.Faults.{noted_step}
use Rattle.c_types_jumps.proofs.noting.note_entering.Goals as goal

pub loop-goto-preserved : goal.loop-goto-preserved
loop-goto-preserved c = λ base based.
    let nodes = c.args.tree.now.nodes.items in
    let gotos = c.args.gotos.now in
    noted_step c.args.first.now c.loop-goto.first c.note_place.new.first rule.N9
    (map (stands_in base nodes) c.args.labels.now) (map (stands_in base nodes) gotos)
    (stands_in base nodes) gotos c.loop-goto.goto-index c.goto-item.result (omega arith)
    c.goto-item.is
    (c.note_place.ensures
    ∙ ap (λ (places : List ℕ). first_with c.loop-goto.first (broken rule.N9 places))
    (c.entering-place.ensures base based))
    (c.loop-goto.invariant base based)
