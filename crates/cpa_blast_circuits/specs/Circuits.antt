-- The circuit of an expression (C11 6.5, as gates by Tseitin 1968): each node is made from the
-- answers of its parts, from left to right; parts that are not evaluated are made as well, and
-- their traps do not count.
use Rattle.std.specs.Prelude.{List}
use Rattle.cpa_blast_gates.specs.declared.gate.Gate.{Gate}
use Rattle.cpa_blast_gates.specs.Nets.{Built, built}
use Rattle.cpa_expr.specs.declared.tree.Expr.{Expr}
use Rattle.cpa_expr.specs.declared.tree.Expr.TheOpen.{Expr-F}
use Rattle.cpa_expr.specs.declared.tree.Expr.TheFolds.{fold-Expr}
use Rattle.cpa_blast_circuits.specs.declared.answer.Word.{Word}
use Rattle.cpa_blast_circuits.specs.declared.answer.Answer.{Answer}
use Rattle.cpa_blast_circuits.specs.Answers.{constant_answer, unary_in, binary_in, comparison_in}
use Rattle.cpa_blast_circuits.specs.Answers.{cast_in}
use Rattle.cpa_blast_circuits.specs.Answers.{both_in, either_in, not_in, conditional_in}
use Rattle.cpa_blast_circuits.specs.Reads.{read_in}

-- from a net, the net with a part's circuit and the part's answer
abbrev pub Circuit : Type 0
Circuit = List Gate → Built Answer

-- a node of one part
abbrev pub of_one : (List Gate → Answer → Built Answer) → Circuit → Circuit
of_one f arg net = let a = arg net in f a.net a.value

-- of two
abbrev pub of_two : (List Gate → Answer → Answer → Built Answer) → Circuit → Circuit → Circuit
of_two f left right net =
    let a = left net in
    let b = right a.net in
    f b.net a.value b.value

-- of three
abbrev pub of_three : (List Gate → Answer → Answer → Answer → Built Answer)
    → Circuit → Circuit → Circuit → Circuit
of_three f test first second net =
    let a = test net in
    let b = first a.net in
    let c = second b.net in
    f c.net a.value b.value c.value

-- a node, with the circuit of each part in its place
abbrev pub circuit_step : List Word → Expr-F Circuit → Circuit
circuit_step cells (Expr-F.Const t n) net = built net (constant_answer t n)
circuit_step cells (Expr-F.Read t base len index) net = of_one (read_in cells t base len) index net
circuit_step cells (Expr-F.Un o t arg) net = of_one (unary_in o t) arg net
circuit_step cells (Expr-F.Bin o t left right) net = of_two (binary_in o t) left right net
circuit_step cells (Expr-F.Cmp o t left right) net = of_two (comparison_in o t) left right net
circuit_step cells (Expr-F.Cast t arg) net = of_one (cast_in t) arg net
circuit_step cells (Expr-F.And left right) net = of_two both_in left right net
circuit_step cells (Expr-F.Or left right) net = of_two either_in left right net
circuit_step cells (Expr-F.Not arg) net = of_one not_in arg net
circuit_step cells (Expr-F.Cond t test first second) net =
    of_three (conditional_in t) test first second net

-- the circuit of an expression over cells with these words
abbrev pub circuit : List Word → Expr → Circuit
circuit cells e = fold-Expr Circuit (circuit_step cells) e
