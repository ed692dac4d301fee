use Rattle.std.proofs.Common.{ℕ, List, ◌<◌, drop, map}
use Rattle.std.specs.List.{AllByRecursion}
use Rattle.c_lexer.specs.declared.fault.Rule.TheVariants as rule
use Rattle.c_types_jumps.specs.Trees.{stands_in}
use Rattle.c_types_jumps.proofs.Faults.{IsNoted}
use Rattle.c_types_jumps.proofs.noting.note_entering.Given as goal

abbrev pub invariant-loop-goto : goal.invariant-loop-goto
invariant-loop-goto l = (base : List ℕ) → AllByRecursion (λ number. number < l.tree.first) base
    → IsNoted l.fn.first l.first rule.N9 (map (stands_in base l.tree.nodes.items) l.labels)
    (map (stands_in base l.tree.nodes.items) (drop l.goto-index l.gotos))
    (map (stands_in base l.tree.nodes.items) l.gotos)
