-- An execution comes to where the machine is.
use Rattle.cpa_model.specs.declared.program.Program.{Program}
use Rattle.cpa_model.specs.Automata.{IsAutomatonOf}
use Rattle.cpa_model.specs.Programs.{IsWellFormed}
use Rattle.cpa_interp.proofs.Arriving.{IsRun}
use Rattle.cpa_interp.proofs.running.run.Given as goal

abbrev pub invariant-loop-made : goal.invariant-loop-made
invariant-loop-made l =
    (P : Program) → IsWellFormed P → IsAutomatonOf P l.cfa → IsRun P l.inputs l.machine l.made
