use Rattle.cpa_reached.proofs.Lowering.{Descends}
use Rattle.cpa_reached.proofs.levels.gathered.Given as goal

abbrev pub invariant-loop-deeper : goal.invariant-loop-deeper
invariant-loop-deeper l =
    Descends l.entries l.links l.pivot l.gone.items l.level.items l._deeper
