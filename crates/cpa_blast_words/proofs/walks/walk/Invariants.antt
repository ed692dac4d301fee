use Rattle.std.proofs.Common.{◌≡◌, drop, length}
use Rattle.cpa_blast_words.specs.Walks.{walk}
use Rattle.cpa_blast_words.proofs.Steps.{onto}
use Rattle.cpa_blast_words.proofs.walks.walk.Given as goal

abbrev pub invariant-loop-i : goal.invariant-loop-i
invariant-loop-i l =
    record {
      so_far : onto l.bits (walk l.row l.net l.carried (drop l.i l.xs) (drop l.i l.ys))
          ≡ walk l.row l.initial.net l.initial.carried l.xs l.ys;
      long : length l.bits ≡ l.i;
    }
