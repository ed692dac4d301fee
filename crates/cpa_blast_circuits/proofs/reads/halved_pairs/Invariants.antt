-- The halves so far, before those of the words that are left.
use Rattle.std.proofs.Common.{◌≡◌, length}
use Rattle.cpa_blast_circuits.specs.Reads.{halved, first_word, AreAlike}
use Rattle.cpa_blast_circuits.proofs.Halves.{behind}
use Rattle.cpa_blast_circuits.proofs.reads.halved_pairs.Given as goal

abbrev pub invariant-loop-rest : goal.invariant-loop-rest
invariant-loop-rest l =
    record {
      so_far : behind l.halves.items (halved l.net l.bit l.rest)
          ≡ halved l.initial.net l.bit l.words;
      left : AreAlike (length (first_word l.words)) l.rest;
      made : AreAlike (length (first_word l.words)) l.halves.items;
    }

abbrev pub decreases-loop-rest : goal.decreases-loop-rest
decreases-loop-rest l = length l.rest
