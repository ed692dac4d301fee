-- The bits that are left pick from the words that are left what all pick from all.
use Rattle.std.proofs.Common.{◌≡◌, length, drop}
use Rattle.cpa_blast_circuits.specs.Reads.{picked, first_word, AreAlike}
use Rattle.cpa_blast_circuits.proofs.reads.picked.Given as goal

abbrev pub invariant-loop-bit : goal.invariant-loop-bit
invariant-loop-bit l =
    record {
      so_far : picked l.net (drop l.bit-index l.bits) l.words.items
          ≡ picked l.initial.net l.bits l.initial.words.items;
      alike : AreAlike (length (first_word l.words.items)) l.words.items;
    }
