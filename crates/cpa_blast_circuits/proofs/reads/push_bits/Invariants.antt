use Rattle.std.proofs.Common.{◌≡◌, ◌++◌, map, take}
use Rattle.cpa_blast_circuits.specs.declared.answer.Word.{Word}
use Rattle.cpa_blast_circuits.proofs.reads.push_bits.Given as goal

abbrev pub invariant-loop-cell : goal.invariant-loop-cell
invariant-loop-cell l =
    l.words.items
    ≡ l.initial.words.items ++ map (λ (w : Word). w.bits) (take l.cell-index l.cells)
