use Rattle.std.proofs.Common.{ℕ, List, sym, subst}
use Rattle.cpa_model.specs.declared.program.Stmt.{Stmt}
use Rattle.cpa_model.specs.Programs.{Tiles, parts_of}
use Rattle.cpa_model.specs.lemmas.Parts.{firsts_items}
use Rattle.cases_programs.proofs.fitting.parts_tile.Goals as goal

pub returns-in-Block : goal.returns-in-Block
returns-in-Block c = λ yes.
    let tiled : List ℕ → Type 0 = λ ns. Tiles c.args.ends.now c.args.first ns c.args.last in
    subst (λ (s : Stmt). tiled (parts_of s)) (sym c.in-Block.is)
    (subst (λ (ns : List ℕ). tiled ns) (sym (firsts_items c.in-Block.items))
    (subst (λ (ns : List ℕ). tiled ns) c.as_slice.ensures (c.tile.ensures yes)))
