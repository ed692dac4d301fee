use Rattle.std.proofs.Common.{◌∙◌, [], map, ap, refl}
use Rattle.cpa_model.specs.declared.program.Cell.{Cell}
use Rattle.cpa_model.specs.States.{state_at}
use Rattle.cpa_interp.proofs.machine.Machine.new.Goals as goal

pub returns : goal.returns
returns c =
    let start = c.args.cfa.now.start in
    let values = c.from_vec.ensures ∙ c.in_ok-values.ensures
    ∙ ap (λ cells. map (λ (cell : Cell). cell.start) cells)
    c.as_slice.ensures in (
      ap (λ calls. state_at start calls c.from_vec.result) c.new.ensures.items
          ∙ ap (state_at start []) values,
      refl,
    )
