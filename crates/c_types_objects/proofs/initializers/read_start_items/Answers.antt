-- One turn of the loop.
use Rattle.std.proofs.Common.{◌≡◌, ◌+◌, ◌∷◌, drop, sym, ap, ◌∙◌, arith, rules}
use Rattle.std.proofs.lemmas.List.{drop_more}
use Rattle.c_types_rules.specs.Items.{start_faults}
use Rattle.c_types_rules.specs.Sound.{start_value}
use Rattle.c_types_expressions.specs.Turns.{mapped, noted}
use Rattle.c_types_objects.proofs.initializers.read_start_items.Goals as goal

pub loop-item-preserved : goal.loop-item-preserved
loop-item-preserved c =
    let l = c.loop-item in
    let i = l.item-index in
    let xs = c.args.items.now in
    let x = c.item-item.result in
    let s = c.args.survey.now in
    let n = c.args.names.now in
    let here : drop i xs ≡ x ∷ drop (i + 1) xs =
    drop_more xs i x (omega arith) ∙ ap (λ y. y ∷ drop (i + 1) xs) (sym c.item-item.is) in
    let read = c.in_ok-value.ensures in
    record {
      values = mapped xs i x here (start_value s n c.args.ty) l.values.items _ _
          c.in_ok-value.value (search rules) read.value l.invariant.values;
      first = noted xs i x here (start_faults s n) l.first _ _ read.first l.invariant.first;
    }
