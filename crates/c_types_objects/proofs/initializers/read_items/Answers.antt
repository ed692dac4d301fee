-- One turn of the loop.
use Rattle.std.proofs.Common.{◌≡◌, ◌+◌, ◌∷◌, drop, sym, ap, ◌∙◌, arith, rules}
use Rattle.std.proofs.lemmas.List.{drop_more}
use Rattle.c_types_rules.specs.declared.meaning.Role.TheVariants.{Valued}
use Rattle.c_types_expressions.specs.Read.{typed_of, role_faults, role_calls}
use Rattle.c_types_expressions.specs.Turns.{added, mapped, noted}
use Rattle.c_types_objects.proofs.initializers.read_items.Goals as goal

pub loop-item-preserved : goal.loop-item-preserved
loop-item-preserved c =
    let l = c.loop-item in
    let i = l.item-index in
    let xs = c.args.items.now in
    let x = c.item-item.result in
    let s = c.args.reader.now.survey.now in
    let n = c.args.reader.now.names.now in
    let caller = c.args.reader.now.caller in
    let here : drop i xs ≡ x ∷ drop (i + 1) xs =
    drop_more xs i x (omega arith) ∙ ap (λ y. y ∷ drop (i + 1) xs) (sym c.item-item.is) in
    let read = c.in_ok-read.ensures in
    record {
      typed = mapped xs i x here (typed_of s n) l.typed.items _ _ c.in_ok-read.read.typed
          (search rules) read.typed l.invariant.typed;
      first = noted xs i x here (role_faults s n Valued) l.notes.first _ _ read.first
          l.invariant.first;
      calls = added xs i x here (role_calls s n caller Valued) l.notes.calls.items _ _
          read.calls l.invariant.calls;
    }
