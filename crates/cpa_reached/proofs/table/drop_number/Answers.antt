use Rattle.std.proofs.Common.{◌≡◌, ℕ, Option, Ok, Err, ◌∙◌, subst}
use Rattle.std.specs.List.{remove}
use Rattle.std.specs.Option.{OnSome}
use Rattle.cpa_reached.proofs.Queue.{but_found}
use Rattle.cpa_reached.proofs.table.drop_number.Goals as goal

pub returns-in-Ok-clause-items : goal.returns-in-Ok-clause-items
returns-in-Ok-clause-items c =
    let ns = c.args.waiting.now.items in
    let i = c.in-Ok.place in
    subst (λ (o : Option ℕ). OnSome o (c.remove.new.self.items ≡ remove ns i))
    (c.remove.ensures.succeeds 0 c.in-Ok.ensures.bound) c.remove.ensures.items
    ∙ (but_found ns c.args.number (Ok i) c.requires c.in-Ok.ensures.position).1

pub returns-in_default-clause-items : goal.returns-in_default-clause-items
returns-in_default-clause-items c =
    but_found c.args.waiting.now.items c.args.number (Err c.in_default.field-0) c.requires
    c.in_default.ensures.position
