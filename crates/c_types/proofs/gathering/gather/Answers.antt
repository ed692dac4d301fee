use Rattle.std.proofs.Common.{sym, subst}
use Rattle.c_types_globals.specs.Scopes.{before_of}
use Rattle.c_types.proofs.Law.{finds_gathered}
use Rattle.c_types.proofs.Numbers.{Numbered}
use Rattle.c_types.proofs.gathering.gather.Goals as goal

pub returns-clause-first : goal.returns-clause-first
returns-clause-first c =
    let new = c.new-gathered.result in
    let gathered = c.gather_items.new.gathered in
    finds_gathered c.args.survey.now.model c.args.unit.now c.args.survey.now
    (before_of new.scope) new.first gathered.first
    c.note_missing_main.new.first c.note_place.new.first gathered.calls.items c.in_ok-least.least
    c.requires c.new-gathered.ensures.scope c.new-gathered.ensures.first
    (rw c.as_slice.ensures at c.in_ok-gather_items.ensures.first)
    c.in_ok-note_missing_main.ensures c.note_place.ensures
    (rw c.new-gathered.ensures.calls at (rw c.as_slice.ensures at
    c.in_ok-gather_items.ensures.calls))
    (rw c.deref.ensures.value at c.in_ok-least.ensures)

pub gather_items-requires : goal.gather_items-requires
gather_items-requires c = subst Numbered (sym c.new-gathered.ensures.scope) tt
