use Rattle.std.proofs.Common.{⊎_elim}
use Rattle.std.proofs.lemmas.Bool.{cases_Bool, iff_false}
use Rattle.cpa_reached.specs.Members.{is_in}
use Rattle.cpa_reached.specs.Entries.{numbers}
use Rattle.cpa_reached.proofs.Keys.{places_rise, found_at}
use Rattle.cpa_reached.proofs.finding.place_of.Goals as goal

pub first_from-place-requires : goal.first_from-place-requires
first_from-place-requires c = places_rise c.args.entries.now c.requires

pub returns-clause-none : goal.returns-clause-none
returns-clause-none c =
    let xs = c.args.entries.now in
    ⊎_elim
    (λ yes. absurd (iff_false c.is_at.ensures c.if-is_at.false
    (found_at xs c.args.number c.first_from-place.result c.requires
    c.first_from-place.ensures.before c.first_from-place.ensures.from yes)))
    (λ no. no) (cases_Bool (is_in c.args.number (numbers xs)))
