-- The bits of the cells are variables of both formulas.
use Rattle.std.proofs.Common.{◌∙◌, ap}
use Rattle.cpa_blast.specs.Formulas.{formula}
use Rattle.cpa_interpolant_names.specs.Meetings.{names_of}
use Rattle.cpa_interpolant_cuts.specs.Cuts.{seen}
use Rattle.cpa_interpolant_answers.proofs.Fitting.{same_meetings, names_fit, bits_fit, formula_is}
use Rattle.cpa_interpolant_answers.proofs.joints.join_parts.Goals as goal

pub names_of-requires : goal.names_of-requires
names_of-requires c =
    let A = c.args.before.now in
    let B = c.args.behind.now in
    let cells = c.args.cells.now in
    let circuits = c.circuits_have_values.ensures in
    let first = c.in_ok-first.first in
    let second = c.in_ok-second.second in
    let own = c.in_ok-first_query.ensures in
    let other = c.in_ok-second_query.ensures in
    record {
      fits = names_fit circuits cells A B c.requires.parts c.deref.result.now first.0 second.0
          (c.deref.ensures.value
          ∙ same_meetings circuits cells A B c.requires.parts first.1 second.1 _
          c.in_ok-found.ensures (c.in_ok-first.ensures.seen ∙ ap seen own)
          (c.in_ok-second.ensures.seen ∙ ap seen other))
          (c.in_ok-first.ensures.cnf ∙ ap formula own)
          (c.in_ok-second.ensures.cnf ∙ ap formula other) c.has_few_variables.ensures;
    }

pub bits_of-requires : goal.bits_of-requires
bits_of-requires c =
    let A = c.args.before.now in
    let B = c.args.behind.now in
    let cells = c.args.cells.now in
    let circuits = c.circuits_have_values.ensures in
    let first = c.in_ok-first.first in
    let second = c.in_ok-second.second in
    let own = c.in_ok-first_query.ensures in
    let other = c.in_ok-second_query.ensures in
    record {
      fits = bits_fit circuits cells A B c.requires.parts c.deref-2.result.now first.0
          (c.deref-2.ensures.value
          ∙ same_meetings circuits cells A B c.requires.parts first.1 second.1 _
          c.in_ok-found.ensures (c.in_ok-first.ensures.seen ∙ ap seen own)
          (c.in_ok-second.ensures.seen ∙ ap seen other))
          (c.in_ok-first.ensures.cnf ∙ ap formula own);
    }

pub returns-clause-cnf : goal.returns-clause-cnf
returns-clause-cnf c =
    let A = c.args.before.now in
    let B = c.args.behind.now in
    let cells = c.args.cells.now in
    let circuits = c.circuits_have_values.ensures in
    let first = c.in_ok-first.first in
    let second = c.in_ok-second.second in
    let own = c.in_ok-first_query.ensures in
    let other = c.in_ok-second_query.ensures in
    formula_is circuits cells A B c.requires.parts c.in_ok-joined.joined.cnf first.0 second.0
    c.deref-3.result.now c.in_ok-joined.ensures.cnf
    (c.in_ok-first.ensures.cnf ∙ ap formula own) (c.in_ok-second.ensures.cnf ∙ ap formula other)
    (c.deref-3.ensures.value ∙ (c.in_ok-names.ensures
    ∙ ap (names_of second.0.vars) (c.deref.ensures.value
    ∙ same_meetings circuits cells A B c.requires.parts first.1 second.1 _ c.in_ok-found.ensures
    (c.in_ok-first.ensures.seen ∙ ap seen own) (c.in_ok-second.ensures.seen ∙ ap seen other))))
