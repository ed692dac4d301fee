-- The formula is that of the cut; what is found of it is the cut's answer.
use Rattle.std.proofs.Common.{List, length, sym, ap, ◌∙◌, subst}
use Rattle.std.specs.List.{AllByRecursion}
use Rattle.cpa_cnf.specs.declared.formula.Cnf.{Cnf}
use Rattle.cpa_cnf.specs.Lines.{AreBelow}
use Rattle.cpa_cnf.specs.Models.{IsModel}
use Rattle.cpa_sat.specs.Outcomes.{IsFound, IsRefutedWithin}
use Rattle.cpa_model.specs.declared.program.Cell.{Cell}
use Rattle.cpa_folds.specs.Along.{acts_along}
use Rattle.cpa_interpolant_cuts.specs.Cuts.{formula_of, shared_bits_of}
use Rattle.cpa_interpolant_cuts.specs.lemmas.Meet.{AreParts}
use Rattle.cpa_interpolant_answers.proofs.Parted.{at_cut, good, cut_of, parts_there, below_there}
use Rattle.cpa_interpolant_answers.proofs.Parted.{light, cnf_is, sides_are, bits_are, first_of}
use Rattle.cpa_interpolant_answers.proofs.Parted.{none_of, some_of}
use Rattle.cpa_interpolant_answers.proofs.Running.{run_through, last_behind}
use Rattle.cpa_interpolant_answers.proofs.asking.ask.Goals as goal

pub join_parts-requires-clause-parts : goal.join_parts-requires-clause-parts
join_parts-requires-clause-parts c =
    let cfa = c.args.cfa.now in
    let e = c.args.expr.now in
    let edge = c.args.edge in
    let path = c.args.behind.now in
    let A = c.in_ok-before.before in
    let B = c.in_ok-rest.rest in
    let at = at_cut cfa e edge path A B c.requires.automaton
    (λ n g is. c.edges_are_sound.ensures cfa n g c.requires.automaton is)
    c.steps_keep_states.ensures c.requires.expr c.requires.edge c.requires.behind
    c.in_ok-before.ensures c.in_ok-rest.ensures c.in_ok-has_few_cells.ensures
    c.in_ok-has_few_cells-2.ensures in
    subst (λ (cells : List Cell). AreParts cells A B) (sym c.as_slice.ensures)
    (parts_there cfa e edge path A B at c.cuts_are_asked.ensures)

pub search-requires : goal.search-requires
search-requires c =
    let cfa = c.args.cfa.now in
    let e = c.args.expr.now in
    let edge = c.args.edge in
    let path = c.args.behind.now in
    let A = c.in_ok-before.before in
    let B = c.in_ok-rest.rest in
    let at = at_cut cfa e edge path A B c.requires.automaton
    (λ n g is. c.edges_are_sound.ensures cfa n g c.requires.automaton is)
    c.steps_keep_states.ensures c.requires.expr c.requires.edge c.requires.behind
    c.in_ok-before.ensures c.in_ok-rest.ensures c.in_ok-has_few_cells.ensures
    c.in_ok-has_few_cells-2.ensures in
    let own = c.in_ok-joined.ensures.cnf
    ∙ ap (λ (cells : List Cell). formula_of cells A B) c.as_slice.ensures in
    subst (λ (f : Cnf). AllByRecursion (AreBelow f.vars) f.clauses) (sym own)
    (below_there cfa e edge path A B at c.cuts_are_asked.ensures)

pub returns-in-Model-clause-asked : goal.returns-in-Model-clause-asked
returns-in-Model-clause-asked c = λ g is.
    let cfa = c.args.cfa.now in
    let e = c.args.expr.now in
    let edge = c.args.edge in
    let path = c.args.behind.now in
    let A = c.in_ok-before.before in
    let B = c.in_ok-rest.rest in
    let at = at_cut cfa e edge path A B c.requires.automaton
    (λ n g is. c.edges_are_sound.ensures cfa n g c.requires.automaton is)
    c.steps_keep_states.ensures c.requires.expr c.requires.edge c.requires.behind
    c.in_ok-before.ensures c.in_ok-rest.ensures c.in_ok-has_few_cells.ensures
    c.in_ok-has_few_cells-2.ensures in
    let own = c.in_ok-joined.ensures.cnf
    ∙ ap (λ (cells : List Cell). formula_of cells A B) c.as_slice.ensures in
    let acts = acts_along cfa path in
    let cnf = c.in_ok-joined.joined.cnf in
    let truths = c.in-Model.field-0.items in
    let model : IsModel cnf truths =
    subst (IsFound cnf c.args.learnt) c.in-Model.is c.in_ok-found.ensures in (
      light cfa e edge path A B at g is c.args.gates c.weight_of-weight.result
          c.weight_of-weight.ensures c.if-gates-weight.false,
      run_through c.cuts_are_runs.ensures cfa e g.act acts truths
          (cut_of cfa e edge path A B at g is) (good cfa e edge path A B at g is).keep
          (subst (λ (f : Cnf). IsModel f truths)
          (cnf_is cfa e edge path A B at g is cnf own) model),
    )

pub returns-then-is_empty-clause-asked : goal.returns-then-is_empty-clause-asked
returns-then-is_empty-clause-asked c = λ g is.
    let cfa = c.args.cfa.now in
    let e = c.args.expr.now in
    let edge = c.args.edge in
    let path = c.args.behind.now in
    let A = c.in_ok-before.before in
    let B = c.in_ok-rest.rest in
    let at = at_cut cfa e edge path A B c.requires.automaton
    (λ n g is. c.edges_are_sound.ensures cfa n g c.requires.automaton is)
    c.steps_keep_states.ensures c.requires.expr c.requires.edge c.requires.behind
    c.in_ok-before.ensures c.in_ok-rest.ensures c.in_ok-has_few_cells.ensures
    c.in_ok-has_few_cells-2.ensures in
    let own = c.in_ok-joined.ensures.cnf
    ∙ ap (λ (cells : List Cell). formula_of cells A B) c.as_slice.ensures in
    let cnf = c.in_ok-joined.joined.cnf in
    let lines = c.in-Refuted.lines.items in
    let refuted : IsRefutedWithin cnf c.args.learnt lines =
    subst (IsFound cnf c.args.learnt) c.in-Refuted.is c.in_ok-found.ensures in
    last_behind c.cuts_are_runs.ensures c.a_refuted_formula_has_no_model.ensures cfa
    c.args.learnt c.args.gates e g.act path lines c.in_ok-last-in-Refuted.last
    c.in_ok-last-in-Refuted.ensures (none_of path c.if-is_empty.ensures)
    (cut_of cfa e edge path A B at g is)
    (subst (λ (f : Cnf). IsRefutedWithin f c.args.learnt lines)
    (cnf_is cfa e edge path A B at g is cnf own) refuted)
    (light cfa e edge path A B at g is c.args.gates c.weight_of-weight.result
    c.weight_of-weight.ensures c.if-gates-weight.false)

pub returns-clause-asked : goal.returns-clause-asked
returns-clause-asked c = λ g is.
    let cfa = c.args.cfa.now in
    let e = c.args.expr.now in
    let edge = c.args.edge in
    let path = c.args.behind.now in
    let A = c.in_ok-before.before in
    let B = c.in_ok-rest.rest in
    let at = at_cut cfa e edge path A B c.requires.automaton
    (λ n g is. c.edges_are_sound.ensures cfa n g c.requires.automaton is)
    c.steps_keep_states.ensures c.requires.expr c.requires.edge c.requires.behind
    c.in_ok-before.ensures c.in_ok-rest.ensures c.in_ok-has_few_cells.ensures
    c.in_ok-has_few_cells-2.ensures in
    let own = c.in_ok-joined.ensures.cnf
    ∙ ap (λ (cells : List Cell). formula_of cells A B) c.as_slice.ensures in
    let cnf = c.in_ok-joined.joined.cnf in
    let lines = c.in-Refuted.lines.items in
    let refuted : IsRefutedWithin cnf c.args.learnt lines =
    subst (IsFound cnf c.args.learnt) c.in-Refuted.is c.in_ok-found.ensures in
    let here = cnf_is cfa e edge path A B at g is cnf own in
    let onward = first_of cfa path c.requires.behind (some_of path c.if-is_empty.ensures) in
    record {
      cut = cut_of cfa e edge path A B at g is;
      weighs = light cfa e edge path A B at g is c.args.gates c.weight_of-weight.result
          c.weight_of-weight.ensures c.if-gates-weight.false;
      cnf = here;
      sides = sides_are cfa e edge path A B at g is c.in_ok-joined.joined.sides.items
          c.in_ok-joined.ensures.sides;
      bits = bits_are cfa e edge path A B at g is c.in_ok-joined.joined.bits.items
          (c.in_ok-joined.ensures.bits
          ∙ ap (λ (cells : List Cell). shared_bits_of cells A B) c.as_slice.ensures);
      refuted = subst (λ (f : Cnf). IsRefutedWithin f c.args.learnt lines) here refuted;
      act = onward.0;
      behind = onward.1;
      onward = onward.2;
    }

pub returns-clause-whole : goal.returns-clause-whole
returns-clause-whole c =
    let cfa = c.args.cfa.now in
    let e = c.args.expr.now in
    let edge = c.args.edge in
    let path = c.args.behind.now in
    let A = c.in_ok-before.before in
    let B = c.in_ok-rest.rest in
    let at = at_cut cfa e edge path A B c.requires.automaton
    (λ n g is. c.edges_are_sound.ensures cfa n g c.requires.automaton is)
    c.steps_keep_states.ensures c.requires.expr c.requires.edge c.requires.behind
    c.in_ok-before.ensures c.in_ok-rest.ensures c.in_ok-has_few_cells.ensures
    c.in_ok-has_few_cells-2.ensures in
    let own = c.in_ok-joined.ensures.cnf
    ∙ ap (λ (cells : List Cell). formula_of cells A B) c.as_slice.ensures in
    let cnf = c.in_ok-joined.joined.cnf in
    let refuted : IsRefutedWithin cnf c.args.learnt c.in-Refuted.lines.items =
    subst (IsFound cnf c.args.learnt) c.in-Refuted.is c.in_ok-found.ensures in
    record {
      sides = ap length c.in_ok-joined.ensures.sides
          ∙ (c.cuts_are_asked.ensures.sides cfa.cells A B
          ∙ ap (λ (f : Cnf). length f.clauses) (sym own));
      below = subst (λ (f : Cnf). AllByRecursion (AreBelow f.vars) f.clauses) (sym own)
          (below_there cfa e edge path A B at c.cuts_are_asked.ensures);
      refutes = refuted.refutes;
    }
