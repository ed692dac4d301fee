use Rattle.std.proofs.Common.{List, ℕ, ℤ, refl, sym, subst}
use Rattle.cpa_path.specs.Paths.{HasStores}
use Rattle.cpa_path.proofs.Along.{stores_replay, no_stores}
use Rattle.cpa_path.proofs.judging.walked.Goals as goal

pub returns-then-leads : goal.returns-then-leads
returns-then-leads c = λ learnt gates. (
  refl,
  λ P W A.
      let cfa = c.args.cfa.now in
      let path = c.args.path.now in
      let found = c.in_ok-leads.ensures.yes c.if-leads.true in
      let none = c.new.ensures.items in
      stores_replay P cfa (record {
        of = A;
        keeps = c.steps_keep_states.ensures P W;
        state = c.edges_are_steps.ensures.state cfa c.requires.automaton;
        first = c.edges_are_steps.ensures.initial P cfa A;
        steps = λ s t. (c.edges_are_steps.ensures.steps P cfa s t A).1;
      }) path c.new.result.items found.0 c.requires.chains
      (subst (λ (xs : List ℤ). HasStores cfa path xs found.0) (sym none) found.1),
)

pub returns-else-leads : goal.returns-else-leads
returns-else-leads c = λ learnt gates.
    no_stores c.args.cfa.now c.args.path.now (c.in_ok-leads.ensures.no c.if-leads.false)
