use Rattle.std.proofs.Common.{◌≡◌, ◌∙◌, ◌||◌, ◌&&◌, not, ap, sym, length, take, ℕ}
use Rattle.std.specs.Prelude.{nat_lt, ◌++◌, ◌∷◌, [], List}
use Rattle.std.specs.List.{list_any}
use Rattle.cpa_model.specs.declared.automaton.Act.{Act}
use Rattle.cpa_query.specs.Queries.{is_marked}
use Rattle.cpa_folds.specs.Along.{acts_along}
use Rattle.cpa_engine_rounds.specs.Pivots.{reads, sets, is_set_first}
use Rattle.cpa_engine_rounds.proofs.SetFirst.{acts_more, read_more, set_more}
use Rattle.cpa_engine_rounds.proofs.pivots.mark_set_first.Goals as goal

pub loop-number-preserved : goal.loop-number-preserved
loop-number-preserved c =
    let l = c.loop-number in
    let cfa = c.args.cfa.now in
    let acts = acts_along cfa (take l.number-index c.args.path.now) in
    let act = c.edge.result.now.act in
    let more = acts_more cfa c.args.path.now l.number-index c.edge.result.now
    c.loop-number-test.true
    c.edge.ensures in
    let read : (cell : ℕ) → is_marked c.mark_act.new.marks cell
    ≡ (list_any (λ b. reads b cell) (acts ++ act ∷ []) && nat_lt cell (length cfa.cells)) =
    λ cell. read_more acts act cell (is_marked l.read cell) (is_marked c.mark_act.new.marks cell)
    (nat_lt cell (length cfa.cells)) (l.invariant.read cell)
    (c.mark_act.ensures.marks cell
    ∙ ap (λ n. is_marked l.read cell || (reads act cell && nat_lt cell n)) l.invariant.read_long) in
    record {
      read_long = c.mark_act.ensures.length ∙ l.invariant.read_long;
      set_long = c.mark_set.ensures.length ∙ l.invariant.set_long;
      read = λ cell. read cell
          ∙ ap (λ (some_acts : List Act). list_any (λ a. reads a cell) some_acts && nat_lt cell
          (length cfa.cells))
          (sym more);
      set = λ cell.
          set_more acts act cell (is_marked l.set cell) (is_marked c.mark_set.new.marks cell)
          (is_marked c.mark_act.new.marks cell) (nat_lt cell (length cfa.cells))
          (l.invariant.set cell) (read cell)
          (c.mark_set.ensures.marks cell
          ∙ ap (λ n. is_marked l.set cell
          || ((sets act cell && not (is_marked c.mark_act.new.marks cell)) && nat_lt cell n))
          l.invariant.set_long)
          ∙ ap (λ (some_acts : List Act). is_set_first some_acts cell && nat_lt cell (length
          cfa.cells))
          (sym more);
    }
