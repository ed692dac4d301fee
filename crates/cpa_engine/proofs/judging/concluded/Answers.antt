use Rattle.std.proofs.Common.{ℤ, List, inl, inr, sym, subst}
use Rattle.cpa_blast.specs.Formulas.{formula}
use Rattle.cpa_cnf.specs.declared.formula.Line.{Line}
use Rattle.cpa_composite.specs.Composites.{components}
use Rattle.cpa_path.specs.Judgements.{IsJudged}
use Rattle.cpa_path.specs.Paths.{ReplaysTo, ReplaysAlong, path_form}
use Rattle.cpa_path.specs.declared.judging.Judged.{Judged}
use Rattle.cpa_sat.specs.Outcomes.{IsSpent}
use Rattle.cpa_engine.specs.declared.answers.Why.TheVariants as why
use Rattle.cpa_engine.specs.declared.search.Came.{Came}
use Rattle.cpa_engine.specs.Searches.{IsCome, position, rounds_left}
use Rattle.cpa_engine.proofs.Ending.{false_spared, why_spared}
use Rattle.cpa_engine.proofs.judging.concluded.Goals as goal

pub refuted-requires-clause-refuted : goal.refuted-requires-clause-refuted
refuted-requires-clause-refuted g c =
    let cfa = c.args.cfa.now in
    let settings = c.args.config.now.settings in
    let path = c.args.path in
    let no_run = subst (λ (j : Judged). IsJudged cfa path.edges settings.learnt settings.gates j)
    c.in-NoRun.is c.requires.judged in
    record {
      no_run = no_run;
      kept = c.error_paths_are_kept.ensures cfa (components c.args.composite.now) settings
          c.args.search.now.reached c.args.number path c.requires.automaton c.requires.search.stands
          c.requires.found c.requires.path (inl no_run);
    }

pub returns-in-Run-clause-come : goal.returns-in-Run-clause-come
returns-in-Run-clause-come g c =
    let cfa = c.args.cfa.now in
    let settings = c.args.config.now.settings in
    let path = c.args.path in
    let run = subst (λ (j : Judged). IsJudged cfa path.edges settings.learnt settings.gates j)
    c.in-Run.is c.requires.judged in (
      record {
        calls = λ P W of. subst (λ (inputs : List ℤ). ReplaysTo P inputs c.in-Run.steps)
            (sym c.from_vec.ensures) (run.1 P W of).replays;
        end = position c.args.search.now;
        path = path;
        found = record {
          comes = c.requires.search.comes;
          leads = record {
            number = c.args.number;
            least = c.requires.found.least;
            way = c.requires.path;
          };
        };
        each_edge = run.0;
        along = λ P W of. subst
            (λ (inputs : List ℤ). ReplaysAlong P cfa path.edges inputs c.in-Run.steps)
            (sym c.from_vec.ensures) (run.1 P W of);
      },
      false_spared cfa (components c.args.composite.now) c.args.config.now c.from_vec.result
          c.in-Run.steps,
    )

pub returns-in-Learnt-clause-come : goal.returns-in-Learnt-clause-come
returns-in-Learnt-clause-come g c =
    let cfa = c.args.cfa.now in
    let cs = components c.args.composite.now in
    let config = c.args.config.now in
    let settings = config.settings in
    let path = c.args.path in
    let s = c.args.search.now in
    let judged = subst (λ (j : Judged). IsJudged cfa path.edges settings.learnt settings.gates j)
    c.in-Learnt.is c.requires.judged in
    subst (λ (came : Came). IsCome cfa cs config (rounds_left config s) s came)
    (sym c.given_up.ensures) (
      record {
        asks = judged.0;
        light = judged.1;
        spent = subst (λ (lines : List Line). IsSpent (formula (path_form cfa path.edges).query)
            settings.learnt lines) (sym c.from_vec-in-Learnt.ensures) judged.2;
        kept = c.error_paths_are_kept.ensures cfa cs settings s.reached c.args.number path
            c.requires.automaton c.requires.search.stands c.requires.found c.requires.path
            (inr judged.0);
        end = position s;
        found = record {
          comes = c.requires.search.comes;
          leads = record {
            number = c.args.number;
            least = c.requires.found.least;
            way = c.requires.path;
          };
        };
      },
      why_spared cfa cs config (why.Learnt path c.from_vec-in-Learnt.result) (λ none. none)
          (λ none. none),
    )

pub returns-in-Gates-clause-come : goal.returns-in-Gates-clause-come
returns-in-Gates-clause-come g c =
    let cfa = c.args.cfa.now in
    let cs = components c.args.composite.now in
    let config = c.args.config.now in
    let settings = config.settings in
    let path = c.args.path in
    let s = c.args.search.now in
    let judged = subst (λ (j : Judged). IsJudged cfa path.edges settings.learnt settings.gates j)
    c.in-Gates.is c.requires.judged in
    subst (λ (came : Came). IsCome cfa cs config (rounds_left config s) s came)
    (sym c.given_up-in-Gates.ensures) (
      record {
        asks = judged.0;
        heavy = judged.1;
        weighs = judged.2;
        kept = c.error_paths_are_kept.ensures cfa cs settings s.reached c.args.number path
            c.requires.automaton c.requires.search.stands c.requires.found c.requires.path
            (inr judged.0);
        end = position s;
        found = record {
          comes = c.requires.search.comes;
          leads = record {
            number = c.args.number;
            least = c.requires.found.least;
            way = c.requires.path;
          };
        };
      },
      why_spared cfa cs config (why.Gates path c.in-Gates.weight) (λ none. none) (λ none. none),
    )
