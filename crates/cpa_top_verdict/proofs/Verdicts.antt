-- What is told of an answer (`is_told`), and what follows of the verdict (`told_true`,
-- `told_false`).
use Rattle.std.proofs.Common.{◌≡◌, refl, sym, ◌∙◌, ℕ, List, length, Result, Ok, Err}
use Rattle.std.specs.Prelude.{IfOk}
use Rattle.cpa_model.specs.declared.automaton.Cfa.{Cfa}
use Rattle.cpa_model.specs.declared.program.Program.{Program}
use Rattle.cpa_model.specs.Automata.{IsAutomaton, IsAutomatonOf}
use Rattle.cpa_model.specs.Programs.{IsWellFormed}
use Rattle.cpa_composite.specs.Components.{Component}
use Rattle.cpa_config.specs.declared.config.Config.{Config}
use Rattle.cpa_engine.specs.declared.answers.Answer.{Answer}
use Rattle.cpa_engine.specs.declared.answers.Answer.TheVariants as answer
use Rattle.cpa_engine.specs.declared.answers.Why.TheVariants as why
use Rattle.cpa_engine.specs.Answers.{IsAnswer}
use Rattle.cpa_engine.specs.Decided.{IsDecided}
use Rattle.cpa_report_print.specs.declared.report.Verdict.TheVariants as verdict
use Rattle.cpa_report_print.specs.Reports.{report_text, verdict_of}
use Rattle.cpa_top_verdict.specs.declared.reporting.Told.{Told}
use Rattle.cpa_top_verdict.specs.Reports.{IsErrorReport, IsSafeReport, IsTextOf}
use Rattle.cpa_top_verdict.specs.Verdicts.{IsTold, body_of, report_of}
use Rattle.cpa_top_verdict.proofs.Safe.{SafeBy, safe_report}

-- the automaton of a program is one
pub is_automaton : (P : Program) (cfa : Cfa) → IsWellFormed P → IsAutomatonOf P cfa
    → IsAutomaton cfa
is_automaton P cfa well of = record { program = P; well_formed = well; automaton = of }

-- what is told of an answer is told of the program
pub is_told : {E : Type 0} (P : Program) (cs : List Component) (config : Config) (cfa : Cfa)
    (a : Answer) (r : Result Told E) → IsAutomatonOf P cfa → IsAnswer cfa cs config a
    → IsDecided cfa cs config a → IfOk r (λ told. told.verdict ≡ verdict_of (body_of a))
    → IfOk r (λ told. told.text.items ≡ report_text (report_of config.model P cfa a))
    → IfOk r (IsTold P cs config)
is_told P cs config cfa a (Ok told) of says decided told_verdict told_text = record {
  automaton = cfa;
  is = of;
  answer = a;
  says = says;
  decided = decided;
  verdict = told_verdict;
  text = told_text;
}
is_told P cs config cfa a (Err e) of says decided told_verdict told_text = tt

-- where the verdict is TRUE, the text is a report of entries that show it
true_text : (P : Program) (cs : List Component) (config : Config) (cfa : Cfa) (a : Answer)
    (text : List ℕ) → SafeBy P cfa → IsAutomatonOf P cfa → IsAnswer cfa cs config a
    → text ≡ report_text (report_of config.model P cfa a) → verdict_of (body_of a) ≡ verdict.True
    → IsTextOf (IsSafeReport config.model (length cs) P) text
true_text P cs config cfa (answer.True entries) text shown of says spelled is =
    let shows = safe_report P cfa cs config entries shown of says in
    (report_of config.model P cfa (answer.True entries), spelled, shows)
true_text P cs config cfa (answer.False inputs steps) text shown of says spelled is = absurd (cc)
true_text P cs config cfa (answer.Unknown (why.Turns journal)) text shown of says spelled is =
    absurd (cc)
true_text P cs config cfa (answer.Unknown (why.Rounds path history)) text shown of says spelled is =
    absurd (cc)
true_text P cs config cfa (answer.Unknown (why.Learnt path lines)) text shown of says spelled is =
    absurd (cc)
true_text P cs config cfa (answer.Unknown (why.Gates path weight)) text shown of says spelled is =
    absurd (cc)
true_text P cs config cfa (answer.Unknown (why.NoNew path newest)) text shown of says spelled is =
    absurd (cc)

pub told_true : (P : Program) (cs : List Component) (config : Config) (told : Told)
    (is : IsTold P cs config told) → SafeBy P is.automaton → told.verdict ≡ verdict.True
    → IsTextOf (IsSafeReport config.model (length cs) P) told.text.items
told_true P cs config told is shown same =
    true_text P cs config is.automaton is.answer told.text.items shown is.is is.says is.text
    (sym is.verdict ∙ same)

-- where it is FALSE, the text is a report of inputs with which the program calls the error
error_text : (P : Program) (cs : List Component) (config : Config) (cfa : Cfa) (a : Answer)
    (text : List ℕ) → IsWellFormed P → IsAutomatonOf P cfa → IsAnswer cfa cs config a
    → text ≡ report_text (report_of config.model P cfa a) → verdict_of (body_of a) ≡ verdict.False
    → IsTextOf (IsErrorReport config.model P) text
error_text P cs config cfa (answer.True entries) text well of says spelled is = absurd (cc)
error_text P cs config cfa (answer.False inputs steps) text well of says spelled is = (
  report_of config.model P cfa (answer.False inputs steps),
  spelled,
  record {
    automaton = cfa;
    edges = of;
    counts = record {
      text_is = refl;
      points_are = refl;
      cells_are = refl;
      edges_are = refl;
      model_is = refl;
    };
    inputs = inputs;
    steps = steps;
    body_is = refl;
    replays = says.calls P well of;
  },
)
error_text P cs config cfa (answer.Unknown (why.Turns journal)) text well of says spelled is =
    absurd (cc)
error_text P cs config cfa (answer.Unknown (why.Rounds path history)) text well of says spelled is =
    absurd (cc)
error_text P cs config cfa (answer.Unknown (why.Learnt path lines)) text well of says spelled is =
    absurd (cc)
error_text P cs config cfa (answer.Unknown (why.Gates path weight)) text well of says spelled is =
    absurd (cc)
error_text P cs config cfa (answer.Unknown (why.NoNew path newest)) text well of says spelled is =
    absurd (cc)

pub told_false : (P : Program) (cs : List Component) (config : Config) (told : Told)
    → IsWellFormed P → IsTold P cs config told → told.verdict ≡ verdict.False
    → IsTextOf (IsErrorReport config.model P) told.text.items
told_false P cs config told well is same =
    error_text P cs config is.automaton is.answer told.text.items well is.is is.says is.text
    (sym is.verdict ∙ same)
