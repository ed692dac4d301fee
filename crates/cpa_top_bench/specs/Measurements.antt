-- What is counted of a measurement, and the line that says so (this project's own).
use Rattle.std.specs.Prelude.{◌≡◌, ℕ, List, ◌++◌, length, codes, decimal}
use Rattle.cpa_model.specs.declared.automaton.Cfa.{Cfa}
use Rattle.cpa_model.specs.declared.program.Program.{Program}
use Rattle.cpa_model.specs.Automata.{IsAutomatonOf}
use Rattle.cpa_composite.specs.Components.{Component}
use Rattle.cpa_config.specs.declared.config.Config.{Config}
use Rattle.cpa_engine.specs.declared.answers.Answer.{Answer}
use Rattle.cpa_engine.specs.declared.answers.Answer.TheVariants as answer
use Rattle.cpa_engine.specs.Answers.{IsAnswer}
use Rattle.cpa_engine.specs.Decided.{IsDecided}
use Rattle.cpa_report_print.specs.Reports.{verdict_of, verdict_words}
use Rattle.cpa_top_verdict.specs.Verdicts.{body_of}
use Rattle.cpa_top_bench.specs.declared.measuring.Measured.{Measured}

-- how many entries an answer has
abbrev pub count_of : Answer → ℕ
count_of (answer.True entries) = length entries
count_of (answer.False inputs steps) = 0
count_of (answer.Unknown why) = 0

-- The counts and the verdict are those of an answer on the program, by these components and under
-- this configuration.
pub record IsMeasured (P : Program) (cs : List Component) (config : Config) (measured : Measured)
    : Type 0 where
  pub automaton : Cfa
  pub is : IsAutomatonOf P automaton
  pub answer : Answer
  pub says : IsAnswer automaton cs config answer
  pub decided : IsDecided automaton cs config answer
  pub points : measured.points ≡ automaton.points
  pub edges : measured.edges ≡ length automaton.edges
  pub entries : measured.entries ≡ count_of answer
  pub verdict : measured.verdict ≡ verdict_of (body_of answer)

-- the line of a measurement of so many functions
abbrev pub bench_line : ℕ → Measured → List ℕ
bench_line functions measured =
    codes "bench " ++ decimal functions ++ codes " points " ++ decimal measured.points
    ++ codes " edges " ++ decimal measured.edges ++ codes " entries " ++ decimal measured.entries
    ++ codes " " ++ verdict_words measured.verdict ++ codes "\n"
