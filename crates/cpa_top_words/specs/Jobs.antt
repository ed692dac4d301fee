-- What words ask for (this project's own), by what clap promises for the command `cpaverify`: that
-- it takes the words, and what it finds for the subcommand that they name.
use Rattle.std.specs.Prelude.{◌≡◌, ℕ, List, [], Option, Some, None, codes, if◌then◌else◌}
use Rattle.std.specs.Prelude.{option_map, unwrap_or, false, true, is_some, Bool}
use Rattle.std.specs.Option.{option_map_or}
use Rattle.std.specs.Str.{bytes_eq}
use Rattle.std.specs.Str.Parse.{digits_value, without_leading_plus}
use Rattle.clap.specs.Words.{Row, fault_of, first_of, one_of, subcommand_of}
use Rattle.clap.specs.ValueTests.{accepts}
use Rattle.clap.specs.declared.builder.value_parser.ValueParser.TheVariants as vp
use Rattle.cpa_ints.specs.declared.data_model.DataModel.{DataModel}
use Rattle.cpa_config.specs.Values.{models, named}
use Rattle.cpa_config.specs.declared.keys.TheConstants.{DEFAULT_MODEL}
use Rattle.cpa_top_words_command.specs.Commands.{cpaverify}
use Rattle.cpa_top_words.specs.declared.job.Job.{Job as Held}
use Rattle.cpa_top_words.specs.declared.job.Job.TheVariants as held
use Rattle.cpa_top_words.specs.declared.job.TheConstants.{STEPS}

-- to verify a program, by a configuration where one is named; to replay a program, read in a data
-- model, on inputs, in at most so many steps; to recheck the report of a program, by a
-- configuration where one is named; to verify the text of a measurement of so many functions.
-- Names of files are the bytes given
pub data Job : Type 0 where
  verify : List ℕ → Option (List ℕ) → Job
  replay : List ℕ → List ℕ → ℕ → DataModel → Job
  recheck : List ℕ → List ℕ → Option (List ℕ) → Job
  bench : ℕ → Job

-- ---- what clap finds

-- the name of a file that the command requires: clap takes no words without it
abbrev pub name_of : List ℕ → List Row → List ℕ
name_of id rows = unwrap_or (first_of id rows) []

-- the number that a text is: clap takes no text that is none
abbrev pub number_of : List ℕ → ℕ
number_of text = if accepts false (vp.Unsigned 0 18446744073709551615) text
    then digits_value 10 (without_leading_plus text) else STEPS

abbrev pub steps_of : List Row → ℕ
steps_of rows = option_map_or number_of (one_of (codes "steps") rows) STEPS

-- the data model that is named, by the names that configurations have, else theirs by default
abbrev pub model_of : List Row → Option DataModel
model_of rows = option_map_or (named models) (first_of (codes "model") rows) (Some DEFAULT_MODEL)

-- the number of functions that a text is: clap takes no text that is none or a larger one
abbrev pub count_in : List ℕ → ℕ
count_in text = if accepts false (vp.Unsigned 0 100) text
    then digits_value 10 (without_leading_plus text) else 0

abbrev pub count_of : List Row → ℕ
count_of rows = option_map_or count_in (one_of (codes "N") rows) 0

-- the job of a subcommand with what clap finds for it
abbrev pub job_of : List ℕ → List Row → Option Job
job_of name rows = if bytes_eq name (codes "verify")
    then Some (verify (name_of (codes "PROGRAM") rows) (first_of (codes "config") rows))
    else (if bytes_eq name (codes "replay")
    then option_map (replay (name_of (codes "PROGRAM") rows) (name_of (codes "INPUTS") rows)
    (steps_of rows)) (model_of rows)
    else (if bytes_eq name (codes "recheck")
    then Some (recheck (name_of (codes "PROGRAM") rows) (name_of (codes "REPORT") rows)
    (first_of (codes "config") rows))
    else (if bytes_eq name (codes "bench") then Some (bench (count_of rows)) else None)))

abbrev pub asked_by : List (List ℕ) → Option Job
asked_by words = option_map_or (λ p. job_of p.0 p.1) (subcommand_of cpaverify words) None

-- the data model that a replay names is one
abbrev pub names_model : List ℕ → List Row → Bool
names_model name rows = if bytes_eq name (codes "replay") then is_some (model_of rows) else true

abbrev pub has_model : List (List ℕ) → Bool
has_model words = option_map_or (λ p. names_model p.0 p.1) (subcommand_of cpaverify words) true

-- ---- what words ask for

-- the words ask for the job: clap takes them, and finds it
pub record Asks (words : List (List ℕ)) (job : Job) : Type 0 where
  pub taken : fault_of cpaverify words ≡ []
  pub asked : asked_by words ≡ Some job

-- the words ask for nothing
abbrev pub IsNoJob : List (List ℕ) → Type 0
IsNoJob words = (job : Job) → Asks words job → ⊥

-- the job that the code holds
abbrev pub meant : Held → Job
meant (held.Verify program config) = verify program.now (option_map (λ s. s.now) config)
meant (held.Replay program inputs steps model) = replay program.now inputs.now steps model
meant (held.Recheck program report config) =
    recheck program.now report.now (option_map (λ s. s.now) config)
meant (held.Bench count) = bench count
