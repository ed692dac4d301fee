-- The stages that a job goes through before its end (this project's own).
use Rattle.std.specs.Prelude.{ℕ, List, [], ◌∷◌, ◌++◌, Option, Some, None, map}
use Rattle.cpa_ints.specs.declared.data_model.DataModel.{DataModel}
use Rattle.cpa_iface.specs.Meanings.{Meaning}
use Rattle.c_lexer.specs.declared.lexer.TheConstants.{MAX_TEXT}
use Rattle.cpa_top_words.specs.Jobs.{Job, verify, replay, recheck, bench}
use Rattle.cpa_top_jobs.specs.declared.role.Role.{Role}
use Rattle.cpa_top_jobs.specs.declared.role.Role.TheVariants as role
use Rattle.cpa_top_jobs.specs.declared.role.TheConstants.{MAX_REPORT}

-- the most bytes that a file may have in this role
abbrev pub limit_of : Role → ℕ
limit_of role.Config = MAX_TEXT
limit_of role.Program = MAX_TEXT
limit_of role.Inputs = MAX_TEXT
limit_of role.Report = MAX_REPORT

-- where the data model comes from in which a program is read: it is given, or that of the
-- configuration of the named file or, without a name, of the empty text
pub data ModelSource : Type 0 where
  given : DataModel → ModelSource
  of_config : List (List ℕ) → Option (List ℕ) → ModelSource

-- a stage: the file of a name is read in its role; the program of its bytes is found in a data
-- model, or the inputs that they list, or the TRUE report of the program of the first name; for the
-- names of the handed analyses the configuration is found, that of the named file or, without a
-- name, that of the empty text; the analyses of a measurement are found among these names, and the
-- program of the text of one
pub data Stage : Type 0 where
  reading : Role → List ℕ → Stage
  parsing : ModelSource → List ℕ → Stage
  listing : List ℕ → Stage
  matching : ModelSource → List ℕ → List ℕ → Stage
  configuring : List (List ℕ) → Option (List ℕ) → Stage
  picking : List (List ℕ) → Stage
  composing : ℕ → Stage

abbrev pub names_of : List Meaning → List (List ℕ)
names_of analyses = map (λ m. m.name) analyses

abbrev pub config_stages : List (List ℕ) → Option (List ℕ) → List Stage
config_stages names None = configuring names None ∷ []
config_stages names (Some file) = reading role.Config file ∷ configuring names (Some file) ∷ []

abbrev pub program_stages : ModelSource → List ℕ → List Stage
program_stages source name = reading role.Program name ∷ parsing source name ∷ []

abbrev pub inputs_stages : List ℕ → List Stage
inputs_stages name = reading role.Inputs name ∷ listing name ∷ []

abbrev pub report_stages : ModelSource → List ℕ → List ℕ → List Stage
report_stages source name report =
    reading role.Report report ∷ matching source name report ∷ []

-- the stages of a job that comes to its end, in order
abbrev pub stages_of : List Meaning → Job → List Stage
stages_of analyses (verify program config) =
    config_stages (names_of analyses) config
    ++ program_stages (of_config (names_of analyses) config) program
stages_of analyses (replay program inputs steps model) =
    program_stages (given model) program ++ inputs_stages inputs
stages_of analyses (recheck program report config) =
    (config_stages (names_of analyses) config
    ++ program_stages (of_config (names_of analyses) config) program)
    ++ report_stages (of_config (names_of analyses) config) program report
stages_of analyses (bench functions) = picking (names_of analyses) ∷ composing functions ∷ []
