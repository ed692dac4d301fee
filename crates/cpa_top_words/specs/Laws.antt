-- Laws of words: which words ask for a job, and for which.
use Rattle.std.specs.Prelude.{◌≡◌, ◌↔◌, ℕ, ◌≤◌, List, [], ◌∷◌, Some, None, true, codes, decimal}
use Rattle.clap.specs.Words.{fault_of}
use Rattle.clap.specs.Lexer.{strip_byte}
use Rattle.cpa_ints.specs.declared.data_model.DataModel.{DataModel}
use Rattle.cpa_ints.specs.declared.data_model.DataModel.TheVariants.{Lp64}
use Rattle.cpa_config.specs.Values.{models, named}
use Rattle.cpa_top_words_command.specs.Commands.{cpaverify}
use Rattle.cpa_top_words.specs.Jobs.{Asks, IsNoJob, Job, has_model}
use Rattle.cpa_top_words.specs.Jobs.{verify, replay, recheck, bench}
use Rattle.cpa_top_words.specs.declared.job.TheConstants.{MAX_BENCH}

-- where clap takes the words, they ask for a job exactly where the data model that they name is one
abbrev pub AskForAJobWhereTaken : List (List ℕ) → Type 0
AskForAJobWhereTaken words =
    fault_of cpaverify words ≡ [] → ((job : Job) × Asks words job) ↔ (has_model words ≡ true)

-- the name does not begin with a `-`
abbrev pub IsPlain : List ℕ → Type 0
IsPlain name = strip_byte 45 name ≡ None

-- what the words of a subcommand ask for, without options and with a configuration
pub record AskAsIsCustomary : Type 0 where
  pub verifies : (program : List ℕ) → IsPlain program
      → Asks (codes "verify" ∷ program ∷ []) (verify program None)
  pub configures : (program config : List ℕ) → IsPlain program → IsPlain config
      → Asks (codes "verify" ∷ program ∷ codes "--config" ∷ config ∷ [])
      (verify program (Some config))
  pub replays : (program inputs : List ℕ) → IsPlain program → IsPlain inputs
      → Asks (codes "replay" ∷ program ∷ inputs ∷ []) (replay program inputs 1000000 Lp64)
  pub replays_in : (program inputs name : List ℕ) (model : DataModel) → IsPlain program
      → IsPlain inputs → IsPlain name → named models name ≡ Some model
      → Asks (codes "replay" ∷ program ∷ inputs ∷ codes "--model" ∷ name ∷ [])
      (replay program inputs 1000000 model)
  pub replays_in_none : (program inputs name : List ℕ) → IsPlain program → IsPlain inputs
      → IsPlain name → named models name ≡ None
      → IsNoJob (codes "replay" ∷ program ∷ inputs ∷ codes "--model" ∷ name ∷ [])
  pub rechecks : (program report : List ℕ) → IsPlain program → IsPlain report
      → Asks (codes "recheck" ∷ program ∷ report ∷ []) (recheck program report None)
  pub rechecks_so : (program report config : List ℕ) → IsPlain program → IsPlain report
      → IsPlain config
      → Asks (codes "recheck" ∷ program ∷ report ∷ codes "--config" ∷ config ∷ [])
      (recheck program report (Some config))
  pub benches : (n : ℕ) → n ≤ MAX_BENCH → Asks (codes "bench" ∷ decimal n ∷ []) (bench n)
