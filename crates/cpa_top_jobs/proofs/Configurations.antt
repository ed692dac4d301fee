-- The configuration of a named file, or of none.
use Rattle.std.proofs.Common.{◌≡◌, ℕ, ◌≤◌, List, [], ◌∷◌, length, refl, inr}
use Rattle.std.specs.Prelude.{Option, Some, None, IfSome}
use Rattle.std.specs.List.{AllByRecursion}
use Rattle.std.specs.String.{string_bytes}
use Rattle.c_lexer.specs.declared.lexer.TheConstants.{MAX_TEXT}
use Rattle.cpa_config.specs.declared.config.Config.{Config}
use Rattle.cpa_config.specs.Configurations.{Configures}
use Rattle.cpa_top_jobs.specs.declared.refusal.Refusal.{Refusal}
use Rattle.cpa_top_jobs.specs.declared.refusal.Refusal.TheVariants as refusal
use Rattle.cpa_top_jobs.specs.declared.role.Role.TheVariants as role
use Rattle.cpa_top_jobs.specs.Ends.{Passes, HasConfig, IsConfigLine, config_bytes}
use Rattle.cpa_top_jobs.specs.Files.{Files, NoReadFailed}
use Rattle.cpa_top_jobs.specs.Jobs.{reading, configuring, config_stages}
use Rattle.cpa_top_jobs.specs.Refusals.{IsRefusedAt, IsHalted, IsTaken, IsConfigRefused}
use Rattle.cpa_top_jobs.proofs.Stages.{halts}
use Rattle.cpa_top_jobs.proofs.Taking.{as_told, told_weaker, out_of_memory, was_read, taken_read}

-- the bytes of a configuration are refused
config_refused_at : (files : Files) (names : List (List ℕ)) (file : Option (List ℕ))
    (bytes : List ℕ) (r : Refusal)
    → IfSome (config_bytes files.bytes_of file) (λ t. bytes ≡ t) → NoReadFailed files
    → IsConfigRefused names bytes r → IsRefusedAt files (configuring names file) r
config_refused_at files names file bytes (refusal.NoConfig line) same steady is = record {
  why =
      inr (as_told (config_bytes files.bytes_of file) bytes
      (IsConfigLine names (string_bytes line)) is same);
  reads = λ n. steady;
}
config_refused_at files names file bytes refusal.OutOfMemory same steady is =
    out_of_memory files (configuring names file) steady
config_refused_at files names file bytes refusal.Usage same steady is = absurd is
config_refused_at files names file bytes refusal.LacksAnalysis same steady is = absurd is
config_refused_at files names file bytes (refusal.ReadFailed which) same steady is = absurd is
config_refused_at files names file bytes (refusal.TooLong which) same steady is = absurd is
config_refused_at files names file bytes (refusal.NoProgram line) same steady is = absurd is
config_refused_at files names file bytes refusal.NoInputs same steady is = absurd is
config_refused_at files names file bytes (refusal.NoReport rule) same steady is = absurd is

-- those of a named file
pub config_refused : (files : Files) (names : List (List ℕ)) (file bytes : List ℕ) (r : Refusal)
    → length bytes ≤ MAX_TEXT → IfSome (files.bytes_of file) (λ t. bytes ≡ t)
    → NoReadFailed files → IsConfigRefused names bytes r
    → IsHalted files (config_stages names (Some file)) r
config_refused files names file bytes r short same steady is =
    halts files (reading role.Config file ∷ []) (configuring names (Some file)) []
    (was_read files role.Config file bytes short same, tt) r
    (config_refused_at files names (Some file) bytes r same steady is)

-- the empty text, where no file is named
pub default_refused : (files : Files) (names : List (List ℕ)) (file : Option (List ℕ))
    (r : Refusal) → file ≡ None → NoReadFailed files → IsConfigRefused names [] r
    → IsHalted files (config_stages names file) r
default_refused files names None r none steady is =
    halts files [] (configuring names None) [] tt r
    (config_refused_at files names None [] r refl steady is)
default_refused files names (Some name) r none steady is = absurd (cc)

-- a configuration that was taken passes its stages
pub config_passes : (files : Files) (names : List (List ℕ)) (file : Option (List ℕ))
    (config : Config)
    → IsTaken (config_bytes files.bytes_of file) (λ b. Configures b names config)
    → AllByRecursion (Passes files) (config_stages names file)
config_passes files names None config is = (
  told_weaker (Some []) (λ b. (length b ≤ MAX_TEXT) × Configures b names config)
      (HasConfig names) (λ b h. (config, h.1)) is,
  tt,
)
config_passes files names (Some file) config is = (
  taken_read files role.Config file (λ b. Configures b names config) refl is,
  (
    told_weaker (files.bytes_of file) (λ b. (length b ≤ MAX_TEXT) × Configures b names config)
        (HasConfig names) (λ b h. (config, h.1)) is,
    tt,
  ),
)
