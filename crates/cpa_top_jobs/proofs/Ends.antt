-- From what is concluded of a program to what the job comes to.
use Rattle.std.proofs.Common.{◌≡◌, ℕ, ◌≤◌, ℤ, List, length, map, refl, sym, ap, ◌∙◌}
use Rattle.std.proofs.Common.{subst, inr}
use Rattle.std.proofs.lemmas.List.{length-map}
use Rattle.std.specs.Prelude.{Option, Ok, Err}
use Rattle.c_lexer.specs.declared.lexer.TheConstants.{MAX_TEXT}
use Rattle.c_program.specs.Programs.{IsTheProgram}
use Rattle.cpa_config.specs.declared.config.Config.{Config}
use Rattle.cpa_config.specs.Configurations.{Configures}
use Rattle.cpa_iface.specs.Meanings.{Meaning}
use Rattle.cpa_ints.specs.declared.data_model.DataModel.{DataModel}
use Rattle.cpa_model.specs.declared.program.Program.{Program}
use Rattle.cpa_top_jobs.specs.Inputs.{IsInputs}
use Rattle.cpa_top_words.specs.Jobs.{verify, replay}
use Rattle.cpa_top_jobs.specs.declared.conclusion.Conclusion.{Conclusion}
use Rattle.cpa_top_jobs.specs.declared.refusal.Refusal.{Refusal}
use Rattle.cpa_top_jobs.specs.Ends.{IsModelOf, IsVerified, IsReplayed, config_bytes}
use Rattle.cpa_top_jobs.specs.Files.{Files, NoReadFailed, HoldsOf}
use Rattle.cpa_top_jobs.specs.Jobs.{names_of, config_stages, program_stages, inputs_stages}
use Rattle.cpa_top_jobs.specs.Jobs.{given, of_config}
use Rattle.cpa_top_jobs.specs.Refusals.{IsTaken, IsOutcome, IsConcluded, IsHalted, IsDone}
use Rattle.cpa_top_jobs.proofs.Configurations.{config_passes}
use Rattle.cpa_top_jobs.proofs.Stages.{all_pass, halts_in_front, halts_behind, halted_done}
use Rattle.cpa_top_jobs.proofs.Taking.{program_passes, inputs_pass, told_weaker}

-- as many names as analyses
pub as_many : {X : Type 0} (bytes : X → List ℕ) (names : List X) (analyses : List Meaning)
    → map bytes names ≡ names_of analyses → length names ≡ length analyses
as_many bytes names analyses same =
    sym (length-map names bytes) ∙ ap (λ (xs : List (List ℕ)). length xs) same
    ∙ length-map analyses (λ (m : Meaning). m.name)

-- the data model of the source is that of the configuration
model_from : (bytes_of : List ℕ → Option (List ℕ)) (file : Option (List ℕ))
    (names : List (List ℕ)) (config : Config)
    → IsTaken (config_bytes bytes_of file) (λ b. Configures b names config)
    → IsModelOf bytes_of (of_config names file) config.model
model_from bytes_of file names config is =
    told_weaker (config_bytes bytes_of file)
    (λ b. (length b ≤ MAX_TEXT) × Configures b names config)
    (λ b. (found : Config) × Configures b names found × (config.model ≡ found.model))
    (λ b h. (config, h.1, refl)) is

-- so it is where the files tell what they told when the configuration was taken
pub model_told : (told was : List ℕ → Option (List ℕ)) (file : Option (List ℕ))
    (names handed : List (List ℕ)) (config : Config) → told ≡ was → names ≡ handed
    → IsTaken (config_bytes was file) (λ b. Configures b names config)
    → IsModelOf told (of_config handed file) config.model
model_told told was file names handed config steady same is =
    subst (λ (bytes_of : List ℕ → Option (List ℕ)).
    IsModelOf bytes_of (of_config handed file) config.model) (sym steady)
    (subst (λ (ns : List (List ℕ)). IsModelOf was (of_config ns file) config.model) same
    (model_from was file names config is))

module _ (files : Files) (analyses : List Meaning) where
  -- ---- replay

  pub replay_stops : (name list : List ℕ) (steps : ℕ) (m : DataModel) (r : Refusal)
      → IsHalted files (program_stages (given m) name) r
      → IsDone files analyses (replay name list steps m) (Err r)
  replay_stops name list steps m r halted =
      halted_done files analyses (replay name list steps m) r
      (halts_in_front files (program_stages (given m) name) (inputs_stages list) r halted)

  pub inputs_stop : (name list : List ℕ) (steps : ℕ) (m : DataModel) (P : Program) (r : Refusal)
      → IsTaken (files.bytes_of name) (λ b. IsTheProgram m b P)
      → IsHalted files (inputs_stages list) r
      → IsDone files analyses (replay name list steps m) (Err r)
  inputs_stop name list steps m P r is halted =
      halted_done files analyses (replay name list steps m) r
      (halts_behind files (program_stages (given m) name) (inputs_stages list) r
      (program_passes files (given m) m name P refl is) halted)

  replayed : (told list : Option (List ℕ)) (steps : ℕ) (m : DataModel) (P : Program)
      (numbers : List ℤ) (c : Conclusion) → IsTaken told (λ b. IsTheProgram m b P)
      → IsTaken list (λ b. IsInputs b numbers) → IsOutcome steps P numbers c
      → HoldsOf told (λ b. HoldsOf list (λ l. IsReplayed m steps b l c.status c.text.items))
  replayed told list steps m P numbers c is are came = record {
    bytes = is.bytes;
    same = is.same;
    holds = record {
      bytes = are.bytes;
      same = are.same;
      holds = record {
        program = P;
        is = is.holds.1;
        inputs = numbers;
        are = are.holds.1;
        outcome = came.outcome;
        replay = came.replay;
        status = came.status;
        line_is = came.line;
      };
    };
  }

  pub replay_ends : (name list : List ℕ) (steps : ℕ) (m : DataModel) (P : Program)
      (numbers : List ℤ) (c : Conclusion)
      → IsTaken (files.bytes_of name) (λ b. IsTheProgram m b P)
      → IsTaken (files.bytes_of list) (λ b. IsInputs b numbers) → NoReadFailed files
      → IsOutcome steps P numbers c → IsDone files analyses (replay name list steps m) (Ok c)
  replay_ends name list steps m P numbers c is are steady came = record {
    rule = inr (inr (record {
      passed =
          all_pass files (program_stages (given m) name) (inputs_stages list)
          (program_passes files (given m) m name P refl is)
          (inputs_pass files list numbers are);
      concludes =
          replayed (files.bytes_of name) (files.bytes_of list) steps m P numbers c is are came;
    }));
    reads = λ n. steady;
  }

  -- ---- verify

  pub config_stops : (name : List ℕ) (file : Option (List ℕ)) (names : List (List ℕ))
      (r : Refusal) → names ≡ names_of analyses → IsHalted files (config_stages names file) r
      → IsDone files analyses (verify name file) (Err r)
  config_stops name file names r same halted =
      halted_done files analyses (verify name file) r
      (halts_in_front files (config_stages (names_of analyses) file)
      (program_stages (of_config (names_of analyses) file) name) r
      (subst (λ (ns : List (List ℕ)). IsHalted files (config_stages ns file) r) same halted))

  pub configured : (file : Option (List ℕ)) (names : List (List ℕ)) (config : Config)
      → names ≡ names_of analyses
      → IsTaken (config_bytes files.bytes_of file) (λ b. Configures b names config)
      → IsTaken (config_bytes files.bytes_of file) (λ b. Configures b (names_of analyses) config)
  configured file names config same is =
      subst (λ (ns : List (List ℕ)).
      IsTaken (config_bytes files.bytes_of file) (λ b. Configures b ns config)) same is

  pub model_is : (file : Option (List ℕ)) (config : Config)
      → IsTaken (config_bytes files.bytes_of file) (λ b. Configures b (names_of analyses) config)
      → IsModelOf files.bytes_of (of_config (names_of analyses) file) config.model
  model_is file config is = model_from files.bytes_of file (names_of analyses) config is

  pub program_stops : (name : List ℕ) (file : Option (List ℕ)) (names : List (List ℕ))
      (config : Config) (r : Refusal) → names ≡ names_of analyses
      → IsTaken (config_bytes files.bytes_of file) (λ b. Configures b names config)
      → IsHalted files (program_stages (of_config (names_of analyses) file) name) r
      → IsDone files analyses (verify name file) (Err r)
  program_stops name file names config r same configures halted =
      halted_done files analyses (verify name file) r
      (halts_behind files (config_stages (names_of analyses) file)
      (program_stages (of_config (names_of analyses) file) name) r
      (config_passes files (names_of analyses) file config
      (configured file names config same configures)) halted)

  verified : (said told : Option (List ℕ)) (config : Config) (P : Program) (c : Conclusion)
      → IsTaken said (λ b. Configures b (names_of analyses) config)
      → IsTaken told (λ b. IsTheProgram config.model b P) → IsConcluded analyses config P c
      → HoldsOf said (λ s. HoldsOf told (λ b. IsVerified analyses s b c.status c.text.items))
  verified said told config P c configures is came = record {
    bytes = configures.bytes;
    same = configures.same;
    holds = record {
      bytes = is.bytes;
      same = is.same;
      holds = record {
        config = config;
        configures = configures.holds.1;
        program = P;
        is = is.holds.1;
        told = came.told;
        tells = came.tells;
        status = came.status;
        text_is = came.text_is;
      };
    };
  }

  pub verify_ends : (name : List ℕ) (file : Option (List ℕ)) (names : List (List ℕ))
      (config : Config) (P : Program) (c : Conclusion) → names ≡ names_of analyses
      → IsTaken (config_bytes files.bytes_of file) (λ b. Configures b names config)
      → IsTaken (files.bytes_of name) (λ b. IsTheProgram config.model b P) → NoReadFailed files
      → IsConcluded analyses config P c → IsDone files analyses (verify name file) (Ok c)
  verify_ends name file names config P c same configures is steady came =
      let taken = configured file names config same configures in
      let source = of_config (names_of analyses) file in
      record {
        rule = inr (inr (record {
          passed =
              all_pass files (config_stages (names_of analyses) file) (program_stages source name)
              (config_passes files (names_of analyses) file config taken)
              (program_passes files source config.model name P (model_is file config taken) is);
          concludes =
              verified (config_bytes files.bytes_of file) (files.bytes_of name) config P c taken
              is came;
        }));
        reads = λ n. steady;
      }
