-- From what comes of a measurement to what its job comes to.
use Rattle.std.proofs.Common.{◌≡◌, refl, subst, ℕ, List, [], ◌∷◌, inr}
use Rattle.std.specs.Prelude.{Ok, Err}
use Rattle.c_program.specs.Programs.{IsTheProgram}
use Rattle.cpa_config.specs.declared.config.Config.{Config}
use Rattle.cpa_iface.specs.Meanings.{Meaning}
use Rattle.cpa_ints.specs.declared.data_model.DataModel.TheVariants.{Lp64}
use Rattle.cpa_model.specs.declared.program.Program.{Program}
use Rattle.cpa_top_bench.specs.Configurations.{IsBenchConfig}
use Rattle.cpa_top_bench.specs.Texts.{bench_text}
use Rattle.cpa_top_words.specs.Jobs.{bench}
use Rattle.cpa_top_jobs.specs.declared.conclusion.Conclusion.{Conclusion}
use Rattle.cpa_top_jobs.specs.declared.refusal.Refusal.{Refusal}
use Rattle.cpa_top_jobs.specs.declared.refusal.Refusal.TheVariants as refusal
use Rattle.cpa_top_jobs.specs.Files.{Files, NoReadFailed}
use Rattle.cpa_top_jobs.specs.Jobs.{picking, composing, names_of}
use Rattle.cpa_top_jobs.specs.Refusals.{IsCounted, IsDone, IsLackRefused, IsRefusedAt}
use Rattle.cpa_top_jobs.specs.Refusals.{IsTextRefused}
use Rattle.cpa_top_jobs.proofs.Stages.{halts, halted_done}
use Rattle.cpa_top_jobs.proofs.Taking.{out_of_memory}

module _ (files : Files) (steady : NoReadFailed files) where
  -- an analysis is not handed in
  lacks_at : (names : List (List ℕ)) (r : Refusal) → IsLackRefused names r
      → IsRefusedAt files (picking names) r
  lacks_at names refusal.LacksAnalysis is = record { why = inr (is, refl); reads = λ n. steady }
  lacks_at names refusal.OutOfMemory is = out_of_memory files (picking names) steady
  lacks_at names refusal.Usage is = absurd is
  lacks_at names (refusal.ReadFailed which) is = absurd is
  lacks_at names (refusal.TooLong which) is = absurd is
  lacks_at names (refusal.NoProgram line) is = absurd is
  lacks_at names (refusal.NoConfig line) is = absurd is
  lacks_at names refusal.NoInputs is = absurd is
  lacks_at names (refusal.NoReport rule) is = absurd is

  -- the text stands for no program
  composed_at : (functions : ℕ) (r : Refusal) → IsTextRefused Lp64 (bench_text functions) r
      → IsRefusedAt files (composing functions) r
  composed_at functions (refusal.NoProgram line) is =
      record { why = inr is; reads = λ n. steady }
  composed_at functions refusal.OutOfMemory is =
      out_of_memory files (composing functions) steady
  composed_at functions refusal.Usage is = absurd is
  composed_at functions (refusal.ReadFailed which) is = absurd is
  composed_at functions (refusal.TooLong which) is = absurd is
  composed_at functions (refusal.NoConfig line) is = absurd is
  composed_at functions refusal.LacksAnalysis is = absurd is
  composed_at functions refusal.NoInputs is = absurd is
  composed_at functions (refusal.NoReport rule) is = absurd is

  module _ (analyses : List Meaning) (functions : ℕ) (names : List (List ℕ))
      (same : names ≡ names_of analyses) where
    pub picking_stops : (r : Refusal) → IsLackRefused names r
        → IsDone files analyses (bench functions) (Err r)
    picking_stops r is =
        halted_done files analyses (bench functions) r
        (halts files [] (picking (names_of analyses)) (composing functions ∷ []) tt r
        (lacks_at (names_of analyses) r
        (subst (λ (ns : List (List ℕ)). IsLackRefused ns r) same is)))

    module _ (config : Config) (configures : IsBenchConfig names config) where
      configured : IsBenchConfig (names_of analyses) config
      configured = subst (λ (ns : List (List ℕ)). IsBenchConfig ns config) same configures

      pub composing_stops : (r : Refusal) → IsTextRefused Lp64 (bench_text functions) r
          → IsDone files analyses (bench functions) (Err r)
      composing_stops r is =
          halted_done files analyses (bench functions) r
          (halts files (picking (names_of analyses) ∷ []) (composing functions) []
          ((config, configured), tt) r (composed_at functions r is))

      pub bench_ends : (P : Program) (c : Conclusion) → IsTheProgram Lp64 (bench_text functions) P
          → IsCounted functions analyses config P c
          → IsDone files analyses (bench functions) (Ok c)
      bench_ends P c is came = record {
        rule = inr (inr (record {
          passed = ((config, configured), ((P, is.is), tt));
          concludes = record {
            config = config;
            configures = configured;
            program = P;
            is = is;
            measured = came.measured;
            measures = came.measures;
            status = came.status;
            line_is = came.line;
          };
        }));
        reads = λ n. steady;
      }
