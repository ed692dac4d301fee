-- From what comes of the entries of a report to what its job comes to.
use Rattle.std.proofs.Common.{◌≡◌, ℕ, ◌≤◌, List, [], ◌∷◌, ◌++◌, length, subst, inr, refl}
use Rattle.std.specs.Prelude.{Option, IfSome, Ok, Err}
use Rattle.std.specs.List.{AllByRecursion}
use Rattle.c_program.specs.Programs.{IsTheProgram}
use Rattle.cpa_config.specs.declared.config.Config.{Config}
use Rattle.cpa_config.specs.Configurations.{Configures}
use Rattle.cpa_iface.specs.Meanings.{Meaning}
use Rattle.cpa_model.specs.declared.program.Program.{Program}
use Rattle.cpa_top_recheck.specs.Lines.{report_line}
use Rattle.cpa_top_words.specs.Jobs.{recheck}
use Rattle.cpa_top_jobs.specs.declared.conclusion.Conclusion.{Conclusion}
use Rattle.cpa_top_jobs.specs.declared.refusal.Refusal.{Refusal}
use Rattle.cpa_top_jobs.specs.declared.refusal.Refusal.TheVariants as refusal
use Rattle.cpa_top_jobs.specs.declared.role.Role.TheVariants as role
use Rattle.cpa_top_jobs.specs.Ends.{HasReportOf, IsModelOf, IsRecheckedBy, IsReportLine, Passes}
use Rattle.cpa_top_jobs.specs.Ends.{config_bytes}
use Rattle.cpa_top_jobs.specs.Files.{Files, NoReadFailed, HoldsOf}
use Rattle.cpa_top_jobs.specs.Jobs.{Stage, reading, matching, names_of, limit_of, config_stages}
use Rattle.cpa_top_jobs.specs.Jobs.{ModelSource, of_config, program_stages, report_stages}
use Rattle.cpa_top_jobs.specs.Refusals.{IsChecked, IsDone, IsHalted, IsRefusedAt, IsReportRefused}
use Rattle.cpa_top_jobs.specs.Refusals.{IsTaken}
use Rattle.cpa_top_jobs.proofs.Configurations.{config_passes}
use Rattle.cpa_top_jobs.proofs.Ends.{configured, model_is}
use Rattle.cpa_top_jobs.proofs.Stages.{all_pass, halts, halts_in_front, halts_behind, halted_done}
use Rattle.cpa_top_jobs.proofs.Taking.{out_of_memory, program_passes, was_read}

-- what holds of the bytes of a program and of those of its report
both_told : (files : Files) (name report bytes text : List ℕ) (Has : List ℕ → List ℕ → Type 0)
    → IfSome (files.bytes_of name) (λ t. bytes ≡ t)
    → IfSome (files.bytes_of report) (λ t. text ≡ t) → Has bytes text
    → HoldsOf (files.bytes_of name) (λ b. HoldsOf (files.bytes_of report) (Has b))
both_told files name report bytes text Has first second has = record {
  bytes = bytes;
  same = first;
  holds = record { bytes = text; same = second; holds = has };
}

module _ (files : Files) (analyses : List Meaning) (name report : List ℕ)
    (file : Option (List ℕ)) (names : List (List ℕ)) (same : names ≡ names_of analyses) where
  abbrev source : ModelSource
  source = of_config (names_of analyses) file

  abbrev front : List Stage
  front = config_stages (names_of analyses) file ++ program_stages source name

  pub config_stops : (r : Refusal) → IsHalted files (config_stages names file) r
      → IsDone files analyses (recheck name report file) (Err r)
  config_stops r halted =
      halted_done files analyses (recheck name report file) r
      (halts_in_front files front (report_stages source name report) r
      (halts_in_front files (config_stages (names_of analyses) file) (program_stages source name) r
      (subst (λ (ns : List (List ℕ)). IsHalted files (config_stages ns file) r) same halted)))

  module _ (config : Config)
      (configures : IsTaken (config_bytes files.bytes_of file)
      (λ b. Configures b names config)) where
    pub taken : IsTaken (config_bytes files.bytes_of file)
        (λ b. Configures b (names_of analyses) config)
    taken = configured files analyses file names config same configures

    pub program_stops : (r : Refusal) → IsHalted files (program_stages source name) r
        → IsDone files analyses (recheck name report file) (Err r)
    program_stops r halted =
        halted_done files analyses (recheck name report file) r
        (halts_in_front files front (report_stages source name report) r
        (halts_behind files (config_stages (names_of analyses) file) (program_stages source name) r
        (config_passes files (names_of analyses) file config taken) halted))

    of : IsModelOf files.bytes_of source config.model
    of = model_is files analyses file config taken

    module _ (P : Program)
        (is : IsTaken (files.bytes_of name) (λ b. IsTheProgram config.model b P)) where
      front_passes : AllByRecursion (Passes files) front
      front_passes =
          all_pass files (config_stages (names_of analyses) file) (program_stages source name)
          (config_passes files (names_of analyses) file config taken)
          (program_passes files source config.model name P of is)

      -- the report is not read
      pub read_stops : (r : Refusal) → IsRefusedAt files (reading role.Report report) r
          → IsDone files analyses (recheck name report file) (Err r)
      read_stops r at =
          halted_done files analyses (recheck name report file) r
          (halts_behind files front (report_stages source name report) r front_passes
          (halts files [] (reading role.Report report) (matching source name report ∷ []) tt r at))

      module _ (text : List ℕ) (short : length text ≤ limit_of role.Report)
          (told : IfSome (files.bytes_of report) (λ t. text ≡ t)) (steady : NoReadFailed files)
        where
          -- its text is refused
          matched_at : (r : Refusal) → IsReportRefused config.model P text r
              → IsRefusedAt files (matching source name report) r
          matched_at (refusal.NoReport rule) breaks = record {
            why =
                inr (
                  config.model,
                  of,
                  both_told files name report is.bytes text
                      (IsReportLine config.model (report_line rule)) is.same told
                      (P, is.holds.1, rule, breaks, refl),
                );
            reads = λ n. steady;
          }
          matched_at refusal.OutOfMemory breaks =
              out_of_memory files (matching source name report) steady
          matched_at refusal.Usage breaks = absurd breaks
          matched_at (refusal.ReadFailed which) breaks = absurd breaks
          matched_at (refusal.TooLong which) breaks = absurd breaks
          matched_at (refusal.NoProgram line) breaks = absurd breaks
          matched_at (refusal.NoConfig line) breaks = absurd breaks
          matched_at refusal.LacksAnalysis breaks = absurd breaks
          matched_at refusal.NoInputs breaks = absurd breaks

          pub text_stops : (r : Refusal) → IsReportRefused config.model P text r
              → IsDone files analyses (recheck name report file) (Err r)
          text_stops r refused =
              halted_done files analyses (recheck name report file) r
              (halts_behind files front (report_stages source name report) r front_passes
              (halts files (reading role.Report report ∷ []) (matching source name report) []
              (was_read files role.Report report text short told, tt) r (matched_at r refused)))

          -- its entries were checked
          checked_as : (c : Conclusion) → IsChecked config P text c
              → HoldsOf (config_bytes files.bytes_of file) (λ said.
              HoldsOf (files.bytes_of name) (λ bytes. HoldsOf (files.bytes_of report) (λ list.
              IsRecheckedBy analyses said bytes list c.status c.text.items)))
          checked_as c came = record {
            bytes = taken.bytes;
            same = taken.same;
            holds =
                both_told files name report is.bytes text
                (λ bytes list.
                IsRecheckedBy analyses taken.bytes bytes list c.status c.text.items)
                is.same told
                (record {
                  config = config;
                  configures = taken.holds.1;
                  program = P;
                  is = is.holds.1;
                  told = came.told;
                  tells = came.tells;
                  status = came.status;
                  text_is = came.text_is;
                });
          }

          pub recheck_ends : (c : Conclusion) → IsChecked config P text c
              → IsDone files analyses (recheck name report file) (Ok c)
          recheck_ends c came = record {
            rule = inr (inr (record {
              passed =
                  all_pass files front (report_stages source name report) front_passes (
                    was_read files role.Report report text short told,
                    (
                      (
                        config.model,
                        of,
                        both_told files name report is.bytes text (HasReportOf config.model) is.same
                            told (
                              P,
                              is.holds.1,
                              record {
                                automaton = came.tells.automaton;
                                is = came.tells.is;
                                report = came.tells.report;
                                found = came.tells.found;
                              },
                            ),
                      ),
                      tt,
                    ),
                  );
              concludes = checked_as c came;
            }));
            reads = λ n. steady;
          }
