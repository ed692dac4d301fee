-- What a call that is asked to recheck has written where it answers 0, 1 or 2: `texts_written`.
use Rattle.std.proofs.Common.{◌≡◌, ℕ, ◌≤◌, List, refl, sym, ap, ◌∙◌, subst, ⊎_elim, arith}
use Rattle.std.specs.Prelude.{Option}
use Rattle.cpa_iface.specs.declared.analysis.Settings.{Settings}
use Rattle.cpa_iface.specs.Meanings.{Meaning}
use Rattle.cpa_ints.specs.declared.data_model.DataModel.{DataModel}
use Rattle.cpa_model.specs.declared.program.Program.{Program}
use Rattle.cpa_model.specs.Programs.{IsWellFormed}
use Rattle.cpa_top_recheck.specs.declared.finding.Finding.{Finding}
use Rattle.cpa_top_recheck.specs.declared.finding.Finding.TheVariants as finding
use Rattle.cpa_top_recheck.specs.declared.finding.Rechecked.{Rechecked}
use Rattle.cpa_top_recheck.specs.Findings.{IsConfirmation, IsRefutation, IsUndecided}
use Rattle.cpa_top_recheck.specs.Rechecks.{IsRechecked}
use Rattle.cpa_top_words.specs.Jobs.{recheck, Asks}
use Rattle.cpa_top_jobs.specs.declared.status.Status.{Status}
use Rattle.cpa_top.specs.Answers.{AreRechecked, MayAnswer, IsConfirmedText, IsRefutedText}
use Rattle.cpa_top.specs.Answers.{IsUndecidedText, IsDelivered}
use Rattle.cpa_top_jobs.specs.Ends.{IsRecheckedBy, config_bytes}
use Rattle.cpa_top.specs.Calls.{Call, Output}
use Rattle.cpa_top_jobs.specs.Files.{HoldsOf}
use Rattle.cpa_top_jobs.specs.Statuses.{code_of, finding_status}
use Rattle.cpa_top.proofs.Headline.{AskForOneJob, concluded}

-- ---- the laws that are called

abbrev pub ConfirmedTells : Type 0
ConfirmedTells =
    (m : DataModel) (P : Program) (settings : Settings) (text : List ℕ) (told : Rechecked)
    → IsWellFormed P
    → IsRechecked m P settings text told → told.finding ≡ finding.Confirmed
    → IsConfirmation m P text told.text.items

abbrev pub RefusedTells : Type 0
RefusedTells =
    (m : DataModel) (P : Program) (settings : Settings) (text : List ℕ) (told : Rechecked)
    → IsRechecked m P settings text told → told.finding ≡ finding.Refused
    → IsRefutation m P text told.text.items

abbrev pub OpenTells : Type 0
OpenTells =
    (m : DataModel) (P : Program) (settings : Settings) (text : List ℕ) (told : Rechecked)
    → IsRechecked m P settings text told → told.finding ≡ finding.Open
    → IsUndecided m P settings text told.text.items

-- ---- what the number of a finding says

abbrev number_of : Finding → ℕ
number_of f = code_of (finding_status f)

is_confirmed : (f : Finding) → number_of f ≡ 0 → f ≡ finding.Confirmed
is_confirmed finding.Confirmed zero = refl
is_confirmed finding.Refused zero = absurd (omega (arith, zero))
is_confirmed finding.Open zero = absurd (omega (arith, zero))

is_refused : (f : Finding) → number_of f ≡ 1 → f ≡ finding.Refused
is_refused finding.Confirmed one = absurd (omega (arith, one))
is_refused finding.Refused one = refl
is_refused finding.Open one = absurd (omega (arith, one))

is_open : (f : Finding) → number_of f ≡ 2 → f ≡ finding.Open
is_open finding.Confirmed two = absurd (omega (arith, two))
is_open finding.Refused two = absurd (omega (arith, two))
is_open finding.Open two = refl

-- ---- what a rechecked text is

module _ (analyses : List Meaning) (with : Status) (text said bytes list : List ℕ) where
  pub confirmed_text : ConfirmedTells → code_of with ≡ 0
      → IsRecheckedBy analyses said bytes list with text
      → IsConfirmedText analyses said bytes list text
  confirmed_text tells zero r = record {
    config = r.config;
    configures = r.configures;
    program = r.program;
    is = r.is;
    shows =
        subst (IsConfirmation r.config.model r.program list) (sym r.text_is)
        (tells r.config.model r.program r.config.settings list r.told r.is.well_formed r.tells
        (is_confirmed r.told.finding (sym (ap code_of r.status) ∙ zero)));
  }

  pub refuted_text : RefusedTells → code_of with ≡ 1
      → IsRecheckedBy analyses said bytes list with text
      → IsRefutedText analyses said bytes list text
  refuted_text tells one r = record {
    config = r.config;
    configures = r.configures;
    program = r.program;
    is = r.is;
    shows =
        subst (IsRefutation r.config.model r.program list) (sym r.text_is)
        (tells r.config.model r.program r.config.settings list r.told r.tells
        (is_refused r.told.finding (sym (ap code_of r.status) ∙ one)));
  }

  pub undecided_text : OpenTells → code_of with ≡ 2
      → IsRecheckedBy analyses said bytes list with text
      → IsUndecidedText analyses said bytes list text
  undecided_text tells two r = record {
    config = r.config;
    configures = r.configures;
    program = r.program;
    is = r.is;
    shows =
        subst (IsUndecided r.config.model r.program r.config.settings list) (sym r.text_is)
        (tells r.config.model r.program r.config.settings list r.told r.tells
        (is_open r.told.finding (sym (ap code_of r.status) ∙ two)));
  }

-- ---- what was written

-- what holds of three texts gives what it implies
all_weaker : (first second third : Option (List ℕ)) (Has Is : List ℕ → List ℕ → List ℕ → Type 0)
    → ((s b l : List ℕ) → Has s b l → Is s b l)
    → HoldsOf first (λ s. HoldsOf second (λ b. HoldsOf third (Has s b)))
    → HoldsOf first (λ s. HoldsOf second (λ b. HoldsOf third (Is s b)))
all_weaker first second third Has Is from has = record {
  bytes = has.bytes;
  same = has.same;
  holds = record {
    bytes = has.holds.bytes;
    same = has.holds.same;
    holds = record {
      bytes = has.holds.holds.bytes;
      same = has.holds.holds.same;
      holds = from has.bytes has.holds.bytes has.holds.holds.bytes has.holds.holds.holds;
    };
  };
}

pub texts_written : AskForOneJob → (k : ℕ) → k ≤ 2 → (call : Call) (output : Output)
    (with : Status) (text : List ℕ) (code : ℕ) (name list : List ℕ) (file : Option (List ℕ))
    (Is : List Meaning → List ℕ → List ℕ → List ℕ → List ℕ → Type 0)
    → ((said bytes report : List ℕ) → code_of with ≡ k
    → IsRecheckedBy call.analyses said bytes report with text
    → Is call.analyses said bytes report text)
    → MayAnswer call with text → IsDelivered with text output code → code ≡ k
    → Asks call.words (recheck name list file) → AreRechecked call output name list file Is
texts_written one_job k few call output with text code name list file Is from may delivered is
    asked =
    ⊎_elim
    (λ whole.
    let number : code_of with ≡ k = sym whole.1 ∙ is in
    record {
      text = text;
      whole = whole.0;
      is =
          all_weaker (config_bytes call.files.bytes_of file) (call.files.bytes_of name)
          (call.files.bytes_of list)
          (λ said bytes report. IsRecheckedBy call.analyses said bytes report with text)
          (λ said bytes report. Is call.analyses said bytes report text)
          (λ said bytes report r. from said bytes report number r)
          (concluded one_job call with text (recheck name list file) (omega (arith, number, few))
          asked may);
    })
    (λ cut. absurd (let nine = cut.1 in omega (arith, nine, is, few)))
    delivered
