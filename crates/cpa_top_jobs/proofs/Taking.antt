-- A file that was read, and what refuses it.
use Rattle.std.proofs.Common.{◌≡◌, ℕ, ◌≤◌, ℤ, List, [], ◌∷◌, length, refl, sym, subst, inl}
use Rattle.std.proofs.Common.{inr}
use Rattle.std.specs.Prelude.{Option, IfSome, Result, Err, IfErr}
use Rattle.std.specs.List.{AllByRecursion}
use Rattle.std.specs.String.{string_bytes}
use Rattle.c_lexer.specs.declared.lexer.TheConstants.{MAX_TEXT}
use Rattle.c_program.specs.Programs.{IsTheProgram}
use Rattle.cpa_top_jobs.specs.Inputs.{IsInputs}
use Rattle.cpa_ints.specs.declared.data_model.DataModel.{DataModel}
use Rattle.cpa_model.specs.declared.program.Program.{Program}
use Rattle.cpa_top_jobs.specs.declared.refusal.Refusal.{Refusal}
use Rattle.cpa_top_jobs.specs.declared.refusal.Refusal.TheVariants as refusal
use Rattle.cpa_top_jobs.specs.declared.role.Role.{Role}
use Rattle.cpa_top_jobs.specs.declared.role.Role.TheVariants as role
use Rattle.cpa_top_jobs.specs.Ends.{Passes, HasProgram, HasInputs, IsFaultLine, IsModelOf, NoInputs}
use Rattle.cpa_top_jobs.specs.Files.{Files, NoReadFailed, HoldsOf}
use Rattle.cpa_top_jobs.specs.Jobs.{Stage, reading, parsing, listing, program_stages, inputs_stages}
use Rattle.cpa_top_jobs.specs.Jobs.{ModelSource, limit_of}
use Rattle.cpa_top_jobs.specs.Refusals.{IsRefusedAt, IsHalted, IsTaken, IsTextRefused}
use Rattle.cpa_top_jobs.specs.Refusals.{IsListRefused}
use Rattle.cpa_top_jobs.proofs.Stages.{halts}

-- what is said of an error holds of a result that is this error
pub exits : {T : Type 0} (result : Result T Refusal) (Is : Refusal → Type 0) (r : Refusal)
    → result ≡ Err r → Is r → IfErr result Is
exits result Is r same is = subst (λ x. IfErr x Is) (sym same) is

-- the bytes that were read are those that are told
pub as_told : (told : Option (List ℕ)) (bytes : List ℕ) (Has : List ℕ → Type 0) → Has bytes
    → IfSome told (λ t. bytes ≡ t) → HoldsOf told Has
as_told told bytes Has has same = record { bytes = bytes; same = same; holds = has }

-- what holds of them gives what it implies
pub told_weaker : (told : Option (List ℕ)) (Has Is : List ℕ → Type 0)
    → ((bytes : List ℕ) → Has bytes → Is bytes) → HoldsOf told Has → HoldsOf told Is
told_weaker told Has Is from has =
    record { bytes = has.bytes; same = has.same; holds = from has.bytes has.holds }

-- want of memory may come at any stage
pub out_of_memory : (files : Files) (stage : Stage) → NoReadFailed files
    → IsRefusedAt files stage refusal.OutOfMemory
out_of_memory files stage steady = record { why = inl refl; reads = λ n. steady }

-- few enough bytes were read
pub was_read : (files : Files) (which : Role) (name bytes : List ℕ)
    → length bytes ≤ limit_of which
    → IfSome (files.bytes_of name) (λ t. bytes ≡ t) → Passes files (reading which name)
was_read files which name bytes short same =
    as_told (files.bytes_of name) bytes (λ b. length b ≤ limit_of which) short same

-- the bytes of a program are refused
program_refused_at : (files : Files) (source : ModelSource) (m : DataModel) (name bytes : List ℕ)
    (r : Refusal) → IsModelOf files.bytes_of source m
    → IfSome (files.bytes_of name) (λ t. bytes ≡ t) → NoReadFailed files
    → IsTextRefused m bytes r → IsRefusedAt files (parsing source name) r
program_refused_at files source m name bytes (refusal.NoProgram line) of same steady is = record {
  why =
      inr (m, of, as_told (files.bytes_of name) bytes (IsFaultLine m (string_bytes line)) is same);
  reads = λ n. steady;
}
program_refused_at files source m name bytes refusal.OutOfMemory of same steady is =
    out_of_memory files (parsing source name) steady
program_refused_at files source m name bytes refusal.Usage of same steady is = absurd is
program_refused_at files source m name bytes refusal.LacksAnalysis of same steady is = absurd is
program_refused_at files source m name bytes (refusal.ReadFailed which) of same steady is =
    absurd is
program_refused_at files source m name bytes (refusal.TooLong which) of same steady is = absurd is
program_refused_at files source m name bytes (refusal.NoConfig line) of same steady is = absurd is
program_refused_at files source m name bytes refusal.NoInputs of same steady is = absurd is
program_refused_at files source m name bytes (refusal.NoReport rule) of same steady is = absurd is

pub program_refused : (files : Files) (source : ModelSource) (m : DataModel)
    (name bytes : List ℕ) (r : Refusal) → IsModelOf files.bytes_of source m
    → length bytes ≤ MAX_TEXT → IfSome (files.bytes_of name) (λ t. bytes ≡ t)
    → NoReadFailed files → IsTextRefused m bytes r → IsHalted files (program_stages source name) r
program_refused files source m name bytes r of short same steady is =
    halts files (reading role.Program name ∷ []) (parsing source name) []
    (was_read files role.Program name bytes short same, tt) r
    (program_refused_at files source m name bytes r of same steady is)

-- the bytes of a list of inputs are refused
inputs_refused_at : (files : Files) (name bytes : List ℕ) (r : Refusal)
    → IfSome (files.bytes_of name) (λ t. bytes ≡ t) → NoReadFailed files → IsListRefused bytes r
    → IsRefusedAt files (listing name) r
inputs_refused_at files name bytes refusal.NoInputs same steady is = record {
  why = inr (as_told (files.bytes_of name) bytes NoInputs is same, refl);
  reads = λ n. steady;
}
inputs_refused_at files name bytes refusal.OutOfMemory same steady is =
    out_of_memory files (listing name) steady
inputs_refused_at files name bytes refusal.Usage same steady is = absurd is
inputs_refused_at files name bytes refusal.LacksAnalysis same steady is = absurd is
inputs_refused_at files name bytes (refusal.ReadFailed which) same steady is = absurd is
inputs_refused_at files name bytes (refusal.TooLong which) same steady is = absurd is
inputs_refused_at files name bytes (refusal.NoProgram line) same steady is = absurd is
inputs_refused_at files name bytes (refusal.NoConfig line) same steady is = absurd is
inputs_refused_at files name bytes (refusal.NoReport rule) same steady is = absurd is

pub inputs_refused : (files : Files) (name bytes : List ℕ) (r : Refusal)
    → length bytes ≤ MAX_TEXT → IfSome (files.bytes_of name) (λ t. bytes ≡ t)
    → NoReadFailed files → IsListRefused bytes r → IsHalted files (inputs_stages name) r
inputs_refused files name bytes r short same steady is =
    halts files (reading role.Inputs name ∷ []) (listing name) []
    (was_read files role.Inputs name bytes short same, tt) r
    (inputs_refused_at files name bytes r same steady is)

-- the first stage of a file is refused
pub read_refused : (files : Files) (which : Role) (name : List ℕ) (later : List Stage)
    (r : Refusal) → IsRefusedAt files (reading which name) r
    → IsHalted files (reading which name ∷ later) r
read_refused files which name later r at = halts files [] (reading which name) later tt r at

-- the bytes were taken
pub taken : (told : Option (List ℕ)) (bytes : List ℕ) (Has : List ℕ → Type 0)
    → length bytes ≤ MAX_TEXT → IfSome told (λ t. bytes ≡ t) → Has bytes → IsTaken told Has
taken told bytes Has short same has =
    as_told told bytes (λ b. (length b ≤ MAX_TEXT) × Has b) (short, has) same

-- a file that was taken passes both of its stages
pub taken_read : (files : Files) (which : Role) (name : List ℕ) (Has : List ℕ → Type 0)
    → MAX_TEXT ≡ limit_of which → IsTaken (files.bytes_of name) Has
    → Passes files (reading which name)
taken_read files which name Has limit is =
    told_weaker (files.bytes_of name) (λ b. (length b ≤ MAX_TEXT) × Has b)
    (λ b. length b ≤ limit_of which) (λ b h. subst (λ (n : ℕ). length b ≤ n) limit h.0) is

pub program_passes : (files : Files) (source : ModelSource) (m : DataModel) (name : List ℕ)
    (P : Program) → IsModelOf files.bytes_of source m
    → IsTaken (files.bytes_of name) (λ b. IsTheProgram m b P)
    → AllByRecursion (Passes files) (program_stages source name)
program_passes files source m name P of is = (
  taken_read files role.Program name (λ b. IsTheProgram m b P) refl is,
  (
    (
      m,
      of,
      told_weaker (files.bytes_of name) (λ b. (length b ≤ MAX_TEXT) × IsTheProgram m b P)
          (HasProgram m) (λ b h. (P, h.1.is)) is,
    ),
    tt,
  ),
)

pub inputs_pass : (files : Files) (name : List ℕ) (numbers : List ℤ)
    → IsTaken (files.bytes_of name) (λ b. IsInputs b numbers)
    → AllByRecursion (Passes files) (inputs_stages name)
inputs_pass files name numbers is = (
  taken_read files role.Inputs name (λ b. IsInputs b numbers) refl is,
  (
    told_weaker (files.bytes_of name) (λ b. (length b ≤ MAX_TEXT) × IsInputs b numbers) HasInputs
        (λ b h. (numbers, h.1)) is,
    tt,
  ),
)
