-- What a read of an opened file gives (this project's own).
use Rattle.std.specs.Prelude.{◌≡◌, ◌⊎◌, ℕ, ◌<◌, Bool, true, false, List, length, Option, Some, None}
use Rattle.std.specs.Prelude.{Result, Ok, Err, IfSome, Vec}
use Rattle.std.specs.IoError.{error_kind}
use Rattle.std.specs.declared.io.Error.{Error}
use Rattle.std.specs.declared.io.ErrorKind.{ErrorKind}
use Rattle.std.specs.declared.io.ErrorKind.TheVariants as kind
use Rattle.std.specs.declared.alloc.Global.{Global}
use Rattle.cpa_outside.specs.declared.reads.ReadFault.{ReadFault}
use Rattle.cpa_outside.specs.declared.reads.ReadFault.TheVariants.{Failed, TooLong, OutOfMemory}

-- an opened file had just these bytes, where its bytes are told
pub record IsWhole {F : Type 0} (Opened : F → Type 0) (remaining : F → Option (List ℕ))
    (bytes : List ℕ) : Type 0 where
  pub file : F
  pub opened : Opened file
  pub whole : IfSome (remaining file) (λ told. bytes ≡ told)

-- an opened file had more bytes than the limit, where they are told
pub record IsLonger {F : Type 0} (Opened : F → Type 0) (remaining : F → Option (List ℕ))
    (limit : ℕ) : Type 0 where
  pub file : F
  pub opened : Opened file
  pub longer : IfSome (remaining file) (λ told. limit < length told)

-- the answer is a failed read
abbrev pub is_failed : {T : Type 0} → Result T ReadFault → Bool
is_failed (Err Failed) = true
is_failed _ = false

-- which fault an error of this kind is
abbrev pub fault_of : ErrorKind → ReadFault
fault_of kind.OutOfMemory = OutOfMemory
fault_of _ = Failed

-- opening failed with this error, or a file was opened and failed while it was read
abbrev pub IsError : {F : Type 0} → (F → Type 0) → (Error → Type 0) → Error → Type 0
IsError {F} Opened Fails error = Fails error ⊎ ((file : F) × Opened file)

-- an error came that is this fault
abbrev pub IsFault : {F : Type 0} → (F → Type 0) → (Error → Type 0) → ReadFault → Type 0
IsFault Opened Fails fault =
    (error : Error) × IsError Opened Fails error × (fault ≡ fault_of (error_kind error))

-- what a read answers that came to bytes, to none within the limit, or to an error
abbrev pub answer_of : Result (Option (Vec ℕ Global)) Error → Result (Vec ℕ Global) ReadFault
answer_of (Ok (Some bytes)) = Ok bytes
answer_of (Ok None) = Err TooLong
answer_of (Err error) = Err (fault_of (error_kind error))
