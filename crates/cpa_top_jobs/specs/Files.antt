-- What the inputs tell of files (this project's own).
use Rattle.std.specs.Prelude.{◌≡◌, ℕ, List, Option, IfSome}

-- What the inputs tell of files by their names, and how many reads of each have failed before the
-- call and after it.
pub record Files : Type 0 where
  pub bytes_of : List ℕ → Option (List ℕ)
  pub before : List ℕ → ℕ
  pub after : List ℕ → ℕ

abbrev pub files_of : (List ℕ → Option (List ℕ)) → (List ℕ → ℕ) → (List ℕ → ℕ) → Files
files_of bytes_of before after =
    record { bytes_of = bytes_of; before = before; after = after }

-- no read has failed
abbrev pub NoReadFailed : Files → Type 0
NoReadFailed files = files.after ≡ files.before

-- It holds of some bytes: of those that are told, where they are told.
pub record HoldsOf (told : Option (List ℕ)) (Has : List ℕ → Type 0) : Type 0 where
  pub bytes : List ℕ
  pub same : IfSome told (λ t. bytes ≡ t)
  pub holds : Has bytes
