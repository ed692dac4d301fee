-- What an input over an opener holds (this project's own).
use Rattle.std.specs.Prelude.{ℕ, List, Option, None}
use Rattle.cpa_outside.specs.declared.files.FileInputs.{FileInputs}

-- the opener
abbrev pub opener_of : {O : Type 0} → FileInputs O → O
opener_of inputs = inputs.opener

-- how many reads have failed
abbrev pub failed_reads : {O : Type 0} → FileInputs O → ℕ
failed_reads inputs = inputs.faults

-- the same by any name
abbrev pub faults_by_name : {O : Type 0} → FileInputs O → List ℕ → ℕ
faults_by_name inputs name = failed_reads inputs

-- of no file are the bytes told
abbrev pub told_bytes : {O : Type 0} → FileInputs O → List ℕ → Option (List ℕ)
told_bytes inputs name = None
