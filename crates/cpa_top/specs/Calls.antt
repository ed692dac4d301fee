-- What a call of the program is given and what it leaves (this project's own).
use Rattle.std.specs.Prelude.{◌≡◌, ℕ, List, Option, map}
use Rattle.cpa_iface.specs.Meanings.{Meaning}
use Rattle.cpa_top_jobs.specs.Files.{Files, files_of}
use Rattle.cpa_outside.specs.Outside.{Rose, grown, GrewByPrefix}

-- What was written, where it is told, and how many writes have failed, before the call and after
-- it.
pub record Output : Type 0 where
  pub written_before : Option (List ℕ)
  pub written_after : Option (List ℕ)
  pub faults_before : ℕ
  pub faults_after : ℕ

-- The words behind the program's own name, what the handed analyses mean, and the files.
pub record Call : Type 0 where
  pub words : List (List ℕ)
  pub analyses : List Meaning
  pub files : Files

-- the call with these words, analyses and inputs, before it and after it; what an analysis means
-- and what inputs tell is that of their types
abbrev pub call_with : {A I : Type 0} → (A → Meaning) → (I → List ℕ → Option (List ℕ))
    → (I → List ℕ → ℕ) → List (List ℕ) → List A → I → I → Call
call_with meaning bytes_of faults_of words analyses before after = record {
  words = words;
  analyses = map meaning analyses;
  files = files_of (bytes_of before) (faults_of before) (faults_of after);
}

-- the output of a sink, before the call and after it
abbrev pub output_by : {K : Type 0} → (K → Option (List ℕ)) → (K → ℕ) → K → K → Output
output_by written faults before after = record {
  written_before = written before;
  written_after = written after;
  faults_before = faults before;
  faults_after = faults after;
}

-- the text was written whole, and no write has failed
pub record IsWhole (output : Output) (text : List ℕ) : Type 0 where
  pub written : output.written_after ≡ grown output.written_before text
  pub faults : output.faults_after ≡ output.faults_before

-- a write has failed, behind a prefix of the text
pub record IsCutOff (output : Output) (text : List ℕ) : Type 0 where
  pub written : GrewByPrefix output.written_before text output.written_after
  pub faults : Rose output.faults_before output.faults_after
