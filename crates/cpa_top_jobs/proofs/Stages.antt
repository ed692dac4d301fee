-- Stages behind one another: the first that is refused halts them all, and what is done then.
use Rattle.std.proofs.Common.{◌≡◌, ℕ, List, [], ◌∷◌, ◌++◌, refl, sym, ap, ◌∙◌, append_assoc}
use Rattle.std.proofs.Common.{subst, inl, inr, ⊎_elim}
use Rattle.std.specs.Prelude.{Option, Err}
use Rattle.std.specs.List.{AllByRecursion}
use Rattle.cpa_iface.specs.Meanings.{Meaning}
use Rattle.cpa_top_words.specs.Jobs.{Job}
use Rattle.cpa_top_jobs.specs.declared.refusal.Refusal.{Refusal}
use Rattle.cpa_top_jobs.specs.declared.refusal.Refusal.TheVariants as refusal
use Rattle.cpa_top_jobs.specs.declared.status.Status.{Status}
use Rattle.cpa_top_jobs.specs.Ends.{Passes, Stops}
use Rattle.cpa_top_jobs.specs.Files.{Files, NoReadFailed, files_of}
use Rattle.cpa_top_jobs.specs.Jobs.{Stage, stages_of}
use Rattle.cpa_top_jobs.specs.Refusals.{refusal_status, refusal_line, IsRefusedAt, IsHalted, IsDone}

-- counts and bytes that a read before has left as they were
pub moved : (told was : List ℕ → Option (List ℕ)) (counts before after : List ℕ → ℕ)
    (stages : List Stage) (r : Refusal) → told ≡ was → counts ≡ before
    → IsHalted (files_of told counts after) stages r
    → IsHalted (files_of was before after) stages r
moved told was counts before after stages r same steady is =
    subst (λ (x : List ℕ → Option (List ℕ)). IsHalted (files_of x before after) stages r) same
    (subst (λ (x : List ℕ → ℕ). IsHalted (files_of told x after) stages r) steady is)

pub moved_at : (told was : List ℕ → Option (List ℕ)) (counts before after : List ℕ → ℕ)
    (stage : Stage) (r : Refusal) → told ≡ was → counts ≡ before
    → IsRefusedAt (files_of told counts after) stage r
    → IsRefusedAt (files_of was before after) stage r
moved_at told was counts before after stage r same steady is =
    subst (λ (x : List ℕ → Option (List ℕ)). IsRefusedAt (files_of x before after) stage r) same
    (subst (λ (x : List ℕ → ℕ). IsRefusedAt (files_of told x after) stage r) steady is)

-- stages pass one after another
pub all_pass : (files : Files) (front back : List Stage) → AllByRecursion (Passes files) front
    → AllByRecursion (Passes files) back → AllByRecursion (Passes files) (front ++ back)
all_pass files [] back first second = second
all_pass files (s ∷ front) back first second = (first.0, all_pass files front back first.1 second)

-- a stage behind others that pass halts them
pub halts : (files : Files) (earlier : List Stage) (stage : Stage) (later : List Stage)
    → AllByRecursion (Passes files) earlier → (r : Refusal) → IsRefusedAt files stage r
    → IsHalted files (earlier ++ stage ∷ later) r
halts files earlier stage later passed r at = record {
  why =
      ⊎_elim (λ memory. inl memory)
      (λ refused. inr (record {
        earlier = earlier;
        stage = stage;
        later = later;
        order = refl;
        passed = passed;
        refused = refused;
      })) at.why;
  reads = at.reads;
}

stops_in_front : (files : Files) (front back : List Stage) (with : Status) (line : List ℕ)
    → Stops files front with line → Stops files (front ++ back) with line
stops_in_front files front back with line stop = record {
  earlier = stop.earlier;
  stage = stop.stage;
  later = stop.later ++ back;
  order =
      ap (λ (xs : List Stage). xs ++ back) stop.order
      ∙ append_assoc stop.earlier (stop.stage ∷ stop.later) back;
  passed = stop.passed;
  refused = stop.refused;
}

stops_behind : (files : Files) (front back : List Stage) (with : Status) (line : List ℕ)
    → AllByRecursion (Passes files) front → Stops files back with line
    → Stops files (front ++ back) with line
stops_behind files front back with line passed stop = record {
  earlier = front ++ stop.earlier;
  stage = stop.stage;
  later = stop.later;
  order =
      ap (λ (xs : List Stage). front ++ xs) stop.order
      ∙ sym (append_assoc front stop.earlier (stop.stage ∷ stop.later));
  passed = all_pass files front stop.earlier passed stop.passed;
  refused = stop.refused;
}

-- what halts the first stages halts all
pub halts_in_front : (files : Files) (front back : List Stage) (r : Refusal)
    → IsHalted files front r → IsHalted files (front ++ back) r
halts_in_front files front back r halted = record {
  why =
      ⊎_elim (λ memory. inl memory)
      (λ stop. inr (stops_in_front files front back (refusal_status r) (refusal_line r) stop))
      halted.why;
  reads = halted.reads;
}

-- what halts the last stages halts all, where the first pass
pub halts_behind : (files : Files) (front back : List Stage) (r : Refusal)
    → AllByRecursion (Passes files) front → IsHalted files back r
    → IsHalted files (front ++ back) r
halts_behind files front back r passed halted = record {
  why =
      ⊎_elim (λ memory. inl memory)
      (λ stop.
      inr (stops_behind files front back (refusal_status r) (refusal_line r) passed stop))
      halted.why;
  reads = halted.reads;
}

-- memory ran out
pub halts_by_memory : (files : Files) (stages : List Stage) (r : Refusal)
    → r ≡ refusal.OutOfMemory → NoReadFailed files → IsHalted files stages r
halts_by_memory files stages r is steady = record { why = inl is; reads = λ n. steady }

-- a job whose stages are halted is done
pub halted_done : (files : Files) (analyses : List Meaning) (job : Job) (r : Refusal)
    → IsHalted files (stages_of analyses job) r → IsDone files analyses job (Err r)
halted_done files analyses job r halted = record {
  rule =
      ⊎_elim
      (λ memory. inl (record {
        status = ap refusal_status memory;
        text_is = ap refusal_line memory;
      }))
      (λ stop. inr (inl stop)) halted.why;
  reads = halted.reads;
}
