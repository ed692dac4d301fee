-- What a sink holds after one more write.
use lib.Seq.{take-add}
use Rattle.std.proofs.Common.{◌≡◌, ℕ, ◌+◌, ◌≤◌, List, ◌++◌, length, take, drop, Option, Some, None}
use Rattle.std.proofs.Common.{refl, ap, append_assoc, ◌-◌, arith}
use Rattle.std.proofs.lemmas.Grind.{common_steps}
use Rattle.cpa_outside.specs.Outside.{grown}

-- the first `done` of the bytes were written, and no fault came
pub record HasWritten (before : Option (List ℕ)) (faults : ℕ) (bytes : List ℕ) (done : ℕ)
    (now : Option (List ℕ)) (faults_now : ℕ) : Type 0 where
  pub within : done ≤ length bytes
  pub grew : now ≡ grown before (take done bytes)
  pub kept : faults_now ≡ faults

pub grown-grown : (had : Option (List ℕ)) (a b : List ℕ) →
    grown (grown had a) b ≡ grown had (a ++ b)
grown-grown None a b = refl
grown-grown (Some had) a b = ap (λ (xs : List ℕ). Some xs) (append_assoc had a b)

-- the next write, of what is left, takes the bytes further
pub grown-next : (had now next : Option (List ℕ)) (bytes : List ℕ) (done count : ℕ) →
    now ≡ grown had (take done bytes) →
    next ≡ grown now (take count (take (length bytes - done) (drop done bytes))) →
    next ≡ grown had (take (done + count) bytes)
grown-next had now next bytes done count so_far step =
    let left : take (length bytes - done) (drop done bytes) ≡ drop done bytes = grind (
      arith,
      common_steps,
    ) in
    let joined = grown-grown had (take done bytes) (take count (drop done bytes)) in
    let split = take-add done count bytes in
    rw (step, left, so_far, joined, split)
