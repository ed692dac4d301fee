-- What is found in a table of words is found in the table of their bytes.
use Rattle.std.proofs.Common.{◌≡◌, refl, ap, ℕ, List, [], ◌∷◌, Bool, true, false, cond, map, Bor}
use Rattle.std.proofs.Common.{Option, Some, option_map}
use Rattle.std.specs.Prelude.{find}
use Rattle.std.specs.Str.{bytes_eq}
use Rattle.cpa_config.specs.Values.{named}

chosen : {V W A : Type 0} (here : Bool) (row : V × A) (seen : W × A) → row.1 ≡ seen.1
    → (o : Option (V × A)) (p : Option (W × A))
    → option_map (λ r. r.1) o ≡ option_map (λ r. r.1) p
    → option_map (λ r. r.1) (cond here (Some row) o)
    ≡ option_map (λ r. r.1) (cond here (Some seen) p)
chosen true row seen same o p rest = ap Some same
chosen false row seen same o p rest = rest

pub named_bytes : {A : Type 0} (rows : List (Bor (List ℕ) × A)) (word : List ℕ)
    → option_map (λ row. row.1) (find (λ row. bytes_eq row.0.now word) rows)
    ≡ named (map (λ row. (row.0.now, row.1)) rows) word
named_bytes [] word = refl
named_bytes (row ∷ rows) word =
    chosen (bytes_eq row.0.now word) row (row.0.now, row.1) refl _ _ (named_bytes rows word)
