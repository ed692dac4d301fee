-- An entry of a number is there where a test of the entries says so (`found`).
use Rattle.std.proofs.Common.{◌≡◌, ℕ, ◌==◌, eqb, true, List, [], ◌∷◌, refl, inl, inr, ⊎_elim}
use Rattle.std.specs.List.{list_any}
use Rattle.std.proofs.lemmas.Bool.{eqb-true, or_cases}
use Rattle.cpa_iface.specs.declared.entries.Entry.{Entry}
use Rattle.cpa_reached.specs.Entries.{IsLive}

pub found : (xs : List Entry) (n : ℕ) → list_any (λ e. e.number == n) xs ≡ true → IsLive xs n
found [] n there = absurd (cc)
found (x ∷ xs) n there =
    ⊎_elim (λ same. record { entry = x; is_in = inl refl; is = eqb-true x.number n same })
    (λ later. let l = found xs n later in
    record { entry = l.entry; is_in = inr l.is_in; is = l.is })
    (or_cases (eqb x.number n) (list_any (λ e. e.number == n) xs) there)
