-- One place more of a key (`picked_more`).
use Rattle.std.proofs.Common.{◌≡◌, ℕ, ◌+◌, ◌<◌, List, ◌++◌, length, get_or, drop, append_assoc}
use Rattle.std.specs.Prelude.{slice_get}
use Rattle.std.proofs.lemmas.List.{drop_more}
use Rattle.cpa_model.specs.declared.facts.Elem.{Elem}
use Rattle.cpa_reached_key.specs.Rows.{listed, picked}

pub picked_more : (places : List ℕ) (i : ℕ) (row done more : List Elem)
    → i < length places → more ≡ done ++ listed (slice_get row (get_or places i 0))
    → more ++ picked (drop (i + 1) places) row ≡ done ++ picked (drop i places) row
picked_more places i row done more within is =
    rw (is, drop_more places i 0 within)
    (append_assoc done (listed (slice_get row (get_or places i 0)))
    (picked (drop (i + 1) places) row))
