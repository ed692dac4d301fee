-- What a round that begins leaves of a reached set (this project's own): what lies below a pivot is
-- gone, and what waits again has the newest precisions.
use Rattle.std.specs.Prelude.{◌≡◌, ℕ, true, List, [], map, if◌then◌else◌}
use Rattle.cpa_iface.specs.declared.entries.Entry.{Entry}
use Rattle.cpa_iface.specs.declared.precisions.Precision.{Precision}
use Rattle.cpa_reached.specs.Calls.{with_precisions}
use Rattle.cpa_reached.specs.Entries.{ReachedSet}
use Rattle.cpa_reached.specs.Members.{is_in}
use Rattle.cpa_reached.specs.Removal.{IsBelow, is_opened, opened, without}

-- the pivot, and an entry that used what is gone, waits, uses nothing and has the newest
-- precisions; any other one is as it was
abbrev pub renewed : List ℕ → ℕ → List Precision → Entry → Entry
renewed gone pivot newest e =
    if is_opened gone pivot e then with_precisions newest (opened e) else e

-- A round begins below the pivot: exactly its strict descendants are gone, and the journal is
-- empty. Numbers and places are as before.
pub record BeginsBelow (pivot : ℕ) (newest : List Precision) (old new : ReachedSet) : Type 0 where
  pub gone : List ℕ
  pub all : (n : ℕ) → IsBelow old.live pivot n → is_in n gone ≡ true
  pub only : (n : ℕ) → is_in n gone ≡ true → IsBelow old.live pivot n
  pub live : new.live ≡ map (renewed gone pivot newest) (without gone old.live)
  pub journal : new.journal ≡ []
  pub next : new.next ≡ old.next
  pub places : new.places ≡ old.places
