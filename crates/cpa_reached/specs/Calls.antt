-- What each call makes of a reached set, as a function of what was there before (CAV 2007, section
-- 2; numbers, uses and the journal are this project's own).
use Rattle.std.specs.Prelude.{ℕ, ◌+◌, ◌==◌, true, false, not, List, [], ◌∷◌, ◌++◌, map}
use Rattle.std.specs.Prelude.{Option, Some, None, if◌then◌else◌}
use Rattle.std.specs.List.{filter}
use Rattle.cpa_model.specs.declared.facts.Elem.{Elem}
use Rattle.cpa_iface.specs.declared.precisions.Precision.{Precision}
use Rattle.cpa_iface.specs.declared.entries.Entry.{Entry}
use Rattle.cpa_iface.specs.declared.entries.Turn.{Turn}
use Rattle.cpa_reached.specs.Entries.{ReachedSet}

-- the entry of this number becomes what f makes of it
abbrev pub at_number : ℕ → (Entry → Entry) → List Entry → List Entry
at_number n f xs = map (λ e. if e.number == n then f e else e) xs

-- it no longer waits
abbrev pub rests : Entry → Entry
rests e = record e { waiting = false }

-- it names one more entry that covers successors of its own
abbrev pub gains : ℕ → Entry → Entry
gains n e = record e { uses = e.uses ++ n ∷ [] }

abbrev pub with_precisions : List Precision → Entry → Entry
with_precisions ps e = record e { precisions = ps }

-- an entry that has just come
abbrev pub fresh : ℕ → List Elem → List Precision → Option (ℕ × ℕ) → Entry
fresh n es ps parent =
    record { number = n; elems = es; precisions = ps; parent = parent; uses = []; waiting = true }

-- one name for another
abbrev pub rename : ℕ → ℕ → ℕ → ℕ
rename old next n = if n == old then next else n

abbrev pub rename_parent : ℕ → ℕ → Option (ℕ × ℕ) → Option (ℕ × ℕ)
rename_parent old next None = None
rename_parent old next (Some (p, edge)) = Some (rename old next p, edge)

-- the entry names the next one where it named the old one
abbrev pub renamed : ℕ → ℕ → Entry → Entry
renamed old next e =
    record e { parent = rename_parent old next e.parent; uses = map (rename old next) e.uses }

-- what takes the place of an entry: it has its parent and its precisions, uses nothing, and waits
abbrev pub replacing : ℕ → List Elem → Entry → Entry
replacing next es old = fresh next es old.precisions old.parent

-- the entries of other numbers, and that of this one
abbrev pub others : ℕ → List Entry → List Entry
others n xs = filter (λ e. not (e.number == n)) xs

abbrev pub those : ℕ → List Entry → List Entry
those n xs = filter (λ e. e.number == n) xs

-- `new`
abbrev pub begun : List Elem → List Precision → ReachedSet
begun es ps = record { live = fresh 0 es ps None ∷ []; journal = []; next = 1; places = [] }

-- `take_next`
abbrev pub taken : ℕ → ReachedSet → ReachedSet
taken n r = record r { live = at_number n rests r.live }

abbrev pub added_entries : ℕ → List Entry → List Elem → List Precision → ℕ × ℕ → List Entry
added_entries next xs es ps parent =
    at_number parent.0 (gains next) xs ++ fresh next es ps (Some parent) ∷ []

abbrev pub replaced_entries : ℕ → List Entry → ℕ → List Elem → List Entry
replaced_entries next xs old es =
    map (renamed old next) (others old xs) ++ map (replacing next es) (those old xs)

-- `add`
abbrev pub added : ReachedSet → List Elem → List Precision → ℕ × ℕ → ReachedSet
added r es ps parent = record r {
  live = added_entries r.next r.live es ps parent;
  next = r.next + 1;
}

-- `replace`
abbrev pub replaced : ReachedSet → ℕ → List Elem → ReachedSet
replaced r old es = record r {
  live = replaced_entries r.next r.live old es;
  next = r.next + 1;
}

-- `note_use`
abbrev pub used : ReachedSet → ℕ → ℕ → ReachedSet
used r n by = record r { live = at_number n (gains by) r.live }

-- `set_precisions`
abbrev pub refined : ReachedSet → ℕ → List Precision → ReachedSet
refined r n ps = record r { live = at_number n (with_precisions ps) r.live }

-- `index_by`
abbrev pub indexed : ReachedSet → List ℕ → ReachedSet
indexed r places = record r { places = places }

-- `close_turn`
abbrev pub closed : ReachedSet → Turn → ReachedSet
closed r turn = record r { journal = r.journal ++ turn ∷ [] }

-- `start_round`
abbrev pub restarted : ReachedSet → ReachedSet
restarted r = record r { journal = [] }
