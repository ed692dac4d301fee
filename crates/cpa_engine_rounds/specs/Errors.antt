-- Which entries may be errors: those that the analyses do not place elsewhere (CAV 2007, section 2:
-- the reached set against the error location).
use Rattle.std.specs.Prelude.{◌≡◌, ℕ, ◌<◌, Bool, false, not, List, Option}
use Rattle.std.specs.List.{list_any, find}
use Rattle.std.specs.Option.{option_map}
use Rattle.cpa_model.specs.declared.automaton.Cfa.{Cfa}
use Rattle.cpa_facts.specs.declared.fact.Fact.{Fact}
use Rattle.cpa_facts.specs.declared.fact.Fact.TheVariants.{At}
use Rattle.cpa_model.specs.declared.facts.Elem.{Elem}
use Rattle.cpa_iface.specs.declared.entries.Entry.{Entry}
use Rattle.cpa_reached.specs.Members.{IsIn, is_in}

-- the fact is on a point at which no call of reach_error stands
abbrev pub stands_off : Cfa → Fact → Bool
stands_off cfa (At point) = not (is_in point cfa.errors)
stands_off cfa _ = false

-- no fact of the row is
abbrev pub may_err : Cfa → List Elem → Bool
may_err cfa es = not (list_any (λ e. list_any (stands_off cfa) e.facts) es)

-- no entry may be an error
abbrev pub NoneErr : Cfa → List Entry → Type 0
NoneErr cfa xs = (e : Entry) → IsIn e xs → may_err cfa e.elems ≡ false

-- none of a number below this one may
abbrev pub NoneErrBelow : Cfa → ℕ → List Entry → Type 0
NoneErrBelow cfa n xs =
    (e : Entry) → IsIn e xs → e.number < n → may_err cfa e.elems ≡ false

-- the number of the first entry that may be an error
abbrev pub first_error : Cfa → List Entry → Option ℕ
first_error cfa xs = option_map (λ e. e.number) (find (λ e. may_err cfa e.elems) xs)
