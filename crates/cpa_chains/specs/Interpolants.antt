-- Interpolants (Craig 1957) of two sets of clauses that no values satisfy together.
use Rattle.std.specs.Prelude.{◌≡◌, ℕ, ◌<◌, ◌+◌, Bool, true, false, List, slice_get, Some}
use Rattle.std.specs.Prelude.{slice_index_or}
use Rattle.std.specs.List.{AllByRecursion}
use Rattle.cpa_cnf.specs.declared.formula.Cnf.{Cnf}
use Rattle.cpa_cnf.specs.Models.{Satisfies}
use Rattle.cpa_chains.specs.declared.partial.Partial.{Partial}
use Rattle.cpa_chains.specs.Sides.{clauses_on, is_shared}
use Rattle.cpa_chains.specs.Partials.{leaves_of, last_value}

-- these values make each clause of the side true
abbrev pub SatisfiesSide : Bool → Cnf → List Bool → List Bool → Type 0
SatisfiesSide side cnf sides values =
    AllByRecursion (Satisfies values) (clauses_on side sides cnf.clauses)

-- the same value for each shared variable
abbrev pub AgreeOnShared : Cnf → List Bool → List Bool → List Bool → Type 0
AgreeOnShared cnf sides values others = (x : ℕ) → is_shared cnf sides x ≡ true
    → slice_index_or values x false ≡ slice_index_or others x false

-- The last partial is true where all clauses of A are, false where all clauses of B are, and
-- depends on the shared variables alone.
pub record IsInterpolant (cnf : Cnf) (sides : List Bool) (partials : List Partial) : Type 0 where
  pub follows : (values : List Bool) → SatisfiesSide true cnf sides values
      → last_value values (leaves_of cnf sides) partials ≡ true
  pub refutes : (values : List Bool) → SatisfiesSide false cnf sides values
      → last_value values (leaves_of cnf sides) partials ≡ false
  pub shared : (values others : List Bool) → AgreeOnShared cnf sides values others
      → last_value values (leaves_of cnf sides) partials
      ≡ last_value others (leaves_of cnf sides) partials

-- Each partial names clauses, of which there are so many, or earlier partials.
abbrev pub NameEarlier : ℕ → List Partial → Type 0
NameEarlier clauses partials = (i : ℕ) (p : Partial) → slice_get partials i ≡ Some p
    → (p.first < clauses + i) × AllByRecursion (λ joint. joint.clause < clauses + i) p.joints
