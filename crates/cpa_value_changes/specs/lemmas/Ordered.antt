-- What facts in the order of the cells say of a cell.
use Rattle.std.proofs.Common.{◌≡◌, ℕ, ◌+◌, ◌<◌, ◌≤◌, ℤ, true, List, [], ◌∷◌, refl, ap, ◌∙◌, arith}
use Rattle.std.proofs.Common.{cond}
use Rattle.std.specs.Prelude.{None, Some, ◌&&◌, nat_le, nat_lt}
use Rattle.std.proofs.lemmas.Bool.{and_parts, and_from, leb-true, le-leb, ltb-true, lt-ltb}
use Rattle.std.proofs.lemmas.Bool.{ne_eqb, false≢true}
use Rattle.cpa_facts.specs.declared.fact.Fact.{Fact}
use Rattle.cpa_facts.specs.declared.fact.Fact.TheVariants.{At, Stack, Equals, Within, Truth}
use Rattle.cpa_value_changes.specs.Cells.{first_value}
use Rattle.cpa_value_changes.specs.Tables.{are_ordered}

-- what the order says of the first fact
pub record Begins (n low cell : ℕ) (facts : List Fact) : Type 0 where
  pub above : low ≤ cell
  pub below : cell < n
  pub rest : are_ordered n (cell + 1) facts ≡ true

pub begins : (n low cell : ℕ) (v : ℤ) (fs : List Fact)
    → are_ordered n low (Equals cell v ∷ fs) ≡ true → Begins n low cell fs
begins n low cell v fs is =
    let parts = and_parts (nat_le low cell && nat_lt cell n) (are_ordered n (cell + 1) fs) is in
    let tests = and_parts (nat_le low cell) (nat_lt cell n) parts.0 in
    record {
      above = leb-true low cell tests.0;
      below = ltb-true cell n tests.1;
      rest = parts.1;
    }

pub ordered_on : (n low cell : ℕ) (v : ℤ) (fs : List Fact) → low ≤ cell → cell < n
    → are_ordered n (cell + 1) fs ≡ true → are_ordered n low (Equals cell v ∷ fs) ≡ true
ordered_on n low cell v fs above below rest =
    and_from (nat_le low cell && nat_lt cell n) (are_ordered n (cell + 1) fs)
    (and_from (nat_le low cell) (nat_lt cell n) (le-leb low cell above) (lt-ltb cell n below)) rest

-- nothing is said of a cell below the first one
pub none_below : (n low cell : ℕ) (fs : List Fact) → are_ordered n low fs ≡ true → cell < low
    → first_value fs cell ≡ None
none_below n low cell [] is less = refl
none_below n low cell (Equals own v ∷ fs) is less =
    let b = begins n low own v fs is in
    let above = b.above in
    ap (λ t. cond t (Some v) (first_value fs cell))
    (ne_eqb own cell (λ same. let eq : own ≡ cell = same in omega (arith, above, less, eq)))
    ∙ none_below n (own + 1) cell fs b.rest (omega (arith, above, less))
none_below n low cell (At p ∷ fs) is less = absurd (false≢true is)
none_below n low cell (Stack s ∷ fs) is less = absurd (false≢true is)
none_below n low cell (Within c lo hi ∷ fs) is less = absurd (false≢true is)
none_below n low cell (Truth e h ∷ fs) is less = absurd (false≢true is)
