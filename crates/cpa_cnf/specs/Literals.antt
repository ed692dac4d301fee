-- Literals as numbers, as in MiniSat (Eén and Sörensson 2003): twice the variable, and one more
-- where it is negated.
use Rattle.std.specs.Prelude.{ℕ, ◌+◌, ◌-◌, ◌*◌, ◌%◌, Bool, true, false}

abbrev pub literal_number : ℕ → Bool → ℕ
literal_number var false = 2 * var
literal_number var true = 2 * var + 1

-- the literal of the same variable with the other sign
abbrev pub opposite : ℕ → ℕ
opposite l = (l + 1) - 2 * (l % 2)
