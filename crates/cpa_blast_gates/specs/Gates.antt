-- What a gate says of an assignment (Tseitin 1968): its variable has the value of its operator.
use Rattle.std.specs.Prelude.{ℕ, ◌*◌, ◌/◌, ◌%◌, ◌<◌, ◌==◌, ◌&&◌, ◌||◌, Bool, true, false, not, ⊤}
use Rattle.std.specs.Prelude.{if◌then◌else◌}
use Rattle.cpa_blast_gates.specs.declared.gate.Gate.{Gate}
use Rattle.cpa_blast_gates.specs.declared.gate.Gate.TheVariants as of

-- the value of a literal, where m gives that of each variable
unfoldable pub lit_value : (ℕ → Bool) → ℕ → Bool
lit_value m l = if l % 2 == 0 then m (l / 2) else not (m (l / 2))

-- whether one of two is true and the other is not
abbrev pub differ : Bool → Bool → Bool
differ true b = not b
differ false b = b

-- whether two of three are true
abbrev pub majority : Bool → Bool → Bool → Bool
majority true b c = b || c
majority false b c = b && c

-- the value of a gate of variable v; an input has the value of its variable, whatever that is
abbrev pub gate_value : (ℕ → Bool) → ℕ → Gate → Bool
gate_value m v of.Input = m v
gate_value m v (of.And a b) = lit_value m a && lit_value m b
gate_value m v (of.Xor a b) = differ (lit_value m a) (lit_value m b)
gate_value m v (of.Majority a b c) = majority (lit_value m a) (lit_value m b) (lit_value m c)
gate_value m v (of.Choice a b c) = if lit_value m a then lit_value m b else lit_value m c

-- the gate reads variables below n alone
abbrev pub ReadsBelow : ℕ → Gate → Type 0
ReadsBelow n of.Input = ⊤
ReadsBelow n (of.And a b) = (a < 2 * n) × (b < 2 * n)
ReadsBelow n (of.Xor a b) = (a < 2 * n) × (b < 2 * n)
ReadsBelow n (of.Majority a b c) = (a < 2 * n) × (b < 2 * n) × (c < 2 * n)
ReadsBelow n (of.Choice a b c) = (a < 2 * n) × (b < 2 * n) × (c < 2 * n)
