-- What an operator on literals comes to (this project's own): constants, equal literals and
-- opposite ones are folded, and operands are put in order, so that equal gates meet. Literal 0 is
-- true and literal 1 is false.
use Rattle.std.specs.Prelude.{ℕ, ◌*◌, ◌/◌, ◌%◌, ◌<◌, ◌==◌, nat_lt, Bool, not}
use Rattle.std.specs.Prelude.{if◌then◌else◌}
use Rattle.cpa_cnf.specs.Literals.{opposite}
use Rattle.cpa_blast_gates.specs.declared.gate.Gate.TheVariants.{And, Xor, Majority, Choice}
use Rattle.cpa_blast_gates.specs.declared.folding.Plan.{Plan}
use Rattle.cpa_blast_gates.specs.declared.folding.Plan.TheVariants.{Known, Made, Negated}
use Rattle.cpa_blast_gates.specs.Gates.{lit_value, gate_value, ReadsBelow}

-- the value of a plan, whose gate has variable v
abbrev pub planned : (ℕ → Bool) → ℕ → Plan → Bool
planned m v (Known l) = lit_value m l
planned m v (Made g) = gate_value m v g
planned m v (Negated g) = not (gate_value m v g)

-- the plan reads variables below n alone
abbrev pub PlanBelow : ℕ → Plan → Type 0
PlanBelow n (Known l) = l < 2 * n
PlanBelow n (Made g) = ReadsBelow n g
PlanBelow n (Negated g) = ReadsBelow n g

abbrev pub flipped : Plan → Plan
flipped (Known l) = Known (opposite l)
flipped (Made g) = Negated g
flipped (Negated g) = Made g

abbrev pub ordered_and : ℕ → ℕ → Plan
ordered_and a b =
    if a == 0 then Known b
    else (if a == 1 then Known 1
    else (if a == b then Known a
    else (if b == opposite a then Known 1
    else Made (And a b))))

-- both of two literals
unfoldable pub and_plan : ℕ → ℕ → Plan
and_plan a b = if nat_lt b a then ordered_and b a else ordered_and a b

-- one of two literals, or both
unfoldable pub or_plan : ℕ → ℕ → Plan
or_plan a b = flipped (and_plan (opposite a) (opposite b))

-- one of two literals of different variables: a gate of their variables, since the signs go out
abbrev pub signed_xor : ℕ → ℕ → Plan
signed_xor a b =
    let gate = Xor (2 * (a / 2)) (2 * (b / 2)) in
    if a % 2 == 1 then (if b % 2 == 1 then Made gate else Negated gate)
    else (if b % 2 == 1 then Negated gate else Made gate)

abbrev pub ordered_xor : ℕ → ℕ → Plan
ordered_xor a b =
    if a == 0 then Known (opposite b)
    else (if a == 1 then Known b
    else (if a == b then Known 1
    else (if b == opposite a then Known 0
    else signed_xor a b)))

-- one of two literals and not both
unfoldable pub xor_plan : ℕ → ℕ → Plan
xor_plan a b = if nat_lt b a then ordered_xor b a else ordered_xor a b

abbrev pub constant_majority : ℕ → ℕ → ℕ → Plan
constant_majority constant a b = if constant == 0 then or_plan a b else and_plan a b

abbrev pub distinct_majority : ℕ → ℕ → ℕ → Plan
distinct_majority a b c =
    if a == b then Known a
    else (if a == opposite b then Known c
    else (if a == c then Known a
    else (if a == opposite c then Known b
    else (if b == c then Known b
    else (if b == opposite c then Known a
    else Made (Majority a b c))))))

-- two of three literals
unfoldable pub majority_plan : ℕ → ℕ → ℕ → Plan
majority_plan a b c =
    if a / 2 == 0 then constant_majority a b c
    else (if b / 2 == 0 then constant_majority b a c
    else (if c / 2 == 0 then constant_majority c a b
    else distinct_majority a b c))

-- what a literal is where the test is true
abbrev pub under : ℕ → ℕ → ℕ
under test l = if l == test then 0 else (if l == opposite test then 1 else l)

abbrev pub folded_choice : ℕ → ℕ → ℕ → Plan
folded_choice test first second =
    if first == second then Known first
    else (if first == opposite second then flipped (xor_plan test first)
    else (if first == 0 then or_plan test second
    else (if first == 1 then and_plan (opposite test) second
    else (if second == 0 then or_plan (opposite test) first
    else (if second == 1 then and_plan test first
    else Made (Choice test first second))))))

-- the first of two literals where the test is true, else the second
unfoldable pub choice_plan : ℕ → ℕ → ℕ → Plan
choice_plan test first second =
    if test == 0 then Known first
    else (if test == 1 then Known second
    else folded_choice test (under test first) (under (opposite test) second))
