-- How often bounds can be widened (this project's own): the rank of widening.
use Rattle.std.specs.Prelude.{ℕ, ◌+◌, ℤ, int_lt, Bool, true, false, List, [], ◌∷◌, if◌then◌else◌}
use Rattle.std.specs.List.{list_any}
use Rattle.std.specs.Ordering.{int_eq}
use Rattle.cpa_ints.specs.declared.integers.IntType.{IntType}
use Rattle.cpa_ints.specs.Integers.{least, greatest}
use Rattle.cpa_model.specs.declared.automaton.Cfa.{Cfa}
use Rattle.cpa_interval_bounds.specs.declared.bounds.Bounds.{Bounds}
use Rattle.cpa_interval.specs.Numbers.{near}

-- the number is one of these
abbrev pub is_one_of : List ℤ → ℤ → Bool
is_one_of ns n = list_any (λ own. int_eq own n) ns

-- each number once
abbrev pub distinct : List ℤ → List ℤ
distinct [] = []
distinct (n ∷ ns) = if is_one_of ns n then distinct ns else n ∷ distinct ns

-- the thresholds of an automaton
abbrev pub thresholds : Cfa → List ℤ
thresholds cfa = distinct (near cfa)

abbrev pub one_where : Bool → ℕ
one_where true = 1
one_where false = 0

-- how many of the numbers pass the test
abbrev pub count : (ℤ → Bool) → List ℤ → ℕ
count test [] = 0
count test (n ∷ ns) = one_where (test n) + count test ns

-- how often the lower end can move yet: to each number below it, and to the type's end
abbrev pub steps_down : List ℤ → ℤ → ℤ → ℕ
steps_down ns low end = one_where (int_lt low end) + count (λ n. int_lt n end) ns

-- how often the upper end can
abbrev pub steps_up : List ℤ → ℤ → ℤ → ℕ
steps_up ns high end = one_where (int_lt end high) + count (λ n. int_lt end n) ns

-- how often the bounds can be widened
abbrev pub steps : List ℤ → IntType → Bounds → ℕ
steps ns t b = steps_down ns (least t) b.lo + steps_up ns (greatest t) b.hi
