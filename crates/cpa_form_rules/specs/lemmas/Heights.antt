-- How high expressions are on their way into a query, from those of a program to wanted ones.
use Rattle.std.specs.Prelude.{ℕ, ◌+◌, ◌-◌, ◌*◌}
use Rattle.cpa_expr.specs.declared.shape.TheConstants as of_program
use Rattle.cpa_query.specs.declared.query.TheConstants as of_query

-- what a fact asks: an expression of the program, or comparisons of a cell with numbers, with room
-- for the nodes that join these
abbrev pub test_height : ℕ
test_height = of_program.MAX_HEIGHT + 100

-- a part of a denial: the test of whether such a test traps is at most three times as high
abbrev pub trap_height : ℕ
trap_height = 3 * test_height

-- what is read at the places: a few nodes above it make it a wanted expression
abbrev pub inner_height : ℕ
inner_height = of_query.MAX_HEIGHT - 10
