-- The run of a list of facts that give values to consecutive cells (this project's own).
use Rattle.std.specs.Prelude.{ℕ, ◌+◌, ◌*◌, ◌%◌, ◌==◌, ℤ, List, [], ◌∷◌, Option, None, Some}
use Rattle.std.specs.Prelude.{if◌then◌else◌}
use Rattle.cpa_facts.specs.declared.fact.Fact.{Fact}
use Rattle.cpa_facts.specs.declared.fact.Fact.TheVariants.{Equals}
use Rattle.cpa_facts.specs.declared.run.Run.{Run}
use Rattle.cpa_facts.specs.Prints.{mixed}

-- no value yet
abbrev pub run_at : ℕ → Run
run_at cell = record { first = cell; count = 0; print = 0; factor = 1 }

-- one value more
abbrev pub run_more : Run → ℤ → Run
run_more run value = record {
  first = run.first;
  count = run.count + 1;
  print = mixed run.print value;
  factor = run.factor * 31 % 4294967296;
}

-- the run with these facts behind it, where each is a value of the next cell
abbrev pub run_on : Run → List Fact → Option Run
run_on run [] = Some run
run_on run (Equals cell value ∷ facts) =
    if cell == run.first + run.count then run_on (run_more run value) facts else None
run_on run (fact ∷ facts) = None

-- the run of the facts, where there are some and they are one
abbrev pub run_of : List Fact → Option Run
run_of [] = None
run_of (Equals cell value ∷ facts) = run_on (run_at cell) (Equals cell value ∷ facts)
run_of (fact ∷ facts) = None
