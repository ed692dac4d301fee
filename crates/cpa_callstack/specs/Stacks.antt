-- The analysis of call stacks (this project's own).
use Rattle.std.specs.Prelude.{ℕ, Bool, true, List, [], ◌∷◌, Option, None, Some, codes}
use Rattle.std.specs.Prelude.{if◌then◌else◌}
use Rattle.std.specs.List.{list_all}
use Rattle.cpa_facts.specs.declared.fact.Fact.{Fact}
use Rattle.cpa_facts.specs.declared.fact.Fact.TheVariants.{Stack}
use Rattle.cpa_model.specs.declared.facts.Elem.{Elem}
use Rattle.cpa_model.specs.declared.automaton.Act.{Act}
use Rattle.cpa_model.specs.declared.automaton.Edge.{Edge}
use Rattle.cpa_model.specs.Stacks.{stack_after}
use Rattle.cpa_model.specs.Standing.{same_sites}
use Rattle.cpa_iface.specs.declared.analysis.Part.TheVariants as part
use Rattle.cpa_iface.specs.Meanings.{Meaning}
use Rattle.cpa_iface.specs.PlainMeanings.{PlainMeaning, meaning_of}

-- the element of one fact, that this is the stack
abbrev pub with_stack : List ℕ → Elem
with_stack sites = record { facts = Stack sites ∷ [] }

-- the element without facts
abbrev pub any_stack : Elem
any_stack = record { facts = [] }

-- the stack that the first fact on it names
abbrev pub first_stack : List Fact → Option (List ℕ)
first_stack [] = None
first_stack (Stack sites ∷ facts) = Some sites
first_stack (fact ∷ facts) = first_stack facts

-- the fact does not name another stack
abbrev pub names_stack : List ℕ → Fact → Bool
names_stack sites (Stack own) = same_sites own sites
names_stack sites fact = true

-- the element of a stack that is there
abbrev pub elem_of : Option (List ℕ) → List Elem
elem_of None = []
elem_of (Some sites) = with_stack sites ∷ []

-- of the stack on which all facts agree, what the act makes of it; nothing where two facts name two
-- stacks; the element without facts where none names a stack
abbrev pub stacks_after : Act → List Fact → Option (List ℕ) → List Elem
stacks_after act facts None = any_stack ∷ []
stacks_after act facts (Some sites) =
    if list_all (names_stack sites) facts then elem_of (stack_after act sites) else []

-- what the edge makes of the element
abbrev pub next_stacks : Elem → Edge → List Elem
next_stacks e g = stacks_after g.act e.facts (first_stack e.facts)

-- it begins with the empty stack, and is exact on the stack
abbrev pub stacks : PlainMeaning
stacks = record {
  name = codes "callstack";
  part = part.Stack;
  beside_store = tt;
  initial = λ cfa. with_stack [];
  next = next_stacks;
}

abbrev pub callstack : Meaning
callstack = meaning_of stacks
