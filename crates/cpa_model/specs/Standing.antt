-- Whether a fact stands in an element, to the letter, as a test (this project's own).
use Rattle.std.specs.Prelude.{ℕ, ◌==◌, ◌&&◌, Bool, true, false, List, [], ◌∷◌}
use Rattle.std.specs.List.{list_all, list_any}
use Rattle.std.specs.Ordering.{int_eq}
use Rattle.cpa_expr.specs.Equality.{same_expr}
use Rattle.cpa_facts.specs.declared.fact.Fact.{Fact}
use Rattle.cpa_facts.specs.declared.fact.Fact.TheVariants.{At, Stack, Equals, Within, Truth}
use Rattle.cpa_model.specs.declared.facts.Elem.{Elem}

abbrev pub same_bool : Bool → Bool → Bool
same_bool true b = b
same_bool false true = false
same_bool false false = true

abbrev pub same_sites : List ℕ → List ℕ → Bool
same_sites [] [] = true
same_sites (a ∷ as_) (b ∷ bs) = (a == b) && same_sites as_ bs
same_sites [] (b ∷ bs) = false
same_sites (a ∷ as_) [] = false

-- two facts are the same
abbrev pub same_fact : Fact → Fact → Bool
same_fact (At p) (At q) = p == q
same_fact (Stack s) (Stack t) = same_sites s t
same_fact (Equals c v) (Equals d w) = (c == d) && int_eq v w
same_fact (Within c lo hi) (Within d low high) = (c == d) && int_eq lo low && int_eq hi high
same_fact (Truth e holds) (Truth f wanted) = same_expr e f && same_bool holds wanted
same_fact _ _ = false

-- each fact of the other element stands in the element
abbrev pub has_facts : Elem → Elem → Bool
has_facts e other = list_all (λ f. list_any (λ g. same_fact g f) e.facts) other.facts
