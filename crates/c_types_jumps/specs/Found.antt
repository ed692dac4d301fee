-- What is known of a function's labels and gotos up to a place in it, and what is done there (C11
-- 6.2.1 and 6.8).
use Rattle.std.specs.Prelude.{ℕ, ◌+◌, List, [], ◌∷◌, ◌++◌, take}
use Rattle.c_grammar_tree.specs.declared.name.Name.{Name}
use Rattle.c_types_rules.specs.StatementRules.{Jump}

-- The objects of a function are numbered as they come; those of file scope are left out.
pub record Found : Type 0 where
  -- the numbers of the objects in scope, those of outer scopes first
  pub current : List ℕ
  -- the labels so far, in order, each with the objects in whose scopes it stands
  pub labels : List Jump
  pub gotos : List Jump
  -- no object of the function has a lesser number
  pub first : ℕ
  -- no object that comes has a lesser number
  pub next : ℕ

abbrev pub nothing_found : ℕ → Found
nothing_found first =
    record { current = []; labels = []; gotos = []; first = first; next = first }

-- an object's scope begins
abbrev pub entered : ℕ → Found → Found
entered number found =
    record found { current = found.current ++ number ∷ []; next = number + 1 }

-- all scopes end but those of so many objects
abbrev pub left_to : ℕ → Found → Found
left_to count found = record found { current = take count found.current }

abbrev pub standing : Name → Found → Jump
standing name found = record { name = name; scopes = found.current }

abbrev pub labeled : Name → Found → Found
labeled name found = record found { labels = found.labels ++ standing name found ∷ [] }

abbrev pub jumping : Name → Found → Found
jumping name found = record found { gotos = found.gotos ++ standing name found ∷ [] }

-- in the scopes of these objects too, which are those of file scope
abbrev pub with_base : List ℕ → Jump → Jump
with_base base jump = record jump { scopes = base ++ jump.scopes }
