-- A declaration that says what the last one of its name says (this project's own; C11 6.7p4 lets a
-- function be declared more than once).
use Rattle.std.specs.Prelude.{ℕ, List, option_map}
use Rattle.std.specs.Option.{option_to_list}
use Rattle.c_types_rules.specs.declared.meaning.Declared.{Declared}
use Rattle.c_types_rules.specs.declared.meaning.Entry.{Entry}
use Rattle.c_types_rules.specs.Names.{declared_as}

abbrev pub entry_of : List ℕ → Declared → Entry
entry_of name declared = record { name = name; declared = declared }

-- by one declaration more, what a name is declared as so far: nothing, where it is not declared
abbrev pub said_again : List Entry → List ℕ → List Entry
said_again names name = option_to_list (option_map (entry_of name) (declared_as names name))
