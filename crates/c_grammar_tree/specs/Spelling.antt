-- What contracts see of the bytes of a name.
use Rattle.std.specs.Prelude.{ℕ, ◌≤◌, List, take, ⊤}
use Rattle.c_grammar_tree.specs.declared.name.Letters.{Letters}
use Rattle.c_grammar_tree.specs.declared.name.Letters.TheVariants as letters

-- the bytes that stand there
abbrev pub spelling : Letters → List ℕ
spelling (letters.Inside length bytes) = take length bytes
spelling (letters.Outside bytes) = bytes

-- there are no more than have room in the name
abbrev pub IsWithin : Letters → Type 0
IsWithin (letters.Inside length bytes) = length ≤ 14
IsWithin (letters.Outside bytes) = ⊤
