-- The items of a text and its end are spelled, and what is spelled so is read.
use Rattle.std.specs.Prelude.{ℕ, ◌<◌, List}
use Rattle.std.proofs.Common.{arith}
use Rattle.c_lexer.specs.declared.token.Token.{Token}
use Rattle.c_grammar_tree.specs.declared.item.Unit.{Unit as UnitTree}
use Rattle.c_grammar_tree.specs.Grammar.{grammar}
use Rattle.c_laws.specs.Plain.{PlainTree}
use Rattle.c_laws.specs.Spelling.{IsSpelled}
use Rattle.c_laws.proofs.SpeltText.{spelt_grammar}
use Rattle.c_laws.proofs.SpeltItems.{unit_pieces, unit_again}
use Rattle.c_laws.proofs.spelling.a_tree_spells_its_texts.Goals as goal

levels : 0 < 199
levels = omega arith

plainly_spelled : (text : List ℕ) (tokens : List Token) (u : UnitTree) →
    PlainTree text tokens u → IsSpelled text tokens u
plainly_spelled text tokens u t = record {
  pieces = unit_pieces (grammar 199) 199 (spelt_grammar 199) levels _ 0 0 u.items _ (t.reading 0);
  length_is = t.length_is;
}

read_again : (text other : List ℕ) (tokens found : List Token) (u : UnitTree) →
    PlainTree text tokens u → IsSpelled other found u → PlainTree other found u
read_again text other tokens found u t s = record {
  reading = λ edge. unit_again (grammar 199) 199 (spelt_grammar 199) levels _ _ 0 edge 0 0 u.items
      _ _ (t.reading 0) s.pieces;
  length_is = s.length_is;
}

pub returns-clause-spelled : goal.returns-clause-spelled
returns-clause-spelled c = λ text tokens u t.
    plainly_spelled text tokens u ((c.plain_trees_are_trees.ensures text tokens u).1 t)

pub returns-clause-read : goal.returns-clause-read
returns-clause-read c = λ text other tokens found u t s.
    (c.plain_trees_are_trees.ensures other found u).0 (read_again text other tokens found u
    ((c.plain_trees_are_trees.ensures text tokens u).1 t) s)
