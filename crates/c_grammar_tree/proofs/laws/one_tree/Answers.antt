-- Two trees of one text are two readings of its items, of which there is one.
use Rattle.std.specs.Prelude.{◌≡◌, ℕ, List, refl}
use Rattle.std.proofs.Common.{sym, ◌∙◌}
use Rattle.c_lexer.specs.declared.token.Token.{Token}
use Rattle.c_grammar_tree.specs.declared.item.Unit.{Unit as UnitTree}
use Rattle.c_grammar_tree.specs.Grammar.{Tree, grammar}
use Rattle.c_grammar_tree.specs.lemmas.OneReadingOfText.{good_unit_items, good_grammar}
use Rattle.c_grammar_tree.proofs.laws.one_tree.Goals as goal

unit_path : (u v : UnitTree) → u.items ≡ v.items → u.length ≡ v.length → u ≡ v
unit_path u v e f = λ i. record { items = e i; length = f i }

one : (text : List ℕ) (tokens : List Token) (u v : UnitTree) → Tree text tokens u →
    Tree text tokens v → u ≡ v
one text tokens u v t s =
    let g = good_unit_items (grammar 199) (grammar 199) (good_grammar 199 199) in
    let same = g.same (record { tokens = λ j h. refl; first_greedy = refl; second_greedy = refl })
    (t.reading 0) (s.reading 0) in
    unit_path u v same.0 (t.length_is ∙ sym s.length_is)

pub returns : goal.returns
returns c = one
