-- A semicolon, a typedef, or specifiers and what they declare.
use Rattle.std.proofs.Common.{sym, refl, arith}
use Rattle.c_grammar_forms.specs.Forms.{Choice}
use Rattle.c_grammar_forms.specs.lemmas.Found.{reads_node, reads_one}
use Rattle.c_grammar_forms.specs.lemmas.NotFound.{none_node, none_then_first}
use Rattle.c_grammar_forms.specs.lemmas.Exits.{at_exit, answers_with}
use Rattle.c_grammar_forms.specs.lemmas.Choices.{reads_arm, none_arm}
use Rattle.c_grammar_symbols.specs.Symbols.{symbol_of}
use Rattle.c_grammar_symbols.specs.Sources.{leaf_at}
use Rattle.c_grammar_tree.specs.declared.TheConstants.{MAX_LEVEL}
use Rattle.c_grammar_tree.specs.Grammar.{grammar}
use Rattle.c_grammar_tree.specs.Parts.{is_specifier, is_listed}
use Rattle.c_grammar_tree.specs.Items.{declared_at, declared_of, unit_item_at, unit_item}
use Rattle.c_parser_declarations.specs.lemmas.Readers.{reads_then_onto, none_then_onto}
use Rattle.c_parser.proofs.Steadies.{steady_specifiers}
use Rattle.c_parser.proofs.Arms.{arm_empty, arm_typedef, arm_declared}
use Rattle.c_parser.proofs.items.unit_item.Goals as goal

pub returns-then-is : goal.returns-then-is
unfolding unit_item
returns-then-is c = rw c.place-place.ensures
    (reads_arm symbol_of (λ n. unit_item_at (grammar n))
    (λ n. arm_empty (grammar n) (symbol_of (leaf_at c.args.source.now c.args.at))
    (sym c.if-is.ensures.value))
    (reads_node _ refl (reads_one (c.if-is.ensures.more refl).within)))

pub returns-then-is-2 : goal.returns-then-is-2
unfolding unit_item
returns-then-is-2 c =
    answers_with MAX_LEVEL c.typedef_item.result
    (λ u q r. reads_arm symbol_of (λ n. unit_item_at (grammar n))
    (λ n. arm_typedef (grammar n) (symbol_of (leaf_at c.args.source.now c.args.at))
    (sym c.if-is-2.ensures.value)) r)
    (λ i g. none_arm symbol_of (λ n. unit_item_at (grammar n))
    (λ n. arm_typedef (grammar n) (symbol_of (leaf_at c.args.source.now c.args.at))
    (sym c.if-is-2.ensures.value)) g)
    c.typedef_item.ensures

pub returns-in_err-specifiers : goal.returns-in_err-specifiers
unfolding unit_item
returns-in_err-specifiers c =
    at_exit MAX_LEVEL _ _ c.from_residual.ensures.1 c.in_err-specifiers.ensures
    (λ i g. none_arm symbol_of (λ n. unit_item_at (grammar n))
    (λ n. arm_declared (grammar n) (symbol_of (leaf_at c.args.source.now c.args.at))
    (sym c.if-is.ensures.value) (sym c.if-is-2.ensures.value))
    (none_node _ (none_then_first (λ n front.
    Choice symbol_of (declared_at (grammar n) (is_listed front.enumeration))) g)))

pub returns : goal.returns
unfolding unit_item
returns c =
    let front = c.in_ok-specifiers.ensures in
    answers_with MAX_LEVEL c.declared.result
    (λ u q r. reads_arm symbol_of (λ n. unit_item_at (grammar n))
    (λ n. arm_declared (grammar n) (symbol_of (leaf_at c.args.source.now c.args.at))
    (sym c.if-is.ensures.value) (sym c.if-is-2.ensures.value))
    (reads_then_onto (λ leaf parts. declared_of parts.0 parts.1)
    (λ leaf found. declared_of c.in_ok-specifiers.specifiers found)
    (λ n front. Choice symbol_of (declared_at (grammar n) (is_listed front.enumeration)))
    (λ found. refl) front r))
    (λ i g. none_arm symbol_of (λ n. unit_item_at (grammar n))
    (λ n. arm_declared (grammar n) (symbol_of (leaf_at c.args.source.now c.args.at))
    (sym c.if-is.ensures.value) (sym c.if-is-2.ensures.value))
    (none_then_onto (λ leaf parts. declared_of parts.0 parts.1)
    (λ leaf found. declared_of c.in_ok-specifiers.specifiers found)
    (λ n front. Choice symbol_of (declared_at (grammar n) (is_listed front.enumeration)))
    (steady_specifiers is_specifier) front g))
    c.declared.ensures

pub declared-requires-clause-within : goal.declared-requires-clause-within
declared-requires-clause-within c = c.in_ok-specifiers.ensures.within

pub declared-requires-clause-room : goal.declared-requires-clause-room
declared-requires-clause-room c =
    omega (arith, c.requires.room, c.in_ok-specifiers.ensures.onward)
