-- A semicolon, a body, or neither.
use Rattle.std.proofs.Common.{sym, refl}
use Rattle.c_grammar_forms.specs.lemmas.Found.{reads_node, reads_one}
use Rattle.c_grammar_forms.specs.lemmas.NotFound.{none_node, none_nothing}
use Rattle.c_grammar_forms.specs.lemmas.Exits.{at_exit}
use Rattle.c_grammar_forms.specs.lemmas.Choices.{reads_arm, none_arm}
use Rattle.c_grammar_symbols.specs.Symbols.{symbol_of}
use Rattle.c_grammar_symbols.specs.Sources.{leaf_at}
use Rattle.c_grammar_tree.specs.declared.TheConstants.{MAX_LEVEL}
use Rattle.c_grammar_tree.specs.Grammar.{grammar}
use Rattle.c_grammar_tree.specs.Items.{function_end_at}
use Rattle.c_parser.proofs.Arms.{arm_prototype, arm_body, arm_no_end}
use Rattle.c_parser.proofs.functions.function_end.Goals as goal

pub returns-then-is : goal.returns-then-is
returns-then-is c =
    reads_arm symbol_of (λ n. function_end_at (grammar n) c.args.name.now c.args.pointer)
    (λ n. arm_prototype (grammar n) c.args.name.now c.args.pointer
    (symbol_of (leaf_at c.args.source.now c.args.at)) (sym c.if-is.ensures.value))
    (reads_node _ refl (reads_one (c.if-is.ensures.more refl).within))

pub returns-then-not-opens_body : goal.returns-then-not-opens_body
returns-then-not-opens_body c =
    none_arm symbol_of (λ n. function_end_at (grammar n) c.args.name.now c.args.pointer)
    (λ n. arm_no_end (grammar n) c.args.name.now c.args.pointer
    (symbol_of (leaf_at c.args.source.now c.args.at)) (sym c.if-is.ensures.value)
    (sym c.if-not-opens_body.ensures.value))
    (none_nothing c.requires.within)

pub returns-in_err-body : goal.returns-in_err-body
returns-in_err-body c =
    at_exit MAX_LEVEL _ _ c.from_residual.ensures.1 (rw c.is_known.ensures at c.in_err-body.ensures)
    (λ i g. none_arm symbol_of (λ n. function_end_at (grammar n) c.args.name.now c.args.pointer)
    (λ n. arm_body (grammar n) c.args.name.now c.args.pointer
    (symbol_of (leaf_at c.args.source.now c.args.at))
    (sym c.if-not-opens_body.ensures.value)) (none_node _ g))

pub returns : goal.returns
returns c =
    reads_arm symbol_of (λ n. function_end_at (grammar n) c.args.name.now c.args.pointer)
    (λ n. arm_body (grammar n) c.args.name.now c.args.pointer
    (symbol_of (leaf_at c.args.source.now c.args.at))
    (sym c.if-not-opens_body.ensures.value))
    (reads_node _ refl (rw c.is_known.ensures at c.in_ok-body.ensures))
