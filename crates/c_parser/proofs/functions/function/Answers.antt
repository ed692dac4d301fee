-- Parameters, and what ends a function.
use Rattle.std.proofs.Common.{refl, Some}
use Rattle.c_grammar_forms.specs.Forms.{Choice}
use Rattle.c_grammar_forms.specs.lemmas.Found.{reads_node, reads_then}
use Rattle.c_grammar_forms.specs.lemmas.NotFound.{none_node, none_then_first, none_then}
use Rattle.c_grammar_forms.specs.lemmas.Exits.{at_exit}
use Rattle.c_grammar_forms.specs.lemmas.Choices.{reads_arm, none_arm}
use Rattle.c_grammar_symbols.specs.Symbols.{symbol_of}
use Rattle.c_grammar_symbols.specs.Sources.{leaf_at}
use Rattle.c_grammar_tree.specs.declared.TheConstants.{MAX_LEVEL}
use Rattle.c_grammar_tree.specs.Grammar.{grammar}
use Rattle.c_grammar_tree.specs.Parts.{is_listed}
use Rattle.c_grammar_tree.specs.Items.{have_pointer, function_end_at, named_at, declared_of}
use Rattle.c_grammar_tree.specs.Items.{function}
use Rattle.c_parser.proofs.Steadies.{steady_function_rest}
use Rattle.c_parser.proofs.Arms.{arm_function}
use Rattle.c_parser.proofs.functions.function.Goals as goal

pub returns-in_err-parameters : goal.returns-in_err-parameters
returns-in_err-parameters c =
    at_exit MAX_LEVEL _ _ c.from_residual.ensures.1 c.in_err-parameters.ensures
    (λ i g. none_node _ (none_arm symbol_of
    (λ n. named_at (grammar n) (is_listed c.args.specifiers.enumeration) c.args.name)
    (λ n. arm_function (grammar n) (is_listed c.args.specifiers.enumeration) c.args.name
    (symbol_of (leaf_at c.args.source.now c.args.at))
    c.requires.bracket)
    (none_node _ (none_then_first (λ n found. Choice symbol_of
    (function_end_at (grammar n) c.args.name (have_pointer found))) g))))

pub returns-in_err-body : goal.returns-in_err-body
returns-in_err-body c =
    at_exit MAX_LEVEL _ _ c.from_residual-in_err-body.ensures.1
    (rw c.have_pointer-pointer.ensures at c.in_err-body.ensures)
    (λ i g. none_node _ (none_arm symbol_of
    (λ n. named_at (grammar n) (is_listed c.args.specifiers.enumeration) c.args.name)
    (λ n. arm_function (grammar n) (is_listed c.args.specifiers.enumeration) c.args.name
    (symbol_of (leaf_at c.args.source.now c.args.at))
    c.requires.bracket)
    (none_node _ (none_then (λ n found. Choice symbol_of (function_end_at (grammar n) c.args.name
    (have_pointer found)))
    steady_function_rest c.in_ok-parameters.ensures g))))

pub returns : goal.returns
returns c =
    reads_node (λ leaf found. declared_of c.args.specifiers (Some (c.args.name, found)))
    c.function_item.ensures
    (reads_arm symbol_of
    (λ n. named_at (grammar n) (is_listed c.args.specifiers.enumeration) c.args.name)
    (λ n. arm_function (grammar n) (is_listed c.args.specifiers.enumeration) c.args.name
    (symbol_of (leaf_at c.args.source.now c.args.at))
    c.requires.bracket)
    (reads_node (λ leaf parts. function parts.0 parts.1) refl
    (reads_then (λ n found. Choice symbol_of (function_end_at (grammar n) c.args.name
    (have_pointer found))) c.in_ok-parameters.ensures
    (rw c.have_pointer-pointer.ensures at c.in_ok-body.ensures))))
