-- A level is left, and the enumerator stands one level deeper; or none is.
use Rattle.std.proofs.Common.{arith, length}
use Rattle.c_grammar_forms.specs.lemmas.Exits.{answers_deeper}
use Rattle.c_grammar_symbols.specs.Sources.{leaf_at}
use Rattle.c_grammar_tree.specs.declared.TheConstants.{MAX_LEVEL}
use Rattle.c_grammar_tree.specs.Grammar.{grammar}
use Rattle.c_grammar_tree.specs.lemmas.Levels.{enumerator_above, answers_no_level}
use Rattle.c_parser_declarations.proofs.enumerations.inner_enumerator.Goals as goal

pub returns-then-left-eq0 : goal.returns-then-left-eq0
returns-then-left-eq0 c = rw c.no_level.ensures
    (answers_no_level MAX_LEVEL (λ n. (grammar n).enumerator)
    (leaf_at c.args.source.now) c.if-left-eq0.true c.requires.within
    (omega (arith, c.requires.room, c.if-left-eq0.true)) c.is_name.result)

pub returns : goal.returns
returns c =
    answers_deeper MAX_LEVEL (leaf_at c.args.source.now)
    (length c.args.source.now) c.args.at enumerator_above
    (omega (arith, c.if-left-eq0.false)) c.enumerator.result c.enumerator.ensures
