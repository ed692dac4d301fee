-- The kind tells whether it is the terminal.
use Rattle.std.specs.Prelude.{IsTrue}
use Rattle.std.proofs.Common.{◌∙◌, ap, subst}
use Rattle.c_grammar_symbols.specs.declared.symbol.Symbol.TheVariants.{End}
use Rattle.c_grammar_symbols.specs.Symbols.{symbol_of}
use Rattle.c_grammar_symbols.specs.Sources.{leaf_at, is_terminal}
use Rattle.c_grammar_symbols.proofs.KindFacts.{is_told}
use Rattle.c_grammar_symbols.proofs.tokens.TokenList.is.Goals as goal

pub returns-clause-value : goal.returns-clause-value
returns-clause-value c = c.is_terminal.ensures
    ∙ is_told c.args.terminal (symbol_of (leaf_at c.args.self.now c.args.at)) c.kind_at.result
    c.kind_at.ensures.value

pub returns-clause-more : goal.returns-clause-more
returns-clause-more c = λ yes'.
    let told = c.is_terminal.ensures
    ∙ is_told c.args.terminal (symbol_of (leaf_at c.args.self.now c.args.at)) c.kind_at.result
    c.kind_at.ensures.value in
    c.kind_at.ensures.more (λ e.
    absurd (let clash : IsTrue (is_terminal c.args.terminal End) =
    subst IsTrue (told ∙ ap (is_terminal c.args.terminal) e) yes' in cc))
