-- The kind is the one that is kept of the token.
use Rattle.std.specs.Prelude.{◌≡◌, ◌≢◌, ◌<◌, length}
use Rattle.std.proofs.Common.{◌∙◌, ap, arith, subst}
use Rattle.c_grammar_symbols.specs.declared.symbol.Symbol.TheVariants.{End}
use Rattle.c_grammar_symbols.specs.Kinds.{kind_of}
use Rattle.c_grammar_symbols.specs.Symbols.{symbol_of, leaves}
use Rattle.c_grammar_symbols.specs.Sources.{leaf_at, GoesOn}
use Rattle.c_grammar_symbols.proofs.KindFacts.{kept_there, goes_on}
use Rattle.c_grammar_symbols.proofs.tokens.TokenList.kind_at.Goals as goal

pub returns-clause-value : goal.returns-clause-value
returns-clause-value c =
    let text = c.self.inside.text.now in
    let tokens = c.self.inside.tokens.now in
    let is : leaves text tokens ≡ c.args.self.now = c.self.view_is in
    let within : c.args.at < length (leaves text tokens) =
    omega (arith, c.requires, ap length is) in
    c.index.ensures
    ∙ (kept_there text tokens c.args.at within c.self.inside.kinds.items c.index.result.now
    c.self.invariant
    ∙ ap (λ ls. kind_of (symbol_of (leaf_at ls c.args.at))) is)

pub returns-clause-more : goal.returns-clause-more
returns-clause-more c =
    let text = c.self.inside.text.now in
    let tokens = c.self.inside.tokens.now in
    let is : leaves text tokens ≡ c.args.self.now = c.self.view_is in
    let within : c.args.at < length (leaves text tokens) =
    omega (arith, c.requires, ap length is) in
    subst (λ ls. symbol_of (leaf_at ls c.args.at) ≢ End → GoesOn ls c.args.at) is
    (goes_on text tokens c.args.at within c.self.invariant.source (omega (arith, c.self.told2)))
