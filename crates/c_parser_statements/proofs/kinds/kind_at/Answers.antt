-- A statement with a first token of its own begins with a token that is no end.
use Rattle.std.proofs.Common.{◌≡◌, sym, ◌∙◌, ap, true, false}
use Rattle.c_parser_statements.specs.Kinds.{kind_of, has_opener}
use Rattle.c_parser_statements.proofs.kinds.kind_at.Goals as goal

pub returns-clause-more : goal.returns-clause-more
returns-clause-more c = λ opens. c.symbol.ensures.more
    (λ e. let clash : false ≡ true = sym (ap (λ s. has_opener (kind_of s)) e) ∙
    (ap has_opener (sym c.kind_of.ensures) ∙ opens) in cc)
