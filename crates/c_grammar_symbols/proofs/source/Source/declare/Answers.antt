-- One name more is declared, or none.
use Rattle.std.proofs.Common.{map, ◌∙◌, ap}
use Rattle.c_grammar_symbols.specs.Sources.{type_named, renamed}
use Rattle.c_grammar_symbols.proofs.Seen.{one_more_seen, kept_seen, under_ok, under_err}
use Rattle.c_grammar_symbols.proofs.source.Source.declare.Goals as goal

pub returns-clause-declared : goal.returns-clause-declared
returns-clause-declared c = under_ok c.declare.result c.declare.ensures.declared
    (λ more. one_more_seen c.args.name.now c.args.ty (type_named c.self.inside.typedefs)
    (type_named c.declare.new.typedefs) more c.self.inside.tokens
    ∙ ap (map (renamed c.args.name.now c.args.ty)) c.self.view_is)

pub returns-clause-kept : goal.returns-clause-kept
returns-clause-kept c = under_err c.declare.result c.declare.ensures.kept
    (λ same. kept_seen (type_named c.self.inside.typedefs) (type_named c.declare.new.typedefs) same
    c.self.inside.tokens ∙ c.self.view_is)
