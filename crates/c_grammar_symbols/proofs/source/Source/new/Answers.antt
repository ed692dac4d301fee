-- Where no name is declared, tokens are seen as they are.
use Rattle.std.specs.Map.{lookup}
use Rattle.std.specs.Str.{bytes_eq}
use Rattle.std.proofs.Common.{◌∙◌, ap}
use Rattle.c_grammar_symbols.specs.Sources.{type_named}
use Rattle.c_grammar_symbols.proofs.Seen.{nothing_seen}
use Rattle.c_grammar_symbols.proofs.source.Source.new.Goals as goal

pub returns : goal.returns
returns c = nothing_seen (type_named c.new-2.result)
    (λ q. ap (lookup (λ key. bytes_eq q key.items)) c.new-2.ensures.empty) _
    ∙ c.in_ok-new.ensures
