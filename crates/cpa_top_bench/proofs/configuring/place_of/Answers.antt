use Rattle.std.proofs.Common.{rules, ◌∙◌}
use Rattle.std.proofs.lemmas.Iterator.{YieldsList-from_slice}
use Rattle.std.proofs.lemmas.Iterator.Search.{position_from_yields_List}
use Rattle.std.specs.Str.{bytes_eq}
use Rattle.std.specs.String.{string_bytes}
use Rattle.cpa_top_bench.proofs.Picks.{position_of_bytes}
use Rattle.cpa_top_bench.proofs.configuring.place_of.Goals as goal
use borrow.Author.Tests.{tests}

pub returns : goal.returns
returns c =
    position_from_yields_List (λ other. bytes_eq (string_bytes other) c.args.name.now) _ _
    c.position.result c.position.ensures.ran (YieldsList-from_slice c.args.handed.now cc)
    (λ x b q k. search (rules, tests))
    ∙ position_of_bytes c.args.handed.now c.args.name.now
