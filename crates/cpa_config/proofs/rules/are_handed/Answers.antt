use Rattle.std.proofs.Common.{rules, ◌∙◌, map}
use Rattle.std.proofs.lemmas.Iterator.{YieldsList-from_slice}
use Rattle.std.proofs.lemmas.Iterator.Search.{all_from_yields_List}
use Rattle.std.specs.Prelude.{is_some}
use Rattle.std.specs.String.{string_bytes}
use Rattle.cpa_config.specs.Values.{place_of}
use Rattle.cpa_config.proofs.Lists.{all_of_bytes}
use Rattle.cpa_config.proofs.rules.are_handed.Goals as goal
use borrow.Author.Tests.{tests}

pub returns : goal.returns
returns c =
    let handed = map string_bytes c.args.handed.now in
    all_from_yields_List (λ name. is_some (place_of handed name.now)) _ _ c.all.result
    c.all.ensures.ran (YieldsList-from_slice c.args.names.now cc)
    (λ x b q k. search (rules, tests))
    ∙ all_of_bytes (λ name. is_some (place_of handed name)) c.args.names.now
