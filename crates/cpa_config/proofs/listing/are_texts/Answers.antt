use Rattle.std.proofs.Common.{rules, ◌∙◌}
use Rattle.std.proofs.lemmas.Iterator.{YieldsList-from_slice}
use Rattle.std.proofs.lemmas.Iterator.Search.{all_from_yields_List}
use Rattle.std.specs.Prelude.{is_some}
use Rattle.toml.specs.Data.{as_str}
use Rattle.toml.specs.View.{view}
use Rattle.cpa_config.proofs.Lists.{all_of_items}
use Rattle.cpa_config.proofs.listing.are_texts.Goals as goal
use borrow.Author.Tests.{tests}

pub returns : goal.returns
returns c =
    all_from_yields_List (λ item. is_some (as_str (view item))) _ _ c.all.result
    c.all.ensures.ran (YieldsList-from_slice c.args.items.now cc)
    (λ x b q k. search (rules, tests))
    ∙ all_of_items c.args.items.now
