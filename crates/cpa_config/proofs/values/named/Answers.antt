use Rattle.std.proofs.Common.{rules, ◌≡◌, ◌∙◌, ap, option_map}
use Rattle.std.proofs.lemmas.Iterator.{YieldsList-from_slice}
use Rattle.std.proofs.lemmas.Iterator.Search.{find_from_yields_List}
use Rattle.std.specs.Str.{bytes_eq}
use Rattle.cpa_config.proofs.Tables.{named_bytes}
use Rattle.cpa_config.proofs.values.named.Goals as goal
use borrow.Author.Tests.{tests}

pub returns : goal.returns
returns g c =
    let found = find_from_yields_List (λ row. bytes_eq row.0.now c.args.word.now) _ _ c.find.result
    c.find.ensures.ran (YieldsList-from_slice c.args.rows.now cc)
    (λ x b q k. search (rules, tests)) in
    let mapped : c.map.result
    ≡ option_map (λ row. row.1) (option_map (λ row. row.now) c.find.result) = search rules in
    mapped ∙ ap (λ row. option_map (λ r. r.1) row) found
    ∙ named_bytes c.args.rows.now c.args.word.now
