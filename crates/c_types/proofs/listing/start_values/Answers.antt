use Rattle.std.proofs.Common.{ℕ, ℤ, ◌<◌, List, [], length, get_or, Option, IfSome}
use Rattle.std.proofs.Common.{option_map, unwrap_or, sym, subst, ap, ◌∙◌}
use Rattle.std.specs.Str.{bytes_eq}
use Rattle.std.proofs.lemmas.Result.{IfOk-weaker}
use Rattle.c_types_rules.specs.Names.{place_of}
use Rattle.c_types_rules.specs.Sound.{Start}
use Rattle.c_types.proofs.Listed.{start_found, start_within}
use Rattle.c_types.proofs.listing.start_values.Goals as goal

pub bounds-starts-place : goal.bounds-starts-place
bounds-starts-place c =
    let starts = c.args.starts.now in
    let found = c.in-Some.ensures ∙ ap (place_of (bytes_eq c.args.name.now)) c.requires in
    subst (λ (held : Option ℕ). IfSome held (λ n. n < length starts)) (sym found)
    (start_within starts c.args.name.now)

pub returns-in-Some : goal.returns-in-Some
returns-in-Some c =
    let starts = c.args.starts.now in
    let item = c.index-starts-place.result in
    let found = c.in-Some.ensures ∙ ap (place_of (bytes_eq c.args.name.now)) c.requires in
    let there = ap (option_map (λ n. get_or starts n item)) found
    ∙ sym (start_found starts c.args.name.now item) in
    let values = ap (λ (s : Start). s.values) c.index-starts-place.is
    ∙ ap (λ (o : Option Start). unwrap_or (option_map (λ start. start.values) o) []) there in
    IfOk-weaker c.copied_values.result _ _ (λ (v : List ℤ) is. is ∙ values) c.copied_values.ensures

pub returns-in-None : goal.returns-in-None
returns-in-None c =
    let starts = c.args.starts.now in
    let nothing : Start = record { name = []; values = [] } in
    let found = c.in-None.ensures ∙ ap (place_of (bytes_eq c.args.name.now)) c.requires in
    let there = ap (option_map (λ n. get_or starts n nothing)) found
    ∙ sym (start_found starts c.args.name.now nothing) in
    c.new.ensures
    ∙ ap (λ (o : Option Start). unwrap_or (option_map (λ start. start.values) o) []) there
