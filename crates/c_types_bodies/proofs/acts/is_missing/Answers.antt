use Rattle.std.proofs.Common.{List, ℕ, sym, ap, ◌∙◌, Option}
use Rattle.std.specs.Str.{bytes_eq}
use Rattle.c_types_rules.specs.Names.{place_of}
use Rattle.c_types_bodies.proofs.Doing.{missing, is_none_of}
use Rattle.c_types_bodies.proofs.acts.is_missing.Goals as goal

pub returns-in-Some : goal.returns-in-Some
returns-in-Some c =
    let labels = c.args.frame.now.labels.now in
    sym (missing c.args.name.now.bytes labels
    ∙ ap (λ (found : Option ℕ). is_none_of found)
    (ap (λ (bytes : List ℕ). place_of (bytes_eq bytes) labels) (sym c.as_slice.ensures)
    ∙ sym c.in-Some.ensures))

pub returns-in-None : goal.returns-in-None
returns-in-None c =
    let labels = c.args.frame.now.labels.now in
    sym (missing c.args.name.now.bytes labels
    ∙ ap (λ (found : Option ℕ). is_none_of found)
    (ap (λ (bytes : List ℕ). place_of (bytes_eq bytes) labels) (sym c.as_slice.ensures)
    ∙ sym c.in-None.ensures))
