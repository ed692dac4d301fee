use Rattle.std.proofs.Common.{◌≡◌, sym, ap, ◌∙◌}
use Rattle.std.specs.Prelude.{slice_get}
use Rattle.cpa_facts.specs.declared.fact.Fact.TheVariants.{Equals}
use Rattle.cpa_iface.specs.Common.{stands_in}
use Rattle.cpa_value_changes.specs.Tables.{place_in}
use Rattle.cpa_value.specs.Merging.{stands_at}
use Rattle.cpa_value.proofs.MergingLemmas.{value_stands, other_stands, unlike}
use Rattle.cpa_value.proofs.merging.place_for.Goals as goal

pub returns-in-Equals : goal.returns-in-Equals
returns-in-Equals c = λ n ordered.
    let facts = c.args.facts.now in
    let cell = c.in-Equals.cell in
    let is : c.args.fact.now ≡ Equals cell c.in-Equals.value = c.in-Equals.is in
    ap (λ p. stands_at (slice_get facts p) c.args.fact.now) (c.place_near.ensures n ordered)
    ∙ (ap (stands_at (slice_get facts (place_in cell facts))) is
    ∙ (value_stands n 0 cell c.in-Equals.value facts ordered ∙ sym (ap (stands_in facts) is)))

pub returns-in_default : goal.returns-in_default
returns-in_default c = λ n ordered.
    other_stands n c.len.result c.args.fact.now c.args.facts.now c.len.ensures ordered
    (unlike c.args.fact.now c.in_default.not-Equals)
