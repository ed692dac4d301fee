use Rattle.cpa_model.specs.lemmas.EdgesSound.{edge_sound}
use Rattle.cpa_recheck_obligations.specs.declared.listing.Obligation.TheVariants.{Begins, Leads}
use Rattle.cpa_recheck_obligations.specs.declared.listing.Obligation.TheVariants.{Avoids}
use Rattle.cpa_recheck_obligations.specs.Spots.{as_one}
use Rattle.cpa_recheck_obligations.specs.Laws.{form_is}
use Rattle.cpa_recheck_obligations.specs.lemmas.Breaking.{begins_broken, leads_broken}
use Rattle.cpa_recheck_obligations.specs.lemmas.Breaking.{avoids_broken}
use Rattle.cpa_recheck_obligations.proofs.laws.models_break.Goals as goal

pub returns : goal.returns
returns c = record {
  begins = λ cfa entries values is shaped model.
      begins_broken cfa entries (form_is cfa (as_one entries) Begins is shaped) values model;
  leads = λ cfa entries x g values spot edge old new is shaped of found at stacks model.
      leads_broken cfa entries is x g (c.steps_keep_states.ensures is.program is.well_formed)
      (form_is cfa (as_one entries) (Leads x g) is shaped) values spot edge old new
      (edge_sound cfa g edge is at) of found at stacks model;
  avoids = λ cfa entries x p values spot sites is shaped of found said below model.
      avoids_broken cfa entries is x p (c.automata_are_small.ensures.errors cfa is)
      (form_is cfa (as_one entries) (Avoids x p) is shaped) values spot sites of found said below
      model;
}
