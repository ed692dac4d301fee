-- An act of what cannot trap leads on.
use Rattle.cpa_predicate.proofs.LeadingLemmas.{skip_leads, call_leads, return_leads, input_leads}
use Rattle.cpa_predicate.proofs.LeadingLemmas.{assign_leads}
use Rattle.cpa_predicate.proofs.leading.always_leads_on.Goals as goal

pub returns-then-is_number_below : goal.returns-then-is_number_below
returns-then-is_number_below c = λ never cfa is.
    assign_leads cfa _ _ _ _ _ c.in-Assign.is
    (c.is_number_below.ensures c.if-is_number_below.true) (c.never_traps.ensures never) is

pub returns-in-Skip : goal.returns-in-Skip
returns-in-Skip c = λ _ cfa is. skip_leads cfa _ c.in-Skip.is

pub returns-in-Input : goal.returns-in-Input
returns-in-Input c = λ _ cfa is. input_leads cfa _ _ c.in-Input.is is

pub returns-in-Call : goal.returns-in-Call
returns-in-Call c = λ _ cfa is. call_leads cfa _ _ c.in-Call.is

pub returns-in-Return : goal.returns-in-Return
returns-in-Return c = λ _ cfa is. return_leads cfa _ _ c.in-Return.is
