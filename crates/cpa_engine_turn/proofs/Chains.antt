-- What each step keeps, a chain of steps keeps (`kept_along`), and chains one after another.
use Rattle.std.proofs.Common.{◌≡◌, List, refl, sym, subst}
use Rattle.cpa_model.specs.declared.automaton.Cfa.{Cfa}
use Rattle.cpa_composite.specs.Components.{Component}
use Rattle.cpa_engine_turn.specs.Stages.{Stage}
use Rattle.cpa_engine_turn.specs.Steps.{Does, Leads, stays, goes_on}

pub kept_along : (cfa : Cfa) (cs : List Component) (P : Stage → Type 0)
    → ((m b : Stage) → P m → Does cfa cs m b → P b) → (a b : Stage) → Leads cfa cs a b → P a → P b
kept_along cfa cs P each a b (stays c is) p = subst P (sym is) p
kept_along cfa cs P each a b (goes_on m c leads does) p =
    each m c (kept_along cfa cs P each a m leads p) does

pub leads_then : (cfa : Cfa) (cs : List Component) (a b c : Stage) → Leads cfa cs a b
    → Leads cfa cs b c → Leads cfa cs a c
leads_then cfa cs a b c first (stays d is) = subst (Leads cfa cs a) (sym is) first
leads_then cfa cs a b c first (goes_on m d leads does) =
    goes_on m d (leads_then cfa cs a b m first leads) does

pub leads_one : (cfa : Cfa) (cs : List Component) (a b : Stage) → Does cfa cs a b
    → Leads cfa cs a b
leads_one cfa cs a b does = goes_on a b (stays a refl) does

pub leads_nowhere : (cfa : Cfa) (cs : List Component) (a : Stage) → Leads cfa cs a a
leads_nowhere cfa cs a = stays a refl

-- chains of the same components
pub leads_under : (cfa : Cfa) (cs ds : List Component) (a b : Stage) → cs ≡ ds → Leads cfa cs a b
    → Leads cfa ds a b
leads_under cfa cs ds a b same leads = subst (λ (es : List Component). Leads cfa es a b) same leads
