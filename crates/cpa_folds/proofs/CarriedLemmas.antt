-- What is carried over one edge more, from the last to the first.
use Rattle.std.proofs.Common.{◌≡◌, ℕ, ◌<◌, List, ◌∷◌, ◌++◌, sym, ap, ◌∙◌, drop, get_or}
use Rattle.std.proofs.Common.{drop-cons, suc}
use Rattle.std.specs.Prelude.{length, Option, Some, slice_get}
use Rattle.cpa_model.specs.declared.automaton.Edge.{Edge}
use Rattle.cpa_model.specs.declared.automaton.Cfa.{Cfa}
use Rattle.cpa_folds.specs.declared.carrying.CarriedLists.{CarriedLists}
use Rattle.cpa_folds.specs.Along.{act_of, acts_along}
use Rattle.cpa_folds.specs.Carried.{carried_along, carried_over}

-- over the edge in front of the later ones
edge_more : (cfa : Cfa) (g : Edge) (edge : ℕ) (edges : List ℕ) (now : CarriedLists)
    → slice_get cfa.edges edge ≡ Some g → now ≡ carried_along (acts_along cfa edges)
    → carried_over g.act now ≡ carried_along (acts_along cfa (edge ∷ edges))
edge_more cfa g edge edges now at is =
    ap (carried_over g.act) is
    ∙ ap (λ (o : Option Edge). carried_along (act_of o ++ acts_along cfa edges)) (sym at)

-- the same at the place before
pub place_more : (cfa : Cfa) (g : Edge) (edges : List ℕ) (place before edge : ℕ)
    (now : CarriedLists)
    → place ≡ suc before → before < length edges → edge ≡ get_or edges before 0
    → slice_get cfa.edges edge ≡ Some g
    → now ≡ carried_along (acts_along cfa (drop place edges))
    → carried_over g.act now ≡ carried_along (acts_along cfa (drop before edges))
place_more cfa g edges place before edge now next inside this at is =
    edge_more cfa g edge (drop place edges) now at is
    ∙ ap (λ es. carried_along (acts_along cfa es))
    (ap (λ e. e ∷ drop place edges) this
    ∙ (ap (λ n. get_or edges before 0 ∷ drop n edges) next ∙ sym (drop-cons edges before 0 inside)))
