-- One edge more of a sum that stops at the greatest number of 64 bits.
use Rattle.std.proofs.Common.{◌≡◌, ℕ, ◌+◌, ◌≤◌, min, List, ◌∷◌, ◌++◌, Option, Some}
use Rattle.std.proofs.Common.{slice_get, sym, ap, ◌∙◌, arith}
use Rattle.std.specs.List.{sum_by}
use Rattle.std.proofs.lemmas.List.Sums.{sum_by-cons}
use Rattle.cpa_model.specs.declared.automaton.Edge.{Edge}
use Rattle.cpa_model.specs.declared.automaton.Cfa.{Cfa}
use Rattle.cpa_form_rules.specs.Forms.{act_weight}
use Rattle.cpa_folds.specs.Along.{act_of, acts_along}

stops : (total w rest m : ℕ) → min (min (total + min w m) m + rest) m ≡ min (total + (w + rest)) m
stops total w rest m = omega arith

pub weight_on : (cfa : Cfa) (n : ℕ) (ns : List ℕ) (g : Edge) (total m : ℕ)
    → slice_get cfa.edges n ≡ Some g
    → min (min (total + min (act_weight g.act) m) m + sum_by act_weight (acts_along cfa ns)) m
    ≡ min (total + sum_by act_weight (acts_along cfa (n ∷ ns))) m
weight_on cfa n ns g total m at =
    stops total (act_weight g.act) (sum_by act_weight (acts_along cfa ns)) m
    ∙ ap (λ k. min (total + k) m) (sym (sum_by-cons act_weight g.act (acts_along cfa ns)))
    ∙ ap (λ (o : Option Edge). min (total + sum_by act_weight (act_of o ++ acts_along cfa ns)) m)
    (sym at)

-- at the end nothing is left
pub weight_all : (total m w : ℕ) → w ≡ 0 → total ≤ m → min (total + w) m ≡ total
weight_all total m w none within = omega arith
