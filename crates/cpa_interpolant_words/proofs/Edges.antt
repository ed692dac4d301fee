-- One edge more of the part behind a cut.
use Rattle.std.proofs.Common.{◌≡◌, ℕ, zero, suc, ◌<◌, ◌++◌, List, [], ◌∷◌, length, map, Option}
use Rattle.std.proofs.Common.{Some}
use Rattle.std.proofs.Common.{slice_get, get_or, refl, sym, ap, arith}
use Rattle.std.specs.List.{AllByRecursion}
use Rattle.cpa_model.specs.declared.automaton.Edge.{Edge}
use Rattle.cpa_model.specs.declared.automaton.Cfa.{Cfa}
use Rattle.cpa_form_rules.specs.Runs.{taken}
use Rattle.cpa_form_rules.specs.Forms.{Form, form_from, with_added}
use Rattle.cpa_folds.specs.Along.{act_of, acts_along}
use Rattle.cpa_interpolant_rules.specs.Parts.{added_behind}

there_is : {X : Type 0} (xs : List X) (i : ℕ) → i < length xs → (x : X) × (slice_get xs i ≡ Some x)
there_is [] i less = absurd (omega (arith, less))
there_is (x ∷ xs) zero less = (x, refl)
there_is (x ∷ xs) (suc i) less = there_is xs i (omega (arith, less))

-- the edge at a place of a path
pub edge_at : (cfa : Cfa) (path : List ℕ) (i : ℕ) → i < length path
    → AllByRecursion (λ n. n < length cfa.edges) path
    → (g : Edge) × (slice_get cfa.edges (get_or path i 0) ≡ Some g)
edge_at cfa [] i less inside = absurd (omega (arith, less))
edge_at cfa (n ∷ path) zero less inside = there_is cfa.edges n inside.0
edge_at cfa (n ∷ path) (suc i) less inside =
    edge_at cfa path i (omega (arith, less)) inside.1

-- one edge more
pub form_on : (cfa : Cfa) (n : ℕ) (ns : List ℕ) (g : Edge) (form : Form)
    → slice_get cfa.edges n ≡ Some g
    → form_from (with_added (taken g.act) form) (added_behind (acts_along cfa ns))
    ≡ form_from form (added_behind (acts_along cfa (n ∷ ns)))
form_on cfa n ns g form at =
    ap (λ (o : Option Edge). form_from form (map taken (act_of o ++ acts_along cfa ns))) (sym at)
