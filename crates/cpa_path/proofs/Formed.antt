-- The form of a path, edge by edge, and what its law says: its models are the stores along the path
-- (`model_stores`, `none_stores`).
use Rattle.std.proofs.Common.{◌≡◌, ℕ, ℤ, ◌<◌, true, List, [], ◌∷◌, ◌++◌, length, map, Option, Some}
use Rattle.std.proofs.Common.{slice_get, get_or, zero, suc, refl, sym, ap, subst, arith}
use Rattle.std.specs.List.{AllByRecursion}
use Rattle.cpa_model.specs.declared.automaton.Edge.{Edge}
use Rattle.cpa_model.specs.declared.automaton.Cfa.{Cfa}
use Rattle.cpa_model.specs.Acts.{IsEdgeOf}
use Rattle.cpa_query.specs.Queries.{IsModel}
use Rattle.cpa_form_rules.specs.Runs.{taken, Runs}
use Rattle.cpa_form_rules.specs.Forms.{Form, form_from, with_added, inputs_at, last_store}
use Rattle.cpa_form_rules.specs.Laws.{IsAddedOf, IsFormOf}
use Rattle.cpa_path.specs.Paths.{added_along, path_form, HasStores}
use Rattle.cpa_folds.specs.Along.{act_of, acts_along}

there_is : {X : Type 0} (xs : List X) (i : ℕ) → i < length xs → (x : X) × (slice_get xs i ≡ Some x)
there_is [] i less = absurd (omega (arith, less))
there_is (x ∷ xs) zero less = (x, refl)
there_is (x ∷ xs) (suc i) less = there_is xs i (omega (arith, less))

-- the edge at a place of a path
pub edge_at : (cfa : Cfa) (path : List ℕ) (i : ℕ) → i < length path
    → AllByRecursion (λ n. n < length cfa.edges) path
    → (g : Edge) × (slice_get cfa.edges (get_or path i 0) ≡ Some g)
edge_at cfa [] i less inside = absurd (omega (arith, less))
edge_at cfa (n ∷ path) zero less inside = there_is cfa.edges n inside.0
edge_at cfa (n ∷ path) (suc i) less inside =
    edge_at cfa path i (omega (arith, less)) inside.1

-- the acts along a path fit the automaton
pub added_fit : (cfa : Cfa)
    → ((k : ℕ) (g : Edge) → slice_get cfa.edges k ≡ Some g → IsEdgeOf cfa g) → (path : List ℕ)
    → AllByRecursion (λ n. n < length cfa.edges) path
    → AllByRecursion (IsAddedOf cfa) (added_along cfa path)
added_fit cfa sound [] inside = tt
added_fit cfa sound (n ∷ path) inside =
    let g = there_is cfa.edges n inside.0 in
    subst (λ (o : Option Edge). AllByRecursion (IsAddedOf cfa)
    (map taken (act_of o ++ acts_along cfa path)))
    (sym g.1) ((sound n g.0 g.1).act, added_fit cfa sound path inside.1)

-- one edge more
pub form_on : (cfa : Cfa) (n : ℕ) (ns : List ℕ) (g : Edge) (form : Form)
    → slice_get cfa.edges n ≡ Some g
    → form_from (with_added (taken g.act) form) (added_along cfa ns)
    ≡ form_from form (added_along cfa (n ∷ ns))
form_on cfa n ns g form at =
    ap (λ (o : Option Edge). form_from form (map taken (act_of o ++ acts_along cfa ns))) (sym at)

-- a model is a run of stores
pub model_stores : (cfa : Cfa) (path : List ℕ) (values : List ℤ)
    → IsFormOf cfa true (added_along cfa path) (path_form cfa path)
    → IsModel (path_form cfa path).query values
    → HasStores cfa path (inputs_at (path_form cfa path) values)
    (last_store (path_form cfa path) values)
model_stores cfa path values form is =
    let whole = path_form cfa path in
    subst (λ (first : List ℤ). Runs cfa.cells (added_along cfa path) first (inputs_at whole values)
    (last_store whole values)) (form.begins values is) (form.run values is)

-- and a run of stores is in some model
pub none_stores : (cfa : Cfa) (path : List ℕ)
    → IsFormOf cfa true (added_along cfa path) (path_form cfa path)
    → ((values : List ℤ) → IsModel (path_form cfa path).query values → ⊥) → (inputs last : List ℤ)
    → HasStores cfa path inputs last → ⊥
none_stores cfa path form none inputs last stores =
    let found = form.model (map (λ cell. cell.start) cfa.cells) inputs last refl stores in
    none found.0 found.1
