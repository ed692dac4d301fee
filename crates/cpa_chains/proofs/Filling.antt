-- What is folded by the table of the variables of B is what the definitions say.
use Rattle.std.proofs.Common.{◌≡◌, ℕ, ◌/◌, ◌<◌, Bool, true, false, not, cond, ◌&&◌}
use Rattle.std.proofs.Common.{List, [], ◌∷◌, map, length, get_or, refl, sym, ap, ◌∙◌, subst, arith}
use Rattle.std.specs.Prelude.{filter, ◌==◌}
use Rattle.std.specs.List.{AllByRecursion, list_any}
use Rattle.std.proofs.lemmas.Bool.{eq-eqb}
use Rattle.std.proofs.lemmas.List.Elements.{recursion_from_All}
use Rattle.std.proofs.lemmas.Option.{slice_get-get_or}
use Rattle.cpa_cnf.specs.declared.formula.Cnf.{Cnf}
use Rattle.cpa_cnf.specs.declared.formula.Line.{Line}
use Rattle.cpa_cnf.specs.declared.formula.Step.{Step}
use Rattle.cpa_cnf.specs.Lines.{AreBelow, AreGood}
use Rattle.cpa_cnf.specs.lemmas.Members.{or_true_left, or_true_right}
use Rattle.cpa_chains.specs.declared.partial.Joint.{Joint}
use Rattle.cpa_chains.specs.declared.partial.Leaf.{Leaf}
use Rattle.cpa_chains.specs.declared.partial.Leaf.TheVariants.{Always, Any}
use Rattle.cpa_chains.specs.declared.partial.Partial.{Partial}
use Rattle.cpa_chains.specs.Sides.{clauses_on, has_variable, stands_on, is_shared}
use Rattle.cpa_chains.specs.Partials.{joint_of, partial_of, partials_of, leaf_of}
use Rattle.cpa_chains.specs.Partials.{leaves_by, leaves_of}
use Rattle.cpa_chains.specs.Tables.{IsTable, joint_by, partial_by, FitsTable, is_noted}
use Rattle.cpa_chains.specs.Tables.{leaves_noted}

abbrev PivotsBelow : ℕ → Line → Type 0
PivotsBelow vars line = AllByRecursion (λ (s : Step). s.pivot < vars) line.steps

pivots_below : (cnf : Cnf) (log : List Line) → AreGood cnf log
    → AllByRecursion (PivotsBelow cnf.vars) log
pivots_below cnf log good = recursion_from_All (PivotsBelow cnf.vars) log
    (λ k d below. (good k (get_or log k d) (slice_get-get_or log k d below)).range.pivots)

steps_fit : (table : List Bool) (vars : ℕ) (ss : List Step) → length table ≡ vars
    → AllByRecursion (λ (s : Step). s.pivot < vars) ss
    → AllByRecursion (λ (s : Step). s.pivot < length table) ss
steps_fit table vars [] long all = tt
steps_fit table vars (s ∷ ss) long all =
    (omega (arith, long, all.0), steps_fit table vars ss long all.1)

lines_fit : (table : List Bool) (vars : ℕ) (ls : List Line) → length table ≡ vars
    → AllByRecursion (PivotsBelow vars) ls → AllByRecursion (FitsTable table) ls
lines_fit table vars [] long all = tt
lines_fit table vars (l ∷ ls) long all =
    (steps_fit table vars l.steps long all.0, lines_fit table vars ls long all.1)

-- the pivots of a good log lie within the table
pub all_fit : (cnf : Cnf) (sides : List Bool) (table : List Bool) (log : List Line)
    → IsTable cnf sides table → AreGood cnf log → AllByRecursion (FitsTable table) log
all_fit cnf sides table log is good =
    lines_fit table cnf.vars log is.long (pivots_below cnf log good)

abbrev joint_at : Step → Bool → Joint
joint_at step b = record { or = not b; clause = step.clause }

abbrev partial_at : Line → List Joint → Partial
partial_at line joints = record { first = line.first; joints = joints }

joints_same : (cnf : Cnf) (sides : List Bool) (table : List Bool) (ss : List Step)
    → IsTable cnf sides table → AllByRecursion (λ (s : Step). s.pivot < cnf.vars) ss
    → map (joint_by table) ss ≡ map (joint_of cnf sides) ss
joints_same cnf sides table [] is all = refl
joints_same cnf sides table (s ∷ ss) is all =
    ap (λ b. joint_at s b ∷ map (joint_by table) ss) (is.has s.pivot all.0)
    ∙ ap (λ (js : List Joint). joint_of cnf sides s ∷ js) (joints_same cnf sides table ss is all.1)

lines_same : (cnf : Cnf) (sides : List Bool) (table : List Bool) (ls : List Line)
    → IsTable cnf sides table → AllByRecursion (PivotsBelow cnf.vars) ls
    → map (partial_by table) ls ≡ partials_of cnf sides ls
lines_same cnf sides table [] is all = refl
lines_same cnf sides table (l ∷ ls) is all =
    ap (λ (js : List Joint). partial_at l js ∷ map (partial_by table) ls)
    (joints_same cnf sides table l.steps is all.0)
    ∙ ap (λ (ps : List Partial). partial_of cnf sides l ∷ ps)
    (lines_same cnf sides table ls is all.1)

-- the partials by the table are those of the definition
pub all_same : (cnf : Cnf) (sides : List Bool) (table : List Bool) (log : List Line)
    → IsTable cnf sides table → AreGood cnf log
    → map (partial_by table) log ≡ partials_of cnf sides log
all_same cnf sides table log is good =
    lines_same cnf sides table log is (pivots_below cnf log good)

-- of a clause of A whose literals lie within the table, the noted ones are the shared ones
noted_same : (cnf : Cnf) (sides : List Bool) (table : List Bool) (c : List ℕ)
    → IsTable cnf sides table → AreBelow cnf.vars c
    → ((x : ℕ) → has_variable c x ≡ true → stands_on true cnf sides x ≡ true)
    → filter (is_noted table) c ≡ filter (λ l. is_shared cnf sides (l / 2)) c
noted_same cnf sides table [] is below within = refl
noted_same cnf sides table (l ∷ ls) is below within =
    ap (λ b. cond b (l ∷ filter (is_noted table) ls) (filter (is_noted table) ls)) here
    ∙ ap (λ (ks : List ℕ). cond (is_shared cnf sides (l / 2)) (l ∷ ks) ks)
    (noted_same cnf sides table ls is below.1
    (λ x h. within x (or_true_right (l / 2 == x) (has_variable ls x) h)))
  where
    inside : l / 2 < cnf.vars
    inside = omega (arith, below.0)

    on_first : stands_on true cnf sides (l / 2) ≡ true
    on_first = within (l / 2)
        (or_true_left (l / 2 == l / 2) (has_variable ls (l / 2)) (eq-eqb (l / 2) (l / 2) refl))

    here : is_noted table l ≡ is_shared cnf sides (l / 2)
    here = is.has (l / 2) inside
        ∙ sym (ap (λ b. b && stands_on false cnf sides (l / 2)) on_first)

leaves_same : (cnf : Cnf) (sides : List Bool) (table : List Bool) (ss : List Bool)
    (cs : List (List ℕ)) → IsTable cnf sides table → AllByRecursion (AreBelow cnf.vars) cs
    → ((x : ℕ) → list_any (λ d. has_variable d x) (clauses_on true ss cs) ≡ true
    → stands_on true cnf sides x ≡ true)
    → leaves_noted table ss cs ≡ leaves_by cnf sides ss cs
leaves_same cnf sides table [] cs is below within = refl
leaves_same cnf sides table (s ∷ ss) [] is below within = refl
leaves_same cnf sides table (true ∷ ss) (c ∷ cs) is below within =
    ap (λ (ls : List ℕ). Any ls ∷ leaves_noted table ss cs)
    (noted_same cnf sides table c is below.0
    (λ x h. within x
    (or_true_left (has_variable c x) (list_any (λ d. has_variable d x) (clauses_on true ss cs)) h)))
    ∙ ap (λ (ls : List Leaf). leaf_of cnf sides true c ∷ ls)
    (leaves_same cnf sides table ss cs is below.1
    (λ x h. within x
    (or_true_right (has_variable c x) (list_any (λ d. has_variable d x) (clauses_on true ss cs))
    h)))
leaves_same cnf sides table (false ∷ ss) (c ∷ cs) is below within =
    ap (λ (ls : List Leaf). Always ∷ ls)
    (leaves_same cnf sides table ss cs is below.1 within)

-- the partials of the clauses by the table are those of the definition
pub all_leaves_same : (cnf : Cnf) (sides : List Bool) (table : List Bool)
    → IsTable cnf sides table → AllByRecursion (AreBelow cnf.vars) cnf.clauses
    → leaves_noted table sides cnf.clauses ≡ leaves_of cnf sides
all_leaves_same cnf sides table is below =
    leaves_same cnf sides table sides cnf.clauses is below (λ x h. h)

pub all_below : (table : List Bool) (vars : ℕ) (cs : List (List ℕ)) → length table ≡ vars
    → AllByRecursion (AreBelow vars) cs → AllByRecursion (AreBelow (length table)) cs
all_below table vars cs long all =
    subst (λ n. AllByRecursion (AreBelow n) cs) (sym long) all
