-- The ranges of a line's numbers and variables, item by item and as the definition says.
use Rattle.std.proofs.Common.{◌≡◌, ℕ, ◌+◌, ◌*◌, ◌/◌, ◌<◌, List, take, length, get_or, ap, ◌∙◌}
use Rattle.std.proofs.Common.{subst, arith}
use Rattle.std.specs.Prelude.{slice_index}
use Rattle.std.proofs.lemmas.List.{get_or_default, length-append, length-map, length-take}
use Rattle.std.proofs.lemmas.List.Elements.{All-from_recursion, recursion_from_All}
use Rattle.std.proofs.lemmas.Option.{slice_get-get_or, slice_get_within, get_or_from_slice_get}
use Rattle.cpa_cnf.specs.declared.formula.Cnf.{Cnf}
use Rattle.cpa_cnf.specs.declared.formula.Step.{Step}
use Rattle.cpa_cnf.specs.declared.formula.Line.{Line}
use Rattle.cpa_cnf.specs.Lines.{known, IsInRange}
use Rattle.cpa_cnf.specs.Marking.{IsInRangeOf}

pub in_range : (vars count : ℕ) (cs : List (List ℕ)) (line : Line) → length cs ≡ count
    → IsInRangeOf vars count line → IsInRange vars cs line
in_range vars count cs line many r = record {
  first = omega (arith, r.first);
  numbers = recursion_from_All (λ (s : Step). s.clause < length cs) line.steps
      (λ k d below. omega (
        arith,
        many,
        (r.steps k (get_or line.steps k d) (slice_get-get_or line.steps k d below)).0,
      ));
  pivots = recursion_from_All (λ (s : Step). s.pivot < vars) line.steps
      (λ k d below. (r.steps k (get_or line.steps k d) (slice_get-get_or line.steps k d below)).1);
  variables = recursion_from_All (λ l. l < 2 * vars) line.clause
      (λ k d below. variable k d below);
}
  where
    variable : (k d : ℕ) → k < length line.clause → get_or line.clause k d < 2 * vars
    variable k d below =
        let small : slice_index line.clause k / 2 < vars = r.variables k below in
        let same : get_or line.clause k d ≡ slice_index line.clause k =
        get_or_default line.clause k d 0 below in
        omega arith

pub in_range_of : (vars count : ℕ) (cs : List (List ℕ)) (line : Line) → length cs ≡ count
    → IsInRange vars cs line → IsInRangeOf vars count line
in_range_of vars count cs line many r = record {
  first = omega (arith, r.first);
  steps = λ k s at.
      let below = slice_get_within line.steps k s at in
      let is = get_or_from_slice_get line.steps k s s at in (
        subst (λ (t : Step). t.clause < count) is
            (omega (
              arith,
              many,
              All-from_recursion (λ (t : Step). t.clause < length cs) line.steps
                  r.numbers k s below,
            )),
        subst (λ (t : Step). t.pivot < vars) is
            (All-from_recursion (λ (t : Step). t.pivot < vars) line.steps r.pivots k s below),
      );
  variables = λ k below. variable k below;
}
  where
    variable : (k : ℕ) → k < length line.clause → slice_index line.clause k / 2 < vars
    variable k below =
        let small : slice_index line.clause k < 2 * vars =
        All-from_recursion (λ l. l < 2 * vars) line.clause r.variables k 0 below in
        omega arith

pub length-known : (cnf : Cnf) (log : List Line) (i : ℕ) → i < length log
    → length (known cnf (take i log)) ≡ length cnf.clauses + i
length-known cnf log i below =
    length-append cnf.clauses _ ∙ ap (λ n. length cnf.clauses + n)
    (length-map (take i log) (λ (line : Line). line.clause) ∙ taken)
  where
    taken : length (take i log) ≡ i
    taken = omega (arith, length-take i log)
