-- The last partial of a refutation is an interpolant of its two sides.
use Rattle.std.proofs.Common.{◌≡◌, ℕ, ◌+◌, ◌-◌, ◌<◌, Bool, true, false, not, List, [], ◌∷◌}
use Rattle.std.proofs.Common.{inl, inr, map, take, length, refl, sym, ap, ◌∙◌, subst}
use Rattle.std.proofs.Common.{arith, None, Some, Option}
use Rattle.std.specs.Prelude.{slice_index_or, option_map}
use Rattle.std.specs.List.{AllByRecursion, slice_get}
use Rattle.std.proofs.lemmas.Bool.{cases_Bool, false≢true}
use Rattle.std.proofs.lemmas.List.{length-append, length-map, length-take, get_or-append-add}
use Rattle.std.proofs.lemmas.Option.{slice_get_within, get_or_from_slice_get, slice_get-map}
use Rattle.cpa_cnf.specs.declared.formula.Cnf.{Cnf}
use Rattle.cpa_cnf.specs.declared.formula.Line.{Line}
use Rattle.cpa_cnf.specs.declared.formula.Step.{Step}
use Rattle.cpa_cnf.specs.Lines.{known, AreGood, IsRefutation}
use Rattle.cpa_chains.specs.declared.partial.Joint.{Joint}
use Rattle.cpa_chains.specs.declared.partial.Partial.{Partial}
use Rattle.cpa_chains.specs.Sides.{is_local}
use Rattle.cpa_chains.specs.Partials.{joint_of, partial_of, partials_of, leaves_of, leaf_value}
use Rattle.cpa_chains.specs.Partials.{values_behind, last_value}
use Rattle.cpa_chains.specs.Interpolants.{SatisfiesSide, IsInterpolant, NameEarlier}
use Rattle.cpa_chains.proofs.Restricted.{SatisfiesBy}
use Rattle.cpa_chains.proofs.Chaining.{FromFirst, FromSecond, step_first, step_second}
use Rattle.cpa_chains.proofs.Pairing.{Each, each_at, each_length, all_lines}
use Rattle.cpa_chains.proofs.Bases.{first_bases, second_bases, same_bases}

-- the last clause of a refutation, by its number
last_empty : (cnf : Cnf) (log : List Line) (count : ℕ) → IsRefutation cnf log
    → count ≡ length (known cnf log)
    → slice_index_or (known cnf log) (count - 1) [] ≡ []
last_empty cnf log count refutes is =
    ap (λ k. slice_index_or (known cnf log) k []) place
    ∙ get_or-append-add cnf.clauses clauses (length log - 1) []
    ∙ get_or_from_slice_get clauses (length log - 1) [] [] refutes.last
  where
    clauses : List (List ℕ)
    clauses = map (λ (line : Line). line.clause) log

    place : count - 1 ≡ length cnf.clauses + (length log - 1)
    place = omega (
      arith,
      is,
      length-append cnf.clauses (map (λ (line : Line). line.clause) log),
      length-map log (λ (line : Line). line.clause),
      slice_get_within (map (λ (line : Line). line.clause) log) (length log - 1) [] refutes.last,
    )

-- a fact of each clause and value is one of the empty clause and the last value
last_fact : (R : List ℕ → Bool → Type 0) (cnf : Cnf) (log : List Line) (vs : List Bool)
    → IsRefutation cnf log → Each R (known cnf log) vs
    → R [] (slice_index_or vs (length vs - 1) false)
last_fact R cnf log vs refutes all =
    let same = each_length R (known cnf log) vs all in
    subst (λ (c : List ℕ). R c (slice_index_or vs (length vs - 1) false))
    (last_empty cnf log (length vs) refutes same)
    (each_at R (known cnf log) vs all (length vs - 1) (omega (arith, same, some)))
  where
    some : 0 < length (known cnf log)
    some = omega (
      arith,
      length-append cnf.clauses (map (λ (line : Line). line.clause) log),
      slice_get_within (map (λ (line : Line). line.clause) log) (length log - 1) [] refutes.last,
    )

none_true : (test : ℕ → Bool) (values : List Bool) → SatisfiesBy test values [] → ⊥
none_true test values (l, here, _, _) = false≢true here

follows : (cnf : Cnf) (sides : List Bool) (log : List Line) (values : List Bool)
    → length sides ≡ length cnf.clauses → IsRefutation cnf log
    → SatisfiesSide true cnf sides values
    → last_value values (leaves_of cnf sides) (partials_of cnf sides log) ≡ true
follows cnf sides log values long refutes all =
    elim (last_fact (FromFirst (is_local cnf sides) values) cnf log
    (values_behind (map (leaf_value values) (leaves_of cnf sides)) (partials_of cnf sides log))
    refutes
    (all_lines (FromFirst (is_local cnf sides) values) (is_local cnf sides)
    (step_first (is_local cnf sides) values) cnf log
    (map (leaf_value values) (leaves_of cnf sides)) refutes.good
    (first_bases cnf sides values long all))) [
      | inl e ↦ e
      | inr h ↦ absurd (none_true (is_local cnf sides) values h)
    ]

refuted : (cnf : Cnf) (sides : List Bool) (log : List Line) (values : List Bool)
    → length sides ≡ length cnf.clauses → IsRefutation cnf log
    → SatisfiesSide false cnf sides values
    → last_value values (leaves_of cnf sides) (partials_of cnf sides log) ≡ false
refuted cnf sides log values long refutes all =
    elim (cases_Bool (last_value values (leaves_of cnf sides) (partials_of cnf sides log))) [
      | inl e ↦ absurd (none_true (λ x. not (is_local cnf sides x)) values
          (last_fact (FromSecond (is_local cnf sides) values) cnf log
          (values_behind (map (leaf_value values) (leaves_of cnf sides))
          (partials_of cnf sides log))
          refutes
          (all_lines (FromSecond (is_local cnf sides) values) (is_local cnf sides)
          (step_second (is_local cnf sides) values) cnf log
          (map (leaf_value values) (leaves_of cnf sides)) refutes.good
          (second_bases cnf sides values long all)) e))
      | inr e ↦ e
    ]

-- The partials of a refutation have an interpolant at their end.
pub interpolates : (cnf : Cnf) (sides : List Bool) (log : List Line)
    → length sides ≡ length cnf.clauses → IsRefutation cnf log
    → IsInterpolant cnf sides (partials_of cnf sides log)
interpolates cnf sides log long refutes = record {
  follows = λ values. follows cnf sides log values long refutes;
  refutes = λ values. refuted cnf sides log values long refutes;
  shared = λ values others agree.
      ap (λ (vs : List Bool). slice_index_or (values_behind vs (partials_of cnf sides log))
      (length (values_behind vs (partials_of cnf sides log)) - 1) false)
      (same_bases cnf sides values others agree);
}

some_from_map : (f : Line → Partial) (found : Option Line) (p : Partial)
    → option_map f found ≡ Some p → (line : Line) × (found ≡ Some line) × (f line ≡ p)
some_from_map f None p h = absurd (none_some p h)
  where
    none_some : (q : Partial) → None ≡ Some q → ⊥
    none_some q e = cc
some_from_map f (Some line) p h = (line, refl, same (f line) p h)
  where
    same : (a b : Partial) → Some a ≡ Some b → a ≡ b
    same a b e = cc

joints_below : (cnf : Cnf) (sides : List Bool) (n m : ℕ) (ss : List Step) → n ≡ m
    → AllByRecursion (λ (s : Step). s.clause < n) ss
    → AllByRecursion (λ (j : Joint). j.clause < m) (map (joint_of cnf sides) ss)
joints_below cnf sides n m [] same all = tt
joints_below cnf sides n m (s ∷ ss) same all =
    (omega (arith, same, all.0), joints_below cnf sides n m ss same all.1)

length-known : (cnf : Cnf) (log : List Line) (i : ℕ) → i < length log
    → length (known cnf (take i log)) ≡ length cnf.clauses + i
length-known cnf log i below = omega (
  arith,
  length-append cnf.clauses (map (λ (line : Line). line.clause) (take i log)),
  length-map (take i log) (λ (line : Line). line.clause),
  length-take i log,
)

-- each partial names clauses or earlier partials
pub in_order : (cnf : Cnf) (sides : List Bool) (log : List Line) → AreGood cnf log
    → NameEarlier (length cnf.clauses) (partials_of cnf sides log)
in_order cnf sides log good i p at =
    let found = some_from_map (partial_of cnf sides) (slice_get log i) p
    (sym (slice_get-map (partial_of cnf sides) log i) ∙ at) in
    let line = found.0 in
    let range = (good i line found.1).range in
    let many = length-known cnf log i (slice_get_within log i line found.1) in
    subst (λ (q : Partial). (q.first < length cnf.clauses + i)
    × AllByRecursion (λ (j : Joint). j.clause < length cnf.clauses + i) q.joints) found.2 (
      omega (arith, many, range.first),
      joints_below cnf sides (length (known cnf (take i log))) (length cnf.clauses + i) line.steps
          many range.numbers,
    )
