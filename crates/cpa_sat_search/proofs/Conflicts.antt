-- What a resolution on the trail leaves.
use Rattle.std.proofs.Common.{◌≡◌, ℕ, ◌+◌, ◌*◌, ◌^◌, ◌<◌, ◌≤◌, true, false, not}
use Rattle.std.proofs.Common.{◌&&◌, List, ◌⊎◌, inl, inr, length, sym, ap}
use Rattle.std.proofs.Common.{◌∙◌, subst, arith}
use Rattle.std.specs.Prelude.{◌==◌}
use Rattle.std.proofs.lemmas.Bool.{or_cases, and_parts, not-true, eqb-false, cases_eq, false≢true}
use Rattle.cpa_cnf.specs.Literals.{opposite}
use Rattle.cpa_cnf.specs.Clauses.{has}
use Rattle.cpa_cnf.specs.Marking.{marked}
use Rattle.cpa_cnf.specs.lemmas.Chains.{union_keeps_first}
use Rattle.cpa_sat_search.specs.declared.analysis.Analysis.{Analysis}
use Rattle.cpa_sat_trail.specs.declared.assertion.Jump.{Jump}
use Rattle.cpa_sat_trail.specs.declared.trail.Trail.{Trail}
use Rattle.cpa_sat_arena.specs.declared.literal.TheConstants.{NO_CLAUSE}
use Rattle.cpa_sat_trail.specs.declared.trail.TheConstants.{NO_PLACE}
use Rattle.cpa_sat_trail.specs.Trails.{IsTrail, IsReasonFor, height, lit_at, reason_at, place_of}
use Rattle.cpa_sat_search.specs.Analyses.{AreFalseBefore, AreOthersBefore, GivesWay, HasUnion}
use Rattle.cpa_sat_search.specs.Analyses.{IsAsserting}
use Rattle.cpa_sat_search.specs.Analyses.{IsReducible}
use Rattle.cpa_sat_trail.specs.lemmas.TrailSteps.{opposite_twice, opposite_below}
use Rattle.cpa_sat_search.proofs.Marks.{marked_inside}

pub gives_way : (a b : Analysis) (t : Trail) (place : ℕ) (clause : List ℕ) (x : ℕ)
    → x ≡ opposite (lit_at t place) → HasUnion a clause x b → IsReasonFor clause t place
    → GivesWay a t place b
gives_way a b t place clause x is union reason = record {
  stays = λ l h ne. union l ∙ union_keeps_first (marked a.marks.items) (has clause) x l
      (λ e. ne (e ∙ is)) h;
  comes = λ l h. elim (or_cases (marked a.marks.items l && not (l == x))
      (has clause l && not (l == opposite x)) (sym (union l) ∙ h)) [
        | inl e ↦ let parts = and_parts (marked a.marks.items l) (not (l == x)) e in
            inl (parts.0, λ same. eqb-false l x (not-true _ parts.1) (same ∙ sym is))
        | inr e ↦ let parts = and_parts (has clause l) (not (l == opposite x)) e in
            inr (reason.others l parts.0
            (λ same. eqb-false l (opposite x) (not-true _ parts.1) (same
            ∙ sym (ap opposite is ∙ opposite_twice (lit_at t place)))))
      ];
}

-- a literal that is true is not marked, since the marked ones are false
pub true_unmarked : (a : Analysis) (t : Trail) (place : ℕ) → IsTrail t
    → AreFalseBefore a t (height t) → place < height t
    → marked a.marks.items (lit_at t place) ≡ true → ⊥
true_unmarked a t place s untrue inside h =
    let here : place_of t (lit_at t place) ≡ place = s.stands place inside in
    let none : place_of t (opposite (lit_at t place)) ≡ NO_PLACE =
    s.one (lit_at t place) (s.below place inside)
    (λ e. far place (height t) t.vars inside s.short s.small (sym here ∙ e)) in
    far_below _ (height t) t.vars (untrue (lit_at t place) h) s.short s.small none
  where
    far : (p n v : ℕ) → p < n → n ≤ v → v < 2 ^ 31 → p ≡ NO_PLACE → ⊥
    far p n v h k m e = absurd (omega arith)

    far_below : (q n v : ℕ) → q < n → n ≤ v → v < 2 ^ 31 → q ≡ NO_PLACE → ⊥
    far_below q n v h k m e = absurd (omega arith)

below_one : (p n : ℕ) → p < n + 1 → (p ≡ n → ⊥) → p < n
below_one p n h ne = omega arith

far : (p n v : ℕ) → p < n → n ≤ v → v < 2 ^ 31 → p ≡ NO_PLACE → ⊥
far p n v h k m e = absurd (omega arith)

-- another marked literal than the one that became false at the place did so at another place
pub other_before : (a : Analysis) (t : Trail) (place x : ℕ) → IsTrail t
    → length a.marks.items ≡ 2 * t.vars → place < height t → marked a.marks.items x ≡ true
    → (x ≡ opposite (lit_at t place) → ⊥) → place_of t (opposite x) < place + 1
    → place_of t (opposite x) < place
other_before a t place x s long inside m ne less = go (cases_eq (place_of t (opposite x)) place)
  where
    go : (place_of t (opposite x) ≡ place) ⊎ (place_of t (opposite x) ≡ place → ⊥)
        → place_of t (opposite x) < place
    go (inl e) =
        let range : opposite x < 2 * t.vars =
        opposite_below x t.vars (subst (λ n. x < n) long (marked_inside a.marks.items x m)) in
        let there : lit_at t (place_of t (opposite x)) ≡ opposite x =
        s.back (opposite x) range
        (λ none. far place (height t) t.vars inside s.short s.small (sym e ∙ none)) in
        absurd (ne (sym (opposite_twice x) ∙ ap opposite (sym there ∙ ap (λ k. lit_at t k) e)))
    go (inr apart) = below_one (place_of t (opposite x)) place less apart

pub others_before : (a : Analysis) (t : Trail) (place : ℕ) → IsTrail t
    → length a.marks.items ≡ 2 * t.vars → place < height t → AreFalseBefore a t (place + 1)
    → AreOthersBefore a t (opposite (lit_at t place)) place
others_before a t place s long inside before l m ne =
    other_before a t place l s long inside m ne (before l m)

-- where the literal of the place is not marked, all marked literals are false before it
pub none_here : (a : Analysis) (t : Trail) (place : ℕ) → IsTrail t
    → length a.marks.items ≡ 2 * t.vars → place < height t → AreFalseBefore a t (place + 1)
    → marked a.marks.items (opposite (lit_at t place)) ≡ false → AreFalseBefore a t place
none_here a t place s long inside before gone l m =
    other_before a t place l s long inside m
    (λ e. false≢true (sym gone ∙ sym (ap (λ x. marked a.marks.items x) e) ∙ m)) (before l m)

-- once the literal at the place gave way, all marked literals are false before it
pub false_before : (a b : Analysis) (t : Trail) (place : ℕ) → IsTrail t
    → length a.marks.items ≡ 2 * t.vars → place < height t → AreFalseBefore a t (place + 1)
    → GivesWay a t place b → AreFalseBefore b t place
false_before a b t place s long inside before g l h =
    elim (g.comes l h) [
      | inl old ↦ other_before a t place l s long inside old.0 old.1 (before l old.0)
      | inr less ↦ less
    ]

pub false_sooner : (a : Analysis) (t : Trail) (n m : ℕ) → n ≤ m → AreFalseBefore a t n
    → AreFalseBefore a t m
false_sooner a t n m h before l e = up (place_of t (opposite l)) (before l e)
  where
    up : (p : ℕ) → p < n → p < m
    up p k = omega arith

-- a jump stays one where another literal than its own gives way
pub still_asserting : (a b : Analysis) (t : Trail) (jump : Jump) (place : ℕ) → IsAsserting a t jump
    → GivesWay a t place b
    → (opposite (lit_at t place) ≡ opposite (lit_at t jump.at) → ⊥) → place < jump.cut
    → IsAsserting b t jump
still_asserting a b t jump place j g apart below = record {
  inside = j.inside;
  above = j.above;
  decision = j.decision;
  in_it = g.stays _ j.in_it (λ e. apart (sym e));
  others = λ l m ne. elim (g.comes l m) [
    | inl old ↦ j.others l old.0 ne
    | inr less ↦ up (place_of t (opposite l)) less
  ];
}
  where
    up : (p : ℕ) → p < place → p < jump.cut
    up p k = omega arith

pub long_of : (n m v : ℕ) → n ≡ 2 * m → v ≡ m → n ≡ 2 * v
long_of n m v e f = e ∙ ap (λ k. 2 * k) (sym f)

-- what gives way for literals that are false stays false
pub still_false : (a b : Analysis) (t : Trail) (place : ℕ) → place < height t → GivesWay a t place b
    → AreFalseBefore a t (height t) → AreFalseBefore b t (height t)
still_false a b t place inside g before l m =
    elim (g.comes l m) [
      | inl old ↦ before l old.0
      | inr less ↦ up (place_of t (opposite l)) less
    ]
  where
    up : (p : ℕ) → p < place → p < height t
    up p k = omega arith

pub reducible : (a : Analysis) (t : Trail) (jump : Jump) (place literal : ℕ) → IsAsserting a t jump
    → marked a.marks.items literal ≡ true
    → (literal ≡ opposite (lit_at t jump.at) → ⊥) → place ≡ place_of t (opposite literal)
    → place < height t → opposite (lit_at t place) ≡ literal
    → (reason_at t place ≡ NO_CLAUSE → ⊥) → IsReducible a t jump place
reducible a t jump place literal j here apart is inside back forced = record {
  inside = inside;
  forced = forced;
  here = ap (λ x. marked a.marks.items x) back ∙ here;
  apart = λ e. apart (sym back ∙ e);
  below = subst (λ n. n < jump.cut) (sym is) (j.others literal here apart);
}

pub false_back : (a : Analysis) (t : Trail) (literal place : ℕ) → IsTrail t
    → length a.marks.items ≡ 2 * t.vars → AreFalseBefore a t (height t)
    → marked a.marks.items literal ≡ true
    → place ≡ place_of t (opposite literal) → opposite (lit_at t place) ≡ literal
false_back a t literal place s long untrue here is =
    let range : opposite literal < 2 * t.vars =
    opposite_below literal t.vars
    (subst (λ n. literal < n) long (marked_inside a.marks.items literal here)) in
    ap opposite (ap (λ k. lit_at t k) is
    ∙ s.back (opposite literal) range
    (λ none. far (place_of t (opposite literal)) (height t) t.vars (untrue literal here) s.short
    s.small none))
    ∙ opposite_twice literal
