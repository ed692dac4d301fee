-- The edges that leave a point stand side by side.
use Rattle.std.proofs.Common.{◌≡◌, ℕ, zero, suc, ◌+◌, ◌-◌, ◌<◌, ◌≤◌, ◌↔◌, List, [], ◌∷◌, Some}
use Rattle.std.proofs.Common.{length, take, drop, get_or, slice_get, sym, ap, ◌∙◌, subst, arith}
use Rattle.std.specs.List.{AllByRecursion, between}
use Rattle.std.proofs.lemmas.Slice.{between_is}
use Rattle.std.proofs.lemmas.List.Edits.{length-between, get_or-between}
use Rattle.std.proofs.lemmas.Option.{slice_get-get_or, get_or_from_slice_get}
use Rattle.cpa_model.specs.declared.automaton.Edge.{Edge}
use Rattle.cpa_model.specs.declared.automaton.Cfa.{Cfa}
use Rattle.cpa_model.specs.Automata.{AreOrdered, Precedes}
use Rattle.cpa_model.specs.lemmas.Lists.{place_of}
use Rattle.cpa_interp.specs.Turns.{Leave}

-- what holds of all holds of the first ones, and of those behind
all_take : {X : Type 0} (P : X → Type 0) (n : ℕ) (xs : List X) → AllByRecursion P xs
    → AllByRecursion P (take n xs)
all_take P zero xs all = tt
all_take P (suc n) [] all = tt
all_take P (suc n) (x ∷ xs) all = (all.0, all_take P n xs all.1)

ordered_take : (n : ℕ) (edges : List Edge) → AreOrdered edges → AreOrdered (take n edges)
ordered_take zero edges ordered = tt
ordered_take (suc n) [] ordered = tt
ordered_take (suc n) (edge ∷ edges) ordered =
    (all_take (Precedes edge) n edges ordered.0, ordered_take n edges ordered.1)

ordered_drop : (n : ℕ) (edges : List Edge) → AreOrdered edges → AreOrdered (drop n edges)
ordered_drop zero edges ordered = ordered
ordered_drop (suc n) [] ordered = tt
ordered_drop (suc n) (edge ∷ edges) ordered = ordered_drop n edges ordered.1

-- the edges from first on, of which there are count, leave the point
abbrev pub AreBetween : Cfa → ℕ → ℕ → ℕ → Type 0
AreBetween cfa point first count = (k : ℕ) (edge : Edge) → slice_get cfa.edges k ≡ Some edge
    → ((first ≤ k) × (k < first + count)) ↔ (edge.from ≡ point)

pub leave_between : (cfa : Cfa) (point first count : ℕ) → AreOrdered cfa.edges
    → first + count ≤ length cfa.edges → AreBetween cfa point first count
    → Leave cfa point (between first (first + count) cfa.edges)
leave_between cfa point first count ordered bound are =
    let edges = cfa.edges in
    let end = first + count in
    let len : length (between first end edges) ≡ end - first =
    length-between edges first end bound in
    record {
      each = λ edge. (
        (λ here.
            let k = here.0 in
            let inside : first + k < end = omega (arith, here.1, len) in
            let same = sym (get_or-between edges first end k edge inside) ∙ here.2 in
            let within : first + k < length edges = omega (arith, inside, bound) in
            let at = slice_get-get_or edges (first + k) edge within ∙ ap Some same in
            ((first + k, within, same), (are (first + k) edge at).0 (omega arith, inside))),
        (λ there.
            let at = place_of edges edge there.0 in
            let k = at.0 in
            let place = (are k edge at.1).1 there.1 in
            let low : first ≤ k = place.0 in
            let high : k < end = place.1 in
            let back : first + (k - first) ≡ k = omega (arith, low) in
            let inside : first + (k - first) < end = omega (arith, low, high) in
            let same =
            get_or-between edges first end (k - first) edge inside
            ∙ ap (λ (i : ℕ). get_or edges i edge) back
            ∙ get_or_from_slice_get edges k edge edge at.1 in
            (k - first, omega (arith, len, low, high), same)),
      );
      ordered =
          subst AreOrdered (sym (between_is edges first end))
          (ordered_drop first (take end edges) (ordered_take end edges ordered));
    }
