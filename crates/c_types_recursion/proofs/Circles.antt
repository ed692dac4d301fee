-- A call that leads back joins two bodies of one rank (`level_circular`), and the first one in
-- order of places is at the least place (`least_found`).
use Rattle.std.proofs.Common.{◌≡◌, ℕ, ◌+◌, ◌<◌, ◌≤◌, true, List, [], ◌∷◌, length}
use Rattle.std.proofs.Common.{get_or, Some, None, refl, sym, ap, ◌∙◌, subst, ⊎_elim}
use Rattle.std.proofs.Common.{arith}
use Rattle.std.specs.List.{All, filter}
use Rattle.std.specs.List.Sorted.{IsPermutation, IsNonDecreasingBy}
use Rattle.std.proofs.lemmas.Bool.{eq-eqb, cases_lt, cases_eq}
use Rattle.std.proofs.lemmas.List.{get_or_default}
use Rattle.std.proofs.lemmas.List.Elements.{All-filter}
use Rattle.std.proofs.lemmas.List.Sorted.{All-permutation, Contains-permutation}
use Rattle.c_types_rules.specs.Items.{Call}
use Rattle.c_types_rules.specs.Recursion.{Among, Through, LeadsBack}
use Rattle.c_types_recursion.specs.Least.{FindsLeast}
use Rattle.c_types_recursion.specs.Marks.{DoesNotFall, is_level, IsCircular, HasCircular}
use Rattle.c_types_recursion.proofs.Among.{among_contained, all_at, all_among, among_filter}
use Rattle.std.specs.Prelude.{slice_index}

-- ranks do not fall along a way
risen_through : (calls : List Call) (ranks : List ℕ) → All (DoesNotFall ranks) calls → (from : ℕ)
    (way : List ℕ) (last : ℕ) → Through calls from way last
    → slice_index ranks from ≤ slice_index ranks last
risen_through calls ranks rise from [] last is =
    subst (λ (n : ℕ). slice_index ranks from ≤ slice_index ranks n) is (omega arith)
risen_through calls ranks rise from (next ∷ way) last walk =
    let one : slice_index ranks from ≤ slice_index ranks next =
    all_at (DoesNotFall ranks) calls _ rise walk.0.1 in
    let rest = risen_through calls ranks rise next way last walk.1 in
    omega (arith, one, rest)

pub level_circular : (calls : List Call) (ranks : List ℕ) (call : Call)
    → All (DoesNotFall ranks) calls → Among call calls → IsCircular calls call
    → is_level ranks call ≡ true
level_circular calls ranks call rise stands back =
    let up : slice_index ranks call.caller ≤ slice_index ranks call.callee =
    all_at (DoesNotFall ranks) calls call rise stands in
    let down = risen_through calls ranks rise call.callee back.way call.caller back.through in
    eq-eqb (slice_index ranks call.caller) (slice_index ranks call.callee) (omega (arith, up, down))

-- of the calls that join two bodies of one rank, in any order
pub some_level : (calls sorted : List Call) (ranks : List ℕ)
    → IsPermutation (filter (is_level ranks) calls) sorted → All (λ call. Among call calls) sorted
some_level calls sorted ranks moved =
    All-permutation (λ call. Among call calls) (filter (is_level ranks) calls) sorted moved
    (All-filter (is_level ranks) (λ call. Among call calls) calls (all_among calls))

pub each_circular : (calls sorted : List Call) (ranks : List ℕ) → All (DoesNotFall ranks) calls
    → IsPermutation (filter (is_level ranks) calls) sorted → HasCircular calls sorted
each_circular calls sorted ranks rise moved = λ call stands back.
    Contains-permutation (filter (is_level ranks) calls) sorted call moved
    (among_contained call (filter (is_level ranks) calls)
    (among_filter (is_level ranks) call calls stands
    (level_circular calls ranks call rise stands back)))

-- no call so far leads back
abbrev pub NoneBelow : List Call → List Call → ℕ → Type 0
NoneBelow calls found i =
    (k : ℕ) (d : Call) → k < i → IsCircular calls (get_or found k d) → ⊥

pub none_more : (calls found : List Call) (i : ℕ) (call : Call) → i < length found
    → call ≡ get_or found i call → (IsCircular calls call → ⊥) → NoneBelow calls found i
    → NoneBelow calls found (i + 1)
none_more calls found i call less at not_back none = λ k d below back. ⊎_elim
    (λ (last : k ≡ i). not_back (subst (λ (one : Call). IsCircular calls one)
    (get_or_default found i d call less ∙ sym at)
    (subst (λ (n : ℕ). IsCircular calls (get_or found n d)) last back)))
    (λ (other : k ≡ i → ⊥). none k d (omega arith) back) (cases_eq k i)

pub none_found : (calls found : List Call) → HasCircular calls found
    → NoneBelow calls found (length found) → FindsLeast (LeadsBack calls) None
none_found calls found each none = λ place leads.
    let at = each leads.call leads.stands leads.back in
    none at.0 leads.call at.1
    (subst (λ (one : Call). IsCircular calls one) (sym at.2) leads.back)

pub least_found : (calls found : List Call) (i : ℕ) (call : Call)
    → All (λ one. Among one calls) found → HasCircular calls found
    → IsNonDecreasingBy (λ one. one.place) found → i < length found
    → call ≡ get_or found i call → IsCircular calls call → NoneBelow calls found i
    → FindsLeast (LeadsBack calls) (Some call.place)
least_found calls found i call some each order less is back none = (
  record {
    call = call;
    stands = subst (λ (one : Call). Among one calls) (sym is) (some i call less);
    there = refl;
    back = back;
  },
  λ place leads.
      let at = each leads.call leads.stands leads.back in
      ⊎_elim (λ (before : at.0 < i). absurd (none at.0 leads.call before
      (subst (λ (one : Call). IsCircular calls one) (sym at.2) leads.back)))
      (λ (behind : i ≤ at.0).
      subst (λ (n : ℕ). call.place ≤ n) (ap (λ (one : Call). one.place) at.2 ∙ leads.there)
      (subst (λ (one : Call). one.place ≤ (get_or found at.0 leads.call).place)
      (get_or_default found i leads.call call less ∙ sym is)
      (order i at.0 leads.call behind at.1)))
      (cases_lt at.0 i),
)
