-- Weights by the types of cells, and sums that stop at the greatest number of 64 bits.
use Rattle.std.proofs.Common.{◌≡◌, ℕ, zero, suc, ◌+◌, ◌-◌, ◌^◌, ◌<◌, ◌≤◌, min, List, [], ◌∷◌, map}
use Rattle.std.proofs.Common.{length, take, get_or, refl, sym, ap, ◌∙◌, arith}
use Rattle.std.specs.Prelude.{Option, None, Some, slice_get, option_map}
use Rattle.std.specs.List.{sum, sum_by}
use Rattle.std.proofs.lemmas.List.{take_all}
use Rattle.std.proofs.lemmas.List.Sums.{sum-map, sum_by_more, sum_by-cons}
use Rattle.std.proofs.lemmas.Option.{slice_get-map}
use Rattle.cpa_model.specs.declared.program.Cell.{Cell}
use Rattle.cpa_model.specs.declared.facts.Elem.{Elem}
use Rattle.cpa_model.specs.declared.automaton.Cfa.{Cfa}
use Rattle.cpa_model.specs.declared.automaton.Edge.{Edge}
use Rattle.cpa_model.specs.Automata.{IsAutomaton}
use Rattle.cpa_form_rules.specs.Additions.{WeightsAreSums}
use Rattle.cpa_form_rules.specs.Forms.{act_weight, added_weight, elem_weight, places_from}
use Rattle.cpa_form_rules.specs.Tests.{type_at}
use Rattle.cpa_recheck_obligations.specs.declared.listing.Obligation.{Obligation}
use Rattle.cpa_recheck_obligations.specs.declared.listing.Obligation.TheVariants.{Begins, Leads}
use Rattle.cpa_recheck_obligations.specs.declared.listing.Obligation.TheVariants.{Avoids}
use Rattle.cpa_recheck_obligations.specs.Forms.{added, edge_at, entry_at, form_at, is_begins}
use Rattle.cpa_recheck_obligations.specs.Forms.{rivals_of}
use Rattle.cpa_recheck_obligations.specs.Laws.{AddedFit, AreShapedFor}
use Rattle.cpa_recheck_obligations.specs.lemmas.Asking.{edge_is, entry_is}
use Rattle.cpa_recheck_weights.specs.Weights.{cell_type, weight_in, weights_of}

-- ---- types

pub type_there : (n : ℕ) (cells : List Cell) (cell : ℕ)
    → type_at (places_from n cells) cell ≡ cell_type (slice_get cells cell)
type_there n [] cell = refl
type_there n (c ∷ cells) zero = refl
type_there n (c ∷ cells) (suc cell) = type_there (suc n) cells cell

-- ---- sums

adds : (s w m : ℕ) → min (min s m + w) m ≡ min (s + w) m
adds s w m = omega arith

-- one item more
pub one_sum : {A : Type 0} (f : A → ℕ) (xs : List A) (i : ℕ) (x : A) (old new m : ℕ)
    → i < length xs → x ≡ get_or xs i x → new ≡ min (old + f x) m
    → old ≡ min (sum_by f (take i xs)) m → new ≡ min (sum_by f (take (i + 1) xs)) m
one_sum f xs i x old new m inside at step kept =
    step
    ∙ ap (λ n. min (n + f x) m) kept
    ∙ adds (sum_by f (take i xs)) (f x) m
    ∙ sym (ap (λ n. min n m) (sum_by_more f xs i x inside
    ∙ ap (λ y. sum_by f (take i xs) + f y) (sym at)))

pub all_summed : {A : Type 0} (f : A → ℕ) (xs : List A) (i old m : ℕ) → length xs ≤ i
    → old ≡ min (sum_by f (take i xs)) m → old ≡ min (sum (map f xs)) m
all_summed f xs i old m past kept =
    kept
    ∙ ap (λ ys. min (sum_by f ys) m) (take_all i xs past)
    ∙ sym (ap (λ n. min n m) (sum-map f xs))

sum_cons : {A : Type 0} (f : A → ℕ) (x : A) (xs : List A)
    → sum (map f (x ∷ xs)) ≡ f x + sum (map f xs)
sum_cons f x xs =
    sum-map f (x ∷ xs) ∙ sum_by-cons f x xs ∙ sym (ap (λ n. f x + n) (sum-map f xs))

-- one item less of what is left, whose own number has stopped
pub one_less : {A : Type 0} (f : A → ℕ) (last rest : List A) (x : A) (old new m all : ℕ)
    → last ≡ x ∷ rest → new ≡ min (old + min (f x) m) m → min (old + sum (map f last)) m ≡ all
    → min (new + sum (map f rest)) m ≡ all
one_less f last rest x old new m all steps step kept =
    let one : sum (map f last) ≡ f x + sum (map f rest) =
    ap (λ xs. sum (map f xs)) steps ∙ sum_cons f x rest in
    omega (arith, one, step, kept)

-- ---- obligations

-- what is there, or the other
get_or_none : {A : Type 0} (xs : List A) (i : ℕ) (d : A) → slice_get xs i ≡ None → get_or xs i d ≡ d
get_or_none [] i d at = refl
get_or_none (x ∷ xs) zero d at = absurd (cc)
get_or_none (x ∷ xs) (suc i) d at = get_or_none xs i d at

own_and_rest : (w a s t m : ℕ) → w ≡ min a m → min s m ≡ min t m → min (w + s) m ≡ min (a + t) m
own_and_rest w a s t m is rest = omega (arith, is, rest)

alone : (r m : ℕ) → min r m ≡ min (0 + r) m
alone r m = omega arith

held_taken_failing : (e a r own act rivals held m : ℕ) → own ≡ min e m → act ≡ min a m
    → rivals ≡ min r m → held ≡ min (own + act) m
    → min (held + rivals) m ≡ min (0 + e + a + r) m
held_taken_failing e a r own act rivals held m p q s t = omega (arith, p, q, s, t)

module _ (cfa : Cfa) (xs : List Elem) where
  abbrev weight_of : Elem → ℕ
  weight_of = elem_weight (places_from 0 cfa.cells)

  abbrev most : ℕ
  most = 2 ^ 64 - 1

  -- the weight of an entry that is there, or of none
  at_number : (n : ℕ) (o : Option Elem) → slice_get xs n ≡ o
      → weight_in (slice_get (weights_of cfa.cells xs) n) ≡ min (weight_of (entry_at xs n)) most
  at_number n (Some e) at =
      ap weight_in (slice_get-map (λ e. min (weight_of e) most) xs n)
      ∙ (ap (λ (o : Option Elem). weight_in (option_map (λ e. min (weight_of e) most) o)) at
      ∙ sym (ap (λ e. min (weight_of e) most) (entry_is xs n e at)))
  at_number n None at =
      ap weight_in (slice_get-map (λ e. min (weight_of e) most) xs n)
      ∙ (ap (λ (o : Option Elem). weight_in (option_map (λ e. min (weight_of e) most) o)) at
      ∙ sym (ap (λ e. min (weight_of e) most) (nothing_at n at)))
    where
      nothing_at : (n : ℕ) → slice_get xs n ≡ None → entry_at xs n ≡ record { facts = [] }
      nothing_at n at = get_or_none xs n (record { facts = [] }) at

  summed : (ns : List ℕ)
      → min (sum (map (λ n. weight_in (slice_get (weights_of cfa.cells xs) n)) ns)) most
      ≡ min (sum (map weight_of (map (entry_at xs) ns))) most
  summed [] = refl
  summed (n ∷ ns) =
      ap (λ k. min k most) (sum_cons (λ n. weight_in (slice_get (weights_of cfa.cells xs) n)) n ns)
      ∙ own_and_rest (weight_in (slice_get (weights_of cfa.cells xs) n)) (weight_of (entry_at xs n))
      (sum (map (λ n. weight_in (slice_get (weights_of cfa.cells xs) n)) ns))
      (sum (map weight_of (map (entry_at xs) ns))) most (at_number n (slice_get xs n) refl)
      (summed ns)
      ∙ sym (ap (λ k. min k most) (sum_cons weight_of (entry_at xs n) (map (entry_at xs) ns)))

  module _ (weights ns : List ℕ) (are : weights ≡ weights_of cfa.cells xs) where
    total : (r : ℕ) (others : List Elem) → map (entry_at xs) ns ≡ others
        → r ≡ min (sum (map (λ n. weight_in (slice_get weights n)) ns)) most
        → r ≡ min (sum (map weight_of others)) most
    total r others same is =
        is
        ∙ ap (λ (ws : List ℕ). min (sum (map (λ n. weight_in (slice_get ws n)) ns)) most) are
        ∙ summed ns ∙ ap (λ (es : List Elem). min (sum (map weight_of es)) most) same

    own_is : (n w : ℕ) → w ≡ weight_in (slice_get weights n)
        → w ≡ min (weight_of (entry_at xs n)) most
    own_is n w is =
        is ∙ ap (λ (ws : List ℕ). weight_in (slice_get ws n)) are
        ∙ at_number n (slice_get xs n) refl

    module _ (law : WeightsAreSums) (fits : AddedFit) (is : IsAutomaton cfa)
        (shaped : AreShapedFor cfa xs) where
      whole : (o : Obligation) → (form_at cfa xs o).weight
          ≡ min (sum (map (added_weight (places_from 0 cfa.cells)) (added cfa xs o))) most
      whole o = law cfa (is_begins o) (added cfa xs o) is (fits cfa xs o is shaped)

      pub begins_weighs : (r : ℕ) → map (entry_at xs) ns ≡ rivals_of cfa xs Begins
          → r ≡ min (sum (map (λ n. weight_in (slice_get weights n)) ns)) most
          → r ≡ (form_at cfa xs Begins).weight
      begins_weighs r same all =
          total r (rivals_of cfa xs Begins) same all
          ∙ alone (sum (map weight_of (rivals_of cfa xs Begins))) most ∙ sym (whole Begins)

      pub leads_weighs : (x g own act rivals held last : ℕ) (edge : Edge)
          → map (entry_at xs) ns ≡ rivals_of cfa xs (Leads x g)
          → slice_get cfa.edges g ≡ Some edge → own ≡ weight_in (slice_get weights x)
          → act ≡ min (act_weight edge.act) most
          → rivals ≡ min (sum (map (λ n. weight_in (slice_get weights n)) ns)) most
          → held ≡ min (own + act) most → last ≡ min (held + rivals) most
          → last ≡ (form_at cfa xs (Leads x g)).weight
      leads_weighs x g own act rivals held last edge same at owns acts all holds ends =
          let acts_at = acts
          ∙ ap (λ (e : Edge). min (act_weight e.act) most) (sym (edge_is cfa g edge at)) in
          ends
          ∙ held_taken_failing (weight_of (entry_at xs x)) (act_weight (edge_at cfa g).act)
          (sum (map weight_of (rivals_of cfa xs (Leads x g)))) own act rivals held most
          (own_is x own owns) acts_at (total rivals (rivals_of cfa xs (Leads x g)) same all) holds
          ∙ sym (whole (Leads x g))

      pub avoids_weighs : (x p own : ℕ) → own ≡ weight_in (slice_get weights x)
          → own ≡ (form_at cfa xs (Avoids x p)).weight
      avoids_weighs x p own owns =
          own_is x own owns ∙ alone (weight_of (entry_at xs x)) most ∙ sym (whole (Avoids x p))
