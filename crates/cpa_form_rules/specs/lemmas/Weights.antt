-- The weight of a form is the sum of the weights of what was added.
use Rattle.std.proofs.Common.{◌≡◌, ℕ, ◌+◌, ◌*◌, ◌^◌, ◌-◌, min, List, [], ◌∷◌, map, Option, None}
use Rattle.std.proofs.Common.{Some, slice_get, option_map, refl, sym, ap, ◌∙◌, arith}
use Rattle.std.specs.Prelude.{sum}
use Rattle.std.specs.List.{AllByRecursion}
use Rattle.std.proofs.lemmas.List.Sums.{sum_by-cons}
use Rattle.std.proofs.lemmas.Option.{slice_get-map}
use Rattle.cpa_ints.specs.declared.integers.IntType.{IntType}
use Rattle.cpa_ints.specs.declared.integers.IntType.TheVariants as ty
use Rattle.cpa_ints.specs.Integers.{width}
use Rattle.cpa_model.specs.declared.program.Cell.{Cell}
use Rattle.cpa_model.specs.declared.automaton.Act.TheVariants as act
use Rattle.cpa_facts.specs.declared.fact.Fact.{Fact}
use Rattle.cpa_facts.specs.declared.fact.Fact.TheVariants.{At, Stack, Equals, Within, Truth}
use Rattle.cpa_model.specs.declared.facts.Elem.{Elem}
use Rattle.cpa_form_renaming.specs.declared.places.Place.{Place}
use Rattle.cpa_form_rules.specs.Runs.{Added, taken, holding, failing}
use Rattle.cpa_form_rules.specs.Tests.{type_in, type_at}
use Rattle.cpa_form_rules.specs.Forms.{Form, with_added, form_from, fact_weight, elem_weight}
use Rattle.cpa_form_rules.specs.Forms.{added_weight}
use Rattle.cpa_form_rules.specs.lemmas.Copies.{types_at}
use Rattle.cpa_form_rules.specs.lemmas.Calls.{Fitted, Call}

-- ---- places of the same types weigh the same

abbrev type_or : Option IntType → IntType
type_or None = ty.I32
type_or (Some t) = t

type_of_place : (o : Option Place) → type_in o ≡ type_or (option_map (λ p. p.ty) o)
type_of_place None = refl
type_of_place (Some p) = refl

same_type : (ps rs : List Place) (cell : ℕ) → types_at ps ≡ types_at rs
    → type_at ps cell ≡ type_at rs cell
same_type ps rs cell same =
    type_of_place (slice_get ps cell)
    ∙ (ap type_or (sym (slice_get-map (λ (p : Place). p.ty) ps cell)
    ∙ (ap (λ ts. slice_get ts cell) same ∙ slice_get-map (λ (p : Place). p.ty) rs cell))
    ∙ sym (type_of_place (slice_get rs cell)))

module _ (ps rs : List Place) (same : types_at ps ≡ types_at rs) where
  same_fact : (fact : Fact) → fact_weight ps fact ≡ fact_weight rs fact
  same_fact (At point) = refl
  same_fact (Stack sites) = refl
  same_fact (Equals cell value) = ap width (same_type ps rs cell same)
  same_fact (Within cell lo hi) = ap (λ t. 2 * width t) (same_type ps rs cell same)
  same_fact (Truth expr holds) = refl

  same_facts : (facts : List Fact) → map (fact_weight ps) facts ≡ map (fact_weight rs) facts
  same_facts [] = refl
  same_facts (fact ∷ facts) =
      ap (λ n. n ∷ map (fact_weight ps) facts) (same_fact fact)
      ∙ ap (λ ns. fact_weight rs fact ∷ ns) (same_facts facts)

  same_elems : (elems : List Elem) → map (elem_weight ps) elems ≡ map (elem_weight rs) elems
  same_elems [] = refl
  same_elems (elem ∷ elems) =
      ap (λ n. n ∷ map (elem_weight ps) elems) (ap sum (same_facts elem.facts))
      ∙ ap (λ ns. elem_weight rs elem ∷ ns) (same_elems elems)

  same_added : (one : Added) → added_weight ps one ≡ added_weight rs one
  same_added (taken a) = refl
  same_added (holding elem) = ap sum (same_facts elem.facts)
  same_added (failing elems) = ap sum (same_elems elems)

  same_all : (added : List Added) → map (added_weight ps) added ≡ map (added_weight rs) added
  same_all [] = refl
  same_all (one ∷ added) =
      ap (λ n. n ∷ map (added_weight ps) added) (same_added one)
      ∙ ap (λ ns. added_weight rs one ∷ ns) (same_all added)

-- ---- the sum

pub added_to : (one : Added) (form : Form) → (with_added one form).weight
    ≡ min (form.weight + added_weight form.places one) (2 ^ 64 - 1)
added_to (taken act.Skip) form = refl
added_to (taken (act.Assign base len index value)) form = refl
added_to (taken (act.Assume test holds)) form = refl
added_to (taken (act.Input cell)) form = refl
added_to (taken (act.Call site)) form = refl
added_to (taken (act.Return site)) form = refl
added_to (holding elem) form = refl
added_to (failing elems) form = refl

stops : (w a m : ℕ) → min (min w m + a) m ≡ min (w + a) m
stops w a m = omega arith

module _ (cells : List Cell) (P : Added → Type 0)
    (call : (one : Added) (form : Form) → P one → Fitted cells form
    → Call cells one form (with_added one form)) where
  pub weighed_from : (added : List Added) (form : Form) (w : ℕ) → AllByRecursion P added
      → Fitted cells form → form.weight ≡ min w (2 ^ 64 - 1)
      → (form_from form added).weight
      ≡ min (w + sum (map (added_weight form.places) added)) (2 ^ 64 - 1)
  weighed_from [] form w h fitted is = is ∙ ap (λ n. min n (2 ^ 64 - 1)) (nothing w)
    where
      nothing : (n : ℕ) → n ≡ n + 0
      nothing n = omega arith
  weighed_from (one ∷ added) form w h fitted is =
      let next = with_added one form in
      let kept = (call one form h.0 fitted).fitted in
      weighed_from added next (w + added_weight form.places one) h.1 kept
      (added_to one form ∙ (ap (λ n. min (n + added_weight form.places one) (2 ^ 64 - 1)) is
      ∙ stops w (added_weight form.places one) (2 ^ 64 - 1)))
      ∙ ap (λ n. min n (2 ^ 64 - 1))
      (ap (λ ns. (w + added_weight form.places one) + sum ns)
      (same_all next.places form.places (kept.types ∙ sym fitted.types) added)
      ∙ (together w (added_weight form.places one) (sum (map (added_weight form.places) added))
      ∙ ap (λ n. w + n) (sym (sum_by-cons (λ n. n) (added_weight form.places one)
      (map (added_weight form.places) added)))))
    where
      together : (a b c : ℕ) → (a + b) + c ≡ a + (b + c)
      together a b c = omega arith
