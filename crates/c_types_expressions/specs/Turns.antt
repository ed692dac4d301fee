-- One turn of a loop over a list: what has been gathered, with what the rest adds, stays what the
-- whole list adds.
use Rattle.std.proofs.Common.{◌≡◌, ℕ, ◌+◌, List, [], ◌∷◌, ◌++◌, map, drop, Option, ap, sym, ◌∙◌}
use Rattle.std.proofs.Common.{append_assoc}
use Rattle.std.specs.List.{flat_map}
use Rattle.c_lexer.specs.declared.fault.TextFault.{TextFault}
use Rattle.c_types_rules.specs.First.{first_with, first_append}

module _ {A : Type 0} (xs : List A) (i : ℕ) (x : A) (here : drop i xs ≡ x ∷ drop (i + 1) xs) where
  pub added : {B : Type 0} (f : A → List B) (old new all : List B) → new ≡ old ++ f x →
      old ++ flat_map f (drop i xs) ≡ all → new ++ flat_map f (drop (i + 1) xs) ≡ all
  added f old new all step kept =
      ap (λ ys. ys ++ flat_map f (drop (i + 1) xs)) step
      ∙ (append_assoc old (f x) (flat_map f (drop (i + 1) xs))
      ∙ (sym (ap (λ ys. old ++ flat_map f ys) here) ∙ kept))

  pub mapped : {B : Type 0} (f : A → B) (old new all : List B) (y : B) → new ≡ old ++ (y ∷ []) →
      y ≡ f x → old ++ map f (drop i xs) ≡ all → new ++ map f (drop (i + 1) xs) ≡ all
  mapped f old new all y step is kept =
      ap (λ ys. ys ++ map f (drop (i + 1) xs)) step
      ∙ (append_assoc old (y ∷ []) (map f (drop (i + 1) xs))
      ∙ (ap (λ z. old ++ (z ∷ map f (drop (i + 1) xs))) is
      ∙ (sym (ap (λ ys. old ++ map f ys) here) ∙ kept)))

  pub noted : (f : A → List TextFault) (old new all : Option TextFault) →
      new ≡ first_with old (f x) → first_with old (flat_map f (drop i xs)) ≡ all →
      first_with new (flat_map f (drop (i + 1) xs)) ≡ all
  noted f old new all step kept =
      ap (λ h. first_with h (flat_map f (drop (i + 1) xs))) step
      ∙ (sym (first_append old (f x) (flat_map f (drop (i + 1) xs)))
      ∙ (sym (ap (λ ys. first_with old (flat_map f ys)) here) ∙ kept))
