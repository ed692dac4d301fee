-- Sums that stop at the greatest number of 64 bits.
use Rattle.std.proofs.Common.{◌≡◌, ℕ, ◌+◌, ◌-◌, ◌^◌, ◌<◌, ◌≤◌, min, List, ◌∷◌, map, length, take}
use Rattle.std.proofs.Common.{get_or, sym, ap, ◌∙◌, arith}
use Rattle.std.specs.List.{sum, sum_by}
use Rattle.std.proofs.lemmas.List.{take_all}
use Rattle.std.proofs.lemmas.List.Sums.{sum-map, sum_by_more, sum_by-cons}
use Rattle.cpa_form_rules.specs.Forms.{Form, weighed}

stops : (s w m : ℕ) → min (min s m + min w m) m ≡ min (s + w) m
stops s w m = omega arith

-- one item more
pub one_weight : {A : Type 0} (f : A → ℕ) (xs : List A) (i : ℕ) (x : A) (old new m : ℕ)
    → i < length xs → x ≡ get_or xs i x → new ≡ min (old + min (f x) m) m
    → old ≡ min (sum_by f (take i xs)) m → new ≡ min (sum_by f (take (i + 1) xs)) m
one_weight f xs i x old new m inside at step kept =
    step
    ∙ ap (λ n. min (n + min (f x) m) m) kept
    ∙ stops (sum_by f (take i xs)) (f x) m
    ∙ sym (ap (λ n. min n m) (sum_by_more f xs i x inside
    ∙ ap (λ y. sum_by f (take i xs) + f y) (sym at)))

pub all_weights : {A : Type 0} (f : A → ℕ) (xs : List A) (i old m : ℕ) → length xs ≤ i
    → old ≡ min (sum_by f (take i xs)) m → old ≡ min (sum (map f xs)) m
all_weights f xs i old m past kept =
    kept
    ∙ ap (λ ys. min (sum_by f ys) m) (take_all i xs past)
    ∙ sym (ap (λ n. min n m) (sum-map f xs))

-- one item less of what is left
pub one_less : {A : Type 0} (f : A → ℕ) (last rest : List A) (x : A) (old new m all : ℕ)
    → last ≡ x ∷ rest → new ≡ min (old + min (f x) m) m → min (old + sum (map f last)) m ≡ all
    → min (new + sum (map f rest)) m ≡ all
one_less f last rest x old new m all steps step kept =
    let one : sum (map f last) ≡ f x + sum (map f rest) =
    ap (λ xs. sum (map f xs)) steps
    ∙ (sum-map f (x ∷ rest)
    ∙ (sum_by-cons f x rest ∙ sym (ap (λ n. f x + n) (sum-map f rest)))) in
    omega (arith, one, step, kept)

-- a weight that has stopped already
pub weighed_once : (more : ℕ) (form : Form)
    → weighed (min more (2 ^ 64 - 1)) form ≡ weighed more form
weighed_once more form =
    ap (λ (n : ℕ). record form { weight = n }) (same form.weight more (2 ^ 64 - 1))
  where
    same : (w a m : ℕ) → min (w + min a m) m ≡ min (w + a) m
    same w a m = omega arith

-- what was added, with its weight
pub weighed_behind : (mid new whole : Form) (w more : ℕ) → mid ≡ whole
    → w ≡ min more (2 ^ 64 - 1) → new ≡ weighed w mid → new ≡ weighed more whole
weighed_behind mid new whole w more is weight weighs =
    weighs
    ∙ ap (λ n. weighed n mid) weight
    ∙ weighed_once more mid
    ∙ ap (weighed more) is
