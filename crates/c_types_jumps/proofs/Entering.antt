-- Whether an object of a label's is none of a goto's (`enters_way`): objects that come later than
-- each of the label's make no difference (`drop_rest`), the label's own position enters nothing
-- (`enters_itself`), and a later position that is not below it does (`enters_lower`).
use Rattle.std.proofs.Common.{◌≡◌, ℕ, ◌<◌, ◌≤◌, Bool, true, false, eqb, not, ◌||◌, List, []}
use Rattle.std.proofs.Common.{◌∷◌, ◌++◌, refl, sym, ap, ◌∙◌, subst, ⊎_elim, arith, append_assoc}
use Rattle.std.specs.List.{AllByRecursion, list_any}
use Rattle.std.proofs.lemmas.Bool.{or_cases, or_left, or_right, or_from, eq-eqb, ne_eqb, eqb-true}
use Rattle.std.proofs.lemmas.List.Folds.{list_any-append}
use Rattle.c_types_jumps.specs.Trees.{enters_way}
use Rattle.c_types_jumps.proofs.Lists.{all_weaker, all_last}

-- a number stands among others
abbrev pub is_in : ℕ → List ℕ → Bool
is_in x xs = list_any (λ held. eqb held x) xs

any_same : (f g : ℕ → Bool) (xs : List ℕ) → AllByRecursion (λ x. f x ≡ g x) xs
    → list_any f xs ≡ list_any g xs
any_same f g [] all = refl
any_same f g (x ∷ xs) all =
    ap (λ b. b || list_any f xs) all.0 ∙ ap (λ b. g x || b) (any_same f g xs all.1)

any_none : (f : ℕ → Bool) (xs : List ℕ) → AllByRecursion (λ x. f x ≡ false) xs
    → list_any f xs ≡ false
any_none f [] all = refl
any_none f (x ∷ xs) all = or_from (f x) (list_any f xs) all.0 (any_none f xs all.1)

any_at : (f : ℕ → Bool) (x : ℕ) (xs : List ℕ) → is_in x xs ≡ true → f x ≡ true
    → list_any f xs ≡ true
any_at f x [] there is = absurd (cc)
any_at f x (y ∷ ys) there is = ⊎_elim
    (λ same. or_left (f y) (list_any f ys)
    (subst (λ (z : ℕ). f z ≡ true) (sym (eqb-true y x same)) is))
    (λ later. or_right (f y) (list_any f ys) (any_at f x ys later is))
    (or_cases (eqb y x) (is_in x ys) there)

all_in : (xs : List ℕ) → AllByRecursion (λ x. is_in x xs ≡ true) xs
all_in [] = tt
all_in (x ∷ xs) = (
  or_left (eqb x x) (is_in x xs) (eq-eqb x x refl),
  all_weaker (λ n. is_in n xs ≡ true) (λ n. is_in n (x ∷ xs) ≡ true)
      (λ n there. or_right (eqb x n) (is_in n xs) there) xs (all_in xs),
)

in_both : (x : ℕ) (xs ys : List ℕ) → is_in x (xs ++ ys) ≡ (is_in x xs || is_in x ys)
in_both x xs ys = list_any-append (λ held. eqb held x) xs ys

absent_below : (x : ℕ) (xs : List ℕ) → AllByRecursion (λ n. n < x) xs → is_in x xs ≡ false
absent_below x [] all = refl
absent_below x (y ∷ ys) all = or_from (eqb y x) (is_in x ys)
    (ne_eqb y x (λ same. let less : y < x = all.0 in absurd (omega arith)))
    (absent_below x ys all.1)

absent_above : (x : ℕ) (xs : List ℕ) → AllByRecursion (λ n. x < n) xs → is_in x xs ≡ false
absent_above x [] all = refl
absent_above x (y ∷ ys) all = or_from (eqb y x) (is_in x ys)
    (ne_eqb y x (λ same. let less : x < y = all.0 in absurd (omega arith)))
    (absent_above x ys all.1)

or_false : (b : Bool) → (b || false) ≡ b
or_false true = refl
or_false false = refl

-- it stands in no scope of these
abbrev pub is_outside : List ℕ → ℕ → Bool
is_outside scopes number = not (list_any (λ held. eqb held number) scopes)

-- an object of file scope is none that is entered
own_enters : (base goto label : List ℕ)
    → enters_way base goto label ≡ list_any (is_outside (base ++ goto)) label
own_enters base goto label =
    list_any-append (is_outside (base ++ goto)) base label
    ∙ ap (λ b. b || list_any (is_outside (base ++ goto)) label)
    (any_none (is_outside (base ++ goto)) base
    (all_weaker (λ n. is_in n base ≡ true) (λ n. is_outside (base ++ goto) n ≡ false)
    (λ n there. ap not (in_both n base goto ∙ or_left (is_in n base) (is_in n goto) there)) base
    (all_in base)))

same_outside : (base goto rest : List ℕ) (bound n : ℕ) → AllByRecursion (λ k. bound ≤ k) rest
    → n < bound → is_outside (base ++ (goto ++ rest)) n ≡ is_outside (base ++ goto) n
same_outside base goto rest bound n later less =
    ap not (ap (is_in n) (sym (append_assoc base goto rest)) ∙ in_both n (base ++ goto) rest
    ∙ ap (λ b. is_in n (base ++ goto) || b)
    (absent_above n rest
    (all_weaker (λ k. bound ≤ k) (λ k. n < k) (λ k le. omega arith) rest later))
    ∙ or_false (is_in n (base ++ goto)))

pub drop_rest : (base goto rest label : List ℕ) (bound : ℕ) → AllByRecursion (λ n. n < bound) label
    → AllByRecursion (λ n. bound ≤ n) rest
    → enters_way base (goto ++ rest) label ≡ enters_way base goto label
drop_rest base goto rest label bound below later =
    own_enters base (goto ++ rest) label
    ∙ any_same (is_outside (base ++ (goto ++ rest))) (is_outside (base ++ goto)) label
    (all_weaker (λ n. n < bound)
    (λ n. is_outside (base ++ (goto ++ rest)) n ≡ is_outside (base ++ goto) n)
    (λ n less. same_outside base goto rest bound n later less) label below)
    ∙ sym (own_enters base goto label)

pub enters_itself : (base way : List ℕ) → enters_way base way way ≡ false
enters_itself base way =
    own_enters base way way
    ∙ any_none (is_outside (base ++ way)) way
    (all_weaker (λ n. is_in n way ≡ true) (λ n. is_outside (base ++ way) n ≡ false)
    (λ n there. ap not (in_both n base way ∙ or_right (is_in n base) (is_in n way) there)) way
    (all_in way))

pub enters_lower : (base goto upper : List ℕ) (number : ℕ) → AllByRecursion (λ n. n < number) base
    → AllByRecursion (λ n. n < number) goto
    → enters_way base goto (upper ++ number ∷ []) ≡ true
enters_lower base goto upper number base_below goto_below =
    own_enters base goto (upper ++ number ∷ [])
    ∙ any_at (is_outside (base ++ goto)) number (upper ++ number ∷ [])
    (all_last (λ n. is_in n (upper ++ number ∷ []) ≡ true) upper number
    (all_in (upper ++ number ∷ [])))
    (ap not (in_both number base goto
    ∙ or_from (is_in number base) (is_in number goto) (absent_below number base base_below)
    (absent_below number goto goto_below)))
