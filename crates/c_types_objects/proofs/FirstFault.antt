-- The first of a fault that is held and of others is the first of it and of the first of the others
-- (`first_found`).
use Rattle.std.proofs.Common.{◌≡◌, ℕ, Bool, true, false, cond, nat_lt, List, [], ◌∷◌, Option, None}
use Rattle.std.proofs.Common.{Some, refl, ap, sym, ◌∙◌, arith}
use Rattle.std.proofs.lemmas.Bool.Decides.{nat_tests}
use Rattle.c_lexer.specs.Rules.{rule_number}
use Rattle.c_lexer.specs.declared.fault.TextFault.{TextFault}
use Rattle.c_types_rules.specs.First.{comes_before, first_of_two, first_with}

-- at a lesser place, or at the same place with a lesser number
abbrev before : ℕ → ℕ → ℕ → ℕ → Bool
before p m q n = cond (nat_lt p q) true (cond (nat_lt q p) false (nat_lt m n))

before_trans : (p m q n r k : ℕ) → before p m q n ≡ true → before q n r k ≡ true →
    before p m r k ≡ true
before_trans p m q n r k first second = grind (arith, nat_tests)

not_before : (p m q n r k : ℕ) → before p m q n ≡ false → before q n r k ≡ false →
    before p m r k ≡ false
not_before p m q n r k first second = grind (arith, nat_tests)

-- of two faults that may be there the first
abbrev pub first_or : Option TextFault → Option TextFault → Option TextFault
first_or held None = held
first_or held (Some fault) = first_of_two held fault

first_or_none : (found : Option TextFault) → first_or None found ≡ found
first_or_none None = refl
first_or_none (Some fault) = refl

or_three : (h f x : TextFault) (a b c : Bool) → comes_before f h ≡ a → comes_before x f ≡ b →
    comes_before x h ≡ c → (b ≡ true → a ≡ true → c ≡ true) → (b ≡ false → a ≡ false → c ≡ false) →
    first_of_two (cond a (Some f) (Some h)) x ≡ first_or (Some h) (cond b (Some x) (Some f))
or_three h f x true true true p q r both neither =
    ap (λ t. cond t (Some x) (Some f)) q ∙ sym (ap (λ t. cond t (Some x) (Some h)) r)
or_three h f x true true false p q r both neither = absurd (cc (both refl refl))
or_three h f x true false c p q r both neither =
    ap (λ t. cond t (Some x) (Some f)) q ∙ sym (ap (λ t. cond t (Some f) (Some h)) p)
or_three h f x false true c p q r both neither = refl
or_three h f x false false false p q r both neither =
    ap (λ t. cond t (Some x) (Some h)) r ∙ sym (ap (λ t. cond t (Some f) (Some h)) p)
or_three h f x false false true p q r both neither = absurd (cc (neither refl refl))

or_one : (held found : Option TextFault) (x : TextFault) →
    first_of_two (first_or held found) x ≡ first_or held (first_of_two found x)
or_one held None x = refl
or_one None (Some f) x = sym (first_or_none (first_of_two (Some f) x))
or_one (Some h) (Some f) x =
    or_three h f x (comes_before f h) (comes_before x f) (comes_before x h) refl refl refl
    (before_trans x.place (rule_number x.rule) f.place (rule_number f.rule) h.place
    (rule_number h.rule))
    (not_before x.place (rule_number x.rule) f.place (rule_number f.rule) h.place
    (rule_number h.rule))

or_first : (held found : Option TextFault) (xs : List TextFault) →
    first_with (first_or held found) xs ≡ first_or held (first_with found xs)
or_first held found [] = refl
or_first held found (x ∷ xs) =
    ap (λ h. first_with h xs) (or_one held found x) ∙ or_first held (first_of_two found x) xs

pub first_found : (held found : Option TextFault) (faults : List TextFault) →
    found ≡ first_with None faults → first_or held found ≡ first_with held faults
first_found held found faults is = ap (first_or held) is ∙ sym (or_first held None faults)
