-- What the folded operators mean: each plan has the operator's value, and what is made by a plan
-- has the plan's value.
use Rattle.std.proofs.Common.{◌≡◌, ℕ, ◌*◌, ◌/◌, ◌%◌, ◌<◌, Bool, true, false, not, ◌&&◌, List}
use Rattle.std.proofs.Common.{[], ◌∷◌, refl, sym, ap, ◌∙◌, arith}
use Rattle.std.specs.Prelude.{◌==◌, ◌||◌, nat_lt, if◌then◌else◌}
use Rattle.std.proofs.lemmas.Bool.{cond_both, eqb-true, eqb-false}
use Rattle.cpa_cnf.specs.Literals.{opposite}
use Rattle.cpa_blast_gates.specs.declared.gate.Gate.{Gate}
use Rattle.cpa_blast_gates.specs.declared.gate.Gate.TheVariants.{Xor}
use Rattle.cpa_blast_gates.specs.declared.folding.Plan.{Plan}
use Rattle.cpa_blast_gates.specs.declared.folding.Plan.TheVariants.{Known, Made, Negated}
use Rattle.cpa_blast_gates.specs.Gates.{lit_value, gate_value, differ, majority}
use Rattle.cpa_blast_gates.specs.Plans.{flipped, ordered_and, and_plan, or_plan, signed_xor}
use Rattle.cpa_blast_gates.specs.Plans.{ordered_xor}
use Rattle.cpa_blast_gates.specs.Plans.{xor_plan, constant_majority, distinct_majority}
use Rattle.cpa_blast_gates.specs.Plans.{majority_plan}
use Rattle.cpa_blast_gates.specs.Plans.{under, folded_choice, choice_plan}
use Rattle.cpa_blast_gates.specs.Nets.{vars, IsScoped, Holds, settled, and_in, or_in, xor_in}
use Rattle.cpa_blast_gates.specs.Nets.{majority_in, choice_in, shared}
use Rattle.cpa_blast_gates.specs.Meanings.{Makes, IsPlan}
use Rattle.cpa_blast_gates.specs.lemmas.Literals.{lit_opposite, lit_always, lit_never, lit_negative}
use Rattle.cpa_blast_gates.specs.lemmas.Literals.{lit_plain}
use Rattle.cpa_blast_gates.specs.lemmas.Growth.{stays, shared_is}
use Rattle.cpa_blast_gates.specs.lemmas.Truths as row

opposite_below : (n l : ℕ) → l < 2 * n → opposite l < 2 * n
opposite_below n l h = omega arith

positive_below : (n l : ℕ) → l < 2 * n → 2 * (l / 2) < 2 * n
positive_below n l h = omega arith

-- the literal 1 is there where any literal is
never_below : (n l : ℕ) → l < 2 * n → 1 < 2 * n
never_below n l h = omega arith

always_below : (n l : ℕ) → l < 2 * n → 0 < 2 * n
always_below n l h = omega arith

as_equal : (m : ℕ → Bool) (a b : ℕ) → (a == b) ≡ true → lit_value m a ≡ lit_value m b
as_equal m a b h = ap (lit_value m) (eqb-true a b h)

as_opposite : (m : ℕ → Bool) (a b : ℕ) → (a == opposite b) ≡ true
    → lit_value m a ≡ not (lit_value m b)
as_opposite m a b h = as_equal m a (opposite b) h ∙ lit_opposite m b

as_always : (m : ℕ → Bool) (a : ℕ) → m 0 ≡ true → (a == 0) ≡ true → lit_value m a ≡ true
as_always m a t h = lit_always m a t (eqb-true a 0 h)

as_never : (m : ℕ → Bool) (a : ℕ) → m 0 ≡ true → (a == 1) ≡ true → lit_value m a ≡ false
as_never m a t h = lit_never m a t (eqb-true a 1 h)

never : (m : ℕ → Bool) → m 0 ≡ true → lit_value m 1 ≡ false
never m t = lit_never m 1 t refl

always : (m : ℕ → Bool) → m 0 ≡ true → lit_value m 0 ≡ true
always m t = lit_always m 0 t refl

known : (n l : ℕ) (f : (ℕ → Bool) → Bool) → l < 2 * n
    → ((m : ℕ → Bool) → m 0 ≡ true → lit_value m l ≡ f m) → IsPlan n (Known l) f
known n l f below is = record { below = below; is = λ m v t. is m t }

plan_as : (n : ℕ) (p : Plan) (f g : (ℕ → Bool) → Bool) → IsPlan n p f
    → ((m : ℕ → Bool) → m 0 ≡ true → f m ≡ g m) → IsPlan n p g
plan_as n p f g plan same = record {
  below = plan.below;
  is = λ m v t. plan.is m v t ∙ same m t;
}

pub flipped_is : (n : ℕ) (p : Plan) (f : (ℕ → Bool) → Bool) → IsPlan n p f
    → IsPlan n (flipped p) (λ m. not (f m))
flipped_is n (Known l) f plan = record {
  below = opposite_below n l plan.below;
  is = λ m v t. lit_opposite m l ∙ ap not (plan.is m v t);
}
flipped_is n (Made g) f plan = record {
  below = plan.below;
  is = λ m v t. ap not (plan.is m v t);
}
flipped_is n (Negated g) f plan = record {
  below = plan.below;
  is = λ m v t. sym (row.not_twice (gate_value m v g)) ∙ ap not (plan.is m v t);
}

module _ (n a b : ℕ) (below_a : a < 2 * n) (below_b : b < 2 * n) where
  abbrev IsAnd : Plan → Type 0
  IsAnd p = IsPlan n p (λ m. lit_value m a && lit_value m b)

  ordered_and_is : IsAnd (ordered_and a b)
  ordered_and_is =
      cond_both (a == 0) (Known b) _ IsAnd
      (λ e. known n b _ below_b (λ m t. rw (as_always m a t e) refl)) (λ _.
      cond_both (a == 1) (Known 1) _ IsAnd
      (λ e. known n 1 _ (never_below n a below_a) (λ m t. rw (as_never m a t e) (never m t))) (λ _.
      cond_both (a == b) (Known a) _ IsAnd
      (λ e. known n a _ below_a
      (λ m t. rw (sym (as_equal m a b e)) (row.and_same (lit_value m a)))) (λ _.
      cond_both (b == opposite a) (Known 1) _ IsAnd
      (λ e. known n 1 _ (never_below n a below_a) (λ m t.
      rw (as_opposite m b a e) (never m t ∙ row.and_unlike (lit_value m a)))) (λ _.
      record { below = (below_a, below_b); is = λ m v t. refl }))))

  abbrev IsXor : Plan → Type 0
  IsXor p = IsPlan n p (λ m. differ (lit_value m a) (lit_value m b))

  signed_xor_is : IsXor (signed_xor a b)
  signed_xor_is =
      let gate = Xor (2 * (a / 2)) (2 * (b / 2)) in
      let below : (2 * (a / 2) < 2 * n) × (2 * (b / 2) < 2 * n) =
      (positive_below n a below_a, positive_below n b below_b) in
      cond_both (a % 2 == 1) _ _ IsXor
      (λ e. cond_both (b % 2 == 1) (Made gate) (Negated gate) IsXor
      (λ f. record {
        below = below;
        is = λ m v t.
            rw (lit_negative m a e, lit_negative m b f)
            (row.differ_both (lit_value m (2 * (a / 2))) (lit_value m (2 * (b / 2))));
      })
      (λ f. record {
        below = below;
        is = λ m v t.
            rw (lit_negative m a e, lit_plain m b f)
            (row.differ_left (lit_value m (2 * (a / 2))) (lit_value m (2 * (b / 2))));
      }))
      (λ e. cond_both (b % 2 == 1) (Negated gate) (Made gate) IsXor
      (λ f. record {
        below = below;
        is = λ m v t.
            rw (lit_plain m a e, lit_negative m b f)
            (row.differ_right (lit_value m (2 * (a / 2))) (lit_value m (2 * (b / 2))));
      })
      (λ f. record {
        below = below;
        is = λ m v t.
            rw (lit_plain m a e, lit_plain m b f) refl;
      }))

  ordered_xor_is : IsXor (ordered_xor a b)
  ordered_xor_is =
      cond_both (a == 0) (Known (opposite b)) _ IsXor
      (λ e. known n (opposite b) _ (opposite_below n b below_b)
      (λ m t. rw (as_always m a t e) (lit_opposite m b))) (λ _.
      cond_both (a == 1) (Known b) _ IsXor
      (λ e. known n b _ below_b (λ m t. rw (as_never m a t e) refl)) (λ _.
      cond_both (a == b) (Known 1) _ IsXor
      (λ e. known n 1 _ (never_below n a below_a) (λ m t.
      rw (sym (as_equal m a b e)) (never m t ∙ row.differ_same (lit_value m a)))) (λ _.
      cond_both (b == opposite a) (Known 0) _ IsXor
      (λ e. known n 0 _ (always_below n a below_a) (λ m t.
      rw (as_opposite m b a e) (always m t ∙ row.differ_unlike (lit_value m a)))) (λ _.
      signed_xor_is))))

pub and_is : (n a b : ℕ) → a < 2 * n → b < 2 * n
    → IsPlan n (and_plan a b) (λ m. lit_value m a && lit_value m b)
unfolding and_plan
and_is n a b p q =
    cond_both (nat_lt b a) (ordered_and b a) (ordered_and a b)
    (λ r. IsPlan n r (λ m. lit_value m a && lit_value m b))
    (λ _. plan_as n (ordered_and b a) _ _ (ordered_and_is n b a q p)
    (λ m t. row.and_swap (lit_value m b) (lit_value m a)))
    (λ _. ordered_and_is n a b p q)

pub xor_is : (n a b : ℕ) → a < 2 * n → b < 2 * n
    → IsPlan n (xor_plan a b) (λ m. differ (lit_value m a) (lit_value m b))
unfolding xor_plan
xor_is n a b p q =
    cond_both (nat_lt b a) (ordered_xor b a) (ordered_xor a b)
    (λ r. IsPlan n r (λ m. differ (lit_value m a) (lit_value m b)))
    (λ _. plan_as n (ordered_xor b a) _ _ (ordered_xor_is n b a q p)
    (λ m t. row.differ_swap (lit_value m b) (lit_value m a)))
    (λ _. ordered_xor_is n a b p q)

pub or_is : (n a b : ℕ) → a < 2 * n → b < 2 * n
    → IsPlan n (or_plan a b) (λ m. lit_value m a || lit_value m b)
unfolding or_plan
or_is n a b p q =
    plan_as n (flipped (and_plan (opposite a) (opposite b))) _ _
    (flipped_is n (and_plan (opposite a) (opposite b)) _
    (and_is n (opposite a) (opposite b) (opposite_below n a p) (opposite_below n b q)))
    (λ m t. rw (lit_opposite m a, lit_opposite m b)
    (row.or_by_and (lit_value m a) (lit_value m b)))

constant : (k : ℕ) → (k / 2 == 0) ≡ true → (k == 0) ≡ false → k ≡ 1
constant k h ne = let e = eqb-true (k / 2) 0 h in let d = eqb-false k 0 ne in one k e d
  where
    one : (k : ℕ) → k / 2 ≡ 0 → (k ≡ 0 → ⊥) → k ≡ 1
    one k e d = omega arith

constant_majority_is : (n k a b : ℕ) → (k / 2 == 0) ≡ true → a < 2 * n → b < 2 * n
    → IsPlan n (constant_majority k a b)
    (λ m. majority (lit_value m k) (lit_value m a) (lit_value m b))
constant_majority_is n k a b h p q =
    cond_both (k == 0) (or_plan a b) (and_plan a b)
    (λ r. IsPlan n r (λ m. majority (lit_value m k) (lit_value m a) (lit_value m b)))
    (λ e. plan_as n (or_plan a b) _ _ (or_is n a b p q) (λ m t. rw (as_always m k t e) refl))
    (λ e. plan_as n (and_plan a b) _ _ (and_is n a b p q)
    (λ m t. rw (lit_never m k t (constant k h e)) refl))

module _ (n a b c : ℕ) (below_a : a < 2 * n) (below_b : b < 2 * n) (below_c : c < 2 * n) where
  abbrev IsMajority : Plan → Type 0
  IsMajority p =
      IsPlan n p (λ m. majority (lit_value m a) (lit_value m b) (lit_value m c))

  distinct_majority_is : IsMajority (distinct_majority a b c)
  distinct_majority_is =
      cond_both (a == b) (Known a) _ IsMajority
      (λ e. known n a _ below_a
      (λ m t. rw (sym (as_equal m a b e))
      (row.majority_first (lit_value m a) (lit_value m c)))) (λ _.
      cond_both (a == opposite b) (Known c) _ IsMajority
      (λ e. known n c _ below_c
      (λ m t. rw (as_opposite m a b e)
      (row.majority_first_unlike (lit_value m b) (lit_value m c)))) (λ _.
      cond_both (a == c) (Known a) _ IsMajority
      (λ e. known n a _ below_a
      (λ m t. rw (sym (as_equal m a c e))
      (row.majority_outer (lit_value m a) (lit_value m b)))) (λ _.
      cond_both (a == opposite c) (Known b) _ IsMajority
      (λ e. known n b _ below_b
      (λ m t. rw (as_opposite m a c e)
      (row.majority_outer_unlike (lit_value m b) (lit_value m c)))) (λ _.
      cond_both (b == c) (Known b) _ IsMajority
      (λ e. known n b _ below_b
      (λ m t. rw (sym (as_equal m b c e)) (row.majority_last (lit_value m a) (lit_value m b))))
      (λ _.
      cond_both (b == opposite c) (Known a) _ IsMajority
      (λ e. known n a _ below_a
      (λ m t. rw (as_opposite m b c e)
      (row.majority_last_unlike (lit_value m a) (lit_value m c)))) (λ _.
      record { below = (below_a, below_b, below_c); is = λ m v t. refl }))))))

  majority_is_by_cases : IsMajority
      (if a / 2 == 0 then constant_majority a b c
      else (if b / 2 == 0 then constant_majority b a c
      else (if c / 2 == 0 then constant_majority c a b
      else distinct_majority a b c)))
  majority_is_by_cases =
      cond_both (a / 2 == 0) (constant_majority a b c) _ IsMajority
      (λ e. constant_majority_is n a b c e below_b below_c) (λ _.
      cond_both (b / 2 == 0) (constant_majority b a c) _ IsMajority
      (λ e. plan_as n (constant_majority b a c) _ _
      (constant_majority_is n b a c e below_a below_c)
      (λ m t. row.majority_swap (lit_value m b) (lit_value m a) (lit_value m c))) (λ _.
      cond_both (c / 2 == 0) (constant_majority c a b) _ IsMajority
      (λ e. plan_as n (constant_majority c a b) _ _
      (constant_majority_is n c a b e below_a below_b)
      (λ m t. row.majority_turn (lit_value m a) (lit_value m b) (lit_value m c))) (λ _.
      distinct_majority_is)))

pub majority_is : (n a b c : ℕ) → a < 2 * n → b < 2 * n → c < 2 * n
    → IsPlan n (majority_plan a b c)
    (λ m. majority (lit_value m a) (lit_value m b) (lit_value m c))
unfolding majority_plan
majority_is n a b c p q r = majority_is_by_cases n a b c p q r

under_below : (n test l : ℕ) → l < 2 * n → under test l < 2 * n
under_below n test l h =
    cond_both (l == test) 0 _ (λ k. k < 2 * n) (λ _. always_below n l h) (λ _.
    cond_both (l == opposite test) 1 l (λ k. k < 2 * n) (λ _. never_below n l h) (λ _. h))

under_true : (m : ℕ → Bool) (test l : ℕ) → m 0 ≡ true → lit_value m test ≡ true
    → lit_value m (under test l) ≡ lit_value m l
under_true m test l t h =
    cond_both (l == test) 0 _ (λ k. lit_value m k ≡ lit_value m l)
    (λ e. always m t ∙ sym (as_equal m l test e ∙ h)) (λ _.
    cond_both (l == opposite test) 1 l (λ k. lit_value m k ≡ lit_value m l)
    (λ e. never m t ∙ sym (as_opposite m l test e ∙ ap not h)) (λ _. refl))

module _ (n test a b : ℕ) (below_t : test < 2 * n) (below_a : a < 2 * n) (below_b : b < 2 * n)
  where
    abbrev IsChoice : Plan → Type 0
    IsChoice p =
        IsPlan n p (λ m. if lit_value m test then lit_value m a else lit_value m b)

    folded_choice_is : IsChoice (folded_choice test a b)
    folded_choice_is =
        cond_both (a == b) (Known a) _ IsChoice
        (λ e. known n a _ below_a
        (λ m t. rw (sym (as_equal m a b e))
        (row.choice_same (lit_value m test) (lit_value m a)))) (λ _.
        cond_both (a == opposite b) (flipped (xor_plan test a)) _ IsChoice
        (λ e. plan_as n (flipped (xor_plan test a)) _ _
        (flipped_is n (xor_plan test a) _ (xor_is n test a below_t below_a))
        (λ m t. rw (as_opposite m a b e) (row.choice_unlike (lit_value m test) (lit_value m b))))
        (λ _.
        cond_both (a == 0) (or_plan test b) _ IsChoice
        (λ e. plan_as n (or_plan test b) _ _ (or_is n test b below_t below_b)
        (λ m t. rw (as_always m a t e)
        (row.choice_first_true (lit_value m test) (lit_value m b)))) (λ _.
        cond_both (a == 1) (and_plan (opposite test) b) _ IsChoice
        (λ e. plan_as n (and_plan (opposite test) b) _ _
        (and_is n (opposite test) b (opposite_below n test below_t) below_b)
        (λ m t. rw (lit_opposite m test, as_never m a t e)
        (row.choice_first_false (lit_value m test) (lit_value m b)))) (λ _.
        cond_both (b == 0) (or_plan (opposite test) a) _ IsChoice
        (λ e. plan_as n (or_plan (opposite test) a) _ _
        (or_is n (opposite test) a (opposite_below n test below_t) below_a)
        (λ m t. rw (lit_opposite m test, as_always m b t e)
        (row.choice_second_true (lit_value m test) (lit_value m a)))) (λ _.
        cond_both (b == 1) (and_plan test a) _ IsChoice
        (λ e. plan_as n (and_plan test a) _ _ (and_is n test a below_t below_a)
        (λ m t. rw (as_never m b t e)
        (row.choice_second_false (lit_value m test) (lit_value m a)))) (λ _.
        record { below = (below_t, below_a, below_b); is = λ m v t. refl }))))))

-- what is chosen where the test is known
chosen_under : (m : ℕ → Bool) (test a b : ℕ) → m 0 ≡ true → (x : Bool) → lit_value m test ≡ x
    → (if x then lit_value m (under test a) else lit_value m (under (opposite test) b))
    ≡ (if x then lit_value m a else lit_value m b)
chosen_under m test a b t true e = under_true m test a t e
chosen_under m test a b t false e =
    under_true m (opposite test) b t (lit_opposite m test ∙ ap not e)

pub choice_is : (n test a b : ℕ) → test < 2 * n → a < 2 * n → b < 2 * n
    → IsPlan n (choice_plan test a b)
    (λ m. if lit_value m test then lit_value m a else lit_value m b)
unfolding choice_plan
choice_is n test a b p q r =
    cond_both (test == 0) (Known a) _
    (λ s. IsPlan n s (λ m. if lit_value m test then lit_value m a else lit_value m b))
    (λ e. known n a _ q (λ m t. rw (as_always m test t e) refl)) (λ _.
    cond_both (test == 1) (Known b) _
    (λ s. IsPlan n s (λ m. if lit_value m test then lit_value m a else lit_value m b))
    (λ e. known n b _ r (λ m t. rw (as_never m test t e) refl)) (λ _.
    plan_as n (folded_choice test (under test a) (under (opposite test) b)) _ _
    (folded_choice_is n test (under test a) (under (opposite test) b) p
    (under_below n test a q) (under_below n (opposite test) b r))
    (λ m t. chosen_under m test a b t (lit_value m test) refl)))

-- variable 0 is true under an assignment under which a net holds
pub first_true : (s : List Gate) (m : ℕ → Bool) → Holds m s → m 0 ≡ true
first_true [] m holds = holds
first_true (g ∷ s) m holds = first_true s m holds.0

pub settled_makes : (s : List Gate) (p : Plan) (f : (ℕ → Bool) → Bool) → IsScoped s
    → IsPlan (vars s) p f → Makes s (settled s p) f
settled_makes s (Known l) f scoped plan = record {
  grows = stays s scoped;
  below = plan.below;
  is = λ m holds. plan.is m 0 (first_true s m holds);
}
settled_makes s (Made g) f scoped plan =
    let made = shared_is s g scoped plan.below in
    record {
      grows = made.grows;
      below = made.below;
      is = λ m holds.
          let at = made.is m holds in
          at.1 ∙ plan.is m at.0 (first_true (shared s g).net m holds);
    }
settled_makes s (Negated g) f scoped plan =
    let made = shared_is s g scoped plan.below in
    record {
      grows = made.grows;
      below = opposite_below (vars (shared s g).net) (shared s g).value made.below;
      is = λ m holds.
          let at = made.is m holds in
          lit_opposite m (shared s g).value ∙ ap not at.1
          ∙ plan.is m at.0 (first_true (shared s g).net m holds);
    }

pub and_makes : (s : List Gate) (a b : ℕ) → IsScoped s → a < 2 * vars s → b < 2 * vars s
    → Makes s (and_in s a b) (λ m. lit_value m a && lit_value m b)
unfolding and_in
and_makes s a b scoped p q = settled_makes s (and_plan a b) _ scoped (and_is (vars s) a b p q)

pub or_makes : (s : List Gate) (a b : ℕ) → IsScoped s → a < 2 * vars s → b < 2 * vars s
    → Makes s (or_in s a b) (λ m. lit_value m a || lit_value m b)
unfolding or_in
or_makes s a b scoped p q = settled_makes s (or_plan a b) _ scoped (or_is (vars s) a b p q)

pub xor_makes : (s : List Gate) (a b : ℕ) → IsScoped s → a < 2 * vars s → b < 2 * vars s
    → Makes s (xor_in s a b) (λ m. differ (lit_value m a) (lit_value m b))
unfolding xor_in
xor_makes s a b scoped p q = settled_makes s (xor_plan a b) _ scoped (xor_is (vars s) a b p q)

pub majority_makes : (s : List Gate) (a b c : ℕ) → IsScoped s
    → a < 2 * vars s → b < 2 * vars s → c < 2 * vars s
    → Makes s (majority_in s a b c)
    (λ m. majority (lit_value m a) (lit_value m b) (lit_value m c))
unfolding majority_in
majority_makes s a b c scoped p q r =
    settled_makes s (majority_plan a b c) _ scoped (majority_is (vars s) a b c p q r)

pub choice_makes : (s : List Gate) (test a b : ℕ) → IsScoped s
    → test < 2 * vars s → a < 2 * vars s → b < 2 * vars s
    → Makes s (choice_in s test a b)
    (λ m. if lit_value m test then lit_value m a else lit_value m b)
unfolding choice_in
choice_makes s test a b scoped p q r =
    settled_makes s (choice_plan test a b) _ scoped (choice_is (vars s) test a b p q r)
