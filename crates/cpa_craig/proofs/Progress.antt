-- Where the predicates have each interpolant of a path that reads a cell, a walk along the path on
-- which no question stays open gives no element: on the stores of each element on the way the
-- interpolant there is nonzero, since it stands in the element or is the same on every store, and
-- the last one is 0.
use Rattle.std.proofs.Common.{◌≡◌, ℕ, zero, suc, ◌+◌, ◌<◌, ℤ, pos, Bool, true, false, ◌⊎◌, inl, inr}
use Rattle.std.proofs.Common.{List, [], ◌∷◌, ◌++◌, length, get_or, refl, sym, ap, ◌∙◌, subst, arith}
use Rattle.std.specs.Prelude.{Option, None, Some, IsSomeAnd}
use Rattle.std.specs.List.{AllByRecursion, filter}
use Rattle.cpa_ints.specs.declared.integers.IntType.TheVariants as ty
use Rattle.cpa_expr.specs.declared.tree.Expr.{Expr}
use Rattle.cpa_expr.specs.Laws.{value_at_variants, value_depends_on_what_is_read}
use Rattle.cpa_expr.specs.Values.{value_of, is_nonzero, HasTruth}
use Rattle.cpa_facts.specs.declared.fact.Fact.{Fact}
use Rattle.cpa_model.specs.declared.facts.Elem.{Elem}
use Rattle.cpa_model.specs.declared.automaton.Act.{Act}
use Rattle.cpa_model.specs.declared.automaton.Edge.{Edge}
use Rattle.cpa_model.specs.declared.automaton.Cfa.{Cfa}
use Rattle.cpa_form_rules.specs.Runs.{StoreFactHolds, StoreHolds}
use Rattle.cpa_folds.specs.Along.{act_of, acts_along}
use Rattle.cpa_folds.specs.Carried.{reads_some}
use Rattle.cpa_predicate.specs.Predicates.{no_facts}
use Rattle.cpa_predicate.specs.Steps.{is_truth, truths, NeverSteps, HasAfter}
use Rattle.cpa_predicate.specs.Transfer.{fact_of, IsTruthAfter, AreTruthsAfter, IsCartesian}
use Rattle.cpa_predicate.specs.Transfer.{NoneOpen}
use Rattle.cpa_interpolant_rules.specs.Stores.{IsStore}
use Rattle.cpa_interpolant_rules.specs.Interpolants.{LeadsTo, AreNext, ArePathInterpolants, last_of}
use Rattle.cpa_interpolant_rules.specs.Interpolants.{one}
use Rattle.cpa_interpolant_rules.specs.Interpolants.{zero as nothing}
use Rattle.cpa_interpolant.specs.Keeping.{Keeps, AreLaws, keeps}
use Rattle.cpa_craig.specs.Walks.{AreBehind, Walks, NeverOpen, IsPredIfRead}
use Rattle.cpa_craig.proofs.ReadLemmas.{some_read}
use Rattle.cpa_craig.proofs.WalkLemmas.{all_joined}

-- ---- truths

-- nonzero, or not
nonzero_or : (o : Option ℤ) → IsSomeAnd o (λ a. is_nonzero a ≡ true)
    ⊎ (IsSomeAnd o (λ a. is_nonzero a ≡ true) → ⊥)
nonzero_or None = inr (λ h. h)
nonzero_or (Some a) = by (is_nonzero a)
  where
    by : (b : Bool) → (b ≡ true) ⊎ (b ≡ true → ⊥)
    by true = inl refl
    by false = inr (λ h. absurd (cc))

never_both : (o : Option ℤ) → IsSomeAnd o (λ a. is_nonzero a ≡ true)
    → IsSomeAnd o (λ a. is_nonzero a ≡ false) → ⊥
never_both None h k = h
never_both (Some a) h k = absurd (cc)

one_nonzero : (store : List ℤ) → HasTruth store one true
one_nonzero store = subst (λ (o : Option ℤ). IsSomeAnd o (λ a. is_nonzero a ≡ true))
    (sym (value_at_variants.constant ty.I32 (pos 1) store)) refl

zero_never : (store : List ℤ) → HasTruth store nothing true → ⊥
zero_never store holds =
    let zero_is : is_nonzero (pos 0) ≡ true =
    subst (λ (o : Option ℤ). IsSomeAnd o (λ a. is_nonzero a ≡ true))
    (value_at_variants.constant ty.I32 (pos 0) store) holds in
    absurd (cc)

one_differs : one ≡ nothing → ⊥
one_differs same = zero_never [] (subst (λ (e : Expr). HasTruth [] e true) same (one_nonzero []))

-- what reads no cell has one value
same_value : (f : Expr) → reads_some f ≡ false → (store other : List ℤ)
    → value_of f store ≡ value_of f other
same_value f none store other =
    value_depends_on_what_is_read f store other
    (λ cell reads. let some = some_read f cell reads in absurd (cc))

-- ---- one edge

module _ (cfa : Cfa) where
  -- the expression is nonzero on each store on which the predicates of the element have their
  -- truths
  abbrev pub Implies : Expr → Elem → Type 0
  Implies i e =
      (store : List ℤ) → IsStore cfa.cells store → StoreHolds store (truths e)
      → HasTruth store i true

  module _ (e : Elem) (g : Edge) where
    -- behind the edge the next interpolant is nonzero
    led : (i f : Expr) → Keeps cfa.cells g.act → Implies i e → LeadsTo cfa.cells g.act i f
        → HasAfter cfa e g f true
    led i f keep implies leads = λ old new step.
        leads old new (implies old step.values step.truths) (record {
          before = step.values;
          after = keep old new step.values step.step;
          step = step.step;
        })

    never_steps : (f : Expr) → HasAfter cfa e g f true → HasAfter cfa e g f false
        → NeverSteps cfa e g
    never_steps f has not = λ old new step.
        never_both (value_of f new) (has old new step) (not old new step)

    -- an expression that is a predicate stands among the facts as true
    stands : (preds : List Expr) (facts : List Fact) (f d : Expr) (k : ℕ)
        → AreTruthsAfter NoneOpen cfa e g preds facts → k < length preds → get_or preds k d ≡ f
        → (NeverSteps cfa e g → ⊥) → HasAfter cfa e g f true → (store : List ℤ)
        → AllByRecursion (StoreFactHolds store) (filter is_truth facts) → HasTruth store f true
    stands [] facts f d k are less at leads has store holds = absurd (omega (arith, less))
    stands (p ∷ preds) facts f d zero (truth, others, is, split, rest) less at leads has store
        holds =
        by truth is (subst (λ (fs : List Fact). AllByRecursion (StoreFactHolds store)
        (filter is_truth fs)) split holds)
      where
        by : (o : Option Bool) → IsTruthAfter NoneOpen cfa e g p o
            → AllByRecursion (StoreFactHolds store) (filter is_truth (fact_of p o ++ others))
            → HasTruth store f true
        by None is all =
            absurd (is true (subst (λ (x : Expr). HasAfter cfa e g x true) (sym at) has))
        by (Some false) is all =
            absurd (leads (never_steps f has
            (subst (λ (x : Expr). HasAfter cfa e g x false) at is)))
        by (Some true) is all = subst (λ (x : Expr). HasTruth store x true) at all.0
    stands (p ∷ preds) facts f d (suc k) (truth, others, is, split, rest) less at leads has store
        holds =
        stands preds others f d k rest (omega (arith, less)) at leads has store
        (by truth (subst (λ (fs : List Fact). AllByRecursion (StoreFactHolds store)
        (filter is_truth fs)) split holds))
      where
        by : (o : Option Bool)
            → AllByRecursion (StoreFactHolds store) (filter is_truth (fact_of p o ++ others))
            → AllByRecursion (StoreFactHolds store) (filter is_truth others)
        by None all = all
        by (Some holds) all = all.1

    -- one that reads no cell is nonzero everywhere, since it is so where the edge leads
    constant : (f : Expr) → reads_some f ≡ false → (NeverSteps cfa e g → ⊥)
        → HasAfter cfa e g f true → (store : List ℤ) → HasTruth store f true
    constant f none leads has store = by (nonzero_or (value_of f store))
      where
        by : HasTruth store f true ⊎ (HasTruth store f true → ⊥) → HasTruth store f true
        by (inl holds) = holds
        by (inr not) =
            absurd (leads (λ old new step. not
            (subst (λ (o : Option ℤ). IsSomeAnd o (λ a. is_nonzero a ≡ true))
            (same_value f none new store) (has old new step))))

    implied : (preds : List Expr) (after : Elem) (f : Expr) → IsPredIfRead preds f
        → IsCartesian NoneOpen cfa e g preds (after ∷ []) → HasAfter cfa e g f true
        → Implies f after
    implied preds after f pred is has = λ store values holds. by (reads_some f) refl store holds
      where
        by : (b : Bool) → reads_some f ≡ b → (store : List ℤ) → StoreHolds store (truths after)
            → HasTruth store f true
        by true reads store holds =
            let (k, less, at) = pred reads in
            stands preds after.facts f f k is.1 less at is.0 has store holds
        by false none store holds = constant f none is.0 has store

    -- each element behind the edge
    own_implied : (preds : List Expr) (own : List Elem) (f : Expr) → IsPredIfRead preds f
        → IsCartesian NoneOpen cfa e g preds own → HasAfter cfa e g f true
        → AllByRecursion (Implies f) own
    own_implied preds [] f pred is has = tt
    own_implied preds (after ∷ []) f pred is has = (implied preds after f pred is has, tt)
    own_implied preds (x ∷ y ∷ es) f pred is has = absurd is

    -- and where the next interpolant is 0, there is none
    own_none : (preds : List Expr) (own : List Elem) (f : Expr) → f ≡ nothing
        → IsCartesian NoneOpen cfa e g preds own → HasAfter cfa e g f true → own ≡ []
    own_none preds [] f same is has = refl
    own_none preds (after ∷ []) f same is has =
        absurd (is.0 (λ old new step. zero_never new
        (subst (λ (x : Expr). HasTruth new x true) same (has old new step))))
    own_none preds (x ∷ y ∷ es) f same is has = absurd is

  module _ (preds : List Expr) (g : Edge) (keep : Keeps cfa.cells g.act) (i f : Expr)
      (leads : LeadsTo cfa.cells g.act i f) where
    behind_implied : IsPredIfRead preds f → (es behind : List Elem)
        → AllByRecursion (Implies i) es → AreBehind NeverOpen cfa preds g es behind
        → AllByRecursion (Implies f) behind
    behind_implied pred [] behind all are = subst (AllByRecursion (Implies f)) (sym are) tt
    behind_implied pred (e ∷ es) behind all (own, others, is, split, rest) =
        subst (AllByRecursion (Implies f)) (sym split)
        (all_joined (Implies f) own others
        (own_implied e g preds own f pred is (led e g i f keep all.0 leads))
        (behind_implied pred es others all.1 rest))

    behind_none : f ≡ nothing → (es behind : List Elem) → AllByRecursion (Implies i) es
        → AreBehind NeverOpen cfa preds g es behind → behind ≡ []
    behind_none same [] behind all are = are
    behind_none same (e ∷ es) behind all (own, others, is, split, rest) =
        split
        ∙ ap (λ l. l ++ others)
        (own_none e g preds own f same is (led e g i f keep all.0 leads))
        ∙ behind_none same es others all.1 rest

  -- ---- the whole path

  walk_ends : AreLaws cfa → (preds : List Expr) (ns : List ℕ) (es last : List Elem) (i : Expr)
      (fs : List Expr) → AllByRecursion (Implies i) es → (i ≡ nothing → es ≡ [])
      → AreNext cfa.cells (acts_along cfa ns) i fs
      → length fs ≡ length (acts_along cfa ns) → last_of i fs ≡ nothing
      → AllByRecursion (IsPredIfRead preds) fs → Walks NeverOpen cfa preds ns es last → last ≡ []
  walk_ends laws preds [] es last i [] all none are long end typed walks = walks ∙ none end
  walk_ends laws preds [] es last i (f ∷ fs) all none are long end typed walks =
      absurd (omega (arith, long))
  walk_ends laws preds (n ∷ ns) es last i fs all none are long end typed
      (g, next, at, behind, rest) =
      by fs (subst (λ (all : List Act). AreNext cfa.cells all i fs) acts are)
      (long ∙ ap length acts) end typed
      (λ f fs implied none are long end typed.
      walk_ends laws preds ns next last f fs implied none are long end typed rest)
    where
      acts : acts_along cfa (n ∷ ns) ≡ g.act ∷ acts_along cfa ns
      acts = ap (λ (o : Option Edge). act_of o ++ acts_along cfa ns) at

      keep : Keeps cfa.cells g.act
      keep = keeps cfa laws n g at

      by : (fs : List Expr) → AreNext cfa.cells (g.act ∷ acts_along cfa ns) i fs
          → length fs ≡ length (g.act ∷ acts_along cfa ns) → last_of i fs ≡ nothing
          → AllByRecursion (IsPredIfRead preds) fs
          → ((f : Expr) (fs : List Expr) → AllByRecursion (Implies f) next
          → (f ≡ nothing → next ≡ []) → AreNext cfa.cells (acts_along cfa ns) f fs
          → length fs ≡ length (acts_along cfa ns) → last_of f fs ≡ nothing
          → AllByRecursion (IsPredIfRead preds) fs → last ≡ []) → last ≡ []
      by [] are long end typed again = absurd (omega (arith, long))
      by (f ∷ fs) are long end typed again =
          again f fs
          (behind_implied preds g keep i f are.0.leads typed.0 es next all behind)
          (λ same. behind_none preds g keep i f are.0.leads same es next all behind)
          are.1 (omega (arith, long)) end typed.1

  pub walk_gives_none : AreLaws cfa → (preds : List Expr) (ns : List ℕ) (last : List Elem)
      (exprs : List Expr) → ArePathInterpolants cfa.cells (acts_along cfa ns) exprs
      → AllByRecursion (IsPredIfRead preds) exprs
      → Walks NeverOpen cfa preds ns (no_facts ∷ []) last → last ≡ []
  walk_gives_none laws preds ns last exprs are typed walks =
      let behind = are.interpolants.behind in
      let long = are.long in
      let whole = ap length are.interpolants.are in
      let preds_are : AllByRecursion (IsPredIfRead preds) (one ∷ behind) =
      subst (AllByRecursion (IsPredIfRead preds)) are.interpolants.are typed in
      walk_ends laws preds ns (no_facts ∷ []) last one behind
      ((λ store values holds. one_nonzero store), tt)
      (λ same. absurd (one_differs same)) are.interpolants.next
      (omega (arith, long, whole)) are.last preds_are.1 walks
