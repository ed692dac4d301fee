-- What is found of a step where all that was asked was decided is so of each step like it.
use Rattle.std.proofs.Common.{◌≡◌, ◌<◌, ◌-◌, ◌^◌, ℕ, ℤ, Bool, List, [], ◌∷◌, sym, ◌∙◌}
use Rattle.std.proofs.Common.{subst, arith, refl, ap, map}
use Rattle.std.specs.List.{filter}
use Rattle.std.specs.Prelude.{zero, suc, Option, None, Some, slice_get, IsSomeAnd}
use Rattle.cpa_ints.specs.Integers.{IsInRange}
use Rattle.cpa_ints.specs.declared.integers.IntType.{IntType}
use Rattle.cpa_expr.specs.declared.tree.Expr.{Expr}
use Rattle.cpa_expr.specs.Cells.{AreValues}
use Rattle.cpa_model.specs.declared.automaton.Act.{Act}
use Rattle.cpa_model.specs.declared.automaton.Act.TheVariants as act
use Rattle.cpa_model.specs.declared.automaton.Cfa.{Cfa}
use Rattle.cpa_model.specs.declared.automaton.Edge.{Edge}
use Rattle.cpa_facts.specs.declared.fact.Fact.{Fact}
use Rattle.cpa_facts.specs.declared.fact.Fact.TheVariants.{At, Stack, Equals, Within, Truth}
use Rattle.cpa_model.specs.declared.facts.Elem.{Elem}
use Rattle.cpa_model.specs.declared.program.Cell.{Cell}
use Rattle.cpa_model.specs.Expressions.{types_of}
use Rattle.cpa_model.specs.Steps.{StepsStore}
use Rattle.cpa_form_rules.specs.Runs.{StoreHolds}
use Rattle.cpa_predicate.specs.declared.asking.Budgets.{Budgets}
use Rattle.cpa_predicate.specs.Known.{told, IsKnown}
use Rattle.cpa_predicate.specs.Questions.{Question, IsOpen}
use Rattle.cpa_predicate.specs.Steps.{is_truth, truths, StepsFrom}
use Rattle.cpa_predicate.specs.Transfer.{NoneOpen, IsTruthAfter, AreTruths, IsOutcome}
use Rattle.cpa_predicate.specs.Transfer.{IsCartesian, elems_of}
use Rattle.cpa_predicate.specs.lemmas.Wider.{outcome_wider}
use Rattle.cpa_predicate.proofs.TransferLemmas.{cartesian}

-- a value of a cell's type is one of each cell with this type
value_here : (cs ds : List Cell) (k : ℕ) (v : ℤ) → types_of cs ≡ types_of ds
    → IsSomeAnd (slice_get cs k) (λ c. IsInRange c.ty v)
    → IsSomeAnd (slice_get ds k) (λ c. IsInRange c.ty v)
value_here [] [] k v same is = is
value_here [] (d ∷ ds) k v same is = absurd is
value_here (c ∷ cs) [] k v same is = absurd (cc)
value_here (c ∷ cs) (d ∷ ds) zero v same is =
    let one : c.ty ≡ d.ty = cc in subst (λ (ty : IntType). IsInRange ty v) one is
value_here (c ∷ cs) (d ∷ ds) (suc k) v same is =
    let rest : types_of cs ≡ types_of ds = cc in value_here cs ds k v rest is

-- what an act does is the same over cells of the same types
acts_alike : (cs ds : List Cell) (one : Act) (old new : List ℤ) → types_of cs ≡ types_of ds
    → StepsStore cs one old new → StepsStore ds one old new
acts_alike cs ds act.Skip old new same step = step
acts_alike cs ds (act.Assign base len index value) old new same step = step
acts_alike cs ds (act.Assume test holds) old new same step = step
acts_alike cs ds (act.Input cell) old new same step =
    (step.0, value_here cs ds cell step.0 same step.1, step.2)
acts_alike cs ds (act.Call site) old new same step = step
acts_alike cs ds (act.Return site) old new same step = step

-- a truth as a fact
abbrev said : Expr × Bool → Fact
said one = Truth one.0 one.1

-- the facts on truths are those that say what is told
told_truths : (facts : List Fact) → filter is_truth facts ≡ map said (told facts)
told_truths [] = refl
told_truths (At point ∷ facts) = told_truths facts
told_truths (Stack sites ∷ facts) = told_truths facts
told_truths (Equals cell value ∷ facts) = told_truths facts
told_truths (Within cell lo hi ∷ facts) = told_truths facts
told_truths (Truth expr holds ∷ facts) = ap (λ (fs : List Fact). Truth expr holds ∷ fs)
    (told_truths facts)

-- elements that say the same have the same facts on truths
same_truths : (e f : Elem) → told e.facts ≡ told f.facts → truths e ≡ truths f
same_truths e f says =
    let are : filter is_truth e.facts ≡ filter is_truth f.facts =
    told_truths e.facts ∙ ap (λ (ts : List (Expr × Bool)). map said ts) says
    ∙ sym (told_truths f.facts) in
    λ i. record { facts = are i }

step_like : (cfa other : Cfa) (e f : Elem) (g h : Edge) → types_of other.cells ≡ types_of cfa.cells
    → told f.facts ≡ told e.facts → h.act ≡ g.act → (old new : List ℤ)
    → StepsFrom other f h old new → StepsFrom cfa e g old new
step_like cfa other e f g h types says same old new s = record {
  values = subst (λ (ts : List IntType). AreValues ts old) types s.values;
  truths = subst (λ (x : Elem). StoreHolds old x) (same_truths f e says) s.truths;
  step = acts_alike other.cells cfa.cells g.act old new types
      (subst (λ (one : Act). StepsStore other.cells one old new) same s.step);
}

module _ (cfa other : Cfa) (e f : Elem) (g h : Edge)
    (types : types_of other.cells ≡ types_of cfa.cells)
    (says : told f.facts ≡ told e.facts) (same : h.act ≡ g.act) where
  truth_like : (p : Expr) (truth : Option Bool) → IsTruthAfter NoneOpen cfa e g p truth
      → IsTruthAfter NoneOpen other f h p truth
  truth_like p None is = λ holds has.
      is holds (λ old new s. has old new
      (step_like other cfa f e h g (sym types) (sym says) (sym same) old new s))
  truth_like p (Some holds) is = λ old new s.
      is old new (step_like cfa other e f g h types says same old new s)

  truths_like : (preds : List Expr) (truths : List (Option Bool))
      → AreTruths NoneOpen cfa e g preds truths → AreTruths NoneOpen other f h preds truths
  truths_like [] [] are = are
  truths_like [] (truth ∷ truths) are = are
  truths_like (p ∷ preds) [] are = are
  truths_like (p ∷ preds) (truth ∷ truths) are =
      (truth_like p truth are.0, truths_like preds truths are.1)

  outcome_like : (preds : List Expr) (outcome : Option (List (Option Bool)))
      → IsOutcome NoneOpen cfa e g preds outcome → IsOutcome NoneOpen other f h preds outcome
  outcome_like preds None never = λ old new s.
      never old new (step_like cfa other e f g h types says same old new s)
  outcome_like preds (Some truths) (leads, are) = (
    λ never. leads (λ old new s. never old new
        (step_like other cfa f e h g (sym types) (sym says) (sym same) old new s)),
    truths_like preds truths are,
  )

-- what is found of a step is known of those like it
pub known_of : (cfa : Cfa) (e : Elem) (g : Edge) (preds : List Expr)
    (outcome : Option (List (Option Bool))) → IsOutcome NoneOpen cfa e g preds outcome
    → (types : List IntType) (one : Act) (own : List (Expr × Bool)) (ps : List Expr)
    (known : Option (List (Option Bool))) → types ≡ types_of cfa.cells → one ≡ g.act
    → own ≡ told e.facts → ps ≡ preds → known ≡ outcome → IsKnown types one own ps known
known_of cfa e g preds outcome found types one own ps known are is says same so =
    subst (λ (qs : List Expr). IsKnown types one own qs known) (sym same)
    (subst (λ (o : Option (List (Option Bool))). IsKnown types one own preds o) (sym so)
    (λ other f h like.
    outcome_like cfa other e f g h (like.cells ∙ are) (like.says ∙ says) (like.does ∙ is) preds
    outcome found))

-- and what is known of a step is so of one that is the same in all that is kept of it
pub known_is : (types : List IntType) (one : Act) (own : List (Expr × Bool)) (preds : List Expr)
    (outcome : Option (List (Option Bool))) → IsKnown types one own preds outcome → (cfa : Cfa)
    (g : Edge) (e : Elem) (ps : List Expr) → types_of cfa.cells ≡ types → g.act ≡ one
    → told e.facts ≡ own → ps ≡ preds → IsOutcome NoneOpen cfa e g ps outcome
known_is types one own preds outcome known cfa g e ps are is says same =
    subst (λ (qs : List Expr). IsOutcome NoneOpen cfa e g qs outcome) (sym same)
    (known cfa e g (record { cells = are; does = is; says = says }))

module _ (O : Question → Type 0) (cfa : Cfa) (e : Elem) (g : Edge) (preds : List Expr)
    (outcome : Option (List (Option Bool))) (es : List Elem)
    (are : es ≡ elems_of preds outcome) where
  -- the elements that are given are those of what is found
  pub given : IsOutcome O cfa e g preds outcome → IsCartesian O cfa e g preds es
  given found =
      subst (IsCartesian O cfa e g preds) (sym are) (cartesian O cfa e g preds outcome found)

  -- or of what is known
  pub recalled : (h : Edge) → h ≡ g → IsOutcome NoneOpen cfa e h preds outcome
      → IsCartesian O cfa e g preds es
  recalled h same known =
      given (outcome_wider NoneOpen O cfa e g (λ question none. absurd none) preds outcome
      (subst (λ (x : Edge). IsOutcome NoneOpen cfa e x preds outcome) same known))

module _ (cfa : Cfa) (e : Elem) (g : Edge) where
  -- what was decided, with nothing spent, is so whatever stays open
  pub decided : (b c : Budgets) (preds : List Expr) (outcome : Option (List (Option Bool)))
      → (c.spent ≡ b.spent) × (b.spent < 2 ^ 64 - 1)
      → IsOutcome (IsOpen b c cfa e g) cfa e g preds outcome
      → IsOutcome NoneOpen cfa e g preds outcome
  decided b c preds outcome (same, below) is =
      outcome_wider (IsOpen b c cfa e g) NoneOpen cfa e g none preds outcome is
    where
      none : (question : Question) → IsOpen b c cfa e g question → NoneOpen question
      none question undecided =
          let rises = undecided.counted below in absurd (omega (arith, same, rises))
