-- Whether a part of a state steps along an edge is decided; where point, stack and store do, the
-- state does.
use Rattle.std.proofs.Common.{◌≡◌, ◌≢◌, ℕ, ◌+◌, ◌<◌, Bool, true, false, List, [], ◌∷◌, ◌++◌}
use Rattle.std.proofs.Common.{Option, Some, None, refl, sym, ap, subst, inl, inr}
use Rattle.std.proofs.Common.{⊎_elim}
use Rattle.std.proofs.Common.{arith, zero, suc}
use Rattle.std.specs.Prelude.{ℤ, pos, negsuc, ◌⊎◌, IsSomeAnd, slice_set}
use Rattle.std.specs.List.{slice_get}
use Rattle.std.proofs.lemmas.Bool.Decides.{eqb_tells}
use Rattle.cpa_expr.specs.Values.{value_of, is_nonzero}
use Rattle.cpa_model.specs.declared.automaton.Act.{Act}
use Rattle.cpa_model.specs.declared.automaton.Act.TheVariants as act
use Rattle.cpa_model.specs.declared.automaton.Cfa.{Cfa}
use Rattle.cpa_model.specs.declared.automaton.Edge.{Edge}
use Rattle.cpa_model.specs.declared.program.Cell.{Cell}
use Rattle.cpa_model.specs.declared.program.Program.{Program}
use Rattle.cpa_model.specs.declared.states.State.{State}
use Rattle.cpa_model.specs.Automata.{IsAutomaton, IsStateOf, StepsAlong}
use Rattle.cpa_model.specs.Programs.{IsWellFormed, point_count}
use Rattle.cpa_model.specs.States.{IsState, state_at}
use Rattle.cpa_model.specs.Steps.{StepsStack, StepsStore, Assigns, Moves, StepsKeepStates}
use Rattle.cpa_model.specs.lemmas.Lists.{in_list}
use Rattle.cpa_iface.specs.declared.analysis.Part.TheVariants.{Store}
use Rattle.cpa_iface.specs.Pins.{IsSettledBy}

-- there is one, or there is none
abbrev Decided : {X : Type 0} → (X → Type 0) → Type 0
Decided {X} P = ((x : X) × P x) ⊎ ((x : X) → P x → ⊥)

-- lists with one more item in front
heads : {X : Type 0} (x y : X) (xs ys : List X) → x ∷ xs ≡ y ∷ ys → (x ≡ y) × (xs ≡ ys)
heads x y xs ys same = (cc, cc)

none_is : (x : ℕ) (xs : List ℕ) → [] ≡ x ∷ xs → ⊥
none_is x xs is = absurd (cc)

-- a stack that ends with the site, or not
none_ends : (site : ℕ) (new : List ℕ) → [] ≡ new ++ site ∷ [] → ⊥
none_ends site [] is = none_is site [] is
none_ends site (x ∷ new) is = none_is x (new ++ site ∷ []) is

other_ends : (x site : ℕ) → x ≢ site → (new : List ℕ) → x ∷ [] ≡ new ++ site ∷ [] → ⊥
other_ends x site other [] is = other (heads x site [] [] is).0
other_ends x site other (y ∷ new) is =
    none_ends site new (heads x y [] (new ++ site ∷ []) is).1

longer_ends : (x y site : ℕ) (old : List ℕ) → ((new : List ℕ) → y ∷ old ≡ new ++ site ∷ [] → ⊥)
    → (new : List ℕ) → x ∷ y ∷ old ≡ new ++ site ∷ [] → ⊥
longer_ends x y site old none [] is = none_is y old (sym (heads x site (y ∷ old) [] is).1)
longer_ends x y site old none (z ∷ new) is =
    none new (heads x z (y ∷ old) (new ++ site ∷ []) is).1

pops : (site : ℕ) (old : List ℕ) → Decided (λ (new : List ℕ). old ≡ new ++ site ∷ [])
pops site [] = inr (none_ends site)
pops site (x ∷ []) =
    ⊎_elim
    (λ yes. inl ([], ap (λ (n : ℕ). n ∷ []) yes.1))
    (λ no. inr (other_ends x site no.1))
    (eqb_tells x site)
pops site (x ∷ y ∷ old) =
    ⊎_elim
    (λ (on : (new : List ℕ) × (y ∷ old ≡ new ++ site ∷ [])).
    inl (x ∷ on.0, ap (λ (l : List ℕ). x ∷ l) on.1))
    (λ none. inr (longer_ends x y site old none))
    (pops site (y ∷ old))

pub stack_steps : (a : Act) (old : List ℕ) → Decided (StepsStack a old)
stack_steps act.Skip old = inl (old, refl)
stack_steps (act.Assign base len index value) old = inl (old, refl)
stack_steps (act.Assume test holds) old = inl (old, refl)
stack_steps (act.Input cell) old = inl (old, refl)
stack_steps (act.Call site) old = inl (old ++ site ∷ [], refl)
stack_steps (act.Return site) old = pops site old

-- a test that has the truth, or not
same_truth : (a b : Bool) → (a ≡ b) ⊎ (a ≡ b → ⊥)
same_truth true true = inl refl
same_truth true false = inr (λ is. absurd (cc))
same_truth false true = inr (λ is. absurd (cc))
same_truth false false = inl refl

has_truth : (o : Option ℤ) (wanted : Bool)
    → IsSomeAnd o (λ v. is_nonzero v ≡ wanted) ⊎ (IsSomeAnd o (λ v. is_nonzero v ≡ wanted) → ⊥)
has_truth None wanted = inr (λ none. none)
has_truth (Some v) wanted = same_truth (is_nonzero v) wanted

below : (n m : ℕ) → (n < m) ⊎ (n < m → ⊥)
below n zero = inr (λ less. absurd (omega (arith, less)))
below zero (suc m) = inl (omega arith)
below (suc n) (suc m) =
    ⊎_elim (λ less. inl (omega (arith, less)))
    (λ no. inr (λ less. no (omega (arith, less)))) (below n m)

same_pos : (n m : ℕ) → Some (pos n) ≡ Some (pos m) → n ≡ m
same_pos n m is = cc

assigns : (base len : ℕ) (index value : Option ℤ) (old : List ℤ)
    → Decided (Assigns base len index value old)
assigns base len None value old = inr (λ new h. let wrong = h.index_is in absurd (cc))
assigns base len (Some (negsuc n)) value old =
    inr (λ new h. let wrong = h.index_is in absurd (cc))
assigns base len (Some (pos n)) None old = inr (λ new h. let wrong = h.value_is in absurd (cc))
assigns base len (Some (pos n)) (Some v) old =
    ⊎_elim
    (λ less. inl (
      slice_set old (base + n) v,
      record {
        place = n;
        written = v;
        index_is = refl;
        value_is = refl;
        inside = less;
        after = refl;
      },
    ))
    (λ no. inr (λ new h. no (
    let same = same_pos n h.place h.index_is in let less = h.inside in omega (arith, same, less))))
    (below n len)

pub store_steps : (cells : List Cell) (a : Act) (old : List ℤ) → IsSettledBy Store a
    → Decided (StepsStore cells a old)
store_steps cells act.Skip old settled = inl (old, refl)
store_steps cells (act.Assign base len index value) old settled =
    assigns base len (value_of index old) (value_of value old) old
store_steps cells (act.Assume test holds) old settled =
    ⊎_elim (λ yes. inl (old, (yes, refl))) (λ no. inr (λ new h. no h.0))
    (has_truth (value_of test old) holds)
store_steps cells (act.Input cell) old settled = absurd settled
store_steps cells (act.Call site) old settled = inl (old, refl)
store_steps cells (act.Return site) old settled = inl (old, refl)

-- what the three parts lead to is a state
pub all_step : ((P : Program) → IsWellFormed P → StepsKeepStates P) → (cfa : Cfa) (edge : ℕ)
    (g : Edge) (s : State) (stack : List ℕ) (values : List ℤ) → IsAutomaton cfa
    → slice_get cfa.edges edge ≡ Some g → IsStateOf cfa s → s.point ≡ g.from
    → StepsStack g.act s.stack stack → StepsStore cfa.cells g.act s.store.values values
    → StepsAlong cfa g s (state_at g.to stack values)
all_step keep cfa edge g s stack values automaton at state from on_stack on_store =
    let P = automaton.program in
    let of = automaton.automaton in
    let t = state_at g.to stack values in
    let before : IsState P.cells (point_count P) s =
    subst (λ (cells : List Cell). IsState cells (point_count P) s) of.cells
    (subst (λ (n : ℕ). IsState cfa.cells n s) of.points state) in
    let moves : Moves P s.point g.act g.to =
    subst (λ (p : ℕ). Moves P p g.act g.to) (sym from)
    (of.moves g (in_list cfa.edges edge g at)) in
    let after : IsState P.cells (point_count P) t =
    keep P automaton.well_formed s t before (record {
      act = g.act;
      point = moves;
      stack = on_stack;
      store = subst (λ (cells : List Cell). StepsStore cells g.act s.store.values values) of.cells
          on_store;
    }) in
    record {
      before = state;
      after = subst (λ (cells : List Cell). IsState cells cfa.points t) (sym of.cells)
          (subst (λ (n : ℕ). IsState P.cells n t) (sym of.points) after);
      from = from;
      to = refl;
      stack = on_stack;
      store = on_store;
    }
