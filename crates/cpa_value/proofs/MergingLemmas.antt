-- That a fact can stand at one place alone among facts in the order of the cells.
use Rattle.std.proofs.Common.{◌≡◌, ℕ, zero, suc, ◌+◌, ◌≤◌, ℤ, Bool, true, false, List, [], ◌∷◌}
use Rattle.std.proofs.Common.{inl, inr, refl, sym, ap, ◌∙◌, arith, cond, length}
use Rattle.std.specs.Prelude.{None, ◌&&◌, ◌||◌, slice_get}
use Rattle.std.specs.Ordering.{int_eq}
use Rattle.std.proofs.lemmas.Bool.{lt-ltb, le-ltb, ne_eqb, eqb-true, cases_lt, false≢true}
use Rattle.cpa_facts.specs.declared.fact.Fact.{Fact}
use Rattle.cpa_facts.specs.declared.fact.Fact.TheVariants.{At, Stack, Equals, Within, Truth}
use Rattle.cpa_model.specs.Standing.{same_fact}
use Rattle.cpa_iface.specs.Common.{stands_in}
use Rattle.cpa_value_changes.specs.Tables.{are_ordered, place_in}
use Rattle.cpa_value_changes.specs.lemmas.Ordered.{begins}
use Rattle.cpa_value.specs.Merging.{has_cell, stands_at}

-- a fact that none of them can be does not stand there
never : (n low : ℕ) (f : Fact) (fs : List Fact) → are_ordered n low fs ≡ true
    → ((own : ℕ) (w : ℤ) → low ≤ own → same_fact (Equals own w) f ≡ false)
    → stands_in fs f ≡ false
never n low f [] is other = refl
never n low f (Equals own w ∷ fs) is other =
    let b = begins n low own w fs is in
    let above = b.above in
    ap (λ t. t || stands_in fs f) (other own w above)
    ∙ never n (own + 1) f fs b.rest (λ next v more. other next v (omega (arith, above, more)))
never n low f (At p ∷ fs) is other = absurd (false≢true is)
never n low f (Stack s ∷ fs) is other = absurd (false≢true is)
never n low f (Within c lo hi ∷ fs) is other = absurd (false≢true is)
never n low f (Truth e h ∷ fs) is other = absurd (false≢true is)

-- a fact on another cell is another one
apart : (own cell : ℕ) (w v : ℤ) → (own ≡ cell → ⊥)
    → same_fact (Equals own w) (Equals cell v) ≡ false
apart own cell w v differ = ap (λ t. t && int_eq w v) (ne_eqb own cell differ)

right_false : (a b : Bool) → b ≡ false → (a || b) ≡ a
right_false true b none = refl
right_false false b none = none

-- a value of a cell stands where its place is, or nowhere
pub value_stands : (n low cell : ℕ) (v : ℤ) (fs : List Fact) → are_ordered n low fs ≡ true
    → stands_at (slice_get fs (place_in cell fs)) (Equals cell v) ≡ stands_in fs (Equals cell v)
value_stands n low cell v [] is = refl
value_stands n low cell v (Equals own w ∷ fs) is =
    let b = begins n low own w fs is in
    let f = Equals cell v in
    let all = Equals own w ∷ fs in
    let at = λ (p : ℕ). stands_at (slice_get all p) f in
    elim (cases_lt own cell) [
      | inl less ↦
          ap (λ t. at (cond t (suc (place_in cell fs)) 0)) (lt-ltb own cell less)
          ∙ (value_stands n (own + 1) cell v fs b.rest
          ∙ sym (ap (λ t. t || stands_in fs f)
          (apart own cell w v (λ same. let eq : own ≡ cell = same in omega (arith, less, eq)))))
      | inr past ↦
          ap (λ t. at (cond t (suc (place_in cell fs)) 0)) (le-ltb own cell past)
          ∙ sym (right_false (same_fact (Equals own w) f) (stands_in fs f)
          (never n (own + 1) f fs b.rest (λ next u more.
          apart next cell u v (λ same.
          let eq : next ≡ cell = same in omega (arith, past, more, eq)))))
    ]
value_stands n low cell v (At p ∷ fs) is = absurd (false≢true is)
value_stands n low cell v (Stack s ∷ fs) is = absurd (false≢true is)
value_stands n low cell v (Within c lo hi ∷ fs) is = absurd (false≢true is)
value_stands n low cell v (Truth e h ∷ fs) is = absurd (false≢true is)

past_end : {X : Type 0} (xs : List X) → slice_get xs (length xs) ≡ None
past_end [] = refl
past_end (x ∷ xs) = past_end xs

-- another fact stands nowhere, and nothing stands behind the last one
pub other_stands : (n k : ℕ) (f : Fact) (fs : List Fact) → k ≡ length fs
    → are_ordered n 0 fs ≡ true → ((own : ℕ) (w : ℤ) → same_fact (Equals own w) f ≡ false)
    → stands_at (slice_get fs k) f ≡ stands_in fs f
other_stands n k f fs long is other =
    ap (λ p. stands_at (slice_get fs p) f) long
    ∙ (ap (λ o. stands_at o f) (past_end fs)
    ∙ sym (never n 0 f fs is (λ own w above. other own w)))

-- where a fact of the cell stands is its place
record IsPlace (low cell k : ℕ) (fs : List Fact) : Type 0 where
  above : low ≤ cell
  is : k ≡ place_in cell fs

own_place : (n low cell k : ℕ) (fs : List Fact) → are_ordered n low fs ≡ true
    → has_cell cell (slice_get fs k) ≡ true → IsPlace low cell k fs
own_place n low cell k [] is has = absurd (false≢true has)
own_place n low cell zero (Equals own w ∷ fs) is has =
    let above = (begins n low own w fs is).above in
    let same : own ≡ cell = eqb-true own cell has in
    record {
      above = omega (arith, above, same);
      is = sym (ap (λ t. cond t (suc (place_in cell fs)) 0)
          (le-ltb own cell (omega (arith, same))));
    }
own_place n low cell (suc k) (Equals own w ∷ fs) is has =
    let b = begins n low own w fs is in
    let above = b.above in
    let rest = own_place n (own + 1) cell k fs b.rest has in
    let less = rest.above in
    record {
      above = omega (arith, above, less);
      is = ap (λ p. suc p) rest.is ∙ sym (ap (λ t. cond t (suc (place_in cell fs)) 0)
          (lt-ltb own cell (omega (arith, less))));
    }
own_place n low cell k (At p ∷ fs) is has = absurd (false≢true is)
own_place n low cell k (Stack s ∷ fs) is has = absurd (false≢true is)
own_place n low cell k (Within c lo hi ∷ fs) is has = absurd (false≢true is)
own_place n low cell k (Truth e h ∷ fs) is has = absurd (false≢true is)

pub near_place : (n cell k : ℕ) (fs : List Fact) → are_ordered n 0 fs ≡ true
    → has_cell cell (slice_get fs k) ≡ true → k ≡ place_in cell fs
near_place n cell k fs is has = (own_place n 0 cell k fs is has).is

-- a fact that says no value of a cell is no such fact
pub unlike : (f : Fact) → ((cell : ℕ) (v : ℤ) → f ≡ Equals cell v → ⊥) → (own : ℕ) (w : ℤ)
    → same_fact (Equals own w) f ≡ false
unlike (At p) differs own w = refl
unlike (Stack s) differs own w = refl
unlike (Equals cell v) differs own w = absurd (differs cell v refl)
unlike (Within c lo hi) differs own w = refl
unlike (Truth e h) differs own w = refl
