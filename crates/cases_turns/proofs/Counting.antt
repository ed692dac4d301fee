-- That the sample which counts keeps the laws of its calls.
use Rattle.std.proofs.Common.{◌≡◌, ℕ, ◌-◌, ◌<◌, ◌^◌, [], ◌∷◌, Option, refl, sym, subst, inl, inr}
use Rattle.std.proofs.Common.{arith}
use Rattle.std.specs.Prelude.{ℤ, pos, ◌⊎◌, IsSomeAnd}
use Rattle.std.specs.Int.Signed.{le_z_yes}
use Rattle.std.proofs.Math.Facts.{yes_leb}
use Rattle.cpa_ints.specs.Integers.{IsInRange}
use Rattle.cpa_ints.specs.declared.integers.IntType.TheVariants.{U32}
use Rattle.cpa_expr.specs.Laws.{a_constant_is_its_number, value_at_variants}
use Rattle.cpa_expr.specs.Values.{is_nonzero}
use Rattle.cpa_model.specs.declared.facts.Elem.{Elem}
use Rattle.cpa_model.specs.declared.states.State.{State}
use Rattle.cpa_model.specs.declared.automaton.Cfa.{Cfa}
use Rattle.cpa_model.specs.Automata.{initial_state}
use Rattle.cpa_model.specs.Expressions.{types_of}
use Rattle.cpa_model.specs.Facts.{Holds}
use Rattle.cpa_iface.specs.declared.merging.MergeRule.TheVariants.{Join}
use Rattle.cpa_iface.specs.declared.precisions.Precision.{Precision}
use Rattle.cpa_iface.specs.Laws.{InitialLaws, TransferLaws, MergeLaws}
use Rattle.cpa_iface.specs.Meanings.{IsShaped}
use Rattle.cases_turns.specs.Samples.{no_facts, count, counter}

count_holds : (n : ℕ) (s : State) → Holds (count n) s
count_holds n s = (
  subst (λ (v : Option ℤ). IsSomeAnd v (λ a. is_nonzero a ≡ is_nonzero (pos n)))
      (sym (value_at_variants.constant U32 (pos n) s.store.values)) refl,
  tt,
)

count_fits : (n : ℕ) → n < 2 ^ 32 → IsInRange U32 (pos n)
count_fits n small = (
  le_z_yes (yes_leb {a = 0} {b = n} (omega arith)),
  le_z_yes (yes_leb {a = n} {b = 2 ^ 32 - 1} (omega (arith, small))),
)

count_shaped : (cfa : Cfa) (n : ℕ) → n < 2 ^ 32 → IsShaped cfa (count n)
count_shaped cfa n small =
    ((a_constant_is_its_number (types_of cfa.cells) U32 (pos n)).1 (count_fits n small), tt)

-- the first element
pub count_initial : (cfa : Cfa) (n : ℕ) → n < 2 ^ 32 → InitialLaws counter cfa (count n)
count_initial cfa n small = record {
  shaped = count_shaped cfa n small;
  holds = count_holds n (initial_state cfa);
  exact = λ other. absurd (other refl);
  bounded = λ p _. omega arith;
  told = tt;
}

-- one more element
pub count_transfer : (cfa : Cfa) (edge : ℕ) (e : Elem) (p : Precision) (n : ℕ) → n < 2 ^ 32
    → TransferLaws counter cfa edge e p (count n ∷ [])
count_transfer cfa edge e p n small = record {
  shaped = (count_shaped cfa n small, tt);
  covers = λ g s t at holds steps. inl (count_holds n t);
  exact = λ binds. absurd binds;
  bounded = λ _. (omega arith, tt);
  told = tt;
}

all_states : (cfa : Cfa) (new old : Elem) (p : Precision)
    → MergeLaws counter cfa Join new old p no_facts
all_states cfa new old p = record {
  shaped = tt;
  covers_old = λ s _ _. tt;
  sep = λ e. absurd (cc);
  covers_new = λ e. absurd (cc);
  covered = λ e. absurd (cc);
  falls = λ e. absurd (cc);
  bounded = λ _ _. omega arith;
  told = tt;
}

the_old : (cfa : Cfa) (new old : Elem) (p : Precision) → IsShaped cfa old
    → MergeLaws counter cfa Join new old p old
the_old cfa new old p shaped = record {
  shaped = shaped;
  covers_old = λ s _ holds. holds;
  sep = λ e. absurd (cc);
  covers_new = λ e. absurd (cc);
  covered = λ e. absurd (cc);
  falls = λ e. absurd (cc);
  bounded = λ _ below. below;
  told = tt;
}

-- what takes the place of an element where elements are joined
pub count_joined : (cfa : Cfa) (new old : Elem) (p : Precision) (e : Elem) → IsShaped cfa old
    → (e ≡ no_facts) ⊎ (e ≡ old) → MergeLaws counter cfa Join new old p e
count_joined cfa new old p e shaped (inl is) =
    subst (MergeLaws counter cfa Join new old p) (sym is) (all_states cfa new old p)
count_joined cfa new old p e shaped (inr is) =
    subst (MergeLaws counter cfa Join new old p) (sym is) (the_old cfa new old p shaped)
