-- What is to be true of wanted expressions is true exactly where they have their wanted truth.
use Rattle.std.proofs.Common.{◌≡◌, ◌↔◌, ℕ, ◌*◌, ◌<◌, Bool, true, false, not, List, [], ◌∷◌, Option}
use Rattle.std.proofs.Common.{None, Some, refl, sym, ap, ◌∙◌, ℤ}
use Rattle.std.specs.Prelude.{IfSome, IsSomeAnd, ◌==◌}
use Rattle.std.specs.List.{AllByRecursion}
use Rattle.cpa_ints.specs.declared.integers.IntType.{IntType}
use Rattle.cpa_ints.specs.Integers.{IsInRange}
use Rattle.cpa_cnf.specs.Lines.{AreBelow}
use Rattle.cpa_blast_gates.specs.declared.gate.Gate.{Gate}
use Rattle.cpa_blast_gates.specs.Gates.{lit_value}
use Rattle.cpa_blast_gates.specs.Nets.{vars, Holds, Built}
use Rattle.cpa_blast_gates.specs.Meanings.{Grows}
use Rattle.cpa_blast_gates.specs.Laws.{literals_have_values, nets_grow}
use Rattle.cpa_blast_words.specs.Truths.{values, number}
use Rattle.cpa_blast_words.specs.Words.{some_bit}
use Rattle.cpa_blast_words.specs.Laws.{words_mean_their_operators}
use Rattle.cpa_blast_words.specs.lemmas.Columns.{still_below, opposite_below}
use Rattle.cpa_expr.specs.declared.tree.Expr.{Expr}
use Rattle.cpa_expr.specs.Shape.{type_of, IsTyped}
use Rattle.cpa_expr.specs.Values.{value_of, is_nonzero, HasTruth}
use Rattle.cpa_expr.specs.Laws.{values_lie_in_range}
use Rattle.cpa_blast_circuits.specs.declared.answer.Word.{Word}
use Rattle.cpa_blast_circuits.specs.Circuits.{circuit}
use Rattle.cpa_blast_circuits.specs.Meanings.{types_of, HasStore, IsAnswer}
use Rattle.cpa_blast_circuits.specs.Laws.{AreCellWords, CircuitsHaveValues}
use Rattle.cpa_blast_circuits.specs.lemmas.Facts.{nonzero}
use Rattle.cpa_blast_circuits.specs.lemmas.CellWords.{store_values}
use Rattle.cpa_blast_circuits.specs.lemmas.ReadMeanings.{words_still_of}
use Rattle.cpa_blast.specs.declared.formulas.Required.{Required}
use Rattle.cpa_blast.specs.Formulas.{told, told_in, asserted}

-- all literals are true
abbrev pub AreTrue : (ℕ → Bool) → List ℕ → Type 0
AreTrue m ls = AllByRecursion (λ l. lit_value m l ≡ true) ls

-- the wanted expressions have their truth
abbrev pub HaveTruth : List ℤ → List (Expr × Bool) → Type 0
HaveTruth store wanted = AllByRecursion (λ one. HasTruth store one.0 one.1) wanted

abbrev pub AreTypedOver : List IntType → List (Expr × Bool) → Type 0
AreTypedOver cells wanted = AllByRecursion (λ one. IsTyped cells one.0) wanted

told_truth : (m : ℕ → Bool) (holds n : Bool) (l : ℕ) → lit_value m l ≡ n
    → (lit_value m (told holds l) ≡ true) ↔ (n ≡ holds)
told_truth m true n l is = (λ e. sym is ∙ e, λ e. is ∙ e)
told_truth m false n l is = (
  λ e. from n (sym (literals_have_values.negative m l ∙ ap not is) ∙ e),
  λ e. literals_have_values.negative m l ∙ ap not (is ∙ e),
)
  where
    from : (b : Bool) → not b ≡ true → b ≡ false
    from false e = refl
    from true e = absurd (cc)

told_below : (n l : ℕ) (holds : Bool) → l < 2 * n → told holds l < 2 * n
told_below n l true below = below
told_below n l false below = opposite_below n l below

-- one wanted expression
pub record TellsOne (cells : List Word) (e : Expr) (holds : Bool) (s : List Gate)
    (made : Built Required) : Type 0
  where
    pub grows : Grows s made.net
    pub ok_below : made.value.ok < 2 * vars made.net
    pub truth_below : made.value.truth < 2 * vars made.net
    pub is : (m : ℕ → Bool) (store : List ℤ) → Holds m made.net → HasStore m cells store
        → ((lit_value m made.value.ok ≡ true) × (lit_value m made.value.truth ≡ true))
        ↔ HasTruth store e holds

module _ (circuits : CircuitsHaveValues) where
  told_is : (s : List Gate) (cells : List Word) (e : Expr) (holds : Bool) → AreCellWords s cells
      → IsTyped (types_of cells) e → TellsOne cells e holds s (told_in cells e holds s)
  unfolding told_in
  told_is s cells e holds are typed =
      let a = circuit cells e s in
      let truth = some_bit a.net a.value.bits in
      let made = circuits s cells e are typed in
      let bit = words_mean_their_operators.some_bit a.net a.value.bits made.grows.scoped
      made.bits_below in
      record {
        grows = nets_grow.on s a.net truth.net made.grows bit.grows;
        ok_below = still_below a.net truth.net a.value.ok bit.grows made.ok_below;
        truth_below = told_below (vars truth.net) truth.value holds bit.below;
        is = λ m store holds_net has.
            by (value_of e store) m (made.is m store (bit.grows.keeps m holds_net) has)
            (values_lie_in_range (types_of cells) e store typed (store_values m cells store has))
            (bit.is m holds_net);
      }
    where
      by : (v : Option ℤ) (m : ℕ → Bool) → IsAnswer m (type_of e) (circuit cells e s).value v
          → IfSome v (IsInRange (type_of e))
          → lit_value m (some_bit (circuit cells e s).net (circuit cells e s).value.bits).value
          ≡ not (number (values m (circuit cells e s).value.bits) == 0)
          → ((lit_value m (circuit cells e s).value.ok ≡ true)
          × (lit_value m (told holds (some_bit (circuit cells e s).net
          (circuit cells e s).value.bits).value) ≡ true))
          ↔ IsSomeAnd v (λ a. is_nonzero a ≡ holds)
      by None m is range bit = (λ h. absurd (no (sym is.ok ∙ h.0)), λ h. absurd h)
        where
          no : false ≡ true → ⊥
          no e = absurd (cc)
      by (Some n) m is range bit =
          let told_is = told_truth m holds (is_nonzero n)
          (some_bit (circuit cells e s).net (circuit cells e s).value.bits).value
          (bit
          ∙ nonzero (type_of e) (values m (circuit cells e s).value.bits) n range is.bits)
          in (λ h. told_is.0 h.1, λ h. (is.ok, told_is.1 h))

  -- all of them
  pub record Tells (cells : List Word) (wanted : List (Expr × Bool)) (s : List Gate)
      (made : Built (List ℕ)) : Type 0
    where
      pub grows : Grows s made.net
      pub below : AreBelow (vars made.net) made.value
      pub is : (m : ℕ → Bool) (store : List ℤ) → Holds m made.net → HasStore m cells store
          → AreTrue m made.value ↔ HaveTruth store wanted

  pub asserted_is : (wanted : List (Expr × Bool)) (s : List Gate) (cells : List Word)
      → AreCellWords s cells → AreTypedOver (types_of cells) wanted
      → Tells cells wanted s (asserted cells wanted s)
  unfolding asserted
  asserted_is [] s cells are typed = record {
    grows = nets_grow.stays s are.scoped;
    below = tt;
    is = λ m store holds has. (λ h. tt, λ h. tt);
  }
  asserted_is (one ∷ wanted) s cells are typed =
      let first = told_in cells one.0 one.1 s in
      let tells = told_is s cells one.0 one.1 are typed.0 in
      let still : AreCellWords first.net cells = record {
        scoped = tells.grows.scoped;
        below = words_still_of s first.net cells tells.grows are.below;
        long = are.long;
        few = are.few;
      } in
      let rest = asserted_is wanted first.net cells still typed.1 in
      let made = asserted cells wanted first.net in
      record {
        grows = nets_grow.on s first.net made.net tells.grows rest.grows;
        below = (
          still_below first.net made.net first.value.ok rest.grows tells.ok_below,
          (
            still_below first.net made.net first.value.truth rest.grows tells.truth_below,
            rest.below,
          ),
        );
        is = λ m store holds has.
            let here = tells.is m store (rest.grows.keeps m holds) has in
            let later = rest.is m store holds has in (
              λ h. (here.0 (h.0, h.1.0), later.0 h.1.1),
              λ h. let both = here.1 h.0 in (both.0, (both.1, later.1 h.1)),
            );
      }
