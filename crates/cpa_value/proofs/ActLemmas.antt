-- What an act makes of known values is true of the stores to which its step leads, and lies in the
-- ranges of the cells.
use Rattle.std.proofs.Common.{◌≡◌, ℕ, ◌+◌, ◌<◌, ℤ, pos, negsuc, ◌||◌, Bool, List, refl, sym, ap}
use Rattle.std.proofs.Common.{◌∙◌, subst, arith, cond, length, inl, inr}
use Rattle.std.specs.Prelude.{nat_lt, ◌⊎◌, Option, None, Some, Ok, Err, slice_get, slice_set}
use Rattle.std.specs.Prelude.{IsSomeAnd, IfSome}
use Rattle.std.specs.List.{AllByRecursion}
use Rattle.std.proofs.lemmas.Bool.{cond_both}
use Rattle.std.proofs.lemmas.Bool.Decides.{Decides-ltb}
use Rattle.std.proofs.lemmas.Option.{slice_get_within}
use Rattle.cpa_ints.specs.declared.integers.IntType.{IntType}
use Rattle.cpa_ints.specs.Integers.{IsInRange}
use Rattle.cpa_expr.specs.declared.tree.Expr.{Expr, out-Expr}
use Rattle.cpa_expr.specs.Cells.{AreValues}
use Rattle.cpa_expr.specs.Shape.{AreCells, IsTyped, IsTypedHere, type_of}
use Rattle.cpa_expr.specs.Values.{value_of, is_nonzero}
use Rattle.cpa_expr.specs.lemmas.Parts.{every_iff}
use Rattle.cpa_model.specs.declared.program.Cell.{Cell}
use Rattle.cpa_model.specs.declared.automaton.Act.{Act}
use Rattle.cpa_model.specs.declared.automaton.Act.TheVariants.{Skip, Assign, Assume, Input, Call}
use Rattle.cpa_model.specs.declared.automaton.Act.TheVariants.{Return}
use Rattle.cpa_model.specs.declared.automaton.Cfa.{Cfa}
use Rattle.cpa_model.specs.Expressions.{types_of}
use Rattle.cpa_model.specs.Standing.{same_bool}
use Rattle.cpa_model.specs.Steps.{StepsStore}
use Rattle.cpa_model.specs.Acts.{IsActOf}
use Rattle.cpa_value_changes.specs.declared.known.Gap.TheVariants.{Unknown, Trap}
use Rattle.cpa_value_changes.specs.KnownValues.{Known, known_value}
use Rattle.cpa_value_changes.specs.Acts.{ok_of, is_trap, written, placed, assigned, assumed}
use Rattle.cpa_value_changes.specs.Acts.{after_act}
use Rattle.cpa_value.proofs.KnownLemmas.{AgreeCells, known_agrees}
use Rattle.cpa_value.proofs.RangeLemmas.{AreKnown, AreKnown-set, AreKnown-forgotten, typed_cell}
use Rattle.cpa_value.proofs.RangeLemmas.{known_in_range}
use Rattle.cpa_folds.specs.lemmas.ScalarReads.{StaysInRange, value_out}
use Rattle.cpa_value.proofs.StoreLemmas.{agree_put, agree_forgotten, agrees_some, some_and}
use Rattle.cpa_value.proofs.StoreLemmas.{same_bool-from, zip_length}
use Rattle.cpa_value.proofs.LearnLemmas.{Gives, learned_gives, learned_known}

-- a write whose index and value are what is known of them, or not known
assigned_gives : (cells : List (Option ℤ)) (old : List ℤ) (base len place : ℕ) (w : ℤ)
    (index value : Known) → AgreeCells cells old
    → place < len → base + place < length old → (index ≡ Ok (pos place)) ⊎ (index ≡ Err Unknown)
    → (value ≡ Ok w) ⊎ (value ≡ Err Unknown)
    → Gives (assigned base len index value cells) (slice_set old (base + place) w)
assigned_gives cells old base len place w index value agree less inside index_is value_is =
    by_index index_is value_is where
      at_place : (o : Option ℤ) → ((v : ℤ) → o ≡ Some v → (w ≡ v) × (base + place < length old))
          → Gives (written base len (pos place) o cells) (slice_set old (base + place) w)
      at_place o known = subst (λ b. Gives (cond b (Some (slice_set cells (base + place) o)) None)
          (slice_set old (base + place) w)) (sym ((Decides-ltb place len).1 less))
          (agree_put cells old (base + place) o w agree known)

      known_place : (value ≡ Ok w) ⊎ (value ≡ Err Unknown)
          → Gives (assigned base len (Ok (pos place)) value cells) (slice_set old (base + place) w)
      known_place (inl is) = subst (λ k. Gives (assigned base len (Ok (pos place)) k cells)
          (slice_set old (base + place) w)) (sym is)
          (at_place (Some w) (λ v same. let here : w ≡ v = cc in (here, inside)))
      known_place (inr is) = subst (λ k. Gives (assigned base len (Ok (pos place)) k cells)
          (slice_set old (base + place) w)) (sym is)
          (at_place None (λ v same. absurd (cc same)))

      unknown_place : (value ≡ Ok w) ⊎ (value ≡ Err Unknown)
          → Gives (assigned base len (Err Unknown) value cells) (slice_set old (base + place) w)
      unknown_place (inl is) = subst (λ k. Gives (assigned base len (Err Unknown) k cells)
          (slice_set old (base + place) w)) (sym is)
          (agree_forgotten cells old base len place w agree less)
      unknown_place (inr is) = subst (λ k. Gives (assigned base len (Err Unknown) k cells)
          (slice_set old (base + place) w)) (sym is)
          (agree_forgotten cells old base len place w agree less)

      by_index : (index ≡ Ok (pos place)) ⊎ (index ≡ Err Unknown)
          → (value ≡ Ok w) ⊎ (value ≡ Err Unknown)
          → Gives (assigned base len index value cells) (slice_set old (base + place) w)
      by_index (inl is) v = subst (λ k. Gives (assigned base len k value cells)
          (slice_set old (base + place) w)) (sym is) (known_place v)
      by_index (inr is) v = subst (λ k. Gives (assigned base len k value cells)
          (slice_set old (base + place) w)) (sym is) (unknown_place v)

assumed_gives : (stays : StaysInRange) (types : List IntType) (values : List ℤ)
    (cells : List (Option ℤ)) (tracked : ℕ → Bool) (test : Expr) (holds : Bool) (v : ℤ) (k : Known)
    → AreValues types values → AgreeCells cells values → IsTyped types test
    → value_of test values ≡ Some v → is_nonzero v ≡ holds
    → (k ≡ Ok v) ⊎ (k ≡ Err Unknown) → Gives (assumed tracked test holds k cells) values
assumed_gives stays types values cells tracked test holds v k all agree typed is truth_is
    (inl known) =
    subst (λ x. Gives (assumed tracked test holds x cells) values) (sym known)
    (subst (λ b. Gives (cond b (Some cells) None) values)
    (sym (same_bool-from (is_nonzero v) holds truth_is)) agree)
assumed_gives stays types values cells tracked test holds v k all agree typed is truth_is
    (inr unknown) =
    let split = (every_iff (IsTypedHere types) test).0 typed in
    subst (λ x. Gives (assumed tracked test holds x cells) values) (sym unknown)
    (learned_gives stays types values cells tracked
    (out-Expr test) holds v all agree split.0 split.1 (sym (value_out test values) ∙ is) truth_is)

-- each step of the store leads to one that has the known values after it
pub act_gives : (stays : StaysInRange) (cfa : Cfa) (tracked : ℕ → Bool) (act : Act)
    (cells : List (Option ℤ)) (old new : List ℤ)
    → IsActOf cfa act → AreValues (types_of cfa.cells) old → AgreeCells cells old
    → StepsStore cfa.cells act old new
    → Gives (after_act tracked act cells) new
act_gives stays cfa tracked Skip cells old new sound all agree steps =
    subst (AgreeCells cells) (sym steps) agree
act_gives stays cfa tracked (Assign base len index value) cells old new sound all agree steps =
    let types = types_of cfa.cells in
    let inside : base + steps.place < length types =
    slice_get_within types (base + steps.place) (type_of value)
    (sound.3 steps.place steps.inside) in
    let long : length types ≡ length old = zip_length types old all in
    subst (Gives (assigned base len (known_value index cells) (known_value value cells) cells))
    (sym steps.after)
    (assigned_gives cells old base len steps.place steps.written (known_value index cells)
    (known_value value cells) agree steps.inside (omega (arith, long, inside))
    (agrees_some (known_value index cells) (value_of index old) (pos steps.place)
    (known_agrees cells old agree index) steps.index_is)
    (agrees_some (known_value value cells) (value_of value old) steps.written
    (known_agrees cells old agree value) steps.value_is))
act_gives stays cfa tracked (Assume test holds) cells old new sound all agree steps =
    let it = some_and (λ v. is_nonzero v ≡ holds) (value_of test old) steps.0 in
    subst (Gives (assumed tracked test holds (known_value test cells) cells)) (sym steps.1)
    (assumed_gives stays (types_of cfa.cells) old cells tracked test holds it.0
    (known_value test cells) all agree sound.typed it.1 it.2
    (agrees_some (known_value test cells) (value_of test old) it.0
    (known_agrees cells old agree test) it.1))
act_gives stays cfa tracked (Input cell) cells old new sound all agree steps =
    subst (AgreeCells (slice_set cells cell None)) (sym steps.2)
    (agree_put cells old cell None steps.0 agree (λ v same. absurd (cc same)))
act_gives stays cfa tracked (Call site) cells old new sound all agree steps =
    subst (AgreeCells cells) (sym steps) agree
act_gives stays cfa tracked (Return site) cells old new sound all agree steps =
    subst (AgreeCells cells) (sym steps) agree

placed_known : (cs : List Cell) (base len : ℕ) (t : IntType) (index : Known) (o : Option ℤ)
    (cells : List (Option ℤ)) → AreKnown cs cells
    → AreCells (types_of cs) base len t → ((v : ℤ) → o ≡ Some v → IsInRange t v)
    → IfSome (placed base len index o cells) (AreKnown cs)
placed_known cs base len t (Err gap) o cells known are within =
    AreKnown-forgotten cs cells base len known
placed_known cs base len t (Ok (negsuc i)) o cells known are within = tt
placed_known cs base len t (Ok (pos i)) o cells known are within =
    cond_both (nat_lt i len) (Some (slice_set cells (base + i) o)) None
    (λ r. IfSome r (AreKnown cs))
    (λ less. AreKnown-set cs cells (base + i) o known
    (by o within (are i ((Decides-ltb i len).0 less)))) (λ _. tt) where
      by : (p : Option ℤ) → ((v : ℤ) → p ≡ Some v → IsInRange t v)
          → slice_get (types_of cs) (base + i) ≡ Some t
          → IfSome p (λ v. IsSomeAnd (slice_get cs (base + i)) (λ c. IsInRange c.ty v))
      by None each at = tt
      by (Some v) each at = typed_cell cs (base + i) t v at (each v refl)

ok_means : (k : Known) (v : ℤ) → ok_of k ≡ Some v → k ≡ Ok v
ok_means (Ok w) v is = let same : w ≡ v = cc in ap Ok same
ok_means (Err gap) v is = absurd (cc)

assumed_known : (stays : StaysInRange) (cs : List Cell) (store : List ℤ) (cells : List (Option ℤ))
    (tracked : ℕ → Bool) (test : Expr) (holds : Bool) (k : Known)
    → AreValues (types_of cs) store → AreKnown cs cells → IsTyped (types_of cs) test
    → IfSome (assumed tracked test holds k cells) (AreKnown cs)
assumed_known stays cs store cells tracked test holds (Ok v) all known typed =
    cond_both (same_bool (is_nonzero v) holds) (Some cells) None (λ r. IfSome r (AreKnown cs))
    (λ _. known) (λ _. tt)
assumed_known stays cs store cells tracked test holds (Err Trap) all known typed = tt
assumed_known stays cs store cells tracked test holds (Err Unknown) all known typed =
    let split = (every_iff (IsTypedHere (types_of cs)) test).0 typed in
    learned_known stays cs store cells tracked (out-Expr test) holds all known split.0 split.1

-- the known values after the act lie in the ranges of the cells
pub act_known : (stays : StaysInRange) (cfa : Cfa) (store : List ℤ) (tracked : ℕ → Bool) (act : Act)
    (cells : List (Option ℤ))
    → AllByRecursion (λ c. IsInRange c.ty c.start) cfa.cells → AreValues (types_of cfa.cells) store
    → IsActOf cfa act → AreKnown cfa.cells cells
    → IfSome (after_act tracked act cells) (AreKnown cfa.cells)
act_known stays cfa store tracked Skip cells starts all sound known = known
act_known stays cfa store tracked (Assign base len index value) cells starts all sound known =
    cond_both (is_trap (known_value index cells) || is_trap (known_value value cells)) None
    (placed base len (known_value index cells) (ok_of (known_value value cells)) cells)
    (λ r. IfSome r (AreKnown cfa.cells)) (λ _. tt)
    (λ _. placed_known cfa.cells base len (type_of value) (known_value index cells)
    (ok_of (known_value value cells)) cells known sound.3
    (λ v is. known_in_range cfa.cells cells value v starts known sound.2.typed
    (ok_means (known_value value cells) v is)))
act_known stays cfa store tracked (Assume test holds) cells starts all sound known =
    assumed_known stays cfa.cells store cells tracked test holds
    (known_value test cells) all known sound.typed
act_known stays cfa store tracked (Input cell) cells starts all sound known =
    AreKnown-set cfa.cells cells cell None known tt
act_known stays cfa store tracked (Call site) cells starts all sound known = known
act_known stays cfa store tracked (Return site) cells starts all sound known = known
