-- Where each cell is known and tracked, the transfer is the step of the store.
use Rattle.std.proofs.Common.{◌≡◌, ℕ, ◌+◌, ◌<◌, ℤ, pos, negsuc, Bool, true, false, List, [], ◌∷◌}
use Rattle.std.proofs.Common.{refl, sym, ap, ◌∙◌, subst, arith, cond, length, map, inl, inr, get_or}
use Rattle.std.proofs.Common.{length-set}
use Rattle.std.specs.Prelude.{zero, suc, nat_lt, ◌⊎◌, ◌==◌, Option, None, Some, Ok, Err, slice_set}
use Rattle.std.specs.Prelude.{IsSomeAnd}
use Rattle.std.proofs.lemmas.Bool.Decides.{Decides-ltb, Decides-eqb}
use Rattle.std.proofs.lemmas.List.{map-set, same_lists}
use Rattle.std.proofs.lemmas.List.FromFn.{length-map-range_with_len, get_or-map-range_with_len}
use Rattle.cpa_expr.specs.declared.tree.Expr.{Expr}
use Rattle.cpa_expr.specs.Cells.{AreValues}
use Rattle.cpa_expr.specs.Values.{value_of, is_nonzero}
use Rattle.cpa_facts.specs.declared.fact.Fact.TheVariants.{Equals}
use Rattle.cpa_model.specs.declared.program.Cell.{Cell}
use Rattle.cpa_model.specs.declared.automaton.Act.{Act}
use Rattle.cpa_model.specs.declared.automaton.Act.TheVariants.{Skip, Assign, Assume, Input, Call}
use Rattle.cpa_model.specs.declared.automaton.Act.TheVariants.{Return}
use Rattle.cpa_model.specs.declared.automaton.Cfa.{Cfa}
use Rattle.cpa_model.specs.Expressions.{types_of}
use Rattle.cpa_model.specs.Standing.{same_bool}
use Rattle.cpa_model.specs.Steps.{StepsStore}
use Rattle.cpa_iface.specs.declared.analysis.Part.TheVariants.{Store}
use Rattle.cpa_model.specs.Acts.{IsActOf}
use Rattle.cpa_iface.specs.Pins.{equals_from, IsSettledBy}
use Rattle.cpa_value_changes.specs.declared.known.Gap.TheVariants.{Unknown, Trap}
use Rattle.cpa_value_changes.specs.KnownValues.{Known, known_value}
use Rattle.cpa_value_changes.specs.Acts.{assigned, assumed, after_act}
use Rattle.cpa_value_changes.specs.Cells.{first_value, known_cells}
use Rattle.cpa_value.specs.Cells.{facts_from}
use Rattle.cpa_value.proofs.KnownLemmas.{Agrees, known_agrees, IsSettled, known_settles}
use Rattle.cpa_value.proofs.StoreLemmas.{some_and, same_bool-means, same_bool-from, zip_length}
use Rattle.cpa_value.proofs.StoreLemmas.{all_known}

-- the act leads to one store, which is known whole, or to none
abbrev pub IsExactStep : List Cell → Act → List ℤ → Option (List (Option ℤ)) → Type 0
IsExactStep cs act old o =
    ((new : List ℤ) × (StepsStore cs act old new) × (o ≡ Some (map Some new)))
    ⊎ (((new : List ℤ) → StepsStore cs act old new → ⊥) × (o ≡ None))

none_some : {X : Type 0} (o : Option X) (x : X) → o ≡ None → o ≡ Some x → ⊥
none_some o x none some = cc

exact_assign : (cs : List Cell) (old : List ℤ) (base len : ℕ) (index value : Expr) (ki kv : Known)
    → Agrees ki (value_of index old) → Agrees kv (value_of value old) → IsSettled ki → IsSettled kv
    → IsExactStep cs (Assign base len index value) old (assigned base len ki kv (map Some old))
exact_assign cs old base len index value (Err Unknown) kv ai av si sv = absurd si
exact_assign cs old base len index value (Err Trap) kv ai av si sv =
    inr ((λ new steps. none_some (value_of index old) (pos steps.place) ai steps.index_is), refl)
exact_assign cs old base len index value (Ok i) (Err Unknown) ai av si sv = absurd sv
exact_assign cs old base len index value (Ok i) (Err Trap) ai av si sv =
    inr ((λ new steps. none_some (value_of value old) steps.written av steps.value_is), refl)
exact_assign cs old base len index value (Ok (negsuc i)) (Ok v) ai av si sv =
    inr ((λ new steps. apart steps.place (sym ai ∙ steps.index_is)), refl) where
      apart : (n : ℕ) → ◌≡◌ {A = Option ℤ} (Some (negsuc i)) (Some (pos n)) → ⊥
      apart n is = cc
exact_assign cs old base len index value (Ok (pos i)) (Ok v) ai av si sv =
    by (nat_lt i len) refl where
      place_is : (place : ℕ) → value_of index old ≡ Some (pos place) → place ≡ i
      place_is place is = let same : ◌≡◌ {A = Option ℤ} (Some (pos i)) (Some (pos place)) = sym ai
          ∙ is in cc

      by : (b : Bool) → nat_lt i len ≡ b
          → IsExactStep cs (Assign base len index value) old
          (cond b (Some (slice_set (map Some old) (base + i) (Some v))) None)
      by true less =
          inl (
            slice_set old (base + i) v,
            record {
              place = i;
              written = v;
              index_is = ai;
              value_is = av;
              inside =
                  (Decides-ltb i len).0 less;
              after = refl;
            },
            ap Some (sym (map-set Some old (base + i) v)),
          )
      by false not_less =
          inr (
            (λ new steps.
                let same : steps.place ≡ i = place_is steps.place steps.index_is in
                let less : i < len = subst (λ n. n < len) same steps.inside in
                let yes_less : nat_lt i len ≡ true = (Decides-ltb i len).1 less in
                absurd (cc (yes_less, not_less))),
            refl,
          )

exact_assume : (cs : List Cell) (old : List ℤ) (tracked : ℕ → Bool) (test : Expr) (holds : Bool)
    (k : Known) → Agrees k (value_of test old) → IsSettled k
    → IsExactStep cs (Assume test holds) old (assumed tracked test holds k (map Some old))
exact_assume cs old tracked test holds (Err Unknown) agrees settled = absurd settled
exact_assume cs old tracked test holds (Err Trap) agrees settled =
    inr (
      (λ new steps. let it = some_and (λ v. is_nonzero v ≡ holds) (value_of test old) steps.0 in
          none_some (value_of test old) it.0 agrees it.1),
      refl,
    )
exact_assume cs old tracked test holds (Ok v) agrees settled =
    by (same_bool (is_nonzero v) holds) refl where
      by : (b : Bool) → same_bool (is_nonzero v) holds ≡ b
          → IsExactStep cs (Assume test holds) old (cond b (Some (map Some old)) None)
      by true same =
          inl (
            old,
            (
              subst (λ o. IsSomeAnd o (λ w. is_nonzero w ≡ holds)) (sym agrees)
                  (same_bool-means (is_nonzero v) holds same),
              refl,
            ),
            refl,
          )
      by false other =
          inr (
            (λ new steps.
                let it = some_and (λ w. is_nonzero w ≡ holds) (value_of test old) steps.0 in
                let value : it.0 ≡ v = let same : ◌≡◌ {A = Option ℤ} (Some it.0) (Some v) = sym it.1
                ∙ agrees in cc in
                let holds_so : is_nonzero v ≡ holds =
                subst (λ w. is_nonzero w ≡ holds) value it.2 in
                let same : same_bool (is_nonzero v) holds ≡ true =
                same_bool-from (is_nonzero v) holds holds_so in
                absurd (cc (same, other))),
            refl,
          )

-- of a store that is known whole
pub exact_act : (cfa : Cfa) (tracked : ℕ → Bool) (act : Act) (old : List ℤ) → IsActOf cfa act
    → IsSettledBy Store act → AreValues (types_of cfa.cells) old
    → IsExactStep cfa.cells act old (after_act tracked act (map Some old))
exact_act cfa tracked Skip old sound settled all = inl (old, refl, refl)
exact_act cfa tracked (Assign base len index value) old sound settled all =
    let types = types_of cfa.cells in
    let cells = map Some old in
    let long = zip_length types old all in
    exact_assign cfa.cells old base len index value (known_value index cells)
    (known_value value cells)
    (known_agrees cells old (all_known old) index) (known_agrees cells old (all_known old) value)
    (known_settles types old long index sound.1.typed)
    (known_settles types old long value sound.2.typed)
exact_act cfa tracked (Assume test holds) old sound settled all =
    let types = types_of cfa.cells in
    let cells = map Some old in
    exact_assume cfa.cells old tracked test holds (known_value test cells)
    (known_agrees cells old (all_known old) test)
    (known_settles types old (zip_length types old all) test sound.typed)
exact_act cfa tracked (Input cell) old sound settled all = absurd settled
exact_act cfa tracked (Call site) old sound settled all = inl (old, refl, refl)
exact_act cfa tracked (Return site) old sound settled all = inl (old, refl, refl)

same_some : (a b : ℤ) (o : Option ℤ) → o ≡ Some a → o ≡ Some b → a ≡ b
same_some a b o p q = cc

same_pos : (m n : ℕ) → pos m ≡ pos n → m ≡ n
same_pos m n is = cc

-- but for an input, a step of the store leads to one store
pub one_step : (cs : List Cell) (act : Act) (old new other : List ℤ) → IsSettledBy Store act
    → StepsStore cs act old new → StepsStore cs act old other → new ≡ other
one_step cs Skip old new other settled a b = a ∙ sym b
one_step cs (Assign base len index value) old new other settled a b =
    let place : a.place ≡ b.place = same_pos a.place b.place
    (same_some (pos a.place) (pos b.place) (value_of index old) a.index_is b.index_is) in
    let value_same : a.written ≡ b.written =
    same_some a.written b.written (value_of value old) a.value_is b.value_is in
    a.after ∙ (ap (λ n. slice_set old (base + n) a.written) place
    ∙ (ap (slice_set old (base + b.place)) value_same ∙ sym b.after))
one_step cs (Assume test holds) old new other settled a b = a.1 ∙ sym b.1
one_step cs (Input cell) old new other settled a b = absurd settled
one_step cs (Call site) old new other settled a b = a ∙ sym b
one_step cs (Return site) old new other settled a b = a ∙ sym b

-- the facts of a pin give each cell its value
pinned_value : (k : ℕ) (values : List ℤ) (i c : ℕ) (d : ℤ) → k + i ≡ c → i < length values
    → first_value (equals_from k values) c ≡ Some (get_or values i d)
pinned_value k [] i c d at inside = absurd (omega arith)
pinned_value k (v ∷ values) zero c d at inside =
    let here : (k == c) ≡ true = (Decides-eqb k c).1 (omega (arith, at)) in
    ap (λ b. cond b (Some v) (first_value (equals_from (k + 1) values) c)) here
pinned_value k (v ∷ values) (suc i) c d at inside =
    by (k == c) refl (pinned_value (k + 1) values i c d (omega (arith, at))
    (omega (arith, inside))) where
      by : (b : Bool) → (k == c) ≡ b → first_value (equals_from (k + 1) values) c
          ≡ Some (get_or values i d) → cond b (Some v) (first_value (equals_from (k + 1) values) c)
          ≡ Some (get_or values i d)
      by true same later = absurd (let here : k ≡ c = (Decides-eqb k c).0 same in
          omega (arith, at, here))
      by false other later = later

mapped_at : (values : List ℤ) (k : ℕ) (o : Option ℤ) (d : ℤ) → k < length values
    → get_or (map Some values) k o ≡ Some (get_or values k d)
mapped_at [] k o d inside = absurd (omega arith)
mapped_at (v ∷ values) zero o d inside = refl
mapped_at (v ∷ values) (suc k) o d inside = mapped_at values k o d (omega (arith, inside))

mapped_length : (values : List ℤ) → length (map Some values) ≡ length values
mapped_length [] = refl
mapped_length (v ∷ values) = ap suc (mapped_length values)

-- so its cells are all known
pub pinned_cells : (n : ℕ) (values : List ℤ) → length values ≡ n
    → known_cells n (equals_from 0 values) ≡ map Some values
pinned_cells n values long =
    let f = first_value (equals_from 0 values) in
    let all = length-map-range_with_len f 0 n in
    same_lists (known_cells n (equals_from 0 values)) (map Some values)
    (all ∙ (sym long ∙ sym (mapped_length values))) (λ k d inside.
    let less : k < n = omega (arith, all, inside) in
    let within : k < length values = omega (arith, less, long) in
    get_or-map-range_with_len f 0 n k k d less (omega arith)
    ∙ (pinned_value 0 values k k (pos 0) (omega arith) within
    ∙ sym (mapped_at values k d (pos 0) within)))

-- and the facts of known cells that are all tracked are the pin
pub pin_of_known : (tracked : ℕ → Bool) (n : ℕ) (values : List ℤ)
    → ((i j : ℕ) → n + i ≡ j → i < length values → tracked j ≡ true)
    → facts_from tracked n (map Some values) ≡ equals_from n values
pin_of_known tracked n [] each = refl
pin_of_known tracked n (v ∷ values) each =
    ap (λ b. cond b (Equals n v ∷ facts_from tracked (n + 1) (map Some values))
    (facts_from tracked (n + 1) (map Some values))) (each 0 n (omega arith) (omega arith))
    ∙ ap (λ l. Equals n v ∷ l) (pin_of_known tracked (n + 1) values
    (λ i j at inside. each (suc i) j (omega (arith, at)) (omega (arith, inside))))

-- a step of the store keeps how many cells there are
pub steps_length : (cs : List Cell) (act : Act) (old new : List ℤ) → StepsStore cs act old new
    → length new ≡ length old
steps_length cs Skip old new steps = ap length steps
steps_length cs (Assign base len index value) old new steps = ap length steps.after
    ∙ length-set old (base + steps.place) steps.written
steps_length cs (Assume test holds) old new steps = ap length steps.1
steps_length cs (Input cell) old new steps = ap length steps.2 ∙ length-set old cell steps.0
steps_length cs (Call site) old new steps = ap length steps
steps_length cs (Return site) old new steps = ap length steps
