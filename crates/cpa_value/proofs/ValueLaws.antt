-- That the first element and precision, strengthening and adjustment keep the laws.
use Rattle.std.proofs.Common.{◌≡◌, ℕ, ◌≤◌, ◌≤ℤ◌, ℤ, ◌==◌, ◌&&◌, ◌||◌, Bool, true, false}
use Rattle.std.proofs.Common.{List, [], ◌∷◌, refl, sym, ap, ◌∙◌, subst, arith, cond, length, map}
use Rattle.std.proofs.Common.{inl, inr}
use Rattle.std.specs.Prelude.{Option, None, Some, slice_get, slice_index_or, IfSome}
use Rattle.std.specs.Prelude.{IsSomeAnd, option_map, option_and_then}
use Rattle.std.specs.List.{AllByRecursion, filter, list_any}
use Rattle.std.specs.Ordering.{int_eq}
use Rattle.std.proofs.lemmas.Int.{ints}
use Rattle.std.proofs.lemmas.Bool.{cond_both, and_parts}
use Rattle.std.proofs.lemmas.Bool.Decides.{Decides-eqb, Decides-int_eq}
use Rattle.cpa_ints.specs.Integers.{IsInRange}
use Rattle.cpa_facts.specs.declared.fact.Fact.{Fact}
use Rattle.cpa_facts.specs.declared.fact.Fact.TheVariants.{At, Stack, Equals, Within, Truth}
use Rattle.cpa_model.specs.declared.facts.Elem.{Elem}
use Rattle.cpa_model.specs.declared.states.State.{State}
use Rattle.cpa_model.specs.declared.program.Cell.{Cell}
use Rattle.cpa_model.specs.declared.automaton.Cfa.{Cfa}
use Rattle.cpa_model.specs.Facts.{FactHolds, Holds, LiesIn, IsFact}
use Rattle.cpa_model.specs.Automata.{IsAutomaton, initial_state}
use Rattle.cpa_iface.specs.declared.precisions.Precision.{Precision}
use Rattle.cpa_iface.specs.declared.entries.Entry.{Entry}
use Rattle.cpa_iface.specs.lemmas.CommonLaws.{kept_all, kept_length, unadjusted-laws}
use Rattle.cpa_iface.specs.Meanings.{IsShaped, AreShaped, IsPrecision}
use Rattle.cpa_iface.specs.Pins.{equals_from, IsControlPin}
use Rattle.cpa_iface.specs.Laws.{InitialLaws, StrengthenLaws, AdjustLaws}
use Rattle.cpa_iface.specs.Laws.{IsOwnOrNone, IsBounded}
use Rattle.cpa_folds.specs.Tracking.{is_tracked}
use Rattle.cpa_value_changes.specs.Cells.{known_cells}
use Rattle.cpa_value.specs.Cells.{facts_from, elem_of}
use Rattle.cpa_value.specs.Limits.{is_kept, seen, limited}
use Rattle.cpa_value.specs.Strengthening.{has_point, agreed, met, met_facts, met_elems}
use Rattle.cpa_value.specs.Strengthening.{strengthened}
use Rattle.cpa_value.specs.Values.{values, starts}
use Rattle.cpa_value.proofs.KnownLemmas.{AgreeCells}
use Rattle.cpa_value.proofs.RangeLemmas.{AreKnown, AreKnown-set, shaped_known, facts_few}
use Rattle.cpa_value.proofs.StoreLemmas.{agree_set, some_and, all_known}
use Rattle.cpa_value.proofs.LearnLemmas.{Gives}
use Rattle.cpa_value.proofs.ExactLemmas.{pin_of_known}
use Rattle.cpa_value.proofs.TransferLemmas.{known_agree, facts_hold, known_shaped, known_length}
use Rattle.cpa_value.proofs.TransferLemmas.{each_some, starts_of}

starts_known : (cs : List Cell) → AllByRecursion (λ c. IsInRange c.ty c.start) cs
    → AreKnown cs (map Some (map (λ c. c.start) cs))
starts_known [] all = tt
starts_known (c ∷ cs) all = (all.0, starts_known cs all.1)

-- the laws of the initial element
pub starts-laws : (cfa : Cfa) → IsAutomaton cfa → InitialLaws values cfa (starts cfa)
starts-laws cfa a =
    let firsts = map (λ (c : Cell). c.start) cfa.cells in
    let same : facts_from (λ _. true) 0 (map Some firsts) ≡ equals_from 0 firsts =
    pin_of_known (λ _. true) 0 firsts (λ i j at inside. refl) in
    let known = starts_known cfa.cells (starts_of cfa a) in
    record {
      shaped = subst (AllByRecursion (IsFact cfa.cells cfa.points)) same
          (known_shaped cfa (λ _. true) (map Some firsts) known);
      holds = subst (AllByRecursion (FactHolds (initial_state cfa))) same
          (facts_hold (initial_state cfa) (λ _. true) (map Some firsts) (all_known firsts));
      exact = λ _. refl;
      bounded = λ p _.
          let few : length (facts_from (λ _. true) 0 (map Some firsts)) ≤ length (map Some firsts) =
          facts_few (λ _. true) 0 (map Some firsts) in
          let long : length (map Some firsts) ≡ length cfa.cells =
          known_length cfa.cells (map Some firsts) known in
          let rank : length (facts_from (λ _. true) 0 (map Some firsts))
          ≡ length (equals_from 0 firsts) = ap length same in
          omega (arith, few, long, rank);
      told = refl;
    }

some_then : {X : Type 0} {Y : Type 0} (P : X → Type 0) (Q : Y → Type 0) (f : X → Option Y)
    (o : Option X) → ((x : X) → P x → IfSome (f x) Q) → IfSome o P → IfSome (option_and_then f o) Q
some_then P Q f None each h = tt
some_then P Q f (Some x) each h = each x h

and_then : {X : Type 0} {Y : Type 0} (P : X → Type 0) (Q : Y → Type 0) (f : X → Option Y)
    (o : Option X) → ((x : X) → P x → IsSomeAnd (f x) Q) → IsSomeAnd o P
    → IsSomeAnd (option_and_then f o) Q
and_then P Q f None each h = absurd h
and_then P Q f (Some x) each h = each x h

-- what other elements say lies in the ranges of the cells
met_known : (cs : List Cell) (points : ℕ) (tracked : ℕ → Bool) (f : Fact) (cells : List (Option ℤ))
    → IsFact cs points f → AreKnown cs cells → IfSome (met tracked f cells) (AreKnown cs)
met_known cs points tracked (At p) cells shaped known = known
met_known cs points tracked (Stack s) cells shaped known = known
met_known cs points tracked (Equals c v) cells shaped known = known
met_known cs points tracked (Within cell lo hi) cells shaped known =
    cond_both (int_eq lo hi && tracked cell) (agreed cell lo (slice_index_or cells cell None) cells)
    (Some cells) (λ r. IfSome r (AreKnown cs))
    (λ _. by (slice_index_or cells cell None)) (λ _. known) where
      by : (o : Option ℤ) → IfSome (agreed cell lo o cells) (AreKnown cs)
      by None = AreKnown-set cs cells cell (Some lo) known shaped.0
      by (Some w) = cond_both (int_eq w lo) (Some cells) None (λ r. IfSome r (AreKnown cs))
          (λ _. known) (λ _. tt)
met_known cs points tracked (Truth e h) cells shaped known = known

met_facts_known : (cs : List Cell) (points : ℕ) (tracked : ℕ → Bool) (fs : List Fact)
    (cells : List (Option ℤ)) → AllByRecursion (IsFact cs points) fs → AreKnown cs cells
    → IfSome (met_facts tracked fs cells) (AreKnown cs)
met_facts_known cs points tracked [] cells shaped known = known
met_facts_known cs points tracked (f ∷ fs) cells shaped known =
    some_then (AreKnown cs) (AreKnown cs) (met_facts tracked fs) (met tracked f cells)
    (λ next all. met_facts_known cs points tracked fs next shaped.1 all)
    (met_known cs points tracked f cells shaped.0 known)

met_elems_known : (cfa : Cfa) (tracked : ℕ → Bool) (es : List Elem) (cells : List (Option ℤ))
    → AreShaped cfa es → AreKnown cfa.cells cells
    → IfSome (met_elems tracked es cells) (AreKnown cfa.cells)
met_elems_known cfa tracked [] cells shaped known = known
met_elems_known cfa tracked (e ∷ es) cells shaped known =
    some_then (AreKnown cfa.cells) (AreKnown cfa.cells) (met_elems tracked es)
    (met_facts tracked e.facts cells)
    (λ next all. met_elems_known cfa tracked es next shaped.1 all)
    (met_facts_known cfa.cells cfa.points tracked e.facts cells shaped.0 known)

same_some : (a b : ℤ) (o : Option ℤ) → o ≡ Some a → o ≡ Some b → a ≡ b
same_some a b o p q = cc

-- and is true of a state on which they hold
met_gives : (s : State) (tracked : ℕ → Bool) (f : Fact) (cells : List (Option ℤ))
    → AgreeCells cells s.store.values → FactHolds s f → Gives (met tracked f cells) s.store.values
met_gives s tracked (At p) cells agree holds = agree
met_gives s tracked (Stack sites) cells agree holds = agree
met_gives s tracked (Equals c v) cells agree holds = agree
met_gives s tracked (Within cell lo hi) cells agree holds =
    cond_both (int_eq lo hi && tracked cell) (agreed cell lo (slice_index_or cells cell None) cells)
    (Some cells) (λ r. Gives r s.store.values)
    (λ point. by (slice_index_or cells cell None) refl (value point)) (λ _. agree) where
      value : (int_eq lo hi && tracked cell) ≡ true → slice_get s.store.values cell ≡ Some lo
      value point =
          let one : lo ≡ hi = (Decides-int_eq lo hi).0
          (and_parts (int_eq lo hi) (tracked cell) point).0 in
          let it = some_and (λ (v : ℤ). (lo ≤ℤ v) × (v ≤ℤ hi))
          (slice_get s.store.values cell) holds in
          let low : lo ≤ℤ it.0 = (it.2).0 in
          let high : it.0 ≤ℤ lo = subst (λ h. it.0 ≤ℤ h) (sym one) (it.2).1 in
          let same : it.0 ≡ lo = omega (arith, ints, low, high) in
          it.1 ∙ ap Some same

      by : (o : Option ℤ) → slice_index_or cells cell None ≡ o
          → slice_get s.store.values cell ≡ Some lo → Gives (agreed cell lo o cells) s.store.values
      by None is at = agree_set cells s.store.values cell lo agree at
      by (Some w) is at =
          let same : int_eq w lo ≡ true =
          (Decides-int_eq w lo).1 (same_some w lo (slice_get s.store.values cell)
          (agree cell w is) at) in
          subst (λ b. Gives (cond b (Some cells) None) s.store.values) (sym same) agree
met_gives s tracked (Truth e h) cells agree holds = agree

met_facts_gives : (s : State) (tracked : ℕ → Bool) (fs : List Fact) (cells : List (Option ℤ))
    → AgreeCells cells s.store.values → AllByRecursion (FactHolds s) fs
    → Gives (met_facts tracked fs cells) s.store.values
met_facts_gives s tracked [] cells agree holds = agree
met_facts_gives s tracked (f ∷ fs) cells agree holds =
    and_then (λ after. AgreeCells after s.store.values) (λ after. AgreeCells after s.store.values)
    (met_facts tracked fs) (met tracked f cells)
    (λ next same. met_facts_gives s tracked fs next same holds.1)
    (met_gives s tracked f cells agree holds.0)

met_elems_gives : (s : State) (tracked : ℕ → Bool) (es : List Elem) (cells : List (Option ℤ))
    → AgreeCells cells s.store.values → LiesIn s es
    → Gives (met_elems tracked es cells) s.store.values
met_elems_gives s tracked [] cells agree holds = agree
met_elems_gives s tracked (e ∷ es) cells agree holds =
    and_then (λ after. AgreeCells after s.store.values) (λ after. AgreeCells after s.store.values)
    (met_elems tracked es) (met_facts tracked e.facts cells)
    (λ next same. met_elems_gives s tracked es next same holds.1)
    (met_facts_gives s tracked e.facts cells agree holds.0)

mapped_some : {X : Type 0} {Y : Type 0} (P : Y → Type 0) (f : X → Y) (o : Option X)
    → IfSome o (λ x. P (f x)) → IfSome (option_map f o) P
mapped_some P f None h = tt
mapped_some P f (Some x) h = h

mapped_and : {X : Type 0} {Y : Type 0} (P : Y → Type 0) (f : X → Y) (o : Option X)
    → IsSomeAnd o (λ x. P (f x)) → IsSomeAnd (option_map f o) P
mapped_and P f None h = absurd h
mapped_and P f (Some x) h = h

and_weaker : {X : Type 0} (P Q : X → Type 0) (o : Option X) → ((x : X) → P x → Q x) → IsSomeAnd o P
    → IsSomeAnd o Q
and_weaker P Q None f h = absurd h
and_weaker P Q (Some x) f h = f x h

-- pins of points and of stacks leave no cell one value
no_points : (cfa : Cfa) (tracked : ℕ → Bool) (es : List Elem) → AllByRecursion (IsControlPin cfa) es
    → list_any (has_point tracked) es ≡ false
no_points cfa tracked [] all = refl
no_points cfa tracked (e ∷ es) all =
    ap (λ b. b || list_any (has_point tracked) es) (first all.0)
    ∙ no_points cfa tracked es all.1 where
      first : IsControlPin cfa e → has_point tracked e ≡ false
      first (inl (s, state, is)) = ap (has_point tracked) is
      first (inr (s, state, is)) = ap (has_point tracked) is

-- the laws of strengthening
pub strengthened-laws : (cfa : Cfa) (own : Elem) (others : List Elem) (p : Precision)
    → IsShaped cfa own → AreShaped cfa others
    → StrengthenLaws values cfa own others p (strengthened (length cfa.cells) p own others)
strengthened-laws cfa own others p shaped others_shaped =
    let tracked = is_tracked p in
    let b = list_any (has_point tracked) others in
    let cells = known_cells (length cfa.cells) own.facts in
    let o = met_elems tracked others cells in
    let whole = λ (after : List (Option ℤ)). elem_of (λ _. true) after in
    let known = met_elems_known cfa tracked others cells others_shaped
    (shaped_known cfa.cells cfa.points own.facts shaped) in
    record {
      shaped = cond_both b (option_map whole o) (Some own) (λ r. IfSome r (IsShaped cfa))
          (λ _. mapped_some (IsShaped cfa) whole o
          (each_some (AreKnown cfa.cells) (λ after. IsShaped cfa (whole after)) o
          (λ after. known_shaped cfa (λ _. true) after) known))
          (λ _. shaped);
      keeps = λ s state holds others_hold. cond_both b (option_map whole o) (Some own)
          (λ r. IsSomeAnd r (λ e. Holds e s))
          (λ _. mapped_and (λ e. Holds e s) whole o
          (and_weaker (λ after. AgreeCells after s.store.values) (λ after. Holds (whole after) s) o
          (λ after. facts_hold s (λ _. true) after)
          (met_elems_gives s tracked others cells
          (known_agree s (length cfa.cells) own.facts holds) others_hold)))
          (λ _. holds);
      exact = λ _ pins. subst (λ x. IsOwnOrNone own (cond x (option_map whole o) (Some own)))
          (sym (no_points cfa tracked others (pins refl))) refl;
      bounded = λ below. cond_both b (option_map whole o) (Some own)
          (λ r. IfSome r (λ e. IsBounded values cfa e p))
          (λ _. mapped_some (λ e. IsBounded values cfa e p) whole o
          (each_some (AreKnown cfa.cells) (λ after. IsBounded values cfa (whole after) p) o
          (λ after all.
          let few : length (facts_from (λ _. true) 0 after) ≤ length after =
          facts_few (λ _. true) 0 after in
          let long : length after ≡ length cfa.cells = known_length cfa.cells after all in
          omega (arith, few, long)) known))
          (λ _. below);
      told = refl;
    }

-- the laws of adjustment
pub limited-laws : (cfa : Cfa) (e : Elem) (p : Precision) (reached : List Entry) (place : ℕ)
    → IsShaped cfa e → IsPrecision cfa p
    → AdjustLaws values cfa e p reached place (limited p.limit e reached place) p
limited-laws cfa e p reached place shaped precision =
    let kept = filter (is_kept p.limit (seen e reached place)) e.facts in
    let less : Elem = record { facts = kept } in
    cond_both (p.limit == 0) e less (λ x. AdjustLaws values cfa e p reached place x p)
    (λ none. unadjusted-laws values cfa e p reached place
    (sym (ap (λ b. cond b e less) none), refl) shaped precision)
    (λ limits. record {
      shaped = kept_all (IsFact cfa.cells cfa.points)
          (is_kept p.limit (seen e reached place)) e.facts shaped;
      shaped_precision = precision;
      covers = λ s state holds. kept_all (FactHolds s)
          (is_kept p.limit (seen e reached place)) e.facts holds;
      exact = λ all. absurd (cc ((Decides-eqb p.limit 0).1 all.no_limit, limits));
      exact_precision = λ _ _. refl;
      bounded = λ below _.
          let few : length kept ≤ length e.facts =
          kept_length (is_kept p.limit (seen e reached place)) e.facts in
          omega (arith, few, below);
      told = (sym (ap (λ b. cond b e less) limits), refl);
    })

pub adjusted-laws : (cfa : Cfa) (e : Elem) (p : Precision) (reached : List Entry) (place : ℕ)
    (after : Elem) (next : Precision)
    → IsShaped cfa e → IsPrecision cfa p → after ≡ limited p.limit e reached place → next ≡ p
    → AdjustLaws values cfa e p reached place after next
adjusted-laws cfa e p reached place after next shaped precision is same =
    subst (AdjustLaws values cfa e p reached place after) (sym same)
    (subst (λ x. AdjustLaws values cfa e p reached place x p) (sym is)
    (limited-laws cfa e p reached place shaped precision))
