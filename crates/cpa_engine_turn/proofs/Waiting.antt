-- Covered successors along a turn: they stay covered where the entry that stands for the taken one
-- is
-- seen as waiting still (`covers_along`). So the laws of the calls are those of the steps.
use Rattle.std.proofs.Common.{◌≡◌, ◌≢◌, ℕ, ◌<◌, Bool, true, false, not, eqb, cond, List, []}
use Rattle.std.proofs.Common.{◌∷◌}
use Rattle.std.proofs.Common.{◌++◌, map, Some, refl, sym, ap, ◌∙◌, subst, inl, inr}
use Rattle.std.proofs.Common.{⊎_elim, arith}
use Rattle.std.specs.List.{filter}
use Rattle.std.proofs.lemmas.Bool.{cond_both, cases_Bool, both_ways, eqb-true, eq-eqb, ne_eqb}
use Rattle.std.proofs.lemmas.List.{map-append}
use Rattle.cpa_model.specs.declared.automaton.Cfa.{Cfa}
use Rattle.cpa_model.specs.declared.facts.Elem.{Elem}
use Rattle.cpa_model.specs.declared.states.State.{State}
use Rattle.cpa_model.specs.Automata.{IsStateOf, EdgeStep, initial_state}
use Rattle.cpa_model.specs.Facts.{LiesIn}
use Rattle.cpa_iface.specs.declared.entries.Entry.{Entry}
use Rattle.cpa_iface.specs.declared.precisions.Precision.{Precision}
use Rattle.cpa_composite.specs.Components.{Component}
use Rattle.cpa_reached.specs.Members.{IsIn}
use Rattle.cpa_reached.specs.lemmas.MemberLaws.{in_map, map_in, in_filter, one_entry}
use Rattle.cpa_reached.specs.Entries.{ReachedSet}
use Rattle.cpa_reached.specs.Calls.{at_number, gains, fresh, rename, renamed, replacing, others}
use Rattle.cpa_reached.specs.Calls.{those}
use Rattle.cpa_reached.specs.Calls.{added_entries, replaced_entries, rests}
use Rattle.cpa_reached.specs.Successors.{LiesInNamed, CoversSuccessors, HoldOfAll}
use Rattle.cpa_reached.specs.lemmas.SuccessorLaws.{used-covers, added-covers, replaced-covers}
use Rattle.cpa_engine_turn.proofs.Effects.{effect, below_next, rename_cases}
use Rattle.cpa_engine_turn.proofs.Chains.{kept_along}
use Rattle.cpa_engine_turn.specs.Stages.{Stage}
use Rattle.cpa_engine_turn.specs.Steps.{Does, Leads, IsOrdered}

abbrev pub waits : Entry → Entry
waits e = record e { waiting = true }

-- two changes at one number, the first of which keeps it
one_twice : (n : ℕ) (f g : Entry → Entry) (x : Entry) → (g x).number ≡ x.number
    → cond (eqb (cond (eqb x.number n) (g x) x).number n) (f (cond (eqb x.number n) (g x) x))
    (cond (eqb x.number n) (g x) x)
    ≡ cond (eqb x.number n) (f (g x)) x
one_twice n f g x same =
    cond_both (eqb x.number n) (g x) x
    (λ y. cond (eqb y.number n) (f y) y ≡ cond (eqb x.number n) (f (g x)) x)
    (λ yes. rw same (rw yes refl))
    (λ no. rw no refl)

at_twice : (n : ℕ) (f g : Entry → Entry) → ((x : Entry) → (g x).number ≡ x.number)
    → (xs : List Entry)
    → at_number n f (at_number n g xs) ≡ at_number n (λ x. f (g x)) xs
at_twice n f g same [] = refl
at_twice n f g same (x ∷ xs) =
    let first = one_twice n f g x (same x) in
    let later = at_twice n f g same xs in
    ap (λ (y : Entry). y ∷ at_number n f (at_number n g xs)) first
    ∙ ap (λ (l : List Entry). cond (eqb x.number n) (f (g x)) x ∷ l) later

-- to note a use, and to wait
gains_commute : (n by : ℕ) (xs : List Entry)
    → at_number n waits (at_number n (gains by) xs) ≡ at_number n (gains by) (at_number n waits xs)
gains_commute n by xs =
    at_twice n waits (gains by) (λ x. refl) xs
    ∙ sym (at_twice n (gains by) waits (λ x. refl) xs)

-- an entry that waits, waits
waits_still : (n : ℕ) (e : Entry) → e.waiting ≡ true → cond (eqb e.number n) (waits e) e ≡ e
waits_still n e is =
    cond_both (eqb e.number n) (waits e) e (λ y. y ≡ e)
    (λ _. ap (λ (b : Bool). let y : Entry = record e { waiting = b } in y) (sym is)) (λ _. refl)

added_commute : (n next : ℕ) (xs : List Entry) (es : List Elem) (ps : List Precision) (edge : ℕ)
    → at_number n waits (added_entries next xs es ps (n, edge))
    ≡ added_entries next (at_number n waits xs) es ps (n, edge)
added_commute n next xs es ps edge =
    let new = fresh next es ps (Some (n, edge)) in
    map-append (λ (e : Entry). cond (eqb e.number n) (waits e) e) (at_number n (gains next) xs)
    (new ∷ [])
    ∙ (ap (λ (l : List Entry). l ++ cond (eqb next n) (waits new) new ∷ [])
    (gains_commute n next xs)
    ∙ ap (λ (e : Entry). at_number n (gains next) (at_number n waits xs) ++ e ∷ [])
    (waits_still n new refl))

-- a change that keeps numbers, and a filter by number
filter_at : (n : ℕ) (f : Entry → Entry) (keep : Entry → Bool)
    → ((x : Entry) → keep (cond (eqb x.number n) (f x) x) ≡ keep x) → (xs : List Entry)
    → filter keep (at_number n f xs) ≡ at_number n f (filter keep xs)
filter_at n f keep same [] = refl
filter_at n f keep same (x ∷ xs) =
    let y = cond (eqb x.number n) (f x) x in
    let later = filter_at n f keep same xs in
    cond_both (keep x) (x ∷ filter keep xs) (filter keep xs)
    (λ l. filter keep (y ∷ at_number n f xs) ≡ at_number n f l)
    (λ yes. let also : keep y ≡ true = same x ∙ yes in
    rw also (ap (λ (l : List Entry). y ∷ l) later))
    (λ no. let also : keep y ≡ false = same x ∙ no in rw also later)

number_same : (n : ℕ) (x : Entry) → (cond (eqb x.number n) (waits x) x).number ≡ x.number
number_same n x =
    cond_both (eqb x.number n) (waits x) x (λ y. y.number ≡ x.number) (λ _. refl) (λ _. refl)

-- two changes that agree on the items of a list
agree_on : {X Y : Type 0} (f g : X → Y) (xs : List X) → ((x : X) → IsIn x xs → f x ≡ g x)
    → map f xs ≡ map g xs
agree_on f g [] same = refl
agree_on {X} {Y} f g (x ∷ xs) same =
    ap (λ (y : Y). y ∷ map f xs) (same x (inl refl))
    ∙ ap (λ (l : List Y). g x ∷ l) (agree_on f g xs (λ y there. same y (inr there)))

map_after : {X Y Z : Type 0} (f : Y → Z) (g : X → Y) (xs : List X)
    → map f (map g xs) ≡ map (λ x. f (g x)) xs
map_after f g [] = refl
map_after {X} {Y} {Z} f g (x ∷ xs) = ap (λ (l : List Z). f (g x) ∷ l) (map_after f g xs)

-- a kept entry, renamed
kept_commutes : (old next n : ℕ) (x : Entry) → x.number ≢ old → x.number < next
    → cond (eqb (renamed old next x).number (rename old next n)) (waits (renamed old next x))
    (renamed old next x)
    ≡ renamed old next (cond (eqb x.number n) (waits x) x)
kept_commutes old next n x other low =
    ⊎_elim
    (λ (own : (n ≡ old) × (rename old next n ≡ next)).
    let no : eqb x.number (rename old next n) ≡ false =
    ne_eqb x.number (rename old next n) (λ e. let is = own.1 in omega (arith, e, is, low)) in
    let also : eqb x.number n ≡ false = ne_eqb x.number n (λ e. other (e ∙ own.0)) in
    rw no (rw also refl))
    (λ (else_is : (n ≢ old) × (rename old next n ≡ n)).
    rw else_is.1 (cond_both (eqb x.number n) (waits x) x
    (λ y. cond (eqb x.number n) (waits (renamed old next x)) (renamed old next x)
    ≡ renamed old next y)
    (λ yes. rw yes refl) (λ no. rw no refl)))
    (rename_cases old next n)

replaced_commute : (n next : ℕ) (r : ReachedSet) (old : ℕ) (es : List Elem) → IsOrdered r
    → next ≡ r.next
    → at_number (rename old next n) waits (replaced_entries next r.live old es)
    ≡ replaced_entries next (at_number n waits r.live) old es
replaced_commute n next r old es ordered is_next =
    let xs = r.live in
    let m = rename old next n in
    let w : Entry → Entry = λ e. cond (eqb e.number m) (waits e) e in
    let v : Entry → Entry = λ e. cond (eqb e.number n) (waits e) e in
    let keep : Entry → Bool = λ e. not (eqb e.number old) in
    let take : Entry → Bool = λ e. eqb e.number old in
    let front : map w (map (renamed old next) (others old xs))
    ≡ map (renamed old next) (others old (map v xs)) =
    map_after w (renamed old next) (others old xs)
    ∙ (agree_on (λ (x : Entry). w (renamed old next x)) (λ (x : Entry). renamed old next (v x))
    (others old xs)
    (λ x there.
    let was = in_filter keep xs x there in
    let low = below_next r x ordered was.0 in
    kept_commutes old next n x (λ is. both_ways (keep x) (ap not (eq-eqb x.number old is)) was.1)
    (omega (arith, low, is_next)))
    ∙ (sym (map_after (renamed old next) v (others old xs))
    ∙ ap (map (renamed old next))
    (sym (filter_at n waits keep (λ x. ap (λ (k : ℕ). not (eqb k old)) (number_same n x)) xs)))) in
    let behind : map w (map (replacing next es) (those old xs))
    ≡ map (replacing next es) (those old (map v xs)) =
    map_after w (replacing next es) (those old xs)
    ∙ (agree_on (λ (x : Entry). w (replacing next es x)) (λ (x : Entry). replacing next es (v x))
    (those old xs)
    (λ x there. waits_still m (replacing next es x) refl
    ∙ cond_both (eqb x.number n) (waits x) x (λ y. replacing next es x ≡ replacing next es y)
    (λ _. refl) (λ _. refl))
    ∙ (sym (map_after (replacing next es) v (those old xs))
    ∙ ap (map (replacing next es))
    (sym (filter_at n waits take (λ x. ap (λ (k : ℕ). eqb k old) (number_same n x)) xs)))) in
    map-append w (map (renamed old next) (others old xs)) (map (replacing next es) (those old xs))
    ∙ (ap (λ (l : List Entry). l ++ map w (map (replacing next es) (those old xs))) front
    ∙ ap (λ (l : List Entry). map (renamed old next) (others old (map v xs)) ++ l) behind)

-- the taken entry's successors aside, successors are covered
abbrev pub CoversBut : Cfa → Stage → Type 0
CoversBut cfa m = CoversSuccessors cfa (at_number m.current waits m.reached.live)

waiting_holds : (cfa : Cfa) (n : ℕ) (xs : List Entry) (old : Entry) (es : List Elem)
    → ((e : Entry) → IsIn e xs → e.number ≡ old.number → e ≡ old)
    → ((s : State) → IsStateOf cfa s → LiesIn s old.elems → LiesIn s es)
    → HoldOfAll cfa (at_number n waits xs) old.number es
waiting_holds cfa n xs old es one holds e s there is state lies =
    let from = in_map (λ (x : Entry). cond (eqb x.number n) (waits x) x) xs e there in
    let number : from.0.number ≡ old.number =
    sym (number_same n from.0) ∙ (ap (λ (y : Entry). y.number) (sym from.2) ∙ is) in
    let elems : e.elems ≡ from.0.elems =
    ap (λ (y : Entry). y.elems) from.2
    ∙ cond_both (eqb from.0.number n) (waits from.0) from.0 (λ y. y.elems ≡ from.0.elems)
    (λ _. refl) (λ _. refl) in
    let same : from.0.elems ≡ old.elems =
    ap (λ (y : Entry). y.elems) (one from.0 from.1 number) in
    holds s state (subst (λ fs. LiesIn s fs) (elems ∙ same) lies)

covers_step : (cfa : Cfa) (cs : List Component) (a b : Stage)
    → IsStateOf cfa (initial_state cfa) → IsOrdered a.reached → Does cfa cs a b → CoversBut cfa a
    → CoversBut cfa b
covers_step cfa cs a b begins ordered (inl notes) covers =
    subst (CoversBut cfa) (sym notes.is)
    (subst (CoversSuccessors cfa) (sym (gains_commute a.current notes.by a.reached.live))
    (used-covers cfa a.current notes.by (at_number a.current waits a.reached.live)
    covers))
covers_step cfa cs a b begins ordered (inr (inl adds)) covers =
    subst (CoversBut cfa) (sym adds.is)
    (subst (CoversSuccessors cfa)
    (sym (added_commute a.current a.reached.next a.reached.live adds.elems adds.precisions
    adds.edge))
    (added-covers cfa a.reached.next (at_number a.current waits a.reached.live) adds.elems
    adds.precisions (a.current, adds.edge) covers))
covers_step cfa cs a b begins ordered (inr (inr replaces)) covers =
    let old = replaces.entry in
    subst (CoversBut cfa) (sym replaces.is)
    (subst (CoversSuccessors cfa)
    (sym (replaced_commute a.current a.reached.next a.reached old.number replaces.elems ordered
    refl))
    (replaced-covers cfa a.reached.next old.number
    (at_number a.current waits a.reached.live) replaces.elems begins
    (waiting_holds cfa a.current a.reached.live old replaces.elems
    (λ e there is. one_entry a.reached.live e old ordered.ascend there replaces.is_in is)
    replaces.merged.covers) covers))

record Covered (cfa : Cfa) (m : Stage) : Type 0 where
  ordered : IsOrdered m.reached
  covers : CoversBut cfa m

pub covers_along : (cfa : Cfa) (cs : List Component) (a b : Stage)
    → IsStateOf cfa (initial_state cfa) → Leads cfa cs a b → IsOrdered a.reached → CoversBut cfa a
    → CoversBut cfa b
covers_along cfa cs a b begins leads ordered covers =
    (kept_along cfa cs (Covered cfa)
    (λ m c o does. record {
      ordered = (effect cfa cs m c o.ordered does).ordered;
      covers = covers_step cfa cs m c begins o.ordered does o.covers;
    }) a b leads (record { ordered = ordered; covers = covers })).covers

-- when the turn begins: the entry that was taken waited
taken_waits : (n : ℕ) (xs : List Entry)
    → ((e : Entry) → IsIn e xs → e.number ≡ n → e.waiting ≡ true)
    → at_number n waits (at_number n rests xs) ≡ xs
taken_waits n [] waited = refl
taken_waits n (x ∷ xs) waited =
    let first : cond (eqb x.number n) (waits (rests x)) x ≡ x =
    cond_both (eqb x.number n) (waits (rests x)) x (λ y. y ≡ x)
    (λ yes. ap (λ (b : Bool). let y : Entry = record x { waiting = b } in y)
    (sym (waited x (inl refl) (eqb-true x.number n yes)))) (λ _. refl) in
    ap (λ (y : Entry). y ∷ at_number n waits (at_number n rests xs))
    (one_twice n waits rests x refl ∙ first)
    ∙ ap (λ (l : List Entry). x ∷ l) (taken_waits n xs (λ e there is. waited e (inr there) is))

pub taken_covers : (cfa : Cfa) (n : ℕ) (xs : List Entry)
    → ((e : Entry) → IsIn e xs → e.number ≡ n → e.waiting ≡ true) → CoversSuccessors cfa xs
    → CoversSuccessors cfa (at_number n waits (at_number n rests xs))
taken_covers cfa n xs waited covers =
    subst (CoversSuccessors cfa) (sym (taken_waits n xs waited)) covers

-- when it ends: each successor of what stands for the taken entry lies in an entry that it uses, or
-- it waits
pub covers_last : (cfa : Cfa) (n : ℕ) (xs : List Entry)
    → CoversSuccessors cfa (at_number n waits xs)
    → ((e : Entry) (s t : State) → IsIn e xs → e.number ≡ n → e.waiting ≡ false
    → LiesIn s e.elems → EdgeStep cfa s t → LiesInNamed t e.uses xs)
    → CoversSuccessors cfa xs
covers_last cfa n xs covers own =
    let v : Entry → Entry = λ e. cond (eqb e.number n) (waits e) e in
    let elems : (x : Entry) → (v x).elems ≡ x.elems = λ x.
    cond_both (eqb x.number n) (waits x) x (λ y. y.elems ≡ x.elems) (λ _. refl) (λ _. refl) in
    let parent : (x : Entry) → (v x).parent ≡ x.parent = λ x.
    cond_both (eqb x.number n) (waits x) x (λ y. y.parent ≡ x.parent) (λ _. refl) (λ _. refl) in
    let root = covers.start in
    let from = in_map v xs root.entry root.is_in in
    record {
      start = record {
        entry = from.0;
        is_in = from.1;
        root = sym (parent from.0) ∙ (ap (λ (y : Entry). y.parent) (sym from.2) ∙ root.root);
        lies = subst (λ es. LiesIn (initial_state cfa) es)
            (ap (λ (y : Entry). y.elems) from.2 ∙ elems from.0) root.lies;
      };
      successors = λ e s t there rests lies steps. ⊎_elim
          (λ yes. own e s t there (eqb-true e.number n yes) rests lies steps)
          (λ no.
          let same : v e ≡ e = rw no refl in
          let found = covers.successors e s t
          (subst (λ (y : Entry). IsIn y (map v xs)) same (map_in v xs e there)) rests lies steps in
          let was = in_map v xs found.entry found.is_in in
          record {
            entry = was.0;
            is_in = was.1;
            named = subst (λ (k : ℕ). IsIn k e.uses)
                (ap (λ (y : Entry). y.number) was.2 ∙ number_same n was.0) found.named;
            lies = subst (λ es. LiesIn t es)
                (ap (λ (y : Entry). y.elems) was.2 ∙ elems was.0) found.lies;
          })
          (cases_Bool (eqb e.number n));
    }
