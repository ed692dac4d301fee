-- Marks of rows: that one with a fact more counts (`print_more`), that ascending values have a
-- state (`marks_row`), that a row of another mark is parted from this one (`parted`), and that
-- entries keep their marks (`marked_at`, `marked_added`, `marked_replaced`, `marked_removed`).
use Rattle.std.proofs.Common.{◌≡◌, ℕ, zero, suc, ◌+◌, ◌<◌, ◌≤◌, Bool, true, false, List, [], ◌∷◌}
use Rattle.std.proofs.Common.{◌++◌, map, length, get_or, Option, Some, None, Result, Ok, Err}
use Rattle.std.proofs.Common.{refl, sym, ap, ◌∙◌, subst, inl, inr, ⊎_elim, arith}
use Rattle.std.specs.Prelude.{IfSome, IfNone, is_some, nat_lt, not, ◌==◌, ℤ, pos, if◌then◌else◌}
use Rattle.std.specs.Result.{OnOk, OnErr}
use Rattle.std.specs.List.{AllByRecursion, slice_get, filter}
use Rattle.std.proofs.lemmas.Bool.{cases_Bool, both_ways, cond_both, ltb-false}
use Rattle.std.proofs.lemmas.Option.{same_Some}
use Rattle.cpa_model.specs.declared.states.State.{State}
use Rattle.cpa_facts.specs.declared.fact.Fact.{Fact}
use Rattle.cpa_facts.specs.declared.fact.Fact.TheVariants.{At, Stack, Equals, Within, Truth}
use Rattle.cpa_facts.specs.Prints.{mixed}
use Rattle.cpa_model.specs.declared.facts.Elem.{Elem}
use Rattle.cpa_model.specs.Facts.{FactHolds, Holds}
use Rattle.cpa_iface.specs.declared.entries.Entry.{Entry}
use Rattle.cpa_iface.specs.declared.precisions.Precision.{Precision}
use Rattle.cpa_reached.specs.declared.marks.Mark.{Mark}
use Rattle.cpa_reached.specs.Calls.{at_number, gains, rests, fresh, added_entries, replaced_entries}
use Rattle.cpa_reached.specs.Calls.{others, those, renamed, replacing}
use Rattle.cpa_reached.specs.Marks.{value_or, print_of, Tells, IsMarkOf}
use Rattle.cpa_reached.specs.Marks.{Differ, IsParted, HasMark, AreMarked}
use Rattle.cpa_reached.specs.Marks.{past_all}
use Rattle.cpa_reached.specs.Members.{IsIn}
use Rattle.cpa_reached.specs.Removal.{RemovesBelow, left, without, is_opened, opened}

-- ---- prints
-- the value behind a run
pub print_more : (values : List ℤ) (first count cell : ℕ) (value : ℤ) (print : ℕ)
    → print ≡ print_of values first count → first + count ≡ cell
    → slice_get values cell ≡ Some value
    → mixed print value ≡ print_of values first (count + 1)
print_more values first count cell value print is next there =
    let one : suc count ≡ count + 1 = omega arith in
    let here : value ≡ value_or (slice_get values (first + count)) =
    sym (ap value_or (ap (slice_get values) next ∙ there)) in
    ap (λ (k : ℕ). mixed k value) is
    ∙ (ap (λ (v : ℤ). mixed (print_of values first count) v) here
    ∙ ap (print_of values first) one)

-- a fact of a list that holds
pub fact_at : (P : Fact → Type 0) (fs : List Fact) (i : ℕ) (d : Fact) → i < length fs
    → AllByRecursion P fs → P (get_or fs i d)
fact_at P [] i d inside all = absurd (omega (arith, inside))
fact_at P (f ∷ fs) zero d inside all = all.0
fact_at P (f ∷ fs) (suc i) d inside all = fact_at P fs i d (omega (arith, inside)) all.1

-- ---- a state
-- the value comes to stand at a place
abbrev put : ℕ → ℤ → List ℤ → List ℤ
put zero v [] = v ∷ []
put zero v (x ∷ xs) = v ∷ xs
put (suc c) v [] = pos 0 ∷ put c v []
put (suc c) v (x ∷ xs) = x ∷ put c v xs

put_there : (c : ℕ) (v : ℤ) (xs : List ℤ) → slice_get (put c v xs) c ≡ Some v
put_there zero v [] = refl
put_there zero v (x ∷ xs) = refl
put_there (suc c) v [] = put_there c v []
put_there (suc c) v (x ∷ xs) = put_there c v xs

put_other : (c : ℕ) (v : ℤ) (xs : List ℤ) (d : ℕ) (w : ℤ) → c < d → slice_get xs d ≡ Some w
    → slice_get (put c v xs) d ≡ Some w
put_other c v [] d w less there = absurd (cc)
put_other zero v (x ∷ xs) zero w less there = absurd (omega (arith, less))
put_other zero v (x ∷ xs) (suc d) w less there = there
put_other (suc c) v (x ∷ xs) zero w less there = absurd (omega (arith, less))
put_other (suc c) v (x ∷ xs) (suc d) w less there =
    put_other c v xs d w (omega (arith, less)) there

abbrev put_fact : Fact → List ℤ → List ℤ
put_fact (At point) values = values
put_fact (Stack sites) values = values
put_fact (Equals cell value) values = put cell value values
put_fact (Within cell lo hi) values = values
put_fact (Truth expr holds) values = values

abbrev values_of : List Fact → List ℤ
values_of [] = []
values_of (f ∷ fs) = put_fact f (values_of fs)

abbrev state_of : List ℤ → State
state_of values = record { point = 0; stack = []; store = record { values = values } }

not_less : (a b : ℕ) → not (nat_lt a b) ≡ true → b ≤ a
not_less a b h =
    ⊎_elim
    (λ (yes : nat_lt a b ≡ true). absurd (both_ways (not (nat_lt a b)) (ap not yes) h))
    (λ (none : nat_lt a b ≡ false). ltb-false a b none)
    (cases_Bool (nat_lt a b))

-- a test that comes first
pub then_some : {X : Type 0} (b : Bool) (o : Option X) (x : X) → (if b then o else None) ≡ Some x
    → (b ≡ true) × (o ≡ Some x)
then_some true o x is = (refl, is)
then_some false o x is = absurd (cc)

-- a value in front of all facts leaves them
still_hold : (fs : List Fact) (least end c : ℕ) (v : ℤ) (values : List ℤ) → c < least
    → past_all least fs ≡ Some end → AllByRecursion (FactHolds (state_of values)) fs
    → AllByRecursion (FactHolds (state_of (put c v values))) fs
still_hold [] least end c v values less up all = tt
still_hold (At p ∷ fs) least end c v values less up all = absurd (cc)
still_hold (Stack p ∷ fs) least end c v values less up all = absurd (cc)
still_hold (Equals d w ∷ fs) least end c v values less up all =
    let both = then_some (not (nat_lt d least)) (past_all (d + 1) fs) end up in
    let low = not_less d least both.0 in (
      put_other c v values d w (omega (arith, less, low)) all.0,
      still_hold fs (d + 1) end c v values (omega (arith, less, low)) both.1 all.1,
    )
still_hold (Within d lo hi ∷ fs) least end c v values less up all = absurd (cc)
still_hold (Truth e h ∷ fs) least end c v values less up all = absurd (cc)

all_hold : (fs : List Fact) (least end : ℕ) → past_all least fs ≡ Some end
    → AllByRecursion (FactHolds (state_of (values_of fs))) fs
all_hold [] least end up = tt
all_hold (At p ∷ fs) least end up = absurd (cc)
all_hold (Stack p ∷ fs) least end up = absurd (cc)
all_hold (Equals d w ∷ fs) least end up =
    let both = then_some (not (nat_lt d least)) (past_all (d + 1) fs) end up in (
      put_there d w (values_of fs),
      still_hold fs (d + 1) end d w (values_of fs) (omega arith) both.1
          (all_hold fs (d + 1) end both.1),
    )
all_hold (Within d lo hi ∷ fs) least end up = absurd (cc)
all_hold (Truth e h ∷ fs) least end up = absurd (cc)

-- there is one that may follow
some_end : (o : Option ℕ) → is_some o ≡ true → (end : ℕ) × (o ≡ Some end)
some_end (Some end) some = (end, refl)
some_end None some = absurd (cc)

-- ascending values have a state
pub marks_row : (m : Mark) (es : List Elem) (e : Elem) → 1 ≤ m.count → Tells m es
    → slice_get es m.place ≡ Some e → is_some (past_all 0 e.facts) ≡ true → IsMarkOf m es
marks_row m es e some tells at up =
    let end = some_end (past_all 0 e.facts) up in
    let is = tells some in
    let same : e ≡ is.elem = same_Some e is.elem (sym at ∙ is.at) in
    record {
      some = some;
      marked = is;
      state = state_of (values_of e.facts);
      holds = subst (λ (f : Elem). Holds f (state_of (values_of e.facts))) same
          (all_hold e.facts 0 end.0 end.1);
    }

-- ---- rows apart
pub parted : (m k : Mark) (es fs : List Elem) → IsMarkOf m es → Tells k fs → Differ m k
    → IsParted m.place es fs
parted m k es fs is tells other =
    let some = is.some in
    let count = other.count in
    let there = tells (omega (arith, some, count)) in
    record {
      elem = is.marked.elem;
      fellow = there.elem;
      at = is.marked.at;
      there = subst (λ (i : ℕ). slice_get fs i ≡ Some there.elem) other.place there.at;
      state = is.state;
      holds = is.holds;
      fails = λ holds. other.print
          (there.counts is.state holds
          ∙ (ap (λ (i : ℕ). print_of is.state.store.values i k.count) other.first
          ∙ (ap (print_of is.state.store.values m.first) other.count
          ∙ sym (is.marked.counts is.state is.holds))));
    }

-- the mark of an entry
pub mark_there : (ms : List Mark) (xs : List Entry) (e : Entry) → AreMarked ms xs → IsIn e xs
    → HasMark ms e
mark_there ms [] e all there = absurd there
mark_there ms (x ∷ xs) e all (inl same) = subst (HasMark ms) same all.0
mark_there ms (x ∷ xs) e all (inr later) = mark_there ms xs e all.1 later

pub parted_there : (ms : List Mark) (xs : List Entry) (e : Entry) (n : ℕ) (m k : Mark)
    (es : List Elem) → AreMarked ms xs → IsIn e xs → e.number ≡ n → slice_get ms n ≡ Some k
    → IsMarkOf m es → Differ m k → IsParted m.place es e.elems
parted_there ms xs e n m k es all there number at is other =
    let has = mark_there ms xs e all there in
    let same : has.mark ≡ k =
    same_Some has.mark k (sym has.at ∙ (ap (slice_get ms) number ∙ at)) in
    parted m k es e.elems is (subst (λ (j : Mark). Tells j e.elems) same has.tells) other

-- ---- entries keep their marks
-- entries that keep their numbers and elements
pub marked_map : (ms : List Mark) (f : Entry → Entry) (xs : List Entry)
    → ((e : Entry) → (f e).number ≡ e.number) → ((e : Entry) → (f e).elems ≡ e.elems)
    → AreMarked ms xs → AreMarked ms (map f xs)
marked_map ms f [] number elems all = tt
marked_map ms f (x ∷ xs) number elems all = (
  record {
    mark = all.0.mark;
    at = ap (slice_get ms) (number x) ∙ all.0.at;
    tells = subst (Tells all.0.mark) (sym (elems x)) all.0.tells;
  },
  marked_map ms f xs number elems all.1,
)

pub marked_at : (ms : List Mark) (n : ℕ) (f : Entry → Entry) (xs : List Entry)
    → ((e : Entry) → (f e).number ≡ e.number) → ((e : Entry) → (f e).elems ≡ e.elems)
    → AreMarked ms xs → AreMarked ms (at_number n f xs)
marked_at ms n f xs number elems all =
    marked_map ms (λ e. if e.number == n then f e else e) xs
    (λ e. cond_both (e.number == n) (f e) e (λ y. y.number ≡ e.number) (λ _. number e) (λ _. refl))
    (λ e. cond_both (e.number == n) (f e) e (λ y. y.elems ≡ e.elems) (λ _. elems e) (λ _. refl))
    all

-- some of them
pub marked_some : (ms : List Mark) (p : Entry → Bool) (xs : List Entry) → AreMarked ms xs
    → AreMarked ms (filter p xs)
marked_some ms p [] all = tt
marked_some ms p (x ∷ xs) all =
    let later = marked_some ms p xs all.1 in
    ⊎_elim
    (λ (yes : p x ≡ true). rw yes (all.0, later))
    (λ (none : p x ≡ false). rw none later)
    (cases_Bool (p x))

-- one mark more
at_longer : (ms : List Mark) (m k : Mark) (n : ℕ) → slice_get ms n ≡ Some k
    → slice_get (ms ++ m ∷ []) n ≡ Some k
at_longer [] m k n at = absurd (cc)
at_longer (j ∷ ms) m k zero at = at
at_longer (j ∷ ms) m k (suc n) at = at_longer ms m k n at

at_last : (ms : List Mark) (m : Mark) (n : ℕ) → length ms ≡ n
    → slice_get (ms ++ m ∷ []) n ≡ Some m
at_last [] m zero size = refl
at_last [] m (suc n) size = absurd (omega (arith, size))
at_last (j ∷ ms) m zero size = absurd (omega (arith, size))
at_last (j ∷ ms) m (suc n) size = at_last ms m n (omega (arith, size))

pub marked_longer : (ms : List Mark) (m : Mark) (xs : List Entry) → AreMarked ms xs
    → AreMarked (ms ++ m ∷ []) xs
marked_longer ms m [] all = tt
marked_longer ms m (x ∷ xs) all = (
  record {
    mark = all.0.mark;
    at = at_longer ms m all.0.mark x.number all.0.at;
    tells = all.0.tells;
  },
  marked_longer ms m xs all.1,
)

marked_both : (ms : List Mark) (xs ys : List Entry) → AreMarked ms xs → AreMarked ms ys
    → AreMarked ms (xs ++ ys)
marked_both ms [] ys all more = more
marked_both ms (x ∷ xs) ys all more = (all.0, marked_both ms xs ys all.1 more)

-- after `new`
pub marked_first : (ms : List Mark) (m : Mark) (es : List Elem) (ps : List Precision)
    (xs : List Entry) → ms ≡ m ∷ [] → Tells m es → xs ≡ fresh 0 es ps None ∷ []
    → AreMarked ms xs
marked_first ms m es ps xs is tells are =
    subst (AreMarked ms) (sym are)
    (record { mark = m; at = ap (λ (l : List Mark). slice_get l 0) is; tells = tells }, tt)

-- after `add`
pub marked_added : (ms : List Mark) (m : Mark) (next : ℕ) (xs : List Entry) (es : List Elem)
    (ps : List Precision) (parent : ℕ × ℕ) → length ms ≡ next → Tells m es → AreMarked ms xs
    → AreMarked (ms ++ m ∷ []) (added_entries next xs es ps parent)
marked_added ms m next xs es ps parent size tells all =
    marked_both (ms ++ m ∷ []) (at_number parent.0 (gains next) xs)
    (fresh next es ps (Some parent) ∷ [])
    (marked_longer ms m (at_number parent.0 (gains next) xs)
    (marked_at ms parent.0 (gains next) xs (λ e. refl) (λ e. refl) all))
    (record { mark = m; at = at_last ms m next size; tells = tells }, tt)

-- after `replace`
marked_new : (ms : List Mark) (m : Mark) (next : ℕ) (es : List Elem) (xs : List Entry)
    → slice_get ms next ≡ Some m → Tells m es → AreMarked ms (map (replacing next es) xs)
marked_new ms m next es [] at tells = tt
marked_new ms m next es (x ∷ xs) at tells =
    (record { mark = m; at = at; tells = tells }, marked_new ms m next es xs at tells)

pub marked_replaced : (ms : List Mark) (m : Mark) (next : ℕ) (xs : List Entry) (old : ℕ)
    (es : List Elem) → length ms ≡ next → Tells m es → AreMarked ms xs
    → AreMarked (ms ++ m ∷ []) (replaced_entries next xs old es)
marked_replaced ms m next xs old es size tells all =
    marked_both (ms ++ m ∷ []) (map (renamed old next) (others old xs))
    (map (replacing next es) (those old xs))
    (marked_longer ms m (map (renamed old next) (others old xs))
    (marked_map ms (renamed old next) (others old xs) (λ e. refl) (λ e. refl)
    (marked_some ms (λ e. not (e.number == old)) xs all)))
    (marked_new (ms ++ m ∷ []) m next es (those old xs) (at_last ms m next size) tells)

-- after `remove_below`
pub marked_removed : (ms : List Mark) (pivot : ℕ) (old new : List Entry)
    → RemovesBelow pivot old new → AreMarked ms old → AreMarked ms new
marked_removed ms pivot old new removes all =
    let gone = removes.gone in
    subst (AreMarked ms) (sym removes.is)
    (marked_map ms (left gone pivot) (without gone old)
    (λ e. cond_both (is_opened gone pivot e) (opened e) e (λ y. y.number ≡ e.number)
    (λ _. refl) (λ _. refl))
    (λ e. cond_both (is_opened gone pivot e) (opened e) e (λ y. y.elems ≡ e.elems)
    (λ _. refl) (λ _. refl))
    (marked_some ms _ old all))

-- whether the call went well or not
pub marked_by : {T E : Type 0} (r : Result T E) (ms : List Mark) (xs ys zs : List Entry)
    → OnOk r (ys ≡ zs) → OnErr r (ys ≡ xs) → AreMarked ms zs → AreMarked ms xs → AreMarked ms ys
marked_by (Ok x) ms xs ys zs ok err after before = subst (AreMarked ms) (sym ok) after
marked_by (Err e) ms xs ys zs ok err after before = subst (AreMarked ms) (sym err) before

pub removed_by : {T E : Type 0} (r : Result T E) (ms : List Mark) (pivot : ℕ) (xs ys : List Entry)
    → OnOk r (RemovesBelow pivot xs ys) → OnErr r (ys ≡ xs) → AreMarked ms xs → AreMarked ms ys
removed_by (Ok x) ms pivot xs ys ok err before = marked_removed ms pivot xs ys ok before
removed_by (Err e) ms pivot xs ys ok err before = subst (AreMarked ms) (sym err) before

long : (ms : List Mark) (m : Mark) (n : ℕ) → length ms ≡ n → length (ms ++ m ∷ []) ≡ n + 1
long [] m n size = omega (arith, size)
long (j ∷ ms) m zero size = absurd (omega (arith, size))
long (j ∷ ms) m (suc n) size =
    let later = long ms m n (omega (arith, size)) in omega (arith, later)

pub marked_longer_by : (ms ns : List Mark) (m : Mark) (n : ℕ) → ns ≡ ms ++ m ∷ []
    → length ms ≡ n → length ns ≡ n + 1
marked_longer_by ms ns m n is size = ap length is ∙ long ms m n size

-- whether a number was taken or not
pub marked_taken : (o : Option ℕ) (ms : List Mark) (xs ys : List Entry)
    → IfSome o (λ n. ys ≡ at_number n rests xs) → IfNone o (ys ≡ xs) → AreMarked ms xs
    → AreMarked ms ys
marked_taken (Some n) ms xs ys some none before =
    subst (AreMarked ms) (sym some) (marked_at ms n rests xs (λ e. refl) (λ e. refl) before)
marked_taken None ms xs ys some none before = subst (AreMarked ms) (sym none) before

-- with a mark more, and other entries
pub marked_after : (ns ms : List Mark) (m : Mark) (ys zs : List Entry) → ns ≡ ms ++ m ∷ []
    → ys ≡ zs → AreMarked (ms ++ m ∷ []) zs → AreMarked ns ys
marked_after ns ms m ys zs is are all =
    subst (λ (l : List Mark). AreMarked l ys) (sym is)
    (subst (AreMarked (ms ++ m ∷ [])) (sym are) all)

-- a count that is not 0
pub counted_some : (n : ℕ) → (n ≡ 0 → ⊥) → 1 ≤ n
counted_some zero none = absurd (none refl)
counted_some (suc n) none = omega arith
