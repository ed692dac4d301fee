-- Facts in the order of the cells, all of tracked ones: those of cells before one and from one on
-- stand before and behind its place.
use Rattle.std.proofs.Common.{◌≡◌, ℕ, suc, ◌+◌, ◌-◌, ◌<◌, ◌≤◌, ℤ, Bool, true, false}
use Rattle.std.proofs.Common.{List, [], ◌∷◌, ◌++◌, inl, inr, refl, sym, ap, ◌∙◌, arith, cond}
use Rattle.std.proofs.Common.{length}
use Rattle.std.proofs.Common.{take, drop}
use Rattle.std.specs.Prelude.{Some, ◌&&◌, nat_le, nat_lt, min}
use Rattle.std.specs.List.{list_all}
use Rattle.std.proofs.lemmas.Bool.{and_parts, and_from, and_left, and_right, le-leb, lt-leb, lt-ltb}
use Rattle.std.proofs.lemmas.Bool.{le-ltb, cases_lt, false≢true}
use Rattle.cpa_facts.specs.declared.fact.Fact.{Fact}
use Rattle.cpa_facts.specs.declared.fact.Fact.TheVariants.{At, Stack, Equals, Within, Truth}
use Rattle.cpa_facts.specs.declared.run.Run.{Run}
use Rattle.cpa_facts.specs.Blocks.{joined}
use Rattle.cpa_facts.specs.Runs.{run_of}
use Rattle.cpa_facts.specs.lemmas.Runs.{consecutive, run_is}
use Rattle.cpa_value_changes.specs.declared.changes.Change.{Change}
use Rattle.cpa_value_changes.specs.Cells.{known_cells}
use Rattle.cpa_value_changes.specs.Tables.{are_ordered, place_in, changed}
use Rattle.cpa_value_changes.specs.lemmas.Ordered.{begins, ordered_on}
use Rattle.cpa_value.specs.Cells.{facts_from}
use Rattle.cpa_value.specs.Tables.{is_within, facts_within, facts_along}
use Rattle.cpa_value.proofs.ChangeLemmas.{behind_change, lies}

-- ---- blocks

list_all-append : (p : Fact → Bool) (xs ys : List Fact)
    → list_all p (xs ++ ys) ≡ (list_all p xs && list_all p ys)
list_all-append p [] ys = refl
list_all-append p (x ∷ xs) ys = by (p x) (list_all-append p xs ys) where
  by : (b : Bool) → list_all p (xs ++ ys) ≡ (list_all p xs && list_all p ys)
      → (b && list_all p (xs ++ ys)) ≡ ((b && list_all p xs) && list_all p ys)
  by true rest = rest
  by false rest = refl

pub all_blocks : (p : Fact → Bool) (blocks : List (List Fact)) (facts : List Fact)
    → joined blocks ≡ facts → list_all (list_all p) blocks ≡ list_all p facts
all_blocks p blocks facts is = parts blocks ∙ ap (list_all p) is where
  parts : (bs : List (List Fact)) → list_all (list_all p) bs ≡ list_all p (joined bs)
  parts [] = refl
  parts (b ∷ bs) =
      ap (λ t. list_all p b && t) (parts bs) ∙ sym (list_all-append p b (joined bs))

-- ---- a run of tracked cells

within_run : (tracked : ℕ → Bool) (n first : ℕ) (values : List ℤ) → first + length values ≤ n
    → ((cell : ℕ) → first ≤ cell → cell < first + length values → tracked cell ≡ true)
    → list_all (is_within tracked 0 n) (consecutive first values) ≡ true
within_run tracked n first [] inside each = refl
within_run tracked n first (v ∷ values) inside each =
    and_from (is_within tracked 0 n (Equals first v))
    (list_all (is_within tracked 0 n) (consecutive (first + 1) values))
    (and_from (nat_le 0 first && nat_lt first n) (tracked first)
    (and_from (nat_le 0 first) (nat_lt first n) (le-leb 0 first (omega arith))
    (lt-ltb first n (omega (arith, inside))))
    (each first (omega arith) (omega arith)))
    (within_run tracked n (first + 1) values (omega (arith, inside)) (λ cell low high.
    each cell (omega (arith, low)) (omega (arith, high))))

pub run_within : (tracked : ℕ → Bool) (n : ℕ) (run : Run) (facts : List Fact)
    → run_of facts ≡ Some run → run.first + run.count ≤ n
    → ((cell : ℕ) → run.first ≤ cell → cell < run.first + run.count → tracked cell ≡ true)
    → list_all (is_within tracked 0 n) facts ≡ true
run_within tracked n run facts is inside each =
    let r = run_is facts run is in
    let count = r.count in
    ap (list_all (is_within tracked 0 n)) r.are
    ∙ within_run tracked n run.first r.values (omega (arith, count, inside)) (λ cell low high.
    each cell low (omega (arith, high, count)))

-- ---- the facts before the place of a cell, and those behind it

-- none of them is of a cell before one that all follow
none_before : (tracked : ℕ → Bool) (n low to : ℕ) (fs : List Fact) → are_ordered n low fs ≡ true
    → to ≤ low → facts_within tracked 0 to fs ≡ []
none_before tracked n low to [] is past = refl
none_before tracked n low to (Equals cell v ∷ fs) is past =
    let b = begins n low cell v fs is in
    let above = b.above in
    ap (λ t. cond t (Equals cell v ∷ facts_within tracked 0 to fs) (facts_within tracked 0 to fs))
    (and_left (nat_le 0 cell && nat_lt cell to) (tracked cell)
    (and_right (nat_le 0 cell) (nat_lt cell to) (le-ltb cell to (omega (arith, past, above)))))
    ∙ none_before tracked n (cell + 1) to fs b.rest (omega (arith, past, above))
none_before tracked n low to (At p ∷ fs) is past = absurd (false≢true is)
none_before tracked n low to (Stack s ∷ fs) is past = absurd (false≢true is)
none_before tracked n low to (Within c lo hi ∷ fs) is past = absurd (false≢true is)
none_before tracked n low to (Truth e h ∷ fs) is past = absurd (false≢true is)

-- all of them are of cells from one on that all follow
all_behind : (tracked : ℕ → Bool) (n low from : ℕ) (fs : List Fact) → are_ordered n low fs ≡ true
    → from ≤ low → list_all (is_within tracked 0 n) fs ≡ true → facts_within tracked from n fs ≡ fs
all_behind tracked n low from [] is past all = refl
all_behind tracked n low from (Equals cell v ∷ fs) is past all =
    let b = begins n low cell v fs is in
    let above = b.above in
    let both = and_parts (is_within tracked 0 n (Equals cell v))
    (list_all (is_within tracked 0 n) fs) all in
    let own = and_parts (nat_le 0 cell && nat_lt cell n) (tracked cell) both.0 in
    ap (λ t. cond t (Equals cell v ∷ facts_within tracked from n fs)
    (facts_within tracked from n fs))
    (and_from (nat_le from cell && nat_lt cell n) (tracked cell)
    (and_from (nat_le from cell) (nat_lt cell n) (le-leb from cell (omega (arith, past, above)))
    (lt-ltb cell n b.below)) own.1)
    ∙ ap (λ l. Equals cell v ∷ l)
    (all_behind tracked n (cell + 1) from fs b.rest (omega (arith, past, above)) both.1)
all_behind tracked n low from (At p ∷ fs) is past all = absurd (false≢true is)
all_behind tracked n low from (Stack s ∷ fs) is past all = absurd (false≢true is)
all_behind tracked n low from (Within c lo hi ∷ fs) is past all = absurd (false≢true is)
all_behind tracked n low from (Truth e h ∷ fs) is past all = absurd (false≢true is)

front_is : (tracked : ℕ → Bool) (n low to : ℕ) (fs : List Fact) → are_ordered n low fs ≡ true
    → list_all (is_within tracked 0 n) fs ≡ true
    → facts_within tracked 0 to fs ≡ take (place_in to fs) fs
front_is tracked n low to [] is all = refl
front_is tracked n low to (Equals cell v ∷ fs) is all =
    let b = begins n low cell v fs is in
    let both = and_parts (is_within tracked 0 n (Equals cell v))
    (list_all (is_within tracked 0 n) fs) all in
    let own = and_parts (nat_le 0 cell && nat_lt cell n) (tracked cell) both.0 in
    let place = λ (t : Bool). take (cond t (suc (place_in to fs)) 0) (Equals cell v ∷ fs) in
    elim (cases_lt cell to) [
      | inl less ↦
          (ap (λ t. cond t (Equals cell v ∷ facts_within tracked 0 to fs)
          (facts_within tracked 0 to fs))
          (and_from (nat_le 0 cell && nat_lt cell to) (tracked cell)
          (and_from (nat_le 0 cell) (nat_lt cell to) (le-leb 0 cell (omega arith))
          (lt-ltb cell to less)) own.1)
          ∙ (ap (λ l. Equals cell v ∷ l) (front_is tracked n (cell + 1) to fs b.rest both.1)
          ∙ sym (ap place (lt-ltb cell to less))))
      | inr past ↦
          (none_before tracked n cell to (Equals cell v ∷ fs)
          (ordered_on n cell cell v fs (omega arith) b.below b.rest) past
          ∙ sym (ap place (le-ltb cell to past)))
    ]
front_is tracked n low to (At p ∷ fs) is all = absurd (false≢true is)
front_is tracked n low to (Stack s ∷ fs) is all = absurd (false≢true is)
front_is tracked n low to (Within c lo hi ∷ fs) is all = absurd (false≢true is)
front_is tracked n low to (Truth e h ∷ fs) is all = absurd (false≢true is)

back_is : (tracked : ℕ → Bool) (n low from : ℕ) (fs : List Fact) → are_ordered n low fs ≡ true
    → list_all (is_within tracked 0 n) fs ≡ true
    → facts_within tracked from n fs ≡ drop (place_in from fs) fs
back_is tracked n low from [] is all = refl
back_is tracked n low from (Equals cell v ∷ fs) is all =
    let b = begins n low cell v fs is in
    let both = and_parts (is_within tracked 0 n (Equals cell v))
    (list_all (is_within tracked 0 n) fs) all in
    let place = λ (t : Bool). drop (cond t (suc (place_in from fs)) 0) (Equals cell v ∷ fs) in
    elim (cases_lt cell from) [
      | inl less ↦
          (ap (λ t. cond t (Equals cell v ∷ facts_within tracked from n fs)
          (facts_within tracked from n fs))
          (and_left (nat_le from cell && nat_lt cell n) (tracked cell)
          (and_left (nat_le from cell) (nat_lt cell n) (lt-leb from cell less)))
          ∙ (back_is tracked n (cell + 1) from fs b.rest both.1
          ∙ sym (ap place (lt-ltb cell from less))))
      | inr past ↦
          (all_behind tracked n cell from (Equals cell v ∷ fs)
          (ordered_on n cell cell v fs (omega arith) b.below b.rest) past all
          ∙ sym (ap place (le-ltb cell from past)))
    ]
back_is tracked n low from (At p ∷ fs) is all = absurd (false≢true is)
back_is tracked n low from (Stack s ∷ fs) is all = absurd (false≢true is)
back_is tracked n low from (Within c lo hi ∷ fs) is all = absurd (false≢true is)
back_is tracked n low from (Truth e h ∷ fs) is all = absurd (false≢true is)

-- so the element behind a change has the changed facts in place of those of the changed cells
pub replaced_is : (tracked : ℕ → Bool) (n : ℕ) (change : Change) (from to p q : ℕ)
    (fs none items new : List Fact) → are_ordered n 0 fs ≡ true
    → list_all (is_within tracked 0 n) fs ≡ true → from ≡ min change.first n
    → to ≡ from + min change.count (n - from) → p ≡ place_in from fs → q ≡ place_in to fs
    → none ≡ [] → items ≡ none ++ facts_along tracked (λ _. change.value) from (to - from)
    → new ≡ take p fs ++ items ++ drop q fs
    → new ≡ facts_from tracked 0 (changed change (known_cells n fs))
replaced_is tracked n change from to p q fs none items new ordered all start end before behind empty
    are is =
    let along = facts_along tracked (λ _. change.value) from (to - from) in
    is
    ∙ (ap (λ k. take k fs ++ items ++ drop q fs) before
    ∙ (ap (λ l. l ++ items ++ drop q fs) (sym (front_is tracked n 0 from fs ordered all))
    ∙ (ap (λ l. facts_within tracked 0 from fs ++ l ++ drop q fs)
    (are ∙ ap (λ l. l ++ along) empty)
    ∙ (ap (λ k. facts_within tracked 0 from fs ++ along ++ drop k fs) behind
    ∙ (ap (λ l. facts_within tracked 0 from fs ++ along ++ l)
    (sym (back_is tracked n 0 to fs ordered all))
    ∙ sym (behind_change tracked n change.first change.count change.value from to fs ordered
    (lies n change.first change.count from to start end)))))))
