-- The element behind a change of some cells: the facts of the cells before them, their own, and the
-- facts of the cells behind them.
use Rattle.std.proofs.Common.{◌≡◌, ℕ, ◌+◌, ◌-◌, ◌<◌, ◌≤◌, ℤ, Bool, true, false, List, [], ◌∷◌, ◌++◌}
use Rattle.std.proofs.Common.{refl, sym, ap, ◌∙◌, subst, arith, cond, length, map, get_or}
use Rattle.std.proofs.Common.{append_assoc, append-nil, length-set, inl, inr, ◌⊎◌}
use Rattle.std.specs.Prelude.{min, zero, suc, ◌^◌, Option, None, Some, option_map, slice_set}
use Rattle.std.specs.Prelude.{◌==◌, ◌&&◌, nat_le, nat_lt}
use Rattle.std.specs.List.{filter, list_all, list_any, range_with_len, slice_index_or}
use Rattle.std.proofs.lemmas.Bool.{and_left, and_right, and_from, le-leb, lt-leb, lt-ltb, le-ltb}
use Rattle.std.proofs.lemmas.Bool.{eq-eqb, ne_eqb, cases_lt, cases_eq, cases_order, false≢true}
use Rattle.std.proofs.lemmas.Bool.{and_parts}
use Rattle.std.proofs.lemmas.List.{same_lists, get_or-set_same, get_or-set_other}
use Rattle.std.proofs.lemmas.List.FromFn.{length-map-range_with_len, get_or-map-range_with_len}
use Rattle.cpa_facts.specs.declared.fact.Fact.{Fact}
use Rattle.cpa_facts.specs.declared.fact.Fact.TheVariants.{At, Stack, Equals, Within, Truth}
use Rattle.cpa_model.specs.declared.facts.Elem.{Elem}
use Rattle.cpa_model.specs.declared.automaton.Edge.{Edge}
use Rattle.cpa_model.specs.declared.automaton.Cfa.{Cfa}
use Rattle.cpa_model.specs.Automata.{IsAutomaton}
use Rattle.cpa_iface.specs.declared.precisions.Precision.{Precision}
use Rattle.cpa_folds.specs.Tracking.{is_tracked}
use Rattle.cpa_value_changes.specs.Acts.{after_act}
use Rattle.cpa_value_changes.specs.Cells.{first_value, known_cells}
use Rattle.cpa_value_changes.specs.lemmas.Ordered.{begins, ordered_on, none_below}
use Rattle.cpa_value.specs.Cells.{facts_from, elem_of}
use Rattle.cpa_value.specs.declared.strengthening.Agreement.{Agreement}
use Rattle.cpa_value.specs.declared.strengthening.Agreement.TheVariants as agreement
use Rattle.cpa_value.specs.Strengthening.{is_point, has_point, agreed, met, met_elems, strengthened}
use Rattle.cpa_value.specs.Strengthening.{Agrees}
use Rattle.cpa_value_changes.specs.declared.changes.Change.{Change}
use Rattle.cpa_value_changes.specs.Tables.{are_ordered, changed, filled}
use Rattle.cpa_value.specs.Tables.{is_within, facts_within, facts_along}
use Rattle.cpa_value.specs.Transfer.{elems_of, next_values}

-- ---- the values of cells as a function of the cell

set_is : (values : ℕ → Option ℤ) (n cell : ℕ) (value : Option ℤ)
    → slice_set (map values (range_with_len 0 n)) cell value
    ≡ map (λ c. cond (c == cell) value (values c)) (range_with_len 0 n)
set_is values n cell value =
    let olds = map values (range_with_len 0 n) in
    let news = map (λ (c : ℕ). cond (c == cell) value (values c)) (range_with_len 0 n) in
    let long : length olds ≡ n = length-map-range_with_len values 0 n in
    let new_long : length news ≡ n =
    length-map-range_with_len (λ (c : ℕ). cond (c == cell) value (values c)) 0 n in
    let kept : length (slice_set olds cell value) ≡ length olds = length-set olds cell value in
    same_lists (slice_set olds cell value) news (kept ∙ (long ∙ sym new_long)) (λ k d inside.
    let less : k < n = omega (arith, kept, long, inside) in
    let right = get_or-map-range_with_len (λ (c : ℕ). cond (c == cell) value (values c)) 0 n k k d
    less (omega arith) in
    elim (cases_eq k cell) [
      | inl same ↦
          (subst (λ (c : ℕ). get_or (slice_set olds cell value) c d ≡ value) (sym same)
          (get_or-set_same olds cell value d (omega (arith, long, less, same)))
          ∙ sym (right ∙ ap (λ t. cond t value (values k)) (eq-eqb k cell same)))
      | inr other ↦
          get_or-set_other olds cell k value d other
          ∙ (get_or-map-range_with_len values 0 n k k d less (omega arith)
          ∙ sym (right ∙ ap (λ t. cond t value (values k)) (ne_eqb k cell other)))
    ])

-- the values with this one for so many cells from the first on
abbrev over : ℕ → ℕ → Option ℤ → (ℕ → Option ℤ) → ℕ → Option ℤ
over first zero value values cell = values cell
over first (suc n) value values cell =
    cond (cell == first + n) value (over first n value values cell)

filled_is : (values : ℕ → Option ℤ) (n first k : ℕ) (value : Option ℤ)
    → filled first k value (map values (range_with_len 0 n))
    ≡ map (over first k value values) (range_with_len 0 n)
filled_is values n first zero value = refl
filled_is values n first (suc k) value =
    ap (λ l. slice_set l (first + k) value) (filled_is values n first k value)
    ∙ set_is (over first k value values) n (first + k) value

over_before : (first k : ℕ) (value : Option ℤ) (values : ℕ → Option ℤ) (cell : ℕ) → cell < first
    → over first k value values cell ≡ values cell
over_before first zero value values cell less = refl
over_before first (suc k) value values cell less =
    ap (λ t. cond t value (over first k value values cell))
    (ne_eqb cell (first + k) (λ same. let eq : cell ≡ first + k = same in omega (arith, less, eq)))
    ∙ over_before first k value values cell less

over_behind : (first k : ℕ) (value : Option ℤ) (values : ℕ → Option ℤ) (cell : ℕ)
    → first + k ≤ cell → over first k value values cell ≡ values cell
over_behind first zero value values cell past = refl
over_behind first (suc k) value values cell past =
    ap (λ t. cond t value (over first k value values cell))
    (ne_eqb cell (first + k) (λ same. let eq : cell ≡ first + k = same in omega (arith, past, eq)))
    ∙ over_behind first k value values cell (omega (arith, past))

over_in : (first k : ℕ) (value : Option ℤ) (values : ℕ → Option ℤ) (cell : ℕ) → first ≤ cell
    → cell < first + k → over first k value values cell ≡ value
over_in first zero value values cell from less = absurd (omega (arith, from, less))
over_in first (suc k) value values cell from less = elim (cases_eq cell (first + k)) [
  | inl same ↦
      ap (λ t. cond t value (over first k value values cell)) (eq-eqb cell (first + k) same)
  | inr other ↦
      ap (λ t. cond t value (over first k value values cell)) (ne_eqb cell (first + k) other)
      ∙ over_in first k value values cell from (below other)
] where
  below : (cell ≡ first + k → ⊥) → cell < first + k
  below other = elim (cases_order cell (first + k)) [
    | inl same ↦ absurd (other same)
    | inr apart ↦ elim apart [ inl is ↦ is | inr is ↦ absurd (omega (arith, less, is)) ]
  ]

-- ---- the facts of cells from one on

cons_is : (tracked : ℕ → Bool) (cell : ℕ) (value : Option ℤ) (cells : List (Option ℤ))
    → facts_from tracked cell (value ∷ cells)
    ≡ facts_from (λ _. tracked cell) cell (value ∷ []) ++ facts_from tracked (cell + 1) cells
cons_is tracked cell None cells = refl
cons_is tracked cell (Some v) cells = by (tracked cell) where
  by : (b : Bool)
      → cond b (Equals cell v ∷ facts_from tracked (cell + 1) cells)
      (facts_from tracked (cell + 1) cells)
      ≡ cond b (Equals cell v ∷ []) [] ++ facts_from tracked (cell + 1) cells
  by true = refl
  by false = refl

along_is : (tracked : ℕ → Bool) (values : ℕ → Option ℤ) (cell n : ℕ)
    → facts_from tracked cell (map values (range_with_len cell n))
    ≡ facts_along tracked values cell n
along_is tracked values cell zero = refl
along_is tracked values cell (suc n) =
    cons_is tracked cell (values cell) (map values (range_with_len (cell + 1) n))
    ∙ ap (λ l. facts_from (λ _. tracked cell) cell (values cell ∷ []) ++ l)
    (along_is tracked values (cell + 1) n)

split : (tracked : ℕ → Bool) (values : ℕ → Option ℤ) (cell j k n next : ℕ) → j + k ≡ n
    → cell + j ≡ next
    → facts_along tracked values cell n
    ≡ facts_along tracked values cell j ++ facts_along tracked values next k
split tracked values cell zero k n next sum to =
    let here : cell ≡ next = omega (arith, to) in
    let all : n ≡ k = omega (arith, sum) in
    ap (λ c. facts_along tracked values c n) here ∙ ap (facts_along tracked values next) all
split tracked values cell (suc j) k zero next sum to = absurd (omega (arith, sum))
split tracked values cell (suc j) k (suc n) next sum to =
    let own = facts_from (λ _. tracked cell) cell (values cell ∷ []) in
    ap (λ l. own ++ l)
    (split tracked values (cell + 1) j k n next (omega (arith, sum)) (omega (arith, to)))
    ∙ sym (append_assoc own (facts_along tracked values (cell + 1) j)
    (facts_along tracked values next k))

alike : (tracked : ℕ → Bool) (values others : ℕ → Option ℤ) (cell n : ℕ)
    → ((c : ℕ) → cell ≤ c → c < cell + n → values c ≡ others c)
    → facts_along tracked values cell n ≡ facts_along tracked others cell n
alike tracked values others cell zero same = refl
alike tracked values others cell (suc n) same =
    ap (λ o. facts_from (λ _. tracked cell) cell (o ∷ [])
    ++ facts_along tracked values (cell + 1) n)
    (same cell (omega arith) (omega arith))
    ∙ ap (λ l. facts_from (λ _. tracked cell) cell (others cell ∷ []) ++ l)
    (alike tracked values others (cell + 1) n
    (λ c from less. same c (omega (arith, from)) (omega (arith, less))))

-- ---- the facts that are said of cells from one on

skips : (p : Fact → Bool) (f : Fact) (fs : List Fact) → p f ≡ false
    → filter p (f ∷ fs) ≡ filter p fs
skips p f fs is = ap (λ b. cond b (f ∷ filter p fs) (filter p fs)) is

none_within : (tracked : ℕ → Bool) (from to : ℕ) (fs : List Fact) → to ≤ from
    → facts_within tracked from to fs ≡ []
none_within tracked from to [] order = refl
none_within tracked from to (Equals cell v ∷ fs) order =
    skips (is_within tracked from to) (Equals cell v) fs (outside (cases_lt cell to))
    ∙ none_within tracked from to fs order where
      outside : (cell < to) ⊎ (to ≤ cell) → is_within tracked from to (Equals cell v) ≡ false
      outside (inl less) = and_left (nat_le from cell && nat_lt cell to) (tracked cell)
          (and_left (nat_le from cell) (nat_lt cell to)
          (lt-leb from cell (omega (arith, less, order))))
      outside (inr past) = and_left (nat_le from cell && nat_lt cell to) (tracked cell)
          (and_right (nat_le from cell) (nat_lt cell to) (le-ltb cell to past))
none_within tracked from to (At p ∷ fs) order = none_within tracked from to fs order
none_within tracked from to (Stack s ∷ fs) order = none_within tracked from to fs order
none_within tracked from to (Within c lo hi ∷ fs) order = none_within tracked from to fs order
none_within tracked from to (Truth e h ∷ fs) order = none_within tracked from to fs order

-- a fact of a later cell passes from the next cell on as it does from this one
later_passes : (tracked : ℕ → Bool) (from to cell : ℕ) (v : ℤ) → from + 1 ≤ cell
    → is_within tracked from to (Equals cell v) ≡ is_within tracked (from + 1) to (Equals cell v)
later_passes tracked from to cell v later =
    ap (λ b. b && nat_lt cell to && tracked cell)
    (le-leb from cell (omega (arith, later)) ∙ sym (le-leb (from + 1) cell later))

later : (tracked : ℕ → Bool) (n low from to : ℕ) (fs : List Fact) → are_ordered n low fs ≡ true
    → from + 1 ≤ low → facts_within tracked from to fs ≡ facts_within tracked (from + 1) to fs
later tracked n low from to [] is above = refl
later tracked n low from to (Equals cell v ∷ fs) is above =
    let b = begins n low cell v fs is in
    let far = b.above in
    ap (λ t. cond t (Equals cell v ∷ facts_within tracked from to fs)
    (facts_within tracked from to fs))
    (later_passes tracked from to cell v (omega (arith, far, above)))
    ∙ ap (λ l. cond (is_within tracked (from + 1) to (Equals cell v)) (Equals cell v ∷ l) l)
    (later tracked n (cell + 1) from to fs b.rest (omega (arith, far, above)))
later tracked n low from to (At p ∷ fs) is above = absurd (false≢true is)
later tracked n low from to (Stack s ∷ fs) is above = absurd (false≢true is)
later tracked n low from to (Within c lo hi ∷ fs) is above = absurd (false≢true is)
later tracked n low from to (Truth e h ∷ fs) is above = absurd (false≢true is)

-- a fact on a cell before this one
skipped : (tracked : ℕ → Bool) (from to cell : ℕ) (v : ℤ) (fs : List Fact) → cell < from
    → facts_within tracked from to fs
    ≡ facts_from (λ _. tracked from) from (first_value fs from ∷ [])
    ++ facts_within tracked (from + 1) to fs
    → facts_within tracked from to (Equals cell v ∷ fs)
    ≡ facts_from (λ _. tracked from) from (first_value (Equals cell v ∷ fs) from ∷ [])
    ++ facts_within tracked (from + 1) to (Equals cell v ∷ fs)
skipped tracked from to cell v fs before rest =
    let out = λ (low : ℕ) (far : cell < low).
    skips (is_within tracked low to) (Equals cell v) fs
    (and_left (nat_le low cell && nat_lt cell to) (tracked cell)
    (and_left (nat_le low cell) (nat_lt cell to) (lt-leb low cell far))) in
    out from before
    ∙ (rest
    ∙ (ap (λ t. facts_from (λ _. tracked from) from (cond t (Some v) (first_value fs from) ∷ [])
    ++ facts_within tracked (from + 1) to fs)
    (sym (ne_eqb cell from (λ same. let eq : cell ≡ from = same in omega (arith, before, eq))))
    ∙ ap (λ l. facts_from (λ _. tracked from) from (first_value (Equals cell v ∷ fs) from ∷ [])
    ++ l) (sym (out (from + 1) (omega (arith, before))))))

-- a fact on a cell behind this one
above : (tracked : ℕ → Bool) (n low from to cell : ℕ) (v : ℤ) (fs : List Fact)
    → are_ordered n low (Equals cell v ∷ fs) ≡ true → from < cell
    → facts_within tracked from to (Equals cell v ∷ fs)
    ≡ facts_from (λ _. tracked from) from (first_value (Equals cell v ∷ fs) from ∷ [])
    ++ facts_within tracked (from + 1) to (Equals cell v ∷ fs)
above tracked n low from to cell v fs is behind =
    let b = begins n low cell v fs is in
    let whole = ordered_on n cell cell v fs (omega arith) b.below b.rest in
    later tracked n cell from to (Equals cell v ∷ fs) whole (omega (arith, behind))
    ∙ ap (λ o. facts_from (λ _. tracked from) from (o ∷ [])
    ++ facts_within tracked (from + 1) to (Equals cell v ∷ fs))
    (sym (none_below n cell from (Equals cell v ∷ fs) whole behind))

joined : (b : Bool) (cell : ℕ) (v : ℤ) (rest : List Fact) → cond b (Equals cell v ∷ rest) rest
    ≡ cond b (Equals cell v ∷ []) [] ++ rest
joined true cell v rest = refl
joined false cell v rest = refl

-- the fact on this cell
own_cell : (tracked : ℕ → Bool) (n low from to cell : ℕ) (v : ℤ) (fs : List Fact)
    → are_ordered n low (Equals cell v ∷ fs) ≡ true → from < to → cell ≡ from
    → facts_within tracked from to (Equals cell v ∷ fs)
    ≡ facts_from (λ _. tracked from) from (first_value (Equals cell v ∷ fs) from ∷ [])
    ++ facts_within tracked (from + 1) to (Equals cell v ∷ fs)
own_cell tracked n low from to cell v fs is less same =
    let b = begins n low cell v fs is in
    let rest = facts_within tracked (from + 1) to fs in
    let passes : is_within tracked from to (Equals cell v) ≡ tracked from =
    ap (λ t. t && tracked cell) (and_from (nat_le from cell) (nat_lt cell to)
    (le-leb from cell (omega (arith, same))) (lt-ltb cell to (omega (arith, same, less))))
    ∙ ap tracked same in
    let fails : is_within tracked (from + 1) to (Equals cell v) ≡ false =
    and_left (nat_le (from + 1) cell && nat_lt cell to) (tracked cell)
    (and_left (nat_le (from + 1) cell) (nat_lt cell to)
    (lt-leb (from + 1) cell (omega (arith, same)))) in
    ap (λ t. cond t (Equals cell v ∷ facts_within tracked from to fs)
    (facts_within tracked from to fs)) passes
    ∙ (ap (λ l. cond (tracked from) (Equals cell v ∷ l) l)
    (later tracked n (cell + 1) from to fs b.rest (omega (arith, same)))
    ∙ (ap (λ c. cond (tracked from) (Equals c v ∷ rest) rest) same
    ∙ (joined (tracked from) from v rest
    ∙ (ap (λ t. facts_from (λ _. tracked from) from (cond t (Some v) (first_value fs from) ∷ [])
    ++ rest) (sym (eq-eqb cell from same))
    ∙ ap (λ l. facts_from (λ _. tracked from) from (first_value (Equals cell v ∷ fs) from ∷ [])
    ++ l) (sym (skips (is_within tracked (from + 1) to) (Equals cell v) fs fails))))))

-- the facts from a cell on are its own and those from the next cell on
next_cell : (tracked : ℕ → Bool) (n low from to : ℕ) (fs : List Fact)
    → are_ordered n low fs ≡ true → from < to
    → facts_within tracked from to fs
    ≡ facts_from (λ _. tracked from) from (first_value fs from ∷ [])
    ++ facts_within tracked (from + 1) to fs
next_cell tracked n low from to [] is less = refl
next_cell tracked n low from to (Equals cell v ∷ fs) is less = elim (cases_order cell from) [
  | inl same ↦ own_cell tracked n low from to cell v fs is less same
  | inr apart ↦
      elim apart [
        | inl before ↦
            skipped tracked from to cell v fs before
            (next_cell tracked n (cell + 1) from to fs (begins n low cell v fs is).rest less)
        | inr behind ↦ above tracked n low from to cell v fs is behind
      ]
]
next_cell tracked n low from to (At p ∷ fs) is less = absurd (false≢true is)
next_cell tracked n low from to (Stack s ∷ fs) is less = absurd (false≢true is)
next_cell tracked n low from to (Within c lo hi ∷ fs) is less = absurd (false≢true is)
next_cell tracked n low from to (Truth e h ∷ fs) is less = absurd (false≢true is)

-- the facts of cells in a row, of values that facts in order say
said : (tracked : ℕ → Bool) (n low from m to : ℕ) (fs : List Fact) → are_ordered n low fs ≡ true
    → from + m ≡ to
    → facts_along tracked (first_value fs) from m ≡ facts_within tracked from to fs
said tracked n low from zero to fs is end =
    sym (none_within tracked from to fs (omega (arith, end)))
said tracked n low from (suc m) to fs is end =
    ap (λ l. facts_from (λ _. tracked from) from (first_value fs from ∷ []) ++ l)
    (said tracked n low (from + 1) m to fs is (omega (arith, end)))
    ∙ sym (next_cell tracked n low from to fs is (omega (arith, end)))

-- ---- the whole

-- where the change takes cells, as far as there are so many
pub record Lies (n first k from to : ℕ) : Type 0 where
  pub order : from ≤ to
  pub inside : to ≤ n
  pub before : from ≤ first
  pub within : to ≤ first + k
  pub begins : (c : ℕ) → from ≤ c → c < to → first ≤ c
  pub ends : (c : ℕ) → to ≤ c → c < n → first + k ≤ c

pub lies : (n first k from to : ℕ) → from ≡ min first n → to ≡ from + min k (n - from)
    → Lies n first k from to
lies n first k from to start end = record {
  order = omega (arith, end);
  inside = omega (arith, start, end);
  before = omega (arith, start);
  within = omega (arith, start, end);
  begins = λ c low high. omega (arith, start, end, low, high);
  ends = λ c low high. omega (arith, start, end, low, high);
}

pub behind_change : (tracked : ℕ → Bool) (n first k : ℕ) (value : Option ℤ) (from to : ℕ)
    (fs : List Fact) → are_ordered n 0 fs ≡ true → Lies n first k from to
    → facts_from tracked 0 (filled first k value (known_cells n fs))
    ≡ facts_within tracked 0 from fs ++ facts_along tracked (λ _. value) from (to - from)
    ++ facts_within tracked to n fs
behind_change tracked n first k value from to fs is lie =
    let values = over first k value (first_value fs) in
    let order = lie.order in
    let inside = lie.inside in
    let before = lie.before in
    let within = lie.within in
    let one : facts_along tracked values 0 from ≡ facts_within tracked 0 from fs =
    alike tracked values (first_value fs) 0 from (λ c low high.
    over_before first k value (first_value fs) c (omega (arith, high, before)))
    ∙ said tracked n 0 0 from from fs is (omega arith) in
    let two : facts_along tracked values from (to - from)
    ≡ facts_along tracked (λ _. value) from (to - from) =
    alike tracked values (λ _. value) from (to - from) (λ c low high.
    let less : c < to = omega (arith, high, order) in
    over_in first k value (first_value fs) c (lie.begins c low less)
    (omega (arith, less, within))) in
    let three : facts_along tracked values to (n - to) ≡ facts_within tracked to n fs =
    alike tracked values (first_value fs) to (n - to) (λ c low high.
    over_behind first k value (first_value fs) c
    (lie.ends c low (omega (arith, high, inside))))
    ∙ said tracked n 0 to (n - to) n fs is (omega (arith, inside)) in
    let all : facts_along tracked values 0 n
    ≡ facts_along tracked values 0 from ++ (facts_along tracked values from (to - from)
    ++ facts_along tracked values to (n - to)) =
    split tracked values 0 from (n - from) n from (omega (arith, order, inside)) (omega arith)
    ∙ ap (λ l. facts_along tracked values 0 from ++ l)
    (split tracked values from (to - from) (n - to) (n - from) to
    (omega (arith, order, inside)) (omega (arith, order))) in
    ap (facts_from tracked 0) (filled_is (first_value fs) n first k value)
    ∙ (along_is tracked values 0 n
    ∙ (all
    ∙ (ap (λ l. l ++ (facts_along tracked values from (to - from)
    ++ facts_along tracked values to (n - to))) one
    ∙ (ap (λ l. facts_within tracked 0 from fs ++ (l ++ facts_along tracked values to (n - to))) two
    ∙ (ap (λ l. facts_within tracked 0 from fs
    ++ (facts_along tracked (λ _. value) from (to - from) ++ l)) three
    ∙ sym (append_assoc (facts_within tracked 0 from fs)
    (facts_along tracked (λ _. value) from (to - from)) (facts_within tracked to n fs)))))))

-- ---- facts in any order, in the order of the cells

pub from_ordered : (n low cell : ℕ) (cells : List (Option ℤ)) → low ≤ cell
    → cell + length cells ≡ n → are_ordered n low (facts_from (λ _. true) cell cells) ≡ true
from_ordered n low cell [] less long = refl
from_ordered n low cell (None ∷ cells) less long =
    from_ordered n low (cell + 1) cells (omega (arith, less)) (omega (arith, long))
from_ordered n low cell (Some v ∷ cells) less long =
    ordered_on n low cell v (facts_from (λ _. true) (cell + 1) cells) less (omega (arith, long))
    (from_ordered n (cell + 1) (cell + 1) cells (omega arith) (omega (arith, long)))

-- nothing is said of cells before the first
not_before : (first cell : ℕ) (cells : List (Option ℤ)) → cell < first
    → first_value (facts_from (λ _. true) first cells) cell ≡ None
not_before first cell [] less = refl
not_before first cell (None ∷ cells) less =
    not_before (first + 1) cell cells (omega (arith, less))
not_before first cell (Some v ∷ cells) less =
    ap (λ t. cond t (Some v) (first_value (facts_from (λ _. true) (first + 1) cells) cell))
    (ne_eqb first cell (λ same. let eq : first ≡ cell = same in omega (arith, less, eq)))
    ∙ not_before (first + 1) cell cells (omega (arith, less))

says_each : (first i cell : ℕ) (cells : List (Option ℤ)) → first + i ≡ cell
    → first_value (facts_from (λ _. true) first cells) cell ≡ slice_index_or cells i None
says_each first i cell [] at = refl
says_each first zero cell (None ∷ cells) at = not_before (first + 1) cell cells (omega (arith, at))
says_each first (suc i) cell (None ∷ cells) at =
    says_each (first + 1) i cell cells (omega (arith, at))
says_each first zero cell (Some v ∷ cells) at =
    ap (λ t. cond t (Some v) (first_value (facts_from (λ _. true) (first + 1) cells) cell))
    (eq-eqb first cell (omega (arith, at)))
says_each first (suc i) cell (Some v ∷ cells) at =
    ap (λ t. cond t (Some v) (first_value (facts_from (λ _. true) (first + 1) cells) cell))
    (ne_eqb first cell (λ same. let eq : first ≡ cell = same in omega (arith, at, eq)))
    ∙ says_each (first + 1) i cell cells (omega (arith, at))

pub same_in_order : (n : ℕ) (fs : List Fact)
    → known_cells n (facts_from (λ _. true) 0 (known_cells n fs)) ≡ known_cells n fs
same_in_order n fs =
    let again = facts_from (λ _. true) 0 (known_cells n fs) in
    let long = length-map-range_with_len (first_value fs) 0 n in
    let new_long = length-map-range_with_len (first_value again) 0 n in
    same_lists (known_cells n again) (known_cells n fs) (new_long ∙ sym long) (λ k d inside.
    let less : k < n = omega (arith, new_long, inside) in
    get_or-map-range_with_len (first_value again) 0 n k k d less (omega arith)
    ∙ (says_each 0 k k (known_cells n fs) (omega arith)
    ∙ (get_or-map-range_with_len (first_value fs) 0 n k k None less (omega arith)
    ∙ sym (get_or-map-range_with_len (first_value fs) 0 n k k d less (omega arith)))))

-- ---- facts in the order of the cells are those of their own values

all_within : (n low : ℕ) (fs : List Fact) → are_ordered n low fs ≡ true
    → facts_within (λ _. true) 0 n fs ≡ fs
all_within n low [] is = refl
all_within n low (Equals cell v ∷ fs) is =
    let b = begins n low cell v fs is in
    ap (λ t. cond t (Equals cell v ∷ facts_within (λ _. true) 0 n fs)
    (facts_within (λ _. true) 0 n fs))
    (and_from (nat_le 0 cell && nat_lt cell n) true
    (and_from (nat_le 0 cell) (nat_lt cell n) (le-leb 0 cell (omega arith)) (lt-ltb cell n b.below))
    refl)
    ∙ ap (λ l. Equals cell v ∷ l) (all_within n (cell + 1) fs b.rest)
all_within n low (At p ∷ fs) is = absurd (false≢true is)
all_within n low (Stack s ∷ fs) is = absurd (false≢true is)
all_within n low (Within c lo hi ∷ fs) is = absurd (false≢true is)
all_within n low (Truth e h ∷ fs) is = absurd (false≢true is)

pub facts_again : (n : ℕ) (fs : List Fact) → are_ordered n 0 fs ≡ true
    → facts_from (λ _. true) 0 (known_cells n fs) ≡ fs
facts_again n fs is =
    along_is (λ _. true) (first_value fs) 0 n
    ∙ (said (λ _. true) n 0 0 n n fs is (omega arith) ∙ all_within n 0 fs is)

-- facts that all pass are kept
pass_all : (p : Fact → Bool) (fs : List Fact) → list_all p fs ≡ true → filter p fs ≡ fs
pass_all p [] all = refl
pass_all p (f ∷ fs) all =
    let both = and_parts (p f) (list_all p fs) all in
    ap (λ b. cond b (f ∷ filter p fs) (filter p fs)) both.0
    ∙ ap (λ l. f ∷ l) (pass_all p fs both.1)

-- where no cell changes and all facts are of tracked cells, they are as they were
unchanged_is : (tracked : ℕ → Bool) (n first k : ℕ) (value : Option ℤ) (fs : List Fact)
    → are_ordered n 0 fs ≡ true → k ≡ 0 → list_all (is_within tracked 0 n) fs ≡ true
    → fs ≡ facts_from tracked 0 (filled first k value (known_cells n fs))
unchanged_is tracked n first k value fs is none all =
    sym (ap (λ j. facts_from tracked 0 (filled first j value (known_cells n fs))) none
    ∙ (along_is tracked (first_value fs) 0 n
    ∙ (said tracked n 0 0 n n fs is (omega arith) ∙ pass_all (is_within tracked 0 n) fs all)))

-- ---- loops and calls

-- what is added of cells in a row, with one more
pub along_more : (tracked : ℕ → Bool) (value : Option ℤ) (cell end : ℕ) (marked : Bool)
    (left new whole : List Fact) → cell < end → marked ≡ tracked cell
    → new ≡ left ++ facts_from (λ _. marked) cell (value ∷ [])
    → left ++ facts_along tracked (λ _. value) cell (end - cell) ≡ whole
    → new ++ facts_along tracked (λ _. value) (cell + 1) (end - (cell + 1)) ≡ whole
along_more tracked value cell end marked left new whole inside same is was =
    let rest = facts_along tracked (λ _. value) (cell + 1) (end - (cell + 1)) in
    let own = facts_from (λ _. tracked cell) cell (value ∷ []) in
    let more : end - cell ≡ suc (end - (cell + 1)) = omega (arith, inside) in
    ap (λ l. l ++ rest) (is ∙ ap (λ b. left ++ facts_from (λ _. b) cell (value ∷ [])) same)
    ∙ (append_assoc left own rest
    ∙ (ap (λ n. left ++ facts_along tracked (λ _. value) cell n) (sym more) ∙ was))

-- and with no more
pub along_all : (tracked : ℕ → Bool) (value : Option ℤ) (cell end : ℕ) (left whole : List Fact)
    → end ≤ cell → left ++ facts_along tracked (λ _. value) cell (end - cell) ≡ whole
    → left ≡ whole
along_all tracked value cell end left whole past was =
    let none : end - cell ≡ 0 = omega (arith, past) in
    sym (append-nil left)
    ∙ (ap (λ n. left ++ facts_along tracked (λ _. value) cell n) (sym none) ∙ was)

-- the three parts of the element behind a change
pub behind_is : (tracked : ℕ → Bool) (n first k : ℕ) (value : Option ℤ) (from to : ℕ)
    (fs none one two three : List Fact) → are_ordered n 0 fs ≡ true → from ≡ min first n
    → to ≡ from + min k (n - from)
    → none ≡ [] → one ≡ none ++ facts_within tracked 0 from fs
    → two ≡ one ++ facts_along tracked (λ _. value) from (to - from)
    → three ≡ two ++ facts_within tracked to n fs
    → three ≡ facts_from tracked 0 (filled first k value (known_cells n fs))
behind_is tracked n first k value from to fs none one two three ordered start end empty first_is
    second third =
    third
    ∙ (ap (λ l. l ++ facts_within tracked to n fs)
    (second ∙ ap (λ l. l ++ facts_along tracked (λ _. value) from (to - from))
    (first_is ∙ ap (λ l. l ++ facts_within tracked 0 from fs) empty))
    ∙ sym (behind_change tracked n first k value from to fs ordered
    (lies n first k from to start end)))

-- the element that is made of them, and the one that stays
pub made_elem : (tracked : ℕ → Bool) (n : ℕ) (change : Change) (fs left : List Fact) (e : Elem)
    → left ≡ facts_from tracked 0 (changed change (known_cells n fs)) → e.facts ≡ left
    → e ≡ elem_of tracked (changed change (known_cells n fs))
made_elem tracked n change fs left e is made =
    ap (λ (l : List Fact). let made : Elem = record { facts = l } in made) (made ∙ is)

pub same_elem : (tracked : ℕ → Bool) (n : ℕ) (change : Change) (own e : Elem)
    → are_ordered n 0 own.facts ≡ true → change.count ≡ 0
    → list_all (is_within tracked 0 n) own.facts ≡ true → e ≡ own
    → e ≡ elem_of tracked (changed change (known_cells n own.facts))
same_elem tracked n change own e ordered none all same =
    made_elem tracked n change own.facts own.facts e
    (unchanged_is tracked n change.first change.count change.value own.facts ordered none all)
    (ap (λ (x : Elem). x.facts) same)

-- the cells of an automaton are few
pub few_cells : (cfa : Cfa) (count : ℕ) → IsAutomaton cfa → count ≡ length cfa.cells
    → count < 2 ^ 32
few_cells cfa count a is =
    let few = a.well_formed.few_cells in
    let same : length cfa.cells ≡ length a.program.cells = ap length a.automaton.cells in
    omega (arith, few, same, is)

-- so are those of which values are known
pub few_known : (n : ℕ) (fs : List Fact) (cells : List (Option ℤ)) → n < 2 ^ 32
    → cells ≡ known_cells n fs → length cells < 2 ^ 32
few_known n fs cells few are =
    let long : length cells ≡ n = ap length are ∙ length-map-range_with_len (first_value fs) 0 n in
    omega (arith, few, long)

-- the element of all known values
pub ordered_again : (n : ℕ) (fs : List Fact) (cells : List (Option ℤ)) (e : Elem)
    → cells ≡ known_cells n fs → e ≡ elem_of (λ _. true) cells → are_ordered n 0 e.facts ≡ true
ordered_again n fs cells e are is =
    ap (λ (x : Elem). are_ordered n 0 x.facts) (is ∙ ap (elem_of (λ _. true)) are)
    ∙ from_ordered n 0 0 (known_cells n fs) (omega arith)
    (let long = length-map-range_with_len (first_value fs) 0 n in omega (arith, long))

pub same_again : (n : ℕ) (fs : List Fact) (cells : List (Option ℤ)) (e : Elem)
    → cells ≡ known_cells n fs → e ≡ elem_of (λ _. true) cells
    → known_cells n e.facts ≡ known_cells n fs
same_again n fs cells e are is =
    ap (λ (x : Elem). known_cells n x.facts) (is ∙ ap (elem_of (λ _. true)) are)
    ∙ same_in_order n fs

-- the cells that are tracked are those of the precision
pub same_transfer : (cfa : Cfa) (p q : Precision) (e : Elem) (g : Edge) (count : ℕ)
    (fs : List Fact) (es : List Elem) → count ≡ length cfa.cells → fs ≡ e.facts → q ≡ p
    → es ≡ elems_of (is_tracked q) (after_act (is_tracked q) g.act (known_cells count fs))
    → es ≡ next_values cfa p e g
same_transfer cfa p q e g count fs es long are same is =
    is
    ∙ (ap (λ (r : Precision). elems_of (is_tracked r)
    (after_act (is_tracked r) g.act (known_cells count fs))) same
    ∙ (ap (λ n. elems_of (is_tracked p) (after_act (is_tracked p) g.act (known_cells n fs))) long
    ∙ ap (λ l. elems_of (is_tracked p)
    (after_act (is_tracked p) g.act (known_cells (length cfa.cells) l))) are))

pub strengthened_is : (n count : ℕ) (p q : Precision) (own : Elem) (others : List Elem)
    (e : Option Elem) → count ≡ n → q ≡ p → list_any (has_point (is_tracked q)) others ≡ true
    → e ≡ option_map (elem_of (λ _. true))
    (met_elems (is_tracked q) others (known_cells count own.facts))
    → e ≡ strengthened n p own others
strengthened_is n count p q own others e long same some is =
    let there : list_any (has_point (is_tracked p)) others ≡ true =
    ap (λ (r : Precision). list_any (has_point (is_tracked r)) others) (sym same) ∙ some in
    let whole = option_map (elem_of (λ _. true))
    (met_elems (is_tracked p) others (known_cells n own.facts)) in
    is
    ∙ (ap (λ (r : Precision). option_map (elem_of (λ _. true))
    (met_elems (is_tracked r) others (known_cells count own.facts))) same
    ∙ (ap (λ m. option_map (elem_of (λ _. true))
    (met_elems (is_tracked p) others (known_cells m own.facts))) long
    ∙ ap (λ b. cond b whole (Some own)) (sym there)))

-- what a fact of one value says of its cell
pub said_is : (tracked : ℕ → Bool) (f : Fact) (cell : ℕ) (lo hi : ℤ) (known : Option ℤ)
    (cells : List (Option ℤ)) (a : Agreement) → f ≡ Within cell lo hi
    → is_point tracked f ≡ true → known ≡ slice_index_or cells cell None
    → Agrees a (agreed cell lo known) cells → Agrees a (met tracked f) cells
said_is tracked f cell lo hi known cells a is point found says = agrees a whole says where
  passes : is_point tracked (Within cell lo hi) ≡ true
  passes = sym (ap (is_point tracked) is) ∙ point

  whole : met tracked f cells ≡ agreed cell lo known cells
  whole = ap (λ (x : Fact). met tracked x cells) is
      ∙ (ap (λ b. cond b (agreed cell lo (slice_index_or cells cell None) cells) (Some cells))
      passes
      ∙ ap (λ o. agreed cell lo o cells) (sym found))

  agrees : (b : Agreement) → met tracked f cells ≡ agreed cell lo known cells
      → Agrees b (agreed cell lo known) cells → Agrees b (met tracked f) cells
  agrees agreement.Same same says = same ∙ says
  agrees agreement.Other same says = same ∙ says
  agrees agreement.More same says = tt

-- where nothing more is said the own element is that of all that is known
pub met_same : (n : ℕ) (own : Elem) (says : Option (List (Option ℤ)))
    → are_ordered n 0 own.facts ≡ true
    → says ≡ Some (known_cells n own.facts) → Some own ≡ option_map (elem_of (λ _. true)) says
met_same n own says ordered is =
    ap Some (ap (λ (fs : List Fact). let e : Elem = record { facts = fs } in e)
    (sym (facts_again n own.facts ordered)))
    ∙ ap (option_map (elem_of (λ _. true))) (sym is)

pub met_is : (n : ℕ) (own copy : Elem) (fs : List Fact) (a : Agreement)
    (says : List (Option ℤ) → Option (List (Option ℤ))) → copy ≡ own → fs ≡ own.facts
    → a ≡ agreement.Same → Agrees a says (known_cells n fs)
    → (a ≡ agreement.Same → are_ordered n 0 fs ≡ true)
    → Some copy ≡ option_map (elem_of (λ _. true)) (says (known_cells n own.facts))
met_is n own copy fs a says copied are is agrees ordered =
    let same : says (known_cells n fs) ≡ Some (known_cells n fs) =
    subst (λ (b : Agreement). Agrees b says (known_cells n fs)) is agrees in
    ap Some copied
    ∙ met_same n own (says (known_cells n own.facts))
    (ap (are_ordered n 0) (sym are) ∙ ordered is)
    (subst (λ (l : List Fact). says (known_cells n l) ≡ Some (known_cells n l)) are same)
