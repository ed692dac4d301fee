-- What facts say of cells, and the facts of cells.
use Rattle.std.proofs.Common.{◌≡◌, ℕ, ◌+◌, ◌<◌, ℤ, Bool, true, false, List, [], ◌∷◌, ◌++◌}
use Rattle.std.proofs.Common.{refl, sym, ap, ◌∙◌, arith, cond, take, get_or, length, map}
use Rattle.std.specs.Prelude.{zero, suc, Option, None, Some, slice_get, ◌==◌}
use Rattle.std.specs.List.{slice_index_or}
use Rattle.std.proofs.lemmas.List.{same_lists, take_more, length-take-le}
use Rattle.std.proofs.lemmas.Option.{get_or_from_slice_get}
use Rattle.std.proofs.lemmas.List.FromFn.{length-map-range_with_len, get_or-map-range_with_len}
use Rattle.cpa_facts.specs.declared.fact.Fact.{Fact}
use Rattle.cpa_facts.specs.declared.fact.Fact.TheVariants.{At, Stack, Equals, Within, Truth}
use Rattle.cpa_model.specs.declared.program.Cell.{Cell}
use Rattle.cpa_iface.specs.Pins.{equals_from}
use Rattle.cpa_value_changes.specs.Cells.{first_value, known_cells}
use Rattle.cpa_value.specs.Cells.{first_known, facts_from}

-- the first value of facts with one before them
first_value-cons : (f : Fact) (fs : List Fact) (cell : ℕ)
    → first_known (first_value (f ∷ []) cell) (first_value fs cell) ≡ first_value (f ∷ fs) cell
first_value-cons (At p) fs cell = refl
first_value-cons (Stack s) fs cell = refl
first_value-cons (Equals own v) fs cell = by (own == cell) where
  by : (b : Bool) → first_known (cond b (Some v) None) (first_value fs cell)
      ≡ cond b (Some v) (first_value fs cell)
  by true = refl
  by false = refl
first_value-cons (Within c lo hi) fs cell = refl
first_value-cons (Truth e h) fs cell = refl

first_known-assoc : (a b c : Option ℤ)
    → first_known (first_known a b) c ≡ first_known a (first_known b c)
first_known-assoc (Some v) b c = refl
first_known-assoc None b c = refl

first_known-none : (a : Option ℤ) → first_known a None ≡ a
first_known-none (Some v) = refl
first_known-none None = refl

-- for each cell, the list and the facts that are left give what all facts give
pub record Knows (n : ℕ) (facts left : List Fact) (cells : List (Option ℤ)) : Type 0 where
  pub long : length cells ≡ n
  pub first : (cell : ℕ) → cell < n
      → first_known (slice_index_or cells cell None) (first_value left cell)
      ≡ first_value facts cell

-- so it is where nothing is known
pub knows_none : (facts : List Fact) (cells : List (Option ℤ))
    → ((cell : ℕ) → slice_index_or cells cell None ≡ None)
    → Knows (length cells) facts facts cells
knows_none facts cells none = record {
  long = refl;
  first = λ cell less. ap (λ o. first_known o (first_value facts cell)) (none cell);
}

-- and after one fact more
pub knows_more : (n : ℕ) (facts last left : List Fact) (f : Fact) (cells new : List (Option ℤ))
    → last ≡ f ∷ left → Knows n facts last cells → length new ≡ length cells
    → ((cell : ℕ) → cell < length cells
    → slice_index_or new cell None ≡ first_known (slice_index_or cells cell None)
    (first_value (f ∷ []) cell))
    → Knows n facts left new
knows_more n facts last left f cells new is knows same values = record {
  long = same ∙ knows.long;
  first = λ cell less.
      let inner : cell < length cells = let long = knows.long in omega arith in
      let own = slice_index_or cells cell None in
      ap (λ o. first_known o (first_value left cell)) (values cell inner)
      ∙ (first_known-assoc own (first_value (f ∷ []) cell) (first_value left cell)
      ∙ (ap (first_known own) (first_value-cons f left cell)
      ∙ (ap (λ l. first_known own (first_value l cell)) (sym is) ∙ knows.first cell less)));
}

-- such a list is that of the known cells
pub knows_all : (n : ℕ) (facts : List Fact) (cells : List (Option ℤ)) → Knows n facts [] cells
    → cells ≡ known_cells n facts
knows_all n facts cells knows =
    let long = length-map-range_with_len (first_value facts) 0 n in
    same_lists cells (known_cells n facts) (knows.long ∙ sym long) (λ k d inside.
    let less : k < n = let same = knows.long in omega arith in
    any_default cells k d inside
    ∙ (sym (first_known-none (get_or cells k None)) ∙ (knows.first k less
    ∙ sym (get_or-map-range_with_len (first_value facts) 0 n k k d less (omega arith)))))
  where
    any_default : (xs : List (Option ℤ)) (k : ℕ) (d : Option ℤ) → k < length xs
        → get_or xs k d ≡ get_or xs k None
    any_default [] k d inside = absurd (omega arith)
    any_default (x ∷ xs) zero d inside = refl
    any_default (x ∷ xs) (suc k) d inside = any_default xs k d (omega arith)

-- the facts of cells with one behind them
pub facts_from-push : (tracked : ℕ → Bool) (n : ℕ) (cells : List (Option ℤ)) (value : Option ℤ)
    (last : ℕ) → n + length cells ≡ last
    → facts_from tracked n (cells ++ value ∷ [])
    ≡ facts_from tracked n cells ++ facts_from (λ _. tracked last) last (value ∷ [])
facts_from-push tracked n [] None last is = refl
facts_from-push tracked n [] (Some v) last is = let here : n ≡ last = omega (arith, is) in
    ap (λ k. cond (tracked k) (Equals k v ∷ []) []) here
facts_from-push tracked n (None ∷ cells) value last is =
    facts_from-push tracked (n + 1) cells value last (omega (arith, is))
facts_from-push tracked n (Some v ∷ cells) value last is =
    by (tracked n) (facts_from-push tracked (n + 1) cells value last (omega (arith, is))) where
      by : (b : Bool)
          → facts_from tracked (n + 1) (cells ++ value ∷ [])
          ≡ facts_from tracked (n + 1) cells ++ facts_from (λ _. tracked last) last (value ∷ [])
          → cond b (Equals n v ∷ facts_from tracked (n + 1) (cells ++ value ∷ []))
          (facts_from tracked (n + 1) (cells ++ value ∷ []))
          ≡ cond b (Equals n v ∷ facts_from tracked (n + 1) cells)
          (facts_from tracked (n + 1) cells)
          ++ facts_from (λ _. tracked last) last (value ∷ [])
      by true later = ap (λ l. Equals n v ∷ l) later
      by false later = later

-- one cell more
pub facts_from-more : (tracked : ℕ → Bool) (cells : List (Option ℤ)) (i : ℕ) (facts new : List Fact)
    → i < length cells
    → facts ≡ facts_from tracked 0 (take i cells)
    → new ≡ facts ++ facts_from (λ _. tracked i) i (get_or cells i None ∷ [])
    → new ≡ facts_from tracked 0 (take (i + 1) cells)
facts_from-more tracked cells i facts new inside was is =
    let long : length (take i cells) ≡ i = length-take-le i cells (omega arith) in
    is
    ∙ (ap (λ l. l ++ facts_from (λ _. tracked i) i (get_or cells i None ∷ [])) was
    ∙ (sym (facts_from-push tracked 0 (take i cells) (get_or cells i None) i (omega (arith, long)))
    ∙ ap (facts_from tracked 0) (sym (take_more cells i None inside))))

-- the facts of values with one behind them
equals_from-push : (n : ℕ) (vs : List ℤ) (v : ℤ) (last : ℕ) → n + length vs ≡ last
    → equals_from n (vs ++ v ∷ []) ≡ equals_from n vs ++ Equals last v ∷ []
equals_from-push n [] v last is = let here : n ≡ last = omega (arith, is) in
    ap (λ k. Equals k v ∷ []) here
equals_from-push n (x ∷ vs) v last is =
    ap (λ l. Equals n x ∷ l) (equals_from-push (n + 1) vs v last (omega (arith, is)))

map_push : (cs : List Cell) (c : Cell)
    → map (λ (x : Cell). x.start) (cs ++ c ∷ []) ≡ map (λ (x : Cell). x.start) cs ++ c.start ∷ []
map_push [] c = refl
map_push (x ∷ cs) c = ap (λ l. x.start ∷ l) (map_push cs c)

map_length : (cs : List Cell) → length (map (λ (x : Cell). x.start) cs) ≡ length cs
map_length [] = refl
map_length (x ∷ cs) = ap suc (map_length cs)

-- the starts with one more
pub starts_more : (cs : List Cell) (i : ℕ) (c : Cell) (facts new : List Fact) → i < length cs
    → slice_get cs i ≡ Some c
    → facts ≡ equals_from 0 (map (λ (x : Cell). x.start) (take i cs))
    → new ≡ facts ++ Equals i c.start ∷ []
    → new ≡ equals_from 0 (map (λ (x : Cell). x.start) (take (i + 1) cs))
starts_more cs i c facts new inside found was is =
    let at : c ≡ get_or cs i c = sym (get_or_from_slice_get cs i c c found) in
    let before = map (λ (x : Cell). x.start) (take i cs) in
    let long : length before ≡ i = map_length (take i cs) ∙ length-take-le i cs (omega arith) in
    is
    ∙ (ap (λ l. l ++ Equals i c.start ∷ []) was
    ∙ (sym (equals_from-push 0 before c.start i (omega (arith, long)))
    ∙ ap (equals_from 0) (sym (map_push (take i cs) c)
    ∙ ap (map (λ (x : Cell). x.start))
    (ap (λ x. take i cs ++ x ∷ []) at ∙ sym (take_more cs i c inside)))))
