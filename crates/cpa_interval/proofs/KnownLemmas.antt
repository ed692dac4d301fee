-- The facts of a table of known bounds, which are those of all its cells.
use Rattle.std.proofs.Common.{◌≡◌, ℕ, ◌+◌, ◌<◌, ◌≤◌, Bool, true, false, List, [], ◌∷◌, ◌++◌}
use Rattle.std.proofs.Common.{refl, sym, ap, ◌∙◌, subst, arith, cond, length, drop, append-nil}
use Rattle.std.specs.Prelude.{zero, suc, not, Option, None, Some, slice_get, slice_set, map}
use Rattle.std.proofs.lemmas.List.{append_assoc, drop-set-lt}
use Rattle.cpa_ints.specs.declared.integers.IntType.{IntType}
use Rattle.cpa_model.specs.declared.program.Cell.{Cell}
use Rattle.cpa_facts.specs.declared.fact.Fact.{Fact}
use Rattle.cpa_facts.specs.declared.fact.Fact.TheVariants.{Within}
use Rattle.cpa_model.specs.declared.facts.Elem.{Elem}
use Rattle.cpa_interval_bounds.specs.declared.bounds.Bounds.{Bounds}
use Rattle.cpa_interval_bounds.specs.declared.table.CellBounds.{CellBounds}
use Rattle.cpa_interval_bounds.specs.Bounds.{range_of, only}
use Rattle.cpa_interval_bounds.specs.Tables.{ranges_of, known_bounds, are_descending}
use Rattle.cpa_interval_bounds.specs.lemmas.TableLemmas.{heads, known_length}
use Rattle.cpa_interval.specs.Cells.{fact_of, facts_from}
use Rattle.cpa_interval.specs.Intervals.{starts_of}
use Rattle.cpa_interval.proofs.ElemLemmas.{whole_range}
use Rattle.cpa_interval.proofs.LoopLemmas.{drop_at, drop_end}

-- ---- the facts that are listed

abbrev fact_at : Bool → CellBounds → Option Cell → List Fact
fact_at is_kept k None = []
fact_at is_kept k (Some c) = fact_of is_kept k.cell c.ty k.own

-- those of the cells from the last on, in the order of the cells
abbrev pub said : (ℕ → Bool) → List Cell → List CellBounds → List Fact
said kept cells [] = []
said kept cells (k ∷ ks) = said kept cells ks ++ fact_at (kept k.cell) k (slice_get cells k.cell)

-- all numbers of a type are no fact
no_fact : (b : Bool) (n : ℕ) (t : IntType) → fact_of b n t (range_of t) ≡ []
no_fact true n t =
    ap (λ x. cond (not x) (Within n (range_of t).lo (range_of t).hi ∷ []) []) (whole_range t)
no_fact false n t = refl

no_facts : (kept : ℕ → Bool) (n : ℕ) (cs : List Cell) → facts_from kept n cs (ranges_of cs) ≡ []
no_facts kept n [] = refl
no_facts kept n (c ∷ cs) =
    ap (λ l. l ++ facts_from kept (n + 1) cs (ranges_of cs)) (no_fact (kept n) n c.ty)
    ∙ no_facts kept (n + 1) cs

-- the bounds of a cell behind which none are known
set_end : (kept : ℕ → Bool) (n : ℕ) (cs : List Cell) (bs : List Bounds) (k : ℕ) (own : Bounds)
    (c : Cell) → slice_get cs k ≡ Some c → drop k bs ≡ drop k (ranges_of cs)
    → length bs ≡ length cs
    → facts_from kept n cs (slice_set bs k own)
    ≡ facts_from kept n cs bs ++ fact_of (kept (n + k)) (n + k) c.ty own
set_end kept n [] bs k own c at same long = absurd (cc)
set_end kept n (x ∷ cs) [] k own c at same long = absurd (cc)
set_end kept n (x ∷ cs) (b ∷ bs) zero own c at same long =
    let it : x ≡ c = cc in
    let rest : bs ≡ ranges_of cs = cc in
    let number : n + 0 ≡ n = omega arith in
    ap (λ l. fact_of (kept n) n x.ty own ++ facts_from kept (n + 1) cs l) rest
    ∙ (ap (λ l. fact_of (kept n) n x.ty own ++ l) (no_facts kept (n + 1) cs)
    ∙ (append-nil (fact_of (kept n) n x.ty own)
    ∙ (ap (λ (y : Cell). fact_of (kept n) n y.ty own) it
    ∙ (sym (ap (λ m. fact_of (kept m) m c.ty own) number)
    ∙ sym (ap (λ l. l ++ fact_of (kept (n + 0)) (n + 0) c.ty own)
    (ap (facts_from kept n (x ∷ cs)) same ∙ no_facts kept n (x ∷ cs)))))))
set_end kept n (x ∷ cs) (b ∷ bs) (suc k) own c at same long =
    let number : n + 1 + k ≡ n + suc k = omega arith in
    ap (λ l. fact_of (kept n) n x.ty b ++ l)
    (set_end kept (n + 1) cs bs k own c at same (omega (arith, long))
    ∙ ap (λ m. facts_from kept (n + 1) cs bs ++ fact_of (kept m) m c.ty own) number)
    ∙ sym (append_assoc (fact_of (kept n) n x.ty b) (facts_from kept (n + 1) cs bs)
    (fact_of (kept (n + suc k)) (n + suc k) c.ty own))

drop_known : (n j : ℕ) (cells : List Cell) (ks : List CellBounds) → are_descending n ks ≡ true
    → n ≤ j → drop j (known_bounds cells ks) ≡ drop j (ranges_of cells)
drop_known n j cells [] is past = refl
drop_known n j cells (k ∷ ks) is past =
    let h = heads n k ks is in
    let below = h.below in
    drop-set-lt j (known_bounds cells ks) k.cell k.own (omega (arith, below, past))
    ∙ drop_known k.cell j cells ks h.rest (omega (arith, below, past))

there : (cs : List Cell) (k : ℕ) → k < length cs → slice_get cs k ≡ None → ⊥
there [] k less none = absurd (omega (arith, less))
there (c ∷ cs) zero less none = absurd (cc)
there (c ∷ cs) (suc k) less none = there cs k (omega (arith, less)) none

-- the facts of all cells are those that are listed
pub said_is : (m : ℕ) (kept : ℕ → Bool) (cells : List Cell) (ks : List CellBounds)
    → are_descending m ks ≡ true → m ≤ length cells
    → facts_from kept 0 cells (known_bounds cells ks) ≡ said kept cells ks
said_is m kept cells [] is within = no_facts kept 0 cells
said_is m kept cells (k ∷ ks) is within =
    let h = heads m k ks is in
    let below = h.below in
    let inside : k.cell < length cells = omega (arith, below, within) in
    by (slice_get cells k.cell) refl inside h.rest
    (said_is k.cell kept cells ks h.rest (omega (arith, inside))) where
      by : (o : Option Cell) → slice_get cells k.cell ≡ o → k.cell < length cells
          → are_descending k.cell ks ≡ true
          → facts_from kept 0 cells (known_bounds cells ks) ≡ said kept cells ks
          → facts_from kept 0 cells (slice_set (known_bounds cells ks) k.cell k.own)
          ≡ said kept cells ks ++ fact_at (kept k.cell) k o
      by None at inside order rest = absurd (there cells k.cell inside at)
      by (Some c) at inside order rest =
          let number : 0 + k.cell ≡ k.cell = omega arith in
          set_end kept 0 cells (known_bounds cells ks) k.cell k.own c at
          (drop_known k.cell k.cell cells ks order (omega arith)) (known_length cells ks)
          ∙ (ap (λ l. l ++ fact_of (kept (0 + k.cell)) (0 + k.cell) c.ty k.own) rest
          ∙ ap (λ j. said kept cells ks ++ fact_of (kept j) j c.ty k.own) number)

-- ---- the loops

-- a listed cell is there
pub known_inside : (n i : ℕ) (ks : List CellBounds) (k : CellBounds) → are_descending n ks ≡ true
    → slice_get ks i ≡ Some k → k.cell < n
known_inside n i [] k is at = absurd (cc)
known_inside n zero (x ∷ ks) k is at =
    let same : x ≡ k = cc in
    subst (λ (y : CellBounds). y.cell < n) same (heads n x ks is).below
known_inside n (suc i) (x ∷ ks) k is at =
    let below = (heads n x ks is).below in
    let less = known_inside x.cell i ks k (heads n x ks is).rest at in
    omega (arith, below, less)

-- the facts that are said from this place on
pub record Says (kept : ℕ → Bool) (cells : List Cell) (known : List CellBounds) (place : ℕ)
    (first facts : List Fact) : Type 0 where
  pub within : place ≤ length known
  pub says : facts ≡ first ++ said kept cells (drop place known)

-- one cell before them
pub says_more : (kept : ℕ → Bool) (cells : List Cell) (known : List CellBounds) (place : ℕ)
    (first facts new : List Fact) (it : CellBounds) (c : Cell) (b : Bool) (before : ℕ)
    → place ≡ before + 1 → slice_get known before ≡ Some it → slice_get cells it.cell ≡ Some c
    → b ≡ kept it.cell → new ≡ facts ++ fact_of b it.cell c.ty it.own
    → Says kept cells known place first facts → Says kept cells known before first new
says_more kept cells known place first facts new it c b before next at there same is was = record {
  within = let within = was.within in omega (arith, within, next);
  says =
      let rest = said kept cells (drop (before + 1) known) in
      is
      ∙ (ap (λ x. facts ++ fact_of x it.cell c.ty it.own) same
      ∙ (ap (λ l. l ++ fact_of (kept it.cell) it.cell c.ty it.own)
      (was.says ∙ ap (λ p. first ++ said kept cells (drop p known)) next)
      ∙ (append_assoc first rest (fact_of (kept it.cell) it.cell c.ty it.own)
      ∙ (ap (λ o. first ++ (rest ++ fact_at (kept it.cell) it o)) (sym there)
      ∙ ap (λ l. first ++ said kept cells l) (sym (drop_at known before it at))))));
}

-- and no more
pub says_all : (kept : ℕ → Bool) (cells : List Cell) (known : List CellBounds) (place : ℕ)
    (first facts : List Fact) → are_descending (length cells) known ≡ true → place ≡ 0
    → Says kept cells known place first facts
    → facts ≡ first ++ facts_from kept 0 cells (known_bounds cells known)
says_all kept cells known place first facts is none was =
    was.says
    ∙ (ap (λ p. first ++ said kept cells (drop p known)) none
    ∙ ap (λ l. first ++ l) (sym (said_is (length cells) kept cells known is (omega arith))))

-- the start of one cell more
pub starts_more : (cs : List Cell) (i : ℕ) (c : Cell) (facts new whole : List Fact)
    → slice_get cs i ≡ Some c
    → facts ++ facts_from (λ _. true) i (drop i cs) (map (λ (x : Cell). only x.start) (drop i cs))
    ≡ whole
    → new ≡ facts ++ fact_of true i c.ty (only c.start)
    → new ++ facts_from (λ _. true) (i + 1) (drop (i + 1) cs)
    (map (λ (x : Cell). only x.start) (drop (i + 1) cs)) ≡ whole
starts_more cs i c facts new whole at was is =
    let own = fact_of true i c.ty (only c.start) in
    let rest = facts_from (λ _. true) (i + 1) (drop (i + 1) cs)
    (map (λ (x : Cell). only x.start) (drop (i + 1) cs)) in
    ap (λ l. l ++ rest) is
    ∙ (append_assoc facts own rest
    ∙ (ap (λ (l : List Cell). facts
    ++ facts_from (λ _. true) i l (map (λ (x : Cell). only x.start) l)) (sym (drop_at cs i c at))
    ∙ was))

-- and no more
pub starts_end : (cs : List Cell) (i : ℕ) (facts whole : List Fact) → length cs ≤ i
    → facts ++ facts_from (λ _. true) i (drop i cs) (map (λ (x : Cell). only x.start) (drop i cs))
    ≡ whole
    → facts ≡ whole
starts_end cs i facts whole past was =
    sym (append-nil facts)
    ∙ (ap (λ (l : List Cell). facts
    ++ facts_from (λ _. true) i l (map (λ (x : Cell). only x.start) l)) (sym (drop_end cs i past))
    ∙ was)

-- the element that is made of them
pub starts_made : (cs : List Cell) (facts : List Fact) (e : Elem)
    → facts ≡ facts_from (λ _. true) 0 cs (map (λ (x : Cell). only x.start) cs) → e.facts ≡ facts
    → e ≡ starts_of cs
starts_made cs facts e is made =
    ap (λ (fs : List Fact). let e : Elem = record { facts = fs } in e) (made ∙ is)
