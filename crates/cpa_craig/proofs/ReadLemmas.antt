-- An expression reads a cell exactly where it may read some cell of the program.
use Rattle.std.proofs.Common.{◌≡◌, ℕ, ◌+◌, ◌<◌, nat_lt, Bool, true, false, ◌||◌, List, [], ◌∷◌, map}
use Rattle.std.proofs.Common.{◌++◌, refl, sym, ap, ◌∙◌, arith, length, get_or, take, append-nil}
use Rattle.std.specs.List.{AllByRecursion, list_any, filter}
use Rattle.std.specs.Prelude.{nat_le, ◌&&◌, if◌then◌else◌}
use Rattle.std.proofs.lemmas.Bool.{or_left, or_right, and_parts, leb-true, ltb-true, le-leb, lt-ltb}
use Rattle.std.proofs.lemmas.List.{length-map, take_more}
use Rattle.std.proofs.lemmas.List.Elements.{filter-append}
use Rattle.cpa_expr.specs.declared.tree.Expr.{Expr, roll-Expr}
use Rattle.cpa_expr.specs.declared.tree.Expr.TheOpen.{Expr-F}
use Rattle.cpa_expr.specs.declared.tree.Expr.TheFolds.{map-Expr, fold-roll-Expr}
use Rattle.cpa_expr.specs.Cells.{is_within, reads_here, reads_step, may_read}
use Rattle.cpa_expr.specs.Shape.{parts, OfParts}
use Rattle.cpa_expr.specs.lemmas.Parts.{by_parts, parts_mapped}
use Rattle.cpa_model.specs.declared.program.Cell.{Cell}
use Rattle.cpa_model.specs.Expressions.{types_of, IsExpr}
use Rattle.cpa_form_renaming.specs.Laws.{cells_behind_change_nothing}
use Rattle.cpa_folds.specs.Carried.{is_read, reads_some}

-- ---- tests of the parts of a node

any_mapped : (f : Expr → Bool) (ps : List Expr)
    → list_any (λ (b : Bool). b) (map f ps) ≡ list_any f ps
any_mapped f [] = refl
any_mapped f (p ∷ ps) = ap (λ b. f p || b) (any_mapped f ps)

any_at : (f : Expr → Bool) (x : Expr-F Expr)
    → list_any (λ (b : Bool). b) (parts (map-Expr Expr Bool f x)) ≡ list_any f (parts x)
any_at f x = ap (list_any (λ (b : Bool). b)) (parts_mapped Bool f x) ∙ any_mapped f (parts x)

any_from : (f g : Expr → Bool) (ps : List Expr)
    → AllByRecursion (λ p. f p ≡ true → g p ≡ true) ps → list_any f ps ≡ true
    → list_any g ps ≡ true
any_from f g [] all h = absurd (cc)
any_from f g (p ∷ ps) all h = by (f p) refl h (any_from f g ps all.1)
  where
    by : (b : Bool) → f p ≡ b → (b || list_any f ps) ≡ true
        → (list_any f ps ≡ true → list_any g ps ≡ true) → (g p || list_any g ps) ≡ true
    by true is h rest = or_left (g p) (list_any g ps) (all.0 is)
    by false is h rest = or_right (g p) (list_any g ps) (rest h)

-- ---- at a node

some_rolled : (x : Expr-F Expr)
    → reads_some (roll-Expr x)
    ≡ (is_read (map-Expr Expr Bool reads_some x) || list_any reads_some (parts x))
some_rolled x =
    fold-roll-Expr Bool (λ node. is_read node || list_any (λ reads. reads) (parts node)) x
    ∙ ap (λ b. is_read (map-Expr Expr Bool reads_some x) || b) (any_at reads_some x)

one_rolled : (cell : ℕ) (x : Expr-F Expr)
    → may_read (roll-Expr x) cell
    ≡ (reads_here cell (map-Expr Expr Bool (λ e. may_read e cell) x)
    || list_any (λ e. may_read e cell) (parts x))
one_rolled cell x =
    fold-roll-Expr Bool (reads_step cell) x
    ∙ ap (λ b. reads_here cell (map-Expr Expr Bool (λ e. may_read e cell) x) || b)
    (any_at (λ e. may_read e cell) x)

-- cells from a number on, one of which is there
within_some : (base len cell : ℕ) → is_within base len cell ≡ true → nat_lt 0 len ≡ true
within_some base len cell h =
    let both = and_parts (nat_le base cell) (nat_lt cell (base + len)) h in
    let low = leb-true base cell both.0 in
    let high = ltb-true cell (base + len) both.1 in
    lt-ltb 0 len (omega (arith, low, high))

some_within : (base len : ℕ) → nat_lt 0 len ≡ true → is_within base len base ≡ true
some_within base len h =
    let some = ltb-true 0 len h in
    both_true (nat_le base base) (nat_lt base (base + len)) (le-leb base base (omega arith))
    (lt-ltb base (base + len) (omega (arith, some)))
  where
    both_true : (a b : Bool) → a ≡ true → b ≡ true → (a && b) ≡ true
    both_true true b first second = second
    both_true false b first second = absurd (cc)

-- a node that reads a cell is a read of some cells
here_read : (cell : ℕ) (x : Expr-F Expr)
    → reads_here cell (map-Expr Expr Bool (λ e. may_read e cell) x) ≡ true
    → is_read (map-Expr Expr Bool reads_some x) ≡ true
here_read cell (Expr-F.Read t base len index) h =
    within_some base len cell h
here_read cell (Expr-F.Const t n) h = absurd (cc)
here_read cell (Expr-F.Un o t arg) h = absurd (cc)
here_read cell (Expr-F.Bin o t left right) h = absurd (cc)
here_read cell (Expr-F.Cmp o t left right) h = absurd (cc)
here_read cell (Expr-F.Cast t arg) h = absurd (cc)
here_read cell (Expr-F.And left right) h = absurd (cc)
here_read cell (Expr-F.Or left right) h = absurd (cc)
here_read cell (Expr-F.Not arg) h = absurd (cc)
here_read cell (Expr-F.Cond t test first second) h = absurd (cc)

-- and the other way round
read_here : (x : Expr-F Expr) → is_read (map-Expr Expr Bool reads_some x) ≡ true
    → (cell : ℕ) × (reads_here cell (map-Expr Expr Bool (λ e. may_read e cell) x) ≡ true)
read_here (Expr-F.Read t base len index) h =
    (base, some_within base len h)
read_here (Expr-F.Const t n) h = absurd (cc)
read_here (Expr-F.Un o t arg) h = absurd (cc)
read_here (Expr-F.Bin o t left right) h = absurd (cc)
read_here (Expr-F.Cmp o t left right) h = absurd (cc)
read_here (Expr-F.Cast t arg) h = absurd (cc)
read_here (Expr-F.And left right) h = absurd (cc)
read_here (Expr-F.Or left right) h = absurd (cc)
read_here (Expr-F.Not arg) h = absurd (cc)
read_here (Expr-F.Cond t test first second) h = absurd (cc)

-- ---- at every node

-- what may read a cell reads some cell
abbrev ReadsSome : ℕ → Expr → Type 0
ReadsSome cell e = may_read e cell ≡ true → reads_some e ≡ true

some_layer : (cell : ℕ) (x : Expr-F Expr) → OfParts (ReadsSome cell) x
    → ReadsSome cell (roll-Expr x)
some_layer cell x all h =
    some_rolled x
    ∙ by (reads_here cell (map-Expr Expr Bool (λ e. may_read e cell) x)) refl
    (sym (one_rolled cell x) ∙ h)
  where
    by : (b : Bool) → reads_here cell (map-Expr Expr Bool (λ e. may_read e cell) x) ≡ b
        → (b || list_any (λ e. may_read e cell) (parts x)) ≡ true
        → (is_read (map-Expr Expr Bool reads_some x) || list_any reads_some (parts x)) ≡ true
    by true is k =
        or_left (is_read (map-Expr Expr Bool reads_some x)) (list_any reads_some (parts x))
        (here_read cell x is)
    by false is k =
        or_right (is_read (map-Expr Expr Bool reads_some x)) (list_any reads_some (parts x))
        (any_from (λ e. may_read e cell) reads_some (parts x) all k)

pub some_read : (e : Expr) (cell : ℕ) → may_read e cell ≡ true → reads_some e ≡ true
some_read e cell = by_parts (ReadsSome cell) (some_layer cell) e

-- what reads some cell may read one
abbrev ReadsOne : Expr → Type 0
ReadsOne e = reads_some e ≡ true → (cell : ℕ) × (may_read e cell ≡ true)

any_one : (ps : List Expr) → AllByRecursion ReadsOne ps → list_any reads_some ps ≡ true
    → (cell : ℕ) × (list_any (λ e. may_read e cell) ps ≡ true)
any_one [] all h = absurd (cc)
any_one (p ∷ ps) all h = by (reads_some p) refl h (any_one ps all.1)
  where
    by : (b : Bool) → reads_some p ≡ b → (b || list_any reads_some ps) ≡ true
        → (list_any reads_some ps ≡ true
        → (cell : ℕ) × (list_any (λ e. may_read e cell) ps ≡ true))
        → (cell : ℕ) × ((may_read p cell || list_any (λ e. may_read e cell) ps) ≡ true)
    by true is k rest =
        let (cell, one) = all.0 is in
        (cell, or_left (may_read p cell) (list_any (λ e. may_read e cell) ps) one)
    by false is k rest =
        let (cell, one) = rest k in
        (cell, or_right (may_read p cell) (list_any (λ e. may_read e cell) ps) one)

one_layer : (x : Expr-F Expr) → OfParts ReadsOne x → ReadsOne (roll-Expr x)
one_layer x all h =
    by (is_read (map-Expr Expr Bool reads_some x)) refl (sym (some_rolled x) ∙ h)
  where
    by : (b : Bool) → is_read (map-Expr Expr Bool reads_some x) ≡ b
        → (b || list_any reads_some (parts x)) ≡ true
        → (cell : ℕ) × (may_read (roll-Expr x) cell ≡ true)
    by true is k =
        let (cell, here) = read_here x is in (
          cell,
          one_rolled cell x
              ∙ or_left (reads_here cell (map-Expr Expr Bool (λ e. may_read e cell) x))
              (list_any (λ e. may_read e cell) (parts x)) here,
        )
    by false is k =
        let (cell, one) = any_one (parts x) all k in (
          cell,
          one_rolled cell x
              ∙ or_right (reads_here cell (map-Expr Expr Bool (λ e. may_read e cell) x))
              (list_any (λ e. may_read e cell) (parts x)) one,
        )

-- ---- over the cells of a program

-- a well-typed expression that reads some cell may read one of the program's
pub one_read : (cells : List Cell) (e : Expr) → IsExpr cells e → reads_some e ≡ true
    → (cell : ℕ) × (cell < length cells) × (may_read e cell ≡ true)
one_read cells e is h =
    let (cell, reads) = by_parts ReadsOne one_layer e h in
    let long = length-map cells (λ (c : Cell). c.ty) in
    let inside = cells_behind_change_nothing.inside (types_of cells) cell e is.typed reads in
    (cell, omega (arith, long, inside), reads)

-- so one that may read none of them reads no cell
pub none_read : (cells : List Cell) (e : Expr) → IsExpr cells e
    → ((cell : ℕ) → cell < length cells → may_read e cell ≡ false) → reads_some e ≡ false
none_read cells e is none = by (reads_some e) refl
  where
    by : (b : Bool) → reads_some e ≡ b → b ≡ false
    by false h = refl
    by true h =
        let (cell, inside, reads) = one_read cells e is h in
        let not = none cell inside in absurd (cc)

-- ---- one expression more

kept_one : (b : Bool) (e : Expr) (read : List Expr)
    → (if b then read ++ e ∷ [] else read) ≡ read ++ (if b then e ∷ [] else [])
kept_one true e read = refl
kept_one false e read = sym (append-nil read)

pub kept_more : (es read new : List Expr) (i : ℕ) (e : Expr) → i < length es → e ≡ get_or es i e
    → read ≡ filter reads_some (take i es)
    → new ≡ (if reads_some e then read ++ e ∷ [] else read)
    → new ≡ filter reads_some (take (i + 1) es)
kept_more es read new i e here item is pushed =
    pushed ∙ kept_one (reads_some e) e read
    ∙ ap (λ (l : List Expr). l ++ filter reads_some (e ∷ [])) is
    ∙ sym (filter-append reads_some (take i es) (e ∷ []))
    ∙ ap (filter reads_some)
    (ap (λ x. take i es ++ x ∷ []) item ∙ sym (take_more es i e here))
