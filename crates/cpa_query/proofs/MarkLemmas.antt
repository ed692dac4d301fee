-- Marks of the cells that expressions read.
use Rattle.std.proofs.Common.{◌≡◌, ℕ, ◌+◌, Bool, true, false, ◌&&◌, ◌||◌, List, [], ◌∷◌, refl}
use Rattle.std.proofs.Common.{sym, ap, ◌∙◌, arith, ◌<◌, take, get_or, add-zero, zero-add}
use Rattle.std.proofs.lemmas.Bool.{lt-ltb}
use Rattle.std.proofs.lemmas.List.Folds.{list_any_more}
use Rattle.std.specs.Prelude.{zero, suc, length, nat_lt, replicate, map}
use Rattle.std.specs.List.{list_any, range_with_len}
use Rattle.cpa_expr.specs.declared.tree.Expr.{Expr, out-Expr}
use Rattle.cpa_expr.specs.declared.tree.Expr.TheOpen.{Expr-F}
use Rattle.cpa_expr.specs.declared.tree.Expr.TheFolds.{map-Expr}
use Rattle.cpa_expr.specs.declared.tree.Expr.TheViews.{roll-out-Expr}
use Rattle.cpa_expr.specs.Cells.{reads_here, reads_step, may_read}
use Rattle.cpa_expr.specs.Shape.{parts}
use Rattle.cpa_expr.specs.lemmas.Layers.{reads_rolled}
use Rattle.cpa_query.specs.Queries.{is_marked, wanted_reads}

-- what a node reads, by itself and by its parts
reads_at : (cell : ℕ) (x : Expr-F Expr)
    → reads_step cell (map-Expr Expr Bool (λ e. may_read e cell) x)
    ≡ (reads_here cell x || list_any (λ part. may_read part cell) (parts x))
reads_at cell (Expr-F.Const t n) = refl
reads_at cell (Expr-F.Read t base len index) = refl
reads_at cell (Expr-F.Un o t arg) = refl
reads_at cell (Expr-F.Bin o t left right) = refl
reads_at cell (Expr-F.Cmp o t left right) = refl
reads_at cell (Expr-F.Cast t arg) = refl
reads_at cell (Expr-F.And left right) = refl
reads_at cell (Expr-F.Or left right) = refl
reads_at cell (Expr-F.Not arg) = refl
reads_at cell (Expr-F.Cond t test first second) = refl

reads_parts : (cell : ℕ) (e : Expr)
    → may_read e cell ≡ (reads_here cell (out-Expr e)
    || list_any (λ part. may_read part cell) (parts (out-Expr e)))
reads_parts cell e =
    ap (λ x. may_read x cell) (sym (roll-out-Expr e))
    ∙ (reads_rolled cell (out-Expr e) ∙ reads_at cell (out-Expr e))

pub both_marks : (old here below less : Bool)
    → ((old || (here && less)) || (below && less)) ≡ (old || ((here || below) && less))
both_marks true here below less = refl
both_marks false true true less = by less where
  by : (b : Bool) → (b || b) ≡ b
  by true = refl
  by false = refl
both_marks false true false less = by less where
  by : (b : Bool) → (b || false) ≡ b
  by true = refl
  by false = refl
both_marks false false below less = refl

-- the cells of a node are those that it reads itself, and those of its parts
pub node_and_parts : (e : Expr) (old mid new : List Bool) (cell : ℕ) → length mid ≡ length old
    → is_marked mid cell ≡ (is_marked old cell
    || (reads_here cell (out-Expr e) && nat_lt cell (length old)))
    → is_marked new cell ≡ (is_marked mid cell
    || (list_any (λ part. may_read part cell) (parts (out-Expr e)) && nat_lt cell (length mid)))
    → is_marked new cell ≡ (is_marked old cell || (may_read e cell && nat_lt cell (length old)))
node_and_parts e old mid new cell long first second =
    let here = reads_here cell (out-Expr e) in
    let below = list_any (λ part. may_read part cell) (parts (out-Expr e)) in
    let less = nat_lt cell (length old) in
    second
    ∙ (ap (λ n. is_marked mid cell || (below && nat_lt cell n)) long
    ∙ (ap (λ b. b || (below && less)) first
    ∙ (both_marks (is_marked old cell) here below less
    ∙ ap (λ b. is_marked old cell || (b && less)) (sym (reads_parts cell e)))))

-- no mark is set at first
pub none_marked : (n cell : ℕ) → is_marked (replicate n false) cell ≡ false
none_marked zero cell = refl
none_marked (suc n) zero = refl
none_marked (suc n) (suc cell) = none_marked n cell

-- the marks of one more expression
pub one_more : (wanted : List (Expr × Bool)) (i : ℕ) (one : Expr × Bool) (first old new : List Bool)
    (cell : ℕ) → i < length wanted → one ≡ get_or wanted i one → length old ≡ length first
    → is_marked old cell ≡ (is_marked first cell
    || (wanted_reads (take i wanted) cell && nat_lt cell (length first)))
    → is_marked new cell ≡ (is_marked old cell || (may_read one.0 cell && nat_lt cell (length old)))
    → is_marked new cell ≡ (is_marked first cell
    || (wanted_reads (take (i + 1) wanted) cell && nat_lt cell (length first)))
one_more wanted i one first old new cell inside at long before is =
    let less = nat_lt cell (length first) in
    is
    ∙ ap (λ n. is_marked old cell || (may_read one.0 cell && nat_lt cell n)) long
    ∙ ap (λ b. b || (may_read one.0 cell && less)) before
    ∙ both_marks (is_marked first cell) (wanted_reads (take i wanted) cell) (may_read one.0 cell)
    less
    ∙ ap (λ b. is_marked first cell || (b && less))
    (ap (λ (e : Expr × Bool). wanted_reads (take i wanted) cell || may_read e.0 cell) at
    ∙ sym (list_any_more (λ (e : Expr × Bool). may_read e.0 cell) wanted i one inside))

-- a list of marks is the list of what each of them is
marks_from : (f : ℕ → Bool) (a : ℕ) (marks : List Bool)
    → ((cell : ℕ) → cell < length marks → is_marked marks cell ≡ f (a + cell))
    → marks ≡ map f (range_with_len a (length marks))
marks_from f a [] is = refl
marks_from f a (m ∷ marks) is =
    ap (λ b. b ∷ marks) (is 0 (omega arith) ∙ ap f (add-zero a))
    ∙ ap (λ bs. f a ∷ bs) (marks_from f (a + 1) marks
    (λ cell inside. is (suc cell) (omega (arith, inside)) ∙ ap f (later a cell)))
  where
    later : (a cell : ℕ) → a + suc cell ≡ (a + 1) + cell
    later a cell = omega arith

pub marks_are : (f : ℕ → Bool) (n : ℕ) (first marks : List Bool) → length first ≡ n
    → length marks ≡ length first → ((cell : ℕ) → is_marked first cell ≡ false)
    → ((cell : ℕ) → is_marked marks cell ≡ (is_marked first cell
    || (f cell && nat_lt cell (length first))))
    → marks ≡ map f (range_with_len 0 n)
marks_are f n first marks is_n long none is =
    marks_from f 0 marks (λ cell inside.
    is cell ∙ ap (λ b. b || (f cell && nat_lt cell (length first))) (none cell)
    ∙ ap (λ b. f cell && b) (lt-ltb cell (length first) (omega (arith, inside, long)))
    ∙ and_true (f cell) ∙ ap f (sym (zero-add cell)))
    ∙ ap (λ k. map f (range_with_len 0 k)) (long ∙ is_n)
  where
    and_true : (b : Bool) → (b && true) ≡ b
    and_true true = refl
    and_true false = refl
