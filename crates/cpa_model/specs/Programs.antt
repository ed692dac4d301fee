-- Programs of core statements (this project's own): their trees, where control goes after a
-- statement, and which are well formed.
use Rattle.std.specs.Prelude.{◌≡◌, ◌≢◌, ℕ, ◌+◌, ◌<◌, ◌≤◌, List, [], ◌∷◌, map, Option, Some, None}
use Rattle.std.specs.Prelude.{length, slice_get, Bool, true, false, ◌==◌, if◌then◌else◌, ⊤}
use Rattle.std.specs.List.{AllByRecursion}
use Rattle.cpa_model.specs.declared.program.Stmt.{Stmt}
use Rattle.cpa_model.specs.declared.program.Stmt.TheVariants as stmt
use Rattle.cpa_model.specs.declared.program.Program.{Program}
use Rattle.cpa_model.specs.declared.program.Successor.{Successor}
use Rattle.cpa_model.specs.declared.program.Successor.TheVariants.{GoesTo, AfterWhole}
use Rattle.cpa_model.specs.declared.program.TheConstants.{MAX_CELLS, MAX_POINTS}
use Rattle.cpa_ints.specs.Integers.{IsInRange}
use Rattle.cpa_expr.specs.Shape.{type_of, AreCells}
use Rattle.cpa_model.specs.Expressions.{types_of, IsExpr}

-- the statement of this number is this one (programs, numbers and trees are this project's own)
abbrev pub IsStmt : Program → ℕ → Stmt → Type 0
IsStmt P n s = slice_get P.stmts n ≡ Some s

-- how many points of control there are: the statements, and an exit for each function
abbrev pub point_count : Program → ℕ
point_count P = length P.stmts + length P.bodies

-- the exit of a function
abbrev pub exit_of : Program → ℕ → ℕ
exit_of P f = length P.stmts + f

-- the statement is the body of the function
abbrev pub IsBody : Program → ℕ → ℕ → Type 0
IsBody P f n = slice_get P.bodies f ≡ Some n

-- what follows where these items are left: the first of them, or what follows the whole
abbrev pub first_of : List ℕ → Successor
first_of [] = AfterWhole
first_of (item ∷ items) = GoesTo item

-- each item of a block with what follows it: the next item, and after the last what follows the
-- block
abbrev pub after_items : List ℕ → List (ℕ × Successor)
after_items [] = []
after_items (item ∷ items) = (item, first_of items) ∷ after_items items

-- The parts of the statement s of number n, in order, each with what follows it (C11 6.8): an item
-- of a block; a branch, after which comes what follows the whole; a loop's body, after which comes
-- its step, and its step, after which comes the loop.
abbrev pub after_parts : ℕ → Stmt → List (ℕ × Successor)
after_parts n (stmt.Block items) = after_items items
after_parts n (stmt.If test first second) = (first, AfterWhole) ∷ (second, AfterWhole) ∷ []
after_parts n (stmt.Loop body step) = (body, GoesTo step) ∷ (step, GoesTo n) ∷ []
after_parts n (stmt.Assign base len index value) = []
after_parts n (stmt.Input cell) = []
after_parts n (stmt.Call function) = []
after_parts n (stmt.Goto to) = []
after_parts n stmt.Break = []
after_parts n stmt.Continue = []
after_parts n stmt.Leave = []
after_parts n stmt.Stop = []
after_parts n stmt.Error = []

abbrev pub firsts : List (ℕ × Successor) → List ℕ
firsts = map (λ part. part.0)

-- what stands beside the first part that is c, if there is one
abbrev pub look_up : ℕ → List (ℕ × Successor) → Option Successor
look_up c [] = None
look_up c (part ∷ parts) = if part.0 == c then Some part.1 else look_up c parts

-- the parts of a statement, in order, whatever its number
abbrev pub parts_of : Stmt → List ℕ
parts_of s = firsts (after_parts 0 s)

-- where control goes after the item c of a block, and after the part c of the statement s of number
-- n
abbrev pub after_item : List ℕ → ℕ → Option Successor
after_item items c = look_up c (after_items items)

abbrev pub after_part : ℕ → Stmt → ℕ → Option Successor
after_part n s c = look_up c (after_parts n s)

-- c is a part of the statement b
pub record IsPart (P : Program) (b c : ℕ) : Type 0 where
  pub stmt : Stmt
  pub is : IsStmt P b stmt
  pub place : Successor
  pub part : after_part b stmt c ≡ Some place

-- Next P n m: control goes to m after the statement n. Found from the statement tree alone.
pub data Next : Program → ℕ → ℕ → Type 0 where
  next_body : {P : Program} {n : ℕ} (f : ℕ) → IsBody P f n → Next P n (exit_of P f)
  next_within : {P : Program} {n m : ℕ} (b : ℕ) (s : Stmt) → IsStmt P b s
      → after_part b s n ≡ Some (GoesTo m) → Next P n m
  next_whole : {P : Program} {n m : ℕ} (b : ℕ) (s : Stmt) → IsStmt P b s
      → after_part b s n ≡ Some AfterWhole → Next P b m → Next P n m

abbrev pub is_loop : Stmt → Bool
is_loop (stmt.Loop body step) = true
is_loop _ = false

-- InLoop P l n: l is the nearest loop that encloses the statement n (C11 6.8.6.2, 6.8.6.3)
pub data InLoop : Program → ℕ → ℕ → Type 0 where
  loop_nearest : {P : Program} {l n : ℕ} (s : Stmt) (place : Successor) → IsStmt P l s
      → is_loop s ≡ true → after_part l s n ≡ Some place → InLoop P l n
  loop_further : {P : Program} {l n : ℕ} (b : ℕ) (s : Stmt) (place : Successor) → IsStmt P b s
      → is_loop s ≡ false → after_part b s n ≡ Some place → InLoop P l b → InLoop P l n

-- InFunction P f n: the statement n stands in the function f
pub data InFunction : Program → ℕ → ℕ → Type 0 where
  function_body : {P : Program} {f n : ℕ} → IsBody P f n → InFunction P f n
  function_part : {P : Program} {f n : ℕ} (b : ℕ) → IsPart P b n → InFunction P f b
      → InFunction P f n

-- Reaches P f g: the function f calls g, directly or by others
pub data Reaches : Program → ℕ → ℕ → Type 0 where
  reaches_call : {P : Program} {f g : ℕ} (n : ℕ) → InFunction P f n → IsStmt P n (stmt.Call g)
      → Reaches P f g
  reaches_through : {P : Program} {f g h : ℕ} → Reaches P f g → Reaches P g h → Reaches P f h

-- the numbers from first to last are those of these trees, one after another, where the n-th of
-- ends is the number after the tree of n
abbrev pub Tiles : List ℕ → ℕ → List ℕ → ℕ → Type 0
Tiles ends first [] last = first ≡ last
Tiles ends first (c ∷ cs) last =
    (c ≡ first) × (next : ℕ) × (slice_get ends c ≡ Some next) × Tiles ends next cs last

-- The statements are one tree for each body, numbered in the order of the tree: a statement before
-- its parts, and each part's tree after the tree of the part before.
pub record IsNumbered (P : Program) : Type 0 where
  pub ends : List ℕ
  pub each : length ends ≡ length P.stmts
  pub bodies : Tiles ends 0 P.bodies (length P.stmts)
  pub parts : (n : ℕ) (s : Stmt) (end : ℕ) → IsStmt P n s → slice_get ends n ≡ Some end
      → Tiles ends (n + 1) (parts_of s) end

-- the statement names what is there, and its expressions are well typed
abbrev pub IsSound : Program → ℕ → Stmt → Type 0
IsSound P n (stmt.Block items) = ⊤
IsSound P n (stmt.If test first second) = IsExpr P.cells test
IsSound P n (stmt.Loop body step) = ⊤
IsSound P n (stmt.Assign base len index value) =
    (1 ≤ len) × IsExpr P.cells index × IsExpr P.cells value
    × AreCells (types_of P.cells) base len (type_of value)
IsSound P n (stmt.Input cell) = cell < length P.cells
IsSound P n (stmt.Call function) =
    (function < length P.bodies)
    × ((f : ℕ) → InFunction P f n → (function ≢ f) × (Reaches P function f → ⊥))
IsSound P n (stmt.Goto to) = (f : ℕ) → InFunction P f n → (to < length P.stmts) × InFunction P f to
IsSound P n stmt.Break = (l : ℕ) × InLoop P l n
IsSound P n stmt.Continue = (l : ℕ) × InLoop P l n
IsSound P n stmt.Leave = ⊤
IsSound P n stmt.Stop = ⊤
IsSound P n stmt.Error = ⊤

-- numbered, its statements sound, the cells' starts in range, few enough, and main names a body
pub record IsWellFormed (P : Program) : Type 0 where
  pub numbered : IsNumbered P
  pub sound : (n : ℕ) (s : Stmt) → IsStmt P n s → IsSound P n s
  pub starts : AllByRecursion (λ cell. IsInRange cell.ty cell.start) P.cells
  pub few_cells : length P.cells ≤ MAX_CELLS
  pub few_points : point_count P ≤ MAX_POINTS
  pub main : P.main < length P.bodies
