-- A program whose statements are all given is well formed where each of them is (this project's
-- own), by tables that say where the tree of a statement ends, in which function it stands, and
-- how deep the calls of a function go.
use Rattle.std.proofs.Common.{◌≡◌, ℕ, zero, suc, ◌+◌, ◌<◌, ◌≤◌, List, [], ◌∷◌, length, Some, sym}
use Rattle.std.proofs.Common.{ap, ◌∙◌, subst, arith}
use Rattle.std.specs.List.{AllByRecursion, slice_get}
use Rattle.std.proofs.lemmas.List.Elements.{All-from_recursion, All-contains}
use Rattle.std.proofs.lemmas.Option.{none-some, same_Some}
use Rattle.cpa_model.specs.declared.program.Stmt.{Stmt}
use Rattle.cpa_model.specs.declared.program.Stmt.TheVariants as stmt
use Rattle.cpa_model.specs.declared.program.Program.{Program}
use Rattle.cpa_model.specs.declared.program.TheConstants.{MAX_CELLS, MAX_POINTS}
use Rattle.cpa_ints.specs.Integers.{IsInRange}
use Rattle.cpa_model.specs.Programs.{IsStmt, IsBody, IsPart, IsNumbered, IsWellFormed, IsSound}
use Rattle.cpa_model.specs.Programs.{InFunction, function_body, function_part, Reaches}
use Rattle.cpa_model.specs.Programs.{reaches_call, reaches_through, Tiles, parts_of, point_count}
use Rattle.cpa_model.specs.TreeLaws.{TreeLaws}

-- each item of the list is as Q says of its number, the first one having the number i
abbrev pub Each : {X : Type 0} → (ℕ → X → Type 0) → ℕ → List X → Type 0
Each Q i [] = Unit {0}
Each Q i (x ∷ xs) = Q i x × Each Q (i + 1) xs

each_from : {X : Type 0} (Q : ℕ → X → Type 0) (i : ℕ) (xs : List X) → Each Q i xs
    → (n m : ℕ) (x : X) → m ≡ i + n → slice_get xs n ≡ Some x → Q m x
each_from Q i [] h n m x at e = absurd (none-some x e)
each_from Q i (y ∷ xs) h zero m x at e =
    let first : i ≡ m = omega arith in
    subst (λ (k : ℕ). Q k x) first (subst (Q i) (same_Some y x e) h.0)
each_from Q i (y ∷ xs) h (suc n) m x at e = each_from Q (i + 1) xs h.1 n m x (omega arith) e

each_at : {X : Type 0} (Q : ℕ → X → Type 0) (xs : List X) → Each Q 0 xs → (n : ℕ) (x : X)
    → slice_get xs n ≡ Some x → Q n x
each_at Q xs h n x e = each_from Q 0 xs h n n x (omega arith) e

-- a number that the bodies have from their functions, and the parts of a statement from it, all
-- statements have
own_is : (P : Program) (own : ℕ → ℕ) → ((f n : ℕ) → IsBody P f n → own n ≡ f)
    → ((b n : ℕ) → IsPart P b n → own n ≡ own b) → (f n : ℕ) → InFunction P f n → own n ≡ f
own_is P own bodies parts f n (function_body is) = bodies f n is
own_is P own bodies parts f n (function_part b part up) =
    parts b n part ∙ own_is P own bodies parts f b up

-- where each call is of a lower function, so are all functions that it reaches
lower : (P : Program) (level : ℕ → ℕ)
    → ((f g n : ℕ) → InFunction P f n → IsStmt P n (stmt.Call g) → level g < level f) → (f g : ℕ)
    → Reaches P f g → level g < level f
lower P level calls f g (reaches_call n in_f is) = calls f g n in_f is
lower P level calls f g (reaches_through {g = h} first second) =
    let a : level h < level f = lower P level calls f h first in
    let b : level g < level h = lower P level calls h g second in
    omega arith

-- the statement is sound: a call by the levels of the functions, a goto by its own function
abbrev pub IsGood : Program → (ℕ → ℕ) → (ℕ → ℕ) → ℕ → Stmt → Type 0
IsGood P own level n (stmt.Call g) = (g < length P.bodies) × (level g < level (own n))
IsGood P own level n (stmt.Goto to) = (to < length P.stmts) × (own to ≡ own n)
IsGood P own level n s = IsSound P n s

-- the tables fit the program
pub record Tables (P : Program) (ends : List ℕ) (own level : ℕ → ℕ) : Type 0 where
  pub each : length ends ≡ length P.stmts
  pub trees : Tiles ends 0 P.bodies (length P.stmts)
  pub parts : Each (λ n s. (end : ℕ) × (slice_get ends n ≡ Some end)
      × Tiles ends (n + 1) (parts_of s) end) 0 P.stmts
  pub bodies : Each (λ f n. own n ≡ f) 0 P.bodies
  pub owns : Each (λ n s. AllByRecursion (λ c. own c ≡ own n) (parts_of s)) 0 P.stmts
  pub good : Each (IsGood P own level) 0 P.stmts

-- tables that fit show a program well formed, where it is small and its cells' starts are in range
abbrev pub TablesSuffice : Type 0
TablesSuffice =
    (P : Program) (ends : List ℕ) (own level : ℕ → ℕ) → Tables P ends own level
    → (IsNumbered P → TreeLaws P) → AllByRecursion (λ cell. IsInRange cell.ty cell.start) P.cells
    → length P.cells ≤ MAX_CELLS → point_count P ≤ MAX_POINTS → P.main < length P.bodies
    → IsWellFormed P

numbered : (P : Program) (ends : List ℕ) (own level : ℕ → ℕ) → Tables P ends own level
    → IsNumbered P
numbered P ends own level T = record {
  ends = ends;
  each = T.each;
  bodies = T.trees;
  parts = λ n s end is at.
      let (found, there, tiles) =
      each_at (λ n s. (end : ℕ) × (slice_get ends n ≡ Some end)
      × Tiles ends (n + 1) (parts_of s) end) P.stmts T.parts n s is in
      subst (λ (e : ℕ). Tiles ends (n + 1) (parts_of s) e)
      (same_Some found end (sym there ∙ at)) tiles;
}

own_of : (P : Program) → TreeLaws P → (ends : List ℕ) (own level : ℕ → ℕ) → Tables P ends own level
    → (f n : ℕ) → InFunction P f n → own n ≡ f
own_of P L ends own level T = own_is P own
    (λ f n is. each_at (λ f n. own n ≡ f) P.bodies T.bodies f n is)
    (λ b n part. All-contains (λ c. own c ≡ own b) (parts_of part.stmt) n
    (All-from_recursion (λ c. own c ≡ own b) (parts_of part.stmt)
    (each_at (λ n s. AllByRecursion (λ c. own c ≡ own n) (parts_of s)) P.stmts T.owns b part.stmt
    part.is)) ((L.parts b part.stmt n).1 (part.place, part.part)))

level_of_call : (P : Program) → TreeLaws P → (ends : List ℕ) (own level : ℕ → ℕ)
    → Tables P ends own level → (f g n : ℕ) → InFunction P f n → IsStmt P n (stmt.Call g)
    → level g < level f
level_of_call P L ends own level T f g n in_f is =
    let good = each_at (IsGood P own level) P.stmts T.good n (stmt.Call g) is in
    subst (λ (k : ℕ). level g < level k) (own_of P L ends own level T f n in_f) good.1

sound_if_good : (P : Program) → TreeLaws P → (ends : List ℕ) (own level : ℕ → ℕ)
    → Tables P ends own level → (n : ℕ) (s : Stmt) → IsStmt P n s → IsGood P own level n s
    → IsSound P n s
sound_if_good P L ends own level T n (stmt.Call g) is h = (
  h.0,
  λ f in_f.
      let below : level g < level f = level_of_call P L ends own level T f g n in_f is in (
        λ same. let equal : level g ≡ level f = ap level same in absurd (omega arith),
        λ reaches. let above : level f < level g =
            lower P level (level_of_call P L ends own level T) g f reaches in omega arith,
      ),
)
sound_if_good P L ends own level T n (stmt.Goto to) is h = λ f in_f. (
  h.0,
  let target = L.some_function to h.0 in
      let same : target.0 ≡ f =
      sym (own_of P L ends own level T target.0 to target.1) ∙ h.1
      ∙ own_of P L ends own level T f n in_f in
      subst (λ (k : ℕ). InFunction P k to) same target.1,
)
sound_if_good P L ends own level T n (stmt.Block items) is h = h
sound_if_good P L ends own level T n (stmt.If test first second) is h = h
sound_if_good P L ends own level T n (stmt.Loop body step) is h = h
sound_if_good P L ends own level T n (stmt.Assign base len index value) is h = h
sound_if_good P L ends own level T n (stmt.Input cell) is h = h
sound_if_good P L ends own level T n stmt.Break is h = h
sound_if_good P L ends own level T n stmt.Continue is h = h
sound_if_good P L ends own level T n _ is h = h

pub well_formed_by : TablesSuffice
well_formed_by P ends own level T law starts cells points main =
    let N = numbered P ends own level T in
    record {
      numbered = N;
      sound =
          λ n s is. sound_if_good P (law N) ends own level T n s is
          (each_at (IsGood P own level) P.stmts T.good n s is);
      starts = starts;
      few_cells = cells;
      few_points = points;
      main = main;
    }
