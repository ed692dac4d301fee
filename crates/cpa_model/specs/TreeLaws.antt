-- What follows of the statements of a numbered program: they are trees, so each has one origin, one
-- successor, at most one nearest loop and one function (this project's own).
use Rattle.std.specs.Prelude.{◌≡◌, ℕ, ◌<◌, ◌↔◌, Some, length, ◌⊎◌}
use Rattle.std.specs.List.{Contains}
use Rattle.cpa_model.specs.declared.program.Stmt.{Stmt}
use Rattle.cpa_model.specs.declared.program.Stmt.TheVariants as stmt
use Rattle.cpa_model.specs.declared.program.Program.{Program}
use Rattle.cpa_model.specs.declared.program.Successor.{Successor}
use Rattle.cpa_model.specs.Programs.{IsStmt, IsBody, IsPart, parts_of, after_part, point_count}
use Rattle.cpa_model.specs.Programs.{Next, InLoop, InFunction}

-- a statement is a body or a part of a statement before it
abbrev pub HasOrigin : Program → ℕ → Type 0
HasOrigin P n = ((f : ℕ) × IsBody P f n) ⊎ ((b : ℕ) × (b < n) × IsPart P b n)

pub record TreeLaws (P : Program) : Type 0 where
  -- the parts of a statement are what control goes on from
  pub parts : (n : ℕ) (s : Stmt) (c : ℕ)
      → Contains (parts_of s) c ↔ ((place : Successor) × (after_part n s c ≡ Some place))
  -- one origin
  pub has_origin : (n : ℕ) → n < length P.stmts → HasOrigin P n
  pub body_inside : (f n : ℕ) → IsBody P f n → n < length P.stmts
  pub part_above : (b c : ℕ) → IsPart P b c → (b < c) × (c < length P.stmts)
  pub one_body : (f g n : ℕ) → IsBody P f n → IsBody P g n → f ≡ g
  pub one_parent : (a b c : ℕ) → IsPart P a c → IsPart P b c → a ≡ b
  pub body_apart : (f b n : ℕ) → IsBody P f n → IsPart P b n → ⊥
  pub one_place_after : (b c n : ℕ) (s t : Stmt) (x y : Successor) → IsStmt P b s → IsStmt P c t
      → after_part b s n ≡ Some x → after_part c t n ≡ Some y → (b ≡ c) × (s ≡ t) × (x ≡ y)
  -- one successor
  pub one_next : (n m k : ℕ) → Next P n m → Next P n k → m ≡ k
  pub some_next : (n : ℕ) → n < length P.stmts → (m : ℕ) × Next P n m
  pub next_inside : (n m : ℕ) → Next P n m → m < point_count P
  -- one nearest loop, which stands before the statement
  pub one_loop : (l k n : ℕ) → InLoop P l n → InLoop P k n → l ≡ k
  pub loop_inside : (l n : ℕ) → InLoop P l n → l < length P.stmts
  pub loop_above : (l n : ℕ) → InLoop P l n → l < n
  pub loop_is : (l n : ℕ) → InLoop P l n → (body step : ℕ) × IsStmt P l (stmt.Loop body step)
  -- one function
  pub one_function : (f g n : ℕ) → InFunction P f n → InFunction P g n → f ≡ g
  pub some_function : (n : ℕ) → n < length P.stmts → (f : ℕ) × InFunction P f n
  pub function_inside : (f n : ℕ) → InFunction P f n → f < length P.bodies
