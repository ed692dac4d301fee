-- A state of an execution stands at an error, at an end, or at a move that is open or traps.
use Rattle.std.proofs.Common.{◌≡◌, ℕ, ◌<◌, List, [], ◌∷◌, ◌++◌, length, true}
use Rattle.std.proofs.Common.{get_or, inl, inr, ⊎_elim, refl, ap, ◌∙◌, arith}
use Rattle.std.specs.Bool.{⊤}
use Rattle.std.proofs.lemmas.Bool.{cases_eq}
use Rattle.std.proofs.lemmas.Option.{slice_get_within, slice_get-get_or}
use Rattle.cpa_model.specs.declared.program.Stmt.{Stmt}
use Rattle.cpa_model.specs.declared.program.Stmt.TheVariants as stmt
use Rattle.cpa_model.specs.declared.program.Program.{Program}
use Rattle.cpa_model.specs.declared.automaton.Act.{Act}
use Rattle.cpa_model.specs.declared.automaton.Act.TheVariants as act
use Rattle.cpa_model.specs.Programs.{IsStmt, IsWellFormed, exit_of}
use Rattle.cpa_model.specs.Steps.{Moves, MovesAt, at_statement, at_exit, IsError, IsEnd, GoesOn}
use Rattle.cpa_model.specs.lemmas.Trees.{some_next, some_function, loop_inside, loop_is}
use Rattle.cpa_model.specs.lemmas.Trees.{in_function_inside}
use Rattle.cpa_interp.specs.lemmas.Opening.{moves_at}
use Rattle.cpa_interp.specs.lemmas.Calling.{Calls, calls_none, calls_top, Fits}

-- a return is to the call on top
abbrev pub IsOnTop : Act → List ℕ → Type 0
IsOnTop (act.Return site) stack = (below : List ℕ) × (stack ≡ below ++ site ∷ [])
IsOnTop _ stack = ⊤

-- a move from the point, a return being to the call on top
pub record CanMove (P : Program) (p : ℕ) (stack : List ℕ) : Type 0 where
  pub act : Act
  pub to : ℕ
  pub moves : Moves P p act to
  pub top : IsOnTop act stack

-- at an error, at an end, or at a move
pub data Goes : Program → ℕ → List ℕ → Type 0 where
  goes_error : {P : Program} {p : ℕ} {stack : List ℕ} → IsError P p → Goes P p stack
  goes_end : {P : Program} {p : ℕ} {stack : List ℕ} → IsEnd P p → Goes P p stack
  goes_on : {P : Program} {p : ℕ} {stack : List ℕ} → CanMove P p stack → Goes P p stack

moving : (P : Program) (p : ℕ) (stack : List ℕ) (s : Stmt) (a : Act) (q : ℕ) → IsStmt P p s
    → MovesAt P p s a q → IsOnTop a stack → Goes P p stack
moving P p stack s a q is move top =
    goes_on (record { act = a; to = q; moves = at_statement s is move; top = top })

statement_goes : (P : Program) → IsWellFormed P → (p : ℕ) (stack : List ℕ) (s : Stmt)
    → IsStmt P p s → p < length P.stmts → Goes P p stack
statement_goes P W p stack (stmt.Block []) is inside =
    let next = some_next P W.numbered p inside in
    moving P p stack (stmt.Block []) act.Skip next.0 is (refl, next.1) tt
statement_goes P W p stack (stmt.Block (item ∷ items)) is inside =
    moving P p stack (stmt.Block (item ∷ items)) act.Skip item is (refl, refl) tt
statement_goes P W p stack (stmt.If test first second) is inside =
    moving P p stack (stmt.If test first second) (act.Assume test true) first is
    (inl (refl, refl)) tt
statement_goes P W p stack (stmt.Loop body step) is inside =
    moving P p stack (stmt.Loop body step) act.Skip body is (refl, refl) tt
statement_goes P W p stack (stmt.Assign base len index value) is inside =
    let next = some_next P W.numbered p inside in
    moving P p stack (stmt.Assign base len index value) (act.Assign base len index value) next.0 is
    (refl, next.1) tt
statement_goes P W p stack (stmt.Input cell) is inside =
    let next = some_next P W.numbered p inside in
    moving P p stack (stmt.Input cell) (act.Input cell) next.0 is (refl, next.1) tt
statement_goes P W p stack (stmt.Call function) is inside =
    let sound = W.sound p (stmt.Call function) is in
    moving P p stack (stmt.Call function) (act.Call p) (get_or P.bodies function 0) is
    (refl, slice_get-get_or P.bodies function 0 sound.0) tt
statement_goes P W p stack (stmt.Goto to) is inside =
    moving P p stack (stmt.Goto to) act.Skip to is (refl, refl) tt
statement_goes P W p stack stmt.Break is inside =
    let loop = W.sound p stmt.Break is in
    let next = some_next P W.numbered loop.0 (loop_inside P W.numbered loop.0 p loop.1) in
    moving P p stack stmt.Break act.Skip next.0 is (refl, loop.0, loop.1, next.1) tt
statement_goes P W p stack stmt.Continue is inside =
    let loop = W.sound p stmt.Continue is in
    let at = loop_is P loop.0 p loop.1 in
    moving P p stack stmt.Continue act.Skip at.1 is (refl, loop.0, at.0, loop.1, at.2) tt
statement_goes P W p stack stmt.Leave is inside =
    let in_function = some_function P W.numbered p inside in
    moving P p stack stmt.Leave act.Skip (exit_of P in_function.0) is
    (refl, in_function.0, in_function.1, refl) tt
statement_goes P W p stack stmt.Stop is inside = goes_end (inl is)
statement_goes P W p stack stmt.Error is inside = goes_error is

-- from the exit of a function that is called there is a return to the call on top
exit_goes : (P : Program) → IsWellFormed P → (f : ℕ) (stack : List ℕ) → f < length P.bodies
    → Calls P stack f → (p : ℕ) → p ≡ exit_of P f → Goes P p stack
exit_goes P W f stack inside (calls_none none main) p at =
    goes_end (inr (at ∙ ap (exit_of P) main))
exit_goes P W f stack inside (calls_top below site g top is here up) p at =
    ⊎_elim
    (λ main. goes_end (inr (at ∙ ap (exit_of P) main)))
    (λ other.
    let next = some_next P W.numbered site (in_function_inside P W.numbered g site here) in
    goes_on (record {
      act = act.Return site;
      to = next.0;
      moves = at_exit f inside at (other, site, is, refl, next.1);
      top = (below, top);
    }))
    (cases_eq f P.main)

-- each state of an execution stands so
pub goes : (P : Program) → IsWellFormed P → (p : ℕ) (stack : List ℕ) → Fits P p stack
    → Goes P p stack
goes P W p stack fits =
    ⊎_elim
    (λ here.
    let inside = in_function_inside P W.numbered fits.function p here in
    statement_goes P W p stack (get_or P.stmts p stmt.Stop)
    (slice_get-get_or P.stmts p stmt.Stop inside) inside)
    (λ exit. exit_goes P W fits.function stack exit.0 fits.calls p exit.1)
    fits.stands

-- from the exit of main there is no move
not_from_exit : (P : Program) (p : ℕ) (a : Act) (q : ℕ) → p ≡ exit_of P P.main → Moves P p a q → ⊥
not_from_exit P p a q at (at_statement s is move) =
    let below : p < length P.stmts = slice_get_within P.stmts p s is in omega arith
not_from_exit P p a q at (at_exit f inside is returns) =
    let same : f ≡ P.main = omega arith in returns.0 same

-- where there is a move there is neither an error nor an end
pub moves_go_on : (P : Program) (p : ℕ) (a : Act) (q : ℕ) → Moves P p a q
    → GoesOn P p
moves_go_on P p a q moves = record {
  no_error = λ is. moves_at P p stmt.Error a q is moves;
  no_end = λ end. ⊎_elim
      (λ is. moves_at P p stmt.Stop a q is moves)
      (λ at. not_from_exit P p a q at moves)
      end;
}
