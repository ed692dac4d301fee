-- The parts make an automaton.
use Rattle.std.proofs.Common.{◌≡◌, ℕ, ◌<◌, List, length, Some}
use Rattle.std.specs.List.{AllByRecursion, Contains, slice_get}
use Rattle.std.proofs.lemmas.List.Elements.{All-from_recursion, All-contains}
use Rattle.std.proofs.lemmas.Option.{slice_get_within}
use Rattle.cpa_model.specs.declared.automaton.Act.{Act}
use Rattle.cpa_model.specs.declared.automaton.Cfa.{Cfa}
use Rattle.cpa_model.specs.declared.program.Stmt.TheVariants as stmt
use Rattle.cpa_model.specs.declared.program.Program.{Program}
use Rattle.cpa_model.specs.Automata.{IsAutomatonOf}
use Rattle.cpa_model.specs.Programs.{point_count}
use Rattle.cpa_model.specs.Steps.{Moves, IsError}
use Rattle.cfa_build.specs.Edges.{AreNumbersBelow, AreEdgesBelow}
use Rattle.cfa_build.proofs.Growth.{each_weaker}

-- each move leads from a point to a point
abbrev pub StaysInside : Program → Type 0
StaysInside P =
    (p : ℕ) (a : Act) (q : ℕ) → Moves P p a q → (p < point_count P) × (q < point_count P)

contained : {X : Type 0} (Q : X → Type 0) (xs : List X) (x : X) → AllByRecursion Q xs
    → Contains xs x → Q x
contained Q xs x h among = All-contains Q xs x (All-from_recursion Q xs h) among

-- the parts make the automaton
pub automaton_is : (P : Program) → StaysInside P → (cfa : Cfa) → cfa.cells ≡ P.cells
    → cfa.points ≡ point_count P → slice_get P.bodies P.main ≡ Some cfa.start
    → cfa.text_len ≡ P.text_len → AreEdgesBelow P (point_count P) cfa.edges
    → AreNumbersBelow (IsError P) (length P.stmts) cfa.errors → IsAutomatonOf P cfa
automaton_is P inside cfa cells points start text_len edges errors = record {
  cells = cells;
  points = points;
  start = start;
  text_len = text_len;
  moves =
      λ edge among. (contained (λ e. (e.from < point_count P) × Moves P e.from e.act e.to) cfa.edges
      edge edges.moves among).1;
  edges = λ p a q move. edges.all p a q (inside p a q move).0 move;
  ordered = edges.ordered;
  inside =
      rw points (each_weaker (λ e. (e.from < point_count P) × Moves P e.from e.act e.to)
      (λ e. (e.from < point_count P) × (e.to < point_count P))
      (λ e h. (h.0, (inside e.from e.act e.to h.1).1)) cfa.edges edges.moves);
  errors = λ p is. errors.all p (slice_get_within P.stmts p stmt.Error is) is;
  only_errors =
      λ p among. (contained (λ n. (n < length P.stmts) × IsError P n) cfa.errors
      p errors.only among).1;
  ascending = errors.ascending;
}
