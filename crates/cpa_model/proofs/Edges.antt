-- The edges of an automaton: how many there are, and where those of a point stand.
use Rattle.std.proofs.Common.{◌≡◌, ℕ, zero, suc, ◌+◌, ◌-◌, ◌*◌, ◌^◌, ◌<◌, ◌≤◌, ◌↔◌, List, [], ◌∷◌}
use Rattle.std.proofs.Common.{length, get_or, Some, slice_get, true, false, refl, sym, ap, subst}
use Rattle.std.proofs.Common.{⊎_elim, lit<, lit≤, arith}
use Rattle.std.specs.List.{AllByRecursion, Contains}
use Rattle.std.specs.List.Sorted.{IsNonDecreasingBy}
use Rattle.std.proofs.lemmas.Option.{slice_get_within, get_or_from_slice_get}
use Rattle.std.proofs.lemmas.List.Elements.{All-from_recursion}
use Rattle.std.proofs.lemmas.Bool.{cases_lt}
use Rattle.cpa_model.specs.declared.automaton.Act.{Act}
use Rattle.cpa_model.specs.declared.automaton.Act.TheVariants as act
use Rattle.cpa_model.specs.declared.automaton.Edge.{Edge}
use Rattle.cpa_model.specs.declared.automaton.Cfa.{Cfa}
use Rattle.cpa_model.specs.declared.program.Stmt.{Stmt}
use Rattle.cpa_model.specs.declared.program.Stmt.TheVariants as stmt
use Rattle.cpa_model.specs.declared.program.Program.{Program}
use Rattle.cpa_model.specs.Programs.{IsWellFormed}
use Rattle.cpa_model.specs.Steps.{MovesAt, Moves, at_statement, at_exit}
use Rattle.cpa_model.specs.Automata.{rank_of, Precedes, AreOrdered, IsAutomaton}
use Rattle.cpa_model.specs.lemmas.Lists.{place_of, in_list}
use Rattle.cpa_model.specs.lemmas.Trees.{body_inside}

-- the rank of an act, in a program of at most 65536 points
rank_is : (a b : Act) → a ≡ b → rank_of b < 65535 → rank_of a < 65535
rank_is a b e h = subst (λ (x : Act). rank_of x < 65535) (sym e) h

rank_at : (P : Program) (n : ℕ) (s : Stmt) (a : Act) (m : ℕ) → n < 65535 → MovesAt P n s a m
    → rank_of a < 65535
rank_at P n (stmt.Block []) a m h moves = rank_is a act.Skip moves.0 (lit< tt)
rank_at P n (stmt.Block (item ∷ items)) a m h moves = rank_is a act.Skip moves.0 (lit< tt)
rank_at P n (stmt.If test first second) a m h moves =
    ⊎_elim
    (λ yes. rank_is a (act.Assume test true) yes.0 (lit< tt))
    (λ no. rank_is a (act.Assume test false) no.0 (lit< tt))
    moves
rank_at P n (stmt.Loop body step) a m h moves = rank_is a act.Skip moves.0 (lit< tt)
rank_at P n (stmt.Assign base len index value) a m h moves =
    rank_is a (act.Assign base len index value) moves.0 (lit< tt)
rank_at P n (stmt.Input cell) a m h moves = rank_is a (act.Input cell) moves.0 (lit< tt)
rank_at P n (stmt.Call function) a m h moves = rank_is a (act.Call n) moves.0 (lit< tt)
rank_at P n (stmt.Goto to) a m h moves = rank_is a act.Skip moves.0 (lit< tt)
rank_at P n stmt.Break a m h moves = rank_is a act.Skip moves.0 (lit< tt)
rank_at P n stmt.Continue a m h moves = rank_is a act.Skip moves.0 (lit< tt)
rank_at P n stmt.Leave a m h moves = rank_is a act.Skip moves.0 (lit< tt)
rank_at P n stmt.Stop a m h moves = absurd moves
rank_at P n stmt.Error a m h moves = absurd moves

rank_small : (P : Program) → IsWellFormed P → (p : ℕ) (a : Act) (q : ℕ) → Moves P p a q
    → rank_of a < 65535
rank_small P W p a q (at_statement s is moves) =
    let inside = slice_get_within P.stmts p s is in
    rank_at P p s a q (omega (arith, inside, W.main, W.few_points)) moves
rank_small P W p a q (at_exit f less is returns) =
    let site = returns.1 in
    let inside = slice_get_within P.stmts site (stmt.Call f) returns.2 in
    rank_is a (act.Return site) returns.3 (omega (arith, inside, W.main, W.few_points))

-- an edge by the point that it leaves, and then by its rank
abbrev place_of_edge : Edge → ℕ
place_of_edge edge = edge.from * 65535 + rank_of edge.act

abbrev IsSmall : Edge → Type 0
IsSmall edge = (edge.from < 65536) × (rank_of edge.act < 65535)

place_rises : (a b : Edge) → Precedes a b → IsSmall a → place_of_edge a < place_of_edge b
place_rises a b h small =
    let less : rank_of a.act < 65535 = small.1 in
    ⊎_elim (λ from. omega arith) (λ rank. omega (arith, rank.0, rank.1)) h

places_rise : (a : Edge) (edges : List Edge) → AllByRecursion (Precedes a) edges → IsSmall a
    → AllByRecursion (λ edge. place_of_edge a + 1 ≤ place_of_edge edge) edges
places_rise a [] h small = tt
places_rise a (edge ∷ edges) h small = (
  let rises = place_rises a edge h.0 small in
      omega (arith, rises),
  places_rise a edges h.1 small,
)

-- places rise along the edges, so there are no more edges than places
few_from : (edges : List Edge) (low : ℕ) → low ≤ 65536 * 65535 → AreOrdered edges
    → AllByRecursion IsSmall edges → AllByRecursion (λ edge. low ≤ place_of_edge edge) edges
    → low + length edges ≤ 65536 * 65535
few_from [] low h ordered small above = omega arith
few_from (edge ∷ edges) low h ordered small above =
    let s : IsSmall edge = small.0 in
    let rest =
    few_from edges (place_of_edge edge + 1) (omega (arith, s.0, s.1)) ordered.1 small.1
    (places_rise edge edges ordered.0 s) in
    omega (arith, rest, above.0)

all_from_zero : (edges : List Edge) → AllByRecursion (λ edge. 0 ≤ place_of_edge edge) edges
all_from_zero [] = tt
all_from_zero (edge ∷ edges) = (omega arith, all_from_zero edges)

-- an edge of an automaton has a small place
all_small : (cfa : Cfa) → IsAutomaton cfa → (edges : List Edge)
    → ((edge : Edge) → Contains edges edge → Contains cfa.edges edge)
    → AllByRecursion (λ edge. (edge.from < cfa.points) × (edge.to < cfa.points)) edges
    → AllByRecursion IsSmall edges
all_small cfa a [] within inside = tt
all_small cfa a (edge ∷ edges) within inside =
    let P = a.program in
    let at = within edge (in_list (edge ∷ edges) 0 edge refl) in (
      (
        omega (arith, inside.0.0, a.automaton.points, a.well_formed.few_points),
        rank_small P a.well_formed edge.from edge.act edge.to (a.automaton.moves edge at),
      ),
      all_small cfa a edges (λ e h. within e
          (let k = place_of edges e h in in_list (edge ∷ edges) (suc k.0) e k.1)) inside.1,
    )

-- the number of each edge is a u32, and so is how many there are
pub few_edges : (cfa : Cfa) → IsAutomaton cfa → length cfa.edges < 2 ^ 32
few_edges cfa a =
    let few =
    few_from cfa.edges 0 (lit≤ tt) a.automaton.ordered
    (all_small cfa a cfa.edges (λ e h. h) a.automaton.inside) (all_from_zero cfa.edges) in
    omega (arith, few)

-- an automaton starts at one of its points
pub start_inside : (cfa : Cfa) → IsAutomaton cfa → cfa.start < cfa.points
start_inside cfa a =
    let P = a.program in
    let inside = body_inside P a.well_formed.numbered P.main cfa.start a.automaton.start in
    omega (arith, inside, a.automaton.points)

-- and its errors are points of it
all_errors : (cfa : Cfa) → IsAutomaton cfa → (errors : List ℕ)
    → ((p : ℕ) → Contains errors p → Contains cfa.errors p)
    → AllByRecursion (λ p. p < cfa.points) errors
all_errors cfa a [] within = tt
all_errors cfa a (p ∷ errors) within =
    let P = a.program in
    let error = a.automaton.only_errors p (within p (in_list (p ∷ errors) 0 p refl)) in
    let inside = slice_get_within P.stmts p stmt.Error error in (
      omega (arith, inside, a.automaton.points),
      all_errors cfa a errors (λ q h. within q
          (let k = place_of errors q h in in_list (p ∷ errors) (suc k.0) q k.1)),
    )

pub errors_inside : (cfa : Cfa) → IsAutomaton cfa → AllByRecursion (λ p. p < cfa.points) cfa.errors
errors_inside cfa a = all_errors cfa a cfa.errors (λ p h. h)

le_from_precedes : (a b : Edge) → Precedes a b → a.from ≤ b.from
le_from_precedes a b h = ⊎_elim (λ from. omega arith) (λ rank. omega (arith, rank.0)) h

-- the edges stand by the points that they leave
pub edges_by_from : (edges : List Edge) → AreOrdered edges
    → IsNonDecreasingBy (λ (e : Edge). e.from) edges
edges_by_from [] ordered i j d le less = absurd (omega arith)
edges_by_from (edge ∷ edges) ordered zero zero d le less = omega arith
edges_by_from (edge ∷ edges) ordered zero (suc j) d le less =
    le_from_precedes edge (get_or edges j d)
    (All-from_recursion (Precedes edge) edges ordered.0 j d (omega arith))
edges_by_from (edge ∷ edges) ordered (suc i) zero d le less = absurd (omega arith)
edges_by_from (edge ∷ edges) ordered (suc i) (suc j) d le less =
    edges_by_from edges ordered.1 i j d (omega arith) (omega arith)

-- The tests on two places, first and last, by which the edges of a point are found.
abbrev IsBefore : List Edge → ℕ → ℕ → Type 0
IsBefore edges point first = (k : ℕ) (d : Edge) → k < first → (get_or edges k d).from < point

abbrev IsFrom : List Edge → ℕ → ℕ → Type 0
IsFrom edges point first =
    (k : ℕ) (d : Edge) → first ≤ k → k < length edges → point ≤ (get_or edges k d).from

abbrev IsUpTo : List Edge → ℕ → ℕ → Type 0
IsUpTo edges point last = (k : ℕ) (d : Edge) → k < last → (get_or edges k d).from ≤ point

abbrev IsAfter : List Edge → ℕ → ℕ → Type 0
IsAfter edges point last =
    (k : ℕ) (d : Edge) → last ≤ k → k < length edges → point < (get_or edges k d).from

pub first_to_last : (edges : List Edge) (point first last : ℕ) → first ≤ length edges
    → IsBefore edges point first → IsAfter edges point last → first ≤ last
first_to_last edges point first last bound before after =
    let d : Edge = record { from = 0; to = 0; act = act.Skip } in
    ⊎_elim
    (λ less.
    let low = before last d less in
    let high = after last d (omega arith) (omega arith) in
    absurd (omega (arith, low, high)))
    (λ more. more)
    (cases_lt last first)

-- the point that the edge at a place leaves
from_at : (edges : List Edge) (k : ℕ) (edge : Edge) → slice_get edges k ≡ Some edge
    → (get_or edges k edge).from ≡ edge.from
from_at edges k edge at = ap (λ (e : Edge). e.from) (get_or_from_slice_get edges k edge edge at)

-- an edge stands before the first one exactly where it leaves a lesser point
pub stands_before : (edges : List Edge) (point first : ℕ) → IsBefore edges point first
    → IsFrom edges point first → (k : ℕ) (edge : Edge) → slice_get edges k ≡ Some edge
    → (k < first) ↔ (edge.from < point)
stands_before edges point first before from k edge at =
    let inside = slice_get_within edges k edge at in
    let is = from_at edges k edge at in (
      λ less. let low = before k edge less in omega (arith, low, is),
      λ lesser. ⊎_elim
          (λ less. less)
          (λ more. let high = from k edge more inside in absurd (omega (arith, high, is)))
          (cases_lt k first),
    )

-- an edge stands from the first one up to the last exactly where it leaves the point
pub stands_between : (edges : List Edge) (point first last : ℕ) → first ≤ last
    → IsBefore edges point first → IsFrom edges point first → IsUpTo edges point last
    → IsAfter edges point last → (k : ℕ) (edge : Edge) → slice_get edges k ≡ Some edge
    → ((first ≤ k) × (k < first + (last - first))) ↔ (edge.from ≡ point)
stands_between edges point first last le before from upto after k edge at =
    let inside = slice_get_within edges k edge at in
    let is = from_at edges k edge at in (
      λ between.
          let low = from k edge between.0 inside in
          let high = upto k edge (omega (arith, between.1)) in
          omega (arith, low, high, is),
      λ leaves. (
        ⊎_elim
            (λ less. let low = before k edge less in absurd (omega (arith, low, is, leaves)))
            (λ more. more)
            (cases_lt k first),
        ⊎_elim
            (λ less. omega (arith, less))
            (λ more. let high = after k edge more inside in
            absurd (omega (arith, high, is, leaves)))
            (cases_lt k last),
      ),
    )
