-- Lists of edges that grow to the next point, and the edges from the exits.
use Rattle.std.proofs.Common.{◌≡◌, ◌≢◌, ℕ, ◌+◌, ◌<◌, List, [], ◌∷◌, ◌++◌, length, map, get_or}
use Rattle.std.proofs.Common.{Option, Some, None, option_map, unwrap_or, refl, sym, ap, ◌∙◌, subst}
use Rattle.std.proofs.Common.{inl, inr, ⊎_elim, arith, IsSomeAnd}
use Rattle.std.specs.List.{All, AllByRecursion, Contains, slice_get}
use Rattle.std.proofs.lemmas.Bool.{cases_eq}
use Rattle.std.proofs.lemmas.List.{append-nil, length-map, get_or-map}
use Rattle.std.proofs.lemmas.List.Elements.{Contains-append_left, Contains-append_right}
use Rattle.std.proofs.lemmas.List.Elements.{All-from_recursion}
use Rattle.std.proofs.lemmas.Option.{slice_get_within, slice_get-get_or}
use Rattle.cpa_model.specs.declared.automaton.Act.{Act}
use Rattle.cpa_model.specs.declared.automaton.Act.TheVariants as act
use Rattle.cpa_model.specs.declared.automaton.Edge.{Edge}
use Rattle.cpa_model.specs.declared.program.Stmt.TheVariants as stmt
use Rattle.cpa_model.specs.declared.program.Program.{Program}
use Rattle.cpa_model.specs.Ascending.{AreAscending}
use Rattle.cpa_model.specs.Automata.{edge_of, Precedes, AreOrdered}
use Rattle.cpa_model.specs.Programs.{exit_of, Next}
use Rattle.cpa_model.specs.Steps.{Moves, at_statement, at_exit, Returns}
use Rattle.cpa_model.specs.TreeLaws.{TreeLaws}
use Rattle.cfa_build.specs.declared.places.Place.{Place}
use Rattle.cfa_build.specs.Places.{IsPlace, ArePlaces}
use Rattle.cfa_build.specs.Edges.{AreNumbersBelow, AreSitesBelow, AreEdgesBelow, AreEdgesFrom}
use Rattle.cfa_build.specs.Edges.{IsCallOf, return_edge, next_in}
use Rattle.cfa_build.proofs.Growth.{each_append, each_weaker}

ordered_append : (n : ℕ) (xs ys : List Edge) → AreOrdered xs → AreOrdered ys
    → AllByRecursion (λ e. e.from < n) xs → AllByRecursion (λ e. e.from ≡ n) ys
    → AreOrdered (xs ++ ys)
ordered_append n [] ys h k below at = k
ordered_append n (x ∷ xs) ys h k below at = (
  each_append (Precedes x) xs ys h.0
      (each_weaker (λ e. e.from ≡ n) (Precedes x)
      (λ e at_n. let less : x.from < e.from = omega (arith, below.0) in inl less) ys at),
  ordered_append n xs ys h.1 k below.1 at,
)

-- the edges from the next point
pub more_edges : (P : Program) (n : ℕ) (edges out : List Edge) → AreEdgesBelow P n edges
    → AreEdgesFrom P n out → AreEdgesBelow P (n + 1) (edges ++ out)
more_edges P n edges out below here = record {
  moves = each_append (λ e. (e.from < n + 1) × Moves P e.from e.act e.to) edges out
      (each_weaker (λ e. (e.from < n) × Moves P e.from e.act e.to)
      (λ e. (e.from < n + 1) × Moves P e.from e.act e.to)
      (λ e k. (omega (arith, k.0), k.1)) edges below.moves)
      (each_weaker (λ e. (e.from ≡ n) × Moves P e.from e.act e.to)
      (λ e. (e.from < n + 1) × Moves P e.from e.act e.to)
      (λ e k. (omega (arith, k.0), k.1)) out here.moves);
  all = λ p a q less move. ⊎_elim
      (λ same. Contains-append_right edges out (edge_of p a q)
      (subst (λ (k : ℕ). Contains out (edge_of k a q)) (sym same)
      (here.all a q (subst (λ (k : ℕ). Moves P k a q) same move))))
      (λ other. Contains-append_left edges out (edge_of p a q) (below.all p a q (omega arith) move))
      (cases_eq p n);
  ordered = ordered_append n edges out below.ordered here.ordered
      (each_weaker (λ e. (e.from < n) × Moves P e.from e.act e.to) (λ e. e.from < n)
      (λ e k. k.0) edges below.moves)
      (each_weaker (λ e. (e.from ≡ n) × Moves P e.from e.act e.to) (λ e. e.from ≡ n)
      (λ e k. k.0) out here.moves);
}

-- no edges from the next point
pub no_more_edges : (P : Program) (n : ℕ) (edges : List Edge) → AreEdgesBelow P n edges
    → AreEdgesFrom P n [] → AreEdgesBelow P (n + 1) edges
no_more_edges P n edges below here =
    let more = more_edges P n edges [] below here in
    rw append-nil at more

each_map : {X Y : Type 0} (Q : X → Type 0) (R : Y → Type 0) (f : X → Y) → ((x : X) → Q x → R (f x))
    → (xs : List X) → AllByRecursion Q xs → AllByRecursion R (map f xs)
each_map Q R f g [] h = tt
each_map Q R f g (x ∷ xs) h = (g x h.0, each_map Q R f g xs h.1)

contains_map : {X Y : Type 0} (f : X → Y) (xs : List X) (x : X) → Contains xs x
    → Contains (map f xs) (f x)
contains_map f xs x (k, inside, is) =
    (k, (let e = length-map xs f in omega arith), get_or-map f xs k x (f x) inside ∙ ap f is)

next_of_known : (P : Program) (n : ℕ) (o : Option Place) → IsSomeAnd o (IsPlace P n)
    → Next P n (unwrap_or (option_map (λ place. place.next) o) 0)
next_of_known P n (Some place) h = h.next
next_of_known P n None h = absurd h

-- what follows a statement by the table follows it
next_in_is : (P : Program) (places : List Place) (n : ℕ) → ArePlaces P places → n < length P.stmts
    → Next P n (next_in places n)
next_in_is P places n h inside = next_of_known P n (slice_get places n) (h.right n inside)

-- a move from an exit is a return
returns_at : (P : Program) (p f : ℕ) (a : Act) (q : ℕ) → p ≡ exit_of P f → Moves P p a q
    → Returns P f a q
returns_at P p f a q e (at_statement s is h) =
    let below : p < length P.stmts = slice_get_within P.stmts p s is in absurd (omega arith)
returns_at P p f a q e (at_exit g inside at r) =
    let same : g ≡ f = omega arith in subst (λ (k : ℕ). Returns P k a q) same r

-- no edge leaves the exit of main
pub from_main : (P : Program) (f : ℕ) → f ≡ P.main → AreEdgesFrom P (exit_of P f) []
from_main P f main = record {
  moves = tt;
  all = λ a q h. absurd ((returns_at P (exit_of P f) f a q refl h).0 main);
  ordered = tt;
}

ordered_returns : (exit : ℕ) (places : List Place) (sites : List ℕ) → AreAscending sites
    → AreOrdered (map (return_edge exit places) sites)
ordered_returns exit places [] h = tt
ordered_returns exit places (s ∷ sites) h = (
  each_map (λ m. s < m) (Precedes (return_edge exit places s)) (return_edge exit places)
      (λ m less. inr (refl, less)) sites h.0,
  ordered_returns exit places sites h.1,
)

-- the edges from the exit of another function
pub from_exit : (P : Program) → TreeLaws P → (f : ℕ) (places : List Place) (sites : List ℕ)
    → f ≢ P.main → f < length P.bodies → ArePlaces P places
    → AreNumbersBelow (IsCallOf P f) (length P.stmts) sites
    → AreEdgesFrom P (exit_of P f) (map (return_edge (exit_of P f) places) sites)
from_exit P T f places sites other inside placed calls = record {
  moves =
      each_map (λ s. (s < length P.stmts) × IsCallOf P f s)
      (λ e. (e.from ≡ exit_of P f) × Moves P e.from e.act e.to) (return_edge (exit_of P f) places)
      (λ s call. (
        refl,
        at_exit f inside refl
            (other, s, call.1, refl, next_in_is P places s placed call.0),
      )) sites calls.only;
  all = λ a q h.
      let r : Returns P f a q = returns_at P (exit_of P f) f a q refl h in
      let site : ℕ = r.1 in
      let below : site < length P.stmts = slice_get_within P.stmts site (stmt.Call f) r.2 in
      let to : next_in places site ≡ q =
      T.one_next site (next_in places site) q (next_in_is P places site placed below) r.4 in
      let is : return_edge (exit_of P f) places site ≡ edge_of (exit_of P f) a q =
      ap (edge_of (exit_of P f) (act.Return site)) to
      ∙ ap (λ c. edge_of (exit_of P f) c q) (sym r.3) in
      subst (Contains (map (return_edge (exit_of P f) places) sites)) is
      (contains_map (return_edge (exit_of P f) places) sites site (calls.all site below r.2));
  ordered = ordered_returns (exit_of P f) places sites calls.ascending;
}

-- the calls of one function
pub sites_of : (P : Program) (i f : ℕ) (sites : List (List ℕ)) (d : List ℕ)
    → AreSitesBelow P i sites → f < length P.bodies
    → AreNumbersBelow (IsCallOf P f) i (get_or sites f d)
sites_of P i f sites d h inside =
    let known : IsSomeAnd (slice_get sites f) (AreNumbersBelow (IsCallOf P f) i) =
    h.right f inside in
    rw (slice_get-get_or sites f d (omega (arith, h.each))) at known

pub sites_inside : (Q : ℕ → Type 0) (i size : ℕ) (ns : List ℕ) → AreNumbersBelow Q i ns → size ≡ i
    → All (λ n. n < size) ns
sites_inside Q i size ns h e =
    All-from_recursion (λ n. n < size) ns
    (each_weaker (λ n. (n < i) × Q n) (λ n. n < size) (λ n k. omega (arith, k.0)) ns h.only)
