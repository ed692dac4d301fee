-- Of the edges of one point the one that is open is found by its rank.
use Rattle.std.proofs.Common.{◌≡◌, ℕ, zero, suc, ◌<◌, ◌≤◌, ℤ, List, [], ◌∷◌, ◌++◌, Some, None}
use Rattle.std.proofs.Common.{Option, Bool, true, false, length, get_or, ⊎_elim, refl, sym, ap}
use Rattle.std.proofs.Common.{◌∙◌, subst, arith, ◌-◌, slice_get, IfSome, IfNone, eqb, eq-eqb, Bor}
use Rattle.std.specs.Bool.{then_some}
use Rattle.std.proofs.lemmas.Bool.{cases_lt, cases_eq}
use Rattle.std.proofs.lemmas.List.{get_or_default}
use Rattle.std.specs.List.{Contains}
use Rattle.std.specs.List.Sorted.{IsNonDecreasingBy}
use Rattle.std.proofs.lemmas.List.Elements.{All-from_recursion, Contains-get_or}
use Rattle.std.proofs.lemmas.Option.{slice_get_within, slice_get-get_or, none-some, same_Some}
use Rattle.cpa_expr.specs.declared.tree.Expr.{Expr}
use Rattle.cpa_expr.specs.Values.{value_of}
use Rattle.cpa_model.specs.declared.program.Stmt.{Stmt}
use Rattle.cpa_model.specs.declared.program.Stmt.TheVariants as stmt
use Rattle.cpa_model.specs.declared.program.Program.{Program}
use Rattle.cpa_model.specs.declared.automaton.Act.{Act}
use Rattle.cpa_model.specs.declared.automaton.Act.TheVariants as act
use Rattle.cpa_model.specs.declared.automaton.Edge.{Edge}
use Rattle.cpa_model.specs.declared.automaton.Cfa.{Cfa}
use Rattle.cpa_expr.specs.Values.{HasTruth}
use Rattle.cpa_model.specs.Steps.{Moves, MovesAt, at_statement, at_exit}
use Rattle.cpa_model.specs.Automata.{rank_of, Precedes, AreOrdered, IsAutomatonOf}
use Rattle.cpa_interp.specs.Turns.{Leave, AreAlike, AreWaysOf, IsOpen, IsWay}
use Rattle.cpa_interp.specs.lemmas.Opening.{snoc_not_empty, snoc_same, truth_one}
use Rattle.cpa_interp.specs.lemmas.Outcomes.{tests_alike}

-- of edges that leave one point the ranks rise
rank_le : (a b : Edge) → a.from ≡ b.from → Precedes a b → rank_of a.act ≤ rank_of b.act
rank_le a b same h =
    ⊎_elim (λ less. absurd (omega (arith, same, less))) (λ rank. omega (arith, rank.1)) h

-- all leave the point
abbrev AllFrom : ℕ → List Edge → Type 0
AllFrom point edges = (i : ℕ) (d : Edge) → i < length edges → (get_or edges i d).from ≡ point

ranks_from : (point : ℕ) (edges : List Edge) → AreOrdered edges → AllFrom point edges
    → IsNonDecreasingBy (λ (e : Edge). rank_of e.act) edges
ranks_from point [] ordered all i j d le less = absurd (omega arith)
ranks_from point (edge ∷ edges) ordered all zero zero d le less = omega arith
ranks_from point (edge ∷ edges) ordered all zero (suc j) d le less =
    let inside : j < length edges = omega arith in
    let here = all 0 d (omega arith) in
    let there = all (suc j) d less in
    rank_le edge (get_or edges j d) (here ∙ sym there)
    (All-from_recursion (Precedes edge) edges ordered.0 j d inside)
ranks_from point (edge ∷ edges) ordered all (suc i) zero d le less = absurd (omega arith)
ranks_from point (edge ∷ edges) ordered all (suc i) (suc j) d le less =
    ranks_from point edges ordered.1 (λ k e inside. all (suc k) e (omega arith)) i j d (omega arith)
    (omega arith)

pub ranks_rise : (edges : List Edge) → AreAlike edges
    → IsNonDecreasingBy (λ (e : Edge). rank_of e.act) edges
ranks_rise [] alike i j d le less = absurd (omega arith)
ranks_rise (edge ∷ edges) alike i j d le less =
    ranks_from edge.from (edge ∷ edges) alike.ordered (λ k e inside.
    alike.from (get_or (edge ∷ edges) k e) edge
    (Contains-get_or (edge ∷ edges) k e inside)
    (Contains-get_or (edge ∷ edges) 0 edge (omega arith)))
    i j d le less

-- a return stands at no statement
no_return : (P : Program) (n : ℕ) (s : Stmt) (site q : ℕ) → MovesAt P n s (act.Return site) q → ⊥
no_return P n (stmt.Block []) site q x = absurd (cc (x.0))
no_return P n (stmt.Block (item ∷ items)) site q x = absurd (cc (x.0))
no_return P n (stmt.If e first second) site q x =
    ⊎_elim (λ yes. absurd (cc (yes.0))) (λ no. absurd (cc (no.0))) x
no_return P n (stmt.Loop body step) site q x = absurd (cc (x.0))
no_return P n (stmt.Assign base len index value) site q x = absurd (cc (x.0))
no_return P n (stmt.Input cell) site q x = absurd (cc (x.0))
no_return P n (stmt.Call function) site q x = absurd (cc (x.0))
no_return P n (stmt.Goto to) site q x = absurd (cc (x.0))
no_return P n stmt.Break site q x = absurd (cc (x.0))
no_return P n stmt.Continue site q x = absurd (cc (x.0))
no_return P n stmt.Leave site q x = absurd (cc (x.0))
no_return P n stmt.Stop site q x = x
no_return P n stmt.Error site q x = x

-- where one move of a point is a return, all are
returns_alike : (P : Program) (p site q : ℕ) (b : Act) (r : ℕ) → Moves P p (act.Return site) q
    → Moves P p b r → (other : ℕ) × (b ≡ act.Return other)
returns_alike P p site q b r (at_statement s is move) others =
    absurd (no_return P p s site q move)
returns_alike P p site q b r (at_exit f inside at x) (at_statement s is move) =
    let below = slice_get_within P.stmts p s is in absurd (omega (arith, below, at))
returns_alike P p site q b r (at_exit f inside at x) (at_exit g within is y) = (y.1, y.3)

-- the edges that leave a point of an automaton are alike
pub alike_of : (P : Program) (cfa : Cfa) → IsAutomatonOf P cfa → (point : ℕ) (edges : List Edge)
    → Leave cfa point edges → AreAlike edges
alike_of P cfa A point edges leave =
    let moves : (e : Edge) → Contains edges e → Moves P point e.act e.to = λ e here.
    let at = (leave.each e).0 here in
    subst (λ (p : ℕ). Moves P p e.act e.to) at.1 (A.moves e at.0) in
    record {
      ordered = leave.ordered;
      from = λ a b x y. ((leave.each a).0 x).1 ∙ sym ((leave.each b).0 y).1;
      tests = λ a b test holds x y is.
          tests_alike P point test holds a.to b.act b.to
          (subst (λ (d : Act). Moves P point d a.to) is (moves a x)) (moves b y);
      returns = λ a b site x y is.
          returns_alike P point site a.to b.act b.to
          (subst (λ (d : Act). Moves P point d a.to) is (moves a x)) (moves b y);
    }

-- the ranks of a test's two ways are apart
sense_of_rank : (test other : Expr) (w u : Bool)
    → rank_of (act.Assume test w) ≡ rank_of (act.Assume other u) → w ≡ u
sense_of_rank test other true true e = refl
sense_of_rank test other true false e = absurd (omega (arith, e))
sense_of_rank test other false true e = absurd (omega (arith, e))
sense_of_rank test other false false e = refl

-- an edge with the rank of the test's truth is the way
pub way_ranked : (edges : List Edge) (test : Expr) → AreWaysOf test edges → (holds : Bool)
    (values : List ℤ) (rank : ℕ) → HasTruth values test holds
    → rank ≡ rank_of (act.Assume test holds) → (e : Edge) → Contains edges e
    → rank_of e.act ≡ rank → IsWay test e.act values
way_ranked edges test ways holds values rank truth is e here same =
    let way = ways e here in
    let ranks = ap rank_of (sym way.1) ∙ same ∙ is in
    let sense = sense_of_rank test test way.0 holds ranks in
    (holds, way.1 ∙ ap (act.Assume test) sense, truth)

-- and the way has this rank
pub ranked_way : (test : Expr) (holds : Bool) (values : List ℤ) (rank : ℕ)
    → HasTruth values test holds → rank ≡ rank_of (act.Assume test holds) → (e : Edge)
    → IsWay test e.act values → rank_of e.act ≡ rank
ranked_way test holds values rank truth is e way =
    let sense = truth_one (value_of test values) way.0 holds way.2 truth in
    ap rank_of way.1 ∙ ap (λ (w : Bool). rank_of (act.Assume test w)) sense ∙ sym is

-- of edges that are alike, one a test, all are ways from it, and the open one is the way
pub ways_of : (edges : List Edge) → AreAlike edges → (a : Edge) (test : Expr) (holds : Bool)
    → Contains edges a → a.act ≡ act.Assume test holds → AreWaysOf test edges
ways_of edges alike a test holds here is = λ b there. alike.tests a b test holds here there is

pub open_way : (test : Expr) (e : Edge) (calls : List ℕ) (values : List ℤ)
    → IsWay test e.act values → IsOpen e.act calls values
open_way test e calls values way =
    subst (λ (d : Act). IsOpen d calls values) (sym way.1) way.2

pub way_open : (edges : List Edge) (test : Expr) → AreWaysOf test edges → (e : Edge)
    → Contains edges e → (calls : List ℕ) (values : List ℤ) → IsOpen e.act calls values
    → IsWay test e.act values
way_open edges test ways e here calls values opens =
    let way = ways e here in
    (way.0, way.1, subst (λ (d : Act). IsOpen d calls values) way.1 opens)

-- a return to the call on top is open
pub return_open : (edges : List Edge) → AreAlike edges → (a b : Edge) (site top : ℕ)
    (below calls : List ℕ) (values : List ℤ) → Contains edges a → Contains edges b
    → a.act ≡ act.Return site → calls ≡ below ++ top ∷ [] → rank_of b.act ≡ top
    → IsOpen b.act calls values
return_open edges alike a b site top below calls values x y is on_top rank =
    let other = alike.returns a b site x y is in
    let same : other.0 ≡ top = ap rank_of (sym other.1) ∙ rank in
    subst (λ (d : Act). IsOpen d calls values) (sym other.1)
    (below, on_top ∙ ap (λ (k : ℕ). below ++ k ∷ []) (sym same))

-- and an open return is to the call on top
pub open_return : (edges : List Edge) → AreAlike edges → (a b : Edge) (site top : ℕ)
    (below calls : List ℕ) (values : List ℤ) → Contains edges a → Contains edges b
    → a.act ≡ act.Return site → calls ≡ below ++ top ∷ [] → IsOpen b.act calls values
    → rank_of b.act ≡ top
open_return edges alike a b site top below calls values x y is on_top opens =
    let other = alike.returns a b site x y is in
    let there = subst (λ (d : Act). IsOpen d calls values) other.1 opens in
    let same = (snoc_same there.0 below other.0 top (sym there.1 ∙ on_top)).1 in
    ap rank_of other.1 ∙ same

-- where no call is open, no return is
pub none_to_return : (edges : List Edge) → AreAlike edges → (a b : Edge) (site : ℕ)
    (calls : List ℕ) (values : List ℤ) → Contains edges a → Contains edges b
    → a.act ≡ act.Return site → calls ≡ [] → IsOpen b.act calls values → ⊥
none_to_return edges alike a b site calls values x y is none opens =
    let other = alike.returns a b site x y is in
    let there = subst (λ (d : Act). IsOpen d calls values) other.1 opens in
    snoc_not_empty there.0 other.0 (sym none ∙ there.1)

-- what holds may be said where there is no value
pub if_none : {X : Type 0} {P : Type 0} (r : Option X) → P → IfNone r P
if_none None p = p
if_none (Some x) p = tt

-- with all ranks before a place below, and the one at it above, none is the rank
pub no_rank : (edges : List Edge) (i rank : ℕ)
    → IsNonDecreasingBy (λ (e : Edge). rank_of e.act) edges
    → ((k : ℕ) (d : Edge) → k < length edges → k < i → rank_of (get_or edges k d).act < rank)
    → ((d : Edge) → i < length edges → rank < rank_of (get_or edges i d).act) → (e : Edge)
    → Contains edges e → rank_of e.act ≡ rank → ⊥
no_rank edges i rank ordered below above e here same =
    let k = here.0 in
    let inside : k < length edges = here.1 in
    let is = ap (λ (d : Edge). rank_of d.act) here.2 in
    ⊎_elim
    (λ less. let low = below k e inside less in omega (arith, low, is, same))
    (λ more.
    let high = above e (omega (arith, inside, more)) in
    let le = ordered i k e more inside in
    omega (arith, high, le, is, same))
    (cases_lt k i)

-- the edge that was found has another rank
pub unranked : (r : Option (Bor Edge)) (edges : List Edge) (i rank : ℕ) (edge : Bor Edge)
    (found : ℕ) → IsNonDecreasingBy (λ (e : Edge). rank_of e.act) edges
    → ((k : ℕ) (d : Edge) → k < length edges → k < i → rank_of (get_or edges k d).act < rank)
    → ((k : ℕ) (d : Edge) → k < length edges → i ≤ k → rank ≤ rank_of (get_or edges k d).act)
    → edge.now ≡ get_or edges i edge.now → found ≡ rank_of edge.now.act
    → r ≡ then_some (eqb found rank) edge
    → IfNone r ((e : Edge) → Contains edges e → rank_of e.act ≡ rank → ⊥)
unranked r edges i rank edge found ordered below from at is given =
    ⊎_elim
    (λ same.
    let some : r ≡ Some edge = given
    ∙ ap (λ (b : Bool). then_some b edge) (eq-eqb found rank same) in
    subst (λ (o : Option (Bor Edge)). IfNone o
    ((e : Edge) → Contains edges e → rank_of e.act ≡ rank → ⊥)) (sym some) tt)
    (λ other. if_none r (no_rank edges i rank ordered below
    (λ d inside.
    let le = from i d inside (omega arith) in
    let one = get_or_default edges i d edge.now inside in
    let here = ap (λ (e : Edge). rank_of e.act) (at ∙ sym one) in
    omega (arith, le, here, is, other))))
    (cases_eq found rank)

-- the last item ends the list
pub last_at : (xs : List ℕ) (k x : ℕ) → suc k ≡ length xs → slice_get xs k ≡ Some x
    → (below : List ℕ) × (xs ≡ below ++ x ∷ [])
last_at [] k x len at = absurd (none-some x at)
last_at (y ∷ []) zero x len at =
    let same = same_Some y x at in ([], ap (λ (n : ℕ). n ∷ []) same)
last_at (y ∷ []) (suc k) x len at = absurd (omega (arith, len))
last_at (y ∷ z ∷ ys) zero x len at = absurd (omega (arith, len))
last_at (y ∷ z ∷ ys) (suc k) x len at =
    let rest = last_at (z ∷ ys) k x (omega (arith, len)) at in
    (y ∷ rest.0, ap (λ ns. y ∷ ns) rest.1)

pub last_is : (xs : List ℕ) (x : ℕ) → Some x ≡ slice_get xs (length xs - 1)
    → (below : List ℕ) × (xs ≡ below ++ x ∷ [])
last_is xs x at =
    let inside = slice_get_within xs (length xs - 1) x (sym at) in
    last_at xs (length xs - 1) x (omega (arith, inside)) (sym at)

-- where there is no last item, the list is empty
pub no_last : (xs : List ℕ) → None ≡ slice_get xs (length xs - 1) → xs ≡ []
no_last [] at = refl
no_last (x ∷ xs) at =
    let inside : length (x ∷ xs) - 1 < length (x ∷ xs) = omega arith in
    let is = slice_get-get_or (x ∷ xs) (length (x ∷ xs) - 1) 0 inside in
    absurd (none-some (get_or (x ∷ xs) (length (x ∷ xs) - 1) 0) (at ∙ is))

pub if_some_weaker : {X : Type 0} {P Q : X → Type 0} (r : Option X) → ((x : X) → P x → Q x)
    → IfSome r P → IfSome r Q
if_some_weaker None f h = tt
if_some_weaker (Some x) f h = f x h

pub if_none_weaker : {X : Type 0} {P Q : Type 0} (r : Option X) → (P → Q) → IfNone r P → IfNone r Q
if_none_weaker None f h = f h
if_none_weaker (Some x) f h = tt
