-- The state of an execution stands in the function that the call on top of the stack calls, and
-- each call stands in the function that the one below it calls.
use Rattle.std.proofs.Common.{◌≡◌, ℕ, ◌<◌, List, [], ◌∷◌, ◌++◌, Some, length, slice_get, true}
use Rattle.std.proofs.Common.{false, ◌⊎◌, inl, inr, ⊎_elim, refl, sym, ap, ◌∙◌, subst, arith}
use Rattle.std.proofs.lemmas.Option.{slice_get_within, slice_get-get_or}
use Rattle.cpa_model.specs.declared.program.Stmt.{Stmt}
use Rattle.cpa_model.specs.declared.program.Stmt.TheVariants as stmt
use Rattle.cpa_model.specs.declared.program.Program.{Program}
use Rattle.cpa_model.specs.declared.program.Successor.TheVariants.{GoesTo, AfterWhole}
use Rattle.cpa_model.specs.declared.automaton.Act.{Act}
use Rattle.cpa_model.specs.declared.automaton.Act.TheVariants as act
use Rattle.cpa_model.specs.declared.states.State.{State}
use Rattle.cpa_model.specs.Programs.{IsStmt, IsPart, IsNumbered, IsWellFormed, exit_of, Next}
use Rattle.cpa_model.specs.Programs.{parts_of}
use Rattle.cpa_model.specs.Programs.{InLoop, InFunction, next_body, next_within, next_whole}
use Rattle.cpa_model.specs.Programs.{loop_nearest, loop_further, function_body, function_part}
use Rattle.cpa_model.specs.States.{initial_of}
use Rattle.cpa_model.specs.Steps.{Moves, MovesAt, at_statement, at_exit, StepsStack, Step, IsChain}
use Rattle.cpa_model.specs.lemmas.Parts.{part_of_parts, part_of_place, successor_of_part}
use Rattle.cpa_model.specs.lemmas.Trees.{body_apart, one_parent, one_function, function_inside}
use Rattle.cpa_interp.specs.Replays.{last_of}
use Rattle.cpa_interp.specs.lemmas.Opening.{snoc_not_empty, snoc_same}

-- the point is a statement of the function, or its exit
abbrev pub StandsIn : Program → ℕ → ℕ → Type 0
StandsIn P f p = InFunction P f p ⊎ ((f < length P.bodies) × (p ≡ exit_of P f))

-- the call on top calls f; where no call is open, f is main
pub data Calls : Program → List ℕ → ℕ → Type 0 where
  calls_none : {P : Program} {stack : List ℕ} {f : ℕ} → stack ≡ [] → f ≡ P.main → Calls P stack f
  calls_top : {P : Program} {stack : List ℕ} {f : ℕ} (below : List ℕ) (site g : ℕ)
      → stack ≡ below ++ site ∷ [] → IsStmt P site (stmt.Call f) → InFunction P g site
      → Calls P below g → Calls P stack f

-- a point and a stack that fit
pub record Fits (P : Program) (p : ℕ) (stack : List ℕ) : Type 0 where
  pub function : ℕ
  pub stands : StandsIn P function p
  pub calls : Calls P stack function

-- what a part stands in, the whole stands in
whole_in : (P : Program) → IsNumbered P → (f b n : ℕ) → IsPart P b n → InFunction P f n
    → InFunction P f b
whole_in P N f b n part (function_body is) = absurd (body_apart P N f b n is part)
whole_in P N f b n part (function_part c other up) =
    subst (λ (k : ℕ). InFunction P f k) (one_parent P N c b n other part) up

loop_in : (P : Program) → IsNumbered P → (f l n : ℕ) → InLoop P l n → InFunction P f n
    → InFunction P f l
loop_in P N f l n (loop_nearest s place is yes_s e) inside =
    whole_in P N f l n (record { stmt = s; is = is; place = place; part = e }) inside
loop_in P N f l n (loop_further b s place is no_s e up) inside =
    loop_in P N f l b up
    (whole_in P N f b n (record { stmt = s; is = is; place = place; part = e }) inside)

-- what follows a statement of a function stands in it too
next_stands : (P : Program) → IsNumbered P → (f n m : ℕ) → InFunction P f n → Next P n m
    → StandsIn P f m
next_stands P N f n m inside (next_body g is) =
    let same : g ≡ f = one_function P N g f n (function_body is) inside in
    inr (function_inside P N f n inside, ap (exit_of P) same)
next_stands P N f n m inside (next_within b s is e) =
    let whole =
    whole_in P N f b n (record { stmt = s; is = is; place = GoesTo m; part = e }) inside in
    ⊎_elim
    (λ same. inl (subst (λ (k : ℕ). InFunction P f k) (sym same) whole))
    (λ among.
    let at = part_of_parts b s m among in
    inl (function_part b (record { stmt = s; is = is; place = at.0; part = at.1 }) whole))
    (successor_of_part b s n m e)
next_stands P N f n m inside (next_whole b s is e up) =
    next_stands P N f b m
    (whole_in P N f b n (record { stmt = s; is = is; place = AfterWhole; part = e }) inside) up

-- the part at a place of a statement of the function
part_stands : (P : Program) (f n k c : ℕ) (s : Stmt) → IsStmt P n s → InFunction P f n
    → slice_get (parts_of s) k ≡ Some c → InFunction P f c
part_stands P f n k c s is inside e =
    let at = part_of_place n s k c e in
    function_part n (record { stmt = s; is = is; place = at.0; part = at.1 }) inside

-- where the stack stays as it is
stays : (P : Program) (f m : ℕ) (old new : List ℕ) → StandsIn P f m → new ≡ old → Calls P old f
    → Fits P m new
stays P f m old new stands same calls = record {
  function = f;
  stands = stands;
  calls = subst (λ stack. Calls P stack f) (sym same) calls;
}

as_act : (a b : Act) (old new : List ℕ) → a ≡ b → StepsStack a old new → StepsStack b old new
as_act a b old new e stack = subst (λ (x : Act). StepsStack x old new) e stack

statement_fits : (P : Program) → IsWellFormed P → (f n : ℕ) (s : Stmt) (a : Act) (m : ℕ)
    (old new : List ℕ) → IsStmt P n s → InFunction P f n → MovesAt P n s a m
    → StepsStack a old new → Calls P old f → Fits P m new
statement_fits P W f n (stmt.Block []) a m old new is inside x stack calls =
    stays P f m old new (next_stands P W.numbered f n m inside x.1)
    (as_act a act.Skip old new x.0 stack) calls
statement_fits P W f n (stmt.Block (item ∷ items)) a m old new is inside x stack calls =
    stays P f m old new
    (inl (part_stands P f n 0 m (stmt.Block (item ∷ items)) is inside (ap Some (sym x.1))))
    (as_act a act.Skip old new x.0 stack) calls
statement_fits P W f n (stmt.If test first second) a m old new is inside x stack calls =
    ⊎_elim
    (λ yes. stays P f m old new
    (inl (part_stands P f n 0 m (stmt.If test first second) is inside (ap Some (sym yes.1))))
    (as_act a (act.Assume test true) old new yes.0 stack) calls)
    (λ no. stays P f m old new
    (inl (part_stands P f n 1 m (stmt.If test first second) is inside (ap Some (sym no.1))))
    (as_act a (act.Assume test false) old new no.0 stack) calls)
    x
statement_fits P W f n (stmt.Loop body step) a m old new is inside x stack calls =
    stays P f m old new
    (inl (part_stands P f n 0 m (stmt.Loop body step) is inside (ap Some (sym x.1))))
    (as_act a act.Skip old new x.0 stack) calls
statement_fits P W f n (stmt.Assign base len index value) a m old new is inside x stack calls =
    stays P f m old new (next_stands P W.numbered f n m inside x.1)
    (as_act a (act.Assign base len index value) old new x.0 stack) calls
statement_fits P W f n (stmt.Input cell) a m old new is inside x stack calls =
    stays P f m old new (next_stands P W.numbered f n m inside x.1)
    (as_act a (act.Input cell) old new x.0 stack) calls
statement_fits P W f n (stmt.Call function) a m old new is inside x stack calls = record {
  function = function;
  stands = inl (function_body x.1);
  calls = calls_top old n f (as_act a (act.Call n) old new x.0 stack) is inside calls;
}
statement_fits P W f n (stmt.Goto to) a m old new is inside x stack calls =
    let there = W.sound n (stmt.Goto to) is f inside in
    stays P f m old new (inl (subst (λ (k : ℕ). InFunction P f k) (sym x.1) there.1))
    (as_act a act.Skip old new x.0 stack) calls
statement_fits P W f n stmt.Break a m old new is inside x stack calls =
    stays P f m old new
    (next_stands P W.numbered f x.1 m (loop_in P W.numbered f x.1 n x.2 inside) x.3)
    (as_act a act.Skip old new x.0 stack) calls
statement_fits P W f n stmt.Continue a m old new is inside x stack calls =
    stays P f m old new
    (inl (part_stands P f x.1 1 m (stmt.Loop x.2 m) x.4
    (loop_in P W.numbered f x.1 n x.3 inside) refl))
    (as_act a act.Skip old new x.0 stack) calls
statement_fits P W f n stmt.Leave a m old new is inside x stack calls =
    let same : x.1 ≡ f = one_function P W.numbered x.1 f n x.2 inside in
    stays P f m old new
    (inr (function_inside P W.numbered f n inside, x.3 ∙ ap (exit_of P) same))
    (as_act a act.Skip old new x.0 stack) calls
statement_fits P W f n stmt.Stop a m old new is inside x stack calls = absurd x
statement_fits P W f n stmt.Error a m old new is inside x stack calls = absurd x

-- a return leads back into the function of the call
return_fits : (P : Program) → IsWellFormed P → (f site m : ℕ) (old new : List ℕ)
    → old ≡ new ++ site ∷ [] → Next P site m → Calls P old f → Fits P m new
return_fits P W f site m old new top next (calls_none none main) =
    let e : new ++ site ∷ [] ≡ [] = sym top ∙ none in
    absurd (snoc_not_empty new site (sym e))
return_fits P W f site m old new top next (calls_top below call g at is inside up) =
    let same = snoc_same below new call site (sym at ∙ top) in
    let here = subst (λ (k : ℕ). InFunction P g k) same.1 inside in
    record {
      function = g;
      stands = next_stands P W.numbered g site m here next;
      calls = subst (λ stack. Calls P stack g) same.0 up;
    }

-- a move and the stack that it leaves fit again
pub moves_fit : (P : Program) → IsWellFormed P → (p : ℕ) (a : Act) (q : ℕ) (old new : List ℕ)
    → Moves P p a q → StepsStack a old new → Fits P p old → Fits P q new
moves_fit P W p a q old new (at_statement s is move) stack fits =
    let below = slice_get_within P.stmts p s is in
    ⊎_elim
    (λ inside. statement_fits P W fits.function p s a q old new is inside move stack fits.calls)
    (λ exit. absurd (omega (arith, below, exit.1)))
    fits.stands
moves_fit P W p a q old new (at_exit f within at x) stack fits =
    let top = as_act a (act.Return x.1) old new x.3 stack in
    return_fits P W fits.function x.1 q old new top x.4 fits.calls

-- along an execution the point and the stack fit
pub fits_along : (P : Program) → IsWellFormed P → (s : State) (states : List State)
    → IsChain (Step P) s states → Fits P s.point s.stack
    → Fits P (last_of s states).point (last_of s states).stack
fits_along P W s [] chain fits = fits
fits_along P W s (t ∷ states) (step, chain) fits =
    fits_along P W t states chain
    (moves_fit P W s.point step.act t.point s.stack t.stack step.point step.stack fits)

-- and so they do at its beginning
pub fits_first : (P : Program) → IsWellFormed P → Fits P (initial_of P).point (initial_of P).stack
fits_first P W = record {
  function = P.main;
  stands = inl (function_body (slice_get-get_or P.bodies P.main 0 W.main));
  calls = calls_none refl refl;
}
