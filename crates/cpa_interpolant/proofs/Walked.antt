-- One cut more on the way, and what is there at its end.
use Rattle.std.proofs.Common.{◌≡◌, ℕ, zero, suc, ◌+◌, ◌<◌, ◌≤◌, ℤ, List, [], ◌∷◌, ◌++◌, length}
use Rattle.std.proofs.Common.{drop, map}
use Rattle.std.proofs.Common.{Some, slice_get, get_or, refl, sym, ap, ◌∙◌, subst, arith}
use Rattle.std.proofs.Common.{true, false}
use Rattle.std.specs.Prelude.{◌==◌}
use Rattle.std.proofs.lemmas.Bool.{eqb-true, eq-eqb}
use Rattle.std.specs.List.{AllByRecursion}
use Rattle.std.proofs.lemmas.List.{length_push}
use Rattle.cpa_ints.specs.Integers.{IsInRange}
use Rattle.cpa_expr.specs.declared.tree.Expr.{Expr}
use Rattle.cpa_model.specs.declared.program.Cell.{Cell}
use Rattle.cpa_model.specs.declared.automaton.Act.{Act}
use Rattle.cpa_model.specs.declared.automaton.Edge.{Edge}
use Rattle.cpa_model.specs.declared.automaton.Cfa.{Cfa}
use Rattle.cpa_model.specs.Automata.{IsAutomaton}
use Rattle.cpa_model.specs.Expressions.{IsExpr}
use Rattle.cpa_form_rules.specs.Laws.{starts_fit}
use Rattle.cpa_folds.specs.Along.{acts_along}
use Rattle.cpa_interpolant_rules.specs.Stores.{IsStore, RunsFrom}
use Rattle.cpa_interpolant_rules.specs.Interpolants.{AreNext, HasNoRun, LeadOn}
use Rattle.cpa_interpolant_rules.specs.Interpolants.{last_of, one}
use Rattle.cpa_interpolant_rules.specs.Interpolants.{zero as nothing}
use Rattle.cpa_interpolant_rules.specs.Laws.{interpolants_leave_no_run}
use Rattle.cpa_interpolant_answers.specs.declared.answer.Answer.{Answer}
use Rattle.cpa_interpolant_answers.specs.declared.answer.Answer.TheVariants as answer
use Rattle.cpa_interpolant_rules.specs.Found.{weight_at, AreLight, IsLight, AreFound}
use Rattle.cpa_interpolant_answers.specs.Answers.{IsAnswer, IsNextBehind, HasRun}
use Rattle.cpa_interpolant_rules.specs.lemmas.Keeping.{edge_there, edge_in}
use Rattle.cpa_interpolant_rules.specs.lemmas.Paths.{last_at, acts_of, acts_long, one_is_expr}
use Rattle.cpa_interpolant.specs.Along.{AreDone, Stops}
use Rattle.cpa_interpolant.specs.Walked.{AreBehind, IsWalked, IsNextAnswer, RunsIfRun}

-- ---- lists

last_more : (e : Expr) (fs : List Expr) (f : Expr) → last_of e (fs ++ f ∷ []) ≡ f
last_more e [] f = refl
last_more e (g ∷ fs) f = last_more g fs f

pub one_more : (exprs more : List Expr) (f : Expr) → more ≡ exprs ++ f ∷ []
    → length more ≡ suc (length exprs)
one_more exprs more f is =
    let long = ap length is ∙ length_push exprs f in omega (arith, long)

-- ---- acts along a path

-- the acts from the next edge on
pub acts_on : (cfa : Cfa) (path : List ℕ) (i : ℕ) (g : Edge)
    → AllByRecursion (λ n. n < length cfa.edges) path → i < length path
    → slice_get cfa.edges (get_or path i 0) ≡ Some g
    → drop i (acts_along cfa path) ≡ g.act ∷ acts_along cfa (drop (suc i) path)
acts_on cfa [] i g inside less at = absurd (omega (arith, less))
acts_on cfa (n ∷ ns) zero g inside less at = acts_of cfa n ns g at
acts_on cfa (n ∷ ns) (suc i) g inside less at =
    let h = edge_there cfa n inside.0 in
    ap (drop (suc i)) (acts_of cfa n ns h.0 h.1)
    ∙ acts_on cfa ns i g inside.1 (omega (arith, less)) at

-- ---- expressions so far

module _ (cfa : Cfa) (learnt gates : ℕ) where
  -- one cut more
  behind_more : (acts : List Act) (e : Expr) (fs : List Expr) (a : Act) (rest : List Act) (f : Expr)
      → AreBehind cfa learnt gates acts e fs → drop (length fs) acts ≡ a ∷ rest
      → IsNextBehind cfa learnt gates (last_of e fs) a rest f
      → AreBehind cfa learnt gates acts e (fs ++ f ∷ [])
  behind_more [] e [] a rest f are at is = absurd (cc)
  behind_more (b ∷ acts) e [] a rest f are at is =
      (subst (λ (all : List Act). First e f all) (sym at) is, tt)
    where
      First : Expr → Expr → List Act → Type 0
      First e f [] = ⊥
      First e f (b ∷ acts) = IsNextBehind cfa learnt gates e b acts f
  behind_more [] e (g ∷ fs) a rest f are at is = absurd are
  behind_more (b ∷ acts) e (g ∷ fs) a rest f are at is =
      (are.0, behind_more acts g fs a rest f are.1 at is)

  are_next : (acts : List Act) (e : Expr) (fs : List Expr) → AreBehind cfa learnt gates acts e fs
      → AreNext cfa.cells acts e fs
  are_next acts e [] are = tt
  are_next [] e (f ∷ fs) are = absurd are
  are_next (a ∷ acts) e (f ∷ fs) are = (are.0.next, are_next acts f fs are.1)

  are_done : (acts : List Act) (e : Expr) (fs : List Expr) → AreBehind cfa learnt gates acts e fs
      → AreDone cfa learnt gates acts e fs
  are_done acts e [] are = tt
  are_done [] e (f ∷ fs) are = absurd are
  are_done (a ∷ acts) e (f ∷ fs) are = (are.0.done, are_done acts f fs are.1)

  are_light : (acts : List Act) (e : Expr) (fs : List Expr) → AreBehind cfa learnt gates acts e fs
      → AreLight cfa.cells gates acts e fs
  are_light acts e [] are = tt
  are_light [] e (f ∷ fs) are = absurd are
  are_light (a ∷ acts) e (f ∷ fs) are = (are.0.done.weighs, are_light acts f fs are.1)

  last_is_expr : (acts : List Act) (e : Expr) (fs : List Expr)
      → AreBehind cfa learnt gates acts e fs → IsExpr cfa.cells e → IsExpr cfa.cells (last_of e fs)
  last_is_expr acts e [] are is = is
  last_is_expr [] e (f ∷ fs) are is = absurd are
  last_is_expr (a ∷ acts) e (f ∷ fs) are is = last_is_expr acts f fs are.1 are.0.expr

  all_exprs : (acts : List Act) (e : Expr) (fs : List Expr)
      → AreBehind cfa learnt gates acts e fs → AllByRecursion (IsExpr cfa.cells) fs
  all_exprs acts e [] are = tt
  all_exprs [] e (f ∷ fs) are = absurd are
  all_exprs (a ∷ acts) e (f ∷ fs) are = (are.0.expr, all_exprs acts f fs are.1)

  -- behind a cut there is no run
  last_ends : (acts : List Act) (e f : Expr) (fs : List Expr)
      → AreBehind cfa learnt gates acts e (f ∷ fs)
      → HasNoRun cfa.cells (drop (length (f ∷ fs)) acts) (last_of f fs)
  last_ends [] e f fs are = absurd are
  last_ends (a ∷ acts) e f [] are = are.0.next.ends
  last_ends (a ∷ acts) e f (g ∷ fs) are = last_ends acts f g fs are.1

  -- behind the last edge it is 0
  last_zero : (acts : List Act) (e f : Expr) (fs : List Expr)
      → AreBehind cfa learnt gates acts e (f ∷ fs) → length (f ∷ fs) ≡ length acts
      → last_of f fs ≡ nothing
  last_zero [] e f fs are long = absurd are
  last_zero (a ∷ []) e f [] are long = are.0.done.expr
  last_zero (a ∷ b ∷ acts) e f [] are long = absurd (omega (arith, long))
  last_zero (a ∷ acts) e f (g ∷ fs) are long = last_zero acts f g fs are.1 (omega (arith, long))

  lead_on : (acts : List Act) (e : Expr) (fs : List Expr) → AreBehind cfa learnt gates acts e fs
      → length fs ≡ length acts → LeadOn cfa.cells acts e fs
  lead_on [] e [] are long = refl
  lead_on [] e (f ∷ fs) are long = absurd are
  lead_on (a ∷ acts) e [] are long = absurd (omega (arith, long))
  lead_on (a ∷ acts) e (f ∷ fs) are long =
      (are.0.next.leads, lead_on acts f fs are.1 (omega (arith, long)))

  -- ---- what the answer at a cut makes of it

  pub step_on : (acts : List Act) (exprs more : List Expr) (f : Expr)
      → IsNextAnswer cfa learnt gates acts exprs (answer.Next f) → more ≡ exprs ++ f ∷ []
      → IsWalked cfa learnt gates acts more
  step_on acts exprs more f at is = record {
    behind = at.walked.behind ++ f ∷ [];
    are = is ∙ ap (λ es. es ++ f ∷ []) at.walked.are;
    cuts = behind_more acts one at.walked.behind at.act at.rest f at.walked.cuts at.next at.is;
  }

  pub stops : (acts : List Act) (exprs : List Expr) (found : Answer) (cut : ℕ)
      (stop : Expr → Act → List Act → Type 0)
      → (at : IsNextAnswer cfa learnt gates acts exprs found) → cut ≡ length exprs
      → stop (last_of one at.walked.behind) at.act at.rest
      → Stops cfa learnt gates acts exprs cut stop
  stops acts exprs found cut stop at count is = record {
    are = record {
      behind = at.walked.behind;
      are = at.walked.are;
      next = are_next acts one at.walked.behind at.walked.cuts;
    };
    done = are_done acts one at.walked.behind at.walked.cuts;
    count = count;
    act = at.act;
    behind = at.rest;
    next = at.next;
    stops = is;
  }

  -- a run through a cut is one along the path: behind the first cut there is none
  run_along : (acts : List Act) (fs : List Expr) (a : Act) (rest : List Act)
      → AreBehind cfa learnt gates acts one fs → drop (length fs) acts ≡ a ∷ rest
      → HasRun cfa.cells (a ∷ rest) (last_of one fs)
      → (first : List ℤ) × RunsFrom cfa.cells acts first
  run_along acts [] a rest are at run =
      (run.store, subst (λ all. RunsFrom cfa.cells all run.store) (sym at) run.run)
  run_along acts (f ∷ fs) a rest are at run =
      absurd (last_ends acts one f fs are run.store run.holds
      (subst (λ all. RunsFrom cfa.cells all run.store) (sym at) run.run))

  pub runs_if_run : (acts : List Act) (exprs : List Expr) (found : Answer)
      → IsNextAnswer cfa learnt gates acts exprs found → RunsIfRun cfa.cells acts found
  runs_if_run acts exprs (answer.Next f) at = tt
  runs_if_run acts exprs answer.Run at =
      run_along acts at.walked.behind at.act at.rest at.walked.cuts at.next at.is.1
  runs_if_run acts exprs (answer.Learnt lines) at = tt
  runs_if_run acts exprs (answer.Gates weight) at = tt
  runs_if_run acts exprs (answer.Large lines) at = tt

  -- which weighs as little as was allowed
  run_light : (acts : List Act) (fs : List Expr) (a : Act) (rest : List Act)
      → AreBehind cfa learnt gates acts one fs → drop (length fs) acts ≡ a ∷ rest
      → HasRun cfa.cells (a ∷ rest) (last_of one fs)
      → weight_at cfa.cells (last_of one fs) a rest ≤ gates → IsLight cfa.cells gates acts
  run_light acts [] a rest are at run light = subst (IsLight cfa.cells gates) (sym at) light
  run_light acts (f ∷ fs) a rest are at run light =
      absurd (last_ends acts one f fs are run.store run.holds
      (subst (λ all. RunsFrom cfa.cells all run.store) (sym at) run.run))

  pub light_if_run : (acts : List Act) (exprs : List Expr)
      → IsNextAnswer cfa learnt gates acts exprs answer.Run → IsLight cfa.cells gates acts
  light_if_run acts exprs at =
      run_light acts at.walked.behind at.act at.rest at.walked.cuts at.next at.is.1 at.is.0

  pub first_walked : (acts : List Act) (exprs : List Expr) → exprs ≡ one ∷ []
      → IsWalked cfa learnt gates acts exprs
  first_walked acts exprs is = record { behind = []; are = is; cuts = tt }

  -- the answer with the last expression so far
  pub next_answer : (acts : List Act) (exprs : List Expr) (i : ℕ) (d : Expr) (a : Act)
      (rest : List Act) (found : Answer) → IsWalked cfa learnt gates acts exprs
      → length exprs ≡ suc i → drop i acts ≡ a ∷ rest
      → IsAnswer cfa learnt gates (get_or exprs i d) a rest found
      → IsNextAnswer cfa learnt gates acts exprs found
  next_answer acts exprs i d a rest found walked long at is =
      let fs = walked.behind in
      let count : length fs ≡ i =
      same_suc (sym (ap length walked.are) ∙ long) in
      record {
        walked = walked;
        act = a;
        rest = rest;
        next = ap (λ n. drop n acts) count ∙ at;
        is = subst (λ e. IsAnswer cfa learnt gates e a rest found)
            (ap (λ es. get_or es i d) walked.are
            ∙ (ap (λ n. get_or (one ∷ fs) n d) (sym count) ∙ last_at one d fs)) is;
      }
    where
      same_suc : {n m : ℕ} → suc n ≡ suc m → n ≡ m
      same_suc same = omega (arith, same)

  pub last_expr : (acts : List Act) (exprs : List Expr) (i : ℕ) (d : Expr)
      → IsWalked cfa learnt gates acts exprs → length exprs ≡ suc i → IsExpr cfa.cells one
      → IsExpr cfa.cells (get_or exprs i d)
  last_expr acts exprs i d walked long first =
      let fs = walked.behind in
      let count : i ≡ length fs = same_suc (sym long ∙ ap length walked.are) in
      subst (IsExpr cfa.cells)
      (sym (ap (λ es. get_or es i d) walked.are
      ∙ (ap (λ n. get_or (one ∷ fs) n d) count ∙ last_at one d fs)))
      (last_is_expr acts one fs walked.cuts first)
    where
      same_suc : {n m : ℕ} → suc n ≡ suc m → n ≡ m
      same_suc same = omega (arith, same)

  -- ---- the end

  ends_with_zero : (acts : List Act) (fs : List Expr) → AreBehind cfa learnt gates acts one fs
      → length fs ≡ length acts → 0 < length acts → last_of one fs ≡ nothing
  ends_with_zero acts [] are long some = absurd (omega (arith, long, some))
  ends_with_zero acts (f ∷ fs) are long some = last_zero acts one f fs are long

  pub all_found : (acts : List Act) (exprs : List Expr) → IsExpr cfa.cells one
      → IsWalked cfa learnt gates acts exprs
      → length exprs ≡ length acts + 1 → 0 < length acts → AreFound cfa.cells gates acts exprs
  all_found acts exprs first walked long some =
      let fs = walked.behind in
      let whole : suc (length fs) ≡ length exprs = sym (ap length walked.are) in
      let count : length fs ≡ length acts = omega (arith, whole, long) in
      let last = ends_with_zero acts fs walked.cuts count some in
      record {
        are = record {
          interpolants = record {
            behind = fs;
            are = walked.are;
            next = are_next acts one fs walked.cuts;
          };
          long = long;
          last = last;
          none = interpolants_leave_no_run cfa.cells acts one fs
              (lead_on acts one fs walked.cuts count) last;
        };
        light = are_light acts one fs walked.cuts;
        typed = subst (AllByRecursion (IsExpr cfa.cells)) (sym walked.are)
            (first, all_exprs acts one fs walked.cuts);
      }

-- any store is there from which no edge is taken
pub starts_there : (cfa : Cfa) → IsAutomaton cfa → (path : List ℕ) → path ≡ []
    → (first : List ℤ) × RunsFrom cfa.cells (acts_along cfa path) first
starts_there cfa automaton path none =
    let starts : IsStore cfa.cells (map (λ cell. cell.start) cfa.cells) =
    starts_fit cfa.cells (subst (AllByRecursion (λ (c : Cell). IsInRange c.ty c.start))
    (sym automaton.automaton.cells) automaton.well_formed.starts) in (
      map (λ cell. cell.start) cfa.cells,
      subst (λ (ns : List ℕ). RunsFrom cfa.cells (acts_along cfa ns)
          (map (λ cell. cell.start) cfa.cells)) (sym none) starts,
    )

-- ---- a path that is empty, and one that is not

from_length : (path : List ℕ) → length path ≡ 0 → path ≡ []
from_length [] h = refl
from_length (n ∷ path) h = absurd (omega (arith, h))

pub none_of : (path : List ℕ) → true ≡ (length path == 0) → path ≡ []
none_of path h = from_length path (eqb-true (length path) 0 (sym h))

some_of : (path : List ℕ) → false ≡ (length path == 0) → 0 < length path
some_of [] h = let both : false ≡ true = h ∙ eq-eqb 0 0 refl in absurd (cc)
some_of (n ∷ path) h = omega arith

pub some_long : (cfa : Cfa) (path : List ℕ) → AllByRecursion (λ n. n < length cfa.edges) path
    → false ≡ (length path == 0) → 0 < length (acts_along cfa path)
some_long cfa path inside h =
    let count = acts_long cfa path inside in
    let some = some_of path h in
    omega (arith, count, some)

-- ---- the path behind the next cut

-- what is answered at a place of the path is the answer at the next cut
pub at_next : (cfa : Cfa) (learnt gates : ℕ) (path : List ℕ) (exprs : List Expr) (i k : ℕ)
    (rest : List ℕ) (e : Expr) (found : Answer)
    → IsWalked cfa learnt gates (acts_along cfa path) exprs
    → length exprs ≡ suc i → AllByRecursion (λ n. n < length cfa.edges) path → i < length path
    → k ≡ suc i → rest ≡ drop k path → e ≡ get_or exprs i e
    → ((g : Edge) → slice_get cfa.edges (get_or path i 0) ≡ Some g
    → IsAnswer cfa learnt gates e g.act (acts_along cfa rest) found)
    → IsNextAnswer cfa learnt gates (acts_along cfa path) exprs found
at_next cfa learnt gates path exprs i k rest e found walked long inside less next whole own told =
    let (g, is) = edge_there cfa (get_or path i 0)
    (edge_in (length cfa.edges) path i inside less) in
    next_answer cfa learnt gates (acts_along cfa path) exprs i e g.act
    (acts_along cfa rest) found walked long
    (acts_on cfa path i g inside less is
    ∙ ap (λ ns. g.act ∷ acts_along cfa ns) (sym (whole ∙ ap (λ m. drop m path) next)))
    (subst (λ f. IsAnswer cfa learnt gates f g.act (acts_along cfa rest) found) own (told g is))

-- the expression there is one over the cells
pub expr_there : (cfa : Cfa) (learnt gates : ℕ) (acts : List Act) (exprs : List Expr) (i : ℕ)
    (e : Expr) → IsWalked cfa learnt gates acts exprs → length exprs ≡ suc i
    → e ≡ get_or exprs i e → IsExpr cfa.cells e
expr_there cfa learnt gates acts exprs i e walked long own =
    subst (IsExpr cfa.cells) (sym own)
    (last_expr cfa learnt gates acts exprs i e walked long (one_is_expr cfa.cells))

pub later : (n m i : ℕ) → n ≡ suc m → m ≡ suc i → n ≡ suc (i + 1)
later n m i one two = omega (arith, one, two)
