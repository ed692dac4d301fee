-- The chain of a line, followed in the table of marks.
use Rattle.std.proofs.Common.{◌≡◌, ℕ, ◌*◌, ◌<◌, List, [], ◌∷◌, Bool}
use Rattle.std.proofs.Common.{true, false, not, ◌&&◌, ◌||◌, ◌⊎◌, inl, inr, length}
use Rattle.std.proofs.Common.{refl, sym, ap, ◌∙◌, subst, arith, Some, None}
use Rattle.std.specs.Prelude.{slice_index_or}
use Rattle.std.specs.List.{AllByRecursion, list_any}
use Rattle.std.proofs.lemmas.Bool.{or_cases, true≢false, false≢true, cases_Bool}
use Rattle.std.specs.Cmp.{both_ways as both_true}
use Rattle.cpa_cnf.specs.declared.formula.Step.{Step}
use Rattle.cpa_cnf.specs.declared.formula.Line.{Line}
use Rattle.cpa_cnf.specs.Clauses.{has, IsClause}
use Rattle.cpa_cnf.specs.Resolution.{clash_on, IsResolvent}
use Rattle.cpa_cnf.specs.Lines.{Gives, IsInRange, IsGoodLine}
use Rattle.cpa_cnf.specs.Marking.{marked, HasBeyond, IsMarkedAs, IsMarkedResolvent, is_touched}
use Rattle.cpa_cnf.specs.Marking.{AreTouched, Reaches, ReachesNone}
use Rattle.cpa_cnf.specs.lemmas.Members.{or_true_left, or_true_right}
use Rattle.cpa_cnf.specs.lemmas.Chains.{same_members, resolvent_unique, chain_unique, clash_below}
use Rattle.cpa_cnf.specs.lemmas.Chains.{union_keeps_second, ends_beyond, listed_marks, clash_same}
use Rattle.cpa_cnf.specs.lemmas.Chains.{union_same}

-- the clause of a step
abbrev pub step_clause : List (List ℕ) → Step → List ℕ
step_clause clauses step = slice_index_or clauses step.clause []

-- the literal stands in the clause of one of the steps
abbrev pub is_named : List (List ℕ) → List Step → ℕ → Bool
is_named clauses steps l = list_any (λ (step : Step). has (step_clause clauses step) l) steps

-- steps that are the last ones of a line in range
pub record AreLast (vars : ℕ) (clauses : List (List ℕ)) (line : Line) (steps : List Step) : Type 0
  where
    pub numbers : AllByRecursion (λ (step : Step). step.clause < length clauses) steps
    pub pivots : AllByRecursion (λ (step : Step). step.pivot < vars) steps
    pub named : (l : ℕ) → is_named clauses steps l ≡ true
        → is_touched clauses line.first line.steps l ≡ true

pub all_last : (vars : ℕ) (cs : List (List ℕ)) (line : Line) → IsInRange vars cs line
    → AreLast vars cs line line.steps
all_last vars cs line range = record {
  numbers = range.numbers;
  pivots = range.pivots;
  named = λ l h. or_true_right (has (slice_index_or cs line.first []) l) _ h;
}

-- the first of the last steps, and those behind it
pub record IsNext (vars : ℕ) (clauses : List (List ℕ)) (line : Line) (step : Step)
    (steps : List Step) : Type 0 where
  pub number : step.clause < length clauses
  pub pivot : step.pivot < vars
  pub named : (l : ℕ) → has (step_clause clauses step) l ≡ true
      → is_touched clauses line.first line.steps l ≡ true
  pub behind : AreLast vars clauses line steps

pub next_of : (vars : ℕ) (cs : List (List ℕ)) (line : Line) (s : Step) (last ss : List Step)
    → last ≡ s ∷ ss → AreLast vars cs line last → IsNext vars cs line s ss
next_of vars cs line s last ss is are =
    of (subst (λ (all : List Step). AreLast vars cs line all) is are)
  where
    of : AreLast vars cs line (s ∷ ss) → IsNext vars cs line s ss
    of are = record {
      number = are.numbers.0;
      pivot = are.pivots.0;
      named = λ l h. are.named l (or_true_left (has (step_clause cs s) l) (is_named cs ss l) h);
      behind = record {
        numbers = are.numbers.1;
        pivots = are.pivots.1;
        named = λ l h. are.named l (or_true_right (has (step_clause cs s) l) (is_named cs ss l) h);
      };
    }

-- Before the last steps the marked literals are those of a clause, from which these steps give what
-- the chain gives.
pub record IsFollowed (vars : ℕ) (clauses : List (List ℕ)) (line : Line) (steps : List Step)
    (table : List Bool) : Type 0 where
  pub last : AreLast vars clauses line steps
  pub clause : List ℕ
  pub marked_as : IsMarkedAs table clause
  pub onward : (c : List ℕ) → Gives clauses (slice_index_or clauses line.first []) line.steps c
      → Gives clauses clause steps c
  pub back : (c : List ℕ) → Gives clauses clause steps c
      → Gives clauses (slice_index_or clauses line.first []) line.steps c
  pub touched : AreTouched clauses line.first line.steps table

-- the marks of the clause that the chain begins with
pub begins : (vars : ℕ) (cs : List (List ℕ)) (line : Line) (steps : List Step)
    (old table : List Bool) → steps ≡ line.steps → IsInRange vars cs line
    → ((l : ℕ) → marked old l ≡ false) → IsClause (slice_index_or cs line.first [])
    → ((l : ℕ) → marked table l ≡ (marked old l || has (slice_index_or cs line.first []) l))
    → IsFollowed vars cs line steps table
begins vars cs line steps old table all range blank sorted marks =
    let first = slice_index_or cs line.first [] in
    let same : (l : ℕ) → has first l ≡ marked table l =
    λ l. sym (marks l ∙ ap (λ b. b || has first l) (blank l)) in
    subst (λ (ss : List Step). IsFollowed vars cs line ss table) (sym all) (record {
      last = all_last vars cs line range;
      clause = first;
      marked_as = record { same = same; sorted = sorted };
      onward = λ c g. g;
      back = λ c g. g;
      touched = λ l h. or_true_left _ _ (same l ∙ h);
    })

-- the clause that the step gives, of the marks after it
stepped : (a b : List ℕ) (pivot : ℕ) (old new : List Bool) → IsMarkedAs old a
    → IsMarkedResolvent old b pivot new → (r : List ℕ) × IsMarkedAs new r × IsResolvent a b pivot r
stepped a b pivot old new marks res =
    let r = listed_marks new in (
      r.0,
      r.1,
      record {
        literal = res.literal;
        clash = clash_same (has a) (marked old) (has b) pivot marks.same ∙ res.clash;
        union = λ l. r.1.same l ∙ res.union l
            ∙ sym (union_same (has a) (marked old) (has b) res.literal l (marks.same l));
        sorted = r.1.sorted;
      },
    )

-- what is marked after one more step is touched
touches : (cs : List (List ℕ)) (line : Line) (s : Step) (old new : List Bool)
    → ((l : ℕ) → has (step_clause cs s) l ≡ true → is_touched cs line.first line.steps l ≡ true)
    → AreTouched cs line.first line.steps old
    → ((l : ℕ) → marked new l ≡ true → (marked old l || has (step_clause cs s) l) ≡ true)
    → AreTouched cs line.first line.steps new
touches cs line s old new named touched only l h =
    elim (or_cases (marked old l) (has (step_clause cs s) l) (only l h)) [
      | inl e ↦ touched l e
      | inr e ↦ named l e
    ]

pub touches_next : (vars : ℕ) (cs : List (List ℕ)) (line : Line) (s : Step) (last ss : List Step)
    (old new : List Bool) → last ≡ s ∷ ss → IsFollowed vars cs line last old
    → ((l : ℕ) → marked new l ≡ true → (marked old l || has (step_clause cs s) l) ≡ true)
    → AreTouched cs line.first line.steps new
touches_next vars cs line s last ss old new is f only =
    touches cs line s old new (next_of vars cs line s last ss is f.last).named f.touched only

pub follows : (vars : ℕ) (cs : List (List ℕ)) (line : Line) (s : Step) (last ss : List Step)
    (old new : List Bool) → last ≡ s ∷ ss → IsFollowed vars cs line last old
    → IsMarkedResolvent old (step_clause cs s) s.pivot new
    → ((l : ℕ) → marked new l ≡ true → (marked old l || has (step_clause cs s) l) ≡ true)
    → IsFollowed vars cs line ss new
follows vars cs line s last ss old new is f res only =
    let r = stepped f.clause (step_clause cs s) s.pivot old new f.marked_as res in
    record {
      last = (next_of vars cs line s last ss is f.last).behind;
      clause = r.0;
      marked_as = r.1;
      onward = λ c g.
          let here = subst (λ (all : List Step). Gives cs f.clause all c) is (f.onward c g) in
          subst (λ (q : List ℕ). Gives cs q ss c)
          (resolvent_unique f.clause (step_clause cs s) s.pivot here.0 r.0 here.1 r.2) here.2;
      back = λ c g. f.back c (subst (λ (all : List Step). Gives cs f.clause all c) (sym is) (
        r.0,
        r.2,
        g,
      ));
      touched = touches_next vars cs line s last ss old new is f only;
    }

-- the first clause has a literal beyond the variables
pub first_beyond : (vars : ℕ) (cs : List (List ℕ)) (line : Line) (table : List Bool)
    → IsInRange vars cs line → length table ≡ 2 * vars
    → HasBeyond table (slice_index_or cs line.first []) → ReachesNone vars cs line
first_beyond vars cs line table range long beyond c below chain =
    ends_beyond cs vars _ line.steps c beyond.0 range.pivots (omega (arith, beyond.1)) below chain
    beyond.2

-- a step that does not resolve, or meets a literal beyond the variables
pub step_fails : (vars : ℕ) (cs : List (List ℕ)) (line : Line) (s : Step) (last ss : List Step)
    (table : List Bool) → length table ≡ 2 * vars → last ≡ s ∷ ss
    → IsFollowed vars cs line last table
    → ((clash_on (marked table) (has (step_clause cs s)) s.pivot ≡ None)
    ⊎ HasBeyond table (step_clause cs s)) → ReachesNone vars cs line
step_fails vars cs line s last ss table long is f fails c below chain =
    let here = subst (λ (all : List Step). Gives cs f.clause all c) is (f.onward c chain) in
    let next = next_of vars cs line s last ss is f.last in
    elim fails [
      | inl none ↦ absurd (none_some here.1.literal (sym none
          ∙ sym (clash_same (has f.clause) (marked table) (has (step_clause cs s)) s.pivot
          f.marked_as.same) ∙ here.1.clash))
      | inr beyond ↦
          ends_beyond cs vars here.0 ss c beyond.0 next.behind.pivots
          (omega (arith, beyond.1)) below here.2
          (here.1.union beyond.0 ∙ union_keeps_second (has f.clause) (has (step_clause cs s))
          here.1.literal beyond.0
          (clash_below (has f.clause) (has (step_clause cs s)) s.pivot here.1.literal beyond.0
          here.1.clash (omega (arith, beyond.1, next.pivot))).1 beyond.2)
    ]
  where
    none_some : (z : ℕ) → None ≡ Some z → ⊥
    none_some z e = cc

pub reached : (vars : ℕ) (cs : List (List ℕ)) (line : Line) (steps : List Step) (table : List Bool)
    → length steps ≡ 0 → IsFollowed vars cs line steps table → Reaches cs line table
reached vars cs line [] table none f = (f.clause, f.marked_as, f.back f.clause refl)
reached vars cs line (s ∷ ss) table none f = absurd (omega (arith, none))

-- None of what the last steps name is marked, so nothing that is touched is.
abbrev pub AreUnmarked : (cs : List (List ℕ)) → Line → List Step → List Bool → Type 0
AreUnmarked cs line steps table = ((l : ℕ) → is_named cs steps l ≡ true → marked table l ≡ false)
    → (l : ℕ) → is_touched cs line.first line.steps l ≡ true → marked table l ≡ false

pub unmarked_first : (cs : List (List ℕ)) (line : Line) (steps : List Step) (table : List Bool)
    → steps ≡ line.steps
    → ((l : ℕ) → has (slice_index_or cs line.first []) l ≡ true → marked table l ≡ false)
    → AreUnmarked cs line steps table
unmarked_first cs line steps table all first rest l h =
    elim (or_cases (has (slice_index_or cs line.first []) l) (is_named cs line.steps l) h) [
      | inl e ↦ first l e
      | inr e ↦ rest l (subst (λ (ss : List Step). is_named cs ss l ≡ true) (sym all) e)
    ]

pub unmarked_next : (cs : List (List ℕ)) (line : Line) (s : Step) (last ss : List Step)
    (table : List Bool) → last ≡ s ∷ ss → AreUnmarked cs line last table
    → ((l : ℕ) → has (step_clause cs s) l ≡ true → marked table l ≡ false)
    → AreUnmarked cs line ss table
unmarked_next cs line s last ss table is are here rest =
    are (λ l h. elim (or_cases (has (step_clause cs s) l) (is_named cs ss l)
    (subst (λ (all : List Step). is_named cs all l ≡ true) is h)) [
      | inl e ↦ here l e
      | inr e ↦ rest l e
    ])

pub unmarked_all : (cs : List (List ℕ)) (line : Line) (steps : List Step) (table : List Bool)
    → length steps ≡ 0 → AreUnmarked cs line steps table
    → (l : ℕ) → is_touched cs line.first line.steps l ≡ true → marked table l ≡ false
unmarked_all cs line [] table none are = are (λ l h. absurd (false≢true h))
unmarked_all cs line (s ∷ ss) table none are = absurd (omega (arith, none))

-- Once the marks of what the last steps name are off, those of all that is touched are.
abbrev pub AreCleared : (cs : List (List ℕ)) → Line → List Step → List Bool → List Bool → Type 0
AreCleared cs line steps old table = (l : ℕ) → (marked table l && not (is_named cs steps l))
    ≡ (marked old l && not (is_touched cs line.first line.steps l))

-- a mark that stays where neither of two takes it off
off_both : (m a b : Bool) → ((m && not a) && not b) ≡ (m && not (a || b))
off_both true true b = refl
off_both true false b = refl
off_both false a b = refl

pub clears_first : (cs : List (List ℕ)) (line : Line) (steps : List Step) (old table : List Bool)
    → steps ≡ line.steps
    → ((l : ℕ) → marked table l ≡ (marked old l && not (has (slice_index_or cs line.first []) l)))
    → AreCleared cs line steps old table
clears_first cs line steps old table all off l =
    ap (λ (ss : List Step). marked table l && not (is_named cs ss l)) all
    ∙ ap (λ b. b && not (is_named cs line.steps l)) (off l)
    ∙ off_both (marked old l) (has (slice_index_or cs line.first []) l) (is_named cs line.steps l)

pub clears_next : (cs : List (List ℕ)) (line : Line) (s : Step) (last ss : List Step)
    (old table new : List Bool) → last ≡ s ∷ ss → AreCleared cs line last old table
    → ((l : ℕ) → marked new l ≡ (marked table l && not (has (step_clause cs s) l)))
    → AreCleared cs line ss old new
clears_next cs line s last ss old table new is are off l =
    ap (λ b. b && not (is_named cs ss l)) (off l)
    ∙ off_both (marked table l) (has (step_clause cs s) l) (is_named cs ss l)
    ∙ ap (λ (all : List Step). marked table l && not (is_named cs all l)) (sym is) ∙ are l

pub clears_all : (cs : List (List ℕ)) (line : Line) (steps : List Step) (old table : List Bool)
    → length steps ≡ 0 → AreCleared cs line steps old table
    → (l : ℕ) → marked table l ≡ (marked old l && not (is_touched cs line.first line.steps l))
clears_all cs line [] old table none are l = sym (and_true (marked table l)) ∙ are l
  where
    and_true : (b : Bool) → (b && true) ≡ b
    and_true true = refl
    and_true false = refl
clears_all cs line (s ∷ ss) old table none are l = absurd (omega (arith, none))

-- The marked literals are the clause's: each of these was marked, and nothing else that was touched
-- is.
pub takes_clause : (cs : List (List ℕ)) (line : Line) (old new : List Bool)
    → AreTouched cs line.first line.steps old
    → ((l : ℕ) → marked new l ≡ (marked old l && not (has line.clause l)))
    → ((l : ℕ) → has line.clause l ≡ true → marked old l ≡ true)
    → ((l : ℕ) → is_touched cs line.first line.steps l ≡ true → marked new l ≡ false)
    → (l : ℕ) → has line.clause l ≡ marked old l
takes_clause cs line old new touched off each rest l =
    both_true (has line.clause l) (marked old l) (each l)
    (λ h. among l h (cases_Bool (has line.clause l)))
  where
    among : (l : ℕ) → marked old l ≡ true → (has line.clause l ≡ true) ⊎ (has line.clause l ≡ false)
        → has line.clause l ≡ true
    among l h (inl e) = e
    among l h (inr e) =
        absurd (true≢false (sym (off l ∙ ap (λ b. marked old l && not b) e ∙ ap (λ b. b && true) h)
        ∙ rest l (touched l h)))

-- once the clause's marks are off, none is left
pub takes_all : (cs : List (List ℕ)) (line : Line) (old new : List Bool)
    → ((l : ℕ) → marked new l ≡ (marked old l && not (has line.clause l)))
    → ((l : ℕ) → has line.clause l ≡ marked old l)
    → (l : ℕ) → is_touched cs line.first line.steps l ≡ true → marked new l ≡ false
takes_all cs line old new off same l h = off l ∙ ap (λ b. marked old l && not b) (same l)
    ∙ and_not (marked old l)
  where
    and_not : (b : Bool) → (b && not b) ≡ false
    and_not true = refl
    and_not false = refl

and_first : (a b : Bool) → (a && b) ≡ true → a ≡ true
and_first true b h = refl
and_first false b h = absurd (false≢true h)

pub fewer_touched : (cs : List (List ℕ)) (line : Line) (old new : List Bool)
    → AreTouched cs line.first line.steps old
    → ((l : ℕ) → marked new l ≡ (marked old l && not (has line.clause l)))
    → AreTouched cs line.first line.steps new
fewer_touched cs line old new touched off l h =
    touched l (and_first (marked old l) (not (has line.clause l)) (sym (off l) ∙ h))

-- what was touched is cleared, so nothing is marked
pub cleared : (cs : List (List ℕ)) (line : Line) (old new : List Bool)
    → AreTouched cs line.first line.steps old
    → ((l : ℕ) → marked new l ≡ (marked old l && not (is_touched cs line.first line.steps l)))
    → (l : ℕ) → marked new l ≡ false
cleared cs line old new touched off l = go (cases_Bool (marked old l))
  where
    go : (marked old l ≡ true) ⊎ (marked old l ≡ false) → marked new l ≡ false
    go (inl e) = off l ∙ ap (λ b. marked old l && not b) (touched l e) ∙ ap (λ b. b && false) e
    go (inr e) = off l ∙ ap (λ b. b && not (is_touched cs line.first line.steps l)) e

-- the line is good where the chain ends with its clause, and only there
pub good_line : (vars : ℕ) (cs : List (List ℕ)) (line : Line) (table : List Bool)
    → IsInRange vars cs line → IsClause line.clause
    → Reaches cs line table → ((l : ℕ) → has line.clause l ≡ marked table l)
    → IsGoodLine vars cs line
good_line vars cs line table range sorted reach same =
    let is : reach.0 ≡ line.clause =
    same_members 0 0 reach.0 line.clause reach.1.sorted sorted (λ l. reach.1.same l
    ∙ sym (same l)) in
    record {
      range = range;
      chain = subst
          (λ (c : List ℕ). Gives cs (slice_index_or cs line.first []) line.steps c) is reach.2;
    }

pub same_marks : (vars : ℕ) (cs : List (List ℕ)) (line : Line) (table : List Bool)
    → Reaches cs line table → IsGoodLine vars cs line
    → (l : ℕ) → has line.clause l ≡ marked table l
same_marks vars cs line table reach good l =
    let is : line.clause ≡ reach.0 =
    chain_unique cs _ line.steps line.clause reach.0 good.chain reach.2 in
    ap (λ (c : List ℕ). has c l) is ∙ reach.1.same l
