-- What the answer to an obligation's query says of it, and what the answers to all of them say of
-- the entries.
use Rattle.std.proofs.Common.{◌≡◌, ℕ, ◌+◌, ◌<◌, ◌≤◌, List, [], ◌∷◌, ◌++◌, map}
use Rattle.std.proofs.Common.{length, take, Some}
use Rattle.std.proofs.Common.{slice_get, refl, sym, ap, ◌∙◌, subst, arith, zero-add}
use Rattle.std.specs.List.{AllByRecursion, AllZip}
use Rattle.std.proofs.lemmas.List.{take_all, take_more}
use Rattle.std.proofs.lemmas.Option.{get_or_from_slice_get, slice_get_within}
use Rattle.cpa_cnf.specs.declared.formula.Line.{Line}
use Rattle.cpa_iface.specs.Meanings.{AreShaped}
use Rattle.cpa_model.specs.declared.automaton.Cfa.{Cfa}
use Rattle.cpa_model.specs.declared.facts.Elem.{Elem}
use Rattle.cpa_model.specs.Automata.{IsAutomaton}
use Rattle.cpa_model.specs.Facts.{IsElem, IsFact}
use Rattle.cpa_query.specs.declared.query.Query.{Query}
use Rattle.cpa_query.specs.Queries.{IsModel, IsQuery}
use Rattle.cpa_sat.specs.Outcomes.{IsRefutedWithin, IsSpent}
use Rattle.cpa_blast.specs.Formulas.{formula}
use Rattle.cpa_form_rules.specs.Forms.{Form}
use Rattle.cpa_form_rules.specs.lemmas.Lists.{all_both, zip_more}
use Rattle.cpa_solver.specs.Decisions.{HasNoModel}
use Rattle.cpa_recheck_obligations.specs.declared.listing.Obligation.{Obligation}
use Rattle.cpa_recheck_obligations.specs.Spots.{as_one, joined}
use Rattle.cpa_recheck_obligations.specs.Obligations.{obligations}
use Rattle.cpa_recheck_obligations.specs.Meeting.{IsMet}
use Rattle.cpa_recheck_obligations.specs.Forms.{form_at, IsRunless}
use Rattle.cpa_recheck_obligations.specs.Laws.{AreShapedFor, RunlessIsMet, UnmodelledIsMet}
use Rattle.cpa_recheck_obligations.specs.Laws.{form_is}
use Rattle.cpa_recheck_obligations.specs.Laws.{obligations_are_covers}
use Rattle.cpa_recheck_obligations.specs.lemmas.Places.{all_flat, all_map, all_so}
use Rattle.cpa_recheck.specs.declared.checking.Budget.{Budget}
use Rattle.cpa_recheck.specs.declared.checking.Why.{Why}
use Rattle.cpa_recheck.specs.declared.checking.Why.TheVariants as why
use Rattle.cpa_recheck.specs.declared.checking.Keeping.{Keeping}
use Rattle.cpa_recheck.specs.declared.checking.Keeping.TheVariants.{Refutations, Nothing}
use Rattle.cpa_recheck.specs.declared.checking.Settled.{Settled}
use Rattle.cpa_recheck.specs.declared.checking.Settled.TheVariants as settled
use Rattle.cpa_recheck.specs.declared.checking.Part.{Part}
use Rattle.cpa_recheck.specs.declared.checking.Part.TheVariants as part
use Rattle.cpa_recheck.specs.Checks.{IsShown, StopsAt, StopsIn, IsConfirmed, IsMetWithin, IsSpared}
use Rattle.cpa_recheck.specs.Checks.{IsSettled, IsSettledFor, IsPart, IsWalk, AreMet}

pub may_ask : (cfa : Cfa) (entries : List Elem) (o : Obligation) (form : Form) (query : Query)
    → IsAutomaton cfa → AreShapedFor cfa entries → form ≡ form_at cfa entries o
    → query ≡ form.query → IsQuery query
may_ask cfa entries o form query automaton shaped is query_is =
    subst IsQuery (sym (query_is ∙ ap (λ (f : Form). f.query) is))
    (form_is cfa entries o automaton shaped).asked

module _ (cfa : Cfa) (entries : List Elem) (es : List (List Elem)) (o : Obligation) (form : Form)
    (is : form ≡ form_at cfa entries o) (are : entries ≡ as_one es) where
  whole : form ≡ form_at cfa (as_one es) o
  whole = is ∙ ap (λ (xs : List Elem). form_at cfa xs o) are

  pub heavy : (budget : Budget) (weight : ℕ) → weight ≡ form.weight → budget.gates < weight
      → StopsAt cfa es budget o (why.Gates weight)
  heavy budget weight weight_is more = (weight_is ∙ ap (λ (f : Form). f.weight) whole, more)

  asks : (query : Query) → query ≡ form.query → query ≡ (form_at cfa (as_one es) o).query
  asks query query_is = query_is ∙ ap (λ (f : Form). f.query) whole

  pub shown : (law : UnmodelledIsMet) (query : Query) (learnt : ℕ) (log : List Line)
      → IsAutomaton cfa → AreShapedFor cfa entries → query ≡ form.query
      → IsRefutedWithin (formula query) learnt log × HasNoModel query
      → IsShown cfa es learnt o log
  shown law query learnt log automaton shaped query_is decided =
      let same = asks query query_is in
      record {
        refuted = subst (λ (q : Query). IsRefutedWithin (formula q) learnt log) same decided.0;
        met = law cfa es o automaton (subst (AreShapedFor cfa) are shaped)
            (λ values model. decided.1 values
            (subst (λ (q : Query). IsModel q values) (sym same) model));
      }

  pub spent : (query : Query) (learnt gates : ℕ) (log : List Line) → query ≡ form.query
      → form.weight ≤ gates → IsSpent (formula query) learnt log
      → ((form_at cfa (as_one es) o).weight ≤ gates)
      × IsSpent (formula (form_at cfa (as_one es) o).query) learnt log
  spent query learnt gates log query_is light decided = (
    subst (λ (n : ℕ). n ≤ gates) (ap (λ (f : Form). f.weight) whole) light,
    subst (λ (q : Query). IsSpent (formula q) learnt log) (asks query query_is) decided,
  )

-- ---- runs of obligations

pub mapped_push : {A B : Type 0} (f : A → B) (xs : List A) (x : A)
    → map f (xs ++ x ∷ []) ≡ map f xs ++ f x ∷ []
mapped_push f [] x = refl
mapped_push f (y ∷ xs) x = ap (λ l. f y ∷ l) (mapped_push f xs x)

module _ (cfa : Cfa) (es : List (List Elem)) (learnt : ℕ) where
  -- what is shown is met
  pub all_met : (os : List Obligation) (logs : List (List Line))
      → AllZip (IsShown cfa es learnt) os logs → AllByRecursion (IsMet cfa es) os
  all_met [] [] h = tt
  all_met [] (log ∷ logs) h = tt
  all_met (o ∷ os) [] h = absurd h
  all_met (o ∷ os) (log ∷ logs) h = (h.0.met, all_met os logs h.1)

  -- one obligation more
  pub one_shown : (run : List Obligation) (i : ℕ) (o : Obligation) (logs : List (List Line))
      (log : List Line) → slice_get run i ≡ Some o
      → AllZip (IsShown cfa es learnt) (take i run) logs → IsShown cfa es learnt o log
      → AllZip (IsShown cfa es learnt) (take (i + 1) run) (logs ++ log ∷ [])
  one_shown run i o logs log at before here =
      subst (λ (l : List Obligation). AllZip (IsShown cfa es learnt) l (logs ++ log ∷ []))
      (ap (λ x. take i run ++ x ∷ []) (sym (get_or_from_slice_get run i o o at))
      ∙ sym (take_more run i o (slice_get_within run i o at)))
      (zip_more (IsShown cfa es learnt) (take i run) logs o log before here)

  pub stopped : (budget : Budget) (run : List Obligation) (i : ℕ) (o : Obligation)
      (logs : List (List Line)) (reason : Why) → slice_get run i ≡ Some o
      → AllZip (IsShown cfa es learnt) (take i run) logs → StopsAt cfa es budget o reason
      → StopsIn cfa es budget run i reason
  stopped budget run i o logs reason at before stops = record {
    obligation = o;
    is = at;
    lesser = all_met (take i run) logs before;
    stops = stops;
  }

  pub all_shown : (run : List Obligation) (i : ℕ) (logs : List (List Line)) → length run ≤ i
      → AllZip (IsShown cfa es learnt) (take i run) logs → AllZip (IsShown cfa es learnt) run logs
  all_shown run i logs le h =
      subst (λ (l : List Obligation). AllZip (IsShown cfa es learnt) l logs) (take_all i run le) h

  pub confirmed : (logs : List (List Line))
      → AllZip (IsShown cfa es learnt) (obligations cfa (as_one es)) logs
      → IsConfirmed cfa es learnt logs
  confirmed logs h = record {
    logs_are = h;
    cover = (obligations_are_covers cfa es).0
        (all_met (obligations cfa (as_one es)) logs h);
  }

-- ---- entries of a report

pub shaped_one : (cfa : Cfa) (es : List (List Elem)) → AllByRecursion (AreShaped cfa) es
    → AreShapedFor cfa (as_one es)
shaped_one cfa es shaped =
    all_map (IsElem cfa.cells cfa.points) joined es
    (all_so (AreShaped cfa) (λ elems. IsElem cfa.cells cfa.points (joined elems))
    (λ elems each. all_flat (IsFact cfa.cells cfa.points) (λ (e : Elem). e.facts) elems each) es
    shaped)

-- ---- what is met within the budget

-- a refutation within the lines that are allowed shows that a line is allowed
pub within : (cfa : Cfa) (es : List (List Elem)) (budget : Budget) (keeping : Keeping)
    (o : Obligation) (s : Settled) → (form_at cfa (as_one es) o).weight ≤ budget.gates
    → IsSettled cfa es budget o s → IsSettledFor cfa es budget keeping o s
within cfa es budget keeping o (settled.Shown lines) light shown =
    let some = shown.refuted.some in
    let most = shown.refuted.within in (
      record { met = shown.met; light = light; allowed = omega (arith, some, most) },
      λ kept. shown,
    )
within cfa es budget keeping o (settled.Open reason) light stops = stops

pub spared : (cfa : Cfa) (xs : List Elem) (es : List (List Elem)) (budget : Budget)
    (keeping : Keeping) (o : Obligation) (log : List Line) → RunlessIsMet → xs ≡ as_one es
    → (form_at cfa xs o).weight ≤ budget.gates → IsSpared cfa xs budget keeping o
    → IsMetWithin cfa es budget o × (keeping ≡ Refutations → IsShown cfa es budget.learnt o log)
spared cfa xs es budget keeping o log law are light is = (
  record {
    met = law cfa es o (subst (λ (l : List Elem). IsRunless cfa l o) are is.runless);
    light = subst (λ (l : List Elem). (form_at cfa l o).weight ≤ budget.gates) are light;
    allowed = is.allowed;
  },
  λ kept. absurd (kept_not keeping kept is.nothing),
)
  where
    kept_not : (k : Keeping) → k ≡ Refutations → k ≡ Nothing → ⊥
    kept_not k a b = let both = sym a ∙ b in absurd (cc)

-- one item more
pub one_more : {A : Type 0} (P : A → Type 0) (run : List A) (i : ℕ) (o : A)
    → slice_get run i ≡ Some o → AllByRecursion P (take i run) → P o
    → AllByRecursion P (take (i + 1) run)
one_more P run i o at before here =
    subst (AllByRecursion P)
    (ap (λ x. take i run ++ x ∷ []) (sym (get_or_from_slice_get run i o o at))
    ∙ sym (take_more run i o (slice_get_within run i o at)))
    (all_both P (take i run) (o ∷ []) before (here, tt))

pub all_before : {A : Type 0} (P : A → Type 0) (run : List A) (i : ℕ) → length run ≤ i
    → AllByRecursion P (take i run) → AllByRecursion P run
all_before {A} P run i le h =
    subst (λ (l : List A). AllByRecursion P l) (take_all i run le) h

-- of a walk that keeps refutations
pub part_of : (cfa : Cfa) (es : List (List Elem)) (budget : Budget) (first : ℕ)
    (os : List Obligation) (found : Part) → IsWalk cfa es budget Refutations first os found
    → IsPart cfa es budget first os found
part_of cfa es budget first os (part.Whole logs) walk = walk.1 refl
part_of cfa es budget first os (part.Stopped number reason) walk = (walk.0, walk.1, walk.2)

pub stopped_at : (cfa : Cfa) (es : List (List Elem)) (budget : Budget) (os : List Obligation)
    (i : ℕ) (o : Obligation) (reason : Why) → slice_get os i ≡ Some o
    → AllByRecursion (IsMetWithin cfa es budget) (take i os) → StopsAt cfa es budget o reason
    → StopsIn cfa es budget os i reason
stopped_at cfa es budget os i o reason at before stops = record {
  obligation = o;
  is = at;
  lesser = all_so (IsMetWithin cfa es budget) (IsMet cfa es) (λ o met. met.met) (take i os) before;
  stops = stops;
}

-- ---- of all obligations

pub are_met : (cfa : Cfa) (es : List (List Elem)) (budget : Budget) (count : ℕ)
    → count ≡ length (obligations cfa (as_one es))
    → AllByRecursion (IsMetWithin cfa es budget) (obligations cfa (as_one es))
    → AreMet cfa es budget count
are_met cfa es budget count is all = record {
  count_is = is;
  within = all;
  cover = (obligations_are_covers cfa es).0
      (all_so (IsMetWithin cfa es budget) (IsMet cfa es) (λ o met. met.met)
      (obligations cfa (as_one es)) all);
}

-- the place of the first obligation is 0
pub from_zero : (cfa : Cfa) (es : List (List Elem)) (budget : Budget) (os : List Obligation)
    (number : ℕ) (reason : Why)
    → ((place : ℕ) × (number ≡ 0 + place) × StopsIn cfa es budget os place reason
    × AllByRecursion (IsMetWithin cfa es budget) (take place os))
    → StopsIn cfa es budget os number reason
    × AllByRecursion (IsMetWithin cfa es budget) (take number os)
from_zero cfa es budget os number reason at =
    let here = sym (at.1 ∙ zero-add at.0) in (
      subst (λ n. StopsIn cfa es budget os n reason) here at.2,
      subst (λ n. AllByRecursion (IsMetWithin cfa es budget) (take n os)) here at.3,
    )
