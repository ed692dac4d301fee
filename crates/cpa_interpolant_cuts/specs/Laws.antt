-- The law of cuts. Below the statement, its lemma.
use Rattle.std.specs.Prelude.{◌≡◌, ℕ, ◌<◌, ◌^◌, ℤ, Bool, true, false, List, [], ◌∷◌, ◌++◌}
use Rattle.std.specs.Prelude.{length, map}
use Rattle.std.specs.Prelude.{replicate, Some, slice_get}
use Rattle.std.specs.List.{AllByRecursion}
use Rattle.std.proofs.Common.{refl, sym, ap, ◌∙◌, subst, arith}
use Rattle.std.proofs.lemmas.List.{length-map}
use Rattle.std.proofs.lemmas.Option.{slice_get_within}
use Rattle.cpa_ints.specs.declared.integers.IntType.{IntType}
use Rattle.cpa_ints.specs.Integers.{IsInRange}
use Rattle.cpa_cnf.specs.Lines.{AreBelow}
use Rattle.cpa_cnf.specs.Models.{IsModel as IsTruth}
use Rattle.cpa_cnf.specs.declared.formula.Line.{Line}
use Rattle.cpa_expr.specs.declared.tree.Expr.{Expr}
use Rattle.cpa_expr.specs.Shape.{IsTyped}
use Rattle.cpa_blast_circuits.specs.Laws.{CircuitsHaveValues}
use Rattle.cpa_blast.specs.Formulas.{formula}
use Rattle.cpa_model.specs.declared.program.Cell.{Cell}
use Rattle.cpa_model.specs.declared.automaton.Act.{Act}
use Rattle.cpa_model.specs.declared.automaton.Cfa.{Cfa}
use Rattle.cpa_model.specs.Acts.{IsActOf}
use Rattle.cpa_model.specs.Automata.{IsAutomaton}
use Rattle.cpa_model.specs.Expressions.{types_of, IsExpr}
use Rattle.cpa_form_rules.specs.Runs.{Added, Runs}
use Rattle.cpa_form_rules.specs.Forms.{Form, begun, form_of}
use Rattle.cpa_form_rules.specs.Laws.{IsAddedOf, IsFormOf, forms_are_runs, starts_fit, added_fits}
use Rattle.cpa_form_rules.specs.lemmas.Calls.{places_long}
use Rattle.cpa_form_rules.specs.lemmas.Formed.{formed}
use Rattle.cpa_form_rules.specs.Additions.{further_calls_add_behind}
use Rattle.cpa_form_renaming.specs.lemmas.Longer.{get_front}
use Rattle.cpa_chains.specs.Sides.{clauses_on}
use Rattle.cpa_chains.specs.Interpolants.{IsInterpolant}
use Rattle.cpa_chains.specs.Partials.{partials_of}
use Rattle.cpa_interpolant_joining.specs.Joining.{renamed_clause}
use Rattle.cpa_interpolant_names.specs.Meetings.{names_of}
use Rattle.cpa_interpolant_cuts.specs.Touching.{IsGone}
use Rattle.cpa_interpolant_cuts.specs.Places.{ArePlaces, places_stand_apart}
use Rattle.cpa_interpolant_rules.specs.Stores.{IsStore}
use Rattle.cpa_interpolant_rules.specs.lemmas.Taking.{all_taken}
use Rattle.cpa_interpolant_rules.specs.Interpolants.{IsNext}
use Rattle.cpa_interpolant_rules.specs.Parts.{added_before, added_behind, before_cut, behind_cut}
use Rattle.cpa_interpolant_cuts.specs.Cuts.{meetings_of, formula_of, sides_at, expr_of}
use Rattle.cpa_interpolant_cuts.specs.lemmas.Meet.{AreParts}
use Rattle.cpa_interpolant_cuts.specs.lemmas.Asked.{as_many_sides, all_below}
use Rattle.cpa_interpolant_cuts.specs.lemmas.Sharing.{HasSides}
use Rattle.cpa_interpolant_cuts.specs.lemmas.Next.{next}
use Rattle.cpa_interpolant_cuts.specs.lemmas.Typing.{typed}
use Rattle.cpa_interpolant_cuts.specs.lemmas.Through.{through, modelled}

-- a cut of a path of an automaton, behind an expression over its cells and an edge, before these
-- edges; the queries of its parts have as many cells as a list in memory may have
pub record IsCut (cfa : Cfa) (e : Expr) (a : Act) (acts : List Act) : Type 0 where
  pub automaton : IsAutomaton cfa
  pub expr : IsExpr cfa.cells e
  pub act : IsActOf cfa a
  pub behind : AllByRecursion (IsActOf cfa) acts
  pub few_before : length (before_cut cfa.cells e a).query.cells < 2 ^ 64
  pub few_behind : length (behind_cut cfa.cells acts).query.cells < 2 ^ 64

-- Where the last partial of lines is an interpolant of the two sides of a cut's joined formula, its
-- expression is the next interpolant of the path: every step by the edge leads to it from a store
-- where the expression before is nonzero, from it no run goes along the edges behind, it reads
-- only what both parts have in common, and it never traps.
abbrev pub CutsInterpolate : Type 0
CutsInterpolate =
    (cfa : Cfa) (e : Expr) (a : Act) (acts : List Act) (log : List Line) → IsCut cfa e a acts
    → IsInterpolant (formula_of cfa.cells (before_cut cfa.cells e a) (behind_cut cfa.cells acts))
    (sides_at (before_cut cfa.cells e a) (behind_cut cfa.cells acts))
    (partials_of (formula_of cfa.cells (before_cut cfa.cells e a) (behind_cut cfa.cells acts))
    (sides_at (before_cut cfa.cells e a) (behind_cut cfa.cells acts)) log)
    → IsNext cfa.cells a acts e
    (expr_of cfa.cells (before_cut cfa.cells e a) (behind_cut cfa.cells acts) log)

-- The expression is well typed over the cells of the program, whatever lines it is made of.
abbrev pub CutsAreTyped : Type 0
CutsAreTyped =
    (cfa : Cfa) (e : Expr) (a : Act) (acts : List Act) (log : List Line) → IsCut cfa e a acts
    → IsTyped (types_of cfa.cells)
    (expr_of cfa.cells (before_cut cfa.cells e a) (behind_cut cfa.cells acts) log)

-- The models of a cut's joined formula are the runs through the cut, from any store on: one that
-- meets the part before it and then the part behind it is there where the formula has a model.
pub record CutsAreRuns : Type 0 where
  pub run : (cfa : Cfa) (e : Expr) (a : Act) (acts : List Act) (truths : List Bool)
      → IsCut cfa e a acts
      → IsTruth (formula_of cfa.cells (before_cut cfa.cells e a) (behind_cut cfa.cells acts))
      truths → (first inputs last : List ℤ) × IsStore cfa.cells first
      × Runs cfa.cells (added_before e a ++ added_behind acts) first inputs last
  pub model : (cfa : Cfa) (e : Expr) (a : Act) (acts : List Act) (first inputs last : List ℤ)
      → IsCut cfa e a acts → IsStore cfa.cells first
      → Runs cfa.cells (added_before e a ++ added_behind acts) first inputs last
      → (truths : List Bool) × IsTruth
      (formula_of cfa.cells (before_cut cfa.cells e a) (behind_cut cfa.cells acts)) truths

-- The two parts of a cut may be joined. Each clause of their formula has a side, and each literal
-- is one of its variables, so that the formula may be searched.
pub record CutsAreAsked : Type 0 where
  pub parts : (cfa : Cfa) (e : Expr) (a : Act) (acts : List Act) → IsCut cfa e a acts
      → AreParts cfa.cells (before_cut cfa.cells e a) (behind_cut cfa.cells acts)
  pub sides : (cells : List Cell) (before behind : Form)
      → length (sides_at before behind) ≡ length (formula_of cells before behind).clauses
  pub below : (cfa : Cfa) (e : Expr) (a : Act) (acts : List Act) → IsCut cfa e a acts
      → AllByRecursion
      (AreBelow (formula_of cfa.cells (before_cut cfa.cells e a) (behind_cut cfa.cells acts)).vars)
      (formula_of cfa.cells (before_cut cfa.cells e a) (behind_cut cfa.cells acts)).clauses

-- ---- the lemma

-- what is said of two lists of clauses, one of each side
pub record ListsAreSides : Type 0 where
  pub first : (front back : List (List ℕ)) → clauses_on true
      (replicate (length front) true ++ replicate (length back) false) (front ++ back) ≡ front
  pub second : (front back : List (List ℕ)) → clauses_on false
      (replicate (length front) true ++ replicate (length back) false) (front ++ back) ≡ back

has_sides : ListsAreSides → (cells : List Cell) (A B : Form) → HasSides cells A B
has_sides lists cells A B =
    let ns = names_of (formula B.query).vars (meetings_of cells A B) in
    let more = map (renamed_clause (formula A.query).vars ns) (formula B.query).clauses in
    let long = length-map (formula B.query).clauses (renamed_clause (formula A.query).vars ns) in
    record {
      before = ap (λ n. clauses_on true (replicate (length (formula A.query).clauses) true
          ++ replicate n false) ((formula A.query).clauses ++ more)) (sym long)
          ∙ lists.first (formula A.query).clauses more;
      behind = ap (λ n. clauses_on false (replicate (length (formula A.query).clauses) true
          ++ replicate n false) ((formula A.query).clauses ++ more)) (sym long)
          ∙ lists.second (formula A.query).clauses more;
    }

all_gone : (acts : List Act) → AllByRecursion IsGone (added_behind acts)
all_gone [] = tt
all_gone (a ∷ acts) = (tt, all_gone acts)

-- the cells of the program stand in front
start_there : (cells : List Cell) (added : List Added) (c : ℕ) (t : IntType)
    → slice_get (types_of cells) c ≡ Some t
    → slice_get (form_of cells false added).query.cells c ≡ Some t
start_there cells added c t ty =
    let more = further_calls_add_behind (begun cells false) added in
    ap (λ ts. slice_get ts c) more.cells_are
    ∙ (get_front (types_of cells) more.cells c (slice_get_within (types_of cells) c t ty) ∙ ty)

-- each cell of the program has a place
places_are_long : (cfa : Cfa) (added : List Added) → IsAutomaton cfa
    → AllByRecursion (IsAddedOf cfa) added
    → length (form_of cfa.cells false added).places ≡ length cfa.cells
places_are_long cfa added is are =
    let cells = cfa.cells in
    let same = is.automaton.cells in
    let few_cells = is.well_formed.few_cells in
    let long = length-map cells (λ (c : Cell). c.ty) in
    let count = ap length same in
    let few : length (types_of cells) < 2 ^ 63 = omega (arith, few_cells, long, count) in
    let starts = starts_fit cells (subst (AllByRecursion (λ (c : Cell). IsInRange c.ty c.start))
    (sym same) is.well_formed.starts) in
    let form = formed cells cfa.points few starts false added (added_fits cfa few added are) in
    sym (places_long cells (form_of cells false added) form.fitted) ∙ long

-- what holds of the two parts of a cut
pub record IsMade (cfa : Cfa) (e : Expr) (a : Act) (acts : List Act) (A B : Form) : Type 0 where
  pub form_before : IsFormOf cfa false (added_before e a) A
  pub form_behind : IsFormOf cfa false (added_behind acts) B
  pub places_before : ArePlaces cfa.cells (added_before e a) A
  pub places_behind : ArePlaces cfa.cells (added_behind acts) B
  pub are : AreParts cfa.cells A B
  pub long : length A.places ≡ length cfa.cells

made : (cfa : Cfa) (e : Expr) (a : Act) (acts : List Act) → IsCut cfa e a acts
    → IsMade cfa e a acts (before_cut cfa.cells e a) (behind_cut cfa.cells acts)
made cfa e a acts cut =
    let first : AllByRecursion (IsAddedOf cfa) (added_before e a) =
    ((cut.expr, tt), (cut.act, tt)) in
    let second = all_taken cfa acts cut.behind in
    let form_before = forms_are_runs cfa false (added_before e a) cut.automaton first in
    let form_behind = forms_are_runs cfa false (added_behind acts) cut.automaton second in
    let places_before = places_stand_apart cfa (added_before e a) cut.automaton first
    (tt, (tt, tt)) in
    record {
      form_before = form_before;
      form_behind = form_behind;
      places_before = places_before;
      places_behind = places_stand_apart cfa (added_behind acts) cut.automaton second
          (all_gone acts);
      are = record {
        before = record { asked = form_before.asked; few = cut.few_before };
        behind = record { asked = form_behind.asked; few = cut.few_behind };
        ty = places_before.ty;
        apart = places_before.apart;
        start = start_there cfa.cells (added_behind acts);
      };
      long = places_are_long cfa (added_before e a) cut.automaton first;
    }

pub cuts_interpolate : CircuitsHaveValues → ListsAreSides → CutsInterpolate
cuts_interpolate circuits lists cfa e a acts log cut inter =
    let A = before_cut cfa.cells e a in
    let B = behind_cut cfa.cells acts in
    let is = made cfa e a acts cut in
    next circuits cfa.cells cfa refl e a acts A B is.form_before is.form_behind is.places_before
    is.places_behind is.are (has_sides lists cfa.cells A B) log inter

pub cuts_are_typed : CircuitsHaveValues → CutsAreTyped
cuts_are_typed circuits cfa e a acts log cut =
    let is = made cfa e a acts cut in
    typed circuits cfa.cells (before_cut cfa.cells e a) (behind_cut cfa.cells acts) is.are log

pub cuts_are_runs : CircuitsHaveValues → CutsAreRuns
cuts_are_runs circuits = record {
  run = λ cfa e a acts truths cut model.
      let is = made cfa e a acts cut in
      through circuits cfa e a acts (before_cut cfa.cells e a) (behind_cut cfa.cells acts)
      is.form_before is.form_behind is.are is.long truths model;
  model = λ cfa e a acts first inputs last cut begins run.
      let is = made cfa e a acts cut in
      modelled circuits cfa e a acts (before_cut cfa.cells e a) (behind_cut cfa.cells acts)
      is.form_before is.form_behind is.are is.long first inputs last begins run;
}

pub cuts_are_asked : CircuitsHaveValues → CutsAreAsked
cuts_are_asked circuits = record {
  parts = λ cfa e a acts cut. (made cfa e a acts cut).are;
  sides = as_many_sides;
  below = λ cfa e a acts cut.
      all_below circuits cfa.cells (before_cut cfa.cells e a) (behind_cut cfa.cells acts)
      (made cfa e a acts cut).are;
}
