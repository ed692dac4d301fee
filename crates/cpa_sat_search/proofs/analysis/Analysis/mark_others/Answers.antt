use Rattle.std.proofs.Common.{◌≡◌, ℕ, not, ◌&&◌, ◌||◌, ◌+◌, take, get_or, sym, ◌∙◌, subst}
use Rattle.std.specs.Prelude.{◌==◌}
use Rattle.std.proofs.lemmas.Bool.{eqb-true, eqb-false, not-true, not-false}
use Rattle.cpa_cnf.specs.Clauses.{has}
use Rattle.cpa_cnf.specs.Marking.{marked}
use Rattle.cpa_sat_search.specs.declared.analysis.Analysis.{Analysis}
use Rattle.cpa_sat_search.specs.Analyses.{AreNoted, IsAsBefore}
use Rattle.cpa_sat_search.proofs.Marks.{marks_others, leaves_out}
use Rattle.cpa_sat_search.proofs.analysis.Analysis.mark_others.Goals as goal
use Rattle.cpa_sat_search.proofs.analysis.Analysis.mark_others.Goals.{then-ne+in_ok-mark}
use Rattle.cpa_sat_search.proofs.analysis.Analysis.mark_others.Goals.{else-ne}

and_then : (a b d : Analysis) → IsAsBefore a b → IsAsBefore b d → IsAsBefore a d
and_then a b d p q = record {
  vars = q.vars ∙ p.vars;
  long = q.long ∙ p.long;
  first = q.first
      ∙ p.first;
  steps = q.steps ∙ p.steps;
}

pub loop-literal-preserved : goal.loop-literal-preserved
loop-literal-preserved c =
    let old = c.args.self.now in
    let now = c.loop-literal.self in
    let xs = c.args.clause.now in
    let k = c.loop-literal.literal-index in
    let x : ℕ = c.literal-item.result in
    let is : x ≡ get_or xs k x = c.literal-item.is in
    let Q : Analysis → Type 0 = λ a.
    ((l : ℕ) → marked a.marks.items l
    ≡ (marked old.marks.items l || (has (take (k + 1) xs) l && not (l == c.args.except))))
    × AreNoted a × IsAsBefore old a in
    elim c.if-ne.branch [
      | then-ne+in_ok-mark w ↦
          subst Q (sym w.self-is) (
            λ l. marks_others old.marks.items now.marks.items w.mark.new.self.marks.items xs k x
                c.args.except l c.loop-literal-test.true is
                (eqb-false x c.args.except (not-true _ (sym w.if-ne.ensures)))
                (w.in_ok-mark.ensures.marks l)
                (c.loop-literal.invariant.0 l),
            w.in_ok-mark.ensures.noted,
            and_then old now w.mark.new.self c.loop-literal.invariant.2 w.in_ok-mark.ensures.same,
          )
      | else-ne w ↦
          subst Q (sym w.self-is) (
            λ l. leaves_out old.marks.items now.marks.items xs k x c.args.except l
                c.loop-literal-test.true is
                (eqb-true x c.args.except (not-false _ (sym w.if-ne.ensures)))
                (c.loop-literal.invariant.0 l),
            c.loop-literal.invariant.1,
            c.loop-literal.invariant.2,
          )
    ]
