-- The bits of the cells at a cut are variables of the two formulas.
use Rattle.std.proofs.Common.{◌≡◌, ℕ, suc, ◌+◌, ◌<◌, ◌≤◌, ◌^◌, List, [], ◌∷◌, Option}
use Rattle.std.proofs.Common.{refl, sym, ap, ◌∙◌, subst, arith}
use Rattle.std.specs.List.{AllByRecursion}
use Rattle.cpa_ints.specs.Integers.{width}
use Rattle.cpa_cnf.specs.declared.formula.Cnf.{Cnf}
use Rattle.cpa_blast.specs.Formulas.{formula}
use Rattle.cpa_blast_circuits.specs.Laws.{CircuitsHaveValues}
use Rattle.cpa_model.specs.declared.program.Cell.{Cell}
use Rattle.cpa_form_rules.specs.Forms.{Form}
use Rattle.cpa_interpolant_names.specs.declared.gathering.Meeting.{Meeting}
use Rattle.cpa_interpolant_names.specs.declared.gathering.Seen.{Seen}
use Rattle.cpa_interpolant_names.specs.Meetings.{meetings_from, names_of, Fits, StandsBelow}
use Rattle.cpa_interpolant_names.specs.Laws.{IsOne}
use Rattle.cpa_interpolant_cuts.specs.Cuts.{seen, meetings_of, formula_of}
use Rattle.cpa_interpolant_joining.specs.Joining.{joined}
use Rattle.cpa_interpolant_cuts.specs.lemmas.Meet.{AreParts, cell_of, before_bit, behind_bit}
use Rattle.cpa_interpolant_cuts.specs.lemmas.Through.{some_width}

all_ones : (P : Meeting → Type 0) (ms : List Meeting) → ((m : Meeting) → IsOne ms m → P m)
    → AllByRecursion P ms
all_ones P [] each = tt
all_ones P (m ∷ ms) each =
    (each m (0, refl), all_ones P ms (λ n one. each n (suc one.0, one.1)))

module _ (circuits : CircuitsHaveValues) (cells : List Cell) (A B : Form)
    (are : AreParts cells A B) where
  before_high : (m : Meeting) → IsOne (meetings_of cells A B) m
      → m.before + width m.ty ≤ (formula A.query).vars
  before_high m one =
      let c = cell_of circuits cells A B are m one in
      let high = (before_bit circuits cells A B are c.cell c.t 0 c.ty (some_width c.t)).1 in
      subst (λ (u : Meeting). u.before + width u.ty ≤ (formula A.query).vars) (sym c.is) high

  behind_high : (m : Meeting) → IsOne (meetings_of cells A B) m
      → m.behind + width m.ty ≤ (formula B.query).vars
  behind_high m one =
      let c = cell_of circuits cells A B are m one in
      let high = (behind_bit circuits cells A B are c.cell c.t 0 c.ty (some_width c.t)).1 in
      subst (λ (u : Meeting). u.behind + width u.ty ≤ (formula B.query).vars) (sym c.is) high

  pub same_meetings : (x y : Seen) (found : List Meeting) → found ≡ meetings_from A x y 0 cells
      → x ≡ seen A.query → y ≡ seen B.query → found ≡ meetings_of cells A B
  same_meetings x y found is one two =
      is ∙ (ap (λ u. meetings_from A u y 0 cells) one
      ∙ ap (λ u. meetings_from A (seen A.query) u 0 cells) two)

  pub names_fit : (found : List Meeting) (first second : Cnf) → found ≡ meetings_of cells A B
      → first ≡ formula A.query → second ≡ formula B.query → first.vars < 2 ^ 32
      → AllByRecursion (Fits second.vars) found
  names_fit found first second is one two few =
      subst (AllByRecursion (Fits second.vars)) (sym is)
      (all_ones (Fits second.vars) (meetings_of cells A B) (λ m at.
      let high = behind_high m at in
      let low = before_high m at in
      let same : first.vars ≡ (formula A.query).vars = ap (λ (f : Cnf). f.vars) one in
      let other : second.vars ≡ (formula B.query).vars = ap (λ (f : Cnf). f.vars) two in
      record { behind = omega (arith, high, other); before = omega (arith, low, same, few) }))

  pub bits_fit : (found : List Meeting) (first : Cnf) → found ≡ meetings_of cells A B
      → first ≡ formula A.query → AllByRecursion (StandsBelow first.vars) found
  bits_fit found first is one =
      subst (AllByRecursion (StandsBelow first.vars)) (sym is)
      (all_ones (StandsBelow first.vars) (meetings_of cells A B) (λ m at.
      let low = before_high m at in
      let same : first.vars ≡ (formula A.query).vars = ap (λ (f : Cnf). f.vars) one in
      omega (arith, low, same)))

  pub formula_is : (made first second : Cnf) (ns : List (Option ℕ)) → made ≡ joined first second ns
      → first ≡ formula A.query → second ≡ formula B.query
      → ns ≡ names_of second.vars (meetings_of cells A B) → made ≡ formula_of cells A B
  formula_is made first second ns is one two names =
      is ∙ (ap (λ n. joined first second n) names
      ∙ (ap (λ f. joined f second (names_of second.vars (meetings_of cells A B))) one
      ∙ ap (λ (s : Cnf). joined (formula A.query) s (names_of s.vars (meetings_of cells A B)))
      two))
