-- Queries are equal where their parts compare equal (`queries_are`).
use Rattle.std.proofs.Common.{◌≡◌, ◌&&◌, Bool, true, List, [], ◌∷◌, refl, inr}
use Rattle.std.specs.Cmp.Lexicographic.{pointwise}
use Rattle.std.proofs.lemmas.Bool.{and_parts}
use Rattle.std.proofs.Math.Bool.{beq}
use Rattle.std.specs.Cmp.{booleans_Decides}
use Rattle.cpa_expr.specs.declared.tree.Expr.{Expr}
use Rattle.cpa_expr.specs.Equality.{same_expr}
use Rattle.cpa_expr.specs.Laws.{same_where_equal}
use Rattle.cpa_query.specs.declared.query.Query.{Query}
use Rattle.cpa_form_rules.specs.Forms.{Form}
use Rattle.cpa_predicate.specs.declared.asking.Budgets.{Budgets}
use Rattle.cpa_predicate.specs.declared.asking.Answer.{Answer}
use Rattle.cpa_predicate.specs.declared.asking.Answer.TheVariants.{Never, Sometimes, Undecided}
use Rattle.cpa_predicate.specs.Questions.{IsSettledBy, IsAnswerTo, IsAnswered}

-- lists are equal where their items compare equal, one by one
pub pointwise_is : {A : Type 0} (E : A → A → Bool) → ((x y : A) → E x y ≡ true → x ≡ y)
    → (xs ys : List A) → pointwise E xs ys ≡ true → xs ≡ ys
pointwise_is E is [] [] h = refl
pointwise_is E is [] (y ∷ ys) h = cc
pointwise_is E is (x ∷ xs) [] h = cc
pointwise_is E is (x ∷ xs) (y ∷ ys) h =
    let p = and_parts (E x y) (pointwise E xs ys) h in
    let a = is x y p.0 in let b = pointwise_is E is xs ys p.1 in cc

pub queries_are : (q r : Query) → q.cells ≡ r.cells → q.wanted ≡ r.wanted → q ≡ r
queries_are q r cells wanted = λ i. record { cells = cells i; wanted = wanted i }

-- an expression and its wanted truth are equal to others where both are
pub wanted_is : (x y : Expr × Bool) → (same_expr x.0 y.0 && beq x.1 y.1) ≡ true → x ≡ y
wanted_is x y h =
    let p = and_parts (same_expr x.0 y.0) (beq x.1 y.1) h in
    let e = (same_where_equal x.0 y.0).0 p.0 in
    let b = (booleans_Decides x.1 y.1).0 p.1 in
    λ i. (e i, b i)

-- what settles the form's query answers it
pub kept_answers : (b : Budgets) (form : Form) (answer : Answer) → IsSettledBy form.query answer
    → IsAnswered b form answer
kept_answers b form Never is = is
kept_answers b form Sometimes is = is
kept_answers b form Undecided is = absurd is

-- what is found out of the form's query answers it
pub answered : (b : Budgets) (form : Form) (answer : Answer)
    → IsAnswerTo form.query b.learnt answer → IsAnswered b form answer
answered b form Never is = is
answered b form Sometimes is = is
answered b form Undecided is = inr is
