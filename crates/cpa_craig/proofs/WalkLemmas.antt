-- One element more of a step, one edge more of a walk, and what stays open on the way.
use Rattle.std.proofs.Common.{◌≡◌, ℕ, ◌+◌, ◌<◌, ◌≤◌, ◌-◌, ◌^◌, List, [], ◌∷◌, ◌++◌, refl, sym, ap}
use Rattle.std.proofs.Common.{◌∙◌}
use Rattle.std.proofs.Common.{subst, length, append_assoc, append-nil, get_or, take}
use Rattle.std.specs.Prelude.{Some, slice_get}
use Rattle.std.proofs.lemmas.Grind.{get_or_default_zero}
use Rattle.std.proofs.lemmas.List.{take_more}
use Rattle.std.specs.List.{AllByRecursion}
use Rattle.cpa_expr.specs.declared.tree.Expr.{Expr}
use Rattle.cpa_model.specs.declared.facts.Elem.{Elem}
use Rattle.cpa_model.specs.declared.automaton.Edge.{Edge}
use Rattle.cpa_model.specs.declared.automaton.Cfa.{Cfa}
use Rattle.cpa_iface.specs.Meanings.{IsShaped, AreShaped}
use Rattle.cpa_interpolant.specs.Keeping.{edge_there}
use Rattle.cpa_predicate.specs.declared.asking.Budgets.{Budgets}
use Rattle.cpa_predicate.specs.Questions.{Question, IsOpen, form_asked, SomeBeyond, Spends}
use Rattle.cpa_predicate.specs.Transfer.{IsCartesian}
use Rattle.cpa_predicate.specs.lemmas.Spending.{nothing_spent, both_spent, beyond_before}
use Rattle.cpa_predicate.specs.lemmas.Spending.{none_undecided}
use Rattle.cpa_predicate.specs.lemmas.Spending.{undecided_since, undecided_until}
use Rattle.cpa_predicate.specs.lemmas.Wider.{cartesian_wider}
use Rattle.cpa_craig.specs.Walks.{AreBehind, Walks, NeverOpen, SomeBeyondAt}
use Rattle.cpa_craig.specs.Walks.{SomeBeyondAlong}

-- ---- more may stay open

module _ (O Q : Elem → Edge → Question → Type 0) (cfa : Cfa) (preds : List Expr)
    (wider : (e : Elem) (g : Edge) (question : Question) → O e g question → Q e g question) where
  pub behind_wider : (g : Edge) (es behind : List Elem) → AreBehind O cfa preds g es behind
      → AreBehind Q cfa preds g es behind
  behind_wider g [] behind are = are
  behind_wider g (e ∷ es) behind (own, others, is, split, rest) = (
    own,
    others,
    cartesian_wider (O e g) (Q e g) cfa e g (wider e g) preds own is,
    split,
    behind_wider g es others rest,
  )

  pub walks_wider : (ns : List ℕ) (es last : List Elem) → Walks O cfa preds ns es last
      → Walks Q cfa preds ns es last
  walks_wider [] es last are = are
  walks_wider (n ∷ ns) es last (g, next, at, behind, rest) =
      (g, next, at, behind_wider g es next behind, walks_wider ns next last rest)

-- ---- one more

module _ (O : Elem → Edge → Question → Type 0) (cfa : Cfa) (preds : List Expr) where
  pub behind_more : (g : Edge) (es behind : List Elem) (e : Elem) (own : List Elem)
      → AreBehind O cfa preds g es behind → IsCartesian (O e g) cfa e g preds own
      → AreBehind O cfa preds g (es ++ e ∷ []) (behind ++ own)
  behind_more g [] behind e own are is =
      (own, [], is, ap (λ l. l ++ own) are ∙ sym (append-nil own), refl)
  behind_more g (f ∷ es) behind e own (first, others, made, split, rest) is = (
    first,
    others ++ own,
    made,
    ap (λ l. l ++ own) split ∙ append_assoc first others own,
    behind_more g es others e own rest is,
  )

  pub walks_more : (ns : List ℕ) (es mid last : List Elem) (n : ℕ) (g : Edge)
      → Walks O cfa preds ns es mid → slice_get cfa.edges n ≡ Some g
      → AreBehind O cfa preds g mid last → Walks O cfa preds (ns ++ n ∷ []) es last
  walks_more [] es mid last n g are at behind =
      (g, last, at, subst (λ l. AreBehind O cfa preds g l last) are behind, refl)
  walks_more (m ∷ ns) es mid last n g (h, next, there, before, rest) at behind =
      (h, next, there, before, walks_more ns next mid last n g rest at behind)

pub all_joined : (P : Elem → Type 0) (es fs : List Elem) → AllByRecursion P es → AllByRecursion P fs
    → AllByRecursion P (es ++ fs)
all_joined P [] fs all more = more
all_joined P (e ∷ es) fs all more = (all.0, all_joined P es fs all.1 more)

-- ---- what stays open from one call to the next

open_since : (a b c : Budgets) (C : Type 0) (cfa : Cfa) → Spends a b C → b.spent ≤ c.spent
    → (e : Elem) (g : Edge) (question : Question) → IsOpen b c cfa e g question
    → IsOpen a c cfa e g question
open_since a b c C cfa s later e g question =
    undecided_since a b c C (form_asked cfa e g question) s later

open_until : (a b c : Budgets) (cfa : Cfa) → b.spent ≤ c.spent
    → (e : Elem) (g : Edge) (question : Question) → IsOpen a b cfa e g question
    → IsOpen a c cfa e g question
open_until a b c cfa later e g question =
    undecided_until a b c (form_asked cfa e g question) later

-- ---- one element after the other

-- what is behind the edge of the first elements, and what was spent on them
pub record Stepped (a b : Budgets) (cfa : Cfa) (preds : List Expr) (edge : ℕ)
    (front last : List Elem) : Type 0 where
  pub shaped : AreShaped cfa last
  pub behind : (g : Edge) → slice_get cfa.edges edge ≡ Some g
      → AreBehind (IsOpen a b cfa) cfa preds g front last
  pub spends : Spends a b (SomeBeyondAt a cfa preds edge)

pub no_step : (a : Budgets) (cfa : Cfa) (preds : List Expr) (edge : ℕ) (es : List Elem)
    → Stepped a a cfa preds edge (take 0 es) []
no_step a cfa preds edge es = record {
  shaped = tt;
  behind = λ g at. refl;
  spends = nothing_spent a (SomeBeyondAt a cfa preds edge);
}

module _ (a b c : Budgets) (cfa : Cfa) (preds : List Expr) (edge : ℕ)
    (inside : edge < length cfa.edges) (es : List Elem) (i : ℕ) (e : Elem)
    (here : i < length es) (item : e ≡ get_or es i e)
    (spends : (g : Edge) → slice_get cfa.edges edge ≡ Some g
    → Spends b c (SomeBeyond b cfa e g preds)) where
  -- what was spent on one more
  pub step_spent : Spends a b (SomeBeyondAt a cfa preds edge)
      → Spends a c (SomeBeyondAt a cfa preds edge)
  step_spent s =
      let (g, at) = edge_there cfa edge inside in
      both_spent a b c (SomeBeyondAt a cfa preds edge) (SomeBeyond b cfa e g preds)
      (SomeBeyondAt a cfa preds edge) s (spends g at) (λ x. x)
      (λ (question, on, beyond). (
        e,
        g,
        at,
        (
          question,
          on,
          beyond_before a b (SomeBeyondAt a cfa preds edge) (form_asked cfa e g question) s beyond,
        ),
      ))

  pub step_more : (behind own new : List Elem)
      → Stepped a b cfa preds edge (take i es) behind → AreShaped cfa own
      → ((g : Edge) → slice_get cfa.edges edge ≡ Some g
      → IsCartesian (IsOpen b c cfa e g) cfa e g preds own)
      → new ≡ behind ++ own → Stepped a c cfa preds edge (take (i + 1) es) new
  step_more behind own new before shaped known is = record {
    shaped = subst (AreShaped cfa) (sym is)
        (all_joined (IsShaped cfa) behind own before.shaped shaped);
    behind = λ g at.
        let t = spends g at in
        let front : take (i + 1) es ≡ take i es ++ e ∷ [] =
        take_more es i e here ∙ ap (λ x. take i es ++ x ∷ []) (sym item) in
        subst (λ l. AreBehind (IsOpen a c cfa) cfa preds g l new) (sym front)
        (subst (AreBehind (IsOpen a c cfa) cfa preds g (take i es ++ e ∷ [])) (sym is)
        (behind_more (IsOpen a c cfa) cfa preds g (take i es) behind e own
        (behind_wider (IsOpen a b cfa) (IsOpen a c cfa) cfa preds
        (open_until a b c cfa t.grows) g (take i es) behind (before.behind g at))
        (cartesian_wider (IsOpen b c cfa e g) (IsOpen a c cfa e g) cfa e g
        (open_since a b c (SomeBeyondAt a cfa preds edge) cfa before.spends t.grows e g)
        preds own (known g at))));
    spends = step_spent before.spends;
  }

-- ---- one edge after the other

-- what is behind the first edges, and what was spent on them
pub record Walked (a b : Budgets) (cfa : Cfa) (preds : List Expr) (edges front : List ℕ)
    (first last : List Elem) : Type 0 where
  pub shaped : AreShaped cfa last
  pub known : Walks (IsOpen a b cfa) cfa preds front first last
  pub spends : Spends a b (SomeBeyondAlong a cfa preds edges)

pub no_walk : (a : Budgets) (cfa : Cfa) (preds : List Expr) (edges : List ℕ) (first : List Elem)
    → AreShaped cfa first → Walked a a cfa preds edges (take 0 edges) first first
no_walk a cfa preds edges first shaped = record {
  shaped = shaped;
  known = refl;
  spends = nothing_spent a (SomeBeyondAlong a cfa preds edges);
}

module _ (a b c : Budgets) (cfa : Cfa) (preds : List Expr) (edges : List ℕ) (i : ℕ)
    (here : i < length edges)
    (spends : Spends b c (SomeBeyondAt b cfa preds (get_or edges i 0))) where
  pub walk_spent : Spends a b (SomeBeyondAlong a cfa preds edges)
      → Spends a c (SomeBeyondAlong a cfa preds edges)
  walk_spent s =
      both_spent a b c (SomeBeyondAlong a cfa preds edges)
      (SomeBeyondAt b cfa preds (get_or edges i 0)) (SomeBeyondAlong a cfa preds edges) s spends
      (λ x. x)
      (λ (e, g, at, some). (
        get_or edges i 0,
        (i, here, get_or_default_zero edges i (get_or edges i 0) here),
        (
          e,
          g,
          at,
          (
            some.0,
            some.1,
            beyond_before a b (SomeBeyondAlong a cfa preds edges) (form_asked cfa e g some.0) s
                some.2,
          ),
        ),
      ))

  pub walk_more : (first mid slice last : List Elem) → slice ≡ mid
      → get_or edges i 0 < length cfa.edges
      → Walked a b cfa preds edges (take i edges) first mid → AreShaped cfa last
      → ((g : Edge) → slice_get cfa.edges (get_or edges i 0) ≡ Some g
      → AreBehind (IsOpen b c cfa) cfa preds g slice last)
      → Walked a c cfa preds edges (take (i + 1) edges) first last
  walk_more first mid slice last same inside before shaped behind =
      let (g, at) = edge_there cfa (get_or edges i 0) inside in
      record {
        shaped = shaped;
        known = subst (λ ns. Walks (IsOpen a c cfa) cfa preds ns first last)
            (sym (take_more edges i 0 here))
            (walks_more (IsOpen a c cfa) cfa preds (take i edges) first mid last
            (get_or edges i 0) g
            (walks_wider (IsOpen a b cfa) (IsOpen a c cfa) cfa preds
            (open_until a b c cfa spends.grows) (take i edges) first mid before.known) at
            (behind_wider (IsOpen b c cfa) (IsOpen a c cfa) cfa preds
            (open_since a b c (SomeBeyondAlong a cfa preds edges) cfa before.spends spends.grows)
            g mid last (subst (λ l. AreBehind (IsOpen b c cfa) cfa preds g l last) same
            (behind g at))));
        spends = walk_spent before.spends;
      }

-- where the count did not rise and can rise, nothing stays open
pub walks_exactly : (a b : Budgets) (cfa : Cfa) (preds : List Expr) (ns : List ℕ)
    (es last : List Elem) → b.spent ≡ a.spent → b.spent < 2 ^ 64 - 1
    → Walks (IsOpen a b cfa) cfa preds ns es last → Walks NeverOpen cfa preds ns es last
walks_exactly a b cfa preds ns es last same below =
    walks_wider (IsOpen a b cfa) NeverOpen cfa preds none ns es last
  where
    none : (e : Elem) (g : Edge) (question : Question) → IsOpen a b cfa e g question
        → NeverOpen e g question
    none e g question = none_undecided a b (form_asked cfa e g question) same below
