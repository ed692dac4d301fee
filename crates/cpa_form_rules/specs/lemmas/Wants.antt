-- Tests that are wanted at places: they are true of the store that the places show.
use Rattle.std.proofs.Common.{◌≡◌, ◌≤◌, ℤ, Bool, List, [], ◌∷◌, length, refl, sym, subst, arith}
use Rattle.std.specs.Prelude.{IsSomeAnd}
use Rattle.std.specs.List.{AllByRecursion}
use Rattle.cpa_ints.specs.declared.integers.IntType.{IntType}
use Rattle.cpa_expr.specs.declared.tree.Expr.{Expr}
use Rattle.cpa_expr.specs.Shape.{height}
use Rattle.cpa_expr.specs.Values.{is_nonzero, HasTruth}
use Rattle.cpa_query.specs.declared.query.Query.{Query}
use Rattle.cpa_query.specs.Queries.{IsAsked, IsModel}
use Rattle.cpa_form_renaming.specs.declared.places.Place.{Place}
use Rattle.cpa_form_renaming.specs.Places.{Shows}
use Rattle.cpa_form_renaming.specs.Renaming.{renamed, IsReadable}
use Rattle.cpa_form_renaming.specs.Laws.{renaming_keeps_meanings}
use Rattle.cpa_form_rules.specs.declared.drafts.Draft.{Draft}
use Rattle.cpa_form_rules.specs.Drafts.{behind, want, want_all}
use Rattle.cpa_form_rules.specs.lemmas.Heights.{inner_height}
use Rattle.cpa_form_rules.specs.lemmas.Models.{Wanted, Fine, all_cells, fine_want, want_back}
use Rattle.cpa_form_rules.specs.lemmas.Models.{want_forth, Fits}

-- an expression of the program that can be read at the places, and that a wanted one may hold
pub record Reads (places : List Place) (types : List IntType) (e : Expr) : Type 0 where
  pub readable : IsReadable places types e
  pub height : height e ≤ inner_height

pub reads_fit : (places : List Place) (cells types : List IntType) (e : Expr)
    → Reads places types e → Shows places cells types → Fits cells (renamed places e)
reads_fit places cells types e reads shows = record {
  typed = renaming_keeps_meanings.typed places cells types e reads.readable shows;
  height = subst (λ n. n ≤ inner_height) (sym (renaming_keeps_meanings.same_height places e))
      reads.height;
}

pub fit_asked : (cells : List IntType) (e : Expr) → Fits cells e → IsAsked cells e
fit_asked cells e fit = record {
  typed = fit.typed;
  height = let low = fit.height in omega (arith, low);
}

-- the renamed expression has the truth of the expression
pub truth_there : (places : List Place) (types : List IntType) (e : Expr) (holds : Bool)
    (values store : List ℤ) → IsReadable places types e → length types ≡ length places
    → Shows places values store → HasTruth values (renamed places e) holds → HasTruth store e holds
truth_there places types e holds values store readable long shows h =
    subst (λ o. IsSomeAnd o (λ v. is_nonzero v ≡ holds))
    (renaming_keeps_meanings.value places types e values store readable long shows) h

pub truth_here : (places : List Place) (types : List IntType) (e : Expr) (holds : Bool)
    (values store : List ℤ) → IsReadable places types e → length types ≡ length places
    → Shows places values store → HasTruth store e holds → HasTruth values (renamed places e) holds
truth_here places types e holds values store readable long shows h =
    subst (λ o. IsSomeAnd o (λ v. is_nonzero v ≡ holds))
    (sym (renaming_keeps_meanings.value places types e values store readable long shows)) h

module _ (q : Query) (places : List Place) (types : List IntType)
    (long : length types ≡ length places) where
  abbrev pub AllRead : List (Expr × Bool) → Type 0
  AllRead = AllByRecursion (λ (one : Expr × Bool). Reads places types one.0)

  pub fine_want_all : (asked : List (Expr × Bool)) (d : Draft) → AllRead asked → Fine q d
      → Shows places (all_cells q d) types → Fine q (want_all places asked d)
  fine_want_all [] d reads fine shows = fine
  fine_want_all (one ∷ asked) d reads fine shows =
      fine_want_all asked (want (renamed places one.0) one.1 d) reads.1
      (fine_want q d (renamed places one.0) one.1 fine
      (fit_asked (all_cells q d) (renamed places one.0)
      (reads_fit places (all_cells q d) types one.0 reads.0 shows))) shows

  pub want_all_model : (asked : List (Expr × Bool)) (d : Draft) (values : List ℤ)
      → IsModel (behind q (want_all places asked d)) values → IsModel (behind q d) values
  want_all_model [] d values is = is
  want_all_model (one ∷ asked) d values is =
      (want_back q d (renamed places one.0) one.1 values
      (want_all_model asked (want (renamed places one.0) one.1 d) values is)).0

  pub want_all_back : (asked : List (Expr × Bool)) (d : Draft) (values store : List ℤ)
      → AllRead asked → Shows places values store
      → IsModel (behind q (want_all places asked d)) values
      → IsModel (behind q d) values × AllByRecursion (Wanted store) asked
  want_all_back [] d values store reads shows is = (is, tt)
  want_all_back (one ∷ asked) d values store reads shows is =
      let rest = want_all_back asked (want (renamed places one.0) one.1 d) values store reads.1
      shows
      is in
      let first = want_back q d (renamed places one.0) one.1 values rest.0 in (
        first.0,
        (
          truth_there places types one.0 one.1 values store reads.0.readable long shows
              first.1,
          rest.1,
        ),
      )

  pub want_all_forth : (asked : List (Expr × Bool)) (d : Draft) (values store : List ℤ)
      → AllRead asked → Shows places values store → IsModel (behind q d) values
      → AllByRecursion (Wanted store) asked → IsModel (behind q (want_all places asked d)) values
  want_all_forth [] d values store reads shows is h = is
  want_all_forth (one ∷ asked) d values store reads shows is h =
      want_all_forth asked (want (renamed places one.0) one.1 d) values store reads.1 shows
      (want_forth q d (renamed places one.0) one.1 values is
      (truth_here places types one.0 one.1 values store reads.0.readable long shows h.0)) h.1

  pub cells_want_all : (asked : List (Expr × Bool)) (d : Draft)
      → all_cells q (want_all places asked d) ≡ all_cells q d
  cells_want_all [] d = refl
  cells_want_all (one ∷ asked) d = cells_want_all asked (want (renamed places one.0) one.1 d)
