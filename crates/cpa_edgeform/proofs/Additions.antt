-- What is put behind a form, step by step, is what the definitions add at once.
use Rattle.std.proofs.Common.{◌≡◌, ℕ, Bool, true, List, [], ◌∷◌, map, ap, ◌∙◌}
use Rattle.std.specs.List.{flat_map}
use Rattle.cpa_ints.specs.declared.integers.IntType.{IntType}
use Rattle.cpa_expr.specs.declared.tree.Expr.{Expr}
use Rattle.cpa_model.specs.declared.facts.Elem.{Elem}
use Rattle.cpa_form_renaming.specs.declared.places.Place.{Place}
use Rattle.cpa_form_rules.specs.declared.drafts.Draft.{Draft}
use Rattle.cpa_form_rules.specs.Drafts.{Placed, placed, next, fresh, settled, want_all}
use Rattle.cpa_form_rules.specs.Drafts.{moved, assigned}
use Rattle.cpa_form_rules.specs.Tests.{type_at, denials_of, want_each}
use Rattle.cpa_form_rules.specs.Forms.{Form, draft_of, joined, with_tests, with_failing}
use Rattle.cpa_form_rules.specs.Forms.{with_write, with_input}
use Rattle.cpa_edgeform.specs.Parts.{with_places, with_one_input}

pub tests_added : (form new : Form) (asked : List (Expr × Bool)) (d0 d1 d2 : Draft)
    (P : List Place) → d0 ≡ draft_of form → placed d1 P ≡ settled asked form.places d0
    → d2 ≡ want_all P asked d1 → new ≡ joined form (placed d2 P) → new ≡ with_tests asked form
tests_added form new asked d0 d1 d2 P begun settles wants joins =
    joins
    ∙ ap (λ d. joined form (placed d P)) wants
    ∙ ap (λ (at : Placed).
    joined form (placed (want_all at.places asked at.draft) at.places))
    (settles ∙ ap (settled asked form.places) begun)

pub failing_added : (form new : Form) (elems : List Elem) (denials : List (List (Expr × Bool)))
    (asked : List (Expr × Bool)) (d0 d1 d2 : Draft) (P : List Place)
    → denials ≡ map (λ elem. denials_of form.places elem.facts) elems
    → asked ≡ flat_map (λ tests. tests) denials
    → d0 ≡ draft_of form → placed d1 P ≡ settled asked form.places d0
    → d2 ≡ want_each P denials d1 → new ≡ joined form (placed d2 P)
    → new ≡ with_failing elems form
failing_added form new elems denials asked d0 d1 d2 P all flat begun settles wants joins =
    joins
    ∙ ap (λ d. joined form (placed d P)) wants
    ∙ ap (λ (at : Placed).
    joined form (placed (want_each at.places denials at.draft) at.places))
    (settles ∙ ap (settled asked form.places) begun
    ∙ ap (λ es. settled es form.places (draft_of form)) flat)
    ∙ ap (λ (lists : List (List (Expr × Bool))).
    let at = settled (flat_map (λ tests. tests) lists) form.places (draft_of form) in
    joined form (placed (want_each at.places lists at.draft) at.places)) all

pub write_added : (form mid new : Form) (base len : ℕ) (index value : Expr)
    (asked : List (Expr × Bool)) (d0 d1 d2 : Draft) (P : List Place) (p : Place)
    → asked ≡ (index, true) ∷ (value, true) ∷ []
    → d0 ≡ draft_of form → placed d1 P ≡ settled asked form.places d0
    → placed d2 (moved base p.number p.ty len P) ≡ assigned base len index value (placed d1 P)
    → mid ≡ joined form (placed d2 P)
    → new ≡ with_places (moved base p.number p.ty len mid.places) mid
    → new ≡ with_write base len index value form
write_added form mid new base len index value asked d0 d1 d2 P p are begun settles writes joins
    moves =
    moves
    ∙ ap (λ (f : Form). with_places (moved base p.number p.ty len f.places) f) joins
    ∙ ap (joined form) writes
    ∙ ap (λ (at : Placed). joined form (assigned base len index value at))
    (settles ∙ ap (settled asked form.places) begun
    ∙ ap (λ es. settled es form.places (draft_of form)) are)

pub input_added : (form mid new : Form) (cell number : ℕ) (t : IntType) (d0 d1 : Draft)
    → t ≡ type_at form.places cell → d0 ≡ draft_of form → number ≡ next d0 → d1 ≡ fresh t d0
    → mid ≡ joined form (placed d1 form.places) → new ≡ with_one_input cell number t mid
    → new ≡ with_input cell form
input_added form mid new cell number t d0 d1 typed begun numbered adds joins puts =
    puts
    ∙ ap (with_one_input cell number t) (joins ∙ ap (λ d. joined form (placed d form.places)) adds)
    ∙ ap (λ n. with_one_input cell n t (joined form (placed (fresh t d0) form.places))) numbered
    ∙ ap (λ d. with_one_input cell (next d) t (joined form (placed (fresh t d) form.places))) begun
    ∙ ap (λ u. with_one_input cell (next (draft_of form)) u
    (joined form (placed (fresh u (draft_of form)) form.places))) typed
