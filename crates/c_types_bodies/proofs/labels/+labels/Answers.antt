use Rattle.std.proofs.Common.{ℕ, List, ◌++◌, [], ◌∷◌, map, sym, ap, ◌∙◌, append-nil}
use Rattle.std.proofs.Common.{append_assoc, option_map, unwrap_or}
use Rattle.std.proofs.lemmas.List.{map-append}
use Rattle.c_types_bodies.specs.Grown.{labels_in, name_bytes}
use Rattle.c_types_rules.specs.Statements.{unnamed}
use Rattle.c_types_bodies.proofs.Names.{in_Block, in_If, in_While, in_Do, in_For, in_Labeled}
use Rattle.c_types_bodies.proofs.Names.{in_Switch, in_Case, in_Default}
use Rattle.c_types_bodies.proofs.Names.{of_Declaration, of_Statement}
use Rattle.c_types_bodies.proofs.labels.+labels.Goals as goal

pub push_item-returns-in-Declaration : goal.push_item-returns-in-Declaration
push_item-returns-in-Declaration t c =
    rw (c.in-Declaration.is, of_Declaration) (sym (append-nil c.args.labels.now))

pub push_item-returns-in-Statement : goal.push_item-returns-in-Statement
push_item-returns-in-Statement t c =
    rw (c.in-Statement.is, of_Statement) c.push_labels.ensures

pub push_labels-returns-in-Block : goal.push_labels-returns-in-Block
push_labels-returns-in-Block t c =
    rw (c.in-Block.is, in_Block) (rw c.as_slice.ensures at c.push_all.ensures)

pub push_labels-returns-in-While : goal.push_labels-returns-in-While
push_labels-returns-in-While t c =
    rw (c.in-While.is, in_While) (rw c.get-in-While.ensures at c.push_labels-in-While.ensures)

pub push_labels-returns-in-Do : goal.push_labels-returns-in-Do
push_labels-returns-in-Do t c =
    rw (c.in-Do.is, in_Do) (rw c.get-in-Do.ensures at c.push_labels-in-Do.ensures)

pub push_labels-returns-in-For : goal.push_labels-returns-in-For
push_labels-returns-in-For t c =
    rw (c.in-For.is, in_For) (rw c.get-in-For.ensures at c.push_labels-in-For.ensures)

pub push_labels-returns-in_ok-push_optional-in-If :
    goal.push_labels-returns-in_ok-push_optional-in-If
push_labels-returns-in_ok-push_optional-in-If t c =
    rw (c.in-If.is, in_If)
    (c.in_ok-push_optional-in-If.ensures
    ∙ ap (λ (all : List (List ℕ)). all
    ++ map name_bytes (unwrap_or (option_map labels_in c.in-If.no) []))
    (rw c.get.ensures at c.in_ok-push_labels-in-If.ensures)
    ∙ append_assoc c.args.labels.now (map name_bytes (labels_in c.in-If.yes))
    (map name_bytes (unwrap_or (option_map labels_in c.in-If.no) []))
    ∙ ap (λ (all : List (List ℕ)). c.args.labels.now ++ all)
    (sym (map-append name_bytes (labels_in c.in-If.yes)
    (unwrap_or (option_map labels_in c.in-If.no) []))))

pub push_labels-returns-in_ok-push_labels-in-Labeled :
    goal.push_labels-returns-in_ok-push_labels-in-Labeled
push_labels-returns-in_ok-push_labels-in-Labeled t c =
    let rest = map name_bytes (labels_in c.in-Labeled.body) in
    rw (c.in-Labeled.is, in_Labeled)
    ((rw c.get-in-Labeled.ensures at c.in_ok-push_labels-in-Labeled.ensures)
    ∙ ap (λ (all : List (List ℕ)). all ++ rest)
    (c.in_ok-push-in-Labeled.ensures.pushed
    ∙ ap (λ (bytes : List ℕ). c.args.labels.now ++ bytes ∷ []) c.as_slice-in-Labeled.ensures)
    ∙ append_assoc c.args.labels.now (c.in-Labeled.label.bytes ∷ []) rest)

pub push_labels-returns-in-Switch : goal.push_labels-returns-in-Switch
push_labels-returns-in-Switch t c =
    rw (c.in-Switch.is, in_Switch) (rw c.get-in-Switch.ensures at c.push_switched.ensures)

pub push_labels-returns-in-Case : goal.push_labels-returns-in-Case
push_labels-returns-in-Case t c =
    rw (c.in-Case.is, in_Case) (rw c.get-in-Case.ensures at c.push_selected.ensures)

pub push_labels-returns-in-Default : goal.push_labels-returns-in-Default
push_labels-returns-in-Default t c =
    rw (c.in-Default.is, in_Default)
    (rw c.get-in-Default.ensures at c.push_selected-in-Default.ensures)

pub push_switched-returns : goal.push_switched-returns
push_switched-returns t c =
    let held = c.args.labels.now in
    let names = labels_in c.args.body.now in
    c.in_ok-push_unnamed.ensures
    ∙ ap (λ (all : List (List ℕ)). all ++ map name_bytes (unnamed ∷ []))
    c.in_ok-push_labels.ensures
    ∙ append_assoc held (map name_bytes names) (map name_bytes (unnamed ∷ []))
    ∙ ap (λ (all : List (List ℕ)). held ++ all) (sym (map-append name_bytes names (unnamed ∷ [])))

pub push_selected-returns : goal.push_selected-returns
push_selected-returns t c =
    let rest = map name_bytes (labels_in c.args.body.now) in
    c.in_ok-push_labels.ensures
    ∙ ap (λ (all : List (List ℕ)). all ++ rest) c.in_ok-push_unnamed.ensures
    ∙ append_assoc c.args.labels.now (map name_bytes (unnamed ∷ [])) rest
