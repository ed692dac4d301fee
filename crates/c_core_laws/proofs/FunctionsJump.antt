-- Each function of a sound text has the labels that its gotos name, and no loose break or continue.
use Rattle.std.proofs.Common.{◌≡◌, ℕ, ◌+◌, ◌<◌, ◌≤◌, true, false, List, [], ◌∷◌, ◌++◌, map, length}
use Rattle.std.proofs.Common.{Option, None, Some, refl, ap, sym, ◌∙◌, subst, arith}
use Rattle.std.specs.List.{AllByRecursion, flat_map}
use Rattle.std.proofs.lemmas.List.{length-map}
use Rattle.c_grammar_tree.specs.declared.name.Name.{Name}
use Rattle.c_grammar_tree.specs.declared.declaration.Specifiers.{Specifiers}
use Rattle.c_grammar_tree.specs.declared.statement.BlockItem.{BlockItem}
use Rattle.c_grammar_tree.specs.declared.item.Parameter.{Parameter}
use Rattle.c_grammar_tree.specs.declared.item.FunctionDeclarator.{FunctionDeclarator}
use Rattle.c_grammar_tree.specs.declared.item.Body.TheVariants as body
use Rattle.c_grammar_tree.specs.declared.item.Item.{Item}
use Rattle.c_grammar_tree.specs.declared.item.Item.TheVariants as item
use Rattle.c_grammar_tree.specs.declared.item.Unit.{Unit as UnitTree}
use Rattle.c_types_rules.specs.declared.typed.TypedFunction.{TypedFunction}
use Rattle.c_types_rules.specs.Names.{Text}
use Rattle.c_types_rules.specs.Statements.{Site, Walk, walk_of, in_order, receiving, labels_of}
use Rattle.c_types_rules.specs.StatementRules.{site_faults, jump_faults}
use Rattle.c_types_rules.specs.TypedStatements.{grown, walk_in, typed_function}
use Rattle.c_types_rules.specs.Items.{Before, text_in, listed, around_body, function_behind}
use Rattle.c_types_rules.specs.Items.{body_sites}
use Rattle.c_types_rules.specs.Items.{head_faults, item_behind, item_faults, items_faults}
use Rattle.c_types_rules.specs.Items.{nothing_before}
use Rattle.c_types_rules.specs.Sound.{functions_of, unit_functions}
use Rattle.c_core_checked.specs.Sound.{Sound}
use Rattle.c_core_laws.specs.Jumps.{Jumps, function_jumps}
use Rattle.c_core_laws.specs.lemmas.Faults.{NoFaults, none_left, none_right, no_fault}
use Rattle.c_core_laws.specs.lemmas.SameWalk.{same_walk}
use Rattle.c_core_laws.proofs.JumpsTyped.{Clean, clean_right, Keeps, keeps_still, keeps_then}
use Rattle.c_core_laws.proofs.JumpsTyped.{items_fit, all_jumped, Stands, BelowSome}
use Rattle.c_core_laws.proofs.JumpsTyped.{Quiet, quiet_still, quiet_then}
use Rattle.cpa_ints.specs.declared.data_model.DataModel.{DataModel}

-- every goto names one of the labels, and nothing is loose
abbrev pub JumpsFit : Jumps → Type 0
JumpsFit a = (a.loose ≡ false) × AllByRecursion (λ l. l < a.labels) a.gotos

clean_of : (text : Text) (sites : List Site) → NoFaults (flat_map (site_faults text) sites) →
    Clean text sites
clean_of text [] none = tt
clean_of text (site ∷ sites) none =
    let rest = flat_map (site_faults text) sites in (
      none_left (site_faults text site) rest none,
      clean_of text sites (none_right (site_faults text site) rest none),
    )

pub walks_same : (text : Text) (items : List BlockItem) →
    map walk_in (map (grown text) items) ≡ map (walk_of text) items
walks_same text [] = refl
walks_same text (item ∷ items) =
    ap (λ (w : Walk). w ∷ map walk_in (map (grown text) items)) (same_walk text item)
    ∙ ap (λ (ws : List Walk). walk_of text item ∷ ws) (walks_same text items)

pub keeps_receiving : (text : Text) (parameters : List Parameter) →
    Keeps text (in_order (map (receiving text) parameters))
keeps_receiving text [] = keeps_still text
keeps_receiving text (parameter ∷ parameters) =
    keeps_then text (receiving text parameter) (in_order (map (receiving text) parameters))
    (record { looping = λ around. refl; names = λ around. refl; breaks = λ around. refl })
    (keeps_receiving text parameters)

pub quiet_receiving : (text : Text) (parameters : List Parameter) → Quiet
    (in_order (map (receiving text) parameters))
quiet_receiving text [] = quiet_still
quiet_receiving text (parameter ∷ parameters) =
    quiet_then (receiving text parameter) (in_order (map (receiving text) parameters))
    (record { passed = λ around. refl; choices = λ around. refl; otherwise = λ around. refl })
    (quiet_receiving text parameters)

-- at the beginning of a body all its labels are left
room_for : (p n limit : ℕ) → p ≡ 0 → limit ≡ n → p + n ≤ limit
room_for p n limit none is = omega (arith, none, is)

no_break : (n : ℕ) (o : Option ℕ) → o ≡ None → BelowSome n o
no_break n None is = tt
no_break n (Some label) is = absurd (cc)

function_fits : (text : Text) (before : Before) (specifiers : Specifiers)
    (declarator : FunctionDeclarator) (items : List BlockItem) (place end : ℕ) →
    NoFaults (flat_map (site_faults text)
    (body_sites text before specifiers declarator (body.Block items place end))) →
    JumpsFit (function_jumps (typed_function text before specifiers declarator items place end))
function_fits text before specifiers declarator items place end none =
    let front = in_order (map (receiving text) (listed declarator.parameters)) in
    let first = around_body text (function_behind text true specifiers declarator before) specifiers
    items in
    let around = front.behind first in
    let keeps = keeps_receiving text (listed declarator.parameters) in
    let sites = (in_order (map (walk_of text) items)).sites around in
    let clean : Clean text sites =
    clean_right text (front.sites first) sites (clean_of text (front.sites first ++ sites) none) in
    let same : sites ≡ (in_order (map walk_in (map (grown text) items))).sites around =
    ap (λ (ws : List Walk). (in_order ws).sites around) (sym (walks_same text items)) in
    let here = subst (Clean text) same clean in
    let names = flat_map labels_of items in
    let long : length around.labels ≡ length names =
    ap (λ (ls : List (List ℕ)). length ls) (keeps.names first)
    ∙ length-map names (λ (name : Name). name.bytes) in
    let stands : Stands around (length names) = record {
      room = room_for around.passed (length names) (length around.labels)
          ((quiet_receiving text (listed declarator.parameters)).passed first) long;
      breaks = no_break (length around.labels) around.break_to (keeps.breaks first);
    } in
    let h = items_fit text items (all_jumped text items) around stands in
    let many : length around.labels
    ≡ (function_jumps (typed_function text before specifiers declarator items place end)).labels =
    long ∙ sym h.marked in (
      h.bound here (keeps.looping first),
      subst (λ n. AllByRecursion (λ l. l < n) (function_jumps (typed_function text before specifiers
          declarator items place end)).gotos) many (h.named here),
    )

abbrev pub FunctionsFit : List TypedFunction → Type 0
FunctionsFit functions = AllByRecursion JumpsFit (map function_jumps functions)

functions_fit : (text : Text) (items : List Item) (before : Before) →
    NoFaults (items_faults text items before) → FunctionsFit (functions_of text items before)
functions_fit text [] before none = tt
functions_fit text (item.Empty place ∷ more) before none =
    functions_fit text more (item_behind text (item.Empty place) before)
    (none_right (item_faults text (item.Empty place) before)
    (items_faults text more (item_behind text (item.Empty place) before)) none)
functions_fit text (item.Typedef specifiers names place ∷ more) before none =
    let one = item.Typedef specifiers names place in
    functions_fit text more (item_behind text one before)
    (none_right (item_faults text one before)
    (items_faults text more (item_behind text one before)) none)
functions_fit text (item.Objects declaration ∷ more) before none =
    functions_fit text more (item_behind text (item.Objects declaration) before)
    (none_right (item_faults text (item.Objects declaration) before)
    (items_faults text more (item_behind text (item.Objects declaration) before)) none)
functions_fit text (item.Prototype specifiers declarator ∷ more) before none =
    functions_fit text more (item_behind text (item.Prototype specifiers declarator) before)
    (none_right (item_faults text (item.Prototype specifiers declarator) before)
    (items_faults text more (item_behind text (item.Prototype specifiers declarator) before)) none)
functions_fit text (item.Function specifiers declarator body.Skipped ∷ more) before none =
    let one = item.Function specifiers declarator body.Skipped in
    functions_fit text more (item_behind text one before)
    (none_right (item_faults text one before) (items_faults text more (item_behind text one before))
    none)
functions_fit text (item.Function specifiers declarator (body.Block items place end) ∷ more) before
    none =
    let one = item.Function specifiers declarator (body.Block items place end) in
    let rest = items_faults text more (item_behind text one before) in
    let sites = body_sites text before specifiers declarator (body.Block items place end) in
    let own = none_left (item_faults text one before) rest none in
    let of_body = none_right (head_faults text before true specifiers declarator)
    (flat_map (site_faults text) sites ++ jump_faults sites) own in (
      function_fits text before specifiers declarator items place end
          (none_left (flat_map (site_faults text) sites) (jump_faults sites) of_body),
      functions_fit text more (item_behind text one before)
          (none_right (item_faults text one before) rest none),
    )

pub unit_jumps_fit : (model : DataModel) (tree : UnitTree) → Sound model tree →
    FunctionsFit (unit_functions model tree)
unit_jumps_fit model tree sound =
    functions_fit (text_in model tree.items) tree.items nothing_before (no_fault model tree sound)
