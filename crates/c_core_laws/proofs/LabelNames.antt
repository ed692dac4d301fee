-- A goto to a name has the number of the label of this name (`labels_named`): no label stands
-- twice, and those of cases, of defaults and behind switches have no name.
use Rattle.std.proofs.Common.{◌≡◌, ℕ, ℤ, ◌+ℤ◌, pos, zero, suc, ◌+◌, Bool, true, false, ◌||◌, List}
use Rattle.std.proofs.Common.{[]}
use Rattle.std.proofs.Common.{◌∷◌, ◌++◌, map, length, Option, None, Some, refl, ap, sym, ◌∙◌, subst}
use Rattle.std.proofs.Common.{arith, append_assoc, slice_get, inl, inr}
use Rattle.std.specs.Prelude.{unwrap_or, option_map, is_some, ◌⊎◌}
use Rattle.std.specs.List.{AllByRecursion, flat_map}
use Rattle.std.specs.Str.{bytes_eq}
use Rattle.std.specs.Cmp.Lexicographic.{bytes_decides}
use Rattle.std.proofs.lemmas.List.{append-nil, map-append}
use Rattle.std.proofs.lemmas.Option.{none-some, same_Some}
use Rattle.cpa_model.specs.lemmas.EdgesSound.{all_at}
use Rattle.cpa_model_trees.specs.lemmas.Numbered.{get_right}
use Rattle.c_lexer.specs.declared.fault.TextFault.{TextFault}
use Rattle.c_lexer.specs.declared.fault.Rule.TheVariants as rule
use Rattle.c_grammar_tree.specs.declared.name.Name.{Name}
use Rattle.c_grammar_tree.specs.declared.expression.Expression.{Expression}
use Rattle.c_grammar_tree.specs.declared.declaration.Enumerator.{Enumerator}
use Rattle.c_grammar_tree.specs.declared.declaration.Enumeration.{Enumeration}
use Rattle.c_grammar_tree.specs.declared.declaration.Enumeration.TheVariants as enumeration
use Rattle.c_grammar_tree.specs.declared.declaration.Declaration.{Declaration}
use Rattle.c_grammar_tree.specs.declared.declaration.Specifiers.{Specifiers}
use Rattle.c_grammar_tree.specs.declared.declaration.Declarator.{Declarator}
use Rattle.c_grammar_tree.specs.declared.statement.ForStart.{ForStart}
use Rattle.c_grammar_tree.specs.declared.statement.ForStart.TheVariants as start
use Rattle.c_grammar_tree.specs.declared.statement.Statement.{Statement, roll-Statement}
use Rattle.c_grammar_tree.specs.declared.statement.BlockItem.{BlockItem, roll-BlockItem}
use Rattle.c_grammar_tree.specs.declared.statement.BlockItem.TheOpen.{BlockItem-F, Statement-F}
use Rattle.c_grammar_tree.specs.declared.statement.BlockItem.TheFolds.{ind-BlockItem, map-BlockItem}
use Rattle.c_grammar_tree.specs.declared.statement.BlockItem.TheFolds.{map-Statement}
use Rattle.c_grammar_tree.specs.declared.item.Parameter.{Parameter}
use Rattle.c_grammar_tree.specs.declared.item.FunctionDeclarator.{FunctionDeclarator}
use Rattle.c_grammar_tree.specs.declared.item.Body.TheVariants as made
use Rattle.c_grammar_tree.specs.declared.item.Item.{Item}
use Rattle.c_grammar_tree.specs.declared.item.Item.TheVariants as item
use Rattle.c_grammar_tree.specs.declared.item.Unit.{Unit as UnitTree}
use Rattle.c_types_rules.specs.declared.meaning.Kind.{Kind}
use Rattle.c_types_rules.specs.declared.meaning.Role.{Role}
use Rattle.c_types_rules.specs.declared.meaning.Role.TheVariants.{Valued, Evaluated}
use Rattle.c_types_rules.specs.declared.typed.TypedItem.{TypedItem}
use Rattle.c_types_rules.specs.declared.typed.TypedStatement.{TypedStatement}
use Rattle.c_types_rules.specs.Names.{Text, place_of}
use Rattle.c_types_rules.specs.Declarations.{kind_of, has_const}
use Rattle.c_types_rules.specs.Declarations.{items_of, enumerator_number, enumerator_entry}
use Rattle.c_types_rules.specs.Declarations.{tag_entry}
use Rattle.c_types_rules.specs.Statements.{Around, Act, Site, Walk, walk_of, in_order, receiving}
use Rattle.c_types_rules.specs.Statements.{evaluates, declares, receives, jumps, marks, breaks}
use Rattle.c_types_rules.specs.Statements.{continues, selects, refers, tags, enumerates, returns}
use Rattle.c_types_rules.specs.Statements.{labels_of, unnamed, still, doing, followed, scoped}
use Rattle.c_types_rules.specs.Statements.{looped}
use Rattle.c_types_rules.specs.Statements.{inner, loop, evaluating, start_walk, labeled, selected}
use Rattle.c_types_rules.specs.Statements.{switched, switching, end_behind, marking, selecting}
use Rattle.c_types_rules.specs.Statements.{naming, enumerating, enumeration_walk, declaration_walk}
use Rattle.c_types_rules.specs.Statements.{declarator_walk, labels_item, labels_step}
use Rattle.c_types_rules.specs.StatementRules.{Jump, label_at, goto_at, has_label, repeated_labels}
use Rattle.c_types_rules.specs.StatementRules.{entering_gotos, site_faults, jump_faults}
use Rattle.c_types_rules.specs.ExpressionRules.{broken, at_if}
use Rattle.c_types_rules.specs.TypedStatements.{Grown, grown, grown_item, grown_statement}
use Rattle.c_types_rules.specs.TypedStatements.{label_number}
use Rattle.c_types_rules.specs.Items.{Before, text_in, listed, around_body, function_behind}
use Rattle.c_types_rules.specs.Items.{body_sites, head_faults, item_behind, item_faults}
use Rattle.c_types_rules.specs.Items.{items_faults, nothing_before}
use Rattle.c_core_checked.specs.Sound.{Sound}
use Rattle.c_core_laws.specs.Labels.{IsNamed, item_sites, sites_in}
use Rattle.c_core_laws.specs.lemmas.Faults.{NoFaults, none_left, none_right, not_broken, no_fault}
use Rattle.c_core_laws.specs.lemmas.SameWalk.{grown_of, open_grown_item, open_grown_statement}
use Rattle.c_core_laws.proofs.JumpsTyped.{Keeps, Counts, labels_in, open_labels, open_labels_item}
use Rattle.c_core_laws.proofs.JumpsTyped.{items_walk, flat_items, item_jumped, statement_jumped}
use Rattle.c_core_laws.proofs.JumpsTyped.{keeps_start, quiet_start, counts_quiet}
use Rattle.c_core_laws.proofs.FunctionsJump.{walks_same, keeps_receiving, quiet_receiving}
use Rattle.cpa_ints.specs.declared.data_model.DataModel.{DataModel}

-- the names of the labels at these sites

abbrev names_at : Site → List Name
names_at site = map (λ (jump : Jump). jump.name) (label_at site)

abbrev names_in : List Site → List Name
names_in sites = flat_map names_at sites

names_append : (a b : List Site) → names_in (a ++ b) ≡ names_in a ++ names_in b
names_append [] b = refl
names_append (site ∷ a) b =
    ap (λ (ns : List Name). names_at site ++ ns) (names_append a b)
    ∙ sym (append_assoc (names_at site) (names_in a) (names_in b))

-- these names are those of all labels but of some without a name
abbrev Woven : List Name → List Name → Type 0
Woven named [] = named ≡ []
Woven named (name ∷ names) =
    ((name ≡ unnamed) × Woven named names)
    ⊎ ((rest : List Name) × (named ≡ name ∷ rest) × Woven rest names)

woven_append : (xs ys ns ms : List Name) → Woven xs ns → Woven ys ms →
    Woven (xs ++ ys) (ns ++ ms)
woven_append xs ys [] ms h k = subst (λ (zs : List Name). Woven (zs ++ ys) ms) (sym h) k
woven_append xs ys (n ∷ ns) ms (inl own) k = inl (own.0, woven_append xs ys ns ms own.1 k)
woven_append xs ys (n ∷ ns) ms (inr own) k =
    inr (
      own.0 ++ ys,
      ap (λ (zs : List Name). zs ++ ys) own.1,
      woven_append own.0 ys ns ms own.2 k,
    )

-- a label of a part that begins here: its place among the labels of the part
record Marked (first : Around) (names : List Name) (around : Around) (name : Name) : Type 0 where
  labels : around.labels ≡ first.labels
  index : ℕ
  passed : around.passed ≡ first.passed + index
  at : slice_get names index ≡ Some name

abbrev AtPlace : Around → List Name → Around → Act → Type 0
AtPlace first names around (marks name) = Marked first names around name
AtPlace first names around _ = Unit {0}

abbrev Placed : Around → List Name → List Site → Type 0
Placed first names sites =
    AllByRecursion (λ (site : Site). AtPlace first names site.around site.act) sites

placed_append : (first : Around) (names : List Name) (a b : List Site) → Placed first names a →
    Placed first names b → Placed first names (a ++ b)
placed_append first names [] b h k = k
placed_append first names (site ∷ a) b h k = (h.0, placed_append first names a b h.1 k)

-- seen from another beginning, among other labels
abbrev Moves : Around → List Name → Around → List Name → Type 0
Moves first names other more =
    (around : Around) (name : Name) → Marked first names around name
    → Marked other more around name

at_moved : (first other : Around) (names more : List Name) → Moves first names other more →
    (around : Around) (act : Act) → AtPlace first names around act → AtPlace other more around act
at_moved first other names more f around (evaluates role e) h = tt
at_moved first other names more f around (declares kind declarator) h = tt
at_moved first other names more f around (receives parameter) h = tt
at_moved first other names more f around (jumps name) h = tt
at_moved first other names more f around (marks name) h = f around name h
at_moved first other names more f around (breaks place) h = tt
at_moved first other names more f around (continues place) h = tt
at_moved first other names more f around (selects value place) h = tt
at_moved first other names more f around (refers tag) h = tt
at_moved first other names more f around (tags tag) h = tt
at_moved first other names more f around (enumerates next one) h = tt
at_moved first other names more f around (returns place with_value) h = tt

moved : (first other : Around) (names more : List Name) → Moves first names other more →
    (sites : List Site) → Placed first names sites → Placed other more sites
moved first other names more f [] h = tt
moved first other names more f (site ∷ sites) h = (
  at_moved first other names more f site.around site.act h.0,
  moved first other names more f sites h.1,
)

get_left : (a b : List Name) (i : ℕ) (name : Name) → slice_get a i ≡ Some name →
    slice_get (a ++ b) i ≡ Some name
get_left [] b i name at = absurd (none-some name at)
get_left (n ∷ a) b zero name at = at
get_left (n ∷ a) b (suc i) name at = get_left a b i name at

further : (p q m i r : ℕ) → r ≡ q + i → q ≡ p + m → r ≡ p + (m + i)
further p q m i r is at = omega (arith, is, at)

one_further : (p i r : ℕ) → r ≡ (p + 1) + i → r ≡ p + suc i
one_further p i r is = omega (arith, is)

at_once : (p : ℕ) → p ≡ p + 0
at_once p = omega arith

-- what the labels of a walk are
record Names (walk : Walk) (names : List Name) : Type 0 where
  woven : (around : Around) → Woven (names_in (walk.sites around)) names
  placed : (around : Around) → Placed around names (walk.sites around)

-- walks without labels

nothing_at : (first : Around) (around : Around) (act : Act) (rest : List Name) →
    names_at (record { around = around; act = act }) ++ rest ≡ [] →
    AtPlace first [] around act × (rest ≡ [])
nothing_at first around (evaluates role e) rest h = (tt, h)
nothing_at first around (declares kind declarator) rest h = (tt, h)
nothing_at first around (receives parameter) rest h = (tt, h)
nothing_at first around (jumps name) rest h = (tt, h)
nothing_at first around (marks name) rest h = absurd (cc)
nothing_at first around (breaks place) rest h = (tt, h)
nothing_at first around (continues place) rest h = (tt, h)
nothing_at first around (selects value place) rest h = (tt, h)
nothing_at first around (refers tag) rest h = (tt, h)
nothing_at first around (tags tag) rest h = (tt, h)
nothing_at first around (enumerates next one) rest h = (tt, h)
nothing_at first around (returns place with_value) rest h = (tt, h)

nothing_placed : (first : Around) (sites : List Site) → names_in sites ≡ [] →
    Placed first [] sites
nothing_placed first [] h = tt
nothing_placed first (site ∷ sites) h =
    let r = nothing_at first site.around site.act (names_in sites) h in
    (r.0, nothing_placed first sites r.1)

names_none : (walk : Walk) → ((around : Around) → names_in (walk.sites around) ≡ []) →
    Names walk []
names_none walk h = record {
  woven = λ around. h around;
  placed = λ around. nothing_placed around (walk.sites around) (h around);
}

both_none : (a b : List Site) → names_in a ≡ [] → names_in b ≡ [] → names_in (a ++ b) ≡ []
both_none a b h k = names_append a b ∙ ap (λ (ns : List Name). ns ++ names_in b) h ∙ k

evaluating_none : (role : Role) (e : Option Expression) (around : Around) →
    names_in ((evaluating role e).sites around) ≡ []
evaluating_none role None around = refl
evaluating_none role (Some e) around = refl

abbrev valued_at : Around → Expression → Site
valued_at around e = record { around = around; act = evaluates Valued e }

items_none : (around : Around) (items : List Expression) →
    names_in (map (valued_at around) items) ≡ []
items_none around [] = refl
items_none around (one ∷ items) = items_none around items

declarators_none : (text : Text) (kind : Kind) (is_const : Bool) (declarators : List Declarator)
    (around : Around) →
    names_in ((in_order (map (declarator_walk text kind is_const) declarators)).sites around) ≡ []
declarators_none text kind is_const [] around = refl
declarators_none text kind is_const (declarator ∷ more) around =
    let first = declarator_walk text kind is_const declarator in
    let rest = in_order (map (declarator_walk text kind is_const) more) in
    both_none (first.sites around) (rest.sites (first.behind around))
    (items_none (first.behind around) (items_of declarator.initializer))
    (declarators_none text kind is_const more (first.behind around))

enumerators_none : (text : Text) (next : ℤ) (found : List Enumerator) (around : Around) →
    names_in ((enumerating text next found).sites around) ≡ []
enumerators_none text next [] around = refl
enumerators_none text next (one ∷ more) around =
    let n = enumerator_number text around.names next one in
    enumerators_none text (n +ℤ pos 1) more (naming (enumerator_entry one.name.bytes n) around)

enumeration_none : (text : Text) (found : Option Enumeration) (around : Around) →
    names_in ((enumeration_walk text found).sites around) ≡ []
enumeration_none text None around = refl
enumeration_none text (Some (enumeration.Tag tag)) around = refl
enumeration_none text (Some (enumeration.Listed None found)) around =
    enumerators_none text (pos 0) found around
enumeration_none text (Some (enumeration.Listed (Some tag) found)) around =
    enumerators_none text (pos 0) found (naming (tag_entry tag.bytes) around)

declaration_none : (text : Text) (declaration : Declaration) (around : Around) →
    names_in ((declaration_walk text declaration).sites around) ≡ []
declaration_none text declaration around =
    let first = enumeration_walk text declaration.specifiers.enumeration in
    let kind = kind_of text declaration.specifiers in
    let is_const = has_const declaration.specifiers in
    let rest = in_order (map (declarator_walk text kind is_const) declaration.declarators) in
    both_none (first.sites around) (rest.sites (first.behind around))
    (enumeration_none text declaration.specifiers.enumeration around)
    (declarators_none text kind is_const declaration.declarators (first.behind around))

start_none : (text : Text) (first : ForStart) (around : Around) →
    names_in ((start_walk text first).sites around) ≡ []
start_none text (start.Declaration declaration) around = declaration_none text declaration around
start_none text (start.Expression expression) around = evaluating_none Evaluated expression around

receiving_none : (text : Text) (parameters : List Parameter) (around : Around) →
    names_in ((in_order (map (receiving text) parameters)).sites around) ≡ []
receiving_none text [] around = refl
receiving_none text (parameter ∷ parameters) around =
    receiving_none text parameters ((receiving text parameter).behind around)

module _ (text : Text) where
  -- walks that are put together

  behind_moved : (walk : Walk) (around : Around) (ns ms : List Name) → Keeps text walk →
      Counts walk (length ns) → Moves (walk.behind around) ms around (ns ++ ms)
  behind_moved walk around ns ms keeps counts = λ inside name m. record {
    labels = m.labels ∙ keeps.names around;
    index = length ns + m.index;
    passed = further around.passed (walk.behind around).passed (length ns) m.index inside.passed
        m.passed (counts.passes around);
    at = get_right ns ms m.index ∙ m.at;
  }

  names_then : (a b : Walk) (ns ms : List Name) → Keeps text a → Counts a (length ns) →
      Names a ns → Names b ms → Names (followed a b) (ns ++ ms)
  names_then a b ns ms keeps counts h k = record {
    woven = λ around.
        let behind = a.behind around in
        subst (λ (xs : List Name). Woven xs (ns ++ ms))
        (sym (names_append (a.sites around) (b.sites behind)))
        (woven_append (names_in (a.sites around)) (names_in (b.sites behind)) ns ms
        (h.woven around) (k.woven behind));
    placed = λ around.
        let behind = a.behind around in
        placed_append around (ns ++ ms) (a.sites around) (b.sites behind)
        (moved around around ns (ns ++ ms) (λ inside name m. record {
          labels = m.labels;
          index = m.index;
          passed = m.passed;
          at = get_left ns ms m.index name m.at;
        }) (a.sites around) (h.placed around))
        (moved behind around ms (ns ++ ms) (behind_moved a around ns ms keeps counts)
        (b.sites behind) (k.placed behind));
  }

  names_is : (walk : Walk) (ns ms : List Name) → ns ≡ ms → Names walk ns → Names walk ms
  names_is walk ns ms is h = subst (λ (xs : List Name). Names walk xs) is h

  names_before : (a b : Walk) (ns : List Name) → Keeps text a → Counts a (length ns) →
      Names a ns → Names b [] → Names (followed a b) ns
  names_before a b ns keeps counts h k =
      names_is (followed a b) (ns ++ []) ns (append-nil ns)
      (names_then a b ns [] keeps counts h k)

  names_scoped : (walk : Walk) (ns : List Name) → Names walk ns → Names (scoped walk) ns
  names_scoped walk ns h = record {
    woven = λ around. h.woven (inner around);
    placed = λ around.
        moved (inner around) around ns ns (λ inside name m. record {
          labels = m.labels;
          index = m.index;
          passed = m.passed;
          at = m.at;
        }) (walk.sites (inner around)) (h.placed (inner around));
  }

  names_looped : (walk : Walk) (ns : List Name) → Names walk ns → Names (looped walk) ns
  names_looped walk ns h = record {
    woven = λ around. h.woven (loop around);
    placed = λ around.
        moved (loop around) around ns ns (λ inside name m. record {
          labels = m.labels;
          index = m.index;
          passed = m.passed;
          at = m.at;
        }) (walk.sites (loop around)) (h.placed (loop around));
  }

  -- behind a label
  label_moved : (around after : Around) (name : Name) (ns : List Name) →
      after.labels ≡ around.labels → after.passed ≡ around.passed + 1 →
      Moves after ns around (name ∷ ns)
  label_moved around after name ns labels passed = λ inside one m. record {
    labels = m.labels ∙ labels;
    index = suc m.index;
    passed = one_further around.passed m.index inside.passed
        (m.passed ∙ ap (λ n. n + m.index) passed);
    at = m.at;
  }

  names_labeled : (label : Name) (walk : Walk) (ns : List Name) → Names walk ns →
      Names (followed (marking label) walk) (label ∷ ns)
  names_labeled label walk ns h = record {
    woven = λ around.
        inr (names_in (walk.sites (labeled around)), refl, h.woven (labeled around));
    placed = λ around. (
      record { labels = refl; index = 0; passed = at_once around.passed; at = refl },
      moved (labeled around) around ns (label ∷ ns)
          (label_moved around (labeled around) label ns refl refl)
          (walk.sites (labeled around)) (h.placed (labeled around)),
    );
  }

  names_case : (value : Expression) (place : ℕ) (walk : Walk) (ns : List Name) → Names walk ns →
      Names (followed (selecting text (Some value) place) walk) (unnamed ∷ ns)
  names_case value place walk ns h = record {
    woven = λ around. inl (refl, h.woven (selected text (Some value) around));
    placed = λ around.
        let after = selected text (Some value) around in (
          tt,
          moved after around ns (unnamed ∷ ns) (label_moved around after unnamed ns refl refl)
              (walk.sites after) (h.placed after),
        );
  }

  names_default : (place : ℕ) (walk : Walk) (ns : List Name) → Names walk ns →
      Names (followed (selecting text None place) walk) (unnamed ∷ ns)
  names_default place walk ns h = record {
    woven = λ around. inl (refl, h.woven (selected text None around));
    placed = λ around.
        let after = selected text None around in (
          tt,
          moved after around ns (unnamed ∷ ns) (label_moved around after unnamed ns refl refl)
              (walk.sites after) (h.placed after),
        );
  }

  names_switch : (value : Expression) (walk : Walk) (ns : List Name) → Names walk ns →
      Names (switching text value walk) (ns ++ unnamed ∷ [])
  names_switch value walk ns h = record {
    woven = λ around.
        let within = switched text value (end_behind walk around) around in
        let xs = names_in (walk.sites within) in
        subst (λ (zs : List Name). Woven zs (ns ++ unnamed ∷ [])) (append-nil xs)
        (woven_append xs [] ns (unnamed ∷ []) (h.woven within) (inl (refl, refl)));
    placed = λ around.
        let within = switched text value (end_behind walk around) around in
        moved within around ns (ns ++ unnamed ∷ []) (λ inside name m. record {
          labels = m.labels;
          index = m.index;
          passed = m.passed;
          at = get_left ns (unnamed ∷ []) m.index name m.at;
        }) (walk.sites within) (h.placed within);
  }

  -- a quiet walk before another one
  names_behind : (a b : Walk) (ns : List Name) → Keeps text a → Counts a 0 → Names a [] →
      Names b ns → Names (followed a b) ns
  names_behind a b ns keeps counts h k = names_then a b [] ns keeps counts h k

  doing_names : (act : Act) → ((around : Around) →
      names_at (record { around = around; act = act }) ≡ []) → Names (doing act) []
  doing_names act none = names_none (doing act)
      (λ around. append-nil (names_at (record { around = around; act = act })) ∙ none around)

  evaluating_names : (role : Role) (e : Option Expression) → Names (evaluating role e) []
  evaluating_names role e = names_none (evaluating role e) (evaluating_none role e)

  start_names : (first : ForStart) → Names (start_walk text first) []
  start_names first = names_none (start_walk text first) (start_none text first)

  abbrev ItemNames : BlockItem → Type 0
  ItemNames one = Names (grown text one).walk (labels_of one)

  abbrev StatementNames : Statement → Type 0
  StatementNames s = Names (grown_of text s).walk (labels_in text s)

  abbrev HeldItem : Type 0
  HeldItem = (one : BlockItem) × ItemNames one

  abbrev HeldStatement : Type 0
  HeldStatement = (s : Statement) × StatementNames s

  abbrev bare_item : BlockItem-F HeldItem HeldStatement → BlockItem-F BlockItem Statement
  bare_item y = map-BlockItem HeldItem HeldStatement BlockItem Statement (λ e. e.0) (λ e. e.0) y

  abbrev bare : Statement-F HeldItem HeldStatement → Statement-F BlockItem Statement
  bare y = map-Statement HeldItem HeldStatement BlockItem Statement (λ e. e.0) (λ e. e.0) y

  abbrev grown_layer : Statement-F HeldItem HeldStatement → Grown TypedStatement
  grown_layer y = grown_statement text (map-Statement BlockItem Statement (Grown TypedItem)
      (Grown TypedStatement) (grown text) (grown_of text) (bare y))

  abbrev names_layer : Statement-F HeldItem HeldStatement → List Name
  names_layer y = labels_step (map-Statement BlockItem Statement (List Name) (List Name)
      labels_of (labels_in text) (bare y))

  items_names : (items : List BlockItem) → AllByRecursion ItemNames items →
      Names (items_walk text items) (flat_map labels_of items)
  items_names [] all = names_none still (λ around. refl)
  items_names (one ∷ items) all =
      names_then (grown text one).walk (items_walk text items) (labels_of one)
      (flat_map labels_of items) (item_jumped text one).keeps (item_jumped text one).counts all.0
      (items_names items all.1)

  all_held : (held : List HeldItem) → AllByRecursion ItemNames (map (λ (e : HeldItem). e.0) held)
  all_held [] = tt
  all_held (one ∷ held) = (one.1, all_held held)

  keeps_act : (act : Act) → Keeps text (doing act)
  keeps_act act =
      record { looping = λ around. refl; names = λ around. refl; breaks = λ around. refl }

  counts_act : (act : Act) → Counts (doing act) 0
  counts_act act = counts_quiet (doing act)
      (record { passed = λ around. refl; choices = λ around. refl; otherwise = λ around. refl })

  keeps_optional : (role : Role) (e : Option Expression) → Keeps text (evaluating role e)
  keeps_optional role None =
      record { looping = λ around. refl; names = λ around. refl; breaks = λ around. refl }
  keeps_optional role (Some e) = keeps_act (evaluates role e)

  counts_optional : (role : Role) (e : Option Expression) → Counts (evaluating role e) 0
  counts_optional role None = counts_quiet still
      (record { passed = λ around. refl; choices = λ around. refl; otherwise = λ around. refl })
  counts_optional role (Some e) = counts_act (evaluates role e)

  -- a value in front
  valued_names : (e : Expression) (walk : Walk) (ns : List Name) → Names walk ns →
      Names (followed (doing (evaluates Valued e)) walk) ns
  valued_names e walk ns h =
      names_behind (doing (evaluates Valued e)) walk ns (keeps_act (evaluates Valued e))
      (counts_act (evaluates Valued e)) (doing_names (evaluates Valued e) (λ around. refl)) h

  layer : (y : Statement-F HeldItem HeldStatement) → Names (grown_layer y).walk (names_layer y)
  layer (Statement-F.Block held place) =
      let items = map (λ (e : HeldItem). e.0) held in
      names_is (scoped (items_walk text items)) (flat_map labels_of items)
      (flat_map (λ (names : List Name). names) (map labels_of items))
      (sym (flat_items text items))
      (names_scoped (items_walk text items) (flat_map labels_of items)
      (items_names items (all_held held)))
  layer (Statement-F.Expression expression place) = evaluating_names Evaluated expression
  layer (Statement-F.If test first None place) =
      let g = grown_of text first.0 in
      let names = labels_in text first.0 in
      valued_names test (followed g.walk still) (names ++ [])
      (names_then g.walk still names [] (statement_jumped text first.0).keeps
      (statement_jumped text first.0).counts first.1 (names_none still (λ around. refl)))
  layer (Statement-F.If test first (Some second) place) =
      let g = grown_of text first.0 in
      let h = grown_of text second.0 in
      valued_names test (followed g.walk h.walk)
      (labels_in text first.0 ++ labels_in text second.0)
      (names_then g.walk h.walk (labels_in text first.0) (labels_in text second.0)
      (statement_jumped text first.0).keeps (statement_jumped text first.0).counts first.1
      second.1)
  layer (Statement-F.While test body place) =
      let g = grown_of text body.0 in
      valued_names test (looped g.walk) (labels_in text body.0)
      (names_looped g.walk (labels_in text body.0) body.1)
  layer (Statement-F.Do body test place) =
      let g = grown_of text body.0 in
      let names = labels_in text body.0 in
      names_before (looped g.walk) (doing (evaluates Valued test)) names
      (record { looping = λ around. refl; names = λ around. refl; breaks = λ around. refl })
      (record {
        passes = λ around. (statement_jumped text body.0).counts.passes (loop around);
        cases = λ limit around room held.
            (statement_jumped text body.0).counts.cases limit (loop around) room held;
      }) (names_looped g.walk names body.1)
      (doing_names (evaluates Valued test) (λ around. refl))
  layer (Statement-F.For first test step body place) =
      let g = grown_of text body.0 in
      let names = labels_in text body.0 in
      let front = start_walk text first in
      let tested = evaluating Valued test in
      let stepped = evaluating Evaluated step in
      let inside = followed stepped (looped g.walk) in
      let behind = followed tested inside in
      names_scoped (followed front behind) names
      (names_behind front behind names (keeps_start text first)
      (counts_quiet front (quiet_start text first)) (start_names first)
      (names_behind tested inside names (keeps_optional Valued test)
      (counts_optional Valued test) (evaluating_names Valued test)
      (names_behind stepped (looped g.walk) names (keeps_optional Evaluated step)
      (counts_optional Evaluated step) (evaluating_names Evaluated step)
      (names_looped g.walk names body.1))))
  layer (Statement-F.Goto label place) = doing_names (jumps label) (λ around. refl)
  layer (Statement-F.Switch value body place) =
      let g = grown_of text body.0 in
      valued_names value (switching text value g.walk) (labels_in text body.0 ++ unnamed ∷ [])
      (names_switch value g.walk (labels_in text body.0) body.1)
  layer (Statement-F.Case value body place) =
      names_case value place (grown_of text body.0).walk (labels_in text body.0) body.1
  layer (Statement-F.Default body place) =
      names_default place (grown_of text body.0).walk (labels_in text body.0) body.1
  layer (Statement-F.Break place) = doing_names (breaks place) (λ around. refl)
  layer (Statement-F.Continue place) = doing_names (continues place) (λ around. refl)
  layer (Statement-F.Return value place) =
      let act = returns place (is_some value) in
      names_behind (doing act) (evaluating Valued value) [] (keeps_act act) (counts_act act)
      (doing_names act (λ around. refl)) (evaluating_names Valued value)
  layer (Statement-F.Labeled label body) =
      names_labeled label (grown_of text body.0).walk (labels_in text body.0) body.1

  item_layer : (y : BlockItem-F HeldItem HeldStatement) →
      Names (grown_item text (map-BlockItem BlockItem Statement (Grown TypedItem)
      (Grown TypedStatement) (grown text) (grown_of text) (bare_item y))).walk
      (labels_item (map-BlockItem BlockItem Statement (List Name) (List Name) labels_of
      (labels_in text) (bare_item y)))
  item_layer (BlockItem-F.Declaration declaration) =
      names_none (declaration_walk text declaration) (declaration_none text declaration)
  item_layer (BlockItem-F.Statement s) = s.1

  at_statement : (y : Statement-F HeldItem HeldStatement) (x : Statement-F BlockItem Statement) →
      bare y ≡ x → StatementNames (roll-Statement x)
  at_statement y x is =
      subst (λ (z : Statement-F BlockItem Statement). StatementNames (roll-Statement z)) is
      (subst (λ (g : Grown TypedStatement). Names g.walk (labels_in text (roll-Statement (bare y))))
      (sym (open_grown_statement text (bare y)))
      (subst (λ (names : List Name). Names (grown_layer y).walk names)
      (sym (open_labels text (bare y))) (layer y)))

  at_item : (y : BlockItem-F HeldItem HeldStatement) (x : BlockItem-F BlockItem Statement) →
      bare_item y ≡ x → ItemNames (roll-BlockItem x)
  at_item y x is =
      subst (λ (z : BlockItem-F BlockItem Statement). ItemNames (roll-BlockItem z)) is
      (subst (λ (g : Grown TypedItem). Names g.walk (labels_of (roll-BlockItem (bare_item y))))
      (sym (open_grown_item text (bare_item y)))
      (subst (λ (names : List Name). Names (grown_item text (map-BlockItem BlockItem
      Statement (Grown TypedItem) (Grown TypedStatement) (grown text) (grown_of text)
      (bare_item y))).walk names) (sym (open_labels_item text (bare_item y))) (item_layer y)))

  item_names : (one : BlockItem) → ItemNames one
  item_names =
      ind-BlockItem ItemNames StatementNames (λ x y is. at_item y x is)
      (λ x y is. at_statement y x is)

  all_names : (items : List BlockItem) → AllByRecursion ItemNames items
  all_names [] = tt
  all_names (one ∷ items) = (item_names one, all_names items)

-- names of which none stands twice

abbrev Distinct : List Name → Type 0
Distinct [] = Unit {0}
Distinct (x ∷ xs) =
    AllByRecursion (λ (y : Name). bytes_eq x.bytes y.bytes ≡ false) xs × Distinct xs

first_false : (a b : Bool) → (a || b) ≡ false → a ≡ false
first_false true b h = absurd (cc)
first_false false b h = refl

rest_false : (a b : Bool) → (a || b) ≡ false → b ≡ false
rest_false true b h = absurd (cc)
rest_false false b h = h

abbrev name_of : Jump → Name
name_of jump = jump.name

-- none of these has the name of one of those before
abbrev Apart : List Jump → List Jump → Type 0
Apart before others = AllByRecursion (λ (jump : Jump). has_label before jump.name ≡ false) others

pushed_label : (before : List Jump) (jump : Jump) (name : Name) →
    has_label (before ++ jump ∷ []) name ≡ false →
    (has_label before name ≡ false) × (bytes_eq jump.name.bytes name.bytes ≡ false)
pushed_label [] jump name h = (refl, first_false (bytes_eq jump.name.bytes name.bytes) false h)
pushed_label (one ∷ before) jump name h =
    let here = bytes_eq one.name.bytes name.bytes in
    let rest = has_label (before ++ jump ∷ []) name in
    let r = pushed_label before jump name (rest_false here rest h) in
    (ap (λ b. b || has_label before name) (first_false here rest h) ∙ r.0, r.1)

apart_before : (before : List Jump) (jump : Jump) (others : List Jump) →
    Apart (before ++ jump ∷ []) others → Apart before others
apart_before before jump [] h = tt
apart_before before jump (one ∷ others) h =
    ((pushed_label before jump one.name h.0).0, apart_before before jump others h.1)

apart_from : (before : List Jump) (jump : Jump) (others : List Jump) →
    Apart (before ++ jump ∷ []) others →
    AllByRecursion (λ (y : Name). bytes_eq jump.name.bytes y.bytes ≡ false) (map name_of others)
apart_from before jump [] h = tt
apart_from before jump (one ∷ others) h =
    ((pushed_label before jump one.name h.0).1, apart_from before jump others h.1)

-- a label stands twice
abbrev twice : ℕ → TextFault
twice place = record { rule = rule.N7; place = place }

distinct_from : (before others : List Jump) →
    NoFaults (broken rule.N7 (repeated_labels before others)) →
    Distinct (map name_of others) × Apart before others
distinct_from before [] none = (tt, tt)
distinct_from before (jump ∷ others) none =
    let here = at_if (has_label before jump.name) jump.name.place in
    let rest = repeated_labels (before ++ jump ∷ []) others in
    let apart : NoFaults (broken rule.N7 here ++ broken rule.N7 rest) =
    subst NoFaults (map-append twice here rest) none in
    let fresh : has_label before jump.name ≡ false =
    not_broken rule.N7 (has_label before jump.name) jump.name.place
    (none_left (broken rule.N7 here) (broken rule.N7 rest) apart) in
    let r = distinct_from (before ++ jump ∷ []) others
    (none_right (broken rule.N7 here) (broken rule.N7 rest) apart) in
    ((apart_from before jump others r.1, r.0), (fresh, apart_before before jump others r.1))

-- the first place of a name

false_if : (b : Bool) → (b ≡ true → ⊥) → b ≡ false
false_if true never = absurd (never refl)
false_if false never = refl

true_false : (b : Bool) → b ≡ true → b ≡ false → ⊥
true_false true h k = absurd (cc)
true_false false h k = absurd (cc)

other_not : (a b : List ℕ) → bytes_eq a b ≡ false → bytes_eq b a ≡ false
other_not a b h =
    false_if (bytes_eq b a) (λ is.
    true_false (bytes_eq a b) ((bytes_decides a b).1 (sym ((bytes_decides b a).0 is))) h)

abbrev placed_by : Bool → Option ℕ → Option ℕ
placed_by b place = elim b [ true ↦ Some 0 | false ↦ option_map (λ n. n + 1) place ]

place_here : (b : Bool) (place : Option ℕ) → b ≡ true → placed_by b place ≡ Some 0
place_here true place h = refl
place_here false place h = absurd (cc)

place_further : (b : Bool) (place : Option ℕ) (n : ℕ) → b ≡ false → place ≡ Some n →
    placed_by b place ≡ Some (suc n)
place_further true place n h is = absurd (cc)
place_further false place n h is =
    ap (λ (o : Option ℕ). option_map (λ m. m + 1) o) is ∙ ap (λ m. Some m) (omega arith)

abbrev bytes_of : List Name → List (List ℕ)
bytes_of names = map (λ (name : Name). name.bytes) names

-- it has bytes
abbrev HasName : Name → Type 0
HasName name = name.bytes ≡ [] → ⊥

no_name : (n name : Name) → n ≡ unnamed → n ≡ name → HasName name → ⊥
no_name n name e is has = has (ap (λ (m : Name). m.bytes) (sym is ∙ e))

not_unnamed : (n name : Name) → n ≡ unnamed → HasName name → bytes_eq name.bytes n.bytes ≡ false
not_unnamed n name e has =
    false_if (bytes_eq name.bytes n.bytes) (λ is.
    has ((bytes_decides name.bytes n.bytes).0 is ∙ ap (λ (m : Name). m.bytes) e))

among_woven : (ns ys : List Name) → Woven ys ns → (i : ℕ) (name : Name) →
    slice_get ns i ≡ Some name → HasName name → (j : ℕ) × (slice_get ys j ≡ Some name)
among_woven [] ys w i name at has = absurd (none-some name at)
among_woven (n ∷ ns) ys (inl own) zero name at has =
    absurd (no_name n name own.0 (same_Some n name at) has)
among_woven (n ∷ ns) ys (inl own) (suc i) name at has = among_woven ns ys own.1 i name at has
among_woven (n ∷ ns) ys (inr own) zero name at has =
    (0, ap (λ (zs : List Name). slice_get zs 0) own.1 ∙ at)
among_woven (n ∷ ns) ys (inr own) (suc i) name at has =
    let r = among_woven ns own.0 own.2 i name at has in
    (suc r.0, ap (λ (zs : List Name). slice_get zs (suc r.0)) own.1 ∙ r.1)

first_at : (ns xs : List Name) → Woven xs ns → Distinct xs → (i : ℕ) (name : Name) →
    slice_get ns i ≡ Some name → HasName name →
    place_of (bytes_eq name.bytes) (bytes_of ns) ≡ Some i
first_at [] xs w d i name at has = absurd (none-some name at)
first_at (n ∷ ns) xs w d zero name at has =
    place_here (bytes_eq name.bytes n.bytes) (place_of (bytes_eq name.bytes) (bytes_of ns))
    ((bytes_decides name.bytes n.bytes).1
    (ap (λ (m : Name). m.bytes) (sym (same_Some n name at))))
first_at (n ∷ ns) xs (inl own) d (suc i) name at has =
    place_further (bytes_eq name.bytes n.bytes) (place_of (bytes_eq name.bytes) (bytes_of ns)) i
    (not_unnamed n name own.0 has) (first_at ns xs own.1 d i name at has)
first_at (n ∷ ns) xs (inr own) d (suc i) name at has =
    let e : Distinct (n ∷ own.0) = subst Distinct own.1 d in
    let r = among_woven ns own.0 own.2 i name at has in
    place_further (bytes_eq name.bytes n.bytes) (place_of (bytes_eq name.bytes) (bytes_of ns)) i
    (other_not n.bytes name.bytes
    (all_at (λ (y : Name). bytes_eq n.bytes y.bytes ≡ false) own.0 r.0 name e.0 r.1))
    (first_at ns own.0 own.2 e.1 i name at has)

-- functions

jump_names : (sites : List Site) → map name_of (flat_map label_at sites) ≡ names_in sites
jump_names [] = refl
jump_names (site ∷ sites) =
    map-append name_of (label_at site) (flat_map label_at sites)
    ∙ ap (λ (ns : List Name). names_at site ++ ns) (jump_names sites)

-- a label by its place
named_there : (first : Around) (names : List Name) (xs : List Name) →
    first.labels ≡ bytes_of names → first.passed ≡ 0 → Woven xs names → Distinct xs →
    (around : Around) (name : Name) → Marked first names around name → HasName name →
    label_number around name ≡ around.passed
named_there first names xs labels passed w d around name m has =
    ap (λ (ls : List (List ℕ)). unwrap_or (place_of (bytes_eq name.bytes) ls) 0)
    (m.labels ∙ labels)
    ∙ ap (λ (o : Option ℕ). unwrap_or o 0) (first_at names xs w d m.index name m.at has)
    ∙ sym (m.passed ∙ ap (λ n. n + m.index) passed ∙ none_in_front m.index)
  where
    none_in_front : (n : ℕ) → 0 + n ≡ n
    none_in_front n = omega arith

named_by : (first : Around) (names : List Name) (xs : List Name) →
    first.labels ≡ bytes_of names → first.passed ≡ 0 → Woven xs names → Distinct xs →
    (around : Around) (act : Act) → AtPlace first names around act → IsNamed around act
named_by first names xs labels passed w d around (evaluates role e) h = tt
named_by first names xs labels passed w d around (declares kind declarator) h = tt
named_by first names xs labels passed w d around (receives parameter) h = tt
named_by first names xs labels passed w d around (jumps name) h = tt
named_by first names xs labels passed w d around (marks name) h =
    λ has. named_there first names xs labels passed w d around name h has
named_by first names xs labels passed w d around (breaks place) h = tt
named_by first names xs labels passed w d around (continues place) h = tt
named_by first names xs labels passed w d around (selects value place) h = tt
named_by first names xs labels passed w d around (refers tag) h = tt
named_by first names xs labels passed w d around (tags tag) h = tt
named_by first names xs labels passed w d around (enumerates next one) h = tt
named_by first names xs labels passed w d around (returns place with_value) h = tt

abbrev AllNamed : List Site → Type 0
AllNamed sites = AllByRecursion (λ (site : Site). IsNamed site.around site.act) sites

all_named : (first : Around) (names : List Name) (xs : List Name) →
    first.labels ≡ bytes_of names → first.passed ≡ 0 → Woven xs names → Distinct xs →
    (sites : List Site) → Placed first names sites → AllNamed sites
all_named first names xs labels passed w d [] h = tt
all_named first names xs labels passed w d (site ∷ sites) h = (
  named_by first names xs labels passed w d site.around site.act h.0,
  all_named first names xs labels passed w d sites h.1,
)

named_append : (a b : List Site) → AllNamed a → AllNamed b → AllNamed (a ++ b)
named_append [] b h k = k
named_append (site ∷ a) b h k = (h.0, named_append a b h.1 k)

body_named : (text : Text) (before : Before) (specifiers : Specifiers)
    (declarator : FunctionDeclarator) (items : List BlockItem) (place end : ℕ) →
    NoFaults (jump_faults
    (body_sites text before specifiers declarator (made.Block items place end))) →
    AllNamed (body_sites text before specifiers declarator (made.Block items place end))
body_named text before specifiers declarator items place end none =
    let front = in_order (map (receiving text) (listed declarator.parameters)) in
    let first = around_body text (function_behind text true specifiers declarator before) specifiers
    items in
    let around = front.behind first in
    let inside = (in_order (map (walk_of text) items)).sites around in
    let sites = front.sites first ++ inside in
    let xs = flat_map label_at sites in
    let names = flat_map labels_of items in
    let same : (items_walk text items).sites around ≡ inside =
    ap (λ (ws : List Walk). (in_order ws).sites around) (walks_same text items) in
    let h = items_names text items (all_names text items) in
    let own : map name_of xs ≡ names_in ((items_walk text items).sites around) =
    jump_names sites ∙ names_append (front.sites first) inside
    ∙ ap (λ (ns : List Name). ns ++ names_in inside)
    (receiving_none text (listed declarator.parameters) first)
    ∙ ap (λ (ss : List Site). names_in ss) (sym same) in
    let woven : Woven (map name_of xs) names =
    subst (λ (ns : List Name). Woven ns names) (sym own) (h.woven around) in
    let n7 = broken rule.N7 (repeated_labels [] xs) in
    let n9 = broken rule.N9 (entering_gotos xs (flat_map goto_at sites)) in
    let distinct = (distinct_from [] xs (none_left n7 n9 none)).0 in
    named_append (front.sites first) inside
    (all_named first names (map name_of xs) refl refl woven distinct (front.sites first)
    (moved first first [] names (λ there name m. absurd (none-some name m.at))
    (front.sites first)
    (nothing_placed first (front.sites first)
    (receiving_none text (listed declarator.parameters) first))))
    (all_named around names (map name_of xs)
    ((keeps_receiving text (listed declarator.parameters)).names first)
    ((quiet_receiving text (listed declarator.parameters)).passed first) woven distinct inside
    (subst (λ (ss : List Site). Placed around names ss) same (h.placed around)))

-- a body that is skipped
skipped_named : (text : Text) (before : Before) (specifiers : Specifiers)
    (declarator : FunctionDeclarator) →
    AllNamed (body_sites text before specifiers declarator made.Skipped)
skipped_named text before specifiers declarator =
    let front = in_order (map (receiving text) (listed declarator.parameters)) in
    let first = around_body text (function_behind text true specifiers declarator before) specifiers
    [] in
    named_append (front.sites first) []
    (all_named first [] [] refl refl refl tt (front.sites first)
    (nothing_placed first (front.sites first)
    (receiving_none text (listed declarator.parameters) first))) tt

items_named : (text : Text) (items : List Item) (before : Before) →
    NoFaults (items_faults text items before) → AllNamed (sites_in text items before)
items_named text [] before none = tt
items_named text (item.Empty place ∷ more) before none =
    items_named text more before
    (none_right [] (items_faults text more before) none)
items_named text (item.Typedef specifiers names place ∷ more) before none =
    let one = item.Typedef specifiers names place in
    items_named text more (item_behind text one before)
    (none_right (item_faults text one before)
    (items_faults text more (item_behind text one before)) none)
items_named text (item.Objects declaration ∷ more) before none =
    items_named text more (item_behind text (item.Objects declaration) before)
    (none_right (item_faults text (item.Objects declaration) before)
    (items_faults text more (item_behind text (item.Objects declaration) before)) none)
items_named text (item.Prototype specifiers declarator ∷ more) before none =
    items_named text more (item_behind text (item.Prototype specifiers declarator) before)
    (none_right (item_faults text (item.Prototype specifiers declarator) before)
    (items_faults text more (item_behind text (item.Prototype specifiers declarator) before)) none)
items_named text (item.Function specifiers declarator made.Skipped ∷ more) before none =
    let one = item.Function specifiers declarator made.Skipped in
    named_append (item_sites text one before) (sites_in text more (item_behind text one before))
    (skipped_named text before specifiers declarator)
    (items_named text more (item_behind text one before)
    (none_right (item_faults text one before)
    (items_faults text more (item_behind text one before)) none))
items_named text (item.Function specifiers declarator (made.Block items place end) ∷ more) before
    none =
    let one = item.Function specifiers declarator (made.Block items place end) in
    let rest = items_faults text more (item_behind text one before) in
    let sites = body_sites text before specifiers declarator (made.Block items place end) in
    let of_body = none_right (head_faults text before true specifiers declarator)
    (flat_map (site_faults text) sites ++ jump_faults sites)
    (none_left (item_faults text one before) rest none) in
    named_append sites (sites_in text more (item_behind text one before))
    (body_named text before specifiers declarator items place end
    (none_right (flat_map (site_faults text) sites) (jump_faults sites) of_body))
    (items_named text more (item_behind text one before)
    (none_right (item_faults text one before) rest none))

pub labels_named : (model : DataModel) (tree : UnitTree) → Sound model tree →
    AllByRecursion (λ (site : Site). IsNamed site.around site.act)
    (sites_in (text_in model tree.items) tree.items nothing_before)
labels_named model tree sound =
    items_named (text_in model tree.items) tree.items nothing_before (no_fault model tree sound)
