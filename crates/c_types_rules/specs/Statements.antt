-- Where each act of a function stands: which names are declared there, and whether in a loop (C11
-- 6.2.1, 6.8). No rule is in it.
use Rattle.std.specs.Prelude.{ℕ, ◌+◌, ℤ, pos, ◌+ℤ◌, Bool, true, List, [], ◌∷◌, ◌++◌, length, map}
use Rattle.std.specs.Prelude.{Option, None, Some, is_some, unwrap_or, option_map, option_and_then}
use Rattle.std.specs.Option.{option_to_list}
use Rattle.std.specs.List.{flat_map}
use Rattle.cpa_ints.specs.declared.integers.IntType.{IntType}
use Rattle.cpa_ints.specs.Conversions.{promoted}
use Rattle.cpa_ints.specs.Wrapping.{wrapped}
use Rattle.c_grammar_tree.specs.declared.name.Name.{Name}
use Rattle.c_grammar_tree.specs.declared.expression.Expression.{Expression}
use Rattle.c_grammar_tree.specs.declared.declaration.Enumerator.{Enumerator}
use Rattle.c_grammar_tree.specs.declared.declaration.Enumeration.{Enumeration}
use Rattle.c_grammar_tree.specs.declared.declaration.Enumeration.TheVariants as enumeration
use Rattle.c_grammar_tree.specs.declared.declaration.Declarator.{Declarator}
use Rattle.c_grammar_tree.specs.declared.declaration.Declaration.{Declaration}
use Rattle.c_grammar_tree.specs.declared.item.Parameter.{Parameter}
use Rattle.c_grammar_tree.specs.declared.statement.ForStart.{ForStart}
use Rattle.c_grammar_tree.specs.declared.statement.ForStart.TheVariants as start
use Rattle.c_grammar_tree.specs.declared.statement.BlockItem.{BlockItem}
use Rattle.c_grammar_tree.specs.declared.statement.BlockItem.TheOpen.{BlockItem-F, Statement-F}
use Rattle.c_grammar_tree.specs.declared.statement.BlockItem.TheFolds.{fold-BlockItem}
use Rattle.c_types_rules.specs.declared.meaning.Kind.{Kind}
use Rattle.c_types_rules.specs.declared.meaning.Entry.{Entry}
use Rattle.c_types_rules.specs.declared.meaning.Role.{Role}
use Rattle.c_types_rules.specs.declared.typed.Choice.{Choice}
use Rattle.c_types_rules.specs.declared.meaning.Role.TheVariants.{Valued, Evaluated}
use Rattle.c_types_rules.specs.Names.{Text}
use Rattle.c_types_rules.specs.Types.{value_kind}
use Rattle.c_types_rules.specs.Expressions.{reading}
use Rattle.c_types_rules.specs.Declarations.{kind_of, has_const, items_of, names_behind}
use Rattle.c_types_rules.specs.Declarations.{local_entry, parameter_object}
use Rattle.c_types_rules.specs.Declarations.{constant_number, enumerator_number}
use Rattle.c_types_rules.specs.Declarations.{enumerator_entry, tag_entry}

-- what a case knows of its switch: the type of its value, promoted, if it has one; how many names
-- are declared where it stands
pub record Switch : Type 0 where
  pub ty : Option IntType
  pub names : ℕ

-- what is known where something stands in a function
pub record Around : Type 0 where
  -- the names declared so far, those of outer scopes first
  pub names : List Entry
  -- how many of them stand outside this scope
  pub outer : ℕ
  -- how many objects the text has declared so far
  pub objects : ℕ
  pub in_loop : Bool
  -- the number of the label behind the nearest loop or switch, where that is a switch
  pub break_to : Option ℕ
  -- the nearest switch, its cases so far, and the number of the label of its default
  pub switch : Option Switch
  pub choices : List Choice
  pub otherwise : Option ℕ
  -- what the function returns
  pub result : Kind
  -- its labels in order, those of cases, of defaults and behind switches among them without a name
  pub labels : List (List ℕ)
  -- how many of them stand before
  pub passed : ℕ

-- what the rules see of a statement, a declarator or a parameter
pub data Act : Type 0 where
  -- an expression is evaluated
  evaluates : Role → Expression → Act
  -- an object of this type is declared
  declares : Kind → Declarator → Act
  -- a parameter is declared
  receives : Parameter → Act
  -- a goto to the label of this name
  jumps : Name → Act
  -- a label of this name
  marks : Name → Act
  -- a break, and a continue: the word's place
  breaks : ℕ → Act
  continues : ℕ → Act
  -- a case, or without a value a default: the word's place
  selects : Option Expression → ℕ → Act
  -- a tag is used, and one is declared
  refers : Name → Act
  tags : Name → Act
  -- an enumerator is declared, of this value where none is given
  enumerates : ℤ → Enumerator → Act
  -- a return, with a value or without one: the word's place
  returns : ℕ → Bool → Act

pub record Site : Type 0 where
  pub around : Around
  pub act : Act

-- the acts of a part in order, and what is known behind it
pub record Walk : Type 0 where
  pub sites : Around → List Site
  pub behind : Around → Around

-- nothing
abbrev pub still : Walk
still = record { sites = λ around. []; behind = λ around. around }

-- one act, which declares nothing
abbrev pub doing : Act → Walk
doing act =
    record {
      sites = λ around. record { around = around; act = act }
          ∷ [];
      behind = λ around. around;
    }

-- one after the other
abbrev pub followed : Walk → Walk → Walk
followed first second = record {
  sites = λ around. first.sites around ++ second.sites (first.behind around);
  behind = λ around. second.behind (first.behind around);
}

abbrev pub in_order : List Walk → Walk
in_order [] = still
in_order (first ∷ rest) = followed first (in_order rest)

-- behind a part nothing is left of it but the counts of objects and of labels, and what it is to
-- the switch around it
abbrev pub left_by : Around → Around → Around
left_by around inner = record around {
  objects = inner.objects;
  choices = inner.choices;
  otherwise = inner.otherwise;
  passed = inner.passed;
}

-- a part in a scope of its own (C11 6.2.1p4)
abbrev pub inner : Around → Around
inner around = record around { outer = length around.names }

abbrev pub scoped : Walk → Walk
scoped part = record {
  sites = λ around. part.sites (inner around);
  behind = λ around. left_by around (part.behind (inner around));
}

-- the body of a loop (C11 6.8.5)
abbrev pub loop : Around → Around
loop around = record around { in_loop = true; break_to = None }

abbrev pub looped : Walk → Walk
looped part = record {
  sites = λ around. part.sites (loop around);
  behind = λ around. left_by around (part.behind (loop around));
}

-- behind a label
abbrev pub labeled : Around → Around
labeled around = record around { passed = around.passed + 1 }

-- a label of this name
abbrev pub marking : Name → Walk
marking label = record {
  sites = λ around. record { around = around; act = marks label } ∷ [];
  behind = labeled;
}

-- the number of the label behind a part: those of the part come before it
abbrev pub end_behind : Walk → Around → ℕ
end_behind part around = (part.behind around).passed

-- the body of a switch on this value, which ends at this label (C11 6.8.4.2)
abbrev pub switched : Text → Expression → ℕ → Around → Around
switched text value end around = record around {
  break_to = Some end;
  switch = Some (record {
    ty = option_map promoted (value_kind (reading text around.names value).part.kind);
    names = length around.names;
  });
  choices = [];
  otherwise = None;
}

-- behind a switch
abbrev pub left_switch : Around → Around → Around
left_switch around inner =
    record around { objects = inner.objects; passed = inner.passed + 1 }

abbrev pub switching : Text → Expression → Walk → Walk
switching text value part = record {
  sites = λ around. part.sites (switched text value (end_behind part around) around);
  behind = λ around.
      left_switch around (part.behind (switched text value (end_behind part around) around));
}

-- the value of a case, converted to the promoted type of its switch, where both have values (C11
-- 6.8.4.2p5)
abbrev pub selected_value : Text → Around → Expression → Option ℤ
selected_value text around value = elim around.switch [
  | None ↦ None
  | Some switch ↦ option_and_then
      (λ t. option_map (wrapped t) (constant_number text around.names value)) switch.ty
]

-- behind a case, or without a value a default
abbrev pub selected : Text → Option Expression → Around → Around
selected text None around =
    record around { otherwise = Some around.passed; passed = around.passed + 1 }
selected text (Some value) around = record around {
  choices = around.choices
      ++ option_to_list (option_map (λ n. record { value = n; label = around.passed })
      (selected_value text around value));
  passed = around.passed + 1;
}

abbrev pub selecting : Text → Option Expression → ℕ → Walk
selecting text value place = record {
  sites = λ around. record { around = around; act = selects value place } ∷ [];
  behind = selected text value;
}

-- behind a name that is declared
abbrev pub naming : Entry → Around → Around
naming entry around = record around { names = around.names ++ entry ∷ [] }

-- a tag is declared behind its word (C11 6.2.1p7)
abbrev pub tagging : Name → Walk
tagging tag = record {
  sites = λ around. record { around = around; act = tags tag } ∷ [];
  behind = naming (tag_entry tag.bytes);
}

-- enumerators in order, of which the first is this number where none is given; each is declared
-- behind itself (C11 6.2.1p7)
abbrev pub enumerating : Text → ℤ → List Enumerator → Walk
enumerating text next [] = still
enumerating text next (one ∷ more) = record {
  sites = λ around.
      let n = enumerator_number text around.names next one in
      record { around = around; act = enumerates next one }
      ∷ (enumerating text (n +ℤ pos 1) more).sites
      (naming (enumerator_entry one.name.bytes n) around);
  behind = λ around.
      let n = enumerator_number text around.names next one in
      (enumerating text (n +ℤ pos 1) more).behind
      (naming (enumerator_entry one.name.bytes n) around);
}

-- the enumerated type of specifiers, if they have one: the first enumerator is 0 (C11 6.7.2.2p3)
abbrev pub enumeration_walk : Text → Option Enumeration → Walk
enumeration_walk text None = still
enumeration_walk text (Some (enumeration.Tag tag)) = doing (refers tag)
enumeration_walk text (Some (enumeration.Listed None found)) = enumerating text (pos 0) found
enumeration_walk text (Some (enumeration.Listed (Some tag) found)) =
    followed (tagging tag) (enumerating text (pos 0) found)

-- an expression that may be left out
abbrev pub evaluating : Role → Option Expression → Walk
evaluating role None = still
evaluating role (Some expression) = doing (evaluates role expression)

-- behind its declarator an object's name is declared, for its initializer too (C11 6.2.1p7)
abbrev pub declaring_behind : Text → Kind → Bool → Declarator → Around → Around
declaring_behind text kind is_const declarator around = record around {
  names = names_behind text around.names around.objects kind is_const declarator;
  objects = around.objects + 1;
}

-- a declared object and its initializer
abbrev pub declarator_walk : Text → Kind → Bool → Declarator → Walk
declarator_walk text kind is_const declarator = record {
  sites = λ around. record { around = around; act = declares kind declarator }
      ∷ map (λ item. record {
        around = declaring_behind text kind is_const declarator around;
        act =
            evaluates Valued item;
      })
      (items_of declarator.initializer);
  behind = declaring_behind text kind is_const declarator;
}

abbrev pub declaration_walk : Text → Declaration → Walk
declaration_walk text declaration =
    followed (enumeration_walk text declaration.specifiers.enumeration)
    (in_order (map (declarator_walk text (kind_of text declaration.specifiers)
    (has_const declaration.specifiers)) declaration.declarators))

-- behind a parameter its name is declared, if it has one
abbrev pub receiving_behind : Text → Parameter → Around → Around
receiving_behind text parameter around = record around {
  names = elim parameter.name [
    | None ↦ around.names
    | Some name ↦ around.names ++ local_entry name.bytes
        (parameter_object text around.objects parameter) ∷ []
  ];
  objects = around.objects + 1;
}

abbrev pub receiving : Text → Parameter → Walk
receiving text parameter = record {
  sites = λ around. record { around = around; act = receives parameter } ∷ [];
  behind = receiving_behind text parameter;
}

abbrev pub perhaps : Option Walk → Walk
perhaps None = still
perhaps (Some part) = part

abbrev pub start_walk : Text → ForStart → Walk
start_walk text (start.Declaration declaration) = declaration_walk text declaration
start_walk text (start.Expression expression) = evaluating Evaluated expression

-- a statement, with a walk for each statement in it
abbrev pub statement_walk : Text → Statement-F Walk Walk → Walk
statement_walk text (Statement-F.Block items place) = scoped (in_order items)
statement_walk text (Statement-F.Expression expression place) = evaluating Evaluated expression
statement_walk text (Statement-F.If test first second place) =
    followed (doing (evaluates Valued test)) (followed first (perhaps second))
statement_walk text (Statement-F.While test body place) =
    followed (doing (evaluates Valued test)) (looped body)
statement_walk text (Statement-F.Do body test place) =
    followed (looped body) (doing (evaluates Valued test))
-- a declaration of a for stands in a scope round the whole statement (C11 6.8.5.3)
statement_walk text (Statement-F.For first test step body place) =
    scoped (followed (start_walk text first)
    (followed (evaluating Valued test) (followed (evaluating Evaluated step) (looped body))))
statement_walk text (Statement-F.Goto label place) = doing (jumps label)
statement_walk text (Statement-F.Switch value body place) =
    followed (doing (evaluates Valued value)) (switching text value body)
statement_walk text (Statement-F.Case value body place) =
    followed (selecting text (Some value) place) body
statement_walk text (Statement-F.Default body place) =
    followed (selecting text None place) body
statement_walk text (Statement-F.Break place) = doing (breaks place)
statement_walk text (Statement-F.Continue place) = doing (continues place)
statement_walk text (Statement-F.Return expression place) =
    followed (doing (returns place (is_some expression))) (evaluating Valued expression)
statement_walk text (Statement-F.Labeled label body) = followed (marking label) body

abbrev pub item_walk : Text → BlockItem-F Walk Walk → Walk
item_walk text (BlockItem-F.Declaration declaration) = declaration_walk text declaration
item_walk text (BlockItem-F.Statement statement) = statement

-- the acts of an item of a block
unfoldable pub walk_of : Text → BlockItem → Walk
walk_of text = fold-BlockItem Walk Walk (item_walk text) (statement_walk text)

-- a label without a name, which no identifier is
abbrev pub unnamed : Name
unnamed = record { bytes = []; place = 0 }

-- the labels in a statement, in order; the one behind a switch stands behind its body
abbrev pub labels_step : Statement-F (List Name) (List Name) → List Name
labels_step (Statement-F.Block items place) = flat_map (λ names. names) items
labels_step (Statement-F.If test first second place) = first ++ unwrap_or second []
labels_step (Statement-F.While test body place) = body
labels_step (Statement-F.Do body test place) = body
labels_step (Statement-F.For first test step body place) = body
labels_step (Statement-F.Switch value body place) = body ++ unnamed ∷ []
labels_step (Statement-F.Case value body place) = unnamed ∷ body
labels_step (Statement-F.Default body place) = unnamed ∷ body
labels_step (Statement-F.Labeled label body) = label ∷ body
labels_step _ = []

abbrev pub labels_item : BlockItem-F (List Name) (List Name) → List Name
labels_item (BlockItem-F.Declaration declaration) = []
labels_item (BlockItem-F.Statement statement) = statement

unfoldable pub labels_of : BlockItem → List Name
labels_of = fold-BlockItem (List Name) (List Name) labels_item labels_step
