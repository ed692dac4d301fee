-- What one item gives, and what the others add.
use Rattle.std.proofs.Common.{◌≡◌, List, [], ◌∷◌, ◌++◌, Option, sym}
use Rattle.std.proofs.lemmas.List.{append-nil, append_assoc}
use Rattle.c_lexer.specs.declared.fault.TextFault.{TextFault}
use Rattle.c_grammar_tree.specs.declared.item.Item.{Item}
use Rattle.c_types_rules.specs.declared.typed.TypedFunction.{TypedFunction}
use Rattle.c_types_rules.specs.Names.{Text}
use Rattle.c_types_rules.specs.First.{first_with, first_append}
use Rattle.c_types_rules.specs.Items.{Before, Call, item_behind, item_faults, items_faults}
use Rattle.c_types_rules.specs.Items.{item_calls}
use Rattle.c_types_rules.specs.Items.{items_calls}
use Rattle.c_types_rules.specs.Sound.{Start, item_function, functions_of, item_starts, starts_of}

pub no_starts : (held : List Start) → held ++ [] ≡ held
no_starts held = append-nil held

pub no_calls : (held : List Call) → held ++ [] ≡ held
no_calls held = append-nil held

pub no_functions : (held : List TypedFunction) → held ++ [] ≡ held
no_functions held = append-nil held

pub faults_next : (held : Option TextFault) (text : Text) (x : Item) (xs : List Item)
    (before : Before) → first_with held (items_faults text (x ∷ xs) before)
    ≡ first_with (first_with held (item_faults text x before))
    (items_faults text xs (item_behind text x before))
faults_next held text x xs before =
    first_append held (item_faults text x before) (items_faults text xs (item_behind text x before))

pub calls_next : (held : List Call) (text : Text) (x : Item) (xs : List Item) (before : Before) →
    held ++ items_calls text (x ∷ xs) before
    ≡ (held ++ item_calls text x before) ++ items_calls text xs (item_behind text x before)
calls_next held text x xs before =
    sym (append_assoc held (item_calls text x before) (items_calls text xs
    (item_behind text x before)))

pub functions_next : (held : List TypedFunction) (text : Text) (x : Item) (xs : List Item)
    (before : Before) → held ++ functions_of text (x ∷ xs) before
    ≡ (held ++ item_function text x before) ++ functions_of text xs (item_behind text x before)
functions_next held text x xs before =
    sym (append_assoc held (item_function text x before) (functions_of text xs
    (item_behind text x before)))

pub starts_next : (held : List Start) (text : Text) (x : Item) (xs : List Item)
    (before : Before) → held ++ starts_of text (x ∷ xs) before
    ≡ (held ++ item_starts text x before) ++ starts_of text xs (item_behind text x before)
starts_next held text x xs before =
    sym (append_assoc held (item_starts text x before) (starts_of text xs
    (item_behind text x before)))

-- what `gather_item` of src/items.rt proves by
pub ruleset gather_item_rules = (first_append, no_starts, no_calls, no_functions)
