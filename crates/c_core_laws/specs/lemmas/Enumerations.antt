-- Names of enumerators and tags in file scope that break no rule are not declared there before.
use Rattle.std.proofs.Common.{◌≡◌, ℕ, ℤ, false, List, [], ◌++◌, None, ap, sym, ◌∙◌}
use Rattle.std.specs.Prelude.{drop}
use Rattle.c_lexer.specs.declared.fault.Rule.TheVariants as rule
use Rattle.c_lexer.specs.declared.fault.TextFault.{TextFault}
use Rattle.c_grammar_tree.specs.declared.name.Name.{Name}
use Rattle.c_grammar_tree.specs.declared.declaration.Enumerator.{Enumerator}
use Rattle.c_types_rules.specs.Names.{Text, declared_as, tag_key}
use Rattle.c_types_rules.specs.ExpressionRules.{broken, at_if, uses_faults}
use Rattle.c_types_rules.specs.Declarations.{enumerator_faults, enumerator_uses, is_declared_among}
use Rattle.c_types_rules.specs.Statements.{Around, enumerates, tags}
use Rattle.c_types_rules.specs.StatementRules.{site_faults, is_declared_here}
use Rattle.c_core_laws.specs.lemmas.Entries.{none_among}
use Rattle.c_core_laws.specs.lemmas.Faults.{NoFaults, none_left, not_broken}

-- the second of the rules that an act can break
second_rule : (a x u : List TextFault) →
    NoFaults (a ++ [] ++ [] ++ [] ++ [] ++ x ++ [] ++ [] ++ [] ++ u) → NoFaults a
second_rule a x u none =
    let b = a ++ [] ++ [] ++ [] ++ [] in
    let c = b ++ x in
    let d = c ++ [] ++ [] ++ [] in
    none_left a [] (none_left (a ++ []) [] (none_left (a ++ [] ++ []) []
    (none_left (a ++ [] ++ [] ++ []) [] (none_left b x (none_left c [] (none_left (c ++ []) []
    (none_left (c ++ [] ++ []) [] (none_left d u none))))))))

not_declared : (around : Around) (name : List ℕ) → around.outer ≡ 0 →
    is_declared_here around name ≡ false → declared_as around.names name ≡ None
not_declared around name outer free =
    none_among around.names name
    (ap (λ n. is_declared_among (drop n around.names) name) (sym outer) ∙ free)

pub fresh_enumerator : (text : Text) (around : Around) (next : ℤ) (one : Enumerator) →
    around.outer ≡ 0 →
    NoFaults (site_faults text (record { around = around; act = enumerates next one })) →
    declared_as around.names one.name.bytes ≡ None
fresh_enumerator text around next one outer none =
    let here = is_declared_here around one.name.bytes in
    not_declared around one.name.bytes outer (not_broken rule.N2 here one.name.place
    (second_rule (broken rule.N2 (at_if here one.name.place))
    (broken rule.N12 (enumerator_faults text around.names next one))
    (uses_faults (enumerator_uses text around.names one)) none))

pub fresh_tag : (text : Text) (around : Around) (tag : Name) → around.outer ≡ 0 →
    NoFaults (site_faults text (record { around = around; act = tags tag })) →
    declared_as around.names (tag_key tag.bytes) ≡ None
fresh_tag text around tag outer none =
    let here = is_declared_here around (tag_key tag.bytes) in
    not_declared around (tag_key tag.bytes) outer (not_broken rule.N2 here tag.place
    (second_rule (broken rule.N2 (at_if here tag.place)) [] [] none))
