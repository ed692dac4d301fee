-- Declarators in order: the first one's part, and what the others add (`faults_next`,
-- `starts_next`); what they declare where the type and const of the specifiers are those
-- (`by_specifiers`).
use Rattle.std.proofs.Common.{◌≡◌, Bool, List, ◌∷◌, ◌++◌, Option, sym, ap, ◌∙◌}
use Rattle.std.proofs.lemmas.List.{append_assoc}
use Rattle.c_lexer.specs.declared.fault.TextFault.{TextFault}
use Rattle.c_grammar_tree.specs.declared.declaration.Declarator.{Declarator}
use Rattle.c_types_rules.specs.declared.meaning.Kind.{Kind}
use Rattle.c_types_rules.specs.Names.{Text}
use Rattle.c_types_rules.specs.First.{first_with, first_append}
use Rattle.c_types_rules.specs.Items.{Before, global_behind, global_faults}
use Rattle.c_types_rules.specs.Items.{globals_faults}
use Rattle.c_types_rules.specs.Sound.{Start, start_of, starts_in}

pub faults_next : (held : Option TextFault) (text : Text) (kind : Kind) (is_const : Bool)
    (d : Declarator) (ds : List Declarator) (before : Before) →
    first_with held (globals_faults text kind is_const (d ∷ ds) before)
    ≡ first_with (first_with held (global_faults text before kind is_const d))
    (globals_faults text kind is_const ds (global_behind text kind is_const d before))
faults_next held text kind is_const d ds before =
    first_append held (global_faults text before kind is_const d)
    (globals_faults text kind is_const ds (global_behind text kind is_const d before))

pub starts_next : (held : List Start) (text : Text) (kind : Kind) (is_const : Bool)
    (d : Declarator) (ds : List Declarator) (before : Before) →
    held ++ starts_in text kind is_const (d ∷ ds) before
    ≡ (held ++ start_of text before kind is_const d)
    ++ starts_in text kind is_const ds (global_behind text kind is_const d before)
starts_next held text kind is_const d ds before =
    sym (append_assoc held (start_of text before kind is_const d)
    (starts_in text kind is_const ds (global_behind text kind is_const d before)))

-- of what depends on a type and on const
pub by_specifiers : {Y : Type 0} (f : Kind → Bool → Y) (kind new_kind : Kind)
    (is_const new_is_const : Bool) → kind ≡ new_kind → is_const ≡ new_is_const →
    f kind is_const ≡ f new_kind new_is_const
by_specifiers f kind new_kind is_const new_is_const first second =
    ap (λ (k : Kind). f k is_const) first ∙ ap (λ (b : Bool). f new_kind b) second
