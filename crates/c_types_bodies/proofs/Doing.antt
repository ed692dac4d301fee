-- Each act that declares nothing, by what is noted at it: `done_evaluates`, `done_breaks`, and so
-- on.
use Rattle.std.proofs.Common.{◌≡◌, ◌+◌, ℕ, Bool, true, false, not, ◌||◌, option_map, List, [], ◌∷◌}
use Rattle.std.proofs.Common.{◌++◌, map, Option}
use Rattle.std.proofs.Common.{Some, None, is_some, zero, suc, refl, sym, ap, ◌∙◌, append-nil}
use Rattle.std.specs.List.{filter_map, list_any}
use Rattle.std.specs.Str.{bytes_eq}
use Rattle.std.proofs.lemmas.List.{map-append}
use Rattle.c_lexer.specs.declared.fault.Rule.TheVariants as rule
use Rattle.c_lexer.specs.declared.fault.TextFault.{TextFault}
use Rattle.c_grammar_tree.specs.declared.expression.Expression.{Expression}
use Rattle.c_grammar_tree.specs.declared.name.Name.{Name}
use Rattle.c_types_rules.specs.declared.meaning.Role.{Role}
use Rattle.c_types_rules.specs.Names.{Text, place_of}
use Rattle.c_types_rules.specs.First.{first_with}
use Rattle.c_types_rules.specs.Expressions.{reading, used}
use Rattle.c_types_rules.specs.ExpressionRules.{broken, at_if}
use Rattle.c_types_rules.specs.Declarations.{is_void_kind}
use Rattle.c_types_rules.specs.Statements.{Around, evaluates, jumps, breaks, continues, marking}
use Rattle.c_types_rules.specs.Statements.{returns, labeled}
use Rattle.c_types_rules.specs.StatementRules.{Jump, agree, object_number, jump_at}
use Rattle.c_types_rules.specs.Items.{Call}
use Rattle.c_types_expressions.specs.Read.{role_faults, role_calls, calls_are}
use Rattle.c_types_jumps.specs.Found.{with_base}
use Rattle.c_types_bodies.specs.States.{State, noted, walked, done}
use Rattle.c_types_bodies.proofs.Walks.{done_by, same_state}

-- an expression is evaluated
pub done_evaluates : (text : Text) (caller : ℕ) (role : Role) (expression : Expression)
    (old new : State) → new.around ≡ old.around
    → new.first ≡ first_with old.first (role_faults text old.around.names role expression)
    → new.calls ≡ old.calls ++ role_calls text old.around.names caller role expression
    → new.labels ≡ old.labels → new.gotos ≡ old.gotos
    → new ≡ done text caller (evaluates role expression) old
done_evaluates text caller role expression old new around first calls labels gotos =
    done_by text caller (evaluates role expression) old new around first
    (calls ∙ ap (λ (found : List Call). old.calls ++ found)
    (calls_are caller (used role (reading text old.around.names expression))))
    (labels ∙ sym (append-nil old.labels)) (gotos ∙ sym (append-nil old.gotos))

-- one rule alone is broken by an act, if any
one_rule : (held : Option TextFault) (faults : List TextFault)
    → first_with held faults ≡ first_with held (faults ++ [])
one_rule held faults =
    ap (λ (all : List TextFault). first_with held all) (sym (append-nil faults))

-- so many rules behind it are not broken
abbrev and_none : ℕ → List TextFault → List TextFault
and_none zero faults = faults
and_none (suc n) faults = and_none n faults ++ []

other_rules : (n : ℕ) (held : Option TextFault) (faults : List TextFault)
    → first_with held faults ≡ first_with held (and_none n faults)
other_rules zero held faults = refl
other_rules (suc n) held faults = other_rules n held faults ∙ one_rule held (and_none n faults)

pub done_breaks : (text : Text) (caller place : ℕ) (old new : State) → new.around ≡ old.around
    → new.first ≡ first_with old.first (broken rule.N8
    (at_if (not (old.around.in_loop || is_some old.around.break_to)) place))
    → new.calls ≡ old.calls → new.labels ≡ old.labels → new.gotos ≡ old.gotos
    → new ≡ done text caller (breaks place) old
done_breaks text caller place old new around first calls labels gotos =
    done_by text caller (breaks place) old new around
    (first ∙ other_rules 6 old.first (broken rule.N8
    (at_if (not (old.around.in_loop || is_some old.around.break_to)) place)))
    (calls ∙ sym (append-nil old.calls)) (labels ∙ sym (append-nil old.labels))
    (gotos ∙ sym (append-nil old.gotos))

pub done_continues : (text : Text) (caller place : ℕ) (old new : State)
    → new.around ≡ old.around
    → new.first ≡ first_with old.first (broken rule.N8 (at_if (not old.around.in_loop) place))
    → new.calls ≡ old.calls → new.labels ≡ old.labels → new.gotos ≡ old.gotos
    → new ≡ done text caller (continues place) old
done_continues text caller place old new around first calls labels gotos =
    done_by text caller (continues place) old new around
    (first ∙ other_rules 6 old.first (broken rule.N8 (at_if (not old.around.in_loop) place)))
    (calls ∙ sym (append-nil old.calls)) (labels ∙ sym (append-nil old.labels))
    (gotos ∙ sym (append-nil old.gotos))

pub done_returns : (text : Text) (caller place : ℕ) (with_value : Bool) (old new : State)
    → new.around ≡ old.around
    → new.first ≡ first_with old.first
    (broken rule.N16 (at_if (agree with_value (is_void_kind old.around.result)) place))
    → new.calls ≡ old.calls → new.labels ≡ old.labels → new.gotos ≡ old.gotos
    → new ≡ done text caller (returns place with_value) old
done_returns text caller place with_value old new around first calls labels gotos =
    let faults =
    broken rule.N16 (at_if (agree with_value (is_void_kind old.around.result)) place) in
    done_by text caller (returns place with_value) old new around
    (first ∙ other_rules 3 old.first faults) (calls ∙ sym (append-nil old.calls))
    (labels ∙ sym (append-nil old.labels)) (gotos ∙ sym (append-nil old.gotos))

abbrev pub is_none_of : {T : Type 0} → Option T → Bool
is_none_of None = true
is_none_of (Some x) = false

abbrev pub placed_by : Bool → Option ℕ → Option ℕ
placed_by b found = elim b [ true ↦ Some 0 | false ↦ option_map (λ n. n + 1) found ]

-- a name has no place where none of the names is it
pub missing : (name : List ℕ) (names : List (List ℕ))
    → not (list_any (bytes_eq name) names) ≡ is_none_of (place_of (bytes_eq name) names)
missing name [] = refl
missing name (one ∷ names) =
    here (bytes_eq name one) (list_any (bytes_eq name) names) (place_of (bytes_eq name) names)
    (missing name names)
  where
    here : (b later : Bool) (place : Option ℕ) → not later ≡ is_none_of place
        → not (b || later) ≡ is_none_of (placed_by b place)
    here true later place is = refl
    here false later None is = is
    here false later (Some n) is = is

pub done_jumps : (text : Text) (caller : ℕ) (name : Name) (old new : State)
    → new.around ≡ old.around
    → new.first ≡ first_with old.first
    (broken rule.N6 (at_if (not (list_any (bytes_eq name.bytes) old.around.labels)) name.place))
    → new.calls ≡ old.calls → new.labels ≡ old.labels
    → new.gotos ≡ old.gotos ++ jump_at name old.around ∷ []
    → new ≡ done text caller (jumps name) old
done_jumps text caller name old new around first calls labels gotos =
    let faults = broken rule.N6
    (at_if (not (list_any (bytes_eq name.bytes) old.around.labels)) name.place) in
    done_by text caller (jumps name) old new around
    (first ∙ other_rules 7 old.first faults)
    (calls ∙ sym (append-nil old.calls)) (labels ∙ sym (append-nil old.labels)) gotos

pub marking_state : (text : Text) (caller : ℕ) (name : Name) (old new : State)
    → new.around ≡ labeled old.around → new.first ≡ old.first → new.calls ≡ old.calls
    → new.labels ≡ old.labels ++ jump_at name old.around ∷ [] → new.gotos ≡ old.gotos
    → new ≡ walked text caller (marking name) old
unfolding noted
marking_state text caller name old new around first calls labels gotos =
    same_state new (walked text caller (marking name) old) around first
    (calls ∙ sym (append-nil old.calls)) labels (gotos ∙ sym (append-nil old.gotos))

-- one more label or goto, in scope of the objects that are told
pub based_more : (base : List ℕ) (held : List Jump) (name : Name) (current : List ℕ)
    (around : Around) → filter_map object_number around.names ≡ base ++ current
    → map (with_base base) (held ++ record { name = name; scopes = current } ∷ [])
    ≡ map (with_base base) held ++ jump_at name around ∷ []
based_more base held name current around tied =
    map-append (with_base base) held (record { name = name; scopes = current } ∷ [])
    ∙ ap (λ (scopes : List ℕ).
    map (with_base base) held ++ record { name = name; scopes = scopes } ∷ []) (sym tied)
