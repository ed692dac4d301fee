-- The faults and the calls of uses that stand one after the other (`uses_append`, `calls_append`).
use Rattle.std.proofs.Common.{◌≡◌, ℕ, List, [], ◌∷◌, ◌++◌, Option, refl, ap, sym, ◌∙◌, append_assoc}
use Rattle.std.proofs.lemmas.List.{append-nil}
use Rattle.std.proofs.lemmas.List.Concat.{flat_map-append}
use Rattle.c_lexer.specs.declared.fault.TextFault.{TextFault}
use Rattle.c_grammar_tree.specs.declared.expression.TypeName.{TypeName}
use Rattle.c_grammar_tree.specs.declared.expression.TypeName.TheVariants as type_name
use Rattle.c_types_rules.specs.Items.{Call}
use Rattle.c_types_rules.specs.declared.meaning.Entry.{Entry}
use Rattle.c_types_rules.specs.declared.meaning.Form.{Form}
use Rattle.c_types_rules.specs.declared.meaning.Form.TheVariants.{Bare, Element, Plain}
use Rattle.c_types_rules.specs.declared.meaning.Role.{Role}
use Rattle.c_types_rules.specs.First.{first_with, first_append}
use Rattle.c_types_rules.specs.Expressions.{Reading, Use, used, taken, given, tag_uses}
use Rattle.c_types_rules.specs.ExpressionRules.{use_faults, uses_faults}
use Rattle.c_types_rules.specs.Items.{use_calls}
use Rattle.c_types_expressions.specs.Read.{uses_calls, form_calls}

pub uses_append : (held : Option TextFault) (xs ys : List Use) →
    first_with held (uses_faults (xs ++ ys))
    ≡ first_with (first_with held (uses_faults xs)) (uses_faults ys)
uses_append held xs ys = ap (first_with held) (flat_map-append use_faults xs ys)
    ∙ first_append held (uses_faults xs) (uses_faults ys)

pub uses_one : (held : Option TextFault) (x : Use) →
    first_with held (uses_faults (x ∷ [])) ≡ first_with held (use_faults x)
uses_one held x = ap (first_with held) (append-nil (use_faults x))

pub uses_two : (held : Option TextFault) (x y : Use) →
    first_with held (uses_faults (x ∷ y ∷ []))
    ≡ first_with (first_with held (use_faults x)) (use_faults y)
uses_two held x y = uses_append held (x ∷ []) (y ∷ [])
    ∙ (uses_one (first_with held (uses_faults (x ∷ []))) y
    ∙ ap (λ h. first_with h (use_faults y)) (uses_one held x))

pub used_faults : (held : Option TextFault) (role : Role) (r : Reading) →
    first_with held (uses_faults (used role r))
    ≡ first_with (first_with held (uses_faults r.uses)) (use_faults (taken role r.part))
used_faults held role r = uses_append held r.uses (taken role r.part ∷ [])
    ∙ uses_one (first_with held (uses_faults r.uses)) (taken role r.part)

pub calls_append : (held : List Call) (caller : ℕ) (xs ys : List Use) →
    held ++ uses_calls caller (xs ++ ys)
    ≡ (held ++ uses_calls caller xs) ++ uses_calls caller ys
unfolding uses_calls
calls_append held caller xs ys =
    ap (λ (cs : List Call). held ++ cs) (flat_map-append (use_calls caller) xs ys)
    ∙ sym (append_assoc held (uses_calls caller xs) (uses_calls caller ys))

pub calls_none : (held : List Call) (caller : ℕ) → held ++ uses_calls caller [] ≡ held
unfolding uses_calls
calls_none held caller = append-nil held

-- to take a part in a role is no call
pub used_calls : (caller : ℕ) (role : Role) (r : Reading) →
    uses_calls caller (used role r) ≡ uses_calls caller r.uses
unfolding uses_calls
used_calls caller role r = flat_map-append (use_calls caller) r.uses (taken role r.part ∷ [])
    ∙ append-nil (uses_calls caller r.uses)

-- a tag is none either
pub tag_calls : (caller : ℕ) (names : List Entry) (to_type : TypeName) →
    uses_calls caller (tag_uses names to_type) ≡ []
unfolding uses_calls
tag_calls caller names (type_name.Words words place) = refl
tag_calls caller names (type_name.Typedef named place) = refl
tag_calls caller names (type_name.Enum tag place) = refl

-- how many arguments are handed makes no other call
pub given_calls : (caller : ℕ) (form : Form) (handed : ℕ) →
    use_calls caller (given form handed) ≡ form_calls caller form
given_calls caller (Bare place found) handed = refl
given_calls caller (Element found) handed = refl
given_calls caller Plain handed = refl
