-- One turn of a loop over a list: what has been read, with what is read of the rest, stays what is
-- read of all; one lemma for each fold, those of every list are in `specs/Turns.antt`.
use Rattle.std.proofs.Common.{◌≡◌, ℕ, ◌+◌, List, [], ◌∷◌, ◌++◌, map, drop, Option, ap, sym, ◌∙◌}
use Rattle.std.proofs.Common.{◌≤◌, length, append_assoc}
use Rattle.std.proofs.lemmas.List.{drop_all}
use Rattle.cpa_ints.specs.declared.integers.IntType.{IntType}
use Rattle.c_lexer.specs.declared.fault.TextFault.{TextFault}
use Rattle.c_grammar_symbols.specs.declared.operators.BinaryOperator.{BinaryOperator}
use Rattle.c_grammar_tree.specs.declared.expression.Expression.{Expression}
use Rattle.c_grammar_tree.specs.declared.expression.Suffix.{Suffix}
use Rattle.c_types_rules.specs.Items.{Call}
use Rattle.c_types_rules.specs.declared.meaning.Entry.{Entry}
use Rattle.c_types_rules.specs.declared.meaning.Kind.{Kind}
use Rattle.c_types_rules.specs.declared.meaning.Part.{Part}
use Rattle.c_types_rules.specs.declared.typed.TypedSuffix.{TypedSuffix}
use Rattle.c_types_rules.specs.Names.{Text}
use Rattle.c_types_rules.specs.First.{first_with}
use Rattle.c_types_rules.specs.Parts.{chain_type, joined_type, last_kind, with_value, with_values}
use Rattle.c_types_rules.specs.Expressions.{Suffixed, suffix_uses}
use Rattle.c_types_rules.specs.ExpressionRules.{uses_faults}
use Rattle.c_types_expressions.specs.Read.{part_of, link_part, uses_calls, suffix_of, suffixed_of}
use Rattle.c_types_expressions.specs.Read.{part_behind, typed_behind, faults_behind, calls_behind}
use Rattle.c_types_expressions.proofs.Lists.{with_values_more}
use Rattle.c_types_expressions.proofs.Uses.{uses_append, calls_append, calls_none}

pub joined_on : (text : Text) (names : List Entry) (xs : List (BinaryOperator × Expression)) (i : ℕ)
    (x : BinaryOperator × Expression) → drop i xs ≡ x ∷ drop (i + 1) xs →
    (old new all : Option IntType) (part : Part) → part ≡ part_of text names x.1 →
    new ≡ joined_type old (x.0, part) →
    chain_type old (map (link_part text names) (drop i xs)) ≡ all →
    chain_type new (map (link_part text names) (drop (i + 1) xs)) ≡ all
joined_on text names xs i x here old new all part is step kept =
    ap (λ t. chain_type t (map (link_part text names) (drop (i + 1) xs)))
    (step ∙ ap (λ (p : Part). joined_type old (x.0, p)) is)
    ∙ (sym (ap (λ ys. chain_type old (map (link_part text names) ys)) here) ∙ kept)

pub last_on : (text : Text) (names : List Entry) (xs : List Expression) (i : ℕ) (x : Expression) →
    drop i xs ≡ x ∷ drop (i + 1) xs → (old new all : Option Kind) (part : Part) →
    part ≡ part_of text names x → new ≡ last_kind old (part ∷ []) →
    last_kind old (map (part_of text names) (drop i xs)) ≡ all →
    last_kind new (map (part_of text names) (drop (i + 1) xs)) ≡ all
last_on text names xs i x here old new all part is step kept =
    ap (λ k. last_kind k (map (part_of text names) (drop (i + 1) xs)))
    (step ∙ ap (λ (p : Part). last_kind old (p ∷ [])) is)
    ∙ (sym (ap (λ ys. last_kind old (map (part_of text names) ys)) here) ∙ kept)

pub values_on : (text : Text) (names : List Entry) (xs : List Expression) (i : ℕ) (x : Expression)
    → drop i xs ≡ x ∷ drop (i + 1) xs → (old new all : Option Kind) (part : Part) →
    part ≡ part_of text names x → new ≡ with_value old part.kind →
    with_values old (map (part_of text names) (drop i xs)) ≡ all →
    with_values new (map (part_of text names) (drop (i + 1) xs)) ≡ all
values_on text names xs i x here old new all part is step kept =
    ap (λ k. with_values k (map (part_of text names) (drop (i + 1) xs)))
    (step ∙ ap (λ (p : Part). with_value old p.kind) is)
    ∙ (with_values_more old (part_of text names x).kind
    (map (part_of text names) (drop (i + 1) xs))
    ∙ (sym (ap (λ ys. with_values old (map (part_of text names) ys)) here) ∙ kept))

module _ (text : Text) (names : List Entry) (xs : List Suffix) (i : ℕ) (x : Suffix)
    (here : drop i xs ≡ x ∷ drop (i + 1) xs) (base part : Part)
    (is : part ≡ part_behind text names base x) where
  abbrev rest : Suffixed
  rest = suffixed_of text names part (drop (i + 1) xs)

  behind : suffixed_of text names base (drop i xs) ≡ record {
    part = rest.part;
    uses = suffix_uses base (suffix_of text names x) ++ rest.uses;
    typed = typed_behind text names base x ∷ rest.typed;
  }
  behind = ap (suffixed_of text names base) here
      ∙ ap (λ (p : Part). record {
        part = (suffixed_of text names p (drop (i + 1) xs)).part;
        uses = suffix_uses base (suffix_of text names x)
            ++ (suffixed_of text names p (drop (i + 1) xs)).uses;
        typed = typed_behind text names base x
            ∷ (suffixed_of text names p (drop (i + 1) xs)).typed;
      }) (sym is)

  pub part_on : (all : Part) → (suffixed_of text names base (drop i xs)).part ≡ all →
      (suffixed_of text names part (drop (i + 1) xs)).part ≡ all
  part_on all kept = sym (ap (λ (s : Suffixed). s.part) behind) ∙ kept

  pub typed_on : (old new all : List TypedSuffix) (y : TypedSuffix) → new ≡ old ++ (y ∷ []) →
      y ≡ typed_behind text names base x →
      old ++ (suffixed_of text names base (drop i xs)).typed ≡ all →
      new ++ (suffixed_of text names part (drop (i + 1) xs)).typed ≡ all
  typed_on old new all y step made kept =
      ap (λ ts. ts ++ rest.typed) step
      ∙ (append_assoc old (y ∷ []) rest.typed
      ∙ (ap (λ z. old ++ (z ∷ rest.typed)) made
      ∙ (sym (ap (λ (s : Suffixed). old ++ s.typed) behind) ∙ kept)))

  pub first_on : (old new all : Option TextFault) →
      new ≡ first_with old (faults_behind text names base x) →
      first_with old (uses_faults (suffixed_of text names base (drop i xs)).uses) ≡ all →
      first_with new (uses_faults (suffixed_of text names part (drop (i + 1) xs)).uses) ≡ all
  first_on old new all step kept =
      ap (λ h. first_with h (uses_faults rest.uses)) step
      ∙ (sym (uses_append old (suffix_uses base (suffix_of text names x)) rest.uses)
      ∙ (sym (ap (λ (s : Suffixed). first_with old (uses_faults s.uses)) behind) ∙ kept))

  pub calls_on : (caller : ℕ) (old new all : List Call) →
      new ≡ old ++ calls_behind text names caller base x →
      old ++ uses_calls caller (suffixed_of text names base (drop i xs)).uses ≡ all →
      new ++ uses_calls caller (suffixed_of text names part (drop (i + 1) xs)).uses ≡ all
  calls_on caller old new all step kept =
      ap (λ cs. cs ++ uses_calls caller rest.uses) step
      ∙ (sym (calls_append old caller (suffix_uses base (suffix_of text names x)) rest.uses)
      ∙ (sym (ap (λ (s : Suffixed). old ++ uses_calls caller s.uses) behind) ∙ kept))

-- no suffix is left
pub calls_end : (text : Text) (names : List Entry) (xs : List Suffix) (i : ℕ) (base : Part)
    (caller : ℕ) (held all : List Call) → length xs ≤ i →
    held ++ uses_calls caller (suffixed_of text names base (drop i xs)).uses ≡ all → held ≡ all
calls_end text names xs i base caller held all ends kept =
    sym (calls_none held caller)
    ∙ (ap (λ ys. held ++ uses_calls caller (suffixed_of text names base ys).uses)
    (sym (drop_all i xs ends)) ∙ kept)
