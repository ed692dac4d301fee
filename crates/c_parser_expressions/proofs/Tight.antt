-- Readings of primaries, suffixes, unaries and casts from readings of their parts, and none where a
-- part has none.
use Rattle.std.specs.Prelude.{◌≡◌, ℕ, ◌+◌, ◌<◌, Bool, true, false, not, List, [], ◌∷◌, ◌++◌, Option}
use Rattle.std.specs.Prelude.{None, Some, refl, ◌||◌, ◌&&◌}
use Rattle.std.proofs.Common.{ap, sym}
use Rattle.c_grammar_forms.specs.Forms.{Before, Pair, Node, Deeper, Many, Nearest, listed}
use Rattle.c_grammar_forms.specs.lemmas.Steady.{Good, good_deeper, good_before}
use Rattle.c_grammar_forms.specs.Reading.{Reads, NoneThrough}
use Rattle.c_grammar_forms.specs.lemmas.Found.{reads_one, reads_node, reads_pair, reads_then}
use Rattle.c_grammar_forms.specs.lemmas.Found.{reads_skip}
use Rattle.c_grammar_forms.specs.lemmas.Found.{reads_choice, reads_no, reads_one_more}
use Rattle.c_grammar_forms.specs.lemmas.Found.{reads_nearest}
use Rattle.c_grammar_forms.specs.lemmas.Found.{reads_nearest_no, reads_before, reads_before_by}
use Rattle.c_grammar_forms.specs.lemmas.NotFound.{none_node, none_first, none_second, none_then}
use Rattle.c_grammar_forms.specs.lemmas.NotFound.{none_then_first, none_skip, none_choice}
use Rattle.c_grammar_forms.specs.lemmas.NotFound.{none_perhaps}
use Rattle.c_grammar_forms.specs.lemmas.NotFound.{none_nearest, none_before, none_before_here}
use Rattle.c_grammar_forms.specs.lemmas.Loops.{SoFar, Strict, strict_choice, strict_node}
use Rattle.c_grammar_forms.specs.lemmas.Loops.{strict_skip}
use Rattle.c_grammar_forms.specs.lemmas.Loops.{strict_one, at_items, no_more}
use Rattle.c_grammar_forms.specs.lemmas.Choices.{reads_arm, none_arm, impossible}
use Rattle.c_grammar_symbols.specs.declared.words.Terminal.TheVariants as terminal
use Rattle.c_grammar_symbols.specs.declared.operators.StepOperator.{StepOperator}
use Rattle.c_grammar_symbols.specs.declared.symbol.Symbol.{Symbol}
use Rattle.c_grammar_symbols.specs.declared.symbol.Symbol.TheVariants as symbol
use Rattle.c_grammar_symbols.specs.Symbols.{Leaf, symbol_of}
use Rattle.c_grammar_symbols.specs.Sources.{is}
use Rattle.c_grammar_tree.specs.declared.expression.Expression.{Expression}
use Rattle.c_grammar_tree.specs.declared.expression.Expression.TheVariants as expression
use Rattle.c_grammar_tree.specs.declared.expression.Suffix.{Suffix}
use Rattle.c_grammar_tree.specs.declared.expression.Suffix.TheVariants as suffix
use Rattle.c_grammar_tree.specs.declared.expression.TypeName.{TypeName}
use Rattle.c_grammar_tree.specs.declared.expression.UnaryOperator.{UnaryOperator}
use Rattle.c_grammar_tree.specs.Parts.{is_not, steps, names_assert, begins_suffix}
use Rattle.c_grammar_tree.specs.Nested.{Grammar}
use Rattle.c_grammar_tree.specs.Grammar.{grammar}
use Rattle.c_grammar_tree.specs.Expressions.{cast, cast_at, cast_group, bracket_group, group_of}
use Rattle.c_grammar_tree.specs.Expressions.{group_at}
use Rattle.c_grammar_tree.specs.Expressions.{unary, unary_at, unary_of, sign, postfix, suffixed}
use Rattle.c_grammar_tree.specs.Expressions.{suffixes}
use Rattle.c_grammar_tree.specs.Expressions.{primary, primary_at, arguments, assignments, list_of}
use Rattle.c_grammar_tree.specs.Expressions.{suffix_at, any_suffix, type_name, in_front}
use Rattle.c_grammar_tree.specs.Expressions.{skipped_call}
use Rattle.c_grammar_tree.specs.Expressions.{opens_skipped, round_brackets}
use Rattle.c_grammar_tree.specs.lemmas.OneReading.{good_arguments}
use Rattle.c_grammar_tree.specs.lemmas.OneReadingOfText.{good_grammar}
use Rattle.c_parser_expressions.specs.Steps.{more_arguments, group, begins_type, sign_of}
use Rattle.c_parser_expressions.specs.Steps.{option_list}
use Rattle.c_grammar_tree.specs.lemmas.Levels.{steady_deeper_comma, steady_deeper_assignment}
use Rattle.c_parser_expressions.proofs.Readers.{none_made, reads_tail, behind_part}
use Rattle.c_parser_expressions.proofs.Steadies.{steady_assignments, steady_primary}
use Rattle.c_parser_expressions.proofs.Steadies.{steady_deeper_type_name, steady_closed_comma}
use Rattle.c_parser_expressions.proofs.Steadies.{steady_closed_type_name, steady_skipped}
use Rattle.c_parser_expressions.proofs.Arms.{arm_group, arm_unary, arm_cast, arm_bracket, arm_sign}
use Rattle.c_parser_expressions.proofs.Arms.{arm_postfix}

in_front_is : (skipped : Option Suffix) (leaf : Leaf) (us : List Suffix) →
    in_front leaf (skipped, us) ≡ option_list skipped ++ us
in_front_is None leaf us = refl
in_front_is (Some call) leaf us = refl

module _ {at : ℕ → Leaf} {size left p : ℕ} where
  -- postfix
  pub postfix_none : {i : ℕ} → NoneThrough (λ n. primary (grammar n)) at size left p i →
      NoneThrough (λ n. postfix (grammar n)) at size left p i
  unfolding postfix
  postfix_none g = none_node _ (none_then_first _ g)

  pub postfix_none_suffixes : {u : Expression} {m i : ℕ} →
      Reads (λ n. primary (grammar n)) at size left p u m →
      NoneThrough (λ n. suffixes (grammar n) (names_assert u)) at size left m i →
      NoneThrough (λ n. postfix (grammar n)) at size left p i
  unfolding postfix
  postfix_none_suffixes r g = none_node _ (none_then
      (λ n base. suffixes (grammar n) (names_assert base)) steady_primary r g)

  pub postfix_whole : {u whole : Expression} {m : ℕ} {us : List Suffix} {q : ℕ} →
      Reads (λ n. primary (grammar n)) at size left p u m →
      Reads (λ n. suffixes (grammar n) (names_assert u)) at size left m us q →
      whole ≡ suffixed (at p).place u us → Reads (λ n. postfix (grammar n)) at size left p whole q
  unfolding postfix
  postfix_whole r s made = reads_node (λ leaf parts. suffixed leaf.place parts.0 parts.1) made
      (reads_then (λ n base. suffixes (grammar n) (names_assert base)) r s)

  -- unary
  pub unary_none_step : {op : StepOperator} {i : ℕ} → symbol_of (at p) ≡ symbol.Step op →
      NoneThrough (λ n. Deeper ((grammar n).unary)) at size left (p + 1) i →
      NoneThrough (λ n. unary (grammar n)) at size left p i
  unfolding unary unary_at
  unary_none_step e g =
      none_choice symbol_of (λ n. unary_at (grammar n)) e (none_node _ (none_skip g))

  pub unary_step : {op : StepOperator} {u : Expression} {q : ℕ} →
      symbol_of (at p) ≡ symbol.Step op →
      Reads (λ n. Deeper ((grammar n).unary)) at size left (p + 1) u q →
      Reads (λ n. unary (grammar n)) at size left p (expression.PrefixStep op u (at p).place) q
  unfolding unary unary_at
  unary_step {op} e r = reads_choice symbol_of (λ n. unary_at (grammar n)) e
      (reads_node (λ leaf operand. expression.PrefixStep op operand leaf.place) refl (reads_skip r))

  pub unary_none_sign : {op : UnaryOperator} {i : ℕ} → sign_of (symbol_of (at p)) ≡ Some op →
      NoneThrough (λ n. Deeper ((grammar n).cast)) at size left (p + 1) i →
      NoneThrough (λ n. unary (grammar n)) at size left p i
  unfolding unary sign
  unary_none_sign {op} e g = none_arm symbol_of (λ n. unary_at (grammar n))
      (λ n. arm_sign (grammar n) (symbol_of (at p)) op e) (none_node _ (none_skip g))

  pub unary_sign : {op : UnaryOperator} {u : Expression} {q : ℕ} →
      sign_of (symbol_of (at p)) ≡ Some op →
      Reads (λ n. Deeper ((grammar n).cast)) at size left (p + 1) u q →
      Reads (λ n. unary (grammar n)) at size left p (expression.Unary op u (at p).place) q
  unfolding unary sign
  unary_sign {op} e r = reads_arm symbol_of (λ n. unary_at (grammar n))
      (λ n. arm_sign (grammar n) (symbol_of (at p)) op e)
      (reads_node (unary_of op) refl (reads_skip r))

  pub unary_none_postfix : {i : ℕ} → sign_of (symbol_of (at p)) ≡ None →
      steps (symbol_of (at p)) ≡ false →
      NoneThrough (λ n. postfix (grammar n)) at size left p i →
      NoneThrough (λ n. unary (grammar n)) at size left p i
  unfolding unary
  unary_none_postfix e f g = none_arm symbol_of (λ n. unary_at (grammar n))
      (λ n. arm_postfix (grammar n) (symbol_of (at p)) e f) g

  pub unary_postfix : {u : Expression} {q : ℕ} → sign_of (symbol_of (at p)) ≡ None →
      steps (symbol_of (at p)) ≡ false →
      Reads (λ n. postfix (grammar n)) at size left p u q →
      Reads (λ n. unary (grammar n)) at size left p u q
  unfolding unary
  unary_postfix e f r = reads_arm symbol_of (λ n. unary_at (grammar n))
      (λ n. arm_postfix (grammar n) (symbol_of (at p)) e f) r

  -- cast
  pub cast_group_none : {i : ℕ} → is terminal.LeftParen (at p) ≡ true →
      NoneThrough (λ n. group (grammar n)) at size left p i →
      NoneThrough (λ n. cast (grammar n)) at size left p i
  unfolding cast
  cast_group_none e g = none_arm symbol_of (λ n. cast_at (grammar n))
      (λ n. arm_group (grammar n) (symbol_of (at p)) e) g

  pub cast_group_read : {u : Expression} {q : ℕ} → is terminal.LeftParen (at p) ≡ true →
      Reads (λ n. group (grammar n)) at size left p u q →
      Reads (λ n. cast (grammar n)) at size left p u q
  unfolding cast
  cast_group_read e r = reads_arm symbol_of (λ n. cast_at (grammar n))
      (λ n. arm_group (grammar n) (symbol_of (at p)) e) r

  pub cast_unary_none : {i : ℕ} → is terminal.LeftParen (at p) ≡ false →
      NoneThrough (λ n. unary (grammar n)) at size left p i →
      NoneThrough (λ n. cast (grammar n)) at size left p i
  unfolding cast
  cast_unary_none e g = none_arm symbol_of (λ n. cast_at (grammar n))
      (λ n. arm_unary (grammar n) (symbol_of (at p)) e) g

  pub cast_unary_read : {u : Expression} {q : ℕ} → is terminal.LeftParen (at p) ≡ false →
      Reads (λ n. unary (grammar n)) at size left p u q →
      Reads (λ n. cast (grammar n)) at size left p u q
  unfolding cast
  cast_unary_read e r = reads_arm symbol_of (λ n. cast_at (grammar n))
      (λ n. arm_unary (grammar n) (symbol_of (at p)) e) r

  -- a cast behind its bracket
  module _ (e : begins_type (symbol_of (at (p + 1))) ≡ true) where
    pub group_none_type : {i : ℕ} → NoneThrough (λ n. Deeper type_name) at size left (p + 1) i →
        NoneThrough (λ n. group (grammar n)) at size left p i
    group_none_type g = none_node _ (none_skip (none_arm symbol_of (λ n. group_at (grammar n))
        (λ n. arm_cast (grammar n) (symbol_of (at (p + 1))) e)
        (none_node _ (none_first _ (none_before _ g)))))

    pub group_type_open : {to : TypeName} {m : ℕ} →
        Reads (λ n. Deeper type_name) at size left (p + 1) to m →
        is terminal.RightParen (at m) ≡ false →
        NoneThrough (λ n. group (grammar n)) at size left p m
    group_type_open r fails = none_node _ (none_skip (none_arm symbol_of (λ n. group_at (grammar n))
        (λ n. arm_cast (grammar n) (symbol_of (at (p + 1))) e)
        (none_node _ (none_first _ (none_before_here _ steady_deeper_type_name r fails)))))

    pub group_none_operand : {to : TypeName} {k i : ℕ} →
        Reads (λ n. Before (Deeper type_name) (is terminal.RightParen)) at size left (p + 1) to k →
        NoneThrough (λ n. Deeper ((grammar n).cast)) at size left k i →
        NoneThrough (λ n. group (grammar n)) at size left p i
    group_none_operand r g = none_node _ (none_skip (none_arm symbol_of (λ n. group_at (grammar n))
        (λ n. arm_cast (grammar n) (symbol_of (at (p + 1))) e)
        (none_node _ (none_second (steady_closed_type_name terminal.RightParen) r g))))

    pub group_cast : {to : TypeName} {k : ℕ} {u : Expression} {q : ℕ} →
        Reads (λ n. Before (Deeper type_name) (is terminal.RightParen)) at size left (p + 1) to k →
        Reads (λ n. Deeper ((grammar n).cast)) at size left k u q →
        Reads (λ n. group (grammar n)) at size left p (expression.Cast to u (at p).place) q
    group_cast r s =
        reads_node group_of refl (reads_skip (reads_arm symbol_of (λ n. group_at (grammar n))
        (λ n. arm_cast (grammar n) (symbol_of (at (p + 1))) e)
        (reads_node (λ leaf parts. cast_group parts.0 parts.1) refl (reads_pair r s))))

  -- an expression in brackets behind its bracket
  module _ (e : begins_type (symbol_of (at (p + 1))) ≡ false) where
    pub group_none_inner : {i : ℕ} → NoneThrough (λ n. Deeper ((grammar n).comma)) at size left
        (p + 1) i → NoneThrough (λ n. group (grammar n)) at size left p i
    group_none_inner g = none_node _ (none_skip (none_arm symbol_of (λ n. group_at (grammar n))
        (λ n. arm_bracket (grammar n) (symbol_of (at (p + 1))) e)
        (none_node _ (none_then_first _ (none_before _ g)))))

    pub group_open : {u : Expression} {m : ℕ} → Reads (λ n. Deeper ((grammar n).comma)) at size left
        (p + 1) u m → is terminal.RightParen (at m) ≡ false →
        NoneThrough (λ n. group (grammar n)) at size left p m
    group_open r fails = none_node _ (none_skip (none_arm symbol_of (λ n. group_at (grammar n))
        (λ n. arm_bracket (grammar n) (symbol_of (at (p + 1))) e)
        (none_node _ (none_then_first _ (none_before_here _ steady_deeper_comma r fails)))))

    pub group_none_suffixes : {u : Expression} {k i : ℕ} →
        Reads (λ n. Before (Deeper ((grammar n).comma)) (is terminal.RightParen)) at size left
        (p + 1) u k →
        NoneThrough (λ n. suffixes (grammar n) (names_assert u)) at size left k i →
        NoneThrough (λ n. group (grammar n)) at size left p i
    group_none_suffixes r g = none_node _ (none_skip (none_arm symbol_of (λ n. group_at (grammar n))
        (λ n. arm_bracket (grammar n) (symbol_of (at (p + 1))) e)
        (none_node _ (none_then (λ n inner. suffixes (grammar n) (names_assert inner))
        (steady_closed_comma terminal.RightParen) r g))))

    pub group_bracket : {u whole : Expression} {k : ℕ} {us : List Suffix} {q : ℕ} →
        Reads (λ n. Before (Deeper ((grammar n).comma)) (is terminal.RightParen)) at size left
        (p + 1) u k → Reads (λ n. suffixes (grammar n) (names_assert u)) at size left k us q →
        whole ≡ suffixed (at p).place (expression.Bracketed u (at p).place) us →
        Reads (λ n. group (grammar n)) at size left p whole q
    group_bracket r s made =
        reads_node group_of made (reads_skip (reads_arm symbol_of (λ n. group_at (grammar n))
        (λ n. arm_bracket (grammar n) (symbol_of (at (p + 1))) e)
        (reads_node (λ leaf parts. bracket_group parts.0 parts.1) refl
        (reads_then (λ n inner. suffixes (grammar n) (names_assert inner)) r s))))

  -- primary
  module _ (e : symbol_of (at p) ≡ symbol.Terminal terminal.LeftParen) where
    pub primary_none : {i : ℕ} → NoneThrough (λ n. Deeper ((grammar n).comma)) at size left
        (p + 1) i → NoneThrough (λ n. primary (grammar n)) at size left p i
    unfolding primary_at
    primary_none g = none_choice symbol_of (λ n. primary_at (grammar n)) e
        (none_node _ (none_skip (none_before _ g)))

    pub primary_open : {u : Expression} {m : ℕ} → Reads (λ n. Deeper ((grammar n).comma)) at size
        left (p + 1) u m → is terminal.RightParen (at m) ≡ false →
        NoneThrough (λ n. primary (grammar n)) at size left p m
    unfolding primary_at
    primary_open r fails = none_choice symbol_of (λ n. primary_at (grammar n)) e
        (none_node _ (none_skip (none_before_here _ steady_deeper_comma r fails)))

    pub primary_bracketed : {u : Expression} {k : ℕ} →
        Reads (λ n. Before (Deeper ((grammar n).comma)) (is terminal.RightParen)) at size left
        (p + 1) u k →
        Reads (λ n. primary (grammar n)) at size left p (expression.Bracketed u (at p).place) k
    unfolding primary_at
    primary_bracketed r = reads_choice symbol_of (λ n. primary_at (grammar n)) e
        (reads_node (λ leaf inner. expression.Bracketed inner leaf.place) refl (reads_skip r))

  -- suffix
  module _ (e : symbol_of (at p) ≡ symbol.Terminal terminal.LeftBracket) where
    pub index_none : {i : ℕ} → NoneThrough (λ n. Deeper ((grammar n).comma)) at size left
        (p + 1) i → NoneThrough (λ n. any_suffix (grammar n)) at size left p i
    unfolding suffix_at
    index_none g = none_choice symbol_of (λ n. suffix_at (grammar n)) e
        (none_node _ (none_skip (none_before _ g)))

    pub index_open : {u : Expression} {m : ℕ} → Reads (λ n. Deeper ((grammar n).comma)) at size left
        (p + 1) u m → is terminal.RightBracket (at m) ≡ false →
        NoneThrough (λ n. any_suffix (grammar n)) at size left p m
    unfolding suffix_at
    index_open r fails = none_choice symbol_of (λ n. suffix_at (grammar n)) e
        (none_node _ (none_skip (none_before_here _ steady_deeper_comma r fails)))

    pub index_read : {u : Expression} {k : ℕ} → Reads (λ n. Before (Deeper ((grammar n).comma))
        (is terminal.RightBracket)) at size left (p + 1) u k →
        Reads (λ n. any_suffix (grammar n)) at size left p (suffix.Index u (at p).place) k
    unfolding suffix_at
    index_read r = reads_choice symbol_of (λ n. suffix_at (grammar n)) e
        (reads_node (λ leaf index. suffix.Index index leaf.place) refl (reads_skip r))

  module _ (e : symbol_of (at p) ≡ symbol.Terminal terminal.LeftParen) where
    pub call_none : {i : ℕ} → NoneThrough (λ n. arguments (grammar n)) at size left (p + 1) i →
        NoneThrough (λ n. any_suffix (grammar n)) at size left p i
    unfolding suffix_at
    call_none g = none_choice symbol_of (λ n. suffix_at (grammar n)) e (none_node _ (none_skip g))

    pub call_read : {us : List Expression} {q : ℕ} →
        Reads (λ n. arguments (grammar n)) at size left (p + 1) us q →
        Reads (λ n. any_suffix (grammar n)) at size left p (suffix.Call us (at p).place) q
    unfolding suffix_at
    call_read r = reads_choice symbol_of (λ n. suffix_at (grammar n)) e
        (reads_node (λ leaf given. suffix.Call given leaf.place) refl (reads_skip r))

  pub step_read : {op : StepOperator} → symbol_of (at p) ≡ symbol.Step op → p + 1 < size →
      Reads (λ n. any_suffix (grammar n)) at size left p (suffix.Step op (at p).place) (p + 1)
  unfolding suffix_at
  step_read {op} e fits = reads_choice symbol_of (λ n. suffix_at (grammar n)) e
      (reads_node (λ leaf u. suffix.Step op leaf.place) refl (reads_one fits))

  -- arguments
  pub arguments_empty : is terminal.RightParen (at p) ≡ true → p + 1 < size → p < size →
      Reads (λ n. arguments (grammar n)) at size left p [] (p + 1)
  unfolding arguments
  arguments_empty e fits here = reads_before (is terminal.RightParen)
      (reads_node list_of refl (reads_no (λ n. assignments (grammar n)) (is_not terminal.RightParen)
      (ap not e) here)) e fits

  module _ (e : is terminal.RightParen (at p) ≡ false) where
    pub arguments_none : {i : ℕ} → NoneThrough (λ n. Deeper ((grammar n).assignment)) at size left p
        i → NoneThrough (λ n. arguments (grammar n)) at size left p i
    unfolding arguments assignments
    arguments_none g = none_before _ (none_node _ (none_perhaps (is_not terminal.RightParen)
        (ap not e) (none_node _ (none_first _ g))))

    pub arguments_none_more : {u : Expression} {m i : ℕ} →
        Reads (λ n. Deeper ((grammar n).assignment)) at size left p u m →
        NoneThrough (λ n. more_arguments u (grammar n)) at size left m i →
        NoneThrough (λ n. arguments (grammar n)) at size left p i
    unfolding arguments assignments
    arguments_none_more {u} r g =
        none_before _ (none_node _ (none_perhaps (is_not terminal.RightParen) (ap not e)
        (none_node _ (none_second steady_deeper_assignment r
        (none_made (λ leaf rest. u ∷ rest) g)))))

    pub assignments_read : {u : Expression} {m : ℕ} {us : List Expression} {q : ℕ} →
        Reads (λ n. Deeper ((grammar n).assignment)) at size left p u m →
        Reads (λ n. more_arguments u (grammar n)) at size left m us q →
        Reads (λ n. assignments (grammar n)) at size left p us q
    unfolding assignments
    assignments_read {u} {us = us} r s = let t = reads_tail {first = u} s in
        reads_node listed t.0 (reads_pair r t.1)

    pub arguments_open : {us : List Expression} {q : ℕ} →
        Reads (λ n. assignments (grammar n)) at size left p us q →
        is terminal.RightParen (at q) ≡ false →
        NoneThrough (λ n. arguments (grammar n)) at size left p q
    unfolding arguments
    arguments_open r fails = none_before_here _ steady_assignments
        (reads_node list_of refl (reads_one_more (is_not terminal.RightParen) (ap not e) r)) fails

    pub arguments_whole : {us : List Expression} {m q : ℕ} →
        Reads (λ n. assignments (grammar n)) at size left p us m →
        is terminal.RightParen (at m) ≡ true → q ≡ m + 1 → q < size →
        Reads (λ n. arguments (grammar n)) at size left p us q
    unfolding arguments
    arguments_whole r passes behind fits = reads_before_by (is terminal.RightParen)
        (reads_node list_of refl (reads_one_more (is_not terminal.RightParen) (ap not e) r)) passes
        behind fits

  -- suffixes
  pub suffixes_none : (asserts : Bool) {i : ℕ} → NoneThrough (λ n. Nearest
      (opens_skipped asserts) skipped_call) at size left p i →
      NoneThrough (λ n. suffixes (grammar n) asserts) at size left p i
  unfolding suffixes
  suffixes_none asserts g = none_node _ (none_first _ g)

  pub suffixes_begin : (asserts : Bool) {skipped : Option Suffix} {m : ℕ} {us : List Suffix} →
      Reads (λ n. Nearest (opens_skipped asserts) skipped_call) at size left p skipped m →
      us ≡ option_list skipped →
      SoFar (λ n. suffixes (grammar n) asserts) begins_suffix
      (λ n. any_suffix (grammar n)) at size left p us m
  unfolding suffixes
  suffixes_begin asserts {skipped} {m} {us} r e = at_items
      {W = λ n. Node in_front (Pair (Nearest (opens_skipped asserts) skipped_call)
      (Many begins_suffix (any_suffix (grammar n))))}
      (behind_part in_front begins_suffix (λ n. any_suffix (grammar n)) (in_front_is skipped)
      (steady_skipped asserts) r) e

  -- a call that is skipped
  pub skipped_no : (asserts : Bool) → opens_skipped asserts (at p) ≡ false → p < size →
      Reads (λ n. Nearest (opens_skipped asserts) skipped_call) at size left p None p
  skipped_no asserts stops fits =
      reads_nearest_no (λ n. skipped_call) (opens_skipped asserts) stops fits

  pub skipped_read : (asserts : Bool) {m : ℕ} → opens_skipped asserts (at p) ≡ true →
      Reads (λ n. round_brackets) at size left (p + 1) tt m →
      Reads (λ n. Nearest (opens_skipped asserts) skipped_call) at size left p
      (Some (suffix.Skipped (at p).place)) m
  unfolding skipped_call
  skipped_read asserts goes r = reads_nearest (opens_skipped asserts) goes
      (reads_node (λ leaf u. suffix.Skipped leaf.place) refl (reads_skip r))

  pub skipped_none : (asserts : Bool) {i : ℕ} → opens_skipped asserts (at p) ≡ true →
      NoneThrough (λ n. round_brackets) at size left (p + 1) i →
      NoneThrough (λ n. Nearest (opens_skipped asserts) skipped_call) at size left p i
  unfolding skipped_call
  skipped_none asserts goes g =
      none_nearest (opens_skipped asserts) goes (none_node _ (none_skip g))

or_middle : (a b c : Bool) → (a || b || c) ≡ false → b ≡ false
or_middle false false c e = refl
or_middle false true c e = impossible (sym e)
or_middle true b c e = impossible (sym e)

and_false : (a b : Bool) → b ≡ false → (a && b) ≡ false
and_false false b e = refl
and_false true b e = e

module _ {at : ℕ → Leaf} {size left : ℕ} where
  -- no suffix begins here
  suffixes_absent : {p : ℕ} (asserts : Bool) → begins_suffix (at p) ≡ false → p < size →
      Reads (λ n. suffixes (grammar n) asserts) at size left p [] p
  suffixes_absent {p} asserts e fits = no_more (suffixes_begin asserts
      (skipped_no asserts (and_false asserts (is terminal.LeftParen (at p)) (or_middle
      (is terminal.LeftBracket (at p)) (is terminal.LeftParen (at p)) (steps (symbol_of (at p))) e))
      fits) refl) e

  pub postfix_alone : {p : ℕ} {u : Expression} {m : ℕ} →
      Reads (λ n. primary (grammar n)) at size left p u m → begins_suffix (at m) ≡ false →
      Reads (λ n. postfix (grammar n)) at size left p u m
  postfix_alone {u = u} r e = postfix_whole r (suffixes_absent (names_assert u) e r.within) refl

  pub group_alone : {p : ℕ} → begins_type (symbol_of (at (p + 1))) ≡ false → {u : Expression}
      {k : ℕ} →
      Reads (λ n. Before (Deeper ((grammar n).comma)) (is terminal.RightParen)) at size left
      (p + 1) u k → begins_suffix (at k) ≡ false →
      Reads (λ n. group (grammar n)) at size left p (expression.Bracketed u (at p).place) k
  group_alone typed {u} r e =
      group_bracket typed r (suffixes_absent (names_assert u) e r.within) refl

strict_suffix_at : (G : Grammar) → Good (arguments G) (arguments G) → Good G.comma G.comma →
    (s : Symbol) → Strict (suffix_at G s)
unfolding suffix_at
strict_suffix_at G g h (symbol.Terminal terminal.LeftBracket) =
    strict_node _ (strict_skip (good_before (good_deeper h) _))
strict_suffix_at G g h (symbol.Terminal terminal.LeftParen) = strict_node _ (strict_skip g)
strict_suffix_at G g h (symbol.Step operator) = strict_node _ strict_one
strict_suffix_at G g h _ = record { ahead = λ r. absurd r.never }

-- a suffix has a token at least
pub suffix_ahead : {at : ℕ → Leaf} {size left p : ℕ} {u : Suffix} {q : ℕ} →
    Reads (λ n. any_suffix (grammar n)) at size left p u q → p < q
suffix_ahead {left = left} r =
    (strict_choice symbol_of (strict_suffix_at (grammar left)
    (good_arguments (grammar left) (grammar left) (good_grammar left left))
    ((good_grammar left left).comma))).ahead (r.reading 0)
