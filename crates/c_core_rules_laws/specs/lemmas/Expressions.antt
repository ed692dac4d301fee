-- Every expression is alike under frames of the same types.
use Rattle.std.proofs.Common.{◌≡◌, List, [], ◌∷◌, map, sym, subst}
use Rattle.cpa_ints.specs.declared.integers.IntType.TheVariants as ty
use Rattle.c_grammar_symbols.specs.declared.operators.BinaryOperator.{BinaryOperator}
use Rattle.c_types_rules.specs.declared.typed.TypedExpression.{TypedExpression}
use Rattle.c_types_rules.specs.declared.typed.TypedExpression.{roll-TypedExpression}
use Rattle.c_types_rules.specs.declared.typed.TypedExpression.TheOpen.{TypedExpression-F}
use Rattle.c_types_rules.specs.declared.typed.TypedExpression.TheOpen.{TypedSuffix-F}
use Rattle.c_types_rules.specs.declared.typed.TypedExpression.TheFolds.{ind-TypedExpression}
use Rattle.c_types_rules.specs.declared.typed.TypedExpression.TheFolds.{map-TypedExpression}
use Rattle.c_types_rules.specs.declared.typed.TypedExpression.TheFolds.{map-TypedSuffix}
use Rattle.c_types_rules.specs.declared.typed.TypedSuffix.{TypedSuffix, roll-TypedSuffix}
use Rattle.c_core_rules.specs.Cells.{gives}
use Rattle.c_core_rules.specs.declared.tree.Usage.TheVariants.{Used}
use Rattle.c_core_rules.specs.Acts.{signed, is_used}
use Rattle.c_core_rules.specs.Expressions.{Frames, Rows, ReadSuffix, rows, rows_step, read_suffix}
use Rattle.c_core_rules.specs.Expressions.{usage_of_ends}
use Rattle.c_core_rules_laws.specs.Alike.{AlikeRows, SameFrames, Pairwise}
use Rattle.c_core_rules_laws.specs.Alike.{none, more}
use Rattle.c_core_rules_laws.specs.lemmas.Layers.{suffix_rule, open_rows, open_suffix}
use Rattle.c_core_rules_laws.specs.lemmas.Runs.{alike_gives, alike_then}
use Rattle.c_core_rules_laws.specs.lemmas.Acts.{same_sign}
use Rattle.c_core_rules_laws.specs.lemmas.Rows.{SameSuffix, same_index, same_call, same_step}
use Rattle.c_core_rules_laws.specs.lemmas.Rows.{same_skipped, SameLink, link, alike_kept}
use Rattle.c_core_rules_laws.specs.lemmas.Rows.{alike_plain, alike_act, alike_name, alike_number}
use Rattle.c_core_rules_laws.specs.lemmas.Rows.{alike_suffixed, alike_incrementing, alike_cast}
use Rattle.c_core_rules_laws.specs.lemmas.Rows.{alike_chained, alike_conditional}
use Rattle.c_core_rules_laws.specs.lemmas.Rows.{alike_assigning, alike_comma}

module _ (F G : Frames) (same : SameFrames F G) where
  abbrev pub IsAlike : TypedExpression → Type 0
  IsAlike e = AlikeRows (rows F e) (rows G e)

  abbrev SuffixIsAlike : TypedSuffix → Type 0
  SuffixIsAlike s = SameSuffix (suffix_rule F s) (suffix_rule G s)

  abbrev Held : Type 0
  Held = (e : TypedExpression) × IsAlike e

  abbrev HeldSuffix : Type 0
  HeldSuffix = (s : TypedSuffix) × SuffixIsAlike s

  abbrev bare : TypedExpression-F Held HeldSuffix → TypedExpression-F TypedExpression TypedSuffix
  bare y = map-TypedExpression Held HeldSuffix TypedExpression TypedSuffix (λ e. e.0) (λ s. s.0) y

  abbrev bare_suffix : TypedSuffix-F Held HeldSuffix → TypedSuffix-F TypedExpression TypedSuffix
  bare_suffix y = map-TypedSuffix Held HeldSuffix TypedExpression TypedSuffix (λ e. e.0)
      (λ s. s.0) y

  -- layers with what the fold makes of each part
  abbrev layer_of : Frames → TypedExpression-F Held HeldSuffix → Rows
  layer_of frames y = rows_step frames (map-TypedExpression TypedExpression TypedSuffix Rows
      ReadSuffix (rows frames) (suffix_rule frames) (bare y))

  abbrev suffix_of : Frames → TypedSuffix-F Held HeldSuffix → ReadSuffix
  suffix_of frames y = read_suffix (map-TypedSuffix TypedExpression TypedSuffix Rows
      ReadSuffix (rows frames) (suffix_rule frames) (bare_suffix y))

  -- lists of parts
  each_row : (held : List Held) →
      Pairwise AlikeRows (map (rows F) (map (λ e. e.0) held)) (map (rows G) (map (λ e. e.0) held))
  each_row [] = none
  each_row (e ∷ held) = more e.1 (each_row held)

  each_suffix : (held : List HeldSuffix) →
      Pairwise SameSuffix (map (suffix_rule F) (map (λ s. s.0) held))
      (map (suffix_rule G) (map (λ s. s.0) held))
  each_suffix [] = none
  each_suffix (s ∷ held) = more s.1 (each_suffix held)

  abbrev Link : Type 0
  Link = BinaryOperator × Held

  abbrev bare_links : List Link → List (BinaryOperator × TypedExpression)
  bare_links = map (λ (one : Link). (one.0, one.1.0))

  each_link : (held : List Link) →
      Pairwise SameLink
      (map (λ (one : BinaryOperator × TypedExpression). (one.0, rows F one.1)) (bare_links held))
      (map (λ (one : BinaryOperator × TypedExpression). (one.0, rows G one.1)) (bare_links held))
  each_link [] = none
  each_link (one ∷ held) = more (link one.0 one.1.1) (each_link held)

  layer : (y : TypedExpression-F Held HeldSuffix) → AlikeRows (layer_of F y) (layer_of G y)
  layer (TypedExpression-F.Name found place) = alike_name place found
  layer (TypedExpression-F.Number t n place) = alike_number place t n
  layer (TypedExpression-F.Character n place) = alike_number place ty.I32 n
  layer (TypedExpression-F.Bracketed inside place) = inside.1
  layer (TypedExpression-F.Postfix base suffixes place) =
      alike_suffixed place same (each_suffix suffixes) base.1
  layer (TypedExpression-F.PrefixStep operator operand kind place) =
      let inside = operand.1 in
      alike_act (λ usage. alike_kept usage (alike_incrementing place operator inside.target))
  layer (TypedExpression-F.Unary operator operand kind place) =
      alike_plain place (alike_then (λ v. gives (signed operator v))
      (λ v. gives (signed operator v))
      (operand.1.rule Used) (λ x y is. alike_gives (same_sign operator is)))
  layer (TypedExpression-F.Cast operand kind place) = alike_cast place kind operand.1
  layer (TypedExpression-F.Chain first rest kind place) =
      alike_plain place (alike_chained place (each_link rest) (first.1.rule Used))
  layer (TypedExpression-F.Conditional test first second kind place) =
      let r = test.1 in
      let s = first.1 in
      let t = second.1 in
      alike_act (λ usage. alike_conditional place usage (usage_of_ends usage kind) r s t)
  layer (TypedExpression-F.Assignment left operator right kind place) =
      let l = left.1 in
      let r = right.1 in
      alike_act (λ usage. alike_kept usage
      (alike_assigning place (is_used usage) operator l.target (r.rule Used)))
  layer (TypedExpression-F.Comma items kind place) =
      alike_act (λ usage. alike_comma usage (each_row items))

  suffix_layer : (y : TypedSuffix-F Held HeldSuffix) → SameSuffix (suffix_of F y) (suffix_of G y)
  suffix_layer (TypedSuffix-F.Index index kind place) = same_index kind place index.1
  suffix_layer (TypedSuffix-F.Call arguments kind place) =
      same_call kind place (each_row arguments)
  suffix_layer (TypedSuffix-F.Step operator kind place) = same_step operator kind place
  suffix_layer (TypedSuffix-F.Skipped kind place) = same_skipped kind place

  at_expression : (y : TypedExpression-F Held HeldSuffix)
      (x : TypedExpression-F TypedExpression TypedSuffix) → bare y ≡ x →
      IsAlike (roll-TypedExpression x)
  at_expression y x is =
      subst (λ (z : TypedExpression-F TypedExpression TypedSuffix).
      IsAlike (roll-TypedExpression z)) is
      (subst (λ (r : Rows). AlikeRows r (rows G (roll-TypedExpression (bare y))))
      (sym (open_rows F (bare y)))
      (subst (λ (s : Rows). AlikeRows (layer_of F y) s) (sym (open_rows G (bare y))) (layer y)))

  at_suffix : (y : TypedSuffix-F Held HeldSuffix)
      (x : TypedSuffix-F TypedExpression TypedSuffix) → bare_suffix y ≡ x →
      SuffixIsAlike (roll-TypedSuffix x)
  at_suffix y x is =
      subst (λ (z : TypedSuffix-F TypedExpression TypedSuffix).
      SuffixIsAlike (roll-TypedSuffix z)) is
      (subst (λ (r : ReadSuffix). SameSuffix r (suffix_rule G (roll-TypedSuffix (bare_suffix y))))
      (sym (open_suffix F (bare_suffix y)))
      (subst (λ (s : ReadSuffix). SameSuffix (suffix_of F y) s)
      (sym (open_suffix G (bare_suffix y))) (suffix_layer y)))

  pub alike_expression : (e : TypedExpression) → IsAlike e
  alike_expression =
      ind-TypedExpression IsAlike SuffixIsAlike (λ x y is. at_expression y x is)
      (λ x y is. at_suffix y x is)
