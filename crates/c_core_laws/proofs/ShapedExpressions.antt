-- Every expression makes trees whose nodes have the parts of their heads.
use Rattle.std.proofs.Common.{◌≡◌, List, [], ◌∷◌, map, sym, subst}
use Rattle.std.specs.List.{AllByRecursion}
use Rattle.c_grammar_symbols.specs.declared.operators.BinaryOperator.{BinaryOperator}
use Rattle.cpa_expr.specs.declared.tree.Expr.TheVariants.{Const}
use Rattle.cpa_ints.specs.declared.integers.IntType.TheVariants as ty
use Rattle.c_types_rules.specs.declared.typed.TypedExpression.{TypedExpression}
use Rattle.c_types_rules.specs.declared.typed.TypedExpression.{roll-TypedExpression}
use Rattle.c_types_rules.specs.declared.typed.TypedExpression.TheOpen.{TypedExpression-F}
use Rattle.c_types_rules.specs.declared.typed.TypedExpression.TheOpen.{TypedSuffix-F}
use Rattle.c_types_rules.specs.declared.typed.TypedExpression.TheFolds.{ind-TypedExpression}
use Rattle.c_types_rules.specs.declared.typed.TypedExpression.TheFolds.{map-TypedExpression}
use Rattle.c_types_rules.specs.declared.typed.TypedExpression.TheFolds.{map-TypedSuffix}
use Rattle.c_types_rules.specs.declared.typed.TypedSuffix.{TypedSuffix, roll-TypedSuffix}
use Rattle.c_core_rules.specs.declared.tree.Usage.TheVariants.{Used}
use Rattle.c_core_rules.specs.Trees.{pure}
use Rattle.c_core_rules.specs.Cells as core
use Rattle.c_core_rules.specs.Acts as acts
use Rattle.c_core_rules.specs.Expressions as rows
use Rattle.c_core_laws.specs.lemmas.CoreLayers.{core_suffix, open_core, open_core_suffix}
use Rattle.c_core_laws.proofs.Shapes.{makes, makes_then}
use Rattle.c_core_laws.proofs.ShapedRows.{Good}
use Rattle.c_core_laws.proofs.ShapedRows.{MakesRows, SuffixMakes, name_makes, plain_makes}
use Rattle.c_core_laws.proofs.ShapedRows.{act_makes, kept_makes, suffixed_makes}
use Rattle.c_core_laws.proofs.ShapedRows.{incrementing_makes, cast_makes, chained_makes}
use Rattle.c_core_laws.proofs.ShapedRows.{conditional_makes, assigning_makes, comma_makes}

module _ (frames : rows.Frames) where
  abbrev pub IsShaped : TypedExpression → Type 0
  IsShaped e = MakesRows (rows.rows frames e)

  abbrev SuffixIsShaped : TypedSuffix → Type 0
  SuffixIsShaped s = SuffixMakes (core_suffix frames s)

  abbrev Held : Type 0
  Held = (e : TypedExpression) × IsShaped e

  abbrev HeldSuffix : Type 0
  HeldSuffix = (s : TypedSuffix) × SuffixIsShaped s

  abbrev bare : TypedExpression-F Held HeldSuffix → TypedExpression-F TypedExpression TypedSuffix
  bare y = map-TypedExpression Held HeldSuffix TypedExpression TypedSuffix (λ e. e.0) (λ s. s.0) y

  abbrev bare_suffix : TypedSuffix-F Held HeldSuffix → TypedSuffix-F TypedExpression TypedSuffix
  bare_suffix y = map-TypedSuffix Held HeldSuffix TypedExpression TypedSuffix (λ e. e.0)
      (λ s. s.0) y

  abbrev core_layer : TypedExpression-F Held HeldSuffix → rows.Rows
  core_layer y = rows.rows_step frames (map-TypedExpression TypedExpression TypedSuffix rows.Rows
      rows.ReadSuffix (rows.rows frames) (core_suffix frames) (bare y))

  abbrev suffix_layer : TypedSuffix-F Held HeldSuffix → rows.ReadSuffix
  suffix_layer y = rows.read_suffix (map-TypedSuffix TypedExpression TypedSuffix rows.Rows
      rows.ReadSuffix (rows.rows frames) (core_suffix frames) (bare_suffix y))

  each_row : (held : List Held) →
      AllByRecursion MakesRows (map (rows.rows frames) (map (λ e. e.0) held))
  each_row [] = tt
  each_row (e ∷ held) = (e.1, each_row held)

  each_suffix : (held : List HeldSuffix) →
      AllByRecursion SuffixMakes (map (core_suffix frames) (map (λ s. s.0) held))
  each_suffix [] = tt
  each_suffix (s ∷ held) = (s.1, each_suffix held)

  abbrev Link : Type 0
  Link = BinaryOperator × Held

  each_link : (held : List Link) →
      AllByRecursion (λ (link : BinaryOperator × rows.Rows). MakesRows link.1)
      (map (λ (link : BinaryOperator × TypedExpression). (link.0, rows.rows frames link.1))
      (map (λ (link : Link). (link.0, link.1.0)) held))
  each_link [] = tt
  each_link (link ∷ held) = (link.1.1, each_link held)

  layer : (y : TypedExpression-F Held HeldSuffix) → MakesRows (core_layer y)
  layer (TypedExpression-F.Name found place) = name_makes place found
  layer (TypedExpression-F.Number t n place) = plain_makes place (makes Good (pure (Const t n)) tt)
  layer (TypedExpression-F.Character n place) =
      plain_makes place (makes Good (pure (Const ty.I32 n)) tt)
  layer (TypedExpression-F.Bracketed inside place) = inside.1
  layer (TypedExpression-F.Postfix base suffixes place) =
      suffixed_makes place frames (map (core_suffix frames)
      (map (λ (s : HeldSuffix). s.0) suffixes))
      (rows.rows frames base.0) base.1 (each_suffix suffixes)
  layer (TypedExpression-F.PrefixStep operator operand kind place) =
      act_makes (λ usage. kept_makes usage (incrementing_makes place operator operand.1.target))
  layer (TypedExpression-F.Unary operator operand kind place) =
      plain_makes place (makes_then (λ v. core.gives (acts.signed operator v))
      (operand.1.rule Used)
      (λ v is. makes Good (acts.signed operator v) is))
  layer (TypedExpression-F.Cast operand kind place) =
      cast_makes place kind (rows.rows frames operand.0) operand.1
  layer (TypedExpression-F.Chain first rest kind place) =
      plain_makes place (chained_makes place
      (map (λ (link : BinaryOperator × TypedExpression). (link.0, rows.rows frames link.1))
      (map (λ (link : Link). (link.0, link.1.0)) rest)) (rows.used (rows.rows frames first.0))
      (first.1.rule Used) (each_link rest))
  layer (TypedExpression-F.Conditional test first second kind place) =
      act_makes (λ usage. conditional_makes place usage (rows.usage_of_ends usage kind) test.1
      first.1 second.1)
  layer (TypedExpression-F.Assignment left operator right kind place) =
      act_makes (λ usage. kept_makes usage
      (assigning_makes place (acts.is_used usage) operator left.1.target (right.1.rule Used)))
  layer (TypedExpression-F.Comma items kind place) =
      act_makes (λ usage. comma_makes usage
      (map (rows.rows frames) (map (λ (e : Held). e.0) items)) (each_row items))

  layer_behind : (y : TypedSuffix-F Held HeldSuffix) → SuffixMakes (suffix_layer y)
  layer_behind (TypedSuffix-F.Index index kind place) = index.1
  layer_behind (TypedSuffix-F.Call arguments kind place) = each_row arguments
  layer_behind (TypedSuffix-F.Step operator kind place) = tt
  layer_behind (TypedSuffix-F.Skipped kind place) = tt

  at_expression : (y : TypedExpression-F Held HeldSuffix)
      (x : TypedExpression-F TypedExpression TypedSuffix) → bare y ≡ x →
      IsShaped (roll-TypedExpression x)
  at_expression y x is =
      subst (λ (z : TypedExpression-F TypedExpression TypedSuffix).
      IsShaped (roll-TypedExpression z)) is
      (subst MakesRows (sym (open_core frames (bare y))) (layer y))

  at_suffix : (y : TypedSuffix-F Held HeldSuffix)
      (x : TypedSuffix-F TypedExpression TypedSuffix) → bare_suffix y ≡ x →
      SuffixIsShaped (roll-TypedSuffix x)
  at_suffix y x is =
      subst (λ (z : TypedSuffix-F TypedExpression TypedSuffix).
      SuffixIsShaped (roll-TypedSuffix z)) is
      (subst SuffixMakes (sym (open_core_suffix frames (bare_suffix y))) (layer_behind y))

  pub expression_makes : (e : TypedExpression) → MakesRows (rows.rows frames e)
  expression_makes =
      ind-TypedExpression IsShaped SuffixIsShaped (λ x y is. at_expression y x is)
      (λ x y is. at_suffix y x is)
