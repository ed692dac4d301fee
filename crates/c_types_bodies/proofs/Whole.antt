-- A body as one walk (`whole_walk`): its faults with those of its labels and gotos (`whole_first`),
-- and what stands behind it, part by part (`is_behind`).
use Rattle.std.proofs.Common.{◌≡◌, ℕ, List, [], ◌∷◌, ◌++◌, map, Option, refl, sym, ap}
use Rattle.std.proofs.Common.{◌∙◌}
use Rattle.std.specs.List.{flat_map}
use Rattle.c_lexer.specs.declared.fault.Rule.TheVariants as rule
use Rattle.c_lexer.specs.declared.fault.TextFault.{TextFault}
use Rattle.c_grammar_tree.specs.declared.item.Parameters.{Parameters}
use Rattle.c_grammar_tree.specs.declared.statement.BlockItem.{BlockItem}
use Rattle.c_types_rules.specs.Names.{Text}
use Rattle.c_types_rules.specs.First.{first_with, first_append}
use Rattle.c_types_rules.specs.ExpressionRules.{broken}
use Rattle.c_types_rules.specs.Statements.{Walk, walk_of, in_order, receiving}
use Rattle.c_types_rules.specs.StatementRules.{Jump, site_faults, label_at, goto_at}
use Rattle.c_types_rules.specs.StatementRules.{repeated_labels}
use Rattle.c_types_rules.specs.StatementRules.{entering_gotos}
use Rattle.c_types_rules.specs.Items.{body_walk, listed, site_calls, body_faults}
use Rattle.c_types_bodies.specs.States.{State, noted, walked}
use Rattle.c_types_bodies.specs.Grown.{grown_walk}
use Rattle.c_types_bodies.proofs.Scopes.{two_walks}
use Rattle.c_types_bodies.proofs.Same.{same_walk}

walks_same : (text : Text) (items : List BlockItem)
    → map (grown_walk text) items ≡ map (walk_of text) items
walks_same text [] = refl
walks_same text (item ∷ items) =
    ap (λ (w : Walk). w ∷ map (grown_walk text) items) (same_walk text item)
    ∙ ap (λ (ws : List Walk). walk_of text item ∷ ws) (walks_same text items)

pub whole_walk : (text : Text) (caller : ℕ) (all : Parameters) (items : List BlockItem)
    (before mid last : State)
    → mid ≡ walked text caller (in_order (map (receiving text) (listed all))) before
    → last ≡ walked text caller (in_order (map (grown_walk text) items)) mid
    → last ≡ walked text caller (body_walk text all items) before
whole_walk text caller all items before mid last first second =
    two_walks text caller (in_order (map (receiving text) (listed all)))
    (in_order (map (walk_of text) items)) before mid last first
    (second ∙ ap (λ (ws : List Walk). walked text caller (in_order ws) mid) (walks_same text items))

-- what is known behind a walk, by its parts
pub record IsBehind (text : Text) (caller : ℕ) (walk : Walk) (before last : State) : Type 0 where
  pub around : last.around ≡ walk.behind before.around
  pub first : last.first
      ≡ first_with before.first (flat_map (site_faults text) (walk.sites before.around))
  pub calls : last.calls
      ≡ before.calls ++ flat_map (site_calls text caller) (walk.sites before.around)
  pub labels : last.labels ≡ before.labels ++ flat_map label_at (walk.sites before.around)
  pub gotos : last.gotos ≡ before.gotos ++ flat_map goto_at (walk.sites before.around)

pub is_behind : (text : Text) (caller : ℕ) (walk : Walk) (before last : State)
    → last ≡ walked text caller walk before → IsBehind text caller walk before last
unfolding noted
is_behind text caller walk before last is = record {
  around = ap (λ (s : State). s.around) is;
  first = ap (λ (s : State). s.first) is;
  calls = ap (λ (s : State). s.calls) is;
  labels = ap (λ (s : State). s.labels) is;
  gotos = ap (λ (s : State). s.gotos) is;
}

-- the faults of a body where no label and no goto stands before it: `noted` is what is said of the
-- labels and gotos behind it
pub whole_first : (text : Text) (caller : ℕ) (walk : Walk) (before last : State)
    (new : Option TextFault) → before.labels ≡ [] → before.gotos ≡ []
    → IsBehind text caller walk before last
    → new ≡ first_with last.first (broken rule.N7 (repeated_labels [] last.labels)
    ++ broken rule.N9 (entering_gotos last.labels last.gotos))
    → new ≡ first_with before.first (body_faults text (walk.sites before.around))
whole_first text caller walk before last new no_labels no_gotos behind new_is =
    let sites = walk.sites before.around in
    let labels = flat_map label_at sites in
    let labels_are : last.labels ≡ labels =
    behind.labels ∙ ap (λ (held : List Jump). held ++ labels) no_labels in
    let gotos_are : last.gotos ≡ flat_map goto_at sites =
    behind.gotos ∙ ap (λ (held : List Jump). held ++ flat_map goto_at sites) no_gotos in
    let faults = broken rule.N7 (repeated_labels [] labels)
    ++ broken rule.N9 (entering_gotos labels (flat_map goto_at sites)) in
    new_is
    ∙ ap (λ (ls : List Jump). first_with last.first (broken rule.N7 (repeated_labels [] ls)
    ++ broken rule.N9 (entering_gotos ls last.gotos))) labels_are
    ∙ ap (λ (gs : List Jump). first_with last.first (broken rule.N7 (repeated_labels [] labels)
    ++ broken rule.N9 (entering_gotos labels gs))) gotos_are
    ∙ ap (λ (held : Option TextFault). first_with held faults) behind.first
    ∙ sym (first_append before.first (flat_map (site_faults text) sites) faults)
