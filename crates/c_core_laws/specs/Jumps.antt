-- The labels and jumps of core statements, and of the statements of a typed tree, and jumps that
-- lead where they may (C11 6.8.1 and 6.8.6).
use Rattle.std.specs.Prelude.{ℕ, ◌+◌, Bool, true, false, ◌||◌, List, [], ◌∷◌, ◌++◌, map, ⊤}
use Rattle.c_types_rules.specs.declared.typed.TypedItem.{TypedItem}
use Rattle.c_types_rules.specs.declared.typed.TypedItem.TheOpen.{TypedItem-F, TypedStatement-F}
use Rattle.c_types_rules.specs.declared.typed.TypedItem.TheFolds.{fold-TypedItem}
use Rattle.c_types_rules.specs.declared.typed.TypedFunction.{TypedFunction}
use Rattle.c_types_rules.specs.TypedStatements.{typed_parts}
use Rattle.cpa_model_trees.specs.declared.tree.CoreTree.{CoreTree}
use Rattle.cpa_model_trees.specs.declared.tree.CoreTree.TheOpen.{CoreTree-F}
use Rattle.cpa_model_trees.specs.declared.tree.CoreTree.TheFolds.{fold-CoreTree}
use Rattle.cpa_model_trees.specs.declared.tree.Head.{Head}
use Rattle.cpa_model_trees.specs.declared.tree.Head.TheVariants as head
use Rattle.cpa_model.specs.declared.program.Stmt.{Stmt}
use Rattle.cpa_model.specs.declared.program.Stmt.TheVariants as stmt
use Rattle.cpa_model.specs.declared.program.Program.{Program}
use Rattle.cpa_model.specs.Programs.{IsSound}

-- how many labelled statements, which labels gotos name, in order, and whether a break or a
-- continue stands in none of the loops
pub record Jumps : Type 0 where
  pub labels : ℕ
  pub gotos : List ℕ
  pub loose : Bool

abbrev pub no_jumps : Jumps
no_jumps = record { labels = 0; gotos = []; loose = false }

abbrev pub then_jumps : Jumps → Jumps → Jumps
then_jumps a b = record {
  labels = a.labels + b.labels;
  gotos = a.gotos ++ b.gotos;
  loose = a.loose || b.loose;
}

abbrev pub all_jumps : List Jumps → Jumps
all_jumps [] = no_jumps
all_jumps (jumps ∷ more) = then_jumps jumps (all_jumps more)

abbrev pub labelled : Jumps → Jumps
labelled inside = record inside { labels = inside.labels + 1 }

abbrev pub in_loop : Jumps → Jumps
in_loop inside = record inside { loose = false }

abbrev pub goto : ℕ → Jumps
goto label = record { labels = 0; gotos = label ∷ []; loose = false }

abbrev pub leaving : Jumps
leaving = record { labels = 0; gotos = []; loose = true }

abbrev pub head_jumps : Head → Jumps → Jumps
head_jumps head.Labeled inside = labelled inside
head_jumps head.Loop inside = in_loop inside
head_jumps (head.Goto label) inside = goto label
head_jumps head.Break inside = leaving
head_jumps head.Continue inside = leaving
head_jumps _ inside = inside

abbrev pub node_jumps : CoreTree-F Jumps → Jumps
node_jumps (CoreTree-F.Node h parts place) = head_jumps h (all_jumps parts)

-- those of a tree of core statements
unfoldable pub tree_jumps : CoreTree → Jumps
tree_jumps = fold-CoreTree Jumps node_jumps

-- those of a statement, by those of its parts
abbrev pub statement_jumps : TypedStatement-F Jumps Jumps → Jumps
statement_jumps (TypedStatement-F.While test body place) = in_loop body
statement_jumps (TypedStatement-F.Do body test place) = in_loop body
statement_jumps (TypedStatement-F.For first test step body place) = in_loop body
statement_jumps (TypedStatement-F.Goto label place) = goto label
statement_jumps (TypedStatement-F.Break place) = leaving
statement_jumps (TypedStatement-F.Continue place) = leaving
statement_jumps (TypedStatement-F.Labeled label body place) = labelled body
statement_jumps (TypedStatement-F.Switch value choices otherwise body end place) =
    then_jumps (all_jumps (map (λ one. goto one.label) choices)) (then_jumps (goto otherwise)
    (then_jumps body (labelled no_jumps)))
statement_jumps statement = typed_parts all_jumps (λ part. part) then_jumps statement

abbrev pub item_layer_jumps : TypedItem-F Jumps Jumps → Jumps
item_layer_jumps (TypedItem-F.Declaration declarators) = no_jumps
item_layer_jumps (TypedItem-F.Statement statement) = statement

-- those of an item of a block
unfoldable pub item_jumps : TypedItem → Jumps
item_jumps = fold-TypedItem Jumps Jumps item_layer_jumps statement_jumps

abbrev pub function_jumps : TypedFunction → Jumps
function_jumps function = all_jumps (map item_jumps function.items)

-- a goto stays in its function, and a break or a continue stands in a loop
abbrev pub JumpIsSound : Program → ℕ → Stmt → Type 0
JumpIsSound P n (stmt.Goto to) = IsSound P n (stmt.Goto to)
JumpIsSound P n stmt.Break = IsSound P n stmt.Break
JumpIsSound P n stmt.Continue = IsSound P n stmt.Continue
JumpIsSound P n _ = ⊤
