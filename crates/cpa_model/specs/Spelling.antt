-- How facts, elements, statements, acts and edges are spelled in reports and messages (this
-- project's own). Facts, elements and lists are compact JSON (RFC 8259).
use Rattle.std.specs.Prelude.{ℕ, ◌++◌, List, [], ◌∷◌, if◌then◌else◌, decimal, codes}
use Rattle.std.specs.List.{flat_map}
use Rattle.std.specs.Fmt.{signed_decimal}
use Rattle.cpa_expr.specs.declared.tree.Expr.{Expr}
use Rattle.cpa_expr.specs.Spelling.{expr_text}
use Rattle.cpa_model.specs.declared.automaton.Act.{Act}
use Rattle.cpa_model.specs.declared.automaton.Act.TheVariants as act
use Rattle.cpa_model.specs.declared.automaton.Edge.{Edge}
use Rattle.cpa_model.specs.declared.facts.Elem.{Elem}
use Rattle.cpa_facts.specs.declared.fact.Fact.{Fact}
use Rattle.cpa_facts.specs.declared.fact.Fact.TheVariants.{At, Stack, Equals, Within, Truth}
use Rattle.cpa_model.specs.declared.program.Stmt.{Stmt}
use Rattle.cpa_model.specs.declared.program.Stmt.TheVariants as stmt

-- the spellings of the items, with commas between them
abbrev pub commas : {X : Type 0} → (X → List ℕ) → List X → List ℕ
commas f [] = []
commas f (x ∷ xs) = f x ++ flat_map (λ y. 44 ∷ f y) xs

-- a JSON list
abbrev pub list_text : {X : Type 0} → (X → List ℕ) → List X → List ℕ
list_text f xs = codes "[" ++ commas f xs ++ codes "]"

abbrev pub fact_text : Fact → List ℕ
fact_text (At point) = codes "[\"at\"," ++ decimal point ++ codes "]"
fact_text (Stack sites) = codes "[\"stack\"," ++ list_text decimal sites ++ codes "]"
fact_text (Equals cell value) =
    codes "[\"equals\"," ++ decimal cell ++ codes "," ++ signed_decimal value ++ codes "]"
fact_text (Within cell lo hi) =
    codes "[\"within\"," ++ decimal cell ++ codes "," ++ signed_decimal lo
    ++ codes "," ++ signed_decimal hi ++ codes "]"
fact_text (Truth expr holds) =
    codes "[\"truth\",\"" ++ expr_text expr ++ (if holds then codes "\",1]" else codes "\",0]")

-- an element is the list of its facts
abbrev pub elem_text : Elem → List ℕ
elem_text e = list_text fact_text e.facts

-- an assignment: the first cell, how many, the index and the value
abbrev pub assign_text : ℕ → ℕ → Expr → Expr → List ℕ
assign_text base len index value =
    codes "assign " ++ decimal base ++ codes " " ++ decimal len ++ codes " "
    ++ expr_text index ++ codes " := " ++ expr_text value

abbrev pub stmt_text : Stmt → List ℕ
stmt_text (stmt.Block items) = codes "block " ++ list_text decimal items
stmt_text (stmt.If test first second) =
    codes "if " ++ decimal first ++ codes " " ++ decimal second ++ codes " " ++ expr_text test
stmt_text (stmt.Loop body step) = codes "loop " ++ decimal body ++ codes " " ++ decimal step
stmt_text (stmt.Assign base len index value) = assign_text base len index value
stmt_text (stmt.Input cell) = codes "input " ++ decimal cell
stmt_text (stmt.Call function) = codes "call " ++ decimal function
stmt_text (stmt.Goto to) = codes "goto " ++ decimal to
stmt_text stmt.Break = codes "break"
stmt_text stmt.Continue = codes "continue"
stmt_text stmt.Leave = codes "leave"
stmt_text stmt.Stop = codes "stop"
stmt_text stmt.Error = codes "error"

abbrev pub act_text : Act → List ℕ
act_text act.Skip = codes "skip"
act_text (act.Assign base len index value) = assign_text base len index value
act_text (act.Assume test holds) =
    (if holds then codes "assume true " else codes "assume false ") ++ expr_text test
act_text (act.Input cell) = codes "input " ++ decimal cell
act_text (act.Call site) = codes "call " ++ decimal site
act_text (act.Return site) = codes "return " ++ decimal site

abbrev pub edge_text : Edge → List ℕ
edge_text edge =
    decimal edge.from ++ codes " to " ++ decimal edge.to ++ codes ": " ++ act_text edge.act
