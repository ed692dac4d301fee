-- A function's body read by one walk (`is_read`, `typed_is`), where it begins (`begins_is`).
use Rattle.std.proofs.Common.{◌≡◌, ℕ, false, List, [], ◌++◌, length, map, Option, None, sym, ap}
use Rattle.std.proofs.Common.{◌∙◌, subst}
use Rattle.std.specs.List.{flat_map}
use Rattle.c_lexer.specs.declared.fault.Rule.TheVariants as rule
use Rattle.c_lexer.specs.declared.fault.TextFault.{TextFault}
use Rattle.c_grammar_tree.specs.declared.declaration.Specifiers.{Specifiers}
use Rattle.c_grammar_tree.specs.declared.item.Parameter.{Parameter}
use Rattle.c_grammar_tree.specs.declared.item.Parameters.{Parameters}
use Rattle.c_grammar_tree.specs.declared.statement.BlockItem.{BlockItem}
use Rattle.c_types_rules.specs.declared.meaning.Kind.{Kind}
use Rattle.c_types_rules.specs.declared.meaning.Object.{Object}
use Rattle.c_types_rules.specs.declared.typed.Choice.{Choice}
use Rattle.c_types_rules.specs.declared.typed.TypedFunction.{TypedFunction}
use Rattle.c_types_rules.specs.declared.typed.TypedItem.{TypedItem}
use Rattle.c_types_rules.specs.Declarations.{kind_of}
use Rattle.c_types_rules.specs.First.{first_with}
use Rattle.c_types_rules.specs.ExpressionRules.{broken}
use Rattle.c_types_rules.specs.Names.{Text}
use Rattle.c_types_rules.specs.Statements.{Around, in_order, receiving, labels_of}
use Rattle.c_types_rules.specs.StatementRules.{repeated_labels, entering_gotos}
use Rattle.c_types_rules.specs.Items.{body_walk, listed, site_calls, body_faults}
use Rattle.c_types_rules.specs.TypedStatements.{grown, typed_in_order, parameter_objects}
use Rattle.c_types_jumps.specs.Found.{Found, nothing_found}
use Rattle.c_types_bodies.specs.declared.walker.Frame.{Frame}
use Rattle.c_types_bodies.specs.declared.walker.Nest.{Nest}
use Rattle.c_types_bodies.specs.declared.walker.Walker.{Walker}
use Rattle.c_types_bodies.specs.Bodies.{begins, acts_of, objects_behind, typed_body}
use Rattle.c_types_bodies.specs.Grown.{grown_walk, name_bytes}
use Rattle.c_types_bodies.specs.States.{walked}
use Rattle.c_types_bodies.specs.Views.{state_of, around_of, IsTied, IsFresh}
use Rattle.c_types_bodies.specs.Bodies.{AreNumbered}
use Rattle.c_types_bodies.proofs.Starting.{tied_start}
use Rattle.c_types_bodies.proofs.Whole.{whole_walk, is_behind, whole_first}

-- where the items of a body stand
abbrev pub outermost : ℕ → Nest
outermost outer = record { outer = outer; in_loop = false; break_to = None; switch = None }

pub begins_is : {between : Found} (frame : Frame) (nest : Nest) {mid : Walker} (walker : Walker)
    (specifiers : Specifiers) (items : List BlockItem) → IsTied frame mid between
    → nest.outer ≡ length walker.names
    → nest ≡ outermost nest.outer
    → IsFresh walker → frame.result ≡ kind_of frame.survey.now specifiers
    → frame.labels.now ≡ map name_bytes (flat_map labels_of items)
    → around_of frame nest walker ≡ begins frame.survey.now walker.names walker.objects specifiers
    items
begins_is frame nest walker specifiers items tied outer nest_is fresh result labels =
    let last = begins frame.survey.now walker.names walker.objects specifiers items in
    ap (λ (n : Nest). around_of frame n walker) nest_is
    ∙ ap (λ (n : ℕ). record (around_of frame nest walker) {
      outer = n;
      in_loop = false;
      break_to = None;
      switch = None;
    }) outer
    ∙ ap (λ (all : List Choice). record last {
      choices = all;
      otherwise = walker.cases.otherwise;
      result = frame.result;
      labels = frame.labels.now;
      passed = walker.passed;
    }) fresh.choices
    ∙ ap (λ (n : Option ℕ). record last {
      otherwise = n;
      result = frame.result;
      labels = frame.labels.now;
      passed = walker.passed;
    }) fresh.otherwise
    ∙ ap (λ (k : Kind). record last {
      result = k;
      labels = frame.labels.now;
      passed = walker.passed;
    }) result
    ∙ ap (λ (ls : List (List ℕ)). record last { labels = ls; passed = walker.passed }) labels
    ∙ ap (λ (n : ℕ). record last { passed = n }) fresh.passed

pub record IsRead (text : Text) (caller : ℕ) (specifiers : Specifiers) (all : Parameters)
    (items : List BlockItem) (old last : Walker) (noted : Option TextFault) : Type 0 where
  pub objects : last.objects ≡ objects_behind text old.names old.objects specifiers all items
  pub first : noted ≡ first_with old.first (body_faults text
      (acts_of text old.names old.objects specifiers all items))
  pub calls : last.calls.items ≡ old.calls.items ++ flat_map (site_calls text caller)
      (acts_of text old.names old.objects specifiers all items)

pub is_read : (frame : Frame) (nest : Nest) (old mid last : Walker) (start between found : Found)
    (specifiers : Specifiers) (all : Parameters) (items : List BlockItem) (ps : List Parameter)
    (noted : Option TextFault) → IsTied frame mid between → ps ≡ listed all
    → start ≡ nothing_found old.objects
    → around_of frame nest old ≡ begins frame.survey.now old.names old.objects specifiers items
    → state_of frame nest mid between ≡ walked frame.survey.now frame.caller
    (in_order (map (receiving frame.survey.now) ps)) (state_of frame nest old start)
    → state_of frame nest last found ≡ walked frame.survey.now frame.caller
    (in_order (map (grown_walk frame.survey.now) items)) (state_of frame nest mid between)
    → noted ≡ first_with last.first (broken rule.N7
    (repeated_labels [] (state_of frame nest last found).labels)
    ++ broken rule.N9 (entering_gotos (state_of frame nest last found).labels
    (state_of frame nest last found).gotos))
    → IsRead frame.survey.now frame.caller specifiers all items old last noted
is_read frame nest old mid last start between found specifiers all items ps noted tied ps_are
    start_is
    around_is first second noted_is =
    let text = frame.survey.now in
    let before = state_of frame nest old start in
    let whole = whole_walk text frame.caller all items before (state_of frame nest mid between)
    (state_of frame nest last found)
    (subst (λ (qs : List Parameter). state_of frame nest mid between
    ≡ walked text frame.caller (in_order (map (receiving text) qs)) before) ps_are first) second in
    let behind = is_behind text frame.caller (body_walk text all items) before
    (state_of frame nest last found) whole in
    let labels : before.labels ≡ [] =
    ap (λ (j : Found). (state_of frame nest old j).labels) start_is in
    let gotos : before.gotos ≡ [] =
    ap (λ (j : Found). (state_of frame nest old j).gotos) start_is in
    record {
      objects = ap (λ (a : Around). a.objects) behind.around
          ∙ ap (λ (a : Around). ((body_walk text all items).behind a).objects) around_is;
      first = whole_first text frame.caller (body_walk text all items) before
          (state_of frame nest last found) noted labels gotos behind noted_is
          ∙ ap (λ (a : Around). first_with old.first (body_faults text
          ((body_walk text all items).sites a))) around_is;
      calls = behind.calls ∙ ap (λ (a : Around). old.calls.items
          ++ flat_map (site_calls text frame.caller) ((body_walk text all items).sites a))
          around_is;
    }

abbrev pub function_of : Kind → List Object → List TypedItem → ℕ → ℕ → TypedFunction
function_of result parameters items place end = record {
  result = result;
  parameters = parameters;
  items = items;
  place = place;
  end = end;
}

pub typed_is : (frame : Frame) (nest : Nest) (old mid : Walker) (start between : Found)
    (specifiers : Specifiers) (all : Parameters) (items : List BlockItem) (ps : List Parameter)
    (os : List Object) (ts : List TypedItem) (place end : ℕ) → IsTied frame mid between
    → ps ≡ listed all
    → around_of frame nest old ≡ begins frame.survey.now old.names old.objects specifiers items
    → state_of frame nest mid between ≡ walked frame.survey.now frame.caller
    (in_order (map (receiving frame.survey.now) ps)) (state_of frame nest old start)
    → frame.result ≡ kind_of frame.survey.now specifiers → os ≡ parameter_objects frame.survey.now
    old.objects ps
    → ts ≡ typed_in_order (map (grown frame.survey.now) items) (around_of frame nest mid)
    → function_of frame.result os ts place end
    ≡ typed_body frame.survey.now old.names old.objects specifiers all items place end
typed_is frame nest old mid start between specifiers all items ps os ts place end tied ps_are
    around_is first
    result os_are ts_are =
    let text = frame.survey.now in
    let behind = is_behind text frame.caller (in_order (map (receiving text) ps))
    (state_of frame nest old start) (state_of frame nest mid between) first in
    let objects : os ≡ parameter_objects text old.objects (listed all) =
    os_are ∙ ap (λ (qs : List Parameter). parameter_objects text old.objects qs) ps_are in
    let items_are : ts ≡ typed_in_order (map (grown text) items)
    ((in_order (map (receiving text) (listed all))).behind
    (begins text old.names old.objects specifiers items)) =
    ts_are ∙ ap (λ (a : Around). typed_in_order (map (grown text) items) a)
    (behind.around ∙ ap (λ (a : Around). (in_order (map (receiving text) ps)).behind a) around_is
    ∙ ap (λ (qs : List Parameter). (in_order (map (receiving text) qs)).behind
    (begins text old.names old.objects specifiers items)) ps_are) in
    ap (λ (k : Kind). function_of k os ts place end) result
    ∙ ap (λ (xs : List Object). function_of (kind_of text specifiers) xs ts place end) objects
    ∙ ap (λ (ys : List TypedItem). function_of (kind_of text specifiers)
    (parameter_objects text old.objects (listed all)) ys place end) items_are

pub tied_from : (frame : Frame) (walker : Walker) (start : Found)
    → start ≡ nothing_found walker.objects → frame.file ≡ length walker.names
    → AreNumbered walker.objects walker.names → IsFresh walker → IsTied frame walker start
tied_from frame walker start is file numbered fresh =
    subst (λ (j : Found). IsTied frame walker j) (sym is)
    (tied_start frame walker file numbered fresh.cases)
