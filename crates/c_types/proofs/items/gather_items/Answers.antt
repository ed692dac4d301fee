use Rattle.std.proofs.Common.{◌≡◌, ◌+◌, ◌++◌, List, ◌∷◌, drop, Option, sym, ap, subst, ◌∙◌, arith}
use Rattle.c_lexer.specs.declared.fault.TextFault.{TextFault}
use Rattle.c_grammar_tree.specs.declared.item.Item.{Item}
use Rattle.c_types_rules.specs.declared.typed.TypedFunction.{TypedFunction}
use Rattle.c_types_rules.specs.First.{first_with}
use Rattle.c_types_rules.specs.Items.{Before, Call, item_faults, item_calls, items_faults}
use Rattle.c_types_rules.specs.Items.{items_calls}
use Rattle.c_types_rules.specs.Sound.{Start, item_starts, item_function, items_behind, starts_of}
use Rattle.c_types_rules.specs.Sound.{functions_of}
use Rattle.c_types_globals.specs.Scopes.{before_of}
use Rattle.c_types.proofs.Steps.{faults_next, calls_next, functions_next, starts_next}
use Rattle.c_types.proofs.Next.{next_item}
use Rattle.c_types.proofs.Numbers.{Numbered, numbered_item}
use Rattle.c_types.proofs.items.gather_items.Goals as goal

pub loop-item-preserved : goal.loop-item-preserved
loop-item-preserved c =
    let text = c.args.survey.now in
    let all = c.args.items.now in
    let i = c.loop-item.item-index in
    let x = c.item-item.result in
    let rest = drop (i + 1) all in
    let g = c.loop-item.gathered in
    let now = before_of g.scope in
    let behind = before_of c.gather_item.new.gathered.scope in
    let e = c.in_ok-gather_item.ensures in
    let next : x ∷ rest ≡ drop i all = sym (next_item all i x (omega arith) c.item-item.is) in
    record {
      numbered = subst Numbered (sym e.scope)
          (numbered_item text x now c.loop-item.invariant.numbered);
      scope = ap (items_behind text rest) e.scope
          ∙ ap (λ (xs : List Item). items_behind text xs now) next ∙ c.loop-item.invariant.scope;
      first = ap (λ (f : Option TextFault). first_with f (items_faults text rest behind)) e.first
          ∙ ap (λ (b : Before). first_with (first_with g.first (item_faults text x now))
          (items_faults text rest b)) e.scope
          ∙ sym (faults_next g.first text x rest now)
          ∙ ap (λ (xs : List Item). first_with g.first (items_faults text xs now)) next
          ∙ c.loop-item.invariant.first;
      calls = ap (λ (held : List Call). held ++ items_calls text rest behind) e.calls
          ∙ ap (λ (b : Before). (g.calls.items ++ item_calls text x now) ++ items_calls text rest b)
          e.scope
          ∙ sym (calls_next g.calls.items text x rest now)
          ∙ ap (λ (xs : List Item). g.calls.items ++ items_calls text xs now) next
          ∙ c.loop-item.invariant.calls;
      functions = ap (λ (held : List TypedFunction). held ++ functions_of text rest behind)
          e.functions
          ∙ ap (λ (b : Before). (g.functions.items ++ item_function text x now)
          ++ functions_of text rest b) e.scope
          ∙ sym (functions_next g.functions.items text x rest now)
          ∙ ap (λ (xs : List Item). g.functions.items ++ functions_of text xs now) next
          ∙ c.loop-item.invariant.functions;
      starts = ap (λ (held : List Start). held ++ starts_of text rest behind) e.starts
          ∙ ap (λ (b : Before). (g.starts.items ++ item_starts text x now)
          ++ starts_of text rest b) e.scope
          ∙ sym (starts_next g.starts.items text x rest now)
          ∙ ap (λ (xs : List Item). g.starts.items ++ starts_of text xs now) next
          ∙ c.loop-item.invariant.starts;
    }
