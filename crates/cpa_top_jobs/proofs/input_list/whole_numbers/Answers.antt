use Rattle.std.proofs.Common.{◌≡◌, ◌++◌, ◌∷◌, [], ℤ, List, sym, ap, ◌∙◌, arith, subst, to_z-of_z}
use Rattle.std.proofs.Common.{◌+◌}
use Rattle.std.specs.Int.{w128}
use Rattle.std.specs.List.{AllByRecursion}
use Rattle.cpa_top_jobs.specs.Inputs.{IsInput}
use Rattle.cpa_top_jobs.proofs.Numbers.{before, left, number_read, none_read, all_read}
use Rattle.cpa_top_jobs.proofs.Numbers.{input_fits}
use Rattle.cpa_top_jobs.proofs.Numbers.{inputs_pushed, none_before}
use Rattle.cpa_top_jobs.proofs.input_list.whole_numbers.Goals as goal

pub loop-value-init : goal.loop-value-init
loop-value-init c =
    rw c.in_ok-numbers.ensures.items (none_before (left c.args.values.now 0), tt)

pub returns-in-None-clause-none : goal.returns-in-None-clause-none
returns-in-None-clause-none c = λ is.
    c.loop-value.invariant.0
    ∙ none_read c.args.values.now c.loop-value.value-index c.value-item.result
    c.loop-value.numbers.items (omega arith) c.value-item.is c.in-None.ensures.number

pub loop-value-preserved : goal.loop-value-preserved
loop-value-preserved c =
    let here : IsInput c.in-Some.number = c.in-Some.ensures.range in
    let items : c.push.new.self.items ≡ c.loop-value.numbers.items ++ c.in-Some.number ∷ [] =
    c.in_ok-push-in-Some.ensures.items
    ∙ ap (λ (n : ℤ). c.loop-value.numbers.items ++ n ∷ [])
    (to_z-of_z {w = w128} (input_fits c.in-Some.number here)) in (
      c.loop-value.invariant.0
          ∙ number_read c.args.values.now c.loop-value.value-index c.value-item.result
          c.loop-value.numbers.items c.in-Some.number (omega arith) c.value-item.is
          c.in-Some.ensures.number
          ∙ ap (λ (ns : List ℤ). before ns (left c.args.values.now (c.loop-value.value-index + 1)))
          (sym items),
      subst (AllByRecursion IsInput) (sym items)
          (inputs_pushed c.loop-value.numbers.items c.in-Some.number c.loop-value.invariant.1 here),
    )

pub returns-clause-numbers : goal.returns-clause-numbers
returns-clause-numbers c =
    c.loop-value.invariant.0
    ∙ all_read c.args.values.now c.loop-value.value-index c.loop-value.numbers.items (omega arith)

pub returns-clause-range : goal.returns-clause-range
returns-clause-range c = c.loop-value.invariant.1
