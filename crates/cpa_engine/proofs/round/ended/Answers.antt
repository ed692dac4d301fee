use Rattle.std.proofs.Common.{◌∙◌, List, sym, ap}
use Rattle.std.specs.List.{list_any}
use Rattle.cpa_iface.specs.declared.entries.Entry.{Entry}
use Rattle.cpa_engine.proofs.Ending.{all_rest, some_waits}
use Rattle.cpa_engine.proofs.round.ended.Goals as goal

pub returns-then-is_waiting : goal.returns-then-is_waiting
returns-then-is_waiting g c = record {
  within = c.requires.search;
  all = c.requires.all;
  waits = some_waits c.args.search.now.reached.live
      (ap (λ (xs : List Entry). list_any (λ e. e.waiting) xs) (sym c.live.ensures.live)
      ∙ sym c.is_waiting.ensures ∙ c.if-is_waiting.true);
  none_err = c.requires.none;
}

pub returns-else-is_waiting : goal.returns-else-is_waiting
returns-else-is_waiting g c = record {
  stands = c.requires.search.stands;
  comes = c.requires.search.comes;
  ascend = c.live.ensures.numbered.ascend;
  none_wait = all_rest c.args.search.now.reached.live
      (ap (λ (xs : List Entry). list_any (λ e. e.waiting) xs) (sym c.live.ensures.live)
      ∙ sym c.is_waiting.ensures ∙ c.if-is_waiting.false);
  none_err = c.requires.none;
}
