-- One item more, or no more, each in the tokens as they are seen behind those before it.
use Rattle.std.specs.List.{flat_map}
use Rattle.std.proofs.Common.{sym, ◌∙◌, ap, arith, not, map}
use Rattle.c_grammar_forms.specs.lemmas.Seen.{none_seen, one_seen, no_more_seen, no_part_seen}
use Rattle.c_grammar_forms.specs.lemmas.Seen.{at_seen}
use Rattle.c_grammar_tree.specs.Items.{typedefs_in, behind_typedefs, seen_behind}
use Rattle.c_parser.proofs.SeenItems.{same_length, seen_reads, seen_none, seen_item, seen_after}
use Rattle.c_parser.proofs.SeenItems.{seen_nothing, end_there, seen_exit}
use Rattle.c_parser.proofs.Steadies.{steady_unit_item}
use Rattle.c_parser.proofs.Ahead.{unit_item_ahead}
use Rattle.c_parser.proofs.items.unit_items.Goals as goal

pub list-init : goal.list-init
list-init c = record {
  so_far = at_seen (none_seen c.requires.within) c.new-items.ensures;
  seen = sym (ap (λ items. map (seen_behind items) c.args.source.now) c.new-items.ensures
      ∙ seen_nothing c.args.source.now);
  onward = omega arith;
  within = c.requires.within;
}

pub returns-in_err-item-clause-items : goal.returns-in_err-item-clause-items
returns-in_err-item-clause-items c =
    let old = c.args.source.now in
    let inv = c.list.invariant in
    seen_exit _ _ c.from_residual.ensures.1 c.in_err-item.ensures
    (λ i g. no_part_seen inv.so_far
    (ap not (end_there c.list.items old c.list.source inv.seen c.list.here
    ∙ sym c.list-test.ensures))
    (seen_none (flat_map typedefs_in c.list.items) old c.list.source inv.seen g))

pub returns-in_err-item-clause-seen : goal.returns-in_err-item-clause-seen
returns-in_err-item-clause-seen c =
    (flat_map typedefs_in c.list.items, c.list.invariant.seen)

pub list-preserved : goal.list-preserved
list-preserved c =
    let old = c.args.source.now in
    let inv = c.list.invariant in
    let read = c.in_ok-item.ensures in
    let seen = c.in_ok-declare_item.ensures.declared
    ∙ (ap (map (behind_typedefs (typedefs_in c.in_ok-item.item))) inv.seen
    ∙ (seen_item c.list.items c.in_ok-item.item old
    ∙ sym (ap (λ list. map (seen_behind list) old) c.in_ok-push.ensures.ok))) in
    record {
      so_far = at_seen (one_seen inv.so_far steady_unit_item
          (ap not (end_there c.list.items old c.list.source inv.seen c.list.here
          ∙ sym c.list-test.ensures))
          (seen_reads (flat_map typedefs_in c.list.items) old c.list.source inv.seen read))
          c.in_ok-push.ensures.ok;
      seen = seen;
      onward = omega (arith, inv.onward, read.onward);
      within = omega (
        arith,
        read.within,
        same_length (flat_map typedefs_in c.list.items) old c.list.source inv.seen,
        same_length (flat_map typedefs_in c.push.new.self) old c.declare_item.new.source seen,
      );
    }

pub list-smaller : goal.list-smaller
list-smaller c =
    let r = c.in_ok-item.ensures in
    omega (
      arith,
      unit_item_ahead r,
      r.within,
      same_length (flat_map typedefs_in c.list.items) c.args.source.now c.list.source
          c.list.invariant.seen,
    )

pub returns-clause-items : goal.returns-clause-items
returns-clause-items c = no_more_seen c.list.invariant.so_far
    (ap not (end_there c.list.items c.args.source.now c.list.source c.list.invariant.seen
    c.list.here ∙ sym c.list-test.ensures))

pub returns-clause-seen : goal.returns-clause-seen
returns-clause-seen c = (flat_map typedefs_in c.list.items, c.list.invariant.seen)

pub returns-in_err-declare_item-clause-seen : goal.returns-in_err-declare_item-clause-seen
returns-in_err-declare_item-clause-seen c =
    seen_after c.args.source.now c.list.source c.declare_item.new.source
    (flat_map typedefs_in c.list.items, c.list.invariant.seen) c.declare_item.ensures.seen

pub returns-in_err-push-clause-seen : goal.returns-in_err-push-clause-seen
returns-in_err-push-clause-seen c =
    seen_after c.args.source.now c.list.source c.declare_item.new.source
    (flat_map typedefs_in c.list.items, c.list.invariant.seen) c.declare_item.ensures.seen
