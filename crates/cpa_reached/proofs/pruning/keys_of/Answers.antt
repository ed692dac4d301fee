use Rattle.std.proofs.Common.{ℕ, List, ◌∷◌, [], ◌++◌, ap, sym, subst, get_or, take, ◌∙◌, arith}
use Rattle.std.proofs.lemmas.List.{take_all, take_more}
use Rattle.cpa_iface.specs.declared.entries.Entry.{Entry}
use Rattle.cpa_reached_key.specs.Rows.{picked}
use Rattle.cpa_reached.specs.Indexes.{AreKeysOf}
use Rattle.cpa_reached.specs.lemmas.MemberLaws.{one_entry}
use Rattle.cpa_reached.proofs.Leaving.{keys_more}
use Rattle.cpa_reached.proofs.Reopened.{live_item}
use Rattle.cpa_reached.proofs.pruning.keys_of.Goals as goal

pub loop-number-init : goal.loop-number-init
loop-number-init c = rw c.new-keys.ensures.items tt

pub entry-requires-clause-live : goal.entry-requires-clause-live
entry-requires-clause-live c =
    live_item c.args.entries.now c.args.gone.now c.loop-number.number-index c.requires.live
    c.loop-number-test.true

pub loop-number-preserved : goal.loop-number-preserved
loop-number-preserved c =
    let l = c.loop-number in
    let xs = c.args.entries.now in
    let places = c.args.places.now in
    let gone = c.args.gone.now in
    let i = l.number-index in
    let key = c.in_ok-key.key in
    let mine = c.entry.result.now in
    rw c.in_ok-push.ensures.items
    (subst (λ (ns : List ℕ). AreKeysOf places xs ns (l.keys.items ++ key ∷ []))
    (sym (take_more gone i 0 c.loop-number-test.true))
    (keys_more places xs (take i gone) l.keys.items (get_or gone i 0) key
    (λ e there number.
    ap (λ (y : Entry). picked places y.elems)
    (one_entry xs e mine c.requires.ascend there c.entry.ensures.is_in
    (number ∙ sym c.entry.ensures.number))
    ∙ sym (c.in_ok-key.ensures ∙ ap (picked places) c.as_slice-elems.ensures))
    l.invariant))

pub returns : goal.returns
returns c =
    let i = c.loop-number.number-index in
    subst (λ (ns : List ℕ). AreKeysOf c.args.places.now c.args.entries.now ns
    c.loop-number.keys.items)
    (take_all i c.args.gone.now (omega (arith, c.loop-number-test.false)))
    c.loop-number.invariant
