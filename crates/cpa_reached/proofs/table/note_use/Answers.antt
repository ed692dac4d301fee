use Rattle.std.proofs.Common.{◌≡◌, refl}
use Rattle.std.proofs.lemmas.Result.{on_ok_weaker, on_err_weaker}
use Rattle.cpa_reached.specs.Calls.{at_number, gains}
use Rattle.cpa_reached.specs.Tables.{IsIndexedTable}
use Rattle.cpa_reached.proofs.Keeping.{kept_gain}
use Rattle.cpa_reached.proofs.Keying.{indexed_at}
use Rattle.cpa_reached.proofs.Views.{either_way}
use Rattle.cpa_reached.proofs.table.note_use.Goals as goal

pub returns-clause-kept : goal.returns-clause-kept
returns-clause-kept c =
    let t = c.list_namer.new.table in
    let kept = c.in_ok-list_namer.ensures.kept in
    either_way c.gain.result
    (on_ok_weaker _
    (λ (is : c.gain.new.entries.items ≡ at_number c.args.entry (gains c.args.by) t.entries.items).
    rw is (kept_gain c.args.entry c.args.by t.entries.items t.links.items t.waiting.items t.next
    c.in_ok-list_namer.ensures.named kept))
    c.gain.ensures.ok)
    (on_err_weaker _ (λ (is : c.gain.new.entries.items ≡ t.entries.items). rw is kept)
    c.gain.ensures.err)

pub returns-clause-indexed : goal.returns-clause-indexed
returns-clause-indexed c =
    let t = c.list_namer.new.table in
    let namer = c.in_ok-list_namer.ensures in
    let indexed : IsIndexedTable t =
    rw (namer.entries, namer.index, namer.places) c.requires.indexed in
    either_way c.gain.result
    (on_ok_weaker _
    (λ (is : c.gain.new.entries.items ≡ at_number c.args.entry (gains c.args.by) t.entries.items).
    rw is (indexed_at t.places t.entries.items t.index.entries c.args.entry (gains c.args.by)
    (λ e. refl) (λ e. refl) indexed))
    c.gain.ensures.ok)
    (on_err_weaker _ (λ (is : c.gain.new.entries.items ≡ t.entries.items). rw is indexed)
    c.gain.ensures.err)
