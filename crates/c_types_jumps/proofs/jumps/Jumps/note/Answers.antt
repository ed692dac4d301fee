use Rattle.std.proofs.Common.{ℕ, ◌<◌, sym, ap, subst}
use Rattle.std.specs.List.{AllByRecursion}
use Rattle.c_types_jumps.specs.Found.{Found}
use Rattle.c_types_jumps.proofs.Views.{noted_both}
use Rattle.c_types_jumps.proofs.jumps.Jumps.note.Goals as goal

pub returns : goal.returns
returns c = λ base based.
    let inside = c.self.inside in
    let first = ap (λ (found : Found). found.first) c.self.view_is in
    noted_both c.args.first.now c.note_repeated.new.first c.note_entering.new.first base inside.tree
    inside.labels.items inside.gotos.items c.deref.result.now c.deref-2.result.now
    c.deref-3.result.now c.args.self.now c.self.view_is c.deref.ensures.value
    c.deref-2.ensures.value c.deref-3.ensures.value
    (c.in_ok-index.ensures.first base inside.tree.nodes.items)
    (c.note_entering.ensures base
    (subst (λ (n : ℕ). AllByRecursion (λ number. number < n) base) (sym first) based))
