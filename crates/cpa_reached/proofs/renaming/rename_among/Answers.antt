use Rattle.std.proofs.Common.{ℕ, List, map, take, get_or, sym, ap, ◌∙◌}
use Rattle.std.proofs.Common.{subst}
use Rattle.std.proofs.lemmas.List.{take_more}
use Rattle.cpa_model.specs.Ascending.{AreAscending}
use Rattle.cpa_reached.specs.lemmas.MemberLaws.{numbers_map}
use Rattle.cpa_reached.specs.Kept.{renamed_among}
use Rattle.cpa_reached.proofs.Renamed.{among_none, among_more, among_number}
use Rattle.cpa_reached.proofs.renaming.rename_among.Goals as goal

pub loop-namer-init : goal.loop-namer-init
loop-namer-init c = sym (among_none c.args.old c.args.next c.args.entries.now.items)

pub rename_at-requires : goal.rename_at-requires
rename_at-requires c =
    let seen = take c.loop-namer.namer-index c.args.namers.now in
    rw c.loop-namer.invariant
    (subst (λ (ns : List ℕ). AreAscending ns)
    (sym (numbers_map (renamed_among seen c.args.old c.args.next) c.args.entries.now.items
    (among_number seen c.args.old c.args.next)))
    c.requires.ascend)

pub loop-namer-preserved : goal.loop-namer-preserved
loop-namer-preserved c =
    let ns = c.args.namers.now in
    let i = c.loop-namer.namer-index in
    rw (c.rename_at.ensures, c.loop-namer.invariant)
    (among_more (take i ns) (get_or ns i 0) c.args.old c.args.next c.args.entries.now.items
    c.requires.apart
    ∙ ap (λ (ks : List ℕ). map (renamed_among ks c.args.old c.args.next) c.args.entries.now.items)
    (sym (take_more ns i 0 c.loop-namer-test.true)))
