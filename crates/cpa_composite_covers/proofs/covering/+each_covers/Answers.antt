use Rattle.std.proofs.Common.{true, map, sym, ◌∙◌}
use Rattle.cpa_composite_covers.specs.lemmas.PickLaws.{within_meanings}
use Rattle.cpa_composite_covers.proofs.Compared.{cover_split, cover_rest, cover_fails, both_true}
use Rattle.cpa_composite_covers.proofs.covering.+each_covers.Goals as goal

pub returns-then-each_covers : goal.returns-then-each_covers
returns-then-each_covers g t c =
    let meaning = g.A.Analysis.meaning in
    let handed = c.args.handed.now.items in
    let picks = c.args.picks.now in
    both_true c.covers.result
    ∙ cover_split (map meaning handed) picks _ c.args.elems.now c.elem-item.result
    c.args.other.now c.fellow-item.result c.covers.result true
    (within_meanings meaning handed picks c.requires) c.in-len1-up.len_at_least
    c.in-len1-up-elems.len_at_least c.in-len1-up-other.len_at_least c.elem-item.is
    c.fellow-item.is (λ k is. c.covers.ensures k is)
    (sym c.if-each_covers.true ∙ (c.each_covers.ensures
    ∙ cover_rest (map meaning handed) picks c.args.elems.now c.args.other.now))

pub returns-else-each_covers : goal.returns-else-each_covers
returns-else-each_covers g t c =
    let meaning = g.A.Analysis.meaning in
    let handed = c.args.handed.now.items in
    let picks = c.args.picks.now in
    c.if-each_covers.false
    ∙ cover_fails (map meaning handed) picks c.args.elems.now c.elem-item.result
    c.args.other.now c.fellow-item.result
    (within_meanings meaning handed picks c.requires) c.in-len1-up.len_at_least
    c.in-len1-up-elems.len_at_least c.in-len1-up-other.len_at_least c.elem-item.is
    c.fellow-item.is
    (sym c.if-each_covers.false ∙ (c.each_covers.ensures
    ∙ cover_rest (map meaning handed) picks c.args.elems.now c.args.other.now))
