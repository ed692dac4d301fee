use Rattle.std.proofs.Common.{◌+◌, ap, ◌∙◌, arith, drop, length}
use Rattle.std.proofs.lemmas.List.{length_push}
use Rattle.cpa_blast_words.specs.Walks.{walk}
use Rattle.cpa_blast_words.proofs.Steps.{onto, walk_next, walk_end}
use Rattle.cpa_blast_words.proofs.walks.walk.Goals as goal

pub loop-i-preserved : goal.loop-i-preserved
loop-i-preserved c =
    let l = c.loop-i in
    let made = c.in_ok-column.column in
    let xs = c.args.xs.now in
    let ys = c.args.ys.now in
    let pushed = c.in_ok-push.ensures.ok in
    record {
      so_far =
          ap (λ bs. onto bs (walk c.args.row c.row_column.new.net made.carry (drop (l.i + 1) xs)
          (drop (l.i + 1) ys))) pushed
          ∙ walk_next c.args.row l.net c.row_column.new.net l.carried made xs ys l.bits l.i
          c.index-xs-i.result c.index-ys-i.result (omega arith) (omega arith) c.index-xs-i.is
          c.index-ys-i.is c.in_ok-column.ensures
          ∙ l.invariant.so_far;
      long = omega (arith, ap length pushed, length_push l.bits made.bit, l.invariant.long);
    }

pub returns-clause-built : goal.returns-clause-built
returns-clause-built c =
    let l = c.loop-i in
    walk_end c.args.row l.net l.carried c.args.xs.now (drop l.i c.args.ys.now) l.bits l.i
    (omega arith)
    ∙ l.invariant.so_far
