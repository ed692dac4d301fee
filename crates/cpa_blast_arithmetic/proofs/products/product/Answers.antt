use Rattle.std.proofs.Common.{◌-◌, ◌∙◌, ap, arith, take, length}
use Rattle.std.proofs.lemmas.List.{length-take-le}
use Rattle.cpa_blast_arithmetic.specs.Products.{added_word}
use Rattle.cpa_blast_arithmetic.proofs.Rows.{product_next, product_start, product_end}
use Rattle.cpa_blast_arithmetic.proofs.products.product.Goals as goal

pub loop-place-init : goal.loop-place-init
loop-place-init c =
    let xs = c.args.xs.now in
    let ys = c.args.ys.now in
    record {
      so_far = product_start c.args.net.now (take (length xs - length ys) xs) ys c.new-above.result
          c.new-above.ensures;
      long = omega (arith, ap length c.new-above.ensures);
      within = omega arith;
    }

pub added_word-requires : goal.added_word-requires
added_word-requires c =
    let xs = c.args.xs.now in
    let p = c.loop-place.place in
    let row = length-take-le (length xs - (p - 1)) xs (omega arith) in
    omega (
      arith,
      row,
      c.in_ok-row.ensures.long,
      ap length c.as_slice.ensures,
      ap length c.as_slice-in-loop-place.ensures,
      c.loop-place.invariant.long,
    )

pub loop-place-preserved : goal.loop-place-preserved
loop-place-preserved c =
    let xs = c.args.xs.now in
    let ys = c.args.ys.now in
    let l = c.loop-place in
    let row_net = c.masked_word.new.net in
    let row = c.in_ok-row.row in
    let short = length-take-le (length xs - (l.place - 1)) xs (omega arith) in
    record {
      so_far =
          product_next c.args.net.now l.net row_net c.added_word.new.net xs ys l.above row
          c.in_ok-above.above l.place (l.place - 1) c.index-ys-place.result (omega arith)
          c.requires (omega arith) c.index-ys-place.is l.invariant.so_far c.in_ok-row.ensures.built
          (c.in_ok-above.ensures.built
          ∙ ap (λ ls. added_word row_net ls c.as_slice-in-loop-place.result.now) c.as_slice.ensures
          ∙ ap (λ ls. added_word row_net row ls) c.as_slice-in-loop-place.ensures);
      long = omega (
        arith,
        short,
        c.in_ok-row.ensures.long,
        c.in_ok-above.ensures.long,
        ap length c.as_slice.ensures,
      );
      within = omega arith;
    }

pub returns-clause-built : goal.returns-clause-built
returns-clause-built c =
    let l = c.loop-place in
    l.invariant.so_far
    ∙ product_end c.args.net.now c.args.xs.now c.args.ys.now (length l.above) l.place (omega arith)
    l.invariant.long
