use Rattle.std.proofs.Common.{length, ltb-true, refl, sym}
use Rattle.std.proofs.lemmas.Option.{slice_get_read}
use Rattle.cpa_reached.proofs.marks.differs_at.Goals as goal

pub returns-in-Some : goal.returns-in-Some
returns-in-Some c = λ yes.
    let ms = c.args.marks.now in
    let n = c.args.number in
    let k = c.in-Some.kept.now in
    let found = c.in-Some.ensures.lookup in
    record {
      kept = k;
      at = slice_get_read ms (length ms) n k refl (ltb-true n (length ms) (sym found.0)) found.1;
      differ = c.differ.ensures yes;
    }
