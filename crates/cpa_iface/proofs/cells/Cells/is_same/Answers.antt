-- All cells are known where they stand at their own places.
use Rattle.std.proofs.Common.{rules, ap, length}
use Rattle.cpa_iface.specs.lemmas.CellLaws.{all_same}
use Rattle.cpa_iface.proofs.cells.Cells.is_same.Goals as goal

pub returns-then-are_own-2 : goal.returns-then-are_own-2
returns-then-are_own-2 c = (
  (λ same. all_same c.args.self.now c.args.other.now (search rules) (search rules)
      (search (rules, same))),
  (λ same. let e = ap length same in search (rules, e)),
)
