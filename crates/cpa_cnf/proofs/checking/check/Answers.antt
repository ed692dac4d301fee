use Rattle.cpa_cnf.specs.Lines.{known}
use Rattle.cpa_cnf.proofs.Following.{good_line, same_marks}
use Rattle.cpa_cnf.proofs.checking.check.Goals as goal

pub returns-then-is_followed-clause-good : goal.returns-then-is_followed-clause-good
returns-then-is_followed-clause-good c =
    let cs = known c.args.cnf.now c.args.earlier.now in
    let line = c.args.line.now in
    let reaches = c.if-is_followed.ensures.reaches in
    let taken = c.take_clause-is_same.ensures in (
      λ yes. good_line c.args.cnf.now.vars cs line _ c.requires.range taken.sorted reaches
          (taken.same.0 yes),
      λ good. taken.same.1 (same_marks c.args.cnf.now.vars cs line _ reaches good),
    )
