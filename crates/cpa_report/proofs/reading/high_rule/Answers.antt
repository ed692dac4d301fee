use Rattle.cpa_report.proofs.Rules.{breaks_counts, breaks_range}
use Rattle.cpa_report.proofs.reading.high_rule.Goals as goal

pub returns-then-has_counts : goal.returns-then-has_counts
returns-then-has_counts c text line take lined none utf8 like =
    breaks_range c.args.model text line c.args.cfa.now take c.args.low.now lined none utf8 like
    (c.has_counts.ensures.0 c.if-has_counts.true)

pub returns-else-has_counts : goal.returns-else-has_counts
returns-else-has_counts c text line take lined none utf8 like =
    breaks_counts c.args.model text line c.args.cfa.now take c.args.low.now lined like (λ counts.
    let yes = c.has_counts.ensures.1 counts in
    let no = c.if-has_counts.false in
    absurd (cc))
