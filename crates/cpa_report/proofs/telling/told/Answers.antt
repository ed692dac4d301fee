use Rattle.std.proofs.Common.{◌≡◌, ◌∙◌, Some, ap, sym}
use Rattle.cpa_report_print.specs.Reports.{report_text}
use Rattle.cpa_report.proofs.Lowness.{told_as}
use Rattle.cpa_report.proofs.Plainness.{line_of_told}
use Rattle.cpa_report.proofs.telling.told.Goals as goal

pub returns-then-branch-clause-found : goal.returns-then-branch-clause-found
returns-then-branch-clause-found c =
    told_as c.in_ok-report.field-0 c.args.text.now c.args.verdict c.in-Some.report c.in-Some.is
    c.in_ok-report.ensures.fit c.in_ok-report.ensures.verdict
    (c.in_ok-is_text.ensures.0 c.if-branch.true)

pub returns-then-branch-clause-every : goal.returns-then-branch-clause-every
returns-then-branch-clause-every c utf8 r told low =
    let line = line_of_told _ c.args.line.now c.args.verdict r c.requires told in
    sym c.in-Some.is
    ∙ c.in_ok-report.ensures.read r low told.kind (c.in-Ok.ensures.cases.0 ∙ line)

pub returns-else-branch-clause-every : goal.returns-else-branch-clause-every
returns-else-branch-clause-every c utf8 r told low =
    let line = line_of_told _ c.args.line.now c.args.verdict r c.requires told in
    let found : Some c.in-Some.report ≡ Some r =
    sym c.in-Some.is
    ∙ c.in_ok-report.ensures.read r low told.kind (c.in-Ok.ensures.cases.0 ∙ line) in
    let same : c.in-Some.report ≡ r = cc in
    let yes = c.in_ok-is_text.ensures.1 (told.spelled ∙ ap report_text (sym same)) in
    let no = c.if-branch.false in
    absurd (cc)

pub returns-in_default-2-clause-every : goal.returns-in_default-2-clause-every
returns-in_default-2-clause-every c utf8 r told low =
    let line = line_of_told _ c.args.line.now c.args.verdict r c.requires told in
    absurd (c.in_default-2.not-Some r
    (c.in_ok-report.ensures.read r low told.kind (c.in-Ok.ensures.cases.0 ∙ line)))
