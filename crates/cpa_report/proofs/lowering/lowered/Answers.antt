use Rattle.std.proofs.Common.{◌∙◌, ap, sym, subst}
use Rattle.json.specs.Print.{print}
use Rattle.json.specs.Reads.{token_of}
use Rattle.cpa_report.specs.Heights.{LowersToken, AreGood}
use Rattle.cpa_report.proofs.Copying.{along_pushed, moved, stopped, copied}
use Rattle.cpa_report.proofs.lowering.lowered.Goals as goal
use Rattle.cpa_report.proofs.lowering.lowered.Goals.{in-Bad, in_default-matches}

pub returns-then-matches-clause-every : goal.returns-then-matches-clause-every
returns-then-matches-clause-every c good is none =
    elim c.match-matches.branch [
      | in-Bad w ↦
          stopped c.in_ok-reader.reader _ _ _ _ (subst AreGood (sym c.in_ok-reader.ensures.ok) good)
          c.tokens.invariant.0 c.in-Some.ensures.value (ap token_of w.in-Bad.is)
      | in_default-matches w ↦
          let no = w.matches-is in
          let yes = c.if-matches.true in
          absurd (cc)
    ]

pub tokens-preserved : goal.tokens-preserved
tokens-preserved c =
    let kept = c.tokens.invariant in
    let wrote = c.in_ok-token.ensures in
    let beside = c.in_ok-token-2.ensures in (
      moved _ _ _ _ _ _ kept.0 c.in-Some.ensures.value wrote.ok,
      along_pushed LowersToken _ _ _ _ _ _ wrote.ok beside.ok kept.1
          c.in_ok-low_token.ensures.low,
      wrote.room.0 ∙ kept.2,
      beside.room.0 ∙ kept.3,
    )

pub returns-clause-every : goal.returns-clause-every
returns-clause-every c good is none =
    let kept = c.tokens.invariant in
    let same =
    copied c.args.line.now _ _ c.in_ok-reader.reader _ _
    (is ∙ ap print (sym c.in_ok-reader.ensures.ok)) kept.0 c.in_default.ensures.value.0 kept.2
    c.into_inner-spelled.ensures.items in
    let yes = c.is_spelled.ensures.1 (c.as_slice.ensures.value ∙ same) in
    let no = c.if-is_spelled.false in
    absurd (cc)
