use Rattle.std.proofs.Common.{◌≡◌, refl, sym, ◌∙◌, subst, length, take, ap, Some}
use Rattle.std.specs.Prelude.{◌+◌}
use Rattle.std.proofs.lemmas.Bool.{false≢true}
use Rattle.std.proofs.lemmas.Option.{slice_get_read}
use Rattle.cpa_cnf.specs.declared.formula.Line.{Line}
use Rattle.cpa_cnf.specs.Lines.{known, IsGoodLine}
use Rattle.cpa_cnf.proofs.Ranges.{in_range, in_range_of, length-known}
use Rattle.cpa_cnf.proofs.checking.check_line.Goals as goal

pub returns-then-not-is_in_range-clause-good : goal.returns-then-not-is_in_range-clause-good
returns-then-not-is_in_range-clause-good c =
    let many = length-known c.args.cnf.now c.args.log.now c.args.i c.requires.inside
    ∙ sym (ap (λ (cs : _). length cs + c.args.i) c.as_slice.ensures) in
    let at = slice_get_read c.args.log.now _ c.args.i c.index-log-i.result refl c.requires.inside
    c.index-log-i.is in (
      λ wrong. absurd (false≢true wrong),
      λ good. c.if-not-is_in_range.ensures.1
          (in_range_of c.args.cnf.now.vars _ (known c.args.cnf.now (take c.args.i c.args.log.now))
          c.index-log-i.result many (good c.index-log-i.result at).range),
    )

pub check-requires-clause-range : goal.check-requires-clause-range
check-requires-clause-range c =
    let many = length-known c.args.cnf.now c.args.log.now c.args.i c.requires.inside
    ∙ sym (ap (λ (cs : _). length cs + c.args.i) c.as_slice.ensures) in
    in_range c.args.cnf.now.vars _ (known c.args.cnf.now (take c.args.i c.args.log.now))
    c.index-log-i.result many (c.if-not-is_in_range.ensures.0 refl)

some_line : (x y : Line) → Some x ≡ Some y → x ≡ y
some_line x y e = cc

pub returns-clause-good : goal.returns-clause-good
returns-clause-good c =
    let cs = known c.args.cnf.now (take c.args.i c.args.log.now) in
    let at = slice_get_read c.args.log.now _ c.args.i c.index-log-i.result refl c.requires.inside
    c.index-log-i.is in (
      λ yes line there. subst (λ (l : Line). IsGoodLine c.args.cnf.now.vars cs l)
          (some_line c.index-log-i.result line (sym at ∙ there)) (c.check.ensures.good.0 yes),
      λ good. c.check.ensures.good.1 (good c.index-log-i.result at),
    )
