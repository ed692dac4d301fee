use Rattle.std.proofs.Common.{◌<◌, ℕ, inl, inr, refl, arith}
use Rattle.cpa_sat_search.proofs.Conflicts.{still_asserting}
use Rattle.cpa_sat_search.proofs.conflict.reduce_at.Goals as goal

pub returns-clause-asserting : goal.returns-clause-asserting
returns-clause-asserting c =
    let e = c.if-not-can_give_way.ensures refl in
    still_asserting c.args.analysis.now c.resolve_at.new.analysis c.args.trail.now c.args.jump
    c.args.place c.requires.asserting c.in_ok-resolve_at.ensures.gives_way e.apart e.below

before : (a b n : ℕ) → a < b → b < n → a < n
before a b n h k = omega arith

pub returns-clause-untrue : goal.returns-clause-untrue
returns-clause-untrue c =
    let e = c.if-not-can_give_way.ensures refl in
    λ l h. elim (c.in_ok-resolve_at.ensures.gives_way.comes l h) [
      | inl old ↦ c.requires.untrue l old.0
      | inr low ↦ before _ _ _ low e.inside
    ]
