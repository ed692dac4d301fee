use Rattle.std.proofs.Common.{◌≡◌, ◌<◌, ◌≤◌, ℕ, sym, subst, arith}
use Rattle.std.specs.Prelude.{slice_index_or, []}
use Rattle.cpa_sat_arena.specs.declared.literal.TheConstants.{NO_CLAUSE}
use Rattle.cpa_sat_trail.specs.Propagations.{IsForced}
use Rattle.cpa_sat_trail.specs.Trails.{height}
use Rattle.cpa_sat_trail.specs.lemmas.Sound.{IsPushed, IsCutTo, sound_cut, forces, sound_push}
use Rattle.cpa_sat_trail.specs.lemmas.Sound.{rises_jump, forced_reason}
use Rattle.cpa_sat_trail.proofs.assertion.jump_back.Goals as goal

through : (a b h : ℕ) → a ≤ b → b < h → a < h
through a b h k m = omega arith

at_most : (a h : ℕ) → a < h → a ≤ h
at_most a h k = omega arith

apart : (n m : ℕ) → n < m → n ≡ m → ⊥
apart n m h e = absurd (omega arith)

pub returns-clause-sound : goal.returns-clause-sound
returns-clause-sound c =
    let t = c.args.trail.now in
    let u = c.cut.new.self in
    let w = c.push.new.self in
    let cs = c.args.arena.now in
    let j = c.args.jump in
    let k = c.args.number in
    let a = c.requires.asserts in
    let e = c.cut.ensures in
    let f = c.in_ok-push.ensures in
    let x = c.false_at-literal.result in
    let inside : j.cut < height t = through j.cut j.at (height t) a.above a.inside in
    let cut : IsCutTo t u j.cut = record {
      fewer = at_most j.cut (height t) inside;
      trail = e.trail;
      vars = e.vars;
      lits = e.lits;
      reasons = e.reasons;
    } in
    let pushed : IsPushed u w x k = record {
      vars = f.vars;
      lits = f.lits;
      reasons = f.reasons;
      places = f.places;
    } in
    let sound = sound_cut cs t u j.cut c.requires.sound cut in
    let forced : IsForced (slice_index_or cs k []) u x =
    subst (λ y. IsForced (slice_index_or cs k []) u y) (sym c.false_at-literal.ensures)
    (forces cs t u j k c.requires.sound cut a) in
    sound_push cs u w x k sound f.trail pushed forced.not_true
    (λ ne. (c.requires.inside, forced_reason cs u w x k sound pushed forced))

pub returns-clause-rises : goal.returns-clause-rises
returns-clause-rises c =
    let t = c.args.trail.now in
    let u = c.cut.new.self in
    let w = c.push.new.self in
    let j = c.args.jump in
    let k = c.args.number in
    let a = c.requires.asserts in
    let e = c.cut.ensures in
    let f = c.in_ok-push.ensures in
    let x = c.false_at-literal.result in
    let inside : j.cut < height t = through j.cut j.at (height t) a.above a.inside in
    let cut : IsCutTo t u j.cut = record {
      fewer = at_most j.cut (height t) inside;
      trail = e.trail;
      vars = e.vars;
      lits = e.lits;
      reasons = e.reasons;
    } in
    let pushed : IsPushed u w x k = record {
      vars = f.vars;
      lits = f.lits;
      reasons = f.reasons;
      places = f.places;
    } in
    rises_jump t u w j.cut x k c.requires.sound.trail cut pushed inside a.decision
    (apart k NO_CLAUSE c.requires.number)
