use Rattle.cpa_sat_trail.specs.lemmas.Sound.{IsPushed, sound_push, rises_push, forced_reason}
use Rattle.cpa_sat_trail.proofs.assertion.force.Goals as goal

pub returns-clause-sound : goal.returns-clause-sound
returns-clause-sound c =
    let e = c.in_ok-push.ensures in
    let t = c.args.trail.now in
    let cs = c.args.arena.now in
    let p : IsPushed t c.push.new.self c.args.literal c.args.number =
    record { vars = e.vars; lits = e.lits; reasons = e.reasons; places = e.places } in
    sound_push cs t c.push.new.self c.args.literal c.args.number c.requires.sound e.trail p
    c.requires.forced.not_true
    (λ ne. (
      c.requires.inside,
      forced_reason cs t c.push.new.self c.args.literal c.args.number
          c.requires.sound p c.requires.forced,
    ))

pub returns-clause-rises : goal.returns-clause-rises
returns-clause-rises c =
    let e = c.in_ok-push.ensures in
    let t = c.args.trail.now in
    let p : IsPushed t c.push.new.self c.args.literal c.args.number =
    record { vars = e.vars; lits = e.lits; reasons = e.reasons; places = e.places } in
    rises_push t c.push.new.self c.args.literal c.args.number c.requires.sound.trail e.trail p
