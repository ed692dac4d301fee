use Rattle.std.proofs.Common.{refl, ap, ◌∙◌, ◌++◌, ◌∷◌, []}
use Rattle.cpa_sat_arena.specs.declared.literal.TheConstants.{NO_CLAUSE}
use Rattle.cpa_sat_trail.specs.lemmas.Sound.{IsPushed, sound_push, rises_push}
use Rattle.cpa_sat_trail.proofs.assertion.decide.Goals as goal

pub returns-clause-sound : goal.returns-clause-sound
returns-clause-sound c =
    let e = c.in_ok-push.ensures in
    let t = c.args.trail.now in
    let p : IsPushed t c.push.new.self c.args.literal NO_CLAUSE =
    record {
      vars = e.vars;
      lits = e.lits;
      reasons = e.reasons ∙ ap (λ r. t.reasons.items ++ r ∷ []) c.none.ensures;
      places = e.places;
    } in
    sound_push c.args.arena.now t c.push.new.self c.args.literal NO_CLAUSE c.requires.sound e.trail
    p c.requires.not_true (λ ne. absurd (ne refl))

pub returns-clause-rises : goal.returns-clause-rises
returns-clause-rises c =
    let e = c.in_ok-push.ensures in
    let t = c.args.trail.now in
    let p : IsPushed t c.push.new.self c.args.literal NO_CLAUSE =
    record {
      vars = e.vars;
      lits = e.lits;
      reasons = e.reasons ∙ ap (λ r. t.reasons.items ++ r ∷ []) c.none.ensures;
      places = e.places;
    } in
    rises_push t c.push.new.self c.args.literal NO_CLAUSE c.requires.sound.trail e.trail p
