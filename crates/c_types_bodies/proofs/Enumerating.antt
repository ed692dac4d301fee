-- What an enumerated type makes of a state (`enumeration_state`): names are added, none of which is
-- an object's.
use Rattle.std.proofs.Common.{◌≡◌, ℕ, ◌+◌, ◌<◌, List, [], ◌++◌, length, map, Option, sym, ap, ◌∙◌}
use Rattle.std.proofs.Common.{subst, arith, append-nil, length-append}
use Rattle.std.specs.List.{flat_map, filter_map, AllByRecursion}
use Rattle.std.specs.declared.vec.Vec.{Vec}
use Rattle.c_lexer.specs.declared.fault.TextFault.{TextFault}
use Rattle.c_grammar_tree.specs.declared.declaration.Enumeration.{Enumeration}
use Rattle.c_types_rules.specs.declared.meaning.Entry.{Entry}
use Rattle.c_types_rules.specs.First.{first_with}
use Rattle.c_types_rules.specs.Statements.{enumeration_walk}
use Rattle.c_types_rules.specs.StatementRules.{site_faults, label_at, goto_at, object_number}
use Rattle.c_types_rules.specs.Items.{Call, site_calls}
use Rattle.c_types_objects.specs.Enumerations.{AddsNames}
use Rattle.c_types_objects.specs.lemmas.Named.{names_of}
use Rattle.c_types_jumps.specs.Found.{Found, with_base}
use Rattle.c_types_bodies.specs.declared.walker.Cases.{Cases}
use Rattle.c_types_bodies.specs.declared.walker.Frame.{Frame}
use Rattle.c_types_bodies.specs.declared.walker.Nest.{Nest}
use Rattle.c_types_bodies.specs.declared.walker.Walker.{Walker}
use Rattle.c_types_bodies.specs.States.{noted, walked}
use Rattle.c_types_bodies.specs.Views.{base_of, around_of, state_of, IsTied, Extends, AreCases}
use Rattle.c_types_bodies.proofs.Walks.{same_state}
use Rattle.c_types_bodies.proofs.Scopes.{base_extends}

-- names more, none of which is an object's
tied_named : (frame : Frame) (old new : Walker) (jumps : Found) → IsTied frame old jumps
    → Extends old.names new.names
    → filter_map object_number new.names ≡ filter_map object_number old.names
    → new.objects ≡ old.objects → AreCases new.cases → IsTied frame new jumps
tied_named frame old new jumps tied more objects count cases =
    let same_base = base_extends frame.file old.names new.names tied.within more in
    let long : length new.names ≡ length old.names + length more.rest =
    ap (λ (ns : List Entry). length ns) more.is ∙ length-append old.names more.rest in
    record {
      within = omega (arith, tied.within, long);
      tied = objects ∙ tied.tied ∙ ap (λ (b : List ℕ). b ++ jumps.current) (sym same_base);
      next = omega (arith, tied.next, count);
      below = subst (λ (b : List ℕ). AllByRecursion (λ n. n < jumps.first) b) (sym same_base)
          tied.below;
      cases = cases;
    }

pub enumeration_tied : (frame : Frame) (nest : Nest) (old new : Walker) (jumps : Found)
    (found : Option Enumeration) → IsTied frame old jumps → AddsNames old.names new.names
    → new.names ≡ ((enumeration_walk frame.survey.now found).behind
    (around_of frame nest old)).names → new.objects ≡ old.objects → new.cases ≡ old.cases
    → IsTied frame new jumps
enumeration_tied frame nest old new jumps found tied adds names objects cases =
    let all = names_of frame.survey.now found (around_of frame nest old) in
    tied_named frame old new jumps tied (record { rest = adds.added; is = adds.is })
    (ap (λ (ns : List Entry). filter_map object_number ns) names ∙ all.objects) objects
    (subst (λ (c : Cases). AreCases c) (sym cases) tied.cases)

listed_more : {X : Type 0} (held more : List X) → more ≡ [] → held ≡ held ++ more
listed_more {X} held more none =
    sym (append-nil held) ∙ ap (λ (xs : List X). held ++ xs) (sym none)

pub enumeration_state : {A : Type 0} (frame : Frame) (nest : Nest) (old : Walker)
    (names : List Entry) (first : Option TextFault) (calls : Vec Call A) (jumps : Found)
    (found : Option Enumeration) → IsTied frame old jumps → AddsNames old.names names
    → names ≡ ((enumeration_walk frame.survey.now found).behind (around_of frame nest old)).names
    → first ≡ first_with old.first (flat_map (site_faults frame.survey.now)
    ((enumeration_walk frame.survey.now found).sites (around_of frame nest old)))
    → calls.items ≡ old.calls.items ++ flat_map (site_calls frame.survey.now frame.caller)
    ((enumeration_walk frame.survey.now found).sites (around_of frame nest old))
    → record (state_of frame nest (record old { names = names }) jumps) {
      first = first;
      calls = calls.items;
    }
    ≡ walked frame.survey.now frame.caller (enumeration_walk frame.survey.now found)
    (state_of frame nest old jumps)
unfolding noted
enumeration_state frame nest old names first calls jumps found tied adds names_are first_is
    calls_are =
    let text = frame.survey.now in
    let before = state_of frame nest old jumps in
    let around = around_of frame nest old in
    let all = names_of text found around in
    let same_base = base_extends frame.file old.names names tied.within
    (record { rest = adds.added; is = adds.is }) in
    same_state (record (state_of frame nest (record old { names = names }) jumps) {
      first = first;
      calls = calls.items;
    }) (walked text frame.caller (enumeration_walk text found) before)
    (ap (λ (ns : List Entry). record around { names = ns }) names_are ∙ sym all.alone)
    first_is calls_are
    (ap (λ (base : List ℕ). map (with_base base) jumps.labels) same_base
    ∙ listed_more before.labels (flat_map label_at ((enumeration_walk text found).sites around))
    all.labels)
    (ap (λ (base : List ℕ). map (with_base base) jumps.gotos) same_base
    ∙ listed_more before.gotos (flat_map goto_at ((enumeration_walk text found).sites around))
    all.gotos)
