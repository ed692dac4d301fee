-- What a scope or a loop makes of a state (`scoped_state`, `looped_state`), and that the objects of
-- the names stay those that are told (`tied_scoped`).
use Rattle.std.proofs.Common.{◌≡◌, ℕ, ◌<◌, ◌≤◌, true, List, [], ◌∷◌, ◌++◌, length, take}
use Rattle.std.proofs.Common.{map, None, refl, sym, ap, ◌∙◌, subst, arith, append_assoc}
use Rattle.std.specs.List.{filter_map, AllByRecursion}
use Rattle.std.proofs.lemmas.List.{take-append-le}
use Rattle.std.proofs.lemmas.List.Elements.{filter_map-append}
use Rattle.std.proofs.Math.Seq.{take-append_seam}
use Rattle.c_types_rules.specs.declared.meaning.Entry.{Entry}
use Rattle.c_types_rules.specs.Names.{Text}
use Rattle.c_types_rules.specs.Statements.{Walk, followed, scoped, looped}
use Rattle.c_types_rules.specs.StatementRules.{Jump, object_number}
use Rattle.c_types_jumps.specs.Found.{Found, with_base}
use Rattle.c_types_bodies.specs.declared.walker.Cases.{Cases}
use Rattle.c_types_bodies.specs.declared.walker.Frame.{Frame}
use Rattle.c_types_bodies.specs.declared.walker.Nest.{Nest}
use Rattle.c_types_bodies.specs.declared.walker.Walker.{Walker}
use Rattle.c_types_bodies.specs.States.{State, noted, walked, in_scope, in_loop, back_in}
use Rattle.c_types_bodies.specs.Views.{base_of, around_of, state_of, IsTied, Extends, AreCases}
use Rattle.c_types_bodies.proofs.Walks.{walked_followed, same_state}

-- walks one after the other
pub two_walks : (text : Text) (caller : ℕ) (a b : Walk) (zero_state one two : State)
    → one ≡ walked text caller a zero_state → two ≡ walked text caller b one
    → two ≡ walked text caller (followed a b) zero_state
two_walks text caller a b zero_state one two first second =
    second ∙ ap (λ (s : State). walked text caller b s) first
    ∙ sym (walked_followed text caller a b zero_state)

pub four_walks : (text : Text) (caller : ℕ) (a b c d : Walk) (zero_state three four : State)
    → three ≡ walked text caller c (walked text caller b (walked text caller a zero_state))
    → four ≡ walked text caller d three
    → four ≡ walked text caller (followed a (followed b (followed c d))) zero_state
four_walks text caller a b c d zero_state three four third fourth =
    let one = walked text caller a zero_state in
    let two = walked text caller b one in
    fourth ∙ ap (λ (s : State). walked text caller d s) third
    ∙ sym (walked_followed text caller a (followed b (followed c d)) zero_state
    ∙ walked_followed text caller b (followed c d) one ∙ walked_followed text caller c d two)

looped_is : (text : Text) (caller : ℕ) (part : Walk) (state : State)
    → walked text caller (looped part) state
    ≡ back_in state.around (walked text caller part (in_loop state))
unfolding noted
looped_is text caller part state = refl

scoped_is : (text : Text) (caller : ℕ) (part : Walk) (state : State)
    → walked text caller (scoped part) state
    ≡ back_in state.around (walked text caller part (in_scope state))
unfolding noted
scoped_is text caller part state = refl

-- in a loop, and in a scope behind so many names
abbrev pub looping : Nest → Nest
looping nest = record nest { in_loop = true; break_to = None }

abbrev pub scoping : ℕ → Nest → Nest
scoping outer nest = record nest { outer = outer }

back_state : (frame : Frame) (nest inside : Nest) (old new : Walker) (jumps : Found)
    → new.names ≡ old.names
    → state_of frame nest new jumps
    ≡ back_in (around_of frame nest old) (state_of frame inside new jumps)
back_state frame nest inside old new jumps same =
    ap (λ (names : List Entry). record {
      around = record (around_of frame nest new) { names = names };
      first = new.first;
      calls = new.calls.items;
      labels = map (with_base (base_of frame.file new.names)) jumps.labels;
      gotos = map (with_base (base_of frame.file new.names)) jumps.gotos;
    }) same

pub looped_state : (frame : Frame) (nest : Nest) (old new : Walker) (jumps after : Found)
    (text : Text) (caller : ℕ) (part : Walk) → new.names ≡ old.names
    → state_of frame (looping nest) new after
    ≡ walked text caller part (state_of frame (looping nest) old jumps)
    → state_of frame nest new after
    ≡ walked text caller (looped part) (state_of frame nest old jumps)
looped_state frame nest old new jumps after text caller part same is =
    back_state frame nest (looping nest) old new after same
    ∙ ap (λ (s : State). back_in (around_of frame nest old) s) is
    ∙ sym (looped_is text caller part (state_of frame nest old jumps))

-- the objects of file scope stay those of the first names
pub base_extends : (file : ℕ) (old new : List Entry) → file ≤ length old → Extends old new
    → base_of file new ≡ base_of file old
base_extends file old new within more =
    ap (λ (names : List Entry). filter_map object_number (take file names)) more.is
    ∙ ap (λ (names : List Entry). filter_map object_number names)
    (take-append-le file old more.rest within)

pub extends_then : (old mid new : List Entry) → Extends old mid → Extends mid new
    → Extends old new
extends_then old mid new first second = record {
  rest = first.rest ++ second.rest;
  is = second.is ∙ ap (λ (names : List Entry). names ++ second.rest) first.is
      ∙ append_assoc old first.rest second.rest;
}

pub extends_kept : (old new : List Entry) → Extends old new → take (length old) new ≡ old
extends_kept old new more =
    ap (λ (names : List Entry). take (length old) names) more.is
    ∙ take-append_seam old more.rest

-- behind a scope: the names are those before it
pub scoped_state : (frame : Frame) (nest : Nest) (outer : ℕ) (old mid new : Walker)
    (jumps before after : Found) (text : Text) (caller : ℕ) (part : Walk)
    → frame.file ≤ length old.names → outer ≡ length old.names → Extends old.names mid.names
    → new.names ≡ old.names → new.objects ≡ mid.objects → new.cases ≡ mid.cases
    → new.passed ≡ mid.passed → new.first ≡ mid.first
    → new.calls.items ≡ mid.calls.items → after.labels ≡ before.labels
    → after.gotos ≡ before.gotos
    → state_of frame (scoping outer nest) mid before
    ≡ walked text caller part (state_of frame (scoping outer nest) old jumps)
    → state_of frame nest new after
    ≡ walked text caller (scoped part) (state_of frame nest old jumps)
scoped_state frame nest outer old mid new jumps before after text caller part within outer_is more
    names objects cases passed first calls labels gotos is =
    let inside = scoping outer nest in
    let state = state_of frame nest old jumps in
    let same_base = ap (λ (all : List Entry). base_of frame.file all) names
    ∙ sym (base_extends frame.file old.names mid.names within more) in
    let entered : state_of frame inside old jumps ≡ in_scope state =
    ap (λ (n : ℕ). state_of frame (scoping n nest) old jumps) outer_is in
    same_state (state_of frame nest new after)
    (back_in (around_of frame nest old) (state_of frame inside mid before))
    (ap (λ (all : List Entry). record (around_of frame nest new) { names = all }) names
    ∙ ap (λ (n : ℕ). record (around_of frame nest new) { names = old.names; objects = n }) objects
    ∙ ap (λ (c : Cases). record (around_of frame nest new) {
      names = old.names;
      objects = mid.objects;
      choices = c.choices.items;
      otherwise = c.otherwise;
    }) cases
    ∙ ap (λ (n : ℕ). record (around_of frame nest mid) { names = old.names; passed = n }) passed)
    first calls
    (ap (λ (base : List ℕ). map (with_base base) after.labels) same_base
    ∙ ap (λ (all : List Jump). map (with_base (base_of frame.file mid.names)) all) labels)
    (ap (λ (base : List ℕ). map (with_base base) after.gotos) same_base
    ∙ ap (λ (all : List Jump). map (with_base (base_of frame.file mid.names)) all) gotos)
    ∙ ap (λ (s : State). back_in (around_of frame nest old) s)
    (is ∙ ap (λ (s : State). walked text caller part s) entered)
    ∙ sym (scoped_is text caller part state)

append_same : (base one two : List ℕ) → base ++ one ≡ base ++ two → one ≡ two
append_same [] one two is = is
append_same (x ∷ base) one two is = append_same base one two (cc)

pub tied_scoped : (frame : Frame) (old mid new : Walker) (jumps before after : Found)
    → IsTied frame old jumps → IsTied frame mid before → Extends old.names mid.names
    → new.names ≡ old.names → new.objects ≡ mid.objects → new.cases ≡ mid.cases
    → after.current ≡ take (length jumps.current) before.current → after.next ≡ before.next
    → after.first ≡ before.first → IsTied frame new after
tied_scoped frame old mid new jumps before after tied then more names objects cases current next
    first =
    let base = base_of frame.file old.names in
    let more_numbers = filter_map object_number more.rest in
    let same_base = base_extends frame.file old.names mid.names tied.within more in
    let told : before.current ≡ jumps.current ++ more_numbers =
    append_same base before.current (jumps.current ++ more_numbers)
    (ap (λ (b : List ℕ). b ++ before.current) (sym same_base) ∙ sym then.tied
    ∙ ap (λ (all : List Entry). filter_map object_number all) more.is
    ∙ filter_map-append object_number old.names more.rest
    ∙ ap (λ (numbers : List ℕ). numbers ++ more_numbers) tied.tied
    ∙ append_assoc base jumps.current more_numbers) in
    let kept : after.current ≡ jumps.current =
    current ∙ ap (λ (numbers : List ℕ). take (length jumps.current) numbers) told
    ∙ take-append_seam jumps.current more_numbers in
    subst (λ (all : List Entry). IsTied frame (record new { names = all }) after) (sym names)
    (record {
      within = tied.within;
      tied = tied.tied ∙ ap (λ (numbers : List ℕ). base ++ numbers) (sym kept);
      next = omega (arith, next, objects, then.next);
      below = subst (λ (n : ℕ). AllByRecursion (λ number. number < n) base) (sym first)
          (subst (λ (b : List ℕ). AllByRecursion (λ number. number < before.first) b) same_base
          then.below);
      cases = subst (λ (c : Cases). AreCases c) (sym cases) then.cases;
    })

pub tied_same : (frame : Frame) (old new : Walker) (jumps : Found) → IsTied frame old jumps
    → new.names ≡ old.names → new.objects ≡ old.objects → new.cases ≡ old.cases
    → IsTied frame new jumps
tied_same frame old new jumps tied names objects cases =
    subst (λ (all : List Entry). IsTied frame (record new { names = all }) jumps) (sym names)
    (record {
      within = tied.within;
      tied = tied.tied;
      next = omega (arith, objects, tied.next);
      below = tied.below;
      cases = subst (λ (c : Cases). AreCases c) (sym cases) tied.cases;
    })

pub tied_found : (frame : Frame) (walker : Walker) (jumps after : Found) → IsTied frame walker jumps
    → after.current ≡ jumps.current → after.next ≡ jumps.next → after.first ≡ jumps.first
    → IsTied frame walker after
tied_found frame walker jumps after tied current next first =
    let base = base_of frame.file walker.names in
    record {
      within = tied.within;
      tied = tied.tied ∙ ap (λ (numbers : List ℕ). base ++ numbers) (sym current);
      next = omega (arith, next, tied.next);
      below = subst (λ (n : ℕ). AllByRecursion (λ number. number < n) base) (sym first) tied.below;
      cases = tied.cases;
    }

-- two walks and one more
pub regrouped : (text : Text) (caller : ℕ) (a b c : Walk) (state : State)
    → walked text caller c (walked text caller (followed a b) state)
    ≡ walked text caller (followed a (followed b c)) state
regrouped text caller a b c state =
    ap (λ (s : State). walked text caller c s) (walked_followed text caller a b state)
    ∙ sym (walked_followed text caller b c (walked text caller a state))
    ∙ sym (walked_followed text caller a (followed b c) state)
