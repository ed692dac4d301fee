-- At the beginning of a body no object of it is in scope (`tied_start`).
use Rattle.std.proofs.Common.{◌≡◌, ℕ, ◌<◌, List, length, take, sym, ap, ◌∙◌, subst, arith}
use Rattle.std.proofs.Common.{append-nil}
use Rattle.std.specs.List.{filter_map, AllByRecursion}
use Rattle.std.proofs.lemmas.List.{take_all}
use Rattle.c_types_rules.specs.declared.meaning.Entry.{Entry}
use Rattle.c_types_rules.specs.StatementRules.{object_number}
use Rattle.c_types_jumps.specs.Found.{nothing_found}
use Rattle.c_types_bodies.specs.declared.walker.Frame.{Frame}
use Rattle.c_types_bodies.specs.declared.walker.Walker.{Walker}
use Rattle.c_types_bodies.specs.Views.{base_of, IsTied, AreCases}
use Rattle.c_types_bodies.specs.Bodies.{AreNumbered}

pub tied_start : (frame : Frame) (walker : Walker) → frame.file ≡ length walker.names
    → AreNumbered walker.objects walker.names → AreCases walker.cases
    → IsTied frame walker (nothing_found walker.objects)
tied_start frame walker is numbered cases =
    let all : base_of frame.file walker.names ≡ filter_map object_number walker.names =
    ap (λ (names : List Entry). filter_map object_number names)
    (ap (λ (n : ℕ). take n walker.names) is ∙ take_all (length walker.names) walker.names
    (omega arith)) in
    record {
      within = omega (arith, is);
      tied = sym (append-nil (base_of frame.file walker.names) ∙ all);
      next = omega arith;
      below = subst (λ (numbers : List ℕ). AllByRecursion (λ n. n < walker.objects) numbers)
          (sym all) numbered;
      cases = cases;
    }
