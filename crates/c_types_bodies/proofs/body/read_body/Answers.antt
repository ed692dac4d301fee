use Rattle.std.proofs.Common.{List, refl, sym, subst}
use Rattle.c_types_rules.specs.declared.meaning.Entry.{Entry}
use Rattle.c_types_bodies.specs.Bodies.{AreNumbered}
use Rattle.c_types_bodies.proofs.body.read_body.Goals as goal

pub walk_function-requires : goal.walk_function-requires
walk_function-requires c = record {
  numbered = subst (λ (names : List Entry). AreNumbered c.args.objects names)
      (sym c.replace.ensures.value) c.requires;
  fresh = record {
    cases = c.no_cases.ensures.cases;
    choices = c.no_cases.ensures.choices;
    otherwise = c.no_cases.ensures.otherwise;
    passed = refl;
  };
  jumps = c.in_ok-jumps.ensures;
}
