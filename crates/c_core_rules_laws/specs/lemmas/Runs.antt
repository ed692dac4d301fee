-- Rules that are put together alike are alike.
use Rattle.std.proofs.Common.{◌≡◌, Bool, true, false, if◌then◌else◌, List, [], ◌∷◌, ◌++◌, refl}
use Rattle.std.proofs.Common.{ap, sym, ◌∙◌, append_assoc, pos}
use Rattle.std.proofs.lemmas.List.{append-nil}
use Rattle.cpa_ints.specs.declared.integers.IntType.{IntType}
use Rattle.cpa_model.specs.declared.program.Cell.{Cell}
use Rattle.cpa_model_trees.specs.Numbering.{Trees}
use Rattle.c_types_rules.specs.declared.meaning.Meaning.{Meaning}
use Rattle.c_types_rules.specs.declared.meaning.Meaning.TheVariants as meaning
use Rattle.std.proofs.Common.{Option, None, Some}
use Rattle.c_core_rules.specs.Cells.{Taken, Made, Rule, gives, then_by, each, in_order, fresh, cell}
use Rattle.c_core_rules.specs.Cells.{located, location_in, scalar_place}
use Rattle.c_core_rules_laws.specs.Alike.{Alike, RunsAlike, SameTrees, SameLocation, Pairwise}
use Rattle.c_core_rules_laws.specs.Alike.{none, more}
use Rattle.c_core_rules_laws.specs.lemmas.Statements.{trees_self, same_append}

pub alike_gives : {T : Type 0} {Same : T → T → Type 0} {x y : T} → Same x y →
    Alike Same (gives x) (gives y)
alike_gives is = record {
  runs = λ a b. record {
    added = [];
    adds = sym (append-nil a.cells);
    adds_too = sym (append-nil b.cells);
    made = is;
  };
}

further : (before cells after first next : List Cell) → cells ≡ before ++ first →
    after ≡ cells ++ next → after ≡ before ++ (first ++ next)
further before cells after first next is are =
    are ∙ ap (λ cs. cs ++ next) is ∙ append_assoc before first next

-- one run and then another
both_runs : {S T : Type 0} {One : S → S → Type 0} {Two : T → T → Type 0} (a b : Taken)
    (m n : Made S) (p q : Made T) → RunsAlike One a b m n → RunsAlike Two m.taken n.taken p q →
    RunsAlike Two a b p q
both_runs a b m n p q h k = record {
  added = h.added ++ k.added;
  adds = further a.cells m.taken.cells p.taken.cells h.added k.added h.adds k.adds;
  adds_too = further b.cells n.taken.cells q.taken.cells h.added k.added h.adds_too k.adds_too;
  made = k.made;
}

-- a rule and then one that has what it makes
pub alike_then : {S T : Type 0} {One : S → S → Type 0} {Two : T → T → Type 0} {r s : Rule S}
    (f g : S → Rule T) → Alike One r s → ((x y : S) → One x y → Alike Two (f x) (g y)) →
    Alike Two (then_by r f) (then_by s g)
alike_then {r = r} {s = s} f g h k = record {
  runs = λ a b.
      let m = r a in
      let n = s b in
      both_runs a b m n (f m.made m.taken) (g n.made n.taken) (h.runs a b)
      ((k m.made n.made (h.runs a b).made).runs m.taken n.taken);
}

-- one of two rules, by tests that agree
pub alike_if : {T : Type 0} {Same : T → T → Type 0} (b c : Bool) {p q r s : Rule T} → b ≡ c →
    Alike Same p q → Alike Same r s →
    Alike Same (if b then p else r) (if c then q else s)
alike_if true true is first second = first
alike_if false false is first second = second
alike_if true false is first second = absurd (cc)
alike_if false true is first second = absurd (cc)

-- rules that know what is taken
pub alike_at : {T : Type 0} {Same : T → T → Type 0} (f g : Taken → Rule T) →
    ((a b : Taken) → Alike Same (f a) (g b)) → Alike Same (λ a. f a a) (λ b. g b b)
alike_at f g h = record { runs = λ a b. (h a b).runs a b }

-- a fresh cell
pub alike_fresh : (t u : IntType) → t ≡ u → Alike SameLocation (fresh t) (fresh u)
alike_fresh t u is = record {
  runs = λ a b. record {
    added = cell t (pos 0) ∷ [];
    adds = refl;
    adds_too = ap (λ v. b.cells ++ cell v (pos 0) ∷ []) (sym is);
    made = record { type = is };
  };
}

-- what a name stands for has its type, whatever is taken
pub same_named : (found : Option Meaning) (a b : Taken) →
    SameLocation (location_in a found) (location_in b found)
same_named None a b = record { type = refl }
same_named (Some (meaning.Object object)) a b = record { type = refl }
same_named (Some (meaning.Function function)) a b = record { type = refl }
same_named (Some (meaning.Known function)) a b = record { type = refl }
same_named (Some (meaning.Enumerator value)) a b = record { type = refl }

pub alike_located : (found : Option Meaning) → Alike SameLocation (located found) (located found)
alike_located found = record {
  runs = λ a b. (alike_gives (same_named found a b)).runs a b;
}

pub alike_scalar_place : (found : Option Meaning) →
    Alike SameLocation (scalar_place found) (scalar_place found)
alike_scalar_place found = record {
  runs = λ a b. record {
    added = [];
    adds = sym (append-nil a.cells);
    adds_too = sym (append-nil b.cells);
    made = record { type = (same_named found a b).type };
  };
}

-- rules in order
pub alike_each : {T : Type 0} {Same : T → T → Type 0} {rs ss : List (Rule T)} →
    Pairwise (Alike Same) rs ss → Alike (Pairwise Same) (each rs) (each ss)
alike_each none = alike_gives none
alike_each (more {xs = rs} {ys = ss} h all) =
    alike_then (λ first. then_by (each rs) (λ rest. gives (first ∷ rest)))
    (λ first. then_by (each ss) (λ rest. gives (first ∷ rest))) h
    (λ x y is. alike_then (λ rest. gives (x ∷ rest)) (λ rest. gives (y ∷ rest)) (alike_each all)
    (λ xs ys are. alike_gives (more is are)))

pub alike_order : {rs ss : List (Rule Trees)} → Pairwise (Alike SameTrees) rs ss →
    Alike SameTrees (in_order rs) (in_order ss)
alike_order none = alike_gives (trees_self [])
alike_order (more {xs = rs} {ys = ss} h all) =
    alike_then (λ before. then_by (in_order rs) (λ behind. gives (before ++ behind)))
    (λ before. then_by (in_order ss) (λ behind. gives (before ++ behind))) h
    (λ x y is. alike_then (λ behind. gives (x ++ behind)) (λ behind. gives (y ++ behind))
    (alike_order all) (λ xs ys are. alike_gives (same_append is are)))
