-- Rules that declare objects: what they make is well typed, and the names that are declared behind
-- them stand for what is there.
use Rattle.std.proofs.Common.{◌≡◌, ℕ, ◌<◌, ◌≤◌, List, [], ◌∷◌, ◌++◌, Option, Some, ap, sym}
use Rattle.std.proofs.Common.{◌∙◌}
use Rattle.std.proofs.Common.{subst, arith, inl, inr, refl}
use Rattle.std.specs.Prelude.{◌⊎◌}
use Rattle.c_types_rules.specs.declared.meaning.Declared.{Declared}
use Rattle.c_types_rules.specs.declared.meaning.Declared.TheVariants as declared
use Rattle.c_types_rules.specs.declared.meaning.Entry.{Entry}
use Rattle.c_types_rules.specs.Names.{declared_as}
use Rattle.c_types_rules.specs.Statements.{Around, left_by, left_switch, inner, loop}
use Rattle.c_core_rules.specs.Cells.{Taken}
use Rattle.c_core_rules.specs.Cells as core
use Rattle.c_core_sound.proofs.Fitting.{Ground, World, Extends, Within}
use Rattle.c_core_sound.proofs.Fitting.{within_before, extends_none, extends_both, Fits}
use Rattle.c_core_sound.proofs.FittingRows.{Begins}
use Rattle.c_core_sound.proofs.Entries.{pushed_by}

-- what a name is declared as begins at a cell, if it is an object
abbrev pub DeclaredBegins : Ground → (ℕ → Option ℕ) → Declared → Type 0
DeclaredBegins G starts (declared.Object object initialized) = Begins G.cells object starts
DeclaredBegins G starts (declared.Function result parameters defined) = Unit {0}
DeclaredBegins G starts (declared.Enumerator value) = Unit {0}
DeclaredBegins G starts declared.Tag = Unit {0}

-- each object that a name stands for begins at a cell
pub record Known (G : Ground) (names : List Entry) (starts : ℕ → Option ℕ) : Type 0 where
  pub begins : (name : List ℕ) (d : Declared) → declared_as names name ≡ Some d →
      DeclaredBegins G starts d

abbrev pub world : Ground → List Entry → World
world G names = record { ground = G; knows = λ starts. Known G names starts }

-- its number is below another one
abbrev pub DeclaredBelow : ℕ → Declared → Type 0
DeclaredBelow n (declared.Object object initialized) = object.number < n
DeclaredBelow n (declared.Function result parameters defined) = Unit {0}
DeclaredBelow n (declared.Enumerator value) = Unit {0}
DeclaredBelow n declared.Tag = Unit {0}

pub record Below (n : ℕ) (names : List Entry) : Type 0 where
  pub at : (name : List ℕ) (d : Declared) → declared_as names name ≡ Some d → DeclaredBelow n d

pub begins_kept : (G : Ground) (n : ℕ) (d : Declared) (starts later : ℕ → Option ℕ) →
    DeclaredBelow n d → ((m : ℕ) → m < n → later m ≡ starts m) → DeclaredBegins G starts d →
    DeclaredBegins G later d
begins_kept G n (declared.Object object initialized) starts later below kept h = record {
  some = h.some;
  base = h.base;
  is = kept object.number below ∙ h.is;
  there = h.there;
}
begins_kept G n (declared.Function result parameters defined) starts later below kept h = tt
begins_kept G n (declared.Enumerator value) starts later below kept h = tt
begins_kept G n declared.Tag starts later below kept h = tt

pub known_kept : (G : Ground) (n : ℕ) (names : List Entry) (starts later : ℕ → Option ℕ) →
    Below n names → ((m : ℕ) → m < n → later m ≡ starts m) → Known G names starts →
    Known G names later
known_kept G n names starts later below kept h = record {
  begins = λ name d is.
      begins_kept G n d starts later (below.at name d is) kept (h.begins name d is);
}

pub known_push : (G : Ground) (names : List Entry) (entry : Entry) (starts : ℕ → Option ℕ) →
    Known G names starts → DeclaredBegins G starts entry.declared →
    Known G (names ++ entry ∷ []) starts
known_push G names entry starts h here = record {
  begins = pushed_by (λ name d. DeclaredBegins G starts d) names entry h.begins (λ name is. here);
}

declared_higher : (n m : ℕ) (d : Declared) → n ≤ m → DeclaredBelow n d → DeclaredBelow m d
declared_higher n m (declared.Object object initialized) le below = omega (arith, le, below)
declared_higher n m (declared.Function result parameters defined) le below = tt
declared_higher n m (declared.Enumerator value) le below = tt
declared_higher n m declared.Tag le below = tt

pub below_higher : (n m : ℕ) (names : List Entry) → n ≤ m → Below n names → Below m names
below_higher n m names le below =
    record { at = λ name d is. declared_higher n m d le (below.at name d is) }

pub below_push : (n : ℕ) (names : List Entry) (entry : Entry) → Below n names →
    DeclaredBelow n entry.declared → Below n (names ++ entry ∷ [])
below_push n names entry h here = record {
  at = pushed_by (λ name d. DeclaredBelow n d) names entry h.at (λ name is. here);
}

-- A rule from one place of a function to another: it takes objects with numbers between those of
-- the two places.
pub record Runs (G : Ground) (Given : Type 0) (before behind : Around) {S : Type 0}
    (P : S → Type 0) (rule : core.Rule S) : Type 0 where
  pub extends : (taken : Taken) → Extends taken (rule taken).taken
  pub keeps : (taken : Taken) (n : ℕ) → (n < before.objects) ⊎ (behind.objects ≤ n) →
      (rule taken).taken.starts n ≡ taken.starts n
  pub at : (taken : Taken) → Given → Known G before.names taken.starts →
      Within G.cells (rule taken).taken →
      P (rule taken).made × Known G behind.names (rule taken).taken.starts

below_mid : (n a b : ℕ) → a ≤ b → n < a → n < b
below_mid n a b le less = omega (arith, le, less)

above_mid : (n a b : ℕ) → a ≤ b → b ≤ n → a ≤ n
above_mid n a b le less = omega (arith, le, less)

module _ (G : Ground) where
  pub runs_gives : {S : Type 0} {Given : Type 0} (around : Around) (P : S → Type 0) (x : S) →
      (Given → P x) → Runs G Given around around P (core.gives x)
  runs_gives around P x f = record {
    extends = λ taken. extends_none taken;
    keeps = λ taken n side. refl;
    at = λ taken g k w. (f g, k);
  }

  pub runs_weaker : {S Given More : Type 0} {before behind : Around} {P : S → Type 0}
      {rule : core.Rule S} → (More → Given) → Runs G Given before behind P rule →
      Runs G More before behind P rule
  runs_weaker f h = record {
    extends = h.extends;
    keeps = h.keeps;
    at = λ taken g k w. h.at taken (f g) k w;
  }

  -- both sides of a number that is outside of both
  either_keeps : (a b c n : ℕ) → a ≤ b → b ≤ c → (n < a) ⊎ (c ≤ n) → {X : Type 0} {x y z : X} →
      ((n < b) ⊎ (c ≤ n) → z ≡ y) → ((n < a) ⊎ (b ≤ n) → y ≡ x) → z ≡ x
  either_keeps a b c n le more (inl less) later first =
      later (inl (below_mid n a b le less)) ∙ first (inl less)
  either_keeps a b c n le more (inr above) later first =
      later (inr above) ∙ first (inr (above_mid n b c more above))

  pub runs_then : {S U Given : Type 0} (before mid behind : Around) {P : S → Type 0}
      {Q : U → Type 0} {first : core.Rule S} (second : S → core.Rule U) →
      before.objects ≤ mid.objects → mid.objects ≤ behind.objects →
      Runs G Given before mid P first →
      ((x : S) → Runs G (Given × P x) mid behind Q (second x)) →
      Runs G Given before behind Q (core.then_by first second)
  runs_then before mid behind {first = first} second le more a b = record {
    extends = λ taken.
        let m = first taken in
        extends_both taken m.taken (second m.made m.taken).taken (a.extends taken)
        ((b m.made).extends m.taken);
    keeps = λ taken n side.
        let m = first taken in
        either_keeps before.objects mid.objects behind.objects n le more side
        (λ s. (b m.made).keeps m.taken n s) (λ s. a.keeps taken n s);
    at = λ taken g k w.
        let m = first taken in
        let inside = within_before G.cells m.taken (second m.made m.taken).taken
        ((b m.made).extends m.taken) w in
        let r = a.at taken g k inside in
        (b m.made).at m.taken (g, r.0) r.1 w;
  }

  -- a rule of expressions
  pub runs_fits : {S Given : Type 0} (around : Around) {P : S → Type 0} {rule : core.Rule S} →
      Fits (world G around.names) Given P rule → Runs G Given around around P rule
  runs_fits around h = record {
    extends = h.extends;
    keeps = λ taken n side. ap (λ (starts : ℕ → Option ℕ). starts n) (h.keeps taken);
    at = λ taken g k w.
        (h.at taken g k w, subst (Known G around.names) (sym (h.keeps taken)) k);
  }

  -- a part whose names are forgotten behind it
  pub runs_scoped : {S Given : Type 0} (around mid : Around) {P : S → Type 0}
      {rule : core.Rule S} → Below around.objects around.names →
      Runs G Given around mid P rule → Runs G Given around (left_by around mid) P rule
  runs_scoped around mid {rule = rule} below h = record {
    extends = h.extends;
    keeps = h.keeps;
    at = λ taken g k w.
        let r = h.at taken g k w in (
          r.0,
          known_kept G around.objects around.names taken.starts (rule taken).taken.starts below
              (λ m less. h.keeps taken m (inl less)) k,
        );
  }

  -- the body of a switch
  pub runs_switch : {S Given : Type 0} (around within mid : Around) {P : S → Type 0}
      {rule : core.Rule S} → within.names ≡ around.names → within.objects ≡ around.objects →
      Below around.objects around.names → Runs G Given within mid P rule →
      Runs G Given around (left_switch around mid) P rule
  runs_switch around within mid {P = P} {rule = rule} names objects below h = record {
    extends = h.extends;
    keeps = λ taken n side. h.keeps taken n
        (subst (λ m. (n < m) ⊎ (mid.objects ≤ n)) (sym objects) side);
    at = λ taken g k w.
        let r = h.at taken g (subst (λ (ns : List Entry). Known G ns taken.starts) (sym names) k)
        w in (
          r.0,
          known_kept G around.objects around.names taken.starts (rule taken).taken.starts below
              (λ m less. h.keeps taken m
              (subst (λ n. (m < n) ⊎ (mid.objects ≤ m)) (sym objects) (inl less))) k,
        );
  }

  pub runs_inner : {S Given : Type 0} (around mid : Around) {P : S → Type 0} {rule : core.Rule S} →
      Runs G Given (inner around) mid P rule → Runs G Given around mid P rule
  runs_inner around mid h = record { extends = h.extends; keeps = h.keeps; at = h.at }

  pub runs_loop : {S Given : Type 0} (around mid : Around) {P : S → Type 0} {rule : core.Rule S} →
      Runs G Given (loop around) mid P rule → Runs G Given around mid P rule
  runs_loop around mid h = record { extends = h.extends; keeps = h.keeps; at = h.at }
