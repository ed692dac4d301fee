-- What a form reads has a property, if its parts have theirs.
use Rattle.std.proofs.Common.{◌≡◌, ℕ, Bool, true, ◌&&◌, List, [], ◌∷◌, ◌++◌, map, Option}
use Rattle.std.proofs.Common.{None, Some}
use Rattle.std.proofs.Common.{refl, sym, subst}
use Rattle.c_grammar_forms.specs.Forms.{World, Form, Nothing, Skip, Behind, Before, Pair, Then}
use Rattle.c_grammar_forms.specs.Forms.{Node, Deeper, Choice, Many, Perhaps, Nearest}
use Rattle.c_grammar_forms.specs.Forms.{seen_through, ManySeen}
use Rattle.c_grammar_symbols.specs.Symbols.{Leaf}
use Rattle.c_core_sound.specs.Whole.{all_whole}

-- what the form reads in this text has the property
pub record Yields {T : Type 0} (w : World Leaf) (A : Form Leaf T) (P : T → Type 0) : Type 0 where
  pub has : {left p : ℕ} {u : T} {q : ℕ} → A w left p u q → P u

pub both : {a b : Bool} → a ≡ true → b ≡ true → (a && b) ≡ true
both {b = b} h k = subst (λ x. (x && b) ≡ true) (sym h) k

pub yield_any : {T : Type 0} {w : World Leaf} {A : Form Leaf T} → Yields w A (λ u. Unit {0})
yield_any = record { has = λ r. tt }

pub yield_nothing : {T : Type 0} {w : World Leaf} {P : T → Type 0} → Yields w Nothing P
yield_nothing = record { has = λ r. absurd r.never }

pub yield_skip : {T : Type 0} {w : World Leaf} {A : Form Leaf T} {P : T → Type 0} →
    Yields w A P → Yields w (Skip A) P
yield_skip c = record { has = λ r. c.has r.rest }

pub yield_behind : {T : Type 0} {w : World Leaf} {A : Form Leaf T} {P : T → Type 0}
    {test : Leaf → Bool} → Yields w A P → Yields w (Behind test A) P
yield_behind c = record { has = λ r. c.has r.rest }

pub yield_before : {T : Type 0} {w : World Leaf} {A : Form Leaf T} {P : T → Type 0}
    {test : Leaf → Bool} → Yields w A P → Yields w (Before A test) P
yield_before c = record { has = λ r. c.has r.first }

pub yield_deeper : {T : Type 0} {w : World Leaf} {A : Form Leaf T} {P : T → Type 0} →
    Yields w A P → Yields w (Deeper A) P
yield_deeper c = record { has = λ r. c.has r.read }

pub yield_pair : {S T : Type 0} {w : World Leaf} {A : Form Leaf S} {B : Form Leaf T}
    {P : S → Type 0} {Q : T → Type 0} → Yields w A P → Yields w B Q →
    Yields w (Pair A B) (λ u. P u.0 × Q u.1)
yield_pair c d = record { has = λ r. (c.has r.first, d.has r.second) }

pub yield_then : {S T : Type 0} {w : World Leaf} {A : Form Leaf S} {B : S → Form Leaf T}
    {P : S → Type 0} {Q : T → Type 0} → Yields w A P → ((s : S) → Yields w (B s) Q) →
    Yields w (Then A B) (λ u. P u.0 × Q u.1)
yield_then c d = record { has = λ {u = u} r. (c.has r.first, (d u.0).has r.second) }

pub yield_node : {S T : Type 0} {w : World Leaf} {A : Form Leaf S} {P : S → Type 0}
    {Q : T → Type 0} (f : Leaf → S → T) → Yields w A P →
    ((leaf : Leaf) (parts : S) → P parts → Q (f leaf parts)) → Yields w (Node f A) Q
yield_node {w = w} {Q = Q} f c h = record {
  has = λ {p = p} r. subst Q (sym r.made) (h (w.at p) r.parts (c.has r.read));
}

pub yield_choice : {K T : Type 0} {w : World Leaf} {class : Leaf → K} {A : K → Form Leaf T}
    {P : T → Type 0} → ((k : K) → Yields w (A k) P) → Yields w (Choice class A) P
yield_choice {w = w} {class} c = record { has = λ {p = p} r. (c (class (w.at p))).has r.chosen }

-- the same, where the class is that of a token of the text
pub yield_known : {K T : Type 0} {w : World Leaf} {class : Leaf → K} {A : K → Form Leaf T}
    {P : T → Type 0} → ((p : ℕ) → Yields w (A (class (w.at p))) P) → Yields w (Choice class A) P
yield_known c = record { has = λ {p = p} r. (c p).has r.chosen }

module _ {T : Type 0} {w : World Leaf} {A : Form Leaf T} (go : Leaf → Bool) (f : T → Bool)
    (c : Yields w A (λ u. f u ≡ true)) where
  many : (left p : ℕ) (us : List T) (q : ℕ) → Many go A w left p us q →
      all_whole (map f us) ≡ true
  unfolding Many
  many left p [] q r = refl
  many left p (u ∷ us) q r = both (c.has r.first) (many left r.middle us q r.rest)

  pub yield_many : Yields w (Many go A) (λ us. all_whole (map f us) ≡ true)
  yield_many = record { has = λ {left} {p} {u} {q} r. many left p u q r }

-- the same of parts that say how the tokens behind them are seen
module _ {T : Type 0} {w : World Leaf} {A : Form Leaf T} (see : List T → Leaf → Leaf)
    (go : Leaf → Bool) (f : T → Bool)
    (c : (done : List T) → Yields (seen_through (see done) w) A (λ u. f u ≡ true)) where
  many_seen : (left p : ℕ) (us done : List T) (q : ℕ) → ManySeen see go A done w left p us q →
      all_whole (map f us) ≡ true
  unfolding ManySeen
  many_seen left p [] done q r = refl
  many_seen left p (u ∷ us) done q r =
      both ((c done).has r.first.read) (many_seen left r.middle us (done ++ u ∷ []) q r.rest)

  pub yield_many_seen : (done : List T) →
      Yields w (ManySeen see go A done) (λ us. all_whole (map f us) ≡ true)
  yield_many_seen done = record { has = λ {left} {p} {u} {q} r. many_seen left p u done q r }

module _ {T : Type 0} {w : World Leaf} {A : Form Leaf T} {P : T → Type 0} (go : Leaf → Bool)
    (Q : Option T → Type 0) (c : Yields w A P) (none : Q None) (some : (u : T) → P u → Q (Some u))
  where
    perhaps : (left p : ℕ) (u : Option T) (q : ℕ) → Perhaps go A w left p u q → Q u
    unfolding Perhaps
    perhaps left p None q r = none
    perhaps left p (Some u) q r = some u (c.has r.first)

    pub yield_perhaps : Yields w (Perhaps go A) Q
    yield_perhaps = record { has = λ {left} {p} {u} {q} r. perhaps left p u q r }

    nearest : (left p : ℕ) (u : Option T) (q : ℕ) → Nearest go A w left p u q → Q u
    unfolding Nearest
    nearest left p None q r = none
    nearest left p (Some u) q r = some u (c.has r.first)

    pub yield_nearest : Yields w (Nearest go A) Q
    yield_nearest = record { has = λ {left} {p} {u} {q} r. nearest left p u q r }
