-- Lemmas: a form has one reading at a place, and the tokens up to its end decide it.
use Rattle.std.specs.Prelude.{◌≡◌, ℕ, ◌+◌, ◌<◌, ◌≤◌, Bool, true, false, cond, zero, suc, List, []}
use Rattle.std.specs.Prelude.{◌∷◌, ◌++◌, Option, None, Some, refl}
use Rattle.std.proofs.Common.{sym, ◌∙◌, ap, subst, arith}
use Rattle.c_grammar_forms.specs.Forms.{World, Form, Nothing, One, Such, Empty, Skip, Behind}
use Rattle.c_grammar_forms.specs.Forms.{Before}
use Rattle.c_grammar_forms.specs.Forms.{Pair, Then, Node, Shaped, Deeper, Choice, Many, Perhaps}
use Rattle.c_grammar_forms.specs.Forms.{Nearest, count, Balanced, seen_through, Through, ManySeen}

-- the texts have the same tokens up to this place, and both are greedy
pub record Alike {Token : Type 0} (i : ℕ) (w v : World Token) : Type 0 where
  pub tokens : (j : ℕ) → j ≤ i → v.at j ≡ w.at j
  pub first_greedy : w.greedy ≡ true
  pub second_greedy : v.greedy ≡ true

-- a reading of the one form ends where it began or behind, and where the texts are alike up to its
-- end, it is the only reading of the other form there
pub record Good {Token T : Type 0} (A B : Form Token T) : Type 0 where
  pub onward : {w : World Token} {left p : ℕ} {u : T} {q : ℕ} → A w left p u q → p ≤ q
  pub same : {w v : World Token} {l k p : ℕ} {u s : T} {q r : ℕ} →
      Alike q w v → A w l p u q → B v k p s r → (u ≡ s) × (q ≡ r)

-- this of each two depths of a form
pub record Steady {Token T : Type 0} (A : ℕ → Form Token T) : Type 0 where
  pub good : (n m : ℕ) → Good (A n) (A m)

pub alike_below : {Token : Type 0} {w v : World Token} {i : ℕ} (j : ℕ) → j ≤ i → Alike i w v →
    Alike j w v
alike_below j below a = record {
  tokens = λ k h. a.tokens k (omega arith);
  first_greedy = a.first_greedy;
  second_greedy = a.second_greedy;
}

-- the same reading, from an equal place
pub from_place : {Token T : Type 0} (A : Form Token T) {w : World Token} {left p r : ℕ}
    {u : T} {q : ℕ} →
    p ≡ r → A w left r u q → A w left p u q
from_place A {w} {left} {p} {r} {u} {q} e a = subst (λ m. A w left m u q) (sym e) a

pub cons_path : {T : Type 0} {u v : T} {us vs : List T} → u ≡ v → us ≡ vs → u ∷ us ≡ v ∷ vs
cons_path e f = λ i. e i ∷ f i

pair_path : {S T : Type 0} {u v : S × T} → u.0 ≡ v.0 → u.1 ≡ v.1 → u ≡ v
pair_path e f = λ i. (e i, f i)

-- a test gives one answer on equal tokens
pub test_path : {Token : Type 0} (test : Token → Bool) {x y : Token} {b : Bool} → y ≡ x →
    test x ≡ b → test y ≡ b
test_path test e h = ap test e ∙ h

pub good_nothing : {Token T : Type 0} {B : Form Token T} → Good (Nothing {Token = Token} {T = T}) B
good_nothing = record { onward = λ r. absurd r.never; same = λ a r s. absurd r.never }

pub good_against_nothing : {Token T : Type 0} {A : Form Token T} → Good A A →
    Good A (Nothing {Token = Token} {T = T})
good_against_nothing g = record { onward = λ r. g.onward r; same = λ a r s. absurd s.never }

pub good_one : {Token : Type 0} → Good (One {Token = Token}) One
good_one = record {
  onward = λ r. omega (arith, r.behind);
  same = λ a r s. (refl, r.behind ∙ sym s.behind);
}

pub good_such : {Token : Type 0} (test : Token → Bool) → Good (Such test) (Such test)
good_such test = record {
  onward = λ r. omega (arith, r.behind);
  same = λ a r s. (refl, r.behind ∙ sym s.behind);
}

pub good_empty : {Token : Type 0} → Good (Empty {Token = Token}) Empty
good_empty = record {
  onward = λ r. omega (arith, r.behind);
  same = λ a r s. (refl, r.behind ∙ sym s.behind);
}

pub good_skip : {Token T : Type 0} {A B : Form Token T} → Good A B → Good (Skip A) (Skip B)
good_skip g = record {
  onward = λ r. omega (arith, g.onward r.rest);
  same = λ a r s. g.same a r.rest s.rest;
}

pub good_behind : {Token T : Type 0} (test : Token → Bool) {A B : Form Token T} → Good A B →
    Good (Behind test A) (Behind test B)
good_behind test g = record {
  onward = λ r. omega (arith, g.onward r.rest);
  same = λ a r s. g.same a r.rest s.rest;
}

pub good_before : {Token T : Type 0} {A B : Form Token T} → Good A B → (test : Token → Bool) →
    Good (Before A test) (Before B test)
good_before g test = record {
  onward = λ r. omega (arith, r.behind, g.onward r.first);
  same = λ a r s.
      let e = g.same (alike_below r.middle (omega (arith, r.behind)) a) r.first s.first in
      (e.0, r.behind ∙ (ap (λ m. m + 1) e.1 ∙ sym s.behind));
}

pub good_pair : {Token S T : Type 0} {A B : Form Token S} {C D : Form Token T} → Good A B →
    Good C D → Good (Pair A C) (Pair B D)
good_pair {D = D} g h = record {
  onward = λ r. omega (arith, g.onward r.first, h.onward r.second);
  same = λ a r s.
      let e = g.same (alike_below r.middle (h.onward r.second) a) r.first s.first in
      let f = h.same a r.second (from_place D e.1 s.second) in
      (pair_path e.0 f.0, f.1);
}

pub good_then : {Token S T : Type 0} {A B : Form Token S} {C D : S → Form Token T} →
    Good A B → ((s : S) → Good (C s) (D s)) → Good (Then A C) (Then B D)
good_then {D = D} g h = record {
  onward = λ {w} {left} {p} {u} r. omega (arith, g.onward r.first, (h u.0).onward r.second);
  same = λ {w} {v} {l} {k} {p} {u} {s} {q} {r} a x y.
      let e = g.same (alike_below x.middle ((h u.0).onward x.second) a) x.first y.first in
      let moved = subst (λ t. D t v k x.middle s.1 r) (sym e.0) (from_place (D s.0) e.1 y.second) in
      let f = (h u.0).same a x.second moved in
      (pair_path e.0 f.0, f.1);
}

pub good_node : {Token S T : Type 0} (f : Token → S → T) {A B : Form Token S} → Good A B →
    Good (Node f A) (Node f B)
good_node f g = record {
  onward = λ r. g.onward r.read;
  same = λ {w} {v} {l} {k} {p} a r s.
      let e = g.same a r.read s.read in
      let token = ap (λ t. f t s.parts) (sym (a.tokens p (g.onward r.read))) in
      (r.made ∙ (ap (f (w.at p)) e.0 ∙ (token ∙ sym s.made)), e.1);
}

pub good_shaped : {Token T : Type 0} (test : T → Bool) {A B : Form Token T} → Good A B →
    Good (Shaped test A) (Shaped test B)
good_shaped test g = record {
  onward = λ r. g.onward r.read;
  same = λ a r s. g.same a r.read s.read;
}

pub good_deeper : {Token T : Type 0} {A B : Form Token T} → Good A B → Good (Deeper A) (Deeper B)
good_deeper g = record {
  onward = λ r. g.onward r.read;
  same = λ a r s. g.same a r.read s.read;
}

pub good_choice : {Token K T : Type 0} (class : Token → K) {A B : K → Form Token T} →
    ((k : K) → Good (A k) (B k)) → Good (Choice class A) (Choice class B)
good_choice class {A} {B} g = record {
  onward = λ {w} {left} {p} r. (g (class (w.at p))).onward r.chosen;
  same = λ {w} {v} {l} {k} {p} {u} {s} {q} {r} a x y.
      let here = (g (class (w.at p))).onward x.chosen in
      (g (class (w.at p))).same a x.chosen (subst (λ c. B c v k p s r)
      (ap class (a.tokens p here)) y.chosen);
}

-- one reading ends where another goes on: the token says which
pub ends_or_goes : {b : Bool} → b ≡ false → b ≡ true → ⊥
ends_or_goes e f = let clash : false ≡ true = sym e ∙ f in cc

module _ {Token T : Type 0} (go : Token → Bool) (A B : Form Token T) (g : Good A B) where
  perhaps_onward : (w : World Token) (left p : ℕ) (u : Option T) (q : ℕ) →
      Perhaps go A w left p u q → p ≤ q
  unfolding Perhaps
  perhaps_onward w left p None q r = omega (arith, r.behind)
  perhaps_onward w left p (Some u) q r = omega (arith, r.rest, g.onward r.first)

  perhaps_same : (w v : World Token) (l k p : ℕ) (u s : Option T) (q r : ℕ) →
      Alike q w v → Perhaps go A w l p u q → Perhaps go B v k p s r → (u ≡ s) × (q ≡ r)
  unfolding Perhaps
  perhaps_same w v l k p None None q r a x y = (refl, x.behind ∙ sym y.behind)
  perhaps_same w v l k p None (Some s) q r a x y =
      absurd (ends_or_goes (x.stops a.first_greedy)
      (test_path go (sym (a.tokens p (omega (arith, x.behind)))) y.goes))
  perhaps_same w v l k p (Some u) None q r a x y =
      absurd (ends_or_goes (y.stops a.second_greedy)
      (test_path go (a.tokens p (omega (arith, x.rest, g.onward x.first))) x.goes))
  perhaps_same w v l k p (Some u) (Some s) q r a x y =
      let e = g.same (alike_below x.middle (omega (arith, x.rest)) a) x.first y.first in
      (ap Some e.0, x.rest ∙ (e.1 ∙ sym y.rest))

  nearest_onward : (w : World Token) (left p : ℕ) (u : Option T) (q : ℕ) →
      Nearest go A w left p u q → p ≤ q
  unfolding Nearest
  nearest_onward w left p None q r = omega (arith, r.behind)
  nearest_onward w left p (Some u) q r = omega (arith, r.rest, g.onward r.first)

  nearest_same : (w v : World Token) (l k p : ℕ) (u s : Option T) (q r : ℕ) →
      Alike q w v → Nearest go A w l p u q → Nearest go B v k p s r → (u ≡ s) × (q ≡ r)
  unfolding Nearest
  nearest_same w v l k p None None q r a x y = (refl, x.behind ∙ sym y.behind)
  nearest_same w v l k p None (Some s) q r a x y =
      absurd (ends_or_goes x.stops (test_path go (sym (a.tokens p
      (omega (arith, x.behind)))) y.goes))
  nearest_same w v l k p (Some u) None q r a x y =
      absurd (ends_or_goes y.stops (test_path go (a.tokens p
      (omega (arith, x.rest, g.onward x.first))) x.goes))
  nearest_same w v l k p (Some u) (Some s) q r a x y =
      let e = g.same (alike_below x.middle (omega (arith, x.rest)) a) x.first y.first in
      (ap Some e.0, x.rest ∙ (e.1 ∙ sym y.rest))

  many_onward : (w : World Token) (left : ℕ) (us : List T) (p q : ℕ) →
      Many go A w left p us q → p ≤ q
  unfolding Many
  many_onward w left [] p q r = omega (arith, r.behind)
  many_onward w left (u ∷ us) p q r =
      omega (arith, g.onward r.first, many_onward w left us r.middle q r.rest)

  many_same : (w v : World Token) (l k : ℕ) (us ss : List T) (p q r : ℕ) →
      Alike q w v → Many go A w l p us q → Many go B v k p ss r → (us ≡ ss) × (q ≡ r)
  unfolding Many
  many_same w v l k [] [] p q r a x y = (refl, x.behind ∙ sym y.behind)
  many_same w v l k [] (s ∷ ss) p q r a x y =
      absurd (ends_or_goes (x.stops a.first_greedy)
      (test_path go (sym (a.tokens p (omega (arith, x.behind)))) y.goes))
  many_same w v l k (u ∷ us) [] p q r a x y =
      absurd (ends_or_goes (y.stops a.second_greedy)
      (test_path go (a.tokens p (omega (
        arith,
        g.onward x.first,
        many_onward w l us x.middle q x.rest,
      ))) x.goes))
  many_same w v l k (u ∷ us) (s ∷ ss) p q r a x y =
      let e = g.same (alike_below x.middle (many_onward w l us x.middle q x.rest) a) x.first
      y.first in
      let f = many_same w v l k us ss x.middle q r a x.rest
      (subst (λ m. Many go B v k m ss r) (sym e.1) y.rest) in
      (cons_path e.0 f.0, f.1)

pub alike_seen : {Token : Type 0} (f : Token → Token) {i : ℕ} {w v : World Token} → Alike i w v →
    Alike i (seen_through f w) (seen_through f v)
alike_seen f a = record {
  tokens = λ j h. ap f (a.tokens j h);
  first_greedy = a.first_greedy;
  second_greedy = a.second_greedy;
}

pub good_through : {Token T : Type 0} (f : Token → Token) {A B : Form Token T} → Good A B →
    Good (Through f A) (Through f B)
good_through f g = record {
  onward = λ r. g.onward r.read;
  same = λ a r s. g.same (alike_seen f a) r.read s.read;
}

module _ {Token T : Type 0} (see : List T → Token → Token) (go : Token → Bool) (A B : Form Token T)
    (g : Good A B) where
  seen_onward : (w : World Token) (left : ℕ) (us done : List T) (p q : ℕ) →
      ManySeen see go A done w left p us q → p ≤ q
  unfolding ManySeen
  seen_onward w left [] done p q r = omega (arith, r.behind)
  seen_onward w left (u ∷ us) done p q r = omega (
    arith,
    (good_through (see done) g).onward r.first,
    seen_onward w left us (done ++ u ∷ []) r.middle q r.rest,
  )

  seen_same : (w v : World Token) (l k : ℕ) (us ss done : List T) (p q r : ℕ) → Alike q w v →
      ManySeen see go A done w l p us q → ManySeen see go B done v k p ss r → (us ≡ ss) × (q ≡ r)
  unfolding ManySeen
  seen_same w v l k [] [] done p q r a x y = (refl, x.behind ∙ sym y.behind)
  seen_same w v l k [] (s ∷ ss) done p q r a x y =
      absurd (ends_or_goes (x.stops a.first_greedy)
      (test_path go (sym (a.tokens p (omega (arith, x.behind)))) y.goes))
  seen_same w v l k (u ∷ us) [] done p q r a x y =
      let onward = (good_through (see done) g).onward x.first in
      let behind = seen_onward w l us (done ++ u ∷ []) x.middle q x.rest in
      absurd (ends_or_goes (y.stops a.second_greedy)
      (test_path go (a.tokens p (omega (arith, onward, behind))) x.goes))
  seen_same w v l k (u ∷ us) (s ∷ ss) done p q r a x y =
      let behind = seen_onward w l us (done ++ u ∷ []) x.middle q x.rest in
      let e = (good_through (see done) g).same (alike_below x.middle behind a) x.first y.first in
      let f = seen_same w v l k us ss (done ++ u ∷ []) x.middle q r a x.rest
      (subst (λ t. ManySeen see go B (done ++ t ∷ []) v k x.middle ss r) (sym e.0)
      (subst (λ m. ManySeen see go B (done ++ s ∷ []) v k m ss r) (sym e.1) y.rest)) in
      (cons_path e.0 f.0, f.1)

pub good_many_seen : {Token T : Type 0} (see : List T → Token → Token) (go : Token → Bool)
    (done : List T) {A B : Form Token T} → Good A B →
    Good (ManySeen see go A done) (ManySeen see go B done)
good_many_seen see go done {A} {B} g = record {
  onward = λ r. seen_onward see go A B g _ _ _ _ _ _ r;
  same = λ a x y. seen_same see go A B g _ _ _ _ _ _ _ _ _ _ a x y;
}

pub good_perhaps : {Token T : Type 0} (go : Token → Bool) {A B : Form Token T} → Good A B →
    Good (Perhaps go A) (Perhaps go B)
good_perhaps go {A} {B} g = record {
  onward = λ r. perhaps_onward go A B g _ _ _ _ _ r;
  same = λ a x y. perhaps_same go A B g _ _ _ _ _ _ _ _ _ a x y;
}

pub good_nearest : {Token T : Type 0} (go : Token → Bool) {A B : Form Token T} → Good A B →
    Good (Nearest go A) (Nearest go B)
good_nearest go {A} {B} g = record {
  onward = λ r. nearest_onward go A B g _ _ _ _ _ r;
  same = λ a x y. nearest_same go A B g _ _ _ _ _ _ _ _ _ a x y;
}

pub good_many : {Token T : Type 0} (go : Token → Bool) {A B : Form Token T} → Good A B →
    Good (Many go A) (Many go B)
good_many go {A} {B} g = record {
  onward = λ r. many_onward go A B g _ _ _ _ _ r;
  same = λ a x y. many_same go A B g _ _ _ _ _ _ _ _ _ a x y;
}

-- the counts of equal tokens are equal
count_path : {Token : Type 0} (test : Token → Bool) (x y : ℕ → Token) (p n : ℕ) →
    ((j : ℕ) → j < p + n → y j ≡ x j) → count test x p n ≡ count test y p n
count_path test x y p zero same = refl
count_path test x y p (suc n) same =
    let here : y (p + n) ≡ x (p + n) = same (p + n) (omega arith) in
    let before = count_path test x y p n (λ j h. same j (omega arith)) in
    ap (λ t. cond (test t) 1 0 + count test x p n) (sym here) ∙
    ap (λ m. cond (test (y (p + n))) 1 0 + m) before

-- brackets that are closed at one place are not open behind it
pub closed_inside : {Token : Type 0} (opens closes : Token → Bool) (x y : ℕ → Token) (p n m : ℕ) →
    ((j : ℕ) → j < p + (n + 1) → y j ≡ x j) → count closes x p (n + 1) ≡ count opens x p
    (n + 1) + 1 →
    ((i : ℕ) → i ≤ m → count closes y p i ≤ count opens y p i) → n < m → ⊥
closed_inside opens closes x y p n m same closed inside below =
    omega (
      arith,
      closed,
      inside (n + 1) (omega arith),
      count_path closes x y p (n + 1) same,
      count_path opens x y p (n + 1) same,
    )

one_of_three : (n m : ℕ) → (n < m → ⊥) → (m < n → ⊥) → n ≡ m
one_of_three n m f g = omega (arith, f, g)

pub good_balanced : {Token : Type 0} (opens closes ends : Token → Bool) →
    Good (Balanced opens closes ends) (Balanced opens closes ends)
good_balanced opens closes ends = record {
  onward = λ r. omega (arith, r.behind);
  same = λ {w} {v} {l} {k} {p} {u} {s} {q} {r} a x y.
      let shorter = closed_inside opens closes w.at v.at p x.length y.length
      (λ j h. a.tokens j (omega (arith, x.behind))) x.closed y.inside in
      let longer = λ (below : y.length < x.length).
      closed_inside opens closes v.at w.at p y.length x.length
      (λ j h. sym (a.tokens j (omega (arith, x.behind)))) y.closed x.inside below in
      let equal = one_of_three x.length y.length shorter longer in
      (refl, x.behind ∙ (ap (λ n. p + (n + 1)) equal ∙ sym y.behind));
}
