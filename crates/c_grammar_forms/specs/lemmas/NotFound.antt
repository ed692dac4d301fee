-- Lemmas: no reading where a part has none.
use Rattle.std.specs.Prelude.{◌≡◌, ℕ, ◌+◌, ◌-◌, ◌<◌, ◌≤◌, Bool, true, false, List, [], ◌∷◌, Option}
use Rattle.std.specs.Prelude.{None, Some, suc, zero, refl}
use Rattle.std.proofs.Common.{sym, ◌∙◌, ap, subst, arith}
use Rattle.c_grammar_forms.specs.Forms.{World, Form, Nothing, Such, Skip, Behind, Before, Pair}
use Rattle.c_grammar_forms.specs.Forms.{Then}
use Rattle.c_grammar_forms.specs.Forms.{Node, Shaped, Deeper, Choice, Many, Perhaps, Nearest}
use Rattle.c_grammar_forms.specs.Forms.{greedy_text}
use Rattle.c_grammar_forms.specs.lemmas.Steady.{Alike, Steady, from_place, ends_or_goes, test_path}
use Rattle.c_grammar_forms.specs.Reading.{Reads, Begins, NoneThrough}
use Rattle.c_grammar_forms.specs.lemmas.Found.{IsAbove}

-- the text and one that begins with the same tokens are alike
pub alike_begins : {Token : Type 0} {at : ℕ → Token} {i edge : ℕ} {v : World Token} (j : ℕ) →
    j ≤ i → Begins at i v → Alike j (greedy_text at edge) v
alike_begins j below b = record {
  tokens = λ k h. b.tokens k (omega (arith, h));
  first_greedy = refl;
  second_greedy = b.greedy;
}

-- what was read is what any text that begins with the same tokens has there
pub only : {Token T : Type 0} {A : ℕ → Form Token T} {at : ℕ → Token} {size left p i : ℕ} {u s : T}
    {m r : ℕ} {n : ℕ} {v : World Token} →
    Steady A → Reads A at size left p u m → m ≤ i → Begins at i v → A n v left p s r →
    (u ≡ s) × (m ≡ r)
only {left = left} {m = m} {n = n} steady r below b s =
    (steady.good left n).same (alike_begins m below b) (r.reading 0) s

module _ {Token : Type 0} {at : ℕ → Token} {size left : ℕ} where
  pub none_nothing : {T : Type 0} {p : ℕ} → p < size →
      NoneThrough {T = T} (λ n. Nothing) at size left p p
  none_nothing fits = record { onward = omega arith; within = fits; none = λ n v b u q r. r.never }

  pub none_such : {p : ℕ} (test : Token → Bool) → test (at p) ≡ false → p < size →
      NoneThrough (λ n. Such test) at size left p p
  none_such {p} test fails fits = record {
    onward = omega arith;
    within = fits;
    none = λ n v b u q r. ends_or_goes (test_path test (b.tokens p (omega arith)) fails) r.passes;
  }

  pub none_skip : {T : Type 0} {A : ℕ → Form Token T} {p i : ℕ} →
      NoneThrough A at size left (p + 1) i → NoneThrough (λ n. Skip (A n)) at size left p i
  none_skip g = record {
    onward = omega (arith, g.onward);
    within = g.within;
    none = λ n v b u q r. g.none n v b u q r.rest;
  }

  pub none_behind : {T : Type 0} {A : ℕ → Form Token T} {p i : ℕ} (test : Token → Bool) →
      NoneThrough A at size left (p + 1) i → NoneThrough (λ n. Behind test (A n)) at size left p i
  none_behind test g = record {
    onward = omega (arith, g.onward);
    within = g.within;
    none = λ n v b u q r. g.none n v b u q r.rest;
  }

  -- the same from a place that is known to be the one behind the token
  pub none_behind_by : {T : Type 0} {A : ℕ → Form Token T} {p m i : ℕ} (test : Token → Bool) →
      m ≡ p + 1 →
      NoneThrough A at size left m i → NoneThrough (λ n. Behind test (A n)) at size left p i
  none_behind_by {A = A} {i = i} test e g =
      none_behind test (subst (λ k. NoneThrough A at size left k i) e g)

  pub none_behind_here : {T : Type 0} (A : ℕ → Form Token T) {p : ℕ} (test : Token → Bool) →
      test (at p) ≡ false → p < size → NoneThrough (λ n. Behind test (A n)) at size left p p
  none_behind_here A {p} test fails fits = record {
    onward = omega arith;
    within = fits;
    none = λ n v b u q r. ends_or_goes (test_path test (b.tokens p (omega arith)) fails) r.passes;
  }

  pub none_before : {T : Type 0} {A : ℕ → Form Token T} {p i : ℕ} (test : Token → Bool) →
      NoneThrough A at size left p i → NoneThrough (λ n. Before (A n) test) at size left p i
  none_before test g = record {
    onward = g.onward;
    within = g.within;
    none = λ n v b u q r. g.none n v b u r.middle r.first;
  }

  pub none_before_here : {T : Type 0} {A : ℕ → Form Token T} {p m : ℕ} {u : T}
      (test : Token → Bool) →
      Steady A → Reads A at size left p u m → test (at m) ≡ false →
      NoneThrough (λ n. Before (A n) test) at size left p m
  none_before_here {m = m} test steady r fails = record {
    onward = r.onward;
    within = r.within;
    none = λ n v b u q s.
        let e = only {at = at} steady r (omega arith) b s.first in
        ends_or_goes (test_path test (b.tokens m (omega arith)) fails)
        (subst (λ k. test (v.at k) ≡ true) (sym e.1) s.passes);
  }

  pub none_first : {S T : Type 0} {A : ℕ → Form Token S} (B : ℕ → Form Token T) {p i : ℕ} →
      NoneThrough A at size left p i → NoneThrough (λ n. Pair (A n) (B n)) at size left p i
  none_first B g = record {
    onward = g.onward;
    within = g.within;
    none = λ n v b u q r. g.none n v b u.0 r.middle r.first;
  }

  pub none_second : {S T : Type 0} {A : ℕ → Form Token S} {B : ℕ → Form Token T}
      {p m i : ℕ} {u : S} →
      Steady A → Reads A at size left p u m → NoneThrough B at size left m i →
      NoneThrough (λ n. Pair (A n) (B n)) at size left p i
  none_second {B = B} steady r g = record {
    onward = omega (arith, r.onward, g.onward);
    within = g.within;
    none = λ n v b u q s.
        let e = only {at = at} steady r g.onward b s.first in
        g.none n v b u.1 q (from_place (B n) e.1 s.second);
  }

  pub none_then_first : {S T : Type 0} {A : ℕ → Form Token S} (B : ℕ → S → Form Token T) {p i : ℕ} →
      NoneThrough A at size left p i → NoneThrough (λ n. Then (A n) (B n)) at size left p i
  none_then_first B g = record {
    onward = g.onward;
    within = g.within;
    none = λ n v b u q r. g.none n v b u.0 r.middle r.first;
  }

  pub none_then : {S T : Type 0} {A : ℕ → Form Token S} (B : ℕ → S → Form Token T)
      {p m i : ℕ} {u : S} →
      Steady A → Reads A at size left p u m → NoneThrough (λ n. B n u) at size left m i →
      NoneThrough (λ n. Then (A n) (B n)) at size left p i
  none_then B {m = m} {u = s} steady r g = record {
    onward = omega (arith, r.onward, g.onward);
    within = g.within;
    none = λ n v b u q x.
        let e = only {at = at} steady r g.onward b x.first in
        g.none n v b u.1 q (subst (λ t. B n t v left m u.1 q) (sym e.0)
        (from_place (B n u.0) e.1 x.second));
  }

  pub none_node : {S T : Type 0} {A : ℕ → Form Token S} {p i : ℕ} (f : Token → S → T) →
      NoneThrough A at size left p i → NoneThrough (λ n. Node f (A n)) at size left p i
  none_node f g = record {
    onward = g.onward;
    within = g.within;
    none = λ n v b u q r. g.none n v b r.parts q r.read;
  }

  pub none_shaped : {T : Type 0} {A : ℕ → Form Token T} {p i : ℕ} (test : T → Bool) →
      NoneThrough A at size left p i → NoneThrough (λ n. Shaped test (A n)) at size left p i
  none_shaped test g =
      record { onward = g.onward; within = g.within; none = λ n v b u q r. g.none n v b u q r.read }

  pub none_shaped_here : {T : Type 0} {A : ℕ → Form Token T} {p m : ℕ} {u : T} (test : T → Bool) →
      Steady A → Reads A at size left p u m → test u ≡ false →
      NoneThrough (λ n. Shaped test (A n)) at size left p m
  none_shaped_here {m = m} test steady r fails = record {
    onward = r.onward;
    within = r.within;
    none = λ n v b u q s.
        let e = only {at = at} steady r (omega arith) b s.read in
        ends_or_goes (ap test (sym e.0) ∙ fails) s.passes;
  }

  pub none_choice : {K T : Type 0} (class : Token → K) (A : ℕ → K → Form Token T) {k : K}
      {p i : ℕ} →
      class (at p) ≡ k → NoneThrough (λ n. A n k) at size left p i →
      NoneThrough (λ n. Choice class (A n)) at size left p i
  none_choice class A {p = p} chosen g = record {
    onward = g.onward;
    within = g.within;
    none = λ n v b u q r. g.none n v b u q
        (subst (λ c. A n c v left p u q) (ap class (b.tokens p g.onward) ∙ chosen) r.chosen);
  }

-- where an option goes on, its part is there
perhaps_goes : {Token T : Type 0} (A : Form Token T) (go : Token → Bool) (v : World Token)
    (left p : ℕ) (u : Option T) (q : ℕ) →
    v.greedy ≡ true → go (v.at p) ≡ true → ((s : T) (m : ℕ) → A v left p s m → ⊥) →
    Perhaps go A v left p u q → ⊥
unfolding Perhaps
perhaps_goes A go v left p None q greedy goes none r = ends_or_goes (r.stops greedy) goes
perhaps_goes A go v left p (Some u) q greedy goes none r = none u r.middle r.first

nearest_goes : {Token T : Type 0} (A : Form Token T) (go : Token → Bool) (v : World Token)
    (left p : ℕ) (u : Option T) (q : ℕ) →
    go (v.at p) ≡ true → ((s : T) (m : ℕ) → A v left p s m → ⊥) → Nearest go A v left p u q → ⊥
unfolding Nearest
nearest_goes A go v left p None q goes none r = ends_or_goes r.stops goes
nearest_goes A go v left p (Some u) q goes none r = none u r.middle r.first

-- where a list goes on, its first part is there, and the rest behind it
pub many_goes : {Token T : Type 0} (A : Form Token T) (go : Token → Bool) (v : World Token)
    (left p : ℕ) (us : List T) (q : ℕ) →
    v.greedy ≡ true → go (v.at p) ≡ true →
    ((s : T) (m : ℕ) → A v left p s m → (ss : List T) → Many go A v left m ss q → ⊥) →
    Many go A v left p us q → ⊥
unfolding Many
many_goes A go v left p [] q greedy goes none r = ends_or_goes (r.stops greedy) goes
many_goes A go v left p (u ∷ us) q greedy goes none r = none u r.middle r.first us r.rest

module _ {Token : Type 0} {at : ℕ → Token} {size left : ℕ} where
  pub none_perhaps : {T : Type 0} {A : ℕ → Form Token T} {p i : ℕ} (go : Token → Bool) →
      go (at p) ≡ true → NoneThrough A at size left p i →
      NoneThrough (λ n. Perhaps go (A n)) at size left p i
  none_perhaps {A = A} {p = p} go goes g = record {
    onward = g.onward;
    within = g.within;
    none = λ n v b u q r. perhaps_goes (A n) go v left p u q b.greedy
        (test_path go (b.tokens p g.onward) goes) (g.none n v b) r;
  }

  pub none_nearest : {T : Type 0} {A : ℕ → Form Token T} {p i : ℕ} (go : Token → Bool) →
      go (at p) ≡ true → NoneThrough A at size left p i →
      NoneThrough (λ n. Nearest go (A n)) at size left p i
  none_nearest {A = A} {p = p} go goes g = record {
    onward = g.onward;
    within = g.within;
    none = λ n v b u q r. nearest_goes (A n) go v left p u q
        (test_path go (b.tokens p g.onward) goes) (g.none n v b) r;
  }

  pub none_more : {T : Type 0} {A : ℕ → Form Token T} {p i : ℕ} (go : Token → Bool) →
      go (at p) ≡ true → NoneThrough A at size left p i →
      NoneThrough (λ n. Many go (A n)) at size left p i
  none_more {A = A} {p = p} go goes g = record {
    onward = g.onward;
    within = g.within;
    none = λ n v b u q r. many_goes (A n) go v left p u q b.greedy
        (test_path go (b.tokens p g.onward) goes)
        (λ s m x ss y. g.none n v b s m x) r;
  }

  pub none_rest : {T : Type 0} {A : ℕ → Form Token T} {p m i : ℕ} {u : T} (go : Token → Bool) →
      Steady A →
      go (at p) ≡ true → Reads A at size left p u m →
      NoneThrough (λ n. Many go (A n)) at size left m i →
      NoneThrough (λ n. Many go (A n)) at size left p i
  none_rest {A = A} {p = p} {m = m} go steady goes r g = record {
    onward = omega (arith, r.onward, g.onward);
    within = g.within;
    none = λ n v b u q s. many_goes (A n) go v left p u q b.greedy
        (test_path go (b.tokens p (omega (arith, r.onward, g.onward))) goes)
        (λ t k x ss y. g.none n v b ss q (from_place (Many go (A n))
        (only {at = at} steady r g.onward b x).1 y)) s;
  }

-- there is none one level deeper
above_none : {Token T : Type 0} {B A : ℕ → Form Token T} → IsAbove B A →
    (n : ℕ) (v : World Token) (left p : ℕ) →
    ((m : ℕ) (u : T) (q : ℕ) → A m v left p u q → ⊥) → (u : T) (q : ℕ) → B n v left p u q → ⊥
above_none above zero v left p none u q r = above.base r
above_none above (suc n) v left p none u q r = none n u q (above.rolls n r)

pub none_deeper : {Token T : Type 0} {B A : ℕ → Form Token T} {at : ℕ → Token} {size left p i : ℕ} →
    IsAbove B A →
    NoneThrough A at size (left - 1) p i → NoneThrough (λ n. Deeper (B n)) at size left p i
none_deeper {left = left} {p = p} above g = record {
  onward = g.onward;
  within = g.within;
  none = λ n v b u q r. above_none above n v (left - 1) p (λ m. g.none m v b) u q r.read;
}

-- no level is left for a part that begins here
pub none_too_deep : {Token T : Type 0} (B : ℕ → Form Token T) {at : ℕ → Token} {size left p : ℕ} →
    left ≡ 0 → p < size → NoneThrough (λ n. Deeper (B n)) at size left p p
none_too_deep B used fits = record {
  onward = omega arith;
  within = fits;
  none = λ n v b u q r. omega (arith, used, r.allowed (omega (arith, b.edge)));
}

-- the same of a form that is the same at each number of levels
pub none_deeper_flat : {Token T : Type 0} {A : Form Token T} {at : ℕ → Token} {size left p i : ℕ} →
    NoneThrough (λ n. A) at size (left - 1) p i → NoneThrough (λ n. Deeper A) at size left p i
none_deeper_flat g =
    record { onward = g.onward; within = g.within; none = λ n v b u q r. g.none n v b u q r.read }
