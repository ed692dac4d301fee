-- Lemmas: readings from readings of the parts.
use Rattle.std.specs.Prelude.{◌≡◌, ℕ, ◌+◌, ◌-◌, ◌<◌, Bool, true, false, List, [], ◌∷◌, None, Some}
use Rattle.std.specs.Prelude.{suc, zero, refl}
use Rattle.std.proofs.Common.{sym, subst, arith}
use Rattle.c_grammar_forms.specs.Forms.{World, Form, One, Such, Empty, Skip, Behind, Before, Pair}
use Rattle.c_grammar_forms.specs.Forms.{Then, Node, Shaped, Deeper, Choice, Many, Perhaps, Nearest}
use Rattle.c_grammar_forms.specs.Forms.{greedy_text}
use Rattle.c_grammar_forms.specs.Reading.{Reads}

-- B has one level more than A: with none it reads nothing
pub record IsAbove {Token T : Type 0} (B A : ℕ → Form Token T) : Type 0 where
  pub base : {w : World Token} {left p : ℕ} {u : T} {q : ℕ} → B 0 w left p u q → ⊥
  pub unrolls : (n : ℕ) {w : World Token} {left p : ℕ} {u : T} {q : ℕ} → A n w left p u q →
      B (suc n) w left p u q
  pub rolls : (n : ℕ) {w : World Token} {left p : ℕ} {u : T} {q : ℕ} → B (suc n) w left p u q →
      A n w left p u q

module _ {Token : Type 0} {at : ℕ → Token} {size left : ℕ} where
  pub reads_one : {p : ℕ} → p + 1 < size → Reads (λ n. One) at size left p tt (p + 1)
  reads_one fits =
      record { reading = λ edge. record { behind = refl }; onward = omega arith; within = fits }

  pub reads_empty : {p : ℕ} → p < size → Reads (λ n. Empty) at size left p tt p
  reads_empty fits =
      record { reading = λ edge. record { behind = refl }; onward = omega arith; within = fits }

  pub reads_such : {p : ℕ} (test : Token → Bool) → test (at p) ≡ true → p + 1 < size →
      Reads (λ n. Such test) at size left p tt (p + 1)
  reads_such test passes fits = record {
    reading = λ edge. record { passes = passes; behind = refl };
    onward = omega arith;
    within = fits;
  }

  pub reads_skip : {T : Type 0} {A : ℕ → Form Token T} {p : ℕ} {u : T} {q : ℕ} →
      Reads A at size left (p + 1) u q → Reads (λ n. Skip (A n)) at size left p u q
  reads_skip r = record {
    reading = λ edge. record { rest = r.reading edge };
    onward = omega (arith, r.onward);
    within = r.within;
  }

  pub reads_behind : {T : Type 0} {A : ℕ → Form Token T} {p : ℕ} {u : T} {q : ℕ}
      (test : Token → Bool) →
      test (at p) ≡ true → Reads A at size left (p + 1) u q →
      Reads (λ n. Behind test (A n)) at size left p u q
  reads_behind test passes r = record {
    reading = λ edge. record { passes = passes; rest = r.reading edge };
    onward = omega (arith, r.onward);
    within = r.within;
  }

  pub reads_before : {T : Type 0} {A : ℕ → Form Token T} {p : ℕ} {u : T} {m : ℕ}
      (test : Token → Bool) →
      Reads A at size left p u m → test (at m) ≡ true → m + 1 < size →
      Reads (λ n. Before (A n) test) at size left p u (m + 1)
  reads_before {m = m} test r passes fits = record {
    reading = λ edge. record { middle = m; first = r.reading edge; passes = passes; behind = refl };
    onward = omega (arith, r.onward);
    within = fits;
  }

  -- the same from a place that is known to be the one behind the token
  pub reads_behind_by : {T : Type 0} {A : ℕ → Form Token T} {p m : ℕ} {u : T} {q : ℕ}
      (test : Token → Bool) →
      test (at p) ≡ true → m ≡ p + 1 → Reads A at size left m u q →
      Reads (λ n. Behind test (A n)) at size left p u q
  reads_behind_by {A = A} {u = u} {q = q} test passes e r =
      reads_behind test passes (subst (λ k. Reads A at size left k u q) e r)

  pub reads_before_by : {T : Type 0} {A : ℕ → Form Token T} {p m q : ℕ} {u : T}
      (test : Token → Bool) →
      Reads A at size left p u m → test (at m) ≡ true → q ≡ m + 1 → q < size →
      Reads (λ n. Before (A n) test) at size left p u q
  reads_before_by {A = A} {p = p} {u = u} test r passes e fits =
      subst (λ k. Reads (λ n. Before (A n) test) at size left p u k) (sym e)
      (reads_before test r passes (subst (λ k. k < size) e fits))

  pub reads_pair : {S T : Type 0} {A : ℕ → Form Token S} {B : ℕ → Form Token T} {p m q : ℕ}
      {u : S} {v : T} →
      Reads A at size left p u m → Reads B at size left m v q →
      Reads (λ n. Pair (A n) (B n)) at size left p (u, v) q
  reads_pair {m = m} r s = record {
    reading = λ edge. record { middle = m; first = r.reading edge; second = s.reading edge };
    onward = omega (arith, r.onward, s.onward);
    within = s.within;
  }

  pub reads_then : {S T : Type 0} {A : ℕ → Form Token S} (B : ℕ → S → Form Token T) {p m q : ℕ}
      {u : S} {v : T} →
      Reads A at size left p u m → Reads (λ n. B n u) at size left m v q →
      Reads (λ n. Then (A n) (B n)) at size left p (u, v) q
  reads_then B {m = m} r s = record {
    reading = λ edge. record { middle = m; first = r.reading edge; second = s.reading edge };
    onward = omega (arith, r.onward, s.onward);
    within = s.within;
  }

  pub reads_node : {S T : Type 0} {A : ℕ → Form Token S} {p q : ℕ} {v : S} {u : T}
      (f : Token → S → T) →
      u ≡ f (at p) v → Reads A at size left p v q → Reads (λ n. Node f (A n)) at size left p u q
  reads_node {v = v} f made r = record {
    reading = λ edge. record { parts = v; read = r.reading edge; made = made };
    onward = r.onward;
    within = r.within;
  }

  pub reads_shaped : {T : Type 0} {A : ℕ → Form Token T} {p q : ℕ} {u : T} (test : T → Bool) →
      test u ≡ true → Reads A at size left p u q → Reads (λ n. Shaped test (A n)) at size left p u q
  reads_shaped test passes r = record {
    reading = λ edge. record { read = r.reading edge; passes = passes };
    onward = r.onward;
    within = r.within;
  }

  pub reads_choice : {K T : Type 0} (class : Token → K) (A : ℕ → K → Form Token T) {k : K}
      {p q : ℕ} {u : T} →
      class (at p) ≡ k → Reads (λ n. A n k) at size left p u q →
      Reads (λ n. Choice class (A n)) at size left p u q
  reads_choice class A {p = p} {q = q} {u = u} chosen r = record {
    reading = λ edge. record {
      chosen = subst (λ c. A left c (greedy_text at edge) left p u q)
          (sym chosen) (r.reading edge);
    };
    onward = r.onward;
    within = r.within;
  }

  pub reads_no : {T : Type 0} (A : ℕ → Form Token T) {p : ℕ} (go : Token → Bool) →
      go (at p) ≡ false → p < size → Reads (λ n. Perhaps go (A n)) at size left p None p
  unfolding Perhaps
  reads_no A go stops fits = record {
    reading = λ edge. record { stops = λ _. stops; behind = refl };
    onward = omega arith;
    within = fits;
  }

  pub reads_one_more : {T : Type 0} {A : ℕ → Form Token T} {p q : ℕ} {u : T} (go : Token → Bool) →
      go (at p) ≡ true → Reads A at size left p u q →
      Reads (λ n. Perhaps go (A n)) at size left p (Some u) q
  unfolding Perhaps
  reads_one_more {q = q} go goes r = record {
    reading = λ edge. record { goes = goes; middle = q; first = r.reading edge; rest = refl };
    onward = r.onward;
    within = r.within;
  }

  pub reads_nearest_no : {T : Type 0} (A : ℕ → Form Token T) {p : ℕ} (go : Token → Bool) →
      go (at p) ≡ false → p < size → Reads (λ n. Nearest go (A n)) at size left p None p
  unfolding Nearest
  reads_nearest_no A go stops fits = record {
    reading = λ edge. record { stops = stops; behind = refl };
    onward = omega arith;
    within = fits;
  }

  pub reads_nearest : {T : Type 0} {A : ℕ → Form Token T} {p q : ℕ} {u : T} (go : Token → Bool) →
      go (at p) ≡ true → Reads A at size left p u q →
      Reads (λ n. Nearest go (A n)) at size left p (Some u) q
  unfolding Nearest
  reads_nearest {q = q} go goes r = record {
    reading = λ edge. record { goes = goes; middle = q; first = r.reading edge; rest = refl };
    onward = r.onward;
    within = r.within;
  }

  pub reads_end : {T : Type 0} (A : ℕ → Form Token T) {p : ℕ} (go : Token → Bool) →
      go (at p) ≡ false → p < size → Reads (λ n. Many go (A n)) at size left p [] p
  unfolding Many
  reads_end A go stops fits = record {
    reading = λ edge. record { stops = λ _. stops; behind = refl };
    onward = omega arith;
    within = fits;
  }

  pub reads_more : {T : Type 0} {A : ℕ → Form Token T} {p m q : ℕ} {u : T} {us : List T}
      (go : Token → Bool) →
      go (at p) ≡ true → Reads A at size left p u m →
      Reads (λ n. Many go (A n)) at size left m us q →
      Reads (λ n. Many go (A n)) at size left p (u ∷ us) q
  unfolding Many
  reads_more {m = m} go goes r s = record {
    reading = λ edge. record {
      goes = goes;
      middle = m;
      first = r.reading edge;
      rest = s.reading edge;
    };
    onward = omega (arith, r.onward, s.onward);
    within = s.within;
  }

-- a part that stands one level deeper
pub reads_deeper : {Token T : Type 0} {B A : ℕ → Form Token T} {at : ℕ → Token} {size p : ℕ} {u : T}
    {q : ℕ} → IsAbove B A →
    (left : ℕ) → 0 < left → Reads A at size (left - 1) p u q →
    Reads (λ n. Deeper (B n)) at size left p u q
reads_deeper above zero allowed r = absurd (omega arith)
reads_deeper {B = B} {A} {at} {p = p} {u} {q} above (suc n) allowed r =
    let less : suc n - 1 ≡ n = omega arith in
    record {
      reading = λ edge. record {
        allowed = λ _. allowed;
        read = above.unrolls n (subst (λ m. A m (greedy_text at edge) (suc n - 1) p u q) less
            (r.reading edge));
      };
      onward = r.onward;
      within = r.within;
    }

-- the same of a form that is the same at each number of levels
pub reads_deeper_flat : {Token T : Type 0} {A : Form Token T} {at : ℕ → Token} {size p : ℕ}
    {u : T} {q : ℕ} →
    (left : ℕ) → 0 < left → Reads (λ n. A) at size (left - 1) p u q →
    Reads (λ n. Deeper A) at size left p u q
reads_deeper_flat left allowed r = record {
  reading = λ edge. record { allowed = λ _. allowed; read = r.reading edge };
  onward = r.onward;
  within = r.within;
}
