-- Three parts behind a token, and a fourth behind them: read as the three, and then the fourth.
use Rattle.std.specs.Prelude.{ℕ, Bool}
use Rattle.std.proofs.Common.{arith}
use Rattle.c_grammar_forms.specs.Forms.{Form, Behind, Pair}
use Rattle.c_grammar_forms.specs.lemmas.Steady.{Steady, from_place}
use Rattle.c_grammar_forms.specs.Reading.{Reads, NoneThrough}
use Rattle.c_grammar_forms.specs.lemmas.NotFound.{only}

module _ {Token P Q R S : Type 0} {test : Token → Bool} {A : ℕ → Form Token P}
    {B : ℕ → Form Token Q} {C : ℕ → Form Token R}
    {D : ℕ → Form Token S} {at : ℕ → Token} {size left p : ℕ} where
  pub reads_head : {a : P} {b : Q} {c : R} {d : S} {m q : ℕ} →
      Reads (λ n. Behind test (Pair (A n) (Pair (B n) (C n)))) at size left p (a, (b, c)) m →
      Reads D at size left m d q →
      Reads (λ n. Behind test (Pair (A n) (Pair (B n) (Pair (C n) (D n))))) at size left p (
        a,
        (b, (c, d)),
      ) q
  reads_head {m = m} r s = record {
    reading = λ edge. let x = r.reading edge in
        record {
          passes = x.passes;
          rest = record {
            middle = x.rest.middle;
            first = x.rest.first;
            second = record {
              middle = x.rest.second.middle;
              first = x.rest.second.first;
              second = record { middle = m; first = x.rest.second.second; second = s.reading edge };
            };
          };
        };
    onward = omega (arith, r.onward, s.onward);
    within = s.within;
  }

  pub none_body : {h : P × (Q × R)} {m i : ℕ} → Steady
      (λ n. Behind test (Pair (A n) (Pair (B n) (C n)))) →
      Reads (λ n. Behind test (Pair (A n) (Pair (B n) (C n)))) at size left p h m →
      NoneThrough D at size left m i →
      NoneThrough (λ n. Behind test (Pair (A n) (Pair (B n) (Pair (C n) (D n))))) at size left p i
  none_body steady r g = record {
    onward = omega (arith, r.onward, g.onward);
    within = g.within;
    none = λ n v b u q x.
        let e = only {at = at} {s = (u.0, (u.1.0, u.1.1.0))} steady r g.onward b (record {
          passes = x.passes;
          rest = record {
            middle = x.rest.middle;
            first = x.rest.first;
            second = record {
              middle = x.rest.second.middle;
              first = x.rest.second.first;
              second = x.rest.second.second.first;
            };
          };
        }) in
        g.none n v b u.1.1.1 q (from_place (D n) e.1 x.rest.second.second.second);
  }

module _ {Token P Q R S : Type 0} {test : Token → Bool} {A : ℕ → Form Token P}
    {B : ℕ → Form Token Q} {C : ℕ → Form Token R}
    (D : ℕ → Form Token S) {at : ℕ → Token} {size left p : ℕ} where
  pub none_head : {i : ℕ} → NoneThrough (λ n. Behind test (Pair (A n) (Pair (B n) (C n)))) at size
      left p i →
      NoneThrough (λ n. Behind test (Pair (A n) (Pair (B n) (Pair (C n) (D n))))) at size left p i
  none_head g = record {
    onward = g.onward;
    within = g.within;
    none = λ n v b u q x. g.none n v b (u.0, (u.1.0, u.1.1.0)) x.rest.second.second.middle (record {
      passes = x.passes;
      rest = record {
        middle = x.rest.middle;
        first = x.rest.first;
        second = record {
          middle = x.rest.second.middle;
          first = x.rest.second.first;
          second = x.rest.second.second.first;
        };
      };
    });
  }
