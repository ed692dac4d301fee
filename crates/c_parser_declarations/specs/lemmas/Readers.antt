-- Lemmas: what is made of a first part that is read already, and what takes a token.
use Rattle.std.specs.Prelude.{◌≡◌, ℕ}
use Rattle.std.specs.Prelude.{refl}
use Rattle.std.proofs.Common.{sym, ◌∙◌, subst, arith}
use Rattle.c_grammar_forms.specs.Forms.{Form, Node, Pair, Then}
use Rattle.c_grammar_forms.specs.lemmas.Steady.{Good, Steady, from_place}
use Rattle.c_grammar_forms.specs.Reading.{Reads, NoneThrough}
use Rattle.c_grammar_forms.specs.lemmas.NotFound.{only}
use Rattle.c_grammar_forms.specs.lemmas.Loops.{Strict}

-- what is made of a first part that is read already and of a second: of both
module _ {Token R S T : Type 0} (f : Token → R × S → T) {A : ℕ → Form Token R} {at : ℕ → Token}
    {size left p m : ℕ} {a : R} where
  pub reads_onto : (g : Token → S → T) (B : ℕ → Form Token S) {u : T} {q : ℕ} →
      ((s : S) → f (at p) (a, s) ≡ g (at m) s) →
      Reads A at size left p a m → Reads (λ n. Node g (B n)) at size left m u q →
      Reads (λ n. Node f (Pair (A n) (B n))) at size left p u q
  reads_onto g B same r s = record {
    reading = λ edge. let x = s.reading edge in
        record {
          parts = (a, x.parts);
          read = record { middle = m; first = r.reading edge; second = x.read };
          made = x.made ∙ sym (same x.parts);
        };
    onward = omega (arith, r.onward, s.onward);
    within = s.within;
  }

  pub none_onto : (g : Token → S → T) (B : ℕ → Form Token S) {i : ℕ} → Steady A →
      Reads A at size left p a m → NoneThrough (λ n. Node g (B n)) at size left m i →
      NoneThrough (λ n. Node f (Pair (A n) (B n))) at size left p i
  none_onto g B steady r h = record {
    onward = omega (arith, r.onward, h.onward);
    within = h.within;
    none = λ n v b u q x.
        let e = only {at = at} steady r h.onward b x.read.first in
        h.none n v b (g (v.at m) x.parts.1) q
        (record { parts = x.parts.1; read = from_place (B n) e.1 x.read.second; made = refl });
  }

  pub reads_then_onto : (g : Token → S → T) (B : ℕ → R → Form Token S) {u : T} {q : ℕ} →
      ((s : S) → f (at p) (a, s) ≡ g (at m) s) →
      Reads A at size left p a m → Reads (λ n. Node g (B n a)) at size left m u q →
      Reads (λ n. Node f (Then (A n) (B n))) at size left p u q
  reads_then_onto g B same r s = record {
    reading = λ edge. let x = s.reading edge in
        record {
          parts = (a, x.parts);
          read = record { middle = m; first = r.reading edge; second = x.read };
          made = x.made ∙ sym (same x.parts);
        };
    onward = omega (arith, r.onward, s.onward);
    within = s.within;
  }

  pub none_then_onto : (g : Token → S → T) (B : ℕ → R → Form Token S) {i : ℕ} → Steady A →
      Reads A at size left p a m → NoneThrough (λ n. Node g (B n a)) at size left m i →
      NoneThrough (λ n. Node f (Then (A n) (B n))) at size left p i
  none_then_onto g B steady r h = record {
    onward = omega (arith, r.onward, h.onward);
    within = h.within;
    none = λ n v b u q x.
        let e = only {at = at} steady r h.onward b x.read.first in
        h.none n v b (g (v.at m) x.parts.1) q
        (record {
          parts = x.parts.1;
          read = subst (λ t. B n t v left m x.parts.1 q) (sym e.0)
              (from_place (B n x.parts.0) e.1 x.read.second);
          made = refl;
        });
  }

-- what is made of what is made
module _ {Token R S T : Type 0} (f : Token → S → T) (h : Token → R → S) (g : Token → R → T)
    (A : ℕ → Form Token R)
    {at : ℕ → Token} {size left p : ℕ} where
  pub reads_made : {u : T} {q : ℕ} → ((r : R) → f (at p) (h (at p) r) ≡ g (at p) r) →
      Reads (λ n. Node g (A n)) at size left p u q →
      Reads (λ n. Node f (Node h (A n))) at size left p u q
  reads_made same s = record {
    reading = λ edge. let x = s.reading edge in
        record {
          parts = h (at p) x.parts;
          read = record { parts = x.parts; read = x.read; made = refl };
          made = x.made ∙ sym (same x.parts);
        };
    onward = s.onward;
    within = s.within;
  }

  pub none_made : {i : ℕ} → NoneThrough (λ n. Node g (A n)) at size left p i →
      NoneThrough (λ n. Node f (Node h (A n))) at size left p i
  none_made s = record {
    onward = s.onward;
    within = s.within;
    none = λ n v b u q x. s.none n v b (g (v.at p) x.read.parts) q
        (record { parts = x.read.parts; read = x.read.read; made = refl });
  }

-- what takes a token at its start, or at its end, takes one
pub strict_then_first : {Token S T : Type 0} {A : Form Token S} {B C : S → Form Token T} →
    Strict A → ((s : S) → Good (B s) (C s)) →
    Strict (Then A B)
strict_then_first a g = record {
  ahead = λ {w} {left} {p} {u} r. omega (
    arith,
    a.ahead r.first,
    (g u.0).onward r.second,
  );
}

pub strict_then_second : {Token S T : Type 0} {A C : Form Token S} {B : S → Form Token T} →
    Good A C → ((s : S) → Strict (B s)) →
    Strict (Then A B)
strict_then_second g a = record {
  ahead = λ {w} {left} {p} {u} r. omega (
    arith,
    g.onward r.first,
    (a u.0).ahead r.second,
  );
}
