-- Lemmas: the form that the class of a first token calls for.
use Rattle.std.specs.Prelude.{◌≡◌, ℕ, true, false}
use Rattle.std.proofs.Common.{ap, subst}
use Rattle.c_grammar_forms.specs.Forms.{World, Form, Choice}
use Rattle.c_grammar_forms.specs.Reading.{Reads, NoneThrough}

-- two forms read the same
pub record Same {Token T : Type 0} (A B : Form Token T) : Type 0 where
  pub to : {w : World Token} {left p : ℕ} {u : T} {q : ℕ} → A w left p u q → B w left p u q
  pub back : {w : World Token} {left p : ℕ} {u : T} {q : ℕ} → B w left p u q → A w left p u q

pub same_form : {Token T : Type 0} {A : Form Token T} → Same A A
same_form = record { to = λ r. r; back = λ r. r }

module _ {Token K T : Type 0} (class : Token → K) (A : ℕ → K → Form Token T) {B : ℕ → Form Token T}
    {at : ℕ → Token} {size left p : ℕ} (same : (n : ℕ) → Same (A n (class (at p))) (B n)) where
  pub reads_arm : {u : T} {q : ℕ} → Reads B at size left p u q →
      Reads (λ n. Choice class (A n)) at size left p u q
  reads_arm r = record {
    reading = λ edge. record { chosen = (same left).back (r.reading edge) };
    onward = r.onward;
    within = r.within;
  }

  pub none_arm : {i : ℕ} → NoneThrough B at size left p i →
      NoneThrough (λ n. Choice class (A n)) at size left p i
  none_arm g = record {
    onward = g.onward;
    within = g.within;
    none = λ n v b u q r. g.none n v b u q
        ((same n).to (subst (λ c. A n c v left p u q) (ap class (b.tokens p g.onward)) r.chosen));
  }

-- a test does not both pass and fail
pub impossible : {P : Type 0} → false ≡ true → P
impossible e = absurd (let clash : false ≡ true = e in cc)
