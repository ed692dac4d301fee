-- Lemmas: tokens in brackets, counted from the bracket that opens.
use Rattle.std.specs.Prelude.{◌≡◌, ℕ, ◌+◌, ◌<◌, ◌≤◌, Bool, true, false, cond, suc, refl}
use Rattle.std.proofs.Common.{sym, ◌∙◌, ap, subst, arith}
use native.Mathlib.Decide.{dec_le, dec_lt}
use Prim.{yes, no}
use Rattle.c_grammar_forms.specs.Forms.{count, Balanced}
use Rattle.c_grammar_forms.specs.lemmas.Steady.{closed_inside, ends_or_goes, test_path}
use Rattle.c_grammar_forms.specs.Reading.{Reads, NoneThrough}

-- behind a bracket that opens, n tokens on: so many brackets are open besides it, and the text has
-- not ended
pub record IsInside {Token : Type 0} (opens closes ends : Token → Bool) (at : ℕ → Token)
    (p depth n : ℕ) : Type 0 where
  pub inside : (k : ℕ) → k ≤ n → count closes at p k ≤ count opens at p k
  pub balance : count opens at p n ≡ count closes at p n + depth
  pub before_end : (k : ℕ) → k < n → ends (at (p + k)) ≡ false

-- one token more is counted where it passes the test
count_one : {Token : Type 0} (test : Token → Bool) (at : ℕ → Token) (p n : ℕ) →
    count test at p (n + 1) ≡ cond (test (at (p + n))) 1 0 + count test at p n
count_one test at p n = let e : n + 1 ≡ suc n = omega arith in ap (count test at p) e

-- what holds up to n and at n + 1 holds up to n + 1
up_to : (P : ℕ → Type 0) (n : ℕ) → ((k : ℕ) → k ≤ n → P k) → P (n + 1) → (k : ℕ) → k ≤ n + 1 → P k
up_to P n below here k h =
    elim (dec_le k n) [
      | yes le ↦ below k le
      | no gt ↦ let e : k ≡ n + 1 =
          omega (arith, h, gt) in subst P (sym e) here
    ]

-- what holds before n and at n holds up to n
before_or_at : (P : ℕ → Type 0) (n : ℕ) → ((k : ℕ) → k < n → P k) → P n → (k : ℕ) → k ≤ n → P k
before_or_at P n below here k h =
    elim (dec_lt k n) [
      | yes lt ↦ below k lt
      | no ge ↦ let e : k ≡ n = omega (
        arith,
        h,
        ge,
      ) in subst P (sym e) here
    ]

module _ {Token : Type 0} (opens closes ends : Token → Bool) {at : ℕ → Token} {p : ℕ} where
  pub inside_at_first : IsInside opens closes ends at p 0 0
  inside_at_first = record {
    inside = λ k h. let e : k ≡ 0 = omega arith in subst (λ j.
        count closes at p j ≤ count opens at p j) (sym e) (omega arith);
    balance = refl;
    before_end = λ k h. absurd (omega arith);
  }

  pub inside_more : {depth n more : ℕ} → IsInside opens closes ends at p depth n →
      ends (at (p + n)) ≡ false →
      more + cond (closes (at (p + n))) 1 0 ≡ depth + cond (opens (at (p + n))) 1 0 →
      IsInside opens closes ends at p more (n + 1)
  inside_more {depth} {n} {more} s goes counted =
      let closing = count_one closes at p n in
      let opening = count_one opens at p n in
      let here : count closes at p (n + 1) ≤ count opens at p (n + 1) =
      omega (arith, s.balance, counted, closing, opening) in
      record {
        inside = λ k h. up_to (λ j. count closes at p j ≤ count opens at p j) n s.inside here k h;
        balance = omega (arith, s.balance, counted, closing, opening);
        before_end = λ k h. up_to (λ j. j < n + 1 → ends (at (p + j)) ≡ false) n
            (λ j below less. before_or_at (λ i. ends (at (p + i)) ≡ false) n s.before_end
            goes j below)
            (λ less. absurd (omega arith)) k (omega arith) h;
      }

  pub reads_balanced : {size left n : ℕ} → IsInside opens closes ends at p 0 n →
      closes (at (p + n)) ≡ true → opens (at (p + n)) ≡ false →
      ends (at (p + n)) ≡ false → p + (n + 1) < size →
      Reads (λ m. Balanced opens closes ends) at size left p tt (p + (n + 1))
  reads_balanced {n = n} s closed not_opened not_ended fits =
      let closing = count_one closes at p n ∙ ap (λ b. cond b 1 0 + count closes at p n) closed in
      let opening = count_one opens at p n ∙ ap (λ b. cond b 1 0 + count opens at p n) not_opened in
      record {
        reading = λ edge. record {
          length = n;
          behind = refl;
          inside = s.inside;
          closed = omega (arith, closing, opening, s.balance);
          before_end = before_or_at (λ i. ends (at (p + i)) ≡ false) n s.before_end not_ended;
        };
        onward = omega arith;
        within = fits;
      }

  pub none_balanced : {size left depth n : ℕ} → IsInside opens closes ends at p depth n →
      ends (at (p + n)) ≡ true → p + n < size →
      NoneThrough (λ m. Balanced opens closes ends) at size left p (p + n)
  none_balanced {n = n} s ended fits = record {
    onward = omega arith;
    within = fits;
    none = λ m v b u q r.
        let short = λ (h : r.length < n).
        closed_inside opens closes v.at at p r.length n
        (λ j less. sym (b.tokens j (omega (arith, less)))) r.closed s.inside h in
        let long : n ≤ r.length = omega (arith, short) in
        ends_or_goes (r.before_end n long) (test_path ends (b.tokens (p + n) (omega arith)) ended);
  }
