-- Lemmas: lists that are read part by part.
use Rattle.std.specs.Prelude.{◌≡◌, ℕ, ◌<◌, ◌≤◌, Bool, true, false, List, [], ◌∷◌, ◌++◌, refl}
use Rattle.std.proofs.Common.{sym, ◌∙◌, ap, subst, arith, append_assoc, append-nil}
use Rattle.c_grammar_forms.specs.Forms.{World, Form, One, Such, Skip, Behind, Before, Pair, Node}
use Rattle.c_grammar_forms.specs.Forms.{Shaped, Choice, Many, listed}
use Rattle.c_grammar_forms.specs.lemmas.Steady.{Good, Steady, cons_path, from_place, test_path}
use Rattle.c_grammar_forms.specs.lemmas.Steady.{ends_or_goes}
use Rattle.c_grammar_forms.specs.Reading.{Reads, Begins, NoneThrough}
use Rattle.c_grammar_forms.specs.lemmas.Found.{reads_pair, reads_node, reads_end, reads_more}
use Rattle.c_grammar_forms.specs.lemmas.NotFound.{only}

-- a reading of the form takes a token at least
pub record Strict {Token T : Type 0} (A : Form Token T) : Type 0 where
  pub ahead : {w : World Token} {left p : ℕ} {u : T} {q : ℕ} → A w left p u q → p < q

-- the list has these items in front, and behind them a list of parts that is read from m on
pub record HasRest {Token T : Type 0} (go : Token → Bool) (A : Form Token T) (w : World Token)
    (left m : ℕ)
    (items whole : List T) (q : ℕ) : Type 0 where
  pub rest : List T
  pub joined : whole ≡ items ++ rest
  pub more : Many go A w left m rest q

-- in the middle of a list W that begins at p: these items are read, up to m, and parts A are to
-- come. Readings of the rest are readings of the whole; and in each text that begins so the whole
-- has these items, and a rest
pub record SoFar {Token T : Type 0} (W : ℕ → Form Token (List T)) (go : Token → Bool)
    (A : ℕ → Form Token T)
    (at : ℕ → Token) (size left p : ℕ) (items : List T) (m : ℕ) : Type 0 where
  pub reads : (us : List T) (q : ℕ) → Reads (λ n. Many go (A n)) at size left m us q →
      Reads W at size left p (items ++ us) q
  pub front : (i n : ℕ) (v : World Token) → m ≤ i → Begins at i v → (ts : List T) (q : ℕ) →
      W n v left p ts q →
      HasRest go (A n) v left m items ts q
  pub onward : p ≤ m
  pub within : m < size

module _ {Token T : Type 0} {at : ℕ → Token} {size left p : ℕ} where
  -- a list of parts, at its start
  pub no_parts : (go : Token → Bool) (A : ℕ → Form Token T) → p < size →
      SoFar (λ n. Many go (A n)) go A at size left p [] p
  no_parts go A fits = record {
    reads = λ us q r. r;
    front = λ i n v below b ts q r. record { rest = ts; joined = refl; more = r };
    onward = omega arith;
    within = fits;
  }

  -- a list of parts with something between them, behind its first part
  pub first_part : (go : Token → Bool) {A : ℕ → Form Token T} (B : ℕ → Form Token T)
      {u : T} {m : ℕ} →
      Steady A → Reads A at size left p u m →
      SoFar (λ n. Node listed (Pair (A n) (Many go (B n)))) go B at size left p (u ∷ []) m
  first_part go B steady r = record {
    reads = λ us q s. reads_node listed refl (reads_pair r s);
    front = λ i n v below b ts q s.
        let e = only {at = at} steady r below b s.read.first in
        record {
          rest = s.parts.1;
          joined = s.made ∙ cons_path (sym e.0) refl;
          more = from_place (Many go (B n)) e.1 s.read.second;
        };
    onward = r.onward;
    within = r.within;
  }

-- a list behind a first item that is read already, at its start
pub behind_first : {Token T : Type 0} (go : Token → Bool) (first : T) (B : ℕ → Form Token T)
    {at : ℕ → Token} {size left p : ℕ} → p < size →
    SoFar (λ n. Node (λ leaf rest. first ∷ rest) (Many go (B n))) go B at size left p (first ∷ []) p
behind_first go first B fits = record {
  reads = λ us q s. reads_node (λ leaf rest. first ∷ rest) refl s;
  front = λ i n v below b ts q s. record { rest = s.parts; joined = s.made; more = s.read };
  onward = omega arith;
  within = fits;
}

-- the same with equal items
pub at_items : {Token T : Type 0} {W : ℕ → Form Token (List T)} {go : Token → Bool}
    {A : ℕ → Form Token T} {at : ℕ → Token} {size left p : ℕ} {us vs : List T} {m : ℕ} →
    SoFar W go A at size left p us m → vs ≡ us → SoFar W go A at size left p vs m
at_items {W = W} {go} {A} {at} {size} {left} {p} {m = m} s e =
    subst (λ items. SoFar W go A at size left p items m) (sym e) s

-- a list that goes on has a first part, and a rest
goes_on : {Token T : Type 0} (go : Token → Bool) (A : Form Token T) (v : World Token) (left m : ℕ)
    (items whole : List T) (us : List T) (q : ℕ) →
    v.greedy ≡ true → go (v.at m) ≡ true → whole ≡ items ++ us → Many go A v left m us q →
    (u : T) × (k : ℕ) × A v left m u k × HasRest go A v left k (items ++ u ∷ []) whole q
unfolding Many
goes_on go A v left m items whole [] q greedy goes joined r =
    absurd (ends_or_goes (r.stops greedy) goes)
goes_on go A v left m items whole (u ∷ us) q greedy goes joined r = (
  u,
  r.middle,
  r.first,
  record {
    rest = us;
    joined = joined ∙
        sym (append_assoc items (u ∷ []) us);
    more = r.rest;
  },
)

module _ {Token T : Type 0} {W : ℕ → Form Token (List T)} {go : Token → Bool} {A : ℕ → Form Token T}
    {at : ℕ → Token} {size left p : ℕ} {items : List T} {m : ℕ}
    (s : SoFar W go A at size left p items m) where
  pub one_more : {u : T} {k : ℕ} → Steady A → go (at m) ≡ true → Reads A at size left m u k →
      SoFar W go A at size left p (items ++ u ∷ []) k
  one_more {u} {k} steady goes r = record {
    reads = λ us q rest. subst (λ list. Reads W at size left p list q)
        (sym (append_assoc items (u ∷ []) us))
        (s.reads (u ∷ us) q (reads_more go goes r rest));
    front = λ i n v below b ts q x.
        let f = s.front i n v (omega (arith, r.onward)) b ts q x in
        let (t, j, y, z) = goes_on go (A n) v left m items ts f.rest q b.greedy
        (test_path go (b.tokens m (omega (arith, r.onward))) goes) f.joined f.more in
        let e = only {at = at} steady r below b y in
        record {
          rest = z.rest;
          joined = subst (λ o. ts ≡ (items ++ o ∷ []) ++ z.rest) (sym e.0) z.joined;
          more = from_place (Many go (A n)) e.1 z.more;
        };
    onward = omega (arith, s.onward, r.onward);
    within = r.within;
  }

  -- the list ends here
  pub no_more : go (at m) ≡ false → Reads W at size left p items m
  no_more stops =
      subst (λ list. Reads W at size left p list m) (append-nil items)
      (s.reads [] m (reads_end A go stops s.within))

  -- the next part is not there
  pub no_part : {i : ℕ} → go (at m) ≡ true → NoneThrough A at size left m i →
      NoneThrough W at size left p i
  no_part {i} goes g = record {
    onward = omega (arith, s.onward, g.onward);
    within = g.within;
    none = λ n v b ts q x.
        let f = s.front i n v g.onward b ts q x in
        let (t, j, y, z) = goes_on go (A n) v left m items ts f.rest q b.greedy
        (test_path go (b.tokens m g.onward) goes) f.joined f.more in
        g.none n v b t j y;
  }

  -- the token here begins no part with which a list that passes the test goes on
  pub no_such_part : (test : List T → Bool) → go (at m) ≡ true →
      ((n : ℕ) (v : World Token) → Begins at m v → (u : T) (k : ℕ) → A n v left m u k →
      (us : List T) → test (items ++ u ∷ us) ≡ false) →
      NoneThrough (λ n. Shaped test (W n)) at size left p m
  no_such_part test goes fails = record {
    onward = s.onward;
    within = s.within;
    none = λ n v b ts q x.
        let f = s.front m n v (omega arith) b ts q x.read in
        let (t, j, y, z) = goes_on go (A n) v left m items ts f.rest q b.greedy
        (test_path go (b.tokens m (omega arith)) goes) f.joined f.more in
        let whole = z.joined ∙ append_assoc items (t ∷ []) z.rest in
        ends_or_goes (ap test whole ∙ fails n v b t j y z.rest) x.passes;
  }

pub strict_one : {Token : Type 0} → Strict (One {Token = Token})
strict_one = record { ahead = λ r. omega (arith, r.behind) }

pub strict_such : {Token : Type 0} (test : Token → Bool) → Strict (Such test)
strict_such test = record { ahead = λ r. omega (arith, r.behind) }

pub strict_skip : {Token T : Type 0} {A B : Form Token T} → Good A B → Strict (Skip A)
strict_skip g = record { ahead = λ r. omega (arith, g.onward r.rest) }

pub strict_behind : {Token T : Type 0} {A B : Form Token T} (test : Token → Bool) → Good A B →
    Strict (Behind test A)
strict_behind test g = record { ahead = λ r. omega (arith, g.onward r.rest) }

pub strict_before : {Token T : Type 0} {A B : Form Token T} (test : Token → Bool) → Good A B →
    Strict (Before A test)
strict_before test g = record { ahead = λ r. omega (arith, g.onward r.first, r.behind) }

pub strict_first : {Token S T : Type 0} {A : Form Token S} {B C : Form Token T} → Strict A →
    Good B C → Strict (Pair A B)
strict_first a g = record { ahead = λ r. omega (arith, a.ahead r.first, g.onward r.second) }

pub strict_second : {Token S T : Type 0} {A B : Form Token S} {C : Form Token T} → Good A B →
    Strict C → Strict (Pair A C)
strict_second g a = record { ahead = λ r. omega (arith, g.onward r.first, a.ahead r.second) }

pub strict_node : {Token S T : Type 0} (f : Token → S → T) {A : Form Token S} → Strict A →
    Strict (Node f A)
strict_node f a = record { ahead = λ r. a.ahead r.read }

pub strict_shaped : {Token T : Type 0} (test : T → Bool) {A : Form Token T} → Strict A →
    Strict (Shaped test A)
strict_shaped test a = record { ahead = λ r. a.ahead r.read }

pub strict_choice : {Token K T : Type 0} (class : Token → K) {A : K → Form Token T} →
    ((k : K) → Strict (A k)) → Strict (Choice class A)
strict_choice class a = record { ahead = λ {w} {left} {p} r. (a (class (w.at p))).ahead r.chosen }
