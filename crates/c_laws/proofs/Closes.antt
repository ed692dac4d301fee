-- That a list or an option ends only where it cannot go on changes no reading, where the token
-- behind it is none with which it goes on.
use Rattle.std.specs.Prelude.{◌≡◌, ℕ, Bool, true, false, List, [], ◌∷◌, ◌++◌, Option, None, Some}
use Rattle.std.specs.Prelude.{refl}
use Rattle.std.proofs.Common.{subst}
use Rattle.c_grammar_forms.specs.Forms.{Form, Nothing, One, Such, Empty, Skip, Behind, Before, Pair}
use Rattle.c_grammar_forms.specs.Forms.{Then, Node, Shaped, Deeper, Choice, Many, Perhaps, Nearest}
use Rattle.c_grammar_forms.specs.Forms.{ManySeen, Balanced, greedy_text}
use Rattle.c_laws.specs.Plain.{plain_text}

-- a reading in a greedy text is one in a plain text; and one in a plain text is one in a greedy
-- text where the token behind it is none of those with which it could go on
pub record Closes {Token T : Type 0} (A : Form Token T) (more : Token → Bool) : Type 0 where
  pub to_plain : {at : ℕ → Token} {edge left p : ℕ} {u : T} {q : ℕ} →
      A (greedy_text at edge) left p u q → A (plain_text at edge) left p u q
  pub to_greedy : {at : ℕ → Token} {edge left p : ℕ} {u : T} {q : ℕ} →
      A (plain_text at edge) left p u q → more (at q) ≡ false → A (greedy_text at edge) left p u q

-- the form takes a token at least, and begins with none of these
pub record Begins {Token T : Type 0} (A : Form Token T) (more : Token → Bool) : Type 0 where
  pub first : {at : ℕ → Token} {edge left p : ℕ} {u : T} {q : ℕ} →
      A (plain_text at edge) left p u q → more (at p) ≡ false

-- the token where the form begins is none of these, where the one behind it is none of those
pub record Starts {Token T : Type 0} (A : Form Token T) (more behind : Token → Bool) : Type 0 where
  pub first : {at : ℕ → Token} {edge left p : ℕ} {u : T} {q : ℕ} →
      A (plain_text at edge) left p u q → behind (at q) ≡ false → more (at p) ≡ false

-- no token
abbrev pub no_token : {Token : Type 0} → Token → Bool
no_token token = false

module _ {Token : Type 0} {more : Token → Bool} where
  pub closes_nothing : {T : Type 0} → Closes (Nothing {Token = Token} {T = T}) more
  closes_nothing = record { to_plain = λ r. absurd r.never; to_greedy = λ r h. absurd r.never }

  pub closes_one : Closes (One {Token = Token}) more
  closes_one = record {
    to_plain = λ r. record { behind = r.behind };
    to_greedy =
        λ r h. record { behind = r.behind };
  }

  pub closes_such : (test : Token → Bool) → Closes (Such test) more
  closes_such test = record {
    to_plain = λ r. record { passes = r.passes; behind = r.behind };
    to_greedy = λ r h. record { passes = r.passes; behind = r.behind };
  }

  pub closes_empty : Closes (Empty {Token = Token}) more
  closes_empty = record {
    to_plain = λ r. record { behind = r.behind };
    to_greedy =
        λ r h. record { behind = r.behind };
  }

  pub closes_balanced : (opens closes ends : Token → Bool) →
      Closes (Balanced opens closes ends) more
  closes_balanced opens closes ends = record {
    to_plain = λ r. record {
      length = r.length;
      behind = r.behind;
      inside = r.inside;
      closed = r.closed;
      before_end = r.before_end;
    };
    to_greedy = λ r h. record {
      length = r.length;
      behind = r.behind;
      inside = r.inside;
      closed = r.closed;
      before_end = r.before_end;
    };
  }

  pub closes_skip : {T : Type 0} {A : Form Token T} → Closes A more → Closes (Skip A) more
  closes_skip c = record {
    to_plain = λ r. record { rest = c.to_plain r.rest };
    to_greedy = λ r h. record { rest = c.to_greedy r.rest h };
  }

  pub closes_behind : {T : Type 0} {A : Form Token T} (test : Token → Bool) → Closes A more →
      Closes (Behind test A) more
  closes_behind test c = record {
    to_plain = λ r. record { passes = r.passes; rest = c.to_plain r.rest };
    to_greedy = λ r h. record { passes = r.passes; rest = c.to_greedy r.rest h };
  }

  -- the token that closes a part is none with which the part goes on
  pub closes_before : {T : Type 0} {A : Form Token T} {inner : Token → Bool} → Closes A inner →
      (test : Token → Bool) →
      ((t : Token) → test t ≡ true → inner t ≡ false) → Closes (Before A test) more
  closes_before c test shut = record {
    to_plain = λ r. record {
      middle = r.middle;
      first = c.to_plain r.first;
      passes = r.passes;
      behind = r.behind;
    };
    to_greedy = λ {at} r h. record {
      middle = r.middle;
      first = c.to_greedy r.first (shut (at r.middle) r.passes);
      passes = r.passes;
      behind = r.behind;
    };
  }

  pub closes_pair : {S T : Type 0} {A : Form Token S} {B : Form Token T} {inner : Token → Bool} →
      Closes A inner → Closes B more → Starts B inner more → Closes (Pair A B) more
  closes_pair c d s = record {
    to_plain = λ r. record {
      middle = r.middle;
      first = c.to_plain r.first;
      second = d.to_plain r.second;
    };
    to_greedy = λ r h. record {
      middle = r.middle;
      first = c.to_greedy r.first (s.first r.second h);
      second = d.to_greedy r.second h;
    };
  }

  pub closes_then : {S T : Type 0} {A : Form Token S} {B : S → Form Token T}
      {inner : Token → Bool} →
      Closes A inner → ((x : S) → Closes (B x) more) → ((x : S) → Starts (B x) inner more) →
      Closes (Then A B) more
  closes_then c d s = record {
    to_plain = λ {at} {edge} {left} {p} {u} r.
        record {
          middle = r.middle;
          first = c.to_plain r.first;
          second = (d u.0).to_plain r.second;
        };
    to_greedy = λ {at} {edge} {left} {p} {u} r h. record {
      middle = r.middle;
      first = c.to_greedy r.first ((s u.0).first r.second h);
      second = (d u.0).to_greedy r.second h;
    };
  }

  pub closes_node : {S T : Type 0} (f : Token → S → T) {A : Form Token S} → Closes A more →
      Closes (Node f A) more
  closes_node f c = record {
    to_plain = λ r. record { parts = r.parts; read = c.to_plain r.read; made = r.made };
    to_greedy = λ r h. record { parts = r.parts; read = c.to_greedy r.read h; made = r.made };
  }

  pub closes_shaped : {T : Type 0} (test : T → Bool) {A : Form Token T} → Closes A more →
      Closes (Shaped test A) more
  closes_shaped test c = record {
    to_plain = λ r. record { read = c.to_plain r.read; passes = r.passes };
    to_greedy = λ r h. record { read = c.to_greedy r.read h; passes = r.passes };
  }

  pub closes_deeper : {T : Type 0} {A : Form Token T} → Closes A more → Closes (Deeper A) more
  closes_deeper c = record {
    to_plain = λ r. record { allowed = r.allowed; read = c.to_plain r.read };
    to_greedy = λ r h. record { allowed = r.allowed; read = c.to_greedy r.read h };
  }

  pub closes_choice : {K T : Type 0} (class : Token → K) {A : K → Form Token T} →
      ((k : K) → Closes (A k) more) → Closes (Choice class A) more
  closes_choice class c = record {
    to_plain = λ {at} {edge} {left} {p} r. record { chosen = (c (class (at p))).to_plain r.chosen };
    to_greedy = λ {at} {edge} {left} {p} r h. record {
      chosen =
          (c (class (at p))).to_greedy r.chosen h;
    };
  }

  -- with more tokens it closes all the more
  pub closes_more : {T : Type 0} {A : Form Token T} {fewer : Token → Bool} →
      ((t : Token) → more t ≡ false → fewer t ≡ false) →
      Closes A fewer → Closes A more
  closes_more less c = record {
    to_plain = λ r. c.to_plain r;
    to_greedy = λ {at} {edge} {left} {p} {u} {q} r h. c.to_greedy r (less (at q) h);
  }

  pub starts_by : {T : Type 0} {A : Form Token T} {behind : Token → Bool} → Begins A more →
      Starts A more behind
  starts_by b = record { first = λ r h. b.first r }

  pub starts_such : (test : Token → Bool) → ((t : Token) → test t ≡ true → more t ≡ false) →
      Begins (Such test) more
  starts_such test ends = record { first = λ {at} {edge} {left} {p} r. ends (at p) r.passes }

  -- the token that closes a part is none of these, and the part begins with none where it is none
  pub starts_closed : {T : Type 0} {A : Form Token T} {behind : Token → Bool} (test : Token → Bool)
      → Starts A more behind → ((t : Token) → test t ≡ true → behind t ≡ false) →
      Begins (Before A test) more
  starts_closed test s ends = record {
    first = λ {at} {edge} {left} {p} {u} {q} r. s.first r.first (ends (at r.middle) r.passes);
  }

  pub starts_before : {T : Type 0} {A : Form Token T} (test : Token → Bool) → Begins A more →
      Begins (Before A test) more
  starts_before test b = record { first = λ r. b.first r.first }

  pub starts_pair : {S T : Type 0} {A : Form Token S} (B : Form Token T) → Begins A more →
      Begins (Pair A B) more
  starts_pair B b = record { first = λ r. b.first r.first }

  pub starts_node : {S T : Type 0} (f : Token → S → T) {A : Form Token S} → Begins A more →
      Begins (Node f A) more
  starts_node f b = record { first = λ r. b.first r.read }

  pub starts_made : {S T : Type 0} (f : Token → S → T) {A : Form Token S} {behind : Token → Bool} →
      Starts A more behind → Starts (Node f A) more behind
  starts_made f s = record { first = λ r h. s.first r.read h }

  pub starts_both : {S T : Type 0} {A : Form Token S} {B : Form Token T}
      {middle behind : Token → Bool} →
      Starts A more middle → Starts B middle behind → Starts (Pair A B) more behind
  starts_both s t = record { first = λ r h. s.first r.first (t.first r.second h) }

  -- nothing goes on a part, so nothing is asked of what stands behind it
  pub starts_any : {T : Type 0} {A : Form Token T} → Starts A no_token more
  starts_any = record { first = λ r h. refl }

-- the class of its first token says that a form begins with none of these
pub starts_choice : {Token K T : Type 0} (class : Token → K) (test : K → Bool)
    {A : K → Form Token T} →
    ((k : K) (at : ℕ → Token) (edge left p : ℕ) (u : T) (q : ℕ) → A k
    (plain_text at edge) left p u q → test k ≡ false) →
    Begins (Choice class A) (λ t. test (class t))
starts_choice class test by = record {
  first = λ {at} {edge} {left} {p} {u} {q} r. by
      (class (at p)) at edge left p u q r.chosen;
}

module _ {Token T : Type 0} (go : Token → Bool) (A : Form Token T) {inner : Token → Bool}
    (c : Closes A inner) where
  perhaps_plain : (at : ℕ → Token) (edge left p : ℕ) (u : Option T) (q : ℕ) →
      Perhaps go A (greedy_text at edge) left p u q → Perhaps go A (plain_text at edge) left p u q
  unfolding Perhaps
  perhaps_plain at edge left p None q r = record { stops = λ h. r.stops refl; behind = r.behind }
  perhaps_plain at edge left p (Some u) q r =
      record { goes = r.goes; middle = r.middle; first = c.to_plain r.first; rest = r.rest }

  nearest_plain : (at : ℕ → Token) (edge left p : ℕ) (u : Option T) (q : ℕ) →
      Nearest go A (greedy_text at edge) left p u q → Nearest go A (plain_text at edge) left p u q
  unfolding Nearest
  nearest_plain at edge left p None q r = record { stops = r.stops; behind = r.behind }
  nearest_plain at edge left p (Some u) q r =
      record { goes = r.goes; middle = r.middle; first = c.to_plain r.first; rest = r.rest }

  many_plain : (at : ℕ → Token) (edge left : ℕ) (us : List T) (p q : ℕ) →
      Many go A (greedy_text at edge) left p us q → Many go A (plain_text at edge) left p us q
  unfolding Many
  many_plain at edge left [] p q r = record { stops = λ h. r.stops refl; behind = r.behind }
  many_plain at edge left (u ∷ us) p q r = record {
    goes = r.goes;
    middle = r.middle;
    first = c.to_plain r.first;
    rest = many_plain at edge left us r.middle q r.rest;
  }

module _ {Token T : Type 0} (go : Token → Bool) (A : Form Token T) {inner more : Token → Bool}
    (c : Closes A inner) where
  perhaps_greedy : ((t : Token) → more t ≡ false → go t ≡ false) →
      ((t : Token) → more t ≡ false → inner t ≡ false) →
      (at : ℕ → Token) (edge left p : ℕ) (u : Option T) (q : ℕ) →
      Perhaps go A (plain_text at edge) left p u q → more (at q) ≡ false →
      Perhaps go A (greedy_text at edge) left p u q
  unfolding Perhaps
  perhaps_greedy ends shut at edge left p None q r h = record {
    stops = λ e. ends (at p) (subst (λ m. more (at m) ≡ false) r.behind h);
    behind = r.behind;
  }
  perhaps_greedy ends shut at edge left p (Some u) q r h = record {
    goes = r.goes;
    middle = r.middle;
    first = c.to_greedy r.first (shut (at r.middle) (subst (λ m. more (at m) ≡ false) r.rest h));
    rest = r.rest;
  }

  nearest_greedy : ((t : Token) → more t ≡ false → inner t ≡ false) →
      (at : ℕ → Token) (edge left p : ℕ) (u : Option T) (q : ℕ) →
      Nearest go A (plain_text at edge) left p u q → more (at q) ≡ false →
      Nearest go A (greedy_text at edge) left p u q
  unfolding Nearest
  nearest_greedy shut at edge left p None q r h = record { stops = r.stops; behind = r.behind }
  nearest_greedy shut at edge left p (Some u) q r h = record {
    goes = r.goes;
    middle = r.middle;
    first = c.to_greedy r.first (shut (at r.middle) (subst (λ m. more (at m) ≡ false) r.rest h));
    rest = r.rest;
  }

-- the token where a list begins is none of these, where none of them begins a part and the one
-- behind the list is none
many_first : {Token T : Type 0} (go : Token → Bool) (A : Form Token T)
    (more behind : Token → Bool) →
    ((t : Token) → go t ≡ true → more t ≡ false) →
    ((t : Token) → behind t ≡ false → more t ≡ false) →
    (at : ℕ → Token) (edge left p : ℕ) (us : List T) (q : ℕ) →
    Many go A (plain_text at edge) left p us q → behind (at q) ≡ false →
    more (at p) ≡ false
unfolding Many
many_first go A more behind goes ends at edge left p [] q r h =
    ends (at p) (subst (λ m. behind (at m) ≡ false) r.behind h)
many_first go A more behind goes ends at edge left p (u ∷ us) q r h = goes (at p) r.goes

perhaps_first : {Token T : Type 0} (go : Token → Bool) (A : Form Token T)
    (more behind : Token → Bool) →
    ((t : Token) → go t ≡ true → more t ≡ false) →
    ((t : Token) → behind t ≡ false → more t ≡ false) →
    (at : ℕ → Token) (edge left p : ℕ) (u : Option T) (q : ℕ) →
    Perhaps go A (plain_text at edge) left p u q → behind (at q) ≡ false →
    more (at p) ≡ false
unfolding Perhaps
perhaps_first go A more behind goes ends at edge left p None q r h =
    ends (at p) (subst (λ m. behind (at m) ≡ false) r.behind h)
perhaps_first go A more behind goes ends at edge left p (Some u) q r h = goes (at p) r.goes

-- the same where the part itself begins with none of these
option_first : {Token T : Type 0} (go : Token → Bool) (A : Form Token T)
    (more behind : Token → Bool) → Begins A more →
    ((t : Token) → behind t ≡ false → more t ≡ false) →
    (at : ℕ → Token) (edge left p : ℕ) (u : Option T) (q : ℕ) →
    Perhaps go A (plain_text at edge) left p u q → behind (at q) ≡ false →
    more (at p) ≡ false
unfolding Perhaps
option_first go A more behind b ends at edge left p None q r h =
    ends (at p) (subst (λ m. behind (at m) ≡ false) r.behind h)
option_first go A more behind b ends at edge left p (Some u) q r h = b.first r.first

module _ {Token T : Type 0} (go : Token → Bool) (A : Form Token T) {inner more : Token → Bool}
    (c : Closes A inner)
    (parted : (t : Token) → go t ≡ true → inner t ≡ false)
    (shut : (t : Token) → more t ≡ false → inner t ≡ false)
    (ends : (t : Token) → more t ≡ false → go t ≡ false) where
  many_greedy : (at : ℕ → Token) (edge left : ℕ) (us : List T) (p q : ℕ) →
      Many go A (plain_text at edge) left p us q → more (at q) ≡ false →
      Many go A (greedy_text at edge) left p us q
  unfolding Many
  many_greedy at edge left [] p q r h = record {
    stops = λ e. ends (at p) (subst (λ m. more (at m) ≡ false) r.behind h);
    behind = r.behind;
  }
  many_greedy at edge left (u ∷ us) p q r h = record {
    goes = r.goes;
    middle = r.middle;
    first = c.to_greedy r.first (many_first go A inner more parted shut at edge left r.middle us q
        r.rest h);
    rest = many_greedy at edge left us r.middle q r.rest h;
  }

  pub closes_many : Closes (Many go A) more
  closes_many = record {
    to_plain = λ r. many_plain go A c _ _ _ _ _ _ r;
    to_greedy = λ r h. many_greedy _ _ _ _ _ _ r h;
  }

module _ {Token T : Type 0} (go : Token → Bool) {A : Form Token T} {inner more : Token → Bool}
    (c : Closes A inner)
    (shut : (t : Token) → more t ≡ false → inner t ≡ false) where
  pub closes_perhaps : ((t : Token) → more t ≡ false → go t ≡ false) → Closes (Perhaps go A) more
  closes_perhaps ends = record {
    to_plain = λ r. perhaps_plain go A c _ _ _ _ _ _ r;
    to_greedy = λ r h. perhaps_greedy go A c ends shut _ _ _ _ _ _ r h;
  }

  -- here the look at the next token is the grammar's own rule
  pub closes_nearest : Closes (Nearest go A) more
  closes_nearest = record {
    to_plain = λ r. nearest_plain go A c _ _ _ _ _ _ r;
    to_greedy = λ r h. nearest_greedy go A c shut _ _ _ _ _ _ r h;
  }

module _ {Token T : Type 0} (go : Token → Bool) (A : Form Token T) {more behind : Token → Bool}
    (goes : (t : Token) → go t ≡ true → more t ≡ false)
    (ends : (t : Token) → behind t ≡ false → more t ≡ false) where
  pub starts_many : Starts (Many go A) more behind
  starts_many = record { first = λ r h. many_first go A more behind goes ends _ _ _ _ _ _ r h }

  pub starts_perhaps : Starts (Perhaps go A) more behind
  starts_perhaps =
      record { first = λ r h. perhaps_first go A more behind goes ends _ _ _ _ _ _ r h }

pub starts_option : {Token T : Type 0} (go : Token → Bool) {A : Form Token T}
    {more behind : Token → Bool} → Begins A more →
    ((t : Token) → behind t ≡ false → more t ≡ false) → Starts (Perhaps go A) more behind
starts_option go {A} {more} {behind} b ends =
    record { first = λ r h. option_first go A more behind b ends _ _ _ _ _ _ r h }

-- parts that say how the tokens behind them are seen, with which nothing goes on
module _ {Token T : Type 0} (see : List T → Token → Token) (go : Token → Bool) (A : Form Token T)
    (c : Closes A no_token) where
  seen_plain : (at : ℕ → Token) (edge left : ℕ) (us done : List T) (p q : ℕ) →
      ManySeen see go A done (greedy_text at edge) left p us q →
      ManySeen see go A done (plain_text at edge) left p us q
  unfolding ManySeen
  seen_plain at edge left [] done p q r = record { stops = λ h. r.stops refl; behind = r.behind }
  seen_plain at edge left (u ∷ us) done p q r = record {
    goes = r.goes;
    middle = r.middle;
    first = record { read = c.to_plain {at = λ i. see done (at i)} r.first.read };
    rest = seen_plain at edge left us (done ++ u ∷ []) r.middle q r.rest;
  }

  seen_greedy : {more : Token → Bool} → ((t : Token) → more t ≡ false → go t ≡ false) →
      (at : ℕ → Token) (edge left : ℕ) (us done : List T) (p q : ℕ) →
      ManySeen see go A done (plain_text at edge) left p us q → more (at q) ≡ false →
      ManySeen see go A done (greedy_text at edge) left p us q
  unfolding ManySeen
  seen_greedy {more} ends at edge left [] done p q r h = record {
    stops = λ e. ends (at p) (subst (λ m. more (at m) ≡ false) r.behind h);
    behind = r.behind;
  }
  seen_greedy ends at edge left (u ∷ us) done p q r h = record {
    goes = r.goes;
    middle = r.middle;
    first = record { read = c.to_greedy {at = λ i. see done (at i)} r.first.read refl };
    rest = seen_greedy ends at edge left us (done ++ u ∷ []) r.middle q r.rest h;
  }

  pub closes_many_seen : {more : Token → Bool} → ((t : Token) → more t ≡ false → go t ≡ false) →
      (done : List T) → Closes (ManySeen see go A done) more
  closes_many_seen ends done = record {
    to_plain = λ r. seen_plain _ _ _ _ _ _ _ r;
    to_greedy = λ r h. seen_greedy ends _ _ _ _ _ _ _ r h;
  }
