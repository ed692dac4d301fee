-- Grammars as relations between the places of a text: the forms of EBNF (ISO/IEC 14977), and this
-- project's own that look at the next token. A place is the number of a token.
use Rattle.std.specs.Prelude.{◌≡◌, ℕ, ◌+◌, ◌-◌, ◌<◌, ◌≤◌, Bool, true, false, cond, zero, suc, List}
use Rattle.std.specs.Prelude.{[], ◌∷◌, ◌++◌, Option, None, Some}

-- a text to be read: the token at each place; up to which place the limit on levels is looked at;
-- and whether a list or an option ends only where it cannot go on
pub record World (Token : Type 0) : Type 0 where
  pub at : ℕ → Token
  pub edge : ℕ
  pub greedy : Bool

-- the greedy text with these tokens
abbrev pub greedy_text : {Token : Type 0} → (ℕ → Token) → ℕ → World Token
greedy_text at edge = record { at = at; edge = edge; greedy = true }

-- what can be read: in a text, with so many levels left, from a place, a part, up to the place
-- behind it
abbrev pub Form : Type 0 → Type 0 → Type 1
Form Token Part = World Token → ℕ → ℕ → Part → ℕ → Type 0

-- no part at all
pub record Nothing {Token T : Type 0} (w : World Token) (left p : ℕ) (u : T) (q : ℕ) : Type 0 where
  pub never : ⊥

-- any one token
pub record One {Token : Type 0} (w : World Token) (left p : ℕ) (u : Unit {0}) (q : ℕ) : Type 0 where
  pub behind : q ≡ p + 1

-- one token that passes the test
pub record Such {Token : Type 0} (test : Token → Bool) (w : World Token) (left p : ℕ) (u : Unit {0})
    (q : ℕ) : Type 0 where
  pub passes : test (w.at p) ≡ true
  pub behind : q ≡ p + 1

-- no token
pub record Empty {Token : Type 0} (w : World Token) (left p : ℕ) (u : Unit {0}) (q : ℕ) :
    Type 0 where
  pub behind : q ≡ p

-- any one token, then a part
pub record Skip {Token T : Type 0} (A : Form Token T) (w : World Token) (left p : ℕ) (u : T)
    (q : ℕ) : Type 0 where
  pub rest : A w left (p + 1) u q

-- a token that passes the test, then a part
pub record Behind {Token T : Type 0} (test : Token → Bool) (A : Form Token T)
    (w : World Token) (left p : ℕ) (u : T) (q : ℕ) : Type 0 where
  pub passes : test (w.at p) ≡ true
  pub rest : A w left (p + 1) u q

-- a part, then a token that passes the test
pub record Before {Token T : Type 0} (A : Form Token T) (test : Token → Bool)
    (w : World Token) (left p : ℕ) (u : T) (q : ℕ) : Type 0 where
  pub middle : ℕ
  pub first : A w left p u middle
  pub passes : test (w.at middle) ≡ true
  pub behind : q ≡ middle + 1

-- two parts, one behind the other
pub record Pair {Token S T : Type 0} (A : Form Token S) (B : Form Token T)
    (w : World Token) (left p : ℕ) (u : S × T) (q : ℕ) : Type 0 where
  pub middle : ℕ
  pub first : A w left p u.0 middle
  pub second : B w left middle u.1 q

-- two parts, one behind the other, where the first says of which form the second is
pub record Then {Token S T : Type 0} (A : Form Token S) (B : S → Form Token T)
    (w : World Token) (left p : ℕ) (u : S × T) (q : ℕ) : Type 0 where
  pub middle : ℕ
  pub first : A w left p u.0 middle
  pub second : B u.0 w left middle u.1 q

-- what is made of the first token and the parts
pub record Node {Token S T : Type 0} (f : Token → S → T) (A : Form Token S)
    (w : World Token) (left p : ℕ) (u : T) (q : ℕ) : Type 0 where
  pub parts : S
  pub read : A w left p parts q
  pub made : u ≡ f (w.at p) parts

-- a part that passes the test
pub record Shaped {Token T : Type 0} (test : T → Bool) (A : Form Token T)
    (w : World Token) (left p : ℕ) (u : T) (q : ℕ) : Type 0 where
  pub read : A w left p u q
  pub passes : test u ≡ true

-- a part one level deeper: where the limit is looked at, a level must be left
pub record Deeper {Token T : Type 0} (A : Form Token T) (w : World Token) (left p : ℕ) (u : T)
    (q : ℕ) : Type 0 where
  pub allowed : p ≤ w.edge → 0 < left
  pub read : A w (left - 1) p u q

-- the form that the class of the first token calls for
pub record Choice {Token K T : Type 0} (class : Token → K) (A : K → Form Token T)
    (w : World Token) (left p : ℕ) (u : T) (q : ℕ) : Type 0 where
  pub chosen : A (class (w.at p)) w left p u q

-- the first item in front of the others
abbrev pub listed : {Token T : Type 0} → Token → T × List T → List T
listed first parts = parts.0 ∷ parts.1

-- nothing more: in a greedy text because the next token does not go on
pub record Ends {Token : Type 0} (go : Token → Bool) (w : World Token) (p q : ℕ) : Type 0 where
  pub stops : w.greedy ≡ true → go (w.at p) ≡ false
  pub behind : q ≡ p

-- one more part, and then the rest
pub record Goes {Token T : Type 0} (go : Token → Bool) (A : Form Token T) (Rest : ℕ → Type 0)
    (w : World Token) (left p : ℕ) (u : T) : Type 0 where
  pub goes : go (w.at p) ≡ true
  pub middle : ℕ
  pub first : A w left p u middle
  pub rest : Rest middle

-- none or more parts, one behind the other, each beginning with a token that goes on
unfoldable pub Many : {Token T : Type 0} → (Token → Bool) → Form Token T → Form Token (List T)
Many go A w left p [] q = Ends go w p q
Many go A w left p (u ∷ us) q = Goes go A (λ m. Many go A w left m us q) w left p u

-- the text with its tokens seen through f
abbrev pub seen_through : {Token : Type 0} → (Token → Token) → World Token → World Token
seen_through f w = record { at = λ i. f (w.at i); edge = w.edge; greedy = w.greedy }

-- a part of the text with its tokens seen through f
pub record Through {Token T : Type 0} (f : Token → Token) (A : Form Token T)
    (w : World Token) (left p : ℕ) (u : T) (q : ℕ) : Type 0 where
  pub read : A (seen_through f w) left p u q

-- none or more parts as in `Many`, where the parts so far say how the tokens of the next are seen;
-- these parts are done already
unfoldable pub ManySeen : {Token T : Type 0} → (List T → Token → Token) → (Token → Bool) →
    Form Token T → List T → Form Token (List T)
ManySeen see go A done w left p [] q = Ends go w p q
ManySeen see go A done w left p (u ∷ us) q = Goes go (Through (see done) A)
    (λ m. ManySeen see go A (done ++ u ∷ []) w left m us q) w left p u

-- no part or one, which begins with a token that goes on
unfoldable pub Perhaps : {Token T : Type 0} → (Token → Bool) → Form Token T → Form Token (Option T)
Perhaps go A w left p None q = Ends go w p q
Perhaps go A w left p (Some u) q = Goes go A (λ m. q ≡ m) w left p u

-- nothing more, because the next token does not go on
pub record Stops {Token : Type 0} (go : Token → Bool) (w : World Token) (p q : ℕ) : Type 0 where
  pub stops : go (w.at p) ≡ false
  pub behind : q ≡ p

-- the same, but in no text does it end where it could go on: the look at the next token is the
-- grammar's own rule
unfoldable pub Nearest : {Token T : Type 0} → (Token → Bool) → Form Token T → Form Token (Option T)
Nearest go A w left p None q = Stops go w p q
Nearest go A w left p (Some u) q = Goes go A (λ m. q ≡ m) w left p u

-- how many of the n tokens from p on pass the test
abbrev pub count : {Token : Type 0} → (Token → Bool) → (ℕ → Token) → ℕ → ℕ → ℕ
count test at p zero = 0
count test at p (suc n) = cond (test (at (p + n))) 1 0 + count test at p n

-- behind a bracket that opens: the tokens up to the one that closes it, and this one
pub record Balanced {Token : Type 0} (opens closes ends : Token → Bool)
    (w : World Token) (left p : ℕ) (u : Unit {0}) (q : ℕ) : Type 0 where
  pub length : ℕ
  pub behind : q ≡ p + (length + 1)
  pub inside : (n : ℕ) → n ≤ length → count closes w.at p n ≤ count opens w.at p n
  pub closed : count closes w.at p (length + 1) ≡ count opens w.at p (length + 1) + 1
  pub before_end : (n : ℕ) → n ≤ length → ends (w.at (p + n)) ≡ false
