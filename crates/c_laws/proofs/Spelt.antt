-- What a form reads is spelled by what it makes of it, and it reads each text that is spelled so.
use Rattle.std.specs.Prelude.{◌≡◌, ℕ, ◌-◌, ◌<◌, Bool, true, false, List, [], ◌∷◌, ◌++◌}
use Rattle.std.specs.Prelude.{Option, None, Some, refl}
use Rattle.std.proofs.Common.{sym, ◌∙◌, ap, subst}
use Rattle.c_grammar_forms.specs.Forms.{Form, Nothing, One, Such, Skip, Behind, Before, Pair, Then}
use Rattle.c_grammar_forms.specs.Forms.{Node, Shaped, Deeper, Choice, Many, Perhaps, Nearest}
use Rattle.c_grammar_forms.specs.Forms.{World, Empty}
use Rattle.c_grammar_symbols.specs.declared.words.Terminal.TheVariants as terminal
use Rattle.c_grammar_symbols.specs.declared.symbol.Symbol.{Symbol}
use Rattle.c_grammar_symbols.specs.Symbols.{Leaf, symbol_of}
use Rattle.c_grammar_symbols.specs.Sources.{is, is_terminal}
use Rattle.c_laws.specs.Plain.{plain_text}
use Rattle.c_laws.specs.Spelling.{Piece, placed, token, in_order, optional}
use Rattle.c_laws.proofs.Spells.{Laid, spells_none, ends_there, spells_piece}
use Rattle.c_laws.proofs.Spells.{spells_one, joins, halves, opened, only}

-- what is known of two tokens: nothing; that the second opens no call and is no else where the
-- first is none; that they stand for one symbol
pub data Look : Type 0 where
  blind : Look
  careful : Look
  sharp : Look

pub record Follows (x y : Leaf) : Type 0 where
  pub paren : is terminal.LeftParen x ≡ false → is terminal.LeftParen y ≡ false
  pub other : is terminal.Else x ≡ false → is terminal.Else y ≡ false

abbrev pub Agree : Look → Leaf → Leaf → Type 0
Agree blind x y = Unit {0}
Agree careful x y = Follows x y
Agree sharp x y = symbol_of x ≡ symbol_of y

pub agrees : (look : Look) (x y : Leaf) → symbol_of x ≡ symbol_of y → Agree look x y
agrees blind x y e = tt
agrees careful x y e = record {
  paren = λ h. ap (is_terminal terminal.LeftParen) (sym e) ∙ h;
  other = λ h. ap (is_terminal terminal.Else) (sym e) ∙ h;
}
agrees sharp x y e = e

-- nothing is known of the first token
abbrev pub Any : Leaf → Type 0
Any leaf = Unit {0}

-- it stands for this symbol
abbrev pub Is : Symbol → Leaf → Type 0
Is s leaf = symbol_of leaf ≡ s

-- where its first token is so, a reading of the form is spelled; and another text that is spelled
-- so has the same part there, where the tokens behind agree; those in front agree then too
pub record Spelt {T : Type 0} (K : Leaf → Type 0) (A : Form Leaf T) (S : T → List Piece)
    (left : ℕ) (behind front : Look) : Type 0 where
  pub pieces : {at : ℕ → Leaf} {edge p : ℕ} {u : T} {q : ℕ} → K (at p) →
      A (plain_text at edge) left p u q → Laid at (S u) p q
  pub again : {at bt : ℕ → Leaf} {edge other p r : ℕ} {u : T} {q s : ℕ} → K (at p) →
      A (plain_text at edge) left p u q → Laid bt (S u) r s → Agree behind (at q) (bt s) →
      A (plain_text bt other) left r u s
  pub first : {at bt : ℕ → Leaf} {edge p r : ℕ} {u : T} {q s : ℕ} → K (at p) →
      A (plain_text at edge) left p u q → Laid bt (S u) r s → Agree behind (at q) (bt s) →
      Agree front (at p) (bt r)

-- a token passes the test where it stands for this symbol, and only there
pub record Exactly (test : Leaf → Bool) (s : Symbol) : Type 0 where
  pub is : (leaf : Leaf) → test leaf ≡ true → symbol_of leaf ≡ s
  pub passes : (leaf : Leaf) → symbol_of leaf ≡ s → test leaf ≡ true

module _ {left : ℕ} {behind front : Look} where
  pub spelt_nothing : {T : Type 0} {K : Leaf → Type 0} {S : T → List Piece} →
      Spelt K (Nothing {Token = Leaf} {T = T}) S left behind front
  spelt_nothing = record {
    pieces = λ k r. absurd r.never;
    again = λ k r s h. absurd r.never;
    first = λ k r s h. absurd r.never;
  }

  -- the first token is known
  pub spelt_any : {T : Type 0} (K : Leaf → Type 0) {A : Form Leaf T} {S : T → List Piece} →
      Spelt Any A S left behind front → Spelt K A S left behind front
  spelt_any K c = record {
    pieces = λ k r. c.pieces tt r;
    again = λ k r s h. c.again tt r s h;
    first = λ k r s h. c.first tt r s h;
  }

  pub spelt_shaped : {T : Type 0} {K : Leaf → Type 0} (test : T → Bool) {A : Form Leaf T}
      {S : T → List Piece} → Spelt K A S left behind front →
      Spelt K (Shaped test A) S left behind front
  spelt_shaped test c = record {
    pieces = λ k r. c.pieces k r.read;
    again = λ k r s h. record { read = c.again k r.read s h; passes = r.passes };
    first = λ k r s h. c.first k r.read s h;
  }

  pub spelt_deeper : {T : Type 0} {K : Leaf → Type 0} {A : Form Leaf T} {S : T → List Piece} →
      0 < left → Spelt K A S (left - 1) behind front → Spelt K (Deeper A) S left behind front
  spelt_deeper some c = record {
    pieces = λ k r. c.pieces k r.read;
    again = λ k r s h. record { allowed = λ _. some; read = c.again k r.read s h };
    first = λ k r s h. c.first k r.read s h;
  }

  -- less is asked of the tokens in front, or more of those behind
  pub spelt_front : {T : Type 0} {K : Leaf → Type 0} {A : Form Leaf T} {S : T → List Piece} →
      Spelt K A S left behind sharp → Spelt K A S left behind front
  spelt_front c = record {
    pieces = λ k r. c.pieces k r;
    again = λ k r s h. c.again k r s h;
    first = λ {at} {bt} {edge} {p} {r} k x y h. agrees front (at p) (bt r) (c.first k x y h);
  }

  pub spelt_behind : {T : Type 0} {K : Leaf → Type 0} {A : Form Leaf T} {S : T → List Piece} →
      Spelt K A S left blind front → Spelt K A S left behind front
  spelt_behind c = record {
    pieces = λ k r. c.pieces k r;
    again = λ k r s h. c.again k r s tt;
    first = λ k r s h. c.first k r s tt;
  }

-- where symbols agree behind, all that is asked of them agrees
pub spelt_sharp : {T : Type 0} {K : Leaf → Type 0} {A : Form Leaf T} {S : T → List Piece}
    {left : ℕ} {behind front : Look} → Spelt K A S left behind front →
    Spelt K A S left sharp front
spelt_sharp {behind = behind} c = record {
  pieces = λ k r. c.pieces k r;
  again = λ {at} {bt} {edge} {other} {p} {r} {u} {q} {s} k x y h.
      c.again k x y (agrees behind (at q) (bt s) h);
  first = λ {at} {bt} {edge} {p} {r} {u} {q} {s} k x y h.
      c.first k x y (agrees behind (at q) (bt s) h);
}

-- what a reading gives may be used
pub spelt_if : {P T : Type 0} {K : Leaf → Type 0} {A : Form Leaf T} {S : T → List Piece}
    {left : ℕ} {behind front : Look} →
    ((at : ℕ → Leaf) (edge p : ℕ) (u : T) (q : ℕ) → A (plain_text at edge) left p u q → P) →
    (P → Spelt K A S left behind front) → Spelt K A S left behind front
spelt_if from c = record {
  pieces = λ {at} {edge} {p} {u} {q} k x. (c (from at edge p u q x)).pieces k x;
  again = λ {at} {bt} {edge} {other} {p} {r} {u} {q} k x y h.
      (c (from at edge p u q x)).again k x y h;
  first = λ {at} {bt} {edge} {p} {r} {u} {q} k x y h. (c (from at edge p u q x)).first k x y h;
}

module _ {left : ℕ} {behind : Look} where
  -- a token that is known to stand for this symbol
  pub spelt_one : (s : Symbol) → Spelt (Is s) One (λ u. token s ∷ []) left behind sharp
  spelt_one s = record {
    pieces = λ k r. spells_one (token s) (k, r.behind);
    again = λ k r t h. let e = only (token s) t in record { behind = e.1 };
    first = λ k r t h. let e = only (token s) t in k ∙ sym e.0;
  }

  -- it, and a part behind it
  pub spelt_skip : (s : Symbol) {T : Type 0} {A : Form Leaf T} {S : T → List Piece}
      {front : Look} → Spelt Any A S left behind front →
      Spelt (Is s) (Skip A) (λ u. token s ∷ S u) left behind sharp
  spelt_skip s {A = A} {S} c = record {
    pieces = λ k r. spells_piece (token s) (k, refl) (c.pieces tt r.rest);
    again = λ {at} {bt} {edge} {other} {p} {r} {u} {q} {s = t} k x y h.
        let o = opened (token s) (S u) y in
        record {
          rest = subst (λ m. A (plain_text bt other) left m u t) o.here.1
              (c.again tt x.rest o.more h);
        };
    first = λ {at} {bt} {edge} {p} {r} {u} k x y h.
        let o = opened (token s) (S u) y in k ∙ sym o.here.0;
  }

  pub spelt_opened : {test : Leaf → Bool} {s : Symbol} → Exactly test s → {T : Type 0}
      {A : Form Leaf T} {S : T → List Piece} {front : Look} → Spelt Any A S left behind front →
      Spelt Any (Behind test A) (λ u. token s ∷ S u) left behind sharp
  spelt_opened {test} {s} exactly {A = A} {S} c = record {
    pieces = λ {at} {edge} {p} k r.
        spells_piece (token s) (exactly.is (at p) r.passes, refl) (c.pieces tt r.rest);
    again = λ {at} {bt} {edge} {other} {p} {r} {u} {q} {s = t} k x y h.
        let o = opened (token s) (S u) y in
        record {
          passes = exactly.passes (bt r) o.here.0;
          rest = subst (λ m. A (plain_text bt other) left m u t) o.here.1
              (c.again tt x.rest o.more h);
        };
    first = λ {at} {bt} {edge} {p} {r} {u} k x y h.
        let o = opened (token s) (S u) y in exactly.is (at p) x.passes ∙ sym o.here.0;
  }

  -- a token that passes such a test
  pub spelt_such : {test : Leaf → Bool} {s : Symbol} → Exactly test s →
      Spelt Any (Such test) (λ u. token s ∷ []) left behind sharp
  spelt_such {test} {s} exactly = record {
    pieces = λ {at} {edge} {p} k r. spells_one (token s) (exactly.is (at p) r.passes, r.behind);
    again = λ {at} {bt} {edge} {other} {p} {r} k x y h.
        let e = only (token s) y in record { passes = exactly.passes (bt r) e.0; behind = e.1 };
    first = λ {at} {bt} {edge} {p} k x y h.
        let e = only (token s) y in exactly.is (at p) x.passes ∙ sym e.0;
  }

  -- a part, and such a token behind it
  pub spelt_closed : {test : Leaf → Bool} {s : Symbol} → Exactly test s → {T : Type 0}
      {K : Leaf → Type 0} {A : Form Leaf T} {S : T → List Piece} {inner front : Look} →
      Spelt K A S left inner front →
      Spelt K (Before A test) (λ u. S u ++ token s ∷ []) left behind front
  spelt_closed {test} {s} exactly {S = S} {inner} c = record {
    pieces = λ {at} {edge} {p} {u} k r. joins (S u) (c.pieces k r.first)
        (spells_one (token s) (exactly.is (at r.middle) r.passes, r.behind));
    again = λ {at} {bt} {edge} {other} {p} {r} {u} k x y h.
        let t = halves (S u) (token s ∷ []) y in
        let e = only (token s) t.second in
        record {
          middle = t.middle;
          first = c.again k x.first t.first
              (agrees inner (at x.middle) (bt t.middle)
              (exactly.is (at x.middle) x.passes ∙ sym e.0));
          passes = exactly.passes (bt t.middle) e.0;
          behind = e.1;
        };
    first = λ {at} {bt} {edge} {p} {r} {u} k x y h.
        let t = halves (S u) (token s ∷ []) y in
        let e = only (token s) t.second in
        c.first k x.first t.first
        (agrees inner (at x.middle) (bt t.middle)
        (exactly.is (at x.middle) x.passes ∙ sym e.0));
  }

  -- two parts, where what the second spells depends on the first
  pub spelt_pair_by : {T V : Type 0} {K : Leaf → Type 0} {A : Form Leaf T} {B : Form Leaf V}
      {S : T → List Piece} {R : T → V → List Piece} {inner front : Look} →
      Spelt K A S left inner front → ((t : T) → Spelt Any B (R t) left behind inner) →
      Spelt K (Pair A B) (λ u. S u.0 ++ R u.0 u.1) left behind front
  spelt_pair_by {S = S} {R} c d = record {
    pieces = λ {at} {edge} {p} {u} k r.
        joins (S u.0) (c.pieces k r.first) ((d u.0).pieces tt r.second);
    again = λ {at} {bt} {edge} {other} {p} {r} {u} k x y h.
        let t = halves (S u.0) (R u.0 u.1) y in
        record {
          middle = t.middle;
          first = c.again k x.first t.first ((d u.0).first tt x.second t.second h);
          second = (d u.0).again tt x.second t.second h;
        };
    first = λ {at} {bt} {edge} {p} {r} {u} k x y h.
        let t = halves (S u.0) (R u.0 u.1) y in
        c.first k x.first t.first ((d u.0).first tt x.second t.second h);
  }

  pub spelt_pair : {T V : Type 0} {K : Leaf → Type 0} {A : Form Leaf T} {B : Form Leaf V}
      {S : T → List Piece} {R : V → List Piece} {inner front : Look} →
      Spelt K A S left inner front → Spelt Any B R left behind inner →
      Spelt K (Pair A B) (λ u. S u.0 ++ R u.1) left behind front
  spelt_pair {R = R} c d = spelt_pair_by {R = λ t. R} c (λ t. d)

  -- two parts, where what the first spells depends on the second
  pub spelt_then_by : {T V : Type 0} {K : Leaf → Type 0} {A : Form Leaf T} {B : T → Form Leaf V}
      {S : V → T → List Piece} {R : V → List Piece} {inner front : Look} →
      ((v : V) → Spelt K A (S v) left inner front) →
      ((t : T) → Spelt Any (B t) R left behind inner) →
      Spelt K (Then A B) (λ u. S u.1 u.0 ++ R u.1) left behind front
  spelt_then_by {S = S} {R} c d = record {
    pieces = λ {at} {edge} {p} {u} k r.
        joins (S u.1 u.0) ((c u.1).pieces k r.first) ((d u.0).pieces tt r.second);
    again = λ {at} {bt} {edge} {other} {p} {r} {u} k x y h.
        let t = halves (S u.1 u.0) (R u.1) y in
        record {
          middle = t.middle;
          first = (c u.1).again k x.first t.first ((d u.0).first tt x.second t.second h);
          second = (d u.0).again tt x.second t.second h;
        };
    first = λ {at} {bt} {edge} {p} {r} {u} k x y h.
        let t = halves (S u.1 u.0) (R u.1) y in
        (c u.1).first k x.first t.first ((d u.0).first tt x.second t.second h);
  }

  pub spelt_then : {T V : Type 0} {K : Leaf → Type 0} {A : Form Leaf T} {B : T → Form Leaf V}
      {S : T → List Piece} {R : V → List Piece} {inner front : Look} →
      Spelt K A S left inner front → ((t : T) → Spelt Any (B t) R left behind inner) →
      Spelt K (Then A B) (λ u. S u.0 ++ R u.1) left behind front
  spelt_then {S = S} c d = spelt_then_by {S = λ v. S} (λ v. c) d

-- what is made of parts is spelled as they are, and of the first token nothing is kept; or behind
-- the place of the first token, once or twice, of which nothing else is kept
pub data Made {T V : Type 0} (f : Leaf → T → V) (S : T → List Piece) (R : V → List Piece)
    (parts : T) : Type 0 where
  plainly : ((x : Leaf) → R (f x parts) ≡ S parts) → ((x y : Leaf) → f x parts ≡ f y parts) →
      Made f S R parts
  at_place : ((x : Leaf) → R (f x parts) ≡ placed x.place ∷ S parts) →
      ((x y : Leaf) → x.place ≡ y.place → f x parts ≡ f y parts) → Made f S R parts
  at_place_twice : ((x : Leaf) → R (f x parts) ≡ placed x.place ∷ placed x.place ∷ S parts) →
      ((x y : Leaf) → x.place ≡ y.place → f x parts ≡ f y parts) → Made f S R parts

-- the parts in another text
record Again {T V : Type 0} (f : Leaf → T → V) (S : T → List Piece) (bt : ℕ → Leaf) (r s : ℕ)
    (u : V) (parts : T) : Type 0 where
  spelled : Laid bt (S parts) r s
  made : u ≡ f (bt r) parts

-- the pieces behind a place
pub record Placed (bt : ℕ → Leaf) (place : ℕ) (pieces : List Piece) (r s : ℕ) : Type 0 where
  pub same : (bt r).place ≡ place
  pub more : Laid bt pieces r s

pub behind_place : {bt : ℕ → Leaf} (place : ℕ) (pieces : List Piece) {r s : ℕ} →
    Laid bt (placed place ∷ pieces) r s → Placed bt place pieces r s
behind_place {bt} place pieces {s = s} y =
    let o = opened (placed place) pieces y in
    record { same = o.here.0; more = subst (λ m. Laid bt pieces m s) o.here.1 o.more }

module _ {T V : Type 0} (f : Leaf → T → V) {S : T → List Piece} {R : V → List Piece} where
  node_pieces : (at : ℕ → Leaf) (p : ℕ) (u : V) (q : ℕ) (parts : T) → Made f S R parts →
      Laid at (S parts) p q → u ≡ f (at p) parts → Laid at (R u) p q
  node_pieces at p u q parts (plainly spells same) y e =
      subst (λ pieces. Laid at pieces p q) (sym (ap R e ∙ spells (at p))) y
  node_pieces at p u q parts (at_place spells same) y e =
      subst (λ pieces. Laid at pieces p q) (sym (ap R e ∙ spells (at p)))
      (spells_piece (placed (at p).place) (refl, refl) y)
  node_pieces at p u q parts (at_place_twice spells same) y e =
      subst (λ pieces. Laid at pieces p q) (sym (ap R e ∙ spells (at p)))
      (spells_piece (placed (at p).place) (refl, refl)
      (spells_piece (placed (at p).place) (refl, refl) y))

  node_again : (at bt : ℕ → Leaf) (p r : ℕ) (u : V) (s : ℕ) (parts : T) → Made f S R parts →
      Laid bt (R u) r s → u ≡ f (at p) parts → Again f S bt r s u parts
  node_again at bt p r u s parts (plainly spells same) y e = record {
    spelled = subst (λ pieces. Laid bt pieces r s) (ap R e ∙ spells (at p)) y;
    made = e ∙ same (at p) (bt r);
  }
  node_again at bt p r u s parts (at_place spells same) y e =
      let o = behind_place (at p).place (S parts)
      (subst (λ pieces. Laid bt pieces r s) (ap R e ∙ spells (at p)) y) in
      record { spelled = o.more; made = e ∙ same (at p) (bt r) (sym o.same) }
  node_again at bt p r u s parts (at_place_twice spells same) y e =
      let o = behind_place (at p).place (placed (at p).place ∷ S parts)
      (subst (λ pieces. Laid bt pieces r s) (ap R e ∙ spells (at p)) y) in
      record {
        spelled = (behind_place (at p).place (S parts) o.more).more;
        made = e ∙ same (at p) (bt r) (sym o.same);
      }

  module _ {K : Leaf → Type 0} {A : Form Leaf T} {left : ℕ} {behind front : Look}
      (c : Spelt K A S left behind front) where
    -- where the parts are read
    pub spelt_node_read : ((at : ℕ → Leaf) (edge p : ℕ) (parts : T) (q : ℕ) →
        A (plain_text at edge) left p parts q → Made f S R parts) →
        Spelt K (Node f A) R left behind front
    spelt_node_read by = record {
      pieces = λ {at} {edge} {p} {u} {q} k x.
          node_pieces at p u q x.parts (by at edge p x.parts q x.read) (c.pieces k x.read) x.made;
      again = λ {at} {bt} {edge} {other} {p} {r} {u} {q} {s} k x y h.
          let a = node_again at bt p r u s x.parts (by at edge p x.parts q x.read) y x.made in
          record { parts = x.parts; read = c.again k x.read a.spelled h; made = a.made };
      first = λ {at} {bt} {edge} {p} {r} {u} {q} {s} k x y h.
          let a = node_again at bt p r u s x.parts (by at edge p x.parts q x.read) y x.made in
          c.first k x.read a.spelled h;
    }

    pub spelt_node : ((parts : T) → Made f S R parts) → Spelt K (Node f A) R left behind front
    spelt_node by = spelt_node_read (λ at edge p parts q r. by parts)

-- the form that the class of the first token calls for, where each begins with a known symbol
pub spelt_choice : {C T : Type 0} (class : Symbol → C) {K : Leaf → Type 0} {A : C → Form Leaf T}
    {S : T → List Piece} {left : ℕ} {behind : Look} →
    ((k : C) → Spelt (λ x. class (symbol_of x) ≡ k) (A k) S left behind sharp) →
    Spelt K (Choice (λ x. class (symbol_of x)) A) S left behind sharp
spelt_choice class {A = A} {left = left} c = record {
  pieces = λ {at} {edge} {p} k r. (c (class (symbol_of (at p)))).pieces refl r.chosen;
  again = λ {at} {bt} {edge} {other} {p} {r} {u} {q} {s} k x y h.
      let here = c (class (symbol_of (at p))) in
      let same = here.first refl x.chosen y h in
      record {
        chosen = subst (λ k. A k (plain_text bt other) left r u s) (ap class same)
            (here.again refl x.chosen y h);
      };
  first = λ {at} {bt} {edge} {p} k x y h. (c (class (symbol_of (at p)))).first refl x.chosen y h;
}

module _ {T : Type 0} (class : Symbol → Bool) {K : Leaf → Type 0} {A : Form Leaf T}
    {S : T → List Piece} {left : ℕ} {behind : Look}
    (known : (x : Leaf) → class (symbol_of x) ≡ true → K x)
    (c : Spelt K A S left behind sharp) where
  abbrev goes : Leaf → Bool
  goes leaf = class (symbol_of leaf)

  many_pieces : (at : ℕ → Leaf) (edge p : ℕ) (us : List T) (q : ℕ) →
      Many goes A (plain_text at edge) left p us q → Laid at (in_order S us) p q
  unfolding Many
  many_pieces at edge p [] q r = subst (λ m. Laid at [] p m) (sym r.behind) spells_none
  many_pieces at edge p (u ∷ us) q r =
      joins (S u) (c.pieces (known (at p) r.goes) r.first)
      (many_pieces at edge r.middle us q r.rest)

  many_first : (at bt : ℕ → Leaf) (edge p r : ℕ) (us : List T) (q s : ℕ) →
      Many goes A (plain_text at edge) left p us q → Laid bt (in_order S us) r s →
      Agree behind (at q) (bt s) → Agree behind (at p) (bt r)
  unfolding Many
  many_first at bt edge p r [] q s x y h =
      subst (λ m. Agree behind (at p) (bt m)) (ends_there y)
      (subst (λ m. Agree behind (at m) (bt s)) x.behind h)
  many_first at bt edge p r (u ∷ us) q s x y h =
      let t = halves (S u) (in_order S us) y in
      agrees behind (at p) (bt r) (c.first (known (at p) x.goes) x.first t.first
      (many_first at bt edge x.middle t.middle us q s x.rest t.second h))

  many_again : (at bt : ℕ → Leaf) (edge other p r : ℕ) (us : List T) (q s : ℕ) →
      Many goes A (plain_text at edge) left p us q → Laid bt (in_order S us) r s →
      Agree behind (at q) (bt s) → Many goes A (plain_text bt other) left r us s
  unfolding Many
  many_again at bt edge other p r [] q s x y h =
      record { stops = λ e. absurd (let clash : false ≡ true = e in cc); behind = ends_there y }
  many_again at bt edge other p r (u ∷ us) q s x y h =
      let t = halves (S u) (in_order S us) y in
      let next = many_first at bt edge x.middle t.middle us q s x.rest t.second h in
      let same = c.first (known (at p) x.goes) x.first t.first next in
      record {
        goes = ap class (sym same) ∙ x.goes;
        middle = t.middle;
        first = c.again (known (at p) x.goes) x.first t.first next;
        rest = many_again at bt edge other x.middle t.middle us q s x.rest t.second h;
      }

  pub spelt_many : Spelt Any (Many goes A) (in_order S) left behind behind
  spelt_many = record {
    pieces = λ k x. many_pieces _ _ _ _ _ x;
    again = λ k x y h. many_again _ _ _ _ _ _ _ _ _ x y h;
    first = λ k x y h. many_first _ _ _ _ _ _ _ _ x y h;
  }

  some_first : (at bt : ℕ → Leaf) (edge p r : ℕ) (us : List T) (q s : ℕ) → (us ≡ [] → ⊥) →
      Many goes A (plain_text at edge) left p us q → Laid bt (in_order S us) r s →
      Agree behind (at q) (bt s) → symbol_of (at p) ≡ symbol_of (bt r)
  unfolding Many
  some_first at bt edge p r [] q s some x y h = absurd (some refl)
  some_first at bt edge p r (u ∷ us) q s some x y h =
      let t = halves (S u) (in_order S us) y in
      c.first (known (at p) x.goes) x.first t.first
      (many_first at bt edge x.middle t.middle us q s x.rest t.second h)

  -- one part at least
  pub spelt_some : (test : List T → Bool) → test [] ≡ false →
      Spelt Any (Shaped test (Many goes A)) (in_order S) left behind sharp
  spelt_some test fails = record {
    pieces = λ k x. many_pieces _ _ _ _ _ x.read;
    again = λ k x y h.
        record { read = many_again _ _ _ _ _ _ _ _ _ x.read y h; passes = x.passes };
    first = λ {at} {bt} {edge} {p} {r} {u} {q} {s} k x y h.
        some_first at bt edge p r u q s (λ e. absurd
        (let clash : true ≡ false = sym x.passes ∙ (ap test e ∙ fails) in cc)) x.read y h;
  }

  perhaps_pieces : (at : ℕ → Leaf) (edge p : ℕ) (u : Option T) (q : ℕ) →
      Perhaps goes A (plain_text at edge) left p u q → Laid at (optional S u) p q
  unfolding Perhaps
  perhaps_pieces at edge p None q r = subst (λ m. Laid at [] p m) (sym r.behind) spells_none
  perhaps_pieces at edge p (Some u) q r =
      subst (λ m. Laid at (S u) p m) (sym r.rest) (c.pieces (known (at p) r.goes) r.first)

  perhaps_first : (at bt : ℕ → Leaf) (edge p r : ℕ) (u : Option T) (q s : ℕ) →
      Perhaps goes A (plain_text at edge) left p u q → Laid bt (optional S u) r s →
      Agree behind (at q) (bt s) → Agree behind (at p) (bt r)
  unfolding Perhaps
  perhaps_first at bt edge p r None q s x y h =
      subst (λ m. Agree behind (at p) (bt m)) (ends_there y)
      (subst (λ m. Agree behind (at m) (bt s)) x.behind h)
  perhaps_first at bt edge p r (Some u) q s x y h =
      agrees behind (at p) (bt r) (c.first (known (at p) x.goes) x.first y
      (subst (λ m. Agree behind (at m) (bt s)) x.rest h))

  perhaps_again : (at bt : ℕ → Leaf) (edge other p r : ℕ) (u : Option T) (q s : ℕ) →
      Perhaps goes A (plain_text at edge) left p u q → Laid bt (optional S u) r s →
      Agree behind (at q) (bt s) → Perhaps goes A (plain_text bt other) left r u s
  unfolding Perhaps
  perhaps_again at bt edge other p r None q s x y h =
      record { stops = λ e. absurd (let clash : false ≡ true = e in cc); behind = ends_there y }
  perhaps_again at bt edge other p r (Some u) q s x y h =
      let next = subst (λ m. Agree behind (at m) (bt s)) x.rest h in
      let same = c.first (known (at p) x.goes) x.first y next in
      record {
        goes = ap class (sym same) ∙ x.goes;
        middle = s;
        first = c.again (known (at p) x.goes) x.first y next;
        rest = refl;
      }

  pub spelt_perhaps : Spelt Any (Perhaps goes A) (optional S) left behind behind
  spelt_perhaps = record {
    pieces = λ k x. perhaps_pieces _ _ _ _ _ x;
    again = λ k x y h. perhaps_again _ _ _ _ _ _ _ _ _ x y h;
    first = λ k x y h. perhaps_first _ _ _ _ _ _ _ _ x y h;
  }

  nearest_pieces : (at : ℕ → Leaf) (edge p : ℕ) (u : Option T) (q : ℕ) →
      Nearest goes A (plain_text at edge) left p u q → Laid at (optional S u) p q
  unfolding Nearest
  nearest_pieces at edge p None q r = subst (λ m. Laid at [] p m) (sym r.behind) spells_none
  nearest_pieces at edge p (Some u) q r =
      subst (λ m. Laid at (S u) p m) (sym r.rest) (c.pieces (known (at p) r.goes) r.first)

  nearest_first : (at bt : ℕ → Leaf) (edge p r : ℕ) (u : Option T) (q s : ℕ) →
      Nearest goes A (plain_text at edge) left p u q → Laid bt (optional S u) r s →
      Agree behind (at q) (bt s) → Agree behind (at p) (bt r)
  unfolding Nearest
  nearest_first at bt edge p r None q s x y h =
      subst (λ m. Agree behind (at p) (bt m)) (ends_there y)
      (subst (λ m. Agree behind (at m) (bt s)) x.behind h)
  nearest_first at bt edge p r (Some u) q s x y h =
      agrees behind (at p) (bt r) (c.first (known (at p) x.goes) x.first y
      (subst (λ m. Agree behind (at m) (bt s)) x.rest h))

  -- here the look at the next token is the grammar's own rule
  nearest_again : ((x y : Leaf) → Agree behind x y → goes x ≡ false → goes y ≡ false) →
      (at bt : ℕ → Leaf) (edge other p r : ℕ) (u : Option T) (q s : ℕ) →
      Nearest goes A (plain_text at edge) left p u q → Laid bt (optional S u) r s →
      Agree behind (at q) (bt s) → Nearest goes A (plain_text bt other) left r u s
  unfolding Nearest
  nearest_again stops at bt edge other p r None q s x y h = record {
    stops = stops (at p) (bt r) (nearest_first at bt edge p r None q s x y h) x.stops;
    behind = ends_there y;
  }
  nearest_again stops at bt edge other p r (Some u) q s x y h =
      let next = subst (λ m. Agree behind (at m) (bt s)) x.rest h in
      let same = c.first (known (at p) x.goes) x.first y next in
      record {
        goes = ap class (sym same) ∙ x.goes;
        middle = s;
        first = c.again (known (at p) x.goes) x.first y next;
        rest = refl;
      }

  pub spelt_nearest : ((x y : Leaf) → Agree behind x y → goes x ≡ false → goes y ≡ false) →
      Spelt Any (Nearest goes A) (optional S) left behind behind
  spelt_nearest stops = record {
    pieces = λ k x. nearest_pieces _ _ _ _ _ x;
    again = λ k x y h. nearest_again stops _ _ _ _ _ _ _ _ _ x y h;
    first = λ k x y h. nearest_first _ _ _ _ _ _ _ _ x y h;
  }

-- what is spelled by nothing
pub spelt_empty : {T : Type 0} {K : Leaf → Type 0} {S : T → List Piece} {left : ℕ}
    {behind : Look} (made : T) → S made ≡ [] →
    Spelt K (Node (λ leaf u. made) Empty) S left behind behind
spelt_empty {S = S} {behind = behind} made none = record {
  pieces = λ {at} {edge} {p} {u} {q} k r.
      subst (λ list. Laid at list p q) (sym (ap S r.made ∙ none))
      (subst (λ m. Laid at [] p m) (sym r.read.behind) spells_none);
  again = λ {at} {bt} {edge} {other} {p} {r} {u} {q} {s} k x y h. record {
    parts = tt;
    read = record {
      behind = ends_there (subst (λ list. Laid bt list r s) (ap S x.made ∙ none) y);
    };
    made = x.made;
  };
  first = λ {at} {bt} {edge} {p} {r} {u} {q} {s} k x y h.
      subst (λ m. Agree behind (at p) (bt m))
      (ends_there (subst (λ list. Laid bt list r s) (ap S x.made ∙ none) y))
      (subst (λ m. Agree behind (at m) (bt s)) x.read.behind h);
}

-- a form that is one of two, as a test of what it reads says
module _ {T : Type 0} {K : Leaf → Type 0} (test : T → Bool) (A : Form Leaf T) {B C : Form Leaf T}
    {S : T → List Piece} {left : ℕ} {behind front : Look}
    (to_first : (w : World Leaf) (p : ℕ) (u : T) (q : ℕ) → test u ≡ true → A w left p u q →
    B w left p u q)
    (from_first : (w : World Leaf) (p : ℕ) (u : T) (q : ℕ) → test u ≡ true → B w left p u q →
    A w left p u q)
    (to_second : (w : World Leaf) (p : ℕ) (u : T) (q : ℕ) → test u ≡ false → A w left p u q →
    C w left p u q)
    (from_second : (w : World Leaf) (p : ℕ) (u : T) (q : ℕ) → test u ≡ false → C w left p u q →
    A w left p u q)
    (c : Spelt K B S left behind front) (d : Spelt K C S left behind front) where
  case_pieces : (b : Bool) (at : ℕ → Leaf) (edge p : ℕ) (u : T) (q : ℕ) → test u ≡ b →
      K (at p) → A (plain_text at edge) left p u q → Laid at (S u) p q
  case_pieces true at edge p u q e k r = c.pieces k (to_first (plain_text at edge) p u q e r)
  case_pieces false at edge p u q e k r = d.pieces k (to_second (plain_text at edge) p u q e r)

  case_again : (b : Bool) (at bt : ℕ → Leaf) (edge other p r : ℕ) (u : T) (q s : ℕ) →
      test u ≡ b → K (at p) → A (plain_text at edge) left p u q → Laid bt (S u) r s →
      Agree behind (at q) (bt s) → A (plain_text bt other) left r u s
  case_again true at bt edge other p r u q s e k x y h =
      from_first (plain_text bt other) r u s e
      (c.again k (to_first (plain_text at edge) p u q e x) y h)
  case_again false at bt edge other p r u q s e k x y h =
      from_second (plain_text bt other) r u s e
      (d.again k (to_second (plain_text at edge) p u q e x) y h)

  case_first : (b : Bool) (at bt : ℕ → Leaf) (edge p r : ℕ) (u : T) (q s : ℕ) →
      test u ≡ b → K (at p) → A (plain_text at edge) left p u q → Laid bt (S u) r s →
      Agree behind (at q) (bt s) → Agree front (at p) (bt r)
  case_first true at bt edge p r u q s e k x y h =
      c.first k (to_first (plain_text at edge) p u q e x) y h
  case_first false at bt edge p r u q s e k x y h =
      d.first k (to_second (plain_text at edge) p u q e x) y h

  pub spelt_cases : Spelt K A S left behind front
  spelt_cases = record {
    pieces = λ {at} {edge} {p} {u} {q} k r.
        case_pieces (test u) at edge p u q refl k r;
    again = λ {at} {bt} {edge} {other} {p} {r} {u} {q} {s} k x y h.
        case_again (test u) at bt edge other p r u q s refl k x y h;
    first = λ {at} {bt} {edge} {p} {r} {u} {q} {s} k x y h.
        case_first (test u) at bt edge p r u q s refl k x y h;
  }
