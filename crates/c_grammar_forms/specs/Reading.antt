-- What a reader promises (this project's own): the reading that it found, or a token through
-- which there is none.
use Rattle.std.specs.Prelude.{◌≡◌, ℕ, ◌<◌, ◌≤◌, true, Result, MatchResult}
use Rattle.c_grammar_forms.specs.declared.fault.ReadError.{ReadError}
use Rattle.c_grammar_forms.specs.declared.fault.ReadError.TheVariants.{Unexpected, TooDeep}
use Rattle.c_grammar_forms.specs.declared.fault.ReadError.TheVariants.{OutOfMemory}
use Rattle.c_grammar_forms.specs.Forms.{World, Form, greedy_text}

-- the part is read from p up to q, wherever the limit on levels is looked at. A form is given for
-- each number of levels that there are at all. It ends before the text's end, which no part but the
-- whole text takes
pub record Reads {Token T : Type 0} (A : ℕ → Form Token T) (at : ℕ → Token) (size left p : ℕ)
    (u : T) (q : ℕ) : Type 0 where
  pub reading : (edge : ℕ) → A left (greedy_text at edge) left p u q
  pub onward : p ≤ q
  pub within : q < size

-- a text that begins with these tokens up to i, and in which the limit on levels holds up to there
pub record Begins {Token : Type 0} (at : ℕ → Token) (i : ℕ) (v : World Token) : Type 0 where
  pub tokens : (j : ℕ) → j ≤ i → v.at j ≡ at j
  pub edge : v.edge ≡ i
  pub greedy : v.greedy ≡ true

-- no text that begins with these tokens up to i has such a part at p
pub record NoneThrough {Token T : Type 0} (A : ℕ → Form Token T) (at : ℕ → Token)
    (size left p i : ℕ) : Type 0 where
  pub onward : p ≤ i
  pub within : i < size
  pub none : (n : ℕ) (v : World Token) → Begins at i v → (u : T) (q : ℕ) → A n v left p u q → ⊥

-- what an error says; `limit` is how many tokens stand at least before a part that is too deep
abbrev pub Faults : {Token T : Type 0} → ℕ → (ℕ → Form Token T) → (ℕ → Token) → ℕ → ℕ → ℕ →
    ReadError → Type 0
Faults limit A at size left p (Unexpected i) = NoneThrough A at size left p i
Faults limit A at size left p (TooDeep i) = NoneThrough A at size left p i × (limit ≤ i)
Faults limit A at size left p OutOfMemory = Unit {0}

-- what a reader answers at p with so many levels left: a part and the place behind it, or an error
abbrev pub Answers : {Token T : Type 0} → ℕ → (ℕ → Form Token T) → (ℕ → Token) → ℕ → ℕ → ℕ →
    Result (T × ℕ) ReadError → Type 0
Answers limit A at size left p answer =
    MatchResult answer (λ read. Reads A at size left p read.0 read.1)
    (λ error. Faults limit A at size left p error)
