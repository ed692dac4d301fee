-- What the readers of parts that have no level promise, this project's own: the same with however
-- many levels left.
use Rattle.std.specs.Prelude.{ℕ, List, length, Result, MatchResult}
use Rattle.c_grammar_forms.specs.declared.fault.ReadError.{ReadError}
use Rattle.c_grammar_forms.specs.Forms.{Form}
use Rattle.c_grammar_forms.specs.Reading.{Reads, Faults}
use Rattle.c_grammar_symbols.specs.Symbols.{Leaf}
use Rattle.c_grammar_symbols.specs.Sources.{leaf_at}
use Rattle.c_grammar_tree.specs.declared.TheConstants.{MAX_LEVEL}
use Rattle.c_grammar_tree.specs.Reading.{Gives}

-- the answer is a part and the place behind it, or a token through which there is no such part
abbrev pub Finds : {T : Type 0} → Form Leaf T → List Leaf → ℕ → Result (T × ℕ) ReadError → Type 0
Finds A leaves at answer = (left : ℕ) → Gives (λ G. A) leaves left at answer

-- the same of tokens that are not kept: the answer is the place behind them
abbrev pub Skips : Form Leaf (Unit {0}) → List Leaf → ℕ → Result ℕ ReadError → Type 0
Skips A leaves at answer = (left : ℕ) → MatchResult answer
    (λ behind. Reads (λ n. A) (leaf_at leaves) (length leaves) left at tt behind)
    (λ error. Faults MAX_LEVEL (λ n. A) (leaf_at leaves) (length leaves) left at error)
