-- Lemmas: a part with a terminal in front of it or behind it.
use Rattle.std.specs.Prelude.{◌≡◌, ℕ, false, List, length, Result, IsErrAnd}
use Rattle.c_grammar_forms.specs.declared.fault.ReadError.{ReadError}
use Rattle.c_grammar_forms.specs.Forms.{Form, Behind, Before}
use Rattle.c_grammar_forms.specs.Reading.{Reads, NoneThrough, Answers}
use Rattle.c_grammar_forms.specs.lemmas.Found.{reads_behind_by, reads_before_by}
use Rattle.c_grammar_forms.specs.lemmas.NotFound.{none_behind_by}
use Rattle.c_grammar_forms.specs.lemmas.Exits.{at_fault}
use Rattle.c_grammar_symbols.specs.declared.words.Terminal.{Terminal}
use Rattle.c_grammar_symbols.specs.Symbols.{Leaf}
use Rattle.c_grammar_symbols.specs.Sources.{leaf_at, is, Takes, Lacks}

module _ {T : Type 0} {A : ℕ → Form Leaf T} {leaves : List Leaf} {left p m q : ℕ} {u : T}
    {t : Terminal}
  where
    -- a part, and the terminal behind it
    pub reads_closed : Reads A (leaf_at leaves) (length leaves) left p u m → Takes leaves m t q →
        Reads (λ n. Before (A n) (is t)) (leaf_at leaves) (length leaves) left p u q
    reads_closed r takes = reads_before_by (is t) r takes.passes takes.behind_it takes.within

    -- a terminal, and the part behind it
    pub reads_opened : Takes leaves p t m → Reads A (leaf_at leaves) (length leaves) left m u q →
        Reads (λ n. Behind (is t) (A n)) (leaf_at leaves) (length leaves) left p u q
    reads_opened takes r = reads_behind_by (is t) takes.passes takes.behind_it r

-- a terminal, and no part behind it
pub none_opened : {T : Type 0} {A : ℕ → Form Leaf T} {leaves : List Leaf} {left p m i : ℕ}
    {t : Terminal} → Takes leaves p t m →
    NoneThrough A (leaf_at leaves) (length leaves) left m i →
    NoneThrough (λ n. Behind (is t) (A n)) (leaf_at leaves) (length leaves) left p i
none_opened {t = t} takes g = none_behind_by (is t) takes.behind_it g

-- the terminal that is to stand there is not there
pub at_lack : {T : Type 0} (limit : ℕ) {B : ℕ → Form Leaf T} {leaves : List Leaf} {left p m : ℕ}
    {t : Terminal} (e : ReadError) (answer : Result (T × ℕ) ReadError) →
    IsErrAnd answer (λ given. given ≡ e) → Lacks leaves m t e →
    (is t (leaf_at leaves m) ≡ false → NoneThrough B (leaf_at leaves) (length leaves) left p m) →
    Answers limit B (leaf_at leaves) (length leaves) left p answer
at_lack limit e answer given lacks none =
    at_fault limit e answer given lacks.named (none lacks.fails)
