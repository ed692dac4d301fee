-- Lemmas: the nested forms at a depth are the grammar's own forms at the depth below; parts one
-- level deeper.
use Rattle.std.specs.Prelude.{◌≡◌, ℕ, ◌<◌, ◌≤◌, Bool, true, false, Err}
use Rattle.c_grammar_forms.specs.Forms.{Form, Deeper}
use Rattle.c_grammar_forms.specs.lemmas.Steady.{Steady, good_deeper}
use Rattle.c_grammar_forms.specs.Reading.{Answers}
use Rattle.c_grammar_forms.specs.lemmas.Found.{IsAbove}
use Rattle.c_grammar_forms.specs.lemmas.NotFound.{none_too_deep}
use Rattle.c_grammar_tree.specs.Expressions.{comma, assignment, conditional, cast, unary}
use Rattle.c_grammar_tree.specs.Declarations.{list, enumerator, declaration}
use Rattle.c_grammar_tree.specs.Statements.{statement, item}
use Rattle.c_grammar_tree.specs.Grammar.{grammar}
use Rattle.c_grammar_tree.specs.lemmas.OneReadingOfText.{good_grammar}
use Rattle.c_grammar_tree.specs.Reading.{no_level}

pub comma_above : IsAbove (λ n. (grammar n).comma) (λ n. comma (grammar n))
unfolding grammar
comma_above = record { base = λ r. r.never; unrolls = λ n r. r; rolls = λ n r. r }

pub assignment_above : IsAbove (λ n. (grammar n).assignment) (λ n. assignment (grammar n))
unfolding grammar
assignment_above = record { base = λ r. r.never; unrolls = λ n r. r; rolls = λ n r. r }

pub conditional_above : IsAbove (λ n. (grammar n).conditional) (λ n. conditional (grammar n))
unfolding grammar
conditional_above = record { base = λ r. r.never; unrolls = λ n r. r; rolls = λ n r. r }

pub cast_above : IsAbove (λ n. (grammar n).cast) (λ n. cast (grammar n))
unfolding grammar
cast_above = record { base = λ r. r.never; unrolls = λ n r. r; rolls = λ n r. r }

pub unary_above : IsAbove (λ n. (grammar n).unary) (λ n. unary (grammar n))
unfolding grammar
unary_above = record { base = λ r. r.never; unrolls = λ n r. r; rolls = λ n r. r }

pub list_above : IsAbove (λ n. (grammar n).list) (λ n. list (grammar n))
unfolding grammar
list_above = record { base = λ r. r.never; unrolls = λ n r. r; rolls = λ n r. r }

pub enumerator_above : IsAbove (λ n. (grammar n).enumerator) (λ n. enumerator (grammar n))
unfolding grammar
enumerator_above = record { base = λ r. r.never; unrolls = λ n r. r; rolls = λ n r. r }

pub declaration_above : IsAbove (λ n. (grammar n).declaration) (λ n. declaration (grammar n))
unfolding grammar
declaration_above = record { base = λ r. r.never; unrolls = λ n r. r; rolls = λ n r. r }

pub statement_above : IsAbove (λ n. (grammar n).statement) (λ n. statement (grammar n))
unfolding grammar
statement_above = record { base = λ r. r.never; unrolls = λ n r. r; rolls = λ n r. r }

pub item_above : IsAbove (λ n. (grammar n).item) (λ n. item (grammar n))
unfolding grammar
item_above = record { base = λ r. r.never; unrolls = λ n r. r; rolls = λ n r. r }

pub steady_deeper_comma : Steady (λ n. Deeper ((grammar n).comma))
steady_deeper_comma = record { good = λ n m. good_deeper ((good_grammar n m).comma) }

pub steady_deeper_assignment : Steady (λ n. Deeper ((grammar n).assignment))
steady_deeper_assignment = record { good = λ n m. good_deeper ((good_grammar n m).assignment) }

pub steady_deeper_conditional : Steady (λ n. Deeper ((grammar n).conditional))
steady_deeper_conditional = record { good = λ n m. good_deeper ((good_grammar n m).conditional) }

-- with no level left there is no part one level deeper
pub answers_no_level : {Token T : Type 0} (limit : ℕ) (B : ℕ → Form Token T) (at : ℕ → Token)
    {size left p : ℕ} →
    left ≡ 0 → p < size → limit ≤ p → (begins : Bool) →
    Answers limit (λ n. Deeper (B n)) at size left p (Err (no_level begins p))
answers_no_level limit B at used fits deep true = (none_too_deep B used fits, deep)
answers_no_level limit B at used fits deep false = none_too_deep B used fits
