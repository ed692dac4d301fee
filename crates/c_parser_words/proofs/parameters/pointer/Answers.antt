-- A pointer is there where one may stand and the next token is one.
use Rattle.std.proofs.Common.{sym, refl}
use Rattle.std.proofs.lemmas.Bool.{and_from, and_left, and_right}
use Rattle.c_grammar_forms.specs.Forms.{One}
use Rattle.c_grammar_forms.specs.lemmas.Found.{reads_no, reads_one, reads_one_more}
use Rattle.c_parser_words.proofs.parameters.pointer.Goals as goal
use Rattle.c_parser_words.proofs.parameters.pointer.Goals.{else-allowed-via-then-allowed+else-is_pointer}
use Rattle.c_parser_words.proofs.parameters.pointer.Goals.{else-allowed-via-else-allowed}

pub returns-then-is_pointer : goal.returns-then-is_pointer
returns-then-is_pointer c = λ left.
    reads_one_more _ (and_from _ _ c.if-allowed.true (sym c.if-is_pointer.ensures.value))
    (reads_one (c.if-is_pointer.ensures.more refl).within)

pub returns-else-allowed : goal.returns-else-allowed
returns-else-allowed c = λ left.
    elim c.else-allowed.branch [
      | else-allowed-via-then-allowed+else-is_pointer w ↦ reads_no (λ n. One) _
          (and_right _ _ (sym w.if-is_pointer.ensures.value)) c.requires
      | else-allowed-via-else-allowed w ↦ reads_no (λ n. One) _
          (and_left _ _ w.if-allowed.false) c.requires
    ]
