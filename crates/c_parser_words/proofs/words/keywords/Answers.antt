-- One keyword, behind which specifiers end.
use Rattle.std.proofs.Common.{◌∷◌, [], ◌∙◌, ap}
use Rattle.c_parser_words.proofs.SpecifierWords.{only_found}
use Rattle.c_parser_words.proofs.words.keywords.Goals as goal

pub returns-in_ok-words-in-Some : goal.returns-in_ok-words-in-Some
returns-in_ok-words-in-Some c =
    only_found _ _ _ c.in-Some.kind _ c.requires c.in-Some.ensures
    (c.in_ok-words-in-Some.ensures
    ∙ ap (λ t. record { kind = c.in-Some.kind; place = t } ∷ []) c.place.ensures)
