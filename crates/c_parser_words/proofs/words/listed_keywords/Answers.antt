-- One word more, or no more; a word with which there is no type is the fault.
use Rattle.std.proofs.Common.{◌≡◌, ◌++◌, [], ◌∷◌, length, sym, ◌∙◌, ap, subst, Some, None}
use Rattle.c_grammar_forms.specs.Reading.{Reads}
use Rattle.c_grammar_symbols.specs.Sources.{leaf_at}
use Rattle.c_grammar_tree.specs.Declarations.{keywords}
use Rattle.c_grammar_forms.specs.lemmas.Exits.{at_exit}
use Rattle.c_grammar_tree.specs.declared.TheConstants.{MAX_LEVEL}
use Rattle.c_parser_words.specs.Storage.{goes_in, keeps_on}
use Rattle.c_parser_words.specs.Steps.{kind_of}
use Rattle.c_parser_words.proofs.SpecifierWords.{specifiers_more, specifiers_refused}
use Rattle.c_parser_words.proofs.SpecifierWords.{keywords_found}
use Rattle.c_parser_words.proofs.words.listed_keywords.Goals as goal

pub loop-kind-preserved : goal.loop-kind-preserved
loop-kind-preserved c =
    let is_kind = ap kind_of (sym c.symbol.ensures.value) ∙ c.in-Some.ensures.1 in
    specifiers_more _ _ _ _ _ _ c.loop-kind.invariant c.in-Some.kind _ _
    (ap (keeps_on c.args.allowed) (sym c.symbol.ensures.value) ∙ c.in-Some.ensures.0) is_kind
    (c.symbol.ensures.more (λ e. let clash : None ≡ Some c.in-Some.kind = ap kind_of (sym e) ∙
    c.in-Some.ensures.1 in cc)).within
    (c.in_ok-push.ensures.items
    ∙ ap (λ t. c.loop-kind.words.items ++ record { kind = c.in-Some.kind; place = t } ∷
    []) c.place-place.ensures)
    c.in_ok-push_type.ensures.pushed

pub returns-in_err-push_type : goal.returns-in_err-push_type
returns-in_err-push_type c = λ left.
    at_exit MAX_LEVEL _ _ c.from_residual-in_err-push_type.ensures.1
    (specifiers_refused _ _ _ _ _ _ c.loop-kind.invariant left c.in-Some.kind
    (ap (keeps_on c.args.allowed) (sym c.symbol.ensures.value) ∙ c.in-Some.ensures.0)
    (ap kind_of (sym c.symbol.ensures.value) ∙ c.in-Some.ensures.1) _
    c.in_err-push_type.ensures.refused)
    (λ i g. g)

pub returns : goal.returns
returns c = λ left.
    subst (λ list. Reads (λ n. keywords (goes_in c.args.allowed)) (leaf_at c.args.source.now)
    (length c.args.source.now) left c.args.at list c.loop-kind.here) (sym c.from_vec.ensures)
    (keywords_found _ _ _ _ _ _ c.loop-kind.invariant left
    (ap (keeps_on c.args.allowed) (sym c.symbol.ensures.value) ∙ c.in_default.ensures))
