-- One word more or no more.
use Rattle.std.proofs.Common.{◌≡◌, ◌++◌, [], ◌∷◌, length, sym, ◌∙◌, ap, subst, Some, None}
use Rattle.c_grammar_forms.specs.Reading.{Reads}
use Rattle.c_grammar_symbols.specs.Sources.{leaf_at}
use Rattle.c_grammar_tree.specs.Declarations.{qualifiers}
use Rattle.c_parser_words.specs.Storage.{goes_in, qualifies}
use Rattle.c_parser_words.specs.Steps.{kind_of}
use Rattle.c_parser_words.proofs.SpecifierWords.{qualifiers_first, qualifiers_more}
use Rattle.c_parser_words.proofs.SpecifierWords.{qualifiers_found}
use Rattle.c_parser_words.proofs.words.qualifiers.Goals as goal

pub loop-kind-init : goal.loop-kind-init
loop-kind-init c = qualifiers_first _ _ _ _ c.new-words.ensures.items c.requires

pub loop-kind-preserved : goal.loop-kind-preserved
loop-kind-preserved c =
    let is_kind = ap kind_of (sym c.symbol.ensures.value) ∙ c.in-Some.ensures.1 in
    qualifiers_more _ _ _ _ _ c.loop-kind.invariant c.in-Some.kind _
    (ap (qualifies c.args.allowed) (sym c.symbol.ensures.value) ∙ c.in-Some.ensures.0) is_kind
    (c.symbol.ensures.more (λ e. let clash : None ≡ Some c.in-Some.kind = ap kind_of (sym e) ∙
    c.in-Some.ensures.1 in cc)).within
    (c.in_ok-push.ensures.items
    ∙ ap (λ t. c.loop-kind.words.items ++ record { kind = c.in-Some.kind; place = t } ∷
    []) c.place-place.ensures)

pub returns : goal.returns
returns c = λ left.
    subst (λ list. Reads (λ n. qualifiers (goes_in c.args.allowed)) (leaf_at c.args.source.now)
    (length c.args.source.now) left c.args.at list c.loop-kind.here) (sym c.from_vec.ensures)
    (qualifiers_found _ _ _ _ _ c.loop-kind.invariant left
    (ap (qualifies c.args.allowed) (sym c.symbol.ensures.value) ∙ c.in_default.ensures))
