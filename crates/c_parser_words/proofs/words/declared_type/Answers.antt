-- Nothing; or enum and a tag; or a typedef name.
use Rattle.std.proofs.Common.{sym, ◌∙◌, ap, subst, None}
use Rattle.c_grammar_forms.specs.lemmas.Found.{reads_node, reads_empty}
use Rattle.c_grammar_tree.specs.Declarations.{tag, declared_type}
use Rattle.c_parser_words.specs.Answers.{Finds}
use Rattle.c_parser_words.specs.Storage.{goes_in}
use Rattle.c_parser_words.proofs.DeclaredTypes.{typedef_answers, enum_answers, none_declared}
use Rattle.c_parser_words.proofs.words.declared_type.Goals as goal

pub returns-then-typed : goal.returns-then-typed
unfolding declared_type
returns-then-typed c = λ left.
    rw c.if-typed.true (reads_node _ (ap (λ list. (list, None)) c.new.ensures)
    (reads_empty c.requires))

pub returns-then-is : goal.returns-then-is
returns-then-is c =
    subst (λ b. Finds (declared_type tag (goes_in c.args.allowed) b) c.args.source.now c.args.at
    c.enum_type.result) (sym c.if-typed.false)
    (enum_answers _ _ _ _ (sym c.if-is.ensures.value) c.enum_type.ensures)

pub returns-in_default : goal.returns-in_default
returns-in_default c = λ left.
    rw c.if-typed.false (none_declared (goes_in c.args.allowed) c.args.source.now c.args.at left
    (sym c.if-is.ensures.value)
    (λ t e. c.in_default.not-TypedefName t (c.symbol.ensures.value ∙ e)) c.requires)

pub returns : goal.returns
returns c =
    subst (λ b. Finds (declared_type tag (goes_in c.args.allowed) b) c.args.source.now c.args.at
    c.typedef_type.result) (sym c.if-typed.false)
    (typedef_answers _ _ _ _ _ c.in-TypedefName.ensures.value c.typedef_type.ensures)
