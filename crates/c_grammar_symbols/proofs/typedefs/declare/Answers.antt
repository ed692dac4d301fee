-- A name that has no type gets its first one.
use Rattle.std.specs.Prelude.{is_some}
use Rattle.std.proofs.Common.{◌≡◌, sym, ◌∙◌, ap, subst}
use Rattle.c_grammar_symbols.specs.Sources.{type_named, or_only}
use Rattle.c_grammar_symbols.proofs.FirstTypes.{given}
use Rattle.c_grammar_symbols.proofs.typedefs.declare.Goals as goal

pub returns-clause-declared : goal.returns-clause-declared
returns-clause-declared c = λ q.
    let same = c.in_ok-key.ensures.items_if_clones_equal (λ x y is. is) in
    subst (λ name. type_named c.insert.new.self q
    ≡ or_only name c.args.ty q (type_named c.args.typedefs.now q)) same
    (given c.in_ok-key.key.items c.args.ty c.args.typedefs.now c.insert.new.self
    (ap (λ name. is_some (type_named c.args.typedefs.now name)) same
    ∙ (sym c.contains_key.ensures ∙ c.if-contains_key.false))
    c.in_ok-insert.ensures.updates q)
