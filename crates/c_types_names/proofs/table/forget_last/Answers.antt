use Rattle.std.proofs.Common.{List, ℕ, sym, subst, ap, ◌∙◌, IsSome}
use Rattle.c_types_rules.specs.declared.meaning.Entry.{Entry}
use Rattle.c_types_names.specs.Found.{number_of}
use Rattle.c_types_names.proofs.Lasts.{last_is, less_tied}
use Rattle.c_types_names.proofs.table.forget_last.Goals as goal

pub put_back-requires : goal.put_back-requires
put_back-requires c =
    subst (λ (name : List ℕ). IsSome (number_of c.args.table.now.latest name))
    (sym (c.as_slice-name.ensures ∙ ap (λ (e : Entry). e.name) c.entry.ensures))
    (last_is c.args.table.now c.pop.new.self.items c.in-Some.declaration c.requires.tied
    c.in-Some.ensures.items)

pub returns-in-Some-pop-clause-tied : goal.returns-in-Some-pop-clause-tied
returns-in-Some-pop-clause-tied c =
    less_tied c.args.table.now _ c.in-Some.declaration c.in-Some-pop.earlier c.requires.tied
    c.in-Some.ensures.items c.in-Some-pop.ensures.items
    (rw c.entry.ensures at (rw c.as_slice-name.ensures at c.put_back.ensures))
