use Rattle.std.proofs.Common.{◌≡◌, ℕ, List, sym, subst}
use Rattle.std.specs.List.{AllByRecursion}
use Rattle.cpa_model.specs.declared.program.Stmt.{Stmt}
use Rattle.cpa_model.specs.Programs.{parts_of}
use Rattle.cpa_model.specs.lemmas.Parts.{firsts_items}
use Rattle.cases_programs.specs.Fits.{entry_of}
use Rattle.cases_programs.proofs.fitting.parts_owned.Goals as goal

pub returns-in-Block : goal.returns-in-Block
returns-in-Block c = λ yes.
    let owned : ℕ → Type 0 = λ k. entry_of c.args.owners.now k ≡ c.args.owner in
    subst (λ (s : Stmt). AllByRecursion owned (parts_of s)) (sym c.in-Block.is)
    (subst (λ (ns : List ℕ). AllByRecursion owned ns) (sym (firsts_items c.in-Block.items))
    (subst (λ (ns : List ℕ). AllByRecursion owned ns) c.as_slice.ensures (c.are_owned.ensures yes)))
