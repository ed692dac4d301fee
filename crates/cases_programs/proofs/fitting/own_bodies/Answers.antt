use Rattle.std.proofs.Common.{◌≡◌, ℕ, List, subst}
use Rattle.cases_programs.specs.Samples.{Each}
use Rattle.cases_programs.specs.Fits.{entry_of}
use Rattle.cases_programs.proofs.fitting.own_bodies.Goals as goal

pub returns : goal.returns
returns c = λ yes.
    subst (λ (ns : List ℕ). Each (λ f n. entry_of c.args.table.now.owners n ≡ f) 0 ns)
    c.as_slice-2.ensures
    (subst (λ (os : List ℕ). Each (λ f n. entry_of os n ≡ f) 0 c.as_slice-2.result.now)
    c.as_slice.ensures (c.own_from.ensures yes))
