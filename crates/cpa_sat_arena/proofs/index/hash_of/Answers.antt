use Rattle.std.proofs.Common.{◌++◌, ◌∷◌, [], take, ap, sym, ◌∙◌}
use Rattle.std.proofs.lemmas.List.{take_more}
use Rattle.cpa_sat_arena.specs.Hashes.{mixed_hash, hash_from}
use Rattle.cpa_sat_arena.proofs.Chaining.{hash_next}
use Rattle.cpa_sat_arena.proofs.index.hash_of.Goals as goal

pub loop-literal-preserved : goal.loop-literal-preserved
loop-literal-preserved c =
    let xs = c.args.literals.now in
    let i = c.loop-literal.literal-index in
    let x = c.literal-item.result in
    c.mixed-hash.ensures ∙ ap (λ h. mixed_hash h x) c.loop-literal.invariant
    ∙ sym (hash_next 0 (take i xs) x)
    ∙ ap (λ ys. hash_from 0 ys) (ap (λ y. take i xs ++ y ∷ []) c.literal-item.is
    ∙ sym (take_more xs i x c.loop-literal-test.true))
