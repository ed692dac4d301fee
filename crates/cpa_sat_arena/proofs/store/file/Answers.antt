use Rattle.std.proofs.Common.{◌≡◌, ◌++◌, ◌∷◌, [], List, ℕ, length, ap, sym, ◌∙◌}
use Rattle.std.proofs.Common.{subst, arith}
use Rattle.std.specs.List.{AllByRecursion}
use Rattle.cpa_sat_arena.specs.declared.store.Extent.{Extent}
use Rattle.cpa_sat_arena.specs.Extents.{clauses_of, IsFiled}
use Rattle.cpa_sat_arena.specs.Hashes.{clause_hash}
use Rattle.cpa_sat_arena.proofs.Stores.{more_clauses, more_filed, filed_next, clauses_next, on_err}
use Rattle.cpa_sat_arena.proofs.store.file.Goals as goal

more : (xs zs ys : List ℕ) (es : List Extent) → zs ≡ xs ++ ys → AllByRecursion (IsFiled xs) es
    → AllByRecursion (IsFiled zs) es
more xs zs ys es e all = subst (λ ls. AllByRecursion (IsFiled ls) es) (sym e)
    (more_filed xs ys es all)

same : (xs zs ys : List ℕ) (es : List Extent) → zs ≡ xs ++ ys → AllByRecursion (IsFiled xs) es
    → clauses_of zs es ≡ clauses_of xs es
same xs zs ys es e all = ap (λ ls. clauses_of ls es) e ∙ more_clauses xs ys es all

pub returns-in_err-push_literals-clause-filed : goal.returns-in_err-push_literals-clause-filed
returns-in_err-push_literals-clause-filed c =
    let e = c.in_err-push_literals.ensures.err in
    more c.args.literals.now.items _ e.0 c.args.extents.now.items e.1 c.requires.filed

pub returns-in_err-push_literals-clause-same : goal.returns-in_err-push_literals-clause-same
returns-in_err-push_literals-clause-same c =
    let e = c.in_err-push_literals.ensures.err in
    on_err c.from_residual.result _ (same c.args.literals.now.items _ e.0 c.args.extents.now.items
    e.1 c.requires.filed)

pub returns-then-to-clause-filed : goal.returns-then-to-clause-filed
returns-then-to-clause-filed c =
    more c.args.literals.now.items _ c.args.clause.now c.args.extents.now.items
    c.in_ok-push_literals.ensures.ok c.requires.filed

pub returns-then-to-clause-same : goal.returns-then-to-clause-same
returns-then-to-clause-same c =
    same c.args.literals.now.items _ c.args.clause.now c.args.extents.now.items
    c.in_ok-push_literals.ensures.ok c.requires.filed

pub returns-in_err-push-clause-filed : goal.returns-in_err-push-clause-filed
returns-in_err-push-clause-filed c =
    let all = more c.args.literals.now.items _ c.args.clause.now c.args.extents.now.items
    c.in_ok-push_literals.ensures.ok c.requires.filed in
    subst (λ es. AllByRecursion (IsFiled c.push_literals.new.literals.items) es)
    (sym c.in_err-push.ensures.items) all

pub returns-in_err-push-clause-same : goal.returns-in_err-push-clause-same
returns-in_err-push-clause-same c =
    on_err c.from_residual-in_err-push.result _
    (same c.args.literals.now.items _ c.args.clause.now c.args.extents.now.items
    c.in_ok-push_literals.ensures.ok c.requires.filed)

pub returns-clause-filed : goal.returns-clause-filed
returns-clause-filed c =
    let xs = c.args.literals.now.items in
    let ys = c.args.clause.now in
    let es = c.args.extents.now.items in
    let literals = c.in_ok-push_literals.ensures.ok in
    let e : Extent = record {
      from = c.len-from.result;
      to = c.len-to.result;
      hash =
          c.hash_of-hash.result;
    } in
    let from : c.len-from.result ≡ length xs = omega arith in
    let to : c.len-to.result ≡ length (xs ++ ys) = omega (arith, ap length literals) in
    let hash : c.hash_of-hash.result ≡ clause_hash ys = c.hash_of-hash.ensures
    ∙ ap (λ ls. clause_hash ls) c.literals.ensures.literals in
    let all = filed_next xs ys es e c.requires.filed from to hash in
    let moved = subst (λ ls. AllByRecursion (IsFiled ls) (es ++ e ∷ [])) (sym literals) all in
    subst (λ fs. AllByRecursion (IsFiled c.push_literals.new.literals.items) fs)
    (sym c.in_ok-push.ensures.items) moved

pub returns-clause-clauses : goal.returns-clause-clauses
returns-clause-clauses c =
    let xs = c.args.literals.now.items in
    let ys = c.args.clause.now in
    let es = c.args.extents.now.items in
    let literals = c.in_ok-push_literals.ensures.ok in
    let e : Extent = record {
      from = c.len-from.result;
      to = c.len-to.result;
      hash =
          c.hash_of-hash.result;
    } in
    let from : c.len-from.result ≡ length xs = omega arith in
    let to : c.len-to.result ≡ length (xs ++ ys) = omega (arith, ap length literals) in
    ap (λ fs. clauses_of c.push_literals.new.literals.items fs) c.in_ok-push.ensures.items
    ∙ ap (λ ls. clauses_of ls (es ++ e ∷ [])) literals
    ∙ clauses_next xs ys es e c.requires.filed from to
