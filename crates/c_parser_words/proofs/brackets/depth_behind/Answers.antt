-- A bracket that closes does not open.
use Rattle.std.proofs.Common.{◌≡◌, ℕ, cond, sym, ap, arith}
use Rattle.c_grammar_symbols.specs.Sources.{leaf_at, is}
use Rattle.c_parser_words.proofs.Among.{apart}
use Rattle.c_parser_words.proofs.brackets.depth_behind.Goals as goal

pub returns-else-depth-eq0 : goal.returns-else-depth-eq0
returns-else-depth-eq0 c =
    let leaf = leaf_at c.args.source.now c.args.at in
    let closed = sym c.if-is.ensures.value in
    let down : ◌≡◌ {A = ℕ} (cond (is c.args.closes leaf) 1 0) 1 = ap (λ b. cond b 1 0) closed in
    let up : ◌≡◌ {A = ℕ} (cond (is c.args.opens leaf) 1 0) 0 =
    ap (λ b. cond b 1 0) (apart c.args.opens c.args.closes leaf c.requires.apart closed) in
    omega (arith, down, up)
