use Rattle.std.proofs.Common.{◌≡◌, ◌++◌}
use Rattle.std.specs.String.{string_bytes}
use Rattle.cpa_top_bench.specs.Texts.{lines_of, numbered}
use Rattle.cpa_top_bench.proofs.text.push_lines.Given as goal

abbrev pub invariant-loop-k : goal.invariant-loop-k
invariant-loop-k l =
    string_bytes l.text ≡ string_bytes l.fn.text ++ lines_of (numbered l.front l.back) l.k
