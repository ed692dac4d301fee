use Rattle.std.proofs.Common.{◌≡◌, ◌≤◌, ◌∙◌, sym, subst, ℕ, List, length, string_bytes, ap}
use Rattle.c_lexer.specs.declared.lexer.TheConstants.{MAX_TEXT}
use Rattle.cpa_top_bench.specs.Texts.{bench_text}
use Rattle.cpa_top_bench.proofs.Lines.{text_is_short}
use Rattle.cpa_top_bench.proofs.text.bench_text.Goals as goal

pub returns-clause-short : goal.returns-clause-short
returns-clause-short c =
    rw (c.into_bytes.ensures.value, c.in_ok-text.ensures)
    (text_is_short c.args.functions c.requires)
