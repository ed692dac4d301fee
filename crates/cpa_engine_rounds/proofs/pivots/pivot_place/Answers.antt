use Rattle.std.proofs.Common.{◌∙◌, ◌&&◌, ◌||◌, not, ℕ, Bool, List, ap, sym, length}
use Rattle.std.specs.Prelude.{nat_lt}
use Rattle.std.specs.List.{list_all, range_with_len}
use Rattle.cpa_query.specs.Queries.{is_marked}
use Rattle.cpa_folds.specs.Along.{acts_along}
use Rattle.cpa_engine_rounds.specs.Pivots.{new_of, is_new, before_write, is_set_first}
use Rattle.cpa_engine_rounds.proofs.SetFirst.{is_pivot, acts_count, below_cells}
use Rattle.cpa_engine_rounds.proofs.pivots.pivot_place.Goals as goal

pub returns-clause-pivot : goal.returns-clause-pivot
returns-clause-pivot c =
    let cfa = c.args.cfa.now in
    let cells = length cfa.cells in
    let path = c.args.path.now.edges in
    let old = c.args.old.now in
    let new = c.args.new.now in
    let some = new_of cells old new in
    let news = c.in_ok-news.news.items in
    let set = c.in_ok-set.set.items in
    let is_path = c.as_slice-edges.ensures in
    is_pivot cells (length c.as_slice-edges.result.now) some (acts_along cfa path) news set
    c.are_all.result c.before_write-place.result c.chosen.result
    (λ n. below_cells (is_new old new n) (nat_lt n cells))
    (c.in_ok-news.ensures.length ∙ c.len.ensures)
    (λ n. c.in_ok-news.ensures.marks n ∙ ap (λ (k : ℕ). new_of k old new n) c.len.ensures)
    (λ n. c.in_ok-set.ensures n
    ∙ ap (λ (es : List ℕ). is_set_first (acts_along cfa es) n && nat_lt n cells) is_path)
    (c.are_all.ensures
    ∙ ap (λ (ms : List Bool). list_all (λ n. not (is_marked ms n)
    || is_marked c.deref-3.result.now n) (range_with_len 0 (length ms))) c.deref-2.ensures.value
    ∙ ap (λ (ms : List Bool). list_all (λ n. not (is_marked news n) || is_marked ms n)
    (range_with_len 0 (length news))) c.deref-3.ensures.value)
    (c.before_write-place.ensures
    ∙ ap (λ (ms : List Bool). before_write (is_marked ms)
    (acts_along cfa c.as_slice-edges.result.now)) c.deref.ensures.value
    ∙ ap (λ (es : List ℕ). before_write (is_marked news) (acts_along cfa es)) is_path)
    (ap (λ (es : List ℕ). length es) is_path ∙ sym (acts_count cfa path c.requires))
    c.chosen.ensures.place
