-- The cell is replaced where it is listed, and else inserted at its place.
use Rattle.std.proofs.Common.{◌≡◌, true, false, sym, ap, ◌∙◌, arith}
use Rattle.std.specs.Prelude.{slice_get, slice_set}
use Rattle.std.specs.List.{insert}
use Rattle.cpa_interval_bounds.specs.Tables.{are_descending, known_bounds, is_of, place_in}
use Rattle.cpa_interval_bounds.specs.lemmas.TableLemmas.{place_within, cell_bounds, inserted}
use Rattle.cpa_interval_bounds.specs.lemmas.TableLemmas.{insert_keeps, replaced, replace_keeps}
use Rattle.cpa_interval_bounds.proofs.table.list.Goals as goal

pub insert-requires : goal.insert-requires
insert-requires c =
    let within = place_within c.args.cell c.as_slice.result.now in
    let at = c.place_near-place.ensures in
    let long = c.as_slice.ensures.len in
    omega (arith, within, at, long)

pub returns-then-is_of-clause-order : goal.returns-then-is_of-clause-order
returns-then-is_of-clause-order c =
    let cell = c.args.cell in
    let items = c.args.known.now.items in
    let at : c.place_near-place.result ≡ place_in cell items =
    c.place_near-place.ensures ∙ ap (place_in cell) c.as_slice.ensures.value in
    let there : is_of cell (slice_get items (place_in cell items)) ≡ true =
    ap (λ p. is_of cell (slice_get items p)) (sym at)
    ∙ (ap (λ ks. is_of cell (slice_get ks c.place_near-place.result))
    (sym c.as_slice-2.ensures.value)
    ∙ (sym c.is_of.ensures ∙ c.if-is_of.true)) in
    ap (λ p. are_descending c.args.count (slice_set items p (cell_bounds cell c.args.own))) at
    ∙ replace_keeps c.args.count cell c.args.own items there c.requires.order

pub returns-then-is_of-clause-each : goal.returns-then-is_of-clause-each
returns-then-is_of-clause-each c = λ cells.
    let cell = c.args.cell in
    let items = c.args.known.now.items in
    let at : c.place_near-place.result ≡ place_in cell items =
    c.place_near-place.ensures ∙ ap (place_in cell) c.as_slice.ensures.value in
    let there : is_of cell (slice_get items (place_in cell items)) ≡ true =
    ap (λ p. is_of cell (slice_get items p)) (sym at)
    ∙ (ap (λ ks. is_of cell (slice_get ks c.place_near-place.result))
    (sym c.as_slice-2.ensures.value)
    ∙ (sym c.is_of.ensures ∙ c.if-is_of.true)) in
    ap (λ p. known_bounds cells (slice_set items p (cell_bounds cell c.args.own))) at
    ∙ replaced cell c.args.own cells items there

pub returns-in_ok-insert-clause-order : goal.returns-in_ok-insert-clause-order
returns-in_ok-insert-clause-order c =
    let cell = c.args.cell in
    let items = c.args.known.now.items in
    let at : c.place_near-place.result ≡ place_in cell items =
    c.place_near-place.ensures ∙ ap (place_in cell) c.as_slice.ensures.value in
    let none : is_of cell (slice_get items (place_in cell items)) ≡ false =
    ap (λ p. is_of cell (slice_get items p)) (sym at)
    ∙ (ap (λ ks. is_of cell (slice_get ks c.place_near-place.result))
    (sym c.as_slice-2.ensures.value)
    ∙ (sym c.is_of.ensures ∙ c.if-is_of.false)) in
    ap (are_descending c.args.count) c.in_ok-insert.ensures.items
    ∙ (ap (λ p. are_descending c.args.count (insert items p (cell_bounds cell c.args.own))) at
    ∙ insert_keeps c.args.count cell c.args.own items c.requires.below none c.requires.order)

pub returns-in_ok-insert-clause-each : goal.returns-in_ok-insert-clause-each
returns-in_ok-insert-clause-each c = λ cells.
    let cell = c.args.cell in
    let items = c.args.known.now.items in
    let at : c.place_near-place.result ≡ place_in cell items =
    c.place_near-place.ensures ∙ ap (place_in cell) c.as_slice.ensures.value in
    ap (known_bounds cells) c.in_ok-insert.ensures.items
    ∙ (ap (λ p. known_bounds cells (insert items p (cell_bounds cell c.args.own))) at
    ∙ inserted cell c.args.own cells items)
