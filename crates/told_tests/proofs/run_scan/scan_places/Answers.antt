use Rattle.std.proofs.Common.{ℕ, ◌<◌, ◌+◌, ◌∙◌, sym, ap, subst, Bool, [], filter, get_or, length, map, arith}
use Rattle.std.specs.Prelude.{All}
use Rattle.std.specs.List.{range_with_len}
use Rattle.filters.specs.Sources.{block_in}
use Rattle.filters.proofs.Tables.{rows_are}
use Rattle.told_tests.specs.RunScans.{is_met_at, is_met_in}
use Rattle.told_tests.proofs.RunPlaces.{as_many, met_by_place}
use Rattle.told_tests.proofs.WordPlaces.{all_places, places_below}
use Rattle.told_tests.proofs.run_scan.scan_places.Goals as goal

pub scan_run-requires-clause-in_rows : goal.scan_run-requires-clause-in_rows
scan_run-requires-clause-in_rows c =
    let source = c.args.source.now in
    let long = ap length (rows_are source.database (block_in source) c.args.column.table c.table-table.result.now c.table-table.ensures.exact) in
    omega (arith, long, c.len.ensures.exact, c.if-first-rows.false)

pub returns-clause-within : goal.returns-clause-within
returns-clause-within c =
    let a = c.args in
    let items = a.batch.now.items in
    let rows = c.column-rows.result.now in
    let first = c.in_ok-first.first in
    let p : ℕ → Bool = λ place. is_met_in a.source.now a.column a.op a.number (first + place) in
    let long = as_many a.source.now a.column a.op a.number items rows first c.column-rows.ensures c.in_ok-first.ensures.run in
    let below : All (λ place. place < length items) (filter p (range_with_len 0 (length rows))) = subst (λ n. All (λ place. place < n) (filter p (range_with_len 0 (length rows)))) long (places_below p (length rows)) in
    subst (All (λ place. place < length items)) (sym c.scan_run.ensures.places) below

pub returns-clause-passing : goal.returns-clause-passing
returns-clause-passing c =
    let a = c.args in
    let items = a.batch.now.items in
    let rows = c.column-rows.result.now in
    let first = c.in_ok-first.first in
    let p : ℕ → Bool = λ place. is_met_in a.source.now a.column a.op a.number (first + place) in
    let long = as_many a.source.now a.column a.op a.number items rows first c.column-rows.ensures c.in_ok-first.ensures.run in
    ap (map (λ place. get_or items place [])) (c.scan_run.ensures.places ∙ ap (λ n. filter p (range_with_len 0 n)) long)
    ∙ all_places p (is_met_at a.source.now a.column a.op a.number) items [] (met_by_place a.source.now a.column a.op a.number items rows first c.column-rows.ensures c.in_ok-first.ensures.run)
