use Rattle.std.proofs.Common.{◌∙◌, refl, sym, ap, length, map}
use Rattle.std.specs.Prelude.{bytes_eq}
use Rattle.std.specs.List.{range_with_len}
use Rattle.definitions.specs.Key.{key_of}
use Rattle.definitions.specs.Statistics.{entry_width, pages_for}
use Rattle.loading.specs.Stored.{headers, rows_of}
use Rattle.loading.proofs.Rows.{length-rows_of}
use Rattle.indexes.specs.Orders.{run_of}
use Rattle.indexes.proofs.Clustered.{keys_in_run, in_place_is_clustered, keys_long}
use Rattle.indexes.proofs.Counted.{first_range, first_taken, same_statistics, there_at}
use Rattle.indexes.proofs.counting.index_statistics.Goals as goal

pub returns : goal.returns
returns c =
    let cs = c.args.columns.now in
    let numbers = c.args.numbers.now in
    let rows = rows_of c.args.rows cs in
    let keys = map (key_of numbers) rows in
    let run = (run_of c.args.order.now).entries in
    let long = keys_long numbers rows in
    let there = there_at numbers 0 (length cs) c.requires.there c.requires.some in
    same_statistics _ _ _ _ _ _ _ _ (c.key_count.ensures ∙ keys_in_run (length numbers) keys run long c.requires.run) (c.entry_pages.ensures ∙ ap (λ n. pages_for n (entry_width (headers cs) numbers)) (sym (length-rows_of c.args.rows cs)))
    (c.are_in_place.ensures ∙ ap (λ rs. bytes_eq rs (range_with_len 0 (length rs))) c.all.ensures ∙ in_place_is_clustered (length numbers) keys run long c.requires.run)
    (c.key_range.ensures ∙ first_range c.args.rows cs numbers _ c.index-columns-numbers.result c.requires.some refl c.requires.filled there c.index-columns-numbers.is)

pub key_range-requires-clause-range : goal.key_range-requires-clause-range
key_range-requires-clause-range c =
    c.requires.range ∙ first_taken c.args.rows c.args.old c.args.columns.now c.args.numbers.now _ c.index-columns-numbers.result c.requires.some refl c.requires.filled (there_at c.args.numbers.now 0 (length c.args.columns.now) c.requires.there c.requires.some) c.index-columns-numbers.is
