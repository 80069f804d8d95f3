use Rattle.std.proofs.Common.{◌≡◌, ◌∙◌, ap, length, List, map, sym, subst}
use Rattle.definitions.specs.Key.{distinct_keys, full_keys}
use Rattle.definitions.specs.IndexRun.{Entry, entry_rows, keys_of}
use Rattle.indexes.specs.Runs.{Index}
use Rattle.indexes.specs.Keys.{columns_of, entry_in}
use Rattle.indexes.proofs.Rows.{entries_own, run_of_rows, rows_counted, rows_rising, rows_same, rows_within}
use Rattle.indexes.proofs.sorted.SortedIndex.with_further_rows.Goals as goal

pub run_rows-requires-clause-same : goal.run_rows-requires-clause-same
run_rows-requires-clause-same c = rows_same (columns_of c.args.keys.now) c.args.self.now.entries c.requires.beginning c.rows.result.now (c.rows.ensures ∙ ap (λ (i : Index). entry_rows i.entries) c.self.view_is)

pub run_rows-requires-clause-within : goal.run_rows-requires-clause-within
run_rows-requires-clause-within c = rows_within (columns_of c.args.keys.now) c.args.self.now.entries c.requires.beginning c.rows.result.now (c.rows.ensures ∙ ap (λ (i : Index). entry_rows i.entries) c.self.view_is)

pub returns-clause-run : goal.returns-clause-run
returns-clause-run c = run_of_rows (columns_of c.args.keys.now) c.in_ok-rows.rows.rows.items _ c.in_ok-rows.ensures.same c.in_ok-rows.ensures.rising c.in_ok-with_rows.ensures.entries

pub run_rows-requires-clause-rising : goal.run_rows-requires-clause-rising
run_rows-requires-clause-rising c = rows_rising (columns_of c.args.keys.now) c.args.self.now.entries c.requires.beginning c.rows.result.now (c.rows.ensures ∙ ap (λ (i : Index). entry_rows i.entries) c.self.view_is)

pub run_rows-requires-clause-counted : goal.run_rows-requires-clause-counted
run_rows-requires-clause-counted c = rows_counted (columns_of c.args.keys.now) c.args.self.now.entries c.requires.beginning c.rows.result.now c.key_count.result (c.rows.ensures ∙ ap (λ (i : Index). entry_rows i.entries) c.self.view_is) (c.key_count.ensures ∙ ap (λ (i : Index). length (distinct_keys (full_keys (keys_of i.entries)))) c.self.view_is)

pub with_rows-requires-clause-old : goal.with_rows-requires-clause-old
with_rows-requires-clause-old c =
    subst (λ (es : List Entry). map (entry_in (columns_of c.args.keys.now)) (entry_rows es) ≡ es) (ap (λ (i : Index). i.entries) (sym c.self.view_is)) (entries_own (columns_of c.args.keys.now) c.args.self.now.entries c.requires.beginning)
