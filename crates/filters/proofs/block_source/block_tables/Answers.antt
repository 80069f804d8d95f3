use Rattle.std.proofs.Common.{◌∙◌, ◌<◌, ap, length, drop}
use Rattle.std.specs.Prelude.{option_and_then, slice_get}
use Rattle.std.specs.List.{AllByRecursion}
use Rattle.std.proofs.lemmas.List.{drop_all}
use Rattle.filters.proofs.Tables.{all_mapped, next_table, number_within, same_length, tables_at, told}
use Rattle.filters.proofs.block_source.block_tables.Goals as goal

pub numbers-preserved : goal.numbers-preserved
numbers-preserved c =
    let db = c.args.database.now in
    let numbers = c.deref-number-items.result.now in
    let i = c.numbers.number-index in
    let all : AllByRecursion (λ n. n < length db) numbers = rw c.deref-number-items.ensures.value c.requires.there in
    let is = rw c.tables.ensures.tables at c.index-tables-number.is in
    next_table db numbers i c.numbers-test.true c.numbers.tables.items c.push.new.self.items _ c.in_ok-push.ensures.items (number_within db numbers i c.numbers-test.true all) is ∙ c.numbers.invariant

pub returns-clause-exact : goal.returns-clause-exact
returns-clause-exact c = λ k.
    let db = c.args.database.now in
    let numbers = c.deref-number-items.result.now in
    let none = drop_all c.numbers.number-index numbers c.numbers-test.false in
    let all = all_mapped told (slice_get db) c.numbers.tables.items (drop c.numbers.number-index numbers) numbers none c.numbers.invariant in
    tables_at db numbers c.numbers.tables.items k all ∙ ap (λ ns. option_and_then (slice_get db) (slice_get ns k)) c.deref-number-items.ensures.value

pub returns-clause-count : goal.returns-clause-count
returns-clause-count c =
    let db = c.args.database.now in
    let numbers = c.deref-number-items.result.now in
    let none = drop_all c.numbers.number-index numbers c.numbers-test.false in
    let all = all_mapped told (slice_get db) c.numbers.tables.items (drop c.numbers.number-index numbers) numbers none c.numbers.invariant in
    same_length told (slice_get db) c.numbers.tables.items numbers all ∙ ap length c.deref-number-items.ensures.value
