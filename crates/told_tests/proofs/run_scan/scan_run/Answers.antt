use Rattle.std.proofs.Common.{ℕ, ◌∙◌, ◌+◌, ◌++◌, ap, Bool, arith}
use Rattle.filters.specs.Words.{rows_in_word}
use Rattle.told_tests.specs.RunScans.{is_met_in}
use Rattle.told_tests.proofs.WordPlaces.{by_place, few_places, places_further, small_places}
use Rattle.told_tests.proofs.run_scan.scan_run.Goals as goal

pub write_places-written-requires-clause-small : goal.write_places-written-requires-clause-small
write_places-written-requires-clause-small c =
    let a = c.args in
    let met : ℕ → Bool = is_met_in a.source.now a.column a.op a.number in
    let done = c.words.done in
    let rows = c.min-rows.result in
    let word = c.matching_word-word.ensures ∙ by_place met a.first done rows in
    small_places (λ place. met (a.first + place)) done rows c.matching_word-word.result word (omega (arith, c.words-test.true, c.requires.few, c.min-rows.ensures))

pub write_places-written-requires-clause-room : goal.write_places-written-requires-clause-room
write_places-written-requires-clause-room c =
    let a = c.args in
    let met : ℕ → Bool = is_met_in a.source.now a.column a.op a.number in
    let done = c.words.done in
    let rows = c.min-rows.result in
    let word = c.matching_word-word.ensures ∙ by_place met a.first done rows in
    let few = few_places (λ place. met (a.first + place)) done rows c.matching_word-word.result word in
    omega (arith, few, c.words.invariant.few, c.words.invariant.room, c.words-test.true, c.requires.few, c.min-rows.ensures)

pub words-preserved : goal.words-preserved
words-preserved c =
    let a = c.args in
    let met : ℕ → Bool = is_met_in a.source.now a.column a.op a.number in
    let done = c.words.done in
    let rows = c.min-rows.result in
    let word = c.matching_word-word.ensures ∙ by_place met a.first done rows in
    let found = c.matching_word-word.result in
    let few = few_places (λ place. met (a.first + place)) done rows found word in
    record {
      places = c.write_places-written.ensures.places ∙ ap (λ before. before ++ rows_in_word found done) c.words.invariant.places ∙ places_further (λ place. met (a.first + place)) done rows found word;
      few = omega (arith, few, c.write_places-written.ensures.count, c.words.invariant.few);
      within = omega (arith, c.words-test.true, c.min-rows.ensures);
      room = c.write_places-written.ensures.room ∙ c.words.invariant.room;
    }
