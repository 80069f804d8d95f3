use Rattle.std.proofs.Common.{◌≡◌, ◌∙◌, ◌+◌, ◌/◌, ◌^◌, ◌++◌, rules, refl, arith, length, set, take}
use Rattle.std.specs.Int.{trailing_zeros, w64}
use Rattle.std.proofs.lemmas.List.{length-set}
use Rattle.filters.specs.Words.{rows_in_word}
use Rattle.filters.proofs.WordRows.{lowest_small, others_small, row_taken}
use Rattle.filters.proofs.WordRows.{rows_of_none}
use Rattle.scans.proofs.Taken.{one_taken}
use Rattle.told_tests.proofs.WordPlaces.{counted_all, none_left, written_all}
use Rattle.told_tests.proofs.run_scan.write_places.Goals as goal

pub overflow_add-place : goal.overflow_add-place
overflow_add-place c = let s = c.bits in let h = lowest_small s.left s.lowest (trailing_zeros w64 s.left) (search rules) (search rules) refl s.invariant.small in omega (arith, h)

pub bits-preserved : goal.bits-preserved
bits-preserved c =
    let s = c.bits in
    let a = c.args in
    let skipped = trailing_zeros w64 s.left in
    let place = s.lowest + skipped in
    let left = s.left / 2 ^ skipped / 2 in
    let long : length (set s.places s.count place) ≡ length s.places = length-set s.places s.count place in
    record {
      taken = one_taken (take a.from a.places.now ++ rows_in_word a.word a.first) s.places (rows_in_word s.left s.lowest) (rows_in_word left (place + 1)) s.count s.invariant.taken place c.if-count-places.true (row_taken s.left s.lowest skipped left (search rules) (search rules) refl refl);
      small = others_small s.left s.lowest skipped (search rules) (search rules) refl s.invariant.small;
      within = omega (arith, long, c.if-count-places.true);
      room = long ∙ s.invariant.room;
    }

pub overflow_cast-places : goal.overflow_cast-places
overflow_cast-places c = let s = c.bits in let h = lowest_small s.left s.lowest (trailing_zeros w64 s.left) (search rules) (search rules) refl s.invariant.small in omega (arith, h)

pub overflow_add-lowest : goal.overflow_add-lowest
overflow_add-lowest c = let s = c.bits in let h = lowest_small s.left s.lowest (trailing_zeros w64 s.left) (search rules) (search rules) refl s.invariant.small in omega (arith, h)

pub returns-else-count-places-clause-places : goal.returns-else-count-places-clause-places
returns-else-count-places-clause-places c =
    let s = c.bits in
    let a = c.args in
    let i = s.invariant in
    let left = rows_in_word s.left s.lowest in
    let rows = rows_in_word a.word a.first in
    written_all a.from s.count a.places.now s.places rows left c.requires.room i.within i.room i.taken
    (none_left a.from s.count a.places.now s.places rows left c.requires.room i.within i.room i.taken c.if-count-places.false)

pub returns-else-count-places-clause-count : goal.returns-else-count-places-clause-count
returns-else-count-places-clause-count c =
    let s = c.bits in
    let a = c.args in
    let i = s.invariant in
    let left = rows_in_word s.left s.lowest in
    let rows = rows_in_word a.word a.first in
    counted_all a.from s.count a.places.now s.places rows left c.requires.room i.within i.room i.taken
    (none_left a.from s.count a.places.now s.places rows left c.requires.room i.within i.room i.taken c.if-count-places.false)

pub returns-after-bits-clause-places : goal.returns-after-bits-clause-places
returns-after-bits-clause-places c =
    let s = c.bits in
    let a = c.args in
    let i = s.invariant in
    written_all a.from s.count a.places.now s.places (rows_in_word a.word a.first) (rows_in_word s.left s.lowest) c.requires.room i.within i.room i.taken (rows_of_none s.left s.lowest c.bits-test.false)

pub returns-after-bits-clause-count : goal.returns-after-bits-clause-count
returns-after-bits-clause-count c =
    let s = c.bits in
    let a = c.args in
    let i = s.invariant in
    counted_all a.from s.count a.places.now s.places (rows_in_word a.word a.first) (rows_in_word s.left s.lowest) c.requires.room i.within i.room i.taken (rows_of_none s.left s.lowest c.bits-test.false)
