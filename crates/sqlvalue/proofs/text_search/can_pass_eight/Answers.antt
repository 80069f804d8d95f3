use Rattle.std.proofs.Common.{arith, ◌≡◌, ◌+◌, ◌-◌, ◌<◌, ℕ, drop, false, get_or, length, take}
use Rattle.std.specs.Bool.{OnTrue}
use Rattle.sqlvalue.specs.LikePatterns.{stand_at}
use Rattle.sqlvalue.proofs.LikePatterns.{none_in_eight, on_true}
use Rattle.sqlvalue.proofs.text_search.can_pass_eight.Goals as goal

pub returns-clause-none : goal.returns-clause-none
returns-clause-none c =
    let needle = c.args.needle.now in
    let text = c.args.text.now in
    let place = c.args.place in
    let long : 1 < length needle = omega (arith, c.if-needle-lt2.false) in
    let within : place + 8 < length text = omega (arith, c.if-text-place-lt9.false) in
    let nine : (place + 9) - place ≡ 9 = omega arith in
    let told : OnTrue c.stand_at_none_of_eight.result ((k : ℕ) → k < 8 → stand_at (get_or needle 0 0) (get_or needle 1 0) (take 9 (drop place text)) k ≡ false) = rw nine at c.stand_at_none_of_eight.ensures in
    on_true c.stand_at_none_of_eight.result (none_in_eight needle text place long within) told
