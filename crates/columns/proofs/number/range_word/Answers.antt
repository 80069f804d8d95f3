use Rattle.std.proofs.Common.{◌≡◌, ◌∙◌, ap₂, map, rules}
use Rattle.std.specs.Prelude.{FitsSigned, int_le, ◌&&◌}
use Rattle.std.specs.Int.{w64}
use Rattle.std.proofs.lemmas.Int.{to_z-of_z}
use Rattle.definitions.specs.Scanning.{word_of}
use Rattle.columns.proofs.Scans.{others_word}
use Rattle.columns.proofs.number.range_word.Goals as goal

-- the word of the units between the bounds
between : (c : goal.After-all_rows) → c.units_within-within.result ≡ word_of (map (λ u. int_le c.args.range.low u && int_le u c.args.range.high) c.args.units.now)
between c =
    let low : FitsSigned w64 c.args.range.low = search rules in
    let high : FitsSigned w64 c.args.range.high = search rules in
    c.units_within-within.ensures ∙ ap₂ (λ l h. word_of (map (λ u. int_le l u && int_le u h) c.args.units.now)) (to_z-of_z w64 _ low) (to_z-of_z w64 _ high)

pub overflow_sub-result : goal.overflow_sub-result
overflow_sub-result c = (others_word c.args.range c.args.units.now _ _ c.if-outside.true (between c) c.all_rows.ensures).0

pub returns-then-outside : goal.returns-then-outside
returns-then-outside c = (others_word c.args.range c.args.units.now _ _ c.if-outside.true (between c) c.all_rows.ensures).1
