use Rattle.std.proofs.Common.{◌≡◌, ◌+◌, ◌*◌, ◌/◌, ◌%◌, ◌^◌, ◌∙◌, ap, take, drop, get_or, arith}
use Rattle.definitions.specs.Scanning.{word_of}
use Rattle.columns.proofs.NullFlags.{rows_counted, word_of_part}
use Rattle.columns.proofs.null_bits.NullBits.word.Goals as goal

pub returns : goal.returns
returns c =
    let n = c.self.inside in
    let first = c.args.first in
    let counted = rows_counted n.words.items n.len _ c.self.view_is in
    let low = c.from.ensures ∙ c.word_at-low.ensures ∙ ap (λ ws. get_or ws (first / 64) 0) c.deref.ensures.value in
    let high = c.from-2.ensures ∙ c.word_at-high.ensures ∙ ap (λ ws. get_or ws (first / 64 + 1) 0) c.deref-2.ensures.value in
    let both : c.from.result + c.from-2.result * 2 ^ 64 % 2 ^ 128 ≡ c.from-2.result * 2 ^ 64 + c.from.result = omega (arith, c.from-2.ensures, c.word_at-high.type_inv) in
    word_of_part n.words.items n.len first c.args.rows c.from.result c.from-2.result _ c.from-3.result (omega (arith, counted, c.requires.within)) c.requires.few
    low high (omega (arith, c.from.ensures, c.word_at-low.type_inv)) both (c.from-3.ensures ∙ c.all_rows.ensures)
    ∙ ap (λ fs. word_of (take c.args.rows (drop first fs))) c.self.view_is
