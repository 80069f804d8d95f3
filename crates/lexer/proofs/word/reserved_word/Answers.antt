use Rattle.std.proofs.Common.{◌∙◌}
use Rattle.lexer.proofs.Words.{search_begins, search_ends, search_goes_on}
use Rattle.lexer.proofs.word.reserved_word.Goals as goal

pub loop-word-init : goal.loop-word-init
loop-word-init c = search_begins c.args.text.now c.words_from-word-items.result.now _ _ c.in_ok-first.ensures.value c.to_ascii_uppercase.ensures.value c.words_from-word-items.ensures

pub returns-then-eq_ignore_ascii_case : goal.returns-then-eq_ignore_ascii_case
returns-then-eq_ignore_ascii_case c =
    search_ends c.args.text.now _ c.words_from-word-items.result.now c.loop-word.word-index _ _ c.loop-word-test.true c.loop-word.invariant
    (c.as_bytes.ensures.value ∙ c.as_str.ensures.spelling) (rw c.as_bytes.ensures.value c.as_str.ensures.in_upper_case) c.eq_ignore_ascii_case.ensures.test c.if-eq_ignore_ascii_case.true

pub loop-word-preserved : goal.loop-word-preserved
loop-word-preserved c =
    search_goes_on c.args.text.now _ c.words_from-word-items.result.now c.loop-word.word-index _ _ c.loop-word-test.true c.loop-word.invariant
    (c.as_bytes.ensures.value ∙ c.as_str.ensures.spelling) (rw c.as_bytes.ensures.value c.as_str.ensures.in_upper_case) c.eq_ignore_ascii_case.ensures.test c.if-eq_ignore_ascii_case.false
