use Rattle.std.proofs.Common.{◌≤◌, ◌+◌, ◌*◌, ◌∙◌, length, ap, arith}
use Rattle.definitions.specs.Value.{Text}
use Rattle.definitions.specs.Scanning.{part_of, true_word, unknown_word}
use Rattle.sqlvalue.specs.Meaning.{op_of}
use Rattle.columns.proofs.Scans.{text_rows, others_of_part, scanned_texts, unlike_texts, unlike_text, characters_behind, rows_behind}
use Rattle.columns.proofs.text.TextColumn.scan.Goals as goal

pub word-nulls-requires-clause-within : goal.word-nulls-requires-clause-within
word-nulls-requires-clause-within c = (text_rows _ _ c.self.inside.nulls _ c.args.first c.args.rows c.self.invariant.filled c.self.view_is c.requires.within).0

pub returns-in_default : goal.returns-in_default
returns-in_default c =
    let rows = text_rows _ _ c.self.inside.nulls _ c.args.first c.args.rows c.self.invariant.filled c.self.view_is c.requires.within in
    let (met, unknown) = unlike_texts _ _ c.self.inside.nulls _ c.args.first c.args.rows (op_of c.args.op) _ _ c.self.view_is rows.0 (unlike_text _ c.in_default.not-Text) c.all_rows.ensures in
    record { met = met; unknown = unknown }

-- the part begins within the characters, and has those of its rows
begins : (c : goal.After-as_bytes) → c.args.first * c.from-length.result + c.args.rows * c.from-length.result ≤ length c.as_bytes.result.now
begins c = rw (c.from-length.ensures, c.as_bytes.ensures.value) (text_rows _ _ c.self.inside.nulls _ c.args.first c.args.rows c.self.invariant.filled c.self.view_is c.requires.within).1

pub overflow_mul-characters : goal.overflow_mul-characters
overflow_mul-characters c = omega (arith, begins c)

pub slice_bounds-characters-count : goal.slice_bounds-characters-count
slice_bounds-characters-count c = omega (arith, begins c)

pub slice_bounds-characters-start : goal.slice_bounds-characters-start
slice_bounds-characters-start c = let start = begins c in omega (arith, start)

pub texts_word-met-requires-clause-within : goal.texts_word-met-requires-clause-within
texts_word-met-requires-clause-within c =
    let fits : c.args.first * c.from-length.result + c.args.rows * c.from-length.result ≤ length c.as_bytes.result.now = rw (c.from-length.ensures, c.as_bytes.ensures.value) (text_rows _ _ c.self.inside.nulls _ c.args.first c.args.rows c.self.invariant.filled c.self.view_is c.requires.within).1 in
    rows_behind _ _ _ fits

pub overflow_sub-result : goal.overflow_sub-result
overflow_sub-result c = (others_of_part c.args.first c.args.rows c.self.inside.nulls _ _ (text_rows _ _ c.self.inside.nulls _ c.args.first c.args.rows c.self.invariant.filled c.self.view_is c.requires.within).0 c.word-nulls.ensures c.all_rows-2.ensures).0

pub returns-clause-met : goal.returns-clause-met
returns-clause-met c = let rows = text_rows _ _ c.self.inside.nulls _ c.args.first c.args.rows c.self.invariant.filled c.self.view_is c.requires.within in rw c.in-Text.is ((scanned_texts _ _ c.self.inside.nulls _ c.args.first c.args.rows (op_of c.args.op) _ _ _ _ _ _ c.self.view_is rows.0 c.from-length.ensures (characters_behind _ _ c.args.first _ _ c.as_bytes.ensures.value c.from-length.ensures)
    c.texts_word-met.ensures c.word-nulls.ensures c.all_rows-2.ensures).0 ∙ ap (λ t. true_word (op_of c.args.op) (Text t) (part_of c.args.first c.args.rows c.args.self.now.values)) c.as_bytes-2.ensures.value)

pub returns-clause-unknown : goal.returns-clause-unknown
returns-clause-unknown c = let rows = text_rows _ _ c.self.inside.nulls _ c.args.first c.args.rows c.self.invariant.filled c.self.view_is c.requires.within in rw c.in-Text.is ((scanned_texts _ _ c.self.inside.nulls _ c.args.first c.args.rows (op_of c.args.op) _ _ _ _ _ _ c.self.view_is rows.0 c.from-length.ensures (characters_behind _ _ c.args.first _ _ c.as_bytes.ensures.value c.from-length.ensures)
    c.texts_word-met.ensures c.word-nulls.ensures c.all_rows-2.ensures).1 ∙ ap (λ t. unknown_word (op_of c.args.op) (Text t) (part_of c.args.first c.args.rows c.args.self.now.values)) c.as_bytes-2.ensures.value)
