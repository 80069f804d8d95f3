use Rattle.std.proofs.Common.{◌≤◌, ◌*◌, ◌+◌, length, arith}
use Rattle.columns.proofs.TextLists.{in_texts, null_in_texts, text_in_texts, boundary, own_text}
use Rattle.columns.proofs.text.TextColumn.cell.Goals as goal

pub is_null-requires : goal.is_null-requires
is_null-requires c = (in_texts _ _ _ _ _ c.self.invariant.filled c.self.view_is c.requires).0

pub returns-then-is_null : goal.returns-then-is_null
returns-then-is_null c = null_in_texts _ _ _ _ _ _ c.self.invariant.filled c.self.view_is c.requires c.is_null.ensures c.if-is_null.true

-- the text ends within the characters
ends : (c : goal.After-as_str-characters) → c.args.row * c.from-length.result + c.from-length.result ≤ length c.as_str-characters.result.now
ends c = rw (c.from-length.ensures, c.as_str-characters.ensures.value) (in_texts _ _ _ _ _ c.self.invariant.filled c.self.view_is c.requires).1

pub overflow_mul-row : goal.overflow_mul-row
overflow_mul-row c = omega (arith, ends c)

pub overflow_mul-row-2 : goal.overflow_mul-row-2
overflow_mul-row-2 c = omega (arith, ends c)

pub overflow_add-row : goal.overflow_add-row
overflow_add-row c = omega (arith, ends c)

pub range-requires-clause-start_boundary : goal.range-requires-clause-start_boundary
range-requires-clause-start_boundary c h = boundary _ _ _ c.as_str-characters.ensures.value c.self.invariant.ascii (omega (arith, ends c))

pub range-requires-clause-end_boundary : goal.range-requires-clause-end_boundary
range-requires-clause-end_boundary c = boundary _ _ _ c.as_str-characters.ensures.value c.self.invariant.ascii (ends c)

pub returns : goal.returns
returns c =
    text_in_texts _ _ _ _ _ _ _ c.self.invariant.filled c.self.view_is c.requires c.is_null.ensures c.if-is_null.false
    (own_text _ _ _ c.args.row _ _ c.as_str-characters.ensures.value c.from-length.ensures c.range.ensures.value)
