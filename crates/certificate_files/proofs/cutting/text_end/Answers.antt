use Rattle.std.proofs.Common.{◌≡◌, ◌∙◌, ◌≤◌, ◌<◌, sym, true, false, length, length-drop, take, drop, bytes_eq, arith}
use Rattle.definitions.specs.Certificates.Text.{end_line}
use Rattle.certificate_files.specs.FirstLine.{IsFirstLine}
use Rattle.certificate_files.proofs.FirstLines.{whole_left, something_left, own_more, behind_more, own_is, behind_is}
use Rattle.certificate_files.proofs.cutting.text_end.Goals as goal

pub lines-preserved : goal.lines-preserved
lines-preserved c =
    let bytes = c.args.bytes.now in
    let at = c.lines.at in
    let end = c.line_end-end.result in
    let within : end ≤ length (drop at bytes) = rw (whole_left bytes at) at c.line_end-end.ensures.within in
    let line : 0 < length (drop at bytes) → IsFirstLine (drop at bytes) end = rw (whole_left bytes at) at c.line_end-end.ensures.line in
    let other : bytes_eq (take end (drop at bytes)) end_line ≡ false = rw (whole_left bytes at) at (sym c.is_last.ensures ∙ c.if-is_last.false) in
    let first = line (something_left bytes at c.lines-test.true) in
    record {
      within = omega (arith, within, length-drop at bytes, c.lines-test.true);
      own = own_more bytes at end first other c.lines.invariant.own;
      rest = behind_more bytes at end first other c.lines.invariant.rest;
    }

pub returns-then-is_last : goal.returns-then-is_last
returns-then-is_last c =
    let bytes = c.args.bytes.now in
    let at = c.lines.at in
    let end = c.line_end-end.result in
    let within : end ≤ length (drop at bytes) = rw (whole_left bytes at) at c.line_end-end.ensures.within in
    let line : 0 < length (drop at bytes) → IsFirstLine (drop at bytes) end = rw (whole_left bytes at) at c.line_end-end.ensures.line in
    let last : bytes_eq (take end (drop at bytes)) end_line ≡ true = rw (whole_left bytes at) at (sym c.is_last.ensures ∙ c.if-is_last.true) in
    let first = line (something_left bytes at c.lines-test.true) in
    record {
      within = omega (arith, within, length-drop at bytes, c.lines-test.true);
      own = own_is bytes at end first last c.lines.invariant.own;
      rest = behind_is bytes at end first last c.lines.invariant.rest;
    }
