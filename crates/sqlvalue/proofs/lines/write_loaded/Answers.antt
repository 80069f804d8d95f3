use Rattle.std.proofs.Common.{◌∙◌, append_assoc}
use Rattle.sqlvalue.proofs.lines.write_loaded.Goals as goal

pub returns : goal.returns
returns c =
    let digits = rw c.unwrap.ensures at c.extend_from_slice.ensures.items in
    let words = rw c.unwrap-2.ensures at c.extend_from_slice-2.ensures.items in
    let text = c.as_bytes-digits.ensures.value ∙ c.format.ensures.text in
    rw (words, digits, text) (simp append_assoc)
