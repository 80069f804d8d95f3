use Rattle.certificate_syntax.proofs.Digits.{prefix_split}
use Rattle.certificate_syntax.proofs.number.split_digits.Goals as goal

pub returns : goal.returns
returns c = rw (c.split_at.ensures.front, c.split_at.ensures.back, c.digit_count.ensures.count) (prefix_split c.args.text.now)
