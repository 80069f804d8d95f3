use Rattle.std.proofs.Common.{refl, arith}
use Rattle.std.proofs.lemmas.Fmt.{decimal_digit}
use Rattle.certificate_files.proofs.lines.space_words.Goals as goal

pub returns-in-One : goal.returns-in-One
returns-in-One c = rw (c.in-One.is, decimal_digit 1 (omega arith)) refl

pub returns-in-Two : goal.returns-in-Two
returns-in-Two c = rw (c.in-Two.is, decimal_digit 2 (omega arith)) refl
