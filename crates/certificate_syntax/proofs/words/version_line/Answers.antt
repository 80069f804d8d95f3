use Rattle.std.proofs.Common.{refl, arith}
use Rattle.std.proofs.lemmas.Fmt.{decimal_digit}
use Rattle.certificate_syntax.proofs.words.version_line.Goals as goal

pub returns-in-One : goal.returns-in-One
returns-in-One c = rw (c.in-One.is, decimal_digit 1 (omega arith)) refl

pub returns-in-Two : goal.returns-in-Two
returns-in-Two c = rw (c.in-Two.is, decimal_digit 2 (omega arith)) refl

pub returns-in-Three : goal.returns-in-Three
returns-in-Three c = rw (c.in-Three.is, decimal_digit 3 (omega arith)) refl
