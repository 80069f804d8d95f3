use Rattle.loading.proofs.Numerals.{Scanned}
use Rattle.loading.proofs.field.number.short_digits.Given as goal

abbrev pub invariant-bytes : goal.invariant-bytes
invariant-bytes l = Scanned l.numeral l.byte-index l.digits l.points
