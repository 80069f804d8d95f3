use Rattle.loading.proofs.Scaling.{no_quotient}
use Rattle.loading.proofs.written_number.scale_down.Goals as goal

pub returns-else-units-divisor-eq0-clause-none : goal.returns-else-units-divisor-eq0-clause-none
returns-else-units-divisor-eq0-clause-none c = no_quotient _ _ _ c.requires c.else-units-divisor-eq0.either
