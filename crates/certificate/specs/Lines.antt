-- The lines of a text from PLAN on.
use Rattle.std.specs.Prelude.{ℕ, List, ◌++◌, codes, decimal, flat_map}
use Rattle.definitions.specs.Printing.{line}
use Rattle.definitions.specs.Plans.Plan.{Plan}
use Rattle.definitions.specs.Plans.Certificate.{Certificate}
use Rattle.definitions.specs.Certificates.Text.{plan_text, state_line, end_line}

abbrev pub lines_of : Plan → Certificate → List ℕ
lines_of plan certificate =
    line (codes "PLAN " ++ plan_text plan) ++ line (codes "TARGET " ++ decimal certificate.target)
    ++ flat_map state_line certificate.states ++ end_line
