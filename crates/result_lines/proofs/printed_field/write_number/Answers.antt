use Rattle.definitions.proofs.Ranking.{power_is_positive}
use Rattle.result_lines.proofs.printed_field.write_number.Goals as goal

pub nonzero_div-size : goal.nonzero_div-size
nonzero_div-size c = rw c.requires (power_is_positive c.args.scale)

pub nonzero_rem-size : goal.nonzero_rem-size
nonzero_rem-size c = rw c.requires (power_is_positive c.args.scale)
