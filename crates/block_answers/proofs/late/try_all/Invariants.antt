use Rattle.std.proofs.Common.{◌≡◌, drop}
use Rattle.std.specs.Prelude.{◌&&◌}
use Rattle.block_answers.specs.OneComposite.{are_true_in, raised_in}
use Rattle.block_answers.specs.Views.{conditions_of}
use Rattle.block_answers.proofs.late.try_all.Given as goal

-- those before one do not raise
abbrev pub invariant-conditions : goal.invariant-conditions
invariant-conditions g l = record {
  truth :
      (l.all && are_true_in (g.S.Environment.environment l.env) (conditions_of (drop l.condition-index l.conditions)))
      ≡ are_true_in (g.S.Environment.environment l.env) (conditions_of l.conditions);
  raises :
      raised_in (g.S.Environment.environment l.env) (conditions_of (drop l.condition-index l.conditions))
      ≡ raised_in (g.S.Environment.environment l.env) (conditions_of l.conditions);
}
