use Rattle.std.proofs.Common.{◌≡◌, subst}
use Rattle.std.specs.Prelude.{Contains, IfErr, IfOk}
use Rattle.definitions_answers.specs.Told.{told_environment}
use Rattle.sqlvalue.specs.Raises.{raise_of}
use Rattle.subqueries.specs.Keeping.{told_by}
use Rattle.block_answers.specs.OneComposite.{are_true_in, raised_in}
use Rattle.block_answers.specs.Views.{conditions_of}
use Rattle.executor.proofs.nested.try_conjuncts.Goals as goal

pub returns-clause-truth : goal.returns-clause-truth
returns-clause-truth g c = subst (λ env. IfOk c.try_all.result (λ all. all ≡ are_true_in (told_environment env (told_by c.args.results.now)) (conditions_of c.args.late.now))) c.row_at-row.ensures c.try_all.ensures.truth

pub returns-clause-raised : goal.returns-clause-raised
returns-clause-raised g c =
    subst (λ env. IfErr c.try_all.result (λ raise. Contains (raised_in (told_environment env (told_by c.args.results.now)) (conditions_of c.args.late.now)) (raise_of raise))) c.row_at-row.ensures c.try_all.ensures.raised
