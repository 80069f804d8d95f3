use Rattle.definitions_answers.proofs.Ordered.{delivered_are_required, left_are_required}
use Rattle.definitions_answers.proofs.delivered_are_required.Goals as goal

pub returns-clause-delivered : goal.returns-clause-delivered
returns-clause-delivered c version context block plan composites is gives given = delivered_are_required version context block plan composites is gives given

pub returns-clause-left : goal.returns-clause-left
returns-clause-left c block test cs h = left_are_required block test cs h
