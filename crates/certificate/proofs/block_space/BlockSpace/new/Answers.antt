use Rattle.certificate.proofs.Made.{has_plans, is_space}
use Rattle.certificate.proofs.block_space.BlockSpace.new.Goals as goal

pub new-requires-2 : goal.new-requires-2
new-requires-2 c = has_plans c.args.database.now c.args.block.now c.in_ok-estimate.estimate.block c.in_ok-estimate.ensures.block c.requires.formed

pub returns : goal.returns
returns c =
    is_space c.args.database.now c.args.block.now c.args.number c.args.version c.in_ok-estimate.estimate c.in_ok-space.space c.in_ok-indexes.indexes c.conjuncts-conjunct_count.result.now
    c.in_ok-estimate.ensures.database c.in_ok-estimate.ensures.block c.in_ok-space.ensures.version c.in_ok-space.ensures.database c.in_ok-space.ensures.block c.in_ok-indexes.ensures c.conjuncts-conjunct_count.ensures.exact
