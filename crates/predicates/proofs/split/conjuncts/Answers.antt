use Rattle.std.proofs.Common.{◌≡◌, ◌∙◌, sym, ap, subst}
use Rattle.std.specs.List.{AllByRecursion}
use Rattle.definitions.specs.Queries.Conjuncts.{conjuncts}
use Rattle.query_tree.specs.Bound.{block_of}
use Rattle.query_tree.specs.Walks.{conditions_in}
use Rattle.predicates.specs.Naming.{NamesFew}
use Rattle.predicates.proofs.FormedBlocks.{few_at, formed_conjuncts_few}
use Rattle.predicates.proofs.split.conjuncts.Goals as goal

pub taken_apart-requires : goal.taken_apart-requires
taken_apart-requires c =
    let (db, somewhere) = c.requires.formed in
    let (blocks, around, n, formed) = somewhere in
    let lent = c.deref-condition-items.result.now in
    let are : conditions_in lent ≡ conjuncts (block_of c.args.block.now) = ap conditions_in c.deref-condition-items.ensures.value ∙ c.in_ok-conditions.ensures in
    record { few = few_at lent c.conditions.condition-index c.condition-item.result (subst (AllByRecursion NamesFew) (sym are) (formed_conjuncts_few db blocks around n (block_of c.args.block.now) formed)) c.conditions-test.true c.condition-item.is }
