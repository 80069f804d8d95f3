use Rattle.std.proofs.Common.{rules, ◌≡◌, ◌∙◌, sym, ap, subst}
use Rattle.definitions.specs.Queries.Conjuncts.{late_conjuncts}
use Rattle.query_tree.specs.Bound.{block_of}
use Rattle.block_answers.specs.Views.{conditions_of}
use Rattle.plan_space.specs.Parts.{AreConjunctsOf}
use Rattle.executor.proofs.ready_block.ReadyBlock.new.Goals as goal

pub returns-clause-ready : goal.returns-clause-ready
returns-clause-ready c = λ blocks number given.
    let late : conditions_of c.in_ok-late.late.items ≡ late_conjuncts (block_of c.args.block.now) =
    ap (λ own. conditions_of own.items) (sym c.in_ok-late.late-is)
    ∙ c.in_ok-late.ensures.late (block_of c.args.block.now) (subst (AreConjunctsOf (block_of c.args.block.now)) (sym c.deref.ensures.value) c.requires.conjuncts) in
    search (rules, late, given)
