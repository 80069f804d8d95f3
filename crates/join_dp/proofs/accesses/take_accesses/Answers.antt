use Rattle.plan_space.specs.Planned.{space_in}
use Rattle.std.proofs.Common.{◌≡◌, ◌+◌, ◌≤◌, subst, arith}
use Rattle.join_dp.specs.Counting.{most_accesses}
use Rattle.join_dp.specs.Searching.{cost_at}
use Rattle.join_dp.specs.States.{search_of}
use Rattle.join_dp.proofs.Known.{accesses_more, accesses_add}
use Rattle.join_dp.proofs.Offering.{more_same, more_more}
use Rattle.join_dp.proofs.accesses.take_accesses.Goals as goal

pub tables-init : goal.tables-init
tables-init c = (c.requires, more_same (search_of c.args.states.now), λ t lt. absurd (omega (arith, lt)), omega arith)

pub take_accesses_of-requires-clause-is_open : goal.take_accesses_of-requires-clause-is_open
take_accesses_of-requires-clause-is_open c = c.tables.invariant.0

pub tables-preserved : goal.tables-preserved
tables-preserved c =
    let i = c.tables.invariant in
    let o = c.in_ok-take_accesses_of.ensures in (
      o.is_open,
      more_more (search_of c.args.states.now) (search_of c.tables.states) (search_of c.take_accesses_of.new.states) i.1 o.more,
      accesses_more (space_in c.args.space.now) (cost_at (search_of c.take_accesses_of.new.states)) (cost_at (search_of c.tables.states)) c.tables.table o.more.lower i.2 o.low,
      omega (arith, o.steps, i.3, accesses_add (space_in c.args.space.now) c.tables.table),
    )

pub returns-clause-is_open : goal.returns-clause-is_open
returns-clause-is_open c = c.tables.invariant.0

pub returns-clause-more : goal.returns-clause-more
returns-clause-more c = c.tables.invariant.1

pub returns-clause-low : goal.returns-clause-low
returns-clause-low c = λ t lt. c.tables.invariant.2 t (omega (arith, lt, c.tables-test.false, c.table_count-table-end.ensures.exact))

pub returns-clause-steps : goal.returns-clause-steps
returns-clause-steps c =
    let e : c.tables.table ≡ (space_in c.args.space.now).table_count = omega (arith, c.tables-test.false, c.tables.auto.table-end, c.table_count-table-end.ensures.exact) in
    subst (λ n. c.tables.states.steps ≤ c.args.states.now.steps + most_accesses (space_in c.args.space.now) n) e c.tables.invariant.3
