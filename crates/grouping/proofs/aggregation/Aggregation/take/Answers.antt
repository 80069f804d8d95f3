use Rattle.std.proofs.Common.{◌∙◌, sym, subst, Bool}
use Rattle.sqlvalue.specs.Meaning.{value_of}
use Rattle.grouping.specs.Aggregating.{MayBeNoted}
use Rattle.result_lines.proofs.Bounded.{is_in_bounds}
use Rattle.grouping.proofs.Distinct.{one_new, one_old}
use Rattle.grouping.proofs.aggregation.Aggregation.take.Goals as goal

pub returns-in_ok-take-clause-taken : goal.returns-in_ok-take-clause-taken
returns-in_ok-take-clause-taken c shape vs sums has all h =
    let told = subst (λ (new : Bool). MayBeNoted c.args.self.now.seen c.is_new.new.self.seen new (value_of c.args.value.now)) c.if-branch.true c.in_ok-is_new.ensures.noted in
    let step = rw c.in_ok-is_new.ensures.running at c.in_ok-take.ensures.taken in
    one_new shape vs (value_of c.args.value.now) all has (is_in_bounds c.args.value.now) (sym c.is_null.ensures ∙ c.if-is_null.false) c.args.self.now _ h c.in_ok-is_new.ensures.distinct told (λ us t r. step shape us sums has t r)

pub returns-else-branch-clause-taken : goal.returns-else-branch-clause-taken
returns-else-branch-clause-taken c shape vs sums has all h =
    let told = subst (λ (new : Bool). MayBeNoted c.args.self.now.seen c.is_new.new.self.seen new (value_of c.args.value.now)) c.if-branch.false c.in_ok-is_new.ensures.noted in
    one_old shape vs (value_of c.args.value.now) all has (is_in_bounds c.args.value.now) (sym c.is_null.ensures ∙ c.if-is_null.false) c.args.self.now _ h c.in_ok-is_new.ensures.running c.in_ok-is_new.ensures.distinct told
