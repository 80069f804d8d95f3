use Rattle.std.proofs.Common.{arith, ◌∙◌, ap, sym}
use Rattle.std.proofs.lemmas.List.{drop_all}
use Rattle.sqlvalue.specs.LikePatterns.{begins_with, contains}
use Rattle.sqlvalue.proofs.LikePatterns.{contains_at_end, contains_later, contains_past, to_the_end}
use Rattle.sqlvalue.proofs.text_search.contains.Goals as goal

pub loop-place-preserved : goal.loop-place-preserved
loop-place-preserved c =
    c.loop-place.invariant ∙ contains_later c.args.needle.now c.args.text.now c.loop-place.place c.loop-place-test.true (ap (begins_with c.args.needle.now) (sym (to_the_end c.args.text.now c.loop-place.place)) ∙ sym c.begins_with.ensures ∙ c.if-begins_with.false)

pub loop-place-preserved-then-can_pass_eight : goal.loop-place-preserved-then-can_pass_eight
loop-place-preserved-then-can_pass_eight c =
    c.loop-place.invariant ∙ contains_past c.args.needle.now c.args.text.now c.loop-place.place 8 (omega (arith, c.if-can_pass_eight.ensures.within)) c.if-can_pass_eight.ensures.none

pub returns : goal.returns
returns c =
    c.is_empty.ensures ∙ sym (contains_at_end c.args.needle.now) ∙ ap (contains c.args.needle.now) (sym (drop_all c.loop-place.place c.args.text.now c.loop-place-test.false)) ∙ sym c.loop-place.invariant
