use Rattle.std.proofs.Common.{◌∙◌, ap, arith}
use Rattle.std.specs.Prelude.{not}
use Rattle.parse_tree.specs.Trees.{list_of}
use Rattle.parse_tree.proofs.Views.{of_asterisk, of_items}
use Rattle.query_rules.proofs.BlockLimits.{star_refused, items_refused, groups_refused, conjuncts_refused, within_limits, few_when_asterisk, few_when_items, few_conjuncts, no_conjuncts, room_left}
use Rattle.query_rules.proofs.limit.judge_limits.Goals as goal
use Rattle.query_rules.proofs.limit.judge_limits.Goals.{in-Asterisk+else-grouped, in-Items+else-len-gt-MAX_ITEMS, in_default-condition-via-in-Some+else-is_none, in_default-condition-via-in_default-condition}

pub returns-in-Asterisk-clause-refused : goal.returns-in-Asterisk-clause-refused
returns-in-Asterisk-clause-refused c = star_refused c.args.query.now c.args.grouped c.requires.grouped c.if-grouped.true (ap list_of c.in-Asterisk.is ∙ of_asterisk c.in-Asterisk.start)

pub returns-in-Items-clause-refused : goal.returns-in-Items-clause-refused
returns-in-Items-clause-refused c = items_refused c.args.query.now c.in-Items.items.items (ap list_of c.in-Items.is ∙ of_items c.in-Items.items) (omega (arith, c.if-len-gt-MAX_ITEMS.true, c.len.ensures, c.in-Items.items.ok.0))

pub returns-then-len-gt-MAX_GROUP_COLUMNS-clause-refused :
    goal.returns-then-len-gt-MAX_GROUP_COLUMNS-clause-refused
returns-then-len-gt-MAX_GROUP_COLUMNS-clause-refused c = groups_refused c.args.query.now (omega (arith, c.if-len-gt-MAX_GROUP_COLUMNS.true, c.len-2.ensures, c.args.query.now.groups.ok.0))

pub returns-in-Some-clause-refused : goal.returns-in-Some-clause-refused
returns-in-Some-clause-refused c = conjuncts_refused c.args.query.now c.in-Some.condition c.in-Some.is (c.conjuncts_left.ensures.none (c.is_none.ensures ∙ ap not c.if-is_none.true))

pub returns-in_default-condition-clause-ok : goal.returns-in_default-condition-clause-ok
returns-in_default-condition-clause-ok c =
    within_limits c.args.query.now c.args.grouped
    (elim c.match-query.branch [
      | in-Asterisk+else-grouped w ↦ few_when_asterisk c.args.query.now c.args.grouped w.if-grouped.false (ap list_of w.in-Asterisk.is ∙ of_asterisk w.in-Asterisk.start)
      | in-Items+else-len-gt-MAX_ITEMS w ↦ few_when_items c.args.query.now c.args.grouped w.in-Items.items.items (ap list_of w.in-Items.is ∙ of_items w.in-Items.items) (omega (arith, w.if-len-gt-MAX_ITEMS.false, w.len.ensures, w.in-Items.items.ok.0))
    ])
    (omega (arith, c.if-len-gt-MAX_GROUP_COLUMNS.false, c.len-2.ensures, c.args.query.now.groups.ok.0))
    (elim c.in_default-condition.branch [
      | in_default-condition-via-in-Some+else-is_none w ↦ few_conjuncts c.args.query.now w.in-Some.condition w.in-Some.is (room_left w.conjuncts_left.result _ (w.is_none.ensures ∙ ap not w.if-is_none.false) w.conjuncts_left.ensures.some)
      | in_default-condition-via-in_default-condition w ↦ no_conjuncts c.args.query.now w.in_default-condition.is
    ])
