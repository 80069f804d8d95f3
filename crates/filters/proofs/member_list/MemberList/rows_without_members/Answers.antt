use Rattle.std.proofs.Common.{◌∙◌, ap, sym, Bool}
use Rattle.filters.specs.Words.{word_by}
use Rattle.filters.proofs.Listed.{all_rows_met, no_row_met}
use Rattle.filters.proofs.member_list.MemberList.rows_without_members.Goals as goal

pub returns-then-self : goal.returns-then-self
returns-then-self c = λ first. c.all_rows.ensures ∙ all_rows_met first c.args.count ∙ ap (λ (negated : Bool). word_by (λ row. negated) first c.args.count) (sym c.if-self.true)

pub returns-else-self : goal.returns-else-self
returns-else-self c = λ first. no_row_met first c.args.count ∙ ap (λ (negated : Bool). word_by (λ row. negated) first c.args.count) (sym c.if-self.false)
