use Rattle.std.proofs.Common.{sym, rules}
use Rattle.columns.proofs.TextLists.{own_text, view_type}
use Rattle.columns.proofs.Lookups.{present_text, absent_text}
use Rattle.columns.proofs.text.TextColumn.text_in.Goals as goal

pub returns-then-is_filled-clause-text : goal.returns-then-is_filled-clause-text
returns-then-is_filled-clause-text c =
    sym (present_text _ _ _ _ c.args.row _ c.self.view_is c.is_filled.ensures.value c.range.result.now (search rules) (own_text _ _ _ c.args.row _ _ c.as_str-characters.ensures.value c.from-length.ensures c.range.ensures.value))

pub returns-then-is_filled-clause-held : goal.returns-then-is_filled-clause-held
returns-then-is_filled-clause-held c =
    let a = present_text _ _ _ _ c.args.row _ c.self.view_is c.is_filled.ensures.value c.range.result.now (search rules) (own_text _ _ _ c.args.row _ _ c.as_str-characters.ensures.value c.from-length.ensures c.range.ensures.value) in
    rw a (view_type _ _ _ _ c.self.view_is)

pub returns-else-is_filled-clause-text : goal.returns-else-is_filled-clause-text
returns-else-is_filled-clause-text c = sym (absent_text _ _ _ _ c.args.row _ c.self.view_is c.is_filled.ensures.value (search rules))

pub returns-else-is_filled-clause-held : goal.returns-else-is_filled-clause-held
returns-else-is_filled-clause-held c = rw (absent_text _ _ _ _ c.args.row _ c.self.view_is c.is_filled.ensures.value (search rules)) tt
