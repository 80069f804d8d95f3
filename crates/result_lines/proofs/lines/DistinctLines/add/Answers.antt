use Rattle.std.proofs.Common.{◌≡◌, ◌∙◌, ◌∷◌, ◌++◌, [], sym, ap, true, cond, map, nat_eq}
use Rattle.std.specs.Prelude.{not}
use Rattle.std.specs.Cmp.Lexicographic.{pointwise}
use Rattle.std.specs.List.{list_any}
use Rattle.definitions_answers.specs.Lines.{with_line}
use Rattle.result_lines.specs.Lines.{lines_of}
use Rattle.result_lines.proofs.Inserted.{any_mapped, inserted}
use Rattle.result_lines.proofs.lines.DistinctLines.add.Goals as goal

there : (c : goal.Then-contains) → list_any (pointwise nat_eq c.args.line.now.items) (lines_of c.args.self.now) ≡ true
there c = sym (any_mapped (pointwise nat_eq c.args.line.now.items) (λ line. line.items) c.args.self.now.set.keys) ∙ sym c.contains.ensures ∙ c.if-contains.true

pub returns-then-contains-clause-lines : goal.returns-then-contains-clause-lines
returns-then-contains-clause-lines c = sym (ap (λ t. cond t (lines_of c.args.self.now) (lines_of c.args.self.now ++ c.args.line.now.items ∷ [])) (there c))

pub returns-then-contains-clause-added : goal.returns-then-contains-clause-added
returns-then-contains-clause-added c = sym (ap not (there c))

pub returns-clause-lines : goal.returns-clause-lines
returns-clause-lines c =
    let copied : c.extend_from_slice.new.self.items ≡ c.args.line.now.items = rw (c.new-own.ensures.items, c.deref.ensures.value) at c.in_ok-extend_from_slice.ensures.items in
    ap (map (λ line. line.items)) c.in_ok-insert_full.ensures.keys ∙ inserted (pointwise nat_eq) (λ line. line.items) c.args.self.now.set.keys c.extend_from_slice.new.self ∙ ap (with_line (lines_of c.args.self.now)) copied

pub returns-clause-added : goal.returns-clause-added
returns-clause-added c =
    sym (ap not (sym (any_mapped (pointwise nat_eq c.args.line.now.items) (λ line. line.items) c.args.self.now.set.keys) ∙ sym c.contains.ensures ∙ c.if-contains.false))
