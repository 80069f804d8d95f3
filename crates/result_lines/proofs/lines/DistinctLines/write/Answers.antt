use Rattle.std.proofs.Common.{rules, ◌∙◌, ◌++◌, sym, ap, ap₂, append_assoc, map, take}
use Rattle.std.specs.Prelude.{option_copied}
use Rattle.result_lines.specs.Lines.{joined_lines}
use Rattle.result_lines.proofs.Inserted.{line_more}
use Rattle.result_lines.proofs.lines.DistinctLines.write.Goals.{in-Some+in_ok-extend_from_slice, in_default}
use Rattle.result_lines.proofs.lines.DistinctLines.write.Goals as goal

pub places-preserved : goal.places-preserved
places-preserved c = elim c.match-get_index.branch [
  | in-Some+in_ok-extend_from_slice w ↦
      let more = line_more (λ line. line.items) c.args.self.now.set.keys c.places.place w.in-Some.line.now (sym c.get_index.ensures.key ∙ ap option_copied w.in-Some.is) in
      ap (λ o. o.items) w.out-is
      ∙ w.in_ok-extend_from_slice.ensures.items
      ∙ ap₂ (λ a b. a ++ b) c.places.invariant w.deref.ensures.value
      ∙ append_assoc c.args.out.now.items (joined_lines (map (λ line. line.items) (take c.places.place c.args.self.now.set.keys))) w.in-Some.line.now.items
      ∙ ap (λ l. c.args.out.now.items ++ l) (sym more)
  | in_default w ↦ absurd (search rules)
]
