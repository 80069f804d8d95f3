use Rattle.std.proofs.Common.{◌≡◌, ◌∷◌, true, ap, ◌∙◌, subst}
use Rattle.std.specs.Int.{w64}
use Rattle.std.proofs.lemmas.Int.{to_z-of_z}
use Rattle.result_lines.specs.SeenUnits.{has_unit}
use Rattle.result_lines.proofs.Repeats.{filled, later, repeated}
use Rattle.result_lines.proofs.seen_units.SeenUnits.grow.Goals as goal
use Rattle.result_lines.proofs.seen_units.SeenUnits.grow.Goals.{then-is_empty+in_ok-resize, else-is_empty+then-len-lt-MOST_PLACES+in_ok-extend_from_within, else-is_empty+else-len-lt-MOST_PLACES}

pub returns : goal.returns
returns c other h =
    let unit = c.args.unit in
    subst (λ us. has_unit (unit ∷ us) other ≡ true) c.self.view_is
    (elim c.if-is_empty.branch [
      | then-is_empty+in_ok-resize w ↦
          filled c.self.inside.places.items c.if-is_empty.self-inside.places.items 1024 _ unit _ (to_z-of_z w64 unit c.ranges.unit) (ap (λ s. s.places.items) w.self-inside-is ∙ w.in_ok-resize.ensures.items) other h
      | else-is_empty+then-len-lt-MOST_PLACES+in_ok-extend_from_within w ↦ repeated c.self.inside.places.items c.if-is_empty.self-inside.places.items 0 c.self.inside.places.len unit (ap (λ s. s.places.items) w.self-inside-is ∙ w.in_ok-extend_from_within.ensures.items) other h
      | else-is_empty+else-len-lt-MOST_PLACES w ↦ later c.self.inside.places.items unit other (subst (λ us. has_unit us other ≡ true) (ap (λ s. s.places.items) w.self-inside-is) h)
    ])
