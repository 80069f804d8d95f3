use Rattle.std.proofs.Common.{◌≡◌, ◌∷◌, ℤ, true, ◌∙◌, subst}
use Rattle.std.specs.Int.{w64}
use Rattle.std.proofs.lemmas.Int.{to_z-of_z}
use Rattle.result_lines.specs.SeenUnits.{has_unit}
use Rattle.result_lines.proofs.Repeats.{later, placed}
use Rattle.result_lines.proofs.seen_units.SeenUnits.note.Goals as goal
use Rattle.result_lines.proofs.seen_units.SeenUnits.note.Goals.{in-Some, in-None+in_ok-grow-in-None}

pub returns-then-place-len : goal.returns-then-place-len
returns-then-place-len c =
    let unit = c.args.unit in
    let same = to_z-of_z w64 unit c.ranges.unit in
    let kept : (other : ℤ) → has_unit c.match-checked_sub.self other ≡ true → has_unit (unit ∷ c.args.self.now) other ≡ true = λ other h.
    elim c.match-checked_sub.branch [
      | in-Some w ↦ later c.args.self.now unit other (subst (λ us. has_unit us other ≡ true) (w.self-is ∙ c.self.view_is) h)
      | in-None+in_ok-grow-in-None w ↦ subst (λ u. has_unit (u ∷ c.args.self.now) other ≡ true) same (w.grow.ensures other (subst (λ us. has_unit us other ≡ true) w.self-is h))
    ] in
    placed c.args.self.now c.self-2.inside.places.items c.place_of-place.result unit _ same (λ other h. kept other (subst (λ us. has_unit us other ≡ true) c.self-2.view_is h))
