use Rattle.std.proofs.Common.{rules, to_z-of_z, ◌≡◌, ◌∙◌, ap, ap₂}
use Rattle.std.specs.Prelude.{FitsSigned, ◌*ℤ◌}
use Rattle.std.specs.Int.{w64}
use Rattle.std.specs.Ordering.{int_cmp}
use Rattle.definitions.specs.Truth.{agrees}
use Rattle.definitions.specs.Value.{number_cmp}
use Rattle.sqlvalue.specs.Meaning.{op_of}
use Rattle.expr.proofs.Places.{known_true}
use Rattle.expr.proofs.Shorts.{common_scale}
use Rattle.expr.proofs.vectors.is_met.Goals as goal

pub returns : goal.returns
returns c = λ m n up down.
    let s = c.in-Some-Some in
    let f : FitsSigned w64 s.a = search rules in
    let g : FitsSigned w64 s.b = search rules in
    let i : FitsSigned w64 c.args.times_left = search rules in
    let j : FitsSigned w64 c.args.times_right = search rules in
    let h : FitsSigned w64 c.in_ok-a.a = search rules in
    let l : FitsSigned w64 c.in_ok-b.b = search rules in
    let left : c.in_ok-a.a ≡ s.a *ℤ c.args.times_left = simp to_z-of_z at c.in_ok-a.ensures in
    let right : c.in_ok-b.b ≡ s.b *ℤ c.args.times_right = simp to_z-of_z at c.in_ok-b.ensures in
    let order : c.cmp.result ≡ int_cmp c.in_ok-a.a c.in_ok-b.b = simp to_z-of_z at c.cmp.ensures in
    let same : c.cmp.result ≡ number_cmp s.a m s.b n = order ∙ ap₂ int_cmp (left ∙ ap (λ z. s.a *ℤ z) up) (right ∙ ap (λ z. s.b *ℤ z) down) ∙ common_scale s.a s.b m n in
    rw (s.is-0, s.is-1) (c.agrees.ensures ∙ ap (agrees (op_of c.args.op)) same ∙ known_true (agrees (op_of c.args.op) (number_cmp s.a m s.b n)))
