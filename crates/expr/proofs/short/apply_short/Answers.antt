use Rattle.std.proofs.Common.{rules, to_z-of_z}
use Rattle.std.specs.Prelude.{FitsSigned, ◌+ℤ◌, ◌-ℤ◌, ◌*ℤ◌}
use Rattle.std.specs.Int.{w64}
use Rattle.expr.proofs.Shorts.{plus_short, minus_short, replaced}
use Rattle.expr.proofs.short.apply_short.Goals as goal

pub returns-in-Plus : goal.returns-in-Plus
returns-in-Plus c =
    let n = c.in-Number-Number in
    let a : FitsSigned w64 n.a = search rules in
    let b : FitsSigned w64 n.b = search rules in
    let whole = simp to_z-of_z at c.checked_add.ensures in
    let told = c.number.ensures.judged (n.a +ℤ n.b) whole in
    rw (n.is-0, n.is-1, c.in-Plus.is, ← c.if-m-n.true) (replaced c.number.result _ _ (plus_short n.a n.b n.m a b) told)

pub returns-in-Minus : goal.returns-in-Minus
returns-in-Minus c =
    let n = c.in-Number-Number in
    let a : FitsSigned w64 n.a = search rules in
    let b : FitsSigned w64 n.b = search rules in
    let whole = simp to_z-of_z at c.checked_sub.ensures in
    let told = c.number-in-Minus.ensures.judged (n.a -ℤ n.b) whole in
    rw (n.is-0, n.is-1, c.in-Minus.is, ← c.if-m-n-2.true) (replaced c.number-in-Minus.result _ _ (minus_short n.a n.b n.m a b) told)

pub returns-in_ok-checked_add-in-Times : goal.returns-in_ok-checked_add-in-Times
returns-in_ok-checked_add-in-Times c =
    let n = c.in-Number-Number in
    let a : FitsSigned w64 n.a = search rules in
    let b : FitsSigned w64 n.b = search rules in
    let whole = simp to_z-of_z at c.checked_mul.ensures in
    let told = c.number-in-Times.ensures.judged (n.a *ℤ n.b) whole in
    let scale = (c.in_ok-checked_add-in-Times.ensures).1 in
    rw (n.is-0, n.is-1, c.in-Times.is, ← scale) told
