use Rattle.std.proofs.Common.{rules, to_z-of_z, ◌≡◌, ◌∙◌, ap, ap₂, ◌-◌, ◌^◌}
use Rattle.std.specs.Prelude.{FitsSigned, pos, ◌*ℤ◌}
use Rattle.std.specs.Int.{w64}
use Rattle.std.specs.Ordering.{int_cmp}
use Rattle.definitions.specs.Truth.{known, agrees}
use Rattle.definitions.specs.Value.{number_cmp}
use Rattle.sqlvalue.specs.Meaning.{op_of}
use Rattle.expr.proofs.Shorts.{common_scale}
use Rattle.expr.proofs.short.shorts_compared.Goals as goal

pub returns-in_ok-b-in-Number-Number : goal.returns-in_ok-b-in-Number-Number
returns-in_ok-b-in-Number-Number c =
    let n = c.in-Number-Number in
    let f : FitsSigned w64 n.a = search rules in
    let g : FitsSigned w64 n.b = search rules in
    let h : FitsSigned w64 c.in_ok-a-in-Number-Number.a = search rules in
    let l : FitsSigned w64 c.in_ok-b-in-Number-Number.b = search rules in
    let a : c.in_ok-a-in-Number-Number.a ≡ n.a *ℤ pos (10 ^ (n.n - n.m)) = rw c.saturating_sub.ensures at (simp to_z-of_z at c.in_ok-a-in-Number-Number.ensures) in
    let b : c.in_ok-b-in-Number-Number.b ≡ n.b *ℤ pos (10 ^ (n.m - n.n)) = rw c.saturating_sub-in-Number-Number.ensures at (simp to_z-of_z at c.in_ok-b-in-Number-Number.ensures) in
    let order : c.cmp.result ≡ int_cmp c.in_ok-a-in-Number-Number.a c.in_ok-b-in-Number-Number.b = simp to_z-of_z at c.cmp.ensures in
    let same : c.cmp.result ≡ number_cmp n.a n.m n.b n.n = order ∙ ap₂ int_cmp a b ∙ common_scale n.a n.b n.m n.n in
    rw (n.is-0, n.is-1) (c.from.ensures ∙ ap known (c.agrees.ensures ∙ ap (agrees (op_of c.args.op)) same))
