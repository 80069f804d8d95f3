use Rattle.std.proofs.Common.{rules, ◌≡◌, ◌∙◌, ap, subst, to_z-of_z}
use Rattle.std.specs.Prelude.{FitsSigned, ◌+ℤ◌, ◌-ℤ◌, ◌*ℤ◌}
use Rattle.std.specs.Int.{w64}
use Rattle.query_tree.specs.declared.leaf.Operator.{Operator}
use Rattle.expr.specs.Vectors.{IsScaling}
use Rattle.expr.proofs.Places.{minus_units, plus_units, times_units}
use Rattle.expr.proofs.vectors.applied_units.Goals as goal

pub returns-in_ok-checked_add-in-Plus : goal.returns-in_ok-checked_add-in-Plus
returns-in_ok-checked_add-in-Plus c = λ m n is.
    let s = c.in-Some-Some in
    let x = c.in_ok-x.x in
    let y = c.in_ok-y.y in
    let sum = c.in_ok-checked_add-in-Plus.field-0 in
    let a : FitsSigned w64 s.a = search rules in
    let b : FitsSigned w64 s.b = search rules in
    let p : FitsSigned w64 c.args.scaling.times_left = search rules in
    let q : FitsSigned w64 c.args.scaling.times_right = search rules in
    let fx : FitsSigned w64 c.in_ok-x.x = search rules in
    let fy : FitsSigned w64 c.in_ok-y.y = search rules in
    let fits : FitsSigned w64 c.in_ok-checked_add-in-Plus.field-0 = search rules in
    let left : x ≡ s.a *ℤ c.args.scaling.times_left = simp to_z-of_z at c.in_ok-x.ensures in
    let right : y ≡ s.b *ℤ c.args.scaling.times_right = simp to_z-of_z at c.in_ok-y.ensures in
    let exact : sum ≡ x +ℤ y = simp to_z-of_z at (c.in_ok-checked_add-in-Plus.ensures).1 in
    let (up, down, at) = subst (λ (o : Operator). IsScaling o m n c.args.scaling) c.in-Plus.is is in
    rw (s.is-0, s.is-1, c.in-Plus.is, to_z-of_z) (plus_units s.a s.b x y sum m n c.args.scaling.scale (left ∙ ap (λ z. s.a *ℤ z) up) (right ∙ ap (λ z. s.b *ℤ z) down) at fx fy fits exact)

pub returns-in_ok-checked_sub-in-Minus : goal.returns-in_ok-checked_sub-in-Minus
returns-in_ok-checked_sub-in-Minus c = λ m n is.
    let s = c.in-Some-Some in
    let x = c.in_ok-x.x in
    let y = c.in_ok-y.y in
    let difference = c.in_ok-checked_sub-in-Minus.field-0 in
    let a : FitsSigned w64 s.a = search rules in
    let b : FitsSigned w64 s.b = search rules in
    let p : FitsSigned w64 c.args.scaling.times_left = search rules in
    let q : FitsSigned w64 c.args.scaling.times_right = search rules in
    let fx : FitsSigned w64 c.in_ok-x.x = search rules in
    let fy : FitsSigned w64 c.in_ok-y.y = search rules in
    let fits : FitsSigned w64 c.in_ok-checked_sub-in-Minus.field-0 = search rules in
    let left : x ≡ s.a *ℤ c.args.scaling.times_left = simp to_z-of_z at c.in_ok-x.ensures in
    let right : y ≡ s.b *ℤ c.args.scaling.times_right = simp to_z-of_z at c.in_ok-y.ensures in
    let exact : difference ≡ x -ℤ y = simp to_z-of_z at (c.in_ok-checked_sub-in-Minus.ensures).1 in
    let (up, down, at) = subst (λ (o : Operator). IsScaling o m n c.args.scaling) c.in-Minus.is is in
    rw (s.is-0, s.is-1, c.in-Minus.is, to_z-of_z) (minus_units s.a s.b x y difference m n c.args.scaling.scale (left ∙ ap (λ z. s.a *ℤ z) up) (right ∙ ap (λ z. s.b *ℤ z) down) at fx fy fits exact)

pub returns-in_ok-checked_mul-in-Times : goal.returns-in_ok-checked_mul-in-Times
returns-in_ok-checked_mul-in-Times c = λ m n is.
    let s = c.in-Some-Some in
    let x = c.in_ok-x.x in
    let y = c.in_ok-y.y in
    let product = c.in_ok-checked_mul-in-Times.field-0 in
    let a : FitsSigned w64 s.a = search rules in
    let b : FitsSigned w64 s.b = search rules in
    let p : FitsSigned w64 c.args.scaling.times_left = search rules in
    let q : FitsSigned w64 c.args.scaling.times_right = search rules in
    let fx : FitsSigned w64 c.in_ok-x.x = search rules in
    let fy : FitsSigned w64 c.in_ok-y.y = search rules in
    let fits : FitsSigned w64 c.in_ok-checked_mul-in-Times.field-0 = search rules in
    let left : x ≡ s.a *ℤ c.args.scaling.times_left = simp to_z-of_z at c.in_ok-x.ensures in
    let right : y ≡ s.b *ℤ c.args.scaling.times_right = simp to_z-of_z at c.in_ok-y.ensures in
    let exact : product ≡ x *ℤ y = simp to_z-of_z at (c.in_ok-checked_mul-in-Times.ensures).1 in
    let (one_left, one_right, at) = subst (λ (o : Operator). IsScaling o m n c.args.scaling) c.in-Times.is is in
    rw (s.is-0, s.is-1, c.in-Times.is, to_z-of_z) (times_units s.a s.b x y product m n c.args.scaling.scale (left ∙ ap (λ z. s.a *ℤ z) one_left) (right ∙ ap (λ z. s.b *ℤ z) one_right) at fits exact)
