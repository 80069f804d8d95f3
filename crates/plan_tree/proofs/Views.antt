-- What plans stand for, variant by variant.
use Rattle.std.proofs.Common.{◌≡◌, ◌∙◌, sym, ap}
use Rattle.definitions.specs.Plans.Plan as spec
use Rattle.plan_tree.specs.Plans.{inner_of, path_of, plan_layer, plan_of}
use Rattle.plan_tree.specs.declared.plan.Plan as e
use Rattle.plan_tree.specs.declared.plan.Plan.TheViews as v
use Rattle.plan_tree.specs.declared.plan.Plan.TheVariants as w
use Rattle.plan_tree.specs.declared.plan.Plan.TheOpen as o
use Rattle.plan_tree.specs.declared.plan.Plan.TheFolds as folds

pub of_access : (p : _) → plan_of (e.Access p) ≡ spec.Access (path_of p)
of_access p = ap plan_of (sym (w.rolls-Access p)) ∙ folds.fold-roll-Plan spec.Plan plan_layer (o.Access p)

pub of_loop : (a p : _) → plan_of (v.Loop a p) ≡ spec.Loop (plan_of a.value) (path_of p)
of_loop a p = ap plan_of (sym (w.rolls-Loop a p)) ∙ folds.fold-roll-Plan spec.Plan plan_layer (o.Loop a p)

pub of_merge : (a g i : _) → plan_of (v.Merge a g i) ≡ spec.Merge (plan_of a.value) g (inner_of i)
of_merge a g i = ap plan_of (sym (w.rolls-Merge a g i)) ∙ folds.fold-roll-Plan spec.Plan plan_layer (o.Merge a g i)

pub of_sort : (a n : _) → plan_of (v.Sort a n) ≡ spec.Sort (plan_of a.value) n
of_sort a n = ap plan_of (sym (w.rolls-Sort a n)) ∙ folds.fold-roll-Plan spec.Plan plan_layer (o.Sort a n)
