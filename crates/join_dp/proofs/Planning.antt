-- Plans of solved states.
use Prim.Native.Nat.{zero}
use Rattle.std.proofs.Common.{suc, ◌≡◌, ◌∙◌, ℕ, ◌+◌, ◌*◌, ◌<◌, ◌≤◌, List, length, arith, refl, sym, ap, subst}
use Rattle.definitions.specs.Plans.TableSet.{only, with_table}
use Rattle.definitions.specs.Plans.Path.{Path, table_of}
use Rattle.definitions.specs.Plans.Plan.{Plan, Access, Sort}
use Rattle.definitions.specs.Plans.Space.{Space}
use Rattle.definitions.specs.Plans.PlanSpace.{IsPath, CanSort, order_of, access, loop, merge, sort}
use Rattle.definitions.specs.Plans.Folding.{Folds, IsOn}
use Rattle.definitions.specs.Plans.Cost.{saturated, loop_cost, merge_cost, cost_of}
use Rattle.definitions.proofs.PlanTheory.Orders.{refold, merge_order}
use Rattle.definitions.specs.Plans.Search.{IsComplete}
use Rattle.join_dp.specs.Joining.{CanJoin, join_cost}
use Rattle.join_dp.specs.StatePlans.{StatePlan, at, StepMakes, IsMadeAt, AllMade}
use Rattle.join_dp.specs.Steps.{Join, Loop, Merge, Step, AccessOf, JoinOn, SortOn, IsUnsorted, table_in, joined}
use Rattle.join_dp.specs.Planned.{IsPlanBy, IsPlanAt}
use Rattle.join_dp.specs.Words.{words_in, tables_among, IsPlanOf, IsStepOf}
use Rattle.join_dp.proofs.Steps.{follows}
use Rattle.join_dp.proofs.Sizes.{one_more_among, some_among}

pub joined_words : (p : Plan) (join : Join) → words_in (joined p join) ≡ words_in p + 1
joined_words p (Loop path) = refl
joined_words p (Merge number inner) = refl

module _ (space : Space) (complete : IsComplete space) where
  pub access_of : (path : Path) (s f c : ℕ) → table_of path < space.table_count → IsPath space 0 path → s ≡ only (table_of path) → Folds space s (space.path_order path) f → c ≡ space.path_cost 0 path → IsStepOf space s f c (Access path)
  access_of path s f c lt there e folds is = record {
    is_on = (access path lt there, sym e, folds);
    costs = sym is;
    short = let h = some_among space.table_count (table_of path) lt in subst (λ t. 1 + 1 ≤ 2 * tables_among space.table_count t) (sym e) (omega (arith, h));
  }

  joined_on : (s k c : ℕ) (p : Plan) (join : Join) (f : ℕ) → IsOn space s k p → cost_of space p ≡ c → CanJoin space s k join → Folds space (with_table s (table_in join)) k f
      → IsOn space (with_table s (table_in join)) f (joined p join) × (cost_of space (joined p join) ≡ saturated (c + join_cost space s join))
  joined_on s k c p (Loop path) f on is can folds = (
    (loop p path on.0 (rw on.1 can), ap (λ x. with_table x (table_of path)) on.1, refold space s (table_of path) (order_of space p) k f on.2 folds),
    ap (λ x. saturated (cost_of space p + loop_cost space x path)) on.1 ∙ ap (λ x. saturated (x + loop_cost space s path)) is,
  )
  joined_on s k c p (Merge g inner) f on is can folds =
      let same : k ≡ order_of space p = merge_order space complete s (order_of space p) k g inner on.2 can in (
        (merge p g inner on.0 (rw (on.1, ← same) can), ap (λ x. with_table x (table_of inner.path)) on.1, refold space s (table_of inner.path) (order_of space p) k f on.2 folds),
        ap (λ x. saturated (cost_of space p + merge_cost space x g inner)) on.1 ∙ ap (λ x. saturated (x + merge_cost space s g inner)) is,
      )

  pub join_of_plan : (s k c : ℕ) (p : Plan) (join : Join) (n f d : ℕ) → IsPlanOf space s k c p → CanJoin space s k join → n ≡ with_table s (table_in join) → Folds space n k f → d ≡ saturated (c + join_cost space s join)
      → IsStepOf space n f d (joined p join)
  join_of_plan s k c p join n f d m can e folds is' =
      let on = joined_on s k c p join f m.is_on m.costs can (subst (λ x. Folds space x k f) e folds) in
      let step = follows space s k join can in
      let size = one_more_among space.table_count s (table_in join) step.1 step.0 in
      let short = m.short in
      subst (λ x. IsStepOf space x f d (joined p join)) (sym e) (record {
        is_on = on.0;
        costs = on.1 ∙ sym is';
        short = omega (arith, joined_words p join, size, short);
      })

  pub sort_of_plan : (s k c : ℕ) (p : Plan) (into f d : ℕ) → IsStepOf space s k c p → CanSort space s into → Folds space s into f → d ≡ saturated (c + space.sort_cost s) → IsPlanOf space s f d (Sort p into)
  sort_of_plan s k c p into f d m can folds is' = record {
    is_on = (sort p into m.is_on.0 (rw m.is_on.1 can), m.is_on.1, folds);
    costs = ap (λ x. saturated (cost_of space p + space.sort_cost x)) m.is_on.1 ∙ ap (λ x. saturated (x + space.sort_cost s)) m.costs ∙ sym is';
    short = m.short;
  }

  pub step_of_plan : (s k c : ℕ) (p : Plan) → IsStepOf space s k c p → IsPlanOf space s k c p
  step_of_plan s k c p m = let short = m.short in record { is_on = m.is_on; costs = m.costs; short = omega (arith, short) }

  -- a plan that no sort ends has room for one
  as_step : (step : Step) (s k c : ℕ) (p : Plan) → IsUnsorted step → IsPlanBy space step s k c p → IsStepOf space s k c p
  as_step (AccessOf path) s k c p unsorted m = m
  as_step (JoinOn from join) s k c p unsorted m = m
  as_step (SortOn from into) s k c p unsorted m = absurd unsorted

  by_step : (step : Step) (s k c : ℕ) (p : Plan) → IsPlanBy space step s k c p → IsPlanOf space s k c p
  by_step (AccessOf path) s k c p m = step_of_plan s k c p m
  by_step (JoinOn from join) s k c p m = step_of_plan s k c p m
  by_step (SortOn from into) s k c p m = m

  -- ---- the plan of a place, from those of the places before it

  module _ (states : List StatePlan) where
    abbrev pub PlanAt : ℕ → Plan → Type 0
    PlanAt place p = IsPlanAt space states place p

    -- a plan of the step that leads to a state
    abbrev PlanBy : ℕ → ℕ → ℕ → ℕ → Step → Plan → Type 0
    PlanBy first tables order cost step p = StepMakes space states first tables order cost step → IsPlanBy space step tables order cost p

    access_step : (first tables order cost : ℕ) (path : Path) → PlanBy first tables order cost (AccessOf path) (Access path)
    access_step first tables order cost path m = access_of path tables order cost m.0 m.1 m.2 m.3 m.4

    join_step : (first tables order cost from : ℕ) (join : Join) (p : Plan) → PlanAt from p → PlanBy first tables order cost (JoinOn from join) (joined p join)
    join_step first tables order cost from join p before m =
        let x = at states from in
        join_of_plan x.tables x.order x.found.cost p join tables order cost (by_step x.found.step x.tables x.order x.found.cost p before) m.1 m.2 m.3 m.4

    sort_step : (first tables order cost from into : ℕ) (p : Plan) → PlanAt from p → PlanBy first tables order cost (SortOn from into) (Sort p into)
    sort_step first tables order cost from into p before m =
        let x = at states from in
        let base : IsStepOf space tables x.order x.found.cost p = rw m.2 (as_step x.found.step x.tables x.order x.found.cost p m.1 before) in
        sort_of_plan tables x.order x.found.cost p into order cost base m.3 m.4 m.5

    -- ---- as the code tells a place's step

    step_as : (place : ℕ) (step : Step) (p : Plan) → (at states place).found.step ≡ step → IsMadeAt space states place → PlanBy place (at states place).tables (at states place).order (at states place).found.cost step p → PlanAt place p
    step_as place step p e m by =
        let x = at states place in
        subst (λ s. IsPlanBy space s x.tables x.order x.found.cost p) (sym e) (by (subst (λ s. StepMakes space states place x.tables x.order x.found.cost s) e m.made))

    pub access_plan : (place : ℕ) (path : Path) → (at states place).found.step ≡ AccessOf path → IsMadeAt space states place → PlanAt place (Access path)
    access_plan place path e m = step_as place (AccessOf path) (Access path) e m (access_step place (at states place).tables (at states place).order (at states place).found.cost path)

    pub join_plan : (place from : ℕ) (join : Join) (p : Plan) → (at states place).found.step ≡ JoinOn from join → IsMadeAt space states place → PlanAt from p → PlanAt place (joined p join)
    join_plan place from join p e m before =
        step_as place (JoinOn from join) (joined p join) e m (join_step place (at states place).tables (at states place).order (at states place).found.cost from join p before)

    pub sort_plan : (place from into : ℕ) (p : Plan) → (at states place).found.step ≡ SortOn from into → IsMadeAt space states place → PlanAt from p → PlanAt place (Sort p into)
    sort_plan place from into p e m before =
        step_as place (SortOn from into) (Sort p into) e m (sort_step place (at states place).tables (at states place).order (at states place).found.cost from into p before)

    -- a plan of the state, whatever ends it
    pub plan_of_state : (place : ℕ) (p : Plan) → PlanAt place p → IsPlanOf space (at states place).tables (at states place).order (at states place).found.cost p
    plan_of_state place p m = let x = at states place in by_step x.found.step x.tables x.order x.found.cost p m

    module _ (made : AllMade space states) where
      of_step : (place : ℕ) (step : Step) → (at states place).found.step ≡ step → IsMadeAt space states place
          → ((from : ℕ) → from < place → (p : Plan) × PlanAt from p) → (p : Plan) × PlanAt place p
      of_step place (AccessOf path) e m before = (Access path, access_plan place path e m)
      of_step place (JoinOn from join) e m before =
          let made_by = subst (λ s. StepMakes space states place (at states place).tables (at states place).order (at states place).found.cost s) e m.made in
          let b = before from made_by.0 in (joined b.0 join, join_plan place from join b.0 e m b.1)
      of_step place (SortOn from into) e m before =
          let made_by = subst (λ s. StepMakes space states place (at states place).tables (at states place).order (at states place).found.cost s) e m.made in
          let b = before from made_by.0 in (Sort b.0 into, sort_plan place from into b.0 e m b.1)

      planned_below : (n place : ℕ) → place < n → place < length states → (p : Plan) × PlanAt place p
      planned_below zero place lt within = absurd (omega arith)
      planned_below (suc n) place lt within =
          of_step place (at states place).found.step refl (made place within) (λ from less. planned_below n from (omega arith) (omega (arith, less, within)))

      -- each place has a plan
      pub planned : (place : ℕ) → place < length states → (p : Plan) × IsPlanOf space (at states place).tables (at states place).order (at states place).found.cost p
      planned place within = let p = planned_below (place + 1) place (omega arith) within in (p.0, plan_of_state place p.0 p.1)
