-- States that others are put behind.
use Rattle.std.proofs.Common.{◌≡◌, ◌∙◌, ℕ, ◌+◌, ◌-◌, ◌<◌, ◌≤◌, List, ◌++◌, length, arith, refl, sym, subst}
use Rattle.std.proofs.lemmas.List.{get_or_append_left, get_or-append_right}
use Rattle.definitions.specs.Plans.TableSet.{with_table}
use Rattle.definitions.specs.Plans.Space.{Space}
use Rattle.definitions.specs.Plans.PlanSpace.{CanSort}
use Rattle.definitions.specs.Plans.Folding.{Folds}
use Rattle.definitions.specs.Plans.Cost.{limit, saturated}
use Rattle.join_dp.specs.Joining.{CanJoin, join_cost}
use Rattle.join_dp.specs.StatePlans.{StatePlan, at, StepMakes, IsMadeAt, IsMade}
use Rattle.join_dp.specs.Steps.{Step, AccessOf, JoinOn, SortOn, Join, table_in, Candidate, IsUnsorted}

module _ (states more : List StatePlan) where
  pub at_front : (place : ℕ) → place < length states → at (states ++ more) place ≡ at states place
  at_front place lt = get_or_append_left states more _ place lt

  pub at_back : (place : ℕ) → length states ≤ place → at (states ++ more) place ≡ at more (place - length states)
  at_back place ge = get_or-append_right states more (length states) place _ refl ge

module _ (space : Space) (states states' : List StatePlan) (kept : (place : ℕ) → place < length states → at states' place ≡ at states place) where
  -- what a join on top of a state leads to
  abbrev JoinsOn : ℕ → ℕ → ℕ → Join → StatePlan → Type 0
  JoinsOn tables order cost join x = CanJoin space x.tables x.order join × (tables ≡ with_table x.tables (table_in join))
      × Folds space tables x.order order × (cost ≡ saturated (x.found.cost + join_cost space x.tables join))

  -- and a sort
  abbrev SortsOn : ℕ → ℕ → ℕ → ℕ → StatePlan → Type 0
  SortsOn tables order cost into x = IsUnsorted x.found.step × (tables ≡ x.tables) × CanSort space tables into
      × Folds space tables into order × (cost ≡ saturated (x.found.cost + space.sort_cost tables))

  -- a step from states that stand where they did makes what it did
  pub step_kept : (first first' tables order cost : ℕ) (step : Step) → first ≤ length states → first ≤ first' → StepMakes space states first tables order cost step → StepMakes space states' first' tables order cost step
  step_kept first first' tables order cost (AccessOf path) within le m = m
  step_kept first first' tables order cost (JoinOn from join) within le m =
      let on : JoinsOn tables order cost join (at states from) = (m.1, m.2, m.3, m.4) in
      let from_less = m.0 in
      let on' = subst (JoinsOn tables order cost join) (sym (kept from (omega (arith, from_less, within)))) on in
      (omega (arith, from_less, le), on'.0, on'.1, on'.2, on'.3)
  step_kept first first' tables order cost (SortOn from into) within le m =
      let on : SortsOn tables order cost into (at states from) = (m.1, m.2, m.3, m.4, m.5) in
      let from_less = m.0 in
      let on' = subst (SortsOn tables order cost into) (sym (kept from (omega (arith, from_less, within)))) on in
      (omega (arith, from_less, le), on'.0, on'.1, on'.2, on'.3, on'.4)

module _ (space : Space) (states more : List StatePlan) where
  step_grows : (first first' tables order cost : ℕ) (step : Step) → first ≤ length states → first ≤ first' → StepMakes space states first tables order cost step → StepMakes space (states ++ more) first' tables order cost step
  step_grows = step_kept space states (states ++ more) (at_front states more)

  -- a state that is made stays so
  abbrev MadeAs : ℕ → StatePlan → Type 0
  MadeAs place x = (x.found.cost ≤ limit) × (x.order < length space.orders) × StepMakes space (states ++ more) place x.tables x.order x.found.cost x.found.step

  made_as : (place : ℕ) → MadeAs place (at (states ++ more) place) → IsMadeAt space (states ++ more) place
  made_as place m = record { small = m.0; numbered = m.1; made = m.2 }

  pub front_made : (place : ℕ) → place < length states → IsMadeAt space states place → IsMadeAt space (states ++ more) place
  front_made place lt m =
      let x = at states place in
      let made : MadeAs place (at states place) = (m.small, m.numbered, step_grows place place x.tables x.order x.found.cost x.found.step (omega (arith, lt)) (omega arith) m.made) in
      made_as place (subst (MadeAs place) (sym (at_front states more place lt)) made)

  pub back_made : (place n k : ℕ) (c : Candidate) → length states ≤ place → k < length space.orders → IsMade space states n k c → at more (place - length states) ≡ record { tables = n; order = k; found = c } → IsMadeAt space (states ++ more) place
  back_made place n k c ge lt m e =
      let made : MadeAs place (record { tables = n; order = k; found = c }) = (m.small, lt, step_grows (length states) place n k c.cost c.step (omega arith) ge m.made) in
      made_as place (subst (MadeAs place) (sym (at_back states more place ge ∙ e)) made)
