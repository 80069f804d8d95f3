-- What a listener that stops below a bound tells of a rule.
use Rattle.std.proofs.Common.{ℕ, ◌≡◌, ◌<◌, ◌≤◌, ◌⊎◌, inl, inr, Bool, true, false, Option, Some, None, refl, sym, ap, subst}
use Rattle.std.specs.Prelude.{IfSome}
use Rattle.std.specs.Bool.{Decides}
use Rattle.std.proofs.lemmas.Bool.{cases_lt}
use Rattle.definitions.specs.Plans.TableSet.{TableSet, no_tables, only, with_table}
use Rattle.definitions.specs.Plans.Order.{OrderNumber}
use Rattle.definitions.specs.Plans.Path.{table_of}
use Rattle.definitions.specs.Plans.Plan.{Plan}
use Rattle.definitions.specs.Plans.Space.{Space}
use Rattle.definitions.specs.Plans.Certificate.{Certificate, StateCost, bound}
use Rattle.definitions.specs.Plans.Comparisons.{PlanStep, AccessStep, LoopStep, MergeStep, SortStep, Compares, by_access, by_loop, by_merge, by_sort}
use Rattle.definitions.specs.Plans.Checking.{Rule, Accesses, Joins, Sorts, Target, Refused, rule_of_step, RuleHolds, RuleFails, IsVerdict}
use Rattle.plan_space.proofs.Deciding.{holds, fails}
use Rattle.cert_check.specs.Compared.{Compared, begins, compared, HoldBefore, refused_by, IsFirstBelow, tables_or, order_or, told_tables, told_order, IsCompared}
use Rattle.cert_check.specs.Handing.{HandsOut}
use Rattle.cert_check.proofs.Handing.{none_stopped, one_stopped}

greater : (a b : ℕ) → (a ≤ b → ⊥) → b < a
greater a b never = of_cases (cases_lt b a)
  where
    of_cases : (b < a) ⊎ (a ≤ b) → b < a
    of_cases (inl lt) = lt
    of_cases (inr le) = absurd (never le)

module _ (space : Space) (certificate : Certificate) where
  module _ {L : Type 0} (hears : L → Compared → Bool → L → Type 0) (is_test : (a b : L) (c : Compared) (more : Bool) → hears a c more b → Decides more (c.bound ≤ c.cost)) (rule : Rule) (old new : L) where
    pub rule_holds : HandsOut hears (IsCompared space certificate rule) old None new → RuleHolds space certificate rule
    rule_holds out tables reached order folded step cost compares by =
        none_stopped hears (λ (c : Compared). c.bound ≤ c.cost) (IsCompared space certificate rule) old new
        (λ a b c heard. holds (c.bound ≤ c.cost) (is_test a b c true heard)) out
        (compared certificate tables order step reached folded cost) (tables, order, compares, by, refl)

    pub rule_fails : (last : Compared) → HandsOut hears (IsCompared space certificate rule) old (Some last) new → IsCompared space certificate rule last × (last.cost < last.bound)
    rule_fails last out =
        one_stopped hears (λ (c : Compared). c.cost < c.bound) (IsCompared space certificate rule) old new last
        (λ a b c heard. greater c.bound c.cost (fails (c.bound ≤ c.cost) (is_test a b c false heard))) out

  pub first_at : (rule : Rule) (c : Compared) → HoldBefore space certificate rule → IsCompared space certificate rule c × (c.cost < c.bound) → IsFirstBelow space certificate (Some c)
  first_at rule c before (is, lt) = (
    subst (HoldBefore space certificate) (sym is.3) before,
    subst (λ (r : Rule). IsCompared space certificate r c) (sym is.3) is,
    lt,
  )

  module _ {L : Type 0} (hears : L → Compared → Bool → L → Type 0) (is_test : (a b : L) (c : Compared) (more : Bool) → hears a c more b → Decides more (c.bound ≤ c.cost)) (old new : L) where
    pub last_rule : (stopped : Option Compared) → HoldBefore space certificate Sorts → HandsOut hears (IsCompared space certificate Sorts) old stopped new → IsFirstBelow space certificate stopped
    last_rule None before out = (before.0, before.1, rule_holds hears is_test Sorts old new out)
    last_rule (Some c) before out = first_at Sorts c before (rule_fails hears is_test Sorts old new c out)

  -- a failing comparison is told at its place
  pub told_fails : (rule : Rule) (c : Compared) → IsCompared space certificate rule c → c.cost < c.bound → RuleFails space certificate rule (told_tables c) (told_order c)
  told_fails rule c (tables, order, compares, by, is) lt =
      of_step tables c.tables order c.order c.step c.cost c.from compares by (ap (λ (d : Compared). d.from) is) (subst (λ n. c.cost < n) (ap (λ (d : Compared). d.bound) is) lt)
    where
      of_step : (tables reached : TableSet) (order folded : OrderNumber) (step : PlanStep) (cost : ℕ) (from : Option StateCost) → Compares space certificate tables order step reached folded cost → rule_of_step step ≡ rule
          → from ≡ begins certificate step tables order → cost < bound certificate reached folded → RuleFails space certificate rule (tables_or reached from) (order_or folded from)
      of_step tables reached order folded step cost from (by_access path f below is_path folds) by is lt =
          subst (λ (o : Option StateCost). RuleFails space certificate rule (tables_or (only (table_of path)) o) (order_or f o)) (sym is)
          (only (table_of path), f, AccessStep path, space.path_cost no_tables path, by_access path f below is_path folds, by, lt)
      of_step tables reached order folded step cost from (by_loop s k path f listed can folds) by is lt =
          subst (λ (o : Option StateCost). RuleFails space certificate rule (tables_or (with_table s (table_of path)) o) (order_or f o)) (sym is)
          (with_table s (table_of path), f, LoopStep path, _, by_loop s k path f listed can folds, by, lt)
      of_step tables reached order folded step cost from (by_merge s k number inner f listed can folds) by is lt =
          subst (λ (o : Option StateCost). RuleFails space certificate rule (tables_or (with_table s (table_of inner.path)) o) (order_or f o)) (sym is)
          (with_table s (table_of inner.path), f, MergeStep number inner, _, by_merge s k number inner f listed can folds, by, lt)
      of_step tables reached order folded step cost from (by_sort s k into f listed can folds) by is lt =
          subst (λ (o : Option StateCost). RuleFails space certificate rule (tables_or s o) (order_or f o)) (sym is)
          (s, f, SortStep into, _, by_sort s k into f listed can folds, by, lt)

  -- the verdict of the first failing comparison
  pub first_refused : (plan : Plan) (c : Compared) → IsFirstBelow space certificate (Some c) → IsVerdict space certificate plan (refused_by c)
  first_refused plan c (before, is, lt) = by_rule (rule_of_step c.step) before (told_fails (rule_of_step c.step) c is lt)
    where
      by_rule : (rule : Rule) → HoldBefore space certificate rule → RuleFails space certificate rule (told_tables c) (told_order c) → IsVerdict space certificate plan (Refused rule (told_tables c) (told_order c))
      by_rule Accesses before fails = fails
      by_rule Joins before fails = (before, fails)
      by_rule Sorts before fails = (before.0, before.1, fails)
      by_rule Target before (reached, folded, step, cost, compares, by, lt) = absurd (no_step step by)
        where
          no_step : (step : PlanStep) → rule_of_step step ≡ Target → ⊥
          no_step (AccessStep path) by = absurd cc
          no_step (LoopStep path) by = absurd cc
          no_step (MergeStep number inner) by = absurd cc
          no_step (SortStep into) by = absurd cc

  pub each_refused : (stopped : Option Compared) → IsFirstBelow space certificate stopped → IfSome stopped (λ (c : Compared). (plan : Plan) → IsVerdict space certificate plan (refused_by c))
  each_refused None first = tt
  each_refused (Some c) first = λ plan. first_refused plan c first
