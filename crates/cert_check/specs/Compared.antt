-- The comparisons of a certificate as they are handed out: each with the state that it begins from, and with what it is
-- compared with.
use Rattle.std.specs.Prelude.{ℕ, ◌<◌, ◌≡◌, ⊤, Option, Some, None}
use Rattle.definitions.specs.Plans.TableSet.{TableSet}
use Rattle.definitions.specs.Plans.Order.{OrderNumber}
use Rattle.definitions.specs.Plans.Space.{Space}
use Rattle.definitions.specs.Plans.Certificate.{Certificate, StateCost, bound}
use Rattle.definitions.specs.Plans.Comparisons.{PlanStep, AccessStep, LoopStep, MergeStep, SortStep, Compares}
use Rattle.definitions.specs.Plans.Checking.{Rule, Accesses, Joins, Sorts, Target, rule_of_step, RuleHolds}
use Rattle.definitions.specs.Plans.Checking.{Verdict, Refused}

-- a step from a listed state, or an access, which begins from none; the state that it leads to, and that one's bound
pub record Compared : Type 0 where
  pub from : Option StateCost
  pub step : PlanStep
  pub tables : TableSet
  pub order : OrderNumber
  pub cost : ℕ
  pub bound : ℕ

abbrev pub tables_or : TableSet → Option StateCost → TableSet
tables_or tables None = tables
tables_or tables (Some state) = state.tables

abbrev pub order_or : OrderNumber → Option StateCost → OrderNumber
order_or order None = order
order_or order (Some state) = state.order

-- the state that a verdict tells: the one that the step begins from, else the one that it leads to
abbrev pub told_tables : Compared → TableSet
told_tables c = tables_or c.tables c.from

abbrev pub told_order : Compared → OrderNumber
told_order c = order_or c.order c.from

-- the verdict that tells of it
abbrev pub refused_by : Compared → Verdict
refused_by c = Refused (rule_of_step c.step) (told_tables c) (told_order c)

module _ (certificate : Certificate) where
  abbrev pub begins : PlanStep → TableSet → OrderNumber → Option StateCost
  begins (AccessStep path) tables order = None
  begins (LoopStep path) tables order =
      Some (record { tables = tables; order = order; cost = bound certificate tables order })
  begins (MergeStep number inner) tables order =
      Some (record { tables = tables; order = order; cost = bound certificate tables order })
  begins (SortStep into) tables order =
      Some (record { tables = tables; order = order; cost = bound certificate tables order })

  -- a comparison of the definition, with the two bounds
  abbrev pub compared : TableSet → OrderNumber → PlanStep → TableSet → OrderNumber → ℕ → Compared
  compared tables order step reached folded cost =
      record {
        from = begins step tables order;
        step = step;
        tables = reached;
        order = folded;
        cost = cost;
        bound =
            bound certificate reached folded;
      }

module _ (space : Space) (certificate : Certificate) where
  -- one of the definition's, by a rule
  abbrev pub IsCompared : Rule → Compared → Type 0
  IsCompared rule c = (tables : TableSet) × (order : OrderNumber)
      × Compares space certificate tables order c.step c.tables c.order c.cost × (rule_of_step c.step ≡ rule)
      × (c ≡ compared certificate tables order c.step c.tables c.order c.cost)

  -- the rules that are looked at before
  abbrev pub HoldBefore : Rule → Type 0
  HoldBefore Accesses = ⊤
  HoldBefore Joins = RuleHolds space certificate Accesses
  HoldBefore Sorts = RuleHolds space certificate Accesses × RuleHolds space certificate Joins
  HoldBefore Target = RuleHolds space certificate Accesses × RuleHolds space certificate Joins
      × RuleHolds space certificate Sorts

  -- a comparison that fails, of the first rule that does; or none fails
  abbrev pub IsFirstBelow : Option Compared → Type 0
  IsFirstBelow None = HoldBefore Target
  IsFirstBelow (Some c) = HoldBefore (rule_of_step c.step) × IsCompared (rule_of_step c.step) c × (c.cost < c.bound)
