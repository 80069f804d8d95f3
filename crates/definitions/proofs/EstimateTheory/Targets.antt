-- Certificates without states.
use Prim.Native.Nat.{zero}
use Rattle.std.proofs.Common.{suc, ◌≡◌, ℕ, ◌+◌, ◌<◌, ◌≤◌, ◌⊎◌, inl, inr, refl, [], arith}
use Rattle.std.proofs.lemmas.Bool.{cases_lt}
use Rattle.std.proofs.lemmas.List.Elements.{All-from_recursion, All-contains}
use Rattle.std.specs.Prelude.{All}
use Rattle.std.specs.List.{AllByRecursion, range_with_len}
use Rattle.definitions.specs.Plans.TableSet.{no_tables}
use Rattle.definitions.specs.Plans.Path.{Path, table_of}
use Rattle.definitions.specs.Plans.Plan.{Plan}
use Rattle.definitions.specs.Plans.Space.{Space, whole, IsOver}
use Rattle.definitions.specs.Plans.PlanSpace.{InSpace, GivesRequired}
use Rattle.definitions.specs.Plans.Cost.{limit, cost_of}
use Rattle.definitions.specs.Plans.Certificate.{StateCost}
use Rattle.definitions.specs.Plans.Validity.{NoneFinal, KeepsBounds, IsValid}
use Rattle.definitions.specs.Plans.Checking.{Accesses, Joins, Sorts, Target, Refused, IsVerdict}
use Rattle.definitions.specs.Plans.Exact.{IsCertified}
use Rattle.definitions.specs.Estimates.Laws.{bare, NoAccessBelow}
use Rattle.definitions.proofs.PlanTheory.Elements.{not_in_empty}
use Rattle.definitions.proofs.PlanTheory.Rules.{together, each_rule}
use Rattle.definitions.proofs.PlanTheory.Bounds.{least}
use Rattle.definitions.proofs.PlanTheory.Exactness.{exact}

-- what holds of each number of a range holds of every one in it
pub of_range : (P : ℕ → Type 0) (from count n : ℕ) → AllByRecursion P (range_with_len from count) → from ≤ n → n < from + count → P n
of_range P from zero n all le lt = absurd (omega (arith, le, lt))
of_range P from (suc count) n (first, rest) le lt = of_cases (λ le' lt'. of_range P (from + 1) count n rest le' lt') (cases_lt from n)
  where
    of_cases : (from + 1 ≤ n → n < from + 1 + count → P n) → (from < n) ⊎ (n ≤ from) → P n
    of_cases further (inl more) = further (omega (arith, more)) (omega (arith, lt))
    of_cases further (inr same) = let e : from ≡ n = omega (arith, le, same) in rw e at first

none_of : {X : Type 0} (P : X → Type 0) → All P []
none_of P k d lt = absurd (omega (arith, lt))

-- a target that no access undercuts bounds all costs
pub bare_keeps : (space : Space) (target : ℕ) → target ≤ limit → NoAccessBelow space target → KeepsBounds space (bare target)
bare_keeps space target small below = record {
  form = record {
    target = small;
    costs = none_of (λ (state : StateCost). state.cost < target);
    states = record {
      tables = λ k d lt. absurd (omega (arith, lt));
      orders = none_of (λ (state : StateCost). IsOver space state.tables state.order);
      rising = tt;
    };
  };
  comparisons = together space (bare target)
      (λ path folded lt there folds.
      All-contains (λ (path : Path). target ≤ space.path_cost no_tables path) (space.paths no_tables (table_of path)) path
      (All-from_recursion (λ (path : Path). target ≤ space.path_cost no_tables path) (space.paths no_tables (table_of path))
      (of_range (λ table. AllByRecursion (λ (path : Path). target ≤ space.path_cost no_tables path) (space.paths no_tables table)) 0 space.table_count (table_of path) below (omega arith) (omega (arith, lt)))) there)
      (λ tables order path folded listed can folds. absurd (not_in_empty _ listed.1)) (λ tables order number inner folded listed can folds. absurd (not_in_empty _ listed.1))
      (λ tables order into folded listed can folds. absurd (not_in_empty _ listed.1));
}

pub bare_none_final : (space : Space) (target : ℕ) → NoneFinal space (bare target)
bare_none_final space target order listed gives = absurd (not_in_empty _ listed.1)

pub by_target : (space : Space) (plan : Plan) (target : ℕ) → target ≤ limit → InSpace space plan → GivesRequired space plan → cost_of space plan ≡ target
    → NoAccessBelow space target → IsCertified space plan (bare target)
by_target space plan target small inside gives costs below =
    let valid : IsValid space plan (bare target) = (bare_keeps space target small below, (bare_none_final space target, (inside, gives, costs))) in
    (valid, exact space plan (bare target) valid (λ tables order cost there. absurd (not_in_empty _ there)), least space plan (bare target) valid)

-- and where the plan doesn't cost it, it is refused for that
pub not_met : (space : Space) (plan : Plan) (target : ℕ) → target ≤ limit → NoAccessBelow space target → (cost_of space plan ≡ target → ⊥)
    → IsVerdict space (bare target) plan (Refused Target (whole space) 0)
not_met space plan target small below other =
    let keeps = bare_keeps space target small below in
    let each = each_rule space (bare target) keeps.comparisons in
    (each Accesses, each Joins, each Sorts, (refl, inr (bare_none_final space target, refl, λ met. other met.2)))
