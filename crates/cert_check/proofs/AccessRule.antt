-- The accesses of a table.
use Rattle.std.proofs.Common.{ℕ, ◌≡◌, ◌∙◌, ◌<◌, List, ◌∷◌, ◌++◌, None, refl, sym, ap, ap₂, subst}
use Rattle.std.specs.Prelude.{Contains}
use Rattle.definitions.specs.Plans.TableSet.{TableSet, no_tables, only}
use Rattle.definitions.specs.Plans.Order.{OrderNumber}
use Rattle.definitions.specs.Plans.Path.{Path, table_of}
use Rattle.definitions.specs.Plans.Space.{Space}
use Rattle.definitions.specs.Plans.Folding.{Folds}
use Rattle.definitions.specs.Plans.Certificate.{Certificate, bound}
use Rattle.definitions.specs.Plans.Comparisons.{PlanStep, AccessStep, Compares, by_access, by_loop, by_merge, by_sort}
use Rattle.definitions.specs.Plans.Checking.{Accesses, rule_of_step}
use Rattle.definitions.proofs.PlanTheory.Orders.{folds_once}
use Rattle.plan_space.specs.Item.{Item, AreItems}
use Rattle.plan_space.proofs.Lists.{both}
use Rattle.plan_space.proofs.PathItems.{IsPathItem, each_path, found_item}
use Rattle.cert_check.specs.Checks.{IsAccessOf}
use Rattle.cert_check.specs.Compared.{Compared, compared, IsCompared}
use Rattle.cert_check.proofs.Handing.{each_has}
use Rattle.cert_check.proofs.Comparing.{pairs_before, members, table_of_step, is_compared}

module _ (space : Space) (certificate : Certificate) where
  module _ (table : ℕ) where
    abbrev pub access_by : Item → OrderNumber → Compared
    access_by item folded = compared certificate (only table) folded (AccessStep item.path) (only table) folded item.cost

    -- the comparison of one item
    abbrev pub AccessBy : Item → Compared → Type 0
    AccessBy item c = (folded : OrderNumber) × Folds space (only table) item.order folded × (c ≡ access_by item folded)

    pub one_access : (item : Item) (folded : OrderNumber) → Folds space (only table) item.order folded → (d : Compared) → AccessBy item d → d ≡ access_by item folded
    one_access item folded folds d (folded', folds', is) = is ∙ ap (access_by item) (folds_once space (only table) item.order folded' folded folds' folds)

    -- the same as code makes it, of a set and a bound that it found
    abbrev pub access_with : Item → TableSet → OrderNumber → ℕ → Compared
    access_with item tables folded reach = record { from = None; step = AccessStep item.path; tables = tables; order = folded; cost = item.cost; bound = reach }

    module _ (item : Item) (tables : TableSet) (folded : OrderNumber) (reach : ℕ) (at : tables ≡ only table) (is_reach : reach ≡ bound certificate tables folded) (folds : Folds space tables item.order folded) where
      own_folds : Folds space (only table) item.order folded
      own_folds = subst (λ s. Folds space s item.order folded) at folds

      same : access_with item tables folded reach ≡ access_by item folded
      same = ap₂ (λ (s n : ℕ). access_with item s folded n) at (is_reach ∙ ap (λ s. bound certificate s folded) at)

      pub is_access : AccessBy item (access_with item tables folded reach)
      is_access = (folded, own_folds, same)

      pub one_is : (d : Compared) → AccessBy item d → d ≡ access_with item tables folded reach
      one_is d is = one_access item folded own_folds d is ∙ sym same

    pub access_apart : (done rest : List Item) (item : Item) → AreItems space no_tables table (done ++ (item ∷ rest)) → (y : Item) → Contains done y → (x : Compared) → AccessBy y x → AccessBy item x → ⊥
    access_apart done rest item are y there x (f, folds, is) (f', folds', is') =
        let same : AccessStep y.path ≡ AccessStep item.path = sym (ap (λ (c : Compared). c.step) is) ∙ ap (λ (c : Compared). c.step) is' in
        let path : y.path ≡ item.path = cc in
        pairs_before (λ (a b : Item). a.path ≡ b.path → ⊥) done rest item y are.distinct there path

    abbrev IsOwn : Item → Type 0
    IsOwn = IsPathItem space no_tables table

    pub access_of_item : (all : List Item) → AreItems space no_tables table all → (y : Item) → Contains all y → (x : Compared) → AccessBy y x → IsAccessOf space certificate table x
    access_of_item all are y there x (folded, folds, is) =
        let own : IsOwn y = each_has IsOwn all y (each_path space no_tables table all are) there in (
          y.path,
          folded,
          own.0.reads,
          own.1,
          subst (λ n. Folds space (only table) n folded) own.0.order folds,
          is ∙ ap (λ n. compared certificate (only table) folded (AccessStep y.path) (only table) folded n) own.0.cost,
        )

    pub item_of_access : (all : List Item) → AreItems space no_tables table all → (x : Compared) → IsAccessOf space certificate table x → (item : Item) × Contains all item × AccessBy item x
    item_of_access all are x (path, folded, at, there, folds, is) =
        of_item (found_item space no_tables table all (λ (item : Item). IsOwn item × Contains all item) are (both IsOwn (λ (item : Item). Contains all item) all (each_path space no_tables table all are) (members all)) path at there)
      where
        of_item : (item : Item) × (IsOwn item × Contains all item) × (item.path ≡ path) → (item : Item) × Contains all item × AccessBy item x
        of_item (item, own, p) = (
          item,
          own.1,
          (
            folded,
            subst (λ n. Folds space (only table) n folded) (sym (own.0.0.order ∙ ap space.path_order p)) folds,
            is ∙ ap₂ (λ (q : Path) (n : ℕ). compared certificate (only table) folded (AccessStep q) (only table) folded n) (sym p) (sym (own.0.0.cost ∙ ap (space.path_cost no_tables) p)),
          ),
        )

  pub one_table : (a b : ℕ) (x : Compared) → IsAccessOf space certificate a x → IsAccessOf space certificate b x → a ≡ b
  one_table a b x (path, f, at, there, folds, is) (path', f', at', there', folds', is') =
      sym at ∙ sym (ap (λ (c : Compared). table_of_step c.step) is) ∙ ap (λ (c : Compared). table_of_step c.step) is' ∙ at'

  pub access_is : (x : Compared) → (table : ℕ) × (table < space.table_count) × IsAccessOf space certificate table x → IsCompared space certificate Accesses x
  access_is x (table, lt, (path, folded, at, there, folds, is)) = of_table table at lt folds is
    where
      of_table : (t : ℕ) → table_of path ≡ t → t < space.table_count → Folds space (only t) (space.path_order path) folded
          → x ≡ compared certificate (only t) folded (AccessStep path) (only t) folded (space.path_cost no_tables path) → IsCompared space certificate Accesses x
      of_table t e =
          subst (λ n. n < space.table_count → Folds space (only n) (space.path_order path) folded → x ≡ compared certificate (only n) folded (AccessStep path) (only n) folded (space.path_cost no_tables path) → IsCompared space certificate Accesses x) e
          (λ below folds is. is_compared space certificate Accesses x (only (table_of path)) (only (table_of path)) folded folded (AccessStep path) (space.path_cost no_tables path) (by_access path folded below there folds) refl is)

  pub access_of : (x : Compared) → IsCompared space certificate Accesses x → (table : ℕ) × (table < space.table_count) × IsAccessOf space certificate table x
  access_of x (tables, order, compares, by, is) = of_step tables x.tables order x.order x.step x.cost compares by is
    where
      of_step : (tables reached : TableSet) (order folded : OrderNumber) (step : PlanStep) (cost : ℕ) → Compares space certificate tables order step reached folded cost → rule_of_step step ≡ Accesses
          → x ≡ compared certificate tables order step reached folded cost → (table : ℕ) × (table < space.table_count) × IsAccessOf space certificate table x
      of_step tables reached order folded step cost (by_access path f below is_path folds) by is = (table_of path, below, (path, f, refl, is_path, folds, is))
      of_step tables reached order folded step cost (by_loop s k path f listed can folds) by is = absurd cc
      of_step tables reached order folded step cost (by_merge s k number inner f listed can folds) by is = absurd cc
      of_step tables reached order folded step cost (by_sort s k into f listed can folds) by is = absurd cc
