-- The items of a table's paths.
use Rattle.std.proofs.Common.{ℕ, ◌≡◌, List, map, sym, subst}
use Rattle.std.specs.Prelude.{Contains}
use Rattle.std.specs.List.{AllByRecursion}
use Rattle.definitions.specs.Plans.Path.{Path, table_of}
use Rattle.definitions.specs.Plans.Space.{Space}
use Rattle.definitions.specs.Plans.PlanSpace.{IsPath}
use Rattle.plan_space.specs.Item.{Item, IsItem, AreItems}
use Rattle.plan_space.proofs.Lists.{weaker, both, all_mapped, of_map}

module _ (space : Space) (known table : ℕ) where
  -- an item of a path of the table
  abbrev pub IsPathItem : Item → Type 0
  IsPathItem item = IsItem space known table item × IsPath space known item.path

  pub each_path : (items : List Item) → AreItems space known table items → AllByRecursion IsPathItem items
  each_path items are = both (IsItem space known table) (λ (item : Item). IsPath space known item.path) items are.each
      (weaker (λ (item : Item). IsItem space known table item × Contains (map (λ (x : Item). x.path) items) item.path) (λ (item : Item). IsPath space known item.path) items
      (both (IsItem space known table) (λ (item : Item). Contains (map (λ (x : Item). x.path) items) item.path) items are.each (all_mapped (λ (x : Item). x.path) items))
      (λ item h. let there = rw are.paths at h.1 in subst (λ t. Contains (space.paths known t) item.path) (sym h.0.reads) there))

  -- a path of the table is that of an item
  pub found_item : (items : List Item) (P : Item → Type 0) → AreItems space known table items → AllByRecursion P items
      → (path : Path) → table_of path ≡ table → IsPath space known path → (item : Item) × P item × (item.path ≡ path)
  found_item items P are all path at there =
      let there' = rw at at there in
      of_map (λ (item : Item). item.path) P items path all (rw (sym are.paths) at there')
