-- Loops over the paths of a table.
use Rattle.std.proofs.Common.{ℕ, ◌*◌, ◌≡◌, ◌≢◌, ◌∙◌, ◌<◌, List, [], ◌∷◌, length, map, sym, ap, subst, arith}
use Rattle.std.specs.Prelude.{AllPairs, Contains}
use Rattle.std.specs.List.{AllByRecursion}
use Rattle.std.proofs.lemmas.List.{get_or-map, length-map}
use Rattle.definitions.specs.Plans.TableSet.{TableSet}
use Rattle.definitions.specs.Plans.Path.{Path}
use Rattle.definitions.specs.Plans.Space.{Space}
use Rattle.definitions.specs.Plans.Cost.{saturated, loop_cost}
use Rattle.definitions.proofs.PlanTheory.Elements.{first_is, later}
use Rattle.plan_space.specs.Item.{Item, AreItems}
use Rattle.plan_space.specs.Loop.{LoopItem, with_scans, IsLoopItem, AreLoops}
use Rattle.plan_space.proofs.PathItems.{IsPathItem, each_path, found_item}

-- loops over items of different paths differ
differ : (rows : ℕ) (items : List Item) → AllPairs (λ (a b : Item). a.path ≢ b.path) items → AllPairs (λ (a b : LoopItem). a.path ≢ b.path) (map (with_scans rows) items)
differ rows items all i j d lt within same =
    let e : Item = record { path = d.path; order = 0; cost = 0 } in
    let within' : j < length items = subst (λ n. j < n) (length-map items (with_scans rows)) within in
    let at_i = get_or-map (with_scans rows) items i e d (omega (arith, lt, within')) in
    let at_j = get_or-map (with_scans rows) items j e d within' in
    all i j e lt within' (sym (ap (λ (x : LoopItem). x.path) at_i) ∙ same ∙ ap (λ (x : LoopItem). x.path) at_j)

module _ (space : Space) (tables : TableSet) (table rows : ℕ) (is_rows : rows ≡ space.cardinality tables) where
  cost_is : (item : Item) → IsPathItem space tables table item → saturated (rows * item.cost) ≡ loop_cost space tables item.path
  cost_is item is = ap (λ n. saturated (n * item.cost)) is_rows ∙ ap (λ n. saturated (space.cardinality tables * n)) is.0.cost

  is_loop : (item : Item) → IsPathItem space tables table item → IsLoopItem space tables table (with_scans rows item)
  is_loop item is = record { reads = is.0.reads; is_path = is.1; cost = cost_is item is }

  each_loop : (items : List Item) → AllByRecursion (IsPathItem space tables table) items → AllByRecursion (IsLoopItem space tables table) (map (with_scans rows) items)
  each_loop [] all = tt
  each_loop (item ∷ items) (is, all) = (is_loop item is, each_loop items all)

  abbrev Wanted : Path → LoopItem
  Wanted path = record { path = path; cost = loop_cost space tables path }

  -- each item's loop is among them
  abbrev Found : List Item → Item → Type 0
  Found items item = Contains (map (with_scans rows) items) (Wanted item.path)

  found_loops : (items : List Item) → AllByRecursion (IsPathItem space tables table) items → AllByRecursion (Found items) items
  found_loops items all = go items (λ item there. there) all
    where
      go : (xs : List Item) → ((item : LoopItem) → Contains (map (with_scans rows) xs) item → Contains (map (with_scans rows) items) item)
          → AllByRecursion (IsPathItem space tables table) xs → AllByRecursion (Found items) xs
      go [] further all = tt
      go (x ∷ xs) further (is, all) = (
        further (Wanted x.path) (first_is (with_scans rows x) (map (with_scans rows) xs) (Wanted x.path) (ap (λ n. record { path = x.path; cost = n }) (cost_is x is))),
        go xs (λ item there. further item (later (with_scans rows x) (map (with_scans rows) xs) item there)) all,
      )

  pub are_loops : (items : List Item) → AreItems space tables table items → AreLoops space tables table (map (with_scans rows) items)
  are_loops items are = record {
    each = each_loop items (each_path space tables table items are);
    all = λ path at there. of_item path (found_item space tables table items (Found items) are (found_loops items (each_path space tables table items are)) path at there);
    distinct = differ rows items are.distinct;
  }
    where
      of_item : (path : Path) → (item : Item) × Found items item × (item.path ≡ path) → Contains (map (with_scans rows) items) (Wanted path)
      of_item path (item, there, is) = subst (λ (p : Path). Contains (map (with_scans rows) items) (Wanted p)) is there
