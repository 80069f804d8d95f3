-- The open paths with their orders and costs.
use Rattle.std.proofs.Common.{◌≡◌, ◌≢◌, ◌∙◌, refl, sym, ap, subst, ℕ, ◌<◌, List, [], ◌∷◌, Bool, true, false, cond, length, get_or, map, arith}
use Rattle.std.specs.Prelude.{AllPairs, Contains, filter}
use Rattle.std.specs.List.{AllByRecursion}
use Rattle.std.proofs.lemmas.List.{get_or-map, length-map}
use Rattle.definitions.specs.Table.{Database}
use Rattle.definitions.specs.Plans.TableSet.{TableSet}
use Rattle.definitions.specs.Plans.Path as p
use Rattle.definitions.specs.Plans.Path.{Path, table_of}
use Rattle.definitions.specs.Queries.BoundBlock.{Block}
use Rattle.definitions.specs.Estimates.BlockSpace.{space_of}
use Rattle.definitions.specs.Estimates.Cardinality.{path_rows}
use Rattle.definitions.specs.Plans.Numbering.{number_of}
use Rattle.definitions.specs.Estimates.Orders.{orders_of, order_of_path}
use Rattle.definitions.specs.Estimates.Paths.{paths_of}
use Rattle.definitions.specs.Estimates.Version.{Version}
use Rattle.definitions.proofs.PlanTheory.Elements.{first_is, later}
use Rattle.definitions.proofs.EstimateTheory.PathOrders.{path_order_numbered}
use Rattle.access_paths.specs.Found.{FoundPath, is_open, CostsAsPath, Reads}
use Rattle.access_paths.specs.Scans.{cost_with}
use Rattle.plan_space.specs.Item.{Item, with_rows, open_items, IsItem, AreItems}
use Rattle.plan_space.specs.PathListed.{AreListed}
use Rattle.plan_space.proofs.PathsOnce.{paths_once}

-- elements differ where their images do
differ : {X Y : Type 0} (f : X → Y) (xs : List X) → AllPairs (λ (a b : Y). a ≢ b) (map f xs) → AllPairs (λ (a b : X). f a ≢ f b) xs
differ f xs all i j d lt within same =
    let at_i : get_or (map f xs) i (f d) ≡ f (get_or xs i d) = get_or-map f xs i d (f d) (omega (arith, lt, within)) in
    let at_j : get_or (map f xs) j (f d) ≡ f (get_or xs j d) = get_or-map f xs j d (f d) within in
    all i j (f d) lt (subst (λ n. j < n) (sym (length-map xs f)) within) (at_i ∙ same ∙ sym at_j)

reads_table : (db : Database) (block : Block) (table : ℕ) (path : Path) → Reads db block table path → table_of path ≡ table
reads_table db block table (p.SegmentScan read) reads = reads
reads_table db block table (p.IndexScan read number backward) reads = reads.0
reads_table db block table (p.MatchingScan read number conjuncts backward) reads = reads.0

module _ (version : Version) (db : Database) (block : Block) (table : ℕ) (known : TableSet) (rows : ℕ) where
  abbrev opened : List (FoundPath × ℕ) → List Path
  opened xs = map (λ (x : FoundPath). x.path) (filter (is_open known) (map (λ (x : FoundPath × ℕ). x.0) xs))

  same_paths : (xs : List (FoundPath × ℕ)) → map (λ (item : Item). item.path) (open_items known rows xs) ≡ opened xs
  same_paths [] = refl
  same_paths (x ∷ xs) = by_test (is_open known x.0) (same_paths xs)
    where
      by_test : (b : Bool) → map (λ (item : Item). item.path) (open_items known rows xs) ≡ opened xs
          → map (λ (item : Item). item.path) (cond b (with_rows rows x ∷ open_items known rows xs) (open_items known rows xs))
          ≡ map (λ (x : FoundPath). x.path) (cond b (x.0 ∷ filter (is_open known) (map (λ (x : FoundPath × ℕ). x.0) xs)) (filter (is_open known) (map (λ (x : FoundPath × ℕ). x.0) xs)))
      by_test true rest = ap (λ ys. x.0.path ∷ ys) rest
      by_test false rest = rest

  abbrev IsRight : Item → Type 0
  IsRight = IsItem (space_of version db block) known table

  abbrev behind : List (FoundPath × ℕ) → List FoundPath
  behind xs = filter (is_open known) (map (λ (x : FoundPath × ℕ). x.0) xs)

  opened_more : (x : FoundPath × ℕ) (xs : List (FoundPath × ℕ)) → is_open known x.0 ≡ true → opened (x ∷ xs) ≡ x.0.path ∷ opened xs
  opened_more x xs e = ap (λ b. map (λ (y : FoundPath). y.path) (cond b (x.0 ∷ behind xs) (behind xs))) e

  opened_less : (x : FoundPath × ℕ) (xs : List (FoundPath × ℕ)) → is_open known x.0 ≡ false → opened (x ∷ xs) ≡ opened xs
  opened_less x xs e = ap (λ b. map (λ (y : FoundPath). y.path) (cond b (x.0 ∷ behind xs) (behind xs))) e

  module _ (is_rows : rows ≡ path_rows db block known table) (numbered : (path : Path) → Contains (paths_of version db block known table) path → (space_of version db block).path_order path < length (space_of version db block).orders) where
    items : (xs : List (FoundPath × ℕ)) → ((path : Path) → Contains (opened xs) path → Contains (paths_of version db block known table) path)
        → AllByRecursion (λ (x : FoundPath × ℕ). CostsAsPath db block table x.0) xs → AllByRecursion (λ (x : FoundPath × ℕ). Reads db block table x.0.path) xs
        → AllByRecursion (λ (x : FoundPath × ℕ). x.1 ≡ number_of (orders_of version db block) (order_of_path db block x.0.path)) xs → AllByRecursion IsRight (open_items known rows xs)
    items [] among costs reads orders = tt
    items (x ∷ xs) among (cost, costs) (read, reads) (order, orders) = by_test (λ further. items xs further costs reads orders) (is_open known x.0) refl
      where
        by_test : (((path : Path) → Contains (opened xs) path → Contains (paths_of version db block known table) path) → AllByRecursion IsRight (open_items known rows xs)) → (b : Bool) → is_open known x.0 ≡ b
            → AllByRecursion IsRight (cond b (with_rows rows x ∷ open_items known rows xs) (open_items known rows xs))
        by_test rest true e =
            let more = opened_more x xs e in
            let here = among x.0.path (subst (λ (ys : List Path). Contains ys x.0.path) (sym more) (first_is x.0.path (opened xs) x.0.path refl)) in (
              record {
                reads = reads_table db block table x.0.path read;
                order = order;
                numbered = subst (λ n. n < length (space_of version db block).orders) (sym order) (numbered x.0.path here);
                cost = ap (cost_with x.0.cost) is_rows ∙ cost known e;
              },
              rest (λ path there. among path (subst (λ (ys : List Path). Contains ys path) (sym more) (later x.0.path (opened xs) path there))),
            )
        by_test rest false e = rest (λ path there. among path (subst (λ (ys : List Path). Contains ys path) (sym (opened_less x xs e)) there))

pub are_items : (version : Version) (db : Database) (block : Block) (table : ℕ) (known : TableSet) (rows : ℕ) (xs : List (FoundPath × ℕ)) → AreListed version db block table xs → rows ≡ path_rows db block known table
    → table < length block.tables → AreItems (space_of version db block) known table (open_items known rows xs)
are_items version db block table known rows xs listed is_rows within = record {
  paths = same_paths version db block table known rows xs ∙ listed.paths known;
  each = items version db block table known rows is_rows (λ path there. (path_order_numbered version db block known table path within there).0) xs
      (λ path there. subst (λ (ys : List Path). Contains ys path) (listed.paths known) there) listed.costs listed.reads listed.orders;
  distinct = differ (λ (item : Item). item.path) (open_items known rows xs)
      (subst (λ (ys : List Path). AllPairs (λ (a b : Path). a ≢ b) ys) (sym (same_paths version db block table known rows xs ∙ listed.paths known)) (paths_once version db block known table));
}
