-- The path of a table that costs least, and the loop over it.
use Rattle.std.proofs.Common.{◌≡◌, ℕ, ◌+◌, ◌≤◌, List, [], ◌∷◌, Option, Some, None, length, nat_lt, if◌then◌else◌, Bool, true, false, mul-le-mul_left, arith, refl, sym, subst}
use Rattle.std.proofs.lemmas.Bool.Decides.{nat_tests}
use Rattle.std.specs.Prelude.{Contains, ⊤}
use Rattle.std.specs.List.{AllByRecursion}
use Rattle.definitions.specs.Plans.Path.{Path, table_of}
use Rattle.definitions.specs.Plans.Space.{Space}
use Rattle.definitions.specs.Plans.PlanSpace.{IsPath}
use Rattle.definitions.specs.Plans.Cost.{saturated}
use Rattle.definitions.proofs.PlanTheory.Elements.{not_in_empty}
use Rattle.plan_space.specs.Item.{Item, AreItems}
use Rattle.plan_space.proofs.Lists.{both}
use Rattle.plan_space.proofs.PathItems.{IsPathItem, each_path, found_item}
use Rattle.join_dp.specs.CheapestPath.{cheaper_item, IsCheapestPath}
use Rattle.join_dp.specs.Joining.{join_cost, IsJoin}
use Rattle.join_dp.specs.Steps.{Loop}

-- ---- the cheaper of two

-- no more than a path costs, if there is one
abbrev AtMost : ℕ → Option Item → Type 0
AtMost n None = ⊤
AtMost n (Some item) = n ≤ item.cost

cheaper_new : (best : Option Item) (item : Item) → (cheaper_item best item).cost ≤ item.cost
cheaper_new None item = omega arith
cheaper_new (Some known) item = of_test (nat_lt item.cost known.cost) refl
  where
    of_test : (b : Bool) → nat_lt item.cost known.cost ≡ b → (if b then item else known).cost ≤ item.cost
    of_test true e = omega arith
    of_test false e = grind (arith, nat_tests)

cheaper_old : (best : Option Item) (item : Item) (n : ℕ) → n ≤ (cheaper_item best item).cost → AtMost n best
cheaper_old None item n le = tt
cheaper_old (Some known) item n le = let old = of_test (nat_lt item.cost known.cost) refl in omega (arith, le, old)
  where
    of_test : (b : Bool) → nat_lt item.cost known.cost ≡ b → (if b then item else known).cost ≤ known.cost
    of_test true e = grind (arith, nat_tests)
    of_test false e = omega arith

module _ (space : Space) (s table : ℕ) where
  abbrev IsFound : Option Item → Type 0
  IsFound None = ⊤
  IsFound (Some item) = IsPathItem space s table item

  cheaper_found : (best : Option Item) (item : Item) → IsFound best → IsPathItem space s table item → IsPathItem space s table (cheaper_item best item)
  cheaper_found None item found right = right
  cheaper_found (Some known) item found right = of_test (nat_lt item.cost known.cost)
    where
      of_test : (b : Bool) → IsPathItem space s table (if b then item else known)
      of_test true = right
      of_test false = found

  -- ---- path after path: what is no more than the best cost and those that are left is no more than any
  pub record Chosen (best : Option Item) (items : List Item) : Type 0 where
    pub found : IsFound best
    pub each : AllByRecursion (IsPathItem space s table) items
    pub least : (n : ℕ) → AtMost n best → AllByRecursion (λ (item : Item). n ≤ item.cost) items
        → (path : Path) → table_of path ≡ table → IsPath space s path → n ≤ space.path_cost s path

  pub chosen_begin : (items : List Item) → AreItems space s table items → Chosen None items
  chosen_begin items are = record {
    found = tt;
    each = each;
    least = λ n le all path at there. of_item n path (found_item space s table items (λ (item : Item). IsPathItem space s table item × (n ≤ item.cost)) are (both (IsPathItem space s table) (λ (item : Item). n ≤ item.cost) items each all) path at there);
  }
    where
      each : AllByRecursion (IsPathItem space s table) items
      each = each_path space s table items are

      of_item : (n : ℕ) (path : Path) → (item : Item) × (IsPathItem space s table item × (n ≤ item.cost)) × (item.path ≡ path) → n ≤ space.path_cost s path
      of_item n path (item, (right, le), is) =
          let c : item.cost ≡ space.path_cost s path = rw is at right.0.cost in
          omega (arith, le, c)

  pub chosen_go : (best : Option Item) (items rest : List Item) (item new : Item) → items ≡ item ∷ rest → new ≡ cheaper_item best item → Chosen best items → Chosen (Some new) rest
  chosen_go best items rest item new is cheaper chosen = subst (λ (x : Item). Chosen (Some x) rest) (sym cheaper) (go (subst (Chosen best) is chosen))
    where
      go : Chosen best (item ∷ rest) → Chosen (Some (cheaper_item best item)) rest
      go c = record {
        found = cheaper_found best item c.found c.each.0;
        each = c.each.1;
        least = λ n le all. c.least n (cheaper_old best item n le) (omega (arith, le, cheaper_new best item), all);
      }

  pub chosen_end : (best : Option Item) (items : List Item) → items ≡ [] → Chosen best items → IsCheapestPath space s table best
  chosen_end best items is chosen = end best (subst (Chosen best) is chosen)
    where
      end : (b : Option Item) → Chosen b [] → IsCheapestPath space s table b
      end None c = λ path at there. let more = c.least (space.path_cost s path + 1) tt tt path at there in absurd (omega (arith, more))
      end (Some item) c = (c.found.0, c.found.1, λ path at there. c.least item.cost (omega arith) tt path at there)

  contains_some : (xs : List Path) (x : Path) → Contains xs x → 1 ≤ length xs
  contains_some [] x there = absurd (not_in_empty x there)
  contains_some (y ∷ xs) x there = omega arith

  pub some_path : (path : Path) → table_of path ≡ table → IsPath space s path → 1 ≤ length (space.paths s table)
  some_path path at there = contains_some (space.paths s table) path (rw at at there)

-- ---- what the loop over it adds

saturated_more : (a b : ℕ) → a ≤ b → saturated a ≤ saturated b
saturated_more a b le = omega (arith, le)

module _ (space : Space) (s table : ℕ) where
  pub loop_least : (item : Item) (n : ℕ) → IsPathItem space s table item → n ≡ join_cost space s (Loop item.path) → ((path : Path) → table_of path ≡ table → IsPath space s path → item.cost ≤ space.path_cost s path)
      → (path : Path) → IsJoin space s table (Loop path) → n ≤ join_cost space s (Loop path)
  loop_least item n right is least path join =
      let le : space.path_cost s item.path ≤ space.path_cost s path = rw right.0.cost at (least path join.0 join.1) in
      subst (λ m. m ≤ join_cost space s (Loop path)) (sym is) (saturated_more _ _ (mul-le-mul_left (space.cardinality s) le))
