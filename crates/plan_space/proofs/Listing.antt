-- Paths as they are listed, one after another.
use Prim.Native.Nat.{zero}
use Rattle.std.proofs.Common.{suc, ◌≡◌, ◌∙◌, refl, sym, ap, subst, ℕ, ◌+◌, ◌<◌, ◌≤◌, ◌⊎◌, inl, inr, List, [], ◌∷◌, ◌++◌, length, map, get_or, arith}
use Rattle.std.specs.Prelude.{filter}
use Rattle.std.specs.List.{AllByRecursion}
use Rattle.std.proofs.lemmas.Bool.{cases_lt}
use Rattle.std.proofs.lemmas.List.{length-map, get_or_append_left}
use Rattle.std.proofs.Math.Seq.{get_or-append_seam}
use Rattle.definitions.specs.Table.{Database}
use Rattle.definitions.specs.Plans.TableSet.{TableSet}
use Rattle.definitions.specs.Plans.Order.{Order}
use Rattle.definitions.specs.Plans.Numbering.{number_of}
use Rattle.definitions.specs.Queries.BoundBlock.{Block}
use Rattle.definitions.specs.Estimates.Orders.{orders_of, order_of_path}
use Rattle.definitions.specs.Estimates.Paths.{paths_of}
use Rattle.definitions.specs.Estimates.Version.{Version}
use Rattle.access_paths.specs.Found.{FoundPath, is_open, CostsAsPath, Reads}
use Rattle.plan_space.specs.PathListed.{AreListed, with_number}

-- what holds of all that is made of a list holds of what is made of the element at a place
pub made_at : {X Y : Type 0} (f : X → Y) (P : Y → Type 0) (xs : List X) (i : ℕ) (x : X) → AllByRecursion P (map f xs) → i < length xs → x ≡ get_or xs i x → P (f x)
made_at f P [] i x all h e = absurd (omega (arith, h))
made_at f P (y ∷ ys) zero x all h e = let same : x ≡ y = e in rw same all.0
made_at f P (y ∷ ys) (suc i) x all h e = made_at f P ys i x all.1 (omega (arith, h)) e

module _ (db : Database) (block : Block) (orders : List Order) where
  firsts : (found : List FoundPath) → map (λ (x : FoundPath × ℕ). x.0) (map (with_number db block orders) found) ≡ found
  firsts [] = refl
  firsts (x ∷ xs) = ap (λ rest. x ∷ rest) (firsts xs)

  kept : (P : FoundPath → Type 0) (found : List FoundPath) → AllByRecursion P found → AllByRecursion (λ (x : FoundPath × ℕ). P x.0) (map (with_number db block orders) found)
  kept P [] all = tt
  kept P (x ∷ xs) all = (all.0, kept P xs all.1)

  numbers : (found : List FoundPath) → AllByRecursion (λ (x : FoundPath × ℕ). x.1 ≡ number_of orders (order_of_path db block x.0.path)) (map (with_number db block orders) found)
  numbers [] = tt
  numbers (x ∷ xs) = (refl, numbers xs)

pub listed : (version : Version) (db : Database) (block : Block) (table : ℕ) (orders : List Order) (found : List FoundPath) (xs : List (FoundPath × ℕ)) → xs ≡ map (with_number db block orders) found → orders ≡ orders_of version db block
    → ((known : TableSet) → map (λ (x : FoundPath). x.path) (filter (is_open known) found) ≡ paths_of version db block known table)
    → AllByRecursion (CostsAsPath db block table) found → AllByRecursion (λ (x : FoundPath). Reads db block table x.path) found → AreListed version db block table xs
listed version db block table orders found xs is are paths costs reads =
    subst (λ (ys : List (FoundPath × ℕ)). AreListed version db block table ys) (sym is) (record {
      paths = λ known. ap (λ (ys : List FoundPath). map (λ (x : FoundPath). x.path) (filter (is_open known) ys)) (firsts db block orders found) ∙ paths known;
      costs = kept db block orders (CostsAsPath db block table) found costs;
      reads = kept db block orders (λ (x : FoundPath). Reads db block table x.path) found reads;
      orders = subst (λ (all : List Order). AllByRecursion (λ (x : FoundPath × ℕ). x.1 ≡ number_of all (order_of_path db block x.0.path)) (map (with_number db block orders) found)) are (numbers db block orders found);
    })

-- ---- table by table

module _ {X Y : Type 0} (P : ℕ → List Y → Type 0) (f : X → List Y) where
  abbrev pub AreFirst : List X → ℕ → Type 0
  AreFirst xs count = (table : ℕ) → table < count → P table (get_or (map f xs) table [])

  together : (xs : List X) (x : X) → map f (xs ++ x ∷ []) ≡ map f xs ++ f x ∷ []
  together [] x = refl
  together (y ∷ ys) x = ap (λ rest. f y ∷ rest) (together ys x)

  pub one_table_more : (xs : List X) (x : X) (count : ℕ) → length xs ≡ count → AreFirst xs count → P count (f x) → AreFirst (xs ++ x ∷ []) (count + 1)
  one_table_more xs x count len first last table lt = subst (λ ys. P table (get_or ys table [])) (sym (together xs x)) (by_place (cases_lt table count))
    where
      by_place : (table < count) ⊎ (count ≤ table) → P table (get_or (map f xs ++ f x ∷ []) table [])
      by_place (inl less) = subst (P table) (sym (get_or_append_left (map f xs) (f x ∷ []) [] table (omega (arith, less, len, length-map xs f)))) (first table less)
      by_place (inr ge) =
          let here : table ≡ count = omega (arith, lt, ge) in
          let there : table ≡ length (map f xs) = omega (arith, here, len, length-map xs f) in
          subst (λ k. P k (get_or (map f xs ++ f x ∷ []) k [])) (sym there)
          (subst (λ k. P k (get_or (map f xs ++ f x ∷ []) (length (map f xs)) [])) (omega (arith, there, here))
          (subst (P count) (sym (get_or-append_seam (map f xs) (f x) [] [])) last))
