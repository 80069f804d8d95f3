-- Orders over tables of a set.
use Rattle.std.proofs.Common.{◌≡◌, ◌∙◌, refl, sym, subst, ℕ, ◌<◌, List, [], ◌∷◌, Bool, true, length, get_or, arith}
use Rattle.std.specs.Prelude.{All}
use Rattle.std.specs.Bool.{Decides}
use Rattle.std.specs.List.{AllByRecursion, list_all}
use Rattle.std.specs.Global.{Vec}
use Rattle.std.proofs.lemmas.List.{length-map}
use Rattle.std.proofs.lemmas.Bool.Decides.{Decides-eqb}
use Rattle.std.specs.Int.{bit_at}
use Rattle.std.proofs.lemmas.List.Elements.{All-from_recursion, recursion_from_All}
use Rattle.definitions.specs.Plans.Order as o
use Rattle.definitions.specs.Plans.TableSet.{TableSet, Has}
use Rattle.definitions.specs.Estimates.BlockTables.{has}
use Rattle.definitions.proofs.CertificateTheory.Reading.{and_left, and_right}
use Rattle.plan_tree.specs.Plans.{order_of, orders_in}
use Rattle.plan_tree.specs.declared.order.SortKey.{SortKey}
use Rattle.certificate.proofs.Elements.{mapped_element}

abbrev OverSome : TableSet → o.SortKey → Type 0
OverSome tables key = Has tables key.column.table

all_over : (tables : TableSet) (keys : List SortKey) → list_all (λ (key : SortKey). has tables key.column.table) keys ≡ true → AllByRecursion (OverSome tables) (order_of keys)
all_over tables [] e = tt
all_over tables (k ∷ ks) e = ((Decides-eqb (bit_at tables k.column.table) 1).0 (and_left _ _ e), all_over tables ks (and_right _ _ e))

over_all : (tables : TableSet) (keys : List SortKey) → AllByRecursion (OverSome tables) (order_of keys) → list_all (λ (key : SortKey). has tables key.column.table) keys ≡ true
over_all tables [] h = refl
over_all tables (k ∷ ks) (h, hs) =
    let first : has tables k.column.table ≡ true = (Decides-eqb (bit_at tables k.column.table) 1).1 h in
    let others = over_all tables ks hs in
    rw (first, others) refl

found : (orders : List (Vec SortKey)) (i : ℕ) (keys : Vec SortKey) → i < length orders → keys ≡ get_or orders i keys
    → (i < length (orders_in orders)) × (get_or (orders_in orders) i [] ≡ order_of keys.items)
found orders i keys lt e = (omega (arith, lt, length-map orders (λ (v : Vec SortKey). order_of v.items)), mapped_element (λ (v : Vec SortKey). order_of v.items) orders i [] keys lt e)

pub over_decided : (orders : List (Vec SortKey)) (tables : TableSet) (i : ℕ) (keys : Vec SortKey) (b : Bool) → i < length orders → keys ≡ get_or orders i keys
    → b ≡ list_all (λ (key : SortKey). has tables key.column.table) keys.items
    → Decides b ((i < length (orders_in orders)) × All (OverSome tables) (get_or (orders_in orders) i []))
over_decided orders tables i keys b lt got is =
    let f = found orders i keys lt got in (
      λ e. (f.0, subst (All (OverSome tables)) (sym f.1) (All-from_recursion (OverSome tables) (order_of keys.items) (all_over tables keys.items (sym is ∙ e)))),
      λ h. is ∙ over_all tables keys.items (recursion_from_All (OverSome tables) (order_of keys.items) (subst (All (OverSome tables)) f.1 h.1)),
    )
