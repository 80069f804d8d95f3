-- Worked examples: the blocks of the estimates are what binding makes of their queries.
use Rattle.std.specs.Prelude.{ℕ, ◌≡◌, List, [], ◌∷◌, None, false, true, map}
use Rattle.std.specs.Prelude.{codes}
use Rattle.definitions.specs.Statement as t
use Rattle.definitions.specs.Statement.{Name}
use Rattle.definitions.specs.Table.{Database}
use Rattle.definitions.specs.Queries.BoundBlock.{Block}
use Rattle.definitions.specs.Binding.BoundForm.{bound_form}
use Rattle.definitions.specs.Examples.Estimates.Setups.{one_index, select_b}
use Rattle.definitions.specs.Examples.Estimates.Paths.{a_is_seven, ranged, between_10_and_20, a_or_b, quotient}
use Rattle.definitions.specs.Examples.Estimates.TwoColumns.{by_two, both_equal, descending}
use Rattle.definitions.specs.Examples.Estimates.Joins.{unindexed, join, by_y}
use Rattle.definitions.specs.Examples.Estimates.Products.{small_and_great, product_pays, three_small, chain_of_three}

abbrev pub named : Name → t.Expr
named name = t.Column (record { qualifier = None; name = name })

abbrev pub items_of : List Name → t.Items
items_of [] = t.NoItem
items_of (name ∷ names) = t.AddItem (named name) None (items_of names)

-- SELECT names FROM tables WHERE condition
abbrev pub select : List Name → List Name → t.Expr → t.QuerySpecification
select names tables condition =
    t.Specification false (t.Listed (items_of names)) (map (λ name. record {
      table = name;
      correlation = None;
    }) tables) (t.Present condition) [] t.Absent

abbrev pub equal : t.Expr → t.Expr → t.Expr
equal x y = t.Compare t.Equals x y

abbrev pub joined : t.LineOperator → t.Expr → t.Expr → t.Expr
joined operator x y = t.Line x (t.Operand operator y t.NoOperand)

abbrev pub whole : (units digits : ℕ) → t.Expr
whole units digits = t.Numeral units digits 0

abbrev pub Binds : Database → t.QuerySpecification → List t.SortSpecification → Block → Type 0
Binds db query order block = bound_form db (record { block = query; order = order }) ≡ block ∷ []

abbrev pub from_t : t.Expr → t.QuerySpecification
from_t condition = select (codes "B" ∷ []) (codes "T" ∷ []) condition

pub record BlocksAreBound : Type 0 where
  pub match_binds : Binds (one_index None) (from_t (equal (named (codes "A")) (whole 7 1))) [] (select_b a_is_seven)
  pub between_binds : Binds ranged (from_t (t.Between false (named (codes "A")) (whole 10 2) (whole 20 2))) []
      (select_b between_10_and_20)
  pub either_binds : Binds ranged
      (from_t (joined t.Or (equal (named (codes "A")) (whole 7 1)) (equal (named (codes "B")) (whole 1 1)))) []
      (select_b a_or_b)
  pub quotient_binds : Binds ranged
      (from_t (t.Compare t.GreaterThan (joined t.Divided (named (codes "A")) (named (codes "B"))) (whole 2 1))) []
      (select_b quotient)
  pub both_bind : Binds by_two (select (codes "C" ∷ []) (codes "T" ∷
      []) (joined t.And (equal (named (codes "A")) (whole 7 1)) (equal (named (codes "B")) (whole 3 1)))) [] both_equal
  pub descending_binds : Binds by_two (select (codes "A" ∷ codes "B" ∷ []) (codes "T" ∷
      []) (equal (named (codes "A")) (whole 7 1)))
      (record { named = t.ByName (codes "A"); descending = true } ∷ record {
        named = t.ByName (codes "B");
        descending = true;
      } ∷ []) descending
  pub join_binds : Binds unindexed (select (codes "P" ∷ codes "Q" ∷ []) (codes "T1" ∷ codes "T2" ∷
      []) (equal (named (codes "X")) (named (codes "Y")))) [] join
  pub ordered_binds : Binds unindexed (select (codes "Y" ∷ codes "P" ∷ []) (codes "T1" ∷ codes "T2" ∷
      []) (equal (named (codes "X")) (named (codes "Y"))))
      (record { named = t.ByName (codes "Y"); descending = false } ∷ []) by_y
  pub product_binds : Binds small_and_great
      (select (codes "X" ∷ []) (codes "A" ∷ codes "C" ∷ codes "B" ∷
      []) (joined t.And (equal (named (codes "X")) (named (codes "P")))
      (equal (named (codes "Z")) (named (codes "Q"))))) [] product_pays
  pub chain_binds : Binds three_small
      (select (codes "X" ∷ []) (codes "A" ∷ codes "B" ∷ codes "C" ∷
      []) (joined t.And (equal (named (codes "X")) (named (codes "Y")))
      (equal (named (codes "Y")) (named (codes "Z"))))) [] chain_of_three
