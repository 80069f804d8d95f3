-- The parts of conditions and values, as code keeps them.
use Rattle.std.proofs.Common.{◌≡◌, ◌∙◌, refl, sym, subst, ℕ, List, [], ◌∷◌, Option, map}
use Rattle.definitions.specs.Queries.BoundBlock as b
use Rattle.definitions.specs.Queries.Conjuncts.{compared_blocks_of_parts, conjuncts_of, conjuncts_of_parts, operand_blocks, member_values, tested_blocks_of_parts, values_of_parts}
use Rattle.query_tree.specs.Bound.{condition_of, conditions, condition_layer, member_of, operand_of, operands}
use Rattle.query_tree.specs.declared.condition.Condition.{Condition, out-Condition, roll-Condition, roll-out-Condition}
use Rattle.query_tree.specs.declared.condition.Condition.TheOpen.{Condition-F}
use Rattle.query_tree.specs.declared.condition.Condition.TheOpen as o
use Rattle.query_tree.specs.declared.condition.Condition.TheVariants as w
use Rattle.query_tree.specs.declared.condition.Condition.TheFolds as folds
use Rattle.query_tree.specs.declared.value.ValueExpr.{ValueExpr}
use Rattle.query_tree.specs.declared.value.Operand.{Operand}

-- the operands of AND and OR
abbrev pub parts_conjuncts : List Condition → List b.Condition
parts_conjuncts cs = conjuncts_of_parts (conditions (map condition_of cs))

abbrev pub parts_values : List Condition → List b.ValueExpr
parts_values cs = values_of_parts (conditions (map condition_of cs))

abbrev pub parts_tested : List Condition → List ℕ
parts_tested cs = tested_blocks_of_parts (conditions (map condition_of cs))

abbrev pub parts_compared : List Condition → List ℕ
parts_compared cs = compared_blocks_of_parts (conditions (map condition_of cs))

-- the members of a list
abbrev pub members_values : List (Option ValueExpr) → List b.ValueExpr
members_values ms = member_values (map member_of ms)

-- the operands of a line
abbrev pub line_blocks : List Operand → List ℕ
line_blocks xs = operand_blocks (operands (map operand_of xs))

-- ---- what is no AND

by_layer : (P : b.Condition → Type 0) (c : Condition) → ((x : Condition-F Condition) → c ≡ roll-Condition x → P (condition_layer (folds.map-Condition _ _ condition_of x))) → P (condition_of c)
by_layer P c all = subst P (sym (folds.fold_out-Condition b.Condition condition_layer c)) (all (out-Condition c) (sym (roll-out-Condition c)))

-- what is no AND is its own conjunct
pub alone : (c : Condition) → ((xs : _) → c ≡ w.And xs → ⊥) → conjuncts_of (condition_of c) ≡ condition_of c ∷ []
alone c n = by_layer (λ z. conjuncts_of z ≡ z ∷ []) c (elim [
  | o.Compare op a b ↦ λ h. refl
  | o.Quantified op q a b ↦ λ h. refl
  | o.IsNull m a ↦ λ h. refl
  | o.Between m a l h' ↦ λ h. refl
  | o.Like m a p ↦ λ h. refl
  | o.InList m a xs ↦ λ h. refl
  | o.InQuery m a b ↦ λ h. refl
  | o.Exists b ↦ λ h. refl
  | o.Not a ↦ λ h. refl
  | o.And xs ↦ λ h. absurd (n xs (h ∙ w.rolls-And xs))
  | o.Or xs ↦ λ h. refl
])
