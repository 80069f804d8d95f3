-- Result columns, one after another.
use Rattle.std.proofs.Common.{◌≡◌, ◌∙◌, sym, ap, subst, ℕ, zero, suc, ◌+◌, ◌<◌, ◌≤◌, List, [], ◌∷◌, ◌++◌, Ok, Err, length, drop, get_or, arith}
use Rattle.std.specs.Prelude.{Contains}
use Rattle.std.specs.List.{AllByRecursion}
use Rattle.std.proofs.lemmas.List.Elements.{Contains-append_left}
use Rattle.definitions.specs.Value.{Value}
use Rattle.definitions.specs.Arithmetic.{Raise, Meaning}
use Rattle.definitions.specs.Queries.BoundBlock as b
use Rattle.definitions.specs.Queries.Evaluation.{Environment, value}
use Rattle.definitions.specs.Queries.Combinations.{raises_of}
use Rattle.definitions.specs.Queries.Grouping.{results}
use Rattle.definitions.specs.Queries.Telling.{MayAnswer}
use Rattle.query_tree.specs.Bound.{item_of}
use Rattle.query_tree.specs.declared.block.Item.{Item}
use Rattle.result_lines.specs.RowAt.{items_of, values_in, row_in, row_raises_in, CanGive}
use Rattle.result_lines.proofs.Answering.{told_raise, told_result}
use Rattle.result_lines.proofs.Lists.{at_place, next}

module _ (env : Environment) (items : List Item) (i : ℕ) (x : Item) (h : i < length items) (e : x ≡ get_or items i x) where
  pub one_can : AllByRecursion (CanGive env) (items_of items) → CanGive env (item_of x)
  one_can all = at_place (CanGive env) item_of items i x all h e

  abbrev meant : Meaning Value
  meant = value env (item_of x).value

  abbrev from : ℕ → List b.Item
  from k = items_of (drop k items)

  of_next : from i ≡ item_of x ∷ from (i + 1)
  of_next = next item_of items i x h e

  -- a column has a value
  pub next_value : (v : Value) → MayAnswer meant (Ok v) → row_in env (from i) ≡ v ∷ row_in env (from (i + 1))
  next_value v told = ap (row_in env) of_next ∙ ap (λ m. results (m ∷ values_in env (from (i + 1)))) (told_result meant v told)

  pub next_quiet : (v : Value) (all : List Raise) → MayAnswer meant (Ok v) → row_raises_in env (from i) ≡ all → row_raises_in env (from (i + 1)) ≡ all
  next_quiet v all told left = sym here ∙ left
    where
      here : row_raises_in env (from i) ≡ row_raises_in env (from (i + 1))
      here = ap (row_raises_in env) of_next ∙ ap (λ (m : Meaning Value). raises_of m ++ row_raises_in env (from (i + 1))) (told_result meant v told)

  -- or it raises
  pub column_raises : (raise : Raise) → row_raises_in env (from i) ≡ row_raises_in env (items_of items) → MayAnswer meant (Err raise) → Contains (row_raises_in env (items_of items)) raise
  column_raises raise left told =
      subst (λ rs. Contains rs raise) (sym (ap (row_raises_in env) of_next) ∙ left) (Contains-append_left (raises_of meant) (row_raises_in env (from (i + 1))) raise (told_raise meant raise told))

-- behind the last column there is nothing
pub none_left : (P : List Value → Type 0) (env : Environment) (items : List Item) (i : ℕ) → length items ≤ i → P [] → P (row_in env (items_of (drop i items)))
none_left P env [] zero h p = p
none_left P env [] (suc i) h p = p
none_left P env (x ∷ items) zero h p = absurd (omega (arith, h))
none_left P env (x ∷ items) (suc i) h p = none_left P env items i (omega (arith, h)) p
