-- What a plain block means, by an arrangement of the combinations that pass.
use Rattle.std.proofs.Common.{◌≡◌, ◌∙◌, refl, sym, ap, ap₂, subst, List, [], ◌∷◌, ◌++◌, cond, map, false, arith}
use Rattle.std.specs.Prelude.{flat_map, Contains, IsPermutation}
use Rattle.std.proofs.lemmas.List.Sorted.{Contains-permutation, IsPermutation-map, IsPermutation-sym}
use Rattle.definitions.specs.Table.{Row}
use Rattle.definitions.specs.Arithmetic.{Raise, Meaning, Is}
use Rattle.definitions.specs.Queries.BoundBlock.{Block}
use Rattle.definitions.specs.Queries.Conjuncts.{late_conjuncts}
use Rattle.definitions.specs.Queries.Evaluation.{Combination, on_one}
use Rattle.definitions.specs.Queries.Combinations.{Context, at, all_hold, kept, passing, raises_of, raises_of_late, raises_of_where}
use Rattle.definitions.specs.Queries.Grouping.{results, groups_of, unless_raised, all_results}
use Rattle.definitions.specs.Queries.Answer.{answer_after_where, block_answer, is_grouped, row_of_combination, row_of_group, rows_of_kept, distinct_rows}
use Rattle.definitions_answers.specs.Plain.{IsPlain, row_in, row_raises_in, late_raises, kept_of, column_raises, rows_of, PlainBlocksAreTold}
use Rattle.definitions_answers.proofs.Arranged.{filter_arranged, flat_map_arranged, nothing_arranged}

-- ---- lists of meanings

raises_kept : {X Y : Type 0} (f : X → Y) (rs : List Raise) (x : X) → raises_of (on_one f (unless_raised rs x)) ≡ rs
raises_kept f [] x = refl
raises_kept f (r ∷ rs) x = refl

none_first : (rs qs : List Raise) → rs ++ qs ≡ [] → rs ≡ []
none_first [] qs e = refl
none_first (r ∷ rs) qs e = absurd cc

none_second : (rs qs : List Raise) → rs ++ qs ≡ [] → qs ≡ []
none_second [] qs e = e
none_second (r ∷ rs) qs e = absurd cc

module _ {X Y : Type 0} (raised : X → List Raise) (result : X → Y) where
  abbrev each : X → Meaning (List Y)
  each x = on_one (λ y. y ∷ []) (unless_raised (raised x) (result x))

  each_raises : (xs : List X) → flat_map raises_of (map each xs) ≡ flat_map raised xs
  each_raises [] = refl
  each_raises (x ∷ xs) = ap₂ (λ rs qs. rs ++ qs) (raises_kept (λ y. y ∷ []) (raised x) (result x)) (each_raises xs)

  each_result : (xs : List X) → flat_map raised xs ≡ [] → flat_map (λ ys. ys) (results (map each xs)) ≡ map result xs
  each_result [] e = refl
  each_result (x ∷ xs) e =
      let own : raised x ≡ [] = none_first (raised x) (flat_map raised xs) e in
      ap (λ rs. flat_map (λ ys. ys) (results (on_one (λ y. y ∷ []) (unless_raised rs (result x)) ∷ map each xs))) own ∙ ap (λ ys. result x ∷ ys) (each_result xs (none_second (raised x) (flat_map raised xs) e))

ungrouped : (b : Block) → IsPlain b → is_grouped b ≡ false
ungrouped b plain = rw (plain.groups, plain.having, plain.functions) refl

where_told : (rs : List Raise) (context : Context) (b : Block) (r : Raise) → Contains rs r → Contains (raises_of (answer_after_where rs context b)) r
where_told [] context b r h = absurd (omega (arith, h.1))
where_told (q ∷ qs) context b r h = h

columns_told : {X : Type 0} (g : X → List Row) (rs : List Raise) (x : X) (r : Raise) → Contains rs r → Contains (raises_of (on_one g (unless_raised rs x))) r
columns_told g rs x r h = subst (λ qs. Contains qs r) (sym (raises_kept g rs x)) h

module _ (context : Context) (b : Block) (all : List Combination) (plain : IsPlain b) (arranged : IsPermutation (passing context b) all) where
  abbrev row_at : Combination → Row
  row_at c = row_in (at context c) b.items

  abbrev raises_at : Combination → List Raise
  raises_at c = row_raises_in (at context c) b.items

  late_arranged : IsPermutation (raises_of_where context b) (late_raises context b all)
  late_arranged = flat_map_arranged (raises_of_late context (late_conjuncts b)) (passing context b) all arranged

  kept_arranged : IsPermutation (kept context b) (kept_of context b all)
  kept_arranged = filter_arranged (all_hold context (late_conjuncts b)) (passing context b) all arranged

  columns_arranged : IsPermutation (flat_map raises_at (kept context b)) (column_raises context b all)
  columns_arranged = flat_map_arranged raises_at (kept context b) (kept_of context b all) kept_arranged

  rows_arranged : IsPermutation (map row_at (kept context b)) (rows_of context b all)
  rows_arranged = IsPermutation-map row_at (kept context b) (kept_of context b all) kept_arranged

  late_told : (r : Raise) → Contains (late_raises context b all) r → Contains (raises_of (block_answer context b)) r
  late_told r h = where_told (raises_of_where context b) context b r (Contains-permutation (late_raises context b all) (raises_of_where context b) r (IsPermutation-sym (raises_of_where context b) (late_raises context b all) late_arranged) h)

  abbrev one : Combination → Meaning (List Row)
  one = each raises_at row_at

  rows_are : rows_of_kept context b ≡ map one (kept context b)
  rows_are = ap (λ grouped. cond grouped (map (row_of_group context b) (groups_of b.groups (kept context b))) (map (row_of_combination context b) (kept context b))) (ungrouped b plain)

  abbrev joined : List (List Row) → List Row
  joined lists = distinct_rows b.distinct (flat_map (λ rs. rs) lists)

  module _ (quiet : late_raises context b all ≡ []) where
    quiet_where : raises_of_where context b ≡ []
    quiet_where = nothing_arranged (late_raises context b all) (raises_of_where context b) (IsPermutation-sym (raises_of_where context b) (late_raises context b all) late_arranged) quiet

    quiet_answer : block_answer context b ≡ on_one joined (unless_raised (flat_map raises_at (kept context b)) (results (map one (kept context b))))
    quiet_answer =
        ap (λ rs. answer_after_where rs context b) quiet_where ∙ ap (λ ms. on_one joined (all_results ms)) rows_are
        ∙ ap (λ rs. on_one joined (unless_raised rs (results (map one (kept context b))))) (each_raises raises_at row_at (kept context b))

    column_told : (r : Raise) → Contains (column_raises context b all) r → Contains (raises_of (block_answer context b)) r
    column_told r h =
        let there = Contains-permutation (column_raises context b all) (flat_map raises_at (kept context b)) r (IsPermutation-sym (flat_map raises_at (kept context b)) (column_raises context b all) columns_arranged) h in
        subst (λ m. Contains (raises_of m) r) (sym quiet_answer) (columns_told joined (flat_map raises_at (kept context b)) (results (map one (kept context b))) r there)

    rows_told : column_raises context b all ≡ [] → (bag : List Row) × (block_answer context b ≡ Is bag) × IsPermutation bag (rows_of context b all)
    rows_told none =
        let none' : flat_map raises_at (kept context b) ≡ [] = nothing_arranged (column_raises context b all) (flat_map raises_at (kept context b)) (IsPermutation-sym (flat_map raises_at (kept context b)) (column_raises context b all) columns_arranged) none in (
          map row_at (kept context b),
          quiet_answer ∙ ap (λ rs. on_one joined (unless_raised rs (results (map one (kept context b))))) none'
              ∙ ap (λ d. Is (distinct_rows d (flat_map (λ rs. rs) (results (map one (kept context b)))))) plain.distinct ∙ ap Is (each_result raises_at row_at (kept context b) none'),
          rows_arranged,
        )

pub plain_told : PlainBlocksAreTold
plain_told context b all plain arranged = record {
  late = late_told context b all plain arranged;
  column = λ quiet r h. column_told context b all plain arranged quiet r h;
  rows = λ quiet none. rows_told context b all plain arranged quiet none;
}
