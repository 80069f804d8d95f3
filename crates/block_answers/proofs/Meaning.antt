-- What may be told of a block, and of one that is not grouped, by an arrangement of the combinations that pass.
use Rattle.std.proofs.Common.{◌≡◌, refl, sym, subst, ℕ, List, [], ◌∷◌, Bool, true, false, map, arith}
use Rattle.std.specs.Prelude.{flat_map, is_some, Contains, IsPermutation, IsSorted}
use Rattle.std.specs.List.{AllByRecursion, list_all}
use Rattle.std.proofs.lemmas.List.Sorted.{Contains-permutation, IsPermutation-refl, IsPermutation-sym}
use Rattle.definitions.specs.Table.{Row}
use Rattle.definitions.specs.Arithmetic.{Meaning, Raise}
use Rattle.definitions.specs.Estimates.Orders.{sort_key}
use Rattle.definitions.specs.Queries.BoundBlock.{Block}
use Rattle.definitions.specs.Queries.Conjuncts.{late_conjuncts}
use Rattle.definitions.specs.Queries.Evaluation.{Combination}
use Rattle.definitions.specs.Queries.Combinations as c
use Rattle.definitions.specs.Queries.Combinations.{Context, passing, raises_of, raises_of_late, raises_of_where}
use Rattle.definitions.specs.Queries.Answer.{answer_after_where, block_answer, distinct_rows, is_grouped}
use Rattle.definitions.specs.Queries.BoundBlock as b'
use Rattle.definitions.specs.Queries.Outcomes.{Allowed, Exception, Rows, row_order}
use Rattle.definitions_execution.specs.Stored.{Composite}
use Rattle.definitions_execution.specs.OfBlock.{combination_of}
use Rattle.definitions_execution.specs.TypedCombinations.{IsTypedCombination}
use Rattle.definitions_answers.specs.Ordered.{AreRequired}
use Rattle.definitions_answers.specs.Plain.{kept_of, late_raises}
use Rattle.definitions_answers.specs.PlainRows.{plain_raises, plain_row, values_at, HavePlainShapes}
use Rattle.definitions_answers.specs.Shapes.{Shape, HasShapes}
use Rattle.definitions_answers.proofs.GroupRows.{none_first, none_second}
use Rattle.definitions_answers.proofs.Ordered.{left_are_required}
use Rattle.definitions_answers.proofs.PlainRows.{combinations_tell, required_order_is_row_order}
use Rattle.definitions_answers.proofs.Reordered.{reordered}
use Rattle.definitions_answers.proofs.Taken.{all_arranged}
use Rattle.definitions_answers.proofs.TypedKept.{kept_are_typed}
use Rattle.definitions_answers.proofs.Working.{passing_asks}
use Rattle.definitions_answers.proofs.ValueShapes.{plain_rows_have_shapes}
use Rattle.filters.specs.Sources.{BlockSource, block_in}
use Rattle.block_answers.specs.Ready.{AreReady}
use Rattle.result_rows.specs.Stores.{AreToldAs}
use Rattle.block_answers.specs.Telling.{context_with, no_inner, MayTell}
use Rattle.block_answers.proofs.AnswerArranged.{filter_arranged, flat_map_arranged, nothing_arranged}

where_told : (rs : List Raise) (context : Context) (b : Block) (keys : List b'.OrderKey) (r : Raise) → Contains rs r → Allowed (answer_after_where rs context b) keys (Exception r)
where_told [] context b keys r h = absurd (omega (arith, h.1))
where_told (q ∷ qs) context b keys r h = h

-- rows of combinations have the shapes of the columns, where none raises
module _ (context : Context) (b : Block) (shapes : List Shape) (has : HavePlainShapes context b shapes) where
  rows_shaped : (cs : List Combination) → AllByRecursion (IsTypedCombination context.database b) cs → plain_raises context b cs ≡ [] → AllByRecursion (HasShapes shapes) (map (plain_row context b) cs)
  rows_shaped [] t q = tt
  rows_shaped (c ∷ cs) t q =
      (has c t.0 (none_first (flat_map raises_of (values_at context b c)) (plain_raises context b cs) q), rows_shaped cs t.1 (none_second (flat_map raises_of (values_at context b c)) (plain_raises context b cs) q))

module _ (source : BlockSource) (outer : List Combination) (inner : ℕ → List Combination → Meaning (List Row)) (all : List Composite) (ready : AreReady source outer all) where
  abbrev context : Context
  context = context_with source outer inner

  abbrev b : Block
  b = block_in source

  -- the combinations that pass, in the order in which they come, and those of them that are kept
  abbrev combos : List Combination
  combos = map (combination_of source.database b) all

  abbrev cs : List Combination
  cs = kept_of context b combos

  -- early conjuncts ask for no inner block
  arranged : IsPermutation (passing context b) combos
  arranged = subst (λ ps. IsPermutation ps combos) (passing_asks source.database outer no_inner inner b) ready.arranged

  late_arranged : IsPermutation (raises_of_where context b) (late_raises context b combos)
  late_arranged = flat_map_arranged (raises_of_late context (late_conjuncts b)) (passing context b) combos arranged

  pub kept_arranged : IsPermutation (c.kept context b) cs
  kept_arranged = filter_arranged (c.all_hold context (late_conjuncts b)) (passing context b) combos arranged

  pub typed : AllByRecursion (IsTypedCombination context.database b) (c.kept context b)
  typed = kept_are_typed context b ready.valid

  pub late_raise_told : (r : Raise) → Contains (late_raises context b combos) r → MayTell source outer inner (Exception r)
  late_raise_told r h =
      where_told (raises_of_where context b) context b b.order r (Contains-permutation (late_raises context b combos) (raises_of_where context b) r (IsPermutation-sym (raises_of_where context b) (late_raises context b combos) late_arranged) h)

  shaped : (shapes : List Shape) × HavePlainShapes context b shapes
  shaped = let (blocks, around, n, formed, placed) = ready.surrounded in plain_rows_have_shapes context blocks around n b (ready.valid, placed) formed ready.answerable.items

  pub required : AreRequired b cs
  required = left_are_required b (c.all_hold context (late_conjuncts b)) combos ready.ordered

  -- the rows have the shapes of their columns
  pub rows_have_shapes : plain_raises context b cs ≡ [] → (shapes : List Shape) × AllByRecursion (HasShapes shapes) (map (plain_row context b) cs)
  rows_have_shapes none =
      let (shapes, has) = shaped in
      let here : AllByRecursion (IsTypedCombination context.database b) cs = all_arranged (IsTypedCombination context.database b) (c.kept context b) cs (reordered (c.kept context b) cs kept_arranged) typed in
      (shapes, rows_shaped context b shapes has cs here none)

  module _ (quiet : late_raises context b combos ≡ []) where
    pub quiet_where : raises_of_where context b ≡ []
    quiet_where = nothing_arranged (late_raises context b combos) (raises_of_where context b) (IsPermutation-sym (raises_of_where context b) (late_raises context b combos) late_arranged) quiet

    pub column_raise_told : is_grouped b ≡ false → (r : Raise) → Contains (plain_raises context b cs) r → MayTell source outer inner (Exception r)
    column_raise_told ungrouped r h = let (shapes, has) = shaped in (combinations_tell context b cs b.order shapes ungrouped quiet_where typed has kept_arranged).0 r h

    arranged_told : is_grouped b ≡ false → (printed : List Row) → plain_raises context b cs ≡ [] → IsPermutation (distinct_rows b.distinct (map (plain_row context b) cs)) printed → IsSorted (row_order b.order) printed → MayTell source outer inner (Rows printed)
    arranged_told ungrouped printed none same sorted = let (shapes, has) = shaped in (combinations_tell context b cs b.order shapes ungrouped quiet_where typed has kept_arranged).1 printed none same sorted

    pub rows_told : is_grouped b ≡ false → (in_order : Bool) (printed : List Row) → plain_raises context b cs ≡ [] → (in_order ≡ false → list_all (λ key. is_some (sort_key b.items key)) b.order ≡ true)
        → AreToldAs in_order b.distinct b.order (map (plain_row context b) cs) printed → MayTell source outer inner (Rows printed)
    rows_told ungrouped true printed none columns h = arranged_told ungrouped printed none h.same h.sorted
    rows_told ungrouped false printed none columns h =
        arranged_told ungrouped printed none (subst (IsPermutation (distinct_rows b.distinct (map (plain_row context b) cs))) (sym h) (IsPermutation-refl (distinct_rows b.distinct (map (plain_row context b) cs))))
        (subst (IsSorted (row_order b.order)) (sym h) (required_order_is_row_order context b cs ungrouped (columns refl) none required))

    -- and of the rows in any order
    pub bag_told : is_grouped b ≡ false → plain_raises context b cs ≡ [] → Allowed (block_answer context b) [] (Rows (distinct_rows b.distinct (map (plain_row context b) cs)))
    bag_told ungrouped none =
        let (shapes, has) = shaped in
        (combinations_tell context b cs [] shapes ungrouped quiet_where typed has kept_arranged).1 (distinct_rows b.distinct (map (plain_row context b) cs)) none (IsPermutation-refl (distinct_rows b.distinct (map (plain_row context b) cs))) (λ k d low high. refl)
