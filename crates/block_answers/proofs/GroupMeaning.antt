-- What may be told of a block that is grouped, where its composites come in the order of GROUP BY.
use Rattle.std.proofs.Common.{◌≡◌, ◌∙◌, refl, sym, ap, subst, ℕ, List, [], ◌∷◌, ◌++◌, Bool, true, false, Option, map, true≢false}
use Rattle.std.specs.Prelude.{Contains, IsPermutation, IsSorted}
use Rattle.std.specs.List.{AllByRecursion}
use Rattle.std.proofs.lemmas.List.Sorted.{IsPermutation-refl, IsPermutation-trans}
use Rattle.definitions.specs.Table.{Row}
use Rattle.definitions.specs.Arithmetic.{Meaning, Raise}
use Rattle.definitions.specs.Plans.Order.{BlockColumn}
use Rattle.definitions.specs.Queries.Answer.{block_answer, distinct_rows, is_grouped}
use Rattle.definitions.specs.Queries.BoundBlock.{Block, OrderKey}
use Rattle.definitions.specs.Queries.Combinations as c
use Rattle.definitions.specs.Queries.Combinations.{Context}
use Rattle.definitions.specs.Queries.Conjuncts.{is_empty}
use Rattle.definitions.specs.Queries.Evaluation.{Combination}
use Rattle.definitions.specs.Queries.Outcomes.{Allowed, Exception, Rows, row_order}
use Rattle.definitions_execution.specs.BlockLaws.{cell_of}
use Rattle.definitions_execution.specs.Lists.{Rises}
use Rattle.definitions_execution.specs.OfBlock.{combination_of}
use Rattle.definitions_execution.specs.RowOrder.{NotAfter}
use Rattle.definitions_execution.specs.Stored.{Composite}
use Rattle.definitions_execution.specs.TypedCombinations.{IsTypedCombination}
use Rattle.definitions_answers.specs.GroupRows.{group_raises, group_rows, rows_in, short_row, AreGroupsBy, IsRegular}
use Rattle.definitions_answers.specs.Groups.{joined, AreGroups}
use Rattle.definitions_answers.specs.Plain.{kept_of, late_raises}
use Rattle.definitions_answers.specs.Runs.{grouping_order}
use Rattle.definitions_answers.specs.Shapes.{HasShapes, Shape}
use Rattle.definitions_answers.proofs.Cutting.{cuts_are_groups}
use Rattle.definitions_answers.proofs.GroupedShapes.{grouped_rows_have_shapes}
use Rattle.definitions_answers.proofs.GroupRows.{groups_tell}
use Rattle.definitions_answers.proofs.Regular.{formed_are_regular}
use Rattle.definitions_answers.proofs.Reordered.{reordered}
use Rattle.definitions_answers.proofs.Taken.{all_arranged, all_joined, all_split}
use Rattle.filters.specs.Sources.{BlockSource, block_in}
use Rattle.block_answers.specs.Cut.{none, open_groups, some, whole, AreAllGroups, IsCutInto}
use Rattle.block_answers.specs.Ready.{AreReady}
use Rattle.result_rows.specs.Stores.{AreToldAs}
use Rattle.block_answers.specs.Telling.{context_with, MayTell}
use Rattle.block_answers.proofs.Meaning.{kept_arranged, quiet_where, required, typed}

-- ---- all groups

module _ (own : List Combination) where
  one_group : (cs : List Combination) (closed : List (List Combination)) (open' : Option (List Combination)) → IsCutInto [] cs closed open' → closed ++ open_groups open' ≡ cs ∷ []
  one_group cs closed open' (whole _ _ _ e nothing is) = ap (λ gs. gs ++ open_groups open') nothing ∙ ap open_groups is
  one_group cs closed open' (none _ _ _ column others e nothing nowhere is) = absurd cc
  one_group cs closed open' (some _ _ _ column others first rest e cut is) = absurd cc

  some_groups : (column : BlockColumn) (others : List BlockColumn) (cs : List Combination) (closed : List (List Combination)) (open' : Option (List Combination)) → IsPermutation own cs → Rises (NotAfter cell_of (grouping_order (column ∷ others))) cs
      → IsCutInto (column ∷ others) cs closed open' → AreGroups (column ∷ others) own (closed ++ open_groups open')
  some_groups column others cs closed open' same rises (whole _ _ _ e nothing is) = absurd cc
  some_groups column others cs closed open' same rises (none _ _ _ k ks e nothing nowhere is) =
      subst (AreGroups (column ∷ others) own) (sym (ap (λ gs. gs ++ open_groups open') nowhere ∙ ap open_groups is)) (record { all = subst (IsPermutation own) nothing same; some = tt; classes = tt })
  some_groups column others cs closed open' same rises (some _ _ _ k ks first rest e cut is) =
      let groups = cuts_are_groups (column ∷ others) cs closed first rest rises cut in
      subst (AreGroups (column ∷ others) own) (sym (ap (λ o. closed ++ open_groups o) is))
      (record { all = IsPermutation-trans own cs (joined (closed ++ (first ∷ rest) ∷ [])) same groups.all; some = groups.some; classes = groups.classes })

  pub groups_are : (columns : List BlockColumn) (cs : List Combination) (groups : List (List Combination)) → IsPermutation own cs → Rises (NotAfter cell_of (grouping_order columns)) cs → AreAllGroups columns cs groups → AreGroupsBy columns own groups
  groups_are [] cs groups same rises (closed, open', cut, is) = (cs, same, is ∙ one_group cs closed open' cut)
  groups_are (column ∷ others) cs groups same rises (closed, open', cut, is) = subst (AreGroups (column ∷ others) own) (sym is) (some_groups column others cs closed open' same rises cut)

-- what is so of all is so of each group
module _ (P : Combination → Type 0) where
  each_joined : (groups : List (List Combination)) → AllByRecursion P (joined groups) → AllByRecursion (AllByRecursion P) groups
  each_joined [] h = tt
  each_joined (g ∷ gs) h = let (here, there) = all_split P g (joined gs) h in (here, each_joined gs there)

  pub each_group : (columns : List BlockColumn) (cs : List Combination) (groups : List (List Combination)) → AreGroupsBy columns cs groups → AllByRecursion P cs → AllByRecursion (AllByRecursion P) groups
  each_group [] cs groups (all, same, is) h = subst (AllByRecursion (AllByRecursion P)) (sym is) (all_arranged P cs all (reordered cs all same) h, tt)
  each_group (column ∷ others) cs groups are h = each_joined groups (all_arranged P cs (joined groups) (reordered cs (joined groups) are.all) h)

pub rows_shaped : (context : Context) (b : Block) (shapes : List Shape) (groups : List (List Combination))
    → ((group : List Combination) → AllByRecursion (IsTypedCombination context.database b) group → AllByRecursion (HasShapes shapes) (rows_in (short_row context b group)))
    → AllByRecursion (AllByRecursion (IsTypedCombination context.database b)) groups → AllByRecursion (HasShapes shapes) (group_rows context b groups)
rows_shaped context b shapes [] has h = tt
rows_shaped context b shapes (g ∷ gs) has h = all_joined (HasShapes shapes) (rows_in (short_row context b g)) (group_rows context b gs) (has g h.0) (rows_shaped context b shapes gs has h.1)

-- ---- what is told

in_any_order : (keys : List OrderKey) (printed : List Row) → is_empty keys ≡ true → IsSorted (row_order keys) printed
in_any_order [] printed e = λ k d low high. refl
in_any_order (key ∷ keys) printed e = absurd (true≢false (sym e))

module _ (source : BlockSource) (outer : List Combination) (inner : ℕ → List Combination → Meaning (List Row)) (all : List Composite) (ready : AreReady source outer all) (grouped : is_grouped (block_in source) ≡ true)
    (quiet : late_raises (context_with source outer inner) (block_in source) (map (combination_of source.database (block_in source)) all) ≡ []) where
  abbrev context : Context
  context = context_with source outer inner

  abbrev b : Block
  b = block_in source

  abbrev cs : List Combination
  cs = kept_of context b (map (combination_of source.database b) all)

  regular : IsRegular context b
  regular = let (blocks, around, n, formed, placed) = ready.surrounded in formed_are_regular context blocks around n b (ready.valid, placed) formed ready.answerable grouped

  rises : Rises (NotAfter cell_of (grouping_order b.groups)) cs
  rises = rw grouped at (required source outer inner all ready)

  module _ (groups : List (List Combination)) (are : AreAllGroups b.groups cs groups) where
    of_kept : AreGroupsBy b.groups (c.kept context b) groups
    of_kept = groups_are (c.kept context b) b.groups cs groups (kept_arranged source outer inner all ready) rises are

    pub group_raise_told : (raise : Raise) → Contains (group_raises context b groups) raise → MayTell source outer inner (Exception raise)
    group_raise_told raise h = (groups_tell context b groups b.order grouped (quiet_where source outer inner all ready quiet) (typed source outer inner all ready) regular of_kept).0 raise h

    pub shaped : (shapes : List Shape) × AllByRecursion (HasShapes shapes) (group_rows context b groups)
    shaped =
        let (blocks, around, n, formed, placed) = ready.surrounded in
        let (shapes, has) = grouped_rows_have_shapes context blocks around n b (ready.valid, placed) formed ready.answerable in
        (shapes, rows_shaped context b shapes groups has (each_group (IsTypedCombination context.database b) b.groups (c.kept context b) groups of_kept (typed source outer inner all ready)))

    arranged_told : (printed : List Row) → group_raises context b groups ≡ [] → IsPermutation (distinct_rows b.distinct (group_rows context b groups)) printed → IsSorted (row_order b.order) printed → MayTell source outer inner (Rows printed)
    arranged_told printed silent same sorted =
        (groups_tell context b groups b.order grouped (quiet_where source outer inner all ready quiet) (typed source outer inner all ready) regular of_kept).1 printed silent same sorted

    pub group_rows_told : (in_order : Bool) (printed : List Row) → group_raises context b groups ≡ [] → (in_order ≡ false → is_empty b.order ≡ true) → AreToldAs in_order b.distinct b.order (group_rows context b groups) printed → MayTell source outer inner (Rows printed)
    group_rows_told true printed silent empty h = arranged_told printed silent h.same h.sorted
    group_rows_told false printed silent empty h =
        arranged_told printed silent (subst (IsPermutation (distinct_rows b.distinct (group_rows context b groups))) (sym h) (IsPermutation-refl (distinct_rows b.distinct (group_rows context b groups)))) (in_any_order b.order printed (empty refl))

    -- and of the rows in any order
    pub group_bag_told : group_raises context b groups ≡ [] → Allowed (block_answer context b) [] (Rows (distinct_rows b.distinct (group_rows context b groups)))
    group_bag_told silent =
        (groups_tell context b groups [] grouped (quiet_where source outer inner all ready quiet) (typed source outer inner all ready) regular of_kept).1 (distinct_rows b.distinct (group_rows context b groups)) silent
        (IsPermutation-refl (distinct_rows b.distinct (group_rows context b groups))) (in_any_order [] (distinct_rows b.distinct (group_rows context b groups)) refl)
