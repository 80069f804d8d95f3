-- What is told where composites are taken one after another, and at their end.
use Rattle.std.proofs.Common.{◌≡◌, ◌∙◌, refl, sym, ap, subst, ℕ, List, [], ◌∷◌, ◌++◌, Bool, true, false, append_assoc, map, arith}
use Rattle.std.specs.Prelude.{get_or, not, ◌&&◌, Contains, IsPermutation, Ok, Err}
use Rattle.std.proofs.lemmas.List.Sorted.{length_permutation, IsPermutation-map, IsPermutation-refl}
use Rattle.std.specs.List.{AllByRecursion}
use Rattle.std.proofs.lemmas.Grind.{flat_map-append}
use Rattle.std.proofs.lemmas.List.{append-nil}
use Rattle.std.proofs.lemmas.List.Elements.{Contains-append_left, Contains-append_right}
use Rattle.definitions.specs.Table.{Row}
use Rattle.definitions.specs.Value.{Null, Value}
use Rattle.definitions.specs.Arithmetic as arithmetic
use Rattle.definitions.specs.Arithmetic.{Meaning, Is, Raises}
use Rattle.definitions.specs.Printing.{table_text}
use Rattle.definitions.specs.Queries.Answer.{block_answer, distinct_rows, is_grouped}
use Rattle.definitions.specs.Queries.BoundBlock.{Block, OrderKey}
use Rattle.definitions.specs.Queries.Evaluation.{Combination}
use Rattle.definitions.specs.Queries.Combinations.{Context, raises_of_late}
use Rattle.definitions.specs.Queries.Conjuncts.{late_conjuncts}
use Rattle.definitions.specs.Queries.Outcomes.{Allowed, Exception, Rows}
use Rattle.definitions_answers.specs.Plain.{kept_of, late_raises}
use Rattle.definitions_answers.specs.PlainRows.{plain_row}
use Rattle.definitions_answers.specs.Told.{values_asked, Tells}
use Rattle.definitions_answers.specs.Shapes.{HasShapes, Shape}
use Rattle.definitions_execution.specs.OfBlock.{combination_of}
use Rattle.definitions_execution.specs.Stored.{Composite}
use Rattle.filters.specs.Composites.{numbers_in}
use Rattle.filters.specs.declared.composite.Composite as code
use Rattle.filters.specs.Sources.{BlockSource, block_in, context_in}
use Rattle.result_lines.specs.Faults.{IfRaised}
use Rattle.result_lines.specs.declared.fault.AnswerFault.{AnswerFault}
use Rattle.result_lines.proofs.Faults.{raised_weaker}
use Rattle.block_answers.specs.BlockRows.{comes_in_order, comes_in_order_by, AreRowsBy, HasRowsOf, HaveTaken, MayRaiseBy, MayRaiseOn, TellsOf}
use Rattle.block_answers.specs.Groups.{AreTyped}
use Rattle.block_answers.specs.Ready.{AreReady}
use Rattle.result_rows.specs.Stores.{keeping, kind_of, printing, AreAsked, AreToldAs, Holds, StoreKind}
use Rattle.block_answers.specs.Telling.{context_with, names_of, MayTell}
use Rattle.block_answers.specs.declared.block_rows.BlockRows.{BlockRows}
use Rattle.result_rows.specs.declared.row_store.RowStore.{RowStore}
use Rattle.block_answers.proofs.Blind.{group_raises_same, group_rows_same, plain_raises_same, plain_row_same}
use Rattle.block_answers.proofs.GroupMeaning.{group_bag_told, group_raise_told, group_rows_told, shaped}
use Rattle.block_answers.proofs.Keys.{not_false}
use Rattle.block_answers.proofs.Meaning.{bag_told, column_raise_told, late_raise_told, rows_have_shapes, rows_told}
use Rattle.block_answers.proofs.Taking.{all_typed, kept_typed}

-- the next composite, as wide as the block
pub first_at : (width width' : ℕ) (composite : code.Composite) (left rest : List Composite) → width ≡ width' → left ≡ numbers_in width composite ∷ rest → left ≡ numbers_in width' composite ∷ rest
first_at width width' composite left rest same is = is ∙ ap (λ w. numbers_in w composite ∷ rest) same

pub split_later : (all done rest left : List Composite) (c : Composite) → all ≡ done ++ left → left ≡ c ∷ rest → all ≡ (done ++ c ∷ []) ++ rest
split_later all done rest left c split is = split ∙ ap (λ l. done ++ l) is ∙ sym (append_assoc done (c ∷ []) rest)

pub all_done : (all done left : List Composite) → all ≡ done ++ left → left ≡ [] → done ≡ all
all_done all done left split none = sym (split ∙ ap (λ l. done ++ l) none ∙ append-nil done)

-- a late conjunct raises on one of them
pub raised_among : (context : Context) (b : Block) (all done left rest : List Combination) (c : Combination) (raise : arithmetic.Raise) → all ≡ done ++ left → left ≡ c ∷ rest
    → Contains (raises_of_late context (late_conjuncts b) c) raise → Contains (late_raises context b all) raise
raised_among context b all done left rest c raise split is h =
    let here : List arithmetic.Raise = raises_of_late context (late_conjuncts b) c in
    let parts : late_raises context b all ≡ late_raises context b done ++ (here ++ late_raises context b rest) = ap (late_raises context b) (split ∙ ap (λ l. done ++ l) is) ∙ flat_map-append (raises_of_late context (late_conjuncts b)) done (c ∷ rest) in
    subst (λ rs. Contains rs raise) (sym parts)
    (Contains-append_right (late_raises context b done) (here ++ late_raises context b rest) raise (Contains-append_left here (late_raises context b rest) raise h))

-- what may be told with rows is told without
pub raise_is_told : (existence : Bool) (m : Meaning (List Row)) (keys : List OrderKey) (raise : arithmetic.Raise) → Allowed m keys (Exception raise) → Tells existence m (Err raise)
raise_is_told existence (Is bag) keys raise h = absurd h
raise_is_told existence (Raises r rs) keys raise h = h

-- whether there are rows hangs neither on their order nor on repeats
any_in_order : (xs ys : List Row) → IsPermutation xs ys → values_asked true xs ≡ values_asked true ys
any_in_order [] [] h = refl
any_in_order (x ∷ xs) (y ∷ ys) h = refl
any_in_order [] (y ∷ ys) h = let e = length_permutation [] (y ∷ ys) h in absurd (omega (arith, e))
any_in_order (x ∷ xs) [] h = let e = length_permutation (x ∷ xs) [] h in absurd (omega (arith, e))

any_distinct : (distinct : Bool) (rs : List Row) → values_asked true (distinct_rows distinct rs) ≡ values_asked true rs
any_distinct false rs = refl
any_distinct true [] = refl
any_distinct true (r ∷ rs) = refl

bag_is_told : (existence distinct : Bool) (m : Meaning (List Row)) (rs : List Row) → Allowed m [] (Rows (distinct_rows distinct rs)) → Tells existence m (Ok (values_asked existence (distinct_rows (not existence && distinct) rs)))
bag_is_told false distinct (Is bag) rs h = IsPermutation-map (λ (row : Row). get_or row 0 Null) bag (distinct_rows distinct rs) h.0
bag_is_told true distinct (Is bag) rs h = subst (λ vs. IsPermutation (values_asked true bag) vs) (any_in_order bag (distinct_rows distinct rs) h.0 ∙ any_distinct distinct rs) (IsPermutation-refl (values_asked true bag))
bag_is_told existence distinct (Raises r q) rs h = absurd h

module _ (source : BlockSource) (outer : List Combination) (inner : ℕ → List Combination → Meaning (List Row)) (all : List Composite) (ready : AreReady source outer all) where
  abbrev context : Context
  context = context_with source outer inner

  abbrev b : Block
  b = block_in source

  abbrev combos : List Combination
  combos = map (combination_of source.database b) all

  pub late_told : (fault : AnswerFault) → IfRaised fault (Contains (late_raises context b combos)) → IfRaised fault (λ raise. MayTell source outer inner (Exception raise))
  late_told fault h = raised_weaker fault _ _ (λ raise k. late_raise_told source outer inner all ready raise k) h

  -- the combinations that are kept, in the order in which they come
  abbrev cs : List Combination
  cs = kept_of context b combos

  module _ (quiet : late_raises context b combos ≡ []) where
    -- the block raises
    raise_by : (grouped : Bool) → is_grouped b ≡ grouped → (raise : arithmetic.Raise) → MayRaiseBy source outer grouped cs raise → MayTell source outer inner (Exception raise)
    raise_by false is raise h = column_raise_told source outer inner all ready quiet is raise (subst (λ rs. Contains rs raise) (plain_raises_same source outer inner ready.answerable cs) h)
    raise_by true is raise (groups, are, raises) = group_raise_told source outer inner all ready is quiet groups are raise (subst (λ rs. Contains rs raise) (group_raises_same source outer inner ready.answerable groups) raises)

    -- or there are rows
    plain_are : (rs : List Row) → rs ≡ map (plain_row (context_in source outer) b) cs → rs ≡ map (plain_row context b) cs
    plain_are rs are = are ∙ ap (λ f. map f cs) (plain_row_same source outer inner ready.answerable)

    shaped_by : (grouped : Bool) → is_grouped b ≡ grouped → (rs : List Row) → AreRowsBy source outer grouped cs rs → (shapes : List Shape) × AllByRecursion (HasShapes shapes) rs
    shaped_by false is rs (none, are) =
        let (shapes, has) = rows_have_shapes source outer inner all ready (sym (plain_raises_same source outer inner ready.answerable cs) ∙ none) in
        (shapes, subst (AllByRecursion (HasShapes shapes)) (sym (plain_are rs are)) has)
    shaped_by true is rs (groups, all_are, none, are) =
        let (shapes, has) = shaped source outer inner all ready is quiet groups all_are in (shapes, subst (AllByRecursion (HasShapes shapes)) (sym (are ∙ group_rows_same source outer inner ready.answerable groups)) has)

    told_by : (grouped : Bool) → is_grouped b ≡ grouped → (rs : List Row) → AreRowsBy source outer grouped cs rs → (in_order : Bool) (printed : List Row) → (in_order ≡ false → comes_in_order_by grouped b ≡ true)
        → AreToldAs in_order b.distinct b.order rs printed → MayTell source outer inner (Rows printed)
    told_by false is rs (none, are) in_order printed comes h =
        rows_told source outer inner all ready quiet is in_order printed (sym (plain_raises_same source outer inner ready.answerable cs) ∙ none) comes (subst (λ l. AreToldAs in_order b.distinct b.order l printed) (plain_are rs are) h)
    told_by true is rs (groups, all_are, none, are) in_order printed comes h =
        group_rows_told source outer inner all ready is quiet groups all_are in_order printed (sym (group_raises_same source outer inner ready.answerable groups) ∙ none) comes
        (subst (λ l. AreToldAs in_order b.distinct b.order l printed) (are ∙ group_rows_same source outer inner ready.answerable groups) h)

    bag_by : (grouped : Bool) → is_grouped b ≡ grouped → (rs : List Row) → AreRowsBy source outer grouped cs rs → Allowed (block_answer context b) [] (Rows (distinct_rows b.distinct rs))
    bag_by false is rs (none, are) =
        subst (λ l. Allowed (block_answer context b) [] (Rows (distinct_rows b.distinct l))) (sym (plain_are rs are)) (bag_told source outer inner all ready quiet is (sym (plain_raises_same source outer inner ready.answerable cs) ∙ none))
    bag_by true is rs (groups, all_are, none, are) =
        subst (λ l. Allowed (block_answer context b) [] (Rows (distinct_rows b.distinct l))) (sym (are ∙ group_rows_same source outer inner ready.answerable groups))
        (group_bag_told source outer inner all ready is quiet groups all_are (sym (group_raises_same source outer inner ready.answerable groups) ∙ none))

  -- of the rows that have taken all combinations
  module _ (told : BlockRows) (have : HaveTaken source outer inner combos told) where
    are_typed : AreTyped source outer cs
    are_typed = kept_typed source outer inner combos (all_typed source outer ready.valid all)

    pub raise_told : (fault : AnswerFault) → IfRaised fault (λ raise. (ks : List Combination) → AreTyped source outer ks → TellsOf source outer ks told → MayRaiseOn source outer ks raise) → IfRaised fault (λ raise. MayTell source outer inner (Exception raise))
    raise_told fault h = raised_weaker fault _ _ (λ raise k. raise_by have.quiet (is_grouped b) refl raise (k cs are_typed have.told)) h

    pub text_told : (store : RowStore) (keys : List OrderKey) (text : List ℕ) → ((ks : List Combination) → AreTyped source outer ks → TellsOf source outer ks told → HasRowsOf source outer ks store)
        → kind_of store ≡ printing (not (comes_in_order b)) b.distinct → keys ≡ b.order
        → ((names : List (List ℕ)) (rs : List Row) (shapes : List Shape) → Holds store names rs → AllByRecursion (HasShapes shapes) rs → (printed : List Row) × AreToldAs (kind_of store).in_order (kind_of store).distinct keys rs printed × (text ≡ table_text names printed))
        → (rows : List Row) × MayTell source outer inner (Rows rows) × (text ≡ table_text (names_of source) rows)
    text_told store keys text has kind by prints =
        let (rs, are, held) = has cs are_typed have.told in
        let (shapes, shaped') = shaped_by have.quiet (is_grouped b) refl rs are in
        let (printed, arranged, is) = prints (names_of source) rs shapes held shaped' in
        let there : AreToldAs (not (comes_in_order b)) b.distinct b.order rs printed = rw (kind, by) at arranged in
        (printed, told_by have.quiet (is_grouped b) refl rs are (not (comes_in_order b)) printed (not_false (comes_in_order b)) there, is)

    -- what is asked of the rows, in any order
    pub values_told : (existence : Bool) (store : RowStore) (values : List Value) → ((ks : List Combination) → AreTyped source outer ks → TellsOf source outer ks told → HasRowsOf source outer ks store) → kind_of store ≡ keeping existence b.distinct
        → ((names : List (List ℕ)) (rs : List Row) (shapes : List Shape) → Holds store names rs → AllByRecursion (HasShapes shapes) rs → AreAsked (kind_of store) rs values)
        → Tells existence (block_answer context b) (Ok values)
    values_told existence store values has kind gives =
        let (rs, are, held) = has cs are_typed have.told in
        let (shapes, shaped') = shaped_by have.quiet (is_grouped b) refl rs are in
        let is : values ≡ values_asked existence (distinct_rows (not existence && b.distinct) rs) = gives (names_of source) rs shapes held shaped' ∙ ap (λ (k : StoreKind). values_asked k.existence (distinct_rows k.distinct rs)) kind in
        subst (λ vs. Tells existence (block_answer context b) (Ok vs)) (sym is) (bag_is_told existence b.distinct (block_answer context b) rs (bag_by have.quiet (is_grouped b) refl rs are))
