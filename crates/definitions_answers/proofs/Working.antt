-- Early conjuncts ask for no inner block, so what passes, and what a plan opens, go by nothing else.
use Rattle.std.proofs.Common.{sym, ap, ap₂, ◌∙◌, ◌≡◌, ℕ, ◌+◌, inl, inr, List, [], ◌∷◌, length, filter, slice_get, Bool, true, false, ◌||◌, ◌&&◌, not, cond, Option, Some, None, refl, true≢false}
use Rattle.std.proofs.Math.Path.{fun_ext}
use Rattle.std.specs.Prelude.{set, nat_lt, sum_by, if◌then◌else◌, ◌==◌}
use Rattle.std.specs.List.{list_all, list_any, range_with_len, AllByRecursion}
use Rattle.definitions.specs.Value.{Value}
use Rattle.definitions.specs.Table.{Row, Database}
use Rattle.definitions.specs.Arithmetic.{Meaning}
use Rattle.definitions.specs.Plans.TableSet.{TableSet, no_tables}
use Rattle.definitions.specs.Plans.Order.{BlockColumn}
use Rattle.definitions.specs.Plans.Conjunct.{Conjunct}
use Rattle.definitions.specs.Plans.Path.{Path, SegmentScan, IndexScan, MatchingScan}
use Rattle.definitions.specs.Plans.Plan.{Plan, Access, Loop, Merge, Sort}
use Rattle.definitions.specs.Plans.PlanSpace.{tables_of, IsPath, IsPlan, access, loop, merge, sort}
use Rattle.definitions.specs.Plans.Space.{Space}
use Rattle.definitions.specs.Plans.Cost.{saturated}
use Rattle.definitions.specs.Queries.BoundBlock.{ValueExpr, Column, Parameter, Numeral, String, Signed, Chain, AggregateValue, Subquery, Operands, NoOperand, Operand, Condition}
use Rattle.definitions.specs.Queries.CanRaise.{Size, size, joined_size, is_division, can_raise, chain_can_raise}
use Rattle.definitions.specs.Queries.Conjuncts.{conjuncts, is_empty, is_late, tested_blocks, values_of, blocks_in, operand_blocks, condition_tables, condition_can_raise}
use Rattle.definitions.specs.Plans.TableSet as t
use Rattle.definitions.specs.Queries.Evaluation.{Combination}
use Rattle.definitions.specs.Queries.Combinations.{Context, is_surely_true}
use Rattle.definitions.specs.Estimates.BlockTables.{is_within}
use Rattle.definitions.specs.Estimates.BlockSpace.{space_of}
use Rattle.definitions_execution.specs.Lists.{In}
use Rattle.definitions_execution.specs.Fits.{Fits}
use Rattle.definitions_execution.specs.Stored.{Composite, Stored, rows_along}
use Rattle.definitions_execution.specs.Passing.{applies_to, composites, nothing, passes, passing_composites}
use Rattle.definitions_execution.specs.Running.{run, work}
use Rattle.definitions_execution.specs.OfBlock.{combination_of, is_true_at, stored_of}
use Rattle.definitions_execution.proofs.BlockFits.{condition_of, fits}
use Rattle.definitions_execution.proofs.Locality.{neither}
use Rattle.definitions_answers.specs.Parameters.{parameters_in}
use Rattle.definitions_answers.specs.Laws.{PassingAsksNoInnerBlock, WorkAsksNoInnerBlock}
use Rattle.definitions_answers.proofs.Elements.{all_joined, all_always, all_weaker, list_all_alike}
use Rattle.definitions_answers.proofs.Sight.{SameColumn}
use Rattle.definitions_answers.proofs.BlockSight.{SameInner, SameValue, SameTruth, same_value, same_truth, passing_same}

-- ---- early conjuncts

module _ (P : ℕ → Type 0) where
  mutual
    none_in : (e : ValueExpr) → can_raise e ≡ false → AllByRecursion P (blocks_in e)
    none_in (Column column type) h = tt
    none_in (Parameter between column type) h = tt
    none_in (Numeral units digits scale) h = tt
    none_in (String codes) h = tt
    none_in (Signed minus operand) h = none_in operand h
    none_in (Chain first others) h =
        let w = neither (can_raise first) (chain_can_raise (size first) others) h in
        all_joined P (blocks_in first) (operand_blocks others) (none_in first w.0) (none_in_operands (size first) others w.1)
    none_in (AggregateValue number type) h = absurd (true≢false h)
    none_in (Subquery block type) h = absurd (true≢false h)

    none_in_operands : (left : Size) (others : Operands) → chain_can_raise left others ≡ false → AllByRecursion P (operand_blocks others)
    none_in_operands left NoOperand h = tt
    none_in_operands left (Operand operator operand others) h =
        let big : Bool = nat_lt 38 (joined_size operator left (size operand)).digits in
        let w = neither (is_division operator || can_raise operand || big) (chain_can_raise (joined_size operator left (size operand)) others) h in
        let w' = neither (is_division operator || can_raise operand) big w.0 in
        let w'' = neither (is_division operator) (can_raise operand) w'.0 in
        all_joined P (blocks_in operand) (operand_blocks others) (none_in operand w''.1) (none_in_operands (joined_size operator left (size operand)) others w.1)

no_elements : {X : Type 0} → (P : X → Type 0) (xs : List X) → not (is_empty xs) ≡ false → AllByRecursion P xs
no_elements P [] h = tt
no_elements P (x ∷ xs) h = absurd (true≢false h)

module _ (db : Database) (outer : List Combination) (inner inner' : ℕ → List Combination → Meaning (List Row)) where
  abbrev SameV : ValueExpr → Type 0
  SameV = SameValue db outer outer inner inner'

  values_same : (es : List ValueExpr) → list_any can_raise es ≡ false → AllByRecursion SameV es
  values_same [] h = tt
  values_same (e ∷ es) h =
      let w = neither (can_raise e) (list_any can_raise es) h in
      (same_value db outer outer inner inner' e (all_always (SameColumn outer outer) (λ c. refl) (parameters_in e)) (none_in (SameInner db outer outer inner inner') e w.0), values_same es w.1)

  early_same : (d : Condition) → is_late d ≡ false → SameTruth db outer outer inner inner' d
  early_same d h =
      let w = neither (condition_can_raise d) (condition_tables d == t.no_tables) h in
      let v = neither (not (is_empty (tested_blocks d))) (list_any can_raise (values_of d)) w.0 in
      same_truth db outer outer inner inner' d (values_same (values_of d) v.1) (no_elements (SameInner db outer outer inner inner') (tested_blocks d) v.0)

  by_late : (d : Condition) (late : Bool) (ds : List Condition) → is_late d ≡ late → AllByRecursion (SameTruth db outer outer inner inner') ds → AllByRecursion (SameTruth db outer outer inner inner') (cond (not late) (d ∷ ds) ds)
  by_late d true ds e h = h
  by_late d false ds e h = (early_same d e, h)

  early_all : (ds : List Condition) → AllByRecursion (SameTruth db outer outer inner inner') (filter (λ d. not (is_late d)) ds)
  early_all [] = tt
  early_all (d ∷ ds) = by_late d (is_late d) (filter (λ d. not (is_late d)) ds) refl (early_all ds)

-- ---- the work of a plan

all_in : {X : Type 0} → (P : X → Type 0) (xs : List X) → ((x : X) → In x xs → P x) → AllByRecursion P xs
all_in P [] f = tt
all_in P (x ∷ xs) f = (f x (inl refl), all_in P xs (λ y i. f y (inr i)))

module _ (space : Space) (row_count : ℕ → ℕ) (value_in : BlockColumn → ℕ → Value) (index_rows : ℕ → ℕ → List ℕ) (holds holds' : ℕ → Composite → Bool) where
  abbrev here : Stored
  here = record { row_count = row_count; value_in = value_in; index_rows = index_rows; holds = holds }

  abbrev there : Stored
  there = record { row_count = row_count; value_in = value_in; index_rows = index_rows; holds = holds' }

  abbrev AgreeOn : ℕ → Type 0
  AgreeOn number = (composite : Composite) → holds number composite ≡ holds' number composite

  module _ (agree : (number : ℕ) (conjunct : Conjunct) → slice_get space.conjuncts number ≡ Some conjunct → conjunct.early ≡ true → AgreeOn number) (v : Fits space here) where
    by_within : (w : Bool) (a b : Bool) → a ≡ b → (if w then a else true) ≡ (if w then b else true)
    by_within true a b e = e
    by_within false a b e = refl

    by_early : (number : ℕ) (composite : Composite) (conjunct : Conjunct) (w : Bool) → slice_get space.conjuncts number ≡ Some conjunct → (early : Bool) → conjunct.early ≡ early
        → (if early && w then holds number composite else true) ≡ (if early && w then holds' number composite else true)
    by_early number composite conjunct w e true is = by_within w (holds number composite) (holds' number composite) (agree number conjunct e is composite)
    by_early number composite conjunct w e false is = refl

    at_option : (tables : TableSet) (number : ℕ) (composite : Composite) (o : Option Conjunct) → slice_get space.conjuncts number ≡ o
        → (if applies_to tables o then holds number composite else true) ≡ (if applies_to tables o then holds' number composite else true)
    at_option tables number composite None e = refl
    at_option tables number composite (Some conjunct) e = by_early number composite conjunct (is_within conjunct.tables tables) e conjunct.early refl

    passes_same : (tables : TableSet) → passes space here tables ≡ passes space there tables
    passes_same tables = fun_ext (λ composite. ap (λ f. list_all f (range_with_len 0 (length space.conjuncts))) (fun_ext (λ number. at_option tables number composite (slice_get space.conjuncts number) refl)))

    passing_alike : (tables : TableSet) → passing_composites space here tables ≡ passing_composites space there tables
    passing_alike tables = ap (λ p. filter p (composites space here tables)) (passes_same tables)

    matched_same : (tables : TableSet) (table index : ℕ) (numbers : List ℕ) (backward : Bool) → IsPath space tables (MatchingScan table index numbers backward) → AllByRecursion AgreeOn numbers
    matched_same tables table index numbers backward path =
        all_in AgreeOn numbers (λ number i. let (conjunct, e, early, within) = v.matches tables table index numbers backward path number i in agree number conjunct e early)

    run_same : (tables : TableSet) (path : Path) → IsPath space tables path → run here path ≡ run there path
    run_same tables (SegmentScan table) is = refl
    run_same tables (IndexScan table index backward) is = refl
    run_same tables (MatchingScan table index numbers backward) is =
        fun_ext (λ composite. ap (λ p. filter p (rows_along here (MatchingScan table index numbers backward)))
        (fun_ext (λ row. list_all_alike (λ number. holds number (set composite table row)) (λ number. holds' number (set composite table row)) numbers
        (all_weaker AgreeOn (λ number. holds number (set composite table row) ≡ holds' number (set composite table row)) (λ number f. f (set composite table row)) numbers (matched_same tables table index numbers backward is)))))

    pub work_alike : (plan : Plan) → IsPlan space plan → work space here plan ≡ work space there plan
    work_alike (Access path) (access _ within is) = ap (λ r. saturated (length (r (nothing space)))) (run_same no_tables path is)
    work_alike (Loop outer path) (loop _ _ own can) =
        ap (λ w. saturated (w + sum_by (λ composite. length (run here path composite)) (passing_composites space here (tables_of space outer)))) (work_alike outer own)
        ∙ ap₂ (λ r cs. saturated (work space there outer + sum_by (λ composite. length (r composite)) cs)) (run_same (tables_of space outer) path can.1) (passing_alike (tables_of space outer))
    work_alike (Merge outer number inner) (merge _ _ _ own can) =
        let (x, y, between, has, is, satisfied, sorted) = can.1 in
        ap₂ (λ w r. saturated (w + length (r (nothing space)))) (work_alike outer own) (run_same no_tables inner.path sorted.0)
    work_alike (Sort input order) (sort _ _ own can) = work_alike input own

pub passing_asks : PassingAsksNoInnerBlock
passing_asks db outer inner inner' b = passing_same db outer outer inner inner' b (early_all db outer inner inner' (conjuncts b))

not_true : (late : Bool) → not late ≡ true → late ≡ false
not_true true e = sym e
not_true false e = refl

pub work_asks : WorkAsksNoInnerBlock
work_asks version db outer inner inner' b plan (is, whole) =
    let context : Context = record { database = db; outer = outer; inner = inner } in
    let context' : Context = record { database = db; outer = outer; inner = inner' } in
    let space : Space = space_of version db b in
    let stored : Stored = stored_of context b in
    work_alike space stored.row_count stored.value_in stored.index_rows stored.holds (stored_of context' b).holds
    (λ number conjunct e early composite.
    let (d, at, s) = condition_of context b version number conjunct e in
    let same = early_same db outer inner inner' d (not_true (is_late d) (ap (λ w. w.early) s ∙ early)) in
    ap (λ o. is_true_at context o (combination_of db b composite)) at ∙ ap is_surely_true (same [] (combination_of db b composite)) ∙ sym (ap (λ o. is_true_at context' o (combination_of db b composite)) at))
    (fits context b version) plan is
