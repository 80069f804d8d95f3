-- One step of a block's meaning and of its total.
use Rattle.std.proofs.Common.{sym, ap, ap₂, ◌∙◌, ◌≡◌, ℕ, ◌+◌, ◌<◌, List, [], ◌∷◌, ◌++◌, map, drop, flat_map, slice_get, Option, Some, None, refl}
use Rattle.std.specs.Prelude.{sum_by, IsPermutation}
use Rattle.std.specs.List.{AllByRecursion}
use Rattle.std.proofs.lemmas.List.Sorted.{sum_by-IsPermutation}
use Rattle.definitions.specs.Table.{Database, Row}
use Rattle.definitions.specs.Arithmetic.{Meaning, Is}
use Rattle.definitions.specs.Plans.Cost.{saturated}
use Rattle.definitions.specs.Plans.Plan.{Plan}
use Rattle.definitions.specs.Queries.BoundBlock.{ValueExpr, Column, Parameter, Numeral, String, Signed, Chain, AggregateValue, Subquery, Operands, NoOperand, Operand, Condition, Aggregate, CountRows, OfValues, Item, Block, Blocks}
use Rattle.definitions.specs.Queries.Conjuncts.{tested_blocks, values_of, blocks_in, operand_blocks, blocks_of}
use Rattle.definitions.specs.Queries.Evaluation.{Combination}
use Rattle.definitions.specs.Queries.Combinations.{passing}
use Rattle.definitions.specs.Queries.Answer.{block_answer, meanings}
use Rattle.definitions.specs.Binding.Formed.{IsFormedValue, AreFormedOperands, IsTypedValue, IfCondition, IsFormedFunction, IsInside}
use Rattle.definitions.specs.Estimates.Version.{Version}
use Rattle.definitions.proofs.QueryTheory.Lemmas.{blocks_mean_by_those_behind, blocks_behind_mean_the_same}
use Rattle.definitions_execution.specs.Total.{subqueries, block_total, totals}
use Rattle.definitions_execution.proofs.Totals.{by_behind, behind_same}
use Rattle.definitions_answers.specs.Parameters.{values_of_option, tested_of_option, arguments_of, values_in_block, tested_in_block, asked_blocks, own_parameters}
use Rattle.definitions_answers.specs.Steps.{AsksBehind, FormedBlocksAskBehind, context_among, context_alone, MeaningByOneStep, PassingByOneStep, totals_at, TotalByOneStep}
use Rattle.definitions_answers.proofs.Elements.{all_first, all_joined, all_always, all_made, all_weaker}
use Rattle.definitions_answers.proofs.Sight.{SameColumn}
use Rattle.definitions_answers.proofs.BlockSight.{SameInner, SeenAlike, seen_alike, answer_seen, truths_seen, total_same, subqueries_are}
use Rattle.definitions_answers.proofs.Working.{passing_asks, work_asks}

-- ---- a formed block asks for blocks behind it

module _ (db : Database) (blocks around : Blocks) (n : ℕ) (b : Block) where
  abbrev Behind : ℕ → Type 0
  Behind j = n < j

  mutual
    asked_in : (e : ValueExpr) → IsFormedValue db blocks around n b e → AllByRecursion Behind (blocks_in e)
    asked_in (Column c type) h = tt
    asked_in (Parameter between c type) h = tt
    asked_in (Numeral units digits scale) h = tt
    asked_in (String codes) h = tt
    asked_in (Signed minus operand) h = asked_in operand h
    asked_in (Chain first others) h = all_joined Behind (blocks_in first) (operand_blocks others) (asked_in first h.0) (asked_in_operands others h.1)
    asked_in (AggregateValue number type) h = tt
    asked_in (Subquery block type) h = (h.0, tt)

    asked_in_operands : (others : Operands) → AreFormedOperands db blocks around n b others → AllByRecursion Behind (operand_blocks others)
    asked_in_operands NoOperand h = tt
    asked_in_operands (Operand operator operand others) h = all_joined Behind (blocks_in operand) (operand_blocks others) (asked_in operand h.0) (asked_in_operands others h.1)

  abbrev AreBehind : ValueExpr → Type 0
  AreBehind e = AllByRecursion Behind (blocks_in e)

  values_behind : (es : List ValueExpr) → AllByRecursion (IsTypedValue db blocks around n b) es → AllByRecursion AreBehind es
  values_behind es h = all_weaker (IsTypedValue db blocks around n b) AreBehind (λ e t. asked_in e t.0) es h

  items_behind : (items : List Item) → AllByRecursion (λ (i : Item). IsTypedValue db blocks around n b i.value) items → AllByRecursion AreBehind (map (λ (i : Item). i.value) items)
  items_behind [] h = tt
  items_behind (i ∷ items) h = (asked_in i.value h.0.0, items_behind items h.1)

  option_values : (o : Option Condition) → IfCondition db blocks around n b o → AllByRecursion AreBehind (values_of_option o)
  option_values None h = tt
  option_values (Some c) h = values_behind (values_of c) h.0

  option_tested : (o : Option Condition) → IfCondition db blocks around n b o → AllByRecursion Behind (tested_of_option o)
  option_tested None h = tt
  option_tested (Some c) h = (all_first Behind (tested_blocks c) _ (all_weaker (IsInside db blocks around n b) Behind (λ k inside. inside.0) (blocks_of c) h.2)).0

  arguments_behind : (fs : List Aggregate) → AllByRecursion (IsFormedFunction db blocks around n b) fs → AllByRecursion AreBehind (arguments_of fs)
  arguments_behind [] h = tt
  arguments_behind (CountRows ∷ fs) h = arguments_behind fs h.1
  arguments_behind (OfValues kind distinct argument ∷ fs) h = (asked_in argument h.0.0, arguments_behind fs h.1)

pub formed_ask_behind : FormedBlocksAskBehind
formed_ask_behind db blocks around n b formed =
    let P : ℕ → Type 0 = λ j. n < j in
    let Q : ValueExpr → Type 0 = λ e. AllByRecursion P (blocks_in e) in
    let values : AllByRecursion Q (values_in_block b) =
    all_joined Q (map (λ (i : Item). i.value) b.items) (values_of_option b.condition ++ (values_of_option b.having ++ arguments_of b.functions)) (items_behind db blocks around n b b.items formed.items)
    (all_joined Q (values_of_option b.condition) (values_of_option b.having ++ arguments_of b.functions) (option_values db blocks around n b b.condition formed.condition)
    (all_joined Q (values_of_option b.having) (arguments_of b.functions) (option_values db blocks around n b b.having formed.having) (arguments_behind db blocks around n b b.functions formed.functions))) in
    all_joined P (flat_map blocks_in (values_in_block b)) (tested_in_block b) (all_made P blocks_in (values_in_block b) values)
    (all_joined P (tested_of_option b.condition) (tested_of_option b.having) (option_tested db blocks around n b b.condition formed.condition) (option_tested db blocks around n b b.having formed.having))

-- ---- one step

module _ (db : Database) (blocks : Blocks) (k : ℕ) (b : Block) (outer : List Combination) (behind : AsksBehind k b) where
  abbrev own : ℕ → List Combination → Meaning (List Row)
  own = meanings db (k + 1) (drop (k + 1) blocks)

  abbrev all : ℕ → List Combination → Meaning (List Row)
  all = meanings db 0 blocks

  alike : SeenAlike db outer outer own all b
  alike =
      seen_alike db outer outer own all b (all_always (SameColumn outer outer) (λ c. refl) (own_parameters b))
      (all_weaker (λ j. k < j) (SameInner db outer outer own all) (λ j l c. ap (λ m. m (c ∷ outer)) (blocks_behind_mean_the_same db blocks k j l)) (asked_blocks b) behind)

  pub meaning_step : slice_get blocks k ≡ Some b → meanings db 0 blocks k outer ≡ block_answer (context_among db blocks outer) b
  meaning_step at = blocks_mean_by_those_behind db blocks k b outer at ∙ answer_seen db outer outer own all b alike

  pub total_step : (version : Version) (plans : List Plan) (p : Plan) → slice_get blocks k ≡ Some b → slice_get plans k ≡ Some p
      → totals version db 0 blocks plans k outer ≡ block_total version (context_among db blocks outer) b p (totals version db 0 blocks plans)
  total_step version plans p at plan =
      by_behind version db blocks plans k b p outer at plan
      ∙ total_same db outer outer own all b (truths_seen db outer outer own all b alike) version p (totals version db (k + 1) (drop (k + 1) blocks) (drop (k + 1) plans)) (totals version db 0 blocks plans)
      (all_weaker (λ j. k < j) (λ j. (c : Combination) → totals version db (k + 1) (drop (k + 1) blocks) (drop (k + 1) plans) j (c ∷ outer) ≡ totals version db 0 blocks plans j (c ∷ outer))
      (λ j l c. ap (λ m. m (c ∷ outer)) (behind_same version db blocks plans k j l)) (subqueries b) (subqueries_are (λ j. k < j) b behind))

pub meaning_by_one_step : MeaningByOneStep
meaning_by_one_step db blocks k b outer at behind = meaning_step db blocks k b outer behind at

pub passing_by_one_step : PassingByOneStep
passing_by_one_step db blocks b outer = passing_asks db outer (meanings db 0 blocks) (λ block combinations. Is []) b

pub total_by_one_step : TotalByOneStep
total_by_one_step version db blocks plans k b p outer all at plan behind within arranged =
    total_step db blocks k b outer behind version plans p at plan
    ∙ ap₂ (λ w s. saturated (w + s)) (work_asks version db outer (meanings db 0 blocks) (λ block combinations. Is []) b p within)
    (ap (sum_by (totals_at version db blocks plans b outer)) (passing_by_one_step db blocks b outer) ∙ sym (sum_by-IsPermutation (totals_at version db blocks plans b outer) (passing (context_alone db outer) b) all arranged))
