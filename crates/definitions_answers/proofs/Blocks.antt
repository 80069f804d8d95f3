-- Of the blocks of a statement, each means what it does by its parameters, and so its total is.
use Prim.Native.Nat.{zero}
use Rattle.std.proofs.Common.{suc, sym, ap, ◌∙◌, ◌≡◌, ℕ, ◌+◌, List, [], ◌∷◌, ◌++◌, flat_map, Bool, true, false, refl}
use Rattle.std.specs.Prelude.{◌==◌, drop, get_or, if◌then◌else◌}
use Rattle.std.specs.List.{AllByRecursion}
use Rattle.definitions.specs.Table.{Row, Database}
use Rattle.definitions.specs.Arithmetic.{Meaning}
use Rattle.definitions.specs.Plans.Order.{BlockColumn}
use Rattle.definitions.specs.Plans.Plan.{Plan}
use Rattle.definitions.specs.Queries.BoundBlock.{Block, Blocks}
use Rattle.definitions.specs.Queries.Evaluation.{Combination}
use Rattle.definitions.specs.Queries.Answer.{block_answer, meanings}
use Rattle.definitions.specs.Estimates.Version.{Version}
use Rattle.definitions_execution.specs.Total.{BlockWork, block_total, totals}
use Rattle.definitions_answers.specs.Parameters.{OuterColumn, outer_value, outer_values, own_parameters, asked_blocks, one_lowered, lowered, parameters_from, parameters}
use Rattle.definitions_answers.specs.Laws.{MeaningGoesByParameters, TotalGoesByParameters, UncorrelatedMeansOne}
use Rattle.definitions_answers.proofs.Elements.{all_first, all_flat, all_weaker}
use Rattle.definitions_answers.proofs.Sight.{SameColumn}
use Rattle.definitions_answers.proofs.BlockSight.{SameInner, SeenAlike, seen_alike, answer_seen, truths_seen, total_same, subqueries_are}

-- parameters that have the same values, one by one
each_same : (cs : List OuterColumn) (outer outer' : List Combination) → outer_values outer cs ≡ outer_values outer' cs → AllByRecursion (SameColumn outer outer') cs
each_same [] outer outer' e = tt
each_same (c ∷ cs) outer outer' e = (ap (λ vs. get_or vs 0 (outer_value outer c)) e, each_same cs outer outer' (ap (drop 1) e))

-- a column of a block inside, where the block around it has the same combination
raised_column : (c : Combination) (outer outer' : List Combination) (between : ℕ) (column : BlockColumn) → AllByRecursion (SameColumn outer outer') (one_lowered between column) → SameColumn (c ∷ outer) (c ∷ outer') (record { between = between; column = column })
raised_column c outer outer' zero column h = refl
raised_column c outer outer' (suc n) column h = h.0

inside : (c : Combination) (cs : List OuterColumn) (outer outer' : List Combination) → AllByRecursion (SameColumn outer outer') (lowered cs) → AllByRecursion (SameColumn (c ∷ outer) (c ∷ outer')) cs
inside c cs outer outer' h =
    all_weaker (λ (o : OuterColumn). AllByRecursion (SameColumn outer outer') (one_lowered o.between o.column)) (SameColumn (c ∷ outer) (c ∷ outer')) (λ o k. raised_column c outer outer' o.between o.column k) cs
    (all_flat (SameColumn outer outer') (λ (o : OuterColumn). one_lowered o.between o.column) cs h)

module _ (db : Database) where
  abbrev MeansAlike : ℕ → Blocks → ℕ → Type 0
  MeansAlike number blocks k = (outer outer' : List Combination) → AllByRecursion (SameColumn outer outer') (parameters_from number blocks k) → meanings db number blocks k outer ≡ meanings db number blocks k outer'

  -- the blocks behind are alike for those around them
  behind_alike : (number : ℕ) (b : Block) (bs : Blocks) (outer outer' : List Combination) → ((j : ℕ) → MeansAlike (number + 1) bs j)
      → AllByRecursion (SameColumn outer outer') (flat_map (λ j. lowered (parameters_from (number + 1) bs j)) (asked_blocks b))
      → AllByRecursion (SameInner db outer outer' (meanings db (number + 1) bs) (meanings db (number + 1) bs)) (asked_blocks b)
  behind_alike number b bs outer outer' f h =
      all_weaker (λ j. AllByRecursion (SameColumn outer outer') (lowered (parameters_from (number + 1) bs j))) (SameInner db outer outer' (meanings db (number + 1) bs) (meanings db (number + 1) bs))
      (λ j k c. f j (c ∷ outer) (c ∷ outer') (inside c (parameters_from (number + 1) bs j) outer outer' k)) (asked_blocks b)
      (all_flat (SameColumn outer outer') (λ j. lowered (parameters_from (number + 1) bs j)) (asked_blocks b) h)

  seen : (number : ℕ) (b : Block) (bs : Blocks) (outer outer' : List Combination) → ((j : ℕ) → MeansAlike (number + 1) bs j)
      → AllByRecursion (SameColumn outer outer') (own_parameters b ++ flat_map (λ j. lowered (parameters_from (number + 1) bs j)) (asked_blocks b))
      → SeenAlike db outer outer' (meanings db (number + 1) bs) (meanings db (number + 1) bs) b
  seen number b bs outer outer' f h =
      let w = all_first (SameColumn outer outer') (own_parameters b) (flat_map (λ j. lowered (parameters_from (number + 1) bs j)) (asked_blocks b)) h in
      seen_alike db outer outer' (meanings db (number + 1) bs) (meanings db (number + 1) bs) b w.0 (behind_alike number b bs outer outer' f w.1)

  abbrev first_means : ℕ → Block → Blocks → List Combination → Meaning (List Row)
  first_means number b bs os = block_answer (record { database = db; outer = os; inner = meanings db (number + 1) bs }) b

  abbrev first_parameters : ℕ → Block → Blocks → List OuterColumn
  first_parameters number b bs = own_parameters b ++ flat_map (λ j. lowered (parameters_from (number + 1) bs j)) (asked_blocks b)

  by_number : (number : ℕ) (b : Block) (bs : Blocks) (k : ℕ) (outer outer' : List Combination) → ((j : ℕ) → MeansAlike (number + 1) bs j) → (t : Bool)
      → AllByRecursion (SameColumn outer outer') (if t then first_parameters number b bs else parameters_from (number + 1) bs k)
      → (if t then first_means number b bs else meanings db (number + 1) bs k) outer ≡ (if t then first_means number b bs else meanings db (number + 1) bs k) outer'
  by_number number b bs k outer outer' f true g = answer_seen db outer outer' (meanings db (number + 1) bs) (meanings db (number + 1) bs) b (seen number b bs outer outer' f g)
  by_number number b bs k outer outer' f false g = f k outer outer' g

  means_alike : (number : ℕ) (blocks : Blocks) (k : ℕ) → MeansAlike number blocks k
  means_alike number [] k outer outer' h = refl
  means_alike number (b ∷ bs) k outer outer' h = by_number number b bs k outer outer' (λ j. means_alike (number + 1) bs j) (k == number) h

  module _ (version : Version) where
    abbrev TotalsAlike : ℕ → Blocks → List Plan → ℕ → Type 0
    TotalsAlike number blocks plans k = (outer outer' : List Combination) → AllByRecursion (SameColumn outer outer') (parameters_from number blocks k) → totals version db number blocks plans k outer ≡ totals version db number blocks plans k outer'

    abbrev first_total : ℕ → Block → Blocks → Plan → List Plan → List Combination → ℕ
    first_total number b bs p ps os = block_total version (record { database = db; outer = os; inner = meanings db (number + 1) bs }) b p (totals version db (number + 1) bs ps)

    inner_alike : (number : ℕ) (b : Block) (bs : Blocks) (ps : List Plan) (outer outer' : List Combination) → ((j : ℕ) → TotalsAlike (number + 1) bs ps j)
        → AllByRecursion (SameColumn outer outer') (flat_map (λ j. lowered (parameters_from (number + 1) bs j)) (asked_blocks b))
        → AllByRecursion (λ j. (c : Combination) → totals version db (number + 1) bs ps j (c ∷ outer) ≡ totals version db (number + 1) bs ps j (c ∷ outer')) (asked_blocks b)
    inner_alike number b bs ps outer outer' f g =
        all_weaker (λ j. AllByRecursion (SameColumn outer outer') (lowered (parameters_from (number + 1) bs j))) (λ j. (c : Combination) → totals version db (number + 1) bs ps j (c ∷ outer) ≡ totals version db (number + 1) bs ps j (c ∷ outer'))
        (λ j k c. f j (c ∷ outer) (c ∷ outer') (inside c (parameters_from (number + 1) bs j) outer outer' k)) (asked_blocks b)
        (all_flat (SameColumn outer outer') (λ j. lowered (parameters_from (number + 1) bs j)) (asked_blocks b) g)

    total_by_number : (number : ℕ) (b : Block) (bs : Blocks) (p : Plan) (ps : List Plan) (k : ℕ) (outer outer' : List Combination) → ((j : ℕ) → TotalsAlike (number + 1) bs ps j) → (t : Bool)
        → AllByRecursion (SameColumn outer outer') (if t then first_parameters number b bs else parameters_from (number + 1) bs k)
        → (if t then first_total number b bs p ps else totals version db (number + 1) bs ps k) outer ≡ (if t then first_total number b bs p ps else totals version db (number + 1) bs ps k) outer'
    total_by_number number b bs p ps k outer outer' f true g =
        let w = all_first (SameColumn outer outer') (own_parameters b) (flat_map (λ j. lowered (parameters_from (number + 1) bs j)) (asked_blocks b)) g in
        let behind : ℕ → List Combination → Meaning (List Row) = meanings db (number + 1) bs in
        let total : ℕ → BlockWork = totals version db (number + 1) bs ps in
        total_same db outer outer' behind behind b (truths_seen db outer outer' behind behind b (seen number b bs outer outer' (λ j. means_alike (number + 1) bs j) g)) version p total total
        (subqueries_are (λ j. (c : Combination) → total j (c ∷ outer) ≡ total j (c ∷ outer')) b (inner_alike number b bs ps outer outer' f w.1))
    total_by_number number b bs p ps k outer outer' f false g = f k outer outer' g

    totals_alike : (number : ℕ) (blocks : Blocks) (plans : List Plan) (k : ℕ) → TotalsAlike number blocks plans k
    totals_alike number [] plans k outer outer' h = refl
    totals_alike number (b ∷ bs) [] k outer outer' h = refl
    totals_alike number (b ∷ bs) (p ∷ ps) k outer outer' h = total_by_number number b bs p ps k outer outer' (λ j. totals_alike (number + 1) bs ps j) (k == number) h

pub meaning_by_parameters : MeaningGoesByParameters
meaning_by_parameters db blocks k outer outer' e = means_alike db 0 blocks k outer outer' (each_same (parameters blocks k) outer outer' e)

pub total_by_parameters : TotalGoesByParameters
total_by_parameters version db blocks plans k outer outer' e = totals_alike db version 0 blocks plans k outer outer' (each_same (parameters blocks k) outer outer' e)

pub uncorrelated : UncorrelatedMeansOne
uncorrelated db blocks k outer outer' e = meaning_by_parameters db blocks k outer outer' (ap (outer_values outer) e ∙ sym (ap (outer_values outer') e))
