-- No statement is without a step, over a library that answers each request. That there is none is refuted, since least plans and the values of
-- fields are not decided.
use Rattle.std.proofs.Common.{◌≡◌, ◌≢◌, refl, ℕ, ◌+◌, ◌*◌, ◌≤◌, ◌⊎◌, inl, inr, ℤ, List, [], ◌∷◌, ◌++◌, Option, Some, None, Bool, true, false, cond, length, map, arith}
use Rattle.std.specs.Prelude.{bytes_eq, option_map}
use Rattle.std.specs.List.{AllByRecursion}
use Rattle.definitions.specs.Ended.{Ended, Well, Faulted, both_ended}
use Rattle.definitions.specs.Limits.{most_blocks}
use Rattle.definitions.specs.Value.{SqlType, Kind, Numbers, Texts, kind_of}
use Rattle.definitions.specs.Refusal.{Refusal, NotFound, NoFile, NullOrRepeated, OverLimit, MixedKinds}
use Rattle.definitions.specs.Statement.{Name, Select, Range, Statement, CreateTable, CreateIndex, Load, SetTableStatistics, SetIndexStatistics, Query, Explain}
use Rattle.definitions.specs.Statement.{GivenStatistics as Given}
use Rattle.definitions.specs.Table.{Column, IndexStatistics, Table, Database, table_named, type_named, column_number, column_numbers}
use Rattle.definitions.specs.Key.{key_of, AreUnique}
use Rattle.definitions.specs.Change as change
use Rattle.definitions.specs.Change.{KeptAs, RangeKept, first_type, changed, new_table, with_index, with_table_statistics, with_index_statistics}
use Rattle.definitions.specs.IndexFaults as index
use Rattle.definitions.specs.IndexFaults.{ListFaulty}
use Rattle.definitions.specs.Faults as fault
use Rattle.definitions.specs.Faults.{IsAccepted}
use Rattle.definitions.specs.Invariant.{IsDatabase}
use Rattle.definitions.specs.Binding.Faults as binding
use Rattle.definitions.specs.Binding.BoundForm.{bound_form}
use Rattle.definitions.specs.Binding.Formed.{IsFormedSomewhere}
use Rattle.definitions.specs.Plans.Plan.{Plan}
use Rattle.definitions.specs.Plans.Search.{IsComplete}
use Rattle.definitions.specs.Queries.BoundBlock.{Block, Blocks}
use Rattle.definitions.specs.Queries.Answer.{answer}
use Rattle.definitions.specs.Queries.Outcomes.{Told, Rows, Exception, AllowedOf, names_of, order_keys, shown}
use Rattle.definitions.specs.Estimates.Version.{current_version}
use Rattle.definitions.specs.Estimates.BlockSpace.{space_of}
use Rattle.definitions.specs.Certificates.Explaining.{certified, certified_from, AreExplained}
use Rattle.definitions.specs.Certificates.Writing.{text_written}
use Rattle.definitions.specs.Printing.{done_text, refusal_text}
use Rattle.definitions.proofs.Changes.{valid_named}
use Rattle.definitions.proofs.PlanTheory.LeastPlans.{undecided, none_without_short_least}
use Rattle.definitions.proofs.QueryTheory.SomeOutcome.{some_outcome_is_allowed}
use Rattle.definitions.proofs.BindingTheory.AcceptedQueries.{each_block_is_formed, few_blocks}
use Rattle.definitions.proofs.EstimateTheory.Complete as space
use Rattle.definitions.proofs.EstimateTheory.FormedSpaces.{formed_has_plans}
use Rattle.definitions.proofs.CertificateTheory.PlansSpelled.{plans_are_spelled}
use Rattle.definitions_execution.specs.Total.{AreCertified, total_of}
use Rattle.definitions_execution.specs.Step as step
use Rattle.definitions_execution.specs.Step.{Answering, State, Step, Steps}
use Rattle.definitions_execution.specs.RunLaws.{AnswersAll, QueriesAreWritten, NoneWithoutStep, NoneWithoutRun}
use Rattle.definitions.proofs.RecordsExist.{file_records}
use Rattle.definitions_execution.proofs.Answered.{answered}
use Rattle.definitions_execution.proofs.ScriptReadings.{none_without_reading, scripts_are_written}
use Rattle.definitions_execution.proofs.LoadsExist.{no_load_without_outcome}
use Rattle.definitions_execution.proofs.ScriptSteps.{step_keeps_database}

-- ---- blocks

module _ (db : Database) (valid : IsDatabase db) where
  complete : (b : Block) → IsFormedSomewhere db b → IsComplete (space_of current_version db b)
  complete b (blocks, around, n, formed) = space.complete current_version db b (formed_has_plans db blocks around n b formed)

  some_plans : (blocks : Blocks) → AllByRecursion (IsFormedSomewhere db) blocks → ((plans : List Plan) → AreCertified current_version db blocks plans → ⊥) → ⊥
  some_plans [] formed none = none [] tt
  some_plans (b ∷ bs) formed none =
      none_without_short_least (space_of current_version db b) (complete b formed.0) (λ p c is words. some_plans bs formed.1 (λ ps are. none (p ∷ ps) ((c, is), are)))

  few_words : (b : Block) (words : ℕ) → IsFormedSomewhere db b → words ≤ 2 * length b.tables → words ≤ 64
  few_words b words (blocks, around, n, formed) few = let count = formed.count in omega (arith, few, count)

  some_text : (blocks : Blocks) (number : ℕ) → number + length blocks ≤ most_blocks → AllByRecursion (IsFormedSomewhere db) blocks
      → ((text : List ℕ) → AreExplained current_version (certified_from db number blocks) text → ⊥) → ⊥
  some_text [] number few formed none = none [] refl
  some_text (b ∷ bs) number few formed none =
      none_without_short_least (space_of current_version db b) (complete b formed.0) (λ p c (is_valid, exact, least) words.
      let own = text_written (certified db number b current_version) p c in
      let spelled = plans_are_spelled db number b p c own valid (omega (arith, few)) formed.0 least.0 (few_words b _ formed.0 words) exact.0 refl in
      some_text bs (number + 1) (omega (arith, few)) formed.1 (λ rest are.
      none (own ++ rest) (own, rest, (p, c, spelled, (is_valid, exact, least)), are, refl)))

-- ---- lists of columns

untyped : (cs : List Column) (name : Name) → type_named cs name ≡ None → column_number cs name ≡ None
untyped [] name e = refl
untyped (c ∷ cs) name e = of_test (bytes_eq c.name name) e (untyped cs name)
  where
    of_test : (b : Bool) → cond b (Some c.type) (type_named cs name) ≡ None → (type_named cs name ≡ None → column_number cs name ≡ None) → cond b (Some 0) (option_map (λ n. n + 1) (column_number cs name)) ≡ None
    of_test true e' rest = absurd cc
    of_test false e' rest = rw (rest e') refl

some_type : (cs : List Column) (columns : List Name) (numbers : List ℕ) → columns ≢ [] → column_numbers cs columns ≡ Some numbers → (type : SqlType) × (first_type cs columns ≡ Some type)
some_type cs [] numbers some are = absurd (some refl)
some_type cs (name ∷ names) numbers some are = of_type (type_named cs name) refl
  where
    of_type : (o : Option SqlType) → type_named cs name ≡ o → (type : SqlType) × (type_named cs name ≡ Some type)
    of_type (Some type) is = (type, is)
    of_type None is = let none : None ≡ Some numbers = rw (untyped cs name is) at are in absurd cc

some_numbers : (db : Database) (table : Name) (columns : List Name) → ((r : Refusal) → ListFaulty db table columns r → ⊥)
    → (t : Table) × (numbers : List ℕ) × (table_named db table ≡ Some t) × (column_numbers t.columns columns ≡ Some numbers)
some_numbers db table columns none = of_table (table_named db table) refl
  where
    of_numbers : (t : Table) → table_named db table ≡ Some t → (o : Option (List ℕ)) → column_numbers t.columns columns ≡ o
        → (t : Table) × (numbers : List ℕ) × (table_named db table ≡ Some t) × (column_numbers t.columns columns ≡ Some numbers)
    of_numbers t found None are = absurd (none NotFound (index.no_column t found are))
    of_numbers t found (Some numbers) are = (t, numbers, found, are)

    of_table : (o : Option Table) → table_named db table ≡ o → (t : Table) × (numbers : List ℕ) × (table_named db table ≡ Some t) × (column_numbers t.columns columns ≡ Some numbers)
    of_table None found = absurd (none NotFound (index.no_table found))
    of_table (Some t) found = of_numbers t found (column_numbers t.columns columns) refl

-- ---- statements

module _ {L : Type 0} (answers : Answering L) (all : AnswersAll answers) (old : State L) (valid : IsDatabase old.database) where
  abbrev HasNone : Statement → Type 0
  HasNone s = (new : State L) (text : List ℕ) (ended : Ended) → Step answers old s new text ended → ⊥

  accepted : (s : Statement) → HasNone s → IsAccepted old.database s
  accepted s none r faulty = none old (refusal_text r) Faulted (step.refused r faulty refl refl refl)

  some_index : (unique : Bool) (table : Name) (columns : List Name) → HasNone (CreateIndex unique table columns) → ⊥
  some_index unique table columns none =
      let (t, numbers, found, are) = some_numbers old.database table columns (λ r f. accepted (CreateIndex unique table columns) none r (fault.index unique table columns r (index.list r f))) in
      of_unique t numbers found are unique none
    where
      made : (t : Table) (numbers : List ℕ) (unique : Bool) → table_named old.database table ≡ Some t → column_numbers t.columns columns ≡ Some numbers → (unique ≡ true → AreUnique (map (key_of numbers) t.rows)) → HasNone (CreateIndex unique table columns) → ⊥
      made t numbers unique found are distinct none =
          let db = changed (λ u. with_index u unique numbers) old.database table in
          none (record old { database = db }) done_text Well
          (step.made db (accepted (CreateIndex unique table columns) none) (change.indexed unique table columns t numbers refl found are distinct refl) refl refl refl)

      of_keys : (t : Table) (numbers : List ℕ) → table_named old.database table ≡ Some t → column_numbers t.columns columns ≡ Some numbers → HasNone (CreateIndex true table columns)
          → AreUnique (map (key_of numbers) t.rows) ⊎ (AreUnique (map (key_of numbers) t.rows) → ⊥) → ⊥
      of_keys t numbers found are none (inl distinct) = made t numbers true found are (λ e. distinct) none
      of_keys t numbers found are none (inr twice) =
          none old (refusal_text NullOrRepeated) Faulted
          (step.repeated (accepted (CreateIndex true table columns) none) (change.repeated table columns t numbers refl found are twice) refl refl refl)

      of_unique : (t : Table) (numbers : List ℕ) → table_named old.database table ≡ Some t → column_numbers t.columns columns ≡ Some numbers → (unique : Bool) → HasNone (CreateIndex unique table columns) → ⊥
      of_unique t numbers found are false none = made t numbers false found are (λ e. absurd cc) none
      of_unique t numbers found are true none = undecided (AreUnique (map (key_of numbers) t.rows)) (of_keys t numbers found are none)

  some_statistics : (table : Name) (columns : List Name) (given : Given) → HasNone (SetIndexStatistics table columns given) → ⊥
  some_statistics table columns given none =
      let (t, numbers, found, are) = some_numbers old.database table columns (λ r f. no_fault r (index.list r f)) in
      let (type, typed) = some_type t.columns columns numbers (λ e. no_fault NotFound (index.list NotFound (index.empty e))) are in
      of_range t numbers type found are typed given.range refl
    where
      no_fault : (r : Refusal) → index.StatisticsFaulty old.database table columns given r → ⊥
      no_fault r f = accepted (SetIndexStatistics table columns given) none r (fault.statistics table columns given r f)

      made : (t : Table) (numbers : List ℕ) (type : SqlType) → table_named old.database table ≡ Some t → column_numbers t.columns columns ≡ Some numbers → first_type t.columns columns ≡ Some type
          → (range : _) → RangeKept type given.range range → ⊥
      made t numbers type found are typed range kept =
          let statistics : IndexStatistics = record { keys = given.keys; pages = given.pages; clustered = given.clustered; range = range } in
          let db = changed (λ u. with_index_statistics u numbers statistics) old.database table in
          none (record old { database = db }) done_text Well
          (step.made db (accepted (SetIndexStatistics table columns given) none) (change.index_set table columns given t numbers type statistics refl found are typed (range, kept, refl) refl) refl refl refl)

      of_range : (t : Table) (numbers : List ℕ) (type : SqlType) → table_named old.database table ≡ Some t → column_numbers t.columns columns ≡ Some numbers → first_type t.columns columns ≡ Some type
          → (o : Option Range) → given.range ≡ o → ⊥
      of_range t numbers type found are typed None e = made t numbers type found are typed None (rw e refl)
      of_range t numbers type found are typed (Some r) e = of_kind (kind_of type) refl
        where
          unfit : (refusal : Refusal) → index.BoundsFaulty type r refusal → ⊥
          unfit refusal f = no_fault refusal (index.bounds t type r refusal found typed e f)

          of_high : (low : ℤ) → KeptAs type r.low low → kind_of type ≡ Numbers → ((high : ℤ) × KeptAs type r.high high) ⊎ ((high : ℤ) × KeptAs type r.high high → ⊥) → ⊥
          of_high low is numbers' (inl (high, is')) = made t numbers type found are typed (Some (record { low = low; high = high })) (rw e (low, high, is, is', refl))
          of_high low is numbers' (inr never) = unfit OverLimit (index.high_unfit numbers' (λ units k. never (units, k)))

          of_low : kind_of type ≡ Numbers → ((low : ℤ) × KeptAs type r.low low) ⊎ ((low : ℤ) × KeptAs type r.low low → ⊥) → ⊥
          of_low numbers' (inl (low, is)) = undecided ((high : ℤ) × KeptAs type r.high high) (of_high low is numbers')
          of_low numbers' (inr never) = unfit OverLimit (index.low_unfit numbers' (λ units k. never (units, k)))

          of_kind : (k : Kind) → kind_of type ≡ k → ⊥
          of_kind Texts is = unfit MixedKinds (index.text is)
          of_kind Numbers is = undecided ((low : ℤ) × KeptAs type r.low low) (of_low is)

  some_load : (table : Name) (file : List ℕ) → HasNone (Load table file) → ⊥
  some_load table file none = of_answer (all old.library file)
    where
      of_table : (bytes : List ℕ) (library : L) → answers old.library file (Some bytes) library → (o : Option Table) → table_named old.database table ≡ o → ⊥
      of_table bytes library answered None found = accepted (Load table file) none NotFound (fault.no_table table file found)
      of_table bytes library answered (Some t) found =
          let (records, are) = file_records bytes in
          let few = (valid_named old.database table t valid found).rows in
          no_load_without_outcome old.database table t records (λ db text ended loaded.
          none (record old { library = library; database = db }) text ended (step.load table file bytes library t records db refl found answered are loaded refl)) few

      of_answer : (answer : Option (List ℕ)) × (new : L) × answers old.library file answer new → ⊥
      of_answer (Some bytes, library, answered) = of_table bytes library answered (table_named old.database table) refl
      of_answer (None, library, answered) =
          none (record old { library = library }) (refusal_text NoFile) Faulted (step.no_file table file library refl (accepted (Load table file) none) answered refl refl refl)

  some_answer : (q : Select) → QueriesAreWritten old.database (Query q) → HasNone (Query q) → ⊥
  some_answer q written none = some_plans old.database valid blocks (each_block_is_formed old.database q valid written bindable) (λ plans are. of_told plans are (some_outcome_is_allowed (answer old.database blocks) (order_keys blocks)))
    where
      blocks : Blocks
      blocks = bound_form old.database q

      bindable : binding.IsAcceptedQuery old.database q
      bindable r f = accepted (Query q) none r (fault.query q r f)

      of_told : (plans : List Plan) → AreCertified current_version old.database blocks plans → (told : Told) × AllowedOf old.database blocks told → ⊥
      of_told plans are (Rows rows, allowed) =
          let work = total_of current_version old.database blocks plans in
          none (record old { work = work }) (shown (names_of blocks) (Rows rows)) Well
          (step.query q work refl (accepted (Query q) none) (answered old.database q blocks (bindable, refl) plans are (Rows rows) allowed old.work work refl) refl)
      of_told plans are (Exception raise, allowed) =
          none (record old { work = old.work }) (shown (names_of blocks) (Exception raise)) Faulted
          (step.query q old.work refl (accepted (Query q) none) (answered old.database q blocks (bindable, refl) plans are (Exception raise) allowed old.work old.work refl) refl)

  some_explanation : (q : Select) → QueriesAreWritten old.database (Explain q) → HasNone (Explain q) → ⊥
  some_explanation q written none = some_text old.database valid blocks 0 (let few = few_blocks old.database q bindable in omega (arith, few)) (each_block_is_formed old.database q valid written bindable) (λ text are.
      none old text Well (step.explain q blocks refl (accepted (Explain q) none) (bindable, refl) are refl refl))
    where
      blocks : Blocks
      blocks = bound_form old.database q

      bindable : binding.IsAcceptedQuery old.database q
      bindable r f = accepted (Explain q) none r (fault.explained q r f)

  some_step : (s : Statement) → QueriesAreWritten old.database s → HasNone s → ⊥
  some_step (CreateTable name columns) written none =
      let db = old.database ++ new_table name columns ∷ [] in
      none (record old { database = db }) done_text Well (step.made db (accepted (CreateTable name columns) none) (change.created name columns refl refl) refl refl refl)
  some_step (CreateIndex unique table columns) written none = some_index unique table columns none
  some_step (Load table file) written none = some_load table file none
  some_step (SetTableStatistics table rows pages) written none =
      let db = changed (λ u. with_table_statistics u (record { rows = rows; pages = pages })) old.database table in
      none (record old { database = db }) done_text Well (step.made db (accepted (SetTableStatistics table rows pages) none) (change.table_set table rows pages refl refl) refl refl refl)
  some_step (SetIndexStatistics table columns given) written none = some_statistics table columns given none
  some_step (Query q) written none = some_answer q written none
  some_step (Explain q) written none = some_explanation q written none

pub none_without_step : {L : Type 0} (answers : Answering L) → NoneWithoutStep answers
none_without_step answers all old s valid written none = some_step answers all old valid s written none

-- ---- scripts

some_steps : {L : Type 0} (answers : Answering L) → AnswersAll answers → (statements : List Statement) (old : State L) → IsDatabase old.database → AllByRecursion (λ s. (db : Database) → QueriesAreWritten db s) statements
    → ((new : State L) (text : List ℕ) (ended : Ended) → Steps answers old statements new text ended → ⊥) → ⊥
some_steps answers all [] old valid written none = none old [] Well (refl, refl, refl)
some_steps answers all (s ∷ ss) old valid written none =
    some_step answers all old valid s (written.0 old.database) (λ mid own e this.
    some_steps answers all ss mid (step_keeps_database answers old mid s own e valid this) written.1 (λ new rest f more.
    none new (own ++ rest) (both_ended e f) (mid, own, rest, e, f, this, more, refl, refl)))

pub none_without_run : {L : Type 0} (answers : Answering L) → NoneWithoutRun answers
none_without_run answers all old script valid none =
    none_without_reading script (λ text line. none old text Faulted (step.fault line refl refl))
    (λ statements are. some_steps answers all statements old valid (scripts_are_written script statements are) (λ new text ended steps. none new text ended (step.run statements are steps)))
