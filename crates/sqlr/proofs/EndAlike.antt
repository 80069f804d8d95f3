-- Two runs of a script end alike.
use Rattle.std.proofs.Common.{ℕ, ◌≡◌, ◌∙◌, refl, sym, ap, ap₂, subst, List, [], ◌∷◌, ◌++◌, Option, Some, None, Result, Ok, Err, Bool, true, false, take, drop, arith, lit<}
use Rattle.std.specs.Prelude.{◌+◌, ◌^◌, ℤ, pos, ◌*ℤ◌, unwrap_or}
use Rattle.std.specs.Cmp.{int_ranked}
use Rattle.std.specs.declared.cmp.Ordering.TheVariants.{Less, Equal}
use Rattle.std.proofs.Math.Nat.{one-le-pow}
use Rattle.std.proofs.lemmas.List.{take-append-drop}
use Rattle.definitions.specs.Ended.{Ended, both_ended}
use Rattle.definitions.specs.Refusal as refusal
use Rattle.definitions.specs.Refusal.{Refusal}
use Rattle.definitions.specs.Value.{SqlType, scale_of}
use Rattle.definitions.specs.Token.{Token, TokenKind}
use Rattle.definitions.specs.Lexing.{LexFault, Lexes}
use Rattle.definitions.specs.Grammar as g
use Rattle.definitions.specs.Grammar.{Derives, BeginsNone, IsWrong, kinds}
use Rattle.definitions.specs.Limits.{most_levels}
use Rattle.definitions.specs.Statement as tree
use Rattle.definitions.specs.Statement.{Name, Select, Statement, Bound, Range, GivenStatistics as Given}
use Rattle.definitions.specs.Table.{Table, Database, KeyRange, IndexStatistics, table_named, column_numbers}
use Rattle.definitions.specs.Change as made
use Rattle.definitions.specs.Change.{bound_units, KeptAs, RangeKept, StatisticsKept, Makes, RepeatsKeys, with_index, with_index_statistics, with_table_statistics, new_table, changed, first_type}
use Rattle.definitions.specs.Faults as faulty
use Rattle.definitions.specs.Faults.{Faulty}
use Rattle.definitions.specs.Loading.{Record, AreFileRecords}
use Rattle.definitions.specs.Arithmetic.{Meaning, Is, Raises}
use Rattle.definitions.specs.Plans.Plan.{Plan}
use Rattle.definitions.specs.Queries.BoundBlock.{OrderKey, Blocks}
use Rattle.definitions.specs.Queries.Answer.{answer}
use Rattle.definitions.specs.Queries.Outcomes.{Told, Rows, Exception, Allowed, AllowedOf, names_of, order_keys, shown}
use Rattle.definitions.specs.Binding.BoundForm.{bound_form}
use Rattle.definitions_execution.specs.RunLaws.{LoadHasOneOutcome}
use Rattle.definitions_execution.specs.Step as step
use Rattle.definitions_execution.specs.Step.{Answering, State, Step, Steps, Loaded, FaultLine, AreStatements, IsAnswered, IsWorkAfter, told_ended}
use Rattle.definitions_execution.specs.RunLaws.{AnswersOnce, AreOneButForWork, AreAlike, same, faults, outcomes, plans, AllAlike, fault_lines, printed, RunsEndAlike}
use Rattle.definitions.proofs.Loading.{factor}
use Rattle.definitions.proofs.Lexing.{reads_once}
use Rattle.definitions.proofs.Grammar.{derives_once}

-- ---- which statement it is

-- CREATE and SET STATISTICS
abbrev is_change : Statement → Bool
is_change (tree.CreateTable name columns) = true
is_change (tree.CreateIndex unique table columns) = true
is_change (tree.Load name file) = false
is_change (tree.SetTableStatistics table rows pages) = true
is_change (tree.SetIndexStatistics table columns statistics) = true
is_change (tree.Query q) = false
is_change (tree.Explain q) = false

abbrev kind : Statement → ℕ
kind (tree.CreateTable name columns) = 3
kind (tree.CreateIndex unique table columns) = 3
kind (tree.Load name file) = 0
kind (tree.SetTableStatistics table rows pages) = 3
kind (tree.SetIndexStatistics table columns statistics) = 3
kind (tree.Query q) = 1
kind (tree.Explain q) = 2

no_change : (s : Statement) → is_change s ≡ true → is_change s ≡ false → ⊥
no_change s h k = let both : true ≡ false = sym h ∙ k in cc

apart : (s : Statement) (m n : ℕ) → kind s ≡ m → kind s ≡ n → (m ≡ n → ⊥) → ⊥
apart s m n h k other = other (sym h ∙ k)

repeats_change : (db : Database) (s : Statement) → RepeatsKeys db s → is_change s ≡ true
repeats_change db s (made.repeated name columns t numbers is named found again) = ap is_change is

makes_change : (db : Database) (s : Statement) (new : Database) → Makes db s new → is_change s ≡ true
makes_change db s new (made.created name columns is n) = ap is_change is
makes_change db s new (made.indexed unique name columns t numbers is named found distinct n) = ap is_change is
makes_change db s new (made.table_set name rows pages is n) = ap is_change is
makes_change db s new (made.index_set name columns given t numbers type kept is named found first statistics n) = ap is_change is

same_some : {X : Type 0} (o : Option X) (x y : X) → o ≡ Some x → o ≡ Some y → x ≡ y
same_some o x y e f = let h : Some x ≡ Some y = sym e ∙ f in cc

none_and_some : {X : Type 0} (x : X) → None ≡ Some x → ⊥
none_and_some x e = cc

-- ---- the parts of equal statements

load_is : (name name' : Name) (file file' : List ℕ) → tree.Load name file ≡ tree.Load name' file' → (name ≡ name') × (file ≡ file')
load_is name name' file file' e = (cc, cc)

same_file : (s : Statement) (name name' : Name) (file file' : List ℕ) → s ≡ tree.Load name file → s ≡ tree.Load name' file' → (name ≡ name') × (file ≡ file')
same_file s name name' file file' e f = load_is name name' file file' (sym e ∙ f)

query_parts : (q q' : Select) → tree.Query q ≡ tree.Query q' → q ≡ q'
query_parts q q' e = cc

query_is : (s : Statement) (q q' : Select) → s ≡ tree.Query q → s ≡ tree.Query q' → q ≡ q'
query_is s q q' e f = query_parts q q' (sym e ∙ f)

explain_parts : (q q' : Select) → tree.Explain q ≡ tree.Explain q' → q ≡ q'
explain_parts q q' e = cc

explain_is : (s : Statement) (q q' : Select) → s ≡ tree.Explain q → s ≡ tree.Explain q' → q ≡ q'
explain_is s q q' e f = explain_parts q q' (sym e ∙ f)

created_is : (name name' : Name) (columns columns' : List tree.ColumnDefinition) → tree.CreateTable name columns ≡ tree.CreateTable name' columns' → (name ≡ name') × (columns ≡ columns')
created_is name name' columns columns' e = (cc, cc)

indexed_is : (u u' : Bool) (name name' : Name) (columns columns' : List Name) → tree.CreateIndex u name columns ≡ tree.CreateIndex u' name' columns' → (u ≡ u') × (name ≡ name') × (columns ≡ columns')
indexed_is u u' name name' columns columns' e = (cc, cc, cc)

table_set_is : (name name' : Name) (rows rows' pages pages' : ℕ) → tree.SetTableStatistics name rows pages ≡ tree.SetTableStatistics name' rows' pages' → (name ≡ name') × (rows ≡ rows') × (pages ≡ pages')
table_set_is name name' rows rows' pages pages' e = (cc, cc, cc)

index_set_is : (name name' : Name) (columns columns' : List Name) (given given' : Given) → tree.SetIndexStatistics name columns given ≡ tree.SetIndexStatistics name' columns' given' → (name ≡ name') × (columns ≡ columns') × (given ≡ given')
index_set_is name name' columns columns' given given' e = (cc, cc, cc)

-- ---- refusals

-- a LOAD whose table is there has no fault
load_is_faultless : (db : Database) (s : Statement) (r : Refusal) (name : Name) (file : List ℕ) (t : Table) → Faulty db s r → s ≡ tree.Load name file → table_named db name ≡ Some t → ⊥
load_is_faultless db s r name file t (faulty.no_table name' file' none) is named =
    let own : name' ≡ name = (load_is name' name file' file is).0 in
    let absent : table_named db name ≡ None = rw own at none in
    none_and_some t (sym absent ∙ named)
load_is_faultless db s r name file t (faulty.table_taken n c u h) is named = cc
load_is_faultless db s r name file t (faulty.column_twice n c h) is named = cc
load_is_faultless db s r name file t (faulty.many_tables n c h) is named = cc
load_is_faultless db s r name file t (faulty.many_columns n c h) is named = cc
load_is_faultless db s r name file t (faulty.no_type n c h) is named = cc
load_is_faultless db s r name file t (faulty.many_keys n c h) is named = cc
load_is_faultless db s r name file t (faulty.two_primary n c h) is named = cc
load_is_faultless db s r name file t (faulty.index u n c x h) is named = cc
load_is_faultless db s r name file t (faulty.no_such_table n c p h) is named = cc
load_is_faultless db s r name file t (faulty.out_of_range n c p h) is named = cc
load_is_faultless db s r name file t (faulty.statistics n c v x h) is named = cc
load_is_faultless db s r name file t (faulty.query q x h) is named = cc
load_is_faultless db s r name file t (faulty.explained q x h) is named = cc

-- keys that repeat are in no unique index
never_both : (db : Database) (s : Statement) (new : Database) → RepeatsKeys db s → Makes db s new → ⊥
never_both db s new (made.repeated name columns t numbers is named found again) (made.indexed unique name' columns' t' numbers' is' named' found' distinct n) =
    let (u, e, f) = indexed_is true unique name name' columns columns' (sym is ∙ is') in
    let t_is : t ≡ t' = same_some (table_named db name') t t' (rw e at named) named' in
    let numbers_are : numbers ≡ numbers' = same_some (column_numbers t'.columns columns') numbers numbers' (rw (t_is, f) at found) found' in
    again (rw (← t_is, ← numbers_are) at (distinct (sym u)))
never_both db s new (made.repeated name columns t numbers is named found again) (made.created name' columns' is' n) = let e = sym is ∙ is' in cc
never_both db s new (made.repeated name columns t numbers is named found again) (made.table_set name' rows pages is' n) = let e = sym is ∙ is' in cc
never_both db s new (made.repeated name columns t numbers is named found again) (made.index_set name' columns' given t' numbers' type kept is' named' found' first statistics n) = let e = sym is ∙ is' in cc

-- ---- what statements make

kept_once : (type : SqlType) (b : Bound) (u v : ℤ) → KeptAs type b u → KeptAs type b v → u ≡ v
kept_once type b u v g h =
    let i : u *ℤ pos (10 ^ b.scale) ≡ bound_units b *ℤ pos (10 ^ scale_of type) = int_ranked _ _ Equal (sym (ap (λ o. unwrap_or o Less) g.1)) in
    let j : v *ℤ pos (10 ^ b.scale) ≡ bound_units b *ℤ pos (10 ^ scale_of type) = int_ranked _ _ Equal (sym (ap (λ o. unwrap_or o Less) h.1)) in
    factor u v (10 ^ b.scale) (omega (arith, one-le-pow b.scale 10 (lit< tt))) (i ∙ sym j)

range_once : (type : SqlType) (given : Option Range) (a b : Option KeyRange) → RangeKept type given a → RangeKept type given b → a ≡ b
range_once type None a b g h = g ∙ sym h
range_once type (Some r) a b (low, high, kl, kh, e) (low', high', kl', kh', e') =
    e ∙ ap₂ (λ l h. let range : KeyRange = record { low = l; high = h } in Some range) (kept_once type r.low low low' kl kl') (kept_once type r.high high high' kh kh') ∙ sym e'

statistics_once : (type : SqlType) (given : Given) (a b : IndexStatistics) → StatisticsKept type given a → StatisticsKept type given b → a ≡ b
statistics_once type given a b (range, kept, e) (range', kept', e') =
    e ∙ ap (λ r. let f : IndexStatistics = record { keys = given.keys; pages = given.pages; clustered = given.clustered; range = r } in f) (range_once type given.range range range' kept kept') ∙ sym e'

makes_once : (db : Database) (s : Statement) (a b : Database) → Makes db s a → Makes db s b → a ≡ b
makes_once db s a b (made.created name columns is n) (made.created name' columns' is' n') =
    let (e, f) = created_is name name' columns columns' (sym is ∙ is') in
    n ∙ ap₂ (λ name columns. db ++ new_table name columns ∷ []) e f ∙ sym n'
makes_once db s a b (made.created name columns is n) (made.indexed u name' columns' t numbers is' named found distinct n') = absurd (let e = sym is ∙ is' in cc)
makes_once db s a b (made.created name columns is n) (made.table_set name' rows pages is' n') = absurd (let e = sym is ∙ is' in cc)
makes_once db s a b (made.created name columns is n) (made.index_set name' columns' given t numbers type kept is' named found first statistics n') = absurd (let e = sym is ∙ is' in cc)
makes_once db s a b (made.indexed u name' columns' t numbers is' named found distinct n') (made.created name columns is n) = absurd (let e = sym is ∙ is' in cc)
makes_once db s a b (made.indexed u name columns t numbers is named found distinct n) (made.indexed u' name' columns' t' numbers' is' named' found' distinct' n') =
    let (v, e, f) = indexed_is u u' name name' columns columns' (sym is ∙ is') in
    let t_is : t ≡ t' = same_some (table_named db name') t t' (rw e at named) named' in
    let numbers_are : numbers ≡ numbers' = same_some (column_numbers t'.columns columns') numbers numbers' (rw (t_is, f) at found) found' in
    n ∙ ap₂ (λ u numbers. changed (λ t. with_index t u numbers) db name) v numbers_are ∙ ap (λ name. changed (λ t. with_index t u' numbers') db name) e ∙ sym n'
makes_once db s a b (made.indexed u name columns t numbers is named found distinct n) (made.table_set name' rows pages is' n') = absurd (let e = sym is ∙ is' in cc)
makes_once db s a b (made.indexed u name columns t numbers is named found distinct n) (made.index_set name' columns' given t' numbers' type kept is' named' found' first statistics n') = absurd (let e = sym is ∙ is' in cc)
makes_once db s a b (made.table_set name rows pages is n) (made.created name' columns is' n') = absurd (let e = sym is ∙ is' in cc)
makes_once db s a b (made.table_set name rows pages is n) (made.indexed u name' columns' t numbers is' named found distinct n') = absurd (let e = sym is ∙ is' in cc)
makes_once db s a b (made.table_set name rows pages is n) (made.table_set name' rows' pages' is' n') =
    let (e, f, h) = table_set_is name name' rows rows' pages pages' (sym is ∙ is') in
    n ∙ ap₂ (λ rows pages. changed (λ u. with_table_statistics u (record { rows = rows; pages = pages })) db name) f h ∙ ap (λ name. changed (λ u. with_table_statistics u (record { rows = rows'; pages = pages' })) db name) e ∙ sym n'
makes_once db s a b (made.table_set name rows pages is n) (made.index_set name' columns given t numbers type kept is' named found first statistics n') = absurd (let e = sym is ∙ is' in cc)
makes_once db s a b (made.index_set name columns given t numbers type kept is named found first statistics n) (made.created name' columns' is' n') = absurd (let e = sym is ∙ is' in cc)
makes_once db s a b (made.index_set name columns given t numbers type kept is named found first statistics n) (made.indexed u name' columns' t' numbers' is' named' found' distinct n') = absurd (let e = sym is ∙ is' in cc)
makes_once db s a b (made.index_set name columns given t numbers type kept is named found first statistics n) (made.table_set name' rows pages is' n') = absurd (let e = sym is ∙ is' in cc)
makes_once db s a b (made.index_set name columns given t numbers type kept is named found first statistics n) (made.index_set name' columns' given' t' numbers' type' kept' is' named' found' first' statistics' n') =
    let (e, f, h) = index_set_is name name' columns columns' given given' (sym is ∙ is') in
    let t_is : t ≡ t' = same_some (table_named db name') t t' (rw e at named) named' in
    let numbers_are : numbers ≡ numbers' = same_some (column_numbers t'.columns columns') numbers numbers' (rw (t_is, f) at found) found' in
    let type_is : type ≡ type' = same_some (first_type t'.columns columns') type type' (rw (t_is, f) at first) first' in
    let kept_is : kept ≡ kept' = statistics_once type' given' kept kept' (rw (type_is, h) at statistics) statistics' in
    n ∙ ap₂ (λ numbers kept. changed (λ u. with_index_statistics u numbers kept) db name) numbers_are kept_is ∙ ap (λ name. changed (λ u. with_index_statistics u numbers' kept') db name) e ∙ sym n'

-- ---- what queries tell

told_alike : (m : Meaning (List _)) (keys : List OrderKey) (told told' : Told) → Allowed m keys told → Allowed m keys told' → told_ended told ≡ told_ended told'
told_alike (Is bag) keys (Rows rows) (Rows rows') g h = refl
told_alike (Is bag) keys (Rows rows) (Exception r) g h = absurd h
told_alike (Is bag) keys (Exception r) told' g h = absurd g
told_alike (Raises r rs) keys (Rows rows) told' g h = absurd g
told_alike (Raises r rs) keys (Exception x) (Rows rows) g h = absurd h
told_alike (Raises r rs) keys (Exception x) (Exception y) g h = refl

-- ---- states that are one but for the work

one_state : {L : Type 0} {a b : State L} → a ≡ b → AreOneButForWork a b
one_state {L} e = (ap (λ (s : State L). s.library) e, ap (λ (s : State L). s.database) e)

through : {L : Type 0} (a b c : State L) → AreOneButForWork a b → AreOneButForWork b c → AreOneButForWork a c
through a b c g h = (g.0 ∙ h.0, g.1 ∙ h.1)

-- the work is counted anew, or stays
work_from : (db : Database) (blocks : Blocks) (plans : List Plan) (told : Told) (before after other : ℕ) → IsWorkAfter db blocks plans told before after
    → (again : ℕ) × IsWorkAfter db blocks plans told other again
work_from db blocks chosen (Rows rows) before after other counted = (after, counted)
work_from db blocks chosen (Exception raise) before after other stays = (other, refl)

-- from one of them a statement goes on as from the other
module _ {L : Type 0} (answers : Answering L) where
  reworked : (old new : State L) (work : ℕ) (s : Statement) (x : List ℕ) (e : Ended) → Step answers (record old { work = work }) s new x e → (own : State L) × AreOneButForWork own new × Step answers old s own x e
  reworked old new work s x e (step.refused r f n t d) = (old, (sym (one_state n).0, sym (one_state n).1), step.refused r f refl t d)
  reworked old new work s x e (step.repeated a k n t d) = (old, (sym (one_state n).0, sym (one_state n).1), step.repeated a k refl t d)
  reworked old new work s x e (step.made db a m n t d) = (record old { database = db }, (sym (one_state n).0, sym (one_state n).1), step.made db a m refl t d)
  reworked old new work s x e (step.no_file name file library is a given n t d) = (record old { library = library }, (sym (one_state n).0, sym (one_state n).1), step.no_file name file library is a given refl t d)
  reworked old new work s x e (step.load name file bytes library tb records db is named given are lo n) =
      (record old { library = library; database = db }, (sym (one_state n).0, sym (one_state n).1), step.load name file bytes library tb records db is named given are lo refl)
  reworked old new work s x e (step.query q after is a own n) =
      let (again, works) = work_from old.database own.blocks own.plans own.told work after old.work own.work in
      let moved : IsAnswered old.database q x old.work again e = record {
        blocks = own.blocks;
        bound = own.bound;
        plans = own.plans;
        certified = own.certified;
        told = own.told;
        allowed = own.allowed;
        printed = own.printed;
        work = works;
        ends = own.ends;
      } in
      (record old { work = again }, (sym (one_state n).0, sym (one_state n).1), step.query q again is a moved refl)
  reworked old new work s x e (step.explain q blocks is a b are n d) = (old, (sym (one_state n).0, sym (one_state n).1), step.explain q blocks is a b are refl d)

  step_moved : (old other new : State L) (s : Statement) (x : List ℕ) (e : Ended) → AreOneButForWork old other → Step answers other s new x e → (own : State L) × AreOneButForWork own new × Step answers old s own x e
  step_moved old other new s x e h this =
      let is : other ≡ record old { work = other.work } = ap₂ (λ l d. record other { library = l; database = d }) (sym h.0) (sym h.1) in
      reworked old new other.work s x e (subst (λ (o : State L). Step answers o s new x e) is this)

  steps_moved : (ss : List Statement) (old other new : State L) (x : List ℕ) (e : Ended) → AreOneButForWork old other → Steps answers other ss new x e → (own : State L) × AreOneButForWork own new × Steps answers old ss own x e
  steps_moved [] old other new x e h (n, text, ended) = (old, through old other new h (sym (one_state n).0, sym (one_state n).1), (refl, text, ended))
  steps_moved (s ∷ ss) old other new x e h (mid, own, rest, d, k, this, more, text, both) =
      let (mid', mid_is, this') = step_moved old other mid s own d h this in
      let (new', new_is, more') = steps_moved ss mid' mid new rest k mid_is more in
      (new', new_is, (mid', own, rest, d, k, this', more', text, both))

-- ---- a statement

module _ {L : Type 0} (answers : Answering L) (once : AnswersOnce answers) (load_has_one : LoadHasOneOutcome) (old : State L) where
  load_once : {a b : State L} {s : Statement} {x y : List ℕ} {e f : Ended} (name name' : Name) (file file' bytes bytes' : List ℕ) (lib lib' : L) (t t' : Table) (rs rs' : List Record) (db db' : Database)
      → s ≡ tree.Load name file → s ≡ tree.Load name' file' → table_named old.database name ≡ Some t → table_named old.database name' ≡ Some t'
      → answers old.library file (Some bytes) lib → answers old.library file' (Some bytes') lib' → AreFileRecords bytes rs → AreFileRecords bytes' rs'
      → Loaded old.database name t rs db x e → Loaded old.database name' t' rs' db' y f → a ≡ record old { library = lib; database = db } → b ≡ record old { library = lib'; database = db' }
      → AreOneButForWork a b × (e ≡ f) × AreAlike old.database s x y
  load_once {a} {b} {s} {x} {y} {e} {f} name name' file file' bytes bytes' lib lib' t t' rs rs' db db' is is' named named' ans ans' are are' lo lo' n n' =
      let (name_is, file_is) = same_file s name name' file file' is is' in
      let (some_is, lib_is) = once old.library file' (Some bytes) (Some bytes') lib lib' (rw file_is at ans) ans' in
      let bytes_are : bytes ≡ bytes' = same_some (Some bytes) bytes bytes' refl some_is in
      let t_is : t ≡ t' = same_some (table_named old.database name') t t' (rw name_is at named) named' in
      let one : Loaded old.database name' t' rs db x e = rw (name_is, t_is) at lo in
      let (db_is, text_is, ended_is) = load_has_one old.database name' t' bytes' rs rs' db db' x y e f (rw bytes_are at are) are' one lo' in
      (one_state (n ∙ ap₂ (λ l d. record old { library = l; database = d }) lib_is db_is ∙ sym n'), ended_is, same text_is)

  step_once : (a b : State L) (s : Statement) (x y : List ℕ) (e f : Ended) → Step answers old s a x e → Step answers old s b y f → AreOneButForWork a b × (e ≡ f) × AreAlike old.database s x y
  step_once a b s x y first second (step.refused r fa n t e) (step.refused r' fa' n' t' e') = (one_state (n ∙ sym n'), e ∙ sym e', faults r r' fa fa' t t')
  step_once a b s x y first second (step.refused r fa n t e) (step.repeated ac' rep' n' t' e') = absurd (ac' r fa)
  step_once a b s x y first second (step.refused r fa n t e) (step.made db' ac' mk' n' t' e') = absurd (ac' r fa)
  step_once a b s x y first second (step.refused r fa n t e) (step.no_file name' file' lib' is' ac' ans' n' t' e') = absurd (ac' r fa)
  step_once a b s x y first second (step.refused r fa n t e) (step.load name' file' bytes' lib' tb' rs' db' is' named' ans' are' lo' n') = absurd (load_is_faultless old.database s r name' file' tb' fa is' named')
  step_once a b s x y first second (step.refused r fa n t e) (step.query q' work' is' ac' own' n') = absurd (ac' r fa)
  step_once a b s x y first second (step.refused r fa n t e) (step.explain q' blocks' is' ac' bs' ares' n' e') = absurd (ac' r fa)
  step_once a b s x y first second (step.repeated ac rep n t e) (step.refused r' fa' n' t' e') = absurd (ac r' fa')
  step_once a b s x y first second (step.repeated ac rep n t e) (step.repeated ac' rep' n' t' e') = (one_state (n ∙ sym n'), e ∙ sym e', same (t ∙ sym t'))
  step_once a b s x y first second (step.repeated ac rep n t e) (step.made db' ac' mk' n' t' e') = absurd (never_both old.database s db' rep mk')
  step_once a b s x y first second (step.repeated ac rep n t e) (step.no_file name' file' lib' is' ac' ans' n' t' e') = absurd (no_change s (repeats_change old.database s rep) (ap is_change is'))
  step_once a b s x y first second (step.repeated ac rep n t e) (step.load name' file' bytes' lib' tb' rs' db' is' named' ans' are' lo' n') = absurd (no_change s (repeats_change old.database s rep) (ap is_change is'))
  step_once a b s x y first second (step.repeated ac rep n t e) (step.query q' work' is' ac' own' n') = absurd (no_change s (repeats_change old.database s rep) (ap is_change is'))
  step_once a b s x y first second (step.repeated ac rep n t e) (step.explain q' blocks' is' ac' bs' ares' n' e') = absurd (no_change s (repeats_change old.database s rep) (ap is_change is'))
  step_once a b s x y first second (step.made db ac mk n t e) (step.refused r' fa' n' t' e') = absurd (ac r' fa')
  step_once a b s x y first second (step.made db ac mk n t e) (step.repeated ac' rep' n' t' e') = absurd (never_both old.database s db rep' mk)
  step_once a b s x y first second (step.made db ac mk n t e) (step.made db' ac' mk' n' t' e') = (one_state (n ∙ ap (λ d. record old { database = d }) (makes_once old.database s db db' mk mk') ∙ sym n'), e ∙ sym e', same (t ∙ sym t'))
  step_once a b s x y first second (step.made db ac mk n t e) (step.no_file name' file' lib' is' ac' ans' n' t' e') = absurd (no_change s (makes_change old.database s db mk) (ap is_change is'))
  step_once a b s x y first second (step.made db ac mk n t e) (step.load name' file' bytes' lib' tb' rs' db' is' named' ans' are' lo' n') = absurd (no_change s (makes_change old.database s db mk) (ap is_change is'))
  step_once a b s x y first second (step.made db ac mk n t e) (step.query q' work' is' ac' own' n') = absurd (no_change s (makes_change old.database s db mk) (ap is_change is'))
  step_once a b s x y first second (step.made db ac mk n t e) (step.explain q' blocks' is' ac' bs' ares' n' e') = absurd (no_change s (makes_change old.database s db mk) (ap is_change is'))
  step_once a b s x y first second (step.no_file name file lib is ac ans n t e) (step.refused r' fa' n' t' e') = absurd (ac r' fa')
  step_once a b s x y first second (step.no_file name file lib is ac ans n t e) (step.repeated ac' rep' n' t' e') = absurd (no_change s (repeats_change old.database s rep') (ap is_change is))
  step_once a b s x y first second (step.no_file name file lib is ac ans n t e) (step.made db' ac' mk' n' t' e') = absurd (no_change s (makes_change old.database s db' mk') (ap is_change is))
  step_once a b s x y first second (step.no_file name file lib is ac ans n t e) (step.no_file name' file' lib' is' ac' ans' n' t' e') =
      let l : lib ≡ lib' = (once old.library file' None None lib lib' (rw (same_file s name name' file file' is is').1 at ans) ans').1 in
      (one_state (n ∙ ap (λ l. record old { library = l }) l ∙ sym n'), e ∙ sym e', same (t ∙ sym t'))
  step_once a b s x y first second (step.no_file name file lib is ac ans n t e) (step.load name' file' bytes' lib' tb' rs' db' is' named' ans' are' lo' n') = absurd (none_and_some bytes' (once old.library file' None (Some bytes') lib lib' (rw (same_file s name name' file file' is is').1 at ans) ans').0)
  step_once a b s x y first second (step.no_file name file lib is ac ans n t e) (step.query q' work' is' ac' own' n') = absurd (apart s 0 1 (ap kind is) (ap kind is') (λ h. omega (arith, h)))
  step_once a b s x y first second (step.no_file name file lib is ac ans n t e) (step.explain q' blocks' is' ac' bs' ares' n' e') = absurd (apart s 0 2 (ap kind is) (ap kind is') (λ h. omega (arith, h)))
  step_once a b s x y first second (step.load name file bytes lib tb rs db is named ans are lo n) (step.refused r' fa' n' t' e') = absurd (load_is_faultless old.database s r' name file tb fa' is named)
  step_once a b s x y first second (step.load name file bytes lib tb rs db is named ans are lo n) (step.repeated ac' rep' n' t' e') = absurd (no_change s (repeats_change old.database s rep') (ap is_change is))
  step_once a b s x y first second (step.load name file bytes lib tb rs db is named ans are lo n) (step.made db' ac' mk' n' t' e') = absurd (no_change s (makes_change old.database s db' mk') (ap is_change is))
  step_once a b s x y first second (step.load name file bytes lib tb rs db is named ans are lo n) (step.no_file name' file' lib' is' ac' ans' n' t' e') = absurd (none_and_some bytes (once old.library file None (Some bytes) lib' lib (rw (same_file s name' name file' file is' is).1 at ans') ans).0)
  step_once a b s x y first second (step.load name file bytes lib tb rs db is named ans are lo n) (step.load name' file' bytes' lib' tb' rs' db' is' named' ans' are' lo' n') = load_once name name' file file' bytes bytes' lib lib' tb tb' rs rs' db db' is is' named named' ans ans' are are' lo lo' n n'
  step_once a b s x y first second (step.load name file bytes lib tb rs db is named ans are lo n) (step.query q' work' is' ac' own' n') = absurd (apart s 0 1 (ap kind is) (ap kind is') (λ h. omega (arith, h)))
  step_once a b s x y first second (step.load name file bytes lib tb rs db is named ans are lo n) (step.explain q' blocks' is' ac' bs' ares' n' e') = absurd (apart s 0 2 (ap kind is) (ap kind is') (λ h. omega (arith, h)))
  step_once a b s x y first second (step.query q work is ac own n) (step.refused r' fa' n' t' e') = absurd (ac r' fa')
  step_once a b s x y first second (step.query q work is ac own n) (step.repeated ac' rep' n' t' e') = absurd (no_change s (repeats_change old.database s rep') (ap is_change is))
  step_once a b s x y first second (step.query q work is ac own n) (step.made db' ac' mk' n' t' e') = absurd (no_change s (makes_change old.database s db' mk') (ap is_change is))
  step_once a b s x y first second (step.query q work is ac own n) (step.no_file name' file' lib' is' ac' ans' n' t' e') = absurd (apart s 0 1 (ap kind is') (ap kind is) (λ h. omega (arith, h)))
  step_once a b s x y first second (step.query q work is ac own n) (step.load name' file' bytes' lib' tb' rs' db' is' named' ans' are' lo' n') = absurd (apart s 0 1 (ap kind is') (ap kind is) (λ h. omega (arith, h)))
  step_once a b s x y first second (step.query q work is ac own n) (step.query q' work' is' ac' own' n') =
      let q_is : q ≡ q' = query_is s q q' is is' in
      let blocks_are : own.blocks ≡ own'.blocks = own.bound.1 ∙ ap (bound_form old.database) q_is ∙ sym own'.bound.1 in
      let other : AllowedOf old.database own.blocks own'.told = subst (λ (bs : Blocks). AllowedOf old.database bs own'.told) (sym blocks_are) own'.allowed in (
        (ap (λ (s : State L). s.library) n ∙ sym (ap (λ (s : State L). s.library) n'), ap (λ (s : State L). s.database) n ∙ sym (ap (λ (s : State L). s.database) n')),
        own.ends ∙ told_alike (answer old.database own.blocks) (order_keys own.blocks) own.told own'.told own.allowed other ∙ sym own'.ends,
        outcomes q own.blocks own.told own'.told is own.bound own.allowed other own.printed (own'.printed ∙ ap (λ b. shown (names_of b) own'.told) (sym blocks_are)),
      )
  step_once a b s x y first second (step.query q work is ac own n) (step.explain q' blocks' is' ac' bs' ares' n' e') = absurd (apart s 1 2 (ap kind is) (ap kind is') (λ h. omega (arith, h)))
  step_once a b s x y first second (step.explain q blocks is ac bs ares n e) (step.refused r' fa' n' t' e') = absurd (ac r' fa')
  step_once a b s x y first second (step.explain q blocks is ac bs ares n e) (step.repeated ac' rep' n' t' e') = absurd (no_change s (repeats_change old.database s rep') (ap is_change is))
  step_once a b s x y first second (step.explain q blocks is ac bs ares n e) (step.made db' ac' mk' n' t' e') = absurd (no_change s (makes_change old.database s db' mk') (ap is_change is))
  step_once a b s x y first second (step.explain q blocks is ac bs ares n e) (step.no_file name' file' lib' is' ac' ans' n' t' e') = absurd (apart s 0 2 (ap kind is') (ap kind is) (λ h. omega (arith, h)))
  step_once a b s x y first second (step.explain q blocks is ac bs ares n e) (step.load name' file' bytes' lib' tb' rs' db' is' named' ans' are' lo' n') = absurd (apart s 0 2 (ap kind is') (ap kind is) (λ h. omega (arith, h)))
  step_once a b s x y first second (step.explain q blocks is ac bs ares n e) (step.query q' work' is' ac' own' n') = absurd (apart s 1 2 (ap kind is') (ap kind is) (λ h. omega (arith, h)))
  step_once a b s x y first second (step.explain q blocks is ac bs ares n e) (step.explain q' blocks' is' ac' bs' ares' n' e') =
      let q_is : q ≡ q' = explain_is s q q' is is' in
      let blocks_are : blocks ≡ blocks' = bs.1 ∙ ap (bound_form old.database) q_is ∙ sym bs'.1 in
      (one_state (n ∙ sym n'), e ∙ sym e', plans q blocks is bs ares (rw (sym blocks_are) at ares'))

-- ---- statements

module _ {L : Type 0} (answers : Answering L) (once : AnswersOnce answers) (load_has_one : LoadHasOneOutcome) where
  steps_once : (ss : List Statement) (old a b : State L) (x y : List ℕ) (e f : Ended) → Steps answers old ss a x e → Steps answers old ss b y f → AreOneButForWork a b × (e ≡ f) × AllAlike answers old ss x y
  steps_once [] old a b x y e f (new, text, ended) (new', text', ended') = (one_state (new ∙ sym new'), ended ∙ sym ended', (text, text'))
  steps_once (s ∷ ss) old a b x y e f (mid, own, rest, h, k, this, more, text, both) (mid', own', rest', h', k', this', more', text', both') =
      let (mid_is, ended_is, alike) = step_once answers once load_has_one old mid mid' s own own' h h' this this' in
      let (c, c_is, moved) = steps_moved answers ss mid mid' b rest' k' mid_is more' in
      let (new_is, rest_ended, rest_alike) = steps_once ss mid a c rest rest' k k' more moved in
      let other : Step answers old s mid' own' h = rw (sym ended_is) at this' in
      (through a c b new_is c_is, both ∙ ap₂ both_ended ended_is rest_ended ∙ sym both', (mid, mid', h, own, own', rest, rest', this, other, mid_is, alike, rest_alike, text, text'))

-- ---- scripts

ok_is_no_error : (tokens : List Token) (f : LexFault) → Ok tokens ≡ Err f → ⊥
ok_is_no_error tokens f e = cc

abbrev tokens_in : Result (List Token) LexFault → List Token
tokens_in (Ok tokens) = tokens
tokens_in (Err f) = []

tokens_once : (script : List ℕ) (a b : List Token) → Lexes script a → Lexes script b → a ≡ b
tokens_once script a b g h = ap tokens_in (reads_once script (Ok a) (Ok b) g h)

wrong_begins_none : (r : Refusal) (front : List TokenKind) → IsWrong r front → BeginsNone most_levels front
wrong_begins_none refusal.Unexpected front h = h most_levels
wrong_begins_none refusal.TooDeep front h = h.1
wrong_begins_none refusal.StrayCharacter front h = absurd h
wrong_begins_none refusal.OpenString front h = absurd h
wrong_begins_none refusal.LongLiteral front h = absurd h
wrong_begins_none refusal.LongName front h = absurd h
wrong_begins_none refusal.NameTaken front h = absurd h
wrong_begins_none refusal.NotFound front h = absurd h
wrong_begins_none refusal.OverLimit front h = absurd h
wrong_begins_none refusal.FieldCount front h = absurd h
wrong_begins_none refusal.NullOrRepeated front h = absurd h
wrong_begins_none refusal.ScaleTooGreat front h = absurd h
wrong_begins_none refusal.UnknownColumn front h = absurd h
wrong_begins_none refusal.MixedKinds front h = absurd h
wrong_begins_none refusal.MisplacedCondition front h = absurd h
wrong_begins_none refusal.MisplacedFunction front h = absurd h
wrong_begins_none refusal.UngroupedColumn front h = absurd h
wrong_begins_none refusal.UnknownKey front h = absurd h
wrong_begins_none refusal.ManyTables front h = absurd h
wrong_begins_none refusal.OverQueryLimit front h = absurd h
wrong_begins_none refusal.NoFile front h = absurd h
wrong_begins_none (refusal.Field e) front h = absurd h

-- a text with a fault has no statements
faultless : (script text : List ℕ) (ss : List Statement) → FaultLine script text → AreStatements script ss → ⊥
faultless script text ss (step.lexical fault fails is) (tokens, lexes, derives) = ok_is_no_error tokens fault (reads_once script (Ok tokens) (Err fault) lexes fails)
faultless script text ss (step.syntax tokens' r at lexes' (g.at_token r' at' place token there is wrong) is') (tokens, lexes, derives) =
    let same_tokens : tokens ≡ tokens' = tokens_once script tokens tokens' lexes lexes' in
    let own : Derives (kinds tokens') ss = rw same_tokens at derives in
    let parts : Derives (take (place + 1) (kinds tokens') ++ drop (place + 1) (kinds tokens')) ss = rw (sym (take-append-drop (place + 1) (kinds tokens'))) at own in
    wrong_begins_none r (take (place + 1) (kinds tokens')) wrong (drop (place + 1) (kinds tokens')) ss parts
faultless script text ss (step.syntax tokens' r at lexes' (g.at_end r' at' kind_is place none) is') (tokens, lexes, derives) =
    let same_tokens : tokens ≡ tokens' = tokens_once script tokens tokens' lexes lexes' in
    let own : Derives (kinds tokens') ss = rw same_tokens at derives in
    none most_levels ss own

statements_once : (script : List ℕ) (ss ts : List Statement) → AreStatements script ss → AreStatements script ts → ss ≡ ts
statements_once script ss ts (tokens, lexes, derives) (tokens', lexes', derives') =
    let same_tokens : tokens ≡ tokens' = tokens_once script tokens tokens' lexes lexes' in
    derives_once (kinds tokens') ss ts (rw same_tokens at derives) derives'

module _ {L : Type 0} (answers : Answering L) (load_has_one : LoadHasOneOutcome) where
  pub runs_end_alike : RunsEndAlike answers
  runs_end_alike once old a b script x y e f (step.fault line n ended) (step.fault line' n' ended') = (one_state (n ∙ sym n'), ended ∙ sym ended', fault_lines line line')
  runs_end_alike once old a b script x y e f (step.fault line n ended) (step.run ss are steps) = absurd (faultless script x ss line are)
  runs_end_alike once old a b script x y e f (step.run ss are steps) (step.fault line n ended) = absurd (faultless script y ss line are)
  runs_end_alike once old a b script x y e f (step.run ss are steps) (step.run ts are' steps') =
      let own : Steps answers old ss b y f = rw (sym (statements_once script ss ts are are')) at steps' in
      let (new_is, ended_is, alike) = steps_once answers once load_has_one ss old a b x y e f steps own in
      (new_is, ended_is, printed ss are alike)
