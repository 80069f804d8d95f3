-- No LOAD of a file is without an outcome.
use Rattle.std.proofs.Common.{◌≡◌, ◌∙◌, refl, sym, subst, ℕ, ◌+◌, ◌<◌, ◌≤◌, ◌⊎◌, inl, inr, List, [], ◌∷◌, ◌++◌, Result, Ok, Err, length, arith}
use Rattle.std.proofs.lemmas.List.{append-nil, append_assoc, length-append}
use Rattle.definitions.specs.Ended.{Ended, Well, Faulted}
use Rattle.definitions.specs.Limits.{most_rows}
use Rattle.definitions.specs.Refusal.{Refusal, OverLimit}
use Rattle.definitions.specs.Statement.{Name}
use Rattle.definitions.specs.Table.{Row, Table, Database}
use Rattle.definitions.specs.Change.{with_rows, changed}
use Rattle.definitions.specs.Printing.{loaded_text, refusal_text, record_refusal_text}
use Rattle.definitions.specs.Loading as f
use Rattle.definitions.specs.Loading.{Record, RecordLoads, AllLoad, LoadsUpTo}
use Rattle.definitions_execution.specs.Step as step'
use Rattle.definitions_execution.specs.Step.{Loaded}
use Rattle.std.proofs.lemmas.Bool.{cases_lt}
use Rattle.definitions.proofs.RecordsExist.{some_record}

one_more : (t : Table) (before : List Row) (records : List Record) (rows : List Row) (x : Record) (row : Row) → AllLoad t before records rows → RecordLoads t (before ++ rows) x (Ok row)
    → AllLoad t before (records ++ x ∷ []) (rows ++ row ∷ [])
one_more t before [] [] x row (f.none b) loads = f.next before x [] row [] (rw (append-nil before) at loads) (f.none (before ++ row ∷ []))
one_more t before [] (s ∷ ss) x row more loads = elim more [ ]
one_more t before (y ∷ ys) [] x row more loads = elim more [ ]
one_more t before (y ∷ ys) (s ∷ ss) x row (f.next b y' ys' s' ss' first more) loads =
    f.next before y (ys ++ x ∷ []) s (ss ++ row ∷ []) first (one_more t (before ++ s ∷ []) ys ss x row more (rw (← append_assoc before (s ∷ []) ss) at loads))

module _ (db : Database) (name : Name) (t : Table) (records : List Record)
    (none : (db' : Database) (text : List ℕ) (ended : Ended) → Loaded db name t records db' text ended → ⊥) where
  some_load : (rest front : List Record) (rows : List Row) → records ≡ front ++ rest → AllLoad t t.rows front rows → length t.rows + length rows ≤ most_rows → ⊥
  some_load [] front rows is loads few =
      none (changed (λ u. with_rows u rows) db name) (loaded_text (length rows)) Well
      (step'.loaded rows (subst (λ rs. AllLoad t t.rows rs rows) (sym (is ∙ append-nil front)) loads) few refl refl refl)
  some_load (x ∷ rest) front rows is loads few = of_room (cases_lt (length t.rows + length rows) most_rows) (λ row own.
      some_load rest (front ++ x ∷ []) (rows ++ row ∷ []) (is ∙ sym (append_assoc front (x ∷ []) rest)) (one_more t t.rows front rows x row loads own))
    where
      upto : LoadsUpTo t records rows x
      upto = record { before = front; after = rest; is = is; loads = loads }

      of_outcome : length t.rows + length rows < most_rows → ((row : Row) → RecordLoads t (t.rows ++ rows) x (Ok row) → length t.rows + length (rows ++ row ∷ []) ≤ most_rows → ⊥)
          → (o : Result Row Refusal) → RecordLoads t (t.rows ++ rows) x o → ⊥
      of_outcome room more (Ok row) own = more row own (omega (arith, room, length-append rows (row ∷ [])))
      of_outcome room more (Err r) own =
          none db (record_refusal_text r (length rows + 1)) Faulted
          (step'.refused r (length rows + 1) (record { rows = rows; faulty = x; upto = upto; room = room; fails = own; number = refl }) refl refl refl)

      of_room : (length t.rows + length rows < most_rows) ⊎ (most_rows ≤ length t.rows + length rows)
          → ((row : Row) → RecordLoads t (t.rows ++ rows) x (Ok row) → length t.rows + length (rows ++ row ∷ []) ≤ most_rows → ⊥) → ⊥
      of_room (inl room) more = some_record t (t.rows ++ rows) x (of_outcome room more)
      of_room (inr full) more =
          none db (refusal_text OverLimit) Faulted (step'.too_many (record { rows = rows; last = x; upto = upto; full = omega (arith, few, full) }) refl refl refl)

  pub no_load_without_outcome : length t.rows ≤ most_rows → ⊥
  no_load_without_outcome few = some_load records [] [] refl (f.none t.rows) (omega (arith, few))
