-- Tables that conjuncts link to a set of tables.
use Rattle.std.specs.Prelude.{ℕ, ◌<◌, ◌≡◌, ◌↔◌, true}
use Rattle.definitions.specs.Plans.TableSet.{TableSet, Has, Lacks, with_table}
use Rattle.definitions.specs.Plans.Conjunct.{Conjunct}
use Rattle.definitions.specs.Plans.Space.{Space}
use Rattle.definitions.specs.Plans.PlanSpace.{Links}

-- tables are the table and one of the set or more, and no others
abbrev pub Connect : (tables set : TableSet) → ℕ → Type 0
Connect tables set table =
    Has tables table × ((other : ℕ) × Has set other × Has tables other)
    × ((other : ℕ) → Has tables other → Has (with_table set table) other)

-- a conjunct is early, and its tables connect the table to the set
abbrev pub LinksBy : Conjunct → TableSet → ℕ → Type 0
LinksBy conjunct set table = (conjunct.early ≡ true) × Connect conjunct.tables set table

-- the linked tables are those, among so many, that are outside the set and linked to it
abbrev pub AreLinked : Space → (count : ℕ) → (set linked : TableSet) → Type 0
AreLinked space count set linked = (table : ℕ) → Has linked table
    ↔ ((table < count) × Lacks set table × Links space set table)
