-- The tables of a set, one after another.
use Rattle.std.proofs.Common.{◌≡◌, ◌∙◌, refl, sym, ap, ap₂, ℕ, suc, ◌+◌, ◌-◌, ◌<◌, ◌≤◌, List, [], ◌∷◌, true, false, arith}
use Rattle.std.specs.Prelude.{filter, fold}
use Rattle.std.specs.List.{range_with_len}
use Rattle.definitions.specs.Table.{Table, Database}
use Rattle.definitions.specs.Statistics.{row_width}
use Rattle.definitions.specs.Plans.TableSet.{TableSet, with_table}
use Rattle.definitions.specs.Queries.BoundBlock.{Block}
use Rattle.definitions.specs.Estimates.BlockTables.{statistic_at, has}
use Rattle.definitions.specs.Estimates.Cardinality.{joined_with, taking}

-- those from one on, of so many
abbrev pub members_from : TableSet → ℕ → ℕ → List ℕ
members_from tables table count = filter (has tables) (range_with_len table (count - table))

-- the bytes of a row of further tables, too
abbrev pub width_from : Database → Block → ℕ → List ℕ → ℕ
width_from db block bytes tables = fold (λ a t. a + statistic_at db block (λ (t : Table). row_width t.columns) t) bytes tables

next_table : (table count : ℕ) → table < count → range_with_len table (count - table) ≡ table ∷ range_with_len (table + 1) (count - (table + 1))
next_table table count h = let e : count - table ≡ suc (count - (table + 1)) = omega arith in ap (range_with_len table) e

pub one_kept : (tables : TableSet) (table : ℕ) (rest : List ℕ) → has tables table ≡ true → filter (has tables) (table ∷ rest) ≡ table ∷ filter (has tables) rest
one_kept tables table rest h = rw h refl

pub one_left_out : (tables : TableSet) (table : ℕ) (rest : List ℕ) → has tables table ≡ false → filter (has tables) (table ∷ rest) ≡ filter (has tables) rest
one_left_out tables table rest h = rw h refl

pub next_member : (tables : TableSet) (table count : ℕ) → table < count → has tables table ≡ true → members_from tables table count ≡ table ∷ members_from tables (table + 1) count
next_member tables table count h b = ap (filter (has tables)) (next_table table count h) ∙ one_kept tables table (range_with_len (table + 1) (count - (table + 1))) b

pub no_member : (tables : TableSet) (table count : ℕ) → table < count → has tables table ≡ false → members_from tables table count ≡ members_from tables (table + 1) count
no_member tables table count h b = ap (filter (has tables)) (next_table table count h) ∙ one_left_out tables table (range_with_len (table + 1) (count - (table + 1))) b

pub no_more_members : (tables : TableSet) (table count : ℕ) → count ≤ table → members_from tables table count ≡ []
no_more_members tables table count h = let e : count - table ≡ 0 = omega arith in ap (λ n. filter (has tables) (range_with_len table n)) e

pub all_members : (tables : TableSet) (count all : ℕ) → count ≡ all → members_from tables 0 count ≡ filter (has tables) (range_with_len 0 all)
all_members tables count all h = let e : count - 0 ≡ all = omega arith in ap (λ n. filter (has tables) (range_with_len 0 n)) e

-- ---- the rows and the width of a set of tables, one after another

module _ (db : Database) (block : Block) (tables : TableSet) (table count : ℕ) (h : table < count) where
  pub next_joined : (taken new : TableSet) (rows joined : ℕ) → has tables table ≡ true → new ≡ with_table taken table → joined ≡ joined_with db block taken rows table
      → taking db block new joined (members_from tables (table + 1) count) ≡ taking db block taken rows (members_from tables table count)
  next_joined taken new rows joined b e f =
      ap₂ (λ t r. taking db block t r (members_from tables (table + 1) count)) e f ∙ ap (taking db block taken rows) (sym (next_member tables table count h b))

  pub same_joined : (taken : TableSet) (rows : ℕ) → has tables table ≡ false → taking db block taken rows (members_from tables (table + 1) count) ≡ taking db block taken rows (members_from tables table count)
  same_joined taken rows b = ap (taking db block taken rows) (sym (no_member tables table count h b))

  pub next_width : (width own : ℕ) → has tables table ≡ true → own ≡ statistic_at db block (λ (t : Table). row_width t.columns) table
      → width_from db block (width + own) (members_from tables (table + 1) count) ≡ width_from db block width (members_from tables table count)
  next_width width own b e =
      ap (λ n. width_from db block (width + n) (members_from tables (table + 1) count)) e ∙ ap (width_from db block width) (sym (next_member tables table count h b))

  pub same_width : (width : ℕ) → has tables table ≡ false → width_from db block width (members_from tables (table + 1) count) ≡ width_from db block width (members_from tables table count)
  same_width width b = ap (width_from db block width) (sym (no_member tables table count h b))
