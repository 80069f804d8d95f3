-- What null bits keep.
use Rattle.std.specs.Prelude.{ℕ, ◌≤◌, ◌*◌, ◌/◌, ◌%◌, ◌==◌, List, Bool, length, map, slice_index_or}
use Rattle.std.specs.Int.{bit_at}
use Rattle.std.specs.List.{range_with_len}
use Rattle.columns.specs.declared.null_bits.NullBits.TheInside.{Inside}

-- the flag of a row: each word has 64, the lowest bit first
abbrev pub null_flag : List ℕ → ℕ → Bool
null_flag words row = bit_at (slice_index_or words (row / 64) 0) (row % 64) == 1

abbrev pub null_flags : Inside → List Bool
null_flags b = map (null_flag b.words.items) (range_with_len 0 b.len)

-- each row has a bit
pub record IsNullBits (b : Inside) : Type 0 where
  pub enough : b.len ≤ 64 * length b.words.items
