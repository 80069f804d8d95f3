-- The conjuncts that match the columns of an index.
use Rattle.std.specs.Prelude.{ℕ, Bool, if◌then◌else◌, bit_or, List, [], ◌∷◌, length, map, flat_map, filter_map, Option}
use Rattle.std.specs.Prelude.{None, option_map, option_and_then, slice_get}
use Rattle.std.specs.List.{range_with_len}
use Rattle.definitions.specs.Plans.TableSet.{TableSet}
use Rattle.definitions.specs.Plans.Order.{BlockColumn}
use Rattle.definitions.specs.Queries.BoundBlock.{Condition, Block}
use Rattle.definitions.specs.Queries.Conjuncts.{conjuncts, is_late}
use Rattle.access_paths.specs.Bounds.{SargableTerm, sargable_term}

-- ---- of one column

-- a conjunct that matches a column, by its number, once the rows of some tables are known
pub record Match : Type 0 where
  pub conjunct : ℕ
  pub equals : Bool
  pub required_outer : TableSet

abbrev pub early_bound : BlockColumn → Condition → Option SargableTerm
early_bound column c = if is_late c then None else sargable_term column c

module _ (block : Block) where
  abbrev pub match_at : BlockColumn → ℕ → Option Match
  match_at column number =
      option_map (λ (b : SargableTerm).
      record { conjunct = number; equals = b.equals; required_outer = b.required_outer })
      (option_and_then (early_bound column) (slice_get (conjuncts block) number))

  -- in the order of the text
  abbrev pub column_matches : BlockColumn → List Match
  column_matches column = filter_map (match_at column) (range_with_len 0 (length (conjuncts block)))

-- ---- of columns one after another

-- conjuncts that match the first columns of an index in turn, one each; whether all say what their column equals; and
-- the tables whose rows have to be known
pub record IndexMatch : Type 0 where
  pub conjuncts : List ℕ
  pub equal : Bool
  pub required_outer : TableSet

abbrev pub only_match : Match → IndexMatch
only_match m = record { conjuncts = m.conjunct ∷ []; equal = m.equals; required_outer = m.required_outer }

abbrev pub before : Match → IndexMatch → IndexMatch
before m c =
    record {
      conjuncts = m.conjunct ∷ c.conjuncts;
      equal = c.equal;
      required_outer =
          bit_or m.required_outer c.required_outer;
    }

-- a match alone, and, where it says what its column equals, before each chain of the further columns
abbrev pub chains_from : List IndexMatch → Match → List IndexMatch
chains_from others m = only_match m ∷ (if m.equals then map (before m) others else [])

abbrev pub with_column : List IndexMatch → List Match → List IndexMatch
with_column others matches = flat_map (chains_from others) matches

-- the chains of the columns of an index
module _ (block : Block) (table : ℕ) where
  abbrev pub matches_of : ℕ → List Match
  matches_of number = column_matches block (record { table = table; number = number })

  abbrev pub index_matches : List ℕ → List IndexMatch
  index_matches [] = []
  index_matches (number ∷ numbers) = with_column (index_matches numbers) (matches_of number)
