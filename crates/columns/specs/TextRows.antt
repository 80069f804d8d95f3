-- Texts of one length in a row, and the orders that a comparison asks.
use Rattle.std.specs.Prelude.{ℕ, zero, suc, Bool, List, [], ◌∷◌, take, drop}
use Rattle.std.specs.declared.cmp.Ordering.{Ordering}
use Rattle.std.specs.declared.cmp.Ordering.TheVariants.{Less, Equal, Greater}
use Rattle.columns.specs.declared.text_word.Wanted.{Wanted}

-- so many texts of a length, one behind the other
abbrev pub texts_in : (length rows : ℕ) → List ℕ → List (List ℕ)
texts_in length zero codes = []
texts_in length (suc rows) codes = take length codes ∷ texts_in length rows (drop length codes)

-- whether an order is among those that are asked
abbrev pub is_wanted : Wanted → Ordering → Bool
is_wanted wanted Less = wanted.less
is_wanted wanted Equal = wanted.equal
is_wanted wanted Greater = wanted.greater
