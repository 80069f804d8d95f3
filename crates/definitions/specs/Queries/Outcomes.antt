-- What may be told of a query's answer, and how it is printed.
use Rattle.std.specs.Prelude.{ℕ, Bool, true, false, List, [], ◌∷◌, ◌++◌, map, get_or, codes, IsPermutation, IsSorted}
use Rattle.std.specs.Prelude.{Contains}
use Rattle.std.specs.Ordering.{ordering_then, ordering_reverse}
use Rattle.std.specs.declared.cmp.Ordering.{Ordering}
use Rattle.std.specs.declared.cmp.Ordering.TheVariants.{Equal}
use Rattle.definitions.specs.Value.{Null, rank}
use Rattle.definitions.specs.Table.{Row, Database}
use Rattle.definitions.specs.Arithmetic.{Raise, OutOfRange, DivisionByZero, Cardinality, Meaning, Is, Raises}
use Rattle.definitions.specs.Queries.BoundBlock.{Item, OrderKey, Blocks}
use Rattle.definitions.specs.Queries.Answer.{answer}
use Rattle.definitions.specs.Printing.{line, table_text}

-- rows in an order, or one exception
pub data Told : Type 0 where
  Rows : (rows : List Row) → Told
  Exception : (raise : Raise) → Told

abbrev pub directed : Bool → Ordering → Ordering
directed true o = ordering_reverse o
directed false o = o

-- rows by the keys of ORDER BY: the first key that tells them apart decides; nulls are first ascending and last
-- descending (13.1; the place of nulls is own)
abbrev pub row_order : List OrderKey → Row → Row → Ordering
row_order [] a b = Equal
row_order (key ∷ keys) a b =
    ordering_then (directed key.descending (rank (get_or a key.item Null) (get_or b key.item Null)))
    (row_order keys a b)

-- what may be told of an answer: one of its exceptions, or its rows, each as often as there, in an order in which the
-- keys never fall
abbrev pub Allowed : Meaning (List Row) → List OrderKey → Told → Type 0
Allowed (Is bag) keys (Rows rows) = IsPermutation bag rows × IsSorted (row_order keys) rows
Allowed (Raises r rs) keys (Exception e) = Contains (r ∷ rs) e
Allowed _ keys told = ⊥

abbrev pub order_keys : Blocks → List OrderKey
order_keys [] = []
order_keys (b ∷ bs) = b.order

abbrev pub names_of : Blocks → List (List ℕ)
names_of [] = []
names_of (b ∷ bs) = map (λ (i : Item). i.name) b.items

-- what may be told of a statement over a database
abbrev pub AllowedOf : Database → Blocks → Told → Type 0
AllowedOf db blocks told = Allowed (answer db blocks) (order_keys blocks) told

-- the SQLSTATE of an exception (22.1)
abbrev pub raise_state : Raise → List ℕ
raise_state OutOfRange = codes "22003"
raise_state DivisionByZero = codes "22012"
raise_state Cardinality = codes "21000"

-- the text that is printed: the rows under their header, or the line of the exception
abbrev pub shown : List (List ℕ) → Told → List ℕ
shown names (Rows rows) = table_text names rows
shown names (Exception raise) = line (codes "exception " ++ raise_state raise)
