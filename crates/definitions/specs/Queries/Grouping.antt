-- Groups and set functions.
use Rattle.std.specs.Prelude.{pos, ◌+ℤ◌, max, Bool, true, false, ◌&&◌, not, List, [], ◌∷◌, if◌then◌else◌, length, map}
use Rattle.std.specs.Prelude.{filter, flat_map}
use Rattle.std.specs.List.{list_any}
use Rattle.std.specs.Ordering.{is_eq, is_lt}
use Rattle.definitions.specs.Lists.{without_repeats}
use Rattle.definitions.specs.Value.{Value, Null, Number, rank, is_null}
use Rattle.definitions.specs.Arithmetic.{Raise, Meaning, Is, Raises, judged, over, at_scale}
use Rattle.definitions.specs.Plans.Order.{BlockColumn}
use Rattle.definitions.specs.Queries.BoundBlock.{Aggregate, CountRows, OfValues}
use Rattle.definitions.specs.Statement.{SetFunction, Count, Sum, Avg, Min, Max}
use Rattle.definitions.specs.Queries.Evaluation.{Combination, cell, and_then, value}
use Rattle.definitions.specs.Queries.Combinations.{Context, at, raises_of}

-- values of equal rank are one for GROUP BY and DISTINCT (ISO/IEC 9075:1992, 3.1.3, 7.7)
abbrev pub same_value : Value → Value → Bool
same_value a b = is_eq (rank a b)

abbrev pub same_values : List Value → List Value → Bool
same_values [] [] = true
same_values (a ∷ as') (b ∷ bs) = same_value a b && same_values as' bs
same_values _ _ = false

-- ---- groups

-- an element joins the class of those that are the same
abbrev pub with_element : {X : Type 0} → (X → X → Bool) → X → List (List X) → List (List X)
with_element same x [] = (x ∷ []) ∷ []
with_element same x (class ∷ classes) =
    if list_any (same x) class then (x ∷ class) ∷ classes else class ∷ with_element same x classes

abbrev pub classes_of : {X : Type 0} → (X → X → Bool) → List X → List (List X)
classes_of same [] = []
classes_of same (x ∷ xs) = with_element same x (classes_of same xs)

-- the values of a combination in the columns of GROUP BY
abbrev pub grouping_values : List BlockColumn → Combination → List Value
grouping_values columns c = map (cell c) columns

-- the groups of combinations; without GROUP BY they are all one group, also where there are none (7.7, 7.8)
abbrev pub groups_of : List BlockColumn → List Combination → List (List Combination)
groups_of [] cs = cs ∷ []
groups_of columns cs = classes_of (λ c d. same_values (grouping_values columns c) (grouping_values columns d)) cs

-- ---- set functions

-- the exact sum of numbers, at the greatest of their scales (6.5)
abbrev pub exact_plus : Value → Value → Value
exact_plus (Number a m) (Number b n) = Number (at_scale (max m n) a m +ℤ at_scale (max m n) b n) (max m n)
exact_plus v _ = v

abbrev pub exact_sum : Value → List Value → Value
exact_sum v [] = v
exact_sum v (w ∷ ws) = exact_sum (exact_plus v w) ws

-- a sum is judged once, at its end (the bound is own)
abbrev pub judged_value : Value → Meaning Value
judged_value (Number units scale) = judged units scale
judged_value v = Is v

abbrev pub counted : {X : Type 0} → List X → Value
counted xs = Number (pos (length xs)) 0

-- the sum of values; null of none (6.5)
abbrev pub sum_value : List Value → Meaning Value
sum_value [] = Is Null
sum_value (v ∷ vs) = judged_value (exact_sum v vs)

-- the first of two values, by rank
abbrev pub lesser : Value → Value → Value
lesser a b = if is_lt (rank b a) then b else a

abbrev pub greater : Value → Value → Value
greater a b = if is_lt (rank a b) then b else a

-- one value made of many, two at a time; null of none
abbrev pub among : (Value → Value → Value) → List Value → Value
among f [] = Null
among f (v ∷ []) = v
among f (v ∷ w ∷ ws) = f v (among f (w ∷ ws))

-- a set function of values that are not null; an average is their sum divided by their count (6.5)
abbrev pub aggregate : SetFunction → List Value → Meaning Value
aggregate Count vs = Is (counted vs)
aggregate Sum vs = sum_value vs
aggregate Avg vs = and_then (λ total. over total (counted vs)) (sum_value vs)
aggregate Min vs = Is (among lesser vs)
aggregate Max vs = Is (among greater vs)

-- nulls are left out, and under DISTINCT repeats (6.5)
abbrev pub taken : Bool → List Value → List Value
taken true vs = without_repeats same_value (filter (λ v. not (is_null v)) vs)
taken false vs = filter (λ v. not (is_null v)) vs

-- the results, or where some raise, all their exceptions
abbrev pub results : {X : Type 0} → List (Meaning X) → List X
results [] = []
results (Is x ∷ ms) = x ∷ results ms
results (Raises r rs ∷ ms) = results ms

abbrev pub unless_raised : {X : Type 0} → List Raise → X → Meaning X
unless_raised [] x = Is x
unless_raised (r ∷ rs) x = Raises r rs

abbrev pub all_results : {X : Type 0} → List (Meaning X) → Meaning (List X)
all_results ms = unless_raised (flat_map raises_of ms) (results ms)

-- a set function over a group: the exceptions of its argument on the group's combinations, and only if there are none
-- its own
abbrev pub function_value : Context → List Combination → Aggregate → Meaning Value
function_value context group CountRows = Is (counted group)
function_value context group (OfValues kind distinct argument) =
    and_then (λ vs. aggregate kind (taken distinct vs)) (all_results (map (λ c. value (at context c) argument) group))
