-- Rows across columns.
use Rattle.std.proofs.Common.{◌≡◌, ◌∙◌, refl, sym, ap, ap₂, inl, inr, ℕ, zero, suc, ◌+◌, ◌<◌, ◌≤◌, List, [], ◌∷◌, ◌++◌, length, map, take, get_or, arith}
use Rattle.std.specs.Prelude.{◌⊎◌}
use Rattle.std.specs.List.{AllByRecursion}
use Rattle.std.proofs.lemmas.Bool.{cases_lt}
use Rattle.std.proofs.lemmas.List.{length_push, length-map, get_or-map, get_or_append_left, get_or_push, map-append, take_more, take_all}
use Rattle.definitions.specs.Value.{Null}
use Rattle.loading.specs.Stored.{StoredColumn, AreFilled, headers, value_at, row_at, rows_of}

pub length-rows_of : (n : ℕ) (cs : List StoredColumn) → length (rows_of n cs) ≡ n
length-rows_of zero cs = refl
length-rows_of (suc n) cs = length_push (rows_of n cs) (row_at n cs) ∙ omega (arith, length-rows_of n cs)

last_or_earlier : (n : ℕ) (cs : List StoredColumn) (k : ℕ) → (k < n → get_or (rows_of n cs) k [] ≡ row_at k cs) → k < suc n → (k < n) ⊎ (n ≤ k) → get_or (rows_of n cs ++ row_at n cs ∷ []) k [] ≡ row_at k cs
last_or_earlier n cs k e h (inl l) = let m : k < length (rows_of n cs) = omega (arith, l, length-rows_of n cs) in get_or_append_left (rows_of n cs) (row_at n cs ∷ []) [] k m ∙ e l
last_or_earlier n cs k e h (inr l) =
    let m : k ≡ n = omega (arith, h, l) in
    rw m (get_or_push (rows_of n cs) (row_at n cs) [] n (length-rows_of n cs))

pub get_or-rows_of : (n : ℕ) (cs : List StoredColumn) (k : ℕ) → k < n → get_or (rows_of n cs) k [] ≡ row_at k cs
get_or-rows_of zero cs k h = absurd (omega (arith, h))
get_or-rows_of (suc n) cs k h = last_or_earlier n cs k (get_or-rows_of n cs k) h (cases_lt k n)

-- each column has as many values as all
pub filled_at : (n : ℕ) (cs : List StoredColumn) (j : ℕ) (c : StoredColumn) → AreFilled n cs → j < length cs → c ≡ get_or cs j c → length c.values ≡ n
filled_at n [] j c f h e = absurd (omega (arith, h))
filled_at n (x ∷ xs) zero c f h e = rw e f.0
filled_at n (x ∷ xs) (suc j) c f h e = filled_at n xs j c f.1 (omega (arith, h)) e

pub cell_in_rows : (n : ℕ) (cs : List StoredColumn) (k j : ℕ) (c : StoredColumn) → k < n → j < length cs → c ≡ get_or cs j c → get_or c.values k Null ≡ get_or (get_or (rows_of n cs) k []) j Null
cell_in_rows n cs k j c h l e =
    sym (ap (λ row. get_or row j Null) (get_or-rows_of n cs k h) ∙ get_or-map (value_at k) cs j c Null l ∙ ap (value_at k) (sym e))

-- the values of a column, and those of a part of its rows
pub first_values : (k : ℕ) (cs : List StoredColumn) (j : ℕ) (c : StoredColumn) → k ≤ length c.values → j < length cs → c ≡ get_or cs j c → map (λ row. get_or row j Null) (rows_of k cs) ≡ take k c.values
first_values zero cs j c h l e = refl
first_values (suc k) cs j c h l e =
    let next : suc k ≡ k + 1 = omega arith in
    let own : get_or (row_at k cs) j Null ≡ get_or c.values k Null = get_or-map (value_at k) cs j c Null l ∙ ap (value_at k) (sym e) in
    map-append (λ row. get_or row j Null) (rows_of k cs) (row_at k cs ∷ [])
    ∙ ap₂ (λ xs x. xs ++ x ∷ []) (first_values k cs j c (omega (arith, h)) l e) own
    ∙ sym (take_more c.values k Null (omega (arith, h))) ∙ ap (λ m. take m c.values) (sym next)

pub column_values : (n : ℕ) (cs : List StoredColumn) (j : ℕ) (c : StoredColumn) → AreFilled n cs → j < length cs → c ≡ get_or cs j c → map (λ row. get_or row j Null) (rows_of n cs) ≡ c.values
column_values n cs j c f h e =
    let filled = filled_at n cs j c f h e in
    first_values n cs j c (omega (arith, filled)) h e ∙ take_all n c.values (omega (arith, filled))

-- ---- rows have a value for each column

all_push : {X : Type 0} (P : X → Type 0) (xs : List X) (x : X) → AllByRecursion P xs → P x → AllByRecursion P (xs ++ x ∷ [])
all_push P [] x h p = (p, tt)
all_push P (y ∷ xs) x h p = (h.0, all_push P xs x h.1 p)

pub rows_as_long : (n : ℕ) (cs : List StoredColumn) → AllByRecursion (λ row. length row ≡ length (headers cs)) (rows_of n cs)
rows_as_long zero cs = tt
rows_as_long (suc n) cs =
    all_push (λ row. length row ≡ length (headers cs)) (rows_of n cs) (row_at n cs) (rows_as_long n cs)
    (length-map cs (value_at n) ∙ sym (length-map cs (λ (c : StoredColumn). c.header)))
