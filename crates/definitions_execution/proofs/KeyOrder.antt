-- The entries of an index by key: each row once, in the order of its columns; and they are its run.
use Rattle.std.proofs.Common.{sym, ap, ap₂, ◌∙◌, subst, ◌≡◌, ℕ, ◌<◌, ◌≤◌, ◌⊎◌, inl, inr, arith, List, [], ◌∷◌, length, get_or, map, Bool, true, false, cond, refl, true≢false, suc, ◌+◌}
use Rattle.std.specs.List.{range_with_len}
use Rattle.std.proofs.lemmas.List.Sorted.{IsPermutation-map}
use Rattle.std.specs.Cmp.{IsTotalOrder, then_total, nat_cmp_is}
use Rattle.std.specs.List.{AllByRecursion}
use Rattle.std.specs.Ordering.{nat_cmp, ordering_then, ordering_reverse, is_le, is_lt, MatchOrdering}
use Rattle.std.specs.declared.cmp.Ordering.{Ordering}
use Rattle.std.specs.declared.cmp.Ordering.TheVariants.{Less, Equal, Greater}
use Rattle.std.specs.Prelude.{IsTrue, IsPermutation}
use Rattle.std.proofs.lemmas.Bool.{cases_lt}
use Rattle.std.proofs.lemmas.Cmp.{nat_cmp_total}
use Rattle.definitions.specs.Value.{Value, rank}
use Rattle.definitions.specs.Table.{Row}
use Rattle.definitions.specs.Key.{Key, value_at, key_of, key_rank}
use Rattle.definitions.specs.IndexRun.{Entry, entries_from, comes_before, AreRising, IsRun, entry_rows}
use Rattle.definitions.specs.Plans.Order.{BlockColumn}
use Rattle.definitions_execution.specs.Lists.{In, Rises, Differ, put_in, sorted_by}
use Rattle.definitions_execution.specs.RowOrder.{ranked_by, NotAfter}
use Rattle.definitions_execution.specs.IndexRows.{run_of, keys_in, RunIsComputed}
use Rattle.definitions_execution.proofs.Members.{rises_weaker}
use Rattle.definitions_execution.proofs.RowOrders.{up, down, index_keys, order_total}
use Rattle.definitions_execution.proofs.Sorting.{from_sort, in_sort, sort_distinct, sort_sorted}
use Rattle.definitions_execution.proofs.Steps.{in_upto, from_upto, upto_distinct}
use Rattle.definitions_execution.proofs.Working.{arranged}

less_is_up : (o : Ordering) → is_lt o ≡ true → is_le o ≡ true
less_is_up Less h = refl
less_is_up Equal h = refl
less_is_up Greater h = h

not_less_turns : (o p : Ordering) → p ≡ ordering_reverse o → is_lt o ≡ false → is_le p ≡ true
not_less_turns Less p e h = absurd (true≢false h)
not_less_turns Equal p e h = ap is_le e
not_less_turns Greater p e h = ap is_le e

first_up : (o p : Ordering) → is_le (ordering_then o p) ≡ true → is_le o ≡ true
first_up Less p h = refl
first_up Equal p h = refl
first_up Greater p h = h

nat_ranks : (a b : ℕ) → MatchOrdering (nat_cmp a b) (a < b) (a ≡ b) (b < a)
nat_ranks a b = pick (cases_lt a b) (cases_lt b a)
  where
    pick : (a < b) ⊎ (b ≤ a) → (b < a) ⊎ (a ≤ b) → MatchOrdering (nat_cmp a b) (a < b) (a ≡ b) (b < a)
    pick (inl l) h = subst (λ o. MatchOrdering o (a < b) (a ≡ b) (b < a)) (nat_cmp_is a b Less l) l
    pick (inr k) (inl l) = subst (λ o. MatchOrdering o (a < b) (a ≡ b) (b < a)) (nat_cmp_is a b Greater l) l
    pick (inr k) (inr l) = let e : a ≡ b = omega (arith, k, l) in subst (λ o. MatchOrdering o (a < b) (a ≡ b) (b < a)) (nat_cmp_is a b Equal e) e

-- ---- entries by the numbers of their rows

module _ (columns : List ℕ) (rows : List Row) where
  abbrev pub key_at : ℕ → Key
  key_at number = key_of columns (get_or rows number [])

  abbrev pub entry_at : ℕ → Entry
  entry_at number = record { row = number; key = key_at number }

  abbrev before : ℕ → ℕ → Bool
  before a b = comes_before (entry_at a) (entry_at b)

  -- the rows by key
  abbrev pub rows_by_key : List ℕ
  rows_by_key = sorted_by before (range_with_len 0 (length rows))

entries_are : (columns : List ℕ) (all rows : List Row) (n : ℕ) → ((k : ℕ) → get_or rows k [] ≡ get_or all (n + k) [])
    → entries_from n (keys_in columns rows) ≡ map (entry_at columns all) (range_with_len n (length rows))
entries_are columns all [] n f = refl
entries_are columns all (row ∷ rows) n f =
    ap₂ (λ key others. record { row = n; key = key } ∷ others) (ap (key_of columns) (f 0 ∙ ap (λ k. get_or all k []) (omega arith)))
    (entries_are columns all rows (n + 1) (λ k. f (suc k) ∙ ap (λ j. get_or all j []) (omega arith)))

put_mapped : {X Y : Type 0} → (f : X → Y) (le : Y → Y → Bool) (x : X) (xs : List X) → put_in le (f x) (map f xs) ≡ map f (put_in (λ a b. le (f a) (f b)) x xs)
put_mapped f le x [] = refl
put_mapped {X} {Y} f le x (y ∷ ys) = by_test (le (f x) (f y)) (put_mapped f le x ys)
  where
    by_test : (b : Bool) → put_in le (f x) (map f ys) ≡ map f (put_in (λ a b. le (f a) (f b)) x ys)
        → cond b (f x ∷ f y ∷ map f ys) (f y ∷ put_in le (f x) (map f ys)) ≡ map f (cond b (x ∷ y ∷ ys) (y ∷ put_in (λ a b. le (f a) (f b)) x ys))
    by_test true rest = refl
    by_test false rest = ap (λ zs. f y ∷ zs) rest

sorted_mapped : {X Y : Type 0} → (f : X → Y) (le : Y → Y → Bool) (xs : List X) → sorted_by le (map f xs) ≡ map f (sorted_by (λ a b. le (f a) (f b)) xs)
sorted_mapped f le [] = refl
sorted_mapped f le (x ∷ xs) = ap (put_in le (f x)) (sorted_mapped f le xs) ∙ put_mapped f le x (sorted_by (λ a b. le (f a) (f b)) xs)

rows_of_entries : (columns : List ℕ) (rows : List Row) (numbers : List ℕ) → entry_rows (map (entry_at columns rows) numbers) ≡ numbers
rows_of_entries columns rows [] = refl
rows_of_entries columns rows (n ∷ ns) = ap (λ zs. n ∷ zs) (rows_of_entries columns rows ns)

module _ (columns : List ℕ) (rows : List Row) where
  pub run_is : run_of (keys_in columns rows) ≡ map (entry_at columns rows) (rows_by_key columns rows)
  run_is = ap (sorted_by comes_before) (entries_are columns rows rows 0 (λ k. ap (λ j. get_or rows j []) (omega arith))) ∙ sorted_mapped (entry_at columns rows) comes_before (range_with_len 0 (length rows))

  pub run_rows : entry_rows (run_of (keys_in columns rows)) ≡ rows_by_key columns rows
  run_rows = ap entry_rows run_is ∙ rows_of_entries columns rows (rows_by_key columns rows)

-- values of a row in columns, given in any way
module _ (t : ℕ) (columns : List ℕ) (rows : List Row) (value_of : BlockColumn → ℕ → Value) (is : (column row : ℕ) → value_of (record { table = t; number = column }) row ≡ value_at (get_or rows row []) column) where
  pub keys_compare : (cs : List ℕ) (a b : ℕ) → ranked_by value_of (index_keys t cs false) a b ≡ key_rank (key_at cs rows a) (key_at cs rows b)
  keys_compare [] a b = refl
  keys_compare (c ∷ cs) a b = ap₂ ordering_then (ap₂ rank (is c a) (is c b)) (keys_compare cs a b)

  -- by key, and then by number
  abbrev both : ℕ → ℕ → Ordering
  both a b = ordering_then (ranked_by value_of (index_keys t columns false) a b) (nat_cmp a b)

  both_total : IsTotalOrder both
  both_total = then_total (order_total value_of (index_keys t columns false)) nat_cmp_total

  before_is : (a b : ℕ) → before columns rows a b ≡ is_lt (both a b)
  before_is a b = ap (λ o. is_lt (ordering_then o (nat_cmp a b))) (sym (keys_compare columns a b))

  abbrev Up : ℕ → ℕ → Type 0
  Up a b = is_le (both a b) ≡ true

  goes_up : Rises Up (rows_by_key columns rows)
  goes_up = sort_sorted (before columns rows) Up
      (λ a b h. less_is_up (both a b) (sym (before_is a b) ∙ h))
      (λ a b h. not_less_turns (both a b) (both b a) (both_total.antisymm b a) (sym (before_is a b) ∙ h))
      (λ a b c h k. down (both a c) (Rattle.std.specs.Cmp.upto both_total a b c (up (both a b) h) (up (both b c) k)))
      (range_with_len 0 (length rows))

  pub by_key_sorted : Rises (NotAfter value_of (index_keys t columns false)) (rows_by_key columns rows)
  by_key_sorted = rises_weaker Up (NotAfter value_of (index_keys t columns false)) (rows_by_key columns rows) (λ a b i j h. first_up (ranked_by value_of (index_keys t columns false) a b) (nat_cmp a b) h) goes_up

module _ (columns : List ℕ) (rows : List Row) where
  pub by_key_distinct : Rises Differ (rows_by_key columns rows)
  by_key_distinct = sort_distinct (before columns rows) (range_with_len 0 (length rows)) (upto_distinct (length rows))

  pub by_key_within : (r : ℕ) → In r (rows_by_key columns rows) → r < length rows
  by_key_within r i = from_upto (length rows) r (from_sort (before columns rows) r (range_with_len 0 (length rows)) i)

  pub by_key_all : (r : ℕ) → r < length rows → In r (rows_by_key columns rows)
  by_key_all r lt = in_sort (before columns rows) r (range_with_len 0 (length rows)) (in_upto (length rows) r lt)

  abbrev place : BlockColumn → ℕ → Value
  place column row = value_at (get_or rows row []) column.number

  less_unless_same : (a b : ℕ) → Differ a b → is_le (both 0 columns rows place (λ c r. refl) a b) ≡ true → is_lt (both 0 columns rows place (λ c r. refl) a b) ≡ true
  less_unless_same a b ne h = of_first (ranked_by place (index_keys 0 columns false) a b) (nat_cmp a b) (nat_ranks a b) h
    where
      of_second : (p : Ordering) → MatchOrdering p (a < b) (a ≡ b) (b < a) → is_le p ≡ true → is_lt p ≡ true
      of_second Less m h = refl
      of_second Equal m h = absurd (ne m)
      of_second Greater m h = h

      of_first : (o p : Ordering) → MatchOrdering p (a < b) (a ≡ b) (b < a) → is_le (ordering_then o p) ≡ true → is_lt (ordering_then o p) ≡ true
      of_first Less p m h = refl
      of_first Equal p m h = of_second p m h
      of_first Greater p m h = h

  rising_of : (xs : List ℕ) → Rises Differ xs → Rises (λ a b. is_le (both 0 columns rows place (λ c r. refl) a b) ≡ true) xs → AreRising (map (entry_at columns rows) xs)
  rising_of [] d h = tt
  rising_of (x ∷ xs) d h = (each xs (λ y i. before_is 0 columns rows place (λ c r. refl) x y ∙ less_unless_same x y (d.0 y i) (h.0 y i)), rising_of xs d.1 h.1)
    where
      each : (ys : List ℕ) → ((y : ℕ) → In y ys → before columns rows x y ≡ true) → AllByRecursion (λ other. IsTrue (comes_before (entry_at columns rows x) other)) (map (entry_at columns rows) ys)
      each [] f = tt
      each (y ∷ ys) f = (f y (inl refl), each ys (λ z i. f z (inr i)))

  arranged_rows : IsPermutation (range_with_len 0 (length rows)) (rows_by_key columns rows)
  arranged_rows = arranged (range_with_len 0 (length rows)) (rows_by_key columns rows) (upto_distinct (length rows)) by_key_distinct (λ r i. by_key_all r (from_upto (length rows) r i)) (λ r i. in_upto (length rows) r (by_key_within r i))

pub run_computed : RunIsComputed
run_computed columns rows =
    subst (IsRun (keys_in columns rows)) (sym (run_is columns rows)) (
      subst (λ es. IsPermutation es (map (entry_at columns rows) (rows_by_key columns rows))) (sym (entries_are columns rows rows 0 (λ k. ap (λ j. get_or rows j []) (omega arith))))
          (IsPermutation-map (entry_at columns rows) (range_with_len 0 (length rows)) (rows_by_key columns rows) (arranged_rows columns rows)),
      rising_of columns rows (rows_by_key columns rows) (by_key_distinct columns rows) (goes_up 0 columns rows (place columns rows) (λ c r. refl)),
    )
