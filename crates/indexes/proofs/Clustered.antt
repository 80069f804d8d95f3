-- What a run tells of its keys: how many differ, and whether none falls from one row to the next.
use Rattle.std.proofs.Common.{◌≡◌, ◌∙◌, refl, sym, subst, ap, ap₂, ℕ, suc, ◌+◌, ◌<◌, ◌≤◌, List, [], ◌∷◌, Bool, true, false, length, map, take, get_or, arith}
use Rattle.std.specs.Prelude.{not, ◌&&◌, bytes_eq, IsPermutation, IsTrue}
use Rattle.std.specs.List.{AllByRecursion, range_with_len}
use Rattle.std.specs.Ordering.{nat_cmp, ordering_then, ordering_reverse, is_gt, is_lt}
use Rattle.std.specs.declared.cmp.Ordering.{Ordering}
use Rattle.std.specs.declared.cmp.Ordering.TheVariants.{Less, Equal, Greater}
use Rattle.std.proofs.lemmas.List.Sorted.{IsPermutation-map, IsPermutation-refl, IsPermutation-sym, length_permutation, All-permutation}
use Rattle.std.proofs.lemmas.List.Elements.{All-from_recursion, recursion_from_All}
use Rattle.std.proofs.lemmas.List.{length-map, length-take}
use Rattle.std.specs.Cmp.{nat_cmp_is}
use Rattle.std.proofs.lemmas.Slice.Eq.{bytes_eq-Decides}
use Rattle.definitions.specs.Key.{Key, key_of, value_at, key_rank, full_keys, distinct_keys}
use Rattle.definitions.specs.IndexRun.{Entry, entries_from, keys_of, entry_rows, comes_before, AreRising, IsRun}
use Rattle.definitions.specs.Statistics.{never_falls, rises_from}
use Rattle.definitions.specs.Table.{Row}
use Rattle.indexes.proofs.DistinctKeys.{AreOfLength, rank_to, to_total, ranks_to, as_many_keys}
use Rattle.indexes.proofs.Runs.{run_once}

keys_from : (row : ℕ) (keys : List Key) → keys_of (entries_from row keys) ≡ keys
keys_from row [] = refl
keys_from row (key ∷ keys) = ap (λ ks. key ∷ ks) (keys_from (row + 1) keys)

rows_from : (row : ℕ) (keys : List Key) → entry_rows (entries_from row keys) ≡ range_with_len row (length keys)
rows_from row [] = refl
rows_from row (key ∷ keys) = ap (λ rs. row ∷ rs) (rows_from (row + 1) keys)

length_from : (row : ℕ) (keys : List Key) → length (entries_from row keys) ≡ length keys
length_from row [] = refl
length_from row (key ∷ keys) = ap suc (length_from (row + 1) keys)

pub keys_permuted : (keys : List Key) (run : List Entry) → IsRun keys run → IsPermutation keys (keys_of run)
keys_permuted keys run (permuted, rising) = rw (← keys_from 0 keys) (IsPermutation-map (λ (e : Entry). e.key) (entries_from 0 keys) run permuted)

-- as many keys differ in a run as in the rows
pub keys_in_run : (n : ℕ) (keys : List Key) (run : List Entry) → AreOfLength n keys → IsRun keys run → length (distinct_keys (full_keys (keys_of run))) ≡ length (distinct_keys (full_keys keys))
keys_in_run n keys run long is = sym (as_many_keys n keys (keys_of run) long (keys_permuted keys run is))

-- ---- entries in place

abbrev IsOf : List Key → Entry → Type 0
IsOf keys e = e.key ≡ get_or keys e.row []

each_of : (all : List Key) (row : ℕ) (keys : List Key) → ((i : ℕ) → i < length keys → get_or all (row + i) [] ≡ get_or keys i []) → AllByRecursion (IsOf all) (entries_from row keys)
each_of all row [] h = tt
each_of all row (key ∷ keys) h =
    let here : row + 0 ≡ row = omega arith in (
      sym (h 0 (omega arith)) ∙ ap (λ k. get_or all k []) here,
      each_of all (row + 1) keys (λ i l. let there : row + 1 + i ≡ row + suc i = omega arith in ap (λ k. get_or all k []) there ∙ h (suc i) (omega (arith, l))),
    )

same_row : (e f : Entry) (es fs : List Entry) → entry_rows (e ∷ es) ≡ entry_rows (f ∷ fs) → e.row ≡ f.row
same_row e f es fs h = cc

other_rows : (e f : Entry) (es fs : List Entry) → entry_rows (e ∷ es) ≡ entry_rows (f ∷ fs) → entry_rows es ≡ entry_rows fs
other_rows e f es fs h = cc

same_entries : (all : List Key) (es fs : List Entry) → AllByRecursion (IsOf all) es → AllByRecursion (IsOf all) fs → entry_rows es ≡ entry_rows fs → es ≡ fs
same_entries all [] [] h l e = refl
same_entries all [] (f ∷ fs) h l e = absurd cc
same_entries all (e ∷ es) [] h l k = absurd cc
same_entries all (e ∷ es) (f ∷ fs) h l k =
    let row = same_row e f es fs k in
    let key : e.key ≡ f.key = h.0 ∙ ap (λ r. get_or all r []) row ∙ sym l.0 in
    let first : e ≡ f = ap₂ (λ r v. record { row = r; key = v }) row key in
    ap₂ (λ x xs. x ∷ xs) first (same_entries all es fs h.1 l.1 (other_rows e f es fs k))

in_place : (keys : List Key) (run : List Entry) → IsRun keys run → entry_rows run ≡ range_with_len 0 (length (entry_rows run)) → run ≡ entries_from 0 keys
in_place keys run (permuted, rising) h =
    let own : AllByRecursion (IsOf keys) (entries_from 0 keys) = each_of keys 0 keys (λ i l. let e : 0 + i ≡ i = omega arith in ap (λ k. get_or keys k []) e) in
    let all : AllByRecursion (IsOf keys) run = recursion_from_All (IsOf keys) run (All-permutation (IsOf keys) (entries_from 0 keys) run permuted (All-from_recursion (IsOf keys) (entries_from 0 keys) own)) in
    let long : length (entry_rows run) ≡ length keys = length-map run (λ (e : Entry). e.row) ∙ length_permutation (entries_from 0 keys) run permuted ∙ length_from 0 keys in
    same_entries keys run (entries_from 0 keys) all own (h ∙ ap (range_with_len 0) long ∙ sym (rows_from 0 keys))

-- a run is of one list of keys
pub keys_once : (keys others : List Key) (run : List Entry) → IsRun keys run → IsRun others run → others ≡ keys
keys_once keys others run (permuted, rising) (again, up) =
    let own : AllByRecursion (IsOf keys) (entries_from 0 keys) = each_of keys 0 keys (λ i l. let e : 0 + i ≡ i = omega arith in ap (λ k. get_or keys k []) e) in
    let all = All-permutation (IsOf keys) (entries_from 0 keys) run permuted (All-from_recursion (IsOf keys) (entries_from 0 keys) own) in
    let alike : AllByRecursion (IsOf keys) (entries_from 0 others) = recursion_from_All (IsOf keys) (entries_from 0 others) (All-permutation (IsOf keys) run (entries_from 0 others) (IsPermutation-sym (entries_from 0 others) run again) all) in
    let long : length others ≡ length keys = sym (length_from 0 others) ∙ sym (length_permutation (entries_from 0 others) run again) ∙ length_permutation (entries_from 0 keys) run permuted ∙ length_from 0 keys in
    let entries : entries_from 0 others ≡ entries_from 0 keys = same_entries keys (entries_from 0 others) (entries_from 0 keys) alike own (rows_from 0 others ∙ ap (range_with_len 0) long ∙ sym (rows_from 0 keys)) in
    sym (keys_from 0 others) ∙ ap keys_of entries ∙ keys_from 0 keys

-- the run of the first rows is no longer than these
pub run_within : (f : Row → Key) (rows : List Row) (run : List Entry) (n all : ℕ) → IsRun (map f (take (length run) rows)) run → n ≡ length run → length rows ≡ all → n ≤ all
run_within f rows run n all (permuted, rising) e k =
    let a = length_permutation (entries_from 0 (map f (take (length run) rows))) run permuted in
    let b = length_from 0 (map f (take (length run) rows)) in
    let c = length-map (take (length run) rows) f in
    let d = length-take (length run) rows in
    omega (arith, a, b, c, d, e, k)

-- ---- rising entries, and keys that do not fall

not_greater : (o p : Ordering) → is_lt (ordering_then o p) ≡ true → is_gt o ≡ false
not_greater Less p h = refl
not_greater Equal p h = refl
not_greater Greater p h = absurd cc

rises : (row : ℕ) (key : Key) (keys : List Key) → AreRising (entries_from row (key ∷ keys)) → rises_from key keys ≡ true
rises row key [] h = refl
rises row key (next ∷ keys) h = ap₂ (λ g r. not g && r) (not_greater (key_rank key next) (nat_cmp row (row + 1)) h.0.0) (rises (row + 1) next keys h.1)

none_falls : (keys : List Key) → AreRising (entries_from 0 keys) → never_falls keys ≡ true
none_falls [] h = refl
none_falls (key ∷ keys) h = rises 0 key keys h

up_by : (n : ℕ) (x y z : Key) (o p : Ordering) → rank_to n x y ≡ o → rank_to n y z ≡ p → is_gt o ≡ false → is_gt p ≡ false → is_gt (rank_to n x z) ≡ false
up_by n x y z Less Less e f g h = ap is_gt ((to_total n).trans x y z e f)
up_by n x y z Less Equal e f g h =
    let total = to_total n in
    ap is_gt (total.antisymm x z ∙ ap ordering_reverse (sym (total.congr y z x f)) ∙ sym (total.antisymm x y) ∙ e)
up_by n x y z Equal p e f g h = ap is_gt ((to_total n).congr x y z e ∙ f) ∙ h
up_by n x y z Less Greater e f g h = absurd cc
up_by n x y z Greater p e f g h = absurd cc

up : (n : ℕ) (x y z : Key) → length x ≡ n → length y ≡ n → length z ≡ n → is_gt (key_rank x y) ≡ false → is_gt (key_rank y z) ≡ false → is_gt (key_rank x z) ≡ false
up n x y z h k l e f =
    ap is_gt (ranks_to n x z h l) ∙ up_by n x y z (rank_to n x y) (rank_to n y z) refl refl (ap is_gt (sym (ranks_to n x y h k)) ∙ e) (ap is_gt (sym (ranks_to n y z k l)) ∙ f)

both_true : (b c : Bool) → (not b && c) ≡ true → (b ≡ false) × (c ≡ true)
both_true false true h = (refl, refl)
both_true false false h = absurd cc
both_true true c h = absurd cc

below_all : (n : ℕ) (key next : Key) (keys : List Key) → length key ≡ n → length next ≡ n → AreOfLength n keys → is_gt (key_rank key next) ≡ false → rises_from next keys ≡ true → AllByRecursion (λ k. is_gt (key_rank key k) ≡ false) keys
below_all n key next [] h k l e r = tt
below_all n key next (third ∷ keys) h k l e r =
    let both = both_true _ _ r in
    let first = up n key next third h k l.0 e both.0 in
    (first, below_all n key third keys h l.0 l.1 first both.1)

before_by : (o p : Ordering) → is_gt o ≡ false → p ≡ Less → is_lt (ordering_then o p) ≡ true
before_by Less p h e = refl
before_by Equal p h e = ap is_lt e
before_by Greater p h e = absurd cc

before_all : (row further : ℕ) (key : Key) (keys : List Key) → row < further → AllByRecursion (λ k. is_gt (key_rank key k) ≡ false) keys → AllByRecursion (λ other. IsTrue (comes_before (record { row = row; key = key }) other)) (entries_from further keys)
before_all row further key [] l h = tt
before_all row further key (next ∷ keys) l h = (before_by (key_rank key next) (nat_cmp row further) h.0 (sym (nat_cmp_is row further Less l)), before_all row (further + 1) key keys (omega (arith, l)) h.1)

rising : (n row : ℕ) (keys : List Key) → AreOfLength n keys → never_falls keys ≡ true → AreRising (entries_from row keys)
rising n row [] l h = tt
rising n row (key ∷ []) l h = (tt, tt)
rising n row (key ∷ next ∷ keys) l h =
    let both = both_true _ _ h in
    (before_all row (row + 1) key (next ∷ keys) (omega arith) (both.0, below_all n key next keys l.0 l.1.0 l.1.1 both.0 both.1), rising n (row + 1) (next ∷ keys) l.1 both.1)

same_tests : (b c : Bool) → (b ≡ true → c ≡ true) → (c ≡ true → b ≡ true) → b ≡ c
same_tests true c h l = sym (h refl)
same_tests false true h l = l refl
same_tests false false h l = refl

-- a run stands in place where no key falls, and there alone
pub in_place_is_clustered : (n : ℕ) (keys : List Key) (run : List Entry) → AreOfLength n keys → IsRun keys run → bytes_eq (entry_rows run) (range_with_len 0 (length (entry_rows run))) ≡ never_falls keys
in_place_is_clustered n keys run long is = same_tests _ _
    (λ h. none_falls keys (subst AreRising (in_place keys run is ((bytes_eq-Decides (entry_rows run) (range_with_len 0 (length (entry_rows run)))).0 h)) is.1))
    (λ h.
    let own : run ≡ entries_from 0 keys = run_once keys run (entries_from 0 keys) is (IsPermutation-refl (entries_from 0 keys), rising n 0 keys long h) in
    let numbered : entry_rows run ≡ range_with_len 0 (length keys) = ap entry_rows own ∙ rows_from 0 keys in
    let many : length keys ≡ length (entry_rows run) = sym (length-map run (λ (e : Entry). e.row) ∙ ap length own ∙ length_from 0 keys) in
    (bytes_eq-Decides (entry_rows run) (range_with_len 0 (length (entry_rows run)))).1 (numbered ∙ ap (range_with_len 0) many))

pub keys_long : (numbers : List ℕ) (rows : List Row) → AreOfLength (length numbers) (map (key_of numbers) rows)
keys_long numbers [] = tt
keys_long numbers (row ∷ rows) = (length-map numbers (value_at row), keys_long numbers rows)
