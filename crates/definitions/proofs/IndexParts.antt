-- The entries of a run whose keys begin with values, or lie in a range, stand together: a key between two such is one too.
use Rattle.std.proofs.Common.{◌≡◌, ◌≢◌, ◌∙◌, refl, sym, ap, ap₂, inl, inr, ℕ, ◌+◌, List, [], ◌∷◌, ◌++◌, Bool, true, false}
use Rattle.std.specs.Prelude.{not, ◌&&◌, filter, IsTrue, Option, Some, None, option_map, unwrap_or, is_none}
use Rattle.std.specs.List.{AllByRecursion}
use Rattle.std.proofs.lemmas.Bool.{false≢true}
use Rattle.std.proofs.lemmas.List.Elements.{All-from_recursion, recursion_from_All}
use Rattle.std.proofs.lemmas.List.Sorted.{All-permutation}
use Rattle.std.specs.Ordering.{nat_cmp, ordering_then, ordering_reverse, is_lt, is_le, is_eq, is_gt, is_ge}
use Rattle.std.specs.declared.cmp.Ordering.{Ordering}
use Rattle.std.specs.declared.cmp.Ordering.TheVariants.{Less, Equal, Greater}
use Rattle.definitions.specs.Value.{Value, Null, Number, Text, SqlType, Smallint, Integer, Numeric, Char, HasType, AreNotDistinct, rank, compare, is_null}
use Rattle.definitions.specs.Key.{Key, key_rank}
use Rattle.definitions.specs.IndexRun.{Entry, entries_from, comes_before, AreRising, IsRun, Limit, Unlimited, Inclusive, Exclusive, is_true_of, is_from, is_up_to, begins_with, lies_in, equal_part, range_part}
use Rattle.definitions.specs.IndexLaws.{IsKeyOf, IsStretch}
use Rattle.definitions.proofs.Ranking.{rank_total, equally_ranked}

-- ---- elements that pass a test and have none that fails it between them

module _ {X : Type 0} (test : X → Bool) where
  -- behind one that fails it, all do
  abbrev pub IsClosed : List X → Type 0
  IsClosed [] = Unit {0}
  IsClosed (x ∷ xs) = (test x ≡ false → AllByRecursion (λ y. test y ≡ false) xs) × IsClosed xs

  abbrev pub IsUnbroken : List X → Type 0
  IsUnbroken [] = Unit {0}
  IsUnbroken (x ∷ xs) = (test x ≡ true → IsClosed xs) × IsUnbroken xs

  none_left : (xs : List X) → AllByRecursion (λ y. test y ≡ false) xs → filter test xs ≡ []
  none_left [] h = refl
  none_left (x ∷ xs) (e, h) = rw e (none_left xs h)

  prefix : (xs : List X) → IsClosed xs → (back : List X) × (xs ≡ filter test xs ++ back)
  prefix [] h = ([], refl)
  prefix (x ∷ xs) (stop, h) = of (test x) refl (prefix xs h)
    where
      of : (t : Bool) → test x ≡ t → (back : List X) × (xs ≡ filter test xs ++ back) → (back : List X) × (x ∷ xs ≡ filter test (x ∷ xs) ++ back)
      of true e (back, is) = (back, rw e (ap (λ ys. x ∷ ys) is))
      of false e rest = (x ∷ xs, rw (e, none_left xs (stop e)) refl)

  pub stretch : (xs : List X) → IsUnbroken xs → (front : List X) × (back : List X) × (xs ≡ front ++ filter test xs ++ back)
  stretch [] h = ([], [], refl)
  stretch (x ∷ xs) (start, h) = of (test x) refl (stretch xs h)
    where
      of : (t : Bool) → test x ≡ t → (front : List X) × (back : List X) × (xs ≡ front ++ filter test xs ++ back) → (front : List X) × (back : List X) × (x ∷ xs ≡ front ++ filter test (x ∷ xs) ++ back)
      of true e rest = let (back, is) = prefix xs (start e) in ([], back, rw e (ap (λ ys. x ∷ ys) is))
      of false e (front, back, is) = (x ∷ front, back, rw e (ap (λ ys. x ∷ ys) is))

-- ---- a value between two

both : (a b : Bool) → (a && b) ≡ true → (a ≡ true) × (b ≡ true)
both true b h = (refl, h)
both false b h = absurd (false≢true h)

ge_kept : (a b v : Value) → rank a b ≢ Greater → is_ge (rank a v) ≡ true → is_ge (rank b v) ≡ true
ge_kept a b v n h = of (rank b v) refl (rank a b) refl
  where
    of : (o : Ordering) → rank b v ≡ o → (p : Ordering) → rank a b ≡ p → is_ge (rank b v) ≡ true
    of Less e Less f = absurd (false≢true (sym (ap is_ge (rank_total.trans a b v f e)) ∙ h))
    of Less e Equal f = absurd (false≢true (sym (ap is_ge (rank_total.congr a b v f ∙ e)) ∙ h))
    of Less e Greater f = absurd (n f)
    of Equal e p f = ap is_ge e
    of Greater e p f = ap is_ge e

gt_kept : (a b v : Value) → rank a b ≢ Greater → is_gt (rank a v) ≡ true → is_gt (rank b v) ≡ true
gt_kept a b v n h = of (rank a v) refl (rank a b) refl
  where
    of : (o : Ordering) → rank a v ≡ o → (p : Ordering) → rank a b ≡ p → is_gt (rank b v) ≡ true
    of Less e p f = absurd (false≢true (sym (ap is_gt e) ∙ h))
    of Equal e p f = absurd (false≢true (sym (ap is_gt e) ∙ h))
    of Greater e Less f = ap is_gt (rank_total.antisymm b v ∙ ap ordering_reverse (rank_total.trans v a b (rank_total.antisymm v a ∙ ap ordering_reverse e) f))
    of Greater e Equal f = ap is_gt (sym (rank_total.congr a b v f) ∙ e)
    of Greater e Greater f = absurd (n f)

-- what is below a value is not above it the other way round
le_turned : (a v : Value) → is_le (rank a v) ≡ is_ge (rank v a)
le_turned a v = ap is_le (rank_total.antisymm a v) ∙ of (rank v a)
  where
    of : (o : Ordering) → is_le (ordering_reverse o) ≡ is_ge o
    of Less = refl
    of Equal = refl
    of Greater = refl

lt_turned : (a v : Value) → is_lt (rank a v) ≡ is_gt (rank v a)
lt_turned a v = ap is_lt (rank_total.antisymm a v) ∙ of (rank v a)
  where
    of : (o : Ordering) → is_lt (ordering_reverse o) ≡ is_gt o
    of Less = refl
    of Equal = refl
    of Greater = refl

le_kept : (b c v : Value) → rank b c ≢ Greater → is_le (rank c v) ≡ true → is_le (rank b v) ≡ true
le_kept b c v n h = of (rank b v) refl (rank b c) refl
  where
    of : (o : Ordering) → rank b v ≡ o → (p : Ordering) → rank b c ≡ p → is_le (rank b v) ≡ true
    of Less e p f = ap is_le e
    of Equal e p f = ap is_le e
    of Greater e Less f = absurd (false≢true (sym (ap is_le (rank_total.antisymm c v ∙ ap ordering_reverse (rank_total.trans v b c (rank_total.antisymm v b ∙ ap ordering_reverse e) f))) ∙ h))
    of Greater e Equal f = absurd (false≢true (sym (ap is_le (sym (rank_total.congr b c v f) ∙ e)) ∙ h))
    of Greater e Greater f = absurd (n f)

lt_kept : (b c v : Value) → rank b c ≢ Greater → is_lt (rank c v) ≡ true → is_lt (rank b v) ≡ true
lt_kept b c v n h = of (rank c v) refl (rank b c) refl
  where
    of : (o : Ordering) → rank c v ≡ o → (p : Ordering) → rank b c ≡ p → is_lt (rank b v) ≡ true
    of Equal e p f = absurd (false≢true (sym (ap is_lt e) ∙ h))
    of Greater e p f = absurd (false≢true (sym (ap is_lt e) ∙ h))
    of Less e Less f = ap is_lt (rank_total.trans b c v f e)
    of Less e Equal f = ap is_lt (rank_total.congr b c v f ∙ e)
    of Less e Greater f = absurd (n f)

known : (test : Ordering → Bool) (o : Option Ordering) (d : Ordering) → unwrap_or (option_map test o) false ≡ true → is_none o ≡ false
known test None d e = absurd (false≢true e)
known test (Some o) d e = refl

told : (test : Ordering → Bool) (o : Option Ordering) (d : Ordering) → is_none o ≡ false → unwrap_or (option_map test o) false ≡ test (unwrap_or o d)
told test None d e = absurd (false≢true (sym e))
told test (Some o) d e = refl

-- of a type, what is not null compares alike
like_kinds : (type : SqlType) (a b v : Value) → HasType type a → HasType type b → is_null b ≡ false → is_none (compare a v) ≡ false → is_none (compare b v) ≡ false
like_kinds type a Null v h l i e = absurd (false≢true (sym i))
like_kinds type Null (Number u s) v h l i e = absurd (false≢true (sym e))
like_kinds type Null (Text t) v h l i e = absurd (false≢true (sym e))
like_kinds type (Number x r) (Number u s) Null h l i e = absurd (false≢true (sym e))
like_kinds type (Number x r) (Number u s) (Number w k) h l i e = refl
like_kinds type (Number x r) (Number u s) (Text t) h l i e = absurd (false≢true (sym e))
like_kinds type (Text x) (Text t) Null h l i e = absurd (false≢true (sym e))
like_kinds type (Text x) (Text t) (Number w k) h l i e = absurd (false≢true (sym e))
like_kinds type (Text x) (Text t) (Text w) h l i e = refl
like_kinds Smallint (Number x r) (Text t) v h l i e = absurd l
like_kinds Integer (Number x r) (Text t) v h l i e = absurd l
like_kinds (Numeric p q) (Number x r) (Text t) v h l i e = absurd l
like_kinds (Char n) (Number x r) (Text t) v h l i e = absurd h.1
like_kinds Smallint (Text x) (Number u s) v h l i e = absurd h
like_kinds Integer (Text x) (Number u s) v h l i e = absurd h
like_kinds (Numeric p q) (Text x) (Number u s) v h l i e = absurd h
like_kinds (Char n) (Text x) (Number u s) v h l i e = absurd l.1

not_null : (a b : Value) → rank a b ≢ Greater → is_null a ≡ false → is_null b ≡ false
not_null Null b n e = absurd (false≢true (sym e))
not_null (Number u s) Null n e = absurd (n refl)
not_null (Text t) Null n e = absurd (n refl)
not_null (Number u s) (Number v r) n e = refl
not_null (Number u s) (Text t) n e = refl
not_null (Text t) (Number v r) n e = refl
not_null (Text t) (Text x) n e = refl

equal_known : (o : Option Ordering) (d : Ordering) → unwrap_or (option_map is_eq o) false ≡ true → (unwrap_or o d ≡ Equal) × (is_none o ≡ false)
equal_known None d h = absurd (false≢true h)
equal_known (Some Less) d h = absurd (false≢true h)
equal_known (Some Equal) d h = (refl, refl)
equal_known (Some Greater) d h = absurd (false≢true h)

not_null_of : (a v : Value) → is_none (compare a v) ≡ false → v ≢ Null
not_null_of Null v e f = false≢true (sym e)
not_null_of (Number u s) Null e f = false≢true (sym e)
not_null_of (Number u s) (Number w r) e f = absurd cc
not_null_of (Number u s) (Text t) e f = absurd cc
not_null_of (Text x) Null e f = false≢true (sym e)
not_null_of (Text x) (Number w r) e f = absurd cc
not_null_of (Text x) (Text t) e f = absurd cc

-- a value that ranks from one equal to v to another equal to v is equal to v
equal_between : (a b c v : Value) → rank a b ≢ Greater → rank b c ≢ Greater → is_true_of is_eq (compare a v) ≡ true → is_true_of is_eq (compare c v) ≡ true → is_true_of is_eq (compare b v) ≡ true
equal_between a b c v m n h l = of (equally_ranked b v same)
  where
    at : (rank a v ≡ Equal) × (is_none (compare a v) ≡ false)
    at = equal_known (compare a v) _ h

    low : is_ge (rank b v) ≡ true
    low = ge_kept a b v m (ap is_ge at.0)

    high : is_le (rank b v) ≡ true
    high = le_kept b c v n (ap is_le (equal_known (compare c v) _ l).0)

    same : rank b v ≡ Equal
    same = meet (rank b v) low high
      where
        meet : (o : Ordering) → is_ge o ≡ true → is_le o ≡ true → o ≡ Equal
        meet Less p q = absurd (false≢true p)
        meet Equal p q = refl
        meet Greater p q = absurd (false≢true q)

    of : AreNotDistinct b v → is_true_of is_eq (compare b v) ≡ true
    of (inl (e, f)) = absurd (not_null_of a v at.1 f)
    of (inr e) = ap (is_true_of is_eq) e

from_kept : (type : SqlType) (low : Limit) (a b : Value) → HasType type a → HasType type b → rank a b ≢ Greater → is_null b ≡ false → is_from low a ≡ true → is_from low b ≡ true
from_kept type Unlimited a b h l n i e = refl
from_kept type (Inclusive v) a b h l n i e =
    let k = known is_ge (compare a v) Equal e in
    told is_ge (compare b v) _ (like_kinds type a b v h l i k) ∙ ge_kept a b v n (sym (told is_ge (compare a v) _ k) ∙ e)
from_kept type (Exclusive v) a b h l n i e =
    let k = known is_gt (compare a v) Equal e in
    told is_gt (compare b v) _ (like_kinds type a b v h l i k) ∙ gt_kept a b v n (sym (told is_gt (compare a v) _ k) ∙ e)

up_to_kept : (type : SqlType) (high : Limit) (b c : Value) → HasType type b → HasType type c → rank b c ≢ Greater → is_null b ≡ false → is_up_to high c ≡ true → is_up_to high b ≡ true
up_to_kept type Unlimited b c h l n i e = refl
up_to_kept type (Inclusive v) b c h l n i e =
    let k = known is_le (compare c v) Equal e in
    told is_le (compare b v) _ (like_kinds type c b v l h i k) ∙ le_kept b c v n (sym (told is_le (compare c v) _ k) ∙ e)
up_to_kept type (Exclusive v) b c h l n i e =
    let k = known is_lt (compare c v) Equal e in
    told is_lt (compare b v) _ (like_kinds type c b v l h i k) ∙ lt_kept b c v n (sym (told is_lt (compare c v) _ k) ∙ e)

-- ---- a key between two

first_not_above : (o p : Ordering) → ordering_then o p ≢ Greater → o ≢ Greater
first_not_above Less p n e = absurd cc
first_not_above Equal p n e = absurd cc
first_not_above Greater p n e = n refl

alike : (a b v : Value) → is_true_of is_eq (compare a v) ≡ true → is_true_of is_eq (compare b v) ≡ true → rank a b ≡ Equal
alike a b v h l =
    let e = (equal_known (compare a v) _ h).0 in
    let f = (equal_known (compare b v) _ l).0 in
    rank_total.congr a v b e ∙ rank_total.antisymm v b ∙ ap ordering_reverse f

rest_not_above : (o p : Ordering) → o ≡ Equal → ordering_then o p ≢ Greater → p ≢ Greater
rest_not_above o p e n f = n (ap₂ ordering_then e f)

begins_between : (types : List SqlType) (vs : List Value) (a b c : Key) → IsKeyOf types a → IsKeyOf types b → IsKeyOf types c → key_rank a b ≢ Greater → key_rank b c ≢ Greater → begins_with vs a ≡ true → begins_with vs c ≡ true → begins_with vs b ≡ true
begins_between types [] a b c h l k m n e f = refl
begins_between types (v ∷ vs) [] b c h l k m n e f = absurd (false≢true e)
begins_between types (v ∷ vs) (a ∷ as') b [] h l k m n e f = absurd (false≢true f)
begins_between [] (v ∷ vs) (a ∷ as') b (c ∷ cs) h l k m n e f = absurd h
begins_between (t ∷ ts) (v ∷ vs) (a ∷ as') [] (c ∷ cs) h l k m n e f = absurd l
begins_between (t ∷ ts) (v ∷ vs) (a ∷ as') (b ∷ bs) (c ∷ cs) h l k m n e f =
    let p = both (is_true_of is_eq (compare a v)) (begins_with vs as') e in
    let q = both (is_true_of is_eq (compare c v)) (begins_with vs cs) f in
    let g = equal_between a b c v (first_not_above (rank a b) (key_rank as' bs) m) (first_not_above (rank b c) (key_rank bs cs) n) p.0 q.0 in
    ap₂ ◌&&◌ g (begins_between ts vs as' bs cs h.1 l.1 k.1 (rest_not_above (rank a b) (key_rank as' bs) (alike a b v p.0 g) m) (rest_not_above (rank b c) (key_rank bs cs) (alike b c v g q.0) n) p.1 q.1)

not_true : (b : Bool) → not b ≡ true → b ≡ false
not_true false h = refl
not_true true h = absurd (false≢true h)

lies_between : (types : List SqlType) (vs : List Value) (low high : Limit) (a b c : Key) → IsKeyOf types a → IsKeyOf types b → IsKeyOf types c → key_rank a b ≢ Greater → key_rank b c ≢ Greater → lies_in vs low high a ≡ true → lies_in vs low high c ≡ true → lies_in vs low high b ≡ true
lies_between types [] low high [] b c h l k m n e f = absurd (false≢true e)
lies_between types [] low high (a ∷ as') b [] h l k m n e f = absurd (false≢true f)
lies_between [] [] low high (a ∷ as') b (c ∷ cs) h l k m n e f = absurd h
lies_between (t ∷ ts) [] low high (a ∷ as') [] (c ∷ cs) h l k m n e f = absurd l
lies_between (t ∷ ts) [] low high (a ∷ as') (b ∷ bs) (c ∷ cs) h l k m n e f =
    let ab = first_not_above (rank a b) (key_rank as' bs) m in
    let bc = first_not_above (rank b c) (key_rank bs cs) n in
    let p = both (not (is_null a) && is_from low a) (is_up_to high a) e in
    let q = both (not (is_null a)) (is_from low a) p.0 in
    let r = both (not (is_null c) && is_from low c) (is_up_to high c) f in
    let i = not_null a b ab (not_true (is_null a) q.0) in
    ap₂ ◌&&◌ (ap₂ (λ x y. not x && y) i (from_kept t low a b h.0 l.0 ab i q.1)) (up_to_kept t high b c l.0 k.0 bc i r.1)
lies_between types (v ∷ vs) low high [] b c h l k m n e f = absurd (false≢true e)
lies_between types (v ∷ vs) low high (a ∷ as') b [] h l k m n e f = absurd (false≢true f)
lies_between [] (v ∷ vs) low high (a ∷ as') b (c ∷ cs) h l k m n e f = absurd h
lies_between (t ∷ ts) (v ∷ vs) low high (a ∷ as') [] (c ∷ cs) h l k m n e f = absurd l
lies_between (t ∷ ts) (v ∷ vs) low high (a ∷ as') (b ∷ bs) (c ∷ cs) h l k m n e f =
    let p = both (is_true_of is_eq (compare a v)) (lies_in vs low high as') e in
    let q = both (is_true_of is_eq (compare c v)) (lies_in vs low high cs) f in
    let g = equal_between a b c v (first_not_above (rank a b) (key_rank as' bs) m) (first_not_above (rank b c) (key_rank bs cs) n) p.0 q.0 in
    ap₂ ◌&&◌ g (lies_between ts vs low high as' bs cs h.1 l.1 k.1 (rest_not_above (rank a b) (key_rank as' bs) (alike a b v p.0 g) m) (rest_not_above (rank b c) (key_rank bs cs) (alike b c v g q.0) n) p.1 q.1)

-- ---- of a run

not_behind : (o p : Ordering) → is_lt (ordering_then o p) ≡ true → o ≢ Greater
not_behind Less p h e = absurd cc
not_behind Equal p h e = absurd cc
not_behind Greater p h e = false≢true h

module _ (types : List SqlType) (test : Key → Bool)
    (between : (a b c : Key) → IsKeyOf types a → IsKeyOf types b → IsKeyOf types c → key_rank a b ≢ Greater → key_rank b c ≢ Greater → test a ≡ true → test c ≡ true → test b ≡ true) where
  abbrev passes : Entry → Bool
  passes e = test e.key

  abbrev AreKeysOf : List Entry → Type 0
  AreKeysOf = AllByRecursion (λ (e : Entry). IsKeyOf types e.key)

  none_behind : (x y : Entry) (zs : List Entry) → IsKeyOf types x.key → IsKeyOf types y.key → AreKeysOf zs → passes x ≡ true → IsTrue (comes_before x y) → AllByRecursion (λ z. IsTrue (comes_before y z)) zs → passes y ≡ false → AllByRecursion (λ z. passes z ≡ false) zs
  none_behind x y [] h l k e m n f = tt
  none_behind x y (z ∷ zs) h l (k, ks) e m (n, ns) f = (of (passes z) refl, none_behind x y zs h l ks e m ns f)
    where
      of : (t : Bool) → passes z ≡ t → passes z ≡ false
      of false g = g
      of true g = absurd (false≢true (sym f ∙ between x.key y.key z.key h l k (not_behind (key_rank x.key y.key) (nat_cmp x.row y.row) m) (not_behind (key_rank y.key z.key) (nat_cmp y.row z.row) n) e g))

  closed : (x : Entry) (ys : List Entry) → IsKeyOf types x.key → AreKeysOf ys → passes x ≡ true → AllByRecursion (λ y. IsTrue (comes_before x y)) ys → AreRising ys → IsClosed passes ys
  closed x [] h k e m r = tt
  closed x (y ∷ ys) h (l, k) e (m, ms) (n, r) = (none_behind x y ys h l k e m n, closed x ys h k e ms r)

  unbroken : (xs : List Entry) → AreKeysOf xs → AreRising xs → IsUnbroken passes xs
  unbroken [] k r = tt
  unbroken (x ∷ xs) (h, k) (m, r) = ((λ e. closed x xs h k e m r), unbroken xs k r)

  typed_from : (row : ℕ) (keys : List Key) → AllByRecursion (IsKeyOf types) keys → AreKeysOf (entries_from row keys)
  typed_from row [] h = tt
  typed_from row (key ∷ keys) (h, k) = (h, typed_from (row + 1) keys k)

  pub part_stretch : (keys : List Key) (run : List Entry) → AllByRecursion (IsKeyOf types) keys → IsRun keys run → IsStretch (filter passes run) run
  part_stretch keys run typed (p, r) =
      let all = recursion_from_All (λ (e : Entry). IsKeyOf types e.key) run (All-permutation (λ (e : Entry). IsKeyOf types e.key) (entries_from 0 keys) run p (All-from_recursion (λ (e : Entry). IsKeyOf types e.key) (entries_from 0 keys) (typed_from 0 keys typed))) in
      stretch passes run (unbroken run all r)

pub equal_stretch : (types : List SqlType) (keys : List Key) (run : List Entry) (values : List Value) → AllByRecursion (IsKeyOf types) keys → IsRun keys run → IsStretch (equal_part values run) run
equal_stretch types keys run values h r = part_stretch types (begins_with values) (begins_between types values) keys run h r

pub range_stretch : (types : List SqlType) (keys : List Key) (run : List Entry) (values : List Value) (low high : Limit) → AllByRecursion (IsKeyOf types) keys → IsRun keys run → IsStretch (range_part values low high run) run
range_stretch types keys run values low high h r = part_stretch types (lies_in values low high) (lies_between types values low high) keys run h r
