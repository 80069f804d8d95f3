-- Values between two bounds.
use Rattle.std.proofs.Common.{◌≡◌, ◌≢◌, ◌∙◌, refl, sym, ap, ap₂, ℕ, ◌<◌, ◌≤◌, Bool, true, false, inl, inr, arith}
use Rattle.std.specs.Prelude.{◌&&◌, not, Option, Some, None, is_none, option_map, unwrap_or, nat_lt, ◌⊎◌}
use Rattle.std.proofs.lemmas.Bool.{false≢true, cases_lt}
use Rattle.std.proofs.lemmas.Bool.Decides.{nat_tests}
use Rattle.std.specs.Ordering.{is_lt, is_le, is_gt, is_ge, ordering_reverse}
use Rattle.std.specs.declared.cmp.Ordering.{Ordering}
use Rattle.std.specs.declared.cmp.Ordering.TheVariants.{Less, Equal, Greater}
use Rattle.definitions.specs.Value.{Value, Null, Number, Text, SqlType, rank, compare, is_null}
use Rattle.definitions.specs.IndexRun.{Limit, Unlimited, Inclusive, Exclusive, is_from, is_up_to, is_true_of}
use Rattle.definitions.proofs.Ranking.{rank_total}
use Rattle.indexes.specs.Stretches.{turned_limit}
use Rattle.std.specs.List.{AllByRecursion}
use Rattle.columns.specs.Cells.{CellList}
use Rattle.columns.specs.declared.lower_bound.LowerBound.{LowerBound}
use Rattle.indexes.proofs.PagedValues.{held_at}
use Rattle.std.specs.declared.ops.Bound.{Bound}
use Rattle.std.specs.declared.ops.Bound.TheVariants.{Included, Excluded, Unbounded}
use Rattle.sqlvalue.specs.declared.value.Value as code
use Rattle.columns.specs.Starts.{limit_of, starts, value_in, IsHeld, AreMet, AreApart, AreOrdered, Splits}

-- ---- values in order keep what they passed

ge_kept : (a b v : Value) → rank a b ≢ Greater → is_ge (rank a v) ≡ true → is_ge (rank b v) ≡ true
ge_kept a b v n h = of (rank b v) refl (rank a b) refl
  where
    of : (o : Ordering) → rank b v ≡ o → (p : Ordering) → rank a b ≡ p → is_ge (rank b v) ≡ true
    of Less e Less f = absurd (false≢true (sym (ap is_ge (rank_total.trans a b v f e)) ∙ h))
    of Less e Equal f = absurd (false≢true (sym (ap is_ge (rank_total.congr a b v f ∙ e)) ∙ h))
    of Less e Greater f = absurd (n f)
    of Equal e p f = ap is_ge e
    of Greater e p f = ap is_ge e

gt_kept : (a b v : Value) → rank a b ≢ Greater → is_gt (rank a v) ≡ true → is_gt (rank b v) ≡ true
gt_kept a b v n h = of (rank a v) refl (rank a b) refl
  where
    above : rank a v ≡ Greater → rank a b ≡ Less → rank b v ≡ Greater
    above e f = rank_total.antisymm b v ∙ ap ordering_reverse (rank_total.trans v a b (rank_total.antisymm v a ∙ ap ordering_reverse e) f)

    of : (o : Ordering) → rank a v ≡ o → (p : Ordering) → rank a b ≡ p → is_gt (rank b v) ≡ true
    of Less e p f = absurd (false≢true (sym (ap is_gt e) ∙ h))
    of Equal e p f = absurd (false≢true (sym (ap is_gt e) ∙ h))
    of Greater e Less f = ap is_gt (above e f)
    of Greater e Equal f = ap is_gt (sym (rank_total.congr a b v f) ∙ e)
    of Greater e Greater f = absurd (n f)

known : (test : Ordering → Bool) (o : Option Ordering) (d : Ordering) → is_none o ≡ false → unwrap_or (option_map test o) false ≡ test (unwrap_or o d)
known test None d e = absurd (false≢true (sym e))
known test (Some o) d e = refl

compared : (test : Ordering → Bool) (a v : Value) → is_none (compare a v) ≡ false → is_true_of test (compare a v) ≡ test (rank a v)
compared test a v e = known test (compare a v) _ e

null_last : (a b : Value) → rank a b ≢ Greater → is_null a ≡ false → is_null b ≡ false
null_last Null b n e = absurd (false≢true (sym e))
null_last (Number u s) Null n e = absurd (n refl)
null_last (Text t) Null n e = absurd (n refl)
null_last (Number u s) (Number v r) n e = refl
null_last (Number u s) (Text t) n e = refl
null_last (Text t) (Number v r) n e = refl
null_last (Text t) (Text x) n e = refl

abbrev pub passes : Limit → Value → Bool
passes limit v = not (is_null v) && is_from limit v

both : (a b : Bool) → (a && b) ≡ true → (a ≡ true) × (b ≡ true)
both true b h = (refl, h)
both false b h = absurd (false≢true h)

not_true : (b : Bool) → not b ≡ true → b ≡ false
not_true false h = refl
not_true true h = absurd (false≢true h)

from_rises : (type : SqlType) (limit : Limit) (a b : Value) → AreMet type limit → IsHeld type a → IsHeld type b → rank a b ≢ Greater → is_null a ≡ false → is_null b ≡ false → is_from limit a ≡ true → is_from limit b ≡ true
from_rises type Unlimited a b m h l n i j p = refl
from_rises type (Inclusive v) a b m h l n i j p = compared is_ge b v (m b l ∙ j) ∙ ge_kept a b v n (sym (compared is_ge a v (m a h ∙ i)) ∙ p)
from_rises type (Exclusive v) a b m h l n i j p = compared is_gt b v (m b l ∙ j) ∙ gt_kept a b v n (sym (compared is_gt a v (m a h ∙ i)) ∙ p)

pub passes_rises : (type : SqlType) (limit : Limit) (a b : Value) → AreMet type limit → IsHeld type a → IsHeld type b → rank a b ≢ Greater → passes limit a ≡ true → passes limit b ≡ true
passes_rises type limit a b m h l n p =
    let q = both (not (is_null a)) (is_from limit a) p in
    let i = not_true (is_null a) q.0 in
    let j = null_last a b n i in
    ap₂ (λ x y. not x && y) j (from_rises type limit a b m h l n i j q.1)

-- ---- what is up to a bound is what isn't behind it

le_gt : (o : Ordering) → is_le o ≡ not (is_gt o)
le_gt Less = refl
le_gt Equal = refl
le_gt Greater = refl

lt_ge : (o : Ordering) → is_lt o ≡ not (is_ge o)
lt_ge Less = refl
lt_ge Equal = refl
lt_ge Greater = refl

up_to : (type : SqlType) (high : Limit) (v : Value) → high ≢ Unlimited → AreMet type (turned_limit high) → IsHeld type v → is_null v ≡ false → is_up_to high v ≡ not (passes (turned_limit high) v)
up_to type Unlimited v n m h i = absurd (n refl)
up_to type (Inclusive x) v n m h i =
    compared is_le v x (m v h ∙ i) ∙ le_gt (rank v x) ∙ ap not (sym (compared is_gt v x (m v h ∙ i)) ∙ ap (λ b. not b && is_true_of is_gt (compare v x)) (sym i))
up_to type (Exclusive x) v n m h i =
    compared is_lt v x (m v h ∙ i) ∙ lt_ge (rank v x) ∙ ap not (sym (compared is_ge v x (m v h ∙ i)) ∙ ap (λ b. not b && is_true_of is_ge (compare v x)) (sym i))

-- ---- no value is among those of a limit of another kind

apart_from : (type : SqlType) (limit : Limit) (v : Value) → AreApart type limit → IsHeld type v → is_from limit v ≡ false
apart_from type Unlimited v a h = absurd a
apart_from type (Inclusive x) v a h = ap (is_true_of is_ge) (a v h)
apart_from type (Exclusive x) v a h = ap (is_true_of is_gt) (a v h)

apart_up_to : (type : SqlType) (limit : Limit) (v : Value) → AreApart type (turned_limit limit) → IsHeld type v → is_up_to limit v ≡ false
apart_up_to type Unlimited v a h = absurd a
apart_up_to type (Inclusive x) v a h = ap (is_true_of is_le) (a v h)
apart_up_to type (Exclusive x) v a h = ap (is_true_of is_lt) (a v h)

mid_false : (a b c : Bool) → b ≡ false → (a && b && c) ≡ false
mid_false true true c e = absurd (false≢true (sym e))
mid_false true false c e = refl
mid_false false b c e = refl

last_false : (a b c : Bool) → c ≡ false → (a && b && c) ≡ false
last_false a b true e = absurd (false≢true (sym e))
last_false true true false e = refl
last_false true false false e = refl
last_false false b false e = refl

abbrev pub lies : Limit → Limit → Value → Bool
lies low high v = not (is_null v) && is_from low v && is_up_to high v

nowhere : (place at : ℕ) → (not (nat_lt place at) && nat_lt place at) ≡ false
nowhere place at = of (nat_lt place at)
  where
    of : (b : Bool) → (not b && b) ≡ false
    of true = refl
    of false = refl

pub none_from : (type : SqlType) (low high : Limit) (v : Value) (place at : ℕ) → AreApart type low → IsHeld type v → (not (nat_lt place at) && nat_lt place at) ≡ lies low high v
none_from type low high v place at a h = nowhere place at ∙ sym (mid_false (not (is_null v)) (is_from low v) (is_up_to high v) (apart_from type low v a h))

pub none_up_to : (type : SqlType) (low high : Limit) (v : Value) (place at : ℕ) → AreApart type (turned_limit high) → IsHeld type v → (not (nat_lt place at) && nat_lt place at) ≡ lies low high v
none_up_to type low high v place at a h = nowhere place at ∙ sym (last_false (not (is_null v)) (is_from low v) (is_up_to high v) (apart_up_to type high v a h))

-- ---- the places of a range

module _ (type : SqlType) (low high : Limit) (values : ℕ → Value) (first end from : ℕ) (held : (i : ℕ) → IsHeld type (values i)) (split : Splits (λ i. passes low (values i)) first end from) where
  before_none : (place to : ℕ) → first ≤ place → place < from → (not (nat_lt place from) && nat_lt place to) ≡ lies low high (values place)
  before_none place to h l =
      let e : nat_lt place from ≡ true = grind (arith, nat_tests) in
      rw e (sym (of (not (is_null (values place))) (is_from low (values place)) (is_up_to high (values place)) (split.fail place h l)))
    where
      of : (a b c : Bool) → (a && b) ≡ false → (a && b && c) ≡ false
      of true false c e = refl
      of true true c e = absurd (false≢true (sym e))
      of false b c e = refl

  pub no_end : high ≡ Unlimited → (place : ℕ) → first ≤ place → place < end → (not (nat_lt place from) && nat_lt place end) ≡ lies low high (values place)
  no_end u place h l = of (cases_lt place from)
    where
      of : (place < from) ⊎ (from ≤ place) → (not (nat_lt place from) && nat_lt place end) ≡ lies low high (values place)
      of (inl k) = before_none place end h k
      of (inr k) =
          let e : nat_lt place from ≡ false = grind (arith, nat_tests) in
          let f : nat_lt place end ≡ true = grind (arith, nat_tests) in
          let p = both (not (is_null (values place))) (is_from low (values place)) (split.pass place k l) in
          rw (e, f, u, p.0, p.1) refl

  pub with_end : (to : ℕ) → high ≢ Unlimited → AreMet type (turned_limit high) → Splits (λ i. passes (turned_limit high) (values i)) from end to → (place : ℕ) → first ≤ place → place < end → (not (nat_lt place from) && nat_lt place to) ≡ lies low high (values place)
  with_end to n m s place h l = of (cases_lt place from)
    where
      of : (place < from) ⊎ (from ≤ place) → (not (nat_lt place from) && nat_lt place to) ≡ lies low high (values place)
      of (inl k) = before_none place to h k
      of (inr k) =
          let e : nat_lt place from ≡ false = grind (arith, nat_tests) in
          let p = both (not (is_null (values place))) (is_from low (values place)) (split.pass place k l) in
          let u = up_to type high (values place) n m (held place) (not_true (is_null (values place)) p.0) in
          rw (e, p.0, p.1, u) (by (cases_lt place to))
        where
          by : (place < to) ⊎ (to ≤ place) → nat_lt place to ≡ not (passes (turned_limit high) (values place))
          by (inl j) = let f : nat_lt place to ≡ true = grind (arith, nat_tests) in f ∙ sym (ap not (s.fail place k j))
          by (inr j) = let f : nat_lt place to ≡ false = grind (arith, nat_tests) in f ∙ sym (ap not (s.pass place j l))

-- ---- of the values of a column

split_alike : (f g : ℕ → Bool) (first end at : ℕ) → ((i : ℕ) → f i ≡ g i) → Splits f first end at → Splits g first end at
split_alike f g first end at e s = record { from = s.from; to = s.to; fail = λ i h l. sym (e i) ∙ s.fail i h l; pass = λ i h l. sym (e i) ∙ s.pass i h l }

module _ (now values : CellList) (view : values ≡ now) (all : AllByRecursion (IsHeld values.type) values.values) where
  held_now : (i : ℕ) → IsHeld now.type (value_in now i)
  held_now i = held_at now i (rw view at all)

  module _ (limit : Limit) (start : LowerBound) (some : (cell : Value) → IsHeld values.type cell → starts start cell ≡ (not (is_null cell) && is_from limit cell)) where
    starts_now : (i : ℕ) → starts start (value_in now i) ≡ passes limit (value_in now i)
    starts_now i = some (value_in now i) (rw (ap (λ (c : CellList). c.type) view) (held_now i))

    pub rising_starts : AreMet values.type limit → (first end : ℕ) → ((i j : ℕ) → first ≤ i → i ≤ j → j < end → rank (value_in now i) (value_in now j) ≢ Greater) → AreOrdered (λ place. starts start (value_in now place)) first end
    rising_starts m first end o i j h l k e =
        starts_now j ∙ passes_rises now.type limit (value_in now i) (value_in now j) (rw view at m) (held_now i) (held_now j) (o i j h l k) (sym (starts_now i) ∙ e)

    pub passes_split : (first end at : ℕ) → Splits (λ place. starts start (value_in now place)) first end at → Splits (λ i. passes limit (value_in now i)) first end at
    passes_split first end at s = split_alike (λ place. starts start (value_in now place)) (λ i. passes limit (value_in now i)) first end at starts_now s

  pub nothing_low : (low high : Limit) → AreApart values.type low → (place at : ℕ) → (not (nat_lt place at) && nat_lt place at) ≡ lies low high (value_in now place)
  nothing_low low high a place at = none_from now.type low high (value_in now place) place at (rw view at a) (held_now place)

  pub nothing_high : (low high limit : Limit) → limit ≡ turned_limit high → AreApart values.type limit → (place at : ℕ) → (not (nat_lt place at) && nat_lt place at) ≡ lies low high (value_in now place)
  nothing_high low high limit e a place at = none_up_to now.type low high (value_in now place) place at (rw (e, view) at a) (held_now place)

  pub range_open : (low high : Limit) (start : LowerBound) → ((cell : Value) → IsHeld values.type cell → starts start cell ≡ (not (is_null cell) && is_from low cell)) → (first end from : ℕ) → Splits (λ place. starts start (value_in now place)) first end from
      → high ≡ Unlimited → (place : ℕ) → first ≤ place → place < end → (not (nat_lt place from) && nat_lt place end) ≡ lies low high (value_in now place)
  range_open low high start some first end from s u = no_end now.type low high (λ i. value_in now i) first end from held_now (passes_split low start some first end from s) u

  pub range_closed : (low high limit : Limit) (start stop : LowerBound) → limit ≡ turned_limit high
      → ((cell : Value) → IsHeld values.type cell → starts start cell ≡ (not (is_null cell) && is_from low cell)) → ((cell : Value) → IsHeld values.type cell → starts stop cell ≡ (not (is_null cell) && is_from limit cell)) → AreMet values.type limit
      → (first end from to : ℕ) → Splits (λ place. starts start (value_in now place)) first end from → Splits (λ place. starts stop (value_in now place)) from end to
      → high ≢ Unlimited → (place : ℕ) → first ≤ place → place < end → (not (nat_lt place from) && nat_lt place to) ≡ lies low high (value_in now place)
  range_closed low high limit start stop e some other m first end from to s t n =
      with_end now.type low high (λ i. value_in now i) first end from held_now (passes_split low start some first end from s) to n (rw (e, view) at m)
      (rw e at (passes_split limit stop other from end to t))

pub not_unlimited : (b : Bound code.Value) → b ≢ Unbounded → limit_of b ≢ Unlimited
not_unlimited Unbounded n e = n refl
not_unlimited (Included v) n e = absurd cc
not_unlimited (Excluded v) n e = absurd cc
