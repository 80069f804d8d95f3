-- LOW and HIGH, and the units that they are kept as.
use Rattle.std.proofs.Common.{◌≡◌, ◌∙◌, sym, ap, ℕ, ◌^◌, Option, Some, None, Bool, true, false, arith}
use Rattle.std.specs.Prelude.{ℤ, pos, ◌≤ℤ◌, ◌<ℤ◌, IfNone}
use Rattle.std.specs.Ordering.{int_cmp, MatchOrdering}
use Rattle.std.specs.Cmp.{int_cmp_is, int_ranks}
use Rattle.std.specs.declared.cmp.Ordering.{Ordering}
use Rattle.std.specs.declared.cmp.Ordering.TheVariants.{Less, Equal, Greater}
use Rattle.std.proofs.lemmas.Bool.Decides.{nat_tests}
use Rattle.std.proofs.lemmas.Int.{ints}
use Rattle.definitions.specs.Value.{Value, Number, SqlType, HasType, scale_of, compare}
use Rattle.definitions.specs.Statement.{Bound, Range, GivenStatistics}
use Rattle.definitions.specs.Change.{limit_value, KeptAs}
use Rattle.definitions.specs.Loading.{negated}
use Rattle.definitions.specs.IndexFaults.{Falls, NeverKept}
use Rattle.definitions.proofs.Ranking.{rank_as_compared, power_is_positive, scaled}
use Rattle.definitions.proofs.Changes.{as_equal}
use Rattle.catalog.specs.Statistics.{RefusesRange, RefusesGiven}
use Rattle.catalog.specs.declared.fault.StatisticsFault.{StatisticsFault}
use Rattle.catalog.specs.declared.fault.StatisticsFault.TheVariants as f

-- two bounds compare as the units that they are kept as
pub compared : (type : SqlType) (r : Range) (l h : ℤ) → KeptAs type r.low l → KeptAs type r.high h → compare (limit_value r.low) (limit_value r.high) ≡ Some (int_cmp l h)
compared type r l h low high =
    let scale = scale_of type in
    ap Some (as_equal (Number l scale) (limit_value r.low) (Number h scale) (limit_value r.high) (rank_as_compared (Number l scale) (limit_value r.low) Equal low.1) (rank_as_compared (Number h scale) (limit_value r.high) Equal high.1)
    ∙ sym (scaled l h (10 ^ scale) (power_is_positive scale)))

above : (l h : ℤ) → h <ℤ l → int_cmp l h ≡ Greater
above l h m = sym (int_cmp_is l h Greater m)

pub falls : (type : SqlType) (r : Range) (l h : ℤ) → KeptAs type r.low l → KeptAs type r.high h → h <ℤ l → Falls r
falls type r l h low high m = compared type r l h low high ∙ ap Some (above l h m)

both_ways : (l h : ℤ) → l ≤ℤ h → h <ℤ l → ⊥
both_ways l h m k = grind (arith, nat_tests, ints, m, k)

apart : (l h : ℤ) (o : Ordering) → l ≤ℤ h → o ≡ Greater → MatchOrdering o (l <ℤ h) (l ≡ h) (h <ℤ l) → ⊥
apart l h Less m e k = cc
apart l h Equal m e k = cc
apart l h Greater m e k = both_ways l h m k

abbrev got : Option Ordering → Ordering
got (Some o) = o
got None = Less

pub rises : (type : SqlType) (r : Range) (l h : ℤ) → KeptAs type r.low l → KeptAs type r.high h → l ≤ℤ h → ¬ (Falls r)
rises type r l h low high m fall =
    let greater : int_cmp l h ≡ Greater = ap got (sym (compared type r l h low high) ∙ fall) in
    apart l h (int_cmp l h) m greater (int_ranks l h)

-- a bound as it is written
pub bound_is : (minus : Bool) (units digits scale k : ℕ) → k ≡ scale → Number (negated minus (pos units)) k ≡ limit_value (record { minus = minus; units = units; digits = digits; scale = scale })
bound_is true units digits scale k e = ap (λ s. Number (negated true (pos units)) s) e
bound_is false units digits scale k e = ap (λ s. Number (negated false (pos units)) s) e

-- no value is equal to a bound where none is to the number that it writes
pub never : (type : SqlType) (o : Option ℤ) (b : Bound) (v : Value) → v ≡ limit_value b → IfNone o ((w : Value) → HasType type w × (compare w v ≡ Some Equal) → ⊥) → IfNone o (NeverKept type b)
never type (Some u) b v e h = h
never type None b v e h = λ units kept. h (Number units (scale_of type)) (rw e kept)

-- a fault of LOW and HIGH is one of the statistics
pub given_refused : (type : SqlType) (given : GivenStatistics) (r : Range) (fault : StatisticsFault) → given.range ≡ Some r → RefusesRange type r fault → RefusesGiven type given fault
given_refused type given r f.Texts e h = (r, e, h)
given_refused type given r (f.Unfit end) e h = (r, e, h)
given_refused type given r f.Falls e h = (r, e, h)
given_refused type given r f.Keys e h = absurd h
given_refused type given r f.Pages e h = absurd h
given_refused type given r f.NoIndex e h = absurd h
given_refused type given r (f.List l) e h = absurd h
