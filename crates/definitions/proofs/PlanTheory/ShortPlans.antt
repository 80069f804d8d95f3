-- A plan has one of the same tables and order that costs no more, in which no sort stands on a sort: it has at most two words for each table.
use Prim.Native.Nat.{zero}
use Rattle.std.proofs.Common.{suc, ap, ◌∙◌, ◌≡◌, ℕ, ◌+◌, ◌*◌, ◌^◌, ◌≤◌, arith, refl}
use Rattle.std.proofs.lemmas.Nat.Bits.{bit_at_or, bit_at-zero, same_from_bits}
use Rattle.definitions.specs.Plans.TableSet.{only, with_table}
use Rattle.definitions.specs.Plans.Path.{table_of}
use Rattle.definitions.specs.Plans.Plan.{Plan, Access, Loop, Merge, Sort}
use Rattle.definitions.specs.Plans.Space.{Space}
use Rattle.definitions.specs.Plans.PlanSpace.{tables_of, order_of, IsPlan, access, loop, merge, sort}
use Rattle.definitions.specs.Plans.Cost.{cost_of}
use Rattle.definitions.specs.Plans.Search.{IsComplete}
use Rattle.definitions.specs.Certificates.Form.{word_count}
use Rattle.definitions.proofs.PlanTheory.Below.{cost_within}
use Rattle.definitions.proofs.PlanTheory.Growing.{missing, missing_with}

-- without a sort on top
abbrev bare : Plan → Plan
bare (Access path) = Access path
bare (Loop outer path) = Loop outer path
bare (Merge outer number inner) = Merge outer number inner
bare (Sort input order) = input

abbrev pub shorter : Plan → Plan
shorter (Access path) = Access path
shorter (Loop outer path) = Loop (shorter outer) path
shorter (Merge outer number inner) = Merge (shorter outer) number inner
shorter (Sort input order) = Sort (bare (shorter input)) order

-- how many tables a plan reads
abbrev reads : Plan → ℕ
reads (Access path) = 1
reads (Loop outer path) = reads outer + 1
reads (Merge outer number inner) = reads outer + 1
reads (Sort input order) = reads input

all_missing : (n : ℕ) → missing 0 n ≡ n
all_missing zero = refl
all_missing (suc m) = let rest = all_missing m in omega (arith, rest, bit_at-zero m)

with_none : (t : ℕ) → with_table 0 t ≡ only t
with_none t = same_from_bits _ _ (λ u. let m = bit_at_or 0 (2 ^ t) u in omega (arith, m, bit_at-zero u))

module _ (space : Space) (complete : IsComplete space) where
  bare_plan : (p : Plan) → IsPlan space p → IsPlan space (bare p)
  bare_plan (Access path) r = r
  bare_plan (Loop outer path) r = r
  bare_plan (Merge outer number inner) r = r
  bare_plan (Sort input order) (sort input' order' r can) = r

  bare_tables : (p : Plan) → tables_of space (bare p) ≡ tables_of space p
  bare_tables (Access path) = refl
  bare_tables (Loop outer path) = refl
  bare_tables (Merge outer number inner) = refl
  bare_tables (Sort input order) = refl

  bare_cost : (p : Plan) → IsPlan space p → cost_of space (bare p) ≤ cost_of space p
  bare_cost (Access path) r = omega arith
  bare_cost (Loop outer path) r = omega arith
  bare_cost (Merge outer number inner) r = omega arith
  bare_cost (Sort input order) (sort input' order' r can) = let within = cost_within space complete input r in omega (arith, within)

  pub record IsShort (p q : Plan) : Type 0 where
    pub is_plan : IsPlan space q
    pub tables : tables_of space q ≡ tables_of space p
    pub order : order_of space q ≡ order_of space p
    pub cost : cost_of space q ≤ cost_of space p
    pub words : word_count q ≤ 2 * reads p
    bare_words : word_count (bare q) + 1 ≤ 2 * reads p

  pub short : (p : Plan) → IsPlan space p → IsShort p (shorter p)
  short (Access path) r = record { is_plan = r; tables = refl; order = refl; cost = omega arith; words = omega arith; bare_words = omega arith }
  short (Loop outer path) (loop outer' path' r can) =
      let s = short outer r in
      let less = s.cost in
      let few = s.words in
      record {
        is_plan = loop (shorter outer) path s.is_plan (rw s.tables can);
        tables = ap (λ x. with_table x (table_of path)) s.tables;
        order = s.order;
        cost = rw s.tables (omega (arith, less));
        words = omega (arith, few);
        bare_words = omega (arith, few);
      }
  short (Merge outer number inner) (merge outer' number' inner' r can) =
      let s = short outer r in
      let less = s.cost in
      let few = s.words in
      record {
        is_plan = merge (shorter outer) number inner s.is_plan (rw (s.tables, s.order) can);
        tables = ap (λ x. with_table x (table_of inner.path)) s.tables;
        order = s.order;
        cost = rw s.tables (omega (arith, less));
        words = omega (arith, few);
        bare_words = omega (arith, few);
      }
  short (Sort input order) (sort input' order' r can) =
      let s = short input r in
      let less = s.cost in
      let low = bare_cost (shorter input) s.is_plan in
      let same : tables_of space (bare (shorter input)) ≡ tables_of space input = bare_tables (shorter input) ∙ s.tables in
      record {
        is_plan = sort (bare (shorter input)) order (bare_plan (shorter input) s.is_plan) (rw same can);
        tables = same;
        order = refl;
        cost = rw same (omega (arith, less, low));
        words = s.bare_words;
        bare_words = s.bare_words;
      }

  -- a plan reads each table once
  read_and_missing : (p : Plan) → IsPlan space p → reads p + missing (tables_of space p) space.table_count ≡ space.table_count
  read_and_missing (Access path) (access path' lt r) =
      let one = missing_with 0 (table_of path) space.table_count (bit_at-zero (table_of path)) lt in
      let own : missing (only (table_of path)) space.table_count + 1 ≡ missing 0 space.table_count = rw (with_none (table_of path)) at one in
      omega (arith, own, all_missing space.table_count)
  read_and_missing (Loop outer path) (loop outer' path' r can) =
      let rest = read_and_missing outer r in
      let one = missing_with (tables_of space outer) (table_of path) space.table_count can.0.1 can.0.0 in
      omega (arith, rest, one)
  read_and_missing (Merge outer number inner) (merge outer' number' inner' r can) =
      let rest = read_and_missing outer r in
      let one = missing_with (tables_of space outer) (table_of inner.path) space.table_count can.0.1 can.0.0 in
      omega (arith, rest, one)
  read_and_missing (Sort input order) (sort input' order' r can) = read_and_missing input r

  pub few_words : (p : Plan) → IsPlan space p → word_count (shorter p) ≤ 2 * space.table_count
  few_words p r =
      let few = (short p r).words in
      let once = read_and_missing p r in
      omega (arith, few, once)
