-- Two blocks that a text refers to in the same way: what is there in one is there in the other, and what is meant is the same.
use Rattle.std.proofs.Common.{◌≡◌, ◌∙◌, refl, sym, ap, ap₂, subst, ℕ, ◌+◌, ◌-◌, ◌<◌, ◌≤◌, List, [], length, get_or, map}
use Rattle.std.specs.Prelude.{All}
use Rattle.std.proofs.lemmas.List.{length-replicate}
use Rattle.definitions.specs.Plans.Order.{SortKey, Order}
use Rattle.definitions.specs.Plans.Path.{Path, SegmentScan, IndexScan, MatchingScan}
use Rattle.definitions.specs.Plans.Plan.{Plan, Access, Loop, Merge, Sort}
use Rattle.definitions.specs.Plans.TableSet.{Has, first_tables}
use Rattle.definitions.specs.Plans.Certificate.{StateCost}
use Rattle.definitions.specs.Estimates.Version.{Version}
use Rattle.definitions.specs.Certificates.CertifiedBlock as c
use Rattle.definitions.specs.Certificates.Text.{Written}
use Rattle.definitions.specs.Certificates.Spelling.{index_meant, path_meant, plan_meant, IsOneOf, IndexIsThere, TableIsThere, ConjunctIsThere, PathIsThere, PlanIsThere, StateIsThere, AreThere}
use Rattle.certificate.specs.Blocks.{IsOf, block_in, any_conjunct}
use Rattle.certificate.specs.declared.certified.CertifiedBlock.{CertifiedBlock}

pub record Alike (a b : c.CertifiedBlock) : Type 0 where
  pub version : a.version ≡ b.version
  pub number : a.number ≡ b.number
  pub tables : a.space.table_count ≡ b.space.table_count
  pub conjuncts : length a.space.conjuncts ≡ length b.space.conjuncts
  pub orders : a.space.orders ≡ b.space.orders
  pub indexes : a.indexes ≡ b.indexes

pub alike_back : (a b : c.CertifiedBlock) → Alike a b → Alike b a
alike_back a b is = record {
  version = sym is.version;
  number = sym is.number;
  tables = sym is.tables;
  conjuncts = sym is.conjuncts;
  orders = sym is.orders;
  indexes = sym is.indexes;
}

pub alike_in : (of : c.CertifiedBlock) (s : CertifiedBlock) → IsOf of s → Alike of (block_in s)
alike_in of s is = record {
  version = is.version;
  number = is.number;
  tables = is.tables;
  conjuncts = is.conjuncts ∙ sym (length-replicate s.conjunct_count any_conjunct);
  orders = is.orders;
  indexes = is.indexes;
}

module _ (a b : c.CertifiedBlock) (is : Alike a b) where
  index_meant_alike : (table index : ℕ) → index_meant a.version (c.indexes_of a table) index ≡ index_meant b.version (c.indexes_of b table) index
  index_meant_alike table index = ap₂ (λ (v : Version) (xs : List (List (List ℕ))). index_meant v (get_or xs table []) index) is.version is.indexes

  path_meant_alike : (path : Path) → path_meant a path ≡ path_meant b path
  path_meant_alike (SegmentScan table) = refl
  path_meant_alike (IndexScan table index backward) = ap (λ (i : ℕ). IndexScan (table - 1) i backward) (index_meant_alike (table - 1) index)
  path_meant_alike (MatchingScan table index conjuncts backward) =
      ap (λ (i : ℕ). MatchingScan (table - 1) i (map (λ number. number - 1) conjuncts) backward) (index_meant_alike (table - 1) index)

  pub plan_meant_alike : (plan : Plan) → plan_meant a plan ≡ plan_meant b plan
  plan_meant_alike (Access path) = ap Access (path_meant_alike path)
  plan_meant_alike (Loop outer path) = ap₂ Loop (plan_meant_alike outer) (path_meant_alike path)
  plan_meant_alike (Merge outer conjunct inner) =
      ap₂ (λ (p : Plan) (q : Path). Merge p (conjunct - 1) (record inner { path = q })) (plan_meant_alike outer) (path_meant_alike inner.path)
  plan_meant_alike (Sort input order) = ap (λ (p : Plan). Sort p order) (plan_meant_alike input)

  table_alike : (table : ℕ) → TableIsThere a table → TableIsThere b table
  table_alike table h = subst (λ (n : ℕ). IsOneOf n table) is.tables h

  conjunct_alike : (number : ℕ) → ConjunctIsThere a number → ConjunctIsThere b number
  conjunct_alike number h = subst (λ (n : ℕ). IsOneOf n number) is.conjuncts h

  index_alike : (table index : ℕ) → IndexIsThere a.version (c.indexes_of a table) index → IndexIsThere b.version (c.indexes_of b table) index
  index_alike table index h =
      subst (λ (v : Version). IndexIsThere v (get_or b.indexes table []) index) is.version
      (subst (λ (xs : List (List (List ℕ))). IndexIsThere a.version (get_or xs table []) index) is.indexes h)

  path_alike : (path : Path) → PathIsThere a path → PathIsThere b path
  path_alike (SegmentScan table) h = table_alike table h
  path_alike (IndexScan table index backward) h = (table_alike table h.0, index_alike (table - 1) index h.1)
  path_alike (MatchingScan table index conjuncts backward) h =
      (table_alike table h.0, index_alike (table - 1) index h.1, λ i d lt. conjunct_alike (get_or conjuncts i d) (h.2 i d lt))

  plan_alike : (plan : Plan) → PlanIsThere a plan → PlanIsThere b plan
  plan_alike (Access path) h = path_alike path h
  plan_alike (Loop outer path) h = (plan_alike outer h.0, path_alike path h.1)
  plan_alike (Merge outer conjunct inner) h = (plan_alike outer h.0, conjunct_alike conjunct h.1, path_alike inner.path h.2)
  plan_alike (Sort input order) h = (plan_alike input h.0, subst (λ (os : List Order). order < length os) is.orders h.1)

  state_alike : (state : StateCost) → StateIsThere a state → StateIsThere b state
  state_alike state h = (
    h.0,
    subst (λ (n : ℕ). state.tables ≤ first_tables n) is.tables h.1,
    subst (λ (os : List Order). (state.order < length os) × All (λ (key : SortKey). Has state.tables key.column.table) (get_or os state.order [])) is.orders h.2,
  )

  pub there_alike : (said : Written) → AreThere a said → AreThere b said
  there_alike said h =
      (h.0 ∙ ap (λ (n : ℕ). n + 1) is.number, plan_alike said.plan h.1, λ i d lt. state_alike (get_or said.certificate.states i d) (h.2 i d lt))
