-- What orders serve for.
use Rattle.std.proofs.Common.{◌≡◌, sym, subst, ℕ, Option, Some, None}
use Rattle.definitions.specs.Plans.TableSet.{TableSet}
use Rattle.definitions.specs.Plans.Order.{BlockColumn, Order}
use Rattle.definitions.specs.Plans.Space.{Space, whole}
use Rattle.interesting_orders.specs.Places.{HasColumn}
use Rattle.interesting_orders.specs.Reach.{AreThose}
use Rattle.interesting_orders.specs.Merges.{leading_of, IsOpened, IsPartner}
use Rattle.interesting_orders.specs.Equated.{column_in, columns_of, AreEquated, IsLead, IsPlaceOf}
use Rattle.interesting_orders.specs.Uses.{IsReached}
use Rattle.interesting_orders.specs.declared.equated.EquatedColumns.{EquatedColumns}
use Rattle.interesting_orders.proofs.Opening.{same_those}
use Rattle.interesting_orders.proofs.Serving.{alone, equates_both}

module _ (space : Space) (e : EquatedColumns) (equated : AreEquated space e) where
  -- no merge goes by a column that no conjunct equates
  not_opened : (tables : TableSet) (column : BlockColumn) (table : ℕ) → (HasColumn (columns_of e) column → ⊥) → IsOpened space tables column table → ⊥
  not_opened tables column table not_there (number, x, y, merge, at, same) =
      let is = alone space tables (columns_of e) equated.has column x not_there same in
      not_there (subst (HasColumn (columns_of e)) (sym is) (equates_both space tables (columns_of e) equated.has number x y merge.0).0)

  module _ (tables : TableSet) (is_whole : whole space ≡ tables) where
    to_partner : (leading : Option BlockColumn) (lead : Option ℕ) → IsPlaceOf (columns_of e) leading lead → (table : ℕ) → IsReached space e tables lead table → IsPartner space leading table
    to_partner leading None is table h = absurd h
    to_partner None (Some place) is table h = absurd cc
    to_partner (Some column) (Some place) is table h = subst (λ c. IsOpened space (whole space) c table) is.1 (subst (λ s. IsOpened space s (column_in e place) table) (sym is_whole) h)

    from_partner : (leading : Option BlockColumn) (lead : Option ℕ) → IsPlaceOf (columns_of e) leading lead → (table : ℕ) → IsPartner space leading table → IsReached space e tables lead table
    from_partner None lead is table h = absurd h
    from_partner (Some column) None is table h = absurd (not_opened (whole space) column table is h)
    from_partner (Some column) (Some place) is table h = subst (λ s. IsOpened space s (column_in e place) table) is_whole (subst (λ c. IsOpened space (whole space) c table) (sym is.1) h)

pub partners_of : (space : Space) (e : EquatedColumns) (tables : TableSet) (order : Order) (lead : Option ℕ) (partners : Option TableSet) → AreEquated space e → whole space ≡ tables → IsLead e order lead
    → AreThose (IsReached space e tables lead) partners → AreThose (IsPartner space (leading_of order)) partners
partners_of space e tables order lead partners equated is_whole is are =
    same_those (IsReached space e tables lead) (IsPartner space (leading_of order)) (to_partner space e equated tables is_whole (leading_of order) lead is) (from_partner space e equated tables is_whole (leading_of order) lead is) partners are
