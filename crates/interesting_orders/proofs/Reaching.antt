-- Sets that have all tables of an order's columns, or of the merges that it opens.
use Rattle.std.proofs.Common.{◌≡◌, refl, sym, subst, ℕ, ◌<◌, ◌≤◌, ◌^◌, ◌⊎◌, inl, inr, [], ◌∷◌, Bool, true, false, Option, Some, None, cond, arith}
use Rattle.std.specs.Prelude.{not, nat_lt, option_map}
use Rattle.std.specs.Bool.{Decides}
use Rattle.std.specs.List.{AllByRecursion}
use Rattle.std.proofs.lemmas.Bool.{cases_lt}
use Rattle.std.proofs.lemmas.Bool.Decides.{nat_tests}
use Rattle.std.proofs.lemmas.Nat.Bits.{bit_at_above, bit_at-zero}
use Rattle.definitions.specs.Limits.{most_from_tables}
use Rattle.definitions.specs.Plans.TableSet.{TableSet, Has, Lacks, no_tables, only, with_table}
use Rattle.definitions.specs.Plans.Order.{SortKey, Order}
use Rattle.definitions.specs.Plans.Space.{Space}
use Rattle.definitions.specs.Plans.Folding.{OpensMerge}
use Rattle.definitions.proofs.PlanTheory.TableSets.{has_more, with_has, only_has}
use Rattle.plan_tree.specs.Sets.{set_of}
use Rattle.plan_tree.specs.declared.table_set.TableSet.{TableSet as Code}
use Rattle.plan_tree.proofs.Tests.{within_has, has_within, missing}
use Rattle.interesting_orders.specs.Reach.{reached, key_tables, is_reached, AreThose}
use Rattle.interesting_orders.specs.Merges.{leading_of, IsPartner}
use Rattle.interesting_orders.proofs.Opening.{has_new}

module _ (set : TableSet) (few : set < 2 ^ most_from_tables) where
  lacks_beyond : (table : ℕ) → most_from_tables ≤ table → Lacks set table
  lacks_beyond table beyond = bit_at_above set most_from_tables table few beyond

  -- ---- one table more

  with_one : (tables : Option TableSet) (table : ℕ) → is_reached (reached tables table) set ≡ true → (is_reached tables set ≡ true) × Has set table
  with_one None table e = absurd cc
  with_one (Some tables) table e = by_number (cases_lt table most_from_tables)
    where
      by_number : (table < most_from_tables) ⊎ (most_from_tables ≤ table) → (is_reached (Some tables) set ≡ true) × Has set table
      by_number (inl lt) =
          let yes : nat_lt table most_from_tables ≡ true = grind (arith, nat_tests, lt) in
          let within = subst (λ b. is_reached (cond b (Some (with_table tables table)) None) set ≡ true) yes e in
          let all = within_has (with_table tables table) set within in
          (has_within tables set (λ u h. all u (has_more tables table u h)), all table (has_new tables table))
      by_number (inr ge) =
          let beyond : nat_lt table most_from_tables ≡ false = grind (arith, nat_tests, ge) in
          let never : false ≡ true = subst (λ b. is_reached (cond b (Some (with_table tables table)) None) set ≡ true) beyond e in absurd cc

  one_with : (tables : Option TableSet) (table : ℕ) → is_reached tables set ≡ true → Has set table → is_reached (reached tables table) set ≡ true
  one_with None table e h = e
  one_with (Some tables) table e h = by_number (cases_lt table most_from_tables)
    where
      of_either : (u : ℕ) → Has tables u ⊎ Has (only table) u → Has set u
      of_either u (inl there) = within_has tables set e u there
      of_either u (inr that) = subst (Has set) (sym (only_has table u that)) h

      by_number : (table < most_from_tables) ⊎ (most_from_tables ≤ table) → is_reached (reached (Some tables) table) set ≡ true
      by_number (inl lt) =
          let yes : nat_lt table most_from_tables ≡ true = grind (arith, nat_tests, lt) in
          subst (λ b. is_reached (cond b (Some (with_table tables table)) None) set ≡ true) (sym yes) (has_within (with_table tables table) set (λ u there. of_either u (with_has tables table u there)))
      by_number (inr ge) = absurd (omega (arith, h, lacks_beyond table ge))

  -- ---- the columns of an order

  pub keys_there : (order : Order) (tables : Option TableSet) → is_reached (key_tables tables order) set ≡ true → (is_reached tables set ≡ true) × AllByRecursion (λ (key : SortKey). Has set key.column.table) order
  keys_there [] tables e = (e, tt)
  keys_there (key ∷ rest) tables e =
      let later = keys_there rest (reached tables key.column.table) e in
      let here = with_one tables key.column.table later.0 in
      (here.0, (here.1, later.1))

  pub there_keys : (order : Order) (tables : Option TableSet) → is_reached tables set ≡ true → AllByRecursion (λ (key : SortKey). Has set key.column.table) order → is_reached (key_tables tables order) set ≡ true
  there_keys [] tables e all = e
  there_keys (key ∷ rest) tables e all = there_keys rest (reached tables key.column.table) (one_with tables key.column.table e all.0) all.1

  pub none_needed : is_reached (Some no_tables) set ≡ true
  none_needed = has_within no_tables set (λ table h. absurd (omega (arith, h, bit_at-zero table)))

  -- ---- the merges that an order opens

  module _ (space : Space) where
    opens : (order : Order) (table : ℕ) → IsPartner space (leading_of order) table → Lacks set table → OpensMerge space set order
    opens [] table h lacks = h
    opens (key ∷ rest) table h lacks = by_direction key.descending refl h
      where
        by_direction : (b : Bool) → key.descending ≡ b → IsPartner space (cond b None (Some key.column)) table → OpensMerge space set (key ∷ rest)
        by_direction true e h = absurd h
        by_direction false e (number, x, y, merge, at, same) = (e, (number, x, y, merge, subst (Lacks set) (sym at) lacks, same))

    opened : (order : Order) → OpensMerge space set order → (table : ℕ) × IsPartner space (leading_of order) table × Lacks set table
    opened [] h = absurd h
    opened (key ∷ rest) (e, (number, x, y, merge, lacks, same)) =
        (y.table, subst (λ b. IsPartner space (cond b None (Some key.column)) y.table) (sym e) (number, x, y, merge, refl, same), lacks)

    pub opens_or_not : (order : Order) (partners : Option Code) → AreThose (IsPartner space (leading_of order)) (option_map set_of partners) → Decides (not (is_reached (option_map set_of partners) set)) (OpensMerge space set order)
    opens_or_not order None (table, beyond, h) = ((λ e. opens order table h (lacks_beyond table beyond)), λ o. refl)
    opens_or_not order (Some partners) (sound, all) = ((λ e. of_test (is_reached (Some (set_of partners)) set) refl e), λ o. of_merge (is_reached (Some (set_of partners)) set) refl (opened order o))
      where
        of_test : (b : Bool) → is_reached (Some (set_of partners)) set ≡ b → not b ≡ true → OpensMerge space set order
        of_test true is e = absurd cc
        of_test false is e = let m = missing (set_of partners) set most_from_tables partners.few is in opens order m.0 (sound m.0 m.1) m.2

        of_merge : (b : Bool) → is_reached (Some (set_of partners)) set ≡ b → (table : ℕ) × IsPartner space (leading_of order) table × Lacks set table → not b ≡ true
        of_merge false is o = refl
        of_merge true is (table, h, lacks) = let has = within_has (set_of partners) set is table (all table h) in absurd (omega (arith, has, lacks))
