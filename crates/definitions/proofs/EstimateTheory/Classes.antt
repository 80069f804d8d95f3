-- When a merge may go by a conjunct, in a chain of three tables.
use Prim.Native.Nat.{zero}
use Rattle.std.proofs.lemmas.Bool.{false≢true}
use Rattle.std.proofs.Common.{suc, false, ◌≡◌, ℕ, ◌⊎◌, true, slice_get, slice_index_or, ◌<◌, inl, inr, refl, lit≤, arith, Some, None, Option}
use Rattle.definitions.specs.Plans.TableSet.{Has, Lacks}
use Rattle.definitions.specs.Plans.Order.{BlockColumn, SortKey, ascending}
use Rattle.definitions.specs.Plans.Conjunct.{Conjunct}
use Rattle.definitions.specs.Plans.Path.{SegmentScan}
use Rattle.definitions.specs.Estimates.PlanConjuncts.{plan_conjuncts}
use Rattle.definitions.specs.Estimates.Version.{Two, Three}
use Rattle.definitions.specs.Estimates.BlockSpace.{space_of}
use Rattle.definitions.specs.Examples.Estimates.Setups.{column_at}
use Rattle.definitions.specs.Examples.Estimates.Products.{three_small, chain_of_three, product_merged_by, ClassesNeedTheirTables}
use Rattle.definitions.specs.Plans.Plan.{Access, Loop, Sort}
use Rattle.definitions.specs.Plans.ColumnClass.{Equates, itself, Satisfies}
use Rattle.definitions.specs.Plans.PlanSpace.{Links, IsMergeConjunct, IsInner, IsPlan, access, loop, merge, sort}
use Rattle.definitions.proofs.PlanTheory.TableSets.{only_has}
use Rattle.definitions.proofs.PlanTheory.Orders.{same_closed}

over_first : (k : ℕ) (d : SortKey) → k < 1 → Has 1 (slice_index_or (ascending (column_at 0 0)) k d).column.table
over_first k d lt = let e : k ≡ 0 = omega arith in rw e refl

looped : IsPlan (space_of Three three_small chain_of_three) (Loop (Sort (Access (SegmentScan 0)) 1) (SegmentScan 2))
looped = loop (Sort (Access (SegmentScan 0)) 1) (SegmentScan 2) (sort (Access (SegmentScan 0)) 1 (access (SegmentScan 0) (lit≤ tt) (0, lit≤ tt, refl)) (λ e. absurd (omega (arith, e)), (lit≤ tt, over_first)))
    ((lit≤ tt, refl, inl refl), (0, lit≤ tt, refl))

merged : IsPlan (space_of Three three_small chain_of_three) (product_merged_by 0)
merged = merge (Loop (Sort (Access (SegmentScan 0)) 1) (SegmentScan 2)) 0 (record { path = SegmentScan 1; sorted = true }) looped
    ((lit≤ tt, refl, inl refl), ((column_at 0 0), (column_at 1 0), ((_, refl, refl, inl refl), λ e. absurd (omega (arith, e))), refl, refl, (refl, itself (column_at 0 0), tt), ((0, lit≤ tt, refl), inl refl)))

-- B is a table of each conjunct
abbrev SidesTouch : Option (BlockColumn × BlockColumn) → Type 0
SidesTouch None = Unit {0}
SidesTouch (Some (a, b)) = (a.table ≡ 1) ⊎ (b.table ≡ 1)

abbrev Touches : Option Conjunct → Type 0
Touches None = Unit {0}
Touches (Some c) = SidesTouch c.equated

touches : (g : ℕ) → Touches (slice_get (plan_conjuncts three_small chain_of_three) g)
touches zero = inr refl
touches (suc zero) = inl refl
touches (suc (suc g)) = tt

outside : (a : BlockColumn) → Has 5 a.table → a.table ≡ 1 → ⊥
outside a h e = let h' : Has 5 1 = rw e at h in absurd (omega (arith, h'))

of_sides : (a b : BlockColumn) → Has 5 a.table → Has 5 b.table → (a.table ≡ 1) ⊎ (b.table ≡ 1) → ⊥
of_sides a b ha hb (inl e) = outside a ha e
of_sides a b ha hb (inr e) = outside b hb e

-- in {A, C} no conjunct joins two columns
none_joined : (g : ℕ) (a b : BlockColumn) → Equates (space_of Three three_small chain_of_three) g a b → Has 5 a.table → Has 5 b.table → a ≡ (column_at 0 0) → b ≡ (column_at 0 0)
none_joined g a b (c, is, early, inl e) ha hb ax = let at_c : Touches (Some c) = rw is at (touches g) in let t : SidesTouch (Some (a, b)) = rw e at at_c in absurd (of_sides a b ha hb t)
none_joined g a b (c, is, early, inr e) ha hb ax = let at_c : Touches (Some c) = rw is at (touches g) in let t : SidesTouch (Some (b, a)) = rw e at at_c in absurd (of_sides b a hb ha t)

-- A is no table of the second conjunct
abbrev SidesLate : Option (BlockColumn × BlockColumn) → Type 0
SidesLate None = Unit {0}
SidesLate (Some (a, b)) = (0 < a.table) × (0 < b.table)

abbrev Late : Option Conjunct → Type 0
Late None = Unit {0}
Late (Some c) = SidesLate c.equated

late : (g : ℕ) → 0 < g → Late (slice_get (plan_conjuncts three_small chain_of_three) g)
late zero h = absurd (omega arith)
late (suc zero) h = (lit≤ tt, lit≤ tt)
late (suc (suc g)) h = tt

not_x : (g : ℕ) → 0 < g → (x y : BlockColumn) → Equates (space_of Three three_small chain_of_three) g x y → x ≡ (column_at 0 0) → ⊥
not_x g some x y (c, is, early, inl e) ex =
    let at_c : Late (Some c) = rw is at (late g some) in
    let t : SidesLate (Some (x, y)) = rw e at at_c in
    let z : 0 < (column_at 0 0).table = rw ex at (t.0) in absurd (omega (arith, z))
not_x g some x y (c, is, early, inr e) ex =
    let at_c : Late (Some c) = rw is at (late g some) in
    let t : SidesLate (Some (y, x)) = rw e at at_c in
    let z : 0 < (column_at 0 0).table = rw ex at (t.1) in absurd (omega (arith, z))

not_merged : IsPlan (space_of Three three_small chain_of_three) (product_merged_by 1) → ⊥
not_merged (merge p g i r can) = by_parts can.1
  where
    by_parts : (x : BlockColumn) × (y : BlockColumn) × IsMergeConjunct (space_of Three three_small chain_of_three) 1 x y × Has 5 x.table × (y.table ≡ 1) × Satisfies (space_of Three three_small chain_of_three) 5 (ascending (column_at 0 0)) (ascending x) × IsInner (space_of Three three_small chain_of_three) y (record { path = SegmentScan 1; sorted = true }) → ⊥
    by_parts (x, y, m, hx, ey, (d, same, u), inner) = not_x 1 (lit≤ tt) x y m.0 (same_closed (space_of Three three_small chain_of_three) 5 (λ c. c ≡ (column_at 0 0)) none_joined (column_at 0 0) x same refl)

-- B is linked to A, and C isn't
abbrev Named : Option Conjunct → Type 0
Named None = Unit {0}
Named (Some c) = (c.tables ≡ 3) ⊎ (c.tables ≡ 6)

named : (g : ℕ) → Named (slice_get (plan_conjuncts three_small chain_of_three) g)
named zero = inl refl
named (suc zero) = inr refl
named (suc (suc g)) = tt

not_linked : (c : Conjunct) (u : ℕ) → Named (Some c) → Has c.tables 2 → Has 1 u → Has c.tables u → ⊥
not_linked c u (inl e) two common h = let h' : Has 3 2 = rw e at two in absurd (omega (arith, h'))
not_linked c u (inr e) two common h = let h' : Has 6 u = rw e at h in let z : u ≡ 0 = only_has 0 u common in let h'' : Has 6 0 = rw z at h' in absurd (omega (arith, h''))

b_linked : Links (space_of Two three_small chain_of_three) 1 1
b_linked = (0, _, refl, refl, refl, (0, refl, refl), λ u h. h)

none_allowed : ((false ≡ true) ⊎ Links (space_of Two three_small chain_of_three) 1 2 ⊎ ((u : ℕ) → u < 3 → Lacks 1 u → Links (space_of Two three_small chain_of_three) 1 u → ⊥)) → ⊥
none_allowed (inl e) = false≢true e
none_allowed (inr (inl (g, c, is, early, two, (u, common, h), rest))) = let n : Named (Some c) = rw is at (named g) in not_linked c u n two common h
none_allowed (inr (inr none)) = none 1 (lit≤ tt) refl b_linked

not_looped : IsPlan (space_of Two three_small chain_of_three) (Loop (Sort (Access (SegmentScan 0)) 1) (SegmentScan 2)) → ⊥
not_looped (loop p a r can) = none_allowed can.0.2

not_allowed : (number : ℕ) → IsPlan (space_of Two three_small chain_of_three) (product_merged_by number) → ⊥
not_allowed number (merge p g i r can) = not_looped r

pub classes : ClassesNeedTheirTables
classes = ((merged, refl), λ h. not_merged h.0, λ h. not_allowed 0 h.0, λ h. not_allowed 1 h.0)
