-- The tables that merges bring, one equation after another.
use Prim.Native.Nat.{zero}
use Rattle.std.proofs.Common.{suc, ◌≡◌, ◌≢◌, ◌∙◌, refl, sym, ap, subst, ℕ, ◌+◌, ◌<◌, ◌≤◌, ◌^◌, ◌⊎◌, inl, inr, List, [], ◌∷◌, true, false, Option, Some, None, cond, length, get_or, arith}
use Rattle.std.specs.Prelude.{nat_lt}
use Rattle.std.specs.Int.{bit_at}
use Rattle.std.proofs.lemmas.Bool.{cases_lt}
use Rattle.std.proofs.lemmas.Bool.Decides.{nat_tests}
use Rattle.std.proofs.lemmas.Nat.Bits.{bit_at-zero, bit_at_or, bit_at-lt, bit_at-pow_same}
use Rattle.definitions.specs.Limits.{most_from_tables}
use Rattle.definitions.specs.Plans.TableSet.{TableSet, Has, with_table, only, no_tables}
use Rattle.definitions.specs.Plans.Order.{BlockColumn}
use Rattle.definitions.specs.Plans.Space.{Space}
use Rattle.definitions.specs.Plans.ColumnClass.{SameClass}
use Rattle.definitions.proofs.PlanTheory.TableSets.{has_more, with_has, only_has}
use Rattle.interesting_orders.specs.Labels.{column_at}
use Rattle.interesting_orders.specs.declared.equivalence_classes.Equality.{Equality}
use Rattle.interesting_orders.specs.Places.{AreStated, HaveSides}
use Rattle.interesting_orders.specs.Reach.{reached, AreThose}
use Rattle.interesting_orders.specs.Merges.{IsOpened, OpensSide, IsWithSide}
use Rattle.interesting_orders.proofs.Merging.{IsOneOf, equates, equates_turned, equation_of}

-- one of the first equations opens a merge that brings the table
abbrev pub IsOpenedBy : Space → TableSet → List BlockColumn → BlockColumn → Equality → ℕ → Type 0
IsOpenedBy space tables columns lead e table =
    (OpensSide space tables lead (column_at columns e.left) (column_at columns e.right) × (table ≡ (column_at columns e.right).table))
    ⊎ (OpensSide space tables lead (column_at columns e.right) (column_at columns e.left) × (table ≡ (column_at columns e.left).table))

abbrev pub IsOpenedBefore : Space → TableSet → List BlockColumn → BlockColumn → List (Option Equality) → ℕ → ℕ → Type 0
IsOpenedBefore space tables columns lead es count table =
    (number : ℕ) × (e : Equality) × (number < count) × (get_or es number None ≡ Some e) × IsOpenedBy space tables columns lead e table

-- ---- sets of tables of which something holds

pub none_yet : (Those : ℕ → Type 0) → ((table : ℕ) → Those table → ⊥) → AreThose Those (Some no_tables)
none_yet Those none = ((λ table h. absurd (omega (arith, h, bit_at-zero table))), λ table h. absurd (none table h))

pub same_those : (These Those : ℕ → Type 0) → ((table : ℕ) → These table → Those table) → ((table : ℕ) → Those table → These table) → (tables : Option TableSet) → AreThose These tables → AreThose Those tables
same_those These Those f g None (table, beyond, h) = (table, beyond, f table h)
same_those These Those f g (Some tables) (sound, whole) = ((λ table h. f table (sound table h)), λ table h. whole table (g table h))

pub has_new : (tables table : ℕ) → Has (with_table tables table) table
has_new tables table =
    let m = bit_at_or tables (2 ^ table) table in
    let one : bit_at (2 ^ table) table ≡ 1 = bit_at-pow_same table in
    omega (arith, m, one, bit_at-lt tables table)

module _ (Those : ℕ → Type 0) (table : ℕ) where
  abbrev OrThat : ℕ → Type 0
  OrThat other = Those other ⊎ (other ≡ table)

  one_more_table : (tables : Option TableSet) → AreThose Those tables → AreThose OrThat (reached tables table)
  one_more_table None (other, beyond, h) = (other, beyond, inl h)
  one_more_table (Some tables) are = by_number (cases_lt table most_from_tables)
    where
      of_either : (other : ℕ) → Has tables other ⊎ Has (only table) other → OrThat other
      of_either other (inl h) = inl (are.0 other h)
      of_either other (inr h) = inr (only_has table other h)

      either : (other : ℕ) → OrThat other → Has (with_table tables table) other
      either other (inl h) = has_more tables table other (are.1 other h)
      either other (inr e) = subst (Has (with_table tables table)) (sym e) (has_new tables table)

      by_number : (table < most_from_tables) ⊎ (most_from_tables ≤ table) → AreThose OrThat (reached (Some tables) table)
      by_number (inl lt) =
          let yes : nat_lt table most_from_tables ≡ true = grind (arith, nat_tests, lt) in
          subst (λ b. AreThose OrThat (cond b (Some (with_table tables table)) None)) (sym yes) ((λ other h. of_either other (with_has tables table other h)), either)
      by_number (inr ge) =
          let not_below : nat_lt table most_from_tables ≡ false = grind (arith, nat_tests, ge) in
          subst (λ b. AreThose OrThat (cond b (Some (with_table tables table)) None)) (sym not_below) (table, ge, inr refl)

-- ---- from equation to equation

module _ (space : Space) (tables : TableSet) (lead : BlockColumn) where
  with_side : (Those : ℕ → Type 0) (from to : BlockColumn) (before after : Option TableSet) → AreThose Those before → IsWithSide space tables lead from to before after
      → AreThose (λ table. Those table ⊎ (OpensSide space tables lead from to × (table ≡ to.table))) after
  with_side Those from to before after are (inl (opens, is)) =
      rw is (same_those (λ table. Those table ⊎ (table ≡ to.table)) (λ table. Those table ⊎ (OpensSide space tables lead from to × (table ≡ to.table)))
      (λ table. on_right table) (λ table. off_right table) (reached before to.table) (one_more_table Those to.table before are))
    where
      on_right : (table : ℕ) → Those table ⊎ (table ≡ to.table) → Those table ⊎ (OpensSide space tables lead from to × (table ≡ to.table))
      on_right table (inl h) = inl h
      on_right table (inr e) = inr (opens, e)

      off_right : (table : ℕ) → Those table ⊎ (OpensSide space tables lead from to × (table ≡ to.table)) → Those table ⊎ (table ≡ to.table)
      off_right table (inl h) = inl h
      off_right table (inr both) = inr both.1
  with_side Those from to before after are (inr (not_open, is)) =
      rw is (same_those Those (λ table. Those table ⊎ (OpensSide space tables lead from to × (table ≡ to.table))) (λ table h. inl h) (λ table. only_left table) before are)
    where
      only_left : (table : ℕ) → Those table ⊎ (OpensSide space tables lead from to × (table ≡ to.table)) → Those table
      only_left table (inl h) = h
      only_left table (inr both) = absurd (not_open both.0)

  module _ (columns : List BlockColumn) (es : List (Option Equality)) (count : ℕ) where
    abbrev Before : ℕ → ℕ → Type 0
    Before = IsOpenedBefore space tables columns lead es

    later : (table : ℕ) → Before count table → Before (count + 1) table
    later table (number, e, lt, is, by') = (number, e, omega (arith, lt), is, by')

    pub nothing_opened : get_or es count None ≡ None → (partners : Option TableSet) → AreThose (Before count) partners → AreThose (Before (count + 1)) partners
    nothing_opened none partners are = same_those (Before count) (Before (count + 1)) (λ table. later table) (λ table. earlier table) partners are
      where
        earlier : (table : ℕ) → Before (count + 1) table → Before count table
        earlier table (number, e, lt, is, by') = of_place (cases_lt number count)
          where
            of_place : (number < count) ⊎ (count ≤ number) → Before count table
            of_place (inl less) = (number, e, less, is, by')
            of_place (inr ge) =
                let here : number ≡ count = omega (arith, lt, ge) in
                let both : None ≡ Some e = sym (subst (λ n. get_or es n None ≡ None) (sym here) none) ∙ is in absurd cc

    module _ (e : Equality) (is : get_or es count None ≡ Some e) where
      abbrev left : BlockColumn
      left = column_at columns e.left

      abbrev right : BlockColumn
      right = column_at columns e.right

      abbrev BeforeOrHere : ℕ → Type 0
      BeforeOrHere table = (Before count table ⊎ (OpensSide space tables lead left right × (table ≡ right.table))) ⊎ (OpensSide space tables lead right left × (table ≡ left.table))

      so_far : (table : ℕ) → BeforeOrHere table → Before (count + 1) table
      so_far table (inl (inl h)) = later table h
      so_far table (inl (inr h)) = (count, e, omega arith, is, inl h)
      so_far table (inr h) = (count, e, omega arith, is, inr h)

      or_here : (table : ℕ) → Before (count + 1) table → BeforeOrHere table
      or_here table (number, f, lt, is', by') = of_place (cases_lt number count)
        where
          of_sides : IsOpenedBy space tables columns lead e table → BeforeOrHere table
          of_sides (inl h) = inl (inr h)
          of_sides (inr h) = inr h

          of_place : (number < count) ⊎ (count ≤ number) → BeforeOrHere table
          of_place (inl less) = inl (inl (number, f, less, is', by'))
          of_place (inr ge) =
              let here : number ≡ count = omega (arith, lt, ge) in
              let both : Some f ≡ Some e = sym is' ∙ subst (λ n. get_or es n None ≡ Some e) (sym here) is in
              let same : f ≡ e = cc in
              of_sides (subst (λ d. IsOpenedBy space tables columns lead d table) same by')

      pub next_opened : (before between after : Option TableSet) → AreThose (Before count) before → IsWithSide space tables lead left right before between → IsWithSide space tables lead right left between after
          → AreThose (Before (count + 1)) after
      next_opened before between after are first second =
          same_those BeforeOrHere (Before (count + 1)) (λ table. so_far table) (λ table. or_here table) after
          (with_side (λ table. Before count table ⊎ (OpensSide space tables lead left right × (table ≡ right.table))) right left between after
          (with_side (Before count) left right before between are first) second)

  -- all equations together are what conjuncts say
  module _ (columns : List BlockColumn) (es : List (Option Equality)) (has : HaveSides columns space.conjuncts) (stated : AreStated columns space.conjuncts es) where
    below : (xs : List (Option Equality)) (number : ℕ) (e : Equality) → get_or xs number None ≡ Some e → number < length xs
    below [] zero e h = absurd cc
    below [] (suc number) e h = absurd cc
    below (x ∷ xs) zero e h = omega arith
    below (x ∷ xs) (suc number) e h = omega (arith, below xs number e h)

    opened : (count table : ℕ) → IsOpenedBefore space tables columns lead es count table → IsOpened space tables lead table
    opened count table (number, e, lt, is, inl ((differ, same), at)) = (number, column_at columns e.left, column_at columns e.right, (equates space columns es has stated number e is, differ), sym at, same)
    opened count table (number, e, lt, is, inr ((differ, same), at)) = (number, column_at columns e.right, column_at columns e.left, (equates_turned space columns es has stated number e is, differ), sym at, same)

    by_some : (count table : ℕ) → length es ≤ count → IsOpened space tables lead table → IsOpenedBefore space tables columns lead es count table
    by_some count table all (number, x, y, (says, differ), at, same) =
        let e = equation_of space columns es has stated number x y says in
        (number, e.0, omega (arith, all, below es number e.0 e.1), e.1, of_sides e.0 e.2)
      where
        of_sides : (e : Equality) → IsOneOf x y (column_at columns e.left) (column_at columns e.right) → IsOpenedBy space tables columns lead e table
        of_sides e (inl (ex, ey)) = inl ((subst (λ z. z.table ≢ (column_at columns e.right).table) ex (subst (λ z. x.table ≢ z.table) ey differ), subst (SameClass space tables lead) ex same), sym at ∙ ap (λ (z : BlockColumn). z.table) ey)
        of_sides e (inr (ex, ey)) = inr ((subst (λ z. z.table ≢ (column_at columns e.left).table) ex (subst (λ z. x.table ≢ z.table) ey differ), subst (SameClass space tables lead) ex same), sym at ∙ ap (λ (z : BlockColumn). z.table) ey)

    pub all_opened : (count : ℕ) (partners : Option TableSet) → length es ≤ count → AreThose (IsOpenedBefore space tables columns lead es count) partners → AreThose (IsOpened space tables lead) partners
    all_opened count partners all are = same_those (IsOpenedBefore space tables columns lead es count) (IsOpened space tables lead) (λ table. opened count table) (λ table. by_some count table all) partners are
