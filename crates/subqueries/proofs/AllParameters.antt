-- The parameters of blocks, from the last block to the first.
use Rattle.std.proofs.Common.{◌≡◌, ◌∙◌, refl, sym, ap, ap₂, subst, ℕ, zero, suc, ◌+◌, ◌-◌, ◌<◌, ◌≤◌, List, [], ◌∷◌, ◌++◌, Bool, true, false, Some, length, map, drop, get_or, set, arith}
use Rattle.std.specs.Prelude.{◌==◌, if◌then◌else◌, flat_map, slice_get}
use Rattle.std.specs.Global.{Vec}
use Rattle.std.proofs.lemmas.Bool.Decides.{nat_tests}
use Rattle.std.proofs.lemmas.List.{append-nil, map_push}
use Rattle.std.proofs.lemmas.Option.{slice_get-get_or, slice_get_past}
use Rattle.definitions.specs.Queries.BoundBlock.{Block, Blocks}
use Rattle.definitions.specs.Plans.Order.{BlockColumn}
use Rattle.definitions_answers.specs.Parameters.{OuterColumn, asked_blocks, lowered, one_lowered, own_parameters, parameters_from}
use Rattle.query_tree.specs.Bound.{block_of, column_of}
use Rattle.query_tree.specs.declared.block.Block.{Block as Block'}
use Rattle.subqueries.specs.OuterColumns.{columns_of_option, inner_parameters, outer_column_of, outer_columns_of, parameters_at}
use Rattle.subqueries.specs.declared.parameters.OuterColumn.{OuterColumn as Code}
use Rattle.subqueries.proofs.Lists.{next}

-- ---- lists that are set

get_set_same : {X : Type 0} (xs : List X) (n : ℕ) (y : X) → n < length xs → slice_get (set xs n y) n ≡ Some y
get_set_same [] n y h = absurd (omega (arith, h))
get_set_same (x ∷ xs) zero y h = refl
get_set_same (x ∷ xs) (suc n) y h = get_set_same xs n y (omega (arith, h))

get_set_other : {X : Type 0} (xs : List X) (n k : ℕ) (y : X) → (k ≡ n → ⊥) → slice_get (set xs n y) k ≡ slice_get xs k
get_set_other [] n k y h = refl
get_set_other (x ∷ xs) zero zero y h = absurd (h refl)
get_set_other (x ∷ xs) zero (suc k) y h = refl
get_set_other (x ∷ xs) (suc n) zero y h = refl
get_set_other (x ∷ xs) (suc n) (suc k) y h = get_set_other xs n k y (λ e. h (ap suc e))

equal_when : (a b : ℕ) → (a == b) ≡ true → a ≡ b
equal_when a b h = grind (arith, nat_tests, h)

other_when : (a b : ℕ) → (a == b) ≡ false → a ≡ b → ⊥
other_when a b h e = grind (arith, nat_tests, h, e)

-- ---- one more block

same_inside : (p q : ℕ → List OuterColumn) → ((k : ℕ) → p k ≡ q k) → (numbers : List ℕ) → flat_map (λ n. lowered (p n)) numbers ≡ flat_map (λ n. lowered (q n)) numbers
same_inside p q e [] = refl
same_inside p q e (n ∷ ns) = ap₂ ◌++◌ (ap lowered (e n)) (same_inside p q e ns)

module _ (all : List (Vec Code)) (own : Vec Code) (n : ℕ) (b : Block) (bs : Blocks) where
  pub one_more_block : n < length all → outer_columns_of own.items ≡ own_parameters b ++ inner_parameters all (asked_blocks b) → ((k : ℕ) → parameters_at all k ≡ parameters_from (n + 1) bs k)
      → (k : ℕ) → parameters_at (set all n own) k ≡ parameters_from n (b ∷ bs) k
  one_more_block within is others k = by_test (k == n) refl
    where
      by_test : (t : Bool) → (k == n) ≡ t → parameters_at (set all n own) k ≡ (if t then own_parameters b ++ flat_map (λ j. lowered (parameters_from (n + 1) bs j)) (asked_blocks b) else parameters_from (n + 1) bs k)
      by_test true e =
          ap (λ j. parameters_at (set all n own) j) (equal_when k n e)
          ∙ ap columns_of_option (get_set_same all n own within)
          ∙ is
          ∙ ap (λ xs. own_parameters b ++ xs) (same_inside (parameters_at all) (parameters_from (n + 1) bs) others (asked_blocks b))
      by_test false e = ap columns_of_option (get_set_other all n k own (other_when k n e)) ∙ others k

pub block_before : (all : List (Vec Code)) (own : Vec Code) (blocks : List Block') (number : ℕ) (x : Block') → 0 < number → number ≤ length blocks → length all ≡ length blocks → x ≡ get_or blocks (number - 1) x
    → outer_columns_of own.items ≡ own_parameters (block_of x) ++ inner_parameters all (asked_blocks (block_of x))
    → ((k : ℕ) → parameters_at all k ≡ parameters_from number (map block_of (drop number blocks)) k)
    → (k : ℕ) → parameters_at (set all (number - 1) own) k ≡ parameters_from (number - 1) (map block_of (drop (number - 1) blocks)) k
block_before all own blocks number x some within long at is others k =
    let up : number - 1 + 1 ≡ number = omega (arith, some) in
    let behind = subst (λ m. (j : ℕ) → parameters_at all j ≡ parameters_from m (map block_of (drop m blocks)) j) (sym up) others in
    one_more_block all own (number - 1) (block_of x) (map block_of (drop (number - 1 + 1) blocks)) (omega (arith, some, within, long)) is behind k
    ∙ sym (ap (λ bs. parameters_from (number - 1) bs k) (next block_of blocks (number - 1) x (omega (arith, some, within)) at))

-- ---- outer columns, lowered

above_zero : (between : ℕ) (column : BlockColumn) → 0 < between → one_lowered between column ≡ record { between = between - 1; column = column } ∷ []
above_zero zero column h = absurd (omega (arith, h))
above_zero (suc n) column h = let e : n ≡ suc n - 1 = omega arith in ap (λ m. record { between = m; column = column } ∷ []) e

pub lowered_push : (columns : List Code) (x : Code) → 0 < x.between → outer_columns_of (columns ++ record { between = x.between - 1; column = x.column } ∷ []) ≡ outer_columns_of columns ++ one_lowered x.between (column_of x.column)
lowered_push columns x h = map_push outer_column_of columns (record { between = x.between - 1; column = x.column }) ∙ ap (λ cs. outer_columns_of columns ++ cs) (sym (above_zero x.between (column_of x.column) h))

at_zero : (between : ℕ) (column : BlockColumn) → between ≤ 0 → one_lowered between column ≡ []
at_zero zero column h = refl
at_zero (suc n) column h = absurd (omega (arith, h))

pub lowered_none : (columns : List OuterColumn) (x : Code) → x.between ≤ 0 → columns ≡ columns ++ one_lowered x.between (column_of x.column)
lowered_none columns x h = sym (append-nil columns) ∙ ap (λ cs. columns ++ cs) (sym (at_zero x.between (column_of x.column) h))

-- ---- no parameters yet

pub none_past : (columns : List OuterColumn) (all : List (Vec Code)) (number : ℕ) → length all ≤ number → columns ≡ columns ++ lowered (parameters_at all number)
none_past columns all number h = sym (append-nil columns) ∙ ap (λ o. columns ++ lowered (columns_of_option o)) (sym (slice_get_past all number h))

pub still_none : (all : List (Vec Code)) (none : Vec Code) → none.items ≡ [] → ((k : ℕ) → parameters_at all k ≡ []) → (k : ℕ) → parameters_at (all ++ none ∷ []) k ≡ []
still_none [] none e h zero = ap outer_columns_of e
still_none [] none e h (suc k) = refl
still_none (x ∷ xs) none e h zero = h zero
still_none (x ∷ xs) none e h (suc k) = still_none xs none e (λ j. h (suc j)) k

-- ---- for callers: the parameters of a block, as they are read

pub parameters_read : (all : List (Vec Code)) (number : ℕ) (columns : Vec Code) → number < length all → columns ≡ get_or all number columns → outer_columns_of columns.items ≡ parameters_at all number
parameters_read all number columns h e = sym (ap columns_of_option (slice_get-get_or all number columns h ∙ ap Some (sym e)))
