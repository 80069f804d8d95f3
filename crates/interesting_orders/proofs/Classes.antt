-- Labels of columns under a set of tables.
use Rattle.std.proofs.Common.{◌≡◌, ◌∙◌, refl, sym, ap, subst, ℕ, ◌<◌, List, ◌++◌, length, get_or, inl, inr, arith}
use Rattle.std.specs.Prelude.{◌↔◌, All}
use Rattle.std.proofs.lemmas.List.{get_or_append_left, get_or_default}
use Rattle.definitions.specs.Plans.TableSet.{TableSet, Has}
use Rattle.definitions.specs.Plans.Order as o
use Rattle.definitions.specs.Plans.Space.{Space}
use Rattle.definitions.specs.Plans.ColumnClass.{Equates, SameClass}
use Rattle.definitions.proofs.PlanTheory.Orders.{same_closed}
use Rattle.interesting_orders.specs.Labels.{column_at, label_at, AreSound, Holds, IsBetween, Joins}
use Rattle.interesting_orders.specs.Classes.{no_equation, AreDistinct, AreEquations, Says}
use Rattle.interesting_orders.specs.declared.equivalence_classes.Equality.{Equality}

-- labels by which columns are of one class
pub record IsRow (tables : TableSet) (columns : List o.BlockColumn) (equations : List Equality) (labels : List ℕ) : Type 0 where
  pub sound : (space : Space) → All (Holds space columns) equations → AreSound space tables columns labels
  pub joined : All (Joins tables columns labels) equations

-- ---- what a row says

module _ (space : Space) (tables : TableSet) (columns : List o.BlockColumn) (equations : List Equality) (labels : List ℕ)
    (e : AreEquations space columns equations) (distinct : AreDistinct columns) (between : All (IsBetween (length columns)) equations)
    (row : IsRow tables columns equations labels) where
  -- the columns of i's class have its label
  abbrev HasLabelOf : ℕ → o.BlockColumn → Type 0
  HasLabelOf i c = (k : ℕ) → k < length columns → column_at columns k ≡ c → label_at labels k ≡ label_at labels i

  closed : (i g : ℕ) (a b : o.BlockColumn) → Equates space g a b → Has tables a.table → Has tables b.table → HasLabelOf i a → HasLabelOf i b
  closed i g a b eq ha hb h k hk ek = by_side (e.all g a b eq)
    where
      by_side : (place : ℕ) × (place < length equations) × Says columns (get_or equations place no_equation) a b → label_at labels k ≡ label_at labels i
      by_side (place, lt, inl (el, er)) =
          let x = get_or equations place no_equation in
          let bt : IsBetween (length columns) x = between place no_equation lt in
          let same : k ≡ x.right = distinct k x.right hk bt.1 (ek ∙ sym er) in
          let joined : label_at labels x.left ≡ label_at labels x.right = row.joined place no_equation lt (subst (λ c. Has tables c.table) (sym el) ha) (subst (λ c. Has tables c.table) (sym er) hb) in
          ap (label_at labels) same ∙ sym joined ∙ h x.left bt.0 el
      by_side (place, lt, inr (el, er)) =
          let x = get_or equations place no_equation in
          let bt : IsBetween (length columns) x = between place no_equation lt in
          let same : k ≡ x.left = distinct k x.left hk bt.0 (ek ∙ sym el) in
          let joined : label_at labels x.left ≡ label_at labels x.right = row.joined place no_equation lt (subst (λ c. Has tables c.table) (sym el) hb) (subst (λ c. Has tables c.table) (sym er) ha) in
          ap (label_at labels) same ∙ joined ∙ h x.right bt.1 er

  pub complete : (i j : ℕ) → i < length columns → j < length columns → SameClass space tables (column_at columns i) (column_at columns j) → label_at labels i ≡ label_at labels j
  complete i j hi hj same =
      sym (same_closed space tables (HasLabelOf i) (closed i) (column_at columns i) (column_at columns j) same
      (λ k hk ek. ap (label_at labels) (distinct k i hk hi ek)) j hj refl)

  all_hold : All (Holds space columns) equations
  all_hold place d lt = subst (Holds space columns) (get_or_default equations place no_equation d lt) (e.hold place lt)

  pub row_says : (i j : ℕ) → i < length columns → j < length columns → (label_at labels i ≡ label_at labels j) ↔ SameClass space tables (column_at columns i) (column_at columns j)
  row_says i j hi hj = (row.sound space all_hold i j hi hj, complete i j hi hj)

  -- and so they are at the front of more
  pub front_says : (rest : List ℕ) → length labels ≡ length columns → (i j : ℕ) → i < length columns → j < length columns
      → (label_at (labels ++ rest) i ≡ label_at (labels ++ rest) j) ↔ SameClass space tables (column_at columns i) (column_at columns j)
  front_says rest len i j hi hj =
      let says = row_says i j hi hj in
      let at_i = get_or_append_left labels rest 0 i (omega (arith, hi, len)) in
      let at_j = get_or_append_left labels rest 0 j (omega (arith, hj, len)) in
      (λ same. says.0 (sym at_i ∙ same ∙ at_j), λ class. at_i ∙ says.1 class ∙ sym at_j)
