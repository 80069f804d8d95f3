-- The columns by which a table can be merged, from the equations of conjuncts.
use Rattle.std.proofs.Common.{◌≡◌, ◌≢◌, ◌∙◌, sym, ap, subst, ℕ, ◌⊎◌, inl, inr, List, Option, Some, None, get_or}
use Rattle.definitions.specs.Plans.Order.{BlockColumn}
use Rattle.definitions.specs.Plans.Space.{Space}
use Rattle.definitions.specs.Plans.ColumnClass.{Equates}
use Rattle.definitions.specs.Plans.PlanSpace.{IsMergeConjunct}
use Rattle.interesting_orders.specs.Labels.{column_at}
use Rattle.interesting_orders.specs.declared.equivalence_classes.Equality.{Equality}
use Rattle.interesting_orders.specs.Places.{AreStated, HaveSides}
use Rattle.interesting_orders.proofs.Stated.{stated_by, states}

-- of what a merge may be: the two columns of the equation, in either way
abbrev pub IsOneOf : (x y a b : BlockColumn) → Type 0
IsOneOf x y a b = ((x ≡ a) × (y ≡ b)) ⊎ ((x ≡ b) × (y ≡ a))

module _ (space : Space) (columns : List BlockColumn) (es : List (Option Equality)) (has : HaveSides columns space.conjuncts) (stated : AreStated columns space.conjuncts es) (number : ℕ) where
  -- the equation of a conjunct that equates two columns
  pub equation_of : (x y : BlockColumn) → Equates space number x y → (e : Equality) × (get_or es number None ≡ Some e) × IsOneOf x y (column_at columns e.left) (column_at columns e.right)
  equation_of x y (c, is, early, inl equated) = let s = states space columns es has stated number c x y is early equated in (s.0, s.1, inl (sym s.2, sym s.3))
  equation_of x y (c, is, early, inr equated) = let s = states space columns es has stated number c y x is early equated in (s.0, s.1, inr (sym s.3, sym s.2))

  pub no_equation_no_merge : get_or es number None ≡ None → (x y : BlockColumn) → IsMergeConjunct space number x y → ⊥
  no_equation_no_merge none x y merge = let e = equation_of x y merge.0 in let both : None ≡ Some e.0 = sym none ∙ e.1 in absurd cc

  module _ (e : Equality) (is : get_or es number None ≡ Some e) where
    abbrev left : BlockColumn
    left = column_at columns e.left

    abbrev right : BlockColumn
    right = column_at columns e.right

    one_of : (x y : BlockColumn) → Equates space number x y → IsOneOf x y left right
    one_of x y equates =
        let f = equation_of x y equates in
        let both : Some f.0 ≡ Some e = sym f.1 ∙ is in
        let same : f.0 ≡ e = cc in
        subst (λ (d : Equality). IsOneOf x y (column_at columns d.left) (column_at columns d.right)) same f.2

    pub equates : Equates space number left right
    equates = let c = stated_by space columns es has stated number e is in (c.0, c.1, c.2, inl c.3)

    pub equates_turned : Equates space number right left
    equates_turned = let c = stated_by space columns es has stated number e is in (c.0, c.1, c.2, inr c.3)

    pub inside_one_table : left.table ≡ right.table → (x y : BlockColumn) → IsMergeConjunct space number x y → ⊥
    inside_one_table same x y merge = of_either (one_of x y merge.0)
      where
        of_either : IsOneOf x y left right → ⊥
        of_either (inl (ex, ey)) = merge.1 (ap (λ (z : BlockColumn). z.table) ex ∙ same ∙ sym (ap (λ (z : BlockColumn). z.table) ey))
        of_either (inr (ex, ey)) = merge.1 (ap (λ (z : BlockColumn). z.table) ex ∙ sym same ∙ sym (ap (λ (z : BlockColumn). z.table) ey))

    pub brings_right : left.table ≢ right.table → (x y : BlockColumn) → IsMergeConjunct space number x y → y.table ≡ right.table → (x ≡ left) × (y ≡ right)
    brings_right differ x y merge at = of_either (one_of x y merge.0)
      where
        of_either : IsOneOf x y left right → (x ≡ left) × (y ≡ right)
        of_either (inl both) = both
        of_either (inr (ex, ey)) = absurd (differ (sym (ap (λ (z : BlockColumn). z.table) ey) ∙ at))

    pub brings_left : left.table ≢ right.table → (x y : BlockColumn) → IsMergeConjunct space number x y → y.table ≡ left.table → (x ≡ right) × (y ≡ left)
    brings_left differ x y merge at = of_either (one_of x y merge.0)
      where
        of_either : IsOneOf x y left right → (x ≡ right) × (y ≡ left)
        of_either (inl (ex, ey)) = absurd (differ (sym at ∙ ap (λ (z : BlockColumn). z.table) ey))
        of_either (inr both) = both

    pub brings_none : (table : ℕ) → left.table ≢ table → right.table ≢ table → (x y : BlockColumn) → IsMergeConjunct space number x y → y.table ≡ table → ⊥
    brings_none table not_left not_right x y merge at = of_either (one_of x y merge.0)
      where
        of_either : IsOneOf x y left right → ⊥
        of_either (inl (ex, ey)) = not_right (sym (ap (λ (z : BlockColumn). z.table) ey) ∙ at)
        of_either (inr (ex, ey)) = not_left (sym (ap (λ (z : BlockColumn). z.table) ey) ∙ at)
