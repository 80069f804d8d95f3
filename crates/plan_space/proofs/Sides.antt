-- The two columns of a merge conjunct.
use Rattle.std.proofs.Common.{◌≡◌, ◌≢◌, ◌∙◌, sym, ap, ℕ, ◌⊎◌, inl, inr, Option, Some}
use Rattle.definitions.specs.Plans.Order.{BlockColumn}
use Rattle.definitions.specs.Plans.Space.{Space}
use Rattle.definitions.specs.Plans.PlanSpace.{IsMergeConjunct}

abbrev Are : Option (BlockColumn × BlockColumn) → BlockColumn → BlockColumn → Type 0
Are equated x y = (equated ≡ Some (x, y)) ⊎ (equated ≡ Some (y, x))

one_pair : (equated : Option (BlockColumn × BlockColumn)) (x y a b : BlockColumn) → equated ≡ Some (x, y) → equated ≡ Some (a, b) → (x ≡ a) × (y ≡ b)
one_pair equated x y a b e f =
    let both : Some (x, y) ≡ Some (a, b) = sym e ∙ f in
    let pair : (x, y) ≡ (a, b) = cc in
    (ap (λ (p : BlockColumn × BlockColumn). p.0) pair, ap (λ (p : BlockColumn × BlockColumn). p.1) pair)

crossed : (equated : Option (BlockColumn × BlockColumn)) (x y a b : BlockColumn) → equated ≡ Some (x, y) → equated ≡ Some (b, a) → x.table ≢ y.table → y.table ≡ b.table → ⊥
crossed equated x y a b e f differ at =
    let pair = one_pair equated x y b a e f in
    differ (ap (λ (c : BlockColumn). c.table) pair.0 ∙ sym at)

same_pair : (equated : Option (BlockColumn × BlockColumn)) (x y a b : BlockColumn) → Are equated x y → Are equated a b → x.table ≢ y.table → y.table ≡ b.table → (x ≡ a) × (y ≡ b)
same_pair equated x y a b (inl e) (inl f) differ at = one_pair equated x y a b e f
same_pair equated x y a b (inl e) (inr f) differ at = absurd (crossed equated x y a b e f differ at)
same_pair equated x y a b (inr e) (inl f) differ at =
    let pair = one_pair equated y x a b e f in
    absurd (differ (ap (λ (c : BlockColumn). c.table) pair.1 ∙ sym at))
same_pair equated x y a b (inr e) (inr f) differ at = let pair = one_pair equated y x b a e f in (pair.1, pair.0)

module _ (space : Space) (number : ℕ) where
  -- it merges either way
  pub turned : (x y : BlockColumn) → IsMergeConjunct space number x y → IsMergeConjunct space number y x
  turned x y ((c, is, early, inl e), differ) = ((c, is, early, inr e), λ same. differ (sym same))
  turned x y ((c, is, early, inr e), differ) = ((c, is, early, inl e), λ same. differ (sym same))

  -- the column of one table decides both
  pub same_sides : (x y a b : BlockColumn) → IsMergeConjunct space number x y → IsMergeConjunct space number a b → y.table ≡ b.table → (x ≡ a) × (y ≡ b)
  same_sides x y a b ((c, is, early, equated), differ) ((d, is', early', equated'), differ') at =
      let both : Some c ≡ Some d = sym is ∙ is' in
      let same : c ≡ d = cc in
      same_pair c.equated x y a b equated (rw (sym same) at equated') differ at
