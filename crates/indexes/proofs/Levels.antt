-- A search in two levels.
use Rattle.std.proofs.Common.{◌≡◌, ◌∙◌, refl, sym, ap, length, ℕ, ◌+◌, ◌-◌, ◌*◌, ◌/◌, ◌%◌, ◌<◌, ◌≤◌, Bool, true, false, inl, inr, arith}
use Rattle.std.specs.Prelude.{◌⊎◌, min, max}
use Rattle.std.proofs.lemmas.Bool.{false≢true, cases_lt}
use Rattle.columns.specs.Cells.{CellList}
use Rattle.columns.specs.Starts.{AreOrdered, Splits, starts, value_in}
use Rattle.columns.specs.declared.lower_bound.LowerBound.{LowerBound}

before_false : (test : ℕ → Bool) (first end i j : ℕ) → AreOrdered test first end → first ≤ i → i ≤ j → j < end → test j ≡ false → test i ≡ false
before_false test first end i j o h l m e = of (test i) refl
  where
    of : (b : Bool) → test i ≡ b → test i ≡ false
    of false k = k
    of true k = absurd (false≢true (sym e ∙ o i j h l m k))

module _ (test heads : ℕ → Bool) (from to long page : ℕ) (within : to ≤ long) (ordered : AreOrdered test from to) (read : (p : ℕ) → p * 256 < long → heads p ≡ test (p * 256)) (more : from / 256 + 1 < to / 256 + min 1 (to % 256)) where
  pub heads_ordered : AreOrdered heads (from / 256 + 1) (to / 256 + min 1 (to % 256))
  heads_ordered i j h l m e =
      sym (sym (read j (omega arith))) ∙ ordered (i * 256) (j * 256) (omega arith) (omega arith) (omega arith) (sym (read i (omega arith)) ∙ e)

  module _ (split : Splits heads (from / 256 + 1) (to / 256 + min 1 (to % 256)) page) where
    abbrev low : ℕ
    low = max from ((page - 1) * 256)

    abbrev high : ℕ
    high = min to (page * 256)

    pub page_forward : low ≤ high
    page_forward = let a = split.from in let b = split.to in omega arith

    pub page_ordered : AreOrdered test low high
    page_ordered i j h l m e = let a = split.from in ordered i j (omega arith) l (omega arith) e

    pub two_levels : (at : ℕ) → Splits test low high at → Splits test from to at
    two_levels at s = record {
      from = let a = s.from in omega arith;
      to = let a = s.to in omega arith;
      fail = λ i h l. of_low i h l (cases_lt i low);
      pass = λ i h l. of_high i h l (cases_lt i high);
    }
      where
        of_low : (i : ℕ) → from ≤ i → i < at → (i < low) ⊎ (low ≤ i) → test i ≡ false
        of_low i h l (inr k) = s.fail i k l
        of_low i h l (inl k) =
            let a = split.from in let b = split.to in let c = s.to in
            before_false test from to i ((page - 1) * 256) ordered h (omega arith) (omega arith)
            (sym (read (page - 1) (omega arith)) ∙ split.fail (page - 1) (omega arith) (omega arith))

        of_high : (i : ℕ) → at ≤ i → i < to → (i < high) ⊎ (high ≤ i) → test i ≡ true
        of_high i h l (inl k) = s.pass i h k
        of_high i h l (inr k) =
            let a = split.from in let b = split.to in let c = s.from in
            ordered (page * 256) i (omega arith) (omega arith) l (sym (read page (omega arith)) ∙ split.pass page (omega arith) (omega arith))

-- the same of the values of a column
module _ (start : LowerBound) (now values heads : CellList) (from to page low high most last : ℕ) (view : values ≡ now) (within : to ≤ length now.values)
    (ordered : AreOrdered (λ place. starts start (value_in now place)) from to) (read : (p : ℕ) → p * 256 < length values.values → value_in heads p ≡ value_in values (p * 256))
    (e : last ≡ to / 256 + min 1 (to % 256)) (more : from / 256 + 1 < last) where
  heads_of : (p : ℕ) → p * 256 < length now.values → starts start (value_in heads p) ≡ starts start (value_in now (p * 256))
  heads_of p h = let n : length values.values ≡ length now.values = ap (λ (c : CellList). length c.values) view in
      ap (starts start) (read p (omega (arith, h, n)) ∙ ap (λ (c : CellList). value_in c (p * 256)) view)

  pub heads_in_order : AreOrdered (λ row. starts start (value_in heads row)) (from / 256 + 1) last
  heads_in_order = rw e (heads_ordered (λ place. starts start (value_in now place)) (λ p. starts start (value_in heads p)) from to (length now.values) page within ordered heads_of (omega (arith, more, e)))

  module _ (split : Splits (λ row. starts start (value_in heads row)) (from / 256 + 1) last page) (m : most ≡ min (page * 256) 18446744073709551615) (small : to < 18446744073709551616)
      (l : low ≡ max from ((page - 1) * 256)) (h : high ≡ min to most) where
    own_split : Splits (λ row. starts start (value_in heads row)) (from / 256 + 1) (to / 256 + min 1 (to % 256)) page
    own_split = rw e at split

    own_high : high ≡ min to (page * 256)
    own_high = omega (arith, h, m, small)

    pub low_high : low ≤ high
    low_high = rw (l, own_high) (page_forward (λ place. starts start (value_in now place)) (λ p. starts start (value_in heads p)) from to (length now.values) page within ordered heads_of (omega (arith, more, e)) own_split)

    pub page_in_order : AreOrdered (λ row. starts start (value_in values row)) low high
    page_in_order = rw (l, own_high, view) (page_ordered (λ place. starts start (value_in now place)) (λ p. starts start (value_in heads p)) from to (length now.values) page within ordered heads_of (omega (arith, more, e)) own_split)

    pub column_levels : (at : ℕ) → Splits (λ row. starts start (value_in values row)) low high at → Splits (λ place. starts start (value_in now place)) from to at
    column_levels at s =
        two_levels (λ place. starts start (value_in now place)) (λ p. starts start (value_in heads p)) from to (length now.values) page within ordered heads_of (omega (arith, more, e)) own_split at (rw (l, own_high, view) at s)
