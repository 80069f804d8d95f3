-- A merge in step gives, for each element, the rows that match it, where both sides go up by their values and a match is decided by these.
use Rattle.std.proofs.Common.{sym, ap, ap₂, ◌∙◌, subst, ◌≡◌, ℕ, inl, inr, List, [], ◌∷◌, ◌++◌, filter, flat_map, Bool, true, false, cond, refl, true≢false}
use Rattle.std.specs.Cmp.{alike_right, tied_itself, upto}
use Rattle.std.specs.Ordering.{ordering_reverse, is_le, is_lt}
use Rattle.std.specs.declared.cmp.Ordering.{Ordering}
use Rattle.std.specs.declared.cmp.Ordering.TheVariants.{Less, Equal, Greater}
use Rattle.definitions.specs.Value.{Value, rank}
use Rattle.definitions_execution.specs.Lists.{In, Rises}
use Rattle.definitions_execution.specs.Merging.{from_value, merged_by}
use Rattle.std.specs.List.{take_while}
use Rattle.std.proofs.lemmas.List.Sums.{take_while-cons}
use Rattle.definitions.proofs.Ranking.{rank_total}
use Rattle.definitions_execution.proofs.RowOrders.{up, down}

abbrev pub AtMost : Value → Value → Type 0
AtMost a b = is_le (rank a b) ≡ true

turn_below : (o p : Ordering) → o ≡ ordering_reverse p → is_lt o ≡ true → is_le p ≡ true → ⊥
turn_below o Less e h k = absurd (true≢false (sym h ∙ ap is_lt e))
turn_below o Equal e h k = absurd (true≢false (sym h ∙ ap is_lt e))
turn_below o Greater e h k = absurd (true≢false (sym k))

below_not_equal : (a k b : Value) → is_lt (rank a k) ≡ true → AtMost k b → rank b a ≡ Equal → ⊥
below_not_equal a k b h l e = turn_below (rank a k) (rank k a) (rank_total.antisymm a k) h (sym (ap is_le (alike_right rank_total b a k e)) ∙ l)

turn_not_below : (o p : Ordering) → p ≡ ordering_reverse o → is_lt o ≡ false → is_le p ≡ true
turn_not_below Less p e h = absurd (true≢false h)
turn_not_below Equal p e h = ap is_le e
turn_not_below Greater p e h = ap is_le e

not_below : (a k : Value) → is_lt (rank a k) ≡ false → AtMost k a
not_below a k h = turn_not_below (rank a k) (rank k a) (rank_total.antisymm k a) h

both_ways : (o p : Ordering) → o ≡ ordering_reverse p → is_le o ≡ true → is_le p ≡ true → o ≡ Equal
both_ways o Less e h k = absurd (true≢false (sym h ∙ ap is_le e))
both_ways o Equal e h k = e
both_ways o Greater e h k = absurd (true≢false (sym k))

squeezed : (k a b : Value) → AtMost k a → AtMost a b → rank k b ≡ Equal → rank a b ≡ Equal
squeezed k a b h l e = both_ways (rank a b) (rank b a) (rank_total.antisymm a b) l (sym (ap is_le (rank_total.congr k b a e)) ∙ h)

at_most_on : (a b c : Value) → AtMost a b → AtMost b c → AtMost a c
at_most_on a b c h k = down (rank a c) (upto rank_total a b c (up (rank a b) h) (up (rank b c) k))

module _ {C Z : Type 0} (key : C → Value) (f : ℕ → Value) (eq : C → ℕ → Bool) (ext : C → List ℕ → List Z) (P : C → Type 0) (same : (c : C) (r : ℕ) → P c → eq c r ≡ true → rank (key c) (f r) ≡ Equal) (both : (c : C) (r r' : ℕ) → P c → eq c r' ≡ true → rank (f r) (f r') ≡ Equal → eq c r ≡ true) where
  -- rows below the key don't match
  skips : (c : C) (k : Value) (ys : List ℕ) → P c → AtMost k (key c) → filter (eq c) (from_value f k ys) ≡ filter (eq c) ys
  skips c k [] o le = refl
  skips c k (r ∷ rs) o le = by_test (is_lt (rank (f r) k)) refl (eq c r) refl (skips c k rs o le)
    where
      by_test : (b : Bool) → is_lt (rank (f r) k) ≡ b → (e : Bool) → eq c r ≡ e → filter (eq c) (from_value f k rs) ≡ filter (eq c) rs → filter (eq c) (cond b (from_value f k rs) (r ∷ rs)) ≡ filter (eq c) (r ∷ rs)
      by_test false t e u rest = refl
      by_test true t true u rest = absurd (below_not_equal (f r) k (key c) t le (same c r o u))
      by_test true t false u rest = rest ∙ sym (ap (λ w. cond w (r ∷ filter (eq c) rs) (filter (eq c) rs)) u)

  none_after : (c : C) (r : ℕ) (rs : List ℕ) → P c → eq c r ≡ false → AtMost (key c) (f r) → ((r' : ℕ) → In r' rs → AtMost (f r) (f r')) → filter (eq c) rs ≡ []
  none_after c r [] o e le h = refl
  none_after c r (z ∷ zs) o e le h = by_test (eq c z) refl (none_after c r zs o e le (λ r' i. h r' (inr i)))
    where
      by_test : (b : Bool) → eq c z ≡ b → filter (eq c) zs ≡ [] → cond b (z ∷ filter (eq c) zs) (filter (eq c) zs) ≡ []
      by_test false u rest = rest
      by_test true u rest = absurd (true≢false (sym (both c r z o u (squeezed (key c) (f r) (f z) le (h z (inl refl)) (same c z o u))) ∙ e))

  takes : (c : C) (ys : List ℕ) → P c → Rises (λ r r'. AtMost (f r) (f r')) ys → ((r : ℕ) → In r ys → AtMost (key c) (f r)) → take_while (eq c) ys ≡ filter (eq c) ys
  takes c [] o h low = refl
  takes c (r ∷ rs) o h low = take_while-cons (eq c) r rs ∙ by_test (eq c r) refl (takes c rs o h.1 (λ r' i. low r' (inr i)))
    where
      by_test : (b : Bool) → eq c r ≡ b → take_while (eq c) rs ≡ filter (eq c) rs → cond b (r ∷ take_while (eq c) rs) [] ≡ cond b (r ∷ filter (eq c) rs) (filter (eq c) rs)
      by_test true u rest = ap (λ w. r ∷ w) rest
      by_test false u rest = sym (none_after c r rs o u (low r (inl refl)) h.0)

  goes_on : (k : Value) (ys : List ℕ) → Rises (λ r r'. AtMost (f r) (f r')) ys → Rises (λ r r'. AtMost (f r) (f r')) (from_value f k ys) × ((r : ℕ) → In r (from_value f k ys) → AtMost k (f r))
  goes_on k [] h = (tt, λ r i. absurd i)
  goes_on k (r ∷ rs) h = by_test (is_lt (rank (f r) k)) refl (goes_on k rs h.1)
    where
      by_test : (b : Bool) → is_lt (rank (f r) k) ≡ b → Rises (λ r r'. AtMost (f r) (f r')) (from_value f k rs) × ((z : ℕ) → In z (from_value f k rs) → AtMost k (f z)) → Rises (λ r r'. AtMost (f r) (f r')) (cond b (from_value f k rs) (r ∷ rs)) × ((z : ℕ) → In z (cond b (from_value f k rs) (r ∷ rs)) → AtMost k (f z))
      by_test true t rest = rest
      by_test false t rest = (h, λ z i. above z i)
        where
          above : (z : ℕ) → In z (r ∷ rs) → AtMost k (f z)
          above z (inl e) = subst (λ w. AtMost k (f w)) e (not_below (f r) k t)
          above z (inr i) = at_most_on k (f r) (f z) (not_below (f r) k t) (h.0 z i)

  pub by_pointers : (cs : List C) (ys inner : List ℕ) → ((c : C) → In c cs → P c) → Rises (λ c c'. AtMost (key c) (key c')) cs → Rises (λ r r'. AtMost (f r) (f r')) ys → ((c : C) → In c cs → filter (eq c) ys ≡ filter (eq c) inner) → merged_by key f eq ext cs ys ≡ flat_map (λ c. ext c (filter (eq c) inner)) cs
  by_pointers [] ys inner o hc hy left = refl
  by_pointers (c ∷ cs) ys inner o hc hy left =
      let w = goes_on (key c) ys hy in
      let zs = from_value f (key c) ys in
      let rest = by_pointers cs zs inner (λ c' i. o c' (inr i)) hc.1 w.0 (λ c' i. skips c' (key c) ys (o c' (inr i)) (hc.0 c' i) ∙ left c' (inr i)) in
      ap₂ (λ a b. a ++ b) (ap (ext c) (takes c zs (o c (inl refl)) w.0 w.1 ∙ skips c (key c) ys (o c (inl refl)) (ap is_le (tied_itself rank_total (key c))) ∙ left c (inl refl))) rest
