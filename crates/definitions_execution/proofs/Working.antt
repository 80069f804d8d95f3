-- What is delivered is an arrangement of what passes, so the rows that are opened are the work.
use Rattle.definitions.specs.Plans.Plan.{Plan, Access, Loop, Merge, Sort}
use Rattle.definitions.specs.Plans.TableSet.{TableSet}
use Rattle.definitions.specs.Plans.Order.{Order}
use Rattle.definitions.specs.Plans.Space.{Space, order_at}
use Rattle.definitions_execution.specs.Delivery.{Delivers}
use Rattle.definitions.specs.Plans.PlanSpace.{IsPlan, access, loop, merge, sort, tables_of, order_of}
use Rattle.definitions.specs.Plans.Cost.{saturated}
use Rattle.definitions_execution.specs.Lists.{In, Rises, Differ}
use Rattle.definitions_execution.specs.Stored.{Composite, row_number, Stored}
use Rattle.definitions_execution.specs.Fits.{Fits}
use Rattle.definitions_execution.specs.Passing.{nothing, choices, composites, passes, passing_composites}
use Rattle.definitions.specs.Queries.Combinations.{combinations}
use Rattle.std.specs.List.{range_with_len}
use Rattle.std.specs.Prelude.{◌==◌}
use Rattle.definitions_execution.specs.Running.{run, delivered, opened, work}
use Rattle.definitions_execution.proofs.Members.{in_right, in_filter, from_filter, in_map, from_map, in_flat, from_flat, rises_filter, rises_map, rises_flat}
use Rattle.definitions_execution.proofs.Steps.{choices_if, upto_distinct}
use Rattle.definitions_execution.proofs.Plans.{delivers}
use Prim.Native.Nat.{zero}
use Rattle.std.proofs.Common.{suc, sym, ap, ap₂, ◌∙◌, subst, ◌≡◌, ℕ, ◌+◌, ◌<◌, inl, inr, List, [], ◌∷◌, ◌++◌, length, get_or, map, Bool, true, false, cond, IsPermutation, arith, refl}
use Rattle.std.proofs.lemmas.List.Sorted.{IsPermutation-refl, IsPermutation-sym, IsPermutation-trans, IsPermutation-cons, IsPermutation-middle, sum_by-IsPermutation}

-- ---- lists with the same members, each once, are arrangements of each other

module _ {X : Type 0} where
  split : (x : X) (xs : List X) → In x xs → (as' : List X) × (bs : List X) × (xs ≡ as' ++ x ∷ bs)
  split x [] h = absurd h
  split x (y ∷ ys) (inl e) = ([], ys, ap (λ w. w ∷ ys) e)
  split x (y ∷ ys) (inr h) = let (as', bs, e) = split x ys h in (y ∷ as', bs, ap (λ w. y ∷ w) e)

  -- what is not the one between is before or after it
  other_part : (x y : X) (as' bs : List X) → Differ x y → In y (as' ++ x ∷ bs) → In y (as' ++ bs)
  other_part x y [] bs ne (inl e) = absurd (ne e)
  other_part x y [] bs ne (inr h) = h
  other_part x y (a ∷ as') bs ne (inl e) = inl e
  other_part x y (a ∷ as') bs ne (inr h) = inr (other_part x y as' bs ne h)

  in_more : (x y : X) (as' bs : List X) → In y (as' ++ bs) → In y (as' ++ x ∷ bs)
  in_more x y [] bs h = inr h
  in_more x y (a ∷ as') bs (inl e) = inl e
  in_more x y (a ∷ as') bs (inr h) = inr (in_more x y as' bs h)

  -- the one between is neither before nor after, where none stands twice
  taken : (x y : X) (as' bs : List X) → Rises Differ (as' ++ x ∷ bs) → In y (as' ++ bs) → Differ x y
  taken x y [] bs h i f = h.0 y i f
  taken x y (a ∷ as') bs h (inl e) f = h.0 x (in_right x as' (x ∷ bs) (inl refl)) (e ∙ sym f)
  taken x y (a ∷ as') bs h (inr i) f = taken x y as' bs h.1 i f

  without : (x : X) (as' bs : List X) → Rises Differ (as' ++ x ∷ bs) → Rises Differ (as' ++ bs)
  without x [] bs h = h.1
  without x (a ∷ as') bs h = ((λ y i. h.0 y (in_more x y as' bs i)), without x as' bs h.1)

  pub arranged : (xs ys : List X) → Rises Differ xs → Rises Differ ys → ((x : X) → In x xs → In x ys) → ((x : X) → In x ys → In x xs) → IsPermutation xs ys
  arranged [] [] hx hy f g = IsPermutation-refl []
  arranged [] (y ∷ ys) hx hy f g = absurd (g y (inl refl))
  arranged (x ∷ xs) ys hx hy f g = of_split (split x ys (f x (inl refl))) (λ as' bs w p r. arranged xs (as' ++ bs) hx.1 w p r)
    where
      of_split : (as' : List X) × (bs : List X) × (ys ≡ as' ++ x ∷ bs) → ((as' bs : List X) → Rises Differ (as' ++ bs) → ((z : X) → In z xs → In z (as' ++ bs)) → ((z : X) → In z (as' ++ bs) → In z xs) → IsPermutation xs (as' ++ bs)) → IsPermutation (x ∷ xs) ys
      of_split (as', bs, e) rest =
          let h : Rises Differ (as' ++ x ∷ bs) = subst (Rises Differ) e hy in
          let p = rest as' bs (without x as' bs h) (λ z i. other_part x z as' bs (hx.0 z i) (subst (In z) e (f z (inr i)))) (λ z i. in_rest z (taken x z as' bs h i) (g z (subst (In z) (sym e) (in_more x z as' bs i)))) in
          subst (IsPermutation (x ∷ xs)) (sym e) (IsPermutation-trans _ _ _ (IsPermutation-cons x xs (as' ++ bs) p) (IsPermutation-sym _ _ (IsPermutation-middle as' x bs)))
        where
          in_rest : (z : X) → Differ x z → In z (x ∷ xs) → In z xs
          in_rest z ne (inl e) = absurd (ne e)
          in_rest z ne (inr i) = i

-- ---- all combinations

module _ (d : Stored) where
  -- those of so many tables from one on
  abbrev pub composites_from : (s u k : ℕ) → List Composite
  composites_from s u k = combinations (map (choices d s) (range_with_len u k))

  choices_distinct : (b n : ℕ) → Rises Differ (choices_if d b n)
  choices_distinct b n = by_test (b == 1)
    where
      by_test : (t : Bool) → Rises Differ (cond t (range_with_len 0 n) (0 ∷ []))
      by_test true = upto_distinct n
      by_test false = ((λ y i. absurd i), tt)

  head_is : (r r' : ℕ) (c c' : List ℕ) → r ∷ c ≡ r' ∷ c' → r ≡ r'
  head_is r r' c c' e = ap (λ w. get_or w 0 0) e

  tail_is : (r r' : ℕ) (c c' : List ℕ) → r ∷ c ≡ r' ∷ c' → c ≡ c'
  tail_is r r' c c' e = ap (λ w. Rattle.std.specs.Prelude.drop 1 w) e

  composites_distinct : (s u k : ℕ) → Rises Differ (composites_from s u k)
  composites_distinct s u zero = ((λ y i. absurd i), tt)
  composites_distinct s u (suc k) = rises_flat Differ Differ (λ r. map (λ c. r ∷ c) (composites_from s (u + 1) k)) (choices d s u)
      (λ r i. rises_map Differ Differ (λ c. r ∷ c) (composites_from s (u + 1) k) (λ c c' j l ne e. ne (tail_is r r c c' e)) (composites_distinct s (u + 1) k))
      (λ r r' i j ne a b l m e. apart r r' a b ne e (from_map (λ c. r ∷ c) a (composites_from s (u + 1) k) l) (from_map (λ c. r' ∷ c) b (composites_from s (u + 1) k) m))
      (choices_distinct (Rattle.std.specs.Int.bit_at s u) (d.row_count u))
    where
      apart : (r r' : ℕ) (a b : List ℕ) → Differ r r' → a ≡ b → (c : List ℕ) × In c (composites_from s (u + 1) k) × (r ∷ c ≡ a) → (c : List ℕ) × In c (composites_from s (u + 1) k) × (r' ∷ c ≡ b) → ⊥
      apart r r' a b ne e (c, i, f) (c', i', f') = ne (head_is r r' c c' (f ∙ e ∙ sym f'))

  in_composites : (s u k : ℕ) (c : List ℕ) → length c ≡ k → ((j : ℕ) → j < k → In (row_number c j) (choices d s (u + j))) → In c (composites_from s u k)
  in_composites s u zero [] e f = inl refl
  in_composites s u zero (r ∷ c) e f = absurd (omega (arith, e))
  in_composites s u (suc k) [] e f = absurd (omega (arith, e))
  in_composites s u (suc k) (r ∷ c) e f =
      let first : In r (choices d s u) = subst (λ w. In r (choices d s w)) (omega arith) (f 0 (omega arith)) in
      let rest = in_composites s (u + 1) k c (omega (arith, e)) (λ j l. subst (λ w. In (row_number c j) (choices d s w)) (omega arith) (f (suc j) (omega (arith, l)))) in
      in_flat (λ w. map (λ x. w ∷ x) (composites_from s (u + 1) k)) r (r ∷ c) (choices d s u) first (in_map (λ x. r ∷ x) c (composites_from s (u + 1) k) rest)

  composites_on : (s u k : ℕ) (c : List ℕ) → In c (composites_from s u k) → (length c ≡ k) × ((j : ℕ) → j < k → In (row_number c j) (choices d s (u + j)))
  composites_on s u zero c (inl e) = (ap length (sym e), λ j l. absurd (omega (arith, l)))
  composites_on s u zero c (inr h) = absurd h
  composites_on s u (suc k) c i = of_flat (from_flat (λ w. map (λ x. w ∷ x) (composites_from s (u + 1) k)) c (choices d s u) i) (λ x h. composites_on s (u + 1) k x h)
    where
      of_flat : (r : ℕ) × In r (choices d s u) × In c (map (λ x. r ∷ x) (composites_from s (u + 1) k)) → ((x : List ℕ) → In x (composites_from s (u + 1) k) → (length x ≡ k) × ((j : ℕ) → j < k → In (row_number x j) (choices d s (u + 1 + j)))) → (length c ≡ suc k) × ((j : ℕ) → j < suc k → In (row_number c j) (choices d s (u + j)))
      of_flat (r, h, m) rest = of_map (from_map (λ x. r ∷ x) c (composites_from s (u + 1) k) m)
        where
          of_map : (x : List ℕ) × In x (composites_from s (u + 1) k) × (r ∷ x ≡ c) → (length c ≡ suc k) × ((j : ℕ) → j < suc k → In (row_number c j) (choices d s (u + j)))
          of_map (x, l, e) = let w = rest x l in subst (λ y. (length y ≡ suc k) × ((j : ℕ) → j < suc k → In (row_number y j) (choices d s (u + j)))) e (omega (arith, w.0), λ j b. place j b w.1)
            where
              place : (j : ℕ) → j < suc k → ((j : ℕ) → j < k → In (row_number x j) (choices d s (u + 1 + j))) → In (row_number (r ∷ x) j) (choices d s (u + j))
              place zero b f = subst (λ y. In r (choices d s y)) (omega arith) h
              place (suc j) b f = subst (λ y. In (row_number x j) (choices d s y)) (omega arith) (f j (omega (arith, b)))

module _ (q : Space) (d : Stored) where
  -- what delivers is an arrangement of what passes
  pub delivered_arranged : (s : TableSet) (ks : Order) (l : List Composite) → Delivers q d s ks l → IsPermutation (passing_composites q d s) l
  delivered_arranged s ks l w =
      arranged (passing_composites q d s) l (rises_filter Differ (passes q d s) (composites q d s) (composites_distinct d s 0 q.table_count)) w.distinct
      (λ c i. let (j, h) = from_filter (passes q d s) c (composites q d s) i in let o = composites_on d s 0 q.table_count c j in w.all c (o.0, λ u b. subst (λ y. In (row_number c u) (choices d s y)) (omega arith) (o.1 u b)) h)
      (λ c i. in_filter (passes q d s) c (composites q d s) (let o = w.on c i in in_composites d s 0 q.table_count c o.0 (λ u b. subst (λ y. In (row_number c u) (choices d s y)) (omega arith) (o.1 u b))) (w.pass c i))

module _ (q : Space) (d : Stored) (v : Fits q d) where
  pub arranges : (p : Plan) → IsPlan q p → IsPermutation (passing_composites q d (tables_of q p)) (delivered q d p)
  arranges p r = delivered_arranged q d (tables_of q p) (order_at q (order_of q p)) (delivered q d p) (delivers q d v p r)

  pub works : (p : Plan) → IsPlan q p → opened q d p ≡ work q d p
  works (Access a) (access a' lt is) = refl
  works (Loop p a) (loop p' a' r can) = let e = works p r in let f = sum_by-IsPermutation (λ c. length (run d a c)) (passing_composites q d (tables_of q p)) (delivered q d p) (arranges p r) in ap₂ (λ a b. saturated (a + b)) e f
  works (Merge p g i) (merge p' g' i' r can) = ap (λ w. saturated (w + length (run d i.path (nothing q)))) (works p r)
  works (Sort p o) (sort p' o' r can) = works p r
