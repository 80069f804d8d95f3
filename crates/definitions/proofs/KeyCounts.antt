-- The keys without a null are counted along a run.
use Rattle.std.proofs.Common.{◌≡◌, ◌≢◌, ◌∙◌, refl, sym, ap, ℕ, suc, ◌+◌, List, [], ◌∷◌, Bool, true, false, length, arith}
use Rattle.std.specs.Prelude.{not, filter, cond, IsTrue, if◌then◌else◌}
use Rattle.std.specs.List.{AllByRecursion}
use Rattle.std.proofs.lemmas.Bool.{false≢true}
use Rattle.std.proofs.lemmas.List.Elements.{All-from_recursion, recursion_from_All}
use Rattle.std.proofs.lemmas.List.Sorted.{All-permutation}
use Rattle.std.specs.Ordering.{nat_cmp, ordering_then, ordering_reverse, is_lt, is_eq}
use Rattle.std.specs.declared.cmp.Ordering.{Ordering}
use Rattle.std.specs.declared.cmp.Ordering.TheVariants.{Less, Equal, Greater}
use Rattle.definitions.specs.Value.{SqlType}
use Rattle.definitions.specs.Key.{Key, key_rank, has_null, full_keys, distinct_keys}
use Rattle.definitions.specs.IndexRun.{Entry, entries_from, comes_before, AreRising, IsRun, keys_of}
use Rattle.definitions.specs.IndexLaws.{IsKeyOf, changes}
use Rattle.definitions.proofs.KeyRanks.{key_turned, key_chain, key_alike}

-- keys of which none ranks after a later one
abbrev pub AreLevel : List Key → Type 0
AreLevel [] = Unit {0}
AreLevel (k ∷ ks) = AllByRecursion (λ other. key_rank k other ≡ Greater → ⊥) ks × AreLevel ks

module _ (types : List SqlType) where
  abbrev AreTyped : List Key → Type 0
  AreTyped = AllByRecursion (IsKeyOf types)

  -- a key that is less than the first is none of those behind
  above_all : (k n : Key) (ks : List Key) → IsKeyOf types k → IsKeyOf types n → AreTyped ks → key_rank k n ≡ Less → AllByRecursion (λ other. key_rank n other ≡ Greater → ⊥) ks → AllByRecursion (λ other. key_rank k other ≡ Less) ks
  above_all k n [] hk hn t e h = tt
  above_all k n (x ∷ xs) hk hn (tx, t) e (hx, h) = (of (key_rank n x) refl, above_all k n xs hk hn t e h)
    where
      of : (o : Ordering) → key_rank n x ≡ o → key_rank k x ≡ Less
      of Less f = key_chain types k n x hk hn tx e f
      of Greater f = absurd (hx f)
      of Equal f = swap (key_alike types n x k hn tx hk f)
        where
          swap : key_rank n k ≡ key_rank x k → key_rank k x ≡ Less
          swap g = key_turned k x ∙ ap ordering_reverse (sym g) ∙ sym (key_turned k n) ∙ e

  all_differ : (k : Key) (ks : List Key) → AllByRecursion (λ other. key_rank k other ≡ Less) ks → filter (λ other. not (is_eq (key_rank k other))) ks ≡ ks
  all_differ k [] h = refl
  all_differ k (x ∷ xs) (e, h) = rw e (ap (λ ys. x ∷ ys) (all_differ k xs h))

  kept_less : (k : Key) (p : Key → Bool) (ks : List Key) → AllByRecursion (λ other. key_rank k other ≡ Less) ks → AllByRecursion (λ other. key_rank k other ≡ Less) (filter p ks)
  kept_less k p [] h = tt
  kept_less k p (x ∷ xs) (e, h) = of (p x) (kept_less k p xs h)
    where
      of : (b : Bool) → AllByRecursion (λ other. key_rank k other ≡ Less) (filter p xs) → AllByRecursion (λ other. key_rank k other ≡ Less) (cond b (x ∷ filter p xs) (filter p xs))
      of true r = (e, r)
      of false r = r

  distinct_less : (k : Key) (ks : List Key) → AllByRecursion (λ other. key_rank k other ≡ Less) ks → AllByRecursion (λ other. key_rank k other ≡ Less) (distinct_keys ks)
  distinct_less k [] h = tt
  distinct_less k (x ∷ xs) (e, h) = (e, kept_less k (λ other. not (is_eq (key_rank x other))) (distinct_keys xs) (distinct_less k xs h))

  kept_typed : (p : Key → Bool) (ks : List Key) → AreTyped ks → AreTyped (filter p ks)
  kept_typed p [] h = tt
  kept_typed p (x ∷ xs) (e, h) = of (p x) (kept_typed p xs h)
    where
      of : (b : Bool) → AreTyped (filter p xs) → AreTyped (cond b (x ∷ filter p xs) (filter p xs))
      of true r = (e, r)
      of false r = r

  distinct_typed : (ks : List Key) → AreTyped ks → AreTyped (distinct_keys ks)
  distinct_typed [] h = tt
  distinct_typed (x ∷ xs) (e, h) = (e, kept_typed (λ other. not (is_eq (key_rank x other))) (distinct_keys xs) (distinct_typed xs h))

  -- tests that agree on all of these keys keep the same, and keeping twice is keeping once
  same_kept : (k n : Key) (ks : List Key) → IsKeyOf types k → IsKeyOf types n → AreTyped ks → key_rank k n ≡ Equal
      → filter (λ other. not (is_eq (key_rank k other))) (filter (λ other. not (is_eq (key_rank n other))) ks) ≡ filter (λ other. not (is_eq (key_rank n other))) ks
  same_kept k n [] hk hn t e = refl
  same_kept k n (x ∷ xs) hk hn (tx, t) e = of (is_eq (key_rank n x)) refl (same_kept k n xs hk hn t e)
    where
      of : (b : Bool) → is_eq (key_rank n x) ≡ b → filter (λ other. not (is_eq (key_rank k other))) (filter (λ other. not (is_eq (key_rank n other))) xs) ≡ filter (λ other. not (is_eq (key_rank n other))) xs
          → filter (λ other. not (is_eq (key_rank k other))) (filter (λ other. not (is_eq (key_rank n other))) (x ∷ xs)) ≡ filter (λ other. not (is_eq (key_rank n other))) (x ∷ xs)
      of true f r = rw f r
      of false f r =
          let g : is_eq (key_rank k x) ≡ false = ap is_eq (key_alike types k n x hk hn tx e) ∙ f in
          rw (f, g) (ap (λ ys. x ∷ ys) r)

  pub counted : (ks : List Key) → AreTyped ks → AreLevel ks → length (distinct_keys ks) ≡ changes ks
  counted [] t l = refl
  counted (k ∷ []) t l = refl
  counted (k ∷ n ∷ ks) (tk, (tn, t)) ((kn, k_rest), (n_rest, l)) = of (key_rank k n) refl (counted (n ∷ ks) (tn, t) (n_rest, l))
    where
      of : (o : Ordering) → key_rank k n ≡ o → length (distinct_keys (n ∷ ks)) ≡ changes (n ∷ ks) → length (distinct_keys (k ∷ n ∷ ks)) ≡ (if is_eq (key_rank k n) then 0 else 1) + changes (n ∷ ks)
      of Greater e r = absurd (kn e)
      of Less e r =
          let d : filter (λ other. not (is_eq (key_rank k other))) (distinct_keys (n ∷ ks)) ≡ distinct_keys (n ∷ ks) = all_differ k (distinct_keys (n ∷ ks)) (distinct_less k (n ∷ ks) (e, above_all k n ks tk tn t e n_rest)) in
          let m : length (distinct_keys (k ∷ n ∷ ks)) ≡ suc (length (distinct_keys (n ∷ ks))) = ap (λ ys. suc (length ys)) d in
          m ∙ rw e (omega (arith, r))
      of Equal e r =
          let d : filter (λ other. not (is_eq (key_rank k other))) (filter (λ other. not (is_eq (key_rank n other))) (distinct_keys ks)) ≡ filter (λ other. not (is_eq (key_rank n other))) (distinct_keys ks)
          = same_kept k n (distinct_keys ks) tk tn (distinct_typed ks t) e in
          let m : length (distinct_keys (k ∷ n ∷ ks)) ≡ length (distinct_keys (n ∷ ks)) = rw e (ap (λ ys. suc (length ys)) d) in
          m ∙ r ∙ rw e (omega arith)

  -- ---- of a run

  not_behind : (o p : Ordering) → is_lt (ordering_then o p) ≡ true → o ≢ Greater
  not_behind Less p h e = absurd cc
  not_behind Equal p h e = absurd cc
  not_behind Greater p h e = false≢true h

  full_above : (x : Entry) (es : List Entry) → AllByRecursion (λ other. IsTrue (comes_before x other)) es → AllByRecursion (λ other. key_rank x.key other ≡ Greater → ⊥) (full_keys (keys_of es))
  full_above x [] h = tt
  full_above x (e ∷ es) (first, h) = of (not (has_null e.key)) (full_above x es h)
    where
      of : (b : Bool) → AllByRecursion (λ other. key_rank x.key other ≡ Greater → ⊥) (full_keys (keys_of es)) → AllByRecursion (λ other. key_rank x.key other ≡ Greater → ⊥) (cond b (e.key ∷ full_keys (keys_of es)) (full_keys (keys_of es)))
      of true r = (not_behind (key_rank x.key e.key) (nat_cmp x.row e.row) first, r)
      of false r = r

  level : (es : List Entry) → AreRising es → AreLevel (full_keys (keys_of es))
  level [] h = tt
  level (e ∷ es) (first, h) = of (not (has_null e.key)) (full_above e es first) (level es h)
    where
      of : (b : Bool) → AllByRecursion (λ other. key_rank e.key other ≡ Greater → ⊥) (full_keys (keys_of es)) → AreLevel (full_keys (keys_of es)) → AreLevel (cond b (e.key ∷ full_keys (keys_of es)) (full_keys (keys_of es)))
      of true a r = (a, r)
      of false a r = r

  typed_from : (row : ℕ) (keys : List Key) → AreTyped keys → AllByRecursion (λ (e : Entry). IsKeyOf types e.key) (entries_from row keys)
  typed_from row [] h = tt
  typed_from row (key ∷ keys) (h, k) = (h, typed_from (row + 1) keys k)

  keys_typed : (es : List Entry) → AllByRecursion (λ (e : Entry). IsKeyOf types e.key) es → AreTyped (keys_of es)
  keys_typed [] h = tt
  keys_typed (e ∷ es) (h, k) = (h, keys_typed es k)

  pub counted_along : (keys : List Key) (run : List Entry) → AreTyped keys → IsRun keys run → length (distinct_keys (full_keys (keys_of run))) ≡ changes (full_keys (keys_of run))
  counted_along keys run typed (p, r) =
      let all = recursion_from_All (λ (e : Entry). IsKeyOf types e.key) run (All-permutation (λ (e : Entry). IsKeyOf types e.key) (entries_from 0 keys) run p (All-from_recursion (λ (e : Entry). IsKeyOf types e.key) (entries_from 0 keys) (typed_from 0 keys typed))) in
      counted (full_keys (keys_of run)) (kept_typed (λ key. not (has_null key)) (keys_of run) (keys_typed run all)) (level run r)
