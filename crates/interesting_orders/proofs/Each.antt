-- Lists whose elements go together, one after another.
use Prim.Native.Nat.{zero}
use Rattle.std.proofs.Common.{suc, ◌≡◌, ◌∙◌, sym, ap, subst, ℕ, ◌+◌, ◌<◌, ◌≤◌, ◌⊎◌, inl, inr, List, [], ◌∷◌, ◌++◌, Some, length, get_or, map, arith}
use Rattle.std.specs.Prelude.{slice_get, option_map, All}
use Rattle.std.proofs.lemmas.Bool.{cases_lt}
use Rattle.std.proofs.lemmas.List.{length-append, get_or_append_left}
use Rattle.std.proofs.lemmas.Option.{slice_get-get_or, slice_get-map}
use Rattle.std.proofs.Math.Seq.{get_or-append_seam}
use Rattle.interesting_orders.specs.Each.{AreEach, AreSoFar}

pub within : {A : Type 0} (zs : List A) (place : ℕ) (x : A) → slice_get zs place ≡ Some x → place < length zs
within [] zero x e = absurd cc
within [] (suc place) x e = absurd cc
within (z ∷ zs) zero x e = omega arith
within (z ∷ zs) (suc place) x e = omega (arith, within zs place x e)

-- the element at a place of what is made of a list
pub mapped_at : {A B : Type 0} (f : A → B) (xs : List A) (place : ℕ) (x : A) → place < length xs → x ≡ get_or xs place x → slice_get (map f xs) place ≡ Some (f x)
mapped_at f xs place x lt is =
    slice_get-map f xs place ∙ ap (option_map f) (slice_get-get_or xs place x lt) ∙ ap (λ y. Some (f y)) (sym is)

pub all_and : {A : Type 0} (P : A → Type 0) (xs : List A) (x : A) → All P xs → P x → All P (xs ++ x ∷ [])
all_and P xs x all p place d lt = by_place (cases_lt place (length xs))
  where
    by_place : (place < length xs) ⊎ (length xs ≤ place) → P (get_or (xs ++ x ∷ []) place d)
    by_place (inl less) = subst P (sym (get_or_append_left xs (x ∷ []) d place less)) (all place d less)
    by_place (inr ge) =
        let here : place ≡ length xs = omega (arith, lt, ge, length-append xs (x ∷ [])) in
        subst (λ k. P (get_or (xs ++ x ∷ []) k d)) (sym here) (subst P (sym (get_or-append_seam xs x [] d)) p)

module _ {A B : Type 0} (Fits : A → B → Type 0) (xs : List A) where
  pub none_so_far : AreSoFar Fits xs [] 0
  none_so_far = record { len = omega arith; each = λ place x d h. absurd (omega (arith, h)) }

  pub one_more : (ys : List B) (count : ℕ) (x : A) (y : B) → AreSoFar Fits xs ys count → slice_get xs count ≡ Some x → Fits x y → AreSoFar Fits xs (ys ++ y ∷ []) (count + 1)
  one_more ys count x y so_far is fits = record {
    len = length-append ys (y ∷ []) ∙ omega (arith, so_far.len);
    each = λ place z d h e. by_place place z d h e (cases_lt place count);
  }
    where
      one : (z : A) → slice_get xs count ≡ Some z → Fits z y
      one z e = let same : Some x ≡ Some z = sym is ∙ e in let same' : x ≡ z = cc in subst (λ w. Fits w y) same' fits

      by_place : (place : ℕ) (z : A) (d : B) → place < count + 1 → slice_get xs place ≡ Some z → (place < count) ⊎ (count ≤ place) → Fits z (get_or (ys ++ y ∷ []) place d)
      by_place place z d h e (inl lt) = subst (Fits z) (sym (get_or_append_left ys (y ∷ []) d place (omega (arith, lt, so_far.len)))) (so_far.each place z d lt e)
      by_place place z d h e (inr ge) =
          let here : place ≡ count = omega (arith, h, ge) in
          let there : place ≡ length ys = omega (arith, here, so_far.len) in
          subst (λ p. Fits z (get_or (ys ++ y ∷ []) p d)) (sym there) (subst (Fits z) (sym (get_or-append_seam ys y [] d)) (one z (subst (λ p. slice_get xs p ≡ Some z) here e)))

  pub all_of_them : (ys : List B) (count : ℕ) → count ≡ length xs → AreSoFar Fits xs ys count → AreEach Fits xs ys
  all_of_them ys count whole so_far = record {
    len = so_far.len ∙ whole;
    each = λ place x d e. so_far.each place x d (omega (arith, whole, within xs place x e)) e;
  }
