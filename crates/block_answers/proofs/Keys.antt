-- Keys of ORDER BY, one after another.
use Rattle.std.proofs.Common.{◌≡◌, ◌∙◌, refl, sym, ap, ℕ, ◌+◌, ◌<◌, List, [], ◌∷◌, Bool, true, false, length, map, drop, get_or, true≢false, arith}
use Rattle.std.specs.Prelude.{◌==◌, not, ◌&&◌, OnOk, Result, Ok, Err}
use Rattle.std.specs.List.{list_all}
use Rattle.std.proofs.lemmas.Bool.Decides.{nat_tests}
use Rattle.std.proofs.lemmas.List.{drop_more}
use Rattle.definitions.specs.Queries.BoundBlock as b
use Rattle.definitions.specs.Queries.Conjuncts.{is_empty}
use Rattle.query_tree.specs.Bound.{key_of}
use Rattle.query_tree.specs.declared.block.Key.{Key}

module _ (p : b.OrderKey → Bool) (keys : List Key) (i : ℕ) (d : Key) (h : i < length keys) where
  abbrev from : ℕ → Bool
  from k = list_all p (map key_of (drop k keys))

  key_next : from i ≡ (p (key_of (get_or keys i d)) && from (i + 1))
  key_next = ap (λ ks. list_all p (map key_of ks)) (drop_more keys i d h)

  pub one_fails : (told all : Bool) → told ≡ false → told ≡ p (key_of (get_or keys i d)) → from i ≡ all → false ≡ all
  one_fails told all failed is whole = sym (key_next ∙ ap (λ b. b && from (i + 1)) (sym is ∙ failed)) ∙ whole

  pub one_holds : (told all : Bool) → told ≡ true → told ≡ p (key_of (get_or keys i d)) → from i ≡ all → from (i + 1) ≡ all
  one_holds told all held is whole = sym (key_next ∙ ap (λ b. b && from (i + 1)) (sym is ∙ held)) ∙ whole

pub zero_when : (n : ℕ) → (n == 0) ≡ true → n ≡ 0
zero_when n h = grind (arith, nat_tests, h)

pub none_written : {X Y : Type 0} (f : X → Y) (xs : List X) → length xs ≡ 0 → is_empty (map f xs) ≡ true
none_written f [] e = refl
none_written f (x ∷ xs) e = absurd (omega (arith, e))

pub not_false : (b : Bool) → not b ≡ false → b ≡ true
not_false true e = refl
not_false false e = absurd (true≢false e)

pub on_ok_two : {T E P Q R : Type 0} (r : Result T E) → (P → Q → R) → OnOk r P → OnOk r Q → OnOk r R
on_ok_two (Ok x) f p q = f p q
on_ok_two (Err x) f p q = tt
