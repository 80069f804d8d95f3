-- Lists of which a further element is kept or left out.
use Rattle.std.proofs.Common.{◌≡◌, ◌∙◌, sym, ap, subst, ℕ, ◌+◌, ◌<◌, ◌≤◌, inl, inr, length, map, List, Ok, Vec, Global, arith}
use Rattle.std.proofs.lemmas.List.{length-map, length_push}
use Rattle.definitions.specs.Token.{Mark, Comma}
use Rattle.definitions.specs.Rule.{Rule, At}
use Rattle.definitions.proofs.Alike.{Alike}
use Rattle.syntax_cursor.specs.Reading.{Place, IsNext, EndsList, Outcome}
use Rattle.syntax_cursor.specs.Places.{Placed, Stands}
use Rattle.syntax_cursor.proofs.Lists.{Lists, list_goes_on, list_is_long, map_push}
use Rattle.syntax_cursor.proofs.Places.{Kept, keeps_on, leaves_out, list_stands}
use Rattle.syntax.specs.Places.{all}
use Rattle.syntax.specs.Lists.{IsKept}
use Rattle.syntax.proofs.Places.{all_push}

pub few_kept : {A : Type 0} (most : ℕ) (xs ys : List A) (x : A) → length xs ≤ most + 1 → IsKept most xs x ys → length ys ≤ most + 1
few_kept most xs ys x few (inl (le, e)) = let n = ap length e in let m = length_push xs x in omega (arith, n, m, le)
few_kept most xs ys x few (inr (lt, e)) = let n = ap length e in omega (arith, n, few)

pub some_kept : {A : Type 0} (most : ℕ) (xs ys : List A) (x : A) → 0 < length xs → IsKept most xs x ys → 0 < length ys
some_kept most xs ys x some (inl (le, e)) = let n = ap length e in let m = length_push xs x in omega (arith, n, m)
some_kept most xs ys x some (inr (lt, e)) = let n = ap length e in omega (arith, n, some)

module _ {A X : Type 0} (rule : ℕ → Rule X) (most levels least : ℕ) (al : (m : ℕ) → Alike (rule levels) (rule m)) (tree : A → X) where
  pub list_read_on : (p q q' t : Place) (xs ys : List A) (x : A) (k : ℕ) → length xs ≤ most + 1 → Lists rule most levels least p q (map tree xs) → At q.tokens q.at (Mark Comma) × IsNext q q'
      → Outcome rule levels k q' t (Ok (tree x)) → IsKept most xs x ys → Lists rule most levels least p t (map tree ys)
  list_read_on p q q' t xs ys x k few inv at d (inl (le, e)) =
      subst (λ zs. Lists rule most levels least p t zs) (sym (ap (map tree) e ∙ map_push tree xs x)) (list_goes_on rule most levels least al p q q' t (map tree xs) (tree x) k inv at d)
  list_read_on p q q' t xs ys x k few inv at d (inr (lt, e)) =
      let n : length (map tree xs) ≡ most + 1 = (let l = length-map xs tree in omega (arith, l, few, lt)) in
      subst (λ zs. Lists rule most levels least p t zs) (sym (ap (map tree) e)) (list_is_long rule most levels least al p q q' t (map tree xs) (tree x) k n inv at d)

pub kept_on : {A : Type 0} (most : ℕ) (leaves : A → List Placed) {p q q' t : Place} (xs ys : List A) (x : A) → Kept most (length xs) p q (all leaves xs) → At q.tokens q.at (Mark Comma) × IsNext q q' → Stands q' t (leaves x) → IsKept most xs x ys
    → Kept most (length ys) p t (all leaves ys)
kept_on most leaves {p = p} {t = t} xs ys x inv at d (inl (le, e)) = subst (λ zs. Kept most (length ys) p t zs) (sym (ap (all leaves) e ∙ all_push leaves xs x)) (keeps_on le inv at d)
kept_on most leaves {p = p} {t = t} xs ys x inv at d (inr (lt, e)) = subst (λ zs. Kept most (length zs) p t (all leaves zs)) (sym e) (leaves_out lt inv at d)

-- where a list ends its kept elements stand
pub list_ended : {A : Type 0} (most : ℕ) {leaves : List Placed} {p q t u : Place} (kept : Vec A Global) (n : ℕ) → n ≡ kept.len → Kept most (length kept.items) p q leaves → t ≡ q → EndsList most n t u → Stands p u leaves
list_ended most {leaves = leaves} {p = p} {q = q} kept n e inv same end = list_stands (subst (λ z. Kept most n p z leaves) (sym same) (subst (λ k. Kept most k p q leaves) (sym kept.ok.0 ∙ sym e) inv)) end
