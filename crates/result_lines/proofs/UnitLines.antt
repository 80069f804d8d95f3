-- Lines of rows that have only one value.
use Rattle.std.proofs.Common.{◌≡◌, ◌∙◌, refl, sym, ap, ap₂, ℕ, suc, ◌<◌, ◌≤◌, List, [], ◌∷◌, ◌++◌, get_or, length, map, take, drop, append_assoc, arith}
use Rattle.std.specs.Prelude.{flat_map}
use Rattle.std.proofs.lemmas.List.{map-append, take-append-drop}
use Rattle.std.proofs.lemmas.Grind.{flat_map-append}
use Rattle.definitions.specs.Value.{SqlType, Value}
use Rattle.definitions.specs.Plans.Order.{BlockColumn}
use Rattle.definitions.specs.Printing.{row_line}
use Rattle.definitions.specs.Queries.BoundBlock as b
use Rattle.definitions.specs.Queries.Evaluation.{Environment, cell, value as meant}
use Rattle.definitions.specs.Queries.Grouping.{results}
use Rattle.result_lines.specs.Batches.{column_values, rows_in}

-- two lists give the same values where they do place by place
pub alike_by_places : {X Y : Type 0} (f : X → Value) (g : Y → Value) (xs : List X) (ys : List Y) (d : X) (e : Y) → length xs ≡ length ys
    → ((k : ℕ) → k < length xs → f (get_or xs k d) ≡ g (get_or ys k e)) → map f xs ≡ map g ys
alike_by_places f g [] [] d e long same = refl
alike_by_places f g [] (y ∷ ys) d e long same = absurd (omega (arith, long))
alike_by_places f g (x ∷ xs) [] d e long same = absurd (omega (arith, long))
alike_by_places f g (x ∷ xs) (y ∷ ys) d e long same =
    ap₂ (λ v vs. v ∷ vs) (same 0 (omega arith)) (alike_by_places f g xs ys d e (omega (arith, long)) (λ k h. same (suc k) (omega (arith, h))))

-- so do rows that have only these
pub rows_alike : {X Y : Type 0} (f : X → Value) (g : Y → Value) (xs : List X) (ys : List Y) → map f xs ≡ map g ys → map (λ x. f x ∷ []) xs ≡ map (λ y. g y ∷ []) ys
rows_alike f g [] [] same = refl
rows_alike f g [] (y ∷ ys) same = absurd cc
rows_alike f g (x ∷ xs) [] same = absurd cc
rows_alike f g (x ∷ xs) (y ∷ ys) same =
    let first : f x ≡ g y = cc in
    ap₂ (λ v vs. (v ∷ []) ∷ vs) first (rows_alike f g xs ys (ap (drop 1) same))

-- a part is written, and others are left
pub next_part : (f : ℕ → Value) (out new all : List ℕ) (n : ℕ) (rest part behind : List ℕ) → part ≡ take n rest → behind ≡ drop n rest → new ≡ out ++ flat_map row_line (map (λ row. f row ∷ []) part)
    → out ++ flat_map row_line (map (λ row. f row ∷ []) rest) ≡ all → new ++ flat_map row_line (map (λ row. f row ∷ []) behind) ≡ all
next_part f out new all n rest part behind front back written left =
    let lines : List ℕ → List ℕ = λ rows. flat_map row_line (map (λ row. f row ∷ []) rows) in
    let whole : part ++ behind ≡ rest = ap₂ (λ xs ys. xs ++ ys) front back ∙ take-append-drop n rest in
    ap (λ text. text ++ lines behind) written ∙ append_assoc out (lines part) (lines behind)
    ∙ ap (λ text. out ++ text) (sym (flat_map-append row_line (map (λ row. f row ∷ []) part) (map (λ row. f row ∷ []) behind)) ∙ ap (flat_map row_line) (sym (map-append (λ row. f row ∷ []) part behind)))
    ∙ ap (λ rows. out ++ lines rows) whole ∙ left

-- a list of one
pub only_item : {X : Type 0} (xs : List X) (x : X) → 1 ≤ length xs → length xs < 2 → x ≡ get_or xs 0 x → x ∷ [] ≡ xs
only_item [] x some few is = absurd (omega (arith, some))
only_item (y ∷ []) x some few is = ap (λ z. z ∷ []) is
only_item (y ∷ z ∷ xs) x some few is = absurd (omega (arith, few))

-- the rows of a result column that is a column, and alone
pub only_values : (item : b.Item) (column : BlockColumn) (type : SqlType) (envs : List Environment) (number value : ℕ → Value) (rows : List ℕ) → item.value ≡ b.Column column type
    → ((row : ℕ) → number row ≡ value row) → map value rows ≡ column_values envs column → map (λ row. number row ∷ []) rows ≡ rows_in (item ∷ []) envs
only_values item column type envs number value rows is same are =
    let cells : Environment → Value = λ env. cell env.combination column in
    let those : map number rows ≡ map cells envs = alike_by_places number value rows rows 0 0 refl (λ k h. same (get_or rows k 0)) ∙ are in
    rows_alike number cells rows envs those
    ∙ ap (λ (v : b.ValueExpr). map (λ (env : Environment). results (meant env v ∷ [])) envs) (sym is)
