-- What EXISTS sees.
use Rattle.std.proofs.Common.{◌≡◌, ◌∙◌, refl, ap, ap₂, List, [], ◌∷◌, ◌++◌, Bool, true, false, cond, map, arith}
use Rattle.std.specs.Prelude.{filter, flat_map, IsPermutation}
use Rattle.std.specs.List.{AllByRecursion}
use Rattle.std.proofs.lemmas.List.Sorted.{length_permutation}
use Rattle.definitions.specs.Table.{Row}
use Rattle.definitions.specs.Arithmetic.{Raise, Is}
use Rattle.definitions.specs.Truth.{has_row}
use Rattle.definitions.specs.Queries.Conjuncts.{late_conjuncts}
use Rattle.definitions.specs.Queries.Evaluation.{Combination, on_one}
use Rattle.definitions.specs.Queries.Combinations.{Context, at, all_hold, raises_of_late}
use Rattle.definitions_answers.specs.Plain.{row_in, row_raises_in, late_raises, kept_of, column_raises, rows_of}
use Rattle.definitions_answers.specs.Exists.{is_any, ExistsIsAnyKept, ExistsIsAnyPassing}
use Rattle.definitions_answers.proofs.Plain.{plain_told}

any_arranged : (rows : List Row) (others : List Row) → IsPermutation rows others → has_row rows ≡ is_any others
any_arranged [] [] h = refl
any_arranged (x ∷ xs) (y ∷ ys) h = refl
any_arranged [] (y ∷ ys) h = let e = length_permutation [] (y ∷ ys) h in absurd (omega (arith, e))
any_arranged (x ∷ xs) [] h = let e = length_permutation (x ∷ xs) [] h in absurd (omega (arith, e))

any_mapped : {X Y : Type 0} (f : X → Y) (xs : List X) → is_any (map f xs) ≡ is_any xs
any_mapped f [] = refl
any_mapped f (x ∷ xs) = refl

one_kept : {X : Type 0} (P : X → Type 0) (b : Bool) (x : X) (xs : List X) → P x → AllByRecursion P xs → AllByRecursion P (cond b (x ∷ xs) xs)
one_kept P true x xs h all = (h, all)
one_kept P false x xs h all = all

all_kept : {X : Type 0} (P : X → Type 0) (p : X → Bool) (xs : List X) → AllByRecursion P xs → AllByRecursion P (filter p xs)
all_kept P p [] h = tt
all_kept P p (x ∷ xs) h = one_kept P (p x) x (filter p xs) h.0 (all_kept P p xs h.1)

nothing_made : {X : Type 0} (f : X → List Raise) (xs : List X) → AllByRecursion (λ x. f x ≡ []) xs → flat_map f xs ≡ []
nothing_made f [] h = refl
nothing_made f (x ∷ xs) h = ap₂ (λ rs qs. rs ++ qs) h.0 (nothing_made f xs h.1)

pub exists_is_any_kept : ExistsIsAnyKept
exists_is_any_kept context b all plain arranged quiet items =
    let none : column_raises context b all ≡ [] = nothing_made (λ c. row_raises_in (at context c) b.items) (kept_of context b all) (all_kept (λ c. row_raises_in (at context c) b.items ≡ []) (all_hold context (late_conjuncts b)) all items) in
    let told = (plain_told context b all plain arranged).rows quiet none in
    ap (on_one has_row) told.1 ∙ ap Is (any_arranged told.0 (rows_of context b all) told.2 ∙ any_mapped (λ c. row_in (at context c) b.items) (kept_of context b all))

all_pass : {X : Type 0} (xs : List X) → filter (λ x. true) xs ≡ xs
all_pass [] = refl
all_pass (x ∷ xs) = ap (λ ys. x ∷ ys) (all_pass xs)

none_late : (context : Context) (cs : List Combination) → flat_map (raises_of_late context []) cs ≡ []
none_late context [] = refl
none_late context (c ∷ cs) = none_late context cs

pub exists_is_any_passing : ExistsIsAnyPassing
exists_is_any_passing context b all plain arranged none items =
    let quiet : late_raises context b all ≡ [] = ap (λ ds. flat_map (raises_of_late context ds) all) none ∙ none_late context all in
    let whole : kept_of context b all ≡ all = ap (λ ds. filter (all_hold context ds) all) none ∙ all_pass all in
    exists_is_any_kept context b all plain arranged quiet items ∙ ap (λ cs. Is (is_any cs)) whole
