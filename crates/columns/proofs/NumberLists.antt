-- Lists of the values of a column of numbers.
use Rattle.std.proofs.Common.{◌≡◌, ◌∙◌, refl, sym, ap, ap₂, ℕ, zero, suc, ◌<◌, ◌≤◌, List, [], ◌∷◌, ◌++◌, Bool, true, false, cond, length, take, get_or, arith}
use Rattle.std.proofs.lemmas.List.{get_or_default}
use Rattle.std.specs.Prelude.{ℤ, pos, Option, Some, None, unwrap_or, is_none, is_some, not}
use Rattle.definitions.specs.Value.{Value, Null, Number, SqlType, scale_of}
use Rattle.columns.specs.Cells.{CellList, number_or_null}
use Rattle.columns.specs.Numbers.{number_values, numbers_of}

-- the value of one cell
abbrev pub number_value : ℕ → ℤ → Bool → Value
number_value scale u null = cond null Null (Number u scale)

pub length-number_values : (scale : ℕ) (us : List ℤ) (nulls : List Bool) → length us ≡ length nulls → length (number_values scale us nulls) ≡ length nulls
length-number_values scale [] [] h = refl
length-number_values scale [] (n ∷ ns) h = h
length-number_values scale (u ∷ us) [] h = refl
length-number_values scale (u ∷ us) (n ∷ ns) h = ap suc (length-number_values scale us ns (omega (arith, h)))

pub number_values-push : (scale : ℕ) (us : List ℤ) (nulls : List Bool) (u : ℤ) (null : Bool) → length us ≡ length nulls
    → number_values scale (us ++ u ∷ []) (nulls ++ null ∷ []) ≡ number_values scale us nulls ++ number_value scale u null ∷ []
number_values-push scale [] [] u null h = refl
number_values-push scale [] (n ∷ ns) u null h = absurd (omega (arith, h))
number_values-push scale (v ∷ us) [] u null h = absurd (omega (arith, h))
number_values-push scale (v ∷ us) (n ∷ ns) u null h = ap (λ vs. number_value scale v n ∷ vs) (number_values-push scale us ns u null (omega (arith, h)))

pub take-number_values : (k scale : ℕ) (us : List ℤ) (nulls : List Bool) → take k (number_values scale us nulls) ≡ number_values scale (take k us) (take k nulls)
take-number_values zero scale us nulls = refl
take-number_values (suc k) scale [] [] = refl
take-number_values (suc k) scale [] (n ∷ ns) = refl
take-number_values (suc k) scale (u ∷ us) [] = refl
take-number_values (suc k) scale (u ∷ us) (n ∷ ns) = ap (λ vs. number_value scale u n ∷ vs) (take-number_values k scale us ns)

pub get_or-number_values : (scale : ℕ) (us : List ℤ) (nulls : List Bool) (k : ℕ) (u : ℤ) (null : Bool) → length us ≡ length nulls → k < length nulls
    → get_or (number_values scale us nulls) k Null ≡ number_value scale (get_or us k u) (get_or nulls k null)
get_or-number_values scale us [] k u null h l = absurd (omega (arith, l))
get_or-number_values scale [] (n ∷ ns) k u null h l = absurd (omega (arith, h))
get_or-number_values scale (v ∷ us) (n ∷ ns) zero u null h l = refl
get_or-number_values scale (v ∷ us) (n ∷ ns) (suc k) u null h l = get_or-number_values scale us ns k u null (omega (arith, h)) (omega (arith, l))

-- what is pushed for units or a null
none_from_some : (o : Option ℤ) (null : Bool) → is_some o ≡ not null → null ≡ is_none o
none_from_some None true h = refl
none_from_some None false h = absurd cc
none_from_some (Some v) true h = absurd cc
none_from_some (Some v) false h = refl

number_value-pushed : (type : SqlType) (o : Option ℤ) (u : ℤ) → number_value (scale_of type) (unwrap_or o u) (is_none o) ≡ number_or_null type o
number_value-pushed type None u = refl
number_value-pushed type (Some v) u = refl

-- the same, of whole columns
pub count : (type : SqlType) (us : List ℤ) (nulls : List Bool) (v : CellList) → length us ≡ length nulls → numbers_of type us nulls ≡ v → length v.values ≡ length nulls
count type us nulls v h e = ap (λ (l : CellList). length l.values) (sym e) ∙ length-number_values (scale_of type) us nulls h

pub in_numbers : (type : SqlType) (us : List ℤ) (nulls : List Bool) (v : CellList) (k : ℕ) → length us ≡ length nulls → numbers_of type us nulls ≡ v
    → k < length v.values → (k < length us) × (k < length nulls)
in_numbers type us nulls v k h e l = (omega (arith, h, l, count type us nulls v h e), omega (arith, l, count type us nulls v h e))

pub rows_fit : (type : SqlType) (us : List ℤ) (nulls : List Bool) (v : CellList) (k : ℕ) → length us ≡ length nulls → numbers_of type us nulls ≡ v → k ≤ length v.values → k ≤ length nulls
rows_fit type us nulls v k h e l = omega (arith, l, count type us nulls v h e)

cell_in_numbers : (type : SqlType) (us : List ℤ) (nulls : List Bool) (v : CellList) (k : ℕ) → length us ≡ length nulls → numbers_of type us nulls ≡ v
    → k < length v.values → number_value (scale_of type) (get_or us k (pos 0)) (get_or nulls k true) ≡ get_or v.values k Null
cell_in_numbers type us nulls v k h e l =
    sym (get_or-number_values (scale_of type) us nulls k (pos 0) true h (in_numbers type us nulls v k h e l).1) ∙ ap (λ (l : CellList). get_or l.values k Null) e

pub pushed_numbers : (type : SqlType) (us us' : List ℤ) (nulls nulls' : List Bool) (v : CellList) (o : Option ℤ) (u : ℤ) (null : Bool) → length us ≡ length nulls → numbers_of type us nulls ≡ v
    → us' ≡ us ++ u ∷ [] → nulls' ≡ nulls ++ null ∷ [] → u ≡ unwrap_or o (pos 0) → is_some o ≡ not null
    → numbers_of type us' nulls' ≡ record v { values = v.values ++ number_or_null v.type o ∷ [] }
pushed_numbers type us us' nulls nulls' v o u null h e i j k l =
    rw (← e, i, j, number_values-push (scale_of type) us nulls u null h, k, none_from_some o null l, number_value-pushed type o (pos 0)) refl

pub cut_numbers : (type : SqlType) (us us' : List ℤ) (nulls nulls' : List Bool) (v : CellList) (n : ℕ) → numbers_of type us nulls ≡ v
    → us' ≡ take n us → nulls' ≡ take n nulls → numbers_of type us' nulls' ≡ record v { values = take n v.values }
cut_numbers type us us' nulls nulls' v n e i j = rw (← e, i, j, take-number_values n (scale_of type) us nulls) refl

pub null_in_numbers : (type : SqlType) (us : List ℤ) (nulls : List Bool) (v : CellList) (k : ℕ) (null : Bool) → length us ≡ length nulls → numbers_of type us nulls ≡ v
    → k < length v.values → null ≡ get_or nulls k false → null ≡ true → Null ≡ get_or v.values k Null
null_in_numbers type us nulls v k null h e l i j =
    let flag : null ≡ get_or nulls k true = i ∙ get_or_default nulls k false true (in_numbers type us nulls v k h e l).1 in
    sym (ap (number_value (scale_of type) (get_or us k (pos 0))) (sym flag ∙ j)) ∙ cell_in_numbers type us nulls v k h e l

pub number_in_numbers : (type : SqlType) (us : List ℤ) (nulls : List Bool) (v : CellList) (k : ℕ) (u : ℤ) (null : Bool) → length us ≡ length nulls → numbers_of type us nulls ≡ v
    → k < length v.values → u ≡ get_or us k u → null ≡ get_or nulls k false → null ≡ false → Number u (scale_of type) ≡ get_or v.values k Null
number_in_numbers type us nulls v k u null h e l m i j =
    let within = in_numbers type us nulls v k h e l in
    let flag : null ≡ get_or nulls k true = i ∙ get_or_default nulls k false true within.1 in
    let own : u ≡ get_or us k (pos 0) = m ∙ get_or_default us k u (pos 0) within.0 in
    sym (ap₂ (number_value (scale_of type)) (sym own) (sym flag ∙ j)) ∙ cell_in_numbers type us nulls v k h e l
