-- Further items among old ones, each at its place.
use Rattle.std.proofs.Common.{◌≡◌, ◌∙◌, refl, sym, ap, ap₂, subst, ℕ, zero, suc, ◌+◌, ◌-◌, ◌<◌, ◌≤◌, List, [], ◌∷◌, ◌++◌, length, map, take, drop, get_or, arith}
use Rattle.std.specs.List.{AllByRecursion}
use Rattle.std.proofs.Math.Seq.{drop-cons}
use Rattle.std.proofs.lemmas.List.{append_assoc, append-nil, drop_all, length_push, take-map, drop-map, map-append, take_rest, get_or-map}
use Rattle.definitions.proofs.Repeats.{all_append}
use Rattle.definitions.specs.Scanning.{part_of}
use Rattle.definitions.specs.Value.{Value, SqlType}
use Rattle.columns.specs.Cells.{CellList}
use Rattle.columns.specs.Starts.{IsHeld, value_in}
use Rattle.indexes.specs.Merging.{ArePlaces, woven}

-- the rest of a list, from its first item on
next_is : {A : Type 0} (xs : List A) (n : ℕ) (x d : A) → n < length xs → x ≡ get_or xs n d → drop n xs ≡ x ∷ drop (n + 1) xs
next_is xs n x d h e = let s : suc n ≡ n + 1 = omega arith in drop-cons xs n d h ∙ ap₂ (λ y k. y ∷ drop k xs) (sym e) s

pub places_within : (from end : ℕ) (places : List ℕ) → ArePlaces from end places → from ≤ end
places_within from end [] h = h
places_within from end (to ∷ places) (h, rest) = let k = places_within to end places rest in omega (arith, h, k)

-- ---- rows, merged so far

pub record AreSoFar (old further rows : List ℕ) (from n : ℕ) (places : List ℕ) : Type 0 where
  pub whole : (qs : List ℕ) → rows ++ woven old from (drop n further) qs ≡ woven old 0 further (places ++ qs)
  pub rising : (qs : List ℕ) → ArePlaces from (length old) qs → ArePlaces 0 (length old) (places ++ qs)
  pub each : length places ≡ n

pub none_woven : (old further rows places : List ℕ) → rows ≡ [] → places ≡ [] → AreSoFar old further rows 0 0 places
none_woven old further rows places e f = rw (e, f) (record { whole = λ qs. refl; rising = λ qs h. h; each = refl })

pub one_woven : (old further rows rows' places places' : List ℕ) (from to n row : ℕ) → n < length further → row ≡ get_or further n 0 → from ≤ to → rows' ≡ (rows ++ take (to - from) (drop from old)) ++ row ∷ [] → places' ≡ places ++ to ∷ []
    → AreSoFar old further rows from n places → AreSoFar old further rows' to (n + 1) places'
one_woven old further rows rows' places places' from to n row h is up e f so = record {
  whole = λ qs.
      let rest = woven old to (drop (n + 1) further) qs in
      let part = take (to - from) (drop from old) in
      ap (λ xs. xs ++ rest) e ∙ append_assoc (rows ++ part) (row ∷ []) rest ∙ append_assoc rows part (row ∷ rest)
      ∙ ap (λ fs. rows ++ woven old from fs (to ∷ qs)) (sym (next_is further n row 0 h is)) ∙ so.whole (to ∷ qs) ∙ ap (woven old 0 further) (more qs);
  rising = λ qs k. subst (λ ps. ArePlaces 0 (length old) ps) (more qs) (so.rising (to ∷ qs) (up, k));
  each = ap length f ∙ length_push places to ∙ ap (λ k. k + 1) so.each;
}
  where
    more : (qs : List ℕ) → places ++ to ∷ qs ≡ places' ++ qs
    more qs = sym (append_assoc places (to ∷ []) qs) ∙ ap (λ ps. ps ++ qs) (sym f)

module _ (old further rows rows' places : List ℕ) (from n : ℕ) (so : AreSoFar old further rows from n places) where
  pub all_rows_woven : length further ≤ n → rows' ≡ rows ++ drop from old → rows' ≡ woven old 0 further places
  all_rows_woven h e =
      let none : drop n further ≡ [] = drop_all n further h in
      e ∙ ap (λ fs. rows ++ woven old from fs []) (sym none) ∙ so.whole [] ∙ ap (woven old 0 further) (append-nil places)

  pub all_places : from ≤ length old → ArePlaces 0 (length old) places
  all_places h = subst (λ ps. ArePlaces 0 (length old) ps) (append-nil places) (so.rising [] h)

-- ---- what items stand for

pub woven-map : {A B : Type 0} (f : A → B) (old : List A) (from : ℕ) (xs : List A) (ps : List ℕ) → map f (woven old from xs ps) ≡ woven (map f old) from (map f xs) ps
woven-map f old from [] [] = sym (drop-map f from old)
woven-map f old from [] (to ∷ ps) = sym (drop-map f from old)
woven-map f old from (x ∷ xs) [] = sym (drop-map f from old)
woven-map f old from (x ∷ xs) (to ∷ ps) =
    map-append f (take (to - from) (drop from old)) (x ∷ woven old to xs ps)
    ∙ ap₂ (λ ys zs. ys ++ f x ∷ zs) (sym (take-map f (to - from) (drop from old)) ∙ ap (take (to - from)) (sym (drop-map f from old))) (woven-map f old to xs ps)

-- ---- values, taken so far

held_part : (type : SqlType) (vs : List Value) (k n : ℕ) → AllByRecursion (IsHeld type) vs → AllByRecursion (IsHeld type) (take n (drop k vs))
held_part type vs zero zero all = tt
held_part type [] zero (suc n) all = tt
held_part type (v ∷ vs) zero (suc n) all = (all.0, held_part type vs zero n all.1)
held_part type [] (suc k) zero all = tt
held_part type [] (suc k) (suc n) all = tt
held_part type (v ∷ vs) (suc k) n all = held_part type vs k n all.1

pub held_added : (old t t' : CellList) (from n : ℕ) → t.type ≡ old.type → AllByRecursion (IsHeld old.type) old.values → AllByRecursion (IsHeld t.type) t.values → t' ≡ record t { values = t.values ++ part_of from n old.values }
    → AllByRecursion (IsHeld t'.type) t'.values
held_added old t t' from n e all own f = rw f (all_append (IsHeld t.type) t.values (part_of from n old.values) own (rw e (held_part old.type old.values from n all)))

module _ (old : CellList) (fs : List Value) (ps : List ℕ) where
  -- the values so far, and what is left
  pub record AreTaken (column t : CellList) (from n : ℕ) : Type 0 where
    pub type : t.type ≡ column.type
    pub values : t.values ++ woven old.values from (drop n fs) (drop n ps) ≡ woven old.values 0 fs ps
    pub places : ArePlaces from (length old.values) (drop n ps)
    pub held : AllByRecursion (IsHeld t.type) t.values

  pub none_taken : (column t : CellList) → t ≡ record { type = column.type; values = [] } → ArePlaces 0 (length old.values) ps → AreTaken column t 0 0
  none_taken column t e h = rw e (record { type = refl; values = refl; places = h; held = tt })

  module _ (column t : CellList) (from to n : ℕ) (h : n < length ps) (is : to ≡ get_or ps n to) (a : AreTaken column t from n) where
    next_places : (from ≤ to) × ArePlaces to (length old.values) (drop (n + 1) ps)
    next_places = subst (λ qs. ArePlaces from (length old.values) qs) (next_is ps n to to h is) a.places

    pub place_up : from ≤ to
    place_up = next_places.0

    pub place_within : to ≤ length old.values
    place_within = places_within to (length old.values) (drop (n + 1) ps) next_places.1

    pub one_more : (t' t'' : CellList) (v : Value) → n < length fs → v ≡ get_or fs n v → column.type ≡ old.type → AllByRecursion (IsHeld old.type) old.values → IsHeld column.type v
        → t' ≡ record t { values = t.values ++ part_of from (to - from) old.values } → t'' ≡ record t' { values = t'.values ++ v ∷ [] } → AreTaken column t'' to (n + 1)
    one_more t' t'' v l own alike held one e f = record {
      type = ap (λ (c : CellList). c.type) f ∙ ap (λ (c : CellList). c.type) e ∙ a.type;
      values =
          let rest = woven old.values to (drop (n + 1) fs) (drop (n + 1) ps) in
          let part = part_of from (to - from) old.values in
          ap (λ (c : CellList). c.values ++ rest) f ∙ ap (λ (c : CellList). (c.values ++ v ∷ []) ++ rest) e ∙ append_assoc (t.values ++ part) (v ∷ []) rest ∙ append_assoc t.values part (v ∷ rest)
          ∙ ap₂ (λ xs qs. t.values ++ woven old.values from xs qs) (sym (next_is fs n v v l own)) (sym (next_is ps n to to h is)) ∙ a.values;
      places = next_places.1;
      held = rw f (all_append (IsHeld t'.type) t'.values (v ∷ []) (held_added old t t' from (to - from) (a.type ∙ alike) held a.held e) (subst (λ type. IsHeld type v) (sym (ap (λ (c : CellList). c.type) e ∙ a.type)) one, tt));
    }

  -- all are taken
  pub all_taken_so : (column t t' : CellList) (from n : ℕ) → length fs ≤ n → AreTaken column t from n → t' ≡ record t { values = t.values ++ part_of from (length old.values - from) old.values } → t' ≡ record column { values = woven old.values 0 fs ps }
  all_taken_so column t t' from n h a e =
      let none : drop n fs ≡ [] = drop_all n fs h in
      e ∙ ap₂ (λ type vs. record { type = type; values = vs }) a.type
      (ap (λ xs. t.values ++ xs) (the_rest old.values from) ∙ ap (λ xs. t.values ++ xs) (sym (nothing_left (drop n fs) (drop n ps) none)) ∙ a.values)
    where
      nothing_left : (xs : List Value) (qs : List ℕ) → xs ≡ [] → woven old.values from xs qs ≡ drop from old.values
      nothing_left xs [] g = rw g refl
      nothing_left xs (q ∷ qs) g = rw g refl

      the_rest : (vs : List Value) (k : ℕ) → take (length vs - k) (drop k vs) ≡ drop k vs
      the_rest vs k = take_rest vs k

-- the value of a row
pub row_value : (column : CellList) (rows : List ℕ) (k row : ℕ) → k < length rows → row ≡ get_or rows k 0 → value_in column row ≡ get_or (map (value_in column) rows) k (value_in column row)
row_value column rows k row h e = ap (value_in column) e ∙ sym (get_or-map (value_in column) rows k 0 (value_in column row) h)
