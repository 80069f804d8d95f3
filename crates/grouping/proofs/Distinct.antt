-- Values that are taken once each: numbers by their units, texts by the lines that they print.
use Rattle.std.proofs.Common.{◌≡◌, ◌∙◌, refl, sym, ap, ap₂, subst, ℕ, List, [], ◌∷◌, ◌++◌, Bool, true, false, cond, map, Option, Some, None, is_some, true≢false}
use Rattle.std.specs.Prelude.{ℤ, not, ◌&&◌, ◌||◌, nat_eq, IfSome}
use Rattle.std.specs.Bool.{one_answer}
use Rattle.std.specs.Ordering.{int_eq, is_eq}
use Rattle.std.proofs.lemmas.Bool.Decides.{Decides-int_eq}
use Rattle.std.specs.Cmp.Lexicographic.{pointwise}
use Rattle.std.specs.List.{AllByRecursion, list_any}
use Rattle.std.proofs.lemmas.List.{append-nil}
use Rattle.definitions.specs.Value.{Value, Null, Number, Text, is_null}
use Rattle.definitions.specs.Table.{Row}
use Rattle.definitions.specs.Printing.{row_line}
use Rattle.definitions.specs.Lists.{without_repeats}
use Rattle.definitions.specs.Queries.Grouping.{same_value, same_values, taken}
use Rattle.definitions_answers.specs.Lines.{IsInBounds, IsRowOf, with_line}
use Rattle.definitions_answers.specs.Shapes.{Shape, Numbers, Texts, HasShape, IsThere}
use Rattle.definitions_answers.proofs.Left.{left_more, value_laws}
use Rattle.definitions_answers.proofs.LinesBack.{any_line}
use Rattle.definitions_answers.proofs.Taken.{all_left}
use Rattle.grouping.specs.Accumulating.{Accumulates}
use Rattle.sqlvalue.proofs.NumberKeys.{of_one_scale}
use Rattle.grouping.specs.Aggregating.{chosen, Aggregates, AreSeen, MayBeNoted}
use Rattle.grouping.specs.Distinct.{own_line, units_in, lines_in, with_unit, HasValues, IsNoted, IsOfNothing}
use Rattle.grouping.specs.declared.aggregation.Aggregation.{Aggregation}
use Rattle.grouping.specs.declared.distinct_values.DistinctValues.{DistinctValues}

abbrev single : Value → Row
single v = v ∷ []

alone : (b : Bool) → (b && true) ≡ b
alone true = refl
alone false = refl

-- a value among others, and its row among theirs
same_alone : (us : List Value) (v : Value) → list_any (λ before. same_values before (single v)) (map single us) ≡ list_any (λ before. same_value before v) us
same_alone [] v = refl
same_alone (u ∷ us) v = ap₂ (λ a b. a || b) (alone (same_value u v)) (same_alone us v)

lines_alone : (us : List Value) → map own_line us ≡ map row_line (map single us)
lines_alone [] = refl
lines_alone (u ∷ us) = ap (λ ls. own_line u ∷ ls) (lines_alone us)

abbrev came : List Value → Value → Bool
came us v = list_any (λ u. same_value u v) us

abbrev left : List Value → Value → List Value
left us v = cond (came us v) us (us ++ v ∷ [])

-- ---- what is kept of values that come behind others

units_joined : (us vs : List Value) → units_in (us ++ vs) ≡ units_in us ++ units_in vs
units_joined [] vs = refl
units_joined (Number a m ∷ us) vs = ap (λ ks. a ∷ ks) (units_joined us vs)
units_joined (Text t ∷ us) vs = units_joined us vs
units_joined (Null ∷ us) vs = units_joined us vs

lines_joined : (us vs : List Value) → lines_in (us ++ vs) ≡ lines_in us ++ lines_in vs
lines_joined [] vs = refl
lines_joined (Number a m ∷ us) vs = lines_joined us vs
lines_joined (Text t ∷ us) vs = ap (λ ls. own_line (Text t) ∷ ls) (lines_joined us vs)
lines_joined (Null ∷ us) vs = lines_joined us vs

-- ---- numbers of one scale

swapped : (a b : ℤ) → int_eq a b ≡ int_eq b a
swapped a b = one_answer (int_eq a b) (int_eq b a) (Decides-int_eq a b) ((λ e. sym ((Decides-int_eq b a).0 e)), (λ e. (Decides-int_eq b a).1 (sym e)))

equal_units : (a b : ℤ) (m n : ℕ) → m ≡ n → int_eq b a ≡ same_value (Number a m) (Number b n)
equal_units a b m n e = swapped b a ∙ ap is_eq (of_one_scale a b m n e)

units_came : (scale : ℕ) (us : List Value) (u : ℤ) (s : ℕ) → s ≡ scale → AllByRecursion (IsThere (Numbers scale)) us → list_any (int_eq u) (units_in us) ≡ came us (Number u s)
units_came scale [] u s e h = refl
units_came scale (Number a m ∷ us) u s e h = ap₂ (λ x y. x || y) (equal_units a u m s (h.0 ∙ sym e)) (units_came scale us u s e h.1)
units_came scale (Text t ∷ us) u s e h = absurd h.0
units_came scale (Null ∷ us) u s e h = absurd h.0

units_left : (t : Bool) (us : List Value) (u : ℤ) (s : ℕ) → cond t (units_in us) (units_in us ++ u ∷ []) ≡ units_in (cond t us (us ++ Number u s ∷ []))
units_left true us u s = refl
units_left false us u s = sym (units_joined us (Number u s ∷ []))

lines_stay : (t : Bool) (us : List Value) (u : ℤ) (s : ℕ) → lines_in us ≡ lines_in (cond t us (us ++ Number u s ∷ []))
lines_stay true us u s = refl
lines_stay false us u s = sym (lines_joined us (Number u s ∷ []) ∙ append-nil (lines_in us))

-- ---- texts of one length

texts_all : (n : ℕ) (us : List Value) → AllByRecursion (IsThere (Texts n)) us → lines_in us ≡ map own_line us
texts_all n [] h = refl
texts_all n (Number a m ∷ us) h = absurd h.0
texts_all n (Text t ∷ us) h = ap (λ ls. own_line (Text t) ∷ ls) (texts_all n us h.1)
texts_all n (Null ∷ us) h = absurd h.0

lines_left : (t : Bool) (us : List Value) (codes : List ℕ) → cond t (lines_in us) (lines_in us ++ own_line (Text codes) ∷ []) ≡ lines_in (cond t us (us ++ Text codes ∷ []))
lines_left true us codes = refl
lines_left false us codes = sym (lines_joined us (Text codes ∷ []))

units_stay : (t : Bool) (us : List Value) (codes : List ℕ) → units_in us ≡ units_in (cond t us (us ++ Text codes ∷ []))
units_stay true us codes = refl
units_stay false us codes = sym (units_joined us (Text codes ∷ []) ∙ append-nil (units_in us))

-- ---- one value more

number_more : (scale : ℕ) (us : List Value) (u : ℤ) (s : ℕ) (d d' : DistinctValues) (new : Bool) → AllByRecursion (IsThere (Numbers scale)) us → s ≡ scale → HasValues us d → IsNoted d d' new (Number u s)
    → HasValues (left us (Number u s)) d' × (new ≡ not (came us (Number u s)))
number_more scale us u s d d' new all e h (units, texts, told) =
    let same = units_came scale us u s e all in (
      record {
        units = units ∙ ap (λ ks. with_unit ks u) h.units ∙ ap (λ t. cond t (units_in us) (units_in us ++ u ∷ [])) same ∙ units_left (came us (Number u s)) us u s;
        texts = texts ∙ h.texts ∙ lines_stay (came us (Number u s)) us u s;
      },
      told ∙ ap (λ ks. not (list_any (int_eq u) ks)) h.units ∙ ap not same,
    )

text_more : (n : ℕ) (us : List Value) (codes : List ℕ) (d d' : DistinctValues) (new : Bool) → AllByRecursion (IsThere (Texts n)) us
    → list_any (pointwise nat_eq (own_line (Text codes))) (map own_line us) ≡ came us (Text codes) → HasValues us d → IsNoted d d' new (Text codes)
    → HasValues (left us (Text codes)) d' × (new ≡ not (came us (Text codes)))
text_more n us codes d d' new all same h (units, texts, told) =
    let as_lines : list_any (pointwise nat_eq (own_line (Text codes))) (lines_in us) ≡ came us (Text codes) = ap (list_any (pointwise nat_eq (own_line (Text codes)))) (texts_all n us all) ∙ same in (
      record {
        units = units ∙ h.units ∙ units_stay (came us (Text codes)) us codes;
        texts = texts ∙ ap (λ ls. with_line ls (own_line (Text codes))) h.texts ∙ ap (λ t. cond t (lines_in us) (lines_in us ++ own_line (Text codes) ∷ [])) as_lines
            ∙ lines_left (came us (Text codes)) us codes;
      },
      told ∙ ap (λ ls. not (list_any (pointwise nat_eq (own_line (Text codes))) ls)) h.texts ∙ ap not as_lines,
    )

value_more : (shape : Shape) (us : List Value) (v : Value) (d d' : DistinctValues) (new : Bool) → AllByRecursion (IsThere shape) us → HasShape shape v → is_null v ≡ false
    → list_any (pointwise nat_eq (own_line v)) (map own_line us) ≡ came us v → HasValues us d → IsNoted d d' new v → HasValues (left us v) d' × (new ≡ not (came us v))
value_more (Numbers scale) us (Number u s) d d' new all has there same h noted = number_more scale us u s d d' new all has h noted
value_more (Texts n) us (Text codes) d d' new all has there same h noted = text_more n us codes d d' new all same h noted
value_more (Numbers scale) us (Text codes) d d' new all has there same h noted = absurd has
value_more (Texts n) us (Number u s) d d' new all has there same h noted = absurd has
value_more (Numbers scale) us Null d d' new all has there same h noted = absurd (true≢false there)
value_more (Texts n) us Null d d' new all has there same h noted = absurd (true≢false there)

has_shape : (shape : Shape) (v : Value) → IsThere shape v → HasShape shape v
has_shape shape Null h = absurd h
has_shape shape (Number u s) h = h
has_shape shape (Text t) h = h

rows_shaped : (shape : Shape) (us : List Value) → AllByRecursion (IsThere shape) us → AllByRecursion IsInBounds us → AllByRecursion (IsRowOf (shape ∷ [])) (map single us)
rows_shaped shape [] h b = tt
rows_shaped shape (u ∷ us) h b = (record { shaped = (has_shape shape u h.0, tt); bounded = (b.0, tt) }, rows_shaped shape us h.1 b.1)

module _ (shape : Shape) (vs : List Value) (v : Value) (all : AllByRecursion (IsThere shape) vs) (bounds : AllByRecursion IsInBounds vs) (has : HasShape shape v) (bound : IsInBounds v) where
  abbrev us : List Value
  us = without_repeats same_value vs

  abbrev before : Bool
  before = list_any (λ u. same_value u v) us

  own : IsRowOf (shape ∷ []) (single v)
  own = record { shaped = (has, tt); bounded = (bound, tt) }

  rows : AllByRecursion (IsRowOf (shape ∷ [])) (map single us)
  rows = rows_shaped shape us (all_left same_value (IsThere shape) vs all) (all_left same_value IsInBounds vs bounds)

  more : without_repeats same_value (vs ++ v ∷ []) ≡ cond before us (us ++ v ∷ [])
  more = left_more same_value value_laws vs v

  told_before : list_any (pointwise nat_eq (own_line v)) (map own_line us) ≡ before
  told_before = ap (list_any (pointwise nat_eq (own_line v))) (lines_alone us) ∙ any_line (shape ∷ []) (map single us) (single v) rows own ∙ same_alone us v

  pub one_noted : (d d' : DistinctValues) (new : Bool) → is_null v ≡ false → HasValues us d → IsNoted d d' new v → HasValues (without_repeats same_value (vs ++ v ∷ [])) d' × (new ≡ not before)
  one_noted d d' new there h noted =
      let step = value_more shape us v d d' new (all_left same_value (IsThere shape) vs all) has there told_before h noted in
      (subst (λ ws. HasValues ws d') (sym more) step.0, step.1)

  pub new_more : before ≡ false → without_repeats same_value (vs ++ v ∷ []) ≡ us ++ v ∷ []
  new_more e = more ∙ ap (λ t. cond t us (us ++ v ∷ [])) e

  pub old_more : before ≡ true → without_repeats same_value (vs ++ v ∷ []) ≡ us
  old_more e = more ∙ ap (λ t. cond t us (us ++ v ∷ [])) e

-- ---- of an aggregation

pub of_nothing : (shape : Shape) (a : Aggregation) → Accumulates shape [] a.running → IfSome a.seen IsOfNothing → Aggregates shape [] a
of_nothing shape a running seen = record { running = by_seen (is_some a.seen); seen = seen; bounded = tt }
  where
    by_seen : (distinct : Bool) → Accumulates shape (chosen distinct []) a.running
    by_seen true = running
    by_seen false = running

module _ (shape : Shape) (vs : List Value) (v : Value) (all : AllByRecursion (IsThere shape) vs) (has : HasShape shape v) (bound : IsInBounds v) (is_there : is_null v ≡ false) where
  bounds_more : (ws : List Value) → AllByRecursion IsInBounds ws → AllByRecursion IsInBounds (ws ++ v ∷ [])
  bounds_more [] h = (bound, tt)
  bounds_more (w ∷ ws) h = (h.0, bounds_more ws h.1)

  -- a value that is not null is taken as it is
  pub taken_is : taken false (v ∷ []) ≡ v ∷ []
  taken_is = ap (λ b. cond (not b) (v ∷ []) []) is_there

  -- it is new, and taken
  pub one_new : (a a' : Aggregation) → Aggregates shape vs a → is_some a'.seen ≡ is_some a.seen → MayBeNoted a.seen a'.seen true v
      → ((us : List Value) → AllByRecursion (IsThere shape) us → Accumulates shape us a.running → Accumulates shape (us ++ taken false (v ∷ [])) a'.running) → Aggregates shape (vs ++ taken false (v ∷ [])) a'
  one_new a a' h kept noted step = subst (λ ws. Aggregates shape (vs ++ ws) a') (sym taken_is) (of_seen a.seen a'.seen refl refl)
    where
      running_as : (us : List Value) → AllByRecursion (IsThere shape) us → Accumulates shape us a.running → Accumulates shape (us ++ v ∷ []) a'.running
      running_as us t r = subst (λ ws. Accumulates shape (us ++ ws) a'.running) taken_is (step us t r)

      of_seen : (s s' : Option DistinctValues) → a.seen ≡ s → a'.seen ≡ s' → Aggregates shape (vs ++ v ∷ []) a'
      of_seen None None e f = record {
        running = subst (λ o. Accumulates shape (chosen (is_some o) (vs ++ v ∷ [])) a'.running) (sym f) (running_as vs all (subst (λ o. Accumulates shape (chosen (is_some o) vs) a.running) e h.running));
        seen = subst (λ o. AreSeen o (vs ++ v ∷ [])) (sym f) tt;
        bounded = bounds_more vs h.bounded;
      }
      of_seen None (Some x) e f = absurd (true≢false (ap is_some (sym f) ∙ kept ∙ ap is_some e))
      of_seen (Some x) None e f = absurd (true≢false (ap is_some (sym e) ∙ sym kept ∙ ap is_some f))
      of_seen (Some x) (Some y) e f =
          let us : List Value = without_repeats same_value vs in
          let are : HasValues us x = subst (λ o. AreSeen o vs) e h.seen in
          let told : IsNoted x y true v = subst (λ o. MayBeNoted o (Some y) true v) e (subst (λ o. MayBeNoted a.seen o true v) f noted) in
          let step = one_noted shape vs v all h.bounded has bound x y true is_there are told in
          let first : came us v ≡ false = is_false (came us v) step.1 in
          record {
            running =
                subst (λ o. Accumulates shape (chosen (is_some o) (vs ++ v ∷ [])) a'.running) (sym f)
                (subst (λ ws. Accumulates shape ws a'.running) (sym (new_more shape vs v all h.bounded has bound first))
                (running_as us (all_left same_value (IsThere shape) vs all) (subst (λ o. Accumulates shape (chosen (is_some o) vs) a.running) e h.running)));
            seen = subst (λ o. AreSeen o (vs ++ v ∷ [])) (sym f) step.0;
            bounded = bounds_more vs h.bounded;
          }
        where
          is_false : (b : Bool) → true ≡ not b → b ≡ false
          is_false true e = absurd (true≢false e)
          is_false false e = refl

  -- or it came before, and is left out
  pub one_old : (a a' : Aggregation) → Aggregates shape vs a → a'.running ≡ a.running → is_some a'.seen ≡ is_some a.seen → MayBeNoted a.seen a'.seen false v → Aggregates shape (vs ++ taken false (v ∷ [])) a'
  one_old a a' h same kept noted = subst (λ ws. Aggregates shape (vs ++ ws) a') (sym taken_is) (of_seen a.seen a'.seen refl refl)
    where
      of_seen : (s s' : Option DistinctValues) → a.seen ≡ s → a'.seen ≡ s' → Aggregates shape (vs ++ v ∷ []) a'
      of_seen None s' e f = absurd (true≢false (sym (subst (λ o. MayBeNoted o a'.seen false v) e noted)))
      of_seen (Some x) None e f = absurd (true≢false (ap is_some (sym e) ∙ sym kept ∙ ap is_some f))
      of_seen (Some x) (Some y) e f =
          let us : List Value = without_repeats same_value vs in
          let are : HasValues us x = subst (λ o. AreSeen o vs) e h.seen in
          let told : IsNoted x y false v = subst (λ o. MayBeNoted o (Some y) false v) e (subst (λ o. MayBeNoted a.seen o false v) f noted) in
          let step = one_noted shape vs v all h.bounded has bound x y false is_there are told in
          let again : came us v ≡ true = is_true' (came us v) step.1 in
          record {
            running =
                subst (λ o. Accumulates shape (chosen (is_some o) (vs ++ v ∷ [])) a'.running) (sym f)
                (subst (λ ws. Accumulates shape ws a'.running) (sym (old_more shape vs v all h.bounded has bound again))
                (subst (Accumulates shape (without_repeats same_value vs)) (sym same) (subst (λ o. Accumulates shape (chosen (is_some o) vs) a.running) e h.running)));
            seen = subst (λ o. AreSeen o (vs ++ v ∷ [])) (sym f) step.0;
            bounded = bounds_more vs h.bounded;
          }
        where
          is_true' : (b : Bool) → false ≡ not b → b ≡ true
          is_true' true e = refl
          is_true' false e = absurd (true≢false (sym e))

-- what counts is there
pub chosen_there : (distinct : Bool) (shape : Shape) (vs : List Value) → AllByRecursion (IsThere shape) vs → AllByRecursion (IsThere shape) (chosen distinct vs)
chosen_there true shape vs h = all_left same_value (IsThere shape) vs h
chosen_there false shape vs h = h
