-- Groups that are cut where a grouping value changes.
use Rattle.std.proofs.Common.{◌≡◌, ◌∙◌, inl, inr, refl, sym, ap, subst, List, [], ◌∷◌, ◌++◌, Bool, true, false, true≢false, append_assoc}
use Rattle.std.specs.Prelude.{◌&&◌, IsPermutation}
use Rattle.std.specs.List.{AllByRecursion}
use Rattle.std.specs.Cmp.{IsTotalOrder, tied_itself, alike_right}
use Rattle.std.specs.Ordering.{ordering_then, is_eq, is_le}
use Rattle.std.specs.declared.cmp.Ordering.{Ordering}
use Rattle.std.specs.declared.cmp.Ordering.TheVariants.{Less, Equal, Greater}
use Rattle.std.proofs.lemmas.Grind.{flat_map-append}
use Rattle.std.proofs.lemmas.List.{append-nil}
use Rattle.std.proofs.lemmas.List.Sorted.{IsPermutation-refl}
use Rattle.definitions.specs.Value.{rank}
use Rattle.definitions.specs.Plans.Order.{BlockColumn}
use Rattle.definitions.specs.Queries.Evaluation.{Combination, cell}
use Rattle.definitions.specs.Queries.Laws.{AreClasses}
use Rattle.definitions_execution.specs.BlockLaws.{cell_of}
use Rattle.definitions_execution.specs.Lists.{In, Rises}
use Rattle.definitions_execution.specs.RowOrder.{ranked_by, NotAfter}
use Rattle.definitions_execution.proofs.RowOrders.{order_total}
use Rattle.definitions_answers.specs.Groups.{in_one_group, joined, NoneIsEmpty}
use Rattle.definitions_answers.specs.Runs.{IsCut, begins, goes_on, changes, grouping_order, CutsAreGroups}

-- ---- lists

rises_before : {X : Type 0} (R : X → X → Type 0) (xs : List X) (y : X) → Rises R (xs ++ y ∷ []) → Rises R xs
rises_before R [] y h = tt
rises_before {X} R (x ∷ xs) y h = (λ z i. h.0 z (first_part xs z i), rises_before R xs y h.1)
  where
    first_part : (us : List X) (z : X) → In z us → In z (us ++ y ∷ [])
    first_part [] z i = absurd i
    first_part (u ∷ us) z (inl e) = inl e
    first_part (u ∷ us) z (inr i) = inr (first_part us z i)

last_is_in : {X : Type 0} (xs : List X) (y : X) → In y (xs ++ y ∷ [])
last_is_in [] y = inl refl
last_is_in (x ∷ xs) y = inr (last_is_in xs y)

each_before : {X : Type 0} (R : X → X → Type 0) (xs : List X) (x y : X) → Rises R (xs ++ y ∷ []) → In x xs → R x y
each_before R [] x y h i = absurd i
each_before R (u ∷ us) x y h (inl e) = subst (λ v. R v y) e (h.0 y (last_is_in us y))
each_before R (u ∷ us) x y h (inr i) = each_before R us x y h.1 i

joined_more : {X : Type 0} (groups : List (List X)) (group : List X) → joined (groups ++ group ∷ []) ≡ joined groups ++ group
joined_more groups group = flat_map-append (λ g. g) groups (group ∷ []) ∙ ap (λ l. joined groups ++ l) (append-nil group)

none_empty_more : {X : Type 0} (groups : List (List X)) (x : X) (xs : List X) → NoneIsEmpty groups → NoneIsEmpty (groups ++ (x ∷ xs) ∷ [])
none_empty_more [] x xs h = tt
none_empty_more ([] ∷ groups) x xs h = absurd h
none_empty_more ((y ∷ ys) ∷ groups) x xs h = none_empty_more groups x xs h

all_of : {A : Type 0} (P Q : A → Type 0) → ((x : A) → P x → Q x) → (xs : List A) → AllByRecursion P xs → AllByRecursion Q xs
all_of P Q f [] h = tt
all_of P Q f (x ∷ xs) h = (f x h.0, all_of P Q f xs h.1)

two_of : {A : Type 0} (P Q R : A → Type 0) → ((x : A) → P x → Q x → R x) → (xs : List A) → AllByRecursion P xs → AllByRecursion Q xs → AllByRecursion R xs
two_of P Q R f [] h l = tt
two_of P Q R f (x ∷ xs) h l = (f x h.0 l.0, two_of P Q R f xs h.1 l.1)

all_more : {A : Type 0} (P : A → Type 0) (xs ys : List A) → AllByRecursion P xs → AllByRecursion P ys → AllByRecursion P (xs ++ ys)
all_more P [] ys h l = l
all_more P (x ∷ xs) ys h l = (h.0, all_more P xs ys h.1 l)

all_first : {A : Type 0} (P : A → Type 0) (xs ys : List A) → AllByRecursion P (xs ++ ys) → AllByRecursion P xs × AllByRecursion P ys
all_first P [] ys h = (tt, h)
all_first P (x ∷ xs) ys h = let (a, b) = all_first P xs ys h.1 in ((h.0, a), b)

classes_more : {X : Type 0} (same : X → X → Bool) (closed : List (List X)) (others : List X) → AreClasses same closed
    → AllByRecursion (λ z. AllByRecursion (λ y. same z y ≡ false) others) (joined closed) → AllByRecursion (λ x. AllByRecursion (λ y. same x y ≡ true) others) others → AreClasses same (closed ++ others ∷ [])
classes_more same [] others h apart alike = (alike, all_of _ _ (λ x k. tt) others alike, tt)
classes_more {X} same (c ∷ cs) others h apart alike =
    let (own, later) = all_first (λ z. AllByRecursion (λ y. same z y ≡ false) others) c (joined cs) apart in (
      h.0,
      two_of (λ x. AllByRecursion (λ ys. AllByRecursion (λ y. same x y ≡ false) ys) cs) (λ x. AllByRecursion (λ y. same x y ≡ false) others) (λ x. AllByRecursion (λ ys. AllByRecursion (λ y. same x y ≡ false) ys) (cs ++ others ∷ []))
          (λ x k l. all_more (λ ys. AllByRecursion (λ y. same x y ≡ false) ys) cs (others ∷ []) k (l, tt)) c h.1 own,
      classes_more same cs others h.2 later alike,
    )

-- ---- one group is what ranks as equal

both_equal : (o p : Ordering) → is_eq (ordering_then o p) ≡ (is_eq o && is_eq p)
both_equal Less p = refl
both_equal Equal p = refl
both_equal Greater p = refl

pub one_group_is_equal : (columns : List BlockColumn) (c d : Combination) → in_one_group columns c d ≡ is_eq (ranked_by cell_of (grouping_order columns) c d)
one_group_is_equal [] c d = refl
one_group_is_equal (column ∷ columns) c d =
    ap (λ t. is_eq (rank (cell c column) (cell d column)) && t) (one_group_is_equal columns c d)
    ∙ sym (both_equal (rank (cell c column) (cell d column)) (ranked_by cell_of (grouping_order columns) c d))

equal_from : (o : Ordering) → is_eq o ≡ true → o ≡ Equal
equal_from Less e = absurd (true≢false (sym e))
equal_from Equal e = refl
equal_from Greater e = absurd (true≢false (sym e))

less_from : (o : Ordering) → is_le o ≡ true → is_eq o ≡ false → o ≡ Less
less_from Less h e = refl
less_from Equal h e = absurd (true≢false e)
less_from Greater h e = absurd (true≢false (sym h))

module _ (columns : List BlockColumn) where
  abbrev ranked : Combination → Combination → Ordering
  ranked = ranked_by cell_of (grouping_order columns)

  total : IsTotalOrder ranked
  total = order_total cell_of (grouping_order columns)

  abbrev same : Combination → Combination → Bool
  same = in_one_group columns

  ranks_equal : (c d : Combination) → same c d ≡ true → ranked c d ≡ Equal
  ranks_equal c d e = equal_from (ranked c d) (sym (one_group_is_equal columns c d) ∙ e)

  same_if : (c d : Combination) → ranked c d ≡ Equal → same c d ≡ true
  same_if c d e = one_group_is_equal columns c d ∙ ap is_eq e

  apart_if : (c d : Combination) → ranked c d ≡ Less → same c d ≡ false
  apart_if c d e = one_group_is_equal columns c d ∙ ap is_eq e

  -- what holds where combinations have been cut
  record Going (cs : List Combination) (closed : List (List Combination)) (first : Combination) (others : List Combination) : Type 0 where
    whole : cs ≡ joined closed ++ first ∷ others
    some : NoneIsEmpty closed
    classes : AreClasses same closed
    alike : AllByRecursion (λ c. ranked first c ≡ Equal) (first ∷ others)
    past : AllByRecursion (λ c. ranked c first ≡ Less) (joined closed)

  all_alike : (first : Combination) (others : List Combination) → AllByRecursion (λ c. ranked first c ≡ Equal) others → AllByRecursion (λ c. AllByRecursion (λ d. same c d ≡ true) others) others
  all_alike first others h = all_of (λ c. ranked first c ≡ Equal) (λ c. AllByRecursion (λ d. same c d ≡ true) others) (λ c e. all_of (λ d. ranked first d ≡ Equal) (λ d. same c d ≡ true) (λ d l. same_if c d (sym (total.congr first c d e) ∙ l)) others h) others h

  less_on : (c first d : Combination) → ranked c first ≡ Less → ranked first d ≡ Equal → ranked c d ≡ Less
  less_on c first d h e = sym (alike_right total first d c e) ∙ h

  all_apart : (closed : List Combination) (first : Combination) (others : List Combination) → AllByRecursion (λ c. ranked c first ≡ Less) closed → AllByRecursion (λ c. ranked first c ≡ Equal) others → AllByRecursion (λ c. AllByRecursion (λ d. same c d ≡ false) others) closed
  all_apart closed first others past h = all_of (λ c. ranked c first ≡ Less) (λ c. AllByRecursion (λ d. same c d ≡ false) others) (λ c e. all_of (λ d. ranked first d ≡ Equal) (λ d. same c d ≡ false) (λ d l. apart_if c d (less_on c first d e l)) others h) closed past

  is_in : (xs : List Combination) (first : Combination) (ys : List Combination) → In first (xs ++ first ∷ ys)
  is_in [] first ys = inl refl
  is_in (x ∷ xs) first ys = inr (is_in xs first ys)

  abbrev Ordered : List Combination → Type 0
  Ordered = Rises (NotAfter cell_of (grouping_order columns))

  -- the first of the group that goes on is not after the next one
  not_after : (cs closed : List Combination) (first : Combination) (others : List Combination) (c : Combination) → cs ≡ closed ++ first ∷ others → Ordered (cs ++ c ∷ []) → is_le (ranked first c) ≡ true
  not_after cs closed first others c e h = each_before (NotAfter cell_of (grouping_order columns)) cs first c h (subst (In first) (sym e) (is_in closed first others))

  going : (cs : List Combination) (closed : List (List Combination)) (first : Combination) (others : List Combination) → Ordered cs → IsCut columns cs closed first others → Going cs closed first others
  going cs closed c others h (begins _ _ _ _ e f g) = rw (e, f, g) (record { whole = refl; some = tt; classes = tt; alike = (tied_itself total c, tt); past = tt })
  going more closed first longer h (goes_on _ c cs _ _ others _ cut one e f) =
      let h' : Ordered (cs ++ c ∷ []) = subst Ordered e h in
      let g = going cs closed first others (rises_before (NotAfter cell_of (grouping_order columns)) cs c h') cut in
      rw (e, f) (record {
        whole = ap (λ l. l ++ c ∷ []) g.whole ∙ append_assoc (joined closed) (first ∷ others) (c ∷ []);
        some = g.some;
        classes = g.classes;
        alike = all_more (λ d. ranked first d ≡ Equal) (first ∷ others) (c ∷ []) g.alike (ranks_equal first c one, tt);
        past = g.past;
      })
  going more further c none h (changes first _ cs _ closed _ others _ cut other e f n) =
      let h' : Ordered (cs ++ c ∷ []) = subst Ordered e h in
      let g = going cs closed first others (rises_before (NotAfter cell_of (grouping_order columns)) cs c h') cut in
      let less : ranked first c ≡ Less = less_from (ranked first c) (not_after cs (joined closed) first others c g.whole h') (sym (one_group_is_equal columns first c) ∙ other) in
      rw (e, f, n) (record {
        whole = ap (λ l. l ++ c ∷ []) (g.whole ∙ sym (joined_more closed (first ∷ others)));
        some = none_empty_more closed first others g.some;
        classes = classes_more same closed (first ∷ others) g.classes (all_apart (joined closed) first (first ∷ others) g.past g.alike) (all_alike first (first ∷ others) g.alike);
        alike = (tied_itself total c, tt);
        past = subst (AllByRecursion (λ d. ranked d c ≡ Less)) (sym (joined_more closed (first ∷ others)))
            (all_more (λ d. ranked d c ≡ Less) (joined closed) (first ∷ others) (all_of (λ d. ranked d first ≡ Less) (λ d. ranked d c ≡ Less) (λ d k. total.trans d first c k less) (joined closed) g.past)
            (all_of (λ d. ranked first d ≡ Equal) (λ d. ranked d c ≡ Less) (λ d k. sym (total.congr first d c k) ∙ less) (first ∷ others) g.alike));
      })

pub cuts_are_groups : CutsAreGroups
cuts_are_groups columns cs closed first others h cut =
    let g = going columns cs closed first others h cut in
    record {
      all = subst (IsPermutation cs) (g.whole ∙ sym (joined_more closed (first ∷ others))) (IsPermutation-refl cs);
      some = none_empty_more closed first others g.some;
      classes = classes_more (in_one_group columns) closed (first ∷ others) g.classes (all_apart columns (joined closed) first (first ∷ others) g.past g.alike) (all_alike columns first (first ∷ others) g.alike);
    }
