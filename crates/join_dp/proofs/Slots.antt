-- Rows of places.
use Rattle.std.proofs.Common.{zero, suc, length-append, ◌≡◌, ◌≢◌, ◌∙◌, ℕ, ◌+◌, ◌<◌, ◌≤◌, ◌⊎◌, inl, inr, List, [], ◌∷◌, ◌++◌, Bool, Option, Some, None, length, get_or, set, nat_lt, true, false, arith, refl, sym, ap, subst}
use Rattle.std.proofs.lemmas.Bool.{cases_lt, cases_eq}
use Rattle.std.proofs.lemmas.Bool.Decides.{nat_tests}
use Rattle.std.proofs.lemmas.List.{get_or-set_same, get_or-set_other, length-set, get_or_append_left}
use Rattle.std.below.core.proofs.slice.Lists.{any-default}
use Rattle.join_dp.specs.Costs.{unknown, IsFoundAt, IsSettledAt}
use Rattle.join_dp.specs.Slots.{item_in, costs_in, AreRows, AreClearBehind, AreSame, AreBehind}

some_once : (row : Option ℕ) (a b : ℕ) → row ≡ Some a → row ≡ Some b → a ≡ b
some_once None a b e f = absurd cc
some_once (Some x) a b e f = cc

module _ {X : Type 0} (none : X) (orders : ℕ) (items : List X) where
  pub item_some : (row : Option ℕ) (start k : ℕ) → row ≡ Some start → k < orders → item_in none orders items row k ≡ get_or items (start + k) none
  item_some row start k e lt =
      let yes : nat_lt k orders ≡ true = grind (arith, nat_tests) in
      rw e (rw yes refl)

  pub item_none : (start k : ℕ) → orders ≤ k → item_in none orders items (Some start) k ≡ none
  item_none start k ge =
      let no : nat_lt k orders ≡ false = grind (arith, nat_tests) in
      rw no refl

apart_cases : (orders : ℕ) (rows : List (Option ℕ)) (size : ℕ) → AreRows orders rows size → (a b start other : ℕ) → a ≢ b → get_or rows a None ≡ Some start → get_or rows b None ≡ Some other → (start + orders ≤ other) ⊎ (other + orders ≤ start)
apart_cases orders rows size are a b start other ne e f = of_cases (cases_lt start other)
  where
    of_cases : (start < other) ⊎ (other ≤ start) → (start + orders ≤ other) ⊎ (other + orders ≤ start)
    of_cases (inl lt) = inl (are.apart a b start other ne e f (omega (arith, lt)))
    of_cases (inr ge) = inr (are.apart b a other start (λ is. ne (sym is)) f e ge)

pub place_within : (orders : ℕ) (rows : List (Option ℕ)) (size : ℕ) → AreRows orders rows size → (tables order start : ℕ) → get_or rows tables None ≡ Some start → order < orders → start + order < size
place_within orders rows size are tables order start here lt = let w = are.within tables start here in omega (arith, w, lt)

-- ---- an item that is written

module _ {X : Type 0} (none : X) (orders : ℕ) (rows : List (Option ℕ)) (size : ℕ) (items : List X) (are : AreRows orders rows size) (enough : size ≤ length items)
    (tables order start : ℕ) (here : get_or rows tables None ≡ Some start) (lt : order < orders) (x : X) where
  pub set_here : item_in none orders (set items (start + order) x) (get_or rows tables None) order ≡ x
  set_here =
      let within = place_within orders rows size are tables order start here lt in
      item_some none orders (set items (start + order) x) _ start order here lt ∙ get_or-set_same items (start + order) x none (omega (arith, within, enough))

  pub set_other : (s k : ℕ) → (s ≢ tables) ⊎ (k ≢ order) → item_in none orders (set items (start + order) x) (get_or rows s None) k ≡ item_in none orders items (get_or rows s None) k
  set_other s k ne = of_row (get_or rows s None) refl (cases_lt k orders)
    where
      of_apart : (other : ℕ) → k < orders → (start + orders ≤ other) ⊎ (other + orders ≤ start) → other + k ≢ start + order
      of_apart other less (inl behind) e = absurd (omega (arith, behind, e, lt))
      of_apart other less (inr before) e = absurd (omega (arith, before, e, less))

      of_ne : (other : ℕ) → get_or rows s None ≡ Some other → k < orders → (s ≢ tables) ⊎ (k ≢ order) → (s ≡ tables) ⊎ (s ≢ tables) → other + k ≢ start + order
      of_ne other e less (inl ne') c = of_apart other less (apart_cases orders rows size are tables s start other (λ is. ne' (sym is)) here e)
      of_ne other e less (inr ne') (inl is) = λ same.
          let at_start : other ≡ start = some_once _ other start e (subst (λ n. get_or rows n None ≡ Some start) (sym is) here) in
          ne' (omega (arith, at_start, same))
      of_ne other e less (inr ne') (inr apart) = of_apart other less (apart_cases orders rows size are tables s start other (λ is. apart (sym is)) here e)

      of_row : (row : Option ℕ) → get_or rows s None ≡ row → (k < orders) ⊎ (orders ≤ k) → item_in none orders (set items (start + order) x) row k ≡ item_in none orders items row k
      of_row None e c = refl
      of_row (Some other) e (inr ge) = item_none none orders (set items (start + order) x) other k ge ∙ sym (item_none none orders items other k ge)
      of_row (Some other) e (inl less) =
          item_some none orders (set items (start + order) x) (Some other) other k refl less
          ∙ get_or-set_other items (start + order) (other + k) x none (of_ne other e less ne (cases_eq s tables))
          ∙ sym (item_some none orders items (Some other) other k refl less)

module _ (orders : ℕ) (rows : List (Option ℕ)) (costs : List ℕ) (settled : List Bool) (are : AreRows orders rows (length costs)) (tables order start : ℕ) (here : get_or rows tables None ≡ Some start) (lt : order < orders) where
  pub found_is : (cost : ℕ) (rows' : List (Option ℕ)) (costs' : List ℕ) (settled' : List Bool) → length rows ≡ length rows' → AreSame unknown orders rows' costs' rows costs → AreSame false orders rows' settled' rows settled
      → IsFoundAt tables order cost (costs_in orders rows' costs' settled') (costs_in orders rows (set costs (start + order) cost) settled)
  found_is cost rows' costs' settled' sets same kept = record {
    sets = sets;
    orders = refl;
    here = set_here unknown orders rows (length costs) costs are (omega arith) tables order start here lt cost;
    others = λ t k ne. set_other unknown orders rows (length costs) costs are (omega arith) tables order start here lt cost t k ne ∙ same t k;
    settled = kept;
  }

  pub still_rows : (cost : ℕ) → AreRows orders rows (length (set costs (start + order) cost))
  still_rows cost = record { within = λ t s is. let w = are.within t s is in omega (arith, w, length-set costs (start + order) cost); apart = are.apart }

  pub still_clear : (cost : ℕ) → AreClearBehind (length costs) settled → AreClearBehind (length (set costs (start + order) cost)) settled
  still_clear cost c = let e = length-set costs (start + order) cost in record {
    enough = let m = c.enough in omega (arith, m, e);
    clear = λ place le. c.clear place (omega (arith, le, e));
  }

  pub settled_is : AreClearBehind (length costs) settled → IsSettledAt tables order (costs_in orders rows costs settled) (costs_in orders rows costs (set settled (start + order) true))
  settled_is c = record {
    sets = refl;
    orders = refl;
    costs = λ t k. refl;
    here = set_here false orders rows (length costs) settled are c.enough tables order start here lt true;
    others = set_other false orders rows (length costs) settled are c.enough tables order start here lt true;
  }

  pub clear_then : AreClearBehind (length costs) settled → AreClearBehind (length costs) (set settled (start + order) true)
  clear_then c =
      let within = place_within orders rows (length costs) are tables order start here lt in
      let m = c.enough in
      record {
        enough = omega (arith, m, length-set settled (start + order) true);
        clear = λ place le. get_or-set_other settled (start + order) place true false (λ e. absurd (omega (arith, e, within, le))) ∙ c.clear place le;
      }

-- ---- a new row

pub none_behind : {X : Type 0} (x : X) (old : List X) → AreBehind x old old 0
none_behind {X = X} x old = record { size = omega arith; kept = λ i lt. refl; all = λ i ge. of_size old i ge }
  where
    of_size : (xs : List X) (i : ℕ) → length xs ≤ i → get_or xs i x ≡ x
    of_size [] i ge = refl
    of_size (y ∷ ys) zero ge = absurd (omega (arith, ge))
    of_size (y ∷ ys) (suc i) ge = of_size ys i (omega (arith, ge))

pub one_behind : {X : Type 0} (x : X) (old xs : List X) (count : ℕ) → AreBehind x old xs count → AreBehind x old (xs ++ x ∷ []) (count + 1)
one_behind {X = X} x old xs count are = record {
  size = length-append xs (x ∷ []) ∙ omega (arith, are.size);
  kept = λ i lt. let size = are.size in get_or_append_left xs (x ∷ []) x i (omega (arith, lt, size)) ∙ are.kept i lt;
  all = λ i ge. of_append xs i (are.all i ge);
}
  where
    of_append : (ys : List X) (i : ℕ) → get_or ys i x ≡ x → get_or (ys ++ x ∷ []) i x ≡ x
    of_append [] zero e = refl
    of_append [] (suc i) e = refl
    of_append (y ∷ ys) zero e = e
    of_append (y ∷ ys) (suc i) e = of_append ys i e

pub rows_within : (orders : ℕ) (rows : List (Option ℕ)) (size size' : ℕ) → size ≤ size' → AreRows orders rows size → AreRows orders rows size'
rows_within orders rows size size' le are = record { within = λ t s is. let w = are.within t s is in omega (arith, w, le); apart = are.apart }

-- flags behind which as many are pushed as costs, or more
pub clear_behind : (size size' count : ℕ) (old new : List Bool) → AreClearBehind size old → AreBehind false old new count → size ≤ size' → size' ≤ size + count → AreClearBehind size' new
clear_behind size size' count old new c b le most = record {
  enough = let m = c.enough in let n = b.size in omega (arith, m, n, most);
  clear = λ place at. of_place place (omega (arith, le, at)) (cases_lt place (length old));
}
  where
    of_place : (place : ℕ) → size ≤ place → (place < length old) ⊎ (length old ≤ place) → get_or new place false ≡ false
    of_place place at (inl lt) = b.kept place lt ∙ c.clear place at
    of_place place at (inr ge) = b.all place ge

module _ {X : Type 0} (none : X) (orders : ℕ) (rows : List (Option ℕ)) (old new : List X) (start : ℕ) (are : AreRows orders rows start) (enough : start ≤ length old) (clear : (place : ℕ) → start ≤ place → get_or old place none ≡ none)
    (tables : ℕ) (inside : tables < length rows) (empty : get_or rows tables None ≡ None) (behind : AreBehind none old new orders) where
  pub same_items : AreSame none orders rows old (set rows tables (Some start)) new
  same_items t k = of_cases (cases_eq t tables)
    where
      of_row : (row : Option ℕ) → get_or rows t None ≡ row → (k < orders) ⊎ (orders ≤ k) → item_in none orders new row k ≡ item_in none orders old row k
      of_row None e c = refl
      of_row (Some other) e (inr ge) = item_none none orders new other k ge ∙ sym (item_none none orders old other k ge)
      of_row (Some other) e (inl less) =
          let w = are.within t other e in
          item_some none orders new (Some other) other k refl less ∙ behind.kept (other + k) (omega (arith, w, less, enough)) ∙ sym (item_some none orders old (Some other) other k refl less)

      of_place : (place : ℕ) → start ≤ place → (place < length old) ⊎ (length old ≤ place) → get_or new place none ≡ none
      of_place place at (inl lt) = behind.kept place lt ∙ clear place at
      of_place place at (inr ge) = behind.all place ge

      of_new : (k < orders) ⊎ (orders ≤ k) → item_in none orders new (Some start) k ≡ none
      of_new (inl less) = item_some none orders new (Some start) start k refl less ∙ of_place (start + k) (omega arith) (cases_lt (start + k) (length old))
      of_new (inr ge) = item_none none orders new start k ge

      of_cases : (t ≡ tables) ⊎ (t ≢ tables) → item_in none orders new (get_or (set rows tables (Some start)) t None) k ≡ item_in none orders old (get_or rows t None) k
      of_cases (inl e) = rw (e, get_or-set_same rows tables (Some start) None inside, empty) (of_new (cases_lt k orders))
      of_cases (inr ne) = rw (get_or-set_other rows tables t (Some start) None ne) (of_row (get_or rows t None) refl (cases_lt k orders))

pub more_rows : (orders : ℕ) (rows : List (Option ℕ)) (start size tables : ℕ) → AreRows orders rows start → tables < length rows → start + orders ≤ size → AreRows orders (set rows tables (Some start)) size
more_rows orders rows start size tables are inside room = record {
  within = λ t s is. of_row t s (row_is t s is);
  apart = λ a b s other ne is is' le. of_rows a b s other ne le (row_is a s is) (row_is b other is');
}
  where
    row_is : (t s : ℕ) → get_or (set rows tables (Some start)) t None ≡ Some s → ((t ≡ tables) × (s ≡ start)) ⊎ ((t ≢ tables) × (get_or rows t None ≡ Some s))
    row_is t s is = of_cases (cases_eq t tables)
      where
        of_cases : (t ≡ tables) ⊎ (t ≢ tables) → ((t ≡ tables) × (s ≡ start)) ⊎ ((t ≢ tables) × (get_or rows t None ≡ Some s))
        of_cases (inl e) = inl (e, some_once _ s start is (subst (λ n. get_or (set rows tables (Some start)) n None ≡ Some start) (sym e) (get_or-set_same rows tables (Some start) None inside)))
        of_cases (inr ne) = inr (ne, sym (get_or-set_other rows tables t (Some start) None ne) ∙ is)

    of_row : (t s : ℕ) → ((t ≡ tables) × (s ≡ start)) ⊎ ((t ≢ tables) × (get_or rows t None ≡ Some s)) → s + orders ≤ size
    of_row t s (inl (e, is)) = omega (arith, is, room)
    of_row t s (inr (ne, is)) = let w = are.within t s is in omega (arith, w, room)

    of_rows : (a b s other : ℕ) → a ≢ b → s ≤ other → ((a ≡ tables) × (s ≡ start)) ⊎ ((a ≢ tables) × (get_or rows a None ≡ Some s))
        → ((b ≡ tables) × (other ≡ start)) ⊎ ((b ≢ tables) × (get_or rows b None ≡ Some other)) → s + orders ≤ other
    of_rows a b s other ne le (inl (e, is)) (inl (e', is')) = absurd (ne (e ∙ sym e'))
    of_rows a b s other ne le (inl (e, is)) (inr (ne', is')) = let w = are.within b other is' in omega (arith, w, is, le)
    of_rows a b s other ne le (inr (ne', is)) (inl (e', is')) = let w = are.within a s is in omega (arith, w, is')
    of_rows a b s other ne le (inr (ne', is)) (inr (ne'', is')) = are.apart a b s other ne is is' le

-- ---- as the code reads and writes

pub read_at : {X : Type 0} (xs : List X) (place tables : ℕ) (r d : X) → r ≡ get_or xs place r → place ≡ tables → tables < length xs → get_or xs tables d ≡ r
read_at xs place tables r d here is lt = any-default xs tables d r lt ∙ sym (here ∙ ap (λ n. get_or xs n r) is)

pub none_pushed : {X : Type 0} (xs : List (Option X)) → ((k : ℕ) → get_or xs k None ≡ None) → (k : ℕ) → get_or (xs ++ None ∷ []) k None ≡ None
none_pushed [] none zero = refl
none_pushed [] none (suc k) = refl
none_pushed (x ∷ xs) none zero = none 0
none_pushed (x ∷ xs) none (suc k) = none_pushed xs (λ k. none (suc k)) k

pub no_rows : (orders : ℕ) (rows : List (Option ℕ)) (size : ℕ) → ((k : ℕ) → get_or rows k None ≡ None) → AreRows orders rows size
no_rows orders rows size none = record {
  within = λ t start is. absurd (let e = none t in cc);
  apart = λ a b start other ne is is' le. absurd (let e = none a in cc);
}

pub no_flags : AreClearBehind 0 []
no_flags = record { enough = omega arith; clear = λ place le. refl }

pub found_row : (orders : ℕ) (costs : List ℕ) (row : Option ℕ) (k : ℕ) → item_in unknown orders costs row k < unknown → (row ≡ None) → ⊥
found_row orders costs row k lt e = let top : item_in unknown orders costs row k ≡ unknown = rw e refl in absurd (omega (arith, lt, top))
