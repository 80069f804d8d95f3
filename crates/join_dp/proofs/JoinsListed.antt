-- Joins that are listed.
use Rattle.std.proofs.Common.{Contains, ◌≡◌, ◌≢◌, ◌∙◌, ℕ, ◌+◌, ◌-◌, ◌*◌, ◌^◌, ◌<◌, ◌≤◌, ◌⊎◌, inl, inr, List, [], ◌∷◌, ◌++◌, Option, Some, None, length, length-append, get_or, set, nat_lt, if◌then◌else◌, true, false, Bool, add-one, arith, refl, sym, ap, subst}
use Rattle.std.proofs.lemmas.Bool.{cases_lt, cases_eq}
use Rattle.std.proofs.lemmas.Bool.Decides.{nat_tests}
use Rattle.std.proofs.lemmas.List.{get_or_append_left, get_or-append_right, get_or-set_same, get_or-set_other, length-set}
use Rattle.std.proofs.Math.Seq.{get_or-append_seam}
use Rattle.std.specs.List.{AllByRecursion}
use Rattle.definitions.specs.Estimates.BlockTables.{has}
use Rattle.definitions.specs.Plans.Path.{Path, table_of}
use Rattle.definitions.specs.Plans.Plan.{Inner}
use Rattle.definitions.specs.Plans.Space.{Space}
use Rattle.definitions.specs.Plans.PlanSpace.{MayFollow, IsPath}
use Rattle.definitions.specs.Plans.Cost.{limit, saturated, merge_cost}
use Rattle.definitions.proofs.PlanTheory.Elements.{first_or_rest, not_in_empty}
use Rattle.plan_space.specs.Item.{Item}
use Rattle.plan_space.specs.Merge.{Merge as CostedMerge, IsMergeItem, AreMerges}
use Rattle.plan_space.specs.Relation.{IsRelation}
use Rattle.plan_space.specs.declared.join_relation.JoinRelation.{JoinRelation}
use Rattle.plan_space.proofs.Lists.{head_has}
use Rattle.plan_tree.specs.Sets.{set_of}
use Rattle.plan_space.proofs.PathItems.{IsPathItem}
use Rattle.plan_tree.proofs.Tests.{has_not}
use Rattle.join_dp.specs.Counting.{AreCounts, most_joins}
use Rattle.join_dp.specs.JoinLists.{added_at, AreAdded, Covers, AreJoinsWith, AreLoops, AreMergesBelow, MergesFor, IsBest, listed_merge, AreJoins, IsLonger, IsRelationAt, AreLists, joins_in, Stand, one_if, listed_in, IsListed}
use Rattle.join_dp.specs.Joining.{CanJoin, join_cost, IsJoin, GoesWith, IsAdded}
use Rattle.join_dp.specs.Searched.{LowBySorts, AreSortsTaken}
use Rattle.join_dp.specs.StatePlans.{StatePlan}
use Rattle.join_dp.specs.Steps.{Join, Loop, Merge, table_in}
use Rattle.join_dp.specs.Views.{Added}
use Rattle.join_dp.specs.declared.join_lists.JoinLists.{JoinLists}
use Rattle.join_dp.specs.declared.join_lists.Places.{Places}
use Rattle.join_dp.proofs.LeastPaths.{loop_least, some_path}
use Rattle.join_dp.proofs.Steps.{follows, is_join, goes_with, join_small}

-- ---- one more

pub longer_same : (xs : List Added) → IsLonger xs xs
longer_same xs = record { longer = omega arith; kept = λ place lt. refl }

pub longer_more : (a b c : List Added) → IsLonger a b → IsLonger b c → IsLonger a c
longer_more a b c x y = record {
  longer = let l = x.longer in let l' = y.longer in omega (arith, l, l');
  kept = λ place lt. let l = x.longer in y.kept place (omega (arith, lt, l)) ∙ x.kept place lt;
}

module _ (xs : List Added) (x : Added) where
  pub longer_push : IsLonger xs (xs ++ x ∷ [])
  longer_push = record { longer = omega (arith, length-append xs (x ∷ [])); kept = λ place lt. get_or_append_left xs (x ∷ []) _ place lt }

  pub push_size : length (xs ++ x ∷ []) ≡ length xs + 1
  push_size = length-append xs (x ∷ [])

  pub push_at : (place : ℕ) → length xs ≤ place → place < length (xs ++ x ∷ []) → added_at (xs ++ x ∷ []) place ≡ x
  push_at place ge lt =
      let z : place - length xs ≡ 0 = omega (arith, ge, lt, push_size) in
      get_or-append_right xs (x ∷ []) (length xs) place _ refl ge ∙ rw z refl

pub not_less : (a b : ℕ) → (a < b → ⊥) → b ≤ a
not_less a b never = of_cases (cases_lt a b)
  where
    of_cases : (a < b) ⊎ (b ≤ a) → b ≤ a
    of_cases (inl lt) = absurd (never lt)
    of_cases (inr le) = le

abbrev pub one_kept : Option CostedMerge → ℕ
one_kept None = 0
one_kept (Some best) = 1

-- with the best merge behind them, if there is one
abbrev pub with_best : ℕ → Option CostedMerge → List Added → List Added
with_best table None xs = xs
with_best table (Some best) xs = xs ++ listed_merge table best ∷ []

module _ (space : Space) (tables table : ℕ) where
  abbrev AddedOf : Added → Type 0
  AddedOf a = IsAdded space tables a.table a.join a.cost

  -- ---- the cheapest loop

  pub no_loops : (xs : List Added) (known : ℕ) → limit < known → ((path : Path) → table_of path ≡ table → IsPath space tables path → ⊥) → AreLoops space xs tables (length xs) (length xs) table known
  no_loops xs known large none = record {
    rising = omega arith;
    each = λ place ge lt. absurd (omega (arith, ge, lt));
    least = λ path is. absurd (none path is.0 is.1);
    stands = λ le. absurd (omega (arith, large, le));
    few = omega arith;
  }

  pub loop_is : (item : Item) (rows n cost added : ℕ) → MayFollow space tables table → IsPathItem space tables table item → n ≡ rows → rows ≡ space.cardinality tables → cost ≡ item.cost → added ≡ saturated (n * cost) → IsAdded space tables table (Loop item.path) added
  loop_is item rows n cost added may right a b d e = record {
    follows = may;
    is_join = (right.0.reads, right.1);
    cost = rw (← b, ← right.0.cost, ← d, ← a) e;
  }

  pub one_loop : (xs : List Added) (item : Item) (added : ℕ) → IsPathItem space tables table item → IsAdded space tables table (Loop item.path) added
      → ((path : Path) → table_of path ≡ table → IsPath space tables path → item.cost ≤ space.path_cost tables path)
      → AreLoops space (xs ++ record { table = table; join = Loop item.path; cost = added } ∷ []) tables (length xs) (length (xs ++ record { table = table; join = Loop item.path; cost = added } ∷ [])) table added
  one_loop xs item added right is least = record {
    rising = omega (arith, push_size xs x);
    each = λ place ge lt. rw (push_at xs x place ge lt) is;
    least = loop_least space tables table item added right is.cost least;
    stands = λ le. (length xs, omega arith, omega (arith, push_size xs x), ap (λ (a : Added). a.table) here, (λ order. rw here tt), ap (λ (a : Added). a.cost) here);
    few = let some = some_path space tables table item.path right.0.reads right.1 in omega (arith, push_size xs x, some);
  }
    where
      x : Added
      x = record { table = table; join = Loop item.path; cost = added }

      here : added_at (xs ++ record { table = table; join = Loop item.path; cost = added } ∷ []) (length xs) ≡ record { table = table; join = Loop item.path; cost = added }
      here = push_at xs (record { table = table; join = Loop item.path; cost = added }) (length xs) (omega arith) (omega (arith, push_size xs (record { table = table; join = Loop item.path; cost = added })))

  -- ---- merges

  module _ (known : ℕ) where
    -- the best merge is one
    abbrev pub IsKept : Option CostedMerge → Type 0
    IsKept None = Unit {0}
    IsKept (Some best) = IsMergeItem space tables table best

    -- and stands for those by its conjunct that add no less
    abbrev pub StandsFor : Option CostedMerge → ℕ → ℕ → Type 0
    StandsFor None number most = ⊥
    StandsFor (Some best) number most = (best.conjunct ≡ number) × (best.cost ≤ most)

    -- a merge is seen to by one that is listed or by the best one, or is still to come
    abbrev SeenTo : List Added → List Added → Option CostedMerge → List CostedMerge → ℕ → Inner → Type 0
    SeenTo old xs best items number inner = MergesFor xs (length old) (length xs) table number (join_cost space tables (Merge number inner))
        ⊎ (StandsFor best number (join_cost space tables (Merge number inner))
        ⊎ Contains items (record { conjunct = number; inner = inner; cost = merge_cost space tables number inner }))

    pub record Merged (old xs : List Added) (best : Option CostedMerge) (items : List CostedMerge) : Type 0 where
      pub longer : IsLonger old xs
      pub each : AreAdded space xs tables (length old) (length xs)
      pub kept : IsKept best
      pub are : AllByRecursion (IsMergeItem space tables table) items
      pub all : (number : ℕ) (inner : Inner) → IsJoin space tables table (Merge number inner) → join_cost space tables (Merge number inner) < known → SeenTo old xs best items number inner

    pub merges_begin : (xs : List Added) (items : List CostedMerge) → AreMerges space tables table items → Merged xs xs None items
    merges_begin xs items are = record {
      longer = longer_same xs;
      each = λ place ge lt. absurd (omega (arith, ge, lt));
      kept = tt;
      are = are.each;
      all = λ number inner is less. inr (inr (are.all number inner is));
    }

    -- a merge is passed over
    pub merge_dear : (old xs : List Added) (best : Option CostedMerge) (items rest : List CostedMerge) (item : CostedMerge) → items ≡ item ∷ rest → known ≤ item.cost → Merged old xs best items → Merged old xs best rest
    merge_dear old xs best items rest item is dear m =
        let are = rw is at m.are in
        record { longer = m.longer; each = m.each; kept = m.kept; are = are.1; all = λ number inner is' less. of_seen number inner less (rw is at (m.all number inner is' less)) }
      where
        of_rest : (number : ℕ) (inner : Inner) → join_cost space tables (Merge number inner) < known
            → (item ≡ record { conjunct = number; inner = inner; cost = merge_cost space tables number inner }) ⊎ Contains rest (record { conjunct = number; inner = inner; cost = merge_cost space tables number inner })
            → SeenTo old xs best rest number inner
        of_rest number inner less (inl e) = let c = ap (λ (x : CostedMerge). x.cost) e in absurd (omega (arith, less, dear, c))
        of_rest number inner less (inr there) = inr (inr there)

        of_seen : (number : ℕ) (inner : Inner) → join_cost space tables (Merge number inner) < known → SeenTo old xs best (item ∷ rest) number inner → SeenTo old xs best rest number inner
        of_seen number inner less (inl listed) = inl listed
        of_seen number inner less (inr (inl stands)) = inr (inl stands)
        of_seen number inner less (inr (inr there)) = of_rest number inner less (first_or_rest item rest _ there)

    -- the merges that a list has seen to are so in one that a merge is put behind, and that merge's with them
    module _ (old xs : List Added) (best : CostedMerge) (longer : IsLonger old xs) where
      put_for : (number most : ℕ) → MergesFor xs (length old) (length xs) table number most → MergesFor (xs ++ listed_merge table best ∷ []) (length old) (length (xs ++ listed_merge table best ∷ [])) table number most
      put_for number most f =
          let e = get_or_append_left xs (listed_merge table best ∷ []) _ f.place f.before in
          let lt = f.before in
          record {
            place = f.place;
            from = f.from;
            before = omega (arith, lt, push_size xs (listed_merge table best));
            with = ap (λ (a : Added). a.table) e ∙ f.with;
            by = (f.by.0, ap (λ (a : Added). a.join) e ∙ f.by.1);
            least = let l = f.least in let c = ap (λ (a : Added). a.cost) e in omega (arith, l, c);
          }

      put_itself : (number most : ℕ) → StandsFor (Some best) number most → MergesFor (xs ++ listed_merge table best ∷ []) (length old) (length (xs ++ listed_merge table best ∷ [])) table number most
      put_itself number most (e, le) =
          let size = push_size xs (listed_merge table best) in
          let here = push_at xs (listed_merge table best) (length xs) (omega arith) (omega (arith, size)) in
          let from = longer.longer in
          record {
            place = length xs;
            from = from;
            before = omega (arith, size);
            with = ap (λ (a : Added). a.table) here;
            by = (best.inner, ap (λ (a : Added). a.join) here ∙ ap (λ n. Merge n best.inner) e);
            least = let c = ap (λ (a : Added). a.cost) here in omega (arith, le, c);
          }

      put_each : MayFollow space tables table → IsMergeItem space tables table best → AreAdded space xs tables (length old) (length xs) → AreAdded space (xs ++ listed_merge table best ∷ []) tables (length old) (length (xs ++ listed_merge table best ∷ []))
      put_each may right each place ge lt = of_cases (cases_lt place (length xs))
        where
          added : IsAdded space tables table (Merge best.conjunct best.inner) best.cost
          added = record { follows = may; is_join = right.is_merge; cost = right.cost }

          of_cases : (place < length xs) ⊎ (length xs ≤ place) → AddedOf (added_at (xs ++ listed_merge table best ∷ []) place)
          of_cases (inl less) = subst AddedOf (sym ((longer_push xs (listed_merge table best)).kept place less)) (each place ge less)
          of_cases (inr ge') = subst AddedOf (sym (push_at xs (listed_merge table best) place ge' lt)) added

    -- one more merge is seen to
    module _ (old xs : List Added) (items rest : List CostedMerge) (item : CostedMerge) (is : items ≡ item ∷ rest) (may : MayFollow space tables table) where
      -- by the best one, which goes on
      goes_on : (best : Option CostedMerge) (next : CostedMerge) → IsKept (Some next) → ((number most : ℕ) → StandsFor best number most → StandsFor (Some next) number most) → StandsFor (Some next) item.conjunct item.cost
          → Merged old xs best items → Merged old xs (Some next) rest
      goes_on best next kept stands own m =
          let are = rw is at m.are in
          record { longer = m.longer; each = m.each; kept = kept; are = are.1; all = λ number inner is' less. of_seen number inner (rw is at (m.all number inner is' less)) }
        where
          of_rest : (number : ℕ) (inner : Inner)
              → (item ≡ record { conjunct = number; inner = inner; cost = merge_cost space tables number inner }) ⊎ Contains rest (record { conjunct = number; inner = inner; cost = merge_cost space tables number inner })
              → SeenTo old xs (Some next) rest number inner
          of_rest number inner (inl e) = inr (inl (subst (λ (x : CostedMerge). StandsFor (Some next) x.conjunct x.cost) e own))
          of_rest number inner (inr there) = inr (inr there)

          of_seen : (number : ℕ) (inner : Inner) → SeenTo old xs best (item ∷ rest) number inner → SeenTo old xs (Some next) rest number inner
          of_seen number inner (inl listed) = inl listed
          of_seen number inner (inr (inl s)) = inr (inl (stands number _ s))
          of_seen number inner (inr (inr there)) = of_rest number inner (first_or_rest item rest _ there)

      right : Merged old xs None items → IsMergeItem space tables table item
      right m = head_has (IsMergeItem space tables table) items rest item is m.are

      -- of two by one conjunct the cheaper one goes on
      less_goes : (best : CostedMerge) → best.conjunct ≡ item.conjunct → (b : Bool) → nat_lt item.cost best.cost ≡ b → Merged old xs (Some best) items → Merged old xs (Some (if b then item else best)) rest
      less_goes best same true e m = let le : item.cost < best.cost = grind (arith, nat_tests) in
          goes_on (Some best) item (head_has (IsMergeItem space tables table) items rest item is m.are) (λ number most s. (sym same ∙ s.0, let l = s.1 in omega (arith, l, le))) (refl, omega arith) m
      less_goes best same false e m = let le : best.cost ≤ item.cost = grind (arith, nat_tests) in
          goes_on (Some best) best m.kept (λ number most s. s) (same, le) m

      -- the best one is listed, and the item goes on
      listed_on : (best : CostedMerge) → Merged old xs (Some best) items → Merged old (xs ++ listed_merge table best ∷ []) (Some item) rest
      listed_on best m =
          let are = rw is at m.are in
          let longer = m.longer in
          record {
            longer = longer_more old xs (xs ++ listed_merge table best ∷ []) longer (longer_push xs (listed_merge table best));
            each = put_each old xs best longer may m.kept m.each;
            kept = are.0;
            are = are.1;
            all = λ number inner is' less. of_seen number inner (rw is at (m.all number inner is' less));
          }
        where
          of_rest : (number : ℕ) (inner : Inner)
              → (item ≡ record { conjunct = number; inner = inner; cost = merge_cost space tables number inner }) ⊎ Contains rest (record { conjunct = number; inner = inner; cost = merge_cost space tables number inner })
              → SeenTo old (xs ++ listed_merge table best ∷ []) (Some item) rest number inner
          of_rest number inner (inl e) = inr (inl (ap (λ (x : CostedMerge). x.conjunct) e, let c = ap (λ (x : CostedMerge). x.cost) e in omega (arith, c)))
          of_rest number inner (inr there) = inr (inr there)

          of_seen : (number : ℕ) (inner : Inner) → SeenTo old xs (Some best) (item ∷ rest) number inner → SeenTo old (xs ++ listed_merge table best ∷ []) (Some item) rest number inner
          of_seen number inner (inl listed) = inl (put_for old xs best m.longer number _ listed)
          of_seen number inner (inr (inl s)) = inl (put_itself old xs best m.longer number _ s)
          of_seen number inner (inr (inr there)) = of_rest number inner (first_or_rest item rest _ there)

      pub merge_kept : (best : Option CostedMerge) (next : CostedMerge) (ys : List Added) → IsBest table best item xs next ys → Merged old xs best items → Merged old ys (Some next) rest
      merge_kept None next ys (a, b) m = rw (a, b) (goes_on None item (right m) (λ number most s. absurd s) (refl, omega arith) m)
      merge_kept (Some best) next ys (inl (same, a, b)) m = rw (a, b) (less_goes best same (nat_lt item.cost best.cost) refl m)
      merge_kept (Some best) next ys (inr (other, a, b)) m = rw (a, b) (listed_on best m)

      -- no more are listed than there were
      pub merge_few : (best : Option CostedMerge) (next : CostedMerge) (ys : List Added) → IsBest table best item xs next ys → length ys + 1 ≤ length xs + one_kept best + 1
      merge_few None next ys (a, b) = let e = ap length b in omega (arith, e)
      merge_few (Some best) next ys (inl (same, a, b)) = let e = ap length b in omega (arith, e)
      merge_few (Some best) next ys (inr (other, a, b)) = let e = ap length b in omega (arith, e, push_size xs (listed_merge table best))

    -- at the end the best one is listed, if there is one
    pub merges_end : (old xs : List Added) (best : Option CostedMerge) (items merges : List CostedMerge) → items ≡ [] → MayFollow space tables table → AreMerges space tables table merges → length xs + one_kept best + length items ≤ length old + length merges → Merged old xs best items
        → IsLonger old (with_best table best xs) × AreMergesBelow space (with_best table best xs) tables (length old) (length (with_best table best xs)) table known
    merges_end old xs None items merges is may are few m = (
      m.longer,
      record {
        rising = m.longer.longer;
        each = m.each;
        all = λ number inner is' less. of_seen number inner (rw is at (m.all number inner is' less));
        few = (merges, are, omega (arith, few));
      },
    )
      where
        of_seen : (number : ℕ) (inner : Inner) → SeenTo old xs None [] number inner → MergesFor xs (length old) (length xs) table number (join_cost space tables (Merge number inner))
        of_seen number inner (inl listed) = listed
        of_seen number inner (inr (inl s)) = absurd s
        of_seen number inner (inr (inr there)) = absurd (not_in_empty _ there)
    merges_end old xs (Some best) items merges is may are few m =
        let longer = m.longer in
        let size = push_size xs (listed_merge table best) in
        let from = longer.longer in (
          longer_more old xs (xs ++ listed_merge table best ∷ []) longer (longer_push xs (listed_merge table best)),
          record {
            rising = omega (arith, from, size);
            each = put_each old xs best longer may m.kept m.each;
            all = λ number inner is' less. of_seen number inner (rw is at (m.all number inner is' less));
            few = (merges, are, omega (arith, few, size));
          },
        )
      where
        of_seen : (number : ℕ) (inner : Inner) → SeenTo old xs (Some best) [] number inner → MergesFor (xs ++ listed_merge table best ∷ []) (length old) (length (xs ++ listed_merge table best ∷ [])) table number (join_cost space tables (Merge number inner))
        of_seen number inner (inl listed) = put_for old xs best m.longer number _ listed
        of_seen number inner (inr (inl s)) = put_itself old xs best m.longer number _ s
        of_seen number inner (inr (inr there)) = absurd (not_in_empty _ there)

  -- ---- both

  module _ (known : ℕ) (old mid new : List Added) (longer : IsLonger mid new) (before : IsLonger old mid) (may : MayFollow space tables table)
      (loops : AreLoops space mid tables (length old) (length mid) table known) (merges : AreMergesBelow space new tables (length mid) (length new) table known) where
    lacks : has tables table ≡ false
    lacks = of_test (has tables table) refl
      where
        of_test : (b : Bool) → has tables table ≡ b → b ≡ false
        of_test true e = absurd (has_not tables table e may.1)
        of_test false e = refl

    by_loop : (order : ℕ) (join : Join) → table_in join ≡ table → known ≤ join_cost space tables join → Covers space new tables (length old) (length new) order join
    by_loop order join at le =
        let s = loops.stands (omega (arith, le, join_small space tables join)) in
        let kept = longer.kept s.0 s.2 in
        let more = longer.longer in
        let lt = s.2 in
        let c : (added_at new s.0).cost ≡ known = ap (λ (a : Added). a.cost) kept ∙ s.5 in
        let t : (added_at new s.0).table ≡ table = ap (λ (a : Added). a.table) kept ∙ s.3 in
        (s.0, s.1, omega (arith, lt, more), t ∙ sym at, rw (t, ap (λ (a : Added). a.join) kept) (s.4 order), omega (arith, c, le))

    pub joins_with : AreJoinsWith space new tables (length old) (length new) table
    joins_with = record {
      rising = let a = before.longer in let b = longer.longer in omega (arith, a, b);
      each = λ place ge lt. each place ge lt (cases_lt place (length mid));
      all = all;
      few = few;
    }
      where
        each : (place : ℕ) → length old ≤ place → place < length new → (place < length mid) ⊎ (length mid ≤ place) → AddedOf (added_at new place)
        each place ge lt (inl less) = subst AddedOf (sym (longer.kept place less)) (loops.each place ge less)
        each place ge lt (inr ge') = merges.each place ge' lt

        of_merge : (order number : ℕ) (inner : Inner) → table_in (Merge number inner) ≡ table → CanJoin space tables order (Merge number inner) → (join_cost space tables (Merge number inner) < known) ⊎ (known ≤ join_cost space tables (Merge number inner))
            → Covers space new tables (length old) (length new) order (Merge number inner)
        of_merge order number inner at can (inr dear) = by_loop order (Merge number inner) at dear
        of_merge order number inner at can (inl less) =
            let is = subst (λ t. IsJoin space tables t (Merge number inner)) at (is_join space tables order (Merge number inner) can) in
            let m = merges.all number inner is less in
            let goes : GoesWith space tables order table (Merge number m.by.0) = subst (λ t. GoesWith space tables order t (Merge number inner)) at (goes_with space tables order (Merge number inner) can) in
            let from = before.longer in
            let ge = m.from in
            (m.place, omega (arith, from, ge), m.before, m.with ∙ sym at, rw (m.with, m.by.1) goes, m.least)

        all : (order : ℕ) (join : Join) → table_in join ≡ table → CanJoin space tables order join → Covers space new tables (length old) (length new) order join
        all order (Loop path) at can = by_loop order (Loop path) at (loops.least path (subst (λ t. IsJoin space tables t (Loop path)) at (is_join space tables order (Loop path) can)))
        all order (Merge number inner) at can = of_merge order number inner at can (cases_lt (join_cost space tables (Merge number inner)) known)

        few : (sorts : ℕ → ℕ) (counts : ℕ → ℕ → ℕ) → AreCounts space sorts counts → length new ≤ length old + (if has tables table then 0 else counts tables table)
        few sorts counts are =
            let m = merges.few in
            let c = are.of_joins tables table m.0 may m.1 in
            let a = loops.few in
            let b = m.2 in
            rw lacks (omega (arith, a, b, c))

  pub none_with : (xs : List Added) → (MayFollow space tables table → ⊥) → AreJoinsWith space xs tables (length xs) (length xs) table
  none_with xs never = record {
    rising = omega arith;
    each = λ place ge lt. absurd (omega (arith, ge, lt));
    all = λ order join at can. absurd (never (subst (λ t. MayFollow space tables t) at (follows space tables order join can)));
    few = λ sorts counts are. omega arith;
  }

-- ---- table after table

covers_later : (space : Space) (xs ys : List Added) (tables start end start' end' order : ℕ) (join : Join) → IsLonger xs ys → end ≤ length xs → start' ≤ start → end ≤ end' → Covers space xs tables start end order join → Covers space ys tables start' end' order join
covers_later space xs ys tables start end start' end' order join longer within from to (place, ge, lt, table, goes, le) =
    let kept = longer.kept place (omega (arith, lt, within)) in
    let c : (added_at ys place).cost ≡ (added_at xs place).cost = ap (λ (a : Added). a.cost) kept in
    (place, omega (arith, ge, from), omega (arith, lt, to), ap (λ (a : Added). a.table) kept ∙ table, subst (λ (a : Added). GoesWith space tables order a.table a.join) (sym kept) goes, omega (arith, c, le))

pub joins_none : (space : Space) (xs : List Added) (tables : ℕ) → AreJoins space xs tables (length xs) (length xs) 0
joins_none space xs tables = record {
  rising = omega arith;
  within = omega arith;
  each = λ place ge lt. absurd (omega (arith, ge, lt));
  all = λ order join lt can. absurd (omega (arith, lt));
  few = λ sorts counts are. omega arith;
}

pub joins_more : (space : Space) (xs ys : List Added) (tables start table : ℕ) → IsLonger xs ys → AreJoins space xs tables start (length xs) table → AreJoinsWith space ys tables (length xs) (length ys) table → AreJoins space ys tables start (length ys) (table + 1)
joins_more space xs ys tables start table longer are last = record {
  rising = let a = are.rising in let b = longer.longer in omega (arith, a, b);
  within = omega arith;
  each = λ place ge lt. each place ge lt (cases_lt place (length xs));
  all = λ order join lt can. all order join can lt (cases_lt (table_in join) table);
  few = λ sorts counts c. let a = are.few sorts counts c in let b = last.few sorts counts c in omega (arith, a, b, more sorts counts);
}
  where
    more : (sorts : ℕ → ℕ) (counts : ℕ → ℕ → ℕ) → most_joins space sorts counts tables (table + 1) ≡ most_joins space sorts counts tables table + (if has tables table then 0 else counts tables table)
    more sorts counts = rw add-one refl

    each : (place : ℕ) → start ≤ place → place < length ys → (place < length xs) ⊎ (length xs ≤ place) → IsAdded space tables (added_at ys place).table (added_at ys place).join (added_at ys place).cost
    each place ge lt (inl less) = subst (λ (a : Added). IsAdded space tables a.table a.join a.cost) (sym (longer.kept place less)) (are.each place ge less)
    each place ge lt (inr ge') = last.each place ge' lt

    all : (order : ℕ) (join : Join) → CanJoin space tables order join → table_in join < table + 1 → (table_in join < table) ⊎ (table ≤ table_in join) → Covers space ys tables start (length ys) order join
    all order join can lt (inl less) = covers_later space xs ys tables start (length xs) start (length ys) order join longer (omega arith) (omega arith) longer.longer (are.all order join less can)
    all order join can lt (inr ge) =
        let from = are.rising in
        covers_later space ys ys tables (length xs) (length ys) start (length ys) order join (longer_same ys) (omega arith) from (omega arith) (last.all order join (omega (arith, lt, ge)) can)

pub joins_later : (space : Space) (xs ys : List Added) (tables start end count : ℕ) → IsLonger xs ys → AreJoins space xs tables start end count → AreJoins space ys tables start end count
joins_later space xs ys tables start end count longer are = record {
  rising = are.rising;
  within = let a = are.within in let b = longer.longer in omega (arith, a, b);
  each = λ place ge lt. let w = are.within in subst (λ (a : Added). IsAdded space tables a.table a.join a.cost) (sym (longer.kept place (omega (arith, lt, w)))) (are.each place ge lt);
  all = λ order join lt can. covers_later space xs ys tables start end start end order join longer are.within (omega arith) (omega arith) (are.all order join lt can);
  few = are.few;
}

pub joins_of : (space : Space) (xs : List Added) (tables start end count start' end' count' : ℕ) → start ≡ start' → end ≡ end' → count ≡ count' → AreJoins space xs tables start end count → AreJoins space xs tables start' end' count'
joins_of space xs tables start end count start' end' count' a b c are = rw (← a, ← b, ← c) are

-- ---- set after set

places_once : (row : Option Places) (a b : Places) → row ≡ Some a → row ≡ Some b → a ≡ b
places_once None a b e f = absurd cc
places_once (Some x) a b e f = cc

module _ (old items : List (Option Places)) (tables : ℕ) (places : Places) (inside : tables < length old) (is : items ≡ set old tables (Some places)) where
  pub listed_here : get_or items tables None ≡ Some places
  listed_here = rw is (get_or-set_same old tables (Some places) None inside)

  pub listed_others : (other : ℕ) → other ≢ tables → get_or items other None ≡ get_or old other None
  listed_others other ne = rw is (get_or-set_other old tables other (Some places) None ne)

-- relations stay where they stand
relation_later : (space : Space) (xs : List JoinRelation) (x : JoinRelation) (place tables : ℕ) → IsRelationAt space xs place tables → IsRelationAt space (xs ++ x ∷ []) place tables
relation_later space xs x place tables (within, is) = (omega (arith, length-append xs (x ∷ []), within), λ r e. is r (e ∙ get_or_append_left xs (x ∷ []) r place within))

-- and one more stands behind them
pub relation_here : (space : Space) (xs : List JoinRelation) (x : JoinRelation) (place : ℕ) → place ≡ length xs → IsRelation space x → IsRelationAt space (xs ++ x ∷ []) place (set_of x.tables)
relation_here space xs x place e is = (omega (arith, length-append xs (x ∷ []), e), λ r at. let same : x ≡ r = sym (get_or-append_seam xs x [] r) ∙ ap (λ n. get_or (xs ++ x ∷ []) n r) (sym e) ∙ sym at in subst (λ (q : JoinRelation). IsRelation space q × (set_of q.tables ≡ set_of x.tables)) same (is, refl))

module _ (space : Space) (old new : JoinLists) (tables : ℕ) (places : Places) (x : JoinRelation) (lists : AreLists space old) (inside : tables < 2 ^ space.table_count) (longer : IsLonger (joins_in old) (joins_in new))
    (are : AreJoins space (joins_in new) tables places.start places.end space.table_count) (pushed : new.relations.items ≡ old.relations.items ++ x ∷ [])
    (here : IsRelationAt space new.relations.items places.relation tables) (is : new.places.items ≡ set old.places.items tables (Some places)) where
  within : tables < length old.places.items
  within = let s = lists.sets in omega (arith, inside, s)

  pub more_lists : AreLists space new
  more_lists = record {
    sets = ap length is ∙ length-set old.places.items tables (Some places) ∙ lists.sets;
    each = λ t p stand. of_cases t p stand (cases_eq t tables);
    relations = λ t p stand. relation_of t p stand (cases_eq t tables);
  }
    where
      now : (t : ℕ) (p : Places) → Stand new t p → t ≡ tables → places ≡ p
      now t p stand e = places_once (get_or new.places.items tables None) places p (listed_here old.places.items new.places.items tables places within is) (subst (λ n. get_or new.places.items n None ≡ Some p) e stand)

      before : (t : ℕ) (p : Places) → Stand new t p → t ≢ tables → Stand old t p
      before t p stand ne = sym (listed_others old.places.items new.places.items tables places within is t ne) ∙ stand

      relation_of : (t : ℕ) (p : Places) → Stand new t p → (t ≡ tables) ⊎ (t ≢ tables) → IsRelationAt space new.relations.items p.relation t
      relation_of t p stand (inl e) = rw e (subst (λ (q : Places). IsRelationAt space new.relations.items q.relation tables) (now t p stand e) here)
      relation_of t p stand (inr ne) = rw pushed (relation_later space old.relations.items x p.relation t (lists.relations t p (before t p stand ne)))

      of_cases : (t : ℕ) (p : Places) → Stand new t p → (t ≡ tables) ⊎ (t ≢ tables) → AreJoins space (joins_in new) t p.start p.end space.table_count
      of_cases t p stand (inl e) =
          rw e (subst (λ (q : Places). AreJoins space (joins_in new) tables q.start q.end space.table_count) (now t p stand e) are)
      of_cases t p stand (inr ne) = joins_later space (joins_in old) (joins_in new) t p.start p.end space.table_count longer (lists.each t p (before t p stand ne))

-- ---- sorts of the set that is listed

pub sorts_taken : (space : Space) (state : StatePlan) (old new : JoinLists) (tables : ℕ) (cost : ℕ → ℕ → ℕ) → tables ≡ state.tables → ((other : ℕ) → other ≢ tables → get_or new.places.items other None ≡ get_or old.places.items other None)
    → LowBySorts space cost state.tables state.found.cost → AreSortsTaken space state (IsListed old) (IsListed new) cost
sorts_taken space state old new tables cost e others low t (p, stand) = of_cases (cases_eq t tables)
  where
    of_cases : (t ≡ tables) ⊎ (t ≢ tables) → IsListed old t ⊎ ((t ≡ state.tables) × LowBySorts space cost t state.found.cost)
    of_cases (inl is) = let same : t ≡ state.tables = is ∙ e in inr (same, subst (λ n. LowBySorts space cost n state.found.cost) (sym same) low)
    of_cases (inr ne) = inl (p, sym (others t ne) ∙ stand)

pub listed_one : (lists : JoinLists) (tables : ℕ) → listed_in lists tables ≤ 1
listed_one lists tables = of_row (get_or lists.places.items tables None)
  where
    of_row : (row : Option Places) → one_if row ≤ 1
    of_row None = omega arith
    of_row (Some places) = omega arith
