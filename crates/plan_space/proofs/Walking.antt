-- The merges of a conjunct with all paths, and of all conjuncts.
use Prim.Native.Nat.{zero}
use Rattle.std.proofs.Common.{suc, ◌≡◌, ◌≢◌, ◌∙◌, sym, ap, subst, ℕ, ◌+◌, ◌<◌, ◌≤◌, ◌⊎◌, inl, inr, List, [], ◌∷◌, Some, None, length, map, arith}
use Rattle.std.specs.Prelude.{AllPairs, Contains}
use Rattle.std.specs.List.{AllByRecursion}
use Rattle.std.proofs.lemmas.Bool.{cases_lt}
use Rattle.std.proofs.lemmas.Option.{slice_get_within}
use Rattle.definitions.specs.Plans.TableSet.{no_tables}
use Rattle.definitions.specs.Plans.Order.{BlockColumn}
use Rattle.definitions.specs.Plans.Path.{Path, table_of}
use Rattle.definitions.specs.Plans.Plan.{Inner}
use Rattle.definitions.specs.Plans.Space.{Space}
use Rattle.definitions.specs.Plans.PlanSpace.{IsPath, IsInner}
use Rattle.definitions.proofs.PlanTheory.Elements.{first_is, later, first_or_rest, not_in_empty}
use Rattle.plan_space.specs.Item.{Item, IsItem, AreItems}
use Rattle.plan_space.specs.Merge.{FoundMerge, AreDistinct, MergesBy, found, IsFound, ListsPathsOnce, IsGrown, AddsPath, AddsMerges}
use Rattle.plan_space.specs.MergeListed.{AreMergesOf, IsWay}
use Rattle.plan_space.specs.declared.listed.MergeClause.{MergeClause}
use Rattle.plan_space.proofs.Adding.{then_grown}

module _ (space : Space) (table number : ℕ) where
  abbrev paths_in : List Item → List Path
  paths_in items = map (λ (item : Item). item.path) items

  abbrev DifferAll : List Path → Type 0
  DifferAll paths = AllPairs (λ (a b : Path). a ≢ b) paths

  -- the merges with all paths are there, each once, but for those of some items
  pub record AddsBut (rest : List Item) (old new : List FoundMerge) : Type 0 where
    pub each : AllByRecursion (IsItem space no_tables table) rest
    pub paths : (path : Path) → Contains (paths_in rest) path → IsPath space no_tables path
    pub grown : IsGrown space table old new
    pub there : (inner : Inner) (x y : BlockColumn) → MergesBy space table number x y → table_of inner.path ≡ table → IsInner space y inner
        → Contains (paths_in rest) inner.path ⊎ Contains new (found space number x.table inner)
    pub once : DifferAll (paths_in rest)
    pub added : (x : FoundMerge) → Contains new x → Contains old x ⊎ ((x.conjunct ≡ number) × (Contains (paths_in rest) x.inner.path → ⊥))
    pub distinct : AreDistinct old → ((x : FoundMerge) → Contains old x → x.conjunct ≢ number) → AreDistinct new

  is_path_of : (items : List Item) → paths_in items ≡ space.paths no_tables table → AllByRecursion (IsItem space no_tables table) items
      → (path : Path) → Contains (paths_in items) path → IsPath space no_tables path
  is_path_of items are each path there =
      let reads : table_of path ≡ table = reads_of items each path there in
      rw reads (subst (λ (ps : List Path). Contains ps path) are there)
    where
      reads_of : (items : List Item) → AllByRecursion (IsItem space no_tables table) items → (path : Path) → Contains (paths_in items) path → table_of path ≡ table
      reads_of [] each path there = absurd (not_in_empty path there)
      reads_of (item ∷ items) each path there = by_place (reads_of items each.1 path) (first_or_rest item.path (paths_in items) path there)
        where
          by_place : (Contains (paths_in items) path → table_of path ≡ table) → (item.path ≡ path) ⊎ Contains (paths_in items) path → table_of path ≡ table
          by_place rest (inl e) = ap table_of (sym e) ∙ each.0.reads
          by_place rest (inr r) = rest r

  pub before_all : (items : List Item) (old : List FoundMerge) → AreItems space no_tables table items → ListsPathsOnce space table → AddsBut items old old
  before_all items old are once = record {
    each = are.each;
    paths = is_path_of items are.paths are.each;
    grown = record { kept = λ x there. there; right = λ all. all };
    there = λ inner x y merges reads serves. inl (subst (λ (ps : List Path). Contains ps inner.path) (sym are.paths) (subst (λ t. Contains (space.paths no_tables t) inner.path) reads serves.0));
    once = subst (λ (ps : List Path). DifferAll ps) (sym are.paths) once;
    added = λ x h. inl h;
    distinct = λ apart fresh. apart;
  }

  -- the first doesn't come again
  no_more : (path : Path) (paths : List Path) → DifferAll (path ∷ paths) → Contains paths path → ⊥
  no_more path paths once (k, lt, is) = once zero (suc k) path (omega arith) (omega (arith, lt)) (sym is)

  pub after_one : (item : Item) (rest : List Item) (old mid new : List FoundMerge) → AddsBut (item ∷ rest) old mid → AddsPath space table number item.path mid new → AddsBut rest old new
  after_one item rest old mid new before adds = record {
    each = before.each.1;
    paths = λ path there. before.paths path (later item.path (paths_in rest) path there);
    grown = then_grown space table old mid new before.grown adds.grown;
    there = λ inner x y merges reads serves. by_place inner x y merges reads serves (before.there inner x y merges reads serves);
    once = λ i j d lt within. before.once (suc i) (suc j) d (omega (arith, lt)) (omega (arith, within));
    added = λ x h. now_added x (adds.added x h);
    distinct = λ apart fresh. adds.distinct (before.distinct apart fresh) (λ x h same. new_path x same (fresh x) (before.added x h));
  }
    where
      was_added : (x : FoundMerge) → Contains old x ⊎ ((x.conjunct ≡ number) × (Contains (paths_in (item ∷ rest)) x.inner.path → ⊥))
          → Contains old x ⊎ ((x.conjunct ≡ number) × (Contains (paths_in rest) x.inner.path → ⊥))
      was_added x (inl h) = inl h
      was_added x (inr (same, other)) = inr (same, λ h. other (later item.path (paths_in rest) x.inner.path h))

      now_added : (x : FoundMerge) → Contains mid x ⊎ ((x.conjunct ≡ number) × (x.inner.path ≡ item.path))
          → Contains old x ⊎ ((x.conjunct ≡ number) × (Contains (paths_in rest) x.inner.path → ⊥))
      now_added x (inl h) = was_added x (before.added x h)
      now_added x (inr (same, e)) = inr (same, λ h. no_more item.path (paths_in rest) before.once (subst (λ (path : Path). Contains (paths_in rest) path) e h))

      new_path : (x : FoundMerge) → x.conjunct ≡ number → (Contains old x → x.conjunct ≢ number)
          → Contains old x ⊎ ((x.conjunct ≡ number) × (Contains (paths_in (item ∷ rest)) x.inner.path → ⊥)) → x.inner.path ≢ item.path
      new_path x same fresh (inl h) e = fresh h same
      new_path x same fresh (inr (_, other)) e = other (first_is item.path (paths_in rest) x.inner.path (sym e))

      of_rest : (inner : Inner) (x y : BlockColumn) → MergesBy space table number x y → table_of inner.path ≡ table → IsInner space y inner
          → (item.path ≡ inner.path) ⊎ Contains (paths_in rest) inner.path → Contains (paths_in rest) inner.path ⊎ Contains new (found space number x.table inner)
      of_rest inner x y merges reads serves (inl e) = inr (adds.there inner x y merges reads (sym e) serves)
      of_rest inner x y merges reads serves (inr r) = inl r

      by_place : (inner : Inner) (x y : BlockColumn) → MergesBy space table number x y → table_of inner.path ≡ table → IsInner space y inner
          → Contains (paths_in (item ∷ rest)) inner.path ⊎ Contains mid (found space number x.table inner) → Contains (paths_in rest) inner.path ⊎ Contains new (found space number x.table inner)
      by_place inner x y merges reads serves (inl there) = of_rest inner x y merges reads serves (first_or_rest item.path (paths_in rest) inner.path there)
      by_place inner x y merges reads serves (inr there) = inr (adds.grown.kept (found space number x.table inner) there)

  pub after_all : (old new : List FoundMerge) → AddsBut [] old new → AddsMerges space table number old new
  after_all old new adds = record {
    grown = adds.grown;
    there = λ inner x y merges reads serves. by_place inner x y (adds.there inner x y merges reads serves);
    added = λ x h. of_conjunct x (adds.added x h);
    distinct = adds.distinct;
  }
    where
      of_conjunct : (x : FoundMerge) → Contains old x ⊎ ((x.conjunct ≡ number) × (Contains [] x.inner.path → ⊥)) → Contains old x ⊎ (x.conjunct ≡ number)
      of_conjunct x (inl h) = inl h
      of_conjunct x (inr (same, _)) = inr same

      by_place : (inner : Inner) (x y : BlockColumn) → Contains [] inner.path ⊎ Contains new (found space number x.table inner) → Contains new (found space number x.table inner)
      by_place inner x y (inl there) = absurd (not_in_empty inner.path there)
      by_place inner x y (inr there) = there

-- ---- conjunct by conjunct

module _ (space : Space) (table : ℕ) where
  -- those of the first conjuncts, so many of them
  pub record AreFirst (count : ℕ) (xs : List FoundMerge) : Type 0 where
    pub each : AllByRecursion (IsFound space table) xs
    pub all : (number : ℕ) → number < count → (inner : Inner) (x y : BlockColumn) → MergesBy space table number x y → table_of inner.path ≡ table → IsInner space y inner
        → Contains xs (found space number x.table inner)
    pub below : (x : FoundMerge) → Contains xs x → x.conjunct < count
    pub distinct : AreDistinct xs

  pub none_first : AreFirst 0 []
  none_first = record { each = tt; all = λ number lt inner x y merges reads serves. absurd (omega (arith, lt)); below = λ x h. absurd (not_in_empty x h); distinct = λ i j d lt within. absurd (omega arith) }

  pub one_first : (count : ℕ) (old new : List FoundMerge) → AreFirst count old → AddsMerges space table count old new → AreFirst (count + 1) new
  one_first count old new before adds = record {
    each = adds.grown.right before.each;
    all = λ number lt inner x y merges reads serves. by_number number inner x y merges reads serves (cases_lt number count) lt;
    below = λ x h. is_below x (adds.added x h);
    distinct = adds.distinct before.distinct (λ x h same. let lt = before.below x h in omega (arith, lt, same));
  }
    where
      is_below : (x : FoundMerge) → Contains old x ⊎ (x.conjunct ≡ count) → x.conjunct < count + 1
      is_below x (inl h) = let lt = before.below x h in omega (arith, lt)
      is_below x (inr same) = omega (arith, same)

      by_number : (number : ℕ) (inner : Inner) (x y : BlockColumn) → MergesBy space table number x y → table_of inner.path ≡ table → IsInner space y inner
          → (number < count) ⊎ (count ≤ number) → number < count + 1 → Contains new (found space number x.table inner)
      by_number number inner x y merges reads serves (inl less) lt = adds.grown.kept (found space number x.table inner) (before.all number less inner x y merges reads serves)
      by_number number inner x y merges reads serves (inr ge) lt =
          let e : count ≡ number = omega (arith, ge, lt) in
          subst (λ n. Contains new (found space n x.table inner)) e (adds.there inner x y (subst (λ n. MergesBy space table n x y) (sym e) merges) reads serves)

  pub none_added : (count : ℕ) (xs : List FoundMerge) → AreFirst count xs → IsWay space table count None → AreFirst (count + 1) xs
  none_added count xs before none = one_first count xs xs before (record {
    grown = record { kept = λ x there. there; right = λ all. all };
    there = λ inner x y merges reads serves. absurd (none x y merges);
    added = λ x h. inl h;
    distinct = λ apart fresh. apart;
  })

  pub all_first : (xs : List FoundMerge) → AreFirst (length space.conjuncts) xs → AreMergesOf space table xs
  all_first xs first = record {
    each = first.each;
    all = λ number inner x y merges reads serves. first.all number (slice_get_within space.conjuncts number merges.0.0.0 merges.0.0.1) inner x y merges reads serves;
    distinct = first.distinct;
  }

-- what a way adds is of its table and conjunct
pub added_by : (space : Space) (table number : ℕ) (clause : MergeClause) (items : List Item) (old new : List FoundMerge) → IsWay space table number (Some clause) → AreItems space no_tables table items → ListsPathsOnce space table
    → (IsWay space clause.table clause.conjunct (Some clause) → AreItems space no_tables clause.table items → ListsPathsOnce space clause.table → AddsMerges space clause.table clause.conjunct old new) → AddsMerges space table number old new
added_by space table number clause items old new is are once adds =
    let own = subst (λ t. IsWay space t clause.conjunct (Some clause)) (sym is.0) (subst (λ n. IsWay space table n (Some clause)) (sym is.1) is) in
    let of_own = subst (λ t. AreItems space no_tables t items) (sym is.0) are in
    let own_once = subst (λ t. ListsPathsOnce space t) (sym is.0) once in
    subst (λ n. AddsMerges space table n old new) is.1 (subst (λ t. AddsMerges space t clause.conjunct old new) is.0 (adds own of_own own_once))
