-- Steps to sets of tables, by how many states of each set are settled.
use Rattle.std.proofs.Common.{zero, suc, ◌≡◌, ◌≢◌, ℕ, ◌+◌, ◌-◌, ◌*◌, ◌^◌, ◌<◌, ◌≤◌, ◌⊎◌, inl, inr, if◌then◌else◌, Bool, true, false, arith, refl, ap, subst, length, nat_lt}
use Rattle.std.specs.Prelude.{◌==◌}
use Rattle.std.proofs.lemmas.Bool.{cases_lt, cases_eq}
use Rattle.std.proofs.lemmas.Bool.Decides.{Decides-eqb, nat_tests}
use Rattle.std.proofs.lemmas.Nat.{pow_pos}
use Rattle.std.proofs.lemmas.Nat.Bits.{bit_at-zero}
use Rattle.plan_tree.proofs.Tests.{has_it, lacks_it}
use Rattle.definitions.specs.Estimates.BlockTables.{has}
use Rattle.definitions.specs.Plans.Space.{Space}
use Rattle.definitions.specs.Plans.TableSet.{Has}
use Rattle.join_dp.specs.Costs.{settled_of}
use Rattle.join_dp.specs.Counting.{most_accesses, most_joins, most_last, most_lasts, most_up_to}
use Rattle.join_dp.proofs.LessSets.{with_more, has_last}
use Rattle.join_dp.proofs.Steps.{still_inside}

has_true : (s t : ℕ) → Has s t → has s t ≡ true
has_true s t h = of_test (has s t) refl
  where
    of_test : (b : Bool) → has s t ≡ b → b ≡ true
    of_test true e = refl
    of_test false e = absurd (let l = lacks_it s t e in omega (arith, h, l))

times_more : (a b j : ℕ) → a ≤ b → a * j ≤ b * j
times_more a b j le = grind arith

times_one_more : (a b j : ℕ) → a + 1 ≤ b → a * j + j ≤ b * j
times_one_more a b j le = let m = times_more (a + 1) b j le in omega (arith, m)

-- what a step from a set by a table costs, and what a sort of a set, in steps
module _ (joins : ℕ → ℕ → ℕ) (sorts : ℕ → ℕ) where
  -- those by which the table comes last, where so many states of the set before are settled with it
  abbrev pub last : (ℕ → ℕ → ℕ) → ℕ → ℕ → ℕ
  last count s t = if has s t then count (s - 2 ^ t) t * joins (s - 2 ^ t) t else 0

  abbrev pub lasts : (ℕ → ℕ → ℕ) → ℕ → ℕ → ℕ
  lasts count s zero = 0
  lasts count s (suc t) = lasts count s t + last count s t

  abbrev pub to : ℕ → (ℕ → ℕ → ℕ) → (ℕ → ℕ) → ℕ → ℕ
  to n count listed s = lasts count s n + listed s * sorts s

  -- to all sets up to one
  abbrev pub spent : ℕ → (ℕ → ℕ → ℕ) → (ℕ → ℕ) → ℕ → ℕ
  spent n count listed zero = 0
  spent n count listed (suc s) = spent n count listed s + to n count listed (suc s)

  -- from a set, by the first tables
  abbrev pub from : ℕ → ℕ → ℕ
  from s zero = 0
  from s (suc t) = from s t + (if has s t then 0 else joins s t)

  module _ (count count' : ℕ → ℕ → ℕ) (rise : (s t : ℕ) → count s t ≤ count' s t) where
    last_rises : (s t : ℕ) → last count s t ≤ last count' s t
    last_rises s t = of_test (has s t)
      where
        of_test : (b : Bool) → (if b then count (s - 2 ^ t) t * joins (s - 2 ^ t) t else 0) ≤ (if b then count' (s - 2 ^ t) t * joins (s - 2 ^ t) t else 0)
        of_test false = omega arith
        of_test true = times_more (count (s - 2 ^ t) t) (count' (s - 2 ^ t) t) (joins (s - 2 ^ t) t) (rise (s - 2 ^ t) t)

    pub lasts_rise : (s n : ℕ) → lasts count s n ≤ lasts count' s n
    lasts_rise s zero = omega arith
    lasts_rise s (suc n) = let r = lasts_rise s n in let l = last_rises s n in omega (arith, r, l)

    last_is : (c : ℕ → ℕ → ℕ) (s t : ℕ) → has (s + 2 ^ t) t ≡ true → last c (s + 2 ^ t) t ≡ c s t * joins s t
    last_is c s t e = let back : s + 2 ^ t - 2 ^ t ≡ s = omega arith in rw (e, back) refl

    pub pays : (s t n : ℕ) → count s t + 1 ≤ count' s t → t < n → has (s + 2 ^ t) t ≡ true → lasts count (s + 2 ^ t) n + joins s t ≤ lasts count' (s + 2 ^ t) n
    pays s t zero more lt e = absurd (omega (arith, lt))
    pays s t (suc n) more lt e = of_cases (cases_lt t n) (λ less. pays s t n more less e)
      where
        here : t ≡ n → lasts count (s + 2 ^ t) (suc n) + joins s t ≤ lasts count' (s + 2 ^ t) (suc n)
        here is = subst (λ m. lasts count (s + 2 ^ t) (suc m) + joins s t ≤ lasts count' (s + 2 ^ t) (suc m)) is
            (omega (arith, lasts_rise (s + 2 ^ t) t, last_is count s t e, last_is count' s t e, times_one_more (count s t) (count' s t) (joins s t) more))

        of_cases : (t < n) ⊎ (n ≤ t) → (t < n → lasts count (s + 2 ^ t) n + joins s t ≤ lasts count' (s + 2 ^ t) n) → lasts count (s + 2 ^ t) (suc n) + joins s t ≤ lasts count' (s + 2 ^ t) (suc n)
        of_cases (inl less) rest = let r = rest less in let l = last_rises (s + 2 ^ t) n in omega (arith, r, l)
        of_cases (inr ge) rest = here (omega (arith, lt, ge))

  module _ (n : ℕ) (count count' : ℕ → ℕ → ℕ) (listed listed' : ℕ → ℕ) (rise : (s t : ℕ) → count s t ≤ count' s t) (more : (s : ℕ) → listed s ≤ listed' s) where
    to_rises : (s : ℕ) → to n count listed s ≤ to n count' listed' s
    to_rises s = omega (arith, lasts_rise count count' rise s n, times_more (listed s) (listed' s) (sorts s) (more s))

    pub spent_rises : (end : ℕ) → spent n count listed end ≤ spent n count' listed' end
    spent_rises zero = omega arith
    spent_rises (suc s) = omega (arith, spent_rises s, to_rises (suc s))

    -- where one set's steps rise by so much
    pub spent_more : (s d end : ℕ) → 0 < s → s ≤ end → to n count listed s + d ≤ to n count' listed' s → spent n count listed end + d ≤ spent n count' listed' end
    spent_more s d zero some le here = absurd (omega (arith, some, le))
    spent_more s d (suc end) some le here = of_cases (cases_eq s (suc end)) (λ less. spent_more s d end some less here)
      where
        of_cases : (s ≡ suc end) ⊎ (s ≢ suc end) → (s ≤ end → spent n count listed end + d ≤ spent n count' listed' end) → spent n count listed (suc end) + d ≤ spent n count' listed' (suc end)
        of_cases (inl e) rest = let h : to n count listed (suc end) + d ≤ to n count' listed' (suc end) = rw e at here in omega (arith, spent_rises end, h)
        of_cases (inr ne) rest = let r = rest (omega (arith, le, ne)) in let t = to_rises (suc end) in omega (arith, r, t)

  -- ---- one more state of a set is settled: table after table takes part
  module _ (n end : ℕ) (count count' : ℕ → ℕ → ℕ) (listed : ℕ → ℕ) (rise : (s t : ℕ) → count s t ≤ count' s t) where
    -- the first tables have the new counts
    abbrev mid : ℕ → ℕ → ℕ → ℕ
    mid j s t = if nat_lt t j then count' s t else count s t

    mid_of : (s t : ℕ) (a b : Bool) → (a ≡ true → b ≡ true) → (if a then count' s t else count s t) ≤ (if b then count' s t else count s t)
    mid_of s t false false h = omega arith
    mid_of s t false true h = rise s t
    mid_of s t true true h = omega arith
    mid_of s t true false h = absurd (let e = h refl in cc)

    mid_rises : (j s t : ℕ) → mid j s t ≤ mid (suc j) s t
    mid_rises j s t = mid_of s t (nat_lt t j) (nat_lt t (suc j)) (λ e. grind (arith, nat_tests))

    mid_first : (s t : ℕ) → count s t ≤ mid 0 s t
    mid_first s t = of_test (nat_lt t 0)
      where
        of_test : (b : Bool) → count s t ≤ (if b then count' s t else count s t)
        of_test false = omega arith
        of_test true = rise s t

    mid_last : (j s t : ℕ) → mid j s t ≤ count' s t
    mid_last j s t = of_test (nat_lt t j)
      where
        of_test : (b : Bool) → (if b then count' s t else count s t) ≤ count' s t
        of_test false = rise s t
        of_test true = omega arith

    mid_more : (j s : ℕ) → count s j + 1 ≤ count' s j → mid j s j + 1 ≤ mid (suc j) s j
    mid_more j s more =
        let off : nat_lt j j ≡ false = grind (arith, nat_tests) in
        let here : nat_lt j (suc j) ≡ true = grind (arith, nat_tests) in
        rw (off, here) more

    module _ (s : ℕ) (more : (t : ℕ) → t < n → count s t + 1 ≤ count' s t) (next : (t : ℕ) → t < n → has s t ≡ false → (has (s + 2 ^ t) t ≡ true) × (s + 2 ^ t ≤ end)) where
      some : (t : ℕ) → 0 < s + 2 ^ t
      some t = omega (arith, pow_pos t)

      spent_from : (j : ℕ) → j ≤ n → spent n count listed end + from s j ≤ spent n (mid j) listed end
      spent_from zero le = let r = spent_rises n count (mid 0) listed listed mid_first (λ s'. omega arith) end in omega (arith, r)
      spent_from (suc j) le = of_test (has s j) refl (spent_from j (omega (arith, le)))
        where
          of_test : (b : Bool) → has s j ≡ b → spent n count listed end + from s j ≤ spent n (mid j) listed end → spent n count listed end + (from s j + (if b then 0 else joins s j)) ≤ spent n (mid (suc j)) listed end
          of_test true e before = let r = spent_rises n (mid j) (mid (suc j)) listed listed (mid_rises j) (λ s'. omega arith) end in omega (arith, before, r)
          of_test false e before =
              let is = next j (omega (arith, le)) e in
              let p = pays (mid j) (mid (suc j)) (mid_rises j) s j n (mid_more j s (more j (omega (arith, le)))) (omega (arith, le)) is.0 in
              let r = spent_more n (mid j) (mid (suc j)) listed listed (mid_rises j) (λ s'. omega arith) (s + 2 ^ j) (joins s j) end (some j) is.1 (omega (arith, p)) in
              omega (arith, before, r)

      pub spent_settled : spent n count listed end + from s n ≤ spent n count' listed end
      spent_settled = let f = spent_from n (omega arith) in let r = spent_rises n (mid n) count' listed listed (mid_last n) (λ s'. omega arith) end in omega (arith, f, r)

  -- ---- sets are listed, one of them for its sorts
  pub spent_listed : (n end : ℕ) (count : ℕ → ℕ → ℕ) (listed listed' : ℕ → ℕ) → ((s : ℕ) → listed s ≤ listed' s) → (s : ℕ) → 0 < s → s ≤ end
      → spent n count listed end + listed' s * sorts s ≤ spent n count listed' end + listed s * sorts s
  spent_listed n end count listed listed' more s some le =
      let m = times_more (listed s) (listed' s) (sorts s) (more s) in
      let r = spent_more n count count listed listed' (λ s' t. omega arith) more s (listed' s * sorts s - listed s * sorts s) end some le (omega (arith, m)) in
      omega (arith, r, m)

-- ---- in a plan space

module _ (space : Space) (sorts : ℕ → ℕ) (joins : ℕ → ℕ → ℕ) where
  -- the accesses go from the empty set
  abbrev pub price : ℕ → ℕ → ℕ
  price s t = if s == 0 then length (space.paths 0 t) else joins s t

  -- once they are taken
  abbrev pub count_in : (ℕ → ℕ → Bool) → ℕ → ℕ → ℕ
  count_in settled s t = if s == 0 then 1 else settled_of (settled s) (length space.orders)

  abbrev pub spent_in : (ℕ → ℕ → Bool) → (ℕ → ℕ) → ℕ
  spent_in settled listed = spent price sorts space.table_count (count_in settled) listed (2 ^ space.table_count - 1)

  eqb_some : (s : ℕ) → 0 < s → (s == 0) ≡ false
  eqb_some s some = of_test (s == 0) refl
    where
      of_test : (b : Bool) → (s == 0) ≡ b → b ≡ false
      of_test true e = absurd (let z = (Decides-eqb s 0).0 e in omega (arith, z, some))
      of_test false e = refl

  from_some : (s : ℕ) → 0 < s → (n : ℕ) → from price sorts s n ≡ most_joins space sorts joins s n
  from_some s some zero = refl
  from_some s some (suc n) = let e = eqb_some s some in rw e (ap (λ m. m + (if has s n then 0 else joins s n)) (from_some s some n))

  next_inside : (s t : ℕ) → s < 2 ^ space.table_count → t < space.table_count → has s t ≡ false → (has (s + 2 ^ t) t ≡ true) × (s + 2 ^ t ≤ 2 ^ space.table_count - 1)
  next_inside s t inside lt e =
      let lacks = lacks_it s t e in
      let is = with_more s t lacks in
      let within = still_inside space.table_count s t inside lt in
      let here : Has (s + 2 ^ t) t = subst (λ m. Has m t) is (has_last s t) in
      (has_true (s + 2 ^ t) t here, omega (arith, is, within))

  -- a state of a set is settled, and its steps are taken
  pub settled_pays : (settled settled' : ℕ → ℕ → Bool) (listed listed' : ℕ → ℕ) (s old new : ℕ) → 0 < s → s < 2 ^ space.table_count → ((t k : ℕ) → settled t k ≡ true → settled' t k ≡ true)
      → settled_of (settled s) (length space.orders) + 1 ≤ settled_of (settled' s) (length space.orders) → ((t : ℕ) → listed t ≤ listed' t) → old ≤ spent_in settled listed
      → new + listed s * sorts s ≤ old + most_joins space sorts joins s space.table_count + listed' s * sorts s → new ≤ spent_in settled' listed'
  settled_pays settled settled' listed listed' s old new some inside rise more listed_more before step =
      let e = eqb_some s some in
      let here : (t : ℕ) → t < space.table_count → count_in settled s t + 1 ≤ count_in settled' s t = λ t lt. rw e more in
      let a = spent_settled price sorts space.table_count (2 ^ space.table_count - 1) (count_in settled) (count_in settled') listed (counts_rise settled settled' rise) s here (λ t lt. next_inside s t inside lt) in
      let b = spent_listed price sorts space.table_count (2 ^ space.table_count - 1) (count_in settled') listed listed' listed_more s some (omega (arith, inside)) in
      let f = from_some s some space.table_count in
      omega (arith, a, b, f, before, step)
    where
      flag_rises : (a b : Bool) → (a ≡ true → b ≡ true) → (if a then 1 else 0) ≤ (if b then 1 else 0)
      flag_rises false b h = omega arith
      flag_rises true true h = omega arith
      flag_rises true false h = absurd (let e = h refl in cc)

      of_rises : (f g : ℕ → Bool) → ((k : ℕ) → f k ≡ true → g k ≡ true) → (m : ℕ) → settled_of f m ≤ settled_of g m
      of_rises f g h zero = omega arith
      of_rises f g h (suc m) = omega (arith, of_rises f g h m, flag_rises (f m) (g m) (h m))

      counts_rise : (settled settled' : ℕ → ℕ → Bool) → ((t k : ℕ) → settled t k ≡ true → settled' t k ≡ true) → (s t : ℕ) → count_in settled s t ≤ count_in settled' s t
      counts_rise settled settled' h s t = of_test (s == 0)
        where
          of_test : (b : Bool) → (if b then 1 else settled_of (settled s) (length space.orders)) ≤ (if b then 1 else settled_of (settled' s) (length space.orders))
          of_test true = omega arith
          of_test false = of_rises (settled s) (settled' s) (h s) (length space.orders)

  -- the accesses are taken
  pub accesses_pay : (settled : ℕ → ℕ → Bool) (listed : ℕ → ℕ) (steps : ℕ) → steps ≤ most_accesses space space.table_count → steps ≤ spent_in settled listed
  accesses_pay settled listed steps le =
      let a = spent_settled price sorts space.table_count (2 ^ space.table_count - 1) (λ s t. 0) (count_in settled) listed (λ s t. omega arith) 0 (λ t lt. omega arith) (λ t lt. next_inside 0 t (pow_pos space.table_count) lt) in
      let f = from_none space.table_count in
      omega (arith, a, f, le)
    where
      none_has : (t : ℕ) → has 0 t ≡ false
      none_has t = of_test (has 0 t) refl
        where
          of_test : (b : Bool) → has 0 t ≡ b → b ≡ false
          of_test true e = absurd (let h = has_it 0 t e in let z = bit_at-zero t in omega (arith, h, z))
          of_test false e = refl

      from_none : (n : ℕ) → from price sorts 0 n ≡ most_accesses space n
      from_none zero = refl
      from_none (suc n) = rw (none_has n, from_none n) refl

  -- and no set has more states than there are orders
  pub spent_few : (settled : ℕ → ℕ → Bool) (listed : ℕ → ℕ) → ((s : ℕ) → listed s ≤ 1) → (end : ℕ) → spent price sorts space.table_count (count_in settled) listed end ≤ most_up_to space sorts joins end
  spent_few settled listed one zero = omega arith
  spent_few settled listed one (suc s) = omega (arith, spent_few settled listed one s, lasts_few (suc s) space.table_count, times_more (listed (suc s)) 1 (sorts (suc s)) (one (suc s)))
    where
      few_of : (f : ℕ → Bool) (m : ℕ) → settled_of f m ≤ m
      few_of f zero = omega arith
      few_of f (suc m) = omega (arith, few_of f m, of_flag (f m))
        where
          of_flag : (b : Bool) → (if b then 1 else 0) ≤ 1
          of_flag true = omega arith
          of_flag false = omega arith

      last_few : (s t : ℕ) → last price sorts (count_in settled) s t ≤ most_last space sorts joins s t
      last_few s t = of_tests (has s t) (s - 2 ^ t == 0)
        where
          of_tests : (a b : Bool) → (if a then (if b then 1 else settled_of (settled (s - 2 ^ t)) (length space.orders)) * (if b then length (space.paths 0 t) else joins (s - 2 ^ t) t) else 0)
              ≤ (if a then (if b then length (space.paths 0 t) else length space.orders * joins (s - 2 ^ t) t) else 0)
          of_tests false b = omega arith
          of_tests true true = omega arith
          of_tests true false = times_more (settled_of (settled (s - 2 ^ t)) (length space.orders)) (length space.orders) (joins (s - 2 ^ t) t) (few_of (settled (s - 2 ^ t)) (length space.orders))

      lasts_few : (s n : ℕ) → lasts price sorts (count_in settled) s n ≤ most_lasts space sorts joins s n
      lasts_few s zero = omega arith
      lasts_few s (suc n) = omega (arith, lasts_few s n, last_few s n)
