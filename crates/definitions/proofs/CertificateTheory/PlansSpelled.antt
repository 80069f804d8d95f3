-- A plan of a block's space can be spelled, with any certificate of the block.
use Rattle.std.proofs.Common.{◌≡◌, ◌∙◌, refl, sym, ap, ap₂, subst, ℕ, ◌+◌, ◌-◌, ◌≤◌, ◌<◌, true, List, [], ◌∷◌, length, map, arith}
use Rattle.std.specs.Prelude.{All, nat_le}
use Rattle.std.specs.List.{AllByRecursion, list_all}
use Rattle.std.proofs.Math.Pow.{pow_mono}
use Rattle.std.proofs.lemmas.List.{length-map}
use Rattle.std.proofs.lemmas.Option.{slice_get_within}
use Rattle.std.proofs.lemmas.List.Elements.{All-from_recursion, recursion_from_All}
use Rattle.std.proofs.lemmas.Bool.Decides.{nat_tests}
use Rattle.definitions.specs.Limits.{most_blocks, most_from_tables, most_conjuncts}
use Rattle.definitions.specs.Table.{Database}
use Rattle.definitions.specs.Invariant.{IsDatabase}
use Rattle.definitions.specs.Queries.BoundBlock.{Block}
use Rattle.definitions.specs.Queries.Conjuncts.{conjuncts}
use Rattle.definitions.specs.Binding.Formed.{IsFormedSomewhere}
use Rattle.definitions.specs.Plans.Path.{Path, SegmentScan, IndexScan, MatchingScan, table_of}
use Rattle.definitions.specs.Plans.Plan.{Plan, Access, Loop, Merge, Sort}
use Rattle.definitions.specs.Plans.Space.{whole, IsOver}
use Rattle.definitions.specs.Plans.PlanSpace as p
use Rattle.definitions.specs.Plans.PlanSpace.{IsPlan}
use Rattle.definitions.specs.Plans.Cost.{limit}
use Rattle.definitions.specs.Plans.Certificate.{StateCost, Certificate, IsCertificate}
use Rattle.definitions.specs.Estimates.Version.{Three}
use Rattle.definitions.specs.Estimates.PlanConjuncts.{plan_conjunct}
use Rattle.definitions.specs.Certificates.Form.{is_number, is_match, is_path, is_plan, is_state, word_count, word_limit}
use Rattle.definitions.specs.Certificates.CertifiedBlock.{CertifiedBlock}
use Rattle.definitions.specs.Certificates.Spelling.{IsOneOf, path_meant, plan_meant, PathIsThere, PlanIsThere, ConjunctIsThere, StateIsThere, Spells}
use Rattle.definitions.specs.Certificates.Writing.{path_written, plan_written, text_written, IsSpellable}
use Rattle.definitions.specs.Certificates.Explaining.{certified}
use Rattle.definitions.proofs.CertificateTheory.Writing.{is_spelled}
use Rattle.definitions.proofs.CertificateTheory.Few.{orders_few}
use Rattle.definitions.proofs.CertificateTheory.PathsThere.{AreMatched, NamesParts, parts_there}

number_is : (n : ℕ) → n ≤ limit → is_number n ≡ true
number_is n h = grind (arith, nat_tests, h)

within_is : (n m : ℕ) → n ≤ m → nat_le n m ≡ true
within_is n m h = grind (arith, nat_tests, h)

costs_small : (target : ℕ) (states : List StateCost) → target ≤ limit → AllByRecursion (λ (s : StateCost). s.cost < target) states → AllByRecursion (λ (s : StateCost). s.cost < limit) states
costs_small target [] small h = tt
costs_small target (s ∷ states) small h = let lt = h.0 in (omega (arith, lt, small), costs_small target states small h.1)

back : (n : ℕ) → (n + 1) - 1 ≡ n
back n = omega arith

all_back : (ns : List ℕ) → map (λ n. n - 1) (map (λ n. n + 1) ns) ≡ ns
all_back [] = refl
all_back (n ∷ ns) = ap₂ (λ (m : ℕ) (ms : List ℕ). m ∷ ms) (back n) (all_back ns)

all_numbers : (count : ℕ) (ns : List ℕ) → count ≤ most_conjuncts → AllByRecursion (λ n. n < count) ns → list_all is_number (map (λ n. n + 1) ns) ≡ true
all_numbers count [] few h = refl
all_numbers count (n ∷ ns) few h = let lt = h.0 in rw (number_is (n + 1) (omega (arith, lt, few)), all_numbers count ns few h.1) refl

all_there : (count : ℕ) (ns : List ℕ) → AllByRecursion (λ n. n < count) ns → AllByRecursion (IsOneOf count) (map (λ n. n + 1) ns)
all_there count [] h = tt
all_there count (n ∷ ns) h = let lt = h.0 in ((omega arith, omega (arith, lt)), all_there count ns h.1)

module _ (db : Database) (number : ℕ) (block : Block) (valid : IsDatabase db) (formed : IsFormedSomewhere db block) where
  abbrev own : CertifiedBlock
  own = certified db number block Three

  few_tables : length block.tables ≤ most_from_tables
  few_tables = formed.3.count

  few_conjuncts : length (conjuncts block) ≤ most_conjuncts
  few_conjuncts = formed.3.conjuncts

  as_many_conjuncts : length own.space.conjuncts ≡ length (conjuncts block)
  as_many_conjuncts = length-map (conjuncts block) (plan_conjunct db block)

  few_orders : length own.space.orders ≤ 1000
  few_orders = orders_few db block valid formed

  match_form : (ns : List ℕ) → AreMatched block ns → is_match Three (map (λ n. n + 1) ns) ≡ true
  match_form [] h = let some = h.0 in absurd (omega (arith, some))
  match_form (n ∷ ns) h = let lt = h.1.0 in rw (number_is (n + 1) (omega (arith, lt, few_conjuncts)), all_numbers (length (conjuncts block)) ns few_conjuncts h.1.1) refl

  conjuncts_there : (ns : List ℕ) → AreMatched block ns → All (ConjunctIsThere own) (map (λ n. n + 1) ns)
  conjuncts_there ns h = All-from_recursion (ConjunctIsThere own) (map (λ n. n + 1) ns) (subst (λ count. AllByRecursion (IsOneOf count) (map (λ n. n + 1) ns)) (sym as_many_conjuncts) (all_there (length (conjuncts block)) ns h.1))

  -- a path's numbers are there, may be written, and mean the path
  record IsSpelledPath (path : Path) : Type 0 where
    there : PathIsThere own (path_written own path)
    form : is_path Three (path_written own path) ≡ true
    meant : path_meant own (path_written own path) ≡ path

  path_spelled : (path : Path) → table_of path < length block.tables → NamesParts db block (table_of path) path → IsSpelledPath path
  path_spelled (SegmentScan table) lt parts = record {
    there = (omega arith, omega (arith, lt));
    form = number_is (table + 1) (omega (arith, lt, few_tables));
    meant = ap SegmentScan (back table);
  }
  path_spelled (IndexScan table index backward) lt parts =
      let few = parts.1.1 in
      let below = parts.1.0 in
      record {
        there = ((omega arith, omega (arith, lt)), (omega arith, rw (back table) (omega (arith, below))));
        form = rw (number_is (table + 1) (omega (arith, lt, few_tables)), number_is (index + 1) (omega (arith, few))) refl;
        meant = ap₂ (λ (t i : ℕ). IndexScan t i backward) (back table) (back index);
      }
  path_spelled (MatchingScan table index numbers backward) lt parts =
      let few = parts.1.1 in
      let below = parts.1.0 in
      record {
        there = (
          (omega arith, omega (arith, lt)),
          (omega arith, rw (back table) (omega (arith, below))),
          conjuncts_there numbers parts.2,
        );
        form = rw (number_is (table + 1) (omega (arith, lt, few_tables)), number_is (index + 1) (omega (arith, few)), match_form numbers parts.2) refl;
        meant = ap₂ (λ (t i : ℕ). MatchingScan t i (map (λ n. n - 1) (map (λ n. n + 1) numbers)) backward) (back table) (back index) ∙ ap (λ ns. MatchingScan table index ns backward) (all_back numbers);
      }

  -- ---- plans

  record IsSpelledPlan (plan : Plan) : Type 0 where
    there : PlanIsThere own (plan_written own plan)
    form : is_plan Three (plan_written own plan) ≡ true
    meant : plan_meant own (plan_written own plan) ≡ plan
    words : word_count (plan_written own plan) ≡ word_count plan

  plan_spelled : (plan : Plan) → IsPlan own.space plan → IsSpelledPlan plan
  plan_spelled (Access path) (p.access own_path lt among) =
      let s = path_spelled path lt (parts_there db block valid _ (table_of path) path among) in
      record { there = s.there; form = s.form; meant = ap Access s.meant; words = refl }
  plan_spelled (Loop outer path) (p.loop outer' path' planned can) =
      let o = plan_spelled outer planned in
      let s = path_spelled path can.0.0 (parts_there db block valid _ (table_of path) path can.1) in
      record { there = (o.there, s.there); form = rw (o.form, s.form) refl; meant = ap₂ Loop o.meant s.meant; words = ap (λ n. n + 1) o.words }
  plan_spelled (Merge outer conjunct inner) (p.merge outer' conjunct' inner' planned can) =
      let o = plan_spelled outer planned in
      let s = path_spelled inner.path can.0.0 (parts_there db block valid _ (table_of inner.path) inner.path can.1.6.0) in
      let lt = slice_get_within own.space.conjuncts conjunct can.1.2.0.0 can.1.2.0.1 in
      record {
        there = (o.there, (omega arith, omega (arith, lt)), s.there);
        form = rw (o.form, number_is (conjunct + 1) (omega (arith, lt, as_many_conjuncts, few_conjuncts)), s.form) refl;
        meant = ap₂ (λ (q : Plan) (c : ℕ). Merge q c (record { path = path_meant own (path_written own inner.path); sorted = inner.sorted })) o.meant (back conjunct)
            ∙ ap (λ q. Merge outer conjunct (record { path = q; sorted = inner.sorted })) s.meant;
        words = ap (λ n. n + 1) o.words;
      }
  plan_spelled (Sort input order) (p.sort input' order' planned can) =
      let o = plan_spelled input planned in
      let lt = can.1.0 in
      record { there = (o.there, lt); form = rw (o.form, number_is order (omega (arith, lt, few_orders))) refl; meant = ap (λ q. Sort q order) o.meant; words = ap (λ n. n + 1) o.words }

  -- ---- certificates

  states_form : (states : List StateCost) → AllByRecursion (λ (s : StateCost). (0 < s.tables) × (s.tables ≤ whole own.space)) states → AllByRecursion (λ (s : StateCost). IsOver own.space s.tables s.order) states
      → AllByRecursion (λ (s : StateCost). s.cost < limit) states → AllByRecursion (StateIsThere own) states × (list_all is_state states ≡ true)
  states_form [] tables orders costs = (tt, refl)
  states_form (s ∷ states) tables orders costs =
      let rest = states_form states tables.1 orders.1 costs.1 in
      let low = tables.0.0 in
      let high = tables.0.1 in
      let order = orders.0.0 in
      let cost = costs.0 in
      (((low, high, orders.0), rest.0), rw (number_is s.tables (few_sets s.tables high), number_is s.order (omega (arith, order, few_orders)), number_is s.cost (omega (arith, cost)), rest.1) refl)
    where
      few_sets : (n : ℕ) → n ≤ whole own.space → n ≤ limit
      few_sets n h = let small = pow_mono few_tables in omega (arith, h, small)

  spellable : (plan : Plan) (certificate : Certificate) → number < most_blocks → IsPlan own.space plan → word_count plan ≤ word_limit → IsCertificate own.space certificate → IsSpellable own plan certificate
  spellable plan certificate few inside words is =
      let s = plan_spelled plan inside in
      let states = states_form certificate.states (recursion_from_All _ certificate.states is.states.tables) (recursion_from_All _ certificate.states is.states.orders)
      (costs_small certificate.target certificate.states is.target (recursion_from_All _ certificate.states is.costs)) in
      let short : word_count (plan_written own plan) ≤ word_limit = omega (arith, words, s.words) in
      record {
        form = rw (number_is (number + 1) (omega (arith, few)), s.form, within_is _ _ short, number_is certificate.target is.target, states.1) refl;
        there = (refl, s.there, All-from_recursion (StateIsThere own) certificate.states states.0);
        meant = s.meant;
        below = (is.states.rising, is.costs);
      }

pub plans_are_spelled : (db : Database) (number : ℕ) (block : Block) (plan : Plan) (certificate : Certificate) (bytes : List ℕ) → IsDatabase db → number < most_blocks → IsFormedSomewhere db block
    → p.InSpace (certified db number block Three).space plan → word_count plan ≤ word_limit → IsCertificate (certified db number block Three).space certificate
    → bytes ≡ text_written (certified db number block Three) plan certificate → Spells (certified db number block Three) bytes plan certificate
plans_are_spelled db number block plan certificate bytes valid few formed inside words certified_by is =
    is_spelled (certified db number block Three) bytes plan certificate (spellable db number block valid formed plan certificate few inside.0 words certified_by) is
