-- Tools for worked texts: decimal numbers that compute, and bytes that have no form.
use Rattle.std.proofs.Common.{◌≡◌, ◌∙◌, refl, sym, ap, ℕ, ◌+◌, ◌-◌, ◌^◌, ◌<◌, ◌≤◌, inl, inr, List, [], ◌∷◌, Bool, true, false, arith, length, get_or, take, if◌then◌else◌, ◌==◌}
use Rattle.std.specs.Prelude.{is_some, nat_le, position, codes, decimal, bytes_eq, ◌&&◌, ◌||◌, not, nat_lt, All}
use Rattle.std.specs.List.{AllByRecursion, list_all}
use Rattle.std.specs.Int.{bit_at}
use Rattle.std.specs.Str.Parse.{digits_value}
use Rattle.std.specs.Str.{all_ascii_digits}
use Rattle.std.proofs.lemmas.Slice.Eq.{bytes_eq-Decides}
use Rattle.std.proofs.lemmas.Bool.{eqb-true, ltb-true, leb-true}
use Rattle.std.proofs.lemmas.List.Elements.{All-from_recursion}
use Rattle.std.proofs.lemmas.Fmt.{decimal-digits_value}
use Rattle.std.proofs.lemmas.Str.Parse.{numerals_by_value, tells_all_ascii_digits}
use Rattle.definitions.specs.Plans.Order.{SortKey}
use Rattle.definitions.specs.Plans.Path.{Path, SegmentScan, IndexScan, MatchingScan}
use Rattle.definitions.specs.Plans.Plan.{Plan, Access, Loop, Merge, Sort}
use Rattle.definitions.specs.Plans.Space.{whole, order_at}
use Rattle.definitions.specs.Plans.TableSet.{Has}
use Rattle.definitions.specs.Plans.Certificate.{StateCost, Certificate, Precedes, AreRising}
use Rattle.definitions.specs.Certificates.Spelling.{plan_meant, IsOneOf, IndexIsThere, ConjunctIsThere, PathIsThere, PlanIsThere, StateIsThere, AreThere, AreBelow, Spells}
use Rattle.definitions.specs.Certificates.Writing.{written, plan_written, text_written}
use Rattle.definitions.specs.Estimates.Version.{Version, One, Two, Three}
use Rattle.definitions.specs.Certificates.CertifiedBlock.{CertifiedBlock, indexes_of, is_on_column}
use Rattle.definitions.specs.Certificates.Text.{Written, text_of}
use Rattle.definitions.specs.Certificates.Form.{is_number, is_plan, is_state, word_count, has_form, word_limit}
use Rattle.definitions.specs.Certificates.Fault.{BadForm, NoSuchNumber, BadStates, HasFault}
use Rattle.definitions.proofs.CertificateTheory.Reading.{and_left, and_right, one_number, read, text_with, read_digits, read_words}
use Rattle.definitions.proofs.CertificateTheory.Faults.{says_read}

-- a numeral without leading zero that is below 2^64
abbrev pub is_plain : List ℕ → Bool
is_plain ds = all_ascii_digits ds && nat_lt 0 (length ds) && nat_lt 48 (get_or ds 0 0 + (if length ds == 1 then 49 else 0)) && nat_lt (digits_value 10 ds) (2 ^ 64)

first_plain : (c l : ℕ) (t : Bool) → (l == 1) ≡ t → 48 < c + (if t then 49 else 0) → c ≡ 48 → l ≡ 1
first_plain c l true e h is = eqb-true l 1 e
first_plain c l false e h is = absurd (omega (arith, h, is))

pub plain : (ds : List ℕ) → is_plain ds ≡ true → decimal (digits_value 10 ds) ≡ ds
plain ds h =
    let h3 = and_left _ _ h in
    let h2 = and_left _ _ h3 in
    decimal-digits_value (numerals_by_value (λ (l : List ℕ). all_ascii_digits l ≡ true) tells_all_ascii_digits) ds (and_left _ _ h2)
    (ltb-true _ _ (and_right _ _ h2)) (first_plain (get_or ds 0 0) (length ds) (length ds == 1) refl (ltb-true _ _ (and_right _ _ h3)))
    (ltb-true _ _ (and_right _ _ h))

-- ---- bytes that have no form

at_limit : word_limit ≤ word_limit
at_limit = omega arith

-- what they say is spelled otherwise: without the leading zero of the target
pub leading_zero : (block : CertifiedBlock) (bytes text : List ℕ) (own : Written) → has_form block.version own ≡ true
    → text_with block.version own (48 ∷ decimal own.certificate.target) ≡ bytes → text_of block.version own ≡ text → bytes_eq bytes text ≡ false → HasFault block bytes BadForm
leading_zero block bytes text own form with is h said says =
    let h4 = and_left _ _ form in
    let h3 = and_left _ _ h4 in
    let h2 = and_left _ _ h3 in
    let reads : read word_limit (text_with block.version own (48 ∷ decimal own.certificate.target)) ≡ own = read_digits word_limit block.version block.version own (48 ∷ decimal own.certificate.target) (leb-true (word_count own.plan) word_limit (and_right _ _ h3)) (and_left _ _ h2) (and_right _ _ h2)
    (λ rest. one_number own.certificate.target 10 rest (and_right _ _ h4) (refl, refl)) (and_right _ _ form) in
    let e : said ≡ own = sym (says_read word_limit at_limit block.version bytes said says) ∙ ap (read word_limit) (sym with) ∙ reads in
    let same : bytes ≡ text = says.1 ∙ ap (text_of block.version) e ∙ is in
    absurd (unlike (bytes_eq bytes text) h ((bytes_eq-Decides bytes text).1 same))
  where
    unlike : (b : Bool) → b ≡ false → b ≡ true → ⊥
    unlike true h k = cc
    unlike false h k = cc

-- or what they say has no form: too many words, paths of another version, too great a target
pub misformed : (words : ℕ) → word_limit ≤ words → (paths : Version) (block : CertifiedBlock) (bytes : List ℕ) (own : Written) → word_count own.plan ≤ words
    → is_number own.block ≡ true → is_plan paths own.plan ≡ true → own.certificate.target < 2 ^ 64 → list_all is_state own.certificate.states ≡ true
    → has_form block.version own ≡ false → text_of block.version own ≡ bytes → HasFault block bytes BadForm
misformed words le paths block bytes own fits hb hp ht hs lacks is said says =
    let e : said ≡ own = sym (says_read words le block.version bytes said says) ∙ ap (read words) (sym is) ∙ read_words words block.version paths own fits hb hp ht hs in
    let form : has_form block.version own ≡ true = ap (has_form block.version) (sym e) ∙ says.0 in
    absurd (unlike (has_form block.version own) lacks form)
  where
    unlike : (b : Bool) → b ≡ false → b ≡ true → ⊥
    unlike true h k = cc
    unlike false h k = cc

-- ---- tests by which texts are spelled

all_from_test : {X : Type 0} (P : X → Type 0) (test : X → Bool) → ((x : X) → test x ≡ true → P x) → (xs : List X) → list_all test xs ≡ true → AllByRecursion P xs
all_from_test P test f [] h = tt
all_from_test P test f (x ∷ xs) h = (f x (and_left _ _ h), all_from_test P test f xs (and_right _ _ h))

all_passed : {X : Type 0} (P : X → Type 0) (test : X → Bool) → ((x : X) → test x ≡ true → P x) → (xs : List X) → list_all test xs ≡ true → All P xs
all_passed P test f xs h = All-from_recursion P xs (all_from_test P test f xs h)

abbrev pub is_one_of : ℕ → ℕ → Bool
is_one_of count n = nat_lt 0 n && nat_le n count

one_of : (count n : ℕ) → is_one_of count n ≡ true → IsOneOf count n
one_of count n h = (ltb-true 0 n (and_left _ _ h), leb-true n count (and_right _ _ h))

abbrev pub is_index : Version → List (List ℕ) → ℕ → Bool
is_index One indexes n = nat_lt 0 n && is_some (position (is_on_column (n - 1)) indexes)
is_index _ indexes n = is_one_of (length indexes) n

index_passed : (version : Version) (indexes : List (List ℕ)) (n : ℕ) → is_index version indexes n ≡ true → IndexIsThere version indexes n
index_passed One indexes n h = (ltb-true 0 n (and_left _ _ h), and_right _ _ h)
index_passed Two indexes n h = one_of (length indexes) n h
index_passed Three indexes n h = one_of (length indexes) n h

module _ (block : CertifiedBlock) where
  abbrev pub path_is_there : Path → Bool
  path_is_there (SegmentScan t) = is_one_of block.space.table_count t
  path_is_there (IndexScan t i backward) = is_one_of block.space.table_count t && is_index block.version (indexes_of block (t - 1)) i
  path_is_there (MatchingScan t i gs backward) =
      is_one_of block.space.table_count t && is_index block.version (indexes_of block (t - 1)) i && list_all (is_one_of (length block.space.conjuncts)) gs

  path_passed : (path : Path) → path_is_there path ≡ true → PathIsThere block path
  path_passed (SegmentScan t) h = one_of block.space.table_count t h
  path_passed (IndexScan t i backward) h = (one_of block.space.table_count t (and_left _ _ h), index_passed block.version (indexes_of block (t - 1)) i (and_right _ _ h))
  path_passed (MatchingScan t i gs backward) h = (
    one_of block.space.table_count t (and_left _ _ (and_left _ _ h)),
    index_passed block.version (indexes_of block (t - 1)) i (and_right _ _ (and_left _ _ h)),
    all_passed (ConjunctIsThere block) (is_one_of (length block.space.conjuncts)) (one_of (length block.space.conjuncts)) gs (and_right _ _ h),
  )

  abbrev pub plan_is_there : Plan → Bool
  plan_is_there (Access path) = path_is_there path
  plan_is_there (Loop outer path) = plan_is_there outer && path_is_there path
  plan_is_there (Merge outer g inner) = plan_is_there outer && is_one_of (length block.space.conjuncts) g && path_is_there inner.path
  plan_is_there (Sort input k) = plan_is_there input && nat_lt k (length block.space.orders)

  plan_passed : (plan : Plan) → plan_is_there plan ≡ true → PlanIsThere block plan
  plan_passed (Access path) h = path_passed path h
  plan_passed (Loop outer path) h = (plan_passed outer (and_left _ _ h), path_passed path (and_right _ _ h))
  plan_passed (Merge outer g inner) h = (plan_passed outer (and_left _ _ (and_left _ _ h)), one_of (length block.space.conjuncts) g (and_right _ _ (and_left _ _ h)), path_passed inner.path (and_right _ _ h))
  plan_passed (Sort input k) h = (plan_passed input (and_left _ _ h), ltb-true k (length block.space.orders) (and_right _ _ h))

  abbrev pub state_is_there : StateCost → Bool
  state_is_there s =
      nat_lt 0 s.tables && nat_le s.tables (whole block.space) && nat_lt s.order (length block.space.orders)
      && list_all (λ (key : SortKey). bit_at s.tables key.column.table == 1) (order_at block.space s.order)

  state_passed : (s : StateCost) → state_is_there s ≡ true → StateIsThere block s
  state_passed s h =
      let h3 = and_left _ _ h in
      let h2 = and_left _ _ h3 in (
        ltb-true 0 s.tables (and_left _ _ h2),
        leb-true s.tables (whole block.space) (and_right _ _ h2),
        (
          ltb-true s.order (length block.space.orders) (and_right _ _ h3),
          all_passed (λ (key : SortKey). Has s.tables key.column.table) (λ (key : SortKey). bit_at s.tables key.column.table == 1) (λ key e. eqb-true (bit_at s.tables key.column.table) 1 e) (order_at block.space s.order) (and_right _ _ h),
        ),
      )

  abbrev pub are_there : Written → Bool
  are_there said = (said.block == block.number + 1) && plan_is_there said.plan && list_all state_is_there said.certificate.states

  pub there_passed : (said : Written) → are_there said ≡ true → AreThere block said
  there_passed said h = (
    eqb-true said.block (block.number + 1) (and_left _ _ (and_left _ _ h)),
    plan_passed said.plan (and_right _ _ (and_left _ _ h)),
    all_passed (StateIsThere block) state_is_there state_passed said.certificate.states (and_right _ _ h),
  )

abbrev pub precedes : StateCost → StateCost → Bool
precedes a b = nat_lt a.tables b.tables || ((a.tables == b.tables) && nat_lt a.order b.order)

precedes_passed : (a b : StateCost) → precedes a b ≡ true → Precedes a b
precedes_passed a b h = of_test (nat_lt a.tables b.tables) refl h
  where
    of_test : (t : Bool) → nat_lt a.tables b.tables ≡ t → (t || ((a.tables == b.tables) && nat_lt a.order b.order)) ≡ true → Precedes a b
    of_test true e k = inl (ltb-true a.tables b.tables e)
    of_test false e k = inr (eqb-true a.tables b.tables (and_left _ _ k), ltb-true a.order b.order (and_right _ _ k))

abbrev pub are_rising : List StateCost → Bool
are_rising [] = true
are_rising (s ∷ ss) = list_all (precedes s) ss && are_rising ss

rising_passed : (states : List StateCost) → are_rising states ≡ true → AreRising states
rising_passed [] h = tt
rising_passed (s ∷ ss) h = (all_passed (Precedes s) (precedes s) (precedes_passed s) ss (and_left _ _ h), rising_passed ss (and_right _ _ h))

abbrev pub are_below : Certificate → Bool
are_below c = are_rising c.states && list_all (λ (s : StateCost). nat_lt s.cost c.target) c.states

below_passed : (c : Certificate) → are_below c ≡ true → AreBelow c
below_passed c h =
    (rising_passed c.states (and_left _ _ h), all_passed (λ (s : StateCost). s.cost < c.target) (λ (s : StateCost). nat_lt s.cost c.target) (λ s e. ltb-true s.cost c.target e) c.states (and_right _ _ h))

pub spelled_by : (block : CertifiedBlock) (bytes : List ℕ) (plan : Plan) (certificate : Certificate)
    → has_form block.version (written block plan certificate) ≡ true → are_there block (written block plan certificate) ≡ true
    → plan_meant block (plan_written block plan) ≡ plan → are_below certificate ≡ true → text_written block plan certificate ≡ bytes
    → Spells block bytes plan certificate
spelled_by block bytes plan certificate form there meant below is =
    record {
      said = written block plan certificate;
      says = (form, sym is);
      there = there_passed block (written block plan certificate) there;
      meant = sym meant;
      as_written = refl;
      below = below_passed certificate below;
    }

-- ---- faults

pub no_number : (block : CertifiedBlock) (bytes : List ℕ) (said : Written) → has_form block.version said ≡ true → text_of block.version said ≡ bytes
    → (AreThere block said → ⊥) → HasFault block bytes NoSuchNumber
no_number block bytes said form is not = (said, (form, sym is), not)

pub bad_states : (block : CertifiedBlock) (bytes : List ℕ) (said : Written) → has_form block.version said ≡ true → text_of block.version said ≡ bytes
    → are_there block said ≡ true → (AreBelow said.certificate → ⊥) → HasFault block bytes BadStates
bad_states block bytes said form is there not = (said, (form, sym is), there_passed block said there, not)

abbrev pub first_text : Version → List ℕ
first_text One = codes "CERTIFICATE 1\n"
first_text Two = codes "CERTIFICATE 2\n"
first_text Three = codes "CERTIFICATE 3\n"

begins : (version : Version) (said : Written) → take 14 (text_of version said) ≡ first_text version
begins One said = rw (plain (codes "1") refl) refl
begins Two said = rw (plain (codes "2") refl) refl
begins Three said = rw (plain (codes "3") refl) refl

-- bytes that begin with another line
pub other_first : (block : CertifiedBlock) (bytes : List ℕ) → bytes_eq (take 14 bytes) (first_text block.version) ≡ false → HasFault block bytes BadForm
other_first block bytes h said says =
    let e : take 14 bytes ≡ first_text block.version = ap (take 14) says.1 ∙ begins block.version said in
    absurd (unlike (bytes_eq (take 14 bytes) (first_text block.version)) h ((bytes_eq-Decides (take 14 bytes) (first_text block.version)).1 e))
  where
    unlike : (b : Bool) → b ≡ false → b ≡ true → ⊥
    unlike true h k = cc
    unlike false h k = cc
