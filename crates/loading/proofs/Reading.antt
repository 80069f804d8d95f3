-- Records that a reader of a file reads, and how many there can be.
use Rattle.std.proofs.Common.{◌≡◌, ◌∙◌, refl, sym, ap, inl, ℕ, zero, suc, ◌+◌, ◌-◌, ◌<◌, ◌≤◌, List, [], ◌∷◌, ◌++◌, Option, Some, None, Result, Ok, Err, Bool, true, false, cond, length, Bor, arith}
use Rattle.std.specs.Prelude.{◌==◌, ◌||◌, MatchResult, IfOk, OnOk, IsErrAnd}
use Rattle.std.specs.Bool.{OnTrue}
use Rattle.csv.specs.Machine.{Read, next_record, step, in_field, start_field, start_record, is_end, fields_after, field_after, ends_at_end}
use Rattle.csv.specs.Reading.{Ready, Reached, ReadRecord, default_config, source_of, strip_bom, is_bom}
use Rattle.csv.specs.declared.reader.Reader.{Reader}
use Rattle.csv.specs.declared.reader.Trim.TheVariants as trim
use Rattle.csv.specs.declared.parser.State.{State}
use Rattle.csv.specs.declared.parser.State.TheVariants as st
use Rattle.csv.specs.declared.parser.Action.{Action}
use Rattle.csv.specs.declared.parser.Action.TheVariants as act
use Rattle.csv.proofs.ReadFacts.{rows-more}
use Rattle.definitions.specs.Loading.{Record, AreFileRecords}
use Rattle.loading.specs.Files.{HasRead}

-- what a reader of memory has
abbrev left_of : Bor (List ℕ) → Option (List ℕ)
left_of s = Some s.now

-- one more record
read_one : (old new : Reader (Bor (List ℕ))) (fields : Record) → ReadRecord left_of old new true fields → new.first ≡ true → (bytes : List ℕ) (records : List Record) → HasRead bytes old records
    → HasRead bytes new (records ++ fields ∷ [])
read_one old new fields r first bytes records h =
    let m = rows-more left_of old new fields default_config st.StartRecord (strip_bom bytes) h.rest records h.config h.left h.reached r in
    record {
      plain = r.3 ∙ h.plain;
      ready = inl first;
      config = r.2 ∙ h.config;
      rest = m.0;
      left = m.1;
      reached = m.2;
    }

pub read_more : {E : Type 0} (result : Result Bool E) (old new : Reader (Bor (List ℕ))) (fields : Record)
    → IfOk result (λ found. (old.trim ≡ trim.None) → Ready old → ReadRecord left_of old new found fields) → ((old.trim ≡ trim.None) → OnOk result (new.first ≡ true))
    → IfOk result (λ found. OnTrue found ((bytes : List ℕ) (records : List Record) → HasRead bytes old records → HasRead bytes new (records ++ fields ∷ [])))
read_more (Ok true) old new fields r f = λ bytes records h. read_one old new fields (r h.plain h.ready) (f h.plain) bytes records h
read_more (Ok false) old new fields r f = tt
read_more (Err e) old new fields r f = tt

-- what holds of a result holds of it with another error
pub with_error : {X E F : Type 0} (result : Result X E) (out : Result X F) (Q : E → F → Type 0) (P : X → Type 0) → MatchResult result (λ x. out ≡ Ok x) (λ e. IsErrAnd out (Q e)) → IfOk result P → IfOk out P
with_error (Ok x) out Q P h p = rw h p
with_error (Err e) (Ok y) Q P h p = absurd h
with_error (Err e) (Err f) Q P h p = tt

-- ---- a record takes a byte at least

ends_after : (c : ℕ) → ends_at_end (cond (c == 13) st.AfterCr st.StartRecord) ≡ false
ends_after c = elim (c == 13) as (λ b. ends_at_end (cond b st.AfterCr st.StartRecord) ≡ false) [ true ↦ refl | false ↦ refl ]

abbrev field_step : (delimits ends : Bool) → State → State × Action
field_step delimits ends s = cond delimits (st.StartField, act.EndField) (cond ends (s, act.EndRecord) (st.InField, act.Copy))

field_ends : (delimits ends : Bool) (s : State) → ends_at_end s ≡ false → is_end (field_step delimits ends s).1 ≡ true → ends_at_end (field_step delimits ends s).0 ≡ false
field_ends true ends s h e = absurd cc
field_ends false true s h e = h
field_ends false false s h e = absurd cc

quote_ends : (quotes : Bool) (q : State) (a : Action) (other : State × Action) → is_end a ≡ false → (is_end other.1 ≡ true → ends_at_end other.0 ≡ false) → is_end (cond quotes (q, a) other).1 ≡ true
    → ends_at_end (cond quotes (q, a) other).0 ≡ false
quote_ends true q a other h k e = let clash : false ≡ true = sym h ∙ e in absurd cc
quote_ends false q a other h k e = k e

in_field_ends : (c : ℕ) → is_end (in_field default_config c).1 ≡ true → ends_at_end (in_field default_config c).0 ≡ false
in_field_ends c e = field_ends (c == 44) ((c == 13) || (c == 10)) (cond (c == 13) st.AfterCr st.StartRecord) (ends_after c) e

start_field_ends : (c : ℕ) → is_end (start_field default_config c).1 ≡ true → ends_at_end (start_field default_config c).0 ≡ false
start_field_ends c e = quote_ends (c == 34) st.InQuoted act.Skip (in_field default_config c) refl (in_field_ends c) e

start_record_ends : (c : ℕ) → is_end (start_record default_config c).1 ≡ true → ends_at_end (start_record default_config c).0 ≡ false
start_record_ends c e = quote_ends ((c == 13) || (c == 10)) st.StartRecord act.Skip (start_field default_config c) refl (start_field_ends c) e

-- the state after the end of a record is one between records
step_ends : (s : State) (c : ℕ) → is_end (step default_config s c).1 ≡ true → ends_at_end (step default_config s c).0 ≡ false
step_ends st.StartRecord c e = start_record_ends c e
step_ends st.StartField c e = start_field_ends c e
step_ends st.InField c e = in_field_ends c e
step_ends st.InQuoted c e = quote_ends (c == 34) st.AfterQuote act.Skip (st.InQuoted, act.Copy) refl (λ k. absurd cc) e
step_ends st.InEscape c e = absurd cc
step_ends st.AfterQuote c e = quote_ends (c == 34) st.InQuoted act.Copy (in_field default_config c) refl (in_field_ends c) e
step_ends st.InComment c e = quote_ends (c == 10) st.StartRecord act.Skip (st.InComment, act.Skip) refl (λ k. absurd cc) e
step_ends st.AfterCr c e = quote_ends (c == 10) st.StartRecord act.Skip (start_record default_config c) refl (start_record_ends c) e

some_read : (q p : Read) → Some q ≡ Some p → q ≡ p
some_read q p e = cc

-- what is left after a record, and the state there
abbrev Leaves : ℕ → Read → Type 0
Leaves n p = (length p.2 ≤ n) × (ends_at_end p.1 ≡ false)

leaves : (n : ℕ) (q p : Read) → Some q ≡ Some p → length q.2 ≤ n → ends_at_end q.1 ≡ false → Leaves n p
leaves n q p e h k = rw (← some_read q p e) (h, k)

leaves_end : (b : Bool) (r : Record) (p : Read) → cond b (Some (r, st.StartRecord, [])) None ≡ Some p → Leaves 0 p
leaves_end true r p e = leaves 0 (r, st.StartRecord, []) p e (omega arith) refl
leaves_end false r p e = absurd cc

leaves_step : (b : Bool) (r : Record) (s : State) (xs : List ℕ) (more : Option Read) (p : Read) → (b ≡ true → ends_at_end s ≡ false) → (more ≡ Some p → Leaves (length xs - 1) p) → cond b (Some (r, s, xs)) more ≡ Some p
    → Leaves (length xs) p
leaves_step true r s xs more p h k e = leaves (length xs) (r, s, xs) p e (omega arith) (h refl)
leaves_step false r s xs more p h k e = let l = k e in (omega (arith, l.0), l.1)

consumed : (s : State) (fields : Record) (field : List ℕ) (xs : List ℕ) (p : Read) → next_record default_config s fields field xs ≡ Some p → Leaves (length xs - 1) p
unfolding next_record
consumed s fields field [] p e = leaves_end (ends_at_end s) (fields ++ (field ∷ [])) p e
consumed s fields field (c ∷ xs) p e =
    let l : suc (length xs) - 1 ≡ length xs = omega arith in
    rw l (leaves_step (is_end (step default_config s c).1) _ (step default_config s c).0 xs _ p (step_ends s c)
    (consumed (step default_config s c).0 (fields_after (step default_config s c).1 fields field) (field_after (step default_config s c).1 c field) xs p) e)

-- between records the end of the text ends none
none_at_end : (s : State) (p : Read) → ends_at_end s ≡ false → next_record default_config s [] [] [] ≡ Some p → ⊥
unfolding next_record
none_at_end s p h e = let k = rw h at e in cc k

bytes_left : (s : State) (xs : List ℕ) (p : Read) → ends_at_end s ≡ false → next_record default_config s [] [] xs ≡ Some p → Leaves (length xs) p × (length p.2 + 1 ≤ length xs)
bytes_left s [] p h e = absurd (none_at_end s p h e)
bytes_left s (x ∷ xs) p h e = let l = consumed s [] [] (x ∷ xs) p e in ((omega (arith, l.0), l.1), omega (arith, l.0))

-- so there are at most as many records as bytes
pub reached_few : (s : State) (xs : List ℕ) (records : List Record) (s2 : State) (ys : List ℕ) → ends_at_end s ≡ false → Reached default_config s xs records s2 ys
    → (length records + length ys ≤ length xs) × (ends_at_end s2 ≡ false)
unfolding Reached
reached_few s xs [] s2 ys h r = (omega (arith, ap length r.1), rw (← r.0) h)
reached_few s xs (one ∷ records) s2 ys h r =
    let (p, next, is, more) = r in
    let l = bytes_left s xs p h next in
    let k = reached_few p.1 p.2 records s2 ys l.0.1 more in
    (omega (arith, k.0, l.1), k.1)

strip_bom_shorter : (xs : List ℕ) → length (strip_bom xs) ≤ length xs
unfolding strip_bom
strip_bom_shorter [] = omega arith
strip_bom_shorter (a ∷ []) = omega arith
strip_bom_shorter (a ∷ b ∷ []) = omega arith
strip_bom_shorter (a ∷ b ∷ c ∷ rest) = elim (is_bom a b c) as (λ t. length (cond t rest (a ∷ b ∷ c ∷ rest)) ≤ length (a ∷ b ∷ c ∷ rest)) [ true ↦ omega arith | false ↦ omega arith ]

pub read_few : (bytes : List ℕ) (reader : Reader (Bor (List ℕ))) (records : List Record) → HasRead bytes reader records → length records ≤ length bytes
read_few bytes reader records h = omega (arith, (reached_few st.StartRecord (strip_bom bytes) records reader.state h.rest refl h.reached).0, strip_bom_shorter bytes)

-- ---- the records that are left

-- all records of a text
abbrev Rest : State → List ℕ → Type 0
Rest s xs = (records : List Record) × (s2 : State) × (ys : List ℕ) × Reached default_config s xs records s2 ys × (next_record default_config s2 [] [] ys ≡ None)

rest_by : (s : State) (xs : List ℕ) (o : Option Read) → next_record default_config s [] [] xs ≡ o → ((p : Read) → o ≡ Some p → Rest p.1 p.2) → Rest s xs
unfolding Reached
rest_by s xs None e more = ([], s, xs, (refl, refl), e)
rest_by s xs (Some p) e more = let (records, s2, ys, reached, none) = more p refl in (p.0 ∷ records, s2, ys, (p, e, refl, reached), none)

rest_of : (n : ℕ) (s : State) (xs : List ℕ) → length xs < n → ends_at_end s ≡ false → Rest s xs
rest_of zero s xs l h = absurd (omega (arith, l))
rest_of (suc n) s xs l h =
    rest_by s xs (next_record default_config s [] [] xs) refl
    (λ p e. let k = bytes_left s xs p h e in rest_of n p.1 p.2 (omega (arith, k.1, l)) k.0.1)

reached_both : (s : State) (xs : List ℕ) (front : List Record) (s2 : State) (ys : List ℕ) (back : List Record) (s3 : State) (zs : List ℕ)
    → Reached default_config s xs front s2 ys → Reached default_config s2 ys back s3 zs → Reached default_config s xs (front ++ back) s3 zs
unfolding Reached
reached_both s xs [] s2 ys back s3 zs r q = rw (r.0, r.1) q
reached_both s xs (one ∷ front) s2 ys back s3 zs r q = (r.0, r.1, r.2, reached_both r.0.1 r.0.2 front s2 ys back s3 zs r.3 q)

-- the records that were read are the first of the file's
pub read_first : (bytes : List ℕ) (reader : Reader (Bor (List ℕ))) (records : List Record) → HasRead bytes reader records → (after : List Record) × AreFileRecords bytes (records ++ after)
read_first bytes reader records h =
    let k = reached_few st.StartRecord (strip_bom bytes) records reader.state h.rest refl h.reached in
    let (after, s2, ys, reached, none) = rest_of (length h.rest + 1) reader.state h.rest (omega arith) k.1 in
    (after, (s2, ys, reached_both st.StartRecord (strip_bom bytes) records reader.state h.rest after s2 ys h.reached reached, none))

-- a reader at the start of a file
pub fresh : (bytes : List ℕ) (reader : Reader (Bor (List ℕ))) → reader.trim ≡ trim.None → Ready reader → reader.config ≡ default_config → source_of left_of reader ≡ Some (strip_bom bytes) → reader.state ≡ st.StartRecord
    → HasRead bytes reader []
unfolding Reached
fresh bytes reader t r c s e = record { plain = t; ready = r; config = c; rest = strip_bom bytes; left = s; reached = (sym e, refl) }
