-- Rows that are pushed onto columns, a field at a time.
use Rattle.std.proofs.Common.{◌≡◌, ◌∙◌, refl, sym, ap, ap₂, ℕ, zero, suc, ◌+◌, ◌<◌, ◌≤◌, List, [], ◌∷◌, ◌++◌, Option, Some, None, Result, Ok, Err, length, map, take, drop, get_or, set, Bor, arith}
use Rattle.std.specs.Prelude.{IsSome, option_map}
use Rattle.std.specs.List.{AllByRecursion}
use Rattle.std.proofs.lemmas.List.{append-nil, append_assoc, length-append, length-map, length_push, length-take-le, take_all, drop_all, drop_more, take_more, set_at, take-append-drop, get_or_at, take_at, map_push}
use Rattle.csv.specs.Records.{field_at}
use Rattle.definitions.specs.Value.{Value}
use Rattle.definitions.specs.Table.{Column, Row}
use Rattle.definitions.specs.Refusal.{Refusal}
use Rattle.definitions.specs.Loading as load
use Rattle.definitions.specs.Loading.{Record, ColumnLoads, FieldsLoad}
use Rattle.loading.specs.Meaning.{record_refusal}
use Rattle.loading.specs.Cells.{IfRefused}
use Rattle.loading.specs.declared.fault.RecordFault.{RecordFault}
use Rattle.loading.specs.declared.fault.PushFault.{PushFault}
use Rattle.loading.specs.declared.fault.PushFault.TheVariants as p
use Rattle.loading.specs.Stored.{StoredColumn, headers, with_value, with_row, Extends, cut_to, AreFilled}

-- an outcome behind the values before it
abbrev pub behind : Row → Result Row Refusal → Result Row Refusal
behind row (Ok more) = Ok (row ++ more)
behind row (Err r) = Err r

-- the first i columns have one more value each, as the first i fields load
pub record HavePushed (old now : List StoredColumn) (fields : Record) (i : ℕ) : Type 0 where
  pub row : Row
  pub count : length row ≡ i
  pub within : i ≤ length old
  pub pushed : now ≡ with_row (take i old) row ++ drop i old
  pub so_far : (o : Result Row Refusal) → FieldsLoad (headers (drop i old)) (drop i fields) o → FieldsLoad (headers old) fields (behind row o)

behind_nothing : (o : Result Row Refusal) → behind [] o ≡ o
behind_nothing (Ok row) = refl
behind_nothing (Err r) = refl

behind_push : (row : Row) (v : Value) (o : Result Row Refusal) → behind row (behind (v ∷ []) o) ≡ behind (row ++ v ∷ []) o
behind_push row v (Ok more) = ap Ok (sym (append_assoc row (v ∷ []) more))
behind_push row v (Err r) = refl

pub length-with_row : (cs : List StoredColumn) (row : Row) → length row ≡ length cs → length (with_row cs row) ≡ length cs
length-with_row [] [] h = refl
length-with_row [] (v ∷ row) h = refl
length-with_row (c ∷ cs) [] h = absurd (omega (arith, h))
length-with_row (c ∷ cs) (v ∷ row) h = ap suc (length-with_row cs row (omega (arith, h)))

with_row-push : (cs : List StoredColumn) (row : Row) (c : StoredColumn) (v : Value) → length row ≡ length cs → with_row (cs ++ c ∷ []) (row ++ v ∷ []) ≡ with_row cs row ++ with_value c v ∷ []
with_row-push [] [] c v h = refl
with_row-push [] (w ∷ row) c v h = absurd (omega (arith, h))
with_row-push (d ∷ cs) [] c v h = absurd (omega (arith, h))
with_row-push (d ∷ cs) (w ∷ row) c v h = ap (λ ds. with_value d w ∷ ds) (with_row-push cs row c v (omega (arith, h)))

-- a field that loads, before the others
one_more : (c : Column) (cs : List Column) (field : List ℕ) (fields : Record) (v : Value) (o : Result Row Refusal) → ColumnLoads c field (Ok v) → FieldsLoad cs fields o
    → FieldsLoad (c ∷ cs) (field ∷ fields) (behind (v ∷ []) o)
one_more c cs field fields v (Ok row) l s = load.next c cs field fields v row l s
one_more c cs field fields v (Err r) l s = load.later c cs field fields v r l s

-- the columns that are left, one by one
left_headers : (old : List StoredColumn) (i : ℕ) (d : StoredColumn) → i < length old → headers (drop i old) ≡ (get_or old i d).header ∷ headers (drop (i + 1) old)
left_headers old i d h = ap headers (drop_more old i d h)

-- the i-th column has not changed yet
pub pushed_at : (old now : List StoredColumn) (fields : Record) (i : ℕ) (d : StoredColumn) → HavePushed old now fields i → i < length old → (i < length now) × (get_or now i d ≡ get_or old i d)
pushed_at old now fields i d p h =
    let t : length (take i old) ≡ i = length-take-le i old p.within in
    let n : length (with_row (take i old) p.row) ≡ i = length-with_row (take i old) p.row (p.count ∙ sym t) ∙ t in
    let rest : drop i old ≡ get_or old i d ∷ drop (i + 1) old = drop_more old i d h in
    let e : now ≡ with_row (take i old) p.row ++ get_or old i d ∷ drop (i + 1) old = p.pushed ∙ ap (λ cs. with_row (take i old) p.row ++ cs) rest in
    let l : length now ≡ length (with_row (take i old) p.row) + suc (length (drop (i + 1) old)) = ap length e ∙ length-append (with_row (take i old) p.row) (get_or old i d ∷ drop (i + 1) old) in
    (omega (arith, l, n), ap (λ cs. get_or cs i d) e ∙ get_or_at (with_row (take i old) p.row) (get_or old i d) (drop (i + 1) old) d i n)

-- one more field loads
pub pushed_more : (old now : List StoredColumn) (fields : Record) (i : ℕ) (c d : StoredColumn) (field : List ℕ) (v : Value) → HavePushed old now fields i → i < length old → i < length fields
    → c ≡ get_or now i d → field ≡ get_or fields i [] → ColumnLoads c.header field (Ok v) → HavePushed old (set now i (with_value c v)) fields (i + 1)
pushed_more old now fields i c d field v p h k e f l =
    let own : c ≡ get_or old i d = e ∙ (pushed_at old now fields i d p h).1 in
    let t : length (take i old) ≡ i = length-take-le i old p.within in
    let n : length (with_row (take i old) p.row) ≡ i = length-with_row (take i old) p.row (p.count ∙ sym t) ∙ t in
    let rest : drop i old ≡ c ∷ drop (i + 1) old = drop_more old i d h ∙ ap (λ x. x ∷ drop (i + 1) old) (sym own) in
    let now' : now ≡ with_row (take i old) p.row ++ c ∷ drop (i + 1) old = p.pushed ∙ ap (λ cs. with_row (take i old) p.row ++ cs) rest in
    let written : set now i (with_value c v) ≡ with_row (take i old) p.row ++ with_value c v ∷ drop (i + 1) old =
    ap (λ cs. set cs i (with_value c v)) now' ∙ set_at (with_row (take i old) p.row) c (drop (i + 1) old) (with_value c v) i n in
    let taken : take (i + 1) old ≡ take i old ++ c ∷ [] = take_more old i d h ∙ ap (λ x. take i old ++ x ∷ []) (sym own) in
    let row' : with_row (take (i + 1) old) (p.row ++ v ∷ []) ≡ with_row (take i old) p.row ++ with_value c v ∷ [] =
    ap (λ cs. with_row cs (p.row ++ v ∷ [])) taken ∙ with_row-push (take i old) p.row c v (p.count ∙ sym t) in
    let joined : with_row (take i old) p.row ++ with_value c v ∷ drop (i + 1) old ≡ (with_row (take i old) p.row ++ with_value c v ∷ []) ++ drop (i + 1) old =
    sym (append_assoc (with_row (take i old) p.row) (with_value c v ∷ []) (drop (i + 1) old)) in
    let heads : headers (drop i old) ≡ c.header ∷ headers (drop (i + 1) old) = ap headers rest in
    let tails : drop i fields ≡ field ∷ drop (i + 1) fields = drop_more fields i [] k ∙ ap (λ x. x ∷ drop (i + 1) fields) (sym f) in
    record {
      row = p.row ++ v ∷ [];
      count = length_push p.row v ∙ ap (λ m. m + 1) p.count;
      within = omega (arith, h);
      pushed = written ∙ joined ∙ ap (λ cs. cs ++ drop (i + 1) old) (sym row');
      so_far = λ o s. rw (← behind_push p.row v o) (p.so_far (behind (v ∷ []) o) (rw (heads, tails) (one_more c.header (headers (drop (i + 1) old)) field (drop (i + 1) fields) v o l s)));
    }

-- one field is refused
pub pushed_refused : (old now : List StoredColumn) (fields : Record) (i : ℕ) (c d : StoredColumn) (field : List ℕ) (r : Refusal) → HavePushed old now fields i → i < length old → i < length fields
    → c ≡ get_or now i d → field ≡ get_or fields i [] → ColumnLoads c.header field (Err r) → FieldsLoad (headers old) fields (Err r)
pushed_refused old now fields i c d field r p h k g f l =
    let own : c ≡ get_or old i d = g ∙ (pushed_at old now fields i d p h).1 in
    let heads : headers (drop i old) ≡ c.header ∷ headers (drop (i + 1) old) = left_headers old i d h ∙ ap (λ (x : StoredColumn). x.header ∷ headers (drop (i + 1) old)) (sym own) in
    let tails : drop i fields ≡ field ∷ drop (i + 1) fields = drop_more fields i [] k ∙ ap (λ x. x ∷ drop (i + 1) fields) (sym f) in
    p.so_far (Err r) (rw (heads, tails) (load.first c.header (headers (drop (i + 1) old)) field (drop (i + 1) fields) r l))

-- all fields load
pub pushed_all : (old now : List StoredColumn) (fields : Record) (i : ℕ) → HavePushed old now fields i → length old ≤ i → length fields ≡ length old
    → (row : Row) × FieldsLoad (headers old) fields (Ok row) × (now ≡ with_row old row)
pushed_all old now fields i p h l =
    let none : drop i old ≡ [] = drop_all i old h in
    let none' : drop i fields ≡ [] = drop_all i fields (omega (arith, h, l)) in
    let all : take i old ≡ old = take_all i old h in
    let loads = rw (none, none') at (p.so_far (Ok [])) in
    let row = loads load.none in
    (p.row, rw append-nil at row, p.pushed ∙ ap₂ (λ cs ds. with_row cs p.row ++ ds) all none ∙ append-nil (with_row old p.row))

-- ---- what is there stays there

pub extends_same : (cs : List StoredColumn) → Extends cs cs
extends_same [] = tt
extends_same (c ∷ cs) = (([], ap (λ vs. record c { values = vs }) (sym (append-nil c.values))), extends_same cs)

pub extends_row : (cs : List StoredColumn) (row : Row) → length row ≡ length cs → Extends cs (with_row cs row)
extends_row [] [] h = tt
extends_row [] (v ∷ row) h = tt
extends_row (c ∷ cs) [] h = absurd (omega (arith, h))
extends_row (c ∷ cs) (v ∷ row) h = ((v ∷ [], refl), extends_row cs row (omega (arith, h)))

extends_both : (xs ys zs ws : List StoredColumn) → Extends xs ys → Extends zs ws → Extends (xs ++ zs) (ys ++ ws)
extends_both [] [] zs ws h k = k
extends_both [] (y ∷ ys) zs ws h k = absurd h
extends_both (x ∷ xs) [] zs ws h k = absurd h
extends_both (x ∷ xs) (y ∷ ys) zs ws h k = (h.0, extends_both xs ys zs ws h.1 k)

pub extends_then : (xs ys zs : List StoredColumn) → Extends xs ys → Extends ys zs → Extends xs zs
extends_then [] [] zs h k = k
extends_then [] (y ∷ ys) zs h k = absurd h
extends_then (x ∷ xs) [] zs h k = absurd h
extends_then (x ∷ xs) (y ∷ ys) [] h k = absurd k
extends_then (x ∷ xs) (y ∷ ys) (z ∷ zs) h k =
    let (more, e) = h.0 in
    let (further, f) = k.0 in
    ((more ++ further, f ∙ ap (λ (d : StoredColumn). record d { values = d.values ++ further }) e ∙ ap (λ vs. record x { values = vs }) (append_assoc x.values more further)), extends_then xs ys zs h.1 k.1)

pub pushed_extends : (old now : List StoredColumn) (fields : Record) (i : ℕ) → HavePushed old now fields i → Extends old now
pushed_extends old now fields i p =
    let t : length (take i old) ≡ i = length-take-le i old p.within in
    let e = extends_both (take i old) (with_row (take i old) p.row) (drop i old) (drop i old) (extends_row (take i old) p.row (p.count ∙ sym t)) (extends_same (drop i old)) in
    let f = rw take-append-drop at e in
    rw p.pushed f

-- ---- the field at a place

field_there : (fs : List (List ℕ)) (i : ℕ) → i < length fs → field_at fs i ≡ Some (get_or fs i [])
unfolding field_at
field_there [] i h = absurd (omega (arith, h))
field_there (f ∷ fs) zero h = refl
field_there (f ∷ fs) (suc i) h = field_there fs i (omega (arith, h))

pub field_is_there : (o : Option (Bor (List ℕ))) (fs : List (List ℕ)) (i : ℕ) → option_map (λ (s : Bor (List ℕ)). s.now) o ≡ field_at fs i → i < length fs → IsSome o
field_is_there None fs i h l = let clash : None ≡ Some (get_or fs i []) = h ∙ field_there fs i l in absurd cc
field_is_there (Some s) fs i h l = refl

pub field_is : (o : Option (Bor (List ℕ))) (fs : List (List ℕ)) (i : ℕ) (s : Bor (List ℕ)) → option_map (λ (s : Bor (List ℕ)). s.now) o ≡ field_at fs i → i < length fs → o ≡ Some s → s.now ≡ get_or fs i []
field_is o fs i s h l e =
    let k : Some s.now ≡ Some (get_or fs i []) = ap (option_map (λ (s : Bor (List ℕ)). s.now)) (sym e) ∙ h ∙ field_there fs i l in cc

-- ---- faults of a push

pub refused_is : {F : Type 0} (x : PushFault F) (fault : F) (P : F → Type 0) → x ≡ p.Refused fault → IfRefused P x → P fault
refused_is x fault P e h = let k = rw e at h in k

pub field_refused : (old now : List StoredColumn) (fields : Record) (i : ℕ) (c d : StoredColumn) (field : List ℕ) (fault : PushFault RecordFault) → HavePushed old now fields i → i < length old → i < length fields
    → c ≡ get_or now i d → field ≡ get_or fields i [] → IfRefused (λ f. ColumnLoads c.header field (Err (record_refusal f))) fault → IfRefused (λ f. FieldsLoad (headers old) fields (Err (record_refusal f))) fault
field_refused old now fields i c d field (p.Refused fault) pushed h k g f r = pushed_refused old now fields i c d field (record_refusal fault) pushed h k g f r
field_refused old now fields i c d field p.Memory pushed h k g f r = tt

-- ---- columns that are cut, one after another

pub cut_more : (old now : List StoredColumn) (n i : ℕ) (c d : StoredColumn) → now ≡ map (cut_to n) (take i old) ++ drop i old → i < length old → c ≡ cut_to n (get_or now i d)
    → set now i c ≡ map (cut_to n) (take (i + 1) old) ++ drop (i + 1) old
cut_more old now n i c d e h k =
    let m : length (map (cut_to n) (take i old)) ≡ i = length-map (take i old) (cut_to n) ∙ length-take-le i old (omega (arith, h)) in
    let rest : drop i old ≡ get_or old i d ∷ drop (i + 1) old = drop_more old i d h in
    let now' : now ≡ map (cut_to n) (take i old) ++ get_or old i d ∷ drop (i + 1) old = e ∙ ap (λ cs. map (cut_to n) (take i old) ++ cs) rest in
    let own : get_or now i d ≡ get_or old i d = ap (λ cs. get_or cs i d) now' ∙ get_or_at (map (cut_to n) (take i old)) (get_or old i d) (drop (i + 1) old) d i m in
    let c' : c ≡ cut_to n (get_or old i d) = k ∙ ap (cut_to n) own in
    let taken : map (cut_to n) (take (i + 1) old) ≡ map (cut_to n) (take i old) ++ cut_to n (get_or old i d) ∷ [] = ap (map (cut_to n)) (take_more old i d h) ∙ map_push (cut_to n) (take i old) (get_or old i d) in
    ap (λ cs. set cs i c) now' ∙ set_at (map (cut_to n) (take i old)) (get_or old i d) (drop (i + 1) old) c i m ∙ ap (λ x. map (cut_to n) (take i old) ++ x ∷ drop (i + 1) old) c'
    ∙ sym (append_assoc (map (cut_to n) (take i old)) (cut_to n (get_or old i d) ∷ []) (drop (i + 1) old)) ∙ ap (λ cs. cs ++ drop (i + 1) old) (sym taken)

-- what was added is cut off again
pub cut_back : (n : ℕ) (old new : List StoredColumn) → AreFilled n old → Extends old new → AllByRecursion (λ (c : StoredColumn). n ≤ length c.values) new × (map (cut_to n) new ≡ old)
cut_back n [] [] f e = (tt, refl)
cut_back n [] (d ∷ new) f e = absurd e
cut_back n (c ∷ old) [] f e = absurd e
cut_back n (c ∷ old) (d ∷ new) f e =
    let (more, is) = e.0 in
    let (long, same) = cut_back n old new f.1 e.1 in
    let values : d.values ≡ c.values ++ more = ap (λ (x : StoredColumn). x.values) is in
    let own : cut_to n d ≡ c = ap (cut_to n) is ∙ ap (λ vs. record c { values = vs }) (take_at c.values more n f.0) in
    ((omega (arith, ap length values, length-append c.values more, f.0), long), ap₂ (λ x xs. x ∷ xs) own same)

pub cut_long : (n : ℕ) (old new : List StoredColumn) → AreFilled n old → Extends old new → AllByRecursion (λ (c : StoredColumn). n ≤ length c.values) new
cut_long n old new f e = (cut_back n old new f e).0

pub cut_same : (n : ℕ) (old new cut : List StoredColumn) → AreFilled n old → Extends old new → cut ≡ map (cut_to n) new → cut ≡ old
cut_same n old new cut f e k = k ∙ (cut_back n old new f e).1
