-- Where leaves stand, token by token.
use Rattle.std.proofs.Common.{◌≡◌, ◌∙◌, refl, sym, ap, subst, ℕ, zero, suc, ◌+◌, ◌-◌, ◌<◌, ◌≤◌, ◌⊎◌, inl, inr, append_assoc, append-nil, false, List, [], ◌∷◌, ◌++◌, Option, Some, None, Result, Ok, Err, arith, option_map}
use Rattle.std.specs.Prelude.{IfOk, drop, slice_get, unwrap_or}
use Rattle.std.proofs.lemmas.Bool.Decides.{nat_tests}
use Rattle.definitions.specs.Token.{TokenKind}
use Rattle.definitions.specs.Token as t
use Rattle.definitions.specs.Rule.{At}
use Rattle.definitions.specs.Grammar.{name_in, count_in, string_in, numeral_in}
use Rattle.syntax_cursor.specs.Places.{Leaf, Placed, Name, Number, String, Stand, Stands, GoesOn, one, if_there, leaf_in, has_leaf, beside, start_at, left_at}
use Rattle.syntax_cursor.specs.Places as s
use Rattle.syntax_cursor.specs.Reading.{Place, IsNext, EndsList}

-- more lists may be left out than are
pub more : {n : ℕ} (m : ℕ) {a xs b : List Placed} → n ≤ m → Stand n a xs b → Stand m a xs b
more m le (s.none n a b e) = s.none m a b e
more m le (s.passed n token a xs b h d) = s.passed m token a xs b h (more m le d)
more m le (s.leaf n token a xs b d) = s.leaf m token a xs b (more m le d)
more m le (s.left_out n others comma a elements behind xs b e h f d) =
    s.left_out m (m - 1) comma a elements behind xs b (omega (arith, le, e)) h f (more (m - 1) (omega (arith, le, e)) d)

join : {n m : ℕ} {a b c xs ys : List Placed} → Stand n a xs b → Stand m b ys c → Stand (n + m) a (xs ++ ys) c
join {m = m} {c = c} {ys = ys} (s.none n a b e) d = subst (λ z. Stand (n + m) z ys c) (sym e) (more (n + m) (omega arith) d)
join {m = m} {c = c} {ys = ys} (s.passed n token a xs b h d) d' = s.passed (n + m) token a (xs ++ ys) c h (join d d')
join {m = m} {c = c} {ys = ys} (s.leaf n token a xs b d) d' = s.leaf (n + m) token a (xs ++ ys) c (join d d')
join {m = m} {c = c} {ys = ys} (s.left_out n others comma a elements behind xs b e h f d) d' =
    s.left_out (n + m) (others + m) comma a elements behind (xs ++ ys) c (omega (arith, e)) h f (join d d')

-- the tokens that are left are the last of them
pub last_left : {n : ℕ} {a xs b : List Placed} → Stand n a xs b → (front : List Placed) × (a ≡ front ++ b)
last_left (s.none n a b e) = ([], e)
last_left (s.passed n token a xs b h d) = let l = last_left d in (token ∷ l.0, ap (λ z. token ∷ z) l.1)
last_left (s.leaf n token a xs b d) = let l = last_left d in (token ∷ l.0, ap (λ z. token ∷ z) l.1)
last_left {b = b} (s.left_out n others comma a elements behind xs b' e h f d) =
    let l = last_left d in
    (comma ∷ elements ++ l.0, ap (λ z. comma ∷ z) (f ∙ ap (λ z. elements ++ z) l.1 ∙ sym (append_assoc elements l.0 b')))

-- what the token at a place is, and the tokens behind it
next_is : (n : ℕ) → suc n + 1 ≡ suc (n + 1)
next_is n = omega arith

ahead : (kinds : List TokenKind) (starts : List ℕ) (at : ℕ) (l : Leaf) → option_map leaf_in (slice_get kinds at) ≡ Some l
    → drop at (beside kinds starts) ≡ record { leaf = l; start = unwrap_or (slice_get starts at) 0 } ∷ drop (at + 1) (beside kinds starts)
ahead [] starts at l e = absurd cc
ahead (k ∷ ks) [] zero l e = let h : leaf_in k ≡ l = cc in ap (λ z. record { leaf = z; start = 0 } ∷ beside ks []) h
ahead (k ∷ ks) (n ∷ ns) zero l e = let h : leaf_in k ≡ l = cc in ap (λ z. record { leaf = z; start = n } ∷ beside ks ns) h
ahead (k ∷ ks) [] (suc at) l e = rw (next_is at) (ahead ks [] at l e)
ahead (k ∷ ks) (n ∷ ns) (suc at) l e = rw (next_is at) (ahead ks ns at l e)

left_next : (p q : Place) (l : Leaf) → option_map leaf_in (slice_get p.tokens p.at) ≡ Some l → IsNext p q → left_at p ≡ record { leaf = l; start = start_at p } ∷ left_at q
left_next p q l e next = ahead p.tokens p.starts p.at l e ∙ ap (λ z. record { leaf = l; start = start_at p } ∷ z) (sym (same p.tokens q.tokens p.starts q.starts (p.at + 1) q.at next.tokens next.starts next.at))
  where
    same : (ks ks' : List TokenKind) (ns ns' : List ℕ) (i i' : ℕ) → ks' ≡ ks → ns' ≡ ns → i' ≡ i → drop i' (beside ks' ns') ≡ drop i (beside ks ns)
    same ks ks' ns ns' i i' e f g = rw (e, f, g) refl

-- ---- from place to place

pub here : {p : Place} → Stands p p []
here {p = p} = record { lists = 0; noted = omega arith; stand = s.none 0 (left_at p) (left_at p) refl }

pub on : {p q t : Place} {xs ys : List Placed} → Stands p q xs → Stands q t ys → Stands p t (xs ++ ys)
on d d' = record { lists = d.lists + d'.lists; noted = let l = d.noted in let m = d'.noted in omega (arith, l, m); stand = join d.stand d'.stand }

-- nothing is passed
pub stays : {p q t : Place} {xs : List Placed} → Stands p q xs → t ≡ q → Stands p t xs
stays {p = p} {xs = xs} d e = subst (λ z. Stands p z xs) (sym e) d

-- a token that is not passed yet begins where it began
pub still : {p q : Place} {start : ℕ} → start ≡ start_at p → q ≡ p → start ≡ start_at q
still f e = f ∙ ap start_at (sym e)

pub seen_as : {p q : Place} {xs ys : List Placed} → ys ≡ xs → Stands p q xs → Stands p q ys
seen_as {p = p} {q = q} e d = subst (λ z. Stands p q z) (sym e) d

-- nothing is there
pub not_there : {A : Type 0} {p q : Place} (leaves : A → List Placed) (o : Option A) → o ≡ None → q ≡ p → Stands p q (if_there leaves o)
not_there leaves o e f = seen_as (ap (if_there leaves) e) (stays here f)

-- a token that says a leaf
pub leaf_here : {p q : Place} {l : Leaf} {start : ℕ} → option_map leaf_in (slice_get p.tokens p.at) ≡ Some l → IsNext p q → start ≡ start_at p → Stands p q (one l start)
leaf_here {p = p} {q = q} {l = l} e next f =
    record {
      lists = 0;
      noted = let same = next.long_lists in omega (arith, same);
      stand = subst (λ n. Stand 0 (left_at p) (one l n) (left_at q)) (sym f) (subst (λ z. Stand 0 z (one l (start_at p)) (left_at q)) (sym (left_next p q l e next)) (s.leaf 0 _ (left_at q) [] (left_at q) (s.none 0 (left_at q) (left_at q) refl)));
    }

-- a token that has no leaf
passed_here : {p q : Place} {l : Leaf} → option_map leaf_in (slice_get p.tokens p.at) ≡ Some l → IsNext p q → has_leaf l ≡ false → Stands p q []
passed_here {p = p} {q = q} {l = l} e next h =
    record {
      lists = 0;
      noted = let same = next.long_lists in omega (arith, same);
      stand = subst (λ z. Stand 0 z [] (left_at q)) (sym (left_next p q l e next)) (s.passed 0 _ (left_at q) [] (left_at q) h (s.none 0 (left_at q) (left_at q) refl));
    }

pub no_more : {p q t : Place} {xs : List Placed} → Stands p q xs → Stands q t [] → Stands p t xs
no_more {p = p} {t = t} {xs = xs} d d' = subst (λ z. Stands p t z) (append_none xs) (on d d')
  where
    append_none : (xs : List Placed) → xs ++ [] ≡ xs
    append_none [] = refl
    append_none (x ∷ xs) = ap (λ z. x ∷ z) (append_none xs)

-- a token of a kind is passed
pub past : {p q t : Place} {xs : List Placed} {kind : TokenKind} → has_leaf (leaf_in kind) ≡ false → Stands p q xs → At q.tokens q.at kind × IsNext q t → Stands p t xs
past h d at = no_more d (passed_here (ap (option_map leaf_in) at.0) at.1 h)

-- or is a leaf
pub past_leaf : {p q t : Place} {xs : List Placed} {kind : TokenKind} {start : ℕ} → Stands p q xs → start ≡ start_at q → At q.tokens q.at kind × IsNext q t → Stands p t (xs ++ one (leaf_in kind) start)
past_leaf d f at = on d (leaf_here (ap (option_map leaf_in) at.0) at.1 f)

-- what a token says is a leaf
pub says_leaf : {B : Type 0} {says : Option TokenKind → Option B} {leaf : B → Leaf} {p q t : Place} {xs : List Placed} {v : B} {start : ℕ}
    → ((o : Option TokenKind) (b : B) → says o ≡ Some b → option_map leaf_in o ≡ Some (leaf b)) → Stands p q xs → start ≡ start_at q → (says (slice_get q.tokens q.at) ≡ Some v) × IsNext q t → Stands p t (xs ++ one (leaf v) start)
says_leaf {q = q} l d f at = on d (leaf_here (l (slice_get q.tokens q.at) _ at.0) at.1 f)

-- or none
pub says_passed : {B : Type 0} {says : Option TokenKind → Option B} {p q t : Place} {xs : List Placed} {v : B}
    → ((o : Option TokenKind) (b : B) → says o ≡ Some b → (l : Leaf) × (option_map leaf_in o ≡ Some l) × (has_leaf l ≡ false)) → Stands p q xs → (says (slice_get q.tokens q.at) ≡ Some v) × IsNext q t → Stands p t xs
says_passed {q = q} l d at = let h = l (slice_get q.tokens q.at) _ at.0 in no_more d (passed_here h.1 at.1 h.2)

-- ---- lists

-- so many elements of a list are kept, whose leaves stand from a place to another: all that are read, or more than are
-- allowed, and what stands from a comma on is left out
pub data Kept (most kept : ℕ) (p q : Place) (leaves : List Placed) : Type 0 where
  whole : Stands p q leaves → Kept most kept p q leaves
  part : (lists : ℕ) (comma : Placed) (elements : List Placed) → most < kept → p.long_lists + lists ≤ q.long_lists → comma.leaf ≡ s.Mark t.Comma
      → Stand lists (left_at p) leaves (comma ∷ elements ++ left_at q) → Kept most kept p q leaves

-- a further element is kept
pub keeps_on : {most kept more_kept : ℕ} {p q q' r : Place} {xs ys : List Placed} → kept ≤ most → Kept most kept p q xs → At q.tokens q.at (t.Mark t.Comma) × IsNext q q' → Stands q' r ys → Kept most more_kept p r (xs ++ ys)
keeps_on le (whole d) at d' = whole (on (past refl d at) d')
keeps_on le (part lists comma elements lt n h d) at d' = absurd (omega (arith, le, lt))

comma_left : {q q' r : Place} {ys : List Placed} → At q.tokens q.at (t.Mark t.Comma) × IsNext q q' → Stands q' r ys → (comma : Placed) × (front : List Placed) × (comma.leaf ≡ s.Mark t.Comma) × (left_at q ≡ comma ∷ front ++ left_at r)
comma_left {q = q} {q' = q'} at d =
    let l = last_left d.stand in (
      record { leaf = s.Mark t.Comma; start = start_at q },
      l.0,
      refl,
      left_next q q' (s.Mark t.Comma) (ap (option_map leaf_in) at.0) at.1 ∙ ap (λ z. record { leaf = s.Mark t.Comma; start = start_at q } ∷ z) l.1,
    )

-- or is left out
pub leaves_out : {most kept : ℕ} {p q q' r : Place} {xs ys : List Placed} → most < kept → Kept most kept p q xs → At q.tokens q.at (t.Mark t.Comma) × IsNext q q' → Stands q' r ys → Kept most kept p r xs
leaves_out {p = p} {xs = xs} lt (whole d) at d' =
    let c = comma_left at d' in
    let n = d.noted in
    let same = at.1.long_lists in
    let n' = d'.noted in
    part d.lists c.0 c.1 lt (omega (arith, n, same, n')) c.2 (subst (λ z. Stand d.lists (left_at p) xs z) c.3 d.stand)
leaves_out {p = p} {r = r} {xs = xs} lt (part lists comma elements lt' n h d) at d' =
    let c = comma_left at d' in
    let same = at.1.long_lists in
    let n' = d'.noted in
    part lists comma (elements ++ c.0 ∷ c.1) lt (omega (arith, n, same, n')) h
    (subst (λ z. Stand lists (left_at p) xs (comma ∷ z)) (ap (λ z. elements ++ z) c.3 ∙ sym (append_assoc elements (c.0 ∷ c.1) (left_at r))) d)

same_left : (q r : Place) → r.tokens ≡ q.tokens → r.starts ≡ q.starts → r.at ≡ q.at → left_at r ≡ left_at q
same_left q r e f h = rw (e, f, h) refl

-- what is kept of a list stands where it ends
pub list_stands : {most kept : ℕ} {p q r : Place} {xs : List Placed} → Kept most kept p q xs → EndsList most kept q r → Stands p r xs
list_stands {most = most} {kept = kept} {p = p} {q = q} {r = r} {xs = xs} (whole d) end =
    let n = d.noted in
    record { lists = d.lists; noted = not_fewer (within_or_past kept most) n; stand = subst (λ z. Stand d.lists (left_at p) xs z) (sym (same_left q r end.tokens end.starts end.at)) d.stand }
  where
    within_or_past : (a b : ℕ) → (a ≤ b) ⊎ (b < a)
    within_or_past a b = grind (arith, nat_tests)

    not_fewer : (kept ≤ most) ⊎ (most < kept) → p.long_lists + d.lists ≤ q.long_lists → p.long_lists + d.lists ≤ r.long_lists
    not_fewer (inl le) n = let e = end.within le in omega (arith, e, n)
    not_fewer (inr lt) n = let e = end.noted lt in omega (arith, e, n)
list_stands {p = p} {q = q} {r = r} {xs = xs} (part lists comma elements lt n h d) end =
    let e = end.noted lt in
    record {
      lists = lists + 1;
      noted = omega (arith, e, n);
      stand = subst (λ z. Stand (lists + 1) (left_at p) z (left_at r)) (append-nil xs) (join d (s.left_out 1 0 comma (elements ++ left_at q) elements (left_at q) [] (left_at r) refl h refl (s.none 0 (left_at q) (left_at r) (sym (same_left q r end.tokens end.starts end.at)))));
    }

-- ---- names, numbers and strings

pub name_says : (o : Option TokenKind) (n : List ℕ) → name_in o ≡ Some n → option_map leaf_in o ≡ Some (Name n)
name_says (Some (t.Name m)) n e = cc
name_says _ n e = absurd cc

pub string_says : (o : Option TokenKind) (codes : List ℕ) → string_in o ≡ Some codes → option_map leaf_in o ≡ Some (String codes)
string_says (Some (t.String m)) n e = cc
string_says _ n e = absurd cc

pub count_says : (o : Option TokenKind) (n : ℕ) → count_in o ≡ Some n → option_map leaf_in o ≡ Some (Number n 0)
count_says (Some (t.Numeral units digits None)) n e = cc
count_says _ n e = absurd cc

pub numeral_says : (o : Option TokenKind) (n : ℕ × ℕ × Option ℕ) → numeral_in o ≡ Some n → option_map leaf_in o ≡ Some (Number n.0 (unwrap_or n.2 0))
numeral_says (Some (t.Numeral units digits fraction)) n e = cc
numeral_says _ n e = absurd cc

-- ---- what a call answered

pub ok_then : {A E : Type 0} {P Q : A → Type 0} (result : Result A E) → IfOk result P → ((a : A) → P a → Q a) → IfOk result Q
ok_then (Ok a) d f = f a d
ok_then (Err e) d f = d

-- what stands before a call goes on with it
pub ok_goes_on : {A E : Type 0} {xs before : List Placed} {p q : Place} (t : Place) (after : A → List Placed) (result : Result A E) → IfOk result (λ a. GoesOn before q t (after a)) → GoesOn xs p q before → IfOk result (λ a. GoesOn xs p t (after a))
ok_goes_on t after (Ok a) d f = λ from e. d from (f from e)
ok_goes_on t after (Err e) d f = d

pub ok_behind : {A E : Type 0} {before : List Placed} {p q : Place} (t : Place) (after : A → List Placed) (result : Result A E) → IfOk result (λ a. GoesOn before q t (after a)) → Stands p q before → IfOk result (λ a. Stands p t (after a))
ok_behind {p = p} t after (Ok a) d e = d p e
ok_behind t after (Err e) d f = d

-- the same where either may be kept
pub ok_behind_either : {A E : Type 0} {before other : List Placed} {p q : Place} (t : Place) (after : A → List Placed) (result : Result A E) → IfOk result (λ a. (from : Place) → Stands from q before → Stands from q other → Stands from t (after a)) → Stands p q before → Stands p q other → IfOk result (λ a. Stands p t (after a))
ok_behind_either {p = p} t after (Ok a) d e f = d p e f
ok_behind_either t after (Err e) d f g = d
