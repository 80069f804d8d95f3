-- What a rule's trees have wherever it reads tokens that are as they can be written.
use Rattle.std.proofs.Common.{◌≡◌, refl, sym, subst, ℕ, zero, suc, ◌+◌, ◌<◌, take, [], ◌∷◌, List, Option, Some, None, length, arith}
use Rattle.std.specs.Prelude.{⊤, slice_get}
use Rattle.std.specs.List.{AllByRecursion}
use Rattle.std.proofs.lemmas.List.{length-take}
use Rattle.std.proofs.lemmas.Bool.Decides.{nat_tests}
use Rattle.definitions.specs.Token.{TokenKind}
use Rattle.definitions.specs.Rule.{Rule, Never, Gives, Past, Sees, If, Reads, Then, Repeats}
use Rattle.definitions.specs.Rule as g
use Rattle.definitions.specs.Grammar.{Closed, WholeListOf, ListOf}
use Rattle.definitions.proofs.ReadTokens.{IsRead, AreRead}

pub record Keeps {X : Type 0} (P : X → Type 0) (rule : Rule X) : Type 0 where
  pub keeps : (ts : List TokenKind) → AreRead ts → (at to : ℕ) (x : X) → rule ts at to x → P x

-- what a token says, where it is as it can be written
abbrev pub Tells : {A : Type 0} → (Option TokenKind → Option A) → (A → Type 0) → Type 0
Tells {A} says Q = (z : A) → (says None ≡ Some z → Q z) × ((k : TokenKind) → IsRead k → says (Some k) ≡ Some z → Q z)

tells_all : {A : Type 0} (says : Option TokenKind → Option A) → Tells says (λ z. ⊤)
tells_all says z = ((λ e. tt), (λ k w e. tt))

module _ {X : Type 0} (P : X → Type 0) where
  never_keeps : (ts : List TokenKind) → AreRead ts → (at to : ℕ) (x : X) → Never ts at to x → P x
  never_keeps ts read at to x h = elim h [ ]

  gives_keeps : (v : X) → P v → (ts : List TokenKind) → AreRead ts → (at to : ℕ) (x : X) → Gives v ts at to x → P x
  gives_keeps v p ts read at to x (g.gives i j z e h) = subst P (sym e) p

  past_keeps : (kind : TokenKind) (a : Rule X) → Keeps P a → (ts : List TokenKind) → AreRead ts → (at to : ℕ) (x : X) → Past kind a ts at to x → P x
  past_keeps kind a r ts read at to x (g.past i j z h k) = r.keeps ts read _ _ _ k

  sees_keeps : (kind : TokenKind) (a c : Rule X) → Keeps P a → Keeps P c → (ts : List TokenKind) → AreRead ts → (at to : ℕ) (x : X) → Sees kind a c ts at to x → P x
  sees_keeps kind a c r s ts read at to x (g.sees i j z h k) = r.keeps ts read _ _ _ k
  sees_keeps kind a c r s ts read at to x (g.misses i j z h k) = s.keeps ts read _ _ _ k

  said : {A : Type 0} (says : Option TokenKind → Option A) (Q : A → Type 0) → Tells says Q → (ts : List TokenKind) → AreRead ts → (at : ℕ) (o : Option TokenKind) → slice_get ts at ≡ o → (z : A) → says o ≡ Some z → Q z
  said says Q tells ts read at None e z h = (tells z).0 h
  said says Q tells ts read at (Some k) e z h = (tells z).1 k (read at k e) h

  reads_keeps : {A : Type 0} (says : Option TokenKind → Option A) (Q : A → Type 0) (a : A → Rule X) (c : Rule X) → Tells says Q → ((z : A) → Q z → Keeps P (a z)) → Keeps P c
      → (ts : List TokenKind) → AreRead ts → (at to : ℕ) (x : X) → Reads says a c ts at to x → P x
  reads_keeps says Q a c tells r s ts read at to x (g.reads i j z w h k) = (r z (said says Q tells ts read i (slice_get ts i) refl z h)).keeps ts read _ _ _ k
  reads_keeps says Q a c tells r s ts read at to x (g.reads_not i j w h k) = s.keeps ts read _ _ _ k

  then_keeps : {A : Type 0} (Q : A → Type 0) (a : Rule A) (c : A → Rule X) → Keeps Q a → ((z : A) → Q z → Keeps P (c z)) → (ts : List TokenKind) → AreRead ts → (at to : ℕ) (x : X) → Then a c ts at to x → P x
  then_keeps Q a c r s ts read at to x (g.then i m j z w h k) = (s z (r.keeps ts read _ _ _ h)).keeps ts read _ _ _ k

  repeats_keeps : {A : Type 0} (says : Option TokenKind → Option A) (a : A → Rule X) → ((z : A) → Keeps P (a z)) → (ts : List TokenKind) → AreRead ts → (at to : ℕ) (xs : List X) → Repeats says a ts at to xs → AllByRecursion P xs
  repeats_keeps says a r ts read at to xs (g.over i j h q) = tt
  repeats_keeps says a r ts read at to xs (g.more i m j z w ws h k o) = ((r z).keeps ts read _ _ _ k, repeats_keeps says a r ts read _ _ _ o)

pub anything : {X : Type 0} {rule : Rule X} → Keeps (λ x. ⊤) rule
anything = record { keeps = λ ts read at to x h. tt }

pub never : {X : Type 0} {P : X → Type 0} → Keeps P Never
never {P = P} = record { keeps = never_keeps P }

pub gives : {X : Type 0} {P : X → Type 0} {v : X} → P v → Keeps P (Gives v)
gives {P = P} {v = v} p = record { keeps = gives_keeps P v p }

pub past : {X : Type 0} {P : X → Type 0} {kind : TokenKind} {a : Rule X} → Keeps P a → Keeps P (Past kind a)
past {P = P} {kind = kind} {a = a} r = record { keeps = past_keeps P kind a r }

pub sees : {X : Type 0} {P : X → Type 0} {kind : TokenKind} {a c : Rule X} → Keeps P a → Keeps P c → Keeps P (Sees kind a c)
sees {P = P} {kind = kind} {a = a} {c = c} r s = record { keeps = sees_keeps P kind a c r s }

pub if_there : {X : Type 0} {P : X → Type 0} {kind : TokenKind} {a c : Rule X} → Keeps P a → Keeps P c → Keeps P (If kind a c)
if_there r s = sees (past r) s

pub reads_told : {A X : Type 0} {P : X → Type 0} {says : Option TokenKind → Option A} {a : A → Rule X} {c : Rule X} (Q : A → Type 0) → Tells says Q → ((z : A) → Q z → Keeps P (a z)) → Keeps P c → Keeps P (Reads says a c)
reads_told {P = P} {says = says} {a = a} {c = c} Q tells r s = record { keeps = reads_keeps P says Q a c tells r s }

pub reads : {A X : Type 0} {P : X → Type 0} {says : Option TokenKind → Option A} {a : A → Rule X} {c : Rule X} → ((z : A) → Keeps P (a z)) → Keeps P c → Keeps P (Reads says a c)
reads {says = says} r s = reads_told (λ z. ⊤) (tells_all says) (λ z w. r z) s

pub then : {A X : Type 0} {P : X → Type 0} {a : Rule A} {c : A → Rule X} (Q : A → Type 0) → Keeps Q a → ((z : A) → Q z → Keeps P (c z)) → Keeps P (Then a c)
then {P = P} {a = a} {c = c} Q r s = record { keeps = then_keeps P Q a c r s }

-- whatever the first reads
pub after : {A X : Type 0} {P : X → Type 0} {a : Rule A} {c : A → Rule X} → ((z : A) → Keeps P (c z)) → Keeps P (Then a c)
after s = then (λ z. ⊤) anything (λ z w. s z)

pub repeats : {A X : Type 0} {P : X → Type 0} {says : Option TokenKind → Option A} {a : A → Rule X} → ((z : A) → Keeps P (a z)) → Keeps (AllByRecursion P) (Repeats says a)
repeats {P = P} {says = says} {a = a} r = record { keeps = repeats_keeps P says a r }

pub closed : {X : Type 0} {P : X → Type 0} {a : Rule X} → Keeps P a → Keeps P (Closed a)
closed {P = P} r = then P r (λ x p. past (gives p))

-- each of a list, which has one
whole_list : {X : Type 0} {P : X → Type 0} {a : Rule X} → Keeps P a → Keeps (λ xs. AllByRecursion P xs × (0 < length xs)) (WholeListOf a)
whole_list {P = P} r = then P r (λ x p. then (AllByRecursion P) (repeats (λ comma. r)) (λ xs all. gives ((p, all), omega arith)))

each_of_some : {X : Type 0} (P : X → Type 0) (n : ℕ) (xs : List X) → AllByRecursion P xs → AllByRecursion P (take n xs)
each_of_some P zero xs all = tt
each_of_some P (suc n) [] all = tt
each_of_some P (suc n) (x ∷ xs) all = (all.0, each_of_some P n xs all.1)

pub list : {X : Type 0} {P : X → Type 0} {a : Rule X} (most : ℕ) → Keeps P a → Keeps (λ xs. AllByRecursion P xs × (0 < length xs)) (ListOf most a)
list {P = P} most r =
    then _ (whole_list r)
    (λ xs all. gives (each_of_some P (most + 1) xs all.0, (let l = length-take (most + 1) xs in let some = all.1 in grind (arith, nat_tests, l, some))))
