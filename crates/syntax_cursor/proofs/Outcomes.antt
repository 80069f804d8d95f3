-- What a rule's parts come to, the rule comes to: part by part, from the end of the rule to its beginning.
use Rattle.std.proofs.Common.{◌≡◌, ◌∙◌, refl, sym, subst, ℕ, ◌+◌, ◌≤◌, List, Option, Some, None, Result, Ok, Err, Bool, true, false, arith}
use Rattle.std.specs.Prelude.{slice_get, option_map}
use Rattle.definitions.specs.Token.{TokenKind}
use Rattle.definitions.specs.Rule.{Rule, At, NotAt, Never, Gives, Past, Sees, If, Reads, Then}
use Rattle.definitions.specs.Rule as g
use Rattle.definitions.specs.Grammar.{Maybe}
use Rattle.definitions.proofs.Alike.{Alike}
use Rattle.syntax_cursor.specs.declared.stop.ParseStop.{ParseStop}
use Rattle.syntax_cursor.specs.declared.stop.ParseStop.TheVariants as s
use Rattle.syntax_cursor.specs.Reading.{Place, IsNext, Eats, Takes, Agree, Nowhere, Stops, Outcome, ParsesFlat, Given, viewed}
use Rattle.syntax_cursor.specs.Reading as r
use Rattle.syntax_cursor.proofs.Stopping.{nowhere_past, nowhere_sees, nowhere_misses, nowhere_past_none, nowhere_reads, nowhere_reads_not, nowhere_never, nowhere_first, nowhere_next, stops_as, past_made, reads_made, gives_here}

-- ---- from a part to the whole

-- the whole reads what a part further on reads, and nothing where that reads nothing
pub carry : {X : Type 0} (whole part : ℕ → Rule X) (levels least : ℕ) (p q t : Place) → q.tokens ≡ p.tokens → p.at ≤ q.at
    → ((to : ℕ) (x : X) → part levels p.tokens q.at to x → whole levels p.tokens p.at to x)
    → ((m : ℕ) (us : List TokenKind) (n : ℕ) → q.at ≤ n → Agree p.tokens us n → Nowhere (part m) us q.at → Nowhere (whole m) us p.at)
    → (o : Result X ParseStop) → Outcome part levels least q t o → Outcome whole levels least p t o
carry whole part levels least p q t e h reads needs (Ok x) (r.read y f d) = r.read x (f ∙ e) (reads t.at x (subst (λ ts. part levels ts q.at t.at x) e d))
carry whole part levels least p q t e h reads needs (Err stop) (r.stopped s' st) = r.stopped stop (stops_as whole part p.tokens levels least p.at q.at stop h needs (subst (λ ts. Stops part ts levels least q.at stop) e st))

stays : (n : ℕ) → n ≤ n
stays n = omega arith

steps : (m n : ℕ) → m ≡ n + 1 → n ≤ m
steps m n e = omega (arith, e)

-- ---- word by word

pub then_on : {A X : Type 0} {levels least k : ℕ} {p q t : Place} {o : Result X ParseStop} {a : ℕ → Rule A} {b : ℕ → A → Rule X} {x : A} → ((m : ℕ) → Alike (a levels) (a m)) → Outcome a levels k p q (Ok x) → Outcome (λ m. b m x) levels least q t o → Outcome (λ m. Then (a m) (b m)) levels least p t o
then_on {levels = levels} {least = least} {p = p} {q = q} {t = t} {o = o} {a = a} {b = b} {x = x} al (r.read y e d) out =
    carry (λ m. Then (a m) (b m)) (λ m. b m x) levels least p q t e ((al levels).rises p.tokens p.at q.at x d) (λ to y' d'. g.then p.at q.at to x y' d d')
    (λ m us n h ag nw. nowhere_next p.tokens us n p.at q.at x ag h (al m) d nw) o out

-- the same where no token of the first part opens a level
pub flat_on : {A X : Type 0} {levels least : ℕ} {p q t : Place} {o : Result X ParseStop} {a : Rule A} {b : ℕ → A → Rule X} {x : A} → Alike a a → ParsesFlat a p q (Ok x) → Outcome (λ m. b m x) levels least q t o → Outcome (λ m. Then a (b m)) levels least p t o
flat_on {levels = levels} al fact out = then_on {k = 0} (λ m. al) (fact levels 0) out

pub past_on : {X : Type 0} {levels least : ℕ} {p q t : Place} {o : Result X ParseStop} {kind : TokenKind} {a : ℕ → Rule X} → At p.tokens p.at kind × IsNext p q → Outcome a levels least q t o → Outcome (λ m. Past kind (a m)) levels least p t o
past_on {levels = levels} {least = least} {p = p} {q = q} {t = t} {o = o} {kind = kind} {a = a} at out =
    carry (λ m. Past kind (a m)) a levels least p q t at.1.tokens (steps q.at p.at at.1.at) (λ to y d. past_made p.tokens p.at q.at to y at.1.at at.0 d)
    (λ m us n h ag nw. nowhere_past us p.at q.at at.1.at nw) o out

pub sees_on : {X : Type 0} {levels least : ℕ} {p t : Place} {o : Result X ParseStop} {kind : TokenKind} {a c : ℕ → Rule X} → At p.tokens p.at kind → Outcome a levels least p t o → Outcome (λ m. Sees kind (a m) (c m)) levels least p t o
sees_on {levels = levels} {least = least} {p = p} {t = t} {o = o} {kind = kind} {a = a} {c = c} at out =
    carry (λ m. Sees kind (a m) (c m)) a levels least p p t refl (stays p.at) (λ to y d. g.sees p.at to y at d)
    (λ m us n h ag nw. nowhere_sees p.tokens us n p.at ag h at nw) o out

misses_here : {X : Type 0} {levels least : ℕ} {p t : Place} {o : Result X ParseStop} {kind : TokenKind} {a c : ℕ → Rule X} → NotAt p.tokens p.at kind → Outcome c levels least p t o → Outcome (λ m. Sees kind (a m) (c m)) levels least p t o
misses_here {levels = levels} {least = least} {p = p} {t = t} {o = o} {kind = kind} {a = a} {c = c} at out =
    carry (λ m. Sees kind (a m) (c m)) c levels least p p t refl (stays p.at) (λ to y d. g.misses p.at to y at d)
    (λ m us n h ag nw. nowhere_misses p.tokens us n p.at ag h at nw) o out

pub misses_on : {X : Type 0} {levels least : ℕ} {p q t : Place} {o : Result X ParseStop} {kind : TokenKind} {a c : ℕ → Rule X} → NotAt p.tokens p.at kind × (q ≡ p) → Outcome c levels least q t o → Outcome (λ m. Sees kind (a m) (c m)) levels least p t o
misses_on {levels = levels} {least = least} {p = p} {q = q} {t = t} {o = o} {c = c} at out = misses_here at.0 (subst (λ z. Outcome c levels least z t o) at.1 out)

pub reads_on : {X : Type 0} {levels least : ℕ} {p q t : Place} {o : Result X ParseStop} {A : Type 0} {says : Option TokenKind → Option A} {v : A} {a : ℕ → A → Rule X} {c : ℕ → Rule X} → (says (slice_get p.tokens p.at) ≡ Some v) × IsNext p q → Outcome (λ m. a m v) levels least q t o → Outcome (λ m. Reads says (a m) (c m)) levels least p t o
reads_on {levels = levels} {least = least} {p = p} {q = q} {t = t} {o = o} {says = says} {v = v} {a = a} {c = c} at out =
    carry (λ m. Reads says (a m) (c m)) (λ m. a m v) levels least p q t at.1.tokens (steps q.at p.at at.1.at) (λ to y d. reads_made p.tokens p.at q.at to v y at.1.at at.0 d)
    (λ m us n h ag nw. nowhere_reads p.tokens us n p.at q.at v at.1.at ag (omega (arith, h, at.1.at)) at.0 nw) o out

reads_not_here : {X : Type 0} {levels least : ℕ} {p t : Place} {o : Result X ParseStop} {A : Type 0} {says : Option TokenKind → Option A} {a : ℕ → A → Rule X} {c : ℕ → Rule X} → says (slice_get p.tokens p.at) ≡ None → Outcome c levels least p t o → Outcome (λ m. Reads says (a m) (c m)) levels least p t o
reads_not_here {levels = levels} {least = least} {p = p} {t = t} {o = o} {says = says} {a = a} {c = c} at out =
    carry (λ m. Reads says (a m) (c m)) c levels least p p t refl (stays p.at) (λ to y d. g.reads_not p.at to y at d)
    (λ m us n h ag nw. nowhere_reads_not p.tokens us n p.at ag h at nw) o out

pub reads_not_on : {X : Type 0} {levels least : ℕ} {p q t : Place} {o : Result X ParseStop} {A : Type 0} {says : Option TokenKind → Option A} {a : ℕ → A → Rule X} {c : ℕ → Rule X} → (says (slice_get p.tokens p.at) ≡ None) × (q ≡ p) → Outcome c levels least q t o → Outcome (λ m. Reads says (a m) (c m)) levels least p t o
reads_not_on {levels = levels} {least = least} {p = p} {q = q} {t = t} {o = o} {c = c} at out = reads_not_here at.0 (subst (λ z. Outcome c levels least z t o) at.1 out)

pub if_on : {X : Type 0} {levels least : ℕ} {p q t : Place} {o : Result X ParseStop} {kind : TokenKind} {a c : ℕ → Rule X} → At p.tokens p.at kind × IsNext p q → Outcome a levels least q t o → Outcome (λ m. If kind (a m) (c m)) levels least p t o
if_on at out = sees_on at.0 (past_on at out)

-- ---- where a rule ends

-- with a tree
pub gives : {X : Type 0} {levels least : ℕ} {p : Place} {x : X} → Outcome (λ m. Gives x) levels least p p (Ok x)
gives {p = p} {x = x} = r.read x refl (gives_here p.tokens p.at x)

pub gives_as : {X : Type 0} {levels least : ℕ} {p : Place} {x y : X} → y ≡ x → Outcome (λ m. Gives x) levels least p p (Ok y)
gives_as {p = p} {y = y} e = r.read y refl (g.gives p.at p.at y e refl)

-- a token says the tree
pub says : {A : Type 0} {says : Option TokenKind → Option A} {c : ℕ → Rule A} {levels least : ℕ} {p q : Place} {v w : A} → says (slice_get p.tokens p.at) ≡ Some v → w ≡ v → IsNext p q → Outcome (λ m. Reads says (λ n. Gives n) (c m)) levels least p q (Ok w)
says {p = p} {q = q} {v = v} {w = w} h e next = r.read w next.tokens (reads_made p.tokens p.at q.at q.at v w next.at h (g.gives q.at q.at w e refl))

-- ---- where it is stopped

-- at the place of a token that is not there
pub stops_here : {X : Type 0} {rule : ℕ → Rule X} {levels least : ℕ} {p q : Place} {stop : ParseStop} → stop ≡ s.Token p.at → ((us : List TokenKind) → Agree p.tokens us p.at → (m : ℕ) → Nowhere (rule m) us p.at) → Outcome rule levels least p q (Err stop)
stops_here {rule = rule} {levels = levels} {least = least} {p = p} {q = q} e nw = subst (λ x. Outcome rule levels least p q (Err x)) (sym e) (r.stopped (s.Token p.at) (r.at_token p.at (stays p.at) nw))

pub says_not : {A X : Type 0} {says : Option TokenKind → Option A} {a : ℕ → A → Rule X} {levels least : ℕ} {p q : Place} {stop : ParseStop} → says (slice_get p.tokens p.at) ≡ None → stop ≡ s.Token p.at → Outcome (λ m. Reads says (a m) Never) levels least p q (Err stop)
says_not {p = p} h e = stops_here e (λ us ag m. nowhere_reads_not p.tokens us p.at p.at ag (stays p.at) h (nowhere_never us p.at))

pub past_fails : {X : Type 0} {kind : TokenKind} {a : ℕ → Rule X} {levels least : ℕ} {p q : Place} {stop : ParseStop} → NotAt p.tokens p.at kind × (stop ≡ s.Token p.at) → Outcome (λ m. Past kind (a m)) levels least p q (Err stop)
past_fails {p = p} h = stops_here h.1 (λ us ag m. nowhere_past_none p.tokens us p.at p.at ag (stays p.at) h.0)

pub never_fails : {X : Type 0} {levels least : ℕ} {p q : Place} {stop : ParseStop} → stop ≡ s.Token p.at → Outcome {X = X} (λ m. Never) levels least p q (Err stop)
never_fails {p = p} e = stops_here e (λ us ag m. nowhere_never us p.at)

-- where its first part is
pub then_fails : {A X : Type 0} {a : ℕ → Rule A} {b : ℕ → A → Rule X} {levels least : ℕ} {p q : Place} {stop : ParseStop} → Outcome a levels least p q (Err stop) → Outcome (λ m. Then (a m) (b m)) levels least p q (Err stop)
then_fails {a = a} {b = b} {levels = levels} {least = least} {p = p} {stop = stop} (r.stopped x st) =
    r.stopped stop (stops_as (λ m. Then (a m) (b m)) a p.tokens levels least p.at p.at stop (stays p.at) (λ m us n h ag nw. nowhere_first us p.at nw) st)

-- for want of memory
pub no_memory : {X : Type 0} {rule : ℕ → Rule X} {levels least : ℕ} {p q : Place} {stop : ParseStop} → stop ≡ s.Memory → Outcome rule levels least p q (Err stop)
no_memory {rule = rule} {levels = levels} {least = least} {p = p} {q = q} e = subst (λ x. Outcome rule levels least p q (Err x)) (sym e) (r.stopped s.Memory r.for_memory)

-- ---- whether a token stands there

pub maybe : {kind : TokenKind} {p q : Place} (b : Bool) → Eats kind p q b → Given (Maybe kind) p q b
maybe true at levels least = if_on at gives
maybe false at levels least = misses_on at gives

-- what a token says is kept, if it says something
pub maybe_says : {A B X : Type 0} {says : Option TokenKind → Option B} {p q : Place} {levels least : ℕ} (meaning : A → B) (f : Option B → X) (o : Option A) → Takes says meaning p q o → Outcome (λ m. Reads says (λ b. Gives (f (Some b))) (Gives (f None))) levels least p q (Ok (f (option_map meaning o)))
maybe_says meaning f None at = reads_not_on at gives
maybe_says meaning f (Some a) at = reads_on at gives

-- ---- what a call answered

pub answers : {A X : Type 0} {rule : ℕ → Rule X} {levels least : ℕ} {p q : Place} {stop : ParseStop} (meaning : A → X) (result : Result A ParseStop) → result ≡ Err stop → Outcome rule levels least p q (Err stop) → Outcome rule levels least p q (viewed meaning result)
answers {rule = rule} {levels = levels} {least = least} {p = p} {q = q} meaning result e out = subst (λ x. Outcome rule levels least p q (viewed meaning x)) (sym e) out

-- from where the cursor stands
pub begins : {X : Type 0} {rule : ℕ → Rule X} {levels least : ℕ} {p q t : Place} {o : Result X ParseStop} → q ≡ p → Outcome rule levels least q t o → Outcome rule levels least p t o
begins {rule = rule} {levels = levels} {least = least} {t = t} {o = o} e out = subst (λ z. Outcome rule levels least z t o) e out
