-- Tokens that open a level: the rule behind one is within the levels below.
use Rattle.std.proofs.Common.{◌≡◌, ◌∙◌, refl, sym, ap, subst, ℕ, zero, suc, ◌+◌, ◌-◌, ◌≤◌, Bool, Option, Some, Result, Ok, Err, arith}
use Rattle.std.specs.Prelude.{slice_get}
use Rattle.definitions.specs.Token.{TokenKind, Mark, Plus, Minus}
use Rattle.definitions.specs.Rule.{Rule, At, Past, If, Reads}
use Rattle.definitions.specs.Grammar.{opens, sign_in}
use Rattle.syntax_cursor.specs.declared.stop.ParseStop.{ParseStop}
use Rattle.syntax_cursor.specs.declared.stop.ParseStop.TheVariants as s
use Rattle.syntax_cursor.specs.Reading.{Place, IsNext, Agree, Nowhere, Stops, Outcome, opened}
use Rattle.syntax_cursor.specs.Reading as r
use Rattle.syntax_cursor.proofs.Stopping.{opened_by, nowhere_past, nowhere_sees, nowhere_reads, stops_lower, past_made, reads_made}
use Rattle.syntax_cursor.proofs.Outcomes.{sees_on}

-- the rule of a field is that of the levels below, and within no levels reads nothing
pub inside : {X : Type 0} {field : ℕ → Rule X} {below : ℕ} {p q : Place} {o : Result X ParseStop} → ((us : _) (at : ℕ) → Nowhere (field zero) us at) → Outcome (λ m. field (suc m)) below below p q o → Outcome field (suc below) below p q o
inside {below = below} never (r.read x e d) = r.read x e d
inside {field = field} {below = below} {p = p} never (r.stopped stop st) =
    r.stopped stop (stops_lower field (λ m. field (suc m)) p.tokens below p.at stop (λ us n h ag. never us p.at) (λ m us n h ag nw. nw) st)

-- past a token that can open a level one more may be opened
raised : {X : Type 0} (whole part : ℕ → Rule X) (levels least : ℕ) (p q t : Place) (kind : TokenKind) (o : Result X ParseStop) → At p.tokens p.at kind → IsNext p q → opens kind ≡ 1
    → ((to : ℕ) (x : X) → part levels p.tokens q.at to x → whole levels p.tokens p.at to x)
    → ((m : ℕ) (us : _) (n : ℕ) → q.at ≤ n → Agree p.tokens us n → Nowhere (part m) us q.at → Nowhere (whole m) us p.at)
    → Outcome part levels least q t o → Outcome whole levels (suc least) p t o
raised whole part levels least p q t kind (Ok x) at next op reads needs (r.read y e d) = r.read x (e ∙ next.tokens) (reads t.at x (subst (λ ts. part levels ts q.at t.at x) next.tokens d))
raised whole part levels least p q t kind (Err stop) at next op reads needs (r.stopped s' st) =
    r.stopped stop (up stop (subst (λ ts. Stops part ts levels least q.at stop) next.tokens st))
  where
    up : (stop : ParseStop) → Stops part p.tokens levels least q.at stop → Stops whole p.tokens levels (suc least) p.at stop
    up (s.Token n) (r.at_token n' l nw) = r.at_token n (omega (arith, l, next.at)) (λ us ag m. needs m us n l ag (nw us ag m))
    up (s.Deep n) (r.too_deep n' k l y c nw) =
        let f : opened p.tokens q.at ≡ opened p.tokens (p.at + 1) = ap (opened p.tokens) next.at in
        let g = opened_by p.tokens p.at kind at op in
        r.too_deep n k (omega (arith, l, next.at)) y (omega (arith, c, f, g)) (λ us ag. needs levels us n l ag (nw us ag))
    up s.Memory r.for_memory = r.for_memory

within_one : {X : Type 0} {rule : ℕ → Rule X} {levels below : ℕ} {p t : Place} {o : Result X ParseStop} → levels ≡ suc below → Outcome rule (suc below) (suc below) p t o → Outcome rule levels levels p t o
within_one {rule = rule} {p = p} {t = t} {o = o} e out = subst (λ l. Outcome rule l l p t o) (sym e) out

pub opens_past : {X : Type 0} {levels below : ℕ} {p q t : Place} {o : Result X ParseStop} {kind : TokenKind} {a : ℕ → Rule X} → levels ≡ suc below → opens kind ≡ 1 → At p.tokens p.at kind × IsNext p q → Outcome a (suc below) below q t o → Outcome (λ m. Past kind (a m)) levels levels p t o
opens_past {below = below} {p = p} {q = q} {t = t} {o = o} {kind = kind} {a = a} e op at out =
    within_one e (raised (λ m. Past kind (a m)) a (suc below) below p q t kind o at.0 at.1 op (λ to x d. past_made p.tokens p.at q.at to x at.1.at at.0 d) (λ m us n h ag nw. nowhere_past us p.at q.at at.1.at nw) out)

pub opens_if : {X : Type 0} {levels below : ℕ} {p q t : Place} {o : Result X ParseStop} {kind : TokenKind} {a c : ℕ → Rule X} → levels ≡ suc below → opens kind ≡ 1 → At p.tokens p.at kind × IsNext p q → Outcome a (suc below) below q t o → Outcome (λ m. If kind (a m) (c m)) levels levels p t o
opens_if e op at out = sees_on at.0 (opens_past e op at out)

pub opens_reads : {A X : Type 0} {levels below : ℕ} {p q t : Place} {o : Result X ParseStop} {says : Option TokenKind → Option A} {v : A} {a : ℕ → A → Rule X} {c : ℕ → Rule X} (kind : TokenKind) → At p.tokens p.at kind → levels ≡ suc below → opens kind ≡ 1
    → (says (slice_get p.tokens p.at) ≡ Some v) × IsNext p q → Outcome (λ m. a m v) (suc below) below q t o → Outcome (λ m. Reads says (a m) (c m)) levels levels p t o
opens_reads {below = below} {p = p} {q = q} {t = t} {o = o} {says = says} {v = v} {a = a} {c = c} kind h e op at out =
    within_one e (raised (λ m. Reads says (a m) (c m)) (λ m. a m v) (suc below) below p q t kind o h at.1 op (λ to x d. reads_made p.tokens p.at q.at to v x at.1.at at.0 d)
    (λ m us n l ag nw. nowhere_reads p.tokens us n p.at q.at v at.1.at ag (omega (arith, l, at.1.at)) at.0 nw) out)

-- ---- where no level is left

before : (q p : ℕ) → q ≡ p + 1 → q - 1 ≡ p
before q p e = omega (arith, e)

too_deep : {X : Type 0} (rule : ℕ → Rule X) (levels : ℕ) (p q t : Place) (kind : TokenKind) (stop : ParseStop) → At p.tokens p.at kind → IsNext p q → opens kind ≡ 1 → (levels ≡ 0) × (stop ≡ s.Deep (q.at - 1))
    → ((us : _) → Agree p.tokens us p.at → Nowhere (rule zero) us p.at) → Outcome rule levels levels p t (Err stop)
too_deep rule levels p q t kind stop at next op z nothing =
    let e : stop ≡ s.Deep p.at = z.1 ∙ ap s.Deep (before q.at p.at next.at) in
    let g = opened_by p.tokens p.at kind at op in
    let deep : Outcome rule 0 0 p t (Err (s.Deep p.at)) = r.stopped (s.Deep p.at) (r.too_deep p.at kind (omega arith) at (omega (arith, g)) nothing) in
    subst (λ x. Outcome rule levels levels p t (Err x)) (sym e) (subst (λ l. Outcome rule l l p t (Err (s.Deep p.at))) (sym z.0) deep)

pub deep_past : {X : Type 0} {levels : ℕ} {p q t : Place} {stop : ParseStop} {kind : TokenKind} {a : ℕ → Rule X} → ((us : _) (at : ℕ) → Nowhere (a zero) us at) → opens kind ≡ 1 → At p.tokens p.at kind × IsNext p q → (levels ≡ 0) × (stop ≡ s.Deep (q.at - 1)) → Outcome (λ m. Past kind (a m)) levels levels p t (Err stop)
deep_past {levels = levels} {p = p} {q = q} {t = t} {stop = stop} {kind = kind} {a = a} never op at z =
    too_deep (λ m. Past kind (a m)) levels p q t kind stop at.0 at.1 op z (λ us ag. nowhere_past us p.at (p.at + 1) refl (never us (p.at + 1)))

pub deep_if : {X : Type 0} {levels : ℕ} {p q t : Place} {stop : ParseStop} {kind : TokenKind} {a c : ℕ → Rule X} → ((us : _) (at : ℕ) → Nowhere (a zero) us at) → opens kind ≡ 1 → At p.tokens p.at kind × IsNext p q → (levels ≡ 0) × (stop ≡ s.Deep (q.at - 1)) → Outcome (λ m. If kind (a m) (c m)) levels levels p t (Err stop)
deep_if {levels = levels} {p = p} {q = q} {t = t} {stop = stop} {kind = kind} {a = a} {c = c} never op at z =
    too_deep (λ m. If kind (a m) (c m)) levels p q t kind stop at.0 at.1 op z (λ us ag. nowhere_sees p.tokens us p.at p.at ag (omega arith) at.0 (nowhere_past us p.at (p.at + 1) refl (never us (p.at + 1))))

pub deep_reads : {A X : Type 0} {levels : ℕ} {p q t : Place} {stop : ParseStop} {says : Option TokenKind → Option A} {v : A} {a : ℕ → A → Rule X} {c : ℕ → Rule X} (kind : TokenKind) → At p.tokens p.at kind → ((us : _) (at : ℕ) → Nowhere (a zero v) us at) → opens kind ≡ 1
    → (says (slice_get p.tokens p.at) ≡ Some v) × IsNext p q → (levels ≡ 0) × (stop ≡ s.Deep (q.at - 1)) → Outcome (λ m. Reads says (a m) (c m)) levels levels p t (Err stop)
deep_reads {levels = levels} {p = p} {q = q} {t = t} {stop = stop} {says = says} {v = v} {a = a} {c = c} kind h never op at z =
    too_deep (λ m. Reads says (a m) (c m)) levels p q t kind stop h at.1 op z (λ us ag. nowhere_reads p.tokens us p.at p.at (p.at + 1) v refl ag (omega arith) at.0 (never us (p.at + 1)))

-- a sign opens a level
pub sign_opens : (o : Option TokenKind) (minus : Bool) → sign_in o ≡ Some minus → (kind : TokenKind) × (o ≡ Some kind) × (opens kind ≡ 1)
sign_opens (Some (Mark Plus)) minus e = (Mark Plus, refl, refl)
sign_opens (Some (Mark Minus)) minus e = (Mark Minus, refl, refl)
sign_opens _ minus e = absurd cc
