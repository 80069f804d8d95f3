-- Words that the definition of the line takes ask for something: each row that a walk over words makes has a value.
use Rattle.std.proofs.Common.{ℕ, ◌<◌, ◌≡◌, ◌∙◌, ◌⊎◌, refl, sym, subst, inl, inr, zero, suc, Bool, true, false, not, ◌&&◌, ◌||◌, List, [], ◌∷◌, ◌++◌, length, get_or, Option, Some, None, arith}
use Rattle.std.proofs.lemmas.Bool.{cases_Bool}
use Rattle.std.proofs.lemmas.List.{length-append}
use Rattle.std.specs.Prelude.{is_some, find, slice_get, fold}
use Rattle.std.specs.List.{AllByRecursion, list_all, list_any}
use Rattle.std.proofs.lemmas.Slice.Eq.{bytes_eq-Decides}
use Rattle.clap.specs.Facts.{explicit_source}
use Rattle.std.specs.Str.{bytes_eq}
use Rattle.clap.specs.declared.builder.action.ArgAction.{ArgAction}
use Rattle.clap.specs.declared.builder.action.ArgAction.TheVariants as act
use Rattle.clap.specs.Walk as w
use Rattle.clap.specs.Takes as t
use Rattle.clap.specs.Simple as s
use Rattle.clap.specs.Simple.{Shape, built}
use Rattle.std.specs.Prelude.{codes, min, ◌+◌}
use Rattle.clap.specs.declared.parser.matches.ValueSource.TheVariants.{CommandLine}
use Rattle.clap.specs.Simple.{subcommand_of}
use Rattle.clap.specs.declared.error.kind.ErrorKind.TheVariants.{InvalidValue}
use Rattle.programs.specs.CommandLine.{Form, Source, line, asked_in, run_of, run_in_form, script_of, is_on, check_of, form_asked, form_fault}
use Rattle.clap.specs.Walk.{Row, Rule, Text, Held, Walk, Outcome, Waiting, Names}

-- ---- rows with a value

-- the option that may be met without one
abbrev pub option_id : Text
option_id = codes "as"

-- what is found for an argument has a value, unless it is that option's
abbrev pub IsGood : Text → List Text → Type 0
IsGood id values = (bytes_eq id option_id ≡ true) ⊎ (0 < length values)

abbrev pub AreFull : List Row → Type 0
AreFull = AllByRecursion (λ (r : Row). IsGood r.id r.values)

abbrev pub IsPendingFull : Option (Text × List Text) → Type 0
IsPendingFull None = Unit {0}
IsPendingFull (Some p) = IsGood p.0 p.1

abbrev pub IsFull : Held → Type 0
IsFull h = AreFull h.rows × IsPendingFull h.pending

more_good : (id : Text) (values more : List Text) → IsGood id values → IsGood id (values ++ more)
more_good id values more (inl e) = inl e
more_good id values more (inr l) = inr (omega (arith, l, length-append values more))

append_full : (xs ys : List Row) → AreFull xs → AreFull ys → AreFull (xs ++ ys)
append_full [] ys h k = k
append_full (x ∷ xs) ys h k = (h.0, append_full xs ys h.1 k)

at_row_full : (id : Text) (change : Row → List Row) (missing rows : List Row) → ((r : Row) → IsGood r.id r.values → AreFull (change r)) → AreFull missing → AreFull rows → AreFull (w.at_row id change missing rows)
at_row_full id change missing [] f m h = m
at_row_full id change missing (r ∷ rs) f m h =
    elim (cases_Bool (bytes_eq r.id id)) [
      | inl e ↦ rw e (append_full (change r) rs (f r h.0) h.1)
      | inr e ↦ rw e (h.0, at_row_full id change missing rs f m h.1)
    ]

without_full : (id : Text) (rows : List Row) → AreFull rows → AreFull (w.without id rows)
without_full id rows h = at_row_full id (λ _. []) [] rows (λ r k. tt) tt h

with_values_full : (id : Text) (how : _) (source : _) (values : List Text) (rows : List Row) → IsGood id values → AreFull rows → AreFull (w.with_values id how source values rows)
with_values_full id how source values rows g h =
    at_row_full id (w.more_values source values) _ rows (λ r k. (more_good r.id r.values values k, tt)) (g, tt) h

with_count_full : (id : Text) (how : _) (source : _) (n : ℕ) (rows : List Row) → AreFull rows → AreFull (w.with_count id how source n rows)
with_count_full id how source n rows h =
    at_row_full id (w.new_count source n) _ rows (λ r k. (more_good r.id r.values _ k, tt)) (inr (omega arith), tt) h

counted_full : (id : Text) (how : _) (values : List Text) (rows : List Row) → IsGood id values → AreFull rows → AreFull (w.counted id how values rows)
counted_full id how [] rows g h = with_count_full id how CommandLine (min (w.count_of id rows + 1) 255) (w.without id rows) (without_full id rows h)
counted_full id how (v ∷ vs) rows g h = with_values_full id how _ (v ∷ vs) _ g (without_full id rows h)

used_as_full : (action : ArgAction) (id : Text) (how : _) (values : List Text) (rows : List Row) → IsGood id values → AreFull rows → AreFull (w.used_as action id how values rows)
used_as_full act.Set id how values rows g h = with_values_full id how _ values _ g (without_full id rows h)
used_as_full act.Append id how values rows g h = with_values_full id how _ values rows g h
used_as_full act.SetTrue id how values rows g h = with_values_full id how _ values _ g (without_full id rows h)
used_as_full act.SetFalse id how values rows g h = with_values_full id how _ values _ g (without_full id rows h)
used_as_full act.Count id how values rows g h = counted_full id how values rows g h
used_as_full _ id how values rows g h = h

good_or_missing : (a : Rule) (vs : List Text) → IsGood a.id vs → IsGood a.id (w.values_or_missing a vs)
good_or_missing a [] (inl e) = inl e
good_or_missing a [] (inr l) = absurd (omega (arith, l))
good_or_missing a (v ∷ vs) g = g

used_full : (a : Rule) (vs : List Text) (rows : List Row) → IsGood a.id vs → AreFull rows → AreFull (w.used a vs rows)
used_full a vs rows g h = used_as_full (w.action_of a) a.id (w.reading_by a) (w.values_or_missing a vs) rows (good_or_missing a vs g) h

abbrev pub IsOfId : Text → Option Rule → Type 0
IsOfId id None = Unit {0}
IsOfId id (Some a) = bytes_eq a.id id ≡ true

found_id : (c : List Rule) (id : Text) → IsOfId id (w.arg_by_id c id)
found_id [] id = tt
found_id (a ∷ c) id =
    elim (cases_Bool (bytes_eq a.id id)) [
      | inl e ↦ rw e e
      | inr e ↦ rw e (found_id c id)
    ]

by_id_full : (o : Option Rule) (id : Text) (vs : List Text) (rows : List Row) → IsOfId id o → IsGood id vs → AreFull rows → AreFull (w.used_by_id o vs rows)
by_id_full None id vs rows k g h = h
by_id_full (Some a) id vs rows k g h = used_full a vs rows (subst (λ x. IsGood x vs) (sym ((bytes_eq-Decides a.id id).0 k)) g) h

settled_rows_full : (c : List Rule) (p : Option (Text × List Text)) (rows : List Row) → IsPendingFull p → AreFull rows → AreFull (w.settled_rows c p rows)
settled_rows_full c None rows l h = h
settled_rows_full c (Some p) rows l h = by_id_full (w.arg_by_id c p.0) p.0 p.1 rows (found_id c p.0) l h

settled_full : (c : List Rule) (h : Held) → IsFull h → IsFull (w.settled c h)
settled_full c h k = (settled_rows_full c h.pending h.rows k.1 k.0, tt)

pushed_full : (id word : Text) (h : Held) → IsFull h → IsFull (w.pushed id word h)
pushed_full id word h k = (k.0, inr (omega (arith, length-append (w.started id h.pending).1 (word ∷ []))))

-- ---- words

-- an argument that takes no value, and has one to stand for it, or leaves no row
abbrev pub IsQuiet : Rule → Type 0
IsQuiet a = (w.takes_values a ≡ false) × ((0 < length a.missing) ⊎ ((rows : List Row) → w.used a [] rows ≡ rows))

quiet_used : (a : Rule) (rows : List Row) → (0 < length a.missing) ⊎ ((rows : List Row) → w.used a [] rows ≡ rows) → AreFull rows → AreFull (w.used a [] rows)
quiet_used a rows (inl l) h = used_as_full (w.action_of a) a.id (w.reading_by a) a.missing rows (inr l) h
quiet_used a rows (inr same) h = subst AreFull (sym (same rows)) h

-- the option that takes one
abbrev pub IsOption : Rule → Type 0
IsOption a = (w.takes_values a ≡ true) × (bytes_eq a.id option_id ≡ true)

abbrev pub IsMild : Rule → Type 0
IsMild a = IsQuiet a ⊎ IsOption a

-- all arguments without a place are so
abbrev pub AreMild : List Rule → Type 0
AreMild = AllByRecursion (λ (a : Rule). (is_some a.index ≡ true) ⊎ IsMild a)

abbrev pub IfMild : Option Rule → Type 0
IfMild None = Unit {0}
IfMild (Some a) = IsMild a

mild_or_placed : (a : Rule) (b : Bool) → (is_some a.index ≡ true) ⊎ IsMild a → (not (is_some a.index) && b) ≡ true → IsMild a
mild_or_placed a b (inl placed) e =
    let f : (not true && b) ≡ true = rw placed at e in
    absurd cc
mild_or_placed a b (inr mild) e = mild

found_mild : (test : Rule → Bool) (c : List Rule) → AreMild c → IfMild (find (λ a. not (is_some a.index) && test a) c)
found_mild test [] q = tt
found_mild test (a ∷ c) q =
    elim (cases_Bool (not (is_some a.index) && test a)) [
      | inl e ↦ rw e (mild_or_placed a (test a) q.0 e)
      | inr e ↦ rw e (found_mild test c q.1)
    ]

reacted_full : (c : List Rule) (a : Rule) (h : Held) → IsQuiet a → IsFull h → IsFull (w.reacted c a [] h)
reacted_full c a h q k = (quiet_used a (w.settled c h).rows q.1 (settled_full c h k).0, tt)

flag_met_full : (c : List Rule) (a : Rule) (v : Option Text) (h : Held) → IsQuiet a → IsFull h → IsFull (w.flag_met c a v h).0
flag_met_full c a (Some v) h q k = k
flag_met_full c a None h q k = reacted_full c a h q k

option_met_full : (c : List Rule) (a : Rule) (v : Option Text) (h : Held) → IsOption a → IsFull h → IsFull (w.option_met c a v h).0
option_met_full c a (Some v) h q k = (used_full a (v ∷ []) (w.settled c h).rows (inl q.1) (settled_full c h k).0, tt)
option_met_full c a None h q k = ((settled_full c h k).0, inl q.1)

long_met_full : (c : List Rule) (o : Option Rule) (v : Option Text) (h : Held) → IfMild o → IsFull h → IsFull (w.long_met c o v h).0
long_met_full c None v h q k = k
long_met_full c (Some a) v h (inl q) k = rw (q.0) (flag_met_full c a v h q k)
long_met_full c (Some a) v h (inr q) k = rw (q.0) (option_met_full c a v h q k)

option_word_full : (o : Option Rule) (id word : Text) (h : Held) → IsFull h → IsFull (w.option_word o id word h).0
option_word_full None id word h k = k
option_word_full (Some a) id word h k = pushed_full id word h k

plain_word_full : (c : List Rule) (waiting : Waiting) (word : Text) (h : Held) → IsFull h → IsFull (w.plain_word c waiting word h).0
plain_word_full c w.idle word h k = k
plain_word_full c (w.option id) word h k = option_word_full (w.arg_by_id c id) id word h k
plain_word_full c w.positional word h k = k

after_flag_full : (c : List Rule) (waiting : Waiting) (word : Text) (h : Held) (outcome : Outcome) → IsFull h → IsFull (w.after_flag c waiting word h outcome).0
after_flag_full c waiting word h w.done k = k
after_flag_full c waiting word h (w.waits id) k = k
after_flag_full c waiting word h w.plain k = plain_word_full c waiting word h k
after_flag_full c waiting word h w.refused k = plain_word_full c waiting word h k

abbrev Next : Type 0
Next = Text → ℕ → Outcome → Held → Held × Outcome

abbrev KeepsFull : Next → Type 0
KeepsFull next = (flags : Text) (skip : ℕ) (so_far : Outcome) (h : Held) → IsFull h → IsFull (next flags skip so_far h).0

short_met_full : (c : List Rule) (o : Option Rule) (rest : Text) (h : Held) (next : Held → Held × Outcome) → IfMild o → ((g : Held) → IsFull g → IsFull (next g).0) → IsFull h → IsFull (w.short_met c o rest h next).0
short_met_full c None rest h next q n k = k
short_met_full c (Some a) rest h next (inl q) n k = rw (q.0) (n (w.reacted c a [] h) (reacted_full c a h q k))
short_met_full c (Some a) rest h next (inr q) n k = rw (q.0) (option_met_full c a (w.attached_value rest) h q k)

bundle_step_full : (c : List Rule) (o : Option ℕ) (flags : Text) (skip : ℕ) (so_far : Outcome) (h : Held) (next : Next) → AreMild c → KeepsFull next → IsFull h → IsFull (w.bundle_step c o flags skip so_far h next).0
bundle_step_full c None flags skip so_far h next q n k = k
bundle_step_full c (Some x) flags zero so_far h next q n k = short_met_full c (w.arg_by_short c x) _ h _ (found_mild (λ a. w.has_short a x) c q) (λ g. n _ 0 w.done g) k
bundle_step_full c (Some x) flags (suc skip) so_far h next q n k = n _ skip so_far h k

bundle_met_full : (c : List Rule) (n : ℕ) → AreMild c → KeepsFull (w.bundle_met c n)
unfolding w.bundle_met
bundle_met_full c zero q flags skip so_far h k = k
bundle_met_full c (suc n) q flags skip so_far h k = bundle_step_full c _ flags skip so_far h (w.bundle_met c n) q (bundle_met_full c n q) k

short_word_full : (c : List Rule) (waiting : Waiting) (word flags : Text) (h : Held) → AreMild c → IsFull h → IsFull (w.short_word c waiting word flags h).0
short_word_full c waiting word flags h q k = after_flag_full c waiting word _ _ (bundle_met_full c (length flags) q flags h.skip w.plain (record h { skip = 0 }) k)

short_or_plain_full : (c : List Rule) (waiting : Waiting) (word : Text) (o : Option Text) (h : Held) → AreMild c → IsFull h → IsFull (w.short_or_plain c waiting word o h).0
short_or_plain_full c waiting word None h q k = plain_word_full c waiting word h k
short_or_plain_full c waiting word (Some flags) h q k = short_word_full c waiting word flags h q k

long_or_other_full : (c : List Rule) (waiting : Waiting) (word : Text) (o : Option (Text × Option Text)) (h : Held) → AreMild c → IsFull h → IsFull (w.long_or_other c waiting word o h).0
long_or_other_full c waiting word None h q k = short_or_plain_full c waiting word _ h q k
long_or_other_full c waiting word (Some p) h q k =
    after_flag_full c waiting word _ _ (long_met_full c (w.arg_by_long c p.0) p.1 h (found_mild (λ a. w.has_long a p.0) c q) k)

subcommand_or_other_full : (c : List Rule) (o : Option Text) (waiting : Waiting) (position : ℕ) (word : Text) (h : Held) → AreMild c → IsFull h → IsFull (w.subcommand_or_other c o waiting position word h).0
subcommand_or_other_full c (Some name) waiting position word h q k = k
subcommand_or_other_full c None waiting position word h q k =
    elim (cases_Bool (bytes_eq word (45 ∷ 45 ∷ []))) [
      | inl e ↦ rw e k
      | inr e ↦ rw e (long_or_other_full c waiting word _ h q k)
    ]

word_met_full : (c : List Rule) (names : Names) (is_trailing : Bool) (waiting : Waiting) (position : ℕ) (word : Text) (h : Held) → AreMild c → IsFull h → IsFull (w.word_met c names is_trailing waiting position word h).0
word_met_full c names true waiting position word h q k = k
word_met_full c names false waiting position word h q k = subcommand_or_other_full c _ waiting position word h q k

-- ---- the walk

to_positional_full : (c : List Rule) (o : Option Rule) (word : Text) (walk : Walk) (h : Held) → IsFull h → IsFull (w.to_positional c o word walk h).held
to_positional_full c None word walk h k = k
to_positional_full c (Some a) word walk h k =
    elim (cases_Bool (w.is_pending a h.pending && w.takes_several a)) [
      | inl e ↦ rw e (pushed_full a.id word h k)
      | inr e ↦ rw e (pushed_full a.id word (w.settled c h) (settled_full c h k))
    ]

after_step_full : (c : List Rule) (word : Text) (walk : Walk) (h : Held) (step : w.Step) → IsFull h → IsFull (w.after_step c word walk h step).held
after_step_full c word walk h (w.next waiting) k = k
after_step_full c word walk h (w.trailing position) k = k
after_step_full c word walk h (w.subcommand name) k = k
after_step_full c word walk h w.value k = to_positional_full c _ word walk h k

walked_from_full : (c : List Rule) (names : Names) (stop : Option (Text × List Text)) (walk : Walk) (word : Text) → AreMild c → IsFull walk.held → IsFull (w.walked_from c names stop walk word).held
walked_from_full c names (Some p) walk word q k = k
walked_from_full c names None walk word q k =
    after_step_full c word walk _ _ (word_met_full c names walk.is_trailing walk.waiting walk.position word walk.held q k)

walk_full : (c : List Rule) (names : Names) (walk : Walk) (words : List Text) → AreMild c → IsFull walk.held → IsFull (fold (w.walked c names) walk words).held
unfolding w.walked
walk_full c names walk [] q k = k
walk_full c names walk (word ∷ words) q k = walk_full c names (w.walked c names walk word) words q (walked_from_full c names walk.stopped walk word q k)

default_rows_full : (id : Text) (how : _) (values : List Text) (rows : List Row) → AreFull rows → AreFull (w.default_rows id how values rows)
default_rows_full id how [] rows h = h
default_rows_full id how (v ∷ vs) rows h = with_values_full id how _ (v ∷ vs) rows (inr (omega arith)) h

with_default_full : (rows : List Row) (a : Rule) → AreFull rows → AreFull (w.with_default rows a)
with_default_full rows a h =
    elim (cases_Bool (w.has_row a.id rows)) [
      | inl e ↦ rw e h
      | inr e ↦ rw e (default_rows_full a.id (w.reading_by a) a.defaults rows h)
    ]

defaults_full : (c : List Rule) (rows : List Row) → AreFull rows → AreFull (fold w.with_default rows c)
defaults_full [] rows h = h
defaults_full (a ∷ c) rows h = defaults_full c (w.with_default rows a) (with_default_full rows a h)

rows_full : (c : List Rule) (names : Names) (words : List Text) → AreMild c → AreFull (w.rows_after c names words)
rows_full c names words q =
    let h : IsFull (w.walk c names w.nothing_held words).held = walk_full c names (w.walk_from w.nothing_held) words q (tt, tt) in
    defaults_full c _ (settled_full c (w.walk c names w.nothing_held words).held h).0

-- ---- the subcommand is not the one for help

abbrev pub IsNoHelp : Option (Text × List Text) → Type 0
IsNoHelp None = Unit {0}
IsNoHelp (Some p) = bytes_eq p.0 (codes "help") ≡ false

abbrev pub StepsNoHelp : w.Step → Type 0
StepsNoHelp (w.subcommand name) = bytes_eq name (codes "help") ≡ false
StepsNoHelp _ = Unit {0}

both : (a b : Bool) → (a && b) ≡ true → (a ≡ true) × (b ≡ true)
both true b e = (refl, e)
both false b e = absurd cc

plain_word_steps : (c : List Rule) (waiting : Waiting) (word : Text) (h : Held) → StepsNoHelp (w.plain_word c waiting word h).1
plain_word_steps c w.idle word h = tt
plain_word_steps c (w.option id) word h = tt
plain_word_steps c w.positional word h = tt

after_flag_steps : (c : List Rule) (waiting : Waiting) (word : Text) (h : Held) (outcome : Outcome) → StepsNoHelp (w.after_flag c waiting word h outcome).1
after_flag_steps c waiting word h w.done = tt
after_flag_steps c waiting word h (w.waits id) = tt
after_flag_steps c waiting word h w.plain = plain_word_steps c waiting word h
after_flag_steps c waiting word h w.refused = plain_word_steps c waiting word h

short_or_plain_steps : (c : List Rule) (waiting : Waiting) (word : Text) (o : Option Text) (h : Held) → StepsNoHelp (w.short_or_plain c waiting word o h).1
short_or_plain_steps c waiting word None h = plain_word_steps c waiting word h
short_or_plain_steps c waiting word (Some flags) h = after_flag_steps c waiting word _ _

long_or_other_steps : (c : List Rule) (waiting : Waiting) (word : Text) (o : Option (Text × Option Text)) (h : Held) → StepsNoHelp (w.long_or_other c waiting word o h).1
long_or_other_steps c waiting word None h = short_or_plain_steps c waiting word _ h
long_or_other_steps c waiting word (Some p) h = after_flag_steps c waiting word _ _

is_no_help : (b : Bool) → (not b || false) ≡ true → b ≡ false
is_no_help true e = absurd cc
is_no_help false e = refl

subcommand_or_other_steps : (sh : Shape) (o : Option Text) (waiting : Waiting) (position : ℕ) (word : Text) (h : Held) → sh.disable_help_subcommand ≡ false → t.other_passes sh o word h ≡ true
    → StepsNoHelp (w.subcommand_or_other sh.rules o waiting position word h).1
subcommand_or_other_steps sh (Some name) waiting position word h d e = is_no_help (bytes_eq name (codes "help")) (rw d at e)
subcommand_or_other_steps sh None waiting position word h d e =
    elim (cases_Bool (bytes_eq word (45 ∷ 45 ∷ []))) [
      | inl k ↦ rw k tt
      | inr k ↦ rw k (long_or_other_steps sh.rules waiting word _ h)
    ]

word_met_steps : (sh : Shape) (names : Names) (is_trailing : Bool) (waiting : Waiting) (position : ℕ) (word : Text) (h : Held) → sh.disable_help_subcommand ≡ false → t.word_passes sh names is_trailing waiting word h ≡ true
    → StepsNoHelp (w.word_met sh.rules names is_trailing waiting position word h).1
word_met_steps sh names true waiting position word h d e = tt
word_met_steps sh names false waiting position word h d e = subcommand_or_other_steps sh _ waiting position word h d e

to_positional_stop : (c : List Rule) (o : Option Rule) (word : Text) (walk : Walk) (h : Held) → walk.stopped ≡ None → IsNoHelp (w.to_positional c o word walk h).stopped
to_positional_stop c None word walk h e = subst IsNoHelp (sym e) tt
to_positional_stop c (Some a) word walk h e = tt

after_step_stop : (c : List Rule) (word : Text) (walk : Walk) (h : Held) (step : w.Step) → walk.stopped ≡ None → StepsNoHelp step → IsNoHelp (w.after_step c word walk h step).stopped
after_step_stop c word walk h (w.next waiting) e k = subst IsNoHelp (sym e) tt
after_step_stop c word walk h (w.trailing position) e k = subst IsNoHelp (sym e) tt
after_step_stop c word walk h (w.subcommand name) e k = k
after_step_stop c word walk h w.value e k = to_positional_stop c _ word walk h e

walked_stop : (sh : Shape) (names : Names) (walk : Walk) (word : Text) (stop : Option (Text × List Text)) → walk.stopped ≡ stop → sh.disable_help_subcommand ≡ false → t.turn_passes sh names walk word ≡ true → IsNoHelp stop
    → IsNoHelp (w.walked_from sh.rules names stop walk word).stopped
walked_stop sh names walk word (Some p) e d passes k = k
walked_stop sh names walk word None e d passes k =
    let turn : (t.word_passes sh names walk.is_trailing walk.waiting word walk.held && t.step_passes sh walk.position (w.word_met sh.rules names walk.is_trailing walk.waiting walk.position word walk.held).0 (w.word_met sh.rules names walk.is_trailing walk.waiting walk.position word walk.held).1) ≡ true = rw e at passes in
    after_step_stop sh.rules word walk _ _ e (word_met_steps sh names walk.is_trailing walk.waiting walk.position word walk.held d (both _ _ turn).0)

walk_stop : (sh : Shape) (names : Names) (walk : Walk) (words : List Text) → sh.disable_help_subcommand ≡ false → t.walk_passes sh names walk words ≡ true → IsNoHelp walk.stopped → IsNoHelp (fold (w.walked sh.rules names) walk words).stopped
unfolding w.walked t.walk_passes
walk_stop sh names walk [] d e k = k
walk_stop sh names walk (word ∷ words) d e k =
    let p = both (t.turn_passes sh names walk word) _ e in
    walk_stop sh names (w.walked sh.rules names walk word) words d p.1 (walked_stop sh names walk word walk.stopped refl d p.0 k)

-- ---- what is asked

true_is_not_false : true ≡ false → ⊥
true_is_not_false e = cc

first_there : (values : List Text) → 0 < length values → is_some (slice_get values 0) ≡ true
first_there [] l = absurd (omega (arith, l))
first_there (v ∷ vs) l = refl

good_values : (id : Text) (values : List Text) → bytes_eq id option_id ≡ false → IsGood id values → 0 < length values
good_values id values other (inl e) = absurd (true_is_not_false (sym e ∙ other))
good_values id values other (inr l) = l

given_first : (id : Text) (rows : List Row) → bytes_eq id option_id ≡ false → AreFull rows → t.is_given id rows ≡ true → is_some (w.first_of id rows) ≡ true
given_first id [] other h e = absurd cc
given_first id (r ∷ rs) other h e =
    elim (cases_Bool (bytes_eq r.id id)) [
      | inl k ↦
          let good : IsGood id r.values = subst (λ x. IsGood x r.values) ((bytes_eq-Decides r.id id).0 k) h.0 in
          rw k (first_there r.values (good_values id r.values other good))
      | inr k ↦ rw k (given_first id rs other h.1 (rw k at e))
    ]

abbrev run_shape : Shape
run_shape = get_or (built line).subs 0 line.top

abbrev check_shape : Shape
check_shape = get_or (built line).subs 1 line.top

abbrev help_shape : Shape
help_shape = get_or (built line).subs 2 line.top

is_one : 0 < 1
is_one = omega arith

run_mild : AreMild run_shape.rules
run_mild = (
  inl refl,
  (
    inr (inl (refl, inl is_one)),
    (
      inr (inl (refl, inl is_one)),
      (
        inr (inl (refl, inl is_one)),
        (
          inr (inr (refl, refl)),
          (inr (inl (refl, inr (λ rows. refl))), tt),
        ),
      ),
    ),
  ),
)

-- what a level that passes has passed
level_walks : (sh : Shape) (names : Names) (h : Held) (words : List Text) (has : Bool) → t.level_passes sh names h words has ≡ true → t.walk_passes sh names (w.walk_from h) words ≡ true
level_walks sh names h words has e = (both (t.walk_passes sh names (w.walk_from h) words) _ e).0

level_valid : (sh : Shape) (names : Names) (h : Held) (words : List Text) (has : Bool) → t.level_passes sh names h words has ≡ true → t.is_valid sh (w.finished sh.rules (w.walk sh.rules names h words).held) has ≡ true
level_valid sh names h words has e =
    let a = (both (t.walk_passes sh names (w.walk_from h) words) _ e).1 in
    let b = (both (t.settle_passes sh.rules sh.args_override_self (w.walk sh.rules names h words).held) _ a).1 in
    (both (list_all t.default_passes sh.rules) _ b).1

valid_has : (sh : Shape) (rows : List Row) (has : Bool) → t.is_valid sh rows has ≡ true → (not sh.subcommand_required || has) ≡ true
valid_has sh rows has e =
    let a = (both (not sh.arg_required_else_help || (has || list_any (λ (r : Row). explicit_source r.source) rows)) _ e).1 in
    (both (not sh.subcommand_required || has) _ a).0

valid_required : (sh : Shape) (rows : List Row) (has : Bool) → t.is_valid sh rows has ≡ true → ((sh.subcommand_negates_reqs && has) || list_all (λ (a : Rule). not a.required || t.is_given a.id rows) sh.rules) ≡ true
valid_required sh rows has e =
    let a = (both (not sh.arg_required_else_help || (has || list_any (λ (r : Row). explicit_source r.source) rows)) _ e).1 in
    let b = (both (not sh.subcommand_required || has) _ a).1 in
    (both (list_all (λ (a : Rule). a.is_free) sh.rules) _ b).1

-- words ask for something, or for a form that there isn't
abbrev pub AskOrFail : Option (Text × List Row) → Type 0
AskOrFail sub = (is_some (asked_in sub) ≡ true) ⊎ (form_fault sub ≡ InvalidValue ∷ [])

formed_some : (script : Source) (stops is_timed : Bool) (form : Option (Option Form)) → is_some form ≡ true → is_some (run_in_form script stops is_timed form) ≡ true
formed_some script stops is_timed None e = e
formed_some script stops is_timed (Some form) e = refl

run_some : (script text stop timing form : Option Text) → is_some script ≡ true → is_some (form_asked form) ≡ true → is_some (run_of script text stop timing form) ≡ true
run_some None text stop timing form e k = e
run_some (Some script) text stop timing form e k = formed_some (script_of (is_on text) script) (is_on stop) (is_on timing) (form_asked form) k

check_some : (script certificates : Option Text) → is_some script ≡ true → is_some certificates ≡ true → is_some (check_of script certificates) ≡ true
check_some None certificates e k = e
check_some (Some script) None e k = k
check_some (Some script) (Some certificates) e k = refl

run_asks : (words : List Text) → t.level_passes run_shape [] w.nothing_held words false ≡ true → AskOrFail (Some (s.rows_at run_shape words))
run_asks words e =
    let rows = w.rows_after run_shape.rules [] words in
    let required = valid_required run_shape rows false (level_valid run_shape [] w.nothing_held words false e) in
    let full = rows_full run_shape.rules [] words run_mild in
    let script = given_first (codes "SCRIPT") rows refl full (both (t.is_given (codes "SCRIPT") rows) _ required).0 in
    elim (cases_Bool (is_some (form_asked (w.first_of (codes "as") rows)))) [
      | inl k ↦ inl (run_some _ (w.first_of (codes "text") rows) (w.first_of (codes "stop") rows) (w.first_of (codes "timing") rows) _ script k)
      | inr k ↦ inr (rw k refl)
    ]

check_asks : (words : List Text) → t.level_passes check_shape [] w.nothing_held words false ≡ true
    → is_some (check_of (w.first_of (codes "SCRIPT") (w.rows_after check_shape.rules [] words)) (w.first_of (codes "CERTIFICATES") (w.rows_after check_shape.rules [] words))) ≡ true
check_asks words e =
    let rows = w.rows_after check_shape.rules [] words in
    let required = valid_required check_shape rows false (level_valid check_shape [] w.nothing_held words false e) in
    let full = rows_full check_shape.rules [] words (inl refl, (inl refl, (inr (inl (refl, inr (λ rows. refl))), tt))) in
    let script = both (t.is_given (codes "SCRIPT") rows) _ required in
    let certificates = both (t.is_given (codes "CERTIFICATES") rows) _ script.1 in
    check_some _ _ (given_first (codes "SCRIPT") rows refl full script.0) (given_first (codes "CERTIFICATES") rows refl full certificates.0)

no_help_name : (name : Text) → bytes_eq name (codes "help") ≡ false → w.answers_to name (s.label_of help_shape) ≡ true → ⊥
no_help_name name n e =
    elim (cases_Bool (bytes_eq (codes "help") name)) [
      | inl k ↦
          let same : codes "help" ≡ name = (bytes_eq-Decides (codes "help") name).0 k in
          let yes : bytes_eq name (codes "help") ≡ true = (bytes_eq-Decides name (codes "help")).1 (sym same) in
          true_is_not_false (sym yes ∙ n)
      | inr k ↦
          let no' : false ≡ true = rw k at e in
          true_is_not_false (sym no')
    ]

entered_asks : (stop : Option (Text × List Text)) → IsNoHelp stop → t.entered_passes (built line) stop ≡ true → is_some (s.entered (built line) stop) ≡ true → AskOrFail (s.entered (built line) stop)
entered_asks None n e k = absurd (true_is_not_false (sym k))
entered_asks (Some p) n e k =
    elim (cases_Bool (w.answers_to p.0 (s.label_of run_shape))) [
      | inl r ↦ rw r (run_asks p.1 (rw r at e))
      | inr r ↦
          elim (cases_Bool (w.answers_to p.0 (s.label_of check_shape))) [
            | inl c ↦ rw (r, c) (inl (check_asks p.1 (rw (r, c) at e)))
            | inr c ↦
                elim (cases_Bool (w.answers_to p.0 (s.label_of help_shape))) [
                  | inl h ↦ absurd (no_help_name p.0 n h)
                  | inr h ↦
                      let none : false ≡ true = rw (r, c, h) at k in
                      absurd (true_is_not_false (sym none))
                ]
          ]
    ]

-- words that are taken ask for something, or for a form that there isn't
pub taken_asks : (words : List Text) → t.takes line words ≡ true → AskOrFail (subcommand_of line words)
taken_asks words e =
    let top = (built line).top in
    let names = s.names_of (built line) in
    let rest = s.argument_words line words in
    let stop = (w.walk top.rules names w.nothing_held rest).stopped in
    let has = is_some (s.entered (built line) stop) in
    let taken = (both (s.is_simple line) _ e).1 in
    let level = (both (t.entered_passes (built line) stop) _ taken).1 in
    let required = valid_has top (w.finished top.rules (w.walk top.rules names w.nothing_held rest).held) has (level_valid top names w.nothing_held rest has level) in
    entered_asks stop (walk_stop top names (w.walk_from w.nothing_held) rest refl (level_walks top names w.nothing_held rest has level) tt) (both (t.entered_passes (built line) stop) _ taken).0 required
