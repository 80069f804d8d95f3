-- Words at which no fault comes are taken.
use Rattle.std.proofs.Common.{ℕ, ◌≡◌, refl, zero, suc, Bool, true, false, not, ◌&&◌, ◌||◌, List, [], ◌∷◌, length, drop, Option, Some, None, inl, inr, arith, codes}
use Rattle.std.proofs.lemmas.Bool.{cases_Bool}
use Rattle.std.proofs.lemmas.Bool.Decides.{nat_tests}
use Rattle.std.specs.Prelude.{if◌then◌else◌, is_some, find, slice_get, nat_le, encode_utf8}
use Rattle.std.specs.List.{list_all, list_any}
use Rattle.std.specs.Option.{option_map_or}
use Rattle.std.specs.Str.{bytes_eq, chars}
use Rattle.clap.specs.Facts.{parser_of_value, unwrap_or_range}
use Rattle.clap.specs.ValueTests.{accepts}
use Rattle.clap.specs.Values.{refused_kind}
use Rattle.clap.specs.Lexer.{short_of, long_of}
use Rattle.clap.specs.declared.builder.value_parser.ValueParser.{ValueParser}
use Rattle.clap.specs.declared.builder.action.ArgAction.{ArgAction}
use Rattle.clap.specs.declared.builder.action.ArgAction.TheVariants as act
use Rattle.clap.specs.declared.error.kind.ErrorKind.TheVariants as kind
use Rattle.clap.specs.Walk as w
use Rattle.clap.specs.Takes as t
use Rattle.clap.specs.Faults as f
use Rattle.clap.specs.Kinds as k
use Rattle.clap.specs.Simple as s
use Rattle.clap.specs.Simple.{App, Shape, built}
use Rattle.clap.specs.Walk.{Row, Rule, Text, Held, Walk, Waiting, Names}
use Rattle.clap.specs.Kinds.{Kinds, or_else}

-- ---- kinds and tests

both_none : (a b : Kinds) → or_else a b ≡ [] → (a ≡ []) × (b ≡ [])
both_none [] b e = (refl, e)
both_none (x ∷ xs) b e = absurd cc

both_pass : (a b : Bool) → a ≡ true → b ≡ true → (a && b) ≡ true
both_pass a b e g = rw e g

and_parts : (a b : Bool) → (a && b) ≡ true → (a ≡ true) × (b ≡ true)
and_parts true b e = (refl, e)
and_parts false b e = absurd cc

-- ---- one use of an argument

value_passes : (i : Bool) (p : ValueParser) (v : Text) → k.value_kinds i p v ≡ [] → accepts i p v ≡ true
value_passes i p v e =
    elim (cases_Bool (accepts i p v)) [
      | inl a ↦ a
      | inr a ↦
          let bad : refused_kind p ∷ [] ≡ [] = rw a at e in
          absurd cc
    ]

values_pass : (i : Bool) (p : ValueParser) (vs : List Text) → k.values_kinds i p vs ≡ [] → list_all (accepts i p) vs ≡ true
values_pass i p [] e = refl
values_pass i p (v ∷ vs) e =
    let parts = both_none (k.value_kinds i p v) _ e in
    both_pass _ _ (value_passes i p v parts.0) (values_pass i p vs parts.1)

rule_passes : (a : Rule) (vs : List Text) → f.values_fault a vs ≡ [] → t.values_pass a vs ≡ true
rule_passes a vs e = values_pass a.ignore_case (parser_of_value a.parser) vs e

count_passes : (a : Rule) (vs : List Text) (rows : List Row) → f.count_fault a vs rows ≡ [] → t.count_passes a vs rows ≡ true
count_passes a [] rows e = value_passes a.ignore_case (parser_of_value a.parser) _ e
count_passes a (v ∷ vs) rows e = rule_passes a (v ∷ vs) e

repeat_passes : (has again : Bool) → (if has && not again then kind.ArgumentConflict ∷ [] else []) ≡ [] → (not has || again) ≡ true
repeat_passes true true e = refl
repeat_passes true false e = absurd cc
repeat_passes false again e = refl

set_passes : (again : Bool) (a : Rule) (vs : List Text) (rows : List Row) → f.set_fault again a vs rows ≡ [] → t.set_passes again a vs rows ≡ true
set_passes again a vs rows e =
    let parts = both_none (f.repeat_fault again a.id rows) _ e in
    both_pass _ _ (repeat_passes (w.has_row a.id rows) again parts.0) (rule_passes a vs parts.1)

action_passes : (x : ArgAction) (again : Bool) (a : Rule) (vs : List Text) (rows : List Row) → f.action_fault x again a vs rows ≡ [] → t.action_passes x again a vs rows ≡ true
action_passes act.Set again a vs rows e = set_passes again a vs rows e
action_passes act.SetTrue again a vs rows e = set_passes again a vs rows e
action_passes act.SetFalse again a vs rows e = set_passes again a vs rows e
action_passes act.Append again a vs rows e = rule_passes a vs e
action_passes act.Count again a vs rows e = count_passes a vs rows e
action_passes act.Help again a vs rows e = absurd cc
action_passes act.HelpShort again a vs rows e = absurd cc
action_passes act.HelpLong again a vs rows e = absurd cc
action_passes act.Version again a vs rows e = absurd cc

range_passes : (least most n : ℕ) → k.range_kinds least most n ≡ [] → (nat_le least n ≡ true) × (nat_le n most ≡ true)
range_passes least most n e = grind (arith, nat_tests)

use_passes : (again : Bool) (a : Rule) (vs : List Text) (rows : List Row) → f.use_fault again a vs rows ≡ [] → t.use_passes again a vs rows ≡ true
use_passes again a vs rows e =
    let parts = both_none (k.range_kinds (unwrap_or_range a.range).start_inclusive (w.most_values a) (length vs)) _ e in
    let range = range_passes (unwrap_or_range a.range).start_inclusive (w.most_values a) (length vs) parts.0 in
    both_pass _ _ range.0 (both_pass _ _ range.1 (action_passes (w.action_of a) again a (w.values_or_missing a vs) rows parts.1))

-- ---- the walk

settle_found : (again : Bool) (o : Option Rule) (vs : List Text) (rows : List Row) → option_map_or (λ a. f.use_fault again a vs rows) o [] ≡ [] → option_map_or (λ a. t.use_passes again a vs rows) o true ≡ true
settle_found again None vs rows e = refl
settle_found again (Some a) vs rows e = use_passes again a vs rows e

settle_pending : (c : List Rule) (again : Bool) (o : Option (Text × List Text)) (rows : List Row)
    → option_map_or (λ p. option_map_or (λ a. f.use_fault again a p.1 rows) (w.arg_by_id c p.0) []) o [] ≡ [] → option_map_or (λ p. option_map_or (λ a. t.use_passes again a p.1 rows) (w.arg_by_id c p.0) true) o true ≡ true
settle_pending c again None rows e = refl
settle_pending c again (Some p) rows e = settle_found again (w.arg_by_id c p.0) p.1 rows e

settle_passes : (c : List Rule) (again : Bool) (h : Held) → f.settle_fault c again h ≡ [] → t.settle_passes c again h ≡ true
settle_passes c again h e = settle_pending c again h.pending h.rows e

react_passes : (c : List Rule) (again : Bool) (a : Rule) (vs : List Text) (h : Held) → f.react_fault c again a vs h ≡ [] → t.react_passes c again a vs h ≡ true
react_passes c again a vs h e =
    let parts = both_none (f.settle_fault c again h) _ e in
    both_pass _ _ (settle_passes c again h parts.0) (use_passes again a vs (w.settled c h).rows parts.1)

option_passes : (c : List Rule) (again : Bool) (a : Rule) (v : Option Text) (h : Held) → f.option_fault c again a v h ≡ [] → t.option_passes c again a v h ≡ true
option_passes c again a (Some v) h e = react_passes c again a (v ∷ []) h e
option_passes c again a None h e = settle_passes c again h e

flag_passes : (c : List Rule) (again : Bool) (a : Rule) (v : Option Text) (h : Held) → (if is_some v then kind.TooManyValues ∷ [] else f.react_fault c again a [] h) ≡ [] → (not (is_some v) && t.react_passes c again a [] h) ≡ true
flag_passes c again a (Some v) h e = absurd cc
flag_passes c again a None h e = react_passes c again a [] h e

long_passes : (c : List Rule) (again : Bool) (o : Option Rule) (v : Option Text) (h : Held) → f.long_fault c again o v h ≡ [] → t.long_passes c again o v h ≡ true
long_passes c again None v h e = absurd cc
long_passes c again (Some a) v h e =
    elim (cases_Bool (w.takes_values a)) [
      | inl b ↦ rw b (option_passes c again a v h (rw b at e))
      | inr b ↦ rw b (flag_passes c again a v h (rw b at e))
    ]

short_passes : (c : List Rule) (again : Bool) (o : Option Rule) (rest : Text) (h : Held) (fails : Held → Kinds) (passes : Held → Bool) → ((g : Held) → fails g ≡ [] → passes g ≡ true)
    → f.short_fault c again o rest h fails ≡ [] → t.short_passes c again o rest h passes ≡ true
short_passes c again None rest h fails passes next e = absurd cc
short_passes c again (Some a) rest h fails passes next e =
    elim (cases_Bool (w.takes_values a)) [
      | inl b ↦ rw b (option_passes c again a (w.attached_value rest) h (rw b at e))
      | inr b ↦
          let flag : or_else (f.react_fault c again a [] h) (fails (w.reacted c a [] h)) ≡ [] = rw b at e in
          let parts = both_none (f.react_fault c again a [] h) _ flag in
          rw b (both_pass _ _ (react_passes c again a [] h parts.0) (next (w.reacted c a [] h) parts.1))
    ]

abbrev Fails : Type 0
Fails = Text → ℕ → Held → Kinds

abbrev Passes : Type 0
Passes = Text → ℕ → Held → Bool

bundle_step_passes : (c : List Rule) (again : Bool) (o : Option ℕ) (flags : Text) (skip : ℕ) (h : Held) (fails : Fails) (passes : Passes) → ((g : Text) (n : ℕ) (x : Held) → fails g n x ≡ [] → passes g n x ≡ true)
    → f.bundle_step_fault c again o flags skip h fails ≡ [] → t.bundle_step_passes c again o flags skip h passes ≡ true
bundle_step_passes c again None flags skip h fails passes next e = refl
bundle_step_passes c again (Some x) flags zero h fails passes next e =
    let rest = drop (length (encode_utf8 x)) flags in
    short_passes c again (w.arg_by_short c x) rest h (fails rest 0) (passes rest 0) (next rest 0) e
bundle_step_passes c again (Some x) flags (suc skip) h fails passes next e = next _ skip h e

flags_pass : (c : List Rule) (again : Bool) (n : ℕ) (flags : Text) (skip : ℕ) (h : Held) → f.flags_fault c again n flags skip h ≡ [] → t.flags_pass c again n flags skip h ≡ true
unfolding f.flags_fault t.flags_pass
flags_pass c again zero flags skip h e = refl
flags_pass c again (suc n) flags skip h e = bundle_step_passes c again (slice_get (chars flags) 0) flags skip h (f.flags_fault c again n) (t.flags_pass c again n) (flags_pass c again n) e

bundle_passes : (c : List Rule) (again : Bool) (o : Option Text) (h : Held) → option_map_or (λ flags. f.bundle_fault c again flags h) o [] ≡ [] → option_map_or (λ flags. t.bundle_passes c again flags h) o true ≡ true
bundle_passes c again None h e = refl
bundle_passes c again (Some flags) h e = flags_pass c again (length flags) flags h.skip (record h { skip = 0 }) e

flag_word_passes : (c : List Rule) (again : Bool) (o : Option (Text × Option Text)) (word : Text) (h : Held) → f.flag_word_fault c again o word h ≡ [] → t.flag_word_passes c again o word h ≡ true
flag_word_passes c again (Some p) word h e = long_passes c again (w.arg_by_long c p.0) p.1 h e
flag_word_passes c again None word h e = bundle_passes c again (short_of word) h e

help_passes : (is off : Bool) → (if is && not off then kind.DisplayHelp ∷ kind.InvalidSubcommand ∷ [] else []) ≡ [] → (not is || off) ≡ true
help_passes true true e = refl
help_passes true false e = absurd cc
help_passes false off e = refl

other_passes : (sh : Shape) (o : Option Text) (word : Text) (h : Held) → f.other_fault sh o word h ≡ [] → t.other_passes sh o word h ≡ true
other_passes sh (Some name) word h e = help_passes (bytes_eq name (codes "help")) sh.disable_help_subcommand e
other_passes sh None word h e =
    elim (cases_Bool (bytes_eq word (45 ∷ 45 ∷ []))) [
      | inl b ↦ rw b refl
      | inr b ↦ rw b (flag_word_passes sh.rules sh.args_override_self (long_of word) word h (rw b at e))
    ]

word_passes : (sh : Shape) (names : Names) (is_trailing : Bool) (waiting : Waiting) (word : Text) (h : Held) → f.word_fault sh names is_trailing waiting word h ≡ [] → t.word_passes sh names is_trailing waiting word h ≡ true
word_passes sh names true waiting word h e = refl
word_passes sh names false waiting word h e = other_passes sh (w.subcommand_met names waiting word) word h e

positional_passes : (c : List Rule) (again : Bool) (a : Rule) (h : Held) → f.positional_fault c again a h ≡ [] → t.positional_passes c again a h ≡ true
positional_passes c again a h e =
    elim (cases_Bool (w.is_pending a h.pending && w.takes_several a)) [
      | inl b ↦ rw b refl
      | inr b ↦ rw b (settle_passes c again h (rw b at e))
    ]

stray_fails : (sh : Shape) → f.stray_fault sh ≡ [] → ⊥
stray_fails sh e =
    elim (cases_Bool sh.is_leaf) [
      | inl b ↦
          let bad : kind.UnknownArgument ∷ [] ≡ [] = rw b at e in
          absurd cc
      | inr b ↦
          let bad : kind.UnknownArgument ∷ kind.InvalidSubcommand ∷ [] ≡ [] = rw b at e in
          absurd cc
    ]

value_placed : (sh : Shape) (o : Option Rule) (h : Held) → option_map_or (λ a. f.positional_fault sh.rules sh.args_override_self a h) o (f.stray_fault sh) ≡ []
    → option_map_or (λ a. t.positional_passes sh.rules sh.args_override_self a h) o false ≡ true
value_placed sh None h e = absurd (stray_fails sh e)
value_placed sh (Some a) h e = positional_passes sh.rules sh.args_override_self a h e

step_passes : (sh : Shape) (position : ℕ) (h : Held) (step : w.Step) → f.step_fault sh position h step ≡ [] → t.step_passes sh position h step ≡ true
step_passes sh position h w.value e = value_placed sh (w.arg_by_index sh.rules position) h e
step_passes sh position h (w.next waiting) e = refl
step_passes sh position h (w.trailing p) e = refl
step_passes sh position h (w.subcommand name) e = refl

turn_passes : (sh : Shape) (names : Names) (walk : Walk) (word : Text) → f.turn_fault sh names walk word ≡ [] → t.turn_passes sh names walk word ≡ true
turn_passes sh names walk word e =
    let met = w.word_met sh.rules names walk.is_trailing walk.waiting walk.position word walk.held in
    elim (cases_Bool (is_some walk.stopped)) [
      | inl b ↦ rw b refl
      | inr b ↦
          let turn : or_else (f.word_fault sh names walk.is_trailing walk.waiting word walk.held) (f.step_fault sh walk.position met.0 met.1) ≡ [] = rw b at e in
          let parts = both_none (f.word_fault sh names walk.is_trailing walk.waiting word walk.held) _ turn in
          rw b (both_pass _ _ (word_passes sh names walk.is_trailing walk.waiting word walk.held parts.0) (step_passes sh walk.position met.0 met.1 parts.1))
    ]

walk_passes : (sh : Shape) (names : Names) (walk : Walk) (words : List Text) → f.walk_fault sh names walk words ≡ [] → t.walk_passes sh names walk words ≡ true
unfolding f.walk_fault t.walk_passes
walk_passes sh names walk [] e = refl
walk_passes sh names walk (word ∷ rest) e =
    let parts = both_none (f.turn_fault sh names walk word) _ e in
    both_pass _ _ (turn_passes sh names walk word parts.0) (walk_passes sh names (w.walked sh.rules names walk word) rest parts.1)

-- ---- after the walk

no_checks : (a b c : Bool) → k.check_kinds a b c ≡ [] → (a ≡ false) × (b ≡ false) × (c ≡ false)
no_checks true b c e = absurd cc
no_checks false true c e = absurd cc
no_checks false false true e = absurd cc
no_checks false false false e = (refl, refl, refl)

help_unwanted : (has wants any : Bool) → (not has && (wants && not any)) ≡ false → (not wants || (has || any)) ≡ true
help_unwanted true true any e = refl
help_unwanted true false any e = refl
help_unwanted false true true e = refl
help_unwanted false true false e = absurd cc
help_unwanted false false any e = refl

subcommand_there : (has wants : Bool) → (not has && wants) ≡ false → (not wants || has) ≡ true
subcommand_there true true e = refl
subcommand_there true false e = refl
subcommand_there false true e = absurd cc
subcommand_there false false e = refl

one_given : (needs given : Bool) → (needs && not given) ≡ false → (not needs || given) ≡ true
one_given true true e = refl
one_given true false e = absurd cc
one_given false given e = refl

or_parts : (a b : Bool) → (a || b) ≡ false → (a ≡ false) × (b ≡ false)
or_parts true b e = absurd cc
or_parts false b e = (refl, e)

all_given : (rules : List Rule) (rows : List Row) → list_any (λ (a : Rule). a.required && not (t.is_given a.id rows)) rules ≡ false → list_all (λ (a : Rule). not a.required || t.is_given a.id rows) rules ≡ true
all_given [] rows e = refl
all_given (a ∷ rules) rows e =
    let parts = or_parts (a.required && not (t.is_given a.id rows)) _ e in
    both_pass _ _ (one_given a.required (t.is_given a.id rows) parts.0) (all_given rules rows parts.1)

required_given : (negates : Bool) (rules : List Rule) (rows : List Row) → (not negates && list_any (λ (a : Rule). a.required && not (t.is_given a.id rows)) rules) ≡ false
    → (negates || list_all (λ (a : Rule). not a.required || t.is_given a.id rows) rules) ≡ true
required_given true rules rows e = refl
required_given false rules rows e = all_given rules rows e

-- no rule is bound to another, and the defaults pass
abbrev IsSettled : Shape → Type 0
IsSettled sh = (list_all t.default_passes sh.rules ≡ true) × (f.has_free_rules sh ≡ true)

valid : (sh : Shape) (rows : List Row) (has : Bool) → f.has_free_rules sh ≡ true → f.check_fault sh rows has ≡ [] → t.is_valid sh rows has ≡ true
valid sh rows has free e =
    let checks = no_checks _ _ _ e in
    both_pass _ _ (help_unwanted has sh.arg_required_else_help _ checks.0)
    (both_pass _ _ (subcommand_there has sh.subcommand_required checks.1) (both_pass _ _ free (required_given (sh.subcommand_negates_reqs && has) sh.rules rows checks.2)))

level_passes : (sh : Shape) (names : Names) (h : Held) (words : List Text) (has : Bool) (below : Kinds) → IsSettled sh → f.level_fault sh names h words has below ≡ [] → t.level_passes sh names h words has ≡ true
level_passes sh names h words has below settled e =
    let end = (w.walk sh.rules names h words).held in
    let walks = both_none (f.walk_fault sh names (w.walk_from h) words) _ e in
    let under = both_none below _ walks.1 in
    let settles = both_none (f.settle_fault sh.rules sh.args_override_self end) _ under.1 in
    let defaults = both_none (f.defaults_fault (w.settled sh.rules end).rows sh.rules) _ settles.1 in
    both_pass _ _ (walk_passes sh names (w.walk_from h) words walks.0)
    (both_pass _ _ (settle_passes sh.rules sh.args_override_self end settles.0) (both_pass _ _ settled.0 (valid sh (w.finished sh.rules end) has settled.1 defaults.1)))

level_below : (sh : Shape) (names : Names) (h : Held) (words : List Text) (has : Bool) (below : Kinds) → f.level_fault sh names h words has below ≡ [] → below ≡ []
level_below sh names h words has below e = (both_none below _ (both_none (f.walk_fault sh names (w.walk_from h) words) _ e).1).0

abbrev pub is_settled : Shape → Bool
is_settled sh = list_all t.default_passes sh.rules && f.has_free_rules sh

entered_shape : (words : List Text) (test : Shape → Bool) (subs : List Shape) → list_all is_settled subs ≡ true → option_map_or (λ sh. f.level_fault sh [] w.nothing_held words false []) (find test subs) [] ≡ []
    → option_map_or (λ sh. t.level_passes sh [] w.nothing_held words false) (find test subs) true ≡ true
entered_shape words test [] settled e = refl
entered_shape words test (sh ∷ subs) settled e =
    let parts = and_parts (is_settled sh) _ settled in
    elim (cases_Bool (test sh)) [
      | inl b ↦ rw b (level_passes sh [] w.nothing_held words false [] (and_parts (list_all t.default_passes sh.rules) _ parts.0) (rw b at e))
      | inr b ↦ rw b (entered_shape words test subs parts.1 (rw b at e))
    ]

entered_passes : (a : App) (stop : Option (Text × List Text)) → list_all is_settled a.subs ≡ true → f.entered_fault a stop ≡ [] → t.entered_passes a stop ≡ true
entered_passes a None settled e = refl
entered_passes a (Some p) settled e = entered_shape p.1 (λ sh. w.answers_to p.0 (s.label_of sh)) a.subs settled e

-- a command whose rules are free and have good defaults takes the words at which no fault comes
pub faultless_taken : (a : App) (words : List Text) → s.is_simple a ≡ true → is_settled (built a).top ≡ true → list_all is_settled (built a).subs ≡ true → f.fault_of a words ≡ [] → t.takes a words ≡ true
faultless_taken a words simple top subs e =
    let sh = (built a).top in
    let names = s.names_of (built a) in
    let rest = s.argument_words a words in
    let stop = (w.walk sh.rules names w.nothing_held rest).stopped in
    let has = is_some (s.entered (built a) stop) in
    let below = level_below sh names w.nothing_held rest has (f.entered_fault (built a) stop) e in
    both_pass _ _ simple
    (both_pass _ _ (entered_passes (built a) stop subs below) (level_passes sh names w.nothing_held rest has _ (and_parts (list_all t.default_passes sh.rules) _ top) e))
