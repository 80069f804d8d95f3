-- The subcommand that a parse met, and its rows.
use Rattle.std.proofs.Common.{◌≡◌, ◌∙◌, refl, sym, ap, ap₂, subst, ◌⊎◌, inl, inr, List, [], ◌∷◌, true, false, Bool, Option, Some, None}
use Rattle.std.proofs.lemmas.Bool.{cases_Bool}
use Rattle.std.specs.Prelude.{Box, codes, is_some, option_map}
use Rattle.std.specs.Box.{box_value}
use Rattle.std.specs.Str.{bytes_eq}
use Rattle.clap.specs.Walk.{Row, Text, first_of}
use Rattle.clap.specs.Simple.{App, HasMatchesOf, subcommand_of, subcommand_rows, subcommand_rows_of}
use Rattle.clap.specs.Takes.{takes}
use Rattle.clap.specs.Faults.{fault_of, is_simple_and_free}
use Rattle.clap.specs.Kinds.{HasKind, IsAmong, Kinds, or_else}
use Rattle.clap.specs.Values.{kind_of}
use Rattle.clap.specs.declared.error.Error.{Error}
use Rattle.clap.specs.declared.error.kind.ErrorKind.TheVariants.{InvalidValue, OutOfMemory}
use Rattle.clap.specs.declared.parser.matches.ArgMatches.{ArgMatches}
use Rattle.programs.specs.CommandLine.{Asked, Form, Source, line, asked_in, form_asked, form_fault, fault_in, is_on, run_in_form, run_of, script_of}
use Rattle.programs.proofs.Taken.{AskOrFail, taken_asks}
use Rattle.programs.proofs.Faultless.{faultless_taken}
use Rattle.clap.specs.declared.parser.matches.ArgMatches.TheViews.{out-SubCommand}
use Rattle.clap.specs.declared.parser.matches.SubCommand.{SubCommand}

some_apart : {X : Type 0} (x : X) → Some x ≡ None → ⊥
some_apart x e = cc

same : {X : Type 0} (x y : X) → Some x ≡ Some y → x ≡ y
same x y e = cc

module _ {Z : Type 0} where
  pub met : (sub : Option (Box SubCommand Z)) (name : Text) (rows : List Row) → Some name ≡ option_map (λ b. (out-SubCommand (box_value b)).name.now) sub → Some rows ≡ option_map (λ p. p.1) (subcommand_rows sub) → subcommand_rows sub ≡ Some (name, rows)
  met None name rows n r = absurd (some_apart name n)
  met (Some b) name rows n r = ap₂ (λ (x : Text) (y : List Row). Some (x, y)) (sym (same _ _ n)) (sym (same _ _ r))

-- the subcommand that a parse is found to have met is the one that its words name
met_by_words : (a : App) (m : ArgMatches) (words : List Text) → a ≡ line → HasMatchesOf a words m → subcommand_rows_of m ≡ subcommand_of line words
met_by_words a m words same h =
    let own : HasMatchesOf line words m = subst (λ x. HasMatchesOf x words m) same h in
    (own refl).1

faultless : (a : App) (words : List Text) → a ≡ line → (is_simple_and_free a ≡ true → fault_of a words ≡ []) → fault_of line words ≡ []
faultless a words same h =
    let none : is_simple_and_free line ≡ true → fault_of line words ≡ [] = subst (λ x. is_simple_and_free x ≡ true → fault_of x words ≡ []) same h in
    none refl

-- words that a parse took are taken
pub taken : (a : App) (words : List Text) → a ≡ line → (is_simple_and_free a ≡ true → fault_of a words ≡ []) → takes line words ≡ true
taken a words same h = faultless_taken line words refl refl refl (faultless a words same h)

-- where a parse that succeeds asks for nothing, its form is the fault
form_fails : (sub : Option (Text × List Row)) → AskOrFail sub → None ≡ asked_in sub → form_fault sub ≡ InvalidValue ∷ []
form_fails sub (inl some) none =
    let no' : false ≡ true = rw (sym none) at some in
    cc
form_fails sub (inr fault) none = fault

pub asks_no_form : (a : App) (m : ArgMatches) (words : List Text) → a ≡ line → HasMatchesOf a words m → (is_simple_and_free a ≡ true → fault_of a words ≡ []) → None ≡ asked_in (subcommand_rows_of m) → fault_in words ≡ InvalidValue ∷ []
asks_no_form a m words same h none nothing =
    let sub = met_by_words a m words same h in
    let fails = form_fails (subcommand_of line words) (taken_asks words (taken a words same none)) (nothing ∙ ap asked_in sub) in
    rw (faultless a words same none) fails

-- what asks for something has a form
formed_by : (script : Source) (stops is_timed : Bool) (form : Option (Option Form)) (x : Asked) → Some x ≡ run_in_form script stops is_timed form → is_some form ≡ true
formed_by script stops is_timed None x e = absurd (some_apart x e)
formed_by script stops is_timed (Some form) x e = refl

run_form : (script text stop timing form : Option Text) (x : Asked) → Some x ≡ run_of script text stop timing form → is_some (form_asked form) ≡ true
run_form None text stop timing form x e = absurd (some_apart x e)
run_form (Some script) text stop timing form x e = formed_by (script_of (is_on text) script) (is_on stop) (is_on timing) (form_asked form) x e

formed : (sub : Option (Text × List Row)) (x : Asked) → Some x ≡ asked_in sub → form_fault sub ≡ []
formed None x e = refl
formed (Some p) x e =
    elim (cases_Bool (bytes_eq p.0 (codes "run"))) [
      | inl r ↦
          let runs : Some x ≡ run_of (first_of (codes "SCRIPT") p.1) (first_of (codes "text") p.1) (first_of (codes "stop") p.1) (first_of (codes "timing") p.1) (first_of (codes "as") p.1) = rw r at e in
          let form = run_form (first_of (codes "SCRIPT") p.1) (first_of (codes "text") p.1) (first_of (codes "stop") p.1) (first_of (codes "timing") p.1) (first_of (codes "as") p.1) x runs in
          rw (r, form) refl
      | inr r ↦ rw r refl
    ]

pub faultless_request : (a : App) (m : ArgMatches) (words : List Text) (x : Asked) → a ≡ line → HasMatchesOf a words m → (is_simple_and_free a ≡ true → fault_of a words ≡ []) → Some x ≡ asked_in (subcommand_rows_of m) → fault_in words ≡ []
faultless_request a m words x same h none some =
    let sub = met_by_words a m words same h in
    rw (faultless a words same none) (formed (subcommand_of line words) x (some ∙ ap asked_in sub))

-- a fault of the same kind as a parse's
has_kind_or : (kinds next : Kinds) (e : Error) → HasKind kinds e → HasKind (or_else kinds next) e
has_kind_or [] next e (inl memory) = inl memory
has_kind_or [] next e (inr none) = absurd none
has_kind_or (k ∷ ks) next e h = h

pub fails_alike : (a : App) (words : List Text) (before after : Error) → a ≡ line → (is_simple_and_free a ≡ true → HasKind (fault_of a words) before) → kind_of after ≡ kind_of before → HasKind (fault_in words) after
fails_alike a words before after same h alike =
    let own : is_simple_and_free line ≡ true → HasKind (fault_of line words) before = subst (λ x. is_simple_and_free x ≡ true → HasKind (fault_of x words) before) same h in
    let there : HasKind (fault_of line words) after = subst (λ k. (k ≡ OutOfMemory) ⊎ IsAmong k (fault_of line words)) (sym alike) (own refl) in
    has_kind_or (fault_of line words) _ after there
