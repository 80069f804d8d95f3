-- The command line, by clap's own words.
use Rattle.std.specs.Prelude.{Bool, List, [], ◌∷◌, Option, Some, None, true, false, codes, is_some, not, ◌&&◌, option_map, if◌then◌else◌}
use Rattle.std.specs.Option.{option_map_or}
use Rattle.std.specs.Str.{bytes_eq}
use Rattle.clap.specs.Walk.{Row, Rule, Text, first_of}
use Rattle.clap.specs.Words.{subcommand_of}
use Rattle.clap.specs.Faults.{fault_of}
use Rattle.clap.specs.Kinds.{Kinds, or_else}
use Rattle.clap.specs.Simple.{App, new_rule, new_app, with_rule, with_subcommand}
use Rattle.clap.specs.declared.builder.action.ArgAction.TheVariants.{Set, SetTrue}
use Rattle.clap.specs.declared.error.kind.ErrorKind.TheVariants.{InvalidValue}

-- a word that has to be given
abbrev pub word_rule : Text → Rule
word_rule name = record (new_rule name) { required = true; action = Some Set }

-- a word that may be given, and stands for itself
abbrev pub flag_rule : Text → Rule
flag_rule name = record (new_rule name) { action = Some SetTrue }

-- `-c` (99 is the character)
abbrev pub text_rule : Rule
text_rule = record (flag_rule (codes "text")) { short = Some 99 }

-- `--stop`
abbrev pub stop_rule : Rule
stop_rule = record (flag_rule (codes "stop")) { long = Some (codes "stop") }

-- `--timing`
abbrev pub timing_rule : Rule
timing_rule = record (flag_rule (codes "timing")) { long = Some (codes "timing") }

-- `--as FORM`
abbrev pub form_rule : Rule
form_rule = record (new_rule (codes "as")) {
  long = Some (codes "as");
  value_names = 1;
  action = Some Set;
}

-- a subcommand whose first word is a script
abbrev pub on_script : Text → App
on_script name = with_rule (new_app name) (word_rule (codes "SCRIPT"))

-- `run`, an option at a time
abbrev pub text_run : App
text_run = with_rule (on_script (codes "run")) text_rule

abbrev pub stopping_run : App
stopping_run = with_rule text_run stop_rule

abbrev pub timed_run : App
timed_run = with_rule stopping_run timing_rule

abbrev pub run : App
run = with_rule timed_run form_rule

abbrev pub check : App
check = with_rule (on_script (codes "check")) (word_rule (codes "CERTIFICATES"))

abbrev pub program : App
program = record (new_app (codes "sqlr")) {
  top =
      record (new_app (codes "sqlr")).top { has_version = true; subcommand_required = true };
}

-- `sqlr run [-c] [--stop] [--timing] [--as FORM] SCRIPT`, `sqlr check SCRIPT CERTIFICATES`, and `sqlr --version`
abbrev pub line : App
line = with_subcommand (with_subcommand program run.top) check.top

-- where a script, or certificates, stand
pub data Source : Type 0 where
  file : Text → Source
  standard_input : Source
  on_the_line : Text → Source

-- a word names a file, or standard input where it is -
abbrev pub source_named : Text → Source
source_named word = if bytes_eq word (codes "-") then standard_input else file word

-- behind -c the word is the script's text
abbrev pub script_of : Bool → Text → Source
script_of is_text word = if is_text then on_the_line word else source_named word

-- how rows are printed, where it isn't as ever
pub data Form : Type 0 where
  csv : Form
  table : Form
  json : Form

abbrev pub form_named : Text → Option Form
form_named word = if bytes_eq word (codes "csv") then Some csv
    else (if bytes_eq word (codes "table") then Some table
    else (if bytes_eq word (codes "json") then Some json else None))

-- the form that is asked for, if one is; there is none where its word names none
abbrev pub form_asked : Option Text → Option (Option Form)
form_asked None = Some None
form_asked (Some word) = option_map (λ form. Some form) (form_named word)

-- how a script is run: whether the run ends at the first refusal, whether it tells how long each statement took, and how
-- rows are printed
pub record Ways : Type 0 where
  pub stops : Bool
  pub is_timed : Bool
  pub form : Option Form

-- what is asked: a script to be run, or certificates to be checked against a script's last query
pub data Asked : Type 0 where
  runs : Source → Ways → Asked
  checks : Source → Source → Asked

-- a flag has the value `true` where it is given
abbrev pub is_on : Option Text → Bool
is_on value = option_map_or (λ word. bytes_eq word (codes "true")) value false

abbrev pub run_in_form : Source → Bool → Bool → Option (Option Form) → Option Asked
run_in_form script stops is_timed None = None
run_in_form script stops is_timed (Some form) =
    Some (runs script (record { stops = stops; is_timed = is_timed; form = form }))

-- a run, by the values of SCRIPT, -c, --stop, --timing and --as
abbrev pub run_of : Option Text → Option Text → Option Text → Option Text → Option Text → Option Asked
run_of None text stop timing form = None
run_of (Some script) text stop timing form =
    run_in_form (script_of (is_on text) script) (is_on stop) (is_on timing) (form_asked form)

abbrev pub check_of : Option Text → Option Text → Option Asked
check_of (Some script) (Some certificates) = Some (checks (source_named script) (source_named certificates))
check_of _ _ = None

-- what a subcommand with the rows of its matches asks
abbrev pub asked_in : Option (Text × List Row) → Option Asked
asked_in None = None
asked_in (Some (name, rows)) =
    if bytes_eq name (codes "run") then run_of (first_of (codes "SCRIPT") rows) (first_of (codes "text") rows)
    (first_of (codes "stop") rows) (first_of (codes "timing") rows) (first_of (codes "as") rows)
    else (if bytes_eq name (codes "check") then check_of (first_of (codes "SCRIPT") rows)
    (first_of (codes "CERTIFICATES") rows) else None)

-- what the definition of the line says that words ask, the first of which is the program's name
abbrev pub asked_of : List Text → Option Asked
asked_of words = asked_in (subcommand_of line words)

-- a form that there isn't is a value that isn't valid
abbrev pub form_fault : Option (Text × List Row) → Kinds
form_fault None = []
form_fault (Some (name, rows)) = if bytes_eq name (codes "run") && not (is_some (form_asked (first_of (codes "as") rows)))
    then InvalidValue ∷ [] else []

-- the kinds of the fault that words have, if they have one: clap's, and behind it that of the form
abbrev pub fault_in : List Text → Kinds
fault_in words = or_else (fault_of line words) (form_fault (subcommand_of line words))
