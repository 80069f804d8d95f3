-- What a request stands for.
use Rattle.std.specs.Prelude.{string_bytes, option_map}
use Rattle.programs.specs.CommandLine as spec
use Rattle.programs.specs.CommandLine.{Source, file, standard_input, on_the_line, Asked, runs, checks, Form, Ways}
use Rattle.programs.specs.declared.requests.Request.{Request}
use Rattle.programs.specs.declared.requests.Request.TheVariants as r
use Rattle.programs.specs.declared.requests.Source as declared
use Rattle.programs.specs.declared.requests.Source.TheVariants as s
use Rattle.programs.specs.declared.requests.AnswerForm.{AnswerForm}
use Rattle.programs.specs.declared.requests.AnswerForm.TheVariants as f
use Rattle.programs.specs.declared.requests.RunOptions.{RunOptions}

abbrev pub source_of : declared.Source → Source
source_of (s.File name) = file (string_bytes name)
source_of s.StandardInput = standard_input
source_of (s.Text text) = on_the_line (string_bytes text)

abbrev pub form_of : AnswerForm → Form
form_of f.Csv = spec.csv
form_of f.Table = spec.table
form_of f.Json = spec.json

abbrev pub ways_of : RunOptions → Ways
ways_of o = record { stops = o.stops; is_timed = o.is_timed; form = option_map form_of o.form }

abbrev pub asked : Request → Asked
asked (r.Run script options) = runs (source_of script) (ways_of options)
asked (r.Check script certificates) = checks (source_of script) (source_of certificates)
