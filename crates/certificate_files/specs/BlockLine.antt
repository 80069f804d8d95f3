-- The line of a block, by its number and version.
use Rattle.std.specs.Prelude.{ℕ, ◌+◌, List, ◌++◌, codes, decimal}
use Rattle.definitions.specs.Printing.{line}
use Rattle.definitions.specs.Estimates.Version.{Version, current_version}
use Rattle.definitions.specs.Certificates.Verdicts.{TextVerdict, verdict_text, space_text}

abbrev pub told_line : ℕ → Version → TextVerdict → List ℕ
told_line number version told =
    line (codes "block " ++ decimal (number + 1) ++ codes " " ++ verdict_text told
    ++ space_text current_version version)
