use Rattle.std.proofs.Common.{◌≡◌, drop}
use Rattle.tests_engine.specs.Files.{bytes_of_file}
use Rattle.tests_engine.proofs.shelf.ShelfLibrary.fetch.Given as goal

-- the files that are left answer as all do
abbrev pub invariant-files : goal.invariant-files
invariant-files l =
    (l.self ≡ l.fn.self)
    × (bytes_of_file (drop l.file-index l.file-items) l.name ≡ bytes_of_file l.self.files.now l.name)
