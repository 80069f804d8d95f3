-- What is told of the texts of a file, and what of those that are refused is kept.
use Rattle.std.specs.Prelude.{ℕ, ◌+◌, ◌≡◌, ⊤, List, [], ◌∷◌, Option, None, IsSomeAnd, option_map, drop}
use Rattle.definitions.specs.Certificates.CertifiedBlock.{CertifiedBlock}
use Rattle.definitions.specs.Certificates.Explaining.{certified}
use Rattle.definitions.specs.Certificates.File as file
use Rattle.definitions.specs.Certificates.File.{lines_of, own_text, lines_behind}
use Rattle.definitions.specs.Certificates.Verdicts.{IsTextVerdict}
use Rattle.definitions.specs.Estimates.Version.{current_version}
use Rattle.definitions.specs.Queries.BoundBlock.{Block, Blocks}
use Rattle.definitions.specs.Table.{Database}
use Rattle.plan_tree.specs.Certificates.{certificate_of}
use Rattle.plan_tree.specs.Versions.{version_of}
use Rattle.cert_check.specs.Compared.{IsFirstBelow}
use Rattle.cert_check.specs.Comparisons.{kept_comparison_of}
use Rattle.certificate.specs.Planned.{space_in}
use Rattle.certificate.specs.Reads.{IsRead}
use Rattle.certificate.specs.Spaces.{IsBlockSpace}
use Rattle.certificate_files.specs.Telling.{told_of}
use Rattle.certificate_files.specs.declared.checking.BlockTold.{BlockTold}
use Rattle.certificate_files.specs.declared.telling.RefusedText.{RefusedText}
use Rattle.certificate_files.specs.declared.telling.Told.{Told}
use Rattle.certificate_files.specs.declared.telling.Told.TheVariants as told

-- the block's plan space, what the bytes spell, and the first comparison that fails of that, if one does
pub record IsJudgedIn (block : CertifiedBlock) (bytes : List ℕ) (r : RefusedText) : Type 0 where
  pub own : IsBlockSpace block r.own
  pub spelled : IsSomeAnd r.spelled (λ spelled. IsRead block bytes spelled
      × IsFirstBelow (space_in r.own.space) (certificate_of spelled.certificate) (option_map kept_comparison_of r.failing))

-- the block's plan space alone, of bytes that spell nothing
pub record IsFaultyIn (block : CertifiedBlock) (r : RefusedText) : Type 0 where
  pub own : IsBlockSpace block r.own
  pub spelled : r.spelled ≡ None
  pub failing : r.failing ≡ None

-- by what is told of bytes: nothing is kept where they pass
abbrev pub IsKeptOf : CertifiedBlock → (bytes : List ℕ) → Told → Option RefusedText → Type 0
IsKeptOf block bytes told.Passes kept = kept ≡ None
IsKeptOf block bytes (told.Fails rule place) kept = IsSomeAnd kept (IsJudgedIn block bytes)
IsKeptOf block bytes (told.Faulty fault) kept = IsSomeAnd kept (IsFaultyIn block)

-- what is told of a block by the text that begins these lines of a file
pub record IsBlockTold (db : Database) (number : ℕ) (block : Block) (bytes : List ℕ) (lines : List (List ℕ)) (own : BlockTold) : Type 0 where
  pub start : lines_of (drop own.start bytes) ≡ lines
  pub version : version_of own.version ≡ file.version_of current_version lines
  pub told : IsTextVerdict (certified db number block (version_of own.version)) (own_text lines) (told_of own.told)
  pub kept : IsKeptOf (certified db number block (version_of own.version)) (own_text lines) own.told own.refused

-- of each block, in the order of their numbers, by the next text
abbrev pub AreBlocksTold : Database → (number : ℕ) → Blocks → (bytes : List ℕ) → (lines : List (List ℕ)) → List BlockTold → Type 0
AreBlocksTold db number [] bytes lines [] = ⊤
AreBlocksTold db number (block ∷ blocks) bytes lines (told ∷ others) =
    IsBlockTold db number block bytes lines told × AreBlocksTold db (number + 1) blocks bytes (lines_behind lines) others
AreBlocksTold db number _ bytes lines _ = ⊥
