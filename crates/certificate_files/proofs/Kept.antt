-- What is told and kept of texts, one block behind the other.
use Rattle.std.proofs.Common.{◌≡◌, ◌∙◌, sym, ap, subst, ℕ, suc, ◌+◌, ◌≤◌, List, [], ◌∷◌, ◌++◌, Option, length, take, drop, arith}
use Rattle.std.proofs.lemmas.List.{append-nil, append_assoc, drop-drop}
use Rattle.definitions.specs.Certificates.CertifiedBlock.{CertifiedBlock}
use Rattle.definitions.specs.Certificates.Explaining.{certified}
use Rattle.definitions.specs.Certificates.File as f
use Rattle.definitions.specs.Certificates.File.{lines_of, own_text, lines_behind}
use Rattle.definitions.specs.Certificates.Verdicts.{IsTextVerdict}
use Rattle.definitions.specs.Estimates.Version.{Version, current_version}
use Rattle.definitions.specs.Queries.BoundBlock.{Block}
use Rattle.definitions.specs.Table.{Database}
use Rattle.plan_tree.specs.Versions.{version_of}
use Rattle.certificate_files.specs.Judged.{AreBlocksTold, IsBlockTold, IsKeptOf}
use Rattle.certificate_files.specs.Telling.{told_of}
use Rattle.certificate_files.specs.declared.checking.BlockTold.{BlockTold}
use Rattle.certificate_files.proofs.Checked.{next, past}

-- what is told so far is of the blocks before one, whatever is told of it and those behind by the lines that are left
abbrev pub KeptTo : Database → List Block → List ℕ → ℕ → List (List ℕ) → List BlockTold → Type 0
KeptTo db blocks file number left told = (rest : List BlockTold) → AreBlocksTold db number (drop number blocks) file left rest
    → AreBlocksTold db 0 blocks file (lines_of file) (told ++ rest)

-- what is told of bytes that are the text of the lines that are left
pub told_at : (db : Database) (number index : ℕ) (block : Block) (file left : List ℕ) (end : ℕ) (told : BlockTold) → left ≡ drop told.start file → number ≡ index
    → version_of told.version ≡ f.version_of current_version (lines_of left) → take end left ≡ own_text (lines_of left)
    → IsTextVerdict (certified db number block (version_of told.version)) (take end left) (told_of told.told)
    → IsKeptOf (certified db number block (version_of told.version)) (take end left) told.told told.refused
    → IsBlockTold db index block file (lines_of left) told
told_at db number index block file left end told same counted seen own is kept = record {
  start = ap lines_of (sym same);
  version = seen;
  told = subst (λ n. IsTextVerdict (certified db n block (version_of told.version)) (own_text (lines_of left)) (told_of told.told)) counted
      (subst (λ bytes. IsTextVerdict (certified db number block (version_of told.version)) bytes (told_of told.told)) own is);
  kept = subst (λ n. IsKeptOf (certified db n block (version_of told.version)) (own_text (lines_of left)) told.told told.refused) counted
      (subst (λ bytes. IsKeptOf (certified db number block (version_of told.version)) bytes told.told told.refused) own kept);
}

next_kept : (db : Database) (blocks : List Block) (file : List ℕ) (number : ℕ) (block : Block) (left : List (List ℕ)) (told : List BlockTold) (own : BlockTold) → drop number blocks ≡ block ∷ drop (suc number) blocks
    → IsBlockTold db number block file left own → KeptTo db blocks file number left told → KeptTo db blocks file (number + 1) (lines_behind left) (told ++ own ∷ [])
next_kept db blocks file number block left told own first is so_far rest behind =
    subst (AreBlocksTold db 0 blocks file (lines_of file)) (sym (append_assoc told (own ∷ []) rest))
    (so_far (own ∷ rest)
    (subst (λ bs. AreBlocksTold db number bs file left (own ∷ rest)) (sym first)
    (is, subst (λ n. AreBlocksTold db (number + 1) (drop n blocks) file (lines_behind left) rest) (next number) behind)))

-- the next block is told by the text in front of what is left of the file
pub next_in_file_kept : (db : Database) (blocks : List Block) (file : List ℕ) (start end index : ℕ) (block : Block) (left : List ℕ) (told new : List BlockTold) (own : BlockTold) → left ≡ drop start file
    → drop index blocks ≡ block ∷ drop (suc index) blocks → lines_of (drop end left) ≡ lines_behind (lines_of left) → new ≡ told ++ own ∷ []
    → IsBlockTold db index block file (lines_of left) own → KeptTo db blocks file index (lines_of (drop start file)) told
    → KeptTo db blocks file (index + 1) (lines_of (drop (start + end) file)) new
next_in_file_kept db blocks file start end index block left told new own same first behind pushed is so_far =
    let left_then : lines_behind (lines_of left) ≡ lines_of (drop (start + end) file) = sym behind ∙ ap (λ (bytes : List ℕ). lines_of (drop end bytes)) same ∙ ap lines_of (drop-drop end start file) in
    let so_far' : KeptTo db blocks file index (lines_of left) told = subst (λ (bytes : List ℕ). KeptTo db blocks file index (lines_of bytes) told) (sym same) so_far in
    subst (KeptTo db blocks file (index + 1) (lines_of (drop (start + end) file))) (sym pushed)
    (subst (λ (ls : List (List ℕ)). KeptTo db blocks file (index + 1) ls (told ++ own ∷ [])) left_then
    (next_kept db blocks file index block (lines_of left) told own first is so_far'))

pub all_kept : (db : Database) (blocks : List Block) (file : List ℕ) (number : ℕ) (left : List (List ℕ)) (told : List BlockTold) → length blocks ≤ number → KeptTo db blocks file number left told → AreBlocksTold db 0 blocks file (lines_of file) told
all_kept db blocks file number left told behind so_far =
    subst (AreBlocksTold db 0 blocks file (lines_of file)) (append-nil told) (so_far [] (subst (λ bs. AreBlocksTold db number bs file left []) (sym (past blocks number behind)) tt))
