-- What is told of blocks, one behind the other.
use Rattle.std.proofs.Common.{◌≡◌, ◌∙◌, refl, sym, ap, subst, ℕ, zero, suc, ◌+◌, ◌≤◌, ◌<◌, List, [], ◌∷◌, ◌++◌, length, take, drop, map, get_or, Bool, true, false, ◌==◌, if◌then◌else◌, arith}
use Rattle.std.specs.Prelude.{codes}
use Rattle.std.specs.List.{AllByRecursion}
use Rattle.std.proofs.lemmas.List.{append_assoc, drop-drop}
use Rattle.query_tree.specs.Bound.{block_of}
use Rattle.query_tree.specs.declared.block.Block as tree
use Rattle.definitions.specs.Ended.{Ended, Well, Faulted, Refused, both_ended}
use Rattle.definitions.specs.Printing.{line}
use Rattle.definitions.specs.Table.{Database}
use Rattle.definitions.specs.Queries.BoundBlock.{Block}
use Rattle.definitions.specs.Estimates.Version.{Version, current_version}
use Rattle.definitions.specs.Certificates.File.{before_first, lines_of, own_text, lines_behind, version_of}
use Rattle.definitions.specs.Certificates.Explaining.{certified, certified_from}
use Rattle.definitions.specs.Certificates.Verdicts.{TextVerdict, IsTextVerdict, ended_of, rest_text, rest_ended, AreTold}
use Rattle.certificate_files.specs.BlockLine.{told_line}
use Rattle.certificate_files.specs.Telling.{check_ended_of}
use Rattle.certificate_files.specs.declared.checking.FileEnded.{FileEnded}
use Rattle.certificate_files.specs.declared.checking.FileEnded.TheVariants as e

pub next : (n : ℕ) → n + 1 ≡ suc n
next n = omega arith

all_ended : (a b c : Ended) → both_ended (both_ended a b) c ≡ both_ended a (both_ended b c)
all_ended Well b c = refl
all_ended Faulted b c = refl
all_ended Refused b c = refl

-- what is told so far of a file is what is to be told of the blocks before one, whatever is told of it and those behind in the lines that are left
abbrev pub TellsTo : Database → List Block → List (List ℕ) → ℕ → List (List ℕ) → List ℕ → Ended → Type 0
TellsTo db blocks lines number left text ended =
    (rest : List ℕ) (later : Ended) → AreTold current_version (certified_from db number (drop number blocks)) left rest later
    → AreTold current_version (certified_from db 0 blocks) lines (text ++ rest) (both_ended ended later)

pub tells_nothing : (db : Database) (blocks : List Block) (lines : List (List ℕ)) → TellsTo db blocks lines 0 lines [] Well
tells_nothing db blocks lines rest later are = are

pub next_told : (db : Database) (blocks : List Block) (lines : List (List ℕ)) (number : ℕ) (block : Block) (left : List (List ℕ)) (text : List ℕ) (ended : Ended) (version : Version) (told : TextVerdict)
    → drop number blocks ≡ block ∷ drop (suc number) blocks → version ≡ version_of current_version left → IsTextVerdict (certified db number block version) (own_text left) told
    → TellsTo db blocks lines number left text ended
    → TellsTo db blocks lines (number + 1) (lines_behind left) (text ++ told_line number version told) (both_ended ended (ended_of told))
next_told db blocks lines number block left text ended version told first seen is so_far rest later behind =
    let own : List ℕ = told_line number version told in
    let version' : Version = version_of current_version left in
    let is' : IsTextVerdict (certified db number block version') (own_text left) told = subst (λ (v : Version). IsTextVerdict (certified db number block v) (own_text left) told) seen is in
    let behind' : AreTold current_version (certified_from db (number + 1) (drop (suc number) blocks)) (lines_behind left) rest later =
    subst (λ (n : ℕ). AreTold current_version (certified_from db (number + 1) (drop n blocks)) (lines_behind left) rest later) (next number) behind in
    let both : AreTold current_version (certified_from db number (block ∷ drop (suc number) blocks)) left (own ++ rest) (both_ended (ended_of told) later) =
    (told, rest, later, is', behind', ap (λ (v : Version). told_line number v told ++ rest) seen, refl) in
    let all = so_far (own ++ rest) (both_ended (ended_of told) later)
    (subst (λ (bs : List Block). AreTold current_version (certified_from db number bs) left (own ++ rest) (both_ended (ended_of told) later)) (sym first) both) in
    subst (λ (e : Ended). AreTold current_version (certified_from db 0 blocks) lines ((text ++ own) ++ rest) e) (sym (all_ended ended (ended_of told) later))
    (subst (λ (t : List ℕ). AreTold current_version (certified_from db 0 blocks) lines t (both_ended ended (both_ended (ended_of told) later))) (sym (append_assoc text own rest)) all)

-- the next block is told by the text in front of what is left of the file
pub next_in_file : (db : Database) (blocks : List Block) (file : List ℕ) (start end number index : ℕ) (block : Block) (left text new : List ℕ) (ended ended' : Ended) (version : Version) (told : TextVerdict)
    → left ≡ drop start file → number ≡ index → drop index blocks ≡ block ∷ drop (suc index) blocks → version ≡ version_of current_version (lines_of left)
    → take end left ≡ own_text (lines_of left) → lines_of (drop end left) ≡ lines_behind (lines_of left)
    → IsTextVerdict (certified db number block version) (take end left) told → new ≡ text ++ told_line number version told → ended' ≡ both_ended ended (ended_of told)
    → TellsTo db blocks (lines_of file) index (lines_of (drop start file)) text ended
    → TellsTo db blocks (lines_of file) (index + 1) (lines_of (drop (start + end) file)) new ended'
next_in_file db blocks file start end number index block left text new ended ended' version told same counted first seen own behind is written ends so_far =
    let whole : List (List ℕ) = lines_of file in
    let is' : IsTextVerdict (certified db index block version) (own_text (lines_of left)) told =
    subst (λ (n : ℕ). IsTextVerdict (certified db n block version) (own_text (lines_of left)) told) counted
    (subst (λ (bytes : List ℕ). IsTextVerdict (certified db number block version) bytes told) own is) in
    let so_far' : TellsTo db blocks whole index (lines_of left) text ended = subst (λ (bytes : List ℕ). TellsTo db blocks whole index (lines_of bytes) text ended) (sym same) so_far in
    let next = next_told db blocks whole index block (lines_of left) text ended version told first seen is' so_far' in
    let left_then : lines_behind (lines_of left) ≡ lines_of (drop (start + end) file) = sym behind ∙ ap (λ (bytes : List ℕ). lines_of (drop end bytes)) same ∙ ap lines_of (drop-drop end start file) in
    let text_then : text ++ told_line index version told ≡ new = sym (written ∙ ap (λ (n : ℕ). text ++ told_line n version told) counted) in
    subst (λ (ls : List (List ℕ)). TellsTo db blocks whole (index + 1) ls new ended') left_then
    (subst (λ (t : List ℕ). TellsTo db blocks whole (index + 1) (lines_behind (lines_of left)) t ended') text_then
    (subst (λ (e : Ended). TellsTo db blocks whole (index + 1) (lines_behind (lines_of left)) (text ++ told_line index version told) e) (sym ends) next))

pub past : {X : Type 0} (xs : List X) (n : ℕ) → length xs ≤ n → drop n xs ≡ []
past [] zero h = refl
past [] (suc n) h = refl
past (x ∷ xs) zero h = absurd (omega (arith, h))
past (x ∷ xs) (suc n) h = past xs n (omega (arith, h))

-- behind the last block the rest is told
pub all_told : (db : Database) (blocks : List Block) (lines : List (List ℕ)) (number : ℕ) (left : List (List ℕ)) (text : List ℕ) (ended : Ended) → length blocks ≤ number
    → TellsTo db blocks lines number left text ended
    → AreTold current_version (certified_from db 0 blocks) lines (text ++ rest_text left) (both_ended ended (rest_ended left))
all_told db blocks lines number left text ended behind so_far =
    so_far (rest_text left) (rest_ended left)
    (subst (λ (bs : List Block). AreTold current_version (certified_from db number bs) left (rest_text left) (rest_ended left)) (sym (past blocks number behind)) (refl, refl))

pub file_told : (db : Database) (blocks : List Block) (file : List ℕ) (start index : ℕ) (left text new : List ℕ) (ended ended' : Ended) → left ≡ drop start file → length blocks ≤ index
    → new ≡ text ++ rest_text (lines_of left) → ended' ≡ both_ended ended (rest_ended (lines_of left))
    → TellsTo db blocks (lines_of file) index (lines_of (drop start file)) text ended
    → AreTold current_version (certified_from db 0 blocks) (lines_of file) new ended'
file_told db blocks file start index left text new ended ended' same behind written ends so_far =
    let whole : List (List ℕ) = lines_of file in
    let so_far' : TellsTo db blocks whole index (lines_of left) text ended = subst (λ (bytes : List ℕ). TellsTo db blocks whole index (lines_of bytes) text ended) (sym same) so_far in
    subst (λ (t : List ℕ). AreTold current_version (certified_from db 0 blocks) whole t ended') (sym written)
    (subst (λ (e : Ended). AreTold current_version (certified_from db 0 blocks) whole (text ++ rest_text (lines_of left)) e) (sym ends)
    (all_told db blocks whole index (lines_of left) text ended behind so_far'))

-- ---- what is left

first_left : (byte : ℕ) (bytes : List ℕ) → (line : List ℕ) × (lines : List (List ℕ)) × (lines_of (byte ∷ bytes) ≡ line ∷ lines)
first_left byte bytes = of_test (byte == 10)
  where
    of_lines : (lines : List (List ℕ)) → (line : List ℕ) × (others : List (List ℕ)) × (before_first byte lines ≡ line ∷ others)
    of_lines [] = (byte ∷ [], [], refl)
    of_lines (line ∷ lines) = (byte ∷ line, lines, refl)

    of_test : (t : Bool) → (line : List ℕ) × (lines : List (List ℕ)) × ((if t then (10 ∷ []) ∷ lines_of bytes else before_first byte (lines_of bytes)) ≡ line ∷ lines)
    of_test true = (10 ∷ [], lines_of bytes, refl)
    of_test false = of_lines (lines_of bytes)

pub rest_is_told : (bytes : List ℕ) → (length bytes == 0) ≡ false → rest_text (lines_of bytes) ≡ line (codes "rest refused C1")
rest_is_told [] some = absurd cc
rest_is_told (byte ∷ bytes) some = let (own, others, is) = first_left byte bytes in ap rest_text is

rest_is_refused : (bytes : List ℕ) → (length bytes == 0) ≡ false → rest_ended (lines_of bytes) ≡ Refused
rest_is_refused [] some = absurd cc
rest_is_refused (byte ∷ bytes) some = let (own, others, is) = first_left byte bytes in ap rest_ended is

pub refused_by_rest : (ended : FileEnded) (bytes : List ℕ) → (length bytes == 0) ≡ false → Refused ≡ both_ended (check_ended_of ended) (rest_ended (lines_of bytes))
refused_by_rest e.Well bytes some = sym (rest_is_refused bytes some)
refused_by_rest e.Refused bytes some = refl

-- ---- the block of a number

pub each_formed : (P : Block → Type 0) (blocks : List tree.Block) (i : ℕ) (b : tree.Block) → AllByRecursion P (map block_of blocks) → i < length blocks → b ≡ get_or blocks i b → P (block_of b)
each_formed P [] i b h lt is = absurd (omega (arith, lt))
each_formed P (x ∷ xs) zero b h lt is = subst (λ y. P (block_of y)) (sym is) h.0
each_formed P (x ∷ xs) (suc i) b h lt is = each_formed P xs i b h.1 (omega (arith, lt)) is

pub first_of : (blocks : List tree.Block) (i : ℕ) (b : tree.Block) → i < length blocks → b ≡ get_or blocks i b → drop i (map block_of blocks) ≡ block_of b ∷ drop (suc i) (map block_of blocks)
first_of [] i b lt is = absurd (omega (arith, lt))
first_of (x ∷ xs) zero b lt is = ap (λ y. block_of y ∷ map block_of xs) (sym is)
first_of (x ∷ xs) (suc i) b lt is = first_of xs i b (omega (arith, lt)) is
