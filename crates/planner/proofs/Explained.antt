-- The texts of least plans, one behind the other.
use Rattle.std.proofs.Common.{◌≡◌, ◌∙◌, refl, sym, ap, subst, ℕ, zero, suc, ◌+◌, ◌≤◌, ◌<◌, List, [], ◌∷◌, ◌++◌, Result, Ok, Err, IfOk, length, drop, map, get_or, arith}
use Rattle.std.specs.Global.{Vec}
use Rattle.std.specs.List.{AllByRecursion}
use Rattle.std.proofs.lemmas.List.{append-nil, append_assoc}
use Rattle.query_tree.specs.Bound.{block_of}
use Rattle.query_tree.specs.declared.block.Block as tree
use Rattle.definitions.specs.Limits.{most_blocks}
use Rattle.definitions.specs.Table.{Database}
use Rattle.definitions.specs.Invariant.{IsDatabase}
use Rattle.definitions.specs.Queries.BoundBlock.{Block}
use Rattle.definitions.specs.Binding.Formed.{IsFormedSomewhere}
use Rattle.definitions.specs.Plans.Plan.{Plan, Access, Loop, Merge, Sort}
use Rattle.definitions.specs.Plans.Space.{Space}
use Rattle.definitions.specs.Plans.Exact.{IsCertified}
use Rattle.definitions.specs.Plans.Certificate.{Certificate}
use Rattle.definitions.specs.Estimates.Version.{current_version}
use Rattle.definitions.specs.Certificates.Form.{word_count}
use Rattle.definitions.specs.Certificates.Writing.{text_written}
use Rattle.definitions.specs.Certificates.Explaining.{certified, certified_from, IsExplained, AreExplained}
use Rattle.join_dp.specs.Words.{words_in}
use Rattle.definitions.proofs.CertificateTheory.PlansSpelled.{plans_are_spelled}

same_words : (plan : Plan) → words_in plan ≡ word_count plan
same_words (Access path) = refl
same_words (Loop outer path) = ap (λ n. n + 1) (same_words outer)
same_words (Merge outer conjunct inner) = ap (λ n. n + 1) (same_words outer)
same_words (Sort input order) = ap (λ n. n + 1) (same_words input)

-- a least plan of no more words than a text may have, with its exact certificate, spelled
pub explained : (db : Database) (number : ℕ) (block : Block) (space : Space) (plan : Plan) (certificate : Certificate) (bytes : List ℕ) → IsDatabase db → number < most_blocks → IsFormedSomewhere db block
    → (certified db number block current_version).space ≡ space → IsCertified space plan certificate → words_in plan ≤ 64
    → bytes ≡ text_written (certified db number block current_version) plan certificate → IsExplained (certified db number block current_version) bytes
explained db number block space plan certificate bytes valid few formed same whole words is =
    let here : IsCertified (certified db number block current_version).space plan certificate = subst (λ s. IsCertified s plan certificate) (sym same) whole in
    let (holds, exact, least) = here in
    (plan, certificate, plans_are_spelled db number block plan certificate bytes valid few formed least.0 (omega (arith, words, same_words plan)) exact.0 is, here)

pub next : (n : ℕ) → n + 1 ≡ suc n
next n = omega arith

-- what is printed so far is what is to be printed of the blocks before one, whatever is printed of it and those behind
abbrev pub ExplainsTo : Database → List Block → ℕ → List ℕ → Type 0
ExplainsTo db blocks number text =
    (rest : List ℕ) → AreExplained current_version (certified_from db number (drop number blocks)) rest → AreExplained current_version (certified_from db 0 blocks) (text ++ rest)

pub next_explained : (db : Database) (blocks : List Block) (number : ℕ) (block : Block) (text own : List ℕ) → drop number blocks ≡ block ∷ drop (suc number) blocks
    → IsExplained (certified db number block current_version) own → ExplainsTo db blocks number text → ExplainsTo db blocks (number + 1) (text ++ own)
next_explained db blocks number block text own first is so_far rest behind =
    subst (AreExplained current_version (certified_from db 0 blocks)) (sym (append_assoc text own rest))
    (so_far (own ++ rest) (subst (λ bs. AreExplained current_version (certified_from db number bs) (own ++ rest)) (sym (first ∙ ap (λ n. block ∷ drop n blocks) (sym (next number)))) (own, rest, is, behind, refl)))

-- ---- the block of a number

pub each_formed : (P : Block → Type 0) (blocks : List tree.Block) (i : ℕ) (b : tree.Block) → AllByRecursion P (map block_of blocks) → i < length blocks → b ≡ get_or blocks i b → P (block_of b)
each_formed P [] i b h lt is = absurd (omega (arith, lt))
each_formed P (x ∷ xs) zero b h lt is = subst (λ y. P (block_of y)) (sym is) h.0
each_formed P (x ∷ xs) (suc i) b h lt is = each_formed P xs i b h.1 (omega (arith, lt)) is

pub first_of : (blocks : List tree.Block) (i : ℕ) (b : tree.Block) → i < length blocks → b ≡ get_or blocks i b → drop i (map block_of blocks) ≡ block_of b ∷ drop (suc i) (map block_of blocks)
first_of [] i b lt is = absurd (omega (arith, lt))
first_of (x ∷ xs) zero b lt is = ap (λ y. block_of y ∷ map block_of xs) (sym is)
first_of (x ∷ xs) (suc i) b lt is = first_of xs i b (omega (arith, lt)) is

pub past : {X : Type 0} (xs : List X) (n : ℕ) → length xs ≤ n → drop n xs ≡ []
past [] zero h = refl
past [] (suc n) h = refl
past (x ∷ xs) zero h = absurd (omega (arith, h))
past (x ∷ xs) (suc n) h = past xs n (omega (arith, h))

-- nothing is behind the last
pub explains_all : (db : Database) (blocks : List Block) (number : ℕ) (text : List ℕ) → length blocks ≤ number → ExplainsTo db blocks number text → AreExplained current_version (certified_from db 0 blocks) text
explains_all db blocks number text behind so_far =
    subst (AreExplained current_version (certified_from db 0 blocks)) (append-nil text)
    (so_far [] (subst (λ bs. AreExplained current_version (certified_from db number bs) []) (sym (past blocks number behind)) refl))

pub explains_none : (db : Database) (blocks : List Block) → ExplainsTo db blocks 0 []
explains_none db blocks rest are = are

-- ---- the text of a block

pub text_explained : {E : Type 0} (db : Database) (number : ℕ) (block : Block) (space : Space) (plan : Plan) (certificate : Certificate) (result : Result (Vec ℕ) E) → IsDatabase db → number < most_blocks
    → IsFormedSomewhere db block → (certified db number block current_version).space ≡ space → IsCertified space plan certificate → words_in plan ≤ 64
    → IfOk result (λ (text : Vec ℕ). text.items ≡ text_written (certified db number block current_version) plan certificate)
    → IfOk result (λ (text : Vec ℕ). IsExplained (certified db number block current_version) text.items)
text_explained db number block space plan certificate (Ok text) valid few formed same whole words is = explained db number block space plan certificate text.items valid few formed same whole words is
text_explained db number block space plan certificate (Err e) valid few formed same whole words is = tt

-- the number of a block is one of a few
pub few_left : (number index count : ℕ) → number ≡ index → index < count → count ≤ most_blocks → number < most_blocks
few_left number index count is lt few = omega (arith, is, lt, few)
