-- What EXPLAIN prints passes the check.
use Rattle.std.proofs.Common.{◌≡◌, ◌∙◌, refl, sym, ap, subst, ℕ, ◌+◌, List, [], ◌∷◌, ◌++◌}
use Rattle.std.specs.Prelude.{codes, decimal}
use Rattle.definitions.specs.Ended.{Well}
use Rattle.definitions.specs.Table.{Database}
use Rattle.definitions.specs.Queries.BoundBlock.{Blocks}
use Rattle.definitions.specs.Estimates.Version.{Version, One, Two, Three}
use Rattle.definitions.specs.Certificates.CertifiedBlock.{CertifiedBlock}
use Rattle.definitions.specs.Certificates.Explaining.{certified, certified_from, AreExplained}
use Rattle.definitions.specs.Certificates.Form.{Says}
use Rattle.definitions.specs.Certificates.File.{earlier, lines_behind, lines_of, own_text, version_among, version_of}
use Rattle.definitions.specs.Certificates.Laws.{ExplainedPasses}
use Rattle.definitions.specs.Certificates.Text.{Written, first_line, text_of}
use Rattle.definitions.specs.Certificates.Verdicts.{AreTold, IsTextVerdict, Passes, block_line, rest_ended, rest_text}
use Rattle.definitions.proofs.CertificateTheory.Files.{first_off, text_cut_off}
use Rattle.definitions.proofs.CertificateTheory.Texts.{plain}
use Rattle.definitions.proofs.CertificateTheory.Verdicts.{file_told_once}

d1 : decimal 1 ≡ codes "1"
d1 = plain (codes "1") refl

d2 : decimal 2 ≡ codes "2"
d2 = plain (codes "2") refl

d3 : decimal 3 ≡ codes "3"
d3 = plain (codes "3") refl

-- a text of the current version is read by it
none_earlier : (version : Version) → version_among (earlier version) version (first_line version) ≡ version
none_earlier One = refl
none_earlier Two = rw (d1, d2) refl
none_earlier Three = rw (d1, d2, d3) refl

own_version : (version : Version) (said : Written) (rest : List ℕ) → version_of version (lines_of (text_of version said ++ rest)) ≡ version
own_version version said rest = ap (version_among (earlier version) version) (first_off version said rest) ∙ none_earlier version

passes : (current : Version) (db : Database) (number : ℕ) (blocks : Blocks) (text : List ℕ) → AreExplained current (certified_from db number blocks) text
    → (printed : List ℕ) × AreTold current (certified_from db number blocks) (lines_of text) printed Well
passes current db number [] text h = ([], (subst (λ l. [] ≡ rest_text (lines_of l)) (sym h) refl, subst (λ l. Well ≡ rest_ended (lines_of l)) (sym h) refl))
passes current db number (b ∷ bs) text (own, rest, (plan, certificate, spells, is_certified), behind, is) =
    let (printed, told) = passes current db (number + 1) bs rest behind in
    let block : CertifiedBlock = certified db number b current in
    let said : Written = spells.said in
    let says : Says current own said = spells.says in
    let cut = text_cut_off current own rest said says in
    let version : version_of current (lines_of text) ≡ current = ap (λ l. version_of current (lines_of l)) (is ∙ ap (λ l. l ++ rest) says.1) ∙ own_version current said rest in
    let own_is : own_text (lines_of text) ≡ own = ap (λ l. own_text (lines_of l)) is ∙ cut.0 in
    let behind_is : lines_behind (lines_of text) ≡ lines_of rest = ap (λ l. lines_behind (lines_of l)) is ∙ cut.1 in
    let passed : IsTextVerdict block own Passes = (plan, certificate, spells, is_certified.0) in
    let seen : IsTextVerdict (certified db number b (version_of current (lines_of text))) (own_text (lines_of text)) Passes =
    subst (λ v. IsTextVerdict (certified db number b v) (own_text (lines_of text)) Passes) (sym version) (subst (λ l. IsTextVerdict block l Passes) (sym own_is) passed) in
    let later : AreTold current (certified_from db (number + 1) bs) (lines_behind (lines_of text)) printed Well =
    subst (λ ls. AreTold current (certified_from db (number + 1) bs) ls printed Well) (sym behind_is) told in
    (block_line current (certified db number b (version_of current (lines_of text))) Passes ++ printed, (Passes, printed, Well, seen, later, refl, refl))

pub explained_passes : ExplainedPasses
explained_passes current db number blocks text printed ended explained told =
    let (own, well) = passes current db number blocks text explained in
    (file_told_once current (certified_from db number blocks) (lines_of text) printed own ended Well told well).1
