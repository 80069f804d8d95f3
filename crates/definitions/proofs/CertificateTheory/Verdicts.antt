-- What is told of a block's text, and how a file is cut into texts.
use Rattle.std.proofs.Common.{◌≡◌, ◌∙◌, refl, sym, ap, ap₂, subst, ℕ, List, [], ◌∷◌, ◌++◌, Bool, true, false, Some, append_assoc, if◌then◌else◌, ◌==◌, rules}
use Rattle.std.specs.Prelude.{bytes_eq, flat_map}
use Rattle.std.proofs.lemmas.Bool.{eqb-true}
use Rattle.std.proofs.lemmas.List.Concat.{flat_map-cons}
use Rattle.definitions.specs.Ended.{Ended, Well, both_ended}
use Rattle.definitions.specs.Plans.TableSet.{TableSet}
use Rattle.definitions.specs.Plans.Order.{OrderNumber}
use Rattle.definitions.specs.Plans.Plan.{Plan}
use Rattle.definitions.specs.Plans.Certificate.{Certificate}
use Rattle.definitions.specs.Plans.Validity.{IsValid}
use Rattle.definitions.specs.Plans.Checking.{Rule, Refused, IsVerdict}
use Rattle.definitions.specs.Certificates.CertifiedBlock.{CertifiedBlock}
use Rattle.definitions.specs.Certificates.Spelling.{Spells}
use Rattle.definitions.specs.Certificates.Text.{end_line}
use Rattle.definitions.specs.Certificates.File.{before_first, lines_of, own_text, lines_behind, version_of}
use Rattle.definitions.specs.Estimates.Version.{Version}
use Rattle.definitions.specs.Certificates.Laws.{AreLeast}
use Rattle.definitions.proofs.PlanTheory.Bounds.{least}
use Rattle.definitions.specs.Certificates.Verdicts.{TextVerdict, Passes, FailsAt, IsFaulty, IsTextVerdict, ended_of, rest_ended, block_line, AreTold}
use Rattle.definitions.proofs.CertificateTheory.Faults.{spells_once, faultless, one_fault}
use Rattle.definitions.proofs.PlanTheory.Verdicts.{refused, agree}

module _ (block : CertifiedBlock) (bytes : List ℕ) where
  valid_of_other : (p q : Plan) (c d : Certificate) → Spells block bytes p c → Spells block bytes q d → IsValid block.space p c → IsValid block.space q d
  valid_of_other p q c d g h v =
      let e = spells_once block bytes p q c d g h in
      subst (λ (x : Certificate). IsValid block.space q x) e.1 (subst (λ (x : Plan). IsValid block.space x c) e.0 v)

  refused_of_other : (p q : Plan) (c d : Certificate) (rule : Rule) (tables : TableSet) (order : OrderNumber) → Spells block bytes p c → Spells block bytes q d
      → IsVerdict block.space c p (Refused rule tables order) → IsVerdict block.space d q (Refused rule tables order)
  refused_of_other p q c d rule tables order g h v =
      let e = spells_once block bytes p q c d g h in
      subst (λ (x : Certificate). IsVerdict block.space x q (Refused rule tables order)) e.1 (subst (λ (x : Plan). IsVerdict block.space c x (Refused rule tables order)) e.0 v)

  pass_and_fail : (rule : Rule) → IsTextVerdict block bytes Passes → IsTextVerdict block bytes (FailsAt rule) → ⊥
  pass_and_fail rule (p, c, s, v) (q, d, t, (tables, order, w)) = refused block.space d q rule tables order w (valid_of_other p q c d s t v)

  fails_once : (a b : Rule) → IsTextVerdict block bytes (FailsAt a) → IsTextVerdict block bytes (FailsAt b) → a ≡ b
  fails_once a b (p, c, s, (tables, order, v)) (q, d, t, (tables', order', w)) =
      let e : Some a ≡ Some b = agree block.space d q (Refused a tables order) (Refused b tables' order') (refused_of_other p q c d a tables order s t v) w in
      search (rules, e)

  pub told_once : (a b : TextVerdict) → IsTextVerdict block bytes a → IsTextVerdict block bytes b → a ≡ b
  told_once Passes Passes g h = refl
  told_once Passes (FailsAt r) g h = absurd (pass_and_fail r g h)
  told_once Passes (IsFaulty f) g h = absurd (faultless block bytes f (g.0, g.1, g.2) h)
  told_once (FailsAt r) Passes g h = absurd (pass_and_fail r h g)
  told_once (FailsAt r) (FailsAt s) g h = ap FailsAt (fails_once r s g h)
  told_once (FailsAt r) (IsFaulty f) g h = absurd (faultless block bytes f (g.0, g.1, g.2) h)
  told_once (IsFaulty f) Passes g h = absurd (faultless block bytes f (h.0, h.1, h.2) g)
  told_once (IsFaulty f) (FailsAt r) g h = absurd (faultless block bytes f (h.0, h.1, h.2) g)
  told_once (IsFaulty e) (IsFaulty f) g h = ap IsFaulty (one_fault block bytes e f g h)

-- ---- files

well_first : (told : TextVerdict) (later : Ended) → Well ≡ both_ended (ended_of told) later → (Passes ≡ told) × (Well ≡ later)
well_first Passes later e = (refl, e)
well_first (FailsAt rule) later e = absurd (cc)
well_first (IsFaulty fault) later e = absurd (cc)

nothing_left : (lines : List (List ℕ)) → Well ≡ rest_ended lines → lines ≡ []
nothing_left [] e = refl
nothing_left (line ∷ lines) e = absurd (cc)

pub well_is_least : (current : Version) (blocks : List (Version → CertifiedBlock)) (lines : List (List ℕ)) (text : List ℕ)
    → AreTold current blocks lines text Well → AreLeast current blocks lines
well_is_least current [] lines text h = nothing_left lines h.1
well_is_least current (block_in ∷ blocks) lines text (told, rest, later, is, behind, t, w) =
    let both = well_first told later w in
    let block = block_in (version_of current lines) in
    let k : IsTextVerdict block (own_text lines) Passes = subst (IsTextVerdict block (own_text lines)) (sym both.0) is in
    let more : AreTold current blocks (lines_behind lines) rest Well = subst (AreTold current blocks (lines_behind lines) rest) (sym both.1) behind in
    ((k.0, k.1, k.2, least block.space k.0 k.1 k.3), well_is_least current blocks (lines_behind lines) rest more)

pub file_told_once : (current : Version) (blocks : List (Version → CertifiedBlock)) (lines : List (List ℕ)) (a b : List ℕ) (e f : Ended)
    → AreTold current blocks lines a e → AreTold current blocks lines b f → (a ≡ b) × (e ≡ f)
file_told_once current [] lines a b e f g h = (g.0 ∙ sym h.0, g.1 ∙ sym h.1)
file_told_once current (block_in ∷ blocks) lines a b e f (told, rest, later, is, behind, t, w) (told', rest', later', is', behind', t', w') =
    let block = block_in (version_of current lines) in
    let same : told ≡ told' = told_once block (own_text lines) told told' is is' in
    let more = file_told_once current blocks (lines_behind lines) rest rest' later later' behind behind' in
    (t ∙ ap₂ (λ (x : TextVerdict) (l : List ℕ). block_line current block x ++ l) same more.0 ∙ sym t', w ∙ ap₂ (λ (x : TextVerdict) (l : Ended). both_ended (ended_of x) l) same more.1 ∙ sym w')

-- ---- cutting

joined : List (List ℕ) → List ℕ
joined lines = flat_map (λ line. line) lines

joined_cons : (line : List ℕ) (lines : List (List ℕ)) → joined (line ∷ lines) ≡ line ++ joined lines
unfolding joined
joined_cons line lines = flat_map-cons (λ (l : List ℕ). l) line lines

joined_first : (byte : ℕ) (lines : List (List ℕ)) → joined (before_first byte lines) ≡ byte ∷ joined lines
joined_first byte [] = joined_cons (byte ∷ []) []
joined_first byte (line ∷ lines) = joined_cons (byte ∷ line) lines ∙ ap (λ (l : List ℕ). byte ∷ l) (sym (joined_cons line lines))

one_byte : (byte : ℕ) (t : Bool) (lines : List (List ℕ)) (bytes : List ℕ) → (byte == 10) ≡ t → joined lines ≡ bytes
    → joined (if t then (10 ∷ []) ∷ lines else before_first byte lines) ≡ byte ∷ bytes
one_byte byte true lines bytes e h = joined_cons (10 ∷ []) lines ∙ ap (λ (l : List ℕ). 10 ∷ l) h ∙ ap (λ (b : ℕ). b ∷ bytes) (sym (eqb-true byte 10 e))
one_byte byte false lines bytes e h = joined_first byte lines ∙ ap (λ (l : List ℕ). byte ∷ l) h

nothing : joined [] ≡ []
unfolding joined
nothing = refl

all_lines : (file : List ℕ) → joined (lines_of file) ≡ file
all_lines [] = nothing
all_lines (byte ∷ bytes) = one_byte byte (byte == 10) (lines_of bytes) bytes refl (all_lines bytes)

one_line : (t : Bool) (line own : List ℕ) (lines behind : List (List ℕ)) → own ++ joined behind ≡ joined lines
    → (if t then line else line ++ own) ++ joined (if t then lines else behind) ≡ line ++ joined lines
one_line true line own lines behind h = refl
one_line false line own lines behind h = append_assoc line own (joined behind) ∙ ap (λ (l : List ℕ). line ++ l) h

all_texts : (lines : List (List ℕ)) → own_text lines ++ joined (lines_behind lines) ≡ joined lines
all_texts [] = refl
all_texts (line ∷ lines) = one_line (bytes_eq line end_line) line (own_text lines) lines (lines_behind lines) (all_texts lines) ∙ sym (joined_cons line lines)

pub lines_are_file : (file : List ℕ) → flat_map (λ line. line) (lines_of file) ≡ file
unfolding joined
lines_are_file = all_lines

pub cut_loses_nothing : (lines : List (List ℕ)) → own_text lines ++ flat_map (λ line. line) (lines_behind lines) ≡ flat_map (λ line. line) lines
unfolding joined
cut_loses_nothing = all_texts
