-- What is promised of checks follows from what they do.
use Rattle.std.proofs.Common.{◌≡◌, ◌∙◌, sym, subst, ℕ, List}
use Rattle.definitions.specs.Ended.{Ended}
use Rattle.definitions.specs.Ended as ends
use Rattle.definitions.specs.Estimates.Version.{Version}
use Rattle.definitions.specs.Certificates.Verdicts.{AreTold}
use Rattle.definitions.specs.Certificates.Explaining.{certified_from}
use Rattle.definitions.specs.Certificates.File.{lines_of}
use Rattle.definitions.proofs.CertificateTheory.Verdicts.{well_is_least}
use Rattle.definitions_execution.specs.Step.{Answering, State}
use Rattle.definitions_execution.specs.CheckingRun as checking
use Rattle.definitions_execution.specs.CheckingRun.{Checked}
use Rattle.definitions_execution.specs.Headline.{IsCheckedLeast}

module _ {L : Type 0} (answers : Answering L) where
  -- a check that ends well has found each block's text to be that of a least plan
  pub checks_are_least : (current : Version) (old new : State L) (script file text : List ℕ) (ended : Ended) → Checked answers current old script file new text ended → ended ≡ ends.Well
      → IsCheckedLeast current new.database script file
  checks_are_least current old new script file text ended (checking.fault line n e) w = absurd (let h = sym e ∙ w in cc)
  checks_are_least current old new script file text ended (checking.refused front rest s mid are behind prepared none this e) w = absurd (let h = sym e ∙ w in cc)
  checks_are_least current old new script file text ended (checking.no_statement are n t e) w = absurd (let h = sym e ∙ w in cc)
  checks_are_least current old new script file text ended (checking.no_query front s are prepared none t e) w = absurd (let h = sym e ∙ w in cc)
  checks_are_least current old new script file text ended (checking.unbound front s q r are prepared some f t e) w = absurd (let h = sym e ∙ w in cc)
  checks_are_least current old new script file text ended (checking.told front s q blocks are prepared some bound told) w = record {
    front = front;
    last = s;
    q = q;
    blocks = blocks;
    statements = are;
    asks = some;
    bound = bound;
    least = well_is_least current (certified_from new.database 0 blocks) (lines_of file) text (subst (AreTold current (certified_from new.database 0 blocks) (lines_of file) text) w told);
  }
