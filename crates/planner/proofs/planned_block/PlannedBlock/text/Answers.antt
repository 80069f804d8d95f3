use Rattle.std.proofs.Common.{refl}
use Rattle.definitions.specs.Certificates.Explaining.{certified}
use Rattle.definitions.specs.Estimates.BlockSpace.{space_of}
use Rattle.definitions.specs.Estimates.Version.{current_version}
use Rattle.plan_tree.specs.Certificates.{certificate_of}
use Rattle.plan_tree.specs.Plans.{plan_of}
use Rattle.planner.proofs.Explained.{text_explained}
use Rattle.planner.proofs.planned_block.PlannedBlock.text.Goals as goal

pub returns : goal.returns
returns c = λ db number block valid few formed is.
    text_explained db number block (space_of current_version db block) (plan_of c.args.self.now.plan) (certificate_of c.args.self.now.certificate) c.write_text.result valid few formed refl is.certified is.short
    (c.write_text.ensures (certified db number block current_version) (c.certified_block.ensures (certified db number block current_version) is.own))
