use Rattle.estimate.proofs.EitherOf.{either_small}
use Rattle.estimate.proofs.fractions.either_of.Goals as goal

pub returns-clause-below : goal.returns-clause-below
returns-clause-below c =
    rw (c.from.ensures, c.from-2.ensures, c.from-3.ensures, c.from-4.ensures, c.from-5.ensures) (either_small c.args.a c.args.b c.requires.left c.requires.right)
