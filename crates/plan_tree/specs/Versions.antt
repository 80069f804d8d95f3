-- What the versions of this crate stand for.
use Rattle.definitions.specs.Estimates.Version as spec
use Rattle.plan_tree.specs.declared.version.Version.{Version}
use Rattle.plan_tree.specs.declared.version.Version.TheVariants as v

abbrev pub version_of : Version → spec.Version
version_of v.One = spec.One
version_of v.Two = spec.Two
version_of v.Three = spec.Three
