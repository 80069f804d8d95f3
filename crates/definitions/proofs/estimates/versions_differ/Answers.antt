use Rattle.std.proofs.Common.{◌≢◌, inl, inr, refl, [], ◌∷◌, true, lit≤, arith}
use Rattle.definitions.specs.Plans.Path.{SegmentScan}
use Rattle.definitions.specs.Plans.Comparisons.{AccessStep, by_access}
use Rattle.definitions.specs.Plans.ColumnClass.{itself}
use Rattle.definitions.specs.Plans.PlanSpace.{IsPlan, access, sort}
use Rattle.definitions.specs.Plans.Folding.{IsUseful}
use Rattle.definitions.specs.Estimates.Orders.{required_of}
use Rattle.definitions.specs.Estimates.Version.{One}
use Rattle.definitions.specs.Estimates.BlockSpace.{space_of}
use Rattle.definitions.specs.Examples.Estimates.Setups.{scan_of, match_of}
use Rattle.definitions.specs.Examples.Estimates.TwoColumns.{by_two, descending, sorted_scan, sorted_certificate}
use Rattle.definitions.proofs.EstimateTheory.Checked.{over_of}
use Rattle.definitions.proofs.EstimateTheory.Joins.{certified}
use Rattle.definitions.proofs.estimates.versions_differ.Goals as goal

sorted : IsPlan (space_of One by_two descending) sorted_scan
sorted = sort (scan_of 0) 1 (access (SegmentScan 0) (lit≤ tt) (0, lit≤ tt, refl))
    (λ e. absurd (omega (arith, e)), (lit≤ tt, over_of (space_of One by_two descending) sorted_certificate 1 1 refl))

no_use : IsUseful (space_of One by_two descending) 1 0 → ⊥
no_use (inl (some, gives)) = gives
no_use (inr none) = none

asked : required_of descending ≢ []
asked e = cc

pub returns : goal.returns
returns c = (
  refl,
  certified (space_of One by_two descending) sorted_scan sorted_certificate refl (sorted, refl) (refl, itself _, (refl, itself _, tt)) refl
      ((scan_of 0, (access (SegmentScan 0) (lit≤ tt) (0, lit≤ tt, refl), refl, inr (no_use, refl)), refl), tt),
  (1, 1, AccessStep (match_of (0 ∷ []) true), _, by_access (match_of (0 ∷ []) true) 1 (lit≤ tt) (4, lit≤ tt, refl) (inl (inl (asked, (refl, itself _, (refl, itself _, tt))), refl)), refl, lit≤ tt),
)
