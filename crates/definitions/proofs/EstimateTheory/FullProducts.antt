-- Least costs that a target alone shows, of products without a conjunct.
use Rattle.std.proofs.Common.{ℕ, inl, inr, refl, lit≤}
use Rattle.std.specs.List.{range_with_len}
use Rattle.definitions.specs.Plans.Path.{SegmentScan}
use Rattle.definitions.specs.Plans.Cost.{limit}
use Rattle.definitions.specs.Plans.PlanSpace.{Links, IsPlan, access, loop}
use Rattle.definitions.specs.Estimates.Version.{One, Three}
use Rattle.definitions.specs.Estimates.BlockSpace.{space_of}
use Rattle.definitions.specs.Examples.Estimates.Setups.{scan_of}
use Rattle.definitions.specs.Examples.Estimates.Products.{full, count_over, loops_over, TargetsOfProducts}
use Rattle.definitions.proofs.EstimateTheory.Targets.{by_target}

none_linked : (s t : ℕ) → Links (space_of One full (count_over 12)) s t → ⊥
none_linked s t (number, conjunct, is, early, names, meets, within) = absurd cc

twelve : IsPlan (space_of One full (count_over 12)) (loops_over (scan_of 0) (range_with_len 1 11))
twelve = loop _ (SegmentScan 11) (loop _ (SegmentScan 10) (loop _ (SegmentScan 9) (loop _ (SegmentScan 8) (loop _ (SegmentScan 7) (loop _ (SegmentScan 6) (loop _ (SegmentScan 5) (loop _ (SegmentScan 4) (loop _ (SegmentScan 3) (loop _ (SegmentScan 2) (loop _ (SegmentScan 1) (access (SegmentScan 0) (lit≤ tt) (0, lit≤ tt, refl)) ((lit≤ tt, refl, inr (inr (λ u lt l. none_linked _ u))), (0, lit≤ tt, refl))) ((lit≤ tt, refl, inr (inr (λ u lt l. none_linked _ u))), (0, lit≤ tt, refl))) ((lit≤ tt, refl, inr (inr (λ u lt l. none_linked _ u))), (0, lit≤ tt, refl))) ((lit≤ tt, refl, inr (inr (λ u lt l. none_linked _ u))), (0, lit≤ tt, refl))) ((lit≤ tt, refl, inr (inr (λ u lt l. none_linked _ u))), (0, lit≤ tt, refl))) ((lit≤ tt, refl, inr (inr (λ u lt l. none_linked _ u))), (0, lit≤ tt, refl))) ((lit≤ tt, refl, inr (inr (λ u lt l. none_linked _ u))), (0, lit≤ tt, refl))) ((lit≤ tt, refl, inr (inr (λ u lt l. none_linked _ u))), (0, lit≤ tt, refl))) ((lit≤ tt, refl, inr (inr (λ u lt l. none_linked _ u))), (0, lit≤ tt, refl))) ((lit≤ tt, refl, inr (inr (λ u lt l. none_linked _ u))), (0, lit≤ tt, refl))) ((lit≤ tt, refl, inr (inr (λ u lt l. none_linked _ u))), (0, lit≤ tt, refl))

fourteen : IsPlan (space_of Three full (count_over 14)) (loops_over (scan_of 0) (range_with_len 1 13))
fourteen = loop _ (SegmentScan 13) (loop _ (SegmentScan 12) (loop _ (SegmentScan 11) (loop _ (SegmentScan 10) (loop _ (SegmentScan 9) (loop _ (SegmentScan 8) (loop _ (SegmentScan 7) (loop _ (SegmentScan 6) (loop _ (SegmentScan 5) (loop _ (SegmentScan 4) (loop _ (SegmentScan 3) (loop _ (SegmentScan 2) (loop _ (SegmentScan 1) (access (SegmentScan 0) (lit≤ tt) (0, lit≤ tt, refl)) ((lit≤ tt, refl, inl refl), (0, lit≤ tt, refl))) ((lit≤ tt, refl, inl refl), (0, lit≤ tt, refl))) ((lit≤ tt, refl, inl refl), (0, lit≤ tt, refl))) ((lit≤ tt, refl, inl refl), (0, lit≤ tt, refl))) ((lit≤ tt, refl, inl refl), (0, lit≤ tt, refl))) ((lit≤ tt, refl, inl refl), (0, lit≤ tt, refl))) ((lit≤ tt, refl, inl refl), (0, lit≤ tt, refl))) ((lit≤ tt, refl, inl refl), (0, lit≤ tt, refl))) ((lit≤ tt, refl, inl refl), (0, lit≤ tt, refl))) ((lit≤ tt, refl, inl refl), (0, lit≤ tt, refl))) ((lit≤ tt, refl, inl refl), (0, lit≤ tt, refl))) ((lit≤ tt, refl, inl refl), (0, lit≤ tt, refl))) ((lit≤ tt, refl, inl refl), (0, lit≤ tt, refl))

pub products : TargetsOfProducts
products = (
  by_target (space_of One full (count_over 12)) (loops_over (scan_of 0) (range_with_len 1 11)) limit (lit≤ tt) (twelve, refl) tt refl ((lit≤ tt, tt), ((lit≤ tt, tt), ((lit≤ tt, tt), ((lit≤ tt, tt), ((lit≤ tt, tt), ((lit≤ tt, tt), ((lit≤ tt, tt), ((lit≤ tt, tt), ((lit≤ tt, tt), ((lit≤ tt, tt), ((lit≤ tt, tt), ((lit≤ tt, tt), tt)))))))))))),
  by_target (space_of Three full (count_over 14)) (loops_over (scan_of 0) (range_with_len 1 13)) limit (lit≤ tt) (fourteen, refl) tt refl ((lit≤ tt, tt), ((lit≤ tt, tt), ((lit≤ tt, tt), ((lit≤ tt, tt), ((lit≤ tt, tt), ((lit≤ tt, tt), ((lit≤ tt, tt), ((lit≤ tt, tt), ((lit≤ tt, tt), ((lit≤ tt, tt), ((lit≤ tt, tt), ((lit≤ tt, tt), ((lit≤ tt, tt), ((lit≤ tt, tt), tt)))))))))))))),
)
