-- what those who work on a plan space name of its interesting orders
pub use Rattle.interesting_orders.specs.Merges
pub use Rattle.interesting_orders.specs.Sorts
