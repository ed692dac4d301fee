-- The bounds of cells of which nothing is known (this project's own).
pub use Rattle.cpa_interval_bounds.specs.Tables.{ranges_of}
