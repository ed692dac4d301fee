-- When a row covers another one (CAV 2007, section 4): the definitions of `cpa_composite_covers`.
pub use Rattle.cpa_composite_covers.specs.Covers.{all_cover, IsWithinRow}
