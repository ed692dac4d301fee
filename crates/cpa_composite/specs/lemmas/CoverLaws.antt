-- That a row which is covered lies within the other: the lemma of `cpa_composite_covers`.
pub use Rattle.cpa_composite_covers.specs.lemmas.CoverLaws.{cover_within}
