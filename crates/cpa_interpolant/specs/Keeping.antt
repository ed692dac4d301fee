-- Acts along a path that fit the automaton, and the stores that they keep, for the crates above.
pub use Rattle.cpa_interpolant_rules.specs.lemmas.Keeping.{Keeps, AreLaws, keeps}
pub use Rattle.cpa_interpolant_rules.specs.lemmas.Keeping.{edge_there, edge_in}
