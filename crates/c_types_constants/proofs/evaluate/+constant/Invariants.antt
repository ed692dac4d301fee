-- What is left of a list makes what the whole makes.
use Rattle.std.proofs.Common.{◌≡◌, ◌||◌, drop, map}
use Rattle.std.specs.List.{list_any}
use Rattle.c_types_rules.specs.Constants.{constant, chained, last_value, comma_value}
use Rattle.c_types_constants.specs.Links.{link_constant, suffix_impure}
use Rattle.c_types_constants.proofs.evaluate.+constant.Given as goal

abbrev pub invariant-chained-loop-link : goal.invariant-chained-loop-link
invariant-chained-loop-link l =
    chained l.left (map link_constant (drop l.link-index l.rest))
    ≡ chained l.fn.left (map link_constant l.rest)

abbrev pub invariant-has_impure-loop-suffix : goal.invariant-has_impure-loop-suffix
invariant-has_impure-loop-suffix l =
    (l.found || list_any suffix_impure (drop l.suffix-index l.suffixes))
    ≡ list_any suffix_impure l.suffixes

abbrev pub invariant-comma-loop-item : goal.invariant-comma-loop-item
invariant-comma-loop-item l = record {
  impure : (l.is_impure || list_any (λ item. item.is_impure) (map constant
      (drop l.item-index l.items)))
      ≡ list_any (λ item. item.is_impure) (map constant l.items);
  value : last_value l.value (map constant (drop l.item-index l.items))
      ≡ comma_value (map constant l.items);
}
