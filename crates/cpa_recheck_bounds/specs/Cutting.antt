-- What the facts of an element leave of the bounds of cells (this project's own).
use Rattle.std.specs.Prelude.{pos, Bool, true, false, List, [], ◌∷◌, Option, None, Some}
use Rattle.std.specs.Prelude.{option_and_then}
use Rattle.cpa_expr.specs.declared.tree.CmpOp.TheVariants as cmp
use Rattle.cpa_expr.specs.declared.tree.Expr.{out-Expr}
use Rattle.cpa_facts.specs.declared.fact.Fact.{Fact}
use Rattle.cpa_facts.specs.declared.fact.Fact.TheVariants.{Equals, Within}
use Rattle.cpa_model.specs.declared.program.Cell.{Cell}
use Rattle.cpa_model.specs.declared.automaton.Act.{Act}
use Rattle.cpa_model.specs.declared.automaton.Act.TheVariants as act
use Rattle.cpa_folds.specs.declared.scalars.Scalar.{Scalar}
use Rattle.cpa_folds.specs.Scalars.{read_of}
use Rattle.cpa_interval_bounds.specs.declared.bounds.Bounds.{Bounds}
use Rattle.cpa_interval_bounds.specs.Bounds.{bounds, only}
use Rattle.cpa_interval_acts.specs.Acts.{after_act}
use Rattle.cpa_interval_acts.specs.Cuts.{cut_cell}
use Rattle.cpa_recheck_bounds.specs.declared.exact.Written.{Written}
use Rattle.cpa_recheck_bounds.specs.Exact.{cut_written}

-- the numbers that the fact leaves of its cell; nothing where it leaves none
abbrev pub cut_by : Fact → List Bounds → Option (List Bounds)
cut_by (Equals cell value) all = cut_cell cmp.Eq cell (only value) all
cut_by (Within cell lo hi) all = cut_cell cmp.Eq cell (bounds lo hi) all
cut_by fact all = Some all

-- what all facts leave
abbrev pub cut_by_all : List Fact → List Bounds → Option (List Bounds)
cut_by_all [] all = Some all
cut_by_all (fact ∷ facts) all = option_and_then (cut_by_all facts) (cut_by fact all)

-- a scalar that is to be nonzero, or zero
abbrev pub cut_scalar : Bool → Option Scalar → List Bounds → Option (List Bounds)
cut_scalar holds None all = Some all
cut_scalar true (Some read) all = cut_cell cmp.Ne read.cell (only (pos 0)) all
cut_scalar false (Some read) all = cut_cell cmp.Eq read.cell (only (pos 0)) all

-- what a test leaves that reads a scalar; any other test is left to the act
abbrev pub cut_by_test : Act → List Bounds → Option (List Bounds)
cut_by_test (act.Assume test holds) all = cut_scalar holds (read_of (out-Expr test)) all
cut_by_test other all = Some all

-- what the facts leave, and then the test
abbrev pub tested : List Fact → Act → List Bounds → Option (List Bounds)
tested facts a all = option_and_then (cut_by_test a) (cut_by_all facts all)

-- what the act makes of it, where it is known which cell it writes and what
abbrev pub stepped : List Cell → Act → Option Written → List Bounds → Option (List Bounds)
stepped cells a written all = option_and_then (cut_written written) (after_act cells a all)
