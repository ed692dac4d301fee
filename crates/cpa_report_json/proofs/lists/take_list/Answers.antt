use Rattle.std.proofs.Common.{◌∙◌, List, ap, length, arith}
use Rattle.json.specs.Token.{Token}
use Rattle.cpa_report_json.proofs.Takings.{begun, ended, next, taken, rest_of, one_fits_more}
use Rattle.cpa_report_json.proofs.lists.take_list.Goals as goal

pub items-init : goal.items-init
items-init g c =
    let none = c.new-found.ensures in (
      λ xs rest fit is. rw none (begun g.T.FromJson.json g.T.FromJson.fits xs rest _ fit is),
      rw none tt,
      omega arith,
    )

pub items-preserved : goal.items-preserved
items-preserved g c = (
  λ xs rest fit is.
      let n =
      next g.T.FromJson.json g.T.FromJson.fits xs c.items.found rest c.items.reader
      (c.items.invariant.0 xs rest fit is) c.items-test.ensures.0 in
      let took =
      c.in-Ok.ensures.took n.head (rest_of g.T.FromJson.json g.T.FromJson.fits n.more rest) n.fits
      (c.items-test.ensures.1 ∙ n.tokens) in
      rw c.in_ok-push.ensures.ok
      (taken g.T.FromJson.json g.T.FromJson.fits xs c.items.found c.in-Ok.item rest c.items.reader
      c.take.new.reader n took.0 took.1),
  rw c.in_ok-push.ensures.ok
      (one_fits_more g.T.FromJson.fits c.items.found c.in-Ok.item c.items.invariant.1
      c.in-Ok.ensures.fit),
  let less = c.in-Ok.ensures.shorter in
      let was = c.items.invariant.2 in
      let same = ap (λ (ts : List Token). length ts) c.items-test.ensures.1 in
      omega arith,
)

pub returns-in-Err-clause-took : goal.returns-in-Err-clause-took
returns-in-Err-clause-took g c xs rest fit is =
    let opened =
    c.in_ok-open_list.ensures.took (rest_of g.T.FromJson.json g.T.FromJson.fits xs rest) is in
    let n =
    next g.T.FromJson.json g.T.FromJson.fits xs c.items.found rest c.items.reader
    (c.items.invariant.0 xs rest fit opened) c.items-test.ensures.0 in
    c.in-Err.ensures.took n.head (rest_of g.T.FromJson.json g.T.FromJson.fits n.more rest) n.fits
    (c.items-test.ensures.1 ∙ n.tokens)

pub returns-clause-took : goal.returns-clause-took
returns-clause-took g c xs rest fit is =
    let opened =
    c.in_ok-open_list.ensures.took (rest_of g.T.FromJson.json g.T.FromJson.fits xs rest) is in
    ended g.T.FromJson.json g.T.FromJson.fits xs c.items.found rest c.items.reader
    c.take_end_array.new.self (c.items.invariant.0 xs rest fit opened) c.items-test.ensures
