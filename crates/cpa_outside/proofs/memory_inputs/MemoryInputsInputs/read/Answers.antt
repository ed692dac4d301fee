use Rattle.std.proofs.Common.{◌≡◌, Bool, true, sym, ◌∙◌, refl, arith}
use Rattle.cpa_outside.specs.OutsideMemory.{place_of}
use Rattle.cpa_outside.proofs.Places.{place_of-told, place_of-apart, first_bytes-at}
use Rattle.cpa_outside.proofs.Places.{first_bytes-past, IsTrue-left, IsTrue-missing, not_fails}
use Rattle.cpa_outside.proofs.Places.{none_listed, count-kept}
use Rattle.cpa_outside.proofs.SharedCounts.{counts-failed, counts-kept, fails-not}
use Rattle.cpa_outside.proofs.memory_inputs.MemoryInputsInputs.read.Goals as goal

pub returns-then-next_fails-clause-others : goal.returns-then-next_fails-clause-others
returns-then-next_fails-clause-others c = λ other differ told.
    let files = c.args.self.now.files.items in
    let place = rw c.deref.ensures.value at c.find_place-place.ensures.place in
    let apart = place_of-apart files c.args.name.now other differ (place_of-told files other told)
    in
    count-kept c.args.self.now.faults _ _ (place_of files other) c.deref_mut.ensures.value
    (omega arith) (c.count_fault.ensures.others (place_of files other) (λ same. apart (same
    ∙ place)))

pub returns-then-next_fails-clause-fails : goal.returns-then-next_fails-clause-fails
returns-then-next_fails-clause-fails c =
    let place = rw c.deref.ensures.value at c.find_place-place.ensures.place in
    elim c.then-next_fails.branch [
      | goal.then-next_fails-via-then-next_fails w ↦ (
        λ _.
            IsTrue-left _ _ (sym w.if-next_fails.ensures.answer),
        λ _. refl,
      )
      | goal.then-next_fails-via-else-next_fails+then-place-len w ↦ (
        λ _.
            IsTrue-missing _ _ (first_bytes-past c.args.self.now.files.items c.args.name.now
            (omega (arith, place))),
        λ _. refl,
      )
    ]

pub returns-then-next_fails-clause-steady : goal.returns-then-next_fails-clause-steady
returns-then-next_fails-clause-steady c = λ none other told.
    let files = c.args.self.now.files.items in
    let place = rw c.deref.ensures.value at c.find_place-place.ensures.place in
    let there = place_of-told files other told in
    elim c.then-next_fails.branch [
      | goal.then-next_fails-via-then-next_fails w ↦ absurd
          (none_listed _ _ none w.if-next_fails.ensures.answer)
      | goal.then-next_fails-via-else-next_fails+then-place-len w ↦ count-kept
          c.args.self.now.faults _ _ (place_of files other) c.deref_mut.ensures.value (omega arith)
          (c.count_fault.ensures.others (place_of files other) (λ same. omega (arith, same, place)))
    ]

pub returns-clause-bytes : goal.returns-clause-bytes
returns-clause-bytes c =
    let place = rw c.deref.ensures.value at c.find_place-place.ensures.place in
    let told = first_bytes-at c.args.self.now.files.items c.args.name.now c.find_place-place.result
    c.index.result.now place (omega arith) c.index.ensures in
    rw told (rw c.deref-2.ensures.value at c.copy_within.ensures.ok)

pub returns-clause-too_long : goal.returns-clause-too_long
returns-clause-too_long c =
    let place = rw c.deref.ensures.value at c.find_place-place.ensures.place in
    let told = first_bytes-at c.args.self.now.files.items c.args.name.now c.find_place-place.result
    c.index.result.now place (omega arith) c.index.ensures in
    rw told (rw c.deref-2.ensures.value at c.copy_within.ensures.too_long)

pub returns-clause-long : goal.returns-clause-long
returns-clause-long c =
    let place = rw c.deref.ensures.value at c.find_place-place.ensures.place in
    let told = first_bytes-at c.args.self.now.files.items c.args.name.now c.find_place-place.result
    c.index.result.now place (omega arith) c.index.ensures in
    rw told (rw c.deref-2.ensures.value at c.copy_within.ensures.long)

pub returns-clause-fails : goal.returns-clause-fails
returns-clause-fails c =
    let place = rw c.deref.ensures.value at c.find_place-place.ensures.place in
    let told = first_bytes-at c.args.self.now.files.items c.args.name.now c.find_place-place.result
    c.index.result.now place (omega arith) c.index.ensures in
    not_fails _ _ _ c.copy_within.ensures.not_failed (sym c.if-next_fails.ensures.answer) told

pub returns-then-next_fails-clause-counts : goal.returns-then-next_fails-clause-counts
returns-then-next_fails-clause-counts c = λ other.
    let files = c.args.self.now.files.items in
    let place = rw c.deref.ensures.value at c.find_place-place.ensures.place in
    let raised = λ (fails : Bool) (is : fails ≡ true). counts-failed files c.args.self.now.faults _
    _ c.args.name.now other _ fails is place c.deref_mut.ensures.value (omega arith)
    c.count_fault.ensures.value c.count_fault.ensures.others in
    elim c.then-next_fails.branch [
      | goal.then-next_fails-via-then-next_fails w ↦ raised _
          (IsTrue-left _ _ (sym w.if-next_fails.ensures.answer))
      | goal.then-next_fails-via-else-next_fails+then-place-len w ↦ raised _
          (IsTrue-missing _ _ (first_bytes-past files c.args.name.now (omega (arith, place))))
    ]

pub returns-clause-counts : goal.returns-clause-counts
returns-clause-counts c = λ other.
    let place = rw c.deref.ensures.value at c.find_place-place.ensures.place in
    let told = first_bytes-at c.args.self.now.files.items c.args.name.now c.find_place-place.result
    c.index.result.now place (omega arith) c.index.ensures in
    counts-kept _ _ _ _ (fails-not _ _ (sym c.if-next_fails.ensures.answer) told)
