-- One turn of each loop.
use Rattle.std.proofs.Common.{◌≡◌, ◌+◌, ◌∷◌, drop, sym, ap, ◌∙◌, arith, rules}
use Rattle.std.proofs.lemmas.List.{drop_more}
use Rattle.c_types_rules.specs.declared.meaning.Role.TheVariants.{Valued, Evaluated}
use Rattle.c_types_expressions.specs.Read.{typed_of, role_faults, role_calls, link_typed}
use Rattle.c_types_expressions.specs.Read.{link_faults}
use Rattle.c_types_expressions.specs.Read.{link_calls}
use Rattle.c_types_expressions.specs.Turns.{added, mapped, noted}
use Rattle.c_types_expressions.proofs.Steps.{joined_on, last_on, values_on}
use Rattle.c_types_expressions.proofs.Steps.{part_on, typed_on, first_on, calls_on, calls_end}
use Rattle.c_types_expressions.proofs.read.Reader.+read.Goals as goal

pub read_links-loop-link-preserved : goal.read_links-loop-link-preserved
read_links-loop-link-preserved t c =
    let l = c.loop-link in
    let i = l.link-index in
    let xs = c.args.rest.now in
    let x = c.link-item.result in
    let s = c.args.self.now.survey.now in
    let n = c.args.self.now.names.now in
    let caller = c.args.self.now.caller in
    let here : drop i xs ≡ x ∷ drop (i + 1) xs =
    drop_more xs i x (omega arith) ∙ ap (λ y. y ∷ drop (i + 1) xs) (sym c.link-item.is) in
    let read = c.in_ok-read.ensures in
    record {
      ty = joined_on s n xs i x here l.ty _ _ c.in_ok-read.read.part read.part (search rules)
          l.invariant.ty;
      typed = mapped xs i x here (link_typed s n) l.typed.items _ _ (x.0, c.in_ok-read.read.typed)
          (search rules) (ap (λ e. (x.0, e)) read.typed) l.invariant.typed;
      first = noted xs i x here (link_faults s n) l.notes.first _ _ read.first l.invariant.first;
      calls = added xs i x here (link_calls s n caller) l.notes.calls.items _ _ read.calls
          l.invariant.calls;
    }

pub read_items-loop-item-preserved : goal.read_items-loop-item-preserved
read_items-loop-item-preserved t c =
    let l = c.loop-item in
    let i = l.item-index in
    let xs = c.args.items.now in
    let x = c.item-item.result in
    let s = c.args.self.now.survey.now in
    let n = c.args.self.now.names.now in
    let caller = c.args.self.now.caller in
    let here : drop i xs ≡ x ∷ drop (i + 1) xs =
    drop_more xs i x (omega arith) ∙ ap (λ y. y ∷ drop (i + 1) xs) (sym c.item-item.is) in
    let read = c.in_ok-read.ensures in
    record {
      kind = last_on s n xs i x here l.kind _ _ c.in_ok-read.read.part read.part (search rules)
          l.invariant.kind;
      typed = mapped xs i x here (typed_of s n) l.typed.items _ _ c.in_ok-read.read.typed
          (search rules) read.typed l.invariant.typed;
      first = noted xs i x here (role_faults s n Evaluated) l.notes.first _ _ read.first
          l.invariant.first;
      calls = added xs i x here (role_calls s n caller Evaluated) l.notes.calls.items _ _
          read.calls l.invariant.calls;
    }

pub read_arguments-loop-argument-preserved : goal.read_arguments-loop-argument-preserved
read_arguments-loop-argument-preserved t c =
    let l = c.loop-argument in
    let i = l.argument-index in
    let xs = c.args.arguments.now in
    let x = c.argument-item.result in
    let s = c.args.self.now.survey.now in
    let n = c.args.self.now.names.now in
    let caller = c.args.self.now.caller in
    let here : drop i xs ≡ x ∷ drop (i + 1) xs =
    drop_more xs i x (omega arith) ∙ ap (λ y. y ∷ drop (i + 1) xs) (sym c.argument-item.is) in
    let read = c.in_ok-read.ensures in
    record {
      kind = values_on s n xs i x here l.kind _ _ c.in_ok-read.read.part read.part (search rules)
          l.invariant.kind;
      typed = mapped xs i x here (typed_of s n) l.typed.items _ _ c.in_ok-read.read.typed
          (search rules) read.typed l.invariant.typed;
      first = noted xs i x here (role_faults s n Valued) l.notes.first _ _ read.first
          l.invariant.first;
      calls = added xs i x here (role_calls s n caller Valued) l.notes.calls.items _ _
          read.calls l.invariant.calls;
    }

pub read_suffixes-loop-suffix-preserved : goal.read_suffixes-loop-suffix-preserved
read_suffixes-loop-suffix-preserved t c =
    let l = c.loop-suffix in
    let i = l.suffix-index in
    let xs = c.args.suffixes.now in
    let x = c.suffix-item.result in
    let s = c.args.self.now.survey.now in
    let n = c.args.self.now.names.now in
    let caller = c.args.self.now.caller in
    let here : drop i xs ≡ x ∷ drop (i + 1) xs =
    drop_more xs i x (omega arith) ∙ ap (λ y. y ∷ drop (i + 1) xs) (sym c.suffix-item.is) in
    let read = c.in_ok-read.ensures in
    let part = c.in_ok-read.read.part in
    record {
      part = part_on s n xs i x here l.part part read.part _ l.invariant.part;
      typed = typed_on s n xs i x here l.part part read.part l.typed.items _ _
          c.in_ok-read.read.typed (search rules) read.typed l.invariant.typed;
      first = first_on s n xs i x here l.part part read.part l.notes.first _ _ read.first
          l.invariant.first;
      calls = calls_on s n xs i x here l.part part read.part caller l.notes.calls.items _ _
          read.calls l.invariant.calls;
    }

pub read_suffixes-returns-clause-calls : goal.read_suffixes-returns-clause-calls
read_suffixes-returns-clause-calls t c =
    let l = c.loop-suffix in
    let reader = c.args.self.now in
    calls_end reader.survey.now reader.names.now c.args.suffixes.now l.suffix-index l.part
    reader.caller l.notes.calls.items _ (omega arith) l.invariant.calls
