-- That a turn keeps the journal of its reached set (`turned_journal`).
use Rattle.std.proofs.Common.{◌≡◌, ℕ, ◌≤◌, List, [], ◌∷◌, ◌++◌, refl}
use Rattle.std.proofs.Common.{sym, ap}
use Rattle.std.proofs.Common.{◌∙◌, subst, inl, inr, ⊎_elim, arith}
use Rattle.std.specs.Prelude.{◌⊎◌}
use Rattle.std.specs.List.{flat_map}
use Rattle.std.proofs.lemmas.Bool.{both_ways}
use Rattle.std.proofs.lemmas.Grind.{flat_map-append}
use Rattle.cpa_model.specs.declared.automaton.Cfa.{Cfa}
use Rattle.cpa_iface.specs.declared.entries.Turn.{Turn}
use Rattle.cpa_iface.specs.declared.merging.Order.{Order}
use Rattle.cpa_composite.specs.Components.{Component}
use Rattle.cpa_reached.specs.Members.{IsIn}
use Rattle.cpa_reached.specs.Entries.{ReachedSet, IsNext}
use Rattle.cpa_reached.specs.Calls.{taken, closed}
use Rattle.cpa_engine_turn.specs.Turns.{IsNamed, firsts, seconds}
use Rattle.cpa_engine_turn.specs.Journals.{brought, numbers_of, all_brought, all_taken}
use Rattle.cpa_engine_turn.specs.Journals.{all_replaced}
use Rattle.cpa_engine_turn.specs.Journals.{all_numbers, MayFollow, MayCome, IsJournalOf}
use Rattle.cpa_engine_turn.specs.lemmas.Lists.{in_both, in_front, in_back, in_push, map_push}
use Rattle.cpa_engine_turn.proofs.Effects.{HasAlike}
use Rattle.cpa_engine_turn.proofs.Progress.{CameIn}
use Rattle.cpa_engine_turn.proofs.Turning.{Ended, ended, waits_there, alike_was, old_below}
use Rattle.cpa_engine_turn.specs.Stages.{Stage}
use Rattle.cpa_engine_turn.specs.Steps.{GoesOn}

-- rows with one more
no_more : (xs : List ℕ) → xs ++ [] ≡ xs
no_more [] = refl
no_more (x ∷ xs) = ap (λ (l : List ℕ). x ∷ l) (no_more xs)

flat_push : (f : Turn → List ℕ) (rows : List Turn) (row : Turn)
    → flat_map f (rows ++ row ∷ []) ≡ flat_map f rows ++ f row
flat_push f rows row =
    flat_map-append f rows (row ∷ []) ∙ ap (λ (l : List ℕ). flat_map f rows ++ l) (no_more (f row))

in_flat_push : (f : Turn → List ℕ) (rows : List Turn) (row : Turn) (n : ℕ)
    → IsIn n (flat_map f (rows ++ row ∷ [])) → IsIn n (flat_map f rows) ⊎ IsIn n (f row)
in_flat_push f rows row n there =
    in_both (flat_map f rows) (f row) n (subst (IsIn n) (flat_push f rows row) there)

flat_front : (f : Turn → List ℕ) (rows : List Turn) (row : Turn) (n : ℕ)
    → IsIn n (flat_map f rows) → IsIn n (flat_map f (rows ++ row ∷ []))
flat_front f rows row n there =
    subst (IsIn n) (sym (flat_push f rows row)) (in_front (flat_map f rows) (f row) n there)

flat_back : (f : Turn → List ℕ) (rows : List Turn) (row : Turn) (n : ℕ)
    → IsIn n (f row) → IsIn n (flat_map f (rows ++ row ∷ []))
flat_back f rows row n there =
    subst (IsIn n) (sym (flat_push f rows row)) (in_back (flat_map f rows) (f row) n there)

joined : (xs : List Turn) (x : Turn) (ys : List Turn) → (xs ++ x ∷ []) ++ ys ≡ xs ++ x ∷ ys
joined [] x ys = refl
joined (z ∷ xs) x ys = ap (λ (l : List Turn). z ∷ l) (joined xs x ys)

no_rows : (xs : List Turn) → xs ++ [] ≡ xs
no_rows [] = refl
no_rows (x ∷ xs) = ap (λ (l : List Turn). x ∷ l) (no_rows xs)

-- one more row may come where it may follow all
may_push : (began : List ℕ) (before rows : List Turn) (row : Turn) → MayCome began before rows
    → MayFollow began (before ++ rows) row → MayCome began before (rows ++ row ∷ [])
may_push began before [] row come follow =
    (subst (λ (l : List Turn). MayFollow began l row) (no_rows before) follow, tt)
may_push began before (first ∷ rows) row come follow = (
  come.0,
  may_push began (before ++ first ∷ []) rows row come.1
      (subst (λ (l : List Turn). MayFollow began l row) (sym (joined before first rows)) follow),
)

-- what a row brings is named by it
brought_named : (row : Turn) (n : ℕ) → IsIn n (brought row) → IsNamed row n
brought_named row n there = in_both row.added (seconds row.replaced) n there

named_brought : (row : Turn) (n : ℕ) → IsNamed row n → IsIn n (brought row)
named_brought row n (inl there) = in_front row.added (seconds row.replaced) n there
named_brought row n (inr there) = in_back row.added (seconds row.replaced) n there

-- numbers that are taken, replaced or brought are numbers of the rows
number_of_brought : (row : Turn) (n : ℕ) → IsIn n (brought row) → IsIn n (numbers_of row)
number_of_brought row n there = inr (in_back (firsts row.replaced) (brought row) n there)

number_of_first : (row : Turn) (n : ℕ) → IsIn n (firsts row.replaced) → IsIn n (numbers_of row)
number_of_first row n there = inr (in_front (firsts row.replaced) (brought row) n there)

flat_within : (f g : Turn → List ℕ) → ((row : Turn) (n : ℕ) → IsIn n (f row) → IsIn n (g row))
    → (rows : List Turn) (n : ℕ) → IsIn n (flat_map f rows) → IsIn n (flat_map g rows)
flat_within f g each [] n there = there
flat_within f g each (row ∷ rows) n there =
    ⊎_elim (λ here. in_front (g row) (flat_map g rows) n (each row n here))
    (λ later. in_back (g row) (flat_map g rows) n (flat_within f g each rows n later))
    (in_both (f row) (flat_map f rows) n there)

taken_within : (rows : List Turn) (n : ℕ) → IsIn n (all_taken rows) → IsIn n (all_numbers rows)
taken_within [] n there = there
taken_within (row ∷ rows) n (inl same) = inl same
taken_within (row ∷ rows) n (inr later) =
    in_back (numbers_of row) (all_numbers rows) n (taken_within rows n later)

-- the row of the turn
may_follow : (cfa : Cfa) (cs : List Component) (r : ReachedSet) (n : ℕ) (last : Stage)
    (began : List ℕ) → Ended cfa cs r n last → IsJournalOf began r
    → MayFollow began r.journal last.row
may_follow cfa cs r n last began end of =
    let row = last.row in
    let e = end.waiting.entry in
    let is : row.taken ≡ e.number = end.taken ∙ sym end.waiting.is in
    let from : (m : ℕ) → IsIn m (brought row) → r.next ≤ m =
    λ m there. (end.so.brought m (brought_named row m there)).0 in
    record {
      above_first = λ k m in_k in_m.
          let low = of.began_below k in_k in let up = from m in_m in omega (arith, low, up);
      above_earlier = λ k m in_k in_m.
          let low = of.rows_below k in_k in let up = from m in_m in omega (arith, low, up);
      above_taken = λ k m in_k in_m. ⊎_elim
          (λ same. let low = old_below r e end.numbered end.waiting.is_in in
          let up = from m in_m in omega (arith, low, up, same, is))
          (λ none. absurd none) in_k;
      known = subst (λ (k : ℕ). IsIn k began ⊎ IsIn k (all_brought r.journal)) (sym is)
          (of.known e end.waiting.is_in);
      lasts = λ there. of.lasts e end.waiting.is_in
          (subst (λ (k : ℕ). IsIn k (all_replaced r.journal)) is there);
      once = λ there. of.untaken e end.waiting.is_in end.waiting.waiting
          (subst (λ (k : ℕ). IsIn k (all_taken r.journal)) is there);
    }

pub journal_of : (cfa : Cfa) (cs : List Component) (r : ReachedSet) (n : ℕ) (last : Stage)
    (began : List ℕ) → Ended cfa cs r n last → IsJournalOf began r
    → IsJournalOf began (closed last.reached last.row)
journal_of cfa cs r n last began end of =
    let so = end.so in
    let row = last.row in
    let rows = r.journal in
    let new = closed last.reached row in
    let same : new.journal ≡ rows ++ row ∷ [] =
    ap (λ (l : List Turn). l ++ row ∷ []) end.journal in
    let up = so.rises in
    record {
      journal = subst (MayCome began []) (sym same)
          (may_push began [] rows row of.journal (may_follow cfa cs r n last began end of));
      began_below = λ m there. let low = of.began_below m there in omega (arith, low, up);
      rows_below = λ m there. ⊎_elim
          (λ was. let low = of.rows_below m was in omega (arith, low, up))
          (λ here. ⊎_elim
          (λ is_taken. let low = old_below r end.waiting.entry end.numbered end.waiting.is_in in
          let is = end.waiting.is in let also = end.taken in
          omega (arith, low, up, is, also, is_taken))
          (λ later. ⊎_elim (λ first. (so.first m first).0)
          (λ came. (so.brought m (brought_named row m came)).1)
          (in_both (firsts row.replaced) (brought row) m later)) here)
          (in_flat_push numbers_of rows row m
          (subst (λ (l : List Turn). IsIn m (all_numbers l)) same there));
      known = λ e there. subst (λ (l : List Turn). IsIn e.number began
          ⊎ IsIn e.number (all_brought l)) (sym same) (⊎_elim
          (λ (has : HasAlike (taken n r).live e).
          let was = alike_was r n e has in
          ⊎_elim (λ stood. inl (subst (λ (k : ℕ). IsIn k began) (sym was.number) stood))
          (λ came. inr (flat_front brought rows row e.number
          (subst (λ (k : ℕ). IsIn k (all_brought rows)) (sym was.number) came)))
          (of.known was.entry was.is_in))
          (λ (came : CameIn r.next last e).
          inr (flat_back brought rows row e.number (named_brought row e.number came.named)))
          (so.known e there));
      lasts = λ e there gone. ⊎_elim
          (λ was. ⊎_elim
          (λ (has : HasAlike (taken n r).live e).
          let w = alike_was r n e has in
          of.lasts w.entry w.is_in (subst (λ (k : ℕ). IsIn k (all_replaced rows)) w.number was))
          (λ (came : CameIn r.next last e).
          let low = of.rows_below e.number
          (flat_within (λ (t : Turn). firsts t.replaced) numbers_of number_of_first rows e.number
          was)
          in
          let from = came.from in absurd (omega (arith, low, from)))
          (so.known e there))
          (λ here. so.gone e.number here (record { entry = e; is_in = there; is = refl }))
          (in_flat_push (λ (t : Turn). firsts t.replaced) rows row e.number
          (subst (λ (l : List Turn). IsIn e.number (all_replaced l)) same gone));
      untaken = λ e there waiting is_taken. ⊎_elim
          (λ was. ⊎_elim
          (λ (has : HasAlike (taken n r).live e).
          let w = alike_was r n e has in
          of.untaken w.entry w.is_in (w.waited waiting)
          (subst (λ (k : ℕ). IsIn k (all_taken rows)) w.number was))
          (λ (came : CameIn r.next last e).
          let low = of.rows_below e.number (taken_within rows e.number was) in
          let from = came.from in absurd (omega (arith, low, from)))
          (so.known e there))
          (λ here. ⊎_elim
          (λ (has : HasAlike (taken n r).live e).
          both_ways e.waiting ((alike_was r n e has).rests (sym here ∙ end.taken)) waiting)
          (λ (came : CameIn r.next last e).
          let low = old_below r end.waiting.entry end.numbered end.waiting.is_in in
          let is = end.waiting.is in let also = end.taken in let from = came.from in
          absurd (omega (arith, low, is, also, from, here)))
          (so.known e there))
          (in_push (all_taken rows) row.taken e.number
          (subst (IsIn e.number) (map_push (λ (t : Turn). t.taken) rows row)
          (subst (λ (l : List Turn). IsIn e.number (all_taken l)) same is_taken)));
    }

pub turned_journal : (cfa : Cfa) (cs : List Component) (order : Order) (r : ReachedSet) (n : ℕ)
    (new : ReachedSet) (began : List ℕ) → IsNext order r.live n
    → GoesOn cfa cs n (taken n r) new → IsJournalOf began r → IsJournalOf began new
turned_journal cfa cs order r n new began next goes of =
    subst (IsJournalOf began) (sym goes.closed)
    (journal_of cfa cs r n goes.last began
    (ended cfa cs r n goes.last goes.ordered (waits_there r.live n next.waits) goes.leads)
    of)
