-- What holds of a reached set still holds after a turn (`turn_stands`), and the entries that were
-- looked at are still no errors (`turn_checked`).
use Rattle.std.proofs.Common.{◌≡◌, ℕ, ◌+◌, ◌<◌, ◌≤◌, false, List, [], ◌∷◌}
use Rattle.std.proofs.Common.{◌++◌}
use Rattle.std.proofs.Common.{length, refl, sym, ap, ◌∙◌, subst, inr, ⊎_elim, arith}
use Rattle.std.proofs.lemmas.List.{length-append, append_assoc}
use Rattle.cpa_model.specs.declared.automaton.Cfa.{Cfa}
use Rattle.cpa_model.specs.declared.facts.Elem.{Elem}
use Rattle.cpa_model.specs.declared.states.State.{State}
use Rattle.cpa_iface.specs.declared.analysis.Settings.{Settings}
use Rattle.cpa_iface.specs.declared.entries.Entry.{Entry}
use Rattle.cpa_iface.specs.declared.entries.Turn.{Turn}
use Rattle.cpa_iface.specs.declared.merging.Order.{Order}
use Rattle.cpa_composite.specs.Components.{Component}
use Rattle.cpa_reached.specs.Entries.{ReachedSet}
use Rattle.cpa_reached.specs.Members.{IsIn}
use Rattle.cpa_reached.specs.Successors.{CoversSuccessors}
use Rattle.cpa_engine_turn.specs.Bounds.{turns_left, KeysBound, AreBounded, StatesBound, ArePinned}
use Rattle.cpa_engine_turn.specs.Journals.{IsJournalOf, MayCome, MayFollow, brought, numbers_of}
use Rattle.cpa_engine_turn.specs.Journals.{all_brought, all_numbers}
use Rattle.cpa_engine_turn.specs.Keys.{WidenBesideKeys, HaveOwnKeys}
use Rattle.cpa_engine_turn.specs.Turns.{AreEntries, Turned, IsNamed, seconds, firsts, IsFollowedBy}
use Rattle.cpa_engine_turn.specs.Turns.{at_once, later}
use Rattle.cpa_engine_turn.specs.lemmas.Lists.{in_both, in_front, in_back, in_map_of}
use Rattle.cpa_engine_laws.specs.Lines.{AreKeyLines, ArePinLines, PinStates}
use Rattle.cpa_engine_rounds.specs.Errors.{may_err, NoneErr, NoneErrBelow}
use Rattle.cpa_engine.specs.Searches.{Stands}

-- What the clauses of a turn say, where it goes on.
pub record TurnKeeps (cfa : Cfa) (cs : List Component) (order : Order) (old new : ReachedSet)
    : Type 0 where
  pub turned : Turned cfa cs order old new
  pub entries : AreEntries cfa (length cs) new.live
  pub places : new.places ≡ old.places
  pub covers : CoversSuccessors cfa old.live → CoversSuccessors cfa new.live
  pub journal : (began : List ℕ) → IsJournalOf began old → IsJournalOf began new
  pub keys : WidenBesideKeys cs → HaveOwnKeys cs old.live → HaveOwnKeys cs new.live
  pub bound : (keys : List (List Elem)) → KeysBound cfa cs keys → AreBounded cfa cs keys old.live
      → AreBounded cfa cs keys new.live
      × (turns_left cfa cs (length keys) new.live < turns_left cfa cs (length keys) old.live)
  pub pins : (states : List State) → StatesBound cfa cs states → ArePinned cfa cs states old.live
      → ArePinned cfa cs states new.live
      × (turns_left cfa cs (length states) new.live < turns_left cfa cs (length states) old.live)
  pub lines : AreKeyLines cfa cs old.live → AreKeyLines cfa cs new.live
  pub pin_lines : PinStates cs → ArePinLines cfa cs old.live → ArePinLines cfa cs new.live
  pub alike : (d e : Entry) → IsIn d new.live → IsIn e new.live → d.number ≡ e.number
      → d.elems ≡ e.elems

pub one_row_more : (cfa : Cfa) (cs : List Component) (order : Order) (old new : ReachedSet)
    → Turned cfa cs order old new → length new.journal ≡ length old.journal + 1
one_row_more cfa cs order old new turned =
    ap (λ (rows : List Turn). length rows) turned.closed
    ∙ length-append old.journal (turned.row ∷ [])

pub turn_stands : (cfa : Cfa) (cs : List Component) (settings : Settings) (order : Order)
    (old new : ReachedSet) → TurnKeeps cfa cs order old new → Stands cfa cs settings old
    → Stands cfa cs settings new
turn_stands cfa cs settings order old new keeps stands =
    let more = one_row_more cfa cs order old new keeps.turned in
    record {
      entries = keeps.entries;
      places = keeps.places ∙ stands.places;
      covers = keeps.covers stands.covers;
      began = stands.began;
      journal = keeps.journal stands.began stands.journal;
      own = λ widen. keeps.keys widen (stands.own widen);
      lines = keeps.lines stands.lines;
      exact = λ exact. keeps.pin_lines exact.pinning (stands.exact exact);
      counted = λ keys is.
          let was = stands.counted keys is in
          let now = keeps.bound keys is.bound was.0 in
          let few = was.1 in
          let fewer = now.1 in (now.0, omega (arith, few, fewer, more));
      pinned = λ states is.
          let was = stands.pinned states is in
          let now = keeps.pins states is.bound was.0 in
          let few = was.1 in
          let fewer = now.1 in (now.0, omega (arith, few, fewer, more));
    }

-- ---- entries that were looked at

-- the last row follows those before it
last_follows : (began : List ℕ) (before rows : List Turn) (row : Turn)
    → MayCome began before (rows ++ row ∷ []) → MayFollow began (before ++ rows) row
last_follows began before [] row may =
    subst (λ (all : List Turn). MayFollow began all row) (sym (nothing_more before)) may.0
  where
    nothing_more : (xs : List Turn) → xs ++ [] ≡ xs
    nothing_more [] = refl
    nothing_more (x ∷ xs) = ap (λ (ys : List Turn). x ∷ ys) (nothing_more xs)
last_follows began before (x ∷ rows) row may =
    subst (λ (all : List Turn). MayFollow began all row) (append_assoc before (x ∷ []) rows)
    (last_follows began (before ++ x ∷ []) rows row may.1)

-- what was brought is numbered
brought_numbered : (rows : List Turn) (n : ℕ) → IsIn n (all_brought rows)
    → IsIn n (all_numbers rows)
brought_numbered [] n there = absurd there
brought_numbered (row ∷ rows) n there =
    ⊎_elim
    (λ here. in_front (numbers_of row) (all_numbers rows) n
    (inr (in_back (firsts row.replaced) (brought row) n here)))
    (λ behind. in_back (numbers_of row) (all_numbers rows) n (brought_numbered rows n behind))
    (in_both (brought row) (all_brought rows) n there)

-- what a turn brings has a number above those of all entries before it
brought_above : (began : List ℕ) (old new : ReachedSet) (row : Turn) → IsJournalOf began old
    → IsJournalOf began new → new.journal ≡ old.journal ++ row ∷ [] → (n : ℕ) → IsNamed row n
    → (d : Entry) → IsIn d old.live → d.number < n
brought_above began old new row of_old of_new closed n named d there =
    let follows = last_follows began [] old.journal row
    (subst (MayCome began []) closed of_new.journal) in
    let is_brought : IsIn n (brought row) =
    ⊎_elim (λ added. in_front row.added (seconds row.replaced) n added)
    (λ second. in_back row.added (seconds row.replaced) n second) named in
    ⊎_elim
    (λ first. follows.above_first d.number n first is_brought)
    (λ earlier. follows.above_earlier d.number n (brought_numbered old.journal d.number earlier)
    is_brought)
    (of_old.known d there)

-- what was replaced is named first in a pair
first_named : (pairs : List (ℕ × ℕ)) (n m : ℕ) → IsFollowedBy pairs n m → IsIn n (firsts pairs)
first_named pairs n m (at_once k there) = in_map_of (λ (p : ℕ × ℕ). p.0) pairs (n, k) there
first_named pairs n m (later k j follows there) = first_named pairs n k follows

pub turn_checked : (cfa : Cfa) (cs : List Component) (settings : Settings) (order : Order)
    (old new : ReachedSet) (checked : ℕ) → TurnKeeps cfa cs order old new
    → Stands cfa cs settings old → NoneErr cfa old.live
    → ((n : ℕ) → ((e : Entry) → IsIn e old.live → e.number < n) → checked ≤ n)
    → NoneErrBelow cfa checked new.live
turn_checked cfa cs settings order old new checked keeps stands none least e there less =
    let turn = keeps.turned.turn in
    ⊎_elim
    (λ live.
    let d = live.entry in
    let safe : may_err cfa d.elems ≡ false = none d live.is_in in
    ⊎_elim
    (λ stays.
    let same = keeps.alike e stays.entry there stays.is_in
    (sym live.is ∙ sym stays.number) in
    subst (λ (es : List Elem). may_err cfa es ≡ false) (sym (same ∙ stays.elems)) safe)
    (λ replaced. absurd (turn.gone d.number
    (first_named keeps.turned.row.replaced d.number replaced.entry.number replaced.follows)
    (record { entry = e; is_in = there; is = sym live.is })))
    (turn.entries d live.is_in))
    (λ named.
    let low = least e.number
    (λ d in_d. brought_above stands.began old new keeps.turned.row stands.journal
    (keeps.journal stands.began stands.journal) keeps.turned.closed e.number named d in_d) in
    absurd (omega (arith, low, less)))
    (turn.named e there)
