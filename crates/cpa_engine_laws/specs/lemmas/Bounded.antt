-- No more turns are left than keys and heights allow, wherever a round begins (`bounded_left`), or
-- than there are states (`pinned_left`), and one is due where an entry waits (`waits_due`).
use Rattle.std.proofs.Common.{◌≡◌, ℕ, zero, suc, ◌+◌, ◌*◌, ◌-◌, ◌≤◌, List, [], ◌∷◌, length, refl}
use Rattle.std.proofs.Common.{sym, subst, ap, inl, inr, ⊎_elim, arith}
use Rattle.std.specs.List.{AllByRecursion}
use Rattle.std.proofs.lemmas.Bool.{cases_Bool}
use Rattle.std.proofs.Math.Nat.{suc-mul}
use Rattle.cpa_model.specs.declared.automaton.Cfa.{Cfa}
use Rattle.cpa_model.specs.declared.facts.Elem.{Elem}
use Rattle.cpa_model.specs.declared.states.State.{State}
use Rattle.cpa_iface.specs.declared.entries.Entry.{Entry}
use Rattle.cpa_iface.specs.declared.merging.MergeRule.{MergeRule}
use Rattle.cpa_iface.specs.declared.merging.MergeRule.TheVariants.{Sep}
use Rattle.cpa_composite.specs.Components.{Component}
use Rattle.cpa_composite.specs.Ranks.{row_rank, row_height, rank_by, coarsest, IsRanked}
use Rattle.cpa_model.specs.Ascending.{AreAscending}
use Rattle.cpa_reached.specs.Members.{IsIn}
use Rattle.cpa_reached.specs.Entries.{numbers, waiting_numbers}
use Rattle.cpa_engine_turn.specs.Bounds.{turns_due, turns_left, AreBounded, ArePinned}
use Rattle.cpa_engine_turn.specs.Keys.{key_of}
use Rattle.cpa_engine_turn.specs.lemmas.Counted.{at_most_keys, at_most_states, no_ranks}

due_bound : (cfa : Cfa) (cs : List Component) (h : ℕ) (xs : List Entry)
    → ((e : Entry) → IsIn e xs → row_rank cfa cs e.elems ≤ h)
    → turns_due cfa cs xs ≤ length xs * (1 + h)
due_bound cfa cs h [] low = omega arith
due_bound cfa cs h (x ∷ xs) low =
    let rest = due_bound cfa cs h xs (λ e there. low e (inr there)) in
    let more = suc-mul (length xs) (1 + h) in
    let one = low x (inl refl) in
    ⊎_elim
    (λ yes. rw yes (omega (arith, one, rest, more)))
    (λ no. rw no (omega (arith, one, rest, more)))
    (cases_Bool x.waiting)

pub bounded_left : (cfa : Cfa) (cs : List Component) (keys : List (List Elem)) (xs : List Entry)
    → ((es : List Elem) → IsRanked cfa cs es → row_rank cfa cs es ≤ row_height cfa cs)
    → AreAscending (numbers xs) → AreBounded cfa cs keys xs
    → turns_left cfa cs (length keys) xs ≤ length keys * (1 + row_height cfa cs)
bounded_left cfa cs keys xs height up bounded =
    by (length keys) (length xs) (row_height cfa cs) (turns_due cfa cs xs)
    (at_most_keys (key_of cs) keys xs (λ e there. (bounded.keyed e there).is_in) bounded.own up)
    (due_bound cfa cs (row_height cfa cs) xs
    (λ e there. height e.elems (bounded.ranked e there)))
  where
    split : (d n k : ℕ) → (d + n) * k ≡ d * k + n * k
    split zero n k = omega arith
    split (suc d) n k =
        let rest = split d n k in
        let one = suc-mul (d + n) k in let two = suc-mul d k in omega (arith, rest, one, two)

    by : (c n h due : ℕ) → n ≤ c → due ≤ n * (1 + h) → (c - n) * (1 + h) + due ≤ c * (1 + h)
    by c n h due few low =
        let whole : (c - n) + n ≡ c = omega (arith, few) in
        let both : ((c - n) + n) * (1 + h) ≡ (c - n) * (1 + h) + n * (1 + h) =
        split (c - n) n (1 + h) in
        let same : ((c - n) + n) * (1 + h) ≡ c * (1 + h) = ap (λ (k : ℕ). k * (1 + h)) whole in
        omega (arith, both, same, low)

pub waits_due : (cfa : Cfa) (cs : List Component) (xs : List Entry)
    → (waiting_numbers xs ≡ [] → ⊥) → 1 ≤ turns_due cfa cs xs
waits_due cfa cs [] waits = absurd (waits refl)
waits_due cfa cs (x ∷ xs) waits =
    ⊎_elim
    (λ yes. rw yes (omega arith))
    (λ other.
    let rest = waits_due cfa cs xs (λ none. waits (rw other none)) in
    rw other (omega (arith, rest)))
    (cases_Bool x.waiting)

-- where all are kept apart, nothing has a height
no_height : (cfa : Cfa) (cs : List Component) → AllByRecursion (λ c. c.rule ≡ Sep) cs
    → row_height cfa cs ≡ 0
no_height cfa [] apart = refl
no_height cfa (c ∷ cs) apart =
    let first : rank_by c.rule (c.meaning.height cfa coarsest) ≡ 0 =
    ap (λ (r : MergeRule). rank_by r (c.meaning.height cfa coarsest)) apart.0 in
    let later = no_height cfa cs apart.1 in omega (arith, first, later)

pub pinned_left : (cfa : Cfa) (cs : List Component) (states : List State) (xs : List Entry)
    → AllByRecursion (λ c. c.rule ≡ Sep) cs → AreAscending (numbers xs) → ArePinned cfa cs states xs
    → turns_left cfa cs (length states) xs ≤ length states
pinned_left cfa cs states xs apart up pinned =
    by (length states) (length xs) (row_height cfa cs) (turns_due cfa cs xs)
    (at_most_states cfa cs states xs up pinned) (no_height cfa cs apart)
    (due_bound cfa cs 0 xs
    (λ e there. let none = no_ranks cfa cs e.elems apart in omega (arith, none)))
  where
    by : (c n h due : ℕ) → n ≤ c → h ≡ 0 → due ≤ n * (1 + 0) → (c - n) * (1 + h) + due ≤ c
    by c n h due few none low =
        subst (λ (k : ℕ). (c - n) * (1 + k) + due ≤ c) (sym none) (omega (arith, few, low))
