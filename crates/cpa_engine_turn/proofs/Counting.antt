-- What each step makes of the turns that are left.
use Rattle.std.proofs.Common.{◌≡◌, ℕ, suc, ◌+◌, ◌*◌, ◌-◌, ◌<◌, ◌≤◌, true, false}
use Rattle.std.proofs.Common.{eqb, cond, List, [], ◌∷◌, ◌++◌, map, length, Option, Some, None, refl}
use Rattle.std.proofs.Common.{sym, ap, ◌∙◌}
use Rattle.std.proofs.Common.{subst, inl, inr, ⊎_elim, arith}
use Rattle.std.specs.List.{AllByRecursion}
use Rattle.std.proofs.lemmas.Bool.{cond_both, cases_Bool, eq-eqb, ne_eqb}
use Rattle.std.proofs.lemmas.List.{length-map, length-append}
use Rattle.std.proofs.Math.Nat.{suc-mul}
use Rattle.cpa_model.specs.declared.automaton.Cfa.{Cfa}
use Rattle.cpa_model.specs.declared.facts.Elem.{Elem}
use Rattle.cpa_iface.specs.declared.entries.Entry.{Entry}
use Rattle.cpa_iface.specs.declared.precisions.Precision.{Precision}
use Rattle.cpa_composite.specs.Components.{Component}
use Rattle.cpa_composite.specs.Ranks.{row_rank, row_height}
use Rattle.cpa_model.specs.Ascending.{AreAscending}
use Rattle.cpa_reached.specs.Members.{IsIn}
use Rattle.cpa_reached.specs.lemmas.MemberLaws.{in_all, entry_in}
use Rattle.cpa_reached.specs.Entries.{numbers}
use Rattle.cpa_reached.specs.Calls.{gains, fresh, renamed, replacing, others, those, rests}
use Rattle.cpa_reached.specs.Calls.{at_number}
use Rattle.cpa_reached.specs.Calls.{replaced_entries}
use Rattle.cpa_engine_turn.specs.Bounds.{turns_due, turns_left}
use Rattle.cpa_engine_turn.specs.Stages.{Stage, noting, adding, replacing_at, covered_or_added}
use Rattle.cpa_engine_turn.proofs.Effects.{those_one}
use Rattle.cpa_engine_turn.proofs.Settled.{all_others}

-- what one entry is good for
abbrev due : Cfa → List Component → Entry → ℕ
due cfa cs e = row_rank cfa cs e.elems + cond e.waiting 1 0

due_both : (cfa : Cfa) (cs : List Component) (xs ys : List Entry)
    → turns_due cfa cs (xs ++ ys) ≡ turns_due cfa cs xs + turns_due cfa cs ys
due_both cfa cs [] ys = omega arith
due_both cfa cs (x ∷ xs) ys =
    let rest = due_both cfa cs xs ys in omega (arith, rest)

due_map : (cfa : Cfa) (cs : List Component) (g : Entry → Entry) (xs : List Entry)
    → ((x : Entry) → due cfa cs (g x) ≡ due cfa cs x)
    → turns_due cfa cs (map g xs) ≡ turns_due cfa cs xs
due_map cfa cs g [] same = refl
due_map cfa cs g (x ∷ xs) same =
    let rest = due_map cfa cs g xs same in let one = same x in omega (arith, rest, one)

due_split : (cfa : Cfa) (cs : List Component) (n : ℕ) (xs : List Entry)
    → turns_due cfa cs xs ≡ turns_due cfa cs (others n xs) + turns_due cfa cs (those n xs)
due_split cfa cs n [] = refl
due_split cfa cs n (x ∷ xs) =
    let rest = due_split cfa cs n xs in
    ⊎_elim
    (λ yes. rw yes (omega (arith, rest)))
    (λ no. rw no (omega (arith, rest)))
    (cases_Bool (eqb x.number n))

-- the use of an entry is noted
noted_due : (cfa : Cfa) (cs : List Component) (n by : ℕ) (xs : List Entry)
    → turns_due cfa cs (at_number n (gains by) xs) ≡ turns_due cfa cs xs
noted_due cfa cs n by xs =
    due_map cfa cs (λ (x : Entry). cond (eqb x.number n) (gains by x) x) xs
    (λ x. cond_both (eqb x.number n) (gains by x) x (λ y. due cfa cs y ≡ due cfa cs x)
    (λ _. refl) (λ _. refl))

noting_left : (cfa : Cfa) (cs : List Component) (count by : ℕ) (a : Stage)
    → turns_left cfa cs count (noting by a).reached.live ≡ turns_left cfa cs count a.reached.live
noting_left cfa cs count by a =
    let xs = a.reached.live in
    let size : length (at_number a.current (gains by) xs) ≡ length xs =
    length-map xs (λ (x : Entry). cond (eqb x.number a.current) (gains by x) x) in
    ap (λ (n : ℕ). (count - n) * (1 + row_height cfa cs)
    + turns_due cfa cs (at_number a.current (gains by) xs)) size
    ∙ ap (λ (n : ℕ). (count - length xs) * (1 + row_height cfa cs) + n)
    (noted_due cfa cs a.current by xs)

-- an entry is added
adding_size : (es : List Elem) (ps : List Precision) (edge : ℕ) (a : Stage)
    → length (adding es ps edge a).reached.live ≡ suc (length a.reached.live)
adding_size es ps edge a =
    let xs = a.reached.live in
    let next = a.reached.next in
    length-append (at_number a.current (gains next) xs)
    (fresh next es ps (Some (a.current, edge)) ∷ [])
    ∙ (ap (λ (n : ℕ). n + 1)
    (length-map xs (λ (x : Entry). cond (eqb x.number a.current) (gains next x) x)) ∙ omega arith)

adding_left : (cfa : Cfa) (cs : List Component) (count : ℕ) (es : List Elem)
    (ps : List Precision) (edge : ℕ) (a : Stage) → suc (length a.reached.live) ≤ count
    → row_rank cfa cs es ≤ row_height cfa cs
    → turns_left cfa cs count (adding es ps edge a).reached.live
    ≤ turns_left cfa cs count a.reached.live
adding_left cfa cs count es ps edge a room low =
    let xs = a.reached.live in
    let next = a.reached.next in
    let front = at_number a.current (gains next) xs in
    let new = fresh next es ps (Some (a.current, edge)) in
    let size : length (front ++ new ∷ []) ≡ suc (length xs) = adding_size es ps edge a in
    let due : turns_due cfa cs (front ++ new ∷ []) ≡ turns_due cfa cs xs + (row_rank cfa cs es + 1)
    =
    due_both cfa cs front (new ∷ [])
    ∙ (ap (λ (n : ℕ). n + (row_rank cfa cs es + 1 + 0)) (noted_due cfa cs a.current next xs)
    ∙ omega arith) in
    let fewer : count - length xs ≡ suc (count - suc (length xs)) = omega (arith, room) in
    at_most (count - suc (length xs)) (row_height cfa cs) (turns_due cfa cs xs) (row_rank cfa cs es)
    (turns_left cfa cs count (front ++ new ∷ [])) (turns_left cfa cs count xs) low
    (ap (λ (n : ℕ). (count - n) * (1 + row_height cfa cs) + turns_due cfa cs (front ++ new ∷ []))
    size
    ∙ ap (λ (n : ℕ). (count - suc (length xs)) * (1 + row_height cfa cs) + n) due)
    (ap (λ (n : ℕ). n * (1 + row_height cfa cs) + turns_due cfa cs xs) fewer)
  where
    at_most : (d h t r now was : ℕ) → r ≤ h → now ≡ d * (1 + h) + (t + (r + 1))
        → was ≡ suc d * (1 + h) + t → now ≤ was
    at_most d h t r now was low is_now is_was =
        let more : suc d * (1 + h) ≡ d * (1 + h) + (1 + h) = suc-mul d (1 + h) in
        omega (arith, low, is_now, is_was, more)

-- a successor is covered or added
pub ended_left : (cfa : Cfa) (cs : List Component) (count limit : ℕ) (es : List Elem)
    (ps : List Precision) (edge : ℕ) (o : Option ℕ) (m b : Stage)
    → b ≡ covered_or_added es ps edge o m → row_rank cfa cs es ≤ row_height cfa cs
    → length b.reached.live ≤ count → turns_left cfa cs count m.reached.live ≤ limit
    → turns_left cfa cs count b.reached.live ≤ limit
ended_left cfa cs count limit es ps edge (Some by) m b is low few before =
    let kept = noting_left cfa cs count by m in
    subst (λ (c : Stage). turns_left cfa cs count c.reached.live ≤ limit) (sym is)
    (omega (arith, kept, before))
ended_left cfa cs count limit es ps edge None m b is low few before =
    let more = adding_size es ps edge m in
    let room : length (adding es ps edge m).reached.live ≤ count =
    subst (λ (c : Stage). length c.reached.live ≤ count) is few in
    let up = adding_left cfa cs count es ps edge m (omega (arith, more, room)) low in
    subst (λ (c : Stage). turns_left cfa cs count c.reached.live ≤ limit) (sym is)
    (omega (arith, up, before))

-- a row takes the place of an entry
others_size : (xs : List Entry) (old : Entry) → AreAscending (numbers xs) → IsIn old xs
    → suc (length (others old.number xs)) ≡ length xs
others_size [] old up there = absurd there
others_size (x ∷ xs) old up (inl same) =
    let number : x.number ≡ old.number = ap (λ (y : Entry). y.number) same in
    let yes : eqb x.number old.number ≡ true = eq-eqb x.number old.number number in
    rw yes (ap (λ (l : List Entry). suc (length l)) (all_others old.number x.number xs up.0 number))
others_size (x ∷ xs) old up (inr later) =
    let above : x.number < old.number =
    in_all (λ m. x.number < m) (numbers xs) old.number up.0 (entry_in old xs later) in
    let other : eqb x.number old.number ≡ false =
    ne_eqb x.number old.number (λ e. omega (arith, above, e)) in
    rw other (ap suc (others_size xs old up.1 later))

replaced_size : (next : ℕ) (xs : List Entry) (old : Entry) (es : List Elem)
    → AreAscending (numbers xs) → IsIn old xs
    → length (replaced_entries next xs old.number es) ≡ length xs
replaced_size next xs old es up there =
    let front = map (renamed old.number next) (others old.number xs) in
    let both = length-append front (map (replacing next es) (those old.number xs)) in
    let plain = length-map (others old.number xs) (renamed old.number next) in
    let one : length (map (replacing next es) (those old.number xs)) ≡ 1 =
    ap (λ (l : List Entry). length (map (replacing next es) l)) (those_one xs old up there) in
    let fewer = others_size xs old up there in
    both ∙ omega (arith, plain, one, fewer)

pub replacing_left : (cfa : Cfa) (cs : List Component) (count : ℕ) (old : Entry) (es : List Elem)
    (a : Stage) → AreAscending (numbers a.reached.live) → IsIn old a.reached.live
    → row_rank cfa cs es < row_rank cfa cs old.elems
    → turns_left cfa cs count (replacing_at old.number es a).reached.live
    ≤ turns_left cfa cs count a.reached.live
replacing_left cfa cs count old es a up there falls =
    let xs = a.reached.live in
    let next = a.reached.next in
    let o = old.number in
    let front = map (renamed o next) (others o xs) in
    let both : turns_due cfa cs (replaced_entries next xs o es)
    ≡ turns_due cfa cs (others o xs) + (row_rank cfa cs es + 1) =
    due_both cfa cs front (map (replacing next es) (those o xs))
    ∙ (ap (λ (n : ℕ). n + turns_due cfa cs (map (replacing next es) (those o xs)))
    (due_map cfa cs (renamed o next) (others o xs) (λ x. refl))
    ∙ (ap (λ (l : List Entry). turns_due cfa cs (others o xs)
    + turns_due cfa cs (map (replacing next es) l)) (those_one xs old up there) ∙ omega arith)) in
    let was : turns_due cfa cs xs
    ≡ turns_due cfa cs (others o xs) + (row_rank cfa cs old.elems + cond old.waiting 1 0 + 0) =
    due_split cfa cs o xs
    ∙ ap (λ (l : List Entry). turns_due cfa cs (others o xs) + turns_due cfa cs l)
    (those_one xs old up there) in
    let size = replaced_size next xs old es up there in
    at_most (count - length xs) (row_height cfa cs) (turns_due cfa cs xs)
    (turns_due cfa cs (replaced_entries next xs o es))
    (turns_left cfa cs count (replaced_entries next xs o es))
    (omega (arith, both, was, falls))
    (ap (λ (n : ℕ). (count - n) * (1 + row_height cfa cs)
    + turns_due cfa cs (replaced_entries next xs o es)) size)
  where
    at_most : (d h was due now : ℕ) → due ≤ was → now ≡ d * (1 + h) + due → now ≤ d * (1 + h) + was
    at_most d h was due now low is = omega (arith, low, is)

-- an entry is taken
none_rest : (cfa : Cfa) (cs : List Component) (n m : ℕ) (xs : List Entry) → n ≤ m
    → AllByRecursion (λ k. m < k) (numbers xs)
    → turns_due cfa cs (at_number n rests xs) ≡ turns_due cfa cs xs
none_rest cfa cs n m [] le above = refl
none_rest cfa cs n m (x ∷ xs) le above =
    let less : m < x.number = above.0 in
    let other : eqb x.number n ≡ false = ne_eqb x.number n (λ e. omega (arith, le, less, e)) in
    let rest = none_rest cfa cs n m xs le above.1 in
    rw other (omega (arith, rest))

taken_due : (cfa : Cfa) (cs : List Component) (n : ℕ) (xs : List Entry) (e : Entry)
    → AreAscending (numbers xs) → IsIn e xs → e.number ≡ n → e.waiting ≡ true
    → turns_due cfa cs (at_number n rests xs) + 1 ≡ turns_due cfa cs xs
taken_due cfa cs n [] e up there is waits = absurd there
taken_due cfa cs n (x ∷ xs) e up (inl same) is waits =
    let number : x.number ≡ n = ap (λ (z : Entry). z.number) same ∙ is in
    let yes : eqb x.number n ≡ true = eq-eqb x.number n number in
    let waiting : x.waiting ≡ true = ap (λ (z : Entry). z.waiting) same ∙ waits in
    let rest = none_rest cfa cs n x.number xs (omega (arith, number)) up.0 in
    rw yes (rw waiting (omega (arith, rest)))
taken_due cfa cs n (x ∷ xs) e up (inr later) is waits =
    let above : x.number < e.number =
    in_all (λ m. x.number < m) (numbers xs) e.number up.0 (entry_in e xs later) in
    let other : eqb x.number n ≡ false = ne_eqb x.number n (λ h. omega (arith, above, h, is)) in
    let rest = taken_due cfa cs n xs e up.1 later is waits in
    rw other (omega (arith, rest))

pub taken_left : (cfa : Cfa) (cs : List Component) (count n : ℕ) (xs : List Entry) (e : Entry)
    → AreAscending (numbers xs) → IsIn e xs → e.number ≡ n → e.waiting ≡ true
    → turns_left cfa cs count (at_number n rests xs) + 1 ≡ turns_left cfa cs count xs
taken_left cfa cs count n xs e up there is waits =
    let size : length (at_number n rests xs) ≡ length xs =
    length-map xs (λ (x : Entry). cond (eqb x.number n) (rests x) x) in
    let fewer = taken_due cfa cs n xs e up there is waits in
    less (count - length xs) (row_height cfa cs) (turns_due cfa cs (at_number n rests xs))
    (turns_due cfa cs xs) (turns_left cfa cs count (at_number n rests xs)) fewer
    (ap (λ (k : ℕ). (count - k) * (1 + row_height cfa cs) + turns_due cfa cs (at_number n rests xs))
    size)
  where
    less : (d h due was now : ℕ) → due + 1 ≡ was → now ≡ d * (1 + h) + due
        → now + 1 ≡ d * (1 + h) + was
    less d h due was now fewer is = omega (arith, fewer, is)
