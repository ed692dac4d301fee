-- Closed marks on reached bodies alone are on every reached body (`marked_reached`); a pass through
-- the calls adds reached bodies alone, and where it adds none, marks are closed (`Passed`).
use Rattle.std.proofs.Common.{◌≡◌, ℕ, ◌+◌, ◌<◌, ◌≤◌, Bool, true, false, cond, not, ◌&&◌}
use Rattle.std.proofs.Common.{◌||◌, List, [], ◌∷◌, ◌++◌, length, get_or, refl, sym, ap, ◌∙◌, subst}
use Rattle.std.proofs.Common.{inl, inr, ◌⊎◌, ⊎_elim, arith}
use Rattle.std.proofs.Common.{take, drop, replicate, append-nil}
use Rattle.std.proofs.Math.ListN.{set}
use Rattle.std.specs.List.{All}
use Rattle.std.proofs.lemmas.Bool.{and_parts, both_ways, not-true, cases_eq, cases_lt}
use Rattle.std.proofs.lemmas.List.{get_or-set_same, get_or-set_other, get_or_default, length-set}
use Rattle.std.proofs.lemmas.List.{get_or-replicate, length-replicate, take_all, drop_all}
use Rattle.std.proofs.Math.ListN.{get_or-eq_default}
use Rattle.std.proofs.lemmas.List.Sums.{sum_by-set}
use Rattle.std.proofs.lemmas.List.Elements.{All-more, All-weaker}
use Rattle.c_types_rules.specs.Items.{Call}
use Rattle.c_types_rules.specs.Recursion.{Among, Calls, Through, Reaches}
use Rattle.c_types_recursion.specs.Marks.{is_marked, IsMarked, OnlyReached, IsClosed, Passes, Keeps}
use Rattle.c_types_recursion.specs.Marks.{Grows}
use Rattle.c_types_recursion.specs.Marks.{IsWithin, unmarked}
use Rattle.c_types_recursion.proofs.Among.{among_item, among_contained, all_at}

-- a way goes on by one call
through_more : (calls : List Call) (from mid next : ℕ) (way : List ℕ) → Through calls from way mid
    → Calls calls mid next → Through calls from (way ++ next ∷ []) next
through_more calls from mid next [] is call =
    (subst (λ (n : ℕ). Calls calls n next) (sym is) call, refl)
through_more calls from mid next (m ∷ way) walk call =
    (walk.0, through_more calls m mid next way walk.1 call)

reaches_more : (calls : List Call) (start from next : ℕ) → Reaches calls start from
    → Calls calls from next → Reaches calls start next
reaches_more calls start from next there call = record {
  way = there.way ++ next ∷ [];
  through = through_more calls start from next there.way there.through call;
}

-- closed marks go along a way
closed_through : (calls : List Call) (seen : List Bool) → IsClosed calls seen → (from : ℕ)
    (way : List ℕ) (last : ℕ) → IsMarked seen from → Through calls from way last
    → IsMarked seen last
closed_through calls seen closed from [] last marked is =
    subst (λ (n : ℕ). IsMarked seen n) is marked
closed_through calls seen closed from (next ∷ way) last marked walk =
    closed_through calls seen closed next way last (closed.passes _ walk.0.1 marked) walk.1

pub marked_reached : (calls : List Call) (seen : List Bool) (start : ℕ) → IsClosed calls seen
    → IsMarked seen start → (body : ℕ) → Reaches calls start body → IsMarked seen body
marked_reached calls seen start closed marked body there =
    closed_through calls seen closed start there.way body marked there.through

set_kept : (seen : List Bool) (i n : ℕ) → i < length seen → IsMarked seen n
    → IsMarked (set seen i true) n
set_kept seen i n less was = ⊎_elim
    (λ (same : n ≡ i). subst (λ (k : ℕ). IsMarked (set seen i true) k) (sym same)
    (get_or-set_same seen i true false less))
    (λ other. get_or-set_other seen i n true false other ∙ was) (cases_eq n i)

set_only : (seen : List Bool) (i n : ℕ) → IsMarked (set seen i true) n → (n ≡ i) ⊎ IsMarked seen n
set_only seen i n now = ⊎_elim (λ same. inl same)
    (λ other. inr (sym (get_or-set_other seen i n true false other) ∙ now)) (cases_eq n i)

-- the marks behind a call, by whether it made one
abbrev pub marks_behind : Bool → Call → List Bool → List Bool
marks_behind fresh call seen = cond fresh (set seen call.callee true) seen

-- the call makes a mark
abbrev pub is_fresh : Call → List Bool → Bool
is_fresh call seen = is_marked seen call.caller && not (is_marked seen call.callee)

mark_keeps : (call : Call) (seen : List Bool) (fresh : Bool) → call.callee < length seen
    → Keeps seen (marks_behind fresh call seen)
mark_keeps call seen true less =
    record { kept = λ n was. set_kept seen call.callee n less was }
mark_keeps call seen false less = record { kept = λ n was. was }

mark_grows : (calls : List Call) (call : Call) (seen : List Bool) (fresh : Bool)
    → Among call calls → fresh ≡ is_fresh call seen
    → Grows calls seen (marks_behind fresh call seen)
mark_grows calls call seen true stands is = record {
  only = λ start before. record {
    reached = λ n now. ⊎_elim
        (λ (same : n ≡ call.callee). subst (λ (k : ℕ). Reaches calls start k) (sym same)
        (reaches_more calls start call.caller call.callee
        (before.reached call.caller
        (and_parts (is_marked seen call.caller) (not (is_marked seen call.callee)) (sym is)).0)
        (call.place, stands)))
        (λ was. before.reached n was) (set_only seen call.callee n now);
  };
}
mark_grows calls call seen false stands is = record { only = λ start before. before }

mark_fewer : (call : Call) (seen : List Bool) (fresh : Bool) → call.callee < length seen
    → fresh ≡ is_fresh call seen
    → unmarked (marks_behind fresh call seen) + cond fresh 1 0 ≡ unmarked seen
mark_fewer call seen true less is =
    let off : is_marked seen call.callee ≡ false = not-true (is_marked seen call.callee)
    (and_parts (is_marked seen call.caller) (not (is_marked seen call.callee)) (sym is)).1 in
    let sums = sum_by-set (λ (b : Bool). cond (not b) 1 0) seen call.callee true false less in
    let sums_off = subst (λ (b : Bool). unmarked (set seen call.callee true) + cond (not b) 1 0
    ≡ unmarked seen + 0) off sums in
    omega (arith, sums_off)
mark_fewer call seen false less is = omega arith

passes_by : (a b : Bool) → false ≡ (a && not b) → a ≡ true → b ≡ true
passes_by true true is on = refl
passes_by true false is on = cc
passes_by false b is on = cc

keeps_then : (old mid new : List Bool) → Keeps old mid → Keeps mid new → Keeps old new
keeps_then old mid new first second = record { kept = λ n was. second.kept n (first.kept n was) }

grows_then : (calls : List Call) (old mid new : List Bool) → Grows calls old mid
    → Grows calls mid new → Grows calls old new
grows_then calls old mid new first second =
    record { only = λ start before. second.only start (first.only start before) }

pub keeps_itself : (seen : List Bool) → Keeps seen seen
keeps_itself seen = record { kept = λ n was. was }

pub grows_itself : (calls : List Call) (seen : List Bool) → Grows calls seen seen
grows_itself calls seen = record { only = λ start before. before }

pub keeps_more : (old seen : List Bool) (call : Call) (fresh : Bool) → Keeps old seen
    → call.callee < length seen → Keeps old (marks_behind fresh call seen)
keeps_more old seen call fresh kept less =
    keeps_then old seen _ kept (mark_keeps call seen fresh less)

pub grows_more : (calls : List Call) (old seen : List Bool) (call : Call) (fresh : Bool)
    → Grows calls old seen → Among call calls → fresh ≡ is_fresh call seen
    → Grows calls old (marks_behind fresh call seen)
grows_more calls old seen call fresh grown stands is =
    grows_then calls old seen _ grown (mark_grows calls call seen fresh stands is)

pub fewer_more : (old seen : List Bool) (call : Call) (changed fresh : Bool)
    → call.callee < length seen → fresh ≡ is_fresh call seen
    → unmarked seen + cond changed 1 0 ≤ unmarked old
    → unmarked (marks_behind fresh call seen) + cond (changed || fresh) 1 0 ≤ unmarked old
fewer_more old seen call true true less is fewer =
    omega (arith, mark_fewer call seen true less is)
fewer_more old seen call true false less is fewer = fewer
fewer_more old seen call false true less is fewer =
    omega (arith, mark_fewer call seen true less is)
fewer_more old seen call false false less is fewer = fewer

-- where no call made a mark, each so far passes
abbrev pub PassedBelow : Bool → List Bool → List Call → ℕ → Type 0
PassedBelow changed seen calls i =
    changed ≡ false → (k : ℕ) (d : Call) → k < i → Passes seen (get_or calls k d)

pub passed_more : (calls : List Call) (seen : List Bool) (i : ℕ) (call : Call)
    (changed fresh : Bool) → i < length calls → call ≡ get_or calls i call
    → fresh ≡ is_fresh call seen → PassedBelow changed seen calls i
    → PassedBelow (changed || fresh) (marks_behind fresh call seen) calls (i + 1)
passed_more calls seen i call true fresh less at is passed = λ none. absurd (cc)
passed_more calls seen i call false true less at is passed = λ none. absurd (cc)
passed_more calls seen i call false false less at is passed = λ none k d below. ⊎_elim
    (λ (last : k ≡ i). subst (λ (n : ℕ). Passes seen (get_or calls n d)) (sym last)
    (subst (λ (one : Call). Passes seen one) (at ∙ get_or_default calls i call d less)
    (passes_by (is_marked seen call.caller) (is_marked seen call.callee) is)))
    (λ (other : k ≡ i → ⊥). passed none k d (omega arith)) (cases_eq k i)

pub closed_all : (calls : List Call) (seen : List Bool)
    → PassedBelow false seen calls (length calls) → IsClosed calls seen
closed_all calls seen passed = record {
  passes = λ call stands. let found = among_contained call calls stands in
      subst (λ (one : Call). Passes seen one) found.2 (passed refl found.0 call found.1);
}

-- What the calls so far did: marks are kept and on reached bodies alone, and where none was made,
-- each call passes.
pub record IsPassed (calls : List Call) (old seen : List Bool) (changed : Bool) (i : ℕ)
    : Type 0 where
  pub kept : Keeps old seen
  pub grown : Grows calls old seen
  pub passed : PassedBelow changed seen calls i
  pub fewer : unmarked seen + cond changed 1 0 ≤ unmarked old

pub passed_none : (calls : List Call) (seen : List Bool) → IsPassed calls seen seen false 0
passed_none calls seen = record {
  kept = keeps_itself seen;
  grown = grows_itself calls seen;
  passed = λ none k d below. absurd (omega arith);
  fewer = omega arith;
}

pub passed_step : (calls : List Call) (old seen new : List Bool) (changed fresh : Bool) (i : ℕ)
    (call : Call) → IsPassed calls old seen changed i → i < length calls
    → call ≡ get_or calls i call → call.callee < length seen → fresh ≡ is_fresh call seen
    → new ≡ marks_behind fresh call seen → IsPassed calls old new (changed || fresh) (i + 1)
passed_step calls old seen new changed fresh i call so_far less at within is new_is =
    subst (λ (marks : List Bool). IsPassed calls old marks (changed || fresh) (i + 1)) (sym new_is)
    (record {
      kept = keeps_more old seen call fresh so_far.kept within;
      grown = grows_more calls old seen call fresh so_far.grown
          (among_item calls i call less at) is;
      passed = passed_more calls seen i call changed fresh less at is so_far.passed;
      fewer = fewer_more old seen call changed fresh within is so_far.fewer;
    })

-- the first mark
pub begun_marked : (bodies start : ℕ) → start < bodies
    → IsMarked (set (replicate bodies false) start true) start
begun_marked bodies start less =
    get_or-set_same (replicate bodies false) start true false
    (rw (length-replicate bodies false) less)

none_marked : (bodies body : ℕ) → IsMarked (replicate bodies false) body → ⊥
none_marked bodies body marked = ⊎_elim
    (λ (less : body < bodies).
    both_ways (get_or (replicate bodies false) body false)
    (get_or-replicate bodies body false false less) marked)
    (λ (past : bodies ≤ body).
    both_ways (get_or (replicate bodies false) body false)
    (get_or-eq_default (replicate bodies false) false (rw (length-replicate bodies false) past))
    marked)
    (cases_lt body bodies)

pub begun_reached : (calls : List Call) (bodies start : ℕ)
    → OnlyReached calls start (set (replicate bodies false) start true)
begun_reached calls bodies start = record {
  reached = λ n now. ⊎_elim
      (λ (same : n ≡ start).
      let there : Reaches calls start n = record { way = []; through = sym same } in
      there)
      (λ was. absurd (none_marked bodies n was)) (set_only (replicate bodies false) start n now);
}

-- What a search keeps of its marks before they are closed.
pub record IsBegun (calls : List Call) (body bodies : ℕ) (seen : List Bool) : Type 0 where
  pub start : IsMarked seen body
  pub only : OnlyReached calls body seen
  pub len : length seen ≡ bodies

pub begun : (calls : List Call) (bodies start : ℕ) (first items new now : List Bool)
    → items ≡ set (replicate bodies false) start true → first ≡ items → Keeps first new
    → Grows calls first new → length new ≡ length first → now ≡ new → start < bodies
    → IsBegun calls start bodies now
begun calls bodies start first items new now items_are first_is kept grown len now_is less =
    let begins = first_is ∙ items_are in
    subst (λ (marks : List Bool). IsBegun calls start bodies marks) (sym now_is)
    (record {
      start = kept.kept start (subst (λ (marks : List Bool). IsMarked marks start) (sym begins)
          (begun_marked bodies start less));
      only = grown.only start (subst (λ (marks : List Bool). OnlyReached calls start marks)
          (sym begins) (begun_reached calls bodies start));
      len = len ∙ ap (λ (marks : List Bool). length marks) begins
          ∙ length-set (replicate bodies false) start true ∙ length-replicate bodies false;
    })

-- a part that is the whole
pub whole_marks : (new items : List Bool) (len : ℕ) → length new ≡ len → length items ≡ len
    → take len (new ++ drop (length new) items) ≡ new
whole_marks new items len same items_same =
    rw (drop_all (length new) items (omega arith), append-nil new, take_all len new (omega arith))
    refl

-- one more number makes room for a call
pub within_more : (calls : List Call) (bodies next i : ℕ) (call : Call) → i < length calls
    → call ≡ get_or calls i call → bodies ≤ next → call.caller < next → call.callee < next
    → All (IsWithin bodies) (take i calls) → All (IsWithin next) (take (i + 1) calls)
within_more calls bodies next i call less is more caller callee all =
    All-more (IsWithin next) calls i call less
    (All-weaker (IsWithin bodies) (IsWithin next)
    (λ one within. let up : one.caller < next = omega (arith, within.caller) in
    let down : one.callee < next = omega (arith, within.callee) in
    record { caller = up; callee = down }) (take i calls) all)
    (subst (λ (one : Call). IsWithin next one) is (record { caller = caller; callee = callee }))

pub within_among : (calls : List Call) (bodies same : ℕ) (call : Call) → All (IsWithin bodies) calls
    → same ≡ bodies → Among call calls → IsWithin same call
within_among calls bodies same call all is stands =
    subst (λ (n : ℕ). IsWithin n call) (sym is) (all_at (IsWithin bodies) calls call all stands)

pub grows_step : (calls : List Call) (old seen new : List Bool) (call : Call) (fresh : Bool)
    → Grows calls old seen → Among call calls → fresh ≡ is_fresh call seen
    → new ≡ marks_behind fresh call seen → Grows calls old new
grows_step calls old seen new call fresh grown stands is new_is =
    subst (λ (marks : List Bool). Grows calls old marks) (sym new_is)
    (grows_more calls old seen call fresh grown stands is)

pub keeps_step : (old seen new : List Bool) (call : Call) (fresh : Bool) → Keeps old seen
    → call.callee < length seen → new ≡ marks_behind fresh call seen → Keeps old new
keeps_step old seen new call fresh kept less new_is =
    subst (λ (marks : List Bool). Keeps old marks) (sym new_is)
    (keeps_more old seen call fresh kept less)

pub all_taken : (P : Call → Type 0) (calls : List Call) (i : ℕ) → length calls ≤ i
    → All P (take i calls) → All P calls
all_taken P calls i whole all =
    subst (λ (some : List Call). All P some) (take_all i calls whole) all
