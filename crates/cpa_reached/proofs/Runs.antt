-- Runs of facts: what the print of one makes of a print before it (`run_counted`), and what may
-- follow one (`run_past`). Blocks of facts: that each holds where all do (`block_holds`), and that
-- what may follow all is what may follow what is left (`past_more`, `past_none`).
use Rattle.std.proofs.Common.{◌≡◌, ℕ, zero, suc, ◌+◌, ◌*◌, ◌%◌, ◌<◌, ◌≤◌, Bool, true, false, List}
use Rattle.std.proofs.Common.{[], ◌∷◌, ◌++◌, length, drop, get_or, Option, Some, None, refl, sym}
use Rattle.std.proofs.Common.{ap, ◌∙◌, subst, arith}
use Rattle.std.specs.Prelude.{nat_lt, not, ℤ, if◌then◌else◌}
use Rattle.std.specs.List.{AllByRecursion}
use Rattle.std.proofs.lemmas.Bool.{le-ltb}
use Rattle.std.proofs.lemmas.List.{drop_more}
use Rattle.std.proofs.lemmas.Option.{same_Some}
use Rattle.cpa_model.specs.declared.states.State.{State}
use Rattle.cpa_model.specs.Facts.{FactHolds}
use Rattle.cpa_facts.specs.declared.fact.Fact.{Fact}
use Rattle.cpa_facts.specs.declared.run.Run.{Run}
use Rattle.cpa_facts.specs.Blocks.{joined}
use Rattle.cpa_facts.specs.Prints.{mixed}
use Rattle.cpa_facts.specs.Runs.{run_of}
use Rattle.cpa_facts.specs.lemmas.Runs.{consecutive, print_on, run_is}
use Rattle.cpa_reached.specs.Marks.{print_of, is_above, past, past_all}
use Rattle.cpa_reached.proofs.Marking.{print_more, then_some}

-- ---- prints
-- the print of a run behind another print
abbrev pub behind : ℕ → Run → ℕ
behind print run = (print * run.factor + run.print) % 4294967296

print_small : (values : List ℤ) (first count : ℕ)
    → print_of values first count ≡ print_of values first count % 4294967296
print_small values first zero = refl
print_small values first (suc count) = omega arith

values_counted : (s : State) (vs : List ℤ) (cell first count print : ℕ)
    → AllByRecursion (FactHolds s) (consecutive cell vs) → first + count ≡ cell
    → print ≡ print_of s.store.values first count
    → print_on print vs ≡ print_of s.store.values first (count + length vs)
values_counted s [] cell first count print all next is =
    let none : count ≡ count + 0 = omega arith in is ∙ ap (print_of s.store.values first) none
values_counted s (v ∷ vs) cell first count print all next is =
    let longer : count + 1 + length vs ≡ count + suc (length vs) = omega arith in
    values_counted s vs (cell + 1) first (count + 1) (mixed print v) all.1 (omega (arith, next))
    (print_more s.store.values first count cell v print is next all.0)
    ∙ ap (print_of s.store.values first) longer

-- the facts of a run that begins where a print ends
pub run_counted : (s : State) (facts : List Fact) (run : Run) (print first count : ℕ)
    → run_of facts ≡ Some run → AllByRecursion (FactHolds s) facts → first + count ≡ run.first
    → print ≡ print_of s.store.values first count
    → behind print run ≡ print_of s.store.values first (count + run.count)
run_counted s facts run print first count is all next so_far =
    let own = run_is facts run is in
    let small : print ≡ print % 4294967296 =
    so_far
    ∙ (print_small s.store.values first count ∙ ap (λ (n : ℕ). n % 4294967296) (sym so_far)) in
    let long : count + length own.values ≡ count + run.count = ap (λ n. count + n)
    (sym own.count) in
    sym (own.joins print small)
    ∙ (values_counted s own.values run.first first count print
    (subst (λ (fs : List Fact). AllByRecursion (FactHolds s) fs) own.are all) next so_far
    ∙ ap (print_of s.store.values first) long)

-- ---- what may follow
values_past : (vs : List ℤ) (cell : ℕ)
    → past_all cell (consecutive cell vs) ≡ Some (cell + length vs)
values_past [] cell = let none : cell ≡ cell + 0 = omega arith in ap (λ n. Some n) none
values_past (v ∷ vs) cell =
    let longer : cell + 1 + length vs ≡ cell + suc (length vs) = omega arith in
    ap (λ b. if not b then past_all (cell + 1) (consecutive (cell + 1) vs) else None)
    (le-ltb cell cell (omega arith))
    ∙ (values_past vs (cell + 1) ∙ ap (λ n. Some n) longer)

some_past : (vs : List ℤ) (cell least : ℕ) → 1 ≤ length vs
    → past_all least (consecutive cell vs)
    ≡ (if nat_lt cell least then None else Some (cell + length vs))
some_past [] cell least some = absurd (omega (arith, some))
some_past (v ∷ vs) cell least some =
    let longer : cell + 1 + length vs ≡ cell + suc (length vs) = omega arith in
    ap (λ o. if not (nat_lt cell least) then o else None)
    (values_past vs (cell + 1) ∙ ap (λ n. Some n) longer)
    ∙ turned (nat_lt cell least) (Some (cell + suc (length vs)))
  where
    turned : (b : Bool) (o : Option ℕ) → (if not b then o else None) ≡ (if b then None else o)
    turned true o = refl
    turned false o = refl

-- the facts of a run
pub run_past : (facts : List Fact) (run : Run) (least : ℕ) → run_of facts ≡ Some run
    → past_all least facts
    ≡ (if nat_lt run.first least then None else Some (run.first + run.count))
run_past facts run least is =
    let own = run_is facts run is in
    let count = own.count in
    let some = own.some in
    ap (past_all least) own.are
    ∙ (some_past own.values run.first least (omega (arith, count, some))
    ∙ ap (λ n. if nat_lt run.first least then None else Some (run.first + n)) (sym count))

-- ---- blocks
next_block : (blocks : List (List Fact)) (i : ℕ) (block : List Fact) → i < length blocks
    → block ≡ get_or blocks i block → drop i blocks ≡ block ∷ drop (i + 1) blocks
next_block blocks i block inside at =
    drop_more blocks i block inside
    ∙ ap (λ (b : List Fact). b ∷ drop (i + 1) blocks) (sym at)

pub past_behind : (facts rest : List Fact) (least end : ℕ) → past_all least facts ≡ Some end
    → past_all least (facts ++ rest) ≡ past_all end rest
past_behind [] rest least end is = ap (λ n. past_all n rest) (same_Some least end is)
past_behind (f ∷ facts) rest least end is =
    let both = then_some (is_above least f) (past_all (past f) facts) end is in
    ap (λ b. if b then past_all (past f) (facts ++ rest) else None) both.0
    ∙ past_behind facts rest (past f) end both.1

pub past_ends : (facts rest : List Fact) (least : ℕ) → past_all least facts ≡ None
    → past_all least (facts ++ rest) ≡ None
past_ends [] rest least is = absurd (cc)
past_ends (f ∷ facts) rest least is =
    stays (is_above least f) (past_all (past f) facts) (past_all (past f) (facts ++ rest)) is
    (past_ends facts rest (past f))
  where
    stays : (b : Bool) (o p : Option ℕ) → (if b then o else None) ≡ None → (o ≡ None → p ≡ None)
        → (if b then p else None) ≡ None
    stays true o p is none = none is
    stays false o p is none = refl

-- one block more is looked at
pub past_more : (blocks : List (List Fact)) (i : ℕ) (block : List Fact) (least end : ℕ)
    → i < length blocks → block ≡ get_or blocks i block → Some end ≡ past_all least block
    → past_all least (joined (drop i blocks)) ≡ past_all end (joined (drop (i + 1) blocks))
past_more blocks i block least end inside at is =
    ap (λ bs. past_all least (joined bs)) (next_block blocks i block inside at)
    ∙ past_behind block (joined (drop (i + 1) blocks)) least end (sym is)

pub past_none : (blocks : List (List Fact)) (i : ℕ) (block : List Fact) (least : ℕ)
    → i < length blocks → block ≡ get_or blocks i block → None ≡ past_all least block
    → past_all least (joined (drop i blocks)) ≡ None
past_none blocks i block least inside at is =
    ap (λ bs. past_all least (joined bs)) (next_block blocks i block inside at)
    ∙ past_ends block (joined (drop (i + 1) blocks)) least (sym is)

-- a block of facts that all hold
part_left : (P : Fact → Type 0) (xs ys : List Fact) → AllByRecursion P (xs ++ ys)
    → AllByRecursion P xs
part_left P [] ys all = tt
part_left P (x ∷ xs) ys all = (all.0, part_left P xs ys all.1)

part_right : (P : Fact → Type 0) (xs ys : List Fact) → AllByRecursion P (xs ++ ys)
    → AllByRecursion P ys
part_right P [] ys all = all
part_right P (x ∷ xs) ys all = part_right P xs ys all.1

pub block_holds : (P : Fact → Type 0) (blocks : List (List Fact)) (i : ℕ) (d : List Fact)
    → i < length blocks → AllByRecursion P (joined blocks) → AllByRecursion P (get_or blocks i d)
block_holds P [] i d inside all = absurd (omega (arith, inside))
block_holds P (b ∷ blocks) zero d inside all = part_left P b (joined blocks) all
block_holds P (b ∷ blocks) (suc i) d inside all =
    block_holds P blocks i d (omega (arith, inside)) (part_right P b (joined blocks) all)
