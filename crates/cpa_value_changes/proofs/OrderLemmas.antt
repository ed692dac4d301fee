-- That facts are in the order of the cells where each block is in order behind the one before.
use Rattle.std.proofs.Common.{◌≡◌, ℕ, suc, ◌+◌, ◌<◌, ◌≤◌, ℤ, Bool, true, false, List, [], ◌∷◌, ◌++◌}
use Rattle.std.proofs.Common.{inl, inr, ◌⊎◌, refl, sym, ap, ◌∙◌, arith, cond, drop, length, get_or}
use Rattle.std.specs.Prelude.{Option, None, Some, is_some, ◌&&◌, nat_le, nat_lt}
use Rattle.std.proofs.lemmas.Bool.{and_from, and_left, and_right, le-leb, lt-leb, lt-ltb, le-ltb}
use Rattle.std.proofs.lemmas.List.{append-nil, drop_more}
use Rattle.cpa_facts.specs.declared.fact.Fact.{Fact}
use Rattle.cpa_facts.specs.declared.fact.Fact.TheVariants.{At, Stack, Equals, Within, Truth}
use Rattle.cpa_facts.specs.declared.run.Run.{Run}
use Rattle.cpa_facts.specs.Blocks.{joined}
use Rattle.cpa_facts.specs.Runs.{run_of}
use Rattle.cpa_facts.specs.lemmas.Runs.{consecutive, run_is}
use Rattle.cpa_value_changes.specs.Tables.{are_ordered, end_in}

-- ---- two parts

-- the facts behind others that end so are in order
abbrev ordered_after : ℕ → Option ℕ → List Fact → Bool
ordered_after n (Some low) facts = are_ordered n low facts
ordered_after n None facts = false

parted : (n low : ℕ) (xs ys : List Fact)
    → are_ordered n low (xs ++ ys) ≡ ordered_after n (end_in n low xs) ys
parted n low [] ys = refl
parted n low (Equals cell v ∷ xs) ys =
    by (nat_le low cell && nat_lt cell n) (parted n (cell + 1) xs ys)
  where
    by : (b : Bool)
        → are_ordered n (cell + 1) (xs ++ ys) ≡ ordered_after n (end_in n (cell + 1) xs) ys
        → (b && are_ordered n (cell + 1) (xs ++ ys))
        ≡ ordered_after n (cond b (end_in n (cell + 1) xs) None) ys
    by true rest = rest
    by false rest = refl
parted n low (At p ∷ xs) ys = refl
parted n low (Stack s ∷ xs) ys = refl
parted n low (Within c lo hi ∷ xs) ys = refl
parted n low (Truth e h ∷ xs) ys = refl

-- facts are in order where they end
pub some_end : (n low : ℕ) (facts : List Fact)
    → is_some (end_in n low facts) ≡ are_ordered n low facts
some_end n low facts =
    ends (end_in n low facts)
    ∙ (sym (parted n low facts []) ∙ ap (are_ordered n low) (append-nil facts))
  where
    ends : (o : Option ℕ) → is_some o ≡ ordered_after n o []
    ends (Some k) = refl
    ends None = refl

-- what is left is in order where it is behind the next block
pub next_block : (n low : ℕ) (blocks : List (List Fact)) (i : ℕ) (block : List Fact)
    (end : Option ℕ) (all : Bool) → i < length blocks → block ≡ get_or blocks i block
    → end ≡ end_in n low block → are_ordered n low (joined (drop i blocks)) ≡ all
    → ordered_after n end (joined (drop (i + 1) blocks)) ≡ all
next_block n low blocks i block end all more here is so_far =
    let rest = joined (drop (i + 1) blocks) in
    let head = drop_more blocks i block more ∙ ap (λ b. b ∷ drop (i + 1) blocks) (sym here) in
    ap (λ o. ordered_after n o rest) is
    ∙ (sym (parted n low block rest)
    ∙ (sym (ap (λ bs. are_ordered n low (joined bs)) head) ∙ so_far))

pub block_in_order : (n low : ℕ) (blocks : List (List Fact)) (i : ℕ) (block : List Fact)
    (found : Option ℕ) (end : ℕ) (all : Bool) → i < length blocks
    → block ≡ get_or blocks i block → found ≡ end_in n low block → found ≡ Some end
    → are_ordered n low (joined (drop i blocks)) ≡ all
    → are_ordered n end (joined (drop (i + 1) blocks)) ≡ all
block_in_order n low blocks i block found end all more here is some so_far =
    ap (λ o. ordered_after n o (joined (drop (i + 1) blocks))) (sym some)
    ∙ next_block n low blocks i block found all more here is so_far

pub block_out_of_order : (n low : ℕ) (blocks : List (List Fact)) (i : ℕ) (block : List Fact)
    (found : Option ℕ) (all : Bool) → i < length blocks → block ≡ get_or blocks i block
    → found ≡ end_in n low block → found ≡ None
    → are_ordered n low (joined (drop i blocks)) ≡ all → false ≡ all
block_out_of_order n low blocks i block found all more here is none so_far =
    ap (λ o. ordered_after n o (joined (drop (i + 1) blocks))) (sym none)
    ∙ next_block n low blocks i block found all more here is so_far

-- ---- a run

end_from : (n first : ℕ) (values : List ℤ) → first + length values ≤ n
    → end_in n first (consecutive first values) ≡ Some (first + length values)
end_from n first [] inside = ap Some (let e : first ≡ first + 0 = omega arith in e)
end_from n first (v ∷ values) inside =
    ap (λ b. cond b (end_in n (first + 1) (consecutive (first + 1) values)) None)
    (and_from (nat_le first first) (nat_lt first n) (le-leb first first (omega arith))
    (lt-ltb first n (omega (arith, inside))))
    ∙ (end_from n (first + 1) values (omega (arith, inside)) ∙ ap Some same)
  where
    same : first + 1 + length values ≡ first + suc (length values)
    same = omega arith

end_some : (n low first : ℕ) (values : List ℤ) → 1 ≤ length values → low ≤ first
    → first + length values ≤ n
    → end_in n low (consecutive first values) ≡ Some (first + length values)
end_some n low first [] some above inside = absurd (omega (arith, some))
end_some n low first (v ∷ values) some above inside =
    ap (λ b. cond b (end_in n (first + 1) (consecutive (first + 1) values)) None)
    (and_from (nat_le low first) (nat_lt first n) (le-leb low first above)
    (lt-ltb first n (omega (arith, inside))))
    ∙ (end_from n (first + 1) values (omega (arith, inside)) ∙ ap Some same)
  where
    same : first + 1 + length values ≡ first + suc (length values)
    same = omega arith

below_low : (n low first : ℕ) (values : List ℤ) → 1 ≤ length values → first < low
    → end_in n low (consecutive first values) ≡ None
below_low n low first [] some below = absurd (omega (arith, some))
below_low n low first (v ∷ values) some below =
    ap (λ b. cond b (end_in n (first + 1) (consecutive (first + 1) values)) None)
    (and_left (nat_le low first) (nat_lt first n) (lt-leb low first below))

past_all : (n low first : ℕ) (values : List ℤ) → 1 ≤ length values → n < first + length values
    → end_in n low (consecutive first values) ≡ None
past_all n low first [] some past = absurd (omega (arith, some))
past_all n low first (v ∷ []) some past =
    ap (λ b. cond b (Some (first + 1)) None)
    (and_right (nat_le low first) (nat_lt first n) (le-ltb first n (omega (arith, past))))
past_all n low first (v ∷ w ∷ values) some past =
    ap (λ o. cond (nat_le low first && nat_lt first n) o None)
    (past_all n (first + 1) (first + 1) (w ∷ values) (omega arith) (omega (arith, past)))
    ∙ either (nat_le low first && nat_lt first n)
  where
    either : (b : Bool) → cond {A = Option ℕ} b None None ≡ None
    either true = refl
    either false = refl

pub run_inside : (n low : ℕ) (run : Run) (facts : List Fact) → run_of facts ≡ Some run
    → low ≤ run.first → run.first + run.count ≤ n
    → Some (run.first + run.count) ≡ end_in n low facts
run_inside n low run facts is above inside =
    let r = run_is facts run is in
    let count = r.count in
    let some = r.some in
    sym (ap (end_in n low) r.are
    ∙ (end_some n low run.first r.values (omega (arith, count, some)) above
    (omega (arith, count, inside))
    ∙ ap (λ k. Some (run.first + k)) (sym count)))

pub run_outside : (n low : ℕ) (run : Run) (facts : List Fact) → run_of facts ≡ Some run
    → (run.first < low) ⊎ (n < run.first + run.count) → None ≡ end_in n low facts
run_outside n low run facts is (inl below) =
    let r = run_is facts run is in
    let count = r.count in
    let some = r.some in
    sym (ap (end_in n low) r.are
    ∙ below_low n low run.first r.values (omega (arith, count, some)) below)
run_outside n low run facts is (inr past) =
    let r = run_is facts run is in
    let count = r.count in
    let some = r.some in
    sym (ap (end_in n low) r.are
    ∙ past_all n low run.first r.values (omega (arith, count, some)) (omega (arith, count, past)))
