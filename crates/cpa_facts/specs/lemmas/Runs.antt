-- What the run of facts says of them: their cells and values, and how the print of values before
-- them goes on.
use Rattle.std.proofs.Common.{◌≡◌, ℕ, suc, ◌+◌, ◌*◌, ◌%◌, ◌≤◌, ℤ, Bool, true, false}
use Rattle.std.proofs.Common.{List, [], ◌∷◌, refl, sym, ap, subst, ◌∙◌, arith, cond, length}
use Rattle.std.specs.Prelude.{None, Some, ◌==◌, unsigned_abs}
use Rattle.std.proofs.Math.Nat.{add-mod-mod, mod-add-mod, mul_assoc}
use Rattle.std.proofs.lemmas.Nat.{mul-mod_first, mul-mod_second}
use Rattle.std.proofs.lemmas.Bool.{eqb-true}
use Rattle.cpa_facts.specs.declared.fact.Fact.{Fact}
use Rattle.cpa_facts.specs.declared.fact.Fact.TheVariants.{At, Stack, Equals, Within, Truth}
use Rattle.cpa_facts.specs.declared.run.Run.{Run}
use Rattle.cpa_facts.specs.Prints.{mixed}
use Rattle.cpa_facts.specs.Runs.{run_at, run_more, run_on, run_of}

-- the facts that give these values to the cells from one on
abbrev pub consecutive : ℕ → List ℤ → List Fact
consecutive cell [] = []
consecutive cell (value ∷ values) = Equals cell value ∷ consecutive (cell + 1) values

-- the print of values behind one
abbrev pub print_on : ℕ → List ℤ → ℕ
print_on print [] = print
print_on print (value ∷ values) = print_on (mixed print value) values

-- The run is that of the facts.
pub record IsRunOf (run : Run) (facts : List Fact) : Type 0 where
  pub values : List ℤ
  pub are : facts ≡ consecutive run.first values
  pub count : run.count ≡ length values
  pub some : 1 ≤ run.count
  pub print : run.print ≡ print_on 0 values
  pub joins : (print : ℕ) → print ≡ print % 4294967296
      → print_on print values ≡ (print * run.factor + run.print) % 4294967296

-- ---- one value more

-- a print that goes on is the one before, as often as the factor says, and the other
joined_more : (p f q s : ℕ) (v : ℤ) → s ≡ (p * f + q) % 4294967296
    → mixed s v ≡ (p * (f * 31 % 4294967296) + mixed q v) % 4294967296
joined_more p f q s v is =
    ap (λ n. mixed n v) is
    ∙ (sym (mod-add-mod (x % m * 31) m w)
    ∙ (ap (λ n. (n + w) % m) (mul-mod_first x 31 m)
    ∙ (mod-add-mod (x * 31) m w
    ∙ (ap (λ n. n % m) same
    ∙ (sym (mod-add-mod (p * (f * 31)) m y)
    ∙ (ap (λ n. (n + y) % m) (sym (mul-mod_second p (f * 31) m))
    ∙ (mod-add-mod (p * (f * 31 % m)) m y ∙ sym (add-mod-mod (p * (f * 31 % m)) y m))))))))
  where
    m : ℕ
    m = 4294967296

    w : ℕ
    w = unsigned_abs v % 4294967296

    x : ℕ
    x = p * f + q

    y : ℕ
    y = q * 31 + w

    same : x * 31 + w ≡ p * (f * 31) + y
    same = let e = mul_assoc p f 31 in omega (arith, e)

-- ---- the facts behind a run

-- The run is the one before, with the facts behind it.
record GoesOn (start run : Run) (facts : List Fact) : Type 0 where
  values : List ℤ
  are : facts ≡ consecutive (start.first + start.count) values
  first : run.first ≡ start.first
  count : run.count ≡ start.count + length values
  print : run.print ≡ print_on start.print values
  joins : (p s : ℕ) → s ≡ (p * start.factor + start.print) % 4294967296
      → print_on s values ≡ (p * run.factor + run.print) % 4294967296

goes_on : (start run : Run) (facts : List Fact) → run_on start facts ≡ Some run
    → GoesOn start run facts
goes_on start run [] is =
    let same : start ≡ run = cc is in
    subst (λ r. GoesOn start r []) same (record {
      values = [];
      are = refl;
      first = refl;
      count = omega arith;
      print = refl;
      joins = λ p s e. e;
    })
goes_on start run (Equals cell v ∷ facts) is =
    by (cell == (start.first + start.count)) refl is (goes_on (run_more start v) run facts)
  where
    by : (b : Bool) → (cell == (start.first + start.count)) ≡ b
        → cond b (run_on (run_more start v) facts) None ≡ Some run
        → (run_on (run_more start v) facts ≡ Some run → GoesOn (run_more start v) run facts)
        → GoesOn start run (Equals cell v ∷ facts)
    by true e is go =
        let here : cell ≡ start.first + start.count = eqb-true cell (start.first + start.count) e in
        let rest = go is in
        let next : start.first + (start.count + 1) ≡ start.first + start.count + 1 = omega arith in
        let count = rest.count in
        record {
          values = v ∷ rest.values;
          are = ap (λ c. Equals c v ∷ facts) here
              ∙ ap (λ l. Equals (start.first + start.count) v ∷ l)
              (rest.are ∙ ap (λ c. consecutive c rest.values) next);
          first = rest.first;
          count = omega (arith, count);
          print = rest.print;
          joins = λ p s e. rest.joins p (mixed s v) (joined_more p start.factor start.print s v e);
        }
    by false e is go = absurd (cc is)
goes_on start run (At p ∷ facts) is = absurd (cc is)
goes_on start run (Stack s ∷ facts) is = absurd (cc is)
goes_on start run (Within c lo hi ∷ facts) is = absurd (cc is)
goes_on start run (Truth e h ∷ facts) is = absurd (cc is)

-- ---- the run of facts

consecutive_length : (cell : ℕ) (values : List ℤ)
    → length (consecutive cell values) ≡ length values
consecutive_length cell [] = refl
consecutive_length cell (value ∷ values) = ap suc (consecutive_length (cell + 1) values)

once : (p : ℕ) → p ≡ p * 1 + 0
once p = omega arith

pub run_is : (facts : List Fact) (run : Run) → run_of facts ≡ Some run → IsRunOf run facts
run_is [] run is = absurd (cc is)
run_is (Equals cell v ∷ facts) run is =
    from (goes_on (run_at cell) run (Equals cell v ∷ facts) is)
  where
    from : GoesOn (run_at cell) run (Equals cell v ∷ facts) → IsRunOf run (Equals cell v ∷ facts)
    from rest =
        let counted = rest.count in
        let long = ap length rest.are in
        let all = consecutive_length (cell + 0) rest.values in
        let first : cell + 0 ≡ run.first = omega (arith, rest.first) in
        record {
          values = rest.values;
          are = rest.are ∙ ap (λ c. consecutive c rest.values) first;
          count = omega (arith, counted);
          some = omega (arith, counted, long, all);
          print = rest.print;
          joins = λ p small. rest.joins p p (small ∙ ap (λ n. n % 4294967296) (once p));
        }
run_is (At p ∷ facts) run is = absurd (cc is)
run_is (Stack s ∷ facts) run is = absurd (cc is)
run_is (Within c lo hi ∷ facts) run is = absurd (cc is)
run_is (Truth e h ∷ facts) run is = absurd (cc is)
