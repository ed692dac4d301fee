-- The lines of the numbers below one more than this, and how long the text is.
use Rattle.std.proofs.Common.{◌≡◌, refl, ap, ◌∙◌, arith, ℕ, zero, suc, ◌+◌, ◌*◌, ◌<◌, ◌≤◌, List}
use Rattle.std.proofs.Common.{◌++◌}
use Rattle.std.proofs.Common.{length, codes}
use Rattle.std.specs.Prelude.{◌^◌, decimal}
use Rattle.std.proofs.lemmas.Fmt.{length-decimal-le}
use Rattle.std.proofs.lemmas.List.{length-append}
use Rattle.cpa_top_bench.specs.Texts.{bench_text, call_line, function_line, lines_of, numbered}
use Rattle.cpa_top_bench.specs.Texts.{test_line}

pub one_more : (line : ℕ → List ℕ) (k : ℕ) → lines_of line (k + 1) ≡ lines_of line k ++ line k
one_more line k = ap (lines_of line) {x = k + 1} {y = suc k} (omega arith)

joined : (xs ys : List ℕ) (a b : ℕ) → length xs ≤ a → length ys ≤ b → length (xs ++ ys) ≤ a + b
joined xs ys a b first second = omega (arith, length-append xs ys, first, second)

line_length : (front back : List ℕ) (a b k : ℕ) → length front ≤ a → length back ≤ b → k ≤ 400
    → length (numbered front back k) ≤ (a + 3) + b
line_length front back a b k short_front short_back few =
    joined (front ++ decimal k) back (a + 3) b
    (joined front (decimal k) a 3 short_front
    (length-decimal-le 3 k (omega arith) (omega arith) (omega arith))) short_back

lines_length : (front back : List ℕ) (most n : ℕ)
    → ((k : ℕ) → k ≤ 400 → length (numbered front back k) ≤ most) → n ≤ 400
    → length (lines_of (numbered front back) n) ≤ most * n
lines_length front back most zero each few = omega arith
lines_length front back most (suc k) each few =
    let first = lines_length front back most k each (omega arith) in
    let last = each k (omega arith) in
    let both = joined (lines_of (numbered front back) k) (numbered front back k) (most * k) most
    first last in
    omega (arith, both)

functions_length : (n : ℕ) → n ≤ 100 → length (lines_of function_line n) ≤ 103 * n
functions_length n few =
    lines_length (codes "int f")
    (codes "(int a){int s=a;for(int i=0;i<4;i=i+1){t[i]=s;s=s+1;}return s;}\n") 103 n
    (λ k small. line_length (codes "int f")
    (codes "(int a){int s=a;for(int i=0;i<4;i=i+1){t[i]=s;s=s+1;}return s;}\n") 10 90 k
    (omega arith) (omega arith) small)
    (omega arith)

calls_length : (n : ℕ) → n ≤ 100 → length (lines_of call_line n) ≤ 23 * n
calls_length n few =
    lines_length (codes "x=f") (codes "(x);\n") 23 n
    (λ k small. line_length (codes "x=f") (codes "(x);\n") 10 10 k (omega arith) (omega arith)
    small)
    (omega arith)

test_length : (n : ℕ) → n ≤ 100 → length (test_line (4 * n)) ≤ 33
test_length n few =
    line_length (codes "if(x!=") (codes ")reach_error();\n") 10 20 (4 * n) (omega arith)
    (omega arith) (omega arith)

module _ (n : ℕ) (few : n ≤ 100) where
  abbrev functions : List ℕ
  functions = lines_of function_line n

  abbrev calls : List ℕ
  calls = lines_of call_line n

  abbrev main_follows : List ℕ
  main_follows = codes "int t[8];\n" ++ functions ++ codes "int main(void){int x=0;\n"

  head_length : length main_follows ≤ (20 + 103 * n) + 30
  head_length =
      joined (codes "int t[8];\n" ++ functions) (codes "int main(void){int x=0;\n")
      (20 + 103 * n) 30
      (joined (codes "int t[8];\n") functions 20 (103 * n) (omega arith) (functions_length n few))
      (omega arith)

  calls_follow : length (main_follows ++ calls) ≤ ((20 + 103 * n) + 30) + 23 * n
  calls_follow =
      joined main_follows calls ((20 + 103 * n) + 30) (23 * n) head_length (calls_length n few)

  test_follows : length (main_follows ++ calls ++ test_line (4 * n))
      ≤ (((20 + 103 * n) + 30) + 23 * n) + 33
  test_follows =
      joined (main_follows ++ calls) (test_line (4 * n)) (((20 + 103 * n) + 30) + 23 * n) 33
      calls_follow (test_length n few)

  whole_length : length (bench_text n) ≤ ((((20 + 103 * n) + 30) + 23 * n) + 33) + 20
  whole_length =
      joined (main_follows ++ calls ++ test_line (4 * n)) (codes "return 0;}\n")
      ((((20 + 103 * n) + 30) + 23 * n) + 33) 20 test_follows (omega arith)

  pub text_is_short : length (bench_text n) ≤ 1048576
  text_is_short = let whole = whole_length in omega (arith, whole, few)
