-- The text of a measurement (this project's own): so many functions, each of which adds 4 to its
-- argument, and a main that calls each once. So the test in main fails, and the error is not
-- reached.
use Rattle.std.specs.Prelude.{ℕ, zero, suc, ◌*◌, List, [], ◌++◌, codes, decimal}

-- a line with a number in it
abbrev pub numbered : List ℕ → List ℕ → ℕ → List ℕ
numbered front back k = front ++ decimal k ++ back

abbrev pub function_line : ℕ → List ℕ
function_line = numbered (codes "int f")
    (codes "(int a){int s=a;for(int i=0;i<4;i=i+1){t[i]=s;s=s+1;}return s;}\n")

abbrev pub call_line : ℕ → List ℕ
call_line = numbered (codes "x=f") (codes "(x);\n")

abbrev pub test_line : ℕ → List ℕ
test_line = numbered (codes "if(x!=") (codes ")reach_error();\n")

-- the lines of the numbers below this one
abbrev pub lines_of : (ℕ → List ℕ) → ℕ → List ℕ
lines_of line zero = []
lines_of line (suc k) = lines_of line k ++ line k

abbrev pub bench_text : ℕ → List ℕ
bench_text functions =
    codes "int t[8];\n" ++ lines_of function_line functions
    ++ codes "int main(void){int x=0;\n" ++ lines_of call_line functions
    ++ test_line (4 * functions) ++ codes "return 0;}\n"
