-- What is left of numbers of which some are passed over, item by item: that all may be left, that
-- one more is passed over or left, and other reasons. Lemmas for the crates above.
use Rattle.std.specs.Prelude.{◌≡◌, ℕ, List, [], ◌∷◌, ◌++◌, refl}
use Rattle.std.proofs.Common.{ap, ◌∙◌}
use Rattle.cpa_reached.specs.lemmas.MemberLaws.{all_push, all_weaker}
use Rattle.cpa_reached.specs.Passed.{StandsBehind, LeavesOut}

grouped : (xs : List ℕ) (n : ℕ) (ys zs : List ℕ)
    → (xs ++ n ∷ ys) ++ zs ≡ xs ++ n ∷ (ys ++ zs)
grouped [] n ys zs = refl
grouped (x ∷ xs) n ys zs = ap (λ (l : List ℕ). x ∷ l) (grouped xs n ys zs)

-- with more behind it
abbrev stands_on : (P : ℕ → Type 0) (ns more : List ℕ) (m : ℕ) → StandsBehind P ns m
    → StandsBehind P (ns ++ more) m
stands_on P ns more m s = record {
  front = s.front;
  behind = s.behind ++ more;
  is = ap (λ (l : List ℕ). l ++ more) s.is ∙ grouped s.front m s.behind more;
  passed = s.passed;
}

-- none is passed over
pub all_left : (P : ℕ → Type 0) (ns : List ℕ) → LeavesOut P ns ns
all_left P [] = tt
all_left P (n ∷ ns) = (
  record { front = []; behind = ns; is = refl; passed = tt },
  all_left P ns,
)

-- the last one is passed over
pub passed_more : (P : ℕ → Type 0) (ns ms : List ℕ) (n : ℕ) → LeavesOut P ns ms → P n
    → LeavesOut P (ns ++ n ∷ []) ms
passed_more P ns [] n all p = all_push P ns n all p
passed_more P ns (m ∷ ms) n left p =
    (stands_on P ns (n ∷ []) m left.0, passed_more P left.0.behind ms n left.1 p)

-- the last one is left
pub left_more : (P : ℕ → Type 0) (ns ms : List ℕ) (n : ℕ) → LeavesOut P ns ms
    → LeavesOut P (ns ++ n ∷ []) (ms ++ n ∷ [])
left_more P ns [] n all = (record { front = ns; behind = []; is = refl; passed = all }, tt)
left_more P ns (m ∷ ms) n left =
    (stands_on P ns (n ∷ []) m left.0, left_more P left.0.behind ms n left.1)

-- for another reason
pub left_weaker : (P Q : ℕ → Type 0) (ns ms : List ℕ) → ((n : ℕ) → P n → Q n) → LeavesOut P ns ms
    → LeavesOut Q ns ms
left_weaker P Q ns [] f all = all_weaker P Q ns f all
left_weaker P Q ns (m ∷ ms) f left = (
  record {
    front = left.0.front;
    behind = left.0.behind;
    is = left.0.is;
    passed = all_weaker P Q left.0.front f left.0.passed;
  },
  left_weaker P Q left.0.behind ms f left.1,
)
