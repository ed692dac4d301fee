-- Marks that are set and noted.
use Rattle.std.proofs.Common.{◌≡◌, ℕ, ◌+◌, ◌*◌, ◌/◌, ◌%◌, ◌^◌, ◌<◌, ◌≤◌, Bool, true}
use Rattle.std.proofs.Common.{false, not, cond, ◌&&◌, ◌||◌, List, [], ◌∷◌, ◌++◌, ◌⊎◌, inl, inr}
use Rattle.std.proofs.Common.{Option, Some, None, subst, length, get_or, take, set, refl, sym, ap}
use Rattle.std.proofs.Common.{◌∙◌, arith}
use Rattle.std.specs.Prelude.{◌==◌, slice_index_or}
use Rattle.std.specs.List.{AllByRecursion}
use Rattle.std.proofs.lemmas.Bool.{or_cases, eq-eqb, eqb-true, ne_eqb, cases_eq, cases_lt}
use Rattle.std.proofs.lemmas.Bool.{false≢true}
use Rattle.std.proofs.lemmas.List.{get_or_past}
use Rattle.cpa_cnf.specs.Clauses.{has, IsClause}
use Rattle.cpa_cnf.specs.declared.formula.Step.{Step}
use Rattle.cpa_cnf.specs.declared.formula.Line.{Line}
use Rattle.cpa_cnf.specs.Literals.{opposite}
use Rattle.cpa_cnf.specs.Resolution.{clash_on, in_union_without, IsResolvent}
use Rattle.cpa_cnf.specs.Lines.{AreBelow, Gives, IsGoodLine}
use Rattle.cpa_cnf.specs.lemmas.Chains.{member_below}
use Rattle.cpa_sat_arena.specs.declared.literal.TheConstants.{NO_LITERAL}
use Rattle.cpa_sat_search.specs.declared.analysis.Analysis.{Analysis}
use Rattle.cpa_sat_search.specs.Analyses.{AreNoted, HasMarksOf, HasUnion, IsDerived}
use Rattle.cpa_cnf.specs.Marking.{marked, IsMarkedAs}
use Rattle.cpa_cnf.specs.lemmas.Members.{has-push, has-take_more, or_and, or_true_left}
use Rattle.cpa_cnf.specs.lemmas.Members.{or_true_right, and_true_right, and_false_right, not_eq}
use Rattle.cpa_cnf.specs.lemmas.Members.{not_eq_self, or_false_right}
use Rattle.std.specs.Cmp.{both_ways as both_true}
use Rattle.cpa_cnf.specs.lemmas.Marking.{marked-set_true, marked-set_false}

pub noted_more : (marks : List Bool) (n : ℕ) (touched : List ℕ) → n < length marks
    → ((l : ℕ) → marked marks l ≡ true → has touched l ≡ true)
    → (l : ℕ) → marked (set marks n true) l ≡ true → has (touched ++ n ∷ []) l ≡ true
noted_more marks n touched inside noted l h =
    has-push touched n l
    ∙ (elim (or_cases (marked marks l) (n == l) (sym (marked-set_true marks n l inside) ∙ h)) [
      | inl e ↦ or_true_left _ _ (noted l e)
      | inr e ↦ or_true_right (has touched l) (n == l) e
    ])

-- the next literal is marked too, or is the one that is left out
pub marks_others : (o t u : List Bool) (xs : List ℕ) (i x out l : ℕ) → i < length xs
    → x ≡ get_or xs i x → (x ≡ out → ⊥)
    → marked u l ≡ (marked t l || (x == l))
    → marked t l ≡ (marked o l || (has (take i xs) l && not (l == out)))
    → marked u l ≡ (marked o l || (has (take (i + 1) xs) l && not (l == out)))
marks_others o t u xs i x out l below is ne more same =
    more
    ∙ ap (λ b. b || (x == l)) same
    ∙ ap (λ b. (marked o l || (has (take i xs) l && not (l == out))) || b)
    (sym (and_true_right (x == l) (not (l == out))
    (λ e. not_eq l out (λ f. ne (eqb-true x l e ∙ f)))))
    ∙ sym (or_and (marked o l) (has (take i xs) l) (x == l) (not (l == out)))
    ∙ ap (λ b. marked o l || (b && not (l == out)))
    (sym (has-take_more xs i x l below ∙ ap (λ y. has (take i xs) l || (y == l)) (sym is)))

pub leaves_out : (o t : List Bool) (xs : List ℕ) (i x out l : ℕ) → i < length xs → x ≡ get_or xs i x
    → x ≡ out
    → marked t l ≡ (marked o l || (has (take i xs) l && not (l == out)))
    → marked t l ≡ (marked o l || (has (take (i + 1) xs) l && not (l == out)))
leaves_out o t xs i x out l below is e same =
    same
    ∙ sym (or_false_right (marked o l || (has (take i xs) l && not (l == out))))
    ∙ ap (λ b. (marked o l || (has (take i xs) l && not (l == out))) || b)
    (sym (and_false_right (x == l) (not (l == out))
    (λ f. not_eq_self l out (sym (eqb-true x l f) ∙ e))))
    ∙ sym (or_and (marked o l) (has (take i xs) l) (x == l) (not (l == out)))
    ∙ ap (λ b. marked o l || (b && not (l == out)))
    (sym (has-take_more xs i x l below ∙ ap (λ y. has (take i xs) l || (y == l)) (sym is)))

-- a literal on which sets of literals clash, seen from it
abbrev clash_at : (ℕ → Bool) → (ℕ → Bool) → ℕ → ℕ → Option ℕ
clash_at f g a b = cond (f a && g b) (Some a) (cond (f b && g a) (Some b) None)

first_clash : (f g : ℕ → Bool) (a b : ℕ) → f a ≡ true → g b ≡ true → clash_at f g a b ≡ Some a
first_clash f g a b p q = ap (λ t. cond (t && g b) (Some a) (cond (f b && g a) (Some b) None)) p
    ∙ ap (λ t. cond t (Some a) (cond (f b && g a) (Some b) None)) q

second_clash : (f g : ℕ → Bool) (a b : ℕ) → f a ≡ false → f b ≡ true → g a ≡ true
    → clash_at f g a b ≡ Some b
second_clash f g a b n p q =
    ap (λ t. cond (t && g b) (Some a) (cond (f b && g a) (Some b) None)) n
    ∙ ap (λ t. cond (t && g a) (Some b) None) p ∙ ap (λ t. cond t (Some b) None) q

pub clash_is : (f g : ℕ → Bool) (x : ℕ) → f x ≡ true → f (opposite x) ≡ false
    → g (opposite x) ≡ true → clash_on f g (x / 2) ≡ Some x
clash_is f g x here gone there = go (cases_eq (x % 2) 0)
  where
    go : (x % 2 ≡ 0) ⊎ (x % 2 ≡ 0 → ⊥) → clash_on f g (x / 2) ≡ Some x
    go (inl even) =
        let low : 2 * (x / 2) ≡ x = omega arith in
        let high : 2 * (x / 2) + 1 ≡ opposite x = omega arith in
        ap (λ a. clash_at f g a (2 * (x / 2) + 1)) low ∙ ap (λ b. clash_at f g x b) high
        ∙ first_clash f g x (opposite x) here there
    go (inr odd) =
        let low : 2 * (x / 2) ≡ opposite x = omega arith in
        let high : 2 * (x / 2) + 1 ≡ x = omega arith in
        ap (λ a. clash_at f g a (2 * (x / 2) + 1)) low ∙ ap (λ b. clash_at f g (opposite x) b) high
        ∙ second_clash f g (opposite x) x gone here there

pub gives_more : (cs : List (List ℕ)) (a : List ℕ) (ss : List Step) (b : List ℕ) (s : Step)
    (r : List ℕ)
    → Gives cs a ss b → IsResolvent b (slice_index_or cs s.clause []) s.pivot r
    → Gives cs a (ss ++ s ∷ []) r
gives_more cs a [] b s r chain step =
    let same : a ≡ b = chain in (
      r,
      subst (λ (d : List ℕ). IsResolvent d (slice_index_or cs s.clause []) s.pivot r) (sym same)
          step,
      refl,
    )
gives_more cs a (t ∷ ss) b s r chain step =
    (chain.0, chain.1, gives_more cs chain.0 ss b s r chain.2 step)

pub all_more : (P : Step → Type 0) (ss : List Step) (s : Step) → AllByRecursion P ss → P s
    → AllByRecursion P (ss ++ s ∷ [])
all_more P [] s all here = (here, tt)
all_more P (t ∷ ss) s all here = (all.0, all_more P ss s all.1 here)

-- the resolvent of the marked literals with a clause
pub resolves : (old new : List Bool) (a b : List ℕ) (x : ℕ) (r : List ℕ) → IsMarkedAs old a
    → IsMarkedAs new r
    → marked old x ≡ true → marked old (opposite x) ≡ false → has b (opposite x) ≡ true
    → ((l : ℕ) → marked new l ≡ in_union_without (marked old) (has b) x l)
    → IsResolvent a b (x / 2) r
resolves old new a b x r before after here gone there union = record {
  literal = x;
  clash = clash_is (has a) (has b) x (before.same x ∙ here) (before.same (opposite x) ∙ gone) there;
  union = λ l. after.same l ∙ union l
      ∙ sym (ap (λ u. (u && not (l == x)) || (has b l && not (l == opposite x))) (before.same l));
  sorted = after.sorted;
}

and_true_end : (b : Bool) → (b && true) ≡ b
and_true_end true = refl
and_true_end false = refl

-- one literal after the other is taken
pub taken_next : (o t : List Bool) (lits more touched : List ℕ) (i x l : ℕ) → i < length touched
    → x ≡ get_or touched i x
    → marked t l ≡ (marked o l && not (has (take i touched) l))
    → marked t x ≡ (marked o x && not (has (take i touched) x))
    → has lits l ≡ (marked o l && has (take i touched) l)
    → has more l ≡ (has lits l || (marked t x && (x == l)))
    → has more l ≡ (marked o l && has (take (i + 1) touched) l)
taken_next o t lits more touched i x l inside is now now_x so_far next =
    next ∙ ap (λ b. b || (marked t x && (x == l))) so_far
    ∙ go (cases_eq x l)
    ∙ ap (λ b. marked o l && b) (sym (has-take_more touched i x l inside
    ∙ ap (λ y. has (take i touched) l || (y == l)) (sym is)))
  where
    taken : (m h : Bool) → ((m && h) || (m && not h)) ≡ (m && (h || true))
    taken true true = refl
    taken true false = refl
    taken false h = refl

    kept : (m h y : Bool) → ((m && h) || (y && false)) ≡ (m && (h || false))
    kept true true y = refl
    kept true false true = refl
    kept true false false = refl
    kept false h true = refl
    kept false h false = refl

    go : (x ≡ l) ⊎ (x ≡ l → ⊥) → ((marked o l && has (take i touched) l)
        || (marked t x && (x == l))) ≡ (marked o l && (has (take i touched) l || (x == l)))
    go (inl e) =
        ap (λ b. (marked o l && has (take i touched) l) || (marked t x && b)) (eq-eqb x l e)
        ∙ ap (λ b. (marked o l && has (take i touched) l) || b) (and_true_end (marked t x)
        ∙ ap (λ y. marked t y) e ∙ now)
        ∙ taken (marked o l) (has (take i touched) l)
        ∙ ap (λ b. marked o l && (has (take i touched) l || b)) (sym (eq-eqb x l e))
    go (inr ne) =
        ap (λ b. (marked o l && has (take i touched) l) || (marked t x && b)) (ne_eqb x l ne)
        ∙ kept (marked o l) (has (take i touched) l) (marked t x)
        ∙ ap (λ b. marked o l && (has (take i touched) l || b)) (sym (ne_eqb x l ne))

pub left_next : (o t u : List Bool) (touched : List ℕ) (i x l : ℕ) → i < length touched
    → x ≡ get_or touched i x
    → marked t l ≡ (marked o l && not (has (take i touched) l))
    → marked u l ≡ (marked t l && not (x == l))
    → marked u l ≡ (marked o l && not (has (take (i + 1) touched) l))
left_next o t u touched i x l inside is now next =
    next ∙ ap (λ b. b && not (x == l)) now ∙ both (marked o l) (has (take i touched) l) (x == l)
    ∙ ap (λ b. marked o l && not b) (sym (has-take_more touched i x l inside
    ∙ ap (λ y. has (take i touched) l || (y == l)) (sym is)))
  where
    both : (a b c : Bool) → ((a && not b) && not c) ≡ (a && not (b || c))
    both true true c = refl
    both true false c = refl
    both false b c = refl

-- at the end all are taken
pub taken_all : (o : List Bool) (touched : List ℕ) (l : ℕ)
    → ((x : ℕ) → marked o x ≡ true → has touched x ≡ true)
    → (marked o l && has touched l) ≡ marked o l
taken_all o touched l noted = and_true_right (marked o l) (has touched l) (noted l)

pub left_none : (o : List Bool) (touched : List ℕ) (l : ℕ)
    → ((x : ℕ) → marked o x ≡ true → has touched x ≡ true)
    → (marked o l && not (has touched l)) ≡ false
left_none o touched l noted = and_false_right (marked o l) (not (has touched l))
    (λ h. ap not (noted l h))

pub all_below : (n : ℕ) (xs : List ℕ) → ((l : ℕ) → has xs l ≡ true → l < n)
    → AllByRecursion (λ l. l < n) xs
all_below n [] h = tt
all_below n (x ∷ xs) h = (
  h x (or_true_left (x == x) (has xs x) (eq-eqb x x refl)),
  all_below n xs (λ l e. h l (or_true_right (x == l) (has xs l) e)),
)

pub marked_inside : (marks : List Bool) (l : ℕ) → marked marks l ≡ true → l < length marks
marked_inside marks l h = go (cases_lt l (length marks))
  where
    go : (l < length marks) ⊎ (length marks ≤ l) → l < length marks
    go (inl less) = less
    go (inr past) = absurd (false≢true (sym (get_or_past marks l false past) ∙ h))

-- what the first loop marks are the literals of the clause
pub begun_marks : (vars except : ℕ) (old new : List Bool) (read clause : List ℕ)
    → except ≡ NO_LITERAL → read ≡ clause → vars < 2 ^ 31 → AreBelow vars clause
    → ((l : ℕ) → marked old l ≡ false)
    → ((l : ℕ) → marked new l ≡ (marked old l || (has read l && not (l == except)))) → (l : ℕ)
    → marked new l ≡ has clause l
begun_marks vars except old new read clause none same small below blank marks l =
    marks l ∙ ap (λ b. b || (has read l && not (l == except))) (blank l)
    ∙ ap (λ n. has read l && not (l == n)) none
    ∙ ap (λ xs. has xs l && not (l == NO_LITERAL)) same
    ∙ and_true_right (has clause l) (not (l == NO_LITERAL))
    (λ h. not_eq l NO_LITERAL (λ e. in_range (member_below vars clause l below h) e))
  where
    in_range : l < 2 * vars → l ≡ NO_LITERAL → ⊥
    in_range h e = absurd (omega arith)

pub begun : (cs : List (List ℕ)) (number : ℕ) (a : Analysis) → length a.marks.items ≡ 2 * a.vars
    → a.first ≡ number → number < length cs → a.steps.items ≡ []
    → IsClause (slice_index_or cs number []) → HasMarksOf (slice_index_or cs number []) a
    → AreNoted a → IsDerived cs a
begun cs number a long first inside none sorted marks noted = record {
  long = long;
  first = subst (λ n. n < length cs) (sym first) inside;
  numbers = subst (λ (ss : List Step). AllByRecursion (λ (s : Step). s.clause < length cs) ss)
      (sym none) tt;
  pivots = subst (λ (ss : List Step). AllByRecursion (λ (s : Step). s.pivot < a.vars) ss) (sym none)
      tt;
  chain = (
    slice_index_or cs number [],
    record { same = λ l. sym (marks l); sorted = sorted },
    subst (λ (ss : List Step). Gives cs (slice_index_or cs a.first []) ss
        (slice_index_or cs number [])) (sym none) (ap (λ n. slice_index_or cs n []) first),
  );
  noted = noted;
}

-- one more step of the chain
pub derived_more : (cs : List (List ℕ)) (a b : Analysis) (x number : ℕ) → IsDerived cs a
    → b.vars ≡ a.vars → length b.marks.items ≡ length a.marks.items → b.first ≡ a.first
    → b.steps.items ≡ a.steps.items ++ record { pivot = x / 2; clause = number } ∷ []
    → number < length cs → x < 2 * a.vars
    → marked a.marks.items x ≡ true → marked a.marks.items (opposite x) ≡ false
    → has (slice_index_or cs number []) (opposite x) ≡ true
    → HasUnion a (slice_index_or cs number []) x b → AreNoted b
    → ((table : List Bool) → (c : List ℕ) × IsMarkedAs table c) → IsDerived cs b
derived_more cs a b x number d vars long first steps inside range here gone there union noted
    listed =
    let r = listed b.marks.items in
    let s : Step = record { pivot = x / 2; clause = number } in
    record {
      long = long ∙ d.long ∙ ap (λ n. 2 * n) (sym vars);
      first = subst (λ n. n < length cs) (sym first) d.first;
      numbers = subst (λ (ss : List Step). AllByRecursion (λ (t : Step). t.clause < length cs) ss)
          (sym steps) (all_more (λ (t : Step). t.clause < length cs) a.steps.items s d.numbers
          inside);
      pivots = subst (λ (ss : List Step). AllByRecursion (λ (t : Step). t.pivot < b.vars) ss)
          (sym steps)
          (all_more (λ (t : Step). t.pivot < b.vars) a.steps.items s
          (subst (λ n. AllByRecursion (λ (t : Step). t.pivot < n) a.steps.items) (sym vars)
          d.pivots)
          (subst (λ n. x / 2 < n) (sym vars) (half x a.vars range)));
      chain = (
        r.0,
        r.1,
        subst (λ (ss : List Step). Gives cs (slice_index_or cs b.first []) ss r.0) (sym steps)
            (subst (λ n. Gives cs (slice_index_or cs n []) (a.steps.items ++ s ∷ []) r.0)
            (sym first)
            (gives_more cs _ a.steps.items d.chain.0 s r.0 d.chain.2
            (resolves a.marks.items b.marks.items d.chain.0 (slice_index_or cs number []) x r.0
            d.chain.1 r.1 here gone there union))),
      );
      noted = noted;
    }
  where
    half : (y n : ℕ) → y < 2 * n → y / 2 < n
    half y n h = omega arith

same_test : (a b : ℕ) → (a == b) ≡ (b == a)
same_test a b = both_true (a == b) (b == a) (λ e. eq-eqb b a (sym (eqb-true a b e)))
    (λ e. eq-eqb a b (sym (eqb-true b a e)))

pub union_of : (old new : List Bool) (b c : List ℕ) (x y l : ℕ) → x < length old → c ≡ b
    → y ≡ opposite x
    → marked new l ≡ (marked (set old x false) l || (has c l && not (l == y)))
    → marked new l ≡ in_union_without (marked old) (has b) x l
union_of old new b c x y l inside is flipped marks =
    marks
    ∙ ap (λ t. t || (has c l && not (l == y))) (marked-set_false old x l inside
    ∙ ap (λ t. marked old l && not t) (same_test x l))
    ∙ ap (λ (d : List ℕ). (marked old l && not (l == x)) || (has d l && not (l == y))) is
    ∙ ap (λ z. (marked old l && not (l == x)) || (has b l && not (l == z))) flipped

pub has_taken : (lits more : List ℕ) (marks : List Bool) (x y l : ℕ) → more ≡ lits ++ y ∷ [] → y ≡ x
    → marked marks x ≡ true
    → has more l ≡ (has lits l || (marked marks x && (x == l)))
has_taken lits more marks x y l is same here =
    ap (λ (xs : List ℕ). has xs l) is ∙ has-push lits y l ∙ ap (λ z. has lits l || (z == l)) same
    ∙ sym (ap (λ b. has lits l || (b && (x == l))) here)

pub finished : (cs : List (List ℕ)) (a : Analysis) (line : Line) → IsDerived cs a
    → line.first ≡ a.first → line.steps ≡ a.steps.items
    → IsClause line.clause → ((l : ℕ) → has line.clause l ≡ marked a.marks.items l)
    → ((b c : List ℕ) → IsClause b → IsClause c → ((l : ℕ) → has b l ≡ has c l) → b ≡ c)
    → IsGoodLine a.vars cs line
finished cs a line d first steps sorted marks same =
    let is : d.chain.0 ≡ line.clause =
    same d.chain.0 line.clause d.chain.1.sorted sorted (λ l. d.chain.1.same l
    ∙ sym (marks l)) in
    record {
      range = record {
        first = subst (λ n. n < length cs) (sym first) d.first;
        numbers = subst (λ (ss : List Step). AllByRecursion (λ (s : Step). s.clause < length cs) ss)
            (sym steps) d.numbers;
        pivots = subst (λ (ss : List Step). AllByRecursion (λ (s : Step). s.pivot < a.vars) ss)
            (sym steps) d.pivots;
        variables = all_below (2 * a.vars) line.clause
            (λ l h. subst (λ n. l < n) d.long (marked_inside a.marks.items l (sym (marks l) ∙ h)));
      };
      chain = subst (λ (c : List ℕ). Gives cs (slice_index_or cs line.first []) line.steps c) is
          (subst (λ (ss : List Step). Gives cs (slice_index_or cs line.first []) ss d.chain.0)
          (sym steps)
          (subst (λ n. Gives cs (slice_index_or cs n []) a.steps.items d.chain.0) (sym first)
          d.chain.2));
    }
