-- Which cells are set before they are read, act by act (`set_more`), and the acts before a write.
use Rattle.std.proofs.Common.{◌≡◌, ℕ, zero, suc, ◌+◌, ◌<◌, Bool, true, false, not, cond}
use Rattle.std.proofs.Common.{get_or}
use Rattle.std.proofs.Common.{List, [], ◌∷◌, ◌++◌, take, length, Some, refl, sym, ap, ◌∙◌}
use Rattle.std.proofs.Common.{arith}
use Rattle.std.specs.Prelude.{◌||◌, ◌&&◌, nat_lt, slice_get, Option, None}
use Rattle.std.specs.List.{list_any, list_all, range_with_len, AllByRecursion}
use Rattle.std.proofs.lemmas.List.{take_more}
use Rattle.cpa_model.specs.declared.automaton.Act.{Act}
use Rattle.cpa_model.specs.declared.automaton.Act.TheVariants as act
use Rattle.cpa_model.specs.declared.automaton.Cfa.{Cfa}
use Rattle.cpa_model.specs.declared.automaton.Edge.{Edge}
use Rattle.cpa_query.specs.Queries.{is_marked}
use Rattle.cpa_folds.specs.Along.{act_of, acts_along}
use Rattle.cpa_engine_rounds.specs.Pivots.{reads, sets, is_set_first, writes_some, before_write}
use Rattle.cpa_engine_rounds.specs.Pivots.{all_set_first, acts_before}

-- ---- acts

acts_both : (cfa : Cfa) (ns ms : List ℕ)
    → acts_along cfa (ns ++ ms) ≡ acts_along cfa ns ++ acts_along cfa ms
acts_both cfa [] ms = refl
acts_both cfa (n ∷ ns) ms = by (slice_get cfa.edges n) (acts_both cfa ns ms)
  where
    by : (o : Option Edge) → acts_along cfa (ns ++ ms) ≡ acts_along cfa ns ++ acts_along cfa ms
        → act_of o ++ acts_along cfa (ns ++ ms)
        ≡ (act_of o ++ acts_along cfa ns) ++ acts_along cfa ms
    by None rest = rest
    by (Some g) rest = ap (λ (acts : List Act). g.act ∷ acts) rest

pub one_act : (cfa : Cfa) (n : ℕ) (g : Edge) → slice_get cfa.edges n ≡ Some g
    → acts_along cfa (n ∷ []) ≡ g.act ∷ []
one_act cfa n g at = ap (λ (o : Option Edge). act_of o ++ []) at

pub acts_more : (cfa : Cfa) (path : List ℕ) (i : ℕ) (g : Edge) → i < length path
    → slice_get cfa.edges (get_or path i 0) ≡ Some g
    → acts_along cfa (take (i + 1) path) ≡ acts_along cfa (take i path) ++ g.act ∷ []
acts_more cfa path i g less edge =
    ap (acts_along cfa) (take_more path i 0 less)
    ∙ acts_both cfa (take i path) (get_or path i 0 ∷ [])
    ∙ ap (λ (acts : List Act). acts_along cfa (take i path) ++ acts)
    (one_act cfa (get_or path i 0) g edge)

pub acts_count : (cfa : Cfa) (path : List ℕ) → AllByRecursion (λ n. n < length cfa.edges) path
    → length (acts_along cfa path) ≡ length path
acts_count cfa [] inside = refl
acts_count cfa (n ∷ path) inside =
    by (slice_get cfa.edges n) (there cfa.edges n inside.0) (acts_count cfa path inside.1)
  where
    there : (edges : List Edge) (n : ℕ) → n < length edges
        → (g : Edge) × (slice_get edges n ≡ Some g)
    there [] n less = absurd (omega (arith, less))
    there (e ∷ edges) zero less = (e, refl)
    there (e ∷ edges) (suc n) less = there edges n (omega (arith, less))

    by : (o : Option Edge) → (g : Edge) × (o ≡ Some g)
        → length (acts_along cfa path) ≡ length path
        → length (act_of o ++ acts_along cfa path) ≡ suc (length path)
    by None is rest = absurd (let wrong = is.1 in cc)
    by (Some g) is rest = ap suc rest

-- ---- set before read

any_last : (t : Act → Bool) (xs : List Act) (a : Act)
    → list_any t (xs ++ a ∷ []) ≡ (list_any t xs || t a)
any_last t [] a = by (t a)
  where
    by : (b : Bool) → (b || false) ≡ b
    by true = refl
    by false = refl
any_last t (x ∷ xs) a =
    ap (λ (b : Bool). t x || b) (any_last t xs a) ∙ by (t x) (list_any t xs) (t a)
  where
    by : (a b c : Bool) → (a || (b || c)) ≡ ((a || b) || c)
    by true b c = refl
    by false b c = refl

set_last : (xs : List Act) (a : Act) (c : ℕ)
    → is_set_first (xs ++ a ∷ []) c ≡ (is_set_first xs c
    || (sets a c && not (list_any (λ b. reads b c) xs || reads a c)))
set_last [] a c = by (reads a c) (sets a c)
  where
    by : (r s : Bool) → (not r && (s || false)) ≡ (s && not r)
    by true true = refl
    by true false = refl
    by false true = refl
    by false false = refl
set_last (x ∷ xs) a c =
    ap (λ (b : Bool). not (reads x c) && (sets x c || b)) (set_last xs a c)
    ∙ by (reads x c) (sets x c) (is_set_first xs c) (sets a c)
    (list_any (λ b. reads b c) xs || reads a c) (list_any (λ b. reads b c) xs) (reads a c) refl
  where
    by : (r s f t any : Bool) (xs_read a_reads : Bool) → any ≡ (xs_read || a_reads)
        → (not r && (s || (f || (t && not any))))
        ≡ ((not r && (s || f)) || (t && not ((r || xs_read) || a_reads)))
    by true s f true any xs_read a_reads is = refl
    by true s f false any xs_read a_reads is = refl
    by false true f t any xs_read a_reads is = refl
    by false false true t any xs_read a_reads is = refl
    by false false false t any xs_read a_reads is = ap (λ (b : Bool). t && not b) is

-- one act more is read, and then may set
pub read_more : (xs : List Act) (a : Act) (c : ℕ) (old new less : Bool)
    → old ≡ (list_any (λ b. reads b c) xs && less) → new ≡ (old || (reads a c && less))
    → new ≡ (list_any (λ b. reads b c) (xs ++ a ∷ []) && less)
read_more xs a c old new less was is =
    is
    ∙ ap (λ (b : Bool). b || (reads a c && less)) was
    ∙ by (list_any (λ b. reads b c) xs) (reads a c) less
    ∙ ap (λ (b : Bool). b && less) (sym (any_last (λ b. reads b c) xs a))
  where
    by : (a b c : Bool) → ((a && c) || (b && c)) ≡ ((a || b) && c)
    by true true true = refl
    by true true false = refl
    by true false true = refl
    by true false false = refl
    by false b c = refl

pub set_more : (xs : List Act) (a : Act) (c : ℕ) (old new read less : Bool)
    → old ≡ (is_set_first xs c && less)
    → read ≡ (list_any (λ b. reads b c) (xs ++ a ∷ []) && less)
    → new ≡ (old || ((sets a c && not read) && less))
    → new ≡ (is_set_first (xs ++ a ∷ []) c && less)
set_more xs a c old new read less was is_read is =
    is
    ∙ ap (λ (b : Bool). b || ((sets a c && not read) && less)) was
    ∙ ap (λ (b : Bool). (is_set_first xs c && less) || ((sets a c && not b) && less)) is_read
    ∙ ap (λ (b : Bool). (is_set_first xs c && less) || ((sets a c && not (b && less)) && less))
    (any_last (λ b. reads b c) xs a)
    ∙ by (is_set_first xs c) (sets a c) (list_any (λ b. reads b c) xs || reads a c) less
    ∙ ap (λ (b : Bool). b && less) (sym (set_last xs a c))
  where
    by : (f s any less : Bool) → ((f && less) || ((s && not (any && less)) && less))
        ≡ ((f || (s && not any)) && less)
    by true true true true = refl
    by true true true false = refl
    by true true false true = refl
    by true true false false = refl
    by true false any true = refl
    by true false any false = refl
    by false true true true = refl
    by false true true false = refl
    by false true false true = refl
    by false true false false = refl
    by false false any less = refl

-- ---- tests that agree

any_same : (p q : ℕ → Bool) (ns : List ℕ) → ((n : ℕ) → p n ≡ q n)
    → list_any p ns ≡ list_any q ns
any_same p q [] same = refl
any_same p q (n ∷ ns) same =
    ap (λ (b : Bool). b || list_any p ns) (same n)
    ∙ ap (λ (b : Bool). q n || b) (any_same p q ns same)

writes_same : (p q : ℕ → Bool) → ((n : ℕ) → p n ≡ q n) → (a : Act)
    → writes_some p a ≡ writes_some q a
writes_same p q same act.Skip = refl
writes_same p q same (act.Assign base len index value) = any_same p q (range_with_len base len) same
writes_same p q same (act.Assume test holds) = refl
writes_same p q same (act.Input own) = same own
writes_same p q same (act.Call site) = refl
writes_same p q same (act.Return site) = refl

pub before_same : (p q : ℕ → Bool) (acts : List Act) → ((n : ℕ) → p n ≡ q n)
    → before_write p acts ≡ before_write q acts
before_same p q [] same = refl
before_same p q (a ∷ acts) same =
    ap (λ (b : Bool). cond (not b) (1 + before_write p acts) 0) (writes_same p q same a)
    ∙ ap (λ (n : ℕ). cond (not (writes_some q a)) (1 + n) 0) (before_same p q acts same)

all_same : (p q : ℕ → Bool) (ns : List ℕ) → ((n : ℕ) → p n ≡ q n)
    → list_all p ns ≡ list_all q ns
all_same p q [] same = refl
all_same p q (n ∷ ns) same =
    ap (λ (b : Bool). b && list_all p ns) (same n)
    ∙ ap (λ (b : Bool). q n && b) (all_same p q ns same)

-- marks of new cells against marks of those that are set first
pub all_set_same : (news set some : ℕ → Bool) (cells : ℕ) (acts : List Act)
    → ((n : ℕ) → some n ≡ (some n && nat_lt n cells)) → ((n : ℕ) → news n ≡ some n)
    → ((n : ℕ) → set n ≡ (is_set_first acts n && nat_lt n cells))
    → list_all (λ n. not (news n) || set n) (range_with_len 0 cells)
    ≡ all_set_first cells some acts
all_set_same news set some cells acts inside is_news is_set =
    all_same (λ n. not (news n) || set n) (λ n. not (some n) || is_set_first acts n)
    (range_with_len 0 cells)
    (λ n. ap (λ (b : Bool). not b || set n) (is_news n)
    ∙ ap (λ (b : Bool). not (some n) || b) (is_set n)
    ∙ by (some n) (is_set_first acts n) (nat_lt n cells) (inside n))
  where
    by : (s f less : Bool) → s ≡ (s && less) → (not s || (f && less)) ≡ (not s || f)
    by true true true is = refl
    by true true false is = absurd (cc)
    by true false true is = refl
    by true false false is = refl
    by false f less is = refl

pub below_cells : (a less : Bool) → (a && less) ≡ ((a && less) && less)
below_cells true true = refl
below_cells true false = refl
below_cells false less = refl

-- ---- the place

pub is_pivot : (cells edges : ℕ) (some : ℕ → Bool) (acts : List Act) (news set : List Bool)
    (all : Bool) (place result : ℕ) → ((n : ℕ) → some n ≡ (some n && nat_lt n cells))
    → length news ≡ cells → ((n : ℕ) → is_marked news n ≡ some n)
    → ((n : ℕ) → is_marked set n ≡ (is_set_first acts n && nat_lt n cells))
    → all ≡ list_all (λ n. not (is_marked news n) || is_marked set n)
    (range_with_len 0 (length news))
    → place ≡ before_write (is_marked news) acts → edges ≡ length acts
    → result ≡ cond (all && nat_lt place edges) place 0
    → result ≡ acts_before cells some acts
is_pivot cells edges some acts news set all place result inside long is_news is_set is_all is_place
    is_edges is =
    is
    ∙ ap (λ (b : Bool). cond (b && nat_lt place edges) place 0) each
    ∙ ap (λ (n : ℕ). cond (all_set_first cells some acts && nat_lt n edges) n 0) here
    ∙ ap (λ (n : ℕ). cond (all_set_first cells some acts && nat_lt (before_write some acts) n)
    (before_write some acts) 0) is_edges
  where
    each : all ≡ all_set_first cells some acts
    each =
        is_all
        ∙ ap (λ (n : ℕ). list_all (λ m. not (is_marked news m) || is_marked set m)
        (range_with_len 0 n)) long
        ∙ all_set_same (is_marked news) (is_marked set) some cells acts inside is_news is_set

    here : place ≡ before_write some acts
    here = is_place ∙ before_same (is_marked news) some acts is_news
