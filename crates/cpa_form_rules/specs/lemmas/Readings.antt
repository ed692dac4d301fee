-- Expressions that read new cells and named ones alone, in what a call adds.
use Rattle.std.proofs.Common.{◌≡◌, ℕ, zero, suc, ◌+◌, ◌<◌, ◌≤◌, nat_le, nat_lt, ℤ, pos, Bool, true}
use Rattle.std.proofs.Common.{false, IsTrue, List, [], ◌∷◌, length, Some, slice_get, refl, sym, ◌∙◌}
use Rattle.std.proofs.Common.{subst, arith, ◌⊎◌, inl, inr}
use Rattle.std.specs.List.{AllByRecursion}
use Rattle.std.proofs.lemmas.Bool.{and_parts}
use Rattle.std.proofs.lemmas.Bool.Decides.{nat_tests}
use Rattle.cpa_ints.specs.declared.integers.IntType.{IntType}
use Rattle.cpa_ints.specs.declared.integers.IntType.TheVariants as ty
use Rattle.cpa_expr.specs.declared.tree.CmpOp.{CmpOp}
use Rattle.cpa_expr.specs.declared.tree.CmpOp.TheVariants as cmp
use Rattle.cpa_expr.specs.declared.tree.Expr.{Expr}
use Rattle.cpa_expr.specs.declared.tree.Expr.TheVariants.{Const, Read, Cmp, Cast, Or, Not}
use Rattle.cpa_expr.specs.Shape.{type_of}
use Rattle.cpa_expr.specs.Cells.{is_within, may_read, scalar_read}
use Rattle.cpa_expr.specs.Laws.{reads_at_variants}
use Rattle.cpa_form_renaming.specs.declared.places.Place.{Place}
use Rattle.cpa_form_renaming.specs.Places.{number_at}
use Rattle.cpa_form_renaming.specs.Renaming.{renamed, IsReadable}
use Rattle.cpa_form_renaming.specs.Laws.{renaming_keeps_meanings}
use Rattle.cpa_form_renaming.specs.lemmas.Nodes.{or_cases}
use Rattle.cpa_form_rules.specs.declared.drafts.Draft.{Draft}
use Rattle.cpa_form_rules.specs.Drafts.{next, fresh, want, named, copied, want_all, written}
use Rattle.cpa_form_rules.specs.Drafts.{kept_unless, block}
use Rattle.cpa_form_rules.specs.Tests.{some_from, want_some, want_each}
use Rattle.cpa_form_rules.specs.lemmas.Lists.{all_both}

-- the read of a cell reads the cell
pub scalar_reads : (t : IntType) (n k : ℕ) → IsTrue (may_read (scalar_read t n) k) → k ≡ n
scalar_reads t n k h =
    or_cases (is_within n 1 k) (may_read (Const ty.I32 (pos 0)) k)
    (sym (reads_at_variants.read t n 1 (Const ty.I32 (pos 0)) k) ∙ h)
    (λ w. let both = and_parts (nat_le n k) (nat_lt k (n + 1)) w in
    let low : n ≤ k = grind (arith, nat_tests, both.0) in
    let high : k < n + 1 = grind (arith, nat_tests, both.1) in omega (arith, low, high))
    (λ w. let none = reads_at_variants.constant ty.I32 (pos 0) k in absurd (cc))

module _ (first : ℕ) (Named : ℕ → Type 0) where
  -- an expression that reads new cells and named ones alone
  abbrev pub Only : Expr → Type 0
  Only e = (k : ℕ) → IsTrue (may_read e k) → (first ≤ k) ⊎ Named k

  pub only_new : (t : IntType) (n : ℕ) → first ≤ n → Only (scalar_read t n)
  only_new t n new k h = inl (let is = scalar_reads t n k h in omega (arith, new, is))

  pub only_named : (t : IntType) (n : ℕ) → (first ≤ n) ⊎ Named n → Only (scalar_read t n)
  only_named t n may k h =
      subst (λ m. (first ≤ m) ⊎ Named m) (sym (scalar_reads t n k h)) may

  only_constant : (t : IntType) (v : ℤ) → Only (Const t v)
  only_constant t v k h = let none = reads_at_variants.constant t v k in absurd (cc)

  only_compared : (o : CmpOp) (t : IntType) (a b : Expr) → Only a → Only b → Only (Cmp o t a b)
  only_compared o t a b h l k read =
      or_cases (may_read a k) (may_read b k) (sym (reads_at_variants.comparison o t a b k) ∙ read)
      (h k) (l k)

  only_or : (a b : Expr) → Only a → Only b → Only (Or a b)
  only_or a b h l k read =
      or_cases (may_read a k) (may_read b k) (sym (reads_at_variants.disjunction a b k) ∙ read)
      (h k) (l k)

  only_not : (a : Expr) → Only a → Only (Not a)
  only_not a h k read = h k (sym (reads_at_variants.negation a k) ∙ read)

  only_cast : (t : IntType) (a : Expr) → Only a → Only (Cast t a)
  only_cast t a h k read = h k (sym (reads_at_variants.cast t a k) ∙ read)

  only_array : (t : IntType) (base len : ℕ) (index : Expr) → first ≤ base → Only index
      → Only (Read t base len index)
  only_array t base len index new h k read =
      or_cases (is_within base len k) (may_read index k)
      (sym (reads_at_variants.read t base len index k) ∙ read)
      (λ w. let both = and_parts (nat_le base k) (nat_lt k (base + len)) w in
      let low : base ≤ k = grind (arith, nat_tests, both.0) in inl (omega (arith, new, low)))
      (h k)

  -- a draft behind the cells that were there, whose wanted expressions read so
  pub record Drafted (d : Draft) : Type 0 where
    pub behind : first ≤ d.first
    pub wanted : AllByRecursion (λ (w : Expr × Bool). Only w.0) d.wanted

  pub next_new : (d : Draft) → Drafted d → first ≤ next d
  next_new d drafted = let low = drafted.behind in omega (arith, low)

  pub drafted_fresh : (t : IntType) (d : Draft) → Drafted d → Drafted (fresh t d)
  drafted_fresh t d drafted = record { behind = drafted.behind; wanted = drafted.wanted }

  pub drafted_want : (e : Expr) (holds : Bool) (d : Draft) → Only e → Drafted d
      → Drafted (want e holds d)
  drafted_want e holds d only drafted = record {
    behind = drafted.behind;
    wanted = all_both (λ (w : Expr × Bool). Only w.0) d.wanted ((e, holds) ∷ []) drafted.wanted
        (only, tt);
  }

  pub drafted_named : (e : Expr) (d : Draft) → Only e → Drafted d → Drafted (named e d)
  drafted_named e d only drafted =
      drafted_want (Cmp cmp.Eq (type_of e) (scalar_read (type_of e) (next d)) e) true
      (fresh (type_of e) d)
      (only_compared cmp.Eq (type_of e) (scalar_read (type_of e) (next d)) e
      (only_new (type_of e) (next d) (next_new d drafted)) only)
      (drafted_fresh (type_of e) d drafted)

  -- places that are new or named
  abbrev pub AreNamed : List Place → Type 0
  AreNamed = AllByRecursion (λ (p : Place). (first ≤ p.number) ⊎ Named p.number)

  -- copies of named cells are new cells
  pub copied_only : (marks : List Bool) (places : List Place) (d : Draft)
      → ((i : ℕ) → slice_get marks i ≡ Some true → Named (number_at places i))
      → Drafted d → Drafted (copied marks places d).draft
  copied_only [] places d all drafted = drafted
  copied_only (true ∷ marks) [] d all drafted = drafted
  copied_only (false ∷ marks) [] d all drafted = drafted
  copied_only (true ∷ marks) (p ∷ places) d all drafted =
      copied_only marks places (named (scalar_read p.ty p.number) d) (λ i is. all (suc i) is)
      (drafted_named (scalar_read p.ty p.number) d
      (only_named p.ty p.number (inr (all 0 refl))) drafted)
  copied_only (false ∷ marks) (p ∷ places) d all drafted =
      copied_only marks places d (λ i is. all (suc i) is) drafted

  -- a place behind the copies is new, or is the place that was there
  pub copied_places : (marks : List Bool) (places : List Place) (d : Draft) → first ≤ d.first
      → length marks ≡ length places → (i : ℕ)
      → (first ≤ number_at (copied marks places d).places i)
      ⊎ (number_at (copied marks places d).places i ≡ number_at places i)
  copied_places [] [] d new long i = inr refl
  copied_places [] (p ∷ places) d new long i = absurd (omega (arith, long))
  copied_places (mark ∷ marks) [] d new long i = absurd (omega (arith, long))
  copied_places (true ∷ marks) (p ∷ places) d new long zero = inl (omega (arith, new))
  copied_places (true ∷ marks) (p ∷ places) d new long (suc i) =
      copied_places marks places (named (scalar_read p.ty p.number) d) new (omega (arith, long)) i
  copied_places (false ∷ marks) (p ∷ places) d new long zero = inr refl
  copied_places (false ∷ marks) (p ∷ places) d new long (suc i) =
      copied_places marks places d new (omega (arith, long)) i

  -- an expression at places, where each cell that it reads is named or has a new place
  pub renamed_only : (places : List Place) (types : List IntType) (e : Expr)
      → IsReadable places types e
      → ((cell : ℕ) → IsTrue (may_read e cell)
      → (first ≤ number_at places cell) ⊎ Named (number_at places cell))
      → Only (renamed places e)
  renamed_only places types e readable all k read =
      let found = renaming_keeps_meanings.reads places types e k readable read in
      subst (λ m. (first ≤ m) ⊎ Named m) (sym found.2) (all found.0 found.1)

  -- each expression can be read at the places, and reads so there
  abbrev pub AllRenamed : List Place → List (Expr × Bool) → Type 0
  AllRenamed places = AllByRecursion (λ (one : Expr × Bool). Only (renamed places one.0))

  pub wanted_only : (places : List Place) (asked : List (Expr × Bool)) (d : Draft)
      → AllRenamed places asked → Drafted d → Drafted (want_all places asked d)
  wanted_only places [] d all drafted = drafted
  wanted_only places (one ∷ asked) d all drafted =
      wanted_only places asked (want (renamed places one.0) one.1 d) all.1
      (drafted_want (renamed places one.0) one.1 d all.0 drafted)

  chain_only : (places : List Place) (tests : List (Expr × Bool)) (head : ℕ) (d : Draft)
      → AllRenamed places tests → first ≤ head → Drafted d
      → Drafted (some_from places tests head d)
  chain_only places [] head d all new drafted =
      drafted_want (scalar_read ty.Bool head) false d (only_new ty.Bool head new) drafted
  chain_only places (one ∷ tests) head d all new drafted =
      let inner = Or (renamed places one.0) (scalar_read ty.Bool (next d)) in
      chain_only places tests (next d)
      (want (Or (Not (scalar_read ty.Bool head)) inner) true (fresh ty.Bool d)) all.1
      (next_new d drafted)
      (drafted_want (Or (Not (scalar_read ty.Bool head)) inner) true (fresh ty.Bool d)
      (only_or (Not (scalar_read ty.Bool head)) inner
      (only_not (scalar_read ty.Bool head) (only_new ty.Bool head new))
      (only_or (renamed places one.0) (scalar_read ty.Bool (next d)) all.0
      (only_new ty.Bool (next d) (next_new d drafted)))) (drafted_fresh ty.Bool d drafted))

  some_only : (places : List Place) (tests : List (Expr × Bool)) (d : Draft)
      → AllRenamed places tests → Drafted d → Drafted (want_some places tests d)
  some_only places tests d all drafted =
      chain_only places tests (next d)
      (want (scalar_read ty.Bool (next d)) true (fresh ty.Bool d)) all (next_new d drafted)
      (drafted_want (scalar_read ty.Bool (next d)) true (fresh ty.Bool d)
      (only_new ty.Bool (next d) (next_new d drafted)) (drafted_fresh ty.Bool d drafted))

  pub each_only : (places : List Place) (lists : List (List (Expr × Bool))) (d : Draft)
      → AllByRecursion (AllRenamed places) lists → Drafted d → Drafted (want_each places lists d)
  each_only places [] d all drafted = drafted
  each_only places (tests ∷ lists) d all drafted =
      each_only places lists (want_some places tests d) all.1
      (some_only places tests d all.0 drafted)

  pub block_only : (places : List Place) (base : ℕ) (t : IntType) (index : Expr) (i : ℕ) (d : Draft)
      → ((j : ℕ) → j < i
      → (first ≤ number_at places (base + j)) ⊎ Named (number_at places (base + j)))
      → Only index → Drafted d → Drafted (block places base t index i d)
  block_only places base t index zero d all only drafted = drafted
  block_only places base t index (suc i) d all only drafted =
      let b = block places base t index i d in
      let rest = block_only places base t index i d (λ j below. all j (omega (arith, below))) only
      drafted in
      let new = scalar_read t (next b) in
      let old = scalar_read t (number_at places (base + i)) in
      let here = Cmp cmp.Eq ty.I64 (Cast ty.I64 index) (Const ty.I64 (pos i)) in
      drafted_want (kept_unless t (next b) (number_at places (base + i)) index i) true (fresh t b)
      (only_or (Cmp cmp.Eq t new old) here
      (only_compared cmp.Eq t new old (only_new t (next b) (next_new b rest))
      (only_named t (number_at places (base + i)) (all i (omega arith))))
      (only_compared cmp.Eq ty.I64 (Cast ty.I64 index) (Const ty.I64 (pos i))
      (only_cast ty.I64 index only) (only_constant ty.I64 (pos i))))
      (drafted_fresh t b rest)

  pub written_only : (number len : ℕ) (index value : Expr) (d : Draft) → first ≤ number → Only index
      → Only value → Drafted d → Drafted (want (written number len index value) true d)
  written_only number len index value d new only also drafted =
      drafted_want (written number len index value) true d
      (only_compared cmp.Eq (type_of value) (Read (type_of value) number len index) value
      (only_array (type_of value) number len index new only) also) drafted
