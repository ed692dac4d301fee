-- Where the places of cells go: those that move get new numbers, each its own.
use Rattle.std.proofs.Common.{◌≡◌, ◌≢◌, ℕ, zero, suc, ◌+◌, ◌<◌, ◌≤◌, Bool, true, false, List, []}
use Rattle.std.proofs.Common.{◌∷◌, length, Some, slice_get, refl, sym, ap, ◌∙◌, subst, arith, ◌⊎◌}
use Rattle.std.proofs.Common.{inl, inr}
use Rattle.std.specs.Prelude.{slice_set}
use Rattle.std.proofs.lemmas.List.{length-append}
use Rattle.cpa_ints.specs.declared.integers.IntType.{IntType}
use Rattle.cpa_expr.specs.declared.tree.Expr.{Expr}
use Rattle.cpa_expr.specs.Shape.{type_of}
use Rattle.cpa_expr.specs.Cells.{scalar_read}
use Rattle.cpa_form_renaming.specs.declared.places.Place.{Place}
use Rattle.cpa_form_renaming.specs.Places.{number_of, number_at}
use Rattle.cpa_form_rules.specs.declared.drafts.Draft.{Draft}
use Rattle.cpa_form_rules.specs.Drafts.{next, named, place_at, copied, moved}
use Rattle.cpa_form_rules.specs.lemmas.Places.{set_long, set_here, set_apart, same_or}

-- each place stands before this number
abbrev pub StandBelow : ℕ → List Place → Type 0
StandBelow n places = (c : ℕ) → c < length places → number_at places c < n

-- each is the place of one cell alone
abbrev pub AreOwn : List Place → Type 0
AreOwn places = (c d : ℕ) → c < length places → d < length places
    → number_at places c ≡ number_at places d → c ≡ d

-- The places `after`, where those `before` stand below `first`: a place stays, or it moves to a new
-- number below `last`, of which P says why. No two move to one number.
pub record Moves (first last : ℕ) (P : ℕ → Type 0) (before after : List Place) : Type 0 where
  pub long : length after ≡ length before
  pub more : first ≤ last
  pub goes : (c : ℕ) → c < length before → (number_at after c ≡ number_at before c)
      ⊎ ((first ≤ number_at after c) × (number_at after c < last) × P c)
  pub apart : (c d : ℕ) → c < length before → d < length before → first ≤ number_at after c
      → number_at after c ≡ number_at after d → c ≡ d

pub none_move : (first : ℕ) (P : ℕ → Type 0) (places : List Place) → StandBelow first places
    → Moves first first P places places
none_move first P places below = record {
  long = refl;
  more = omega arith;
  goes = λ c h. inl refl;
  apart = λ c d h k new same. let low = below c h in absurd (omega (arith, low, new));
}

pub moves_wider : (first last more : ℕ) (P Q : ℕ → Type 0) (before after : List Place)
    → last ≤ more → ((c : ℕ) → P c → Q c) → Moves first last P before after
    → Moves first more Q before after
moves_wider first last more P Q before after le all m = record {
  long = m.long;
  more = let up = m.more in omega (arith, up, le);
  goes = λ c h. elim (m.goes c h) [
    | inl same ↦ inl same
    | inr new ↦ let low = new.1 in inr (new.0, omega (arith, low, le), all c new.2)
  ];
  apart = m.apart;
}

-- places that are each of one cell stay so
pub still_own : (first last : ℕ) (P : ℕ → Type 0) (before after : List Place)
    → StandBelow first before → AreOwn before → Moves first last P before after → AreOwn after
still_own first last P before after below own m c d h k same =
    by c d (subst (λ n. c < n) m.long h) (subst (λ n. d < n) m.long k) same
  where
    by : (c d : ℕ) → c < length before → d < length before
        → number_at after c ≡ number_at after d → c ≡ d
    by c d h k same = elim (m.goes c h) [
      | inr new ↦ m.apart c d h k new.0 same
      | inl stays ↦ elim (m.goes d k) [
        | inr new ↦
            let low = below c h in
            let high = new.0 in absurd (omega (arith, low, high, same, stays))
        | inl also ↦ own c d h k (sym stays ∙ (same ∙ also))
      ]
    ]

-- ---- one place is set

number_here : (places : List Place) (cell number : ℕ) (t : IntType) → cell < length places
    → number_at (slice_set places cell (place_at number t)) cell ≡ number
number_here places cell number t h =
    ap number_of (set_here places cell (place_at number t) h)

number_apart : (places : List Place) (cell number : ℕ) (t : IntType) (c : ℕ) → c ≢ cell
    → number_at (slice_set places cell (place_at number t)) c ≡ number_at places c
number_apart places cell number t c h =
    ap number_of (set_apart places cell c (place_at number t) h)

module _ (first last : ℕ) (P : ℕ → Type 0) (before after : List Place)
    (below : StandBelow first before) (m : Moves first last P before after) (cell number : ℕ)
    (t : IntType) (new : last ≤ number) (is : P cell) where
  abbrev set : List Place
  set = slice_set after cell (place_at number t)

  -- a place that was there before stands below the number
  lower : (d : ℕ) → d < length before → number_at after d < number
  lower d k = elim (m.goes d k) [
    | inl stays ↦
        let low = below d k in
        let up = m.more in omega (arith, low, up, stays, new)
    | inr moved ↦ let low = moved.1 in omega (arith, low, new)
  ]

  at_own : (c : ℕ) → c < length before → c ≡ cell → number_at set c ≡ number
  at_own c h same =
      subst (λ k. number_at set k ≡ number) (sym same)
      (number_here after cell number t (subst (λ k. k < length after) same
      (subst (λ n. c < n) (sym m.long) h)))

  set_goes : (c : ℕ) → c < length before → (number_at set c ≡ number_at before c)
      ⊎ ((first ≤ number_at set c) × (number_at set c < number + 1) × P c)
  set_goes c h = elim (same_or c cell) [
    | inl same ↦
        let here = at_own c h same in
        let up = m.more in
        inr (omega (arith, here, up, new), omega (arith, here), subst P (sym same) is)
    | inr other ↦
        let there = number_apart after cell number t c other in
        elim (m.goes c h) [
          | inl stays ↦ inl (there ∙ stays)
          | inr moved ↦
              let from = moved.0 in
              let low = moved.1 in
              inr (omega (arith, there, from), omega (arith, there, low, new), moved.2)
        ]
  ]

  set_own_apart : (c d : ℕ) → c < length before → d < length before → first ≤ number_at set c
      → number_at set c ≡ number_at set d → c ≡ d
  set_own_apart c d h k from same = elim (same_or c cell) [
    | inl here ↦ elim (same_or d cell) [
      | inl also ↦ here ∙ sym also
      | inr other ↦
          let there = number_apart after cell number t d other in
          let own = at_own c h here in
          let low = lower d k in absurd (omega (arith, there, own, low, same))
    ]
    | inr other ↦ elim (same_or d cell) [
      | inl here ↦
          let there = number_apart after cell number t c other in
          let own = at_own d k here in
          let low = lower c h in absurd (omega (arith, there, own, low, same))
      | inr also ↦
          let one = number_apart after cell number t c other in
          let two = number_apart after cell number t d also in
          m.apart c d h k (omega (arith, one, from)) (sym one ∙ (same ∙ two))
    ]
  ]

  pub one_set : Moves first (number + 1) P before (slice_set after cell (place_at number t))
  one_set = record {
    long = set_long after cell (place_at number t) ∙ m.long;
    more = let up = m.more in omega (arith, up, new);
    goes = set_goes;
    apart = set_own_apart;
  }

-- the places of an array are set
pub all_set : (first last : ℕ) (P : ℕ → Type 0) (before after : List Place)
    → StandBelow first before → Moves first last P before after → (base number : ℕ)
    (t : IntType) → last ≤ number → (n : ℕ) → ((i : ℕ) → i < n → P (base + i))
    → Moves first (number + n) P before (moved base number t n after)
all_set first last P before after below m base number t new zero is =
    moves_wider first last (number + 0) P P before after (omega arith) (λ c p. p) m
all_set first last P before after below m base number t new (suc n) is =
    moves_wider first (number + n + 1) (number + suc n) P P before
    (moved base number t (suc n) after) (omega arith) (λ c p. p)
    (one_set first (number + n) P before (moved base number t n after) below
    (all_set first last P before after below m base number t new n
    (λ i h. is i (omega (arith, h)))) (base + n) (number + n) t (omega arith)
    (is n (omega arith)))

-- ---- cells are copied

pub next_named : (d : Draft) (e : Expr) → next (named e d) ≡ next d + 1
next_named d e = let long = length-append d.cells (type_of e ∷ []) in omega (arith, long)

-- the cells that are marked
abbrev pub Marked : List Bool → ℕ → Type 0
Marked marks c = slice_get marks c ≡ Some true

module _ (marks : List Bool) (places : List Place) (p : Place) (first last : ℕ)
    (made : List Place) where
  -- the first cell is marked, and gets the first new number
  copied_first : (t : IntType) → StandBelow first (p ∷ places)
      → Moves (first + 1) last (Marked marks) places made
      → Moves first last (Marked (true ∷ marks)) (p ∷ places) (place_at first t ∷ made)
  copied_first t below rest = record {
    long = ap suc rest.long;
    more = let up = rest.more in omega (arith, up);
    goes = goes_on;
    apart = apart_on;
  }
    where
      goes_on : (c : ℕ) → c < suc (length places)
          → (number_at (place_at first t ∷ made) c ≡ number_at (p ∷ places) c)
          ⊎ ((first ≤ number_at (place_at first t ∷ made) c)
          × (number_at (place_at first t ∷ made) c < last) × Marked (true ∷ marks) c)
      goes_on zero h = let up = rest.more in inr (omega arith, omega (arith, up), refl)
      goes_on (suc c) h = elim (rest.goes c (omega (arith, h))) [
        | inl same ↦ inl same
        | inr new ↦ let from = new.0 in inr (omega (arith, from), new.1, new.2)
      ]

      never : (c : ℕ) → c < length places → first ≡ number_at made c → ⊥
      never c h same = elim (rest.goes c h) [
        | inl stays ↦
            let low = below (suc c) (omega (arith, h)) in
            absurd (omega (arith, low, same, stays))
        | inr new ↦ let from = new.0 in absurd (omega (arith, from, same))
      ]

      apart_on : (c e : ℕ) → c < suc (length places) → e < suc (length places)
          → first ≤ number_at (place_at first t ∷ made) c
          → number_at (place_at first t ∷ made) c ≡ number_at (place_at first t ∷ made) e
          → c ≡ e
      apart_on zero zero h k new same = refl
      apart_on zero (suc e) h k new same = absurd (never e (omega (arith, k)) same)
      apart_on (suc c) zero h k new same = absurd (never c (omega (arith, h)) (sym same))
      apart_on (suc c) (suc e) h k new same = elim (rest.goes c (omega (arith, h))) [
        | inl stays ↦
            let low = below (suc c) h in absurd (omega (arith, low, new, stays))
        | inr moved ↦ ap suc (rest.apart c e (omega (arith, h)) (omega (arith, k)) moved.0 same)
      ]

  -- it is not, and stays
  kept_first : StandBelow first (p ∷ places) → Moves first last (Marked marks) places made
      → Moves first last (Marked (false ∷ marks)) (p ∷ places) (p ∷ made)
  kept_first below rest = record {
    long = ap suc rest.long;
    more = rest.more;
    goes = goes_on;
    apart = apart_on;
  }
    where
      goes_on : (c : ℕ) → c < suc (length places)
          → (number_at (p ∷ made) c ≡ number_at (p ∷ places) c)
          ⊎ ((first ≤ number_at (p ∷ made) c)
          × (number_at (p ∷ made) c < last) × Marked (false ∷ marks) c)
      goes_on zero h = inl refl
      goes_on (suc c) h = rest.goes c (omega (arith, h))

      apart_on : (c e : ℕ) → c < suc (length places) → e < suc (length places)
          → first ≤ number_at (p ∷ made) c
          → number_at (p ∷ made) c ≡ number_at (p ∷ made) e → c ≡ e
      apart_on zero e h k new same =
          let low = below zero h in absurd (omega (arith, low, new))
      apart_on (suc c) zero h k new same =
          let low = below zero k in absurd (omega (arith, low, new, same))
      apart_on (suc c) (suc e) h k new same =
          ap suc (rest.apart c e (omega (arith, h)) (omega (arith, k)) new same)

-- of the cells that are marked each gets a new place
pub copies_move : (marks : List Bool) (places : List Place) (d : Draft)
    → length marks ≡ length places → StandBelow (next d) places
    → Moves (next d) (next (copied marks places d).draft) (Marked marks) places
    (copied marks places d).places
copies_move [] [] d long below = record {
  long = refl;
  more = omega arith;
  goes = λ c h. absurd (omega (arith, h));
  apart = λ c e h. absurd (omega (arith, h));
}
copies_move [] (p ∷ places) d long below = absurd (omega (arith, long))
copies_move (mark ∷ marks) [] d long below = absurd (omega (arith, long))
copies_move (true ∷ marks) (p ∷ places) d long below =
    let after = named (scalar_read p.ty p.number) d in
    let behind = copied marks places after in
    let one = next_named d (scalar_read p.ty p.number) in
    let rest = copies_move marks places after (omega (arith, long))
    (λ c h. let low = below (suc c) (omega (arith, h)) in omega (arith, low, one)) in
    copied_first marks places p (next d) (next behind.draft) behind.places p.ty below
    (subst (λ n. Moves n (next behind.draft) (Marked marks) places behind.places) one rest)
copies_move (false ∷ marks) (p ∷ places) d long below =
    let behind = copied marks places d in
    kept_first marks places p (next d) (next behind.draft) behind.places below
    (copies_move marks places d (omega (arith, long)) (λ c h. below (suc c) (omega (arith, h))))
