-- What goes on the trail stays justified.
use Rattle.std.proofs.Common.{◌≡◌, ◌≢◌, ℕ, ◌+◌, ◌*◌, ◌^◌, ◌<◌, ◌≤◌, List}
use Rattle.std.proofs.Common.{[], ◌∷◌, ◌++◌, ◌⊎◌, inl, inr, take, set, length, get_or, refl, sym}
use Rattle.std.proofs.Common.{ap, ◌∙◌, subst, arith, get_or-set_other}
use Rattle.std.specs.Prelude.{slice_index_or}
use Rattle.std.proofs.lemmas.Bool.{cases_eq, cases_lt}
use Rattle.std.proofs.lemmas.List.{get_or_append_left, get_or_push, get_or-take, length_push}
use Rattle.std.proofs.lemmas.List.{length-take-le}
use Rattle.cpa_cnf.specs.Literals.{opposite}
use Rattle.cpa_cnf.specs.Clauses.{has}
use Rattle.cpa_cnf.specs.lemmas.Chains.{member_below}
use Rattle.cpa_sat_trail.specs.declared.assertion.Jump.{Jump}
use Rattle.cpa_sat_trail.specs.declared.trail.Trail.{Trail}
use Rattle.cpa_sat_arena.specs.declared.literal.TheConstants.{NO_CLAUSE}
use Rattle.cpa_sat_trail.specs.declared.trail.TheConstants.{NO_PLACE}
use Rattle.cpa_sat_trail.specs.Trails.{IsTrail, IsJustified, IsReasonFor, height, lit_at, reason_at}
use Rattle.cpa_sat_trail.specs.Trails.{place_of, AreClauses}
use Rattle.cpa_sat_trail.specs.Propagations.{IsForced}
use Rattle.cpa_sat_trail.specs.Progress.{Asserts, IsSound, progress, weight}
use Rattle.cpa_sat_trail.specs.lemmas.Measure.{weight_push, weight_jump}
use Rattle.cpa_sat_trail.specs.lemmas.TrailSteps.{opposite_twice, opposite_below}

below_le : (j h : ℕ) → j < h → j ≤ h
below_le j h k = omega arith

less_then : (a b c : ℕ) → a < b → b ≤ c → a < c
less_then a b c h k = omega arith

-- the trail with one more literal
pub record IsPushed (t u : Trail) (l reason : ℕ) : Type 0 where
  pub vars : u.vars ≡ t.vars
  pub lits : u.lits.items ≡ t.lits.items ++ l ∷ []
  pub reasons : u.reasons.items ≡ t.reasons.items ++ reason ∷ []
  pub places : u.places.items ≡ set t.places.items l (height t)

place_far : (t : Trail) (p n : ℕ) → IsTrail t → p < n → n ≤ height t → p ≡ NO_PLACE → ⊥
place_far t p n s h k e = far p n (height t) t.vars h k s.short s.small e
  where
    far : (q m g v : ℕ) → q < m → m ≤ g → g ≤ v → v < 2 ^ 31 → q ≡ NO_PLACE → ⊥
    far q m g v a b c d f = absurd (omega arith)

kept_place : (t u : Trail) (l reason x i : ℕ) → IsTrail t → IsPushed t u l reason
    → place_of t l ≡ NO_PLACE → place_of t x < i → i ≤ height t → place_of u x ≡ place_of t x
kept_place t u l reason x i s p none before inside =
    ap (λ xs. get_or xs x 0) p.places
    ∙ get_or-set_other t.places.items l x (height t) 0
    (λ e. place_far t (place_of t x) i s before inside (ap (λ y. place_of t y) e ∙ none))

pub justified_push : (cs : List (List ℕ)) (t u : Trail) (l reason : ℕ) → IsSound cs t
    → IsPushed t u l reason → place_of t l ≡ NO_PLACE
    → (reason ≢ NO_CLAUSE → (reason < length cs)
    × IsReasonFor (slice_index_or cs reason []) u (height t)) → IsJustified cs u
justified_push cs t u l reason s p none new i inside forced = go (cases_lt i (height t))
  where
    higher : height u ≡ height t + 1
    higher = ap (λ xs. length xs) p.lits ∙ length_push t.lits.items l

    old_reason : i < height t → reason_at u i ≡ reason_at t i
    old_reason h = ap (λ xs. get_or xs i 0) p.reasons
        ∙ get_or_append_left t.reasons.items (reason ∷ []) 0 i
        (subst (λ n. i < n) (sym s.trail.paired) h)

    old_lit : i < height t → lit_at u i ≡ lit_at t i
    old_lit h = ap (λ xs. get_or xs i 0) p.lits ∙ get_or_append_left t.lits.items (l ∷ []) 0 i h

    go : (i < height t) ⊎ (height t ≤ i)
        → (reason_at u i < length cs) × IsReasonFor (slice_index_or cs (reason_at u i) []) u i
    go (inl h) =
        let was = s.justified i h (λ e. forced (old_reason h ∙ e)) in
        let clause = slice_index_or cs (reason_at t i) [] in
        let same : IsReasonFor clause u i = record {
          in_it = ap (λ y. has clause y) (old_lit h) ∙ was.1.in_it;
          others = λ x m ne.
              let before = was.1.others x m (λ e. ne (e ∙ sym (old_lit h))) in
              subst (λ n. n < i) (sym
              (kept_place t u l reason (opposite x) i s.trail p none before
              (below_le i (height t) h))) before;
        } in (
          subst (λ n. n < length cs) (sym (old_reason h)) was.0,
          subst (λ n. IsReasonFor (slice_index_or cs n []) u i) (sym (old_reason h)) same,
        )
    go (inr past) =
        let at : i ≡ height t = top i (height t) (height u) higher inside past in
        let is : reason_at u i ≡ reason = ap (λ xs. get_or xs i 0) p.reasons
        ∙ get_or_push t.reasons.items reason 0 i (s.trail.paired ∙ sym at) in
        let now = new (λ e. forced (is ∙ e)) in (
          subst (λ n. n < length cs) (sym is) now.0,
          subst (λ n. IsReasonFor (slice_index_or cs n []) u i) (sym is)
              (subst (λ n. IsReasonFor (slice_index_or cs reason []) u n) (sym at) now.1),
        )
      where
        top : (j h g : ℕ) → g ≡ h + 1 → j < g → h ≤ j → j ≡ h
        top j h g e k q = omega arith

-- a clause that forces the literal is its reason once it is on the trail
pub forced_reason : (cs : List (List ℕ)) (t u : Trail) (l number : ℕ) → IsSound cs t
    → IsPushed t u l number → IsForced (slice_index_or cs number []) t l
    → IsReasonFor (slice_index_or cs number []) u (height t)
forced_reason cs t u l number s p f = record {
  in_it = ap (λ y. has clause y) here ∙ f.in_it;
  others = λ x m ne.
      let range : opposite x < 2 * t.vars =
      opposite_below x t.vars (member_below t.vars clause x (s.clauses_are.below number) m) in
      let before : place_of t (opposite x) < height t =
      s.trail.inside (opposite x) range (f.others x m (λ e. ne (e ∙ sym here))) in
      subst (λ n. n < height t) (sym
      (kept_place t u l number (opposite x) (height t) s.trail p f.not_true before
      (same_le (height t)))) before;
}
  where
    clause : List ℕ
    clause = slice_index_or cs number []

    here : lit_at u (height t) ≡ l
    here = ap (λ xs. get_or xs (height t) 0) p.lits ∙ get_or_push t.lits.items l 0 (height t) refl

    same_le : (n : ℕ) → n ≤ n
    same_le n = omega arith

-- the trail cut to so many literals
pub record IsCutTo (t u : Trail) (count : ℕ) : Type 0 where
  pub fewer : count ≤ height t
  pub trail : IsTrail u
  pub vars : u.vars ≡ t.vars
  pub lits : u.lits.items ≡ take count t.lits.items
  pub reasons : u.reasons.items ≡ take count t.reasons.items

pub cut_place : (t u : Trail) (count x : ℕ) → IsTrail t → IsCutTo t u count → x < 2 * t.vars
    → place_of t x < count → place_of u x ≡ place_of t x
cut_place t u count x s c range before =
    let p = place_of t x in
    let there : lit_at t p ≡ x = s.back x range (λ e. place_far t p count s before c.fewer e) in
    let same : lit_at u p ≡ lit_at t p = ap (λ xs. get_or xs p 0) c.lits
    ∙ get_or-take count t.lits.items p 0 before in
    let low : p < height u = subst (λ n. p < n)
    (sym (ap (λ xs. length xs) c.lits ∙ length-take-le count t.lits.items c.fewer)) before in
    ap (λ y. place_of u y) (sym (same ∙ there)) ∙ c.trail.stands p low

-- what stood at or behind the cut has no place any more
pub cut_gone : (t u : Trail) (count x : ℕ) → IsTrail t → IsCutTo t u count → x < 2 * t.vars
    → count ≤ place_of t x → place_of u x ≡ NO_PLACE
cut_gone t u count x s c range past = go (cases_eq (place_of u x) NO_PLACE)
  where
    high : height u ≡ count
    high = ap (λ xs. length xs) c.lits ∙ length-take-le count t.lits.items c.fewer

    go : (place_of u x ≡ NO_PLACE) ⊎ (place_of u x ≡ NO_PLACE → ⊥) → place_of u x ≡ NO_PLACE
    go (inl e) = e
    go (inr ne) =
        let q = place_of u x in
        let ranged : x < 2 * u.vars = subst (λ n. x < 2 * n) (sym c.vars) range in
        let low : q < count = subst (λ n. q < n) high (c.trail.inside x ranged ne) in
        let there : lit_at u q ≡ x = c.trail.back x ranged ne in
        let same : lit_at u q ≡ lit_at t q = ap (λ xs. get_or xs q 0) c.lits
        ∙ get_or-take count t.lits.items q 0 low in
        let stood : place_of t x ≡ q = ap (λ y. place_of t y) (sym there ∙ same)
        ∙ s.stands q (less_then q count (height t) low c.fewer) in
        absurd (apart q count (place_of t x) low past stood)
      where
        apart : (a b d : ℕ) → a < b → b ≤ d → d ≡ a → ⊥
        apart a b d h k e = absurd (omega arith)

pub justified_cut : (cs : List (List ℕ)) (t u : Trail) (count : ℕ) → IsSound cs t
    → IsCutTo t u count → IsJustified cs u
justified_cut cs t u count s c i inside forced =
    let low : i < count = subst (λ n. i < n) (ap (λ xs. length xs) c.lits
    ∙ length-take-le count t.lits.items c.fewer) inside in
    let reason : reason_at u i ≡ reason_at t i = ap (λ xs. get_or xs i 0) c.reasons
    ∙ get_or-take count t.reasons.items i 0 low in
    let lit : lit_at u i ≡ lit_at t i = ap (λ xs. get_or xs i 0) c.lits
    ∙ get_or-take count t.lits.items i 0 low in
    let was = s.justified i (less_then i count (height t) low c.fewer) (λ e. forced (reason ∙ e)) in
    let clause = slice_index_or cs (reason_at t i) [] in
    let same : IsReasonFor clause u i = record {
      in_it = ap (λ y. has clause y) lit ∙ was.1.in_it;
      others = λ x m ne.
          let before = was.1.others x m (λ e. ne (e ∙ sym lit)) in
          let range : opposite x < 2 * t.vars =
          opposite_below x t.vars
          (member_below t.vars clause x (s.clauses_are.below (reason_at t i)) m) in
          subst (λ n. n < i) (sym (cut_place t u count (opposite x) s.trail c range
          (between (place_of t (opposite x)) i count before low))) before;
    } in (
      subst (λ n. n < length cs) (sym reason) was.0,
      subst (λ n. IsReasonFor (slice_index_or cs n []) u i) (sym reason) same,
    )
  where
    between : (a b d : ℕ) → a < b → b < d → a < d
    between a b d h k = omega arith

pub sound_cut : (cs : List (List ℕ)) (t u : Trail) (count : ℕ) → IsSound cs t → IsCutTo t u count
    → IsSound cs u
sound_cut cs t u count s c = record {
  trail = c.trail;
  clauses_are = subst (λ n. AreClauses n cs) (sym c.vars) s.clauses_are;
  justified = justified_cut cs t u count s c;
}

-- after the cut the clause forces the jump's literal
pub forces : (cs : List (List ℕ)) (t u : Trail) (jump : Jump) (number : ℕ) → IsSound cs t
    → IsCutTo t u jump.cut → Asserts (slice_index_or cs number []) t jump
    → IsForced (slice_index_or cs number []) u (opposite (lit_at t jump.at))
forces cs t u jump number s c a = record {
  in_it = a.in_it;
  others = λ x m ne e.
      let range : opposite x < 2 * t.vars =
      opposite_below x t.vars (member_below t.vars _ x (s.clauses_are.below number) m) in
      let before = a.others x m ne in
      place_far t (place_of t (opposite x)) jump.cut s.trail before c.fewer
      (sym (cut_place t u jump.cut (opposite x) s.trail c range before) ∙ e);
  range = subst (λ n. opposite (lit_at t jump.at) < 2 * n) (sym c.vars)
      (opposite_below (lit_at t jump.at) t.vars lit_range);
  not_true = cut_none;
  not_false = ap (λ y. place_of u y) (opposite_twice (lit_at t jump.at))
      ∙ cut_gone t u jump.cut (lit_at t jump.at) s.trail c lit_range
      (subst (λ n. jump.cut ≤ n) (sym (s.trail.stands jump.at a.inside)) a.above);
}
  where
    lit_range : lit_at t jump.at < 2 * t.vars
    lit_range = s.trail.below jump.at a.inside

    here : place_of t (lit_at t jump.at) ≢ NO_PLACE
    here e = place_far t jump.at (height t) s.trail a.inside (same_le (height t))
        (sym (s.trail.stands jump.at a.inside) ∙ e)
      where
        same_le : (n : ℕ) → n ≤ n
        same_le n = omega arith

    cut_none : place_of u (opposite (lit_at t jump.at)) ≡ NO_PLACE
    cut_none =
        cut_gone t u jump.cut (opposite (lit_at t jump.at)) s.trail c
        (opposite_below (lit_at t jump.at) t.vars lit_range)
        (high jump.cut (height t) t.vars (place_of t (opposite (lit_at t jump.at))) c.fewer
        s.trail.short s.trail.small (s.trail.one (lit_at t jump.at) lit_range here))
      where
        high : (a b v p : ℕ) → a ≤ b → b ≤ v → v < 2 ^ 31 → p ≡ NO_PLACE → a ≤ p
        high a b v p h k m e = omega arith

pub sound_push : (cs : List (List ℕ)) (t u : Trail) (l reason : ℕ) → IsSound cs t → IsTrail u
    → IsPushed t u l reason → place_of t l ≡ NO_PLACE
    → (reason ≢ NO_CLAUSE → (reason < length cs)
    × IsReasonFor (slice_index_or cs reason []) u (height t)) → IsSound cs u
sound_push cs t u l reason s is p none new = record {
  trail = is;
  clauses_are = subst (λ n. AreClauses n cs) (sym p.vars) s.clauses_are;
  justified = justified_push cs t u l reason s p none new;
}

pub rises_push : (t u : Trail) (l reason : ℕ) → IsTrail t → IsTrail u → IsPushed t u l reason
    → progress t < progress u
rises_push t u l reason s r p =
    subst (λ n. progress t < weight n u.reasons.items) (sym p.vars)
    (subst (λ rs. progress t < weight t.vars rs) (sym p.reasons)
    (weight_push t.vars t.reasons.items reason
    (room (length t.reasons.items) (height t) (height u) u.vars t.vars s.paired
    (ap (λ xs. length xs) p.lits ∙ length_push t.lits.items l) r.short p.vars)))
  where
    room : (a h g v w : ℕ) → a ≡ h → g ≡ h + 1 → g ≤ v → v ≡ w → a < w
    room a h g v w e f k q = omega arith

pub rises_jump : (t u w : Trail) (cut l number : ℕ) → IsTrail t → IsCutTo t u cut
    → IsPushed u w l number → cut < height t → reason_at t cut ≡ NO_CLAUSE
    → (number ≡ NO_CLAUSE → ⊥) → progress t < progress w
rises_jump t u w cut l number s c p inside decision forced =
    subst (λ n. progress t < weight n w.reasons.items) (sym (p.vars ∙ c.vars))
    (subst (λ rs. progress t < weight t.vars rs)
    (sym (p.reasons ∙ ap (λ xs. xs ++ number ∷ []) c.reasons))
    (weight_jump t.vars t.reasons.items cut number (subst (λ n. cut < n) (sym s.paired) inside)
    (subst (λ n. n ≤ t.vars) (sym s.paired) s.short) decision forced))
