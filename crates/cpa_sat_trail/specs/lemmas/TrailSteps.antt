-- One more literal on the trail, and one less.
use Rattle.std.proofs.Common.{◌≡◌, ◌≢◌, ℕ, suc, ◌+◌, ◌-◌, ◌*◌, ◌/◌, ◌<◌, ◌≤◌}
use Rattle.std.proofs.Common.{true, List, [], ◌∷◌, ◌++◌, ◌⊎◌, inl, inr, map, take, set}
use Rattle.std.proofs.Common.{length, get_or, refl, sym, ap, ◌∙◌, arith, get_or-set_other}
use Rattle.std.proofs.Common.{get_or-set_same}
use Rattle.std.proofs.lemmas.Bool.{cases_eq, cases_lt, eqb-true, ne_eqb, or_cases}
use Rattle.std.proofs.lemmas.Bool.{false≢true}
use Rattle.std.proofs.lemmas.List.{get_or_append_left, get_or_push, get_or-take, get_or-map}
use Rattle.std.proofs.lemmas.List.{length-append, length-set, length-map, length-take-le}
use Rattle.std.proofs.lemmas.Map.Keys.{IsDistinct-from_apart}
use Rattle.std.proofs.lemmas.Map.Steps.{length-le_from_distinct_below}
use Rattle.std.specs.List.{IsDistinct, list_any}
use Rattle.std.proofs.Math.Dec.{eqb}
use Rattle.cpa_cnf.specs.Literals.{opposite}
use Rattle.cpa_sat_trail.specs.declared.trail.Trail.{Trail}
use Rattle.cpa_sat_trail.specs.declared.trail.TheConstants.{NO_PLACE}
use Rattle.cpa_sat_trail.specs.Trails.{IsTrail, lit_at, place_of, height}

pub opposite_twice : (l : ℕ) → opposite (opposite l) ≡ l
opposite_twice l = omega arith

pub opposite_differs : (l : ℕ) → opposite l ≡ l → ⊥
opposite_differs l e = omega arith

pub opposite_below : (l n : ℕ) → l < 2 * n → opposite l < 2 * n
opposite_below l n h = omega arith

same_variable : (a b : ℕ) → a / 2 ≡ b / 2 → (a ≡ b → ⊥) → a ≡ opposite b
same_variable a b h ne = omega arith

-- each variable once, so no more literals than variables
few : (vars : ℕ) (lits places : List ℕ) → length lits < NO_PLACE
    → ((i : ℕ) → i < length lits → get_or lits i 0 < 2 * vars)
    → ((i : ℕ) → i < length lits → get_or places (get_or lits i 0) 0 ≡ i)
    → ((l : ℕ) → l < 2 * vars → get_or places l 0 ≢ NO_PLACE
    → get_or places (opposite l) 0 ≡ NO_PLACE)
    → length lits ≤ vars
few vars lits places small below stands one =
    omega (
      arith,
      length-map lits (λ l. l / 2),
      length-le_from_distinct_below (map (λ l. l / 2) lits) vars apart each,
    )
  where
    halves : (i d : ℕ) → i < length lits → get_or (map (λ l. l / 2) lits) i d ≡ get_or lits i 0 / 2
    halves i d h = get_or-map (λ l. l / 2) lits i 0 d h

    differ : (i j : ℕ) → i < j → j < length lits → get_or lits i 0 / 2 ≡ get_or lits j 0 / 2 → ⊥
    differ i j less h same = go (cases_eq (get_or lits j 0) (get_or lits i 0))
      where
        go : (get_or lits j 0 ≡ get_or lits i 0) ⊎ (get_or lits j 0 ≡ get_or lits i 0 → ⊥) → ⊥
        go (inl e) = absurd (omega (
          arith,
          stands i (omega arith),
          stands j h,
          ap (λ l. get_or places l 0) e,
        ))
        go (inr ne) =
            let flipped : get_or lits j 0 ≡ opposite (get_or lits i 0) =
            same_variable (get_or lits j 0) (get_or lits i 0) (sym same) ne in
            let none : get_or places (opposite (get_or lits i 0)) 0 ≡ NO_PLACE =
            one (get_or lits i 0) (below i (omega arith))
            (λ e. absurd (omega (arith, stands i (omega arith)))) in
            absurd (omega (arith, stands j h, ap (λ l. get_or places l 0) flipped))

    apart : IsDistinct eqb (map (λ l. l / 2) lits)
    apart = IsDistinct-from_apart eqb (map (λ l. l / 2) lits)
        (λ i j d less h.
        let inside : j < length lits = omega (arith, length-map lits (λ l. l / 2)) in
        ne_eqb _ _ (λ e. differ i j less inside (sym (halves i d (omega arith)) ∙ e
        ∙ halves j d inside)))

    each_at : (xs : List ℕ) → ((i : ℕ) → i < length xs → get_or xs i 0 < 2 * vars) → (q : ℕ)
        → list_any (eqb q) (map (λ l. l / 2) xs) ≡ true → q < vars
    each_at [] all q h = absurd (false≢true h)
    each_at (x ∷ xs) all q h =
        elim (or_cases (eqb q (x / 2)) (list_any (eqb q) (map (λ l. l / 2) xs)) h) [
          | inl e ↦ let small : x < 2 * vars = all 0 (omega arith) in
              omega (arith, eqb-true q (x / 2) e)
          | inr e ↦ each_at xs (λ i below_end. all (suc i) (omega arith)) q e
        ]

    each : (q : ℕ) → list_any (eqb q) (map (λ l. l / 2) lits) ≡ true → q < vars
    each q h = each_at lits below q h

pub pushed : (t u : Trail) (l : ℕ) → IsTrail t → l < 2 * t.vars → place_of t l ≡ NO_PLACE
    → place_of t (opposite l) ≡ NO_PLACE
    → u.vars ≡ t.vars → u.lits.items ≡ t.lits.items ++ l ∷ []
    → length u.reasons.items ≡ length t.reasons.items + 1
    → u.places.items ≡ set t.places.items l (height t) → IsTrail u
pushed t u l s in_range not_true not_false same_vars lits reasons places = record {
  small = omega (arith, s.small);
  long = omega (arith, s.long, ap length places, length-set t.places.items l (height t));
  short = omega (
    arith,
    few u.vars u.lits.items u.places.items
        (omega (arith, s.short, s.small, higher)) below stands one,
  );
  paired = omega (arith, s.paired, higher);
  below = below;
  stands = stands;
  inside = λ x h here. inside_at x (omega (arith, h)) here (cases_eq x l);
  back = λ x h here. back_at x (omega (arith, h)) here (cases_eq x l);
  one = one;
}
  where
    higher : height u ≡ height t + 1
    higher = ap length lits ∙ length-append t.lits.items (l ∷ []) ∙ last
      where
        last : length t.lits.items + length (l ∷ []) ≡ height t + 1
        last = omega arith

    old_lit : (i : ℕ) → i < height t → lit_at u i ≡ lit_at t i
    old_lit i h = ap (λ xs. get_or xs i 0) lits ∙ get_or_append_left t.lits.items (l ∷ []) 0 i h

    new_lit : lit_at u (height t) ≡ l
    new_lit = ap (λ xs. get_or xs (height t) 0) lits ∙ get_or_push t.lits.items l 0 (height t) refl

    old_place : (x : ℕ) → (x ≡ l → ⊥) → place_of u x ≡ place_of t x
    old_place x ne = ap (λ xs. get_or xs x 0) places
        ∙ get_or-set_other t.places.items l x (height t) 0 ne

    new_place : place_of u l ≡ height t
    new_place = ap (λ xs. get_or xs l 0) places
        ∙ get_or-set_same t.places.items l (height t) 0 (omega (arith, s.long))

    not_pushed : (i : ℕ) → i < height t → lit_at t i ≡ l → ⊥
    not_pushed i h e = absurd (omega (
      arith,
      s.stands i h,
      ap (λ y. place_of t y) e,
      s.short,
      s.small,
    ))

    below : (i : ℕ) → i < height u → lit_at u i < 2 * u.vars
    below i h = go (cases_lt i (height t))
      where
        go : (i < height t) ⊎ (height t ≤ i) → lit_at u i < 2 * u.vars
        go (inl less) = omega (arith, old_lit i less, s.below i less)
        go (inr more) = let at : i ≡ height t = omega (arith, higher) in
            omega (arith, ap (λ k. lit_at u k) at, new_lit)

    stands : (i : ℕ) → i < height u → place_of u (lit_at u i) ≡ i
    stands i h = go (cases_lt i (height t))
      where
        go : (i < height t) ⊎ (height t ≤ i) → place_of u (lit_at u i) ≡ i
        go (inl less) = ap (λ y. place_of u y) (old_lit i less)
            ∙ old_place (lit_at t i) (not_pushed i less) ∙ s.stands i less
        go (inr more) =
            let at : i ≡ height t = omega (arith, higher) in
            ap (λ y. place_of u y) (ap (λ k. lit_at u k) at ∙ new_lit) ∙ new_place ∙ sym at

    inside_at : (x : ℕ) → x < 2 * t.vars → place_of u x ≢ NO_PLACE → (x ≡ l) ⊎ (x ≡ l → ⊥)
        → place_of u x < height u
    inside_at x h here (inl e) = omega (arith, ap (λ y. place_of u y) e, new_place, higher)
    inside_at x h here (inr ne) = omega (
      arith,
      old_place x ne,
      higher,
      s.inside x h (λ none. here (old_place x ne ∙ none)),
    )

    back_at : (x : ℕ) → x < 2 * t.vars → place_of u x ≢ NO_PLACE → (x ≡ l) ⊎ (x ≡ l → ⊥)
        → lit_at u (place_of u x) ≡ x
    back_at x h here (inl e) = ap (λ k. lit_at u k) (ap (λ y. place_of u y) e ∙ new_place) ∙ new_lit
        ∙ sym e
    back_at x h here (inr ne) =
        let was : place_of t x ≢ NO_PLACE = λ none. here (old_place x ne ∙ none) in
        ap (λ k. lit_at u k) (old_place x ne) ∙ old_lit (place_of t x) (s.inside x h was)
        ∙ s.back x h was

    one_at : (x : ℕ) → x < 2 * t.vars → place_of u x ≢ NO_PLACE → (x ≡ l) ⊎ (x ≡ l → ⊥)
        → (opposite x ≡ l) ⊎ (opposite x ≡ l → ⊥) → place_of u (opposite x) ≡ NO_PLACE
    one_at x h here (inl e) q = old_place (opposite x) (λ f. opposite_differs x (f ∙ sym e))
        ∙ ap (λ y. place_of t (opposite y)) e ∙ not_false
    one_at x h here (inr ne) (inl f) =
        absurd (here (old_place x ne
        ∙ ap (λ y. place_of t y) (sym (opposite_twice x) ∙ ap opposite f) ∙ not_false))
    one_at x h here (inr ne) (inr apart) = old_place (opposite x) apart
        ∙ s.one x h (λ none. here (old_place x ne ∙ none))

    one : (x : ℕ) → x < 2 * u.vars → place_of u x ≢ NO_PLACE
        → place_of u (opposite x) ≡ NO_PLACE
    one x h here = one_at x (omega (arith, h)) here (cases_eq x l) (cases_eq (opposite x) l)

pub popped : (t u : Trail) (l : ℕ) → IsTrail t → 0 < height t → l ≡ lit_at t (height t - 1)
    → u.vars ≡ t.vars → u.lits.items ≡ take (height t - 1) t.lits.items
    → u.reasons.items ≡ take (height t - 1) t.reasons.items
    → u.places.items ≡ set t.places.items l NO_PLACE → IsTrail u
popped t u l s some is same_vars lits reasons places = record {
  small = omega (arith, s.small);
  long = omega (arith, s.long, ap length places, length-set t.places.items l NO_PLACE);
  short = omega (arith, s.short, lower);
  paired = omega (
    arith,
    s.paired,
    lower,
    ap length reasons,
    length-take-le (height t - 1) t.reasons.items (omega (arith, s.paired)),
  );
  below = λ i h. omega (arith, old_lit i (omega (arith, lower)), s.below i (omega (arith, lower)));
  stands = λ i h. ap (λ y. place_of u y) (old_lit i (omega (arith, lower)))
      ∙ old_place (lit_at t i) (other i (omega (arith, lower))) ∙ s.stands i (omega (arith, lower));
  inside = λ x h here. let ne = gone x here in let was : place_of t x ≢ NO_PLACE =
      λ none. here (old_place x ne ∙ none) in
      omega (
        arith,
        old_place x ne,
        lower,
        s.inside x (omega (arith, h)) was,
        not_last x (omega (arith, h)) was ne,
      );
  back = λ x h here. let ne = gone x here in let was : place_of t x ≢ NO_PLACE =
      λ none. here (old_place x ne ∙ none) in
      ap (λ k. lit_at u k) (old_place x ne)
      ∙ old_lit (place_of t x) (omega (
        arith,
        s.inside x (omega (arith, h)) was,
        not_last x (omega (arith, h)) was ne,
      )) ∙ s.back x (omega (arith, h)) was;
  one = λ x h here. let ne = gone x here in let was : place_of t x ≢ NO_PLACE =
      λ none. here (old_place x ne ∙ none) in
      flipped (opposite x) (s.one x (omega (arith, h)) was) (cases_eq (opposite x) l);
}
  where
    inside_table : l < length t.places.items
    inside_table = omega (arith, s.long, s.below (height t - 1) (omega arith))

    lower : height u ≡ height t - 1
    lower = ap length lits ∙ length-take-le (height t - 1) t.lits.items (omega arith)

    old_lit : (i : ℕ) → i < height t - 1 → lit_at u i ≡ lit_at t i
    old_lit i h = ap (λ xs. get_or xs i 0) lits ∙ get_or-take (height t - 1) t.lits.items i 0 h

    old_place : (x : ℕ) → (x ≡ l → ⊥) → place_of u x ≡ place_of t x
    old_place x ne = ap (λ xs. get_or xs x 0) places
        ∙ get_or-set_other t.places.items l x NO_PLACE 0 ne

    new_place : place_of u l ≡ NO_PLACE
    new_place = ap (λ xs. get_or xs l 0) places
        ∙ get_or-set_same t.places.items l NO_PLACE 0 inside_table

    gone : (x : ℕ) → place_of u x ≢ NO_PLACE → x ≡ l → ⊥
    gone x here e = here (ap (λ y. place_of u y) e ∙ new_place)

    other : (i : ℕ) → i < height t - 1 → lit_at t i ≡ l → ⊥
    other i h e = absurd (omega (
      arith,
      s.stands i (omega arith),
      s.stands (height t - 1) (omega arith),
      ap (λ y. place_of t y) (e ∙ is),
    ))

    not_last : (x : ℕ) → x < 2 * t.vars → place_of t x ≢ NO_PLACE → (x ≡ l → ⊥)
        → place_of t x ≢ height t - 1
    not_last x h was ne e = ne (sym (s.back x h was) ∙ ap (λ k. lit_at t k) e ∙ sym is)

    flipped : (y : ℕ) → place_of t y ≡ NO_PLACE → (y ≡ l) ⊎ (y ≡ l → ⊥)
        → place_of u y ≡ NO_PLACE
    flipped y none (inl e) = ap (λ z. place_of u z) e ∙ new_place
    flipped y none (inr ne) = old_place y ne ∙ none
