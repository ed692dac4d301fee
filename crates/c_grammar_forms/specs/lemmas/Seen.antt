-- Lemmas: parts whose tokens are seen through a function, and lists whose parts say through which.
use Rattle.std.specs.Prelude.{◌≡◌, ℕ, ◌<◌, ◌≤◌, Bool, true, false, List, [], ◌∷◌, ◌++◌, refl}
use Rattle.std.proofs.Common.{sym, ◌∙◌, ap, subst, arith, append_assoc, append-nil}
use Rattle.c_grammar_forms.specs.Forms.{World, Form, seen_through, Through, ManySeen}
use Rattle.c_grammar_forms.specs.lemmas.Steady.{Steady, ends_or_goes, from_place, good_through}
use Rattle.c_grammar_forms.specs.lemmas.Steady.{test_path}
use Rattle.c_grammar_forms.specs.Reading.{Reads, Begins, NoneThrough}
use Rattle.c_grammar_forms.specs.lemmas.NotFound.{only}

module _ {Token T : Type 0} (f : Token → Token) {A : ℕ → Form Token T} {at : ℕ → Token}
    {size left p : ℕ} where
  pub reads_through : {u : T} {q : ℕ} → Reads A (λ i. f (at i)) size left p u q →
      Reads (λ n. Through f (A n)) at size left p u q
  reads_through r = record {
    reading = λ edge. record { read = r.reading edge };
    onward = r.onward;
    within = r.within;
  }

  pub none_through : {i : ℕ} → NoneThrough A (λ i. f (at i)) size left p i →
      NoneThrough (λ n. Through f (A n)) at size left p i
  none_through g = record {
    onward = g.onward;
    within = g.within;
    none = λ n v b u q r. g.none n (seen_through f v) (record {
      tokens = λ j h. ap f (b.tokens j h);
      edge = b.edge;
      greedy = b.greedy;
    }) u q r.read;
  }

pub steady_through : {Token T : Type 0} (f : Token → Token) {A : ℕ → Form Token T} → Steady A →
    Steady (λ n. Through f (A n))
steady_through f s = record { good = λ n m. good_through f (s.good n m) }

module _ {Token T : Type 0} (see : List T → Token → Token) (go : Token → Bool)
    (A : ℕ → Form Token T) where
  -- the list has these items in front, and behind them a list that is read from m on
  pub record SeenRest (n : ℕ) (w : World Token) (left m : ℕ) (items whole : List T) (q : ℕ) :
      Type 0 where
    pub rest : List T
    pub joined : whole ≡ items ++ rest
    pub more : ManySeen see go (A n) items w left m rest q

  -- in the middle of such a list that begins at p: these items are read, up to m, and more are to
  -- come. Readings of the rest are readings of the whole; and in each text that begins so the whole
  -- has these items, and a rest
  pub record SeenSoFar (at : ℕ → Token) (size left p : ℕ) (items : List T) (m : ℕ) : Type 0 where
    pub reads : (us : List T) (q : ℕ) →
        Reads (λ n. ManySeen see go (A n) items) at size left m us q →
        Reads (λ n. ManySeen see go (A n) []) at size left p (items ++ us) q
    pub front : (i n : ℕ) (v : World Token) → m ≤ i → Begins at i v → (ts : List T) (q : ℕ) →
        ManySeen see go (A n) [] v left p ts q → SeenRest n v left m items ts q
    pub onward : p ≤ m
    pub within : m < size

-- a list that goes on has a first part, and a rest
seen_goes_on : {Token T : Type 0} (see : List T → Token → Token) (go : Token → Bool)
    (A : ℕ → Form Token T) (n : ℕ) (v : World Token) (left m : ℕ) (items whole us : List T)
    (q : ℕ) → v.greedy ≡ true → go (v.at m) ≡ true → whole ≡ items ++ us →
    ManySeen see go (A n) items v left m us q →
    (u : T) × (k : ℕ) × Through (see items) (A n) v left m u k
    × SeenRest see go A n v left k (items ++ u ∷ []) whole q
unfolding ManySeen
seen_goes_on see go A n v left m items whole [] q greedy goes joined r =
    absurd (ends_or_goes (r.stops greedy) goes)
seen_goes_on see go A n v left m items whole (u ∷ us) q greedy goes joined r = (
  u,
  r.middle,
  r.first,
  record {
    rest = us;
    joined = joined ∙ sym (append_assoc items (u ∷ []) us);
    more = r.rest;
  },
)

module _ {Token T : Type 0} (see : List T → Token → Token) (go : Token → Bool)
    (A : ℕ → Form Token T) {at : ℕ → Token} {size left : ℕ} (items : List T) where
  seen_end : {m : ℕ} → go (at m) ≡ false → m < size →
      Reads (λ n. ManySeen see go (A n) items) at size left m [] m
  unfolding ManySeen
  seen_end stops fits = record {
    reading = λ edge. record { stops = λ _. stops; behind = refl };
    onward = omega arith;
    within = fits;
  }

  seen_more : {u : T} {us : List T} {m k q : ℕ} → go (at m) ≡ true →
      Reads A (λ i. see items (at i)) size left m u k →
      Reads (λ n. ManySeen see go (A n) (items ++ u ∷ [])) at size left k us q →
      Reads (λ n. ManySeen see go (A n) items) at size left m (u ∷ us) q
  unfolding ManySeen
  seen_more {k = k} goes r s = record {
    reading = λ edge. record {
      goes = goes;
      middle = k;
      first = record { read = r.reading edge };
      rest = s.reading edge;
    };
    onward = omega (arith, r.onward, s.onward);
    within = s.within;
  }

module _ {Token T : Type 0} {see : List T → Token → Token} {go : Token → Bool}
    {A : ℕ → Form Token T} {at : ℕ → Token} {size left p : ℕ} where
  -- at its start
  pub none_seen : p < size → SeenSoFar see go A at size left p [] p
  none_seen fits = record {
    reads = λ us q r. r;
    front = λ i n v below b ts q r. record { rest = ts; joined = refl; more = r };
    onward = omega arith;
    within = fits;
  }

  module _ {items : List T} {m : ℕ} (s : SeenSoFar see go A at size left p items m) where
    pub one_seen : {u : T} {k : ℕ} → Steady A → go (at m) ≡ true →
        Reads A (λ i. see items (at i)) size left m u k →
        SeenSoFar see go A at size left p (items ++ u ∷ []) k
    one_seen {u} {k} steady goes r = record {
      reads = λ us q rest. subst
          (λ list. Reads (λ n. ManySeen see go (A n) []) at size left p list q)
          (sym (append_assoc items (u ∷ []) us))
          (s.reads (u ∷ us) q (seen_more see go A items goes r rest));
      front = λ i n v below b ts q x.
          let f = s.front i n v (omega (arith, below, r.onward)) b ts q x in
          let (t, j, y, z) = seen_goes_on see go A n v left m items ts f.rest q b.greedy
          (test_path go (b.tokens m (omega (arith, below, r.onward))) goes) f.joined f.more in
          let e = only {at = at} (steady_through (see items) steady) (reads_through (see items) r)
          below b y in
          record {
            rest = z.rest;
            joined = subst (λ o. ts ≡ (items ++ o ∷ []) ++ z.rest) (sym e.0) z.joined;
            more = from_place (ManySeen see go (A n) (items ++ u ∷ [])) e.1
                (subst (λ o. ManySeen see go (A n) (items ++ o ∷ []) v left j z.rest q) (sym e.0)
                z.more);
          };
      onward = omega (arith, s.onward, r.onward);
      within = r.within;
    }

    -- the list ends here
    pub no_more_seen : go (at m) ≡ false →
        Reads (λ n. ManySeen see go (A n) []) at size left p items m
    no_more_seen stops = subst (λ list. Reads (λ n. ManySeen see go (A n) []) at size left p list m)
        (append-nil items) (s.reads [] m (seen_end see go A items stops s.within))

    -- the next part is not there
    pub no_part_seen : {i : ℕ} → go (at m) ≡ true →
        NoneThrough A (λ i. see items (at i)) size left m i →
        NoneThrough (λ n. ManySeen see go (A n) []) at size left p i
    no_part_seen {i} goes g = record {
      onward = omega (arith, s.onward, g.onward);
      within = g.within;
      none = λ n v b ts q x.
          let f = s.front i n v g.onward b ts q x in
          let (t, j, y, z) = seen_goes_on see go A n v left m items ts f.rest q b.greedy
          (test_path go (b.tokens m g.onward) goes) f.joined f.more in
          (none_through (see items) g).none n v b t j y;
    }

-- the same with equal items
pub at_seen : {Token T : Type 0} {see : List T → Token → Token} {go : Token → Bool}
    {A : ℕ → Form Token T} {at : ℕ → Token} {size left p : ℕ} {us vs : List T} {m : ℕ} →
    SeenSoFar see go A at size left p us m → vs ≡ us → SeenSoFar see go A at size left p vs m
at_seen {see = see} {go} {A} {at} {size} {left} {p} {m = m} s e =
    subst (λ items. SeenSoFar see go A at size left p items m) (sym e) s
