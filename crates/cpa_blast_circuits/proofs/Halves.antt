-- One more half, and the end of the halves.
use Rattle.std.proofs.Common.{suc, subst, ◌-◌, ◌≡◌, ℕ, ◌+◌, ◌<◌, ◌≤◌, List, [], ◌∷◌, ◌++◌, length}
use Rattle.std.proofs.Common.{take, drop, get_or, refl, sym, ap, ◌∙◌, arith, append_assoc}
use Rattle.std.proofs.Common.{drop-cons, add-one}
use Rattle.std.proofs.lemmas.List.{drop_all, take_all}
use Rattle.cpa_blast_gates.specs.declared.gate.Gate.{Gate}
use Rattle.cpa_blast_gates.specs.Nets.{Built, built}
use Rattle.cpa_blast_words.specs.Words.{choose_word}
use Rattle.cpa_blast_circuits.specs.Reads.{halved, first_word, picked, AreAlike}

-- words behind others
abbrev pub behind : List (List ℕ) → Built (List (List ℕ)) → Built (List (List ℕ))
behind words made = built made.net (words ++ made.value)

module _ (n : ℕ) (net next : List Gate) (bit : ℕ) (halves new : List (List ℕ))
    (w v chosen : List ℕ) where
  pub one_more_half : (xs : List (List ℕ)) → 2 ≤ length xs → w ≡ get_or xs 0 w → v ≡ get_or xs 1 v
      → built next chosen ≡ choose_word net bit v w → new ≡ halves ++ chosen ∷ []
      → behind new (halved next bit (take (length xs - 2) (drop 2 xs)))
      ≡ behind halves (halved net bit xs)
  unfolding halved
  one_more_half [] two at_w at_v is pushed = absurd (omega arith)
  one_more_half (a ∷ []) two at_w at_v is pushed = absurd (omega arith)
  one_more_half (a ∷ b ∷ xs) two at_w at_v is pushed =
      let step = λ (made : Built (List ℕ)). behind (halves ++ made.value ∷ [])
      (halved made.net bit xs) in
      let made = choose_word net bit v w in
      ap (λ ws. behind new (halved next bit ws)) (take_all (length (a ∷ b ∷ xs) - 2) xs
      (omega arith))
      ∙ ap (λ ws. behind ws (halved next bit xs)) pushed
      ∙ ap step is
      ∙ ap (λ ws. built (halved made.net bit xs).net ws)
      (append_assoc halves (made.value ∷ []) (halved made.net bit xs).value)
      ∙ ap (λ x. behind halves (halved net bit (x ∷ v ∷ xs))) at_w
      ∙ ap (λ x. behind halves (halved net bit (a ∷ x ∷ xs))) at_v

  pub alike_left : (xs : List (List ℕ)) → 2 ≤ length xs → AreAlike n xs
      → AreAlike n (take (length xs - 2) (drop 2 xs))
  alike_left [] two are = absurd (omega arith)
  alike_left (a ∷ []) two are = absurd (omega arith)
  alike_left (a ∷ b ∷ xs) two are =
      subst (AreAlike n) (sym (take_all (length (a ∷ b ∷ xs) - 2) xs (omega arith))) are.1.1

  pub alike_second : (xs : List (List ℕ)) → 2 ≤ length xs → v ≡ get_or xs 1 v → AreAlike n xs
      → length v ≡ n
  alike_second [] two at are = absurd (omega arith)
  alike_second (a ∷ []) two at are = absurd (omega arith)
  alike_second (a ∷ b ∷ xs) two at are = ap length at ∙ are.1.0

pub last_half : (net : List Gate) (bit : ℕ) (halves words : List (List ℕ)) → length words ≤ 1
    → built net (halves ++ take 1 words) ≡ behind halves (halved net bit words)
unfolding halved
last_half net bit halves [] short = refl
last_half net bit halves (w ∷ []) short = refl
last_half net bit halves (w ∷ v ∷ words) short = absurd (omega arith)

-- one word, or none, stays
pub stays : (net : List Gate) (bit : ℕ) (words : List (List ℕ)) → length words ≤ 1
    → built net words ≡ halved net bit words
unfolding halved
stays net bit [] short = refl
stays net bit (w ∷ []) short = refl
stays net bit (w ∷ v ∷ words) short = absurd (omega arith)

pub alike_push : (n : ℕ) (words : List (List ℕ)) (w : List ℕ) → AreAlike n words → length w ≡ n
    → AreAlike n (words ++ w ∷ [])
alike_push n [] w are is = (is, tt)
alike_push n (v ∷ words) w are is = (are.0, alike_push n words w are.1 is)

pub alike_append : (n : ℕ) (words others : List (List ℕ)) → AreAlike n words → AreAlike n others
    → AreAlike n (words ++ others)
alike_append n [] others are is = is
alike_append n (v ∷ words) others are is = (are.0, alike_append n words others are.1 is)

pub alike_take : (n : ℕ) (words : List (List ℕ)) → AreAlike n words → AreAlike n (take 1 words)
alike_take n [] are = tt
alike_take n (w ∷ words) are = (are.0, tt)

-- words of one length are as long as the first of them
pub alike_first : (n : ℕ) (words : List (List ℕ)) → AreAlike n words
    → AreAlike (length (first_word words)) words
alike_first n [] are = tt
alike_first n (w ∷ words) are = (refl, same words are.1)
  where
    same : (vs : List (List ℕ)) → AreAlike n vs → AreAlike (length w) vs
    same [] all = tt
    same (v ∷ vs) all = (all.0 ∙ sym are.0, same vs all.1)

pub one_more_pick : (net next : List Gate) (bits : List ℕ) (i bit : ℕ)
    (words halves : List (List ℕ))
    → i < length bits → bit ≡ get_or bits i bit → built next halves ≡ halved net bit words
    → picked next (drop (i + 1) bits) halves ≡ picked net (drop i bits) words
unfolding picked
one_more_pick net next bits i bit words halves inside at is =
    ap (λ (b : Built (List (List ℕ))). picked b.net (drop (i + 1) bits) b.value) is
    ∙ sym (ap (λ bs. picked net bs words) here)
  where
    here : drop i bits ≡ bit ∷ drop (i + 1) bits
    here = rw (add-one, drop-cons bits i bit inside) (ap (λ b. b ∷ drop (suc i) bits) (sym at))

pub last_pick : (net : List Gate) (bits : List ℕ) (i : ℕ) (words : List (List ℕ))
    → length bits ≤ i → built net (first_word words) ≡ picked net (drop i bits) words
unfolding picked
last_pick net bits i words past =
    ap (λ bs. picked net bs words) (sym (drop_all i bits past))
