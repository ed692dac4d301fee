-- The read of a cell by an index: halving picks the word at the number of the index, and the test
-- tells whether the index lies inside.
use Rattle.std.proofs.Common.{◌≡◌, ℕ, zero, suc, ◌+◌, ◌*◌, ◌<◌, Bool, true, false, List, [], ◌∷◌}
use Rattle.std.proofs.Common.{length, refl, sym, ap, subst, ◌∙◌, arith}
use Rattle.std.specs.Prelude.{slice_index_or, if◌then◌else◌}
use Rattle.std.specs.List.{AllByRecursion}
use Rattle.std.proofs.lemmas.List.{length-map}
use Rattle.cpa_cnf.specs.Lines.{AreBelow}
use Rattle.cpa_blast_gates.specs.declared.gate.Gate.{Gate}
use Rattle.cpa_blast_gates.specs.Gates.{lit_value}
use Rattle.cpa_blast_gates.specs.Nets.{vars, IsScoped, Holds, Built}
use Rattle.cpa_blast_gates.specs.Meanings.{Grows}
use Rattle.cpa_blast_gates.specs.Laws.{nets_grow}
use Rattle.cpa_blast_words.specs.Truths.{bit, values, number}
use Rattle.cpa_blast_words.specs.Words.{choose_word}
use Rattle.cpa_blast_words.specs.Laws.{words_mean_their_operators, words_are_long}
use Rattle.cpa_blast_words.specs.Laws.{masks_are_bitwise}
use Rattle.cpa_blast_words.specs.lemmas.Columns.{still_below}
use Rattle.cpa_blast_words.specs.lemmas.WalkMeanings.{all_still_below}
use Rattle.cpa_blast_circuits.specs.declared.answer.Word.{Word}
use Rattle.cpa_blast_circuits.specs.Meanings.{AreWordsOf}
use Rattle.cpa_blast_circuits.specs.Reads.{halved, first_word, picked, AreAlike}

-- each of the words is of literals below n
abbrev AllBelow : ℕ → List (List ℕ) → Type 0
AllBelow n words = AllByRecursion (AreBelow n) words

words_still_below : (s net : List Gate) (words : List (List ℕ)) → Grows s net
    → AllBelow (vars s) words → AllBelow (vars net) words
words_still_below s net [] grows below = tt
words_still_below s net (w ∷ words) grows below =
    (all_still_below s net w grows below.0, words_still_below s net words grows below.1)

-- the words of cells stay those of a larger net
pub words_still_of : (s net : List Gate) (cells : List Word) → Grows s net → AreWordsOf s cells
    → AreWordsOf net cells
words_still_of s net [] grows below = tt
words_still_of s net (w ∷ cells) grows below =
    (all_still_below s net w.bits grows below.0, words_still_of s net cells grows below.1)

-- the word at a place
abbrev at : List (List ℕ) → ℕ → List ℕ
at words k = slice_index_or words k []

-- what the halves of words mean
record AreHalves (s : List Gate) (l w : ℕ) (words : List (List ℕ)) (made : Built (List (List ℕ)))
    : Type 0
  where
    grows : Grows s made.net
    below : AllBelow (vars made.net) made.value
    alike : AreAlike w made.value
    long : (k : ℕ) (b : Bool) → 2 * k + bit b < length words → k < length made.value
    is : (m : ℕ → Bool) (k : ℕ) → Holds m made.net → 2 * k + bit (lit_value m l) < length words
        → values m (at made.value k) ≡ values m (at words (2 * k + bit (lit_value m l)))

later : (words : List (List ℕ)) (v x : List ℕ) (k : ℕ) (b : Bool)
    → at (v ∷ x ∷ words) (2 * suc k + bit b) ≡ at words (2 * k + bit b)
later words v x k b = ap (at (v ∷ x ∷ words)) (two_more k (bit b))
  where
    two_more : (k c : ℕ) → 2 * suc k + c ≡ suc (suc (2 * k + c))
    two_more k c = omega arith

low_pair : (m : ℕ → Bool) (words : List (List ℕ)) (v x : List ℕ) (b : Bool)
    → (if b then values m x else values m v) ≡ values m (at (v ∷ x ∷ words) (2 * 0 + bit b))
low_pair m words v x true = refl
low_pair m words v x false = refl

halved_is : (s : List Gate) (l w : ℕ) (words : List (List ℕ)) → IsScoped s → l < 2 * vars s
    → AllBelow (vars s) words → AreAlike w words → AreHalves s l w words (halved s l words)
unfolding halved
halved_is s l w [] scoped l_below below alike = record {
  grows = nets_grow.stays s scoped;
  below = tt;
  alike = tt;
  long = λ k b h. absurd (omega arith);
  is = λ m k holds h. absurd (omega arith);
}
halved_is s l w (v ∷ []) scoped l_below below alike = record {
  grows = nets_grow.stays s scoped;
  below = below;
  alike = alike;
  long = λ k b h. omega arith;
  is = λ m k holds h. ap (λ i. values m (at (v ∷ []) i)) (only k (bit (lit_value m l)) h);
}
  where
    only : (k c : ℕ) → 2 * k + c < 1 → k ≡ 2 * k + c
    only k c h = omega arith
halved_is s l w (v ∷ x ∷ words) scoped l_below below alike =
    let chosen = choose_word s l x v in
    let made = words_mean_their_operators.choice s x v scoped below.1.0 below.0 l l_below in
    let rest = halved_is chosen.net l w words made.grows.scoped
    (still_below s chosen.net l made.grows l_below)
    (words_still_below s chosen.net words made.grows below.1.1) alike.1.1 in
    let net = (halved chosen.net l words).net in
    record {
      grows = nets_grow.on s chosen.net net made.grows rest.grows;
      below = (all_still_below chosen.net net chosen.value rest.grows made.below, rest.below);
      alike = (
        words_are_long.choice l s x v (alike.1.0 ∙ sym alike.0) ∙ alike.1.0,
        rest.alike,
      );
      long = λ k b h. enough k b (length words) (length (halved chosen.net l words).value)
          (λ j. rest.long j b) h;
      is = λ m k holds h. each m k holds h rest;
    }
  where
    enough : (k : ℕ) (b : Bool) (n o : ℕ) → ((j : ℕ) → 2 * j + bit b < n → j < o)
        → 2 * k + bit b < suc (suc n) → k < suc o
    enough zero b n o more h = omega arith
    enough (suc k) b n o more h =
        let below = more k (less k (bit b) n h) in
        omega arith
      where
        less : (k c n : ℕ) → 2 * suc k + c < suc (suc n) → 2 * k + c < n
        less k c n h = omega arith

    each : (m : ℕ → Bool) (k : ℕ)
        → Holds m (halved (choose_word s l x v).net l words).net
        → 2 * k + bit (lit_value m l) < length (v ∷ x ∷ words)
        → AreHalves (choose_word s l x v).net l w words (halved (choose_word s l x v).net l words)
        → values m (at ((choose_word s l x v).value
        ∷ (halved (choose_word s l x v).net l words).value) k)
        ≡ values m (at (v ∷ x ∷ words) (2 * k + bit (lit_value m l)))
    each m zero holds h rest =
        let made = words_mean_their_operators.choice s x v scoped below.1.0 below.0 l l_below in
        made.is m (rest.grows.keeps m holds)
        ∙ masks_are_bitwise.choice (lit_value m l) (values m x) (values m v)
        (length-map x (lit_value m) ∙ alike.1.0 ∙ sym (length-map v (lit_value m) ∙ alike.0))
        ∙ low_pair m words v x (lit_value m l)
    each m (suc k) holds h rest =
        rest.is m k holds (less k (bit (lit_value m l)) (length words) h)
        ∙ ap (values m) (sym (later words v x k (lit_value m l)))
      where
        less : (k c n : ℕ) → 2 * suc k + c < suc (suc n) → 2 * k + c < n
        less k c n h = omega arith

-- what the word that bits pick means
pub record IsPicked (s : List Gate) (bits : List ℕ) (w : ℕ) (words : List (List ℕ))
    (made : Built (List ℕ)) : Type 0
  where
    pub grows : Grows s made.net
    pub below : AreBelow (vars made.net) made.value
    pub long : 0 < length words → length made.value ≡ w
    pub is : (m : ℕ → Bool) → Holds m made.net → number (values m bits) < length words
        → values m made.value ≡ values m (at words (number (values m bits)))

first_below : (n : ℕ) (words : List (List ℕ)) → AllBelow n words → AreBelow n (first_word words)
first_below n [] below = tt
first_below n (w ∷ words) below = below.0

first_long : (w : ℕ) (words : List (List ℕ)) → AreAlike w words → 0 < length words
    → length (first_word words) ≡ w
first_long w [] alike h = absurd (omega arith)
first_long w (v ∷ words) alike h = alike.0

pub picked_is : (s : List Gate) (bits : List ℕ) (w : ℕ) (words : List (List ℕ)) → IsScoped s
    → AreBelow (vars s) bits → AllBelow (vars s) words → AreAlike w words
    → IsPicked s bits w words (picked s bits words)
unfolding picked
picked_is s [] w words scoped bits_below below alike = record {
  grows = nets_grow.stays s scoped;
  below = first_below (vars s) words below;
  long = first_long w words alike;
  is = λ m holds h. refl;
}
picked_is s (l ∷ bits) w words scoped bits_below below alike =
    let half = halved s l words in
    let halves = halved_is s l w words scoped bits_below.0 below alike in
    let rest = picked_is half.net bits w half.value halves.grows.scoped
    (all_still_below s half.net bits halves.grows bits_below.1) halves.below halves.alike in
    let made = picked half.net bits half.value in
    record {
      grows = nets_grow.on s half.net made.net halves.grows rest.grows;
      below = rest.below;
      long = λ h. rest.long (halves.long 0 false h);
      is = λ m holds h.
          let k = number (values m bits) in
          let b = lit_value m l in
          let order = swap (bit b) k in
          let inside = subst (λ i. i < length words) order h in
          rest.is m holds (halves.long k b inside)
          ∙ halves.is m k (rest.grows.keeps m holds) inside
          ∙ ap (λ i. values m (at words i)) (sym order);
    }
  where
    swap : (c k : ℕ) → c + 2 * k ≡ 2 * k + c
    swap c k = omega arith
