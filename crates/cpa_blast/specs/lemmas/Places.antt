-- The variables of cells: they are new where they are given out, have any values, and stay those of
-- the cells.
use Rattle.std.proofs.Common.{◌≡◌, ℕ, zero, suc, ◌+◌, ◌≤◌, Bool, true, false, List, [], ◌∷◌, length}
use Rattle.std.proofs.Common.{map, replicate, refl, sym, ap, subst, ◌∙◌, arith, ℤ, pos}
use Rattle.std.specs.Prelude.{if◌then◌else◌}
use Rattle.std.specs.List.{AllByRecursion, AllZip}
use Rattle.std.proofs.Math.Nat.{mod-eq_of_lt}
use Rattle.std.proofs.lemmas.List.{length-map, length-replicate}
use Rattle.cpa_ints.specs.declared.integers.IntType.{IntType}
use Rattle.cpa_ints.specs.Integers.{width, IsInRange}
use Rattle.cpa_ints.specs.Bits.{bits_of}
use Rattle.cpa_ints.specs.lemmas.WrapLaws.{zero_within}
use Rattle.cpa_ints.specs.lemmas.Bits.{bits_below}
use Rattle.cpa_cnf.specs.Lines.{AreBelow}
use Rattle.cpa_blast_gates.specs.declared.gate.Gate.{Gate}
use Rattle.cpa_blast_gates.specs.Gates.{lit_value}
use Rattle.cpa_blast_gates.specs.Nets.{vars, IsScoped, Holds, Built, built}
use Rattle.cpa_blast_gates.specs.Clauses.{clauses_of}
use Rattle.cpa_blast_gates.specs.Meanings.{Agrees, Extends, Grows}
use Rattle.cpa_blast_gates.specs.Laws.{literals_have_values, nets_grow}
use Rattle.cpa_blast_words.specs.Truths.{values}
use Rattle.cpa_blast_words.specs.Words.{constant_word}
use Rattle.cpa_blast_words.specs.Types.{StandsFor}
use Rattle.cpa_blast_words.specs.Laws.{words_mean_their_operators, words_are_long}
use Rattle.cpa_blast_words.specs.Laws.{words_are_numbers}
use Rattle.cpa_blast_words.specs.lemmas.WordMeanings.{values_repeated}
use Rattle.cpa_blast_circuits.specs.Meanings.{types_of, AreLong, AreWordsOf, HasStore}
use Rattle.cpa_blast_circuits.specs.lemmas.Facts.{no_bits}
use Rattle.cpa_blast.specs.declared.places.Place.{Place}
use Rattle.cpa_blast.specs.Formulas.{with_inputs, variables_from, place_of, is_due, place_before}
use Rattle.cpa_blast.specs.Formulas.{next_place, with_bits, words_of}
use Rattle.cpa_blast.specs.lemmas.Inputs.{values_local, inputs_grow, inputs_long, inputs_clauses}
use Rattle.cpa_blast.specs.lemmas.Inputs.{variables_below, variables_long, fresh}

-- the types of places
abbrev pub types_at : List Place → List IntType
types_at places = map (λ (p : Place). p.ty) places

abbrev pub marks_at : List Place → List Bool
marks_at places = map (λ (p : Place). p.is_read) places

-- what is said of places whose cells are due with `reading`
abbrev pub AreDue : Bool → (Place → Type 0) → List Place → Type 0
AreDue reading P places = AllByRecursion (λ p. is_due reading p.is_read ≡ true → P p) places

-- the variables of a place stand between these two numbers
pub record IsBetween (low high : ℕ) (p : Place) : Type 0 where
  pub begins : low ≤ p.first
  pub ends : p.first + width p.ty ≤ high

-- what is made behind the first place
abbrev behind_next : Bool → List Place → Built Place → Built (List Place)
behind_next reading places first =
    place_before first.value (with_bits reading places first.net)

-- what giving out variables does, apart from values
pub record GivesBits (reading : Bool) (places : List Place) (s : List Gate)
    (made : Built (List Place)) : Type 0
  where
    pub grows : Grows s made.net
    pub longer : vars s ≤ vars made.net
    pub clauses : clauses_of made.net ≡ clauses_of s
    pub types : types_at made.value ≡ types_at places
    pub marks : marks_at made.value ≡ marks_at places
    pub between : AreDue reading (IsBetween (vars s) (vars made.net)) made.value

between_more : (reading : Bool) (a b c d : ℕ) (places : List Place) → c ≤ a → b ≤ d
    → AreDue reading (IsBetween a b) places → AreDue reading (IsBetween c d) places
between_more reading a b c d [] down up due = tt
between_more reading a b c d (p ∷ places) down up due = (
  λ e. let here = due.0 e in let low = here.begins in let high = here.ends in
      record { begins = omega arith; ends = omega arith },
  between_more reading a b c d places down up due.1,
)

unlike : (b : Bool) → b ≡ true → b ≡ false → ⊥
unlike b e f = absurd (cc)

pub bits_given : (reading : Bool) (places : List Place) (s : List Gate) → IsScoped s
    → GivesBits reading places s (with_bits reading places s)
unfolding with_bits next_place
bits_given reading [] s scoped = record {
  grows = nets_grow.stays s scoped;
  longer = omega arith;
  clauses = refl;
  types = refl;
  marks = refl;
  between = tt;
}
bits_given reading (p ∷ places) s scoped =
    by (is_due reading p.is_read) refl (λ n h. bits_given reading places n h)
  where
    by : (b : Bool) → is_due reading p.is_read ≡ b
        → ((n : List Gate) → IsScoped n → GivesBits reading places n (with_bits reading places n))
        → GivesBits reading (p ∷ places) s
        (behind_next reading places (if b then built (with_inputs (width p.ty) s)
        (place_of p.ty p.is_read (vars s)) else built s p))
    by true e given =
        let next = with_inputs (width p.ty) s in
        let grown = inputs_grow (width p.ty) s scoped in
        let rest = given next grown.scoped in
        let made = with_bits reading places next in
        let wide = inputs_long (width p.ty) s in
        let longer = rest.longer in
        record {
          grows = nets_grow.on s next made.net grown rest.grows;
          longer = omega arith;
          clauses = rest.clauses ∙ inputs_clauses (width p.ty) s;
          types = ap (λ ts. p.ty ∷ ts) rest.types;
          marks = ap (λ ms. p.is_read ∷ ms) rest.marks;
          between = (
            λ due. record { begins = omega arith; ends = omega arith },
            between_more reading (vars next) (vars made.net) (vars s) (vars made.net) made.value
                (omega arith) (omega arith) rest.between,
          );
        }
    by false e given =
        let rest = given s scoped in
        record {
          grows = rest.grows;
          longer = rest.longer;
          clauses = rest.clauses;
          types = ap (λ ts. p.ty ∷ ts) rest.types;
          marks = ap (λ ms. p.is_read ∷ ms) rest.marks;
          between = (λ due. absurd (unlike (is_due reading p.is_read) due e), rest.between);
        }

-- the places of the cells that are not due stay
pub record IsKept (reading : Bool) (p q : Place) : Type 0 where
  pub same : is_due reading p.is_read ≡ false → q ≡ p
  pub ty : q.ty ≡ p.ty
  pub mark : q.is_read ≡ p.is_read

pub bits_kept : (reading : Bool) (places : List Place) (s : List Gate)
    → AllZip (IsKept reading) places (with_bits reading places s).value
unfolding with_bits next_place
bits_kept reading [] s = tt
bits_kept reading (p ∷ places) s =
    by (is_due reading p.is_read) refl (λ n. bits_kept reading places n)
  where
    by : (b : Bool) → is_due reading p.is_read ≡ b
        → ((n : List Gate) → AllZip (IsKept reading) places (with_bits reading places n).value)
        → AllZip (IsKept reading) (p ∷ places)
        (behind_next reading places (if b then built (with_inputs (width p.ty) s)
        (place_of p.ty p.is_read (vars s)) else built s p)).value
    by true e kept = (
      record { same = λ f. absurd (cc); ty = refl; mark = refl },
      kept (with_inputs (width p.ty) s),
    )
    by false e kept = (
      record { same = λ f. refl; ty = refl; mark = refl },
      kept s,
    )

-- the variables of the place stand for the value
abbrev pub StandsAt : (ℕ → Bool) → Place → ℤ → Type 0
StandsAt m p v = StandsFor p.ty (values m (variables_from p.first (width p.ty))) v

-- where the cells are due
abbrev pub StandWhereDue : Bool → (ℕ → Bool) → List Place → List ℤ → Type 0
StandWhereDue reading m places store =
    AllZip (λ p v. is_due reading p.is_read ≡ true → StandsAt m p v) places store

-- places that stand for values stand for them under assignments that agree on their variables
pub stand_local : (reading : Bool) (low high : ℕ) (m k : ℕ → Bool) (places : List Place)
    (store : List ℤ) → Agrees high m k → AreDue reading (IsBetween low high) places
    → StandWhereDue reading m places store → StandWhereDue reading k places store
stand_local reading low high m k [] [] agrees due stand = tt
stand_local reading low high m k [] (v ∷ store) agrees due stand = stand
stand_local reading low high m k (p ∷ places) [] agrees due stand = stand
stand_local reading low high m k (p ∷ places) (v ∷ store) agrees due stand = (
  λ e. subst (λ bs. StandsFor p.ty bs v)
      (values_local high m k (variables_from p.first (width p.ty)) agrees
      (variables_below p.first (width p.ty) high (due.0 e).ends)) (stand.0 e),
  stand_local reading low high m k places store agrees due.1 stand.1,
)

-- there is an assignment under which the new variables stand for the values of a store
pub record HasBits (reading : Bool) (places : List Place) (s : List Gate) (m : ℕ → Bool)
    (store : List ℤ) (made : Built (List Place)) : Type 0
  where
    pub assignment : ℕ → Bool
    pub extends : Extends (vars s) m made.net assignment
    pub stand : StandWhereDue reading assignment made.value store

-- the variables of one more cell
more_bits : (reading : Bool) (p : Place) (places : List Place) (s : List Gate)
    (m : ℕ → Bool) (v : ℤ) (store : List ℤ) → IsScoped s → Holds m s
    → ((n : List Gate) (k : ℕ → Bool) → IsScoped n → Holds k n
    → HasBits reading places n k store (with_bits reading places n))
    → HasBits reading (p ∷ places) s m (v ∷ store)
    (behind_next reading places (built (with_inputs (width p.ty) s)
    (place_of p.ty p.is_read (vars s))))
more_bits reading p places s m v store scoped holds more =
    let n = width p.ty in
    let word = constant_word n (bits_of p.ty v) in
    let bs = values m word in
    let bs_long : length bs ≡ n = length-map word (lit_value m)
    ∙ words_are_long.constant n (bits_of p.ty v) in
    let one = fresh bs s m scoped holds in
    let k = one.assignment in
    let next = with_inputs n s in
    let grown = inputs_grow n s scoped in
    let wide = inputs_long n s in
    let rest = more next k grown.scoped
    (subst (λ j. Holds k (with_inputs j s)) bs_long one.extends.holds) in
    let last = rest.assignment in
    let bits : values last (variables_from (vars s) n) ≡ bs =
    sym (values_local (vars next) k last (variables_from (vars s) n) rest.extends.agrees
    (variables_below (vars s) n (vars next) (omega arith)))
    ∙ ap (λ j. values k (variables_from (vars s) j)) (sym bs_long) ∙ one.are in
    record {
      assignment = last;
      extends = record {
        agrees = λ x below.
            one.extends.agrees x below ∙ rest.extends.agrees x (omega (arith, below, wide));
        holds = rest.extends.holds;
      };
      stand = (
        λ due. subst (λ cs. StandsFor p.ty cs v) (sym bits) (record {
          long = bs_long;
          is = words_mean_their_operators.constant s m n (bits_of p.ty v) holds
              ∙ mod-eq_of_lt (bits_below p.ty v);
        }),
        rest.stand,
      );
    }

pub bits_exist : (reading : Bool) (places : List Place) (s : List Gate)
    (m : ℕ → Bool) (store : List ℤ) → IsScoped s → Holds m s → length store ≡ length places
    → HasBits reading places s m store (with_bits reading places s)
unfolding with_bits next_place
bits_exist reading [] s m [] scoped holds long = record {
  assignment = m;
  extends = record { agrees = λ v below. refl; holds = holds };
  stand = tt;
}
bits_exist reading [] s m (v ∷ store) scoped holds long = absurd (omega arith)
bits_exist reading (p ∷ places) s m [] scoped holds long = absurd (omega arith)
bits_exist reading (p ∷ places) s m (v ∷ store) scoped holds long =
    by (is_due reading p.is_read) refl
    (λ n k h held. bits_exist reading places n k store h held (omega (arith, long)))
  where
    by : (b : Bool) → is_due reading p.is_read ≡ b
        → ((n : List Gate) (k : ℕ → Bool) → IsScoped n → Holds k n
        → HasBits reading places n k store (with_bits reading places n))
        → HasBits reading (p ∷ places) s m (v ∷ store)
        (behind_next reading places (if b then built (with_inputs (width p.ty) s)
        (place_of p.ty p.is_read (vars s)) else built s p))
    by true e more = more_bits reading p places s m v store scoped holds more
    by false e more =
        let rest = more s m scoped holds in
        record {
          assignment = rest.assignment;
          extends = rest.extends;
          stand = (λ due. absurd (unlike (is_due reading p.is_read) due e), rest.stand);
        }

-- ---- the words for the circuits

pub words_long : (places : List Place) → AreLong (words_of places)
words_long [] = tt
words_long (p ∷ places) = (by p.is_read, words_long places)
  where
    by : (b : Bool) → length (if b then variables_from p.first (width p.ty)
        else replicate (width p.ty) 1) ≡ width p.ty
    by true = variables_long p.first (width p.ty)
    by false = length-replicate (width p.ty) 1

pub words_types : (places : List Place) → types_of (words_of places) ≡ types_at places
words_types [] = refl
words_types (p ∷ places) = ap (λ ts. p.ty ∷ ts) (words_types places)

falses_below : (s : List Gate) (k : ℕ) → AreBelow (vars s) (replicate k 1)
falses_below s zero = tt
falses_below s (suc k) = (omega arith, falses_below s k)

pub words_below : (s : List Gate) (low : ℕ) (places : List Place)
    → AreDue true (IsBetween low (vars s)) places → AreWordsOf s (words_of places)
words_below s low [] due = tt
words_below s low (p ∷ places) due = (by p.is_read refl, words_below s low places due.1)
  where
    by : (b : Bool) → p.is_read ≡ b → AreBelow (vars s)
        (if b then variables_from p.first (width p.ty) else replicate (width p.ty) 1)
    by true e = variables_below p.first (width p.ty) (vars s) (due.0 e).ends
    by false e = falses_below s (width p.ty)

-- the values of the cells that are read, and 0 for the others
abbrev pub blanked : List Place → List ℤ → List ℤ
blanked [] store = []
blanked (p ∷ places) [] = []
blanked (p ∷ places) (v ∷ store) = (if p.is_read then v else pos 0) ∷ blanked places store

-- the words stand for the blanked store
pub words_stand : (net : List Gate) (m : ℕ → Bool) (places : List Place) (store : List ℤ)
    → Holds m net → StandWhereDue true m places store
    → AllZip (λ p v. IsInRange p.ty v) places store
    → HasStore m (words_of places) (blanked places store)
words_stand net m [] [] holds stand range = tt
words_stand net m [] (v ∷ store) holds stand range = absurd stand
words_stand net m (p ∷ places) [] holds stand range = absurd stand
words_stand net m (p ∷ places) (v ∷ store) holds stand range =
    (by p.is_read refl, words_stand net m places store holds stand.1 range.1)
  where
    by : (b : Bool) → p.is_read ≡ b → IsInRange p.ty (if b then v else pos 0)
        × StandsFor p.ty (values m (if b then variables_from p.first (width p.ty)
        else replicate (width p.ty) 1)) (if b then v else pos 0)
    by true e = (range.0, stand.0 e)
    by false e =
        let falses : values m (replicate (width p.ty) 1) ≡ replicate (width p.ty) false =
        values_repeated m (width p.ty) 1
        ∙ ap (replicate (width p.ty)) (literals_have_values.falsehood net m holds) in (
          zero_within p.ty,
          subst (λ bs. StandsFor p.ty bs (pos 0)) (sym falses) (record {
            long = length-replicate (width p.ty) false;
            is = words_are_numbers.falses (width p.ty) ∙ sym (no_bits p.ty);
          }),
        )
