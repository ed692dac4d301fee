-- `&&`, `||` and conditionals: traps count where the part is evaluated.
use Rattle.std.proofs.Common.{◌≡◌, ℕ, Bool, not, ◌&&◌, ◌||◌, List, length, Option, None, Some, refl}
use Rattle.std.proofs.Common.{sym, ap, ◌∙◌, ℤ}
use Rattle.std.specs.Prelude.{IfSome, ◌==◌, if◌then◌else◌}
use Rattle.cpa_ints.specs.declared.integers.IntType.{IntType}
use Rattle.cpa_ints.specs.declared.integers.IntType.TheVariants as ty
use Rattle.cpa_ints.specs.Integers.{IsInRange}
use Rattle.cpa_cnf.specs.Literals.{opposite}
use Rattle.cpa_blast_gates.specs.declared.gate.Gate.{Gate}
use Rattle.cpa_blast_gates.specs.Gates.{lit_value}
use Rattle.cpa_blast_gates.specs.Nets.{vars, IsScoped, and_in, or_in, choice_in}
use Rattle.cpa_blast_gates.specs.Laws.{literals_have_values, nets_grow, gates_mean_their_operators}
use Rattle.std.proofs.lemmas.List.{length-map}
use Rattle.cpa_blast_words.specs.Truths.{values, number}
use Rattle.cpa_blast_words.specs.Words.{choose_word, some_bit}
use Rattle.cpa_blast_words.specs.Laws.{words_mean_their_operators, words_are_long}
use Rattle.cpa_blast_words.specs.Laws.{masks_are_bitwise}
use Rattle.cpa_blast_words.specs.lemmas.Columns.{still_below, opposite_below}
use Rattle.cpa_blast_words.specs.lemmas.WalkMeanings.{all_still_below}
use Rattle.cpa_expr.specs.Values.{is_nonzero, logical_and, logical_or, conditional}
use Rattle.cpa_blast_circuits.specs.declared.answer.Answer.{Answer}
use Rattle.cpa_blast_circuits.specs.Meanings.{IsAnswer}
use Rattle.cpa_blast_circuits.specs.Answers.{answer_of, flag, both_in, either_in, conditional_in}
use Rattle.cpa_blast_circuits.specs.lemmas.Facts.{nonzero, flagged, flag_below}
use Rattle.cpa_blast_circuits.specs.lemmas.Ready.{IsRanged, IsReady, MakesReady, both_answered}
use Rattle.cpa_blast_circuits.specs.lemmas.Ready.{either_answered, end_answered}

-- whether the word has a true bit
abbrev nonzero_at : (ℕ → Bool) → List ℕ → Bool
nonzero_at m bits = not (number (values m bits) == 0)

-- it tells whether the value is nonzero
tells : (m : ℕ → Bool) (t : IntType) (a : Answer) (v : Option ℤ)
    → IsAnswer m t a v → IfSome v (IsInRange t) → IfSome v (λ n. nonzero_at m a.bits ≡ is_nonzero n)
tells m t a None is range = tt
tells m t a (Some n) is range = nonzero t (values m a.bits) n range is.bits

module _ (P : (ℕ → Bool) → Type 0) (net : List Gate) (a b : Answer)
    (t u : IntType) (v w : Option ℤ) (scoped : IsScoped net) (left : IsReady P net a t v)
    (right : IsReady P net b u w) (left_range : IsRanged P t v) (right_range : IsRanged P u w)
  where
    pub both_ready : MakesReady P net (both_in net a b) ty.I32 (logical_and v w)
    unfolding both_in
    both_ready =
        let x = some_bit net a.bits in
        let y = some_bit x.net b.bits in
        let l = and_in y.net x.value y.value in
        let counted = or_in l.net (opposite x.value) b.ok in
        let ok = and_in counted.net a.ok counted.value in
        let is_x = words_mean_their_operators.some_bit net a.bits scoped left.bits_below in
        let is_y = words_mean_their_operators.some_bit x.net b.bits is_x.grows.scoped
        (all_still_below net x.net b.bits is_x.grows right.bits_below) in
        let to_y = nets_grow.on net x.net y.net is_x.grows is_y.grows in
        let x_below = still_below x.net y.net x.value is_y.grows is_x.below in
        let is_l = gates_mean_their_operators.conjunction y.net x.value y.value is_y.grows.scoped
        x_below is_y.below in
        let to_l = nets_grow.on net y.net l.net to_y is_l.grows in
        let is_counted = gates_mean_their_operators.disjunction l.net (opposite x.value) b.ok
        is_l.grows.scoped
        (opposite_below (vars l.net) x.value (still_below y.net l.net x.value is_l.grows x_below))
        (still_below net l.net b.ok to_l right.ok_below) in
        let to_counted = nets_grow.on net l.net counted.net to_l is_counted.grows in
        let is_ok = gates_mean_their_operators.conjunction counted.net a.ok counted.value
        is_counted.grows.scoped (still_below net counted.net a.ok to_counted left.ok_below)
        is_counted.below in
        let from_l = nets_grow.on l.net counted.net ok.net is_counted.grows is_ok.grows in
        record {
          grows = nets_grow.on net counted.net ok.net to_counted is_ok.grows;
          ready = record {
            ty = refl;
            bits_below = flag_below (vars ok.net) l.value
                (still_below l.net ok.net l.value from_l is_l.below);
            ok_below = is_ok.below;
            long = refl;
            is = λ m p holds.
                let at_counted = is_ok.grows.keeps m holds in
                let at_l = is_counted.grows.keeps m at_counted in
                let at_y = is_l.grows.keeps m at_l in
                let at_x = is_y.grows.keeps m at_y in
                let at_net = is_x.grows.keeps m at_x in
                let first = left.is m p at_net in
                let second = right.is m p at_net in
                let one = nonzero_at m a.bits in
                let two = nonzero_at m b.bits in
                both_answered m t a u b (answer_of ty.I32 (flag l.value) ok.value) one two v w
                first second (tells m t a v first (left_range m p))
                (tells m u b w second (right_range m p))
                (is_ok.is m holds ∙ ap (λ c. lit_value m a.ok && c)
                (is_counted.is m at_counted ∙ ap (λ c. c || lit_value m b.ok)
                (literals_have_values.negative m x.value ∙ ap not (is_x.is m at_x))))
                (flagged l.net m l.value (one && two) at_l
                (is_l.is m at_l ∙ ap (λ c. c && lit_value m y.value) (is_x.is m at_x)
                ∙ ap (λ c. one && c) (is_y.is m at_y)));
          };
        }

    pub either_ready : MakesReady P net (either_in net a b) ty.I32 (logical_or v w)
    unfolding either_in
    either_ready =
        let x = some_bit net a.bits in
        let y = some_bit x.net b.bits in
        let l = or_in y.net x.value y.value in
        let counted = or_in l.net x.value b.ok in
        let ok = and_in counted.net a.ok counted.value in
        let is_x = words_mean_their_operators.some_bit net a.bits scoped left.bits_below in
        let is_y = words_mean_their_operators.some_bit x.net b.bits is_x.grows.scoped
        (all_still_below net x.net b.bits is_x.grows right.bits_below) in
        let to_y = nets_grow.on net x.net y.net is_x.grows is_y.grows in
        let x_below = still_below x.net y.net x.value is_y.grows is_x.below in
        let is_l = gates_mean_their_operators.disjunction y.net x.value y.value is_y.grows.scoped
        x_below is_y.below in
        let to_l = nets_grow.on net y.net l.net to_y is_l.grows in
        let is_counted = gates_mean_their_operators.disjunction l.net x.value b.ok
        is_l.grows.scoped (still_below y.net l.net x.value is_l.grows x_below)
        (still_below net l.net b.ok to_l right.ok_below) in
        let to_counted = nets_grow.on net l.net counted.net to_l is_counted.grows in
        let is_ok = gates_mean_their_operators.conjunction counted.net a.ok counted.value
        is_counted.grows.scoped (still_below net counted.net a.ok to_counted left.ok_below)
        is_counted.below in
        let from_l = nets_grow.on l.net counted.net ok.net is_counted.grows is_ok.grows in
        record {
          grows = nets_grow.on net counted.net ok.net to_counted is_ok.grows;
          ready = record {
            ty = refl;
            bits_below = flag_below (vars ok.net) l.value
                (still_below l.net ok.net l.value from_l is_l.below);
            ok_below = is_ok.below;
            long = refl;
            is = λ m p holds.
                let at_counted = is_ok.grows.keeps m holds in
                let at_l = is_counted.grows.keeps m at_counted in
                let at_y = is_l.grows.keeps m at_l in
                let at_x = is_y.grows.keeps m at_y in
                let at_net = is_x.grows.keeps m at_x in
                let first = left.is m p at_net in
                let second = right.is m p at_net in
                let one = nonzero_at m a.bits in
                let two = nonzero_at m b.bits in
                either_answered m t a u b (answer_of ty.I32 (flag l.value) ok.value) one two v w
                first second (tells m t a v first (left_range m p))
                (tells m u b w second (right_range m p))
                (is_ok.is m holds ∙ ap (λ c. lit_value m a.ok && c)
                (is_counted.is m at_counted ∙ ap (λ c. c || lit_value m b.ok) (is_x.is m at_x)))
                (flagged l.net m l.value (one || two) at_l
                (is_l.is m at_l ∙ ap (λ c. c || lit_value m y.value) (is_x.is m at_x)
                ∙ ap (λ c. one || c) (is_y.is m at_y)));
          };
        }

pub conditional_ready : (P : (ℕ → Bool) → Type 0) (net : List Gate)
    (a first second : Answer) (u t : IntType) (v w z : Option ℤ) → IsScoped net
    → IsReady P net a u v → IsReady P net first t w → IsReady P net second t z → IsRanged P u v
    → MakesReady P net (conditional_in t net a first second) t (conditional v w z)
unfolding conditional_in
conditional_ready P net a first second u t v w z scoped test yes_end no_end range =
    let x = some_bit net a.bits in
    let word = choose_word x.net x.value first.bits second.bits in
    let end = choice_in word.net x.value first.ok second.ok in
    let ok = and_in end.net a.ok end.value in
    let is_x = words_mean_their_operators.some_bit net a.bits scoped test.bits_below in
    let is_word = words_mean_their_operators.choice x.net first.bits second.bits is_x.grows.scoped
    (all_still_below net x.net first.bits is_x.grows yes_end.bits_below)
    (all_still_below net x.net second.bits is_x.grows no_end.bits_below) x.value is_x.below in
    let to_word = nets_grow.on net x.net word.net is_x.grows is_word.grows in
    let is_end = gates_mean_their_operators.choice word.net x.value first.ok second.ok
    is_word.grows.scoped (still_below x.net word.net x.value is_word.grows is_x.below)
    (still_below net word.net first.ok to_word yes_end.ok_below)
    (still_below net word.net second.ok to_word no_end.ok_below) in
    let to_end = nets_grow.on net word.net end.net to_word is_end.grows in
    let is_ok = gates_mean_their_operators.conjunction end.net a.ok end.value is_end.grows.scoped
    (still_below net end.net a.ok to_end test.ok_below) is_end.below in
    let from_word = nets_grow.on word.net end.net ok.net is_end.grows is_ok.grows in
    record {
      grows = nets_grow.on net end.net ok.net to_end is_ok.grows;
      ready = record {
        ty = refl;
        bits_below = all_still_below word.net ok.net word.value from_word is_word.below;
        ok_below = is_ok.below;
        long = words_are_long.choice x.value x.net first.bits second.bits
            (yes_end.long ∙ sym no_end.long) ∙ yes_end.long;
        is = λ m p holds.
            let at_end = is_ok.grows.keeps m holds in
            let at_word = is_end.grows.keeps m at_end in
            let at_x = is_word.grows.keeps m at_word in
            let at_net = is_x.grows.keeps m at_x in
            let tested = test.is m p at_net in
            let one = nonzero_at m a.bits in
            let alike : length (values m first.bits) ≡ length (values m second.bits) =
            length-map first.bits (lit_value m) ∙ yes_end.long
            ∙ sym (length-map second.bits (lit_value m) ∙ no_end.long) in
            end_answered m u t a first second (answer_of t word.value ok.value) one v w z tested
            (yes_end.is m p at_net) (no_end.is m p at_net)
            (tells m u a v tested (range m p))
            (is_ok.is m holds ∙ ap (λ c. lit_value m a.ok && c)
            (is_end.is m at_end
            ∙ ap (λ c. if c then lit_value m first.ok else lit_value m second.ok)
            (is_x.is m at_x)))
            (is_word.is m at_word
            ∙ masks_are_bitwise.choice (lit_value m x.value) (values m first.bits)
            (values m second.bits) alike
            ∙ ap (λ c. if c then values m first.bits else values m second.bits) (is_x.is m at_x));
      };
    }
