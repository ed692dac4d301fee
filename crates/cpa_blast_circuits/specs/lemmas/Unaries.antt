-- Constants, operators on one operand, casts and `!`.
use Rattle.std.proofs.Common.{◌≢◌, ℕ, zero, suc, ◌*◌, ◌/◌, ◌%◌, ◌<◌, Bool, true, false, not, List}
use Rattle.std.proofs.Common.{Option, Some, refl, sym, ap, subst, ◌∙◌, arith, ℤ, pos, neg_ℤ, ◌-ℤ◌}
use Rattle.std.specs.Prelude.{option_map, ◌==◌}
use Rattle.std.proofs.Math.Nat.{mod-eq_of_lt}
use Rattle.std.proofs.lemmas.List.{length-map}
use Rattle.cpa_ints.specs.declared.integers.IntType.{IntType}
use Rattle.cpa_ints.specs.declared.integers.IntType.TheVariants.{Bool as Boolean}
use Rattle.cpa_ints.specs.declared.integers.IntType.TheVariants as ty
use Rattle.cpa_ints.specs.Integers.{width}
use Rattle.cpa_ints.specs.Wrapping.{wrapped}
use Rattle.cpa_ints.specs.Bits.{bits_of}
use Rattle.cpa_ints.specs.lemmas.Bits.{bits_below}
use Rattle.cpa_cnf.specs.Literals.{opposite}
use Rattle.cpa_cnf.specs.Lines.{AreBelow}
use Rattle.cpa_blast_gates.specs.declared.gate.Gate.{Gate}
use Rattle.cpa_blast_gates.specs.Gates.{lit_value}
use Rattle.cpa_blast_gates.specs.Nets.{vars, IsScoped, built}
use Rattle.cpa_blast_gates.specs.Laws.{literals_have_values, nets_grow}
use Rattle.cpa_blast_words.specs.Truths.{values}
use Rattle.cpa_blast_words.specs.Words.{negated_word, opposites, constant_word, constant_literal}
use Rattle.cpa_blast_words.specs.Words.{cast_word, some_bit}
use Rattle.cpa_blast_words.specs.Types.{StandsFor, cast_bits}
use Rattle.cpa_blast_words.specs.Laws.{words_mean_their_operators, words_are_long, words_wrap}
use Rattle.cpa_blast_words.specs.Laws.{words_cast}
use Rattle.cpa_blast_words.specs.lemmas.Columns.{still_below, opposite_below}
use Rattle.cpa_blast_words.specs.lemmas.WordMeanings.{opposites_below}
use Rattle.cpa_expr.specs.declared.tree.UnOp.{UnOp}
use Rattle.cpa_expr.specs.declared.tree.UnOp.TheVariants as un
use Rattle.cpa_expr.specs.Values.{un_value, truth, is_nonzero, logical_not}
use Rattle.cpa_blast_circuits.specs.declared.answer.Answer.{Answer}
use Rattle.cpa_blast_circuits.specs.Answers.{answer_of, constant_answer, unary_in, cast_in, not_in}
use Rattle.cpa_blast_circuits.specs.Answers.{flag}
use Rattle.cpa_blast_circuits.specs.lemmas.Facts.{nonzero, flagged, flag_below}
use Rattle.cpa_blast_circuits.specs.lemmas.Ready.{IsRanged, IsReady, MakesReady, mapped}

literal_below : (s : List Gate) (b : Bool) → constant_literal b < 2 * vars s
literal_below s true = omega arith
literal_below s false = omega arith

pub constant_below : (s : List Gate) (w n : ℕ) → AreBelow (vars s) (constant_word w n)
constant_below s zero n = tt
constant_below s (suc w) n = (literal_below s (n % 2 == 1), constant_below s w (n / 2))

module _ (P : (ℕ → Bool) → Type 0) where
  pub constant_ready : (s : List Gate) (t : IntType) (n : ℤ) → IsScoped s
      → MakesReady P s (built s (constant_answer t n)) t (Some n)
  constant_ready s t n scoped = record {
    grows = nets_grow.stays s scoped;
    ready = record {
      ty = refl;
      bits_below = constant_below s (width t) (bits_of t n);
      ok_below = omega arith;
      long = words_are_long.constant (width t) (bits_of t n);
      is = λ m p holds. record {
        ok = literals_have_values.truth s m holds;
        bits = record {
          long = length-map (constant_word (width t) (bits_of t n)) (lit_value m)
              ∙ words_are_long.constant (width t) (bits_of t n);
          is = words_mean_their_operators.constant s m (width t) (bits_of t n) holds
              ∙ mod-eq_of_lt (bits_below t n);
        };
      };
    };
  }

  module _ (net : List Gate) (a : Answer) (scoped : IsScoped net) where
    pub unary_ready : (o : UnOp) (t : IntType) (v : Option ℤ) → t ≢ Boolean
        → IsReady P net a t v → IsRanged P t v
        → MakesReady P net (unary_in o t net a) t (option_map (un_value o t) v)
    unfolding unary_in
    unary_ready un.Neg t v other r ranged =
        let made = words_mean_their_operators.negation net a.bits scoped r.bits_below in
        let w = negated_word net a.bits in
        record {
          grows = made.grows;
          ready = record {
            ty = refl;
            bits_below = made.below;
            ok_below = still_below net w.net a.ok made.grows r.ok_below;
            long = words_are_long.negation net a.bits ∙ r.long;
            is = λ m p holds.
                mapped m t a t (answer_of t w.value a.ok) (un_value un.Neg t) v
                (r.is m p (made.grows.keeps m holds)) (ranged m p) refl
                (λ n range stands. subst (λ bs. StandsFor t bs (wrapped t (neg_ℤ n)))
                (sym (made.is m holds))
                ((words_wrap).negation t (values m a.bits) n other stands));
          };
        }
    unary_ready un.Flip t v other r ranged = record {
      grows = nets_grow.stays net scoped;
      ready = record {
        ty = refl;
        bits_below = opposites_below (vars net) a.bits r.bits_below;
        ok_below = r.ok_below;
        long = length-map a.bits opposite ∙ r.long;
        is = λ m p holds.
            mapped m t a t (answer_of t (opposites a.bits) a.ok) (un_value un.Flip t) v
            (r.is m p holds) (ranged m p) refl
            (λ n range stands. subst (λ bs. StandsFor t bs (wrapped t (neg_ℤ n -ℤ pos 1)))
            (sym (words_mean_their_operators.opposites m a.bits))
            ((words_wrap).flip t (values m a.bits) n other stands));
      };
    }

    pub cast_ready : (s t : IntType) (v : Option ℤ) → IsReady P net a s v → IsRanged P s v
        → MakesReady P net (cast_in t net a) t (option_map (wrapped t) v)
    unfolding cast_in
    cast_ready s t v r ranged =
        let made = words_mean_their_operators.cast a.ty t net a.bits scoped r.bits_below in
        let w = cast_word a.ty t net a.bits in
        record {
          grows = made.grows;
          ready = record {
            ty = refl;
            bits_below = made.below;
            ok_below = still_below net w.net a.ok made.grows r.ok_below;
            long = words_are_long.cast a.ty t net a.bits;
            is = λ m p holds.
                mapped m s a t (answer_of t w.value a.ok) (wrapped t) v
                (r.is m p (made.grows.keeps m holds)) (ranged m p) refl
                (λ n range stands. subst (λ bs. StandsFor t bs (wrapped t n))
                (sym (made.is m holds ∙ ap (λ u. cast_bits u t (values m a.bits)) r.ty))
                (words_cast s t (values m a.bits) n range stands));
          };
        }

    pub not_ready : (s : IntType) (v : Option ℤ) → IsReady P net a s v → IsRanged P s v
        → MakesReady P net (not_in net a) ty.I32 (logical_not v)
    unfolding not_in
    not_ready s v r ranged =
        let made = words_mean_their_operators.some_bit net a.bits scoped r.bits_below in
        let l = some_bit net a.bits in
        record {
          grows = made.grows;
          ready = record {
            ty = refl;
            bits_below = flag_below (vars l.net) (opposite l.value)
                (opposite_below (vars l.net) l.value made.below);
            ok_below = still_below net l.net a.ok made.grows r.ok_below;
            long = refl;
            is = λ m p holds.
                mapped m s a ty.I32 (answer_of ty.I32 (flag (opposite l.value)) a.ok)
                (λ n. truth (not (is_nonzero n))) v (r.is m p (made.grows.keeps m holds))
                (ranged m p) refl
                (λ n range stands. flagged l.net m (opposite l.value) (not (is_nonzero n)) holds
                (literals_have_values.negative m l.value
                ∙ ap not (made.is m holds ∙ nonzero s (values m a.bits) n range stands)));
          };
        }
