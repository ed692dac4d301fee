-- The number of functions of a measurement: what texts it is read from (`small_is_counted`), and
-- that it is small (`benches_are_small`).
use Rattle.std.proofs.Common.{◌≡◌, refl, ap, ℕ, ◌≤◌, List, [], ◌∷◌}
use Rattle.std.proofs.Common.{Option, Some, None, Bool, true, false, codes, arith, cond}
use Rattle.std.proofs.Common.{option_map}
use Rattle.std.specs.Prelude.{decimal, drop, if◌then◌else◌}
use Rattle.std.proofs.lemmas.Bool.{ne_eqb}
use Rattle.std.proofs.lemmas.Fmt.{decimal_is_IsNumeral}
use Rattle.std.proofs.lemmas.Str.Parse.{digit_from_value}
use Rattle.std.specs.Option.{option_map_or}
use Rattle.std.specs.Str.{bytes_eq}
use Rattle.std.specs.Str.Parse.{IsNumeral, digits_value, without_leading_plus}
use Rattle.clap.specs.Words.{Row, Text, first_of, one_of, subcommand_of}
use Rattle.clap.specs.ValueTests.{accepts}
use Rattle.clap.specs.declared.builder.value_parser.ValueParser.TheVariants as vp
use Rattle.clap.proofs.ValueTestLemmas.{accepts-Accepts, Accepts-accepts}
use Rattle.cpa_ints.specs.declared.data_model.DataModel.{DataModel}
use Rattle.cpa_top_words_command.specs.Commands.{cpaverify}
use Rattle.cpa_top_words.specs.Jobs.{verify, replay, recheck, bench, asked_by, count_in}
use Rattle.cpa_top_words.specs.Jobs.{count_of, job_of, model_of, name_of, steps_of}
use Rattle.cpa_top_words.specs.Laws.{IsPlain}

-- ---- of numerals

pub numeral_is_plain : (ds : List ℕ) → IsNumeral 10 ds → IsPlain ds
numeral_is_plain [] h = refl
numeral_is_plain (c ∷ cs) h =
    rw (ne_eqb c 45 (λ e. let digit = digit_from_value c h.1.0 in omega (arith, e, digit))) refl

without_plus : (ds : List ℕ) → IsNumeral 10 ds → without_leading_plus ds ≡ ds
without_plus [] h = refl
without_plus (c ∷ cs) h =
    ap (λ (b : Bool). drop (cond b 1 0) (c ∷ cs))
    (ne_eqb c 43 (λ e. let digit = digit_from_value c h.1.0 in omega (arith, e, digit)))

pub small_is_taken : (n : ℕ) → n ≤ 100 → accepts false (vp.Unsigned 0 100) (decimal n) ≡ true
small_is_taken n few =
    let is = decimal_is_IsNumeral n (omega arith) in
    let value = is.1 in
    let numeral : IsNumeral 10 (without_leading_plus (decimal n)) =
    rw (without_plus (decimal n) is.0) is.0 in
    let same : digits_value 10 (without_leading_plus (decimal n)) ≡ n =
    rw (without_plus (decimal n) is.0) is.1 in
    Accepts-accepts false (vp.Unsigned 0 100) (decimal n)
    (numeral, omega (arith, same, few), omega arith, omega (arith, same, few))

pub small_is_counted : (n : ℕ) → n ≤ 100 → count_in (decimal n) ≡ n
small_is_counted n few =
    let is = decimal_is_IsNumeral n (omega arith) in
    rw (small_is_taken n few, without_plus (decimal n) is.0) is.1

-- ---- of every text

small_or_none : (b : Bool) (text : List ℕ) → accepts false (vp.Unsigned 0 100) text ≡ b
    → (if b then digits_value 10 (without_leading_plus text) else 0) ≤ 100
small_or_none true text e = let is = accepts-Accepts false (vp.Unsigned 0 100) text e in is.3
small_or_none false text e = omega arith

count_is_small : (text : List ℕ) → count_in text ≤ 100
count_is_small text = small_or_none _ text refl

found_is_small : (text : Option (List ℕ)) → option_map_or count_in text 0 ≤ 100
found_is_small None = omega arith
found_is_small (Some text) = count_is_small text

no_replay : (program inputs : List ℕ) (steps n : ℕ) (o : Option DataModel)
    → option_map (replay program inputs steps) o ≡ Some (bench n) → ⊥
no_replay program inputs steps n None e = absurd (cc)
no_replay program inputs steps n (Some model) e = absurd (cc)

-- the job of a subcommand is a measurement of so many functions
measures : (a b c d : Bool) (verified replayed rechecked inputs report : List ℕ)
    (config its : Option (List ℕ)) (model : Option DataModel) (steps m n : ℕ) → m ≤ 100
    → (if a then Some (verify verified config)
    else (if b then option_map (replay replayed inputs steps) model
    else (if c then Some (recheck rechecked report its)
    else (if d then Some (bench m) else None)))) ≡ Some (bench n)
    → n ≤ 100
measures true b c d v r s i o config its model steps m n few e = absurd (cc)
measures false true c d v r s i o config its model steps m n few e =
    absurd (no_replay r i steps n model e)
measures false false true d v r s i o config its model steps m n few e = absurd (cc)
measures false false false true v r s i o config its model steps m n few e =
    let same : m ≡ n = cc in omega (arith, few, same)
measures false false false false v r s i o config its model steps m n few e = absurd (cc)

small : (found : Option (Text × List Row)) (n : ℕ)
    → option_map_or (λ p. job_of p.0 p.1) found None ≡ Some (bench n) → n ≤ 100
small None n e = absurd (cc)
small (Some p) n e =
    let program = name_of (codes "PROGRAM") p.1 in
    let config = first_of (codes "config") p.1 in
    measures (bytes_eq p.0 (codes "verify")) (bytes_eq p.0 (codes "replay"))
    (bytes_eq p.0 (codes "recheck")) (bytes_eq p.0 (codes "bench")) program program program
    (name_of (codes "INPUTS") p.1) (name_of (codes "REPORT") p.1) config config (model_of p.1)
    (steps_of p.1) (count_of p.1) n (found_is_small (one_of (codes "N") p.1)) e

pub benches_are_small : (words : List (List ℕ)) (n : ℕ) → asked_by words ≡ Some (bench n)
    → n ≤ 100
benches_are_small words n e = small (subcommand_of cpaverify words) n e
