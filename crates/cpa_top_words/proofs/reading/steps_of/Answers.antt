use Rattle.std.proofs.Common.{ap, sym, refl, ◌∙◌, ◌≡◌, ℕ, List, Option, Some, None, Bool, true}
use Rattle.std.proofs.Common.{false, codes, arith}
use Rattle.std.specs.Prelude.{Result, Ok, Err}
use Rattle.std.specs.Option.{option_map_or}
use Rattle.std.specs.Str.Parse.{ParsesUnsigned, ExplainsUnsignedError, HasUnsignedDigitsIfOk}
use Rattle.clap.specs.Words.{ReadsOne, found_of}
use Rattle.clap.specs.ValueTests.{accepts}
use Rattle.clap.specs.declared.builder.value_parser.ValueParser.TheVariants as vp
use Rattle.clap.proofs.WalkLemmas.{one_text-rows}
use Rattle.clap.proofs.ValueTestLemmas.{accepts-Accepts, Accepts-accepts}
use Rattle.cpa_top_words.specs.Jobs.{number_of}
use Rattle.cpa_top_words.proofs.reading.steps_of.Goals as goal

taken : (E : Type 0) (t : List ℕ) (n : ℕ) → ParsesUnsigned {E = E} 64 10 t (Ok n) → n ≡ number_of t
taken E t n h =
    let is = Accepts-accepts false (vp.Unsigned 0 18446744073709551615) t
    (h.0.0, h.0.1, omega arith, (let few = h.0.1 in omega arith)) in
    rw is h.1

passes : (b : Bool) (t : List ℕ) → accepts false (vp.Unsigned 0 18446744073709551615) t ≡ b
    → (accepts false (vp.Unsigned 0 18446744073709551615) t ≡ true → ⊥) → 1000000 ≡ number_of t
passes true t e h = absurd (h e)
passes false t e h = rw e refl

refused : (E : Type 0) (t : List ℕ) (e : E) → ParsesUnsigned 64 10 t (Err e) → 1000000 ≡ number_of t
refused E t e h = passes _ t refl
    (λ is. let a = accepts-Accepts false (vp.Unsigned 0 18446744073709551615) t is in h (a.0, a.1))

read : (E : Type 0) (P : List ℕ → Result ℕ E → Type 0) (text : Option (List ℕ)) (r : Option ℕ)
    (n : ℕ)
    → ((t : List ℕ) (x : Result ℕ E) → P t x → ParsesUnsigned 64 10 t x)
    → (text ≡ None → r ≡ None) → ((t : List ℕ) → text ≡ Some t → ReadsOne P t r)
    → r ≡ Some n → n ≡ option_map_or number_of text 1000000
read E P None r n f none value e = let no = none refl in absurd (cc)
read E P (Some t) None n f none value e = absurd (cc)
read E P (Some t) (Some m) n f none value e =
    let same : m ≡ n = cc in sym same ∙ taken E t m (f t (Ok m) (value t refl))

unread : (E : Type 0) (P : List ℕ → Result ℕ E → Type 0) (text : Option (List ℕ)) (r : Option ℕ)
    → ((t : List ℕ) (x : Result ℕ E) → P t x → ParsesUnsigned 64 10 t x)
    → (text ≡ None → r ≡ None) → ((t : List ℕ) → text ≡ Some t → ReadsOne P t r)
    → r ≡ None → 1000000 ≡ option_map_or number_of text 1000000
unread E P None r f none value e = refl
unread E P (Some t) (Some m) f none value e = absurd (cc)
unread E P (Some t) None f none value e =
    let got = value t refl in refused E t got.0 (f t (Err got.0) got.1)

pub returns-in-Some : goal.returns-in-Some
returns-in-Some c =
    read _ (λ bs r. ParsesUnsigned 64 10 bs r × ExplainsUnsignedError 10 bs r ×
    HasUnsignedDigitsIfOk bs r)
    _ c.get_one.result c.in-Some.steps (λ t x h. h.0) c.get_one.ensures.none c.get_one.ensures.value
    c.in-Some.is
    ∙ ap (λ (o : Option (List ℕ)). option_map_or number_of o 1000000)
    (one_text-rows (found_of c.args.matches.now) (codes "steps"))

pub returns-in-None : goal.returns-in-None
returns-in-None c =
    unread _ (λ bs r. ParsesUnsigned 64 10 bs r × ExplainsUnsignedError 10 bs r ×
    HasUnsignedDigitsIfOk bs r)
    _ c.get_one.result (λ t x h. h.0) c.get_one.ensures.none c.get_one.ensures.value c.in-None.is
    ∙ ap (λ (o : Option (List ℕ)). option_map_or number_of o 1000000)
    (one_text-rows (found_of c.args.matches.now) (codes "steps"))
