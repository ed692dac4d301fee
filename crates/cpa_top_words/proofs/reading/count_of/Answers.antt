use Rattle.std.proofs.Common.{ap, sym, refl, ◌∙◌, ◌≡◌, ℕ, ◌<◌, ◌≤◌, List, Option, Some, None, Bool}
use Rattle.std.proofs.Common.{true, false, codes, arith}
use Rattle.std.specs.Prelude.{Result, Ok, Err}
use Rattle.std.specs.Option.{option_map_or}
use Rattle.std.specs.Str.Parse.{ParsesUnsigned, ExplainsUnsignedError, HasUnsignedDigitsIfOk}
use Rattle.clap.specs.Words.{ReadsOne, found_of}
use Rattle.clap.specs.ValueTests.{accepts}
use Rattle.clap.specs.declared.builder.value_parser.ValueParser.TheVariants as vp
use Rattle.clap.proofs.WalkLemmas.{one_text-rows}
use Rattle.clap.proofs.ValueTestLemmas.{accepts-Accepts, Accepts-accepts}
use Rattle.cpa_top_words.specs.Jobs.{count_in}
use Rattle.cpa_top_words.proofs.reading.count_of.Goals as goal

taken : (E : Type 0) (t : List ℕ) (n : ℕ) → n ≤ 100 → ParsesUnsigned {E = E} 64 10 t (Ok n)
    → n ≡ count_in t
taken E t n few h =
    let value = h.1 in
    let is = Accepts-accepts false (vp.Unsigned 0 100) t
    (h.0.0, h.0.1, omega arith, omega (arith, value, few)) in
    rw is h.1

none : (b : Bool) (t : List ℕ) → accepts false (vp.Unsigned 0 100) t ≡ b
    → (accepts false (vp.Unsigned 0 100) t ≡ true → ⊥) → 0 ≡ count_in t
none true t e h = absurd (h e)
none false t e h = rw e refl

large : (E : Type 0) (t : List ℕ) (n : ℕ) → 100 < n → ParsesUnsigned {E = E} 64 10 t (Ok n)
    → 0 ≡ count_in t
large E t n many h = none _ t refl (λ is.
    let a = accepts-Accepts false (vp.Unsigned 0 100) t is in
    let value = h.1 in let small = a.3 in absurd (omega (arith, value, small, many)))

refused : (E : Type 0) (t : List ℕ) (e : E) → ParsesUnsigned 64 10 t (Err e) → 0 ≡ count_in t
refused E t e h = none _ t refl (λ is.
    let a = accepts-Accepts false (vp.Unsigned 0 100) t is in h (a.0, a.1))

-- what `get_one` reads
module _ (E : Type 0) (P : List ℕ → Result ℕ E → Type 0)
    (f : (t : List ℕ) (x : Result ℕ E) → P t x → ParsesUnsigned 64 10 t x) where
  small_read : (text : Option (List ℕ)) (r : Option ℕ) (n : ℕ) → n ≤ 100
      → (text ≡ None → r ≡ None) → ((t : List ℕ) → text ≡ Some t → ReadsOne P t r)
      → r ≡ Some n → n ≡ option_map_or count_in text 0
  small_read None r n few nothing value e = let no = nothing refl in absurd (cc)
  small_read (Some t) None n few nothing value e = absurd (cc)
  small_read (Some t) (Some m) n few nothing value e =
      let same : m ≡ n = cc in
      sym same ∙ taken E t m (omega (arith, few, same)) (f t (Ok m) (value t refl))

  large_read : (text : Option (List ℕ)) (r : Option ℕ) (n : ℕ) → 100 < n
      → (text ≡ None → r ≡ None) → ((t : List ℕ) → text ≡ Some t → ReadsOne P t r)
      → r ≡ Some n → 0 ≡ option_map_or count_in text 0
  large_read None r n many nothing value e = let no = nothing refl in absurd (cc)
  large_read (Some t) None n many nothing value e = absurd (cc)
  large_read (Some t) (Some m) n many nothing value e =
      let same : m ≡ n = cc in large E t m (omega (arith, many, same)) (f t (Ok m) (value t refl))

  unread : (text : Option (List ℕ)) (r : Option ℕ) → (text ≡ None → r ≡ None)
      → ((t : List ℕ) → text ≡ Some t → ReadsOne P t r) → r ≡ None
      → 0 ≡ option_map_or count_in text 0
  unread None r nothing value e = refl
  unread (Some t) (Some m) nothing value e = absurd (cc)
  unread (Some t) None nothing value e =
      let got = value t refl in refused E t got.0 (f t (Err got.0) got.1)

pub returns-in-Some : goal.returns-in-Some
returns-in-Some c =
    small_read _ (λ bs r. ParsesUnsigned 64 10 bs r × ExplainsUnsignedError 10 bs r ×
    HasUnsignedDigitsIfOk bs r)
    (λ t x h. h.0) _ c.get_one.result c.in-Some.count
    (let few = c.if-count-from.true in let most = c.from.ensures in omega (arith, few, most))
    c.get_one.ensures.none c.get_one.ensures.value c.in-Some.is
    ∙ ap (λ (o : Option (List ℕ)). option_map_or count_in o 0)
    (one_text-rows (found_of c.args.matches.now) (codes "N"))

pub returns-in_default : goal.returns-in_default
returns-in_default c =
    large_read _ (λ bs r. ParsesUnsigned 64 10 bs r × ExplainsUnsignedError 10 bs r ×
    HasUnsignedDigitsIfOk bs r)
    (λ t x h. h.0) _ c.get_one.result c.in-Some.count
    (let many = c.if-count-from.false in let most = c.from.ensures in omega (arith, many, most))
    c.get_one.ensures.none c.get_one.ensures.value c.in-Some.is
    ∙ ap (λ (o : Option (List ℕ)). option_map_or count_in o 0)
    (one_text-rows (found_of c.args.matches.now) (codes "N"))

pub returns-in_default-2 : goal.returns-in_default-2
returns-in_default-2 c =
    unread _ (λ bs r. ParsesUnsigned 64 10 bs r × ExplainsUnsignedError 10 bs r ×
    HasUnsignedDigitsIfOk bs r)
    (λ t x h. h.0) _ c.get_one.result c.get_one.ensures.none c.get_one.ensures.value
    c.in_default.is
    ∙ ap (λ (o : Option (List ℕ)). option_map_or count_in o 0)
    (one_text-rows (found_of c.args.matches.now) (codes "N"))
