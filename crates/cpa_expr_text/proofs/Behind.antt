-- Which node stands behind a first word: by its kind, with what its words are.
use Rattle.std.proofs.Common.{◌≡◌, ℕ, ◌^◌, ◌<◌, ℤ, List, ◌∷◌, decimal, subst}
use Rattle.std.specs.Prelude.{FitsSigned}
use Rattle.std.specs.Int.{w128}
use Rattle.std.specs.Fmt.{signed_decimal}
use Rattle.cpa_ints.specs.declared.integers.IntType.{IntType}
use Rattle.cpa_expr.specs.declared.tree.UnOp.{UnOp}
use Rattle.cpa_expr.specs.declared.tree.BinOp.{BinOp}
use Rattle.cpa_expr.specs.declared.tree.CmpOp.{CmpOp}
use Rattle.cpa_expr.specs.Words.{type_word}
use Rattle.cpa_expr_text.specs.declared.heads.Head.{Head}
use Rattle.cpa_expr_text.specs.declared.heads.Head.TheVariants as head
use Rattle.cpa_expr_text.specs.declared.heads.One.TheVariants as one
use Rattle.cpa_expr_text.specs.declared.heads.Two.TheVariants as two
use Rattle.cpa_expr_text.specs.declared.kinds.Kind.TheVariants as kind
use Rattle.cpa_expr_text.specs.Kinds.{kind_of, further_onto, FitsHead}
use Rattle.cpa_expr_text.specs.Reading.{Word}

pub const_behind : (words us : List Word) (P : Head → Type 0)
    → ((t : IntType) (n : ℤ) → FitsSigned w128 n → words ≡ type_word t ∷ signed_decimal n ∷ us
    → P (head.Leaf t n))
    → (h : Head) → kind.Const ≡ kind_of h → FitsHead h → words ≡ further_onto h us → P h
const_behind words us P is_so (head.Leaf t n) at fits is = is_so t n fits is
const_behind words us P is_so (head.One (one.Read t base len)) at fits is = absurd (cc)
const_behind words us P is_so (head.One (one.Un o t)) at fits is = absurd (cc)
const_behind words us P is_so (head.One (one.Cast t)) at fits is = absurd (cc)
const_behind words us P is_so (head.One one.Not) at fits is = absurd (cc)
const_behind words us P is_so (head.Two (two.Bin o t)) at fits is = absurd (cc)
const_behind words us P is_so (head.Two (two.Cmp o t)) at fits is = absurd (cc)
const_behind words us P is_so (head.Two two.Both) at fits is = absurd (cc)
const_behind words us P is_so (head.Two two.Either) at fits is = absurd (cc)
const_behind words us P is_so (head.Three t) at fits is = absurd (cc)

pub read_behind : (words us : List Word) (P : Head → Type 0)
    → ((t : IntType) (base len : ℕ) → base < 2 ^ 32 → len < 2 ^ 32
    → words ≡ type_word t ∷ decimal base ∷ decimal len ∷ us
    → P (head.One (one.Read t base len)))
    → (h : Head) → kind.Read ≡ kind_of h → FitsHead h → words ≡ further_onto h us → P h
read_behind words us P is_so (head.Leaf t n) at fits is = absurd (cc)
read_behind words us P is_so (head.One (one.Read t base len)) at fits is =
    is_so t base len fits.0 fits.1 is
read_behind words us P is_so (head.One (one.Un o t)) at fits is = absurd (cc)
read_behind words us P is_so (head.One (one.Cast t)) at fits is = absurd (cc)
read_behind words us P is_so (head.One one.Not) at fits is = absurd (cc)
read_behind words us P is_so (head.Two (two.Bin o t)) at fits is = absurd (cc)
read_behind words us P is_so (head.Two (two.Cmp o t)) at fits is = absurd (cc)
read_behind words us P is_so (head.Two two.Both) at fits is = absurd (cc)
read_behind words us P is_so (head.Two two.Either) at fits is = absurd (cc)
read_behind words us P is_so (head.Three t) at fits is = absurd (cc)

pub unary_behind : (o : UnOp) (words us : List Word) (P : Head → Type 0)
    → ((t : IntType) → words ≡ type_word t ∷ us → P (head.One (one.Un o t)))
    → (h : Head) → kind.Un o ≡ kind_of h → words ≡ further_onto h us → P h
unary_behind o words us P is_so (head.Leaf t n) at is = absurd (cc)
unary_behind o words us P is_so (head.One (one.Read t base len)) at is = absurd (cc)
unary_behind o words us P is_so (head.One (one.Un p t)) at is =
    let same : o ≡ p = cc in subst (λ q. P (head.One (one.Un q t))) same (is_so t is)
unary_behind o words us P is_so (head.One (one.Cast t)) at is = absurd (cc)
unary_behind o words us P is_so (head.One one.Not) at is = absurd (cc)
unary_behind o words us P is_so (head.Two (two.Bin p t)) at is = absurd (cc)
unary_behind o words us P is_so (head.Two (two.Cmp p t)) at is = absurd (cc)
unary_behind o words us P is_so (head.Two two.Both) at is = absurd (cc)
unary_behind o words us P is_so (head.Two two.Either) at is = absurd (cc)
unary_behind o words us P is_so (head.Three t) at is = absurd (cc)

pub binary_behind : (o : BinOp) (words us : List Word) (P : Head → Type 0)
    → ((t : IntType) → words ≡ type_word t ∷ us → P (head.Two (two.Bin o t)))
    → (h : Head) → kind.Bin o ≡ kind_of h → words ≡ further_onto h us → P h
binary_behind o words us P is_so (head.Leaf t n) at is = absurd (cc)
binary_behind o words us P is_so (head.One (one.Read t base len)) at is = absurd (cc)
binary_behind o words us P is_so (head.One (one.Un p t)) at is = absurd (cc)
binary_behind o words us P is_so (head.One (one.Cast t)) at is = absurd (cc)
binary_behind o words us P is_so (head.One one.Not) at is = absurd (cc)
binary_behind o words us P is_so (head.Two (two.Bin p t)) at is =
    let same : o ≡ p = cc in subst (λ q. P (head.Two (two.Bin q t))) same (is_so t is)
binary_behind o words us P is_so (head.Two (two.Cmp p t)) at is = absurd (cc)
binary_behind o words us P is_so (head.Two two.Both) at is = absurd (cc)
binary_behind o words us P is_so (head.Two two.Either) at is = absurd (cc)
binary_behind o words us P is_so (head.Three t) at is = absurd (cc)

pub comparison_behind : (o : CmpOp) (words us : List Word) (P : Head → Type 0)
    → ((t : IntType) → words ≡ type_word t ∷ us → P (head.Two (two.Cmp o t)))
    → (h : Head) → kind.Cmp o ≡ kind_of h → words ≡ further_onto h us → P h
comparison_behind o words us P is_so (head.Leaf t n) at is = absurd (cc)
comparison_behind o words us P is_so (head.One (one.Read t base len)) at is = absurd (cc)
comparison_behind o words us P is_so (head.One (one.Un p t)) at is = absurd (cc)
comparison_behind o words us P is_so (head.One (one.Cast t)) at is = absurd (cc)
comparison_behind o words us P is_so (head.One one.Not) at is = absurd (cc)
comparison_behind o words us P is_so (head.Two (two.Bin p t)) at is = absurd (cc)
comparison_behind o words us P is_so (head.Two (two.Cmp p t)) at is =
    let same : o ≡ p = cc in subst (λ q. P (head.Two (two.Cmp q t))) same (is_so t is)
comparison_behind o words us P is_so (head.Two two.Both) at is = absurd (cc)
comparison_behind o words us P is_so (head.Two two.Either) at is = absurd (cc)
comparison_behind o words us P is_so (head.Three t) at is = absurd (cc)

pub cast_behind : (words us : List Word) (P : Head → Type 0)
    → ((t : IntType) → words ≡ type_word t ∷ us → P (head.One (one.Cast t)))
    → (h : Head) → kind.Cast ≡ kind_of h → words ≡ further_onto h us → P h
cast_behind words us P is_so (head.Leaf t n) at is = absurd (cc)
cast_behind words us P is_so (head.One (one.Read t base len)) at is = absurd (cc)
cast_behind words us P is_so (head.One (one.Un p t)) at is = absurd (cc)
cast_behind words us P is_so (head.One (one.Cast t)) at is = is_so t is
cast_behind words us P is_so (head.One one.Not) at is = absurd (cc)
cast_behind words us P is_so (head.Two (two.Bin p t)) at is = absurd (cc)
cast_behind words us P is_so (head.Two (two.Cmp p t)) at is = absurd (cc)
cast_behind words us P is_so (head.Two two.Both) at is = absurd (cc)
cast_behind words us P is_so (head.Two two.Either) at is = absurd (cc)
cast_behind words us P is_so (head.Three t) at is = absurd (cc)

pub choice_behind : (words us : List Word) (P : Head → Type 0)
    → ((t : IntType) → words ≡ type_word t ∷ us → P (head.Three t))
    → (h : Head) → kind.Cond ≡ kind_of h → words ≡ further_onto h us → P h
choice_behind words us P is_so (head.Leaf t n) at is = absurd (cc)
choice_behind words us P is_so (head.One (one.Read t base len)) at is = absurd (cc)
choice_behind words us P is_so (head.One (one.Un p t)) at is = absurd (cc)
choice_behind words us P is_so (head.One (one.Cast t)) at is = absurd (cc)
choice_behind words us P is_so (head.One one.Not) at is = absurd (cc)
choice_behind words us P is_so (head.Two (two.Bin p t)) at is = absurd (cc)
choice_behind words us P is_so (head.Two (two.Cmp p t)) at is = absurd (cc)
choice_behind words us P is_so (head.Two two.Both) at is = absurd (cc)
choice_behind words us P is_so (head.Two two.Either) at is = absurd (cc)
choice_behind words us P is_so (head.Three t) at is = is_so t is
