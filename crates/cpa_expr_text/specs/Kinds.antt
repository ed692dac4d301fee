-- Nodes by their first words, and what follows the first word of a node before its parts (this
-- project's own). Steps of the code: nothing here is promised to a caller.
use Rattle.std.specs.Prelude.{ℕ, ◌^◌, ◌<◌, ℤ, List, ◌∷◌, Option, codes, decimal, find, ⊤}
use Rattle.std.specs.Prelude.{FitsSigned}
use Rattle.std.specs.Fmt.{signed_decimal}
use Rattle.std.specs.Int.{w128}
use Rattle.std.specs.Str.{bytes_eq}
use Rattle.cpa_ints.specs.declared.integers.IntType.{IntType}
use Rattle.cpa_expr.specs.Words.{type_word, un_word, bin_word, cmp_word}
use Rattle.cpa_expr_text.specs.declared.heads.Head.{Head}
use Rattle.cpa_expr_text.specs.declared.heads.Head.TheVariants as head
use Rattle.cpa_expr_text.specs.declared.heads.One.{One}
use Rattle.cpa_expr_text.specs.declared.heads.One.TheVariants as one
use Rattle.cpa_expr_text.specs.declared.heads.Two.{Two}
use Rattle.cpa_expr_text.specs.declared.heads.Two.TheVariants as two
use Rattle.cpa_expr_text.specs.declared.kinds.Kind.{Kind}
use Rattle.cpa_expr_text.specs.declared.kinds.Kind.TheVariants as kind
use Rattle.cpa_expr_text.specs.declared.kinds.TheConstants.{KINDS, TYPES}

-- the first word of a node of the kind
abbrev pub kind_word : Kind → List ℕ
kind_word kind.Const = codes "const"
kind_word kind.Read = codes "read"
kind_word (kind.Un o) = un_word o
kind_word (kind.Bin o) = bin_word o
kind_word (kind.Cmp o) = cmp_word o
kind_word kind.Cast = codes "cast"
kind_word kind.Both = codes "both"
kind_word kind.Either = codes "either"
kind_word kind.Not = codes "not"
kind_word kind.Cond = codes "cond"

-- the kind, and the type, that is spelled so
unfoldable pub kind_spelled : List ℕ → Option Kind
kind_spelled word = find (λ k. bytes_eq (kind_word k) word) KINDS

unfoldable pub type_spelled : List ℕ → Option IntType
type_spelled word = find (λ t. bytes_eq (type_word t) word) TYPES

-- the kind of a node
abbrev pub kind_of : Head → Kind
kind_of (head.Leaf t n) = kind.Const
kind_of (head.One (one.Read t base len)) = kind.Read
kind_of (head.One (one.Un o t)) = kind.Un o
kind_of (head.One (one.Cast t)) = kind.Cast
kind_of (head.One one.Not) = kind.Not
kind_of (head.Two (two.Bin o t)) = kind.Bin o
kind_of (head.Two (two.Cmp o t)) = kind.Cmp o
kind_of (head.Two two.Both) = kind.Both
kind_of (head.Two two.Either) = kind.Either
kind_of (head.Three t) = kind.Cond

-- the words of a node behind its first, in front of others
abbrev pub further_onto : Head → List (List ℕ) → List (List ℕ)
further_onto (head.Leaf t n) ws = type_word t ∷ signed_decimal n ∷ ws
further_onto (head.One (one.Read t base len)) ws = type_word t ∷ decimal base ∷ decimal len ∷ ws
further_onto (head.One (one.Un o t)) ws = type_word t ∷ ws
further_onto (head.One (one.Cast t)) ws = type_word t ∷ ws
further_onto (head.One one.Not) ws = ws
further_onto (head.Two (two.Bin o t)) ws = type_word t ∷ ws
further_onto (head.Two (two.Cmp o t)) ws = type_word t ∷ ws
further_onto (head.Two two.Both) ws = ws
further_onto (head.Two two.Either) ws = ws
further_onto (head.Three t) ws = type_word t ∷ ws

-- all words of a node, in front of others
abbrev pub head_onto : Head → List (List ℕ) → List (List ℕ)
head_onto h ws = kind_word (kind_of h) ∷ further_onto h ws

-- the numbers of a node fit what holds them
abbrev pub FitsHead : Head → Type 0
FitsHead (head.Leaf t n) = FitsSigned w128 n
FitsHead (head.One (one.Read t base len)) = (base < 2 ^ 32) × (len < 2 ^ 32)
FitsHead (head.One (one.Un o t)) = ⊤
FitsHead (head.One (one.Cast t)) = ⊤
FitsHead (head.One one.Not) = ⊤
FitsHead (head.Two h) = ⊤
FitsHead (head.Three t) = ⊤
