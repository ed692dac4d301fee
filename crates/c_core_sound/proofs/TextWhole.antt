-- The tree of the tokens of a text is whole (`text_whole`).
use Rattle.std.proofs.Common.{◌≡◌, ℕ, zero, suc, ◌-◌, ℤ, ◌≤ℤ◌, cond, Bool, true, false, List, []}
use Rattle.std.proofs.Common.{◌∷◌, Option, Some, refl, arith}
use Rattle.std.specs.Prelude.{find, int_le, slice_get, unwrap_or}
use Rattle.std.specs.List.{list_all}
use Rattle.std.specs.Str.{bytes_eq}
use Rattle.std.proofs.lemmas.Int.{ints}
use lib.Dec.{T}
use Rattle.cpa_ints.specs.declared.integers.IntType.{IntType}
use Rattle.cpa_ints.specs.declared.integers.IntType.TheVariants as ty
use Rattle.cpa_ints.specs.Integers.{IsInRange, greatest, least}
use Rattle.c_grammar_forms.specs.Forms.{greedy_text}
use Rattle.c_lexer.specs.declared.token.Token.{Token}
use Rattle.c_lexer.specs.declared.token.TokenKind.{TokenKind}
use Rattle.c_lexer.specs.declared.token.TokenKind.TheVariants as kind
use Rattle.c_grammar_symbols.specs.declared.symbol.Symbol.{Symbol}
use Rattle.c_grammar_symbols.specs.declared.symbol.Symbol.TheVariants as symbol
use Rattle.c_grammar_symbols.specs.declared.symbol.TheConstants.{MARKS, WORDS}
use Rattle.c_grammar_symbols.specs.Symbols.{leaf_of, leaves, mark_spelled, spelling_of, symbol_of}
use Rattle.c_grammar_symbols.specs.Symbols.{symbol_spelled, word_spelled}
use Rattle.c_grammar_symbols.specs.Sources.{leaf_at}
use Rattle.c_grammar_tree.specs.declared.TheConstants.{MAX_LEVEL}
use Rattle.c_grammar_tree.specs.declared.item.Unit.{Unit as UnitTree}
use Rattle.c_grammar_tree.specs.Grammar.{Tree}
use Rattle.c_core_sound.specs.Whole.{IsWhole, has_value}
use Rattle.c_core_sound.proofs.ReadExpressions.{and_left, and_right}
use Rattle.c_core_sound.proofs.WholeForms.{both}
use Rattle.c_core_sound.proofs.WholeTexts.{Fine, w_unit_items}

-- a constant of a word or a mark is none

abbrev is_plain : Symbol → Bool
is_plain (symbol.Number t n) = false
is_plain (symbol.Character n) = false
is_plain _ = true

plain_fine : (s : Symbol) → is_plain s ≡ true → Fine s
plain_fine (symbol.Number t n) e = absurd (let clash : false ≡ true = e in cc)
plain_fine (symbol.Character n) e = absurd (let clash : false ≡ true = e in cc)
plain_fine _ e = tt

picked : (b : Bool) (x : Symbol) (o : Option Symbol) (d : Symbol) → is_plain x ≡ true →
    is_plain (unwrap_or o d) ≡ true → is_plain (unwrap_or (cond b (Some x) o) d) ≡ true
picked true x o d here there = here
picked false x o d here there = there

found_plain : (test : Symbol → Bool) (xs : List Symbol) (d : Symbol) →
    list_all is_plain xs ≡ true → is_plain d ≡ true →
    is_plain (unwrap_or (find test xs) d) ≡ true
found_plain test [] d all here = here
found_plain test (x ∷ xs) d all here =
    let rest = list_all is_plain xs in
    picked (test x) x (find test xs) d (and_left (is_plain x) rest all)
    (found_plain test xs d (and_right (is_plain x) rest all) here)

-- a constant of a number or a character has a value of its type

true_of : (b : Bool) → T b → b ≡ true
true_of true h = refl
true_of false h = absurd h

in_order : (a b : ℤ) → a ≤ℤ b → int_le a b ≡ true
in_order a b h = true_of (int_le a b) h.le

value_of : (t : IntType) (n : ℤ) → IsInRange t n → has_value t n ≡ true
value_of t n r = both (in_order (least t) n r.0) (in_order n (greatest t) r.1)

char_in_int : (n : ℤ) → IsInRange ty.I8 n → IsInRange ty.I32 n
char_in_int n r = (omega (arith, ints, r.0), omega (arith, ints, r.1))

spelled_fine : (k : TokenKind) (bytes : List ℕ) →
    ((t : IntType) (n : ℤ) → k ≡ kind.Number t n → IsInRange t n) →
    ((n : ℤ) → k ≡ kind.Character n → IsInRange ty.I8 n) → Fine (symbol_spelled k bytes)
unfolding word_spelled mark_spelled
spelled_fine kind.Word bytes number character =
    plain_fine (symbol_spelled kind.Word bytes)
    (found_plain (λ s. bytes_eq (spelling_of s) bytes) WORDS symbol.Name refl refl)
spelled_fine (kind.Number t n) bytes number character = value_of t n (number t n refl)
spelled_fine (kind.Character n) bytes number character =
    value_of ty.I32 n (char_in_int n (character n refl))
spelled_fine kind.Text bytes number character = tt
spelled_fine kind.Mark bytes number character =
    plain_fine (symbol_spelled kind.Mark bytes)
    (found_plain (λ s. bytes_eq (spelling_of s) bytes) MARKS symbol.Text refl refl)
spelled_fine kind.End bytes number character = tt

leaves_fine : (text : List ℕ) (tokens : List Token) →
    ((i : ℕ) (token : Token) → slice_get tokens i ≡ Some token →
    Fine (symbol_of (leaf_of text token))) → (p : ℕ) →
    Fine (symbol_of (leaf_at (leaves text tokens) p))
leaves_fine text [] h zero = tt
leaves_fine text [] h (suc p) = tt
leaves_fine text (token ∷ tokens) h zero = h 0 token refl
leaves_fine text (token ∷ tokens) h (suc p) =
    leaves_fine text tokens (λ i one at. h (suc i) one at) p

pub text_whole : (text : List ℕ) (tokens : List Token) (tree : UnitTree) →
    ((i : ℕ) (token : Token) → slice_get tokens i ≡ Some token → (t : IntType) (n : ℤ) →
    token.kind ≡ kind.Number t n → IsInRange t n) →
    ((i : ℕ) (token : Token) → slice_get tokens i ≡ Some token → (n : ℤ) →
    token.kind ≡ kind.Character n → IsInRange ty.I8 n) →
    Tree text tokens tree → IsWhole tree
text_whole text tokens tree number character t =
    let fine = leaves_fine text tokens (λ i token at.
    spelled_fine token.kind (leaf_of text token).bytes (number i token at) (character i token at))
    in
    (w_unit_items {w = greedy_text (leaf_at (leaves text tokens)) 0} fine
    (MAX_LEVEL - 1)).has (t.reading 0)
