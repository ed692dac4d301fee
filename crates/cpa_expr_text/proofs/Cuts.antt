-- The text of an expression, cut at its spaces, is the words of the expression.
use Rattle.std.proofs.Common.{◌≡◌, ℕ, suc, ◌<◌, ◌^◌, ℤ, pos, negsuc, Bool, true, false, cond}
use Rattle.std.proofs.Common.{List, []}
use Rattle.std.proofs.Common.{◌∷◌, ◌++◌, map, Option, Some, None, refl, sym, ap, ◌∙◌, append_assoc}
use Rattle.std.proofs.Common.{append-nil, arith, decimal}
use Rattle.std.specs.Prelude.{codes, FitsSigned, ◌==◌}
use Rattle.std.specs.Fmt.{signed_decimal}
use Rattle.std.specs.Int.{w128}
use Rattle.std.specs.List.{AllByRecursion, flat_map, slice_split, onto_first}
use Rattle.std.specs.Str.Parse.{AllDigits}
use Rattle.std.proofs.lemmas.Bool.{ne_eqb}
use Rattle.std.proofs.lemmas.Fmt.{decimal_is_IsNumeral_wide}
use Rattle.std.proofs.lemmas.Str.Parse.{digit_from_value}
use Rattle.cpa_ints.specs.declared.integers.IntType.{IntType}
use Rattle.cpa_ints.specs.declared.integers.IntType.TheVariants as ty
use Rattle.cpa_expr.specs.declared.tree.UnOp.{UnOp}
use Rattle.cpa_expr.specs.declared.tree.UnOp.TheVariants as un
use Rattle.cpa_expr.specs.declared.tree.BinOp.{BinOp}
use Rattle.cpa_expr.specs.declared.tree.BinOp.TheVariants as bin
use Rattle.cpa_expr.specs.declared.tree.CmpOp.{CmpOp}
use Rattle.cpa_expr.specs.declared.tree.CmpOp.TheVariants as cmp
use Rattle.cpa_expr.specs.declared.tree.Expr.{Expr, roll-Expr}
use Rattle.cpa_expr.specs.declared.tree.Expr.TheOpen.{Expr-F}
use Rattle.cpa_expr.specs.declared.tree.Expr.TheFolds.{map-Expr, fold-roll-Expr}
use Rattle.cpa_expr.specs.Shape.{OfParts}
use Rattle.cpa_expr.specs.Spelling.{text_step, expr_text}
use Rattle.cpa_expr.specs.Words.{type_word, un_word, bin_word, cmp_word}
use Rattle.cpa_expr.specs.lemmas.Parts.{every_rolled, by_parts}
use Rattle.cpa_expr_text.specs.Reading.{Word, words_step, words_onto, FitsHere, Fits}
use Rattle.cpa_expr_text.proofs.Forms.{words_rolled}

abbrev cut : List ℕ → List Word
cut = slice_split (λ b. b == 32)

-- no byte is a space
abbrev lacks : List ℕ → Bool
lacks [] = true
lacks (b ∷ bs) = cond (b == 32) false (lacks bs)

both_parts : (c d : Bool) → cond c false d ≡ true → (c ≡ false) × (d ≡ true)
both_parts true d h = absurd (cc)
both_parts false d h = (refl, h)

-- what stands behind a word: nothing, or a space and more
abbrev behind : Option (List ℕ) → List ℕ
behind None = []
behind (Some bs) = 32 ∷ bs

abbrev words_behind : Option (List ℕ) → List Word
words_behind None = []
words_behind (Some bs) = cut bs

one_word : (w : Word) (o : Option (List ℕ)) → lacks w ≡ true
    → cut (w ++ behind o) ≡ w ∷ words_behind o
one_word [] None h = refl
one_word [] (Some bs) h = refl
one_word (b ∷ w) o h =
    let k = both_parts (b == 32) (lacks w) h in
    ap (λ t. cond t ([] ∷ cut (w ++ behind o)) (onto_first b (cut (w ++ behind o)))) k.0
    ∙ ap (onto_first b) (one_word w o k.1)

-- the front of a text gives these words
abbrev Gives : List ℕ → (List Word → List Word) → Type 0
Gives front ws = (o : Option (List ℕ)) → cut (front ++ behind o) ≡ ws (words_behind o)

first : (w : Word) → lacks w ≡ true → Gives w (λ ws. w ∷ ws)
first w h o = one_word w o h

further : (front : List ℕ) (ws : List Word → List Word) → Gives front ws → (w : Word)
    → lacks w ≡ true → Gives ((front ++ codes " ") ++ w) (λ us. ws (w ∷ us))
further front ws h w l o =
    ap cut (append_assoc (front ++ codes " ") w (behind o)
    ∙ append_assoc front (codes " ") (w ++ behind o))
    ∙ h (Some (w ++ behind o)) ∙ ap ws (one_word w o l)

-- ---- the words of nodes

digits_lack : (ds : List ℕ) → AllDigits 10 ds → lacks ds ≡ true
digits_lack [] d = refl
digits_lack (c ∷ cs) d =
    ap (λ t. cond t false (lacks cs)) (ne_eqb c 32 (λ e. omega (arith, digit_from_value c d.0)))
    ∙ digits_lack cs d.1

decimal_lacks : (n : ℕ) → n < 10 ^ 64 → lacks (decimal n) ≡ true
decimal_lacks n h = digits_lack (decimal n) (decimal_is_IsNumeral_wide n h).0.1

signed_lacks : (z : ℤ) → FitsSigned w128 z → lacks (signed_decimal z) ≡ true
signed_lacks (pos n) h = decimal_lacks n (omega (arith, h.sfits))
signed_lacks (negsuc n) h = decimal_lacks (suc n) (omega (arith, h.sfits))

type_lacks : (t : IntType) → lacks (type_word t) ≡ true
type_lacks ty.Bool = refl
type_lacks ty.I8 = refl
type_lacks ty.U8 = refl
type_lacks ty.I16 = refl
type_lacks ty.U16 = refl
type_lacks ty.I32 = refl
type_lacks ty.U32 = refl
type_lacks ty.I64 = refl
type_lacks ty.U64 = refl

un_lacks : (o : UnOp) → lacks (un_word o) ≡ true
un_lacks un.Neg = refl
un_lacks un.Flip = refl

bin_lacks : (o : BinOp) → lacks (bin_word o) ≡ true
bin_lacks bin.Add = refl
bin_lacks bin.Sub = refl
bin_lacks bin.Mul = refl
bin_lacks bin.Div = refl
bin_lacks bin.Rem = refl
bin_lacks bin.BitAnd = refl
bin_lacks bin.BitOr = refl
bin_lacks bin.BitXor = refl
bin_lacks bin.Shl = refl
bin_lacks bin.Shr = refl

cmp_lacks : (o : CmpOp) → lacks (cmp_word o) ≡ true
cmp_lacks cmp.Eq = refl
cmp_lacks cmp.Ne = refl
cmp_lacks cmp.Lt = refl
cmp_lacks cmp.Le = refl
cmp_lacks cmp.Gt = refl
cmp_lacks cmp.Ge = refl

-- a word and a type
typed : (w : Word) → lacks w ≡ true → (t : IntType)
    → Gives ((w ++ codes " ") ++ type_word t) (λ us. w ∷ type_word t ∷ us)
typed w l t = further w (λ us. w ∷ us) (first w l) (type_word t) (type_lacks t)

-- ---- expressions

-- the text of the expression gives its words
abbrev Cuts : Expr → Type 0
Cuts e = Gives (expr_text e) (words_onto e)

-- what stands behind a node's own words
abbrev next : List Expr → Option (List ℕ) → Option (List ℕ)
next [] o = o
next (e ∷ es) o = Some (expr_text e ++ behind (next es o))

abbrev words_of : List Expr → List Word → List Word
words_of [] ws = ws
words_of (e ∷ es) ws = words_onto e (words_of es ws)

abbrev parts_text : List (List ℕ) → List ℕ
parts_text = flat_map (λ part. codes " " ++ part)

next_text : (es : List Expr) (o : Option (List ℕ))
    → parts_text (map expr_text es) ++ behind o ≡ behind (next es o)
next_text [] o = refl
next_text (e ∷ es) o =
    append_assoc (32 ∷ expr_text e) (parts_text (map expr_text es)) (behind o)
    ∙ ap (λ s. 32 ∷ (expr_text e ++ s)) (next_text es o)

next_words : (es : List Expr) → AllByRecursion Cuts es → (o : Option (List ℕ))
    → words_behind (next es o) ≡ words_of es (words_behind o)
next_words [] h o = refl
next_words (e ∷ es) h o = h.0 (next es o) ∙ ap (words_onto e) (next_words es h.1 o)

node : (x : Expr-F Expr) (es : List Expr) (front : List ℕ) (ws : List Word → List Word)
    → text_step (map-Expr Expr (List ℕ) expr_text x) ≡ front ++ parts_text (map expr_text es)
    → ((us : List Word) → words_step (map-Expr Expr (List Word → List Word) words_onto x) us
    ≡ ws (words_of es us))
    → Gives front ws → AllByRecursion Cuts es → Cuts (roll-Expr x)
node x es front ws text words gives h o =
    ap (λ s. cut (s ++ behind o)) (fold-roll-Expr (List ℕ) text_step x ∙ text)
    ∙ ap cut (append_assoc front (parts_text (map expr_text es)) (behind o)
    ∙ ap (λ s. front ++ s) (next_text es o))
    ∙ gives (next es o) ∙ ap ws (next_words es h o)
    ∙ sym (words_rolled x (words_behind o) ∙ words (words_behind o))

abbrev FitCuts : Expr → Type 0
FitCuts e = Fits e → Cuts e

of_layer : (x : Expr-F Expr) → OfParts FitCuts x → FitCuts (roll-Expr x)
of_layer (Expr-F.Const t n) h fit =
    let x : Expr-F Expr = Expr-F.Const t n in
    let k = every_rolled FitsHere x fit in
    node x [] (((codes "const" ++ codes " ") ++ type_word t) ++ codes " " ++ signed_decimal n)
    (λ us. codes "const" ∷ type_word t ∷ signed_decimal n ∷ us)
    refl (λ us. refl)
    (further ((codes "const" ++ codes " ") ++ type_word t)
    (λ us. codes "const" ∷ type_word t ∷ us) (typed (codes "const") refl t)
    (signed_decimal n) (signed_lacks n k.0)) tt
of_layer (Expr-F.Read t base len a) h fit =
    let x : Expr-F Expr = Expr-F.Read t base len a in
    let k = every_rolled FitsHere x fit in
    node x (a ∷ []) ((((((codes "read" ++ codes " ") ++ type_word t) ++ codes " ") ++ decimal base)
    ++ codes " ") ++ decimal len)
    (λ us. codes "read" ∷ type_word t ∷ decimal base ∷ decimal len ∷ us) refl (λ us. refl)
    (further ((((codes "read" ++ codes " ") ++ type_word t) ++ codes " ") ++ decimal base)
    (λ us. codes "read" ∷ type_word t ∷ decimal base ∷ us)
    (further ((codes "read" ++ codes " ") ++ type_word t)
    (λ us. codes "read" ∷ type_word t ∷ us) (typed (codes "read") refl t)
    (decimal base) (decimal_lacks base (omega (arith, (k.0).0))))
    (decimal len) (decimal_lacks len (omega (arith, (k.0).1)))) (h.0 (k.1).0, tt)
of_layer (Expr-F.Un o t a) h fit =
    let x : Expr-F Expr = Expr-F.Un o t a in
    let k = every_rolled FitsHere x fit in
    node x (a ∷ []) ((un_word o ++ codes " ") ++ type_word t)
    (λ us. un_word o ∷ type_word t ∷ us) refl (λ us. refl)
    (typed (un_word o) (un_lacks o) t) (h.0 (k.1).0, tt)
of_layer (Expr-F.Bin o t a b) h fit =
    let x : Expr-F Expr = Expr-F.Bin o t a b in
    let k = every_rolled FitsHere x fit in
    node x (a ∷ b ∷ []) ((bin_word o ++ codes " ") ++ type_word t)
    (λ us. bin_word o ∷ type_word t ∷ us) refl (λ us. refl)
    (typed (bin_word o) (bin_lacks o) t)
    (h.0 (k.1).0, ((h.1).0 ((k.1).1).0, tt))
of_layer (Expr-F.Cmp o t a b) h fit =
    let x : Expr-F Expr = Expr-F.Cmp o t a b in
    let k = every_rolled FitsHere x fit in
    node x (a ∷ b ∷ []) ((cmp_word o ++ codes " ") ++ type_word t)
    (λ us. cmp_word o ∷ type_word t ∷ us) refl (λ us. refl)
    (typed (cmp_word o) (cmp_lacks o) t)
    (h.0 (k.1).0, ((h.1).0 ((k.1).1).0, tt))
of_layer (Expr-F.Cast t a) h fit =
    let x : Expr-F Expr = Expr-F.Cast t a in
    let k = every_rolled FitsHere x fit in
    node x (a ∷ []) ((codes "cast" ++ codes " ") ++ type_word t)
    (λ us. codes "cast" ∷ type_word t ∷ us) refl (λ us. refl)
    (typed (codes "cast") refl t) (h.0 (k.1).0, tt)
of_layer (Expr-F.And a b) h fit =
    let x : Expr-F Expr = Expr-F.And a b in
    let k = every_rolled FitsHere x fit in
    node x (a ∷ b ∷ []) (codes "both") (λ us. codes "both" ∷ us) refl (λ us. refl)
    (first (codes "both") refl) (h.0 (k.1).0, ((h.1).0 ((k.1).1).0, tt))
of_layer (Expr-F.Or a b) h fit =
    let x : Expr-F Expr = Expr-F.Or a b in
    let k = every_rolled FitsHere x fit in
    node x (a ∷ b ∷ []) (codes "either") (λ us. codes "either" ∷ us) refl (λ us. refl)
    (first (codes "either") refl) (h.0 (k.1).0, ((h.1).0 ((k.1).1).0, tt))
of_layer (Expr-F.Not a) h fit =
    let x : Expr-F Expr = Expr-F.Not a in
    let k = every_rolled FitsHere x fit in
    node x (a ∷ []) (codes "not") (λ us. codes "not" ∷ us) refl (λ us. refl)
    (first (codes "not") refl) (h.0 (k.1).0, tt)
of_layer (Expr-F.Cond t a b d) h fit =
    let x : Expr-F Expr = Expr-F.Cond t a b d in
    let k = every_rolled FitsHere x fit in
    node x (a ∷ b ∷ d ∷ []) ((codes "cond" ++ codes " ") ++ type_word t)
    (λ us. codes "cond" ∷ type_word t ∷ us) refl (λ us. refl)
    (typed (codes "cond") refl t)
    (h.0 (k.1).0, ((h.1).0 ((k.1).1).0, (((h.1).1).0 (((k.1).1).1).0, tt)))

pub cut_text : (e : Expr) → Fits e
    → slice_split (λ b. b == 32) (expr_text e) ≡ words_onto e []
cut_text e fit =
    ap cut (sym (append-nil (expr_text e))) ∙ by_parts FitCuts of_layer e fit None
