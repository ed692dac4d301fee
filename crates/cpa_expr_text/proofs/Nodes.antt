-- An expression whose numbers fit is the node that its own words name, over the expressions whose
-- words follow, and so its words are of one expression alone.
use Rattle.std.proofs.Common.{◌≡◌, ℕ, zero, suc, ◌+◌, ◌<◌, ◌≤◌, ◌^◌, ℤ, pos, negsuc, List, [], ◌∷◌}
use Rattle.std.proofs.Common.{◌++◌, length}
use Rattle.std.proofs.Common.{refl, sym, ap, ◌∙◌, subst, arith, decimal}
use Rattle.std.specs.Prelude.{FitsSigned, Option, Some, None, ◌==◌}
use Rattle.std.specs.Fmt.{signed_decimal}
use Rattle.std.specs.Int.{w128}
use Rattle.std.specs.List.{AllByRecursion, slice_split}
use Rattle.std.specs.Str.Parse.{AllDigits, digits_value}
use Rattle.std.proofs.lemmas.Fmt.{decimal_is_IsNumeral_wide}
use Rattle.std.proofs.lemmas.Str.Parse.{digit_from_value}
use Rattle.cpa_ints.specs.declared.integers.IntType.{IntType}
use Rattle.cpa_ints.specs.declared.integers.IntType.TheVariants as ty
use Rattle.cpa_expr.specs.declared.tree.Expr.{Expr}
use Rattle.cpa_expr.specs.declared.tree.Expr.TheOpen.{Expr-F}
use Rattle.cpa_expr.specs.declared.tree.Expr.TheVariants.{Const, Cond, rolls-Const, rolls-Read}
use Rattle.cpa_expr.specs.declared.tree.Expr.TheVariants.{rolls-Un, rolls-Bin, rolls-Cmp}
use Rattle.cpa_expr.specs.declared.tree.Expr.TheVariants.{rolls-Cast, rolls-And, rolls-Or}
use Rattle.cpa_expr.specs.declared.tree.Expr.TheVariants.{rolls-Not, rolls-Cond}
use Rattle.cpa_expr.specs.Shape.{height}
use Rattle.cpa_expr.specs.Spelling.{expr_text}
use Rattle.cpa_expr.specs.Words.{type_word}
use Rattle.cpa_expr_text.specs.Due.{parts_of, words_of}
use Rattle.cpa_expr_text.specs.Kinds.{kind_word, kind_spelled, type_spelled, kind_of}
use Rattle.cpa_expr_text.specs.Kinds.{further_onto, head_onto, FitsHead}
use Rattle.cpa_expr_text.specs.Laws.{TextIsOfOne}
use Rattle.cpa_expr_text.specs.Reading.{Word, words_onto, one_of, two_of, Fits}
use Rattle.cpa_expr_text.specs.declared.heads.Head.{Head}
use Rattle.cpa_expr_text.specs.declared.heads.Head.TheVariants as head
use Rattle.cpa_expr_text.specs.declared.heads.One.{One}
use Rattle.cpa_expr_text.specs.declared.heads.One.TheVariants as one
use Rattle.cpa_expr_text.specs.declared.heads.Two.{Two}
use Rattle.cpa_expr_text.specs.declared.heads.Two.TheVariants as two
use Rattle.cpa_expr_text.specs.declared.kinds.Kind.{Kind}
use Rattle.cpa_expr_text.specs.declared.kinds.Kind.TheVariants as kind
use Rattle.cpa_expr_text.proofs.Arms.{some_level}
use Rattle.cpa_expr_text.proofs.Behind.{const_behind, read_behind, unary_behind, binary_behind}
use Rattle.cpa_expr_text.proofs.Behind.{comparison_behind, cast_behind, choice_behind}
use Rattle.cpa_expr_text.proofs.Cuts.{cut_text}
use Rattle.cpa_expr_text.proofs.Forms.{leaf, one_part, two_parts, three_parts, form_of}
use Rattle.cpa_expr_text.proofs.Forms.{words_rolled}
use Rattle.cpa_expr_text.proofs.Tables.{known_kind, known_type}

-- ---- the words of a node

pub leaf_words : (t : IntType) (n : ℤ) (ws : List Word)
    → words_onto (Const t n) ws ≡ head_onto (head.Leaf t n) ws
leaf_words t n ws =
    ap (λ e. words_onto e ws) (sym (rolls-Const t n)) ∙ words_rolled (Expr-F.Const t n) ws

pub one_words : (h : One) (a : Expr) (ws : List Word)
    → words_onto (one_of h a) ws ≡ head_onto (head.One h) (words_onto a ws)
one_words (one.Read t base len) a ws =
    ap (λ e. words_onto e ws) (sym (rolls-Read t base len a))
    ∙ words_rolled (Expr-F.Read t base len a) ws
one_words (one.Un o t) a ws =
    ap (λ e. words_onto e ws) (sym (rolls-Un o t a)) ∙ words_rolled (Expr-F.Un o t a) ws
one_words (one.Cast t) a ws =
    ap (λ e. words_onto e ws) (sym (rolls-Cast t a)) ∙ words_rolled (Expr-F.Cast t a) ws
one_words one.Not a ws =
    ap (λ e. words_onto e ws) (sym (rolls-Not a)) ∙ words_rolled (Expr-F.Not a) ws

pub two_words : (h : Two) (a b : Expr) (ws : List Word)
    → words_onto (two_of h a b) ws ≡ head_onto (head.Two h) (words_onto a (words_onto b ws))
two_words (two.Bin o t) a b ws =
    ap (λ e. words_onto e ws) (sym (rolls-Bin o t a b)) ∙ words_rolled (Expr-F.Bin o t a b) ws
two_words (two.Cmp o t) a b ws =
    ap (λ e. words_onto e ws) (sym (rolls-Cmp o t a b)) ∙ words_rolled (Expr-F.Cmp o t a b) ws
two_words two.Both a b ws =
    ap (λ e. words_onto e ws) (sym (rolls-And a b)) ∙ words_rolled (Expr-F.And a b) ws
two_words two.Either a b ws =
    ap (λ e. words_onto e ws) (sym (rolls-Or a b)) ∙ words_rolled (Expr-F.Or a b) ws

pub three_words : (t : IntType) (a b d : Expr) (ws : List Word) → words_onto (Cond t a b d) ws
    ≡ head_onto (head.Three t) (words_onto a (words_onto b (words_onto d ws)))
three_words t a b d ws =
    ap (λ e. words_onto e ws) (sym (rolls-Cond t a b d)) ∙ words_rolled (Expr-F.Cond t a b d) ws

-- ---- a node by its own words and its parts

-- the node over these parts; where they are too few, any expression
abbrev built : Head → List Expr → Expr
built (head.Leaf t n) es = Const t n
built (head.One h) [] = Const ty.Bool (pos 0)
built (head.One h) (a ∷ es) = one_of h a
built (head.Two h) [] = Const ty.Bool (pos 0)
built (head.Two h) (a ∷ []) = Const ty.Bool (pos 0)
built (head.Two h) (a ∷ b ∷ es) = two_of h a b
built (head.Three t) [] = Const ty.Bool (pos 0)
built (head.Three t) (a ∷ []) = Const ty.Bool (pos 0)
built (head.Three t) (a ∷ b ∷ []) = Const ty.Bool (pos 0)
built (head.Three t) (a ∷ b ∷ d ∷ es) = Cond t a b d

pub record IsNode (e : Expr) (h : Head) (es : List Expr) : Type 0 where
  pub same : built h es ≡ e
  pub many : length es ≡ parts_of h
  pub small : FitsHead h
  pub fit : AllByRecursion Fits es
  pub low : AllByRecursion (λ a. height a < height e) es
  pub words : (ws : List Word) → words_onto e ws ≡ head_onto h (words_of es ws)

pub node_of : (e : Expr) → Fits e → (h : Head) × (es : List Expr) × IsNode e h es
node_of e fit = elim (form_of e fit) [
  | leaf t n same k w some ↦ (
    head.Leaf t n,
    [],
    record { same = same; many = refl; small = k; fit = tt; low = tt; words = w },
  )
  | one_part h a same k fa w low ↦ (
    head.One h,
    a ∷ [],
    record { same = same; many = refl; small = k; fit = (fa, tt); low = (low, tt); words = w },
  )
  | two_parts h a b same fa fb w low below ↦ (
    head.Two h,
    a ∷ b ∷ [],
    record {
      same = same;
      many = refl;
      small = tt;
      fit = (fa, (fb, tt));
      low = (low, (below, tt));
      words = w;
    },
  )
  | three_parts t a b d same fa fb fd w low below beneath ↦ (
    head.Three t,
    a ∷ b ∷ d ∷ [],
    record {
      same = same;
      many = refl;
      small = tt;
      fit = (fa, (fb, (fd, tt)));
      low = (low, (below, (beneath, tt)));
      words = w;
    },
  )
]

-- ---- words are of one node

decimals_same : (m n : ℕ) → m < 10 ^ 64 → n < 10 ^ 64 → decimal m ≡ decimal n → m ≡ n
decimals_same m n low small is =
    sym (decimal_is_IsNumeral_wide m low).1 ∙ ap (digits_value 10) is
    ∙ (decimal_is_IsNumeral_wide n small).1

decimal_first : (n : ℕ) (ds : List ℕ) → n < 10 ^ 64 → decimal n ≡ 45 ∷ ds → ⊥
decimal_first n ds low is =
    let digits = subst (AllDigits 10) is (decimal_is_IsNumeral_wide n low).0.1 in
    omega (arith, digit_from_value 45 digits.0)

integers_same : (y z : ℤ) → FitsSigned w128 y → FitsSigned w128 z
    → signed_decimal y ≡ signed_decimal z → y ≡ z
integers_same (pos m) (pos n) low small is =
    ap pos (decimals_same m n (omega (arith, low.sfits)) (omega (arith, small.sfits)) is)
integers_same (pos m) (negsuc n) low small is =
    absurd (decimal_first m (decimal (suc n)) (omega (arith, low.sfits)) is)
integers_same (negsuc m) (pos n) low small is =
    absurd (decimal_first n (decimal (suc m)) (omega (arith, small.sfits)) (sym is))
integers_same (negsuc m) (negsuc n) low small is =
    let digits : decimal (suc m) ≡ decimal (suc n) = cc in
    let more =
    decimals_same (suc m) (suc n) (omega (arith, low.sfits)) (omega (arith, small.sfits)) digits in
    let same : m ≡ n = omega (arith, more) in
    ap negsuc same

types_same : (t u : IntType) → type_word t ≡ type_word u → t ≡ u
types_same t u is =
    let found = sym (known_type t) ∙ ap type_spelled is ∙ known_type u in
    cc

kinds_same : (h k : Head) → kind_word (kind_of h) ≡ kind_word (kind_of k) → kind_of h ≡ kind_of k
kinds_same h k is =
    let found = sym (known_kind (kind_of h)) ∙ ap kind_spelled is ∙ known_kind (kind_of k) in
    cc

-- the node of a kind whose words have no type behind the first
abbrev bare_of : Kind → Option Head
bare_of kind.Const = None
bare_of kind.Read = None
bare_of (kind.Un o) = None
bare_of (kind.Bin o) = None
bare_of (kind.Cmp o) = None
bare_of kind.Cast = None
bare_of kind.Both = Some (head.Two two.Both)
bare_of kind.Either = Some (head.Two two.Either)
bare_of kind.Not = Some (head.One one.Not)
bare_of kind.Cond = None

bare : (k h : Head) (ws : List Word) → bare_of (kind_of k) ≡ Some h
    → (h ≡ k) × (further_onto k ws ≡ ws)
bare (head.Leaf t n) h ws is = absurd (cc)
bare (head.One (one.Read t base len)) h ws is = absurd (cc)
bare (head.One (one.Un o t)) h ws is = absurd (cc)
bare (head.One (one.Cast t)) h ws is = absurd (cc)
bare (head.One one.Not) h ws is = (cc, refl)
bare (head.Two (two.Bin o t)) h ws is = absurd (cc)
bare (head.Two (two.Cmp o t)) h ws is = absurd (cc)
bare (head.Two two.Both) h ws is = (cc, refl)
bare (head.Two two.Either) h ws is = (cc, refl)
bare (head.Three t) h ws is = absurd (cc)

further_same : (h k : Head) (us ws : List Word) → FitsHead h → FitsHead k → kind_of h ≡ kind_of k
    → further_onto h us ≡ further_onto k ws → (h ≡ k) × (us ≡ ws)
further_same (head.Leaf t n) k us ws small low kinds is =
    const_behind (further_onto (head.Leaf t n) us) ws
    (λ k. (head.Leaf t n ≡ k) × (us ≡ ws)) (λ u m fits words.
    let types : type_word t ≡ type_word u = cc in
    let numbers : signed_decimal n ≡ signed_decimal m = cc in (
      ap (λ x. head.Leaf x n) (types_same t u types)
          ∙ ap (head.Leaf u) (integers_same n m small fits numbers),
      cc,
    )) k kinds low is
further_same (head.One (one.Read t base len)) k us ws small low kinds is =
    read_behind (further_onto (head.One (one.Read t base len)) us) ws
    (λ k. (head.One (one.Read t base len) ≡ k) × (us ≡ ws)) (λ u first many few less words.
    let types : type_word t ≡ type_word u = cc in
    let bases : decimal base ≡ decimal first = cc in
    let lens : decimal len ≡ decimal many = cc in (
      ap (λ x. head.One (one.Read x base len)) (types_same t u types)
          ∙ ap (λ x. head.One (one.Read u x len))
          (decimals_same base first (omega (arith, small.0)) (omega (arith, few)) bases)
          ∙ ap (λ x. head.One (one.Read u first x))
          (decimals_same len many (omega (arith, small.1)) (omega (arith, less)) lens),
      cc,
    )) k kinds low is
further_same (head.One (one.Un o t)) k us ws small low kinds is =
    unary_behind o (type_word t ∷ us) ws (λ k. (head.One (one.Un o t) ≡ k) × (us ≡ ws))
    (λ u words.
    let types : type_word t ≡ type_word u = cc in
    (ap (λ x. head.One (one.Un o x)) (types_same t u types), cc)) k kinds is
further_same (head.One (one.Cast t)) k us ws small low kinds is =
    cast_behind (type_word t ∷ us) ws (λ k. (head.One (one.Cast t) ≡ k) × (us ≡ ws))
    (λ u words.
    let types : type_word t ≡ type_word u = cc in
    (ap (λ x. head.One (one.Cast x)) (types_same t u types), cc)) k kinds is
further_same (head.One one.Not) k us ws small low kinds is =
    let b = bare k (head.One one.Not) ws (ap bare_of (sym kinds)) in (b.0, is ∙ b.1)
further_same (head.Two (two.Bin o t)) k us ws small low kinds is =
    binary_behind o (type_word t ∷ us) ws (λ k. (head.Two (two.Bin o t) ≡ k) × (us ≡ ws))
    (λ u words.
    let types : type_word t ≡ type_word u = cc in
    (ap (λ x. head.Two (two.Bin o x)) (types_same t u types), cc)) k kinds is
further_same (head.Two (two.Cmp o t)) k us ws small low kinds is =
    comparison_behind o (type_word t ∷ us) ws (λ k. (head.Two (two.Cmp o t) ≡ k) × (us ≡ ws))
    (λ u words.
    let types : type_word t ≡ type_word u = cc in
    (ap (λ x. head.Two (two.Cmp o x)) (types_same t u types), cc)) k kinds is
further_same (head.Two two.Both) k us ws small low kinds is =
    let b = bare k (head.Two two.Both) ws (ap bare_of (sym kinds)) in (b.0, is ∙ b.1)
further_same (head.Two two.Either) k us ws small low kinds is =
    let b = bare k (head.Two two.Either) ws (ap bare_of (sym kinds)) in (b.0, is ∙ b.1)
further_same (head.Three t) k us ws small low kinds is =
    choice_behind (type_word t ∷ us) ws (λ k. (head.Three t ≡ k) × (us ≡ ws))
    (λ u words.
    let types : type_word t ≡ type_word u = cc in
    (ap (λ x. head.Three x) (types_same t u types), cc)) k kinds is

pub heads_same : (h k : Head) (us ws : List Word) → FitsHead h → FitsHead k
    → head_onto h us ≡ head_onto k ws → (h ≡ k) × (us ≡ ws)
heads_same h k us ws small low is =
    let first : kind_word (kind_of h) ≡ kind_word (kind_of k) = cc in
    further_same h k us ws small low (kinds_same h k first) (cc)

-- ---- and of one expression

abbrev SameUpTo : ℕ → Type 0
SameUpTo n = (a b : Expr) (us ws : List Word) → height a ≤ n → Fits a → Fits b
    → words_onto a us ≡ words_onto b ws → (a ≡ b) × (us ≡ ws)

lists_same : (n most : ℕ) → SameUpTo n → most ≤ suc n → (es fs : List Expr) (us ws : List Word)
    → length es ≡ length fs → AllByRecursion (λ a. height a < most) es
    → AllByRecursion Fits es → AllByRecursion Fits fs
    → words_of es us ≡ words_of fs ws → (es ≡ fs) × (us ≡ ws)
lists_same n most same below [] [] us ws long low fe ff is = (refl, is)
lists_same n most same below [] (f ∷ fs) us ws long low fe ff is = absurd (omega arith)
lists_same n most same below (e ∷ es) [] us ws long low fe ff is = absurd (omega arith)
lists_same n most same below (e ∷ es) (f ∷ fs) us ws long low fe ff is =
    let here = same e f (words_of es us) (words_of fs ws) (omega (arith, low.0)) fe.0 ff.0 is in
    let rest =
    lists_same n most same below es fs us ws (omega arith) low.1 fe.1 ff.1 here.1 in
    (ap (λ x. x ∷ es) here.0 ∙ ap (λ xs. f ∷ xs) rest.0, rest.1)

same_up_to : (n : ℕ) → SameUpTo n
same_up_to zero a b us ws low fa fb is = absurd (omega (arith, some_level a fa))
same_up_to (suc n) a b us ws low fa fb is =
    let p = node_of a fa in
    let q = node_of b fb in
    let heads =
    heads_same p.0 q.0 (words_of p.1 us) (words_of q.1 ws) p.2.small q.2.small
    (sym (p.2.words us) ∙ is ∙ q.2.words ws) in
    let lists =
    lists_same n (height a) (same_up_to n) low p.1 q.1 us ws
    (p.2.many ∙ ap parts_of heads.0 ∙ sym q.2.many) p.2.low p.2.fit q.2.fit heads.1 in (
      sym p.2.same ∙ ap (λ h. built h p.1) heads.0 ∙ ap (built q.0) lists.0 ∙ q.2.same,
      lists.1,
    )

pub one_expression : TextIsOfOne
one_expression a b fa fb is =
    (same_up_to (height a) a b [] [] (omega arith) fa fb
    (sym (cut_text a fa) ∙ ap (slice_split (λ b. b == 32)) is ∙ cut_text b fb)).0
