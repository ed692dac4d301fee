-- Specifiers that are read one by one.
use Rattle.std.specs.Prelude.{◌≡◌, ℕ, ◌+◌, ◌<◌, Bool, true, false, not, List, [], ◌∷◌, ◌++◌}
use Rattle.std.specs.Prelude.{length, Option, None, Some}
use Rattle.std.proofs.lemmas.Bool.{and_from, and_left, and_right}
use Rattle.std.proofs.Common.{sym, ◌∙◌, ap, subst, refl, arith, append_assoc}
use Rattle.std.proofs.lemmas.List.Elements.{filter_map-append}
use Rattle.c_grammar_forms.specs.declared.fault.ReadError.{ReadError}
use Rattle.c_grammar_forms.specs.declared.fault.ReadError.TheVariants.{Unexpected, TooDeep}
use Rattle.c_grammar_forms.specs.declared.fault.ReadError.TheVariants.{OutOfMemory}
use Rattle.c_grammar_forms.specs.Forms.{World, Form, Choice, Many}
use Rattle.c_grammar_forms.specs.lemmas.Steady.{Steady, good_choice}
use Rattle.c_grammar_forms.specs.Reading.{Reads, NoneThrough, Faults}
use Rattle.c_grammar_forms.specs.lemmas.Found.{reads_node, reads_one, reads_choice, reads_shaped}
use Rattle.c_grammar_forms.specs.lemmas.Loops.{SoFar, no_parts, one_more, no_more}
use Rattle.c_grammar_forms.specs.lemmas.Loops.{no_such_part}
use Rattle.c_grammar_symbols.specs.declared.words.Terminal.TheVariants as terminal
use Rattle.c_grammar_symbols.specs.declared.words.TypeWord.{TypeWord}
use Rattle.c_grammar_symbols.specs.declared.words.TypeWord.TheVariants as word
use Rattle.c_grammar_symbols.specs.declared.words.StorageWord.{StorageWord}
use Rattle.c_grammar_symbols.specs.declared.words.SpecifierWord.{SpecifierWord}
use Rattle.c_grammar_symbols.specs.declared.symbol.Symbol.{Symbol}
use Rattle.c_grammar_symbols.specs.declared.symbol.Symbol.TheVariants as symbol
use Rattle.c_grammar_symbols.specs.Symbols.{Leaf, symbol_of}
use Rattle.c_grammar_symbols.specs.Sources.{leaf_at}
use Rattle.c_grammar_tree.specs.declared.TheConstants.{MAX_LEVEL}
use Rattle.c_grammar_tree.specs.declared.declaration.Specifier.{Specifier}
use Rattle.c_grammar_tree.specs.declared.declaration.SpecifierKind.{SpecifierKind}
use Rattle.c_grammar_tree.specs.declared.declaration.SpecifierKind.TheVariants as kind
use Rattle.c_grammar_tree.specs.Parts.{is_part_of_type, type_word_of, type_words}
use Rattle.c_grammar_tree.specs.Parts.{types, have_part, is_keyword, is_no_type}
use Rattle.c_grammar_tree.specs.Declarations.{specifier_at, keywords, qualifiers}
use Rattle.c_grammar_tree.specs.lemmas.OneReadingOfText.{good_specifier_at}
use Rattle.c_grammar_tree.specs.lemmas.OneReadingOfText.{good_keywords}
use Rattle.c_parser_words.specs.declared.words.AllowedStorage.{AllowedStorage}
use Rattle.c_parser_words.specs.declared.words.AllowedStorage.TheVariants.{Any, Register}
use Rattle.c_parser_words.specs.declared.words.AllowedStorage.TheVariants.{InTypedef}
use Rattle.c_parser_words.specs.Storage.{goes_in, keeps_on, qualifies}
use Rattle.c_parser_words.specs.Steps.{words_in, AreGrown, IsRefused, IsKind, IsOnly, IsQualifier}
use Rattle.c_parser_words.specs.Steps.{kind_of}
use Rattle.c_parser_words.proofs.TypeParts.{no_part_longer}

abbrev pub any_specifier : Form Leaf Specifier
any_specifier = Choice symbol_of specifier_at

steady_specifier : Steady (λ n. any_specifier)
steady_specifier = record { good = λ n m. good_choice symbol_of good_specifier_at }

-- the words are read from p up to here, and these words of types among them are some of one type
pub record AreSpecifiers (allowed : AllowedStorage) (leaves : List Leaf) (p : ℕ)
    (words : List Specifier)
    (types : List TypeWord) (here : ℕ) : Type 0 where
  pub so_far : (left : ℕ) → SoFar (λ n. Many (is_keyword (goes_in allowed)) any_specifier)
      (is_keyword (goes_in allowed)) (λ n. any_specifier)
      (leaf_at leaves) (length leaves) left p words here
  pub kinds : types ≡ type_words words
  pub part : is_part_of_type types ≡ true
  pub within : here < length leaves

-- the specifier that a symbol is
reads_kind : {at : ℕ → Leaf} {size left p : ℕ} (s : Symbol) (k : SpecifierKind) →
    kind_of s ≡ Some k → p + 1 < size →
    Reads (λ n. specifier_at s) at size left p (record { kind = k; place = (at p).place }) (p + 1)
unfolding specifier_at
reads_kind {at} {p = p} (symbol.Storage w) k e fits =
    reads_node _ (let same : k ≡ kind.Storage w = cc in ap (λ t. record {
      kind = t;
      place = (at p).place;
    }) same) (reads_one fits)
reads_kind {at} {p = p} (symbol.Specifier w) k e fits =
    reads_node _ (let same : k ≡ kind.Other w = cc in ap (λ t. record {
      kind = t;
      place = (at p).place;
    }) same) (reads_one fits)
reads_kind {at} {p = p} (symbol.TypeWord w) k e fits =
    reads_node _ (let same : k ≡ kind.TypeWord w =
    cc in ap (λ t. record { kind = t; place = (at p).place }) same) (reads_one fits)
reads_kind _ k e fits = let clash : None ≡ Some k = e in absurd (cc)

-- what is read of a symbol is of its kind
kind_read : (v : World Leaf) (left p : ℕ) (u : Specifier) (q : ℕ) (s : Symbol) (k : SpecifierKind) →
    kind_of s ≡ Some k →
    specifier_at s v left p u q → u.kind ≡ k
unfolding specifier_at
kind_read v left p u q (symbol.Storage w) k e r =
    ap (λ t. t.kind) r.made ∙ (let same : kind.Storage w ≡ k = cc in same)
kind_read v left p u q (symbol.Specifier w) k e r =
    ap (λ t. t.kind) r.made ∙ (let same : kind.Other w ≡ k = cc in same)
kind_read v left p u q (symbol.TypeWord w) k e r =
    ap (λ t. t.kind) r.made ∙ (let same : kind.TypeWord w ≡ k = cc in same)
kind_read v left p u q _ k e r = let clash : None ≡ Some k = e in absurd (cc)

-- the words of types in one specifier
types_in : (k : SpecifierKind) (place : ℕ) → type_words (record { kind = k; place = place } ∷
    []) ≡ words_in k
types_in (kind.Storage w) place = refl
types_in (kind.Other w) place = refl
types_in (kind.TypeWord w) place = refl
types_in (kind.TypedefName t) place = refl
types_in kind.Enum place = refl

types_behind : (words : List Specifier) (u : Specifier) (us : List Specifier) →
    type_words (words ++ u ∷ us) ≡ (type_words words ++ words_in u.kind) ++ type_words us
types_behind words u us =
    filter_map-append type_word_of words (u ∷ us)
    ∙ (ap (λ t. type_words words ++ t)
    (filter_map-append type_word_of (u ∷ []) us ∙ ap (λ t. t ++ type_words us)
    (types_in u.kind u.place))
    ∙ sym (append_assoc (type_words words) (words_in u.kind) (type_words us)))

module _ (allowed : AllowedStorage) (leaves : List Leaf) (p : ℕ) where
  pub specifiers_first : p < length leaves → AreSpecifiers allowed leaves p [] [] p
  specifiers_first fits = record {
    so_far = λ left. no_parts (is_keyword (goes_in allowed)) (λ n. any_specifier) fits;
    kinds = refl;
    part = refl;
    within = fits;
  }

  module _ (words : List Specifier) (types : List TypeWord) (here : ℕ)
      (s : AreSpecifiers allowed leaves p words types here) where
    pub specifiers_more : (k : SpecifierKind) (more : List Specifier) (after : List TypeWord) →
        keeps_on allowed (symbol_of (leaf_at leaves here)) ≡ true →
        kind_of (symbol_of (leaf_at leaves here)) ≡ Some k →
        here + 1 < length leaves → more ≡ words ++ record {
          kind = k;
          place = (leaf_at leaves here).place;
        } ∷ [] →
        AreGrown types k after → AreSpecifiers allowed leaves p more after (here + 1)
    specifiers_more k more after goes_on is_kind fits pushed g =
        subst (λ list. AreSpecifiers allowed leaves p list after (here + 1)) (sym pushed)
        (record {
          so_far = λ left. one_more (s.so_far left) steady_specifier goes_on
              (reads_choice symbol_of (λ n. specifier_at) refl
              (reads_kind (symbol_of (leaf_at leaves here)) k is_kind fits));
          kinds = g.all
              ∙ (ap (λ t. t ++ words_in k) s.kinds
              ∙ sym (filter_map-append type_word_of words
              (record { kind = k; place = (leaf_at leaves here).place } ∷ [])
              ∙ ap (λ t. type_words words ++ t) (types_in k (leaf_at leaves here).place)));
          part = g.part;
          within = fits;
        })

    pub specifiers_refused : (left : ℕ) (k : SpecifierKind) →
        keeps_on allowed (symbol_of (leaf_at leaves here)) ≡ true →
        kind_of (symbol_of (leaf_at leaves here)) ≡ Some k → (e : ReadError) →
        IsRefused types k here e →
        Faults MAX_LEVEL (λ n. keywords (goes_in allowed)) (leaf_at leaves)
        (length leaves) left p e
    unfolding keywords
    specifiers_refused left k goes_on is_kind (Unexpected i) h =
        subst (λ j. NoneThrough (λ n. keywords (goes_in allowed)) (leaf_at leaves)
        (length leaves) left p j) (sym h.0)
        (no_such_part (s.so_far left) have_part goes_on
        (λ n v b u j r us.
        let same = kind_read v left here u j (symbol_of (v.at here)) k
        (ap (λ t. kind_of (symbol_of t)) (b.tokens here (omega arith)) ∙ is_kind)
        r.chosen in
        ap is_part_of_type (types_behind words u us
        ∙ (ap (λ t. (type_words words ++ words_in t) ++ type_words us) same
        ∙ ap (λ t. (t ++ words_in k) ++ type_words us) (sym s.kinds)))
        ∙ no_part_longer (types ++ words_in k) (type_words us) h.1))
    specifiers_refused left k goes_on is_kind (TooDeep i) h = absurd h
    specifiers_refused left k goes_on is_kind OutOfMemory h = tt

    pub keywords_found : (left : ℕ) →
        keeps_on allowed (symbol_of (leaf_at leaves here)) ≡ false →
        Reads (λ n. keywords (goes_in allowed)) (leaf_at leaves) (length leaves) left p words here
    unfolding keywords
    keywords_found left stops =
        reads_shaped have_part (ap is_part_of_type (sym s.kinds) ∙ s.part)
        (no_more (s.so_far left) stops)

-- each keyword may stand alone
alone : (k : SpecifierKind) → is_part_of_type (words_in k) ≡ true
alone (kind.TypeWord word.Void) = refl
alone (kind.TypeWord word.Bool) = refl
alone (kind.TypeWord word.Char) = refl
alone (kind.TypeWord word.Short) = refl
alone (kind.TypeWord word.Int) = refl
alone (kind.TypeWord word.Long) = refl
alone (kind.TypeWord word.Signed) = refl
alone (kind.TypeWord word.Unsigned) = refl
alone (kind.Storage w) = refl
alone (kind.Other w) = refl
alone (kind.TypedefName t) = refl
alone kind.Enum = refl

-- a keyword behind which specifiers end
pub only_found : (allowed : AllowedStorage) (leaves : List Leaf) (p : ℕ) (k : SpecifierKind)
    (words : List Specifier) → p < length leaves → IsOnly allowed leaves p k
    → words ≡ record { kind = k; place = (leaf_at leaves p).place } ∷ [] → (left : ℕ)
    → Reads (λ n. keywords (goes_in allowed)) (leaf_at leaves) (length leaves) left p words (p + 1)
only_found allowed leaves p k words fits only made left =
    keywords_found allowed leaves p words (words_in k) (p + 1)
    (specifiers_more allowed leaves p [] [] p (specifiers_first allowed leaves p fits) k words
    (words_in k) only.goes_on only.kind only.more.within made
    (record { all = refl; part = alone k }))
    left only.ends

-- keywords that are no words of types are read from p up to here
pub record AreQualifiers (allowed : AllowedStorage) (leaves : List Leaf) (p : ℕ)
    (words : List Specifier) (here : ℕ) : Type 0 where
  pub so_far : (left : ℕ) → SoFar (λ n. qualifiers (goes_in allowed))
      (is_no_type (goes_in allowed)) (λ n. any_specifier)
      (leaf_at leaves) (length leaves) left p words here
  pub within : here < length leaves

module _ (allowed : AllowedStorage) (leaves : List Leaf) (p : ℕ) where
  pub qualifiers_first : (words : List Specifier) → words ≡ [] → p < length leaves →
      AreQualifiers allowed leaves p words p
  unfolding qualifiers
  qualifiers_first words none fits = subst (λ list. AreQualifiers allowed leaves p list p)
      (sym none)
      (record {
        so_far = λ left. no_parts (is_no_type (goes_in allowed)) (λ n. any_specifier) fits;
        within = fits;
      })

  module _ (words : List Specifier) (here : ℕ) (s : AreQualifiers allowed leaves p words here) where
    pub qualifiers_more : (k : SpecifierKind) (more : List Specifier) →
        qualifies allowed (symbol_of (leaf_at leaves here)) ≡ true →
        kind_of (symbol_of (leaf_at leaves here)) ≡ Some k → here + 1 < length leaves →
        more ≡ words ++ record { kind = k; place = (leaf_at leaves here).place } ∷ [] →
        AreQualifiers allowed leaves p more (here + 1)
    qualifiers_more k more goes_on is_kind fits pushed =
        subst (λ list. AreQualifiers allowed leaves p list (here + 1)) (sym pushed)
        (record {
          so_far = λ left. one_more (s.so_far left) steady_specifier goes_on
              (reads_choice symbol_of (λ n. specifier_at) refl
              (reads_kind (symbol_of (leaf_at leaves here)) k is_kind fits));
          within = fits;
        })

    pub qualifiers_found : (left : ℕ) →
        qualifies allowed (symbol_of (leaf_at leaves here)) ≡ false →
        Reads (λ n. qualifiers (goes_in allowed)) (leaf_at leaves) (length leaves) left p words here
    qualifiers_found left stops = no_more (s.so_far left) stops

-- what a keyword is, where it is no word of a type
pub is_qualifier : (allowed : AllowedStorage) (s : Symbol) (answer : Option SpecifierKind) →
    types s ≡ false → IsKind allowed s answer → IsQualifier allowed s answer
is_qualifier allowed s None e h = and_left _ _ h
is_qualifier allowed s (Some k) e h = (and_from _ _ h.0 (ap not e), h.1)

-- no other symbol is a keyword with which specifiers go on
pub no_keyword : (allowed : AllowedStorage) (s : Symbol) →
    ((w : StorageWord) → s ≡ symbol.Storage w → ⊥) →
    ((w : SpecifierWord) → s ≡ symbol.Specifier w → ⊥) →
    ((w : TypeWord) → s ≡ symbol.TypeWord w → ⊥) → keeps_on allowed s ≡ false
no_keyword allowed (symbol.Storage w) f g h = absurd (f w refl)
no_keyword allowed (symbol.Specifier w) f g h = absurd (g w refl)
no_keyword allowed (symbol.TypeWord w) f g h = absurd (h w refl)
no_keyword allowed (symbol.TypedefName t) f g h = and_right _ _ refl
no_keyword allowed (symbol.Terminal terminal.Enum) f g h = and_right _ _ refl
no_keyword Any _ f g h = refl
no_keyword Register _ f g h = refl
no_keyword InTypedef _ f g h = refl

pub steady_keywords : (goes : Leaf → Bool) → Steady (λ n. keywords goes)
steady_keywords goes = record { good = λ n m. good_keywords goes }
