-- The items of a text up to its end are its tree, and where there are none there is no tree.
use Rattle.std.specs.Prelude.{◌≡◌, ℕ, ◌+◌, ◌-◌, ◌<◌, Bool, true, false, not, cond, find, unwrap_or}
use Rattle.std.specs.Prelude.{List, [], ◌∷◌, ◌++◌, length, Option, Some, refl}
use Rattle.std.specs.List.{slice_get, list_all}
use Rattle.std.specs.Option.{option_map}
use Rattle.std.proofs.Common.{sym, ◌∙◌, ap, subst, arith, inl, inr}
use Rattle.std.proofs.lemmas.Bool.{and_parts}
use Rattle.std.proofs.lemmas.List.{length-map}
use Rattle.std.proofs.lemmas.Option.{slice_get-map, slice_get-get_or, get_or_from_slice_get}
use Rattle.c_grammar_forms.specs.declared.fault.ReadError.{ReadError}
use Rattle.c_grammar_forms.specs.declared.fault.ReadError.TheVariants.{Unexpected, TooDeep}
use Rattle.c_grammar_forms.specs.declared.fault.ReadError.TheVariants.{OutOfMemory}
use Rattle.c_grammar_forms.specs.Forms.{World, Form, ManySeen}
use Rattle.c_grammar_forms.specs.Reading.{Reads, NoneThrough, Faults}
use Rattle.c_lexer.specs.declared.token.Token.{Token}
use Rattle.c_lexer.specs.declared.token.TokenKind.{TokenKind}
use Rattle.c_lexer.specs.declared.token.TokenKind.TheVariants as kind
use Rattle.c_lexer.specs.Parts.{end_token}
use Rattle.c_grammar_symbols.specs.declared.symbol.Symbol.{Symbol}
use Rattle.c_grammar_symbols.specs.declared.symbol.Symbol.TheVariants as symbol
use Rattle.c_grammar_symbols.specs.declared.symbol.TheConstants.{WORDS, MARKS}
use Rattle.c_grammar_symbols.specs.Symbols.{Leaf, spelling_of, word_spelled, mark_spelled}
use Rattle.c_grammar_symbols.specs.Symbols.{symbol_spelled}
use Rattle.c_grammar_symbols.specs.Symbols.{leaf_of, leaves}
use Rattle.c_grammar_symbols.specs.Sources.{nowhere, leaf_at, IsSource}
use Rattle.std.specs.Str.{bytes_eq}
use Rattle.c_grammar_tree.specs.declared.item.Unit.{Unit as UnitTree}
use Rattle.c_grammar_tree.specs.declared.TheConstants.{MAX_LEVEL}
use Rattle.c_grammar_tree.specs.Parts.{ends, is_end}
use Rattle.c_grammar_tree.specs.Items.{unit_items}
use Rattle.c_grammar_tree.specs.Grammar.{grammar, Tree, AgreesThrough}
use Rattle.c_parser.specs.Forms.{all_items}
use Rattle.c_parser.specs.Faults.{IsRefused, fault_of}

picked : (Q : Symbol → Bool) (b : Bool) (x : Symbol) (o : Option Symbol) (d : Symbol) → Q x ≡ true →
    Q (unwrap_or o d) ≡ true →
    Q (unwrap_or (cond b (Some x) o) d) ≡ true
picked Q true x o d here there = here
picked Q false x o d here there = there

-- what is found, or stands in its place, passes a test that all pass
found_passes : (P Q : Symbol → Bool) (xs : List Symbol) (d : Symbol) → list_all Q xs ≡ true →
    Q d ≡ true → Q (unwrap_or (find P xs) d) ≡ true
found_passes P Q [] d all here = here
found_passes P Q (x ∷ xs) d all here =
    let parts = and_parts (Q x) (list_all Q xs) all in
    picked Q (P x) x (find P xs) d parts.0 (found_passes P Q xs d parts.1 here)

-- a list ends where it cannot go on
many_ends : {T : Type 0} (see : List T → Leaf → Leaf) (go : Leaf → Bool) (A : Form Leaf T)
    (w : World Leaf) (left : ℕ) (us done : List T) (p q : ℕ) → w.greedy ≡ true →
    ManySeen see go A done w left p us q → go (w.at q) ≡ false
unfolding ManySeen
many_ends see go A w left [] done p q greedy r =
    subst (λ k. go (w.at k) ≡ false) (sym r.behind) (r.stops greedy)
many_ends see go A w left (u ∷ us) done p q greedy r =
    many_ends see go A w left us (done ++ u ∷ []) r.middle q greedy r.rest

not_false : (b : Bool) → not b ≡ false → b ≡ true
not_false true e = refl
not_false false e = absurd (let clash : true ≡ false = e in cc)

-- nothing but the end of a text stands for it
only_end : (k : TokenKind) (bytes : List ℕ) → ends (symbol_spelled k bytes) ≡ true → k ≡ kind.End
unfolding word_spelled mark_spelled
only_end kind.End bytes e = refl
only_end kind.Word bytes e =
    let other = found_passes (λ s. bytes_eq (spelling_of s) bytes)
    (λ s. not (ends s)) WORDS symbol.Name refl refl in
    absurd (let clash : true ≡ false = sym other ∙ ap not e in cc)
only_end kind.Mark bytes e =
    let other = found_passes (λ s. bytes_eq (spelling_of s) bytes)
    (λ s. not (ends s)) MARKS symbol.Text refl refl in
    absurd (let clash : true ≡ false = sym other ∙ ap not e in cc)
only_end (kind.Number ty value) bytes e = absurd (let clash : false ≡ true = e in cc)
only_end (kind.Character value) bytes e = absurd (let clash : false ≡ true = e in cc)
only_end kind.Text bytes e = absurd (let clash : false ≡ true = e in cc)

module _ (text : List ℕ) (tokens : List Token) (source : IsSource text tokens) where
  -- the leaf of a token
  leaf_is : (i : ℕ) (token : Token) → slice_get tokens i ≡ Some token →
      leaf_at (leaves text tokens) i ≡ leaf_of text token
  leaf_is i token e =
      get_or_from_slice_get (leaves text tokens) i (leaf_of text token) nowhere
      (slice_get-map (leaf_of text) tokens i ∙ ap (option_map (leaf_of text)) e)

  -- there are as many leaves as tokens
  as_many : length (leaves text tokens) ≡ length tokens
  as_many = simp length-map

  -- the end is the last token
  last_end : (i : ℕ) → i < length tokens → is_end (leaf_at (leaves text tokens) i) ≡ true →
      i + 1 ≡ length tokens
  last_end i fits e =
      let found = slice_get-get_or tokens i (end_token 0) fits in
      source.ends.only i _ found
      (only_end _ _ (sym (ap is_end (leaf_is i _ found)) ∙ e))

  -- its place is the text's length
  end_place : (i : ℕ) → i + 1 ≡ length tokens → (leaf_at (leaves text tokens) i).place ≡ length text
  end_place i e =
      let here : length tokens - 1 ≡ i = omega (arith, e) in
      ap (λ leaf. leaf.place) (leaf_is i (end_token (length text))
      (ap (slice_get tokens) (sym here) ∙ source.ends.last))

  -- the items up to the end are a tree
  pub whole : (u : UnitTree) (q : ℕ) → Reads (λ n. all_items (grammar n))
      (leaf_at (leaves text tokens)) (length (leaves text tokens))
      (MAX_LEVEL - 1) 0 u.items q → u.length ≡ (leaf_at (leaves text tokens) q).place →
      Tree text tokens u
  unfolding unit_items
  whole u q r placed =
      let ended = many_ends _ _ _ _ _ (u.items) _ 0 q refl (r.reading 0) in
      let last = last_end q (omega (arith, r.within, as_many)) (not_false _ ended) in
      record {
        reading = λ edge. record {
          middle = q;
          first = r.reading edge;
          passes = not_false _ ended;
          behind = sym last;
        };
        length_is = placed ∙ end_place q last;
      }

  -- where there are no items up to the end there is no tree
  none_whole : (i : ℕ) → NoneThrough (λ n. all_items (grammar n)) (leaf_at (leaves text tokens))
      (length (leaves text tokens))
      (MAX_LEVEL - 1) 0 i → AgreesThrough text tokens i → ⊥
  unfolding unit_items
  none_whole i g agrees = g.none agrees.depth agrees.other agrees.begins agrees.items
      agrees.reading.middle agrees.reading.first

  pub refused : (e : ReadError) → Faults MAX_LEVEL (λ n. all_items (grammar n))
      (leaf_at (leaves text tokens)) (length (leaves text tokens))
      (MAX_LEVEL - 1) 0 e → IsRefused text tokens (fault_of (leaves text tokens) e)
  refused (Unexpected i) g = record {
    at = i;
    within = omega (arith, g.within, as_many);
    denied = none_whole i g;
    place = refl;
    rule = inr refl;
  }
  refused (TooDeep i) g = record {
    at = i;
    within = omega (arith, g.0.within, as_many);
    denied = none_whole i g.0;
    place = refl;
    rule = inl (refl, g.1);
  }
  refused OutOfMemory g = tt
