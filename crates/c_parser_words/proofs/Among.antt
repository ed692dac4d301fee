-- Tokens in brackets, place by place.
use Rattle.std.specs.Prelude.{◌≡◌, ℕ, ◌+◌, ◌<◌, Bool, true, false, cond, List, length}
use Rattle.std.proofs.Common.{sym, ◌∙◌, subst, arith, lit<}
use denote.Enum.Bare.{same_true}
use Rattle.c_parser_words.proofs.TypeParts.{false_from}
use Rattle.c_grammar_forms.specs.Forms.{Balanced}
use Rattle.c_grammar_forms.specs.Reading.{Reads, NoneThrough}
use Rattle.c_grammar_forms.specs.lemmas.Brackets.{IsInside, inside_at_first, inside_more}
use Rattle.c_grammar_forms.specs.lemmas.Brackets.{reads_balanced}
use Rattle.c_grammar_forms.specs.lemmas.Brackets.{none_balanced}
use Rattle.c_grammar_symbols.specs.declared.words.Terminal.{Terminal}
use Rattle.c_grammar_symbols.specs.contracts.words.Terminal as terminal
use Rattle.c_grammar_symbols.specs.declared.symbol.Symbol.{Symbol}
use Rattle.c_grammar_symbols.specs.declared.symbol.Symbol.TheVariants as symbol
use Rattle.c_grammar_symbols.specs.Symbols.{Leaf, symbol_of}
use Rattle.c_grammar_symbols.specs.Sources.{leaf_at, is, is_terminal, same_terminal}
use Rattle.c_grammar_tree.specs.Parts.{is_end}

-- `here` lies some tokens behind p, with so many brackets open besides the one before p
pub record IsAmong (opens closes : Terminal) (leaves : List Leaf) (p depth here : ℕ) : Type 0 where
  pub count : ℕ
  pub place : here ≡ p + count
  pub inside : IsInside (is opens) (is closes) is_end (leaf_at leaves) p depth count
  pub room : depth < here + 1
  pub within : here < length leaves

at_most_one : (b : Bool) → cond b 1 0 < 2
at_most_one true = lit< tt
at_most_one false = lit< tt

module _ (opens closes : Terminal) (leaves : List Leaf) (p : ℕ) where
  pub among_first : p < length leaves → IsAmong opens closes leaves p 0 p
  among_first fits = record {
    count = 0;
    place = omega arith;
    inside = inside_at_first (is opens) (is closes) is_end;
    room = omega arith;
    within = fits;
  }

  pub among_more : (depth here more : ℕ) → IsAmong opens closes leaves p depth here →
      is_end (leaf_at leaves here) ≡ false →
      more + cond (is closes (leaf_at leaves here)) 1 0 ≡ depth + cond
      (is opens (leaf_at leaves here)) 1 0 →
      here + 1 < length leaves → IsAmong opens closes leaves p more (here + 1)
  among_more depth here more s goes counted fits = record {
    count = s.count + 1;
    place = omega (arith, s.place);
    inside = inside_more (is opens) (is closes) is_end s.inside
        (subst (λ i. is_end (leaf_at leaves i) ≡ false) s.place goes)
        (subst (λ i. more + cond (is closes (leaf_at leaves i)) 1 0 ≡ depth + cond
        (is opens (leaf_at leaves i)) 1 0)
        s.place counted);
    room = omega (arith, s.room, counted, at_most_one (is opens (leaf_at leaves here)));
    within = fits;
  }

  pub reads_among : (left here : ℕ) → IsAmong opens closes leaves p 0 here →
      is closes (leaf_at leaves here) ≡ true →
      is opens (leaf_at leaves here) ≡ false → is_end (leaf_at leaves here) ≡ false →
      here + 1 < length leaves →
      Reads (λ n. Balanced (is opens) (is closes) is_end) (leaf_at leaves) (length leaves) left p tt
      (here + 1)
  reads_among left here s closed not_opened not_ended fits =
      let e : p + (s.count + 1) ≡ here + 1 = omega (arith, s.place) in
      subst (λ q. Reads (λ n. Balanced (is opens) (is closes) is_end) (leaf_at leaves)
      (length leaves) left p tt q) e
      (reads_balanced (is opens) (is closes) is_end s.inside
      (subst (λ i. is closes (leaf_at leaves i) ≡ true) s.place closed)
      (subst (λ i. is opens (leaf_at leaves i) ≡ false) s.place not_opened)
      (subst (λ i. is_end (leaf_at leaves i) ≡ false) s.place not_ended)
      (omega (arith, s.place, fits)))

  pub none_among : (left depth here : ℕ) → IsAmong opens closes leaves p depth here →
      is_end (leaf_at leaves here) ≡ true →
      NoneThrough (λ n. Balanced (is opens) (is closes) is_end) (leaf_at leaves)
      (length leaves) left p here
  none_among left depth here s ended =
      subst (λ q. NoneThrough (λ n. Balanced (is opens) (is closes) is_end) (leaf_at leaves)
      (length leaves) left p q)
      (sym s.place)
      (none_balanced (is opens) (is closes) is_end s.inside
      (subst (λ i. is_end (leaf_at leaves i) ≡ true) s.place ended)
      (omega (arith, s.place, s.within)))

-- a symbol is one terminal
one_terminal : (opens closes : Terminal) (s : Symbol) → (opens ≡ closes → ⊥) →
    is_terminal closes s ≡ true →
    is_terminal opens s ≡ false
one_terminal opens closes (symbol.Terminal found) differ e =
    false_from (same_terminal found opens) (λ f. differ
    (sym (same_true terminal.the_type tt found opens f) ∙
    same_true terminal.the_type tt found closes e))
one_terminal opens closes _ differ e = let clash : false ≡ true = e in cc

-- a bracket that closes does not open
pub apart : (opens closes : Terminal) (leaf : Leaf) → (opens ≡ closes → ⊥) → is closes leaf ≡ true →
    is opens leaf ≡ false
apart opens closes leaf differ e = one_terminal opens closes (symbol_of leaf) differ e
