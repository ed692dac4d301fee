-- Tokens that are seen where names are declared: one by one, and behind one name more.
use Rattle.std.specs.Prelude.{◌≡◌, ℕ, zero, suc, List, [], ◌∷◌, map, cond, Option, None}
use Rattle.std.specs.Prelude.{Some, refl, Result, Ok, Err, OnOk, OnErr}
use Rattle.std.specs.Str.{bytes_eq}
use Rattle.std.proofs.Common.{◌∙◌, ap}
use Rattle.c_grammar_symbols.specs.declared.named.NamedType.{NamedType}
use Rattle.c_grammar_symbols.specs.declared.symbol.Symbol.{Symbol}
use Rattle.c_grammar_symbols.specs.declared.symbol.Symbol.TheVariants as symbol
use Rattle.c_grammar_symbols.specs.declared.words.Terminal.{Terminal}
use Rattle.c_grammar_symbols.specs.Symbols.{Leaf}
use Rattle.c_grammar_symbols.specs.Sources.{leaf_at, is_terminal, named_symbol, seen_by}
use Rattle.c_grammar_symbols.specs.Sources.{or_only, renamed}

-- the token at a place of tokens that are seen so
pub seen_at : (types : List ℕ → Option NamedType) (ls : List Leaf) (i : ℕ) →
    leaf_at (map (seen_by types) ls) i ≡ seen_by types (leaf_at ls i)
seen_at types [] zero = refl
seen_at types [] (suc i) = refl
seen_at types (l ∷ ls) zero = refl
seen_at types (l ∷ ls) (suc i) = seen_at types ls i

-- a symbol that is no name stays
pub unnamed : (s : Symbol) (o : Option NamedType) → (s ≡ symbol.Name → ⊥) → named_symbol s o ≡ s
unnamed symbol.Name o other = absurd (other refl)
unnamed _ o other = refl

-- a terminal is seen as itself, and nothing else is
pub same_terminal_seen : (t : Terminal) (s : Symbol) (o : Option NamedType) →
    is_terminal t (named_symbol s o) ≡ is_terminal t s
same_terminal_seen t symbol.Name None = refl
same_terminal_seen t symbol.Name (Some ty) = refl
same_terminal_seen t _ o = refl

-- so is the end
pub end_seen : (s : Symbol) (o : Option NamedType) → s ≡ symbol.End → named_symbol s o ≡ symbol.End
end_seen symbol.End o e = refl
end_seen _ o e = absurd (cc)

same_symbol : (s : Symbol) → named_symbol s None ≡ s
same_symbol symbol.Name = refl
same_symbol _ = refl

-- where no name is declared
none_seen : (types : List ℕ → Option NamedType) → ((q : List ℕ) → types q ≡ None) → (l : Leaf) →
    seen_by types l ≡ l
none_seen types none l =
    ap (λ s. record l { symbol = s }) (ap (named_symbol l.symbol) (none l.bytes)
    ∙ same_symbol l.symbol)

pub nothing_seen : (types : List ℕ → Option NamedType) → ((q : List ℕ) → types q ≡ None) →
    (ls : List Leaf) → map (seen_by types) ls ≡ ls
nothing_seen types none [] = refl
nothing_seen types none (l ∷ ls) = λ i. none_seen types none l i ∷ nothing_seen types none ls i

-- behind one name more
symbol_more : (name q : List ℕ) (ty : NamedType) (s : Symbol) (o : Option NamedType) →
    named_symbol s (or_only name ty q o)
    ≡ named_symbol (named_symbol s o) (cond (bytes_eq name q) (Some ty) None)
symbol_more name q ty symbol.Name None = refl
symbol_more name q ty symbol.Name (Some held) = refl
symbol_more name q ty _ o = refl

leaf_more : (name : List ℕ) (ty : NamedType) (old new : List ℕ → Option NamedType) →
    ((q : List ℕ) → new q ≡ or_only name ty q (old q)) → (l : Leaf) →
    seen_by new l ≡ renamed name ty (seen_by old l)
leaf_more name ty old new more l =
    ap (λ s. record l { symbol = s }) (ap (named_symbol l.symbol) (more l.bytes)
    ∙ symbol_more name l.bytes ty l.symbol (old l.bytes))

pub one_more_seen : (name : List ℕ) (ty : NamedType) (old new : List ℕ → Option NamedType) →
    ((q : List ℕ) → new q ≡ or_only name ty q (old q)) → (ls : List Leaf) →
    map (seen_by new) ls ≡ map (renamed name ty) (map (seen_by old) ls)
one_more_seen name ty old new more [] = refl
one_more_seen name ty old new more (l ∷ ls) =
    λ i. leaf_more name ty old new more l i ∷ one_more_seen name ty old new more ls i

leaf_kept : (old new : List ℕ → Option NamedType) → ((q : List ℕ) → new q ≡ old q) → (l : Leaf) →
    seen_by new l ≡ seen_by old l
leaf_kept old new same l =
    ap (λ s. record l { symbol = s }) (ap (named_symbol l.symbol) (same l.bytes))

pub kept_seen : (old new : List ℕ → Option NamedType) → ((q : List ℕ) → new q ≡ old q) →
    (ls : List Leaf) → map (seen_by new) ls ≡ map (seen_by old) ls
kept_seen old new same [] = refl
kept_seen old new same (l ∷ ls) = λ i. leaf_kept old new same l i ∷ kept_seen old new same ls i

-- what holds of each name where a call succeeds, or fails, gives what follows from it
pub under_ok : {X E : Type 0} {A : List ℕ → Type 0} {B : Type 0} (r : Result X E) →
    ((q : List ℕ) → OnOk r (A q)) → (((q : List ℕ) → A q) → B) → OnOk r B
under_ok (Ok x) h f = f h
under_ok (Err e) h f = tt

pub under_err : {X E : Type 0} {A : List ℕ → Type 0} {B : Type 0} (r : Result X E) →
    ((q : List ℕ) → OnErr r (A q)) → (((q : List ℕ) → A q) → B) → OnErr r B
under_err (Ok x) h f = tt
under_err (Err e) h f = f h
