-- Pieces one behind the other.
use Rattle.std.specs.Prelude.{◌≡◌, ℕ, List, [], ◌∷◌, ◌++◌, map, refl}
use Rattle.std.proofs.Common.{sym, ap, subst}
use Rattle.c_grammar_symbols.specs.declared.words.Terminal.TheVariants as terminal
use Rattle.c_grammar_symbols.specs.Symbols.{Leaf}
use Rattle.c_laws.specs.Spelling.{Piece, Stands, Spells, in_order, listed, mark}

-- the tokens from p up to q are these pieces
pub record Laid (at : ℕ → Leaf) (pieces : List Piece) (p q : ℕ) : Type 0 where
  pub spells : Spells at pieces p q

-- a spelling that falls into two
pub record Halves (at : ℕ → Leaf) (xs ys : List Piece) (p q : ℕ) : Type 0 where
  pub middle : ℕ
  pub first : Laid at xs p middle
  pub second : Laid at ys middle q

-- the first piece, and the others
pub record Opened (at : ℕ → Leaf) (piece : Piece) (pieces : List Piece) (p q : ℕ) : Type 0 where
  pub middle : ℕ
  pub here : Stands at piece p middle
  pub more : Laid at pieces middle q

module _ {at : ℕ → Leaf} where
  pub spells_none : {p : ℕ} → Laid at [] p p
  unfolding Spells
  spells_none = record { spells = refl }

  pub ends_there : {p q : ℕ} → Laid at [] p q → q ≡ p
  unfolding Spells
  ends_there s = s.spells

  pub spells_piece : (piece : Piece) {pieces : List Piece} {p m q : ℕ} → Stands at piece p m →
      Laid at pieces m q → Laid at (piece ∷ pieces) p q
  unfolding Spells
  spells_piece piece {m = m} here more = record { spells = (m, (here, more.spells)) }

  pub spells_one : (piece : Piece) {p q : ℕ} → Stands at piece p q → Laid at (piece ∷ []) p q
  spells_one piece here = spells_piece piece here spells_none

  pub opened : (piece : Piece) (pieces : List Piece) {p q : ℕ} → Laid at (piece ∷ pieces) p q →
      Opened at piece pieces p q
  unfolding Spells
  opened piece pieces s = record {
    middle = s.spells.0;
    here = s.spells.1.0;
    more = record { spells = s.spells.1.1 };
  }

  pub only : (piece : Piece) {p q : ℕ} → Laid at (piece ∷ []) p q → Stands at piece p q
  only piece {p} s =
      let o = opened piece [] s in
      subst (λ k. Stands at piece p k) (sym (ends_there o.more)) o.here

  pub joins : (xs : List Piece) {ys : List Piece} {p m q : ℕ} → Laid at xs p m →
      Laid at ys m q → Laid at (xs ++ ys) p q
  joins [] {ys} {q = q} s t = subst (λ k. Laid at ys k q) (ends_there s) t
  joins (x ∷ xs) s t =
      let o = opened x xs s in
      spells_piece x o.here (joins xs o.more t)

  pub halves : (xs ys : List Piece) {p q : ℕ} → Laid at (xs ++ ys) p q → Halves at xs ys p q
  halves [] ys {p} s = record { middle = p; first = spells_none; second = s }
  halves (x ∷ xs) ys s =
      let o = opened x (xs ++ ys) s in
      let h = halves xs ys o.more in
      record { middle = h.middle; first = spells_piece x o.here h.first; second = h.second }

-- parts that are spelled already
pub in_order_map : {S T : Type 0} (f : S → List Piece) (g : T → S) (us : List T) →
    in_order f (map g us) ≡ in_order (λ u. f (g u)) us
in_order_map f g [] = refl
in_order_map f g (u ∷ us) = ap (λ rest. f (g u) ++ rest) (in_order_map f g us)

pub listed_map : {S T : Type 0} (f : S → List Piece) (g : T → S) (us : List T) →
    listed f (map g us) ≡ listed (λ u. f (g u)) us
listed_map f g [] = refl
listed_map f g (u ∷ us) =
    ap (λ rest. f (g u) ++ rest) (in_order_map (λ other. mark terminal.Comma ∷ f other) g us)
