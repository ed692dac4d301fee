-- The suffix that letters are.
use Rattle.std.proofs.Common.{◌≡◌, ℕ, Bool, true, false, ◌&&◌, ◌||◌, ◌==◌, List, [], ◌∷◌, ◌++◌}
use Rattle.std.proofs.Common.{refl, ap, ◌∙◌, ◌⊎◌, inl, inr, Option, Some, None, codes, subst}
use Rattle.std.proofs.lemmas.Bool.{cases_Bool, and_parts, or_cases, eqb-true}
use Rattle.c_lexer.specs.Numbers.{Rank, Int, Long, LongLong, Suffix, IsUnsignedMark, IsRankMark}
use Rattle.c_lexer.specs.Numbers.{IsSuffix}
use Rattle.c_lexer.specs.Steps.ReadingConstants.{is_u, rank_of, with_rank, suffix_of}

abbrev made : Bool → Rank → Suffix
made unsigned rank = record { unsigned = unsigned; rank = rank }

-- the two marks as these letters, in either order
both : (s : Suffix) (u r a b letters : List ℕ) → u ≡ a → r ≡ b →
    ((letters ≡ u ++ r) ⊎ (letters ≡ r ++ u)) → suffix_of (a ++ b) ≡ Some s →
    suffix_of (b ++ a) ≡ Some s → suffix_of letters ≡ Some s
both s u r a b letters eu er order front back = elim order [
  | inl o ↦ ap suffix_of (o ∙ ap (λ z. z ++ r) eu ∙ ap (λ z. a ++ z) er) ∙ front
  | inr o ↦ ap suffix_of (o ∙ ap (λ z. z ++ u) er ∙ ap (λ z. b ++ z) eu) ∙ back
]

read_by : (unsigned : Bool) (rank : Rank) (u r letters : List ℕ) → IsUnsignedMark unsigned u →
    IsRankMark rank r → ((letters ≡ u ++ r) ⊎ (letters ≡ r ++ u)) →
    suffix_of letters ≡ Some (made unsigned rank)
read_by false Int u r letters hu hr order =
    both (made false Int) u r [] [] letters hu hr order refl refl
read_by false Long u r letters hu hr order = elim hr [
  | inl e ↦ both (made false Long) u r [] (codes "l") letters hu e order refl refl
  | inr e ↦ both (made false Long) u r [] (codes "L") letters hu e order refl refl
]
read_by false LongLong u r letters hu hr order = elim hr [
  | inl e ↦ both (made false LongLong) u r [] (codes "ll") letters hu e order refl refl
  | inr e ↦ both (made false LongLong) u r [] (codes "LL") letters hu e order refl refl
]
read_by true Int u r letters hu hr order = elim hu [
  | inl e ↦ both (made true Int) u r (codes "u") [] letters e hr order refl refl
  | inr e ↦ both (made true Int) u r (codes "U") [] letters e hr order refl refl
]
read_by true Long u r letters hu hr order = elim hu [
  | inl e ↦ elim hr [
    | inl f ↦ both (made true Long) u r (codes "u") (codes "l") letters e f order refl refl
    | inr f ↦ both (made true Long) u r (codes "u") (codes "L") letters e f order refl refl
  ]
  | inr e ↦ elim hr [
    | inl f ↦ both (made true Long) u r (codes "U") (codes "l") letters e f order refl refl
    | inr f ↦ both (made true Long) u r (codes "U") (codes "L") letters e f order refl refl
  ]
]
read_by true LongLong u r letters hu hr order = elim hu [
  | inl e ↦ elim hr [
    | inl f ↦ both (made true LongLong) u r (codes "u") (codes "ll") letters e f order refl refl
    | inr f ↦ both (made true LongLong) u r (codes "u") (codes "LL") letters e f order refl refl
  ]
  | inr e ↦ elim hr [
    | inl f ↦ both (made true LongLong) u r (codes "U") (codes "ll") letters e f order refl refl
    | inr f ↦ both (made true LongLong) u r (codes "U") (codes "LL") letters e f order refl refl
  ]
]

-- a suffix is read
pub suffix_read : (s : Suffix) (letters : List ℕ) → IsSuffix s letters → suffix_of letters ≡ Some s
suffix_read s letters is =
    read_by s.unsigned s.rank is.unsigned_mark is.rank_mark letters is.unsigned is.rank is.order

-- what is read is a suffix

u_is : (a : ℕ) → is_u a ≡ true → IsUnsignedMark true (a ∷ [])
u_is a h = elim (or_cases (a == 117) (a == 85) h) [
  | inl e ↦ inl (ap (λ z. z ∷ []) (eqb-true a 117 e))
  | inr e ↦ inr (ap (λ z. z ∷ []) (eqb-true a 85 e))
]

rank_is : (letters : List ℕ) (rank : Rank) → rank_of letters ≡ Some rank → IsRankMark rank letters
rank_is [] rank e = let same : Int ≡ rank = cc in subst (λ z. IsRankMark z []) same refl
rank_is (a ∷ []) rank e = elim (cases_Bool (a == 108 || a == 76)) [
  | inl h ↦ (let some : Some Long ≡ Some rank = rw h at e in let same : Long ≡ rank = cc in
      subst (λ z. IsRankMark z (a ∷ [])) same (elim (or_cases (a == 108) (a == 76) h) [
        | inl g ↦ inl (ap (λ z. z ∷ []) (eqb-true a 108 g))
        | inr g ↦ inr (ap (λ z. z ∷ []) (eqb-true a 76 g))
      ]))
  | inr h ↦ (let bad : None ≡ Some rank = rw h at e in cc)
]
rank_is (a ∷ b ∷ []) rank e = elim (cases_Bool ((a == 108 && b == 108) || (a == 76 && b == 76))) [
  | inl h ↦ (let some : Some LongLong ≡ Some rank = rw h at e in let same : LongLong ≡ rank = cc in
      subst (λ z. IsRankMark z (a ∷ b ∷ [])) same (elim
      (or_cases (a == 108 && b == 108) (a == 76 && b == 76) h) [
        | inl g ↦ (let p = and_parts (a == 108) (b == 108) g in let x = eqb-true a 108 p.0 in
            let y = eqb-true b 108 p.1 in inl (cc))
        | inr g ↦ (let p = and_parts (a == 76) (b == 76) g in let x = eqb-true a 76 p.0 in
            let y = eqb-true b 76 p.1 in inr (cc))
      ]))
  | inr h ↦ (let bad : None ≡ Some rank = rw h at e in cc)
]
rank_is (a ∷ b ∷ c ∷ rest) rank e = cc

-- the marks of a suffix that is read
ranked : (unsigned : Bool) (found : Option Rank) (s : Suffix) → with_rank unsigned found ≡ Some s →
    (rank : Rank) × (found ≡ Some rank) × (made unsigned rank ≡ s)
ranked unsigned None s e = cc
ranked unsigned (Some rank) s e = (rank, refl, cc)

made_by : (unsigned : Bool) (s : Suffix) (u r letters : List ℕ) → IsUnsignedMark unsigned u →
    with_rank unsigned (rank_of r) ≡ Some s → ((letters ≡ u ++ r) ⊎ (letters ≡ r ++ u)) →
    IsSuffix s letters
made_by unsigned s u r letters hu e order =
    let parts = ranked unsigned (rank_of r) s e in
    let is : IsSuffix (made unsigned parts.0) letters = record {
      unsigned_mark = u;
      rank_mark = r;
      unsigned = hu;
      rank = rank_is r parts.0 parts.1;
      order = order;
    } in
    subst (λ z. IsSuffix z letters) parts.2 is

pub suffix_is : (s : Suffix) (letters : List ℕ) → suffix_of letters ≡ Some s → IsSuffix s letters
suffix_is s [] e = made_by false s [] [] [] refl e (inl refl)
suffix_is s (a ∷ []) e = elim (cases_Bool (is_u a)) [
  | inl h ↦ made_by true s (a ∷ []) [] (a ∷ []) (u_is a h) (rw h at e) (inl refl)
  | inr h ↦ made_by false s [] (a ∷ []) (a ∷ []) refl (rw h at e) (inl refl)
]
suffix_is s (a ∷ b ∷ []) e = elim (cases_Bool (is_u a)) [
  | inl h ↦ made_by true s (a ∷ []) (b ∷ []) (a ∷ b ∷ []) (u_is a h) (rw h at e) (inl refl)
  | inr h ↦ elim (cases_Bool (is_u b)) [
    | inl g ↦ made_by true s (b ∷ []) (a ∷ []) (a ∷ b ∷ []) (u_is b g) (rw (h, g) at e) (inr refl)
    | inr g ↦ made_by false s [] (a ∷ b ∷ []) (a ∷ b ∷ []) refl (rw (h, g) at e) (inl refl)
  ]
]
suffix_is s (a ∷ b ∷ c ∷ []) e = elim (cases_Bool (is_u a)) [
  | inl h ↦ made_by true s (a ∷ []) (b ∷ c ∷ []) (a ∷ b ∷ c ∷ []) (u_is a h) (rw h at e) (inl refl)
  | inr h ↦ elim (cases_Bool (is_u c)) [
    | inl g ↦ made_by true s (c ∷ []) (a ∷ b ∷ []) (a ∷ b ∷ c ∷ []) (u_is c g) (rw (h, g) at e)
        (inr refl)
    | inr g ↦ (let bad : None ≡ Some s = rw (h, g) at e in cc)
  ]
]
suffix_is s (a ∷ b ∷ c ∷ d ∷ rest) e = cc
