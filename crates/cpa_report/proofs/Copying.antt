-- Tokens that are copied one by one, and beside them those with low expressions.
use Rattle.std.proofs.Common.{◌≡◌, ℕ, List, [], ◌∷◌, ◌++◌, refl, sym, ap, ◌∙◌, subst, append_assoc}
use Rattle.std.proofs.Common.{append-nil}
use Rattle.json.specs.Print.{print}
use Rattle.json.specs.Token.{Token}
use Rattle.json.specs.Token as token
use Rattle.cpa_report.specs.Heights.{Along, AreGood}

-- one more at the end of both
along_push : (P : Token → Token → Type 0) (ts us : List Token) (t u : Token) → Along P ts us
    → P t u → Along P (ts ++ t ∷ []) (us ++ u ∷ [])
along_push P [] [] t u along p = (p, tt)
along_push P [] (v ∷ us) t u along p = absurd along
along_push P (s ∷ ts) [] t u along p = absurd along
along_push P (s ∷ ts) (v ∷ us) t u along p = (along.0, along_push P ts us t u along.1 p)

pub along_pushed : (P : Token → Token → Type 0) (ts us vs ws : List Token) (t u : Token)
    → vs ≡ ts ++ t ∷ [] → ws ≡ us ++ u ∷ [] → Along P ts us → P t u → Along P vs ws
along_pushed P ts us vs ws t u first second along p =
    subst (λ (l : List Token). Along P l ws) (sym first)
    (subst (λ (l : List Token). Along P (ts ++ t ∷ []) l) (sym second)
    (along_push P ts us t u along p))

-- what was copied and what is left stay the whole
pub moved : (all xs rest more ys : List Token) (t : Token) → all ≡ xs ++ rest → rest ≡ t ∷ more
    → ys ≡ xs ++ t ∷ [] → all ≡ ys ++ more
moved all xs rest more ys t whole first pushed =
    whole ∙ ap (λ (zs : List Token). xs ++ zs) first ∙ sym (append_assoc xs (t ∷ []) more)
    ∙ ap (λ (zs : List Token). zs ++ more) (sym pushed)

none_bad : (xs ys : List Token) → AreGood (xs ++ token.bad ∷ ys) → ⊥
none_bad [] ys h = h.0 refl
none_bad (x ∷ xs) ys h = none_bad xs ys h.1

-- no bad token comes where all are good
pub stopped : (all xs rest more : List Token) (t : Token) → AreGood all → all ≡ xs ++ rest
    → rest ≡ t ∷ more → t ≡ token.bad → ⊥
stopped all xs rest more t good whole first bad =
    none_bad xs more
    (subst AreGood
    (whole ∙ ap (λ (zs : List Token). xs ++ zs) (first ∙ ap (λ (u : Token). u ∷ more) bad))
    good)

-- and at the end the line is spelled again
pub copied : (line before items : List ℕ) (all xs rest : List Token) → line ≡ print all
    → all ≡ xs ++ rest → rest ≡ [] → before ≡ [] → items ≡ before ++ print xs → items ≡ line
copied line before items all xs rest is whole end none written =
    let same : xs ≡ all =
    sym (append-nil xs) ∙ ap (λ (zs : List Token). xs ++ zs) (sym end) ∙ sym whole in
    written ∙ ap (λ (bs : List ℕ). bs ++ print xs) none ∙ ap print same ∙ sym is
