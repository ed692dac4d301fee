-- The answers of two halves, one after the other, are those of the whole: `whole_answered`.
use Rattle.std.proofs.Common.{◌≡◌, ℕ, List, [], ◌∷◌, ◌++◌, map, take, drop, sym, ap, ◌∙◌, subst}
use Rattle.std.proofs.lemmas.List.{map-append, take-append-drop}
use Rattle.std.specs.Prelude.{Result, Ok, Err, IfOk, IsOkAnd}
use Rattle.cpa_model.specs.declared.automaton.Cfa.{Cfa}
use Rattle.cpa_composite.specs.Components.{Component}
use Rattle.cpa_config.specs.declared.config.Config.{Config}
use Rattle.cpa_engine.specs.declared.answers.Answer.{Answer}
use Rattle.cpa_portfolio_race.specs.Races.{AreAnswers}

halves_joined : (cfa : Cfa) (front back : List (List Component)) (fc bc : List Config)
    (first second : List Answer) → AreAnswers cfa front fc first → AreAnswers cfa back bc second
    → AreAnswers cfa (front ++ back) (fc ++ bc) (first ++ second)
halves_joined cfa [] back [] bc [] second f s = s
halves_joined cfa [] back [] bc (a ∷ first) second f s = absurd f
halves_joined cfa [] back (c ∷ fc) bc first second f s = absurd f
halves_joined cfa (cs ∷ front) back [] bc first second f s = absurd f
halves_joined cfa (cs ∷ front) back (c ∷ fc) bc [] second f s = absurd f
halves_joined cfa (cs ∷ front) back (c ∷ fc) bc (a ∷ first) second f s =
    (f.0, f.1, halves_joined cfa front back fc bc first second f.2 s)

-- so it is of what the halves give, where both give answers
pub halves_answered : {V E : Type 0} (items : V → List Answer) (cfa : Cfa)
    (front back : List (List Component)) (fc bc : List Config) (result a b : Result V E)
    → IfOk result (λ whole. IsOkAnd a (λ first. IsOkAnd b (λ second.
    items whole ≡ items first ++ items second)))
    → IfOk a (λ first. AreAnswers cfa front fc (items first))
    → IfOk b (λ second. AreAnswers cfa back bc (items second))
    → IfOk result (λ whole. AreAnswers cfa (front ++ back) (fc ++ bc) (items whole))
halves_answered items cfa front back fc bc (Err e) a b joined f s = tt
halves_answered items cfa front back fc bc (Ok whole) (Err e) b joined f s = absurd joined
halves_answered items cfa front back fc bc (Ok whole) (Ok first) (Err e) joined f s =
    absurd joined
halves_answered items cfa front back fc bc (Ok whole) (Ok first) (Ok second) joined f s =
    subst (AreAnswers cfa (front ++ back) (fc ++ bc)) (sym joined)
    (halves_joined cfa front back fc bc (items first) (items second) f s)

-- two parts of a list, each mapped, are the list mapped
parts_mapped : {C : Type 0} (f : C → List Component) (h : ℕ) (xs : List C)
    → map f (take h xs) ++ map f (drop h xs) ≡ map f xs
parts_mapped f h xs =
    sym (map-append f (take h xs) (drop h xs)) ∙ ap (map f) (take-append-drop h xs)

pub whole_answered : {C V E : Type 0} (f : C → List Component) (items : V → List Answer)
    (cfa : Cfa) (h : ℕ) (xs front back : List C) (configs fc bc : List Config)
    (result : Result V E) → front ≡ take h xs → back ≡ drop h xs → fc ≡ take h configs
    → bc ≡ drop h configs
    → IfOk result (λ whole. AreAnswers cfa (map f front ++ map f back) (fc ++ bc) (items whole))
    → IfOk result (λ whole. AreAnswers cfa (map f xs) configs (items whole))
whole_answered f items cfa h xs front back configs fc bc result is_front is_back is_fc is_bc are =
    let rows : map f front ++ map f back ≡ map f xs =
    ap (λ ys. map f ys ++ map f back) is_front ∙ ap (λ ys. map f (take h xs) ++ map f ys) is_back
    ∙ parts_mapped f h xs in
    let all : fc ++ bc ≡ configs =
    ap (λ cs. cs ++ bc) is_fc ∙ ap (λ cs. take h configs ++ cs) is_bc
    ∙ take-append-drop h configs in
    subst (λ rs. IfOk result (λ whole. AreAnswers cfa rs configs (items whole))) rows
    (subst (λ cs. IfOk result (λ whole. AreAnswers cfa (map f front ++ map f back) cs
    (items whole))) all are)
