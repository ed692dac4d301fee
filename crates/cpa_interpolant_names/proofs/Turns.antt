-- One meeting more.
use Rattle.std.proofs.Common.{◌≡◌, ℕ, ◌+◌, ◌<◌, ◌≤◌, List, [], ◌∷◌, ◌++◌, length, drop, get_or}
use Rattle.std.proofs.Common.{refl, sym, ap, ◌∙◌, append_assoc, drop-cons, add-one}
use Rattle.std.proofs.lemmas.List.{drop_all, append-nil}
use Rattle.cpa_model.specs.declared.program.Cell.{Cell}
use Rattle.cpa_form_rules.specs.Forms.{Form}
use Rattle.cpa_interpolant_names.specs.declared.gathering.Meeting.{Meeting}
use Rattle.cpa_interpolant_names.specs.declared.gathering.Seen.{Seen}
use Rattle.cpa_interpolant_names.specs.Meetings.{meeting_of, meetings_from}

pub one_meeting : (form : Form) (before behind : Seen) (cells : List Cell) (i : ℕ) (d : Cell)
    (old new all : List Meeting) → i < length cells
    → new ≡ old ++ meeting_of form before behind i (get_or cells i d).ty ∷ []
    → old ++ meetings_from form before behind i (drop i cells) ≡ all
    → new ++ meetings_from form before behind (i + 1) (drop (i + 1) cells) ≡ all
one_meeting form before behind cells i d old new all inside pushed so_far =
    let here : drop i cells ≡ get_or cells i d ∷ drop (i + 1) cells =
    rw (add-one, drop-cons cells i d inside) refl in
    ap (λ ms. ms ++ meetings_from form before behind (i + 1) (drop (i + 1) cells)) pushed
    ∙ append_assoc old (meeting_of form before behind i (get_or cells i d).ty ∷ [])
    (meetings_from form before behind (i + 1) (drop (i + 1) cells))
    ∙ ap (λ n. old ++ meeting_of form before behind i (get_or cells i d).ty
    ∷ meetings_from form before behind n (drop (i + 1) cells)) (add-one i)
    ∙ ap (λ cs. old ++ meetings_from form before behind i cs) (sym here)
    ∙ so_far

pub last_meeting : (form : Form) (before behind : Seen) (cells : List Cell) (i : ℕ)
    (old all : List Meeting) → length cells ≤ i
    → old ++ meetings_from form before behind i (drop i cells) ≡ all → old ≡ all
last_meeting form before behind cells i old all past so_far =
    sym (append-nil old)
    ∙ ap (λ cs. old ++ meetings_from form before behind i cs) (sym (drop_all i cells past))
    ∙ so_far
