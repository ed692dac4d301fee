use Rattle.std.proofs.Common.{◌≡◌, ℕ, zero, suc, List, [], ◌∷◌, refl, sym, ap, ◌∙◌}
use Rattle.std.specs.Prelude.{slice_index_or, slice_set}
use Rattle.cpa_model.specs.declared.facts.Elem.{Elem}
use Rattle.cpa_reached_key.specs.lemmas.RowLaws.{same_elem-means}
use Rattle.cpa_reached.proofs.sharing.share_at.Goals as goal

own : (es : List Elem) (i : ℕ) (d : Elem) → slice_set es i (slice_index_or es i d) ≡ es
own [] i d = refl
own (e ∷ es) zero d = refl
own (e ∷ es) (suc i) d = ap (λ (fs : List Elem). e ∷ fs) (own es i d)

pub returns-in_ok-elems : goal.returns-in_ok-elems
returns-in_ok-elems c =
    let es = c.args.elems.now.items in
    let i = c.args.place in
    let there = c.index.result.now in
    let same = same_elem-means there c.args.elem.now
    (sym c.same_elem.ensures ∙ c.if-same_elem.true) in
    ap (λ (e : Elem). slice_set es i e) (c.in_ok-elems.ensures ∙ sym same ∙ c.index.ensures)
    ∙ own es i there
