-- The pieces of a moved word, and one more stage of a shift.
use Rattle.std.proofs.Common.{◌≡◌, ℕ, ◌+◌, ◌<◌, ◌≤◌, List, ◌∷◌, length}
use Rattle.std.proofs.Common.{drop, get_or, refl, sym, ap, ◌∙◌}
use Rattle.std.proofs.Common.{add-one}
use Rattle.std.proofs.Math.Seq.{drop-cons}
use Rattle.std.proofs.lemmas.List.{drop_all}
use Rattle.cpa_blast_gates.specs.declared.gate.Gate.{Gate}
use Rattle.cpa_blast_gates.specs.Nets.{Built, built}
use Rattle.cpa_blast_arithmetic.specs.declared.moves.Direction.{Direction}
use Rattle.cpa_blast_arithmetic.specs.Shifts.{stage, stages}

pub stages_next : (d : Direction) (f : ℕ) (net next : List Gate) (i b : ℕ)
    (xs made amount : List ℕ) (whole : Built (List ℕ)) → i < length amount
    → b ≡ get_or amount i b → built next made ≡ stage d f net i b xs
    → stages d f net i xs (drop i amount) ≡ whole
    → stages d f next (i + 1) made (drop (i + 1) amount) ≡ whole
unfolding stages
stages_next d f net next i b xs made amount whole inside is one so_far =
    ap (λ (m : Built (List ℕ)). stages d f m.net (i + 1) m.value (drop (i + 1) amount)) one
    ∙ ap (λ j. stages d f (stage d f net i b xs).net j (stage d f net i b xs).value
    (drop (i + 1) amount)) (add-one i)
    ∙ ap (stages d f net i xs) (ap (λ k. k ∷ drop (i + 1) amount) is ∙ sym at)
    ∙ so_far
  where
    at : drop i amount ≡ get_or amount i b ∷ drop (i + 1) amount
    at = rw (add-one, drop-cons amount i b) refl

pub stages_end : (d : Direction) (f : ℕ) (net : List Gate) (i : ℕ) (xs amount : List ℕ)
    (whole : Built (List ℕ)) → length amount ≤ i
    → stages d f net i xs (drop i amount) ≡ whole → built net xs ≡ whole
unfolding stages
stages_end d f net i xs amount whole past so_far =
    ap (stages d f net i xs) (sym (drop_all i amount past)) ∙ so_far
