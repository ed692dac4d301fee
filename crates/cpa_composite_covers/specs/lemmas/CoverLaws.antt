-- That a row which is covered lies within the other. A lemma for the crates above.
use Rattle.std.specs.Prelude.{◌≡◌, true, List, [], ◌∷◌, length}
use Rattle.std.proofs.Common.{arith}
use Rattle.std.proofs.lemmas.Bool.{and_parts}
use Rattle.cpa_model.specs.declared.facts.Elem.{Elem}
use Rattle.cpa_composite_covers.specs.Components.{Component}
use Rattle.cpa_composite_covers.specs.Covers.{all_cover, IsWithinRow}

-- an inclusion of each element is one of rows
pub cover_within : (cs : List Component) (es fs : List Elem) → length es ≡ length cs
    → length fs ≡ length cs → all_cover cs es fs ≡ true → IsWithinRow es fs
cover_within cs es [] many long h s lies = tt
cover_within [] es (f ∷ fs) many long h s lies = absurd (omega arith)
cover_within (c ∷ cs) [] (f ∷ fs) many long h s lies = absurd (omega arith)
cover_within (c ∷ cs) (e ∷ es) (f ∷ fs) many long h s lies =
    let both = and_parts (c.meaning.cover e f) (all_cover cs es fs) h in (
      c.meaning.within e f both.0 s lies.0,
      cover_within cs es fs (omega arith) (omega arith) both.1 s lies.1,
    )
