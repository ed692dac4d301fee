-- Names that are added are forgotten (`forgotten`).
use Rattle.std.proofs.Common.{◌≡◌, ℕ, List, length, take, ap, ◌∙◌}
use Rattle.std.proofs.Math.Seq.{take-append_seam}
use Rattle.c_types_rules.specs.declared.meaning.Entry.{Entry}
use Rattle.c_types_objects.specs.Enumerations.{AddsNames}

pub forgotten : (old mid new : List Entry) (count : ℕ) → AddsNames old mid → count ≡ length old
    → new ≡ take count mid → new ≡ old
forgotten old mid new count adds count_is new_is =
    new_is ∙ ap (λ (n : ℕ). take n mid) count_is
    ∙ ap (λ (ns : List Entry). take (length old) ns) adds.is
    ∙ take-append_seam old adds.added
