-- The steps put together.
use Rattle.std.proofs.Common.{ap, sym, subst, ◌∙◌, length, true, false}
use Rattle.cpa_blast_circuits.specs.Meanings.{types_of, AreLong}
use Rattle.cpa_blast.specs.Formulas.{places_of, with_bits, words_of, asserted, read_places}
use Rattle.cpa_blast.specs.lemmas.Places.{words_long}
use Rattle.cpa_blast.specs.lemmas.Wanted.{AreTypedOver}
use Rattle.cpa_blast.specs.lemmas.Stores.{reads_long}
use Rattle.cpa_blast.specs.lemmas.Models.{typed_words}
use Rattle.cpa_blast.proofs.Blasted.{read_made, words_made, circuits_made, all_made, made_of}
use Rattle.cpa_blast.proofs.formulas.circuits.Goals as goal

pub places_of-requires : goal.places_of-requires
places_of-requires c =
    ap length (c.as_slice-2.ensures.value ∙ c.in_ok-marks.ensures) ∙ reads_long c.args.query.now
    ∙ sym (ap length c.as_slice.ensures)

pub asserted-requires : goal.asserted-requires
asserted-requires c =
    let q = c.args.query.now in
    let read_is = read_made q c.in_ok-marks.marks.items c.in_ok-places.places.items
    c.in_ok-read.read.items c.new-net.result c.with_bits.new.net c.new-net.ensures
    c.in_ok-marks.ensures
    (c.in_ok-places.ensures ∙ ap (λ ts. places_of ts c.as_slice-2.result.now) c.as_slice.ensures
    ∙ ap (places_of q.cells) c.as_slice-2.ensures.value)
    (c.in_ok-read.ensures
    ∙ ap (λ ps. with_bits true ps c.new-net.result) c.as_slice-3.ensures.value) in
    let words_are = words_made q c.in_ok-read.read.items c.as_slice-5.result.now c.with_bits.new.net
    read_is
    (c.as_slice-5.ensures.value ∙ c.in_ok-words.ensures ∙ ap words_of c.as_slice-4.ensures.value) in
    record {
      typed = subst (λ ws. AreTypedOver (types_of ws) c.as_slice-6.result.now) (sym words_are)
          (subst (AreTypedOver (types_of (words_of (read_places q).value)))
          (sym c.as_slice-6.ensures) (typed_words q c.requires));
      long = subst AreLong (sym words_are) (words_long (read_places q).value);
    }

pub returns : goal.returns
returns c =
    let q = c.args.query.now in
    let read = c.in_ok-read.read.items in
    let net1 = c.with_bits.new.net in
    let read_is = read_made q c.in_ok-marks.marks.items c.in_ok-places.places.items
    read c.new-net.result net1 c.new-net.ensures c.in_ok-marks.ensures
    (c.in_ok-places.ensures ∙ ap (λ ts. places_of ts c.as_slice-2.result.now) c.as_slice.ensures
    ∙ ap (places_of q.cells) c.as_slice-2.ensures.value)
    (c.in_ok-read.ensures
    ∙ ap (λ ps. with_bits true ps c.new-net.result) c.as_slice-3.ensures.value) in
    let circuits_are = circuits_made q read c.as_slice-5.result.now c.in_ok-literals.literals net1
    c.asserted.new.net read_is
    (c.as_slice-5.ensures.value ∙ c.in_ok-words.ensures ∙ ap words_of c.as_slice-4.ensures.value)
    (c.in_ok-literals.ensures
    ∙ ap (λ ws. asserted c.as_slice-5.result.now ws net1) c.as_slice-6.ensures) in
    record {
      literals = ap made_of circuits_are;
      places = all_made q read c.in_ok-places-2.places.items c.in_ok-literals.literals net1
          c.asserted.new.net c.with_bits-2.new.net read_is circuits_are
          (c.in_ok-places-2.ensures
          ∙ ap (λ ps. with_bits false ps c.asserted.new.net) c.as_slice-7.ensures.value);
    }
