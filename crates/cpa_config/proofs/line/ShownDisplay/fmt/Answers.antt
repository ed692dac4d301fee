use Rattle.std.proofs.Common.{rules, ◌∙◌, sym, ap, [], ◌∷◌, ◌++◌, append_assoc, append-nil}
use Rattle.std.proofs.Common.{refl, map, chars, subst}
use Rattle.std.proofs.lemmas.Grind.{put_two}
use Rattle.std.proofs.lemmas.Str.{IsUtf8-past_char, chars_past_char, chars-nil}
use Rattle.std.specs.Fmt.{HasWritten}
use Rattle.std.specs.Prelude.{encode_utf8}
use Rattle.std.specs.Str.Iter.{chars_rest}
use Rattle.cpa_config.specs.Lines.{shown_character}
use Rattle.cpa_config.proofs.ShownKeys.{no_bytes, shown_encoded}
use Rattle.cpa_config.proofs.line.ShownDisplay.fmt.Goals as goal

pub loop-character-init : goal.loop-character-init
loop-character-init g c =
    let same = ap chars_rest c.into_iter-character-iterator.ensures.into_iter_gives
    ∙ c.chars-character-items.ensures.rest in (
      search rules,
      [],
      ap (λ bs. map shown_character (chars bs)) same,
      λ plain.
          record { wrote = record { parts = []; calls = refl; whole = refl }; plain = plain },
    )

pub loop-character-preserved : goal.loop-character-preserved
loop-character-preserved g c =
    let (utf8, written, whole, writes) = c.loop-character.invariant in
    let parts = c.in-Some.ensures.steps.0 in
    let here = shown_character c.in-Some.character in
    let piece = ap (λ n. encode_utf8 n) c.shown_character.ensures
    ∙ shown_encoded c.in-Some.character in (
      IsUtf8-past_char _ _ c.in-Some.character utf8 parts,
      written ++ here ∷ [],
      append_assoc written (here ∷ []) _
          ∙ rw (chars_past_char _ _ c.in-Some.character utf8 parts) at whole,
      λ plain.
          let before = writes plain in
          put_two _ _ _ _ written _ (written ++ here ∷ []) before
          (c.in_ok-write_char.ensures.writes before.plain refl) (ap (λ bs. written ++ bs) piece),
    )

pub returns-clause-writes : goal.returns-clause-writes
returns-clause-writes g c = λ plain ok.
    let (utf8, written, whole, writes) = c.loop-character.invariant in
    let ended = no_bytes (chars_rest c.loop-character.character-iterator)
    c.in-None.ensures.steps.0.0 in
    subst (λ bs. HasWritten g.W.Write.write_str_gives c.args.f.now bs c.loop-character.f)
    (sym (append-nil written) ∙ rw (ended, chars-nil) at whole) (writes plain)
