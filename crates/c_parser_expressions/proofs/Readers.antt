-- From answers on the parts to an answer on the whole.
use Rattle.std.specs.Prelude.{◌≡◌, ℕ, Bool, true, List, [], ◌∷◌, ◌++◌}
use Rattle.std.specs.Prelude.{refl}
use Rattle.std.proofs.Common.{sym, ◌∙◌, ap, subst}
use Rattle.c_grammar_forms.specs.Forms.{Form, Node, Pair, Many, greedy_text}
use Rattle.c_grammar_forms.specs.lemmas.Steady.{Steady, cons_path, from_place, ends_or_goes}
use Rattle.c_grammar_forms.specs.Reading.{Reads, NoneThrough}
use Rattle.c_grammar_forms.specs.lemmas.Found.{reads_node, reads_pair}
use Rattle.c_grammar_forms.specs.lemmas.NotFound.{only}
use Rattle.c_grammar_forms.specs.lemmas.Loops.{SoFar}

-- what is made of the one reading of a part has no reading where the part has none, and the other
-- way round
module _ {Token S T : Type 0} (f : Token → S → T) {A : ℕ → Form Token S} {at : ℕ → Token}
    {size left p : ℕ} where
  pub none_made : {i : ℕ} → NoneThrough (λ n. Node f (A n)) at size left p i →
      NoneThrough A at size left p i
  none_made g = record {
    onward = g.onward;
    within = g.within;
    none = λ n v b u q r. g.none n v b (f (v.at p) u) q
        (record { parts = u; read = r; made = refl });
  }

-- the items behind the first
abbrev pub tail : {T : Type 0} → List T → List T
tail [] = []
tail (u ∷ us) = us

-- a list in front of which stands a first item
pub reads_tail : {Token T : Type 0} {first : T} {A : ℕ → Form Token (List T)} {at : ℕ → Token}
    {size left p : ℕ} {us : List T} {q : ℕ} →
    Reads (λ n. Node (λ leaf rest. first ∷ rest) (A n)) at size left p us q →
    (us ≡ first ∷ tail us) × Reads A at size left p (tail us) q
reads_tail {first = first} {A} {at} {left = left} {p} {us} {q} r =
    let whole = r.reading 0 in (
      whole.made ∙ cons_path refl (sym (ap tail whole.made)),
      record {
        reading = λ edge. let x = r.reading edge in
            subst (λ rest. A left (greedy_text at edge) left p rest q)
            (sym (ap tail x.made)) x.read;
        onward = r.onward;
        within = r.within;
      },
    )

-- a list behind a part, from which its first items come: behind the part
pub behind_part : {Token S T : Type 0} (f : Token → S × List T → List T) (go : Token → Bool)
    {A : ℕ → Form Token S} (B : ℕ → Form Token T)
    {at : ℕ → Token} {size left p m : ℕ} {a : S} {items : List T} →
    ((leaf : Token) (us : List T) → f leaf (a, us) ≡ items ++ us) → Steady A →
    Reads A at size left p a m →
    SoFar (λ n. Node f (Pair (A n) (Many go (B n)))) go B at size left p items m
behind_part f go {A} B {at} {size} {left} {p} {m} {a} {items} made steady r = record {
  reads = λ us q s. reads_node f (sym (made (at p) us)) (reads_pair r s);
  front = λ i n v below b ts q s.
      let e = only {at = at} steady r below b s.read.first in
      record {
        rest = s.parts.1;
        joined = s.made ∙ (ap (λ x. f (v.at p) (x, s.parts.1)) (sym e.0) ∙ made (v.at p) s.parts.1);
        more = from_place (Many go (B n)) e.1 s.read.second;
      };
  onward = r.onward;
  within = r.within;
}

-- a list that goes on is not empty
pub goes_not_empty : {Token T : Type 0} (go : Token → Bool) (A : ℕ → Form Token T) {at : ℕ → Token}
    {size left p q : ℕ} →
    go (at p) ≡ true → Reads (λ n. Many go (A n)) at size left p [] q → ⊥
unfolding Many
goes_not_empty go A goes r = ends_or_goes ((r.reading 0).stops refl) goes
