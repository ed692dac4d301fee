-- What is written one after the other.
use Rattle.std.proofs.Common.{◌≡◌, ◌++◌, ◌∷◌, [], List, Result, Ok, Err, OnOk, ap, sym, ◌∙◌}
use Rattle.std.proofs.Common.{append_assoc}
use Rattle.json.specs.Token.{Token}
use Rattle.json.specs.Written.{Written, Writes}
use Rattle.json.specs.Token.{end_array}
use Rattle.serde_json.specs.Data.{Items, no_items}
use Rattle.cpa_report_print.specs.Tokens.{Wrote, items_onto}

-- one token
pub one : {a b : Written} {t : Token} → b.before ≡ a.before → b.tokens ≡ a.tokens ++ t ∷ []
    → Wrote a b (λ ts. t ∷ ts)
one {a} {b} {t} before tokens = record {
  before = before;
  tokens = λ rest. ap (λ ts. ts ++ rest) tokens ∙ append_assoc a.tokens (t ∷ []) rest;
}

-- one after the other
pub both : {a b c : Written} {f g : List Token → List Token} → Wrote a b f → Wrote b c g
    → Wrote a c (λ ts. f (g ts))
both {a} {b} {c} {f} {g} first second = record {
  before = second.before ∙ first.before;
  tokens = λ rest. second.tokens rest ∙ first.tokens (g rest);
}

-- one token behind what was written
pub last : {E : Type 0} {r : Result (Unit {0}) E} {a b c : Written} {f : List Token → List Token}
    {t : Token} → Wrote a b f → Writes r b c t → OnOk r (Wrote a c (λ ts. f (t ∷ ts)))
last {r = Ok x} first end = both first (one end.room.0 end.ok)
last {r = Err e} first end = tt

-- what stands and what is left is the whole
pub record Left (a b : Written) (left whole : Items) : Type 0 where
  pub before : b.before ≡ a.before
  pub tokens : (rest : List Token)
      → b.tokens ++ items_onto left rest ≡ a.tokens ++ items_onto whole rest

-- nothing is left, and the list is closed
pub closed : {E : Type 0} {r : Result (Unit {0}) E} {a b c d : Written}
    {f : List Token → List Token} {left whole : Items} → Wrote a b f → Left b c left whole
    → left ≡ no_items → Writes r c d end_array → OnOk r (Wrote a d (λ ts. f (items_onto whole ts)))
closed {r = Ok x} {b = b} {c = c} {d = d} {whole = whole} front l none end =
    let wrote : Wrote c d (λ ts. end_array ∷ ts) = one end.room.0 end.ok in
    let whole_wrote : Wrote b d (items_onto whole) = record {
      before = wrote.before ∙ l.before;
      tokens = λ rest. wrote.tokens rest
          ∙ sym (ap (λ ds. c.tokens ++ items_onto ds rest) none) ∙ l.tokens rest;
    } in
    both front whole_wrote
closed {r = Err e} front l none end = tt
