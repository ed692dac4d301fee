-- Where a comment ends.
use Rattle.std.proofs.Common.{◌≡◌, ℕ, ◌+◌, Bool, true, false, not, ◌&&◌, ◌==◌, List, [], ◌∷◌, ◌++◌}
use Rattle.std.proofs.Common.{length, arith, refl, ap, sym, ◌∙◌, subst, inl, inr, Option, Some}
use Rattle.std.proofs.Common.{None, codes}
use Rattle.std.proofs.lemmas.Bool.{cases_Bool, and_parts, not-true, and_from, eqb-true}
use Rattle.std.proofs.lemmas.Bool.{false_from_ne_true, not_from_false}
use Rattle.c_lexer.specs.Gaps.{Lacks}
use Rattle.c_lexer.specs.Steps.Reading.{close_from, one_more}

-- no star is followed by a slash, where `star` says that a star stands before
abbrev pub stays_open : Bool → List ℕ → Bool
stays_open star [] = true
stays_open star (byte ∷ rest) = not (star && byte == 47) && stays_open (byte == 42) rest

pub open_lacks : (star : Bool) (text : List ℕ) → stays_open star text ≡ true →
    Lacks (codes "*/") text
open_lacks star [] kept [] after e = cc
open_lacks star [] kept (b ∷ before) after e = cc
open_lacks star (byte ∷ rest) kept [] after e =
    let both = and_parts (not (star && byte == 47)) (stays_open (byte == 42) rest) kept in
    let head : byte ≡ 42 = cc in
    let behind : rest ≡ 47 ∷ after = cc in
    let bad : stays_open (42 == 42) (47 ∷ after) ≡ true = subst (λ z.
    stays_open (z == 42) (47 ∷ after) ≡ true) head
    (subst (λ z. stays_open (byte == 42) z ≡ true) behind both.1) in
    cc
open_lacks star (byte ∷ rest) kept (b ∷ before) after e =
    let both = and_parts (not (star && byte == 47)) (stays_open (byte == 42) rest) kept in
    let behind : rest ≡ before ++ (codes "*/" ++ after) = cc in
    open_lacks (byte == 42) rest both.1 before after behind

lacks_open_by : (star : Bool) (text : List ℕ) →
    ((rest : List ℕ) → star ≡ true → text ≡ 47 ∷ rest → ⊥) → Lacks (codes "*/") text →
    stays_open star text ≡ true
lacks_open_by star [] head lacks = refl
lacks_open_by star (byte ∷ rest) head lacks =
    let here : (star && byte == 47) ≡ false = false_from_ne_true _ (λ h.
    let p = and_parts star (byte == 47) h in
    head rest p.0 (ap (λ z. z ∷ rest) (eqb-true byte 47 p.1))) in
    let behind : stays_open (byte == 42) rest ≡ true = lacks_open_by (byte == 42) rest
    (λ more starred e. lacks [] more (ap (λ z. z ∷ rest) (eqb-true byte 42 starred)
    ∙ ap (λ z. 42 ∷ z) e))
    (λ before after e. lacks (byte ∷ before) after (ap (λ z. byte ∷ z) e)) in
    and_from _ _ (not_from_false _ here) behind

pub lacks_open : (text : List ℕ) → Lacks (codes "*/") text → stays_open false text ≡ true
lacks_open text lacks = lacks_open_by false text (λ rest starred e. cc) lacks

-- whether a star stands last
abbrev pub ends_star : Bool → List ℕ → Bool
ends_star star [] = star
ends_star star (byte ∷ rest) = ends_star (byte == 42) rest

star_last : (byte : ℕ) (rest : List ℕ) (star : Bool) → ends_star star (byte ∷ rest) ≡ true →
    (body : List ℕ) × (byte ∷ rest ≡ body ++ codes "*")
star_last byte [] star e = ([], ap (λ z. z ∷ []) (eqb-true byte 42 e))
star_last byte (next ∷ rest) star e =
    let ih = star_last next rest (byte == 42) e in
    (byte ∷ ih.0, ap (λ z. byte ∷ z) ih.1)

-- the bytes through the first close are a front that stays kept and ends with a star, and a slash
pub record Closed (star : Bool) (text : List ℕ) (n : ℕ) : Type 0 where
  pub front : List ℕ
  pub rest : List ℕ
  pub spelled : text ≡ front ++ 47 ∷ rest
  pub long : n ≡ length front + 1
  pub first : stays_open star front ≡ true
  pub last : ends_star star front ≡ true

closed_more : (star : Bool) (byte : ℕ) (rest : List ℕ) (n : ℕ) (found : Option ℕ) →
    (star && byte == 47) ≡ false → close_from (byte == 42) rest ≡ found → one_more found ≡ Some n →
    ((m : ℕ) → close_from (byte == 42) rest ≡ Some m → Closed (byte == 42) rest m) →
    Closed star (byte ∷ rest) n
closed_more star byte rest n None kept read e ih = cc
closed_more star byte rest n (Some m) kept read e ih =
    let c = ih m read in
    let same : m + 1 ≡ n = cc in
    let here : not (star && byte == 47) ≡ true = rw kept in
    record {
      front = byte ∷ c.front;
      rest = c.rest;
      spelled = ap (λ z. byte ∷ z) c.spelled;
      long = omega (arith, c.long);
      first = and_from _ _ here c.first;
      last = c.last;
    }

pub close_some : (star : Bool) (text : List ℕ) (n : ℕ) → close_from star text ≡ Some n →
    Closed star text n
close_some star [] n e = cc
close_some star (byte ∷ rest) n e = elim (cases_Bool (star && byte == 47)) [
  | inl h ↦ (let one : Some 1 ≡ Some n = rw h at e in
      let parts = and_parts star (byte == 47) h in
      let same : 1 ≡ n = cc in
      record {
        front = [];
        rest = rest;
        spelled = ap (λ z. z ∷ rest) (eqb-true byte 47 parts.1);
        long = sym same;
        first = refl;
        last = parts.0;
      })
  | inr h ↦ (let more : one_more (close_from (byte == 42) rest) ≡ Some n = rw h at e in
      closed_more star byte rest n (close_from (byte == 42) rest) h refl more
      (close_some (byte == 42) rest))
]

-- a front that stays kept and ends with a star, and a slash, are the bytes through the first close
pub close_read : (star : Bool) (body rest : List ℕ) → stays_open star (body ++ codes "*") ≡ true →
    close_from star ((body ++ codes "*/") ++ rest) ≡ Some (length body + 2)
close_read true [] rest first = refl
close_read false [] rest first = refl
close_read star (byte ∷ body) rest first =
    let both = and_parts (not (star && byte == 47)) (stays_open (byte == 42) (body ++ codes "*"))
    first in
    let kept : (star && byte == 47) ≡ false = not-true (star && byte == 47) both.0 in
    let ih : close_from (byte == 42) ((body ++ codes "*/") ++ rest)
    ≡ Some (length body + 2) = close_read (byte == 42) body rest both.1 in
    let n : length body + 2 + 1 ≡ length (byte ∷ body) + 2 = omega arith in
    rw (kept, ih) (ap Some n)

-- what stays kept has no close
pub open_read : (star : Bool) (text : List ℕ) → stays_open star text ≡ true →
    close_from star text ≡ None
open_read star [] kept = refl
open_read star (byte ∷ rest) kept =
    let both = and_parts (not (star && byte == 47)) (stays_open (byte == 42) rest) kept in
    let here : (star && byte == 47) ≡ false = not-true (star && byte == 47) both.0 in
    let ih : close_from (byte == 42) rest ≡ None = open_read (byte == 42) rest both.1 in
    rw (here, ih)

close_none_more : (found : Option ℕ) → one_more found ≡ None → found ≡ None
close_none_more None e = refl
close_none_more (Some n) e = cc

not_none : (n : ℕ) → Some n ≡ None → ⊥
not_none n e = cc

pub close_none : (star : Bool) (text : List ℕ) → close_from star text ≡ None →
    stays_open star text ≡ true
close_none star [] e = refl
close_none star (byte ∷ rest) e = elim (cases_Bool (star && byte == 47)) [
  | inl h ↦ absurd (not_none 1 (rw h at e))
  | inr h ↦ (let more : one_more (close_from (byte == 42) rest) ≡ None = rw h at e in
      let ih = close_none (byte == 42) rest (close_none_more (close_from (byte == 42) rest) more) in
      rw h ih)
]

-- the front is a body and a star
pub front_body : (front : List ℕ) → ends_star false front ≡ true →
    (body : List ℕ) × (front ≡ body ++ codes "*")
front_body [] e = cc
front_body (byte ∷ rest) e = star_last byte rest false e
