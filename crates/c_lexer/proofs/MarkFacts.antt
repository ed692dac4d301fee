-- Marks, as they are read.
use Rattle.std.proofs.Common.{◌≡◌, ℕ, ◌-◌, ◌<◌, ◌≤◌, Bool, true, false, not, ◌&&◌, ◌==◌, List, []}
use Rattle.std.proofs.Common.{◌∷◌, ◌++◌, length, take, drop, get_or, arith, refl, ap, sym, ◌∙◌}
use Rattle.std.proofs.Common.{subst, ◌⊎◌, inl, inr, length-append, length-take, IsTrue}
use Rattle.std.specs.List.{list_any, list_all}
use Rattle.std.specs.Char.{is_ascii_digit}
use Rattle.std.specs.Str.{bytes_eq}
use Rattle.std.specs.Cmp.Lexicographic.{bytes_decides}
use Rattle.std.proofs.lemmas.Bool.{cases_Bool, and_parts, or_cases, or_parts, eqb-true, not-true}
use Rattle.std.proofs.Math.Seq.{take-append_seam}
use Rattle.std.proofs.lemmas.List.{take-append-drop}
use Rattle.c_lexer.specs.Bytes.{is_blank, is_word_head}
use Rattle.c_lexer.specs.Marks.{is_mark, single_marks, double_marks, triple_marks}
use Rattle.c_lexer.specs.Steps.Reading.{mark_length}

-- what all the items have, one of them has
any_has : {X : Type 0} (test good : X → Bool) (xs : List X) → list_any test xs ≡ true →
    list_all good xs ≡ true → (x : X) × (test x ≡ true) × (good x ≡ true)
any_has test good [] any all = cc
any_has test good (x ∷ xs) any all =
    let p = and_parts (good x) (list_all good xs) all in
    elim (or_cases (test x) (list_any test xs) any) [
      | inl h ↦ (x, h, p.0)
      | inr h ↦ any_has test good xs h p.1
    ]

-- with no other part does a mark's first byte begin
abbrev pub begins_mark : ℕ → Bool
begins_mark byte =
    not (is_blank byte) && not (byte == 35) && not (is_word_head byte) && not (is_ascii_digit byte)
    && not (byte == 39) && not (byte == 34)

first_of_double : (a b : ℕ) (marks : List (List ℕ)) →
    list_any (bytes_eq (a ∷ b ∷ [])) marks ≡ true →
    list_all (λ mark. begins_mark (get_or mark 0 0)) marks ≡ true → begins_mark a ≡ true
first_of_double a b marks any all =
    let found = any_has (bytes_eq (a ∷ b ∷ [])) (λ mark. begins_mark (get_or mark 0 0)) marks any
    all in
    let same : a ∷ b ∷ [] ≡ found.0 = (bytes_decides (a ∷ b ∷ []) found.0).0 found.1 in
    ap (λ mark. begins_mark (get_or mark 0 0)) same ∙ found.2

first_of_triple : (a b c : ℕ) (marks : List (List ℕ)) →
    list_any (bytes_eq (a ∷ b ∷ c ∷ [])) marks ≡ true →
    list_all (λ mark. begins_mark (get_or mark 0 0)) marks ≡ true → begins_mark a ≡ true
first_of_triple a b c marks any all =
    let found = any_has (bytes_eq (a ∷ b ∷ c ∷ [])) (λ mark. begins_mark (get_or mark 0 0)) marks
    any all in
    let same : a ∷ b ∷ c ∷ [] ≡ found.0 = (bytes_decides (a ∷ b ∷ c ∷ []) found.0).0 found.1 in
    ap (λ mark. begins_mark (get_or mark 0 0)) same ∙ found.2

pub mark_first : (byte : ℕ) (more : List ℕ) → is_mark (byte ∷ more) ≡ true → begins_mark byte ≡ true
mark_first byte [] h =
    let found = any_has (λ mark. mark == byte) begins_mark single_marks h refl in
    ap begins_mark (sym (eqb-true found.0 byte found.1)) ∙ found.2
mark_first byte (b ∷ []) h = first_of_double byte b double_marks h refl
mark_first byte (b ∷ c ∷ []) h = first_of_triple byte b c triple_marks h refl
mark_first byte (b ∷ c ∷ d ∷ rest) h = cc

pub mark_short : (mark : List ℕ) → is_mark mark ≡ true → (0 < length mark) × (length mark ≤ 3)
mark_short [] h = cc
mark_short (a ∷ []) h = (omega arith, omega arith)
mark_short (a ∷ b ∷ []) h = (omega arith, omega arith)
mark_short (a ∷ b ∷ c ∷ []) h = (omega arith, omega arith)
mark_short (a ∷ b ∷ c ∷ d ∷ rest) h = cc

-- a front of as many bytes is the front
front_is : (k : ℕ) (text mark rest : List ℕ) → text ≡ mark ++ rest →
    length (take k text) ≡ length mark → take k text ≡ mark
front_is k text mark rest e same =
    (Rattle.c_lexer.proofs.Runs.same_fronts (take k text) mark (drop k text) rest same
    (take-append-drop k text ∙ e)).0

-- where the front of k bytes is no mark, no mark has that length
shorter : (k : ℕ) (text mark rest : List ℕ) → text ≡ mark ++ rest → is_mark mark ≡ true →
    length mark ≤ k → is_mark (take k text) ≡ false → length mark ≤ k - 1
shorter k text mark rest e is most none =
    elim (Rattle.std.proofs.lemmas.Bool.cases_eq (length (take k text)) (length mark)) [
      | inl same ↦ (let bad : true ≡ false = sym is ∙ ap is_mark
          (sym (front_is k text mark rest e same)) ∙ none in
          absurd (Rattle.std.proofs.lemmas.Bool.true≢false bad))
      | inr other ↦ omega (arith, length-take k text, ap length e, length-append mark rest)
    ]

-- the front that is a mark has the length of every mark that is as long, and is whole
taken : (k : ℕ) (text : List ℕ) → take (length (take k text)) text ≡ take k text
taken k text =
    ap (take (length (take k text))) (sym (take-append-drop k text))
    ∙ take-append_seam (take k text) (drop k text)

-- a mark that is read is the longest
pub record LongestFront (text : List ℕ) (n : ℕ) : Type 0 where
  pub within : n ≤ length text
  pub marked : is_mark (take n text) ≡ true
  pub longest : (longer after : List ℕ) → is_mark longer ≡ true → text ≡ longer ++ after →
      length longer ≤ length (take n text)

longest_of : (k : ℕ) (text : List ℕ) → is_mark (take k text) ≡ true →
    ((longer after : List ℕ) → is_mark longer ≡ true → text ≡ longer ++ after → length longer ≤ k) →
    LongestFront text (length (take k text))
longest_of k text is most = record {
  within = omega (arith, length-take k text);
  marked = ap is_mark (taken k text) ∙ is;
  longest = λ longer after h e. (let m = most longer after h e in
      omega (
        arith,
        length-take k text,
        ap length e,
        length-append longer after,
        ap length (taken k text),
      ));
}

pub mark_is : (text : List ℕ) →
    LongestFront text (mark_length text) ⊎ ((mark_length text ≡ 0)
    × ((mark after : List ℕ) → is_mark mark ≡ true → text ≡ mark ++ after → ⊥))
mark_is text = elim (cases_Bool (is_mark (take 3 text))) [
  | inl h ↦ (let n : mark_length text ≡ length (take 3 text) = rw h in
      inl (subst (LongestFront text) (sym n) (longest_of 3 text h (λ longer after is e.
      (mark_short longer is).1))))
  | inr h ↦ elim (cases_Bool (is_mark (take 2 text))) [
    | inl g ↦ (let n : mark_length text ≡ length (take 2 text) = rw (h, g) in
        inl (subst (LongestFront text) (sym n) (longest_of 2 text g (λ longer after is e.
        shorter 3 text longer after e is (mark_short longer is).1 h))))
    | inr g ↦ elim (cases_Bool (is_mark (take 1 text))) [
      | inl f ↦ (let n : mark_length text ≡ length (take 1 text) = rw (h, g, f) in
          inl (subst (LongestFront text) (sym n) (longest_of 1 text f (λ longer after is e.
          shorter 2 text longer after e is
          (shorter 3 text longer after e is (mark_short longer is).1 h) g))))
      | inr f ↦ (let n : mark_length text ≡ 0 = rw (h, g, f) in
          inr (
            n,
            λ mark after is e. (let none = shorter 1 text mark after e is
                (shorter 2 text mark after e is (shorter 3 text mark after e is
                (mark_short mark is).1 h) g) f in
                let some = (mark_short mark is).0 in
                omega arith),
          ))
    ]
  ]
]

-- a mark that no longer one goes on with is read
pub mark_read : (bytes rest : List ℕ) → is_mark bytes ≡ true →
    ((longer after : List ℕ) → IsTrue (is_mark longer) → bytes ++ rest ≡ longer ++ after →
    length longer ≤ length bytes) → mark_length (bytes ++ rest) ≡ length bytes
mark_read bytes rest is longest = elim (mark_is (bytes ++ rest)) [
  | inl f ↦ (let least = f.longest bytes rest is refl in
      let most = longest (take (mark_length (bytes ++ rest)) (bytes ++ rest))
      (drop (mark_length (bytes ++ rest)) (bytes ++ rest)) f.marked
      (sym (take-append-drop (mark_length (bytes ++ rest)) (bytes ++ rest))) in
      omega (arith, f.within, length-take (mark_length (bytes ++ rest)) (bytes ++ rest)))
  | inr none ↦ absurd (none.1 bytes rest is refl)
]
