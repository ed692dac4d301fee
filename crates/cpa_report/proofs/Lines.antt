-- A text is what stands in front, one line, and its end; and what holds of each verdict.
use Rattle.std.proofs.Common.{◌≡◌, List, [], ◌∷◌, ◌++◌, ℕ, ◌-◌, length, take, drop, true, sym, ap}
use Rattle.std.proofs.Common.{ap₂, ◌∙◌, append_assoc, take-append-drop}
use Rattle.std.specs.List.{AllByRecursion}
use Rattle.std.specs.Str.{bytes_eq}
use Rattle.std.specs.Cmp.Lexicographic.{bytes_decides}
use Rattle.cpa_report.specs.Faults.{IsLined}
use Rattle.cpa_report.specs.declared.reading.TheConstants.{VERDICTS}
use Rattle.cpa_report_print.specs.declared.report.Verdict.{Verdict}
use Rattle.cpa_report_print.specs.declared.report.Verdict.TheVariants as verdict

front : (xs p x : List ℕ) → bytes_eq (take (length p) xs) p ≡ true → x ≡ drop (length p) xs
    → xs ≡ p ++ x
front xs p x same is =
    sym (take-append-drop (length p) xs)
    ∙ ap₂ (λ (a b : List ℕ). a ++ b) ((bytes_decides _ _).0 same) (sym is)

back : (xs s x : List ℕ) → bytes_eq (drop (length xs - length s) xs) s ≡ true
    → x ≡ take (length xs - length s) xs → xs ≡ x ++ s
back xs s x same is =
    sym (take-append-drop (length xs - length s) xs)
    ∙ ap₂ (λ (a b : List ℕ). a ++ b) (sym is) ((bytes_decides _ _).0 same)

pub lined : (text words behind rest line p : List ℕ) → p ≡ words
    → bytes_eq (take (length p) text) p ≡ true → behind ≡ drop (length p) text
    → bytes_eq (take 1 behind) (10 ∷ []) ≡ true → rest ≡ drop 1 behind
    → bytes_eq (drop (length rest - 1) rest) (10 ∷ []) ≡ true → line ≡ take (length rest - 1) rest
    → text ≡ (words ++ 10 ∷ []) ++ (line ++ 10 ∷ [])
lined text words behind rest line p is first at second then_at third last =
    front text p behind first at
    ∙ ap (λ (a : List ℕ). a ++ behind) is
    ∙ ap (λ (b : List ℕ). words ++ b) (front behind (10 ∷ []) rest second then_at
    ∙ ap (λ (b : List ℕ). 10 ∷ b) (back rest (10 ∷ []) line third last))
    ∙ sym (append_assoc words (10 ∷ []) (line ++ 10 ∷ []))

abbrev pub HasNone : List ℕ → Verdict → Type 0
HasNone text v = (line : List ℕ) → IsLined text v line → ⊥

pub of_each : (P : Verdict → Type 0) → AllByRecursion P VERDICTS → (v : Verdict) → P v
of_each P all verdict.True = all.0
of_each P all verdict.False = all.1.0
of_each P all verdict.Turns = all.1.1.0
of_each P all verdict.Rounds = all.1.1.1.0
of_each P all verdict.Learnt = all.1.1.1.1.0
of_each P all verdict.Gates = all.1.1.1.1.1.0
of_each P all verdict.NoNew = all.1.1.1.1.1.1.0
of_each P all verdict.Proof = all.1.1.1.1.1.1.1.0
