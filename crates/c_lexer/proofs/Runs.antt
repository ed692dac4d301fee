-- The longest run of bytes that pass.
use Rattle.std.proofs.Common.{◌≡◌, ℕ, Bool, true, List, [], ◌∷◌, ◌++◌, length, take, drop, arith}
use Rattle.std.proofs.Common.{refl, inl, inr, add_comm, add-one}
use Rattle.std.specs.List.{prefix_len, list_all}
use Rattle.std.proofs.lemmas.Bool.{cases_Bool, and_parts}
use Rattle.c_lexer.specs.Bytes.{StopsAt}

-- bytes that all pass, and then none: they are the run
pub run_stops : (p : ℕ → Bool) (word rest : List ℕ) → list_all p word ≡ true → StopsAt p rest →
    prefix_len p (word ++ rest) ≡ length word
run_stops p [] [] all stop = refl
run_stops p [] (byte ∷ rest) all stop = rw stop
run_stops p (byte ∷ word) rest all stop =
    let both = and_parts (p byte) (list_all p word) all in
    let here : p byte ≡ true = both.0 in
    let ih = run_stops p word rest both.1 stop in
    rw here (omega (arith, ih))

pub take_more : (p : ℕ → Bool) (byte : ℕ) (rest : List ℕ) → p byte ≡ true →
    take (prefix_len p (byte ∷ rest)) (byte ∷ rest) ≡ byte ∷ take (prefix_len p rest) rest
take_more p byte rest h = rw (h, add_comm 1 (prefix_len p rest), add-one)

pub drop_more : (p : ℕ → Bool) (byte : ℕ) (rest : List ℕ) → p byte ≡ true →
    drop (prefix_len p (byte ∷ rest)) (byte ∷ rest) ≡ drop (prefix_len p rest) rest
drop_more p byte rest h = rw (h, add_comm 1 (prefix_len p rest), add-one)

-- the run passes
pub run_passes : (p : ℕ → Bool) (text : List ℕ) → list_all p (take (prefix_len p text) text) ≡ true
run_passes p [] = refl
run_passes p (byte ∷ rest) = elim (cases_Bool (p byte)) [
  | inl h ↦ rw (take_more p byte rest h) (rw h (run_passes p rest))
  | inr h ↦ rw h
]

-- and ends where none passes
pub run_ends : (p : ℕ → Bool) (text : List ℕ) → StopsAt p (drop (prefix_len p text) text)
run_ends p [] = refl
run_ends p (byte ∷ rest) = elim (cases_Bool (p byte)) [
  | inl h ↦ rw (drop_more p byte rest h) (run_ends p rest)
  | inr h ↦ rw h h
]

-- two equal lists whose fronts have one length have one front and one rest
pub same_fronts : (a b r q : List ℕ) → length a ≡ length b → a ++ r ≡ b ++ q → (a ≡ b) × (r ≡ q)
same_fronts [] [] r q same e = (refl, e)
same_fronts [] (y ∷ b) r q same e = absurd (omega arith)
same_fronts (x ∷ a) [] r q same e = absurd (omega arith)
same_fronts (x ∷ a) (y ∷ b) r q same e =
    let tails : a ++ r ≡ b ++ q = cc in
    let heads : x ≡ y = cc in
    let more = same_fronts a b r q (omega arith) tails in
    let front : a ≡ b = more.0 in
    (cc, more.1)
