-- The first of each name stays found with one name more (`names_more`), and its count with one row
-- more (`arities_more`).
use Rattle.std.specs.Prelude.{◌≡◌, ℕ, suc, ◌+◌, Bool, true, false, cond, List, [], ◌∷◌, ◌++◌}
use Rattle.std.specs.Prelude.{length}
use Rattle.std.specs.Prelude.{find, Option, None, Some, option_map}
use Rattle.std.proofs.Common.{refl, sym, ap, ◌∙◌, arith}
use Rattle.std.specs.Option.{option_to_list}
use Rattle.std.specs.List.{filter_map, cons_option}
use Rattle.std.specs.Str.{bytes_eq}
use Rattle.std.specs.declared.vec.Vec.{Vec}
use Rattle.std.specs.HashMap.{HashMap}
use Rattle.std.proofs.lemmas.Cmp.{nat_list_eq_equiv}
use Rattle.std.proofs.lemmas.List.{append-nil, append_assoc}
use Rattle.c_types_rules.specs.Names.{or_else, place_of}
use Rattle.c_types_names.specs.Found.{number_of, HasFirsts, HasFirstArities}

place_step : (b c : Bool) (n : ℕ) (held : Option ℕ) →
    elim b [
      | true ↦ Some 0
      | false ↦ option_map (λ n. n + 1) (or_else held (cond c (Some n) None))
    ]
    ≡ or_else (elim b [ true ↦ Some 0 | false ↦ option_map (λ n. n + 1) held ])
    (cond c (Some (suc n)) None)
place_step true c n held = refl
place_step false c n (Some m) = refl
place_step false true n None = let e : n + 1 ≡ suc n = omega arith in ap Some e
place_step false false n None = refl

place_one : (b : Bool) →
    elim b [ true ↦ Some 0 | false ↦ option_map {T = ℕ} (λ n. n + 1) None ]
    ≡ cond {A = Option ℕ} b (Some 0) None
place_one true = refl
place_one false = refl

place_more : {T : Type 0} (test : T → Bool) (xs : List T) (y : T) →
    place_of test (xs ++ y ∷ [])
    ≡ or_else (place_of test xs) (cond {A = Option ℕ} (test y) (Some (length xs)) None)
place_more test [] y = place_one (test y)
place_more test (x ∷ xs) y =
    ap (λ (held : Option ℕ). elim (test x) [
      | true ↦ Some 0
      | false ↦ option_map (λ n. n + 1) held
    ]) (place_more test xs y)
    ∙ place_step (test x) (test y) (length xs) (place_of test xs)

pub names_more : {A S : Type 0} (names : List (List ℕ)) (name : List ℕ)
    (old new : HashMap (Vec ℕ A) ℕ S) → HasFirsts names old →
    ((q : List ℕ) → number_of new q
    ≡ or_else (number_of old q) (cond (bytes_eq name q) (Some (length names)) None)) →
    HasFirsts (names ++ name ∷ []) new
names_more names name old new had h = λ q. h q
    ∙ ap (λ (held : Option ℕ). or_else held (cond (bytes_eq name q) (Some (length names)) None))
    (had q)
    ∙ ap (λ b. or_else (place_of (bytes_eq q) names) (cond b (Some (length names)) None))
    (nat_list_eq_equiv.symm name q)
    ∙ sym (place_more (bytes_eq q) names name)

abbrev counted_by : List (List ℕ × ℕ) → List ℕ → Option ℕ
counted_by rows q = option_map (λ row. row.1) (find (λ row. bytes_eq q row.0) rows)

rows_step : (b c : Bool) (x y : List ℕ × ℕ) (held : Option (List ℕ × ℕ)) →
    option_map (λ row. row.1) (cond b (Some x) (or_else held (cond c (Some y) None)))
    ≡ or_else (option_map (λ row. row.1) (cond b (Some x) held)) (cond c (Some y.1) None)
rows_step true c x y held = refl
rows_step false c x y (Some m) = refl
rows_step false true x y None = refl
rows_step false false x y None = refl

find_more : {T : Type 0} (test : T → Bool) (xs : List T) (y : T) →
    find test (xs ++ y ∷ []) ≡ or_else (find test xs) (cond {A = Option T} (test y) (Some y) None)
find_more test [] y = refl
find_more test (x ∷ xs) y = ap (cond (test x) (Some x)) (find_more test xs y)
    ∙ find_step (test x) x (find test xs) (cond (test y) (Some y) None)
  where
    find_step : {T : Type 0} (b : Bool) (x : T) (held other : Option T) →
        cond b (Some x) (or_else held other) ≡ or_else (cond b (Some x) held) other
    find_step true x held other = refl
    find_step false x held other = refl

count_step : (b : Bool) (y : List ℕ × ℕ) (held : Option (List ℕ × ℕ)) →
    option_map (λ row. row.1) (or_else held (cond b (Some y) None))
    ≡ or_else (option_map (λ row. row.1) held) (cond b (Some y.1) None)
count_step b y (Some x) = refl
count_step true y None = refl
count_step false y None = refl

pub arities_more : {A S : Type 0} (rows : List (List ℕ × ℕ)) (name : List ℕ) (count : ℕ)
    (old new : HashMap (Vec ℕ A) ℕ S) → HasFirstArities rows old →
    ((q : List ℕ) → number_of new q
    ≡ or_else (number_of old q) (cond (bytes_eq name q) (Some count) None)) →
    HasFirstArities (rows ++ (name, count) ∷ []) new
arities_more rows name count old new had h = λ q. h q
    ∙ ap (λ (held : Option ℕ). or_else held (cond (bytes_eq name q) (Some count) None)) (had q)
    ∙ ap (λ b. or_else (counted_by rows q) (cond b (Some count) None))
    (nat_list_eq_equiv.symm name q)
    ∙ sym (count_step (bytes_eq q name) (name, count) (find (λ row. bytes_eq q row.0) rows))
    ∙ ap (option_map (λ row. row.1)) (sym (find_more (λ row. bytes_eq q row.0) rows (name, count)))

-- what one item gives stands between what was found and what the rest gives
pub found_more : {X Y : Type 0} (f : X → Option Y) (held : List Y) (x : X) (xs : List X) →
    held ++ option_to_list (f x) ++ filter_map f xs ≡ held ++ filter_map f (x ∷ xs)
found_more f held x xs = found_step held (f x) (filter_map f xs)
  where
    found_step : {Y : Type 0} (held : List Y) (found : Option Y) (more : List Y) →
        held ++ option_to_list found ++ more ≡ held ++ cons_option found more
    found_step held None more = ap (λ ys. ys ++ more) (append-nil held)
    found_step held (Some y) more = append_assoc held (y ∷ []) more
