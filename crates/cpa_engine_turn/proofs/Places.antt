-- The numbers that are left to compare with, by place: what replaces an entry is the last one, so
-- the
-- place of the next one is the same, or one more.
use Rattle.std.proofs.Common.{◌≡◌, ℕ, zero, suc, ◌+◌, ◌≤◌, List, [], ◌∷◌, ◌++◌, length, take}
use Rattle.std.proofs.Common.{drop}
use Rattle.std.proofs.Common.{Some, refl, sym, ap, ◌∙◌, subst, ⊎_elim, arith}
use Rattle.std.specs.List.{slice_get, remove, AllByRecursion}
use Rattle.std.proofs.lemmas.Option.{same_Some}
use Rattle.cpa_engine_turn.specs.Steps.{MovesOn, LeftAt}

take_first : {X : Type 0} (front : List X) (x : X) (rest : List X)
    → slice_get (front ++ x ∷ rest) (length front) ≡ Some x
take_first [] x rest = refl
take_first (y ∷ front) x rest = take_first front x rest

gone_first : {X : Type 0} (front : List X) (x : X) (rest : List X)
    → remove (front ++ x ∷ rest) (length front) ≡ front ++ rest
gone_first [] x rest = refl
gone_first {X} (y ∷ front) x rest = ap (λ (l : List X). y ∷ l) (gone_first front x rest)

pub shifted : {X : Type 0} (front : List X) (x : X) (rest : List X)
    → front ++ x ∷ rest ≡ (front ++ x ∷ []) ++ rest
shifted [] x rest = refl
shifted {X} (y ∷ front) x rest = ap (λ (l : List X). y ∷ l) (shifted front x rest)

pub grouped : {X : Type 0} (xs ys zs : List X) → (xs ++ ys) ++ zs ≡ xs ++ (ys ++ zs)
grouped [] ys zs = refl
grouped {X} (x ∷ xs) ys zs = ap (λ (l : List X). x ∷ l) (grouped xs ys zs)

size_push : {X : Type 0} (xs : List X) (x : X) → length (xs ++ x ∷ []) ≡ length xs + 1
size_push [] x = omega arith
size_push (y ∷ xs) x = let h = size_push xs x in omega (arith, h)

pub none_behind : (xs : List ℕ) → xs ≡ xs ++ []
none_behind [] = refl
none_behind (x ∷ xs) = ap (λ (l : List ℕ). x ∷ l) (none_behind xs)

pub left_first : (ns : List ℕ) → LeftAt ns 0 ns
left_first ns = record { front = []; behind = []; is = none_behind ns; size = refl }

pub left_there : (ns : List ℕ) (place n : ℕ) (todo : List ℕ) → LeftAt ns place (n ∷ todo)
    → slice_get ns place ≡ Some n
left_there ns place n todo left =
    ap (λ (l : List ℕ). slice_get l place) left.is
    ∙ (ap (λ (k : ℕ). slice_get (left.front ++ n ∷ (todo ++ left.behind)) k) (sym left.size)
    ∙ take_first left.front n (todo ++ left.behind))

pub left_step : (old new : List ℕ) (place next n : ℕ) (todo : List ℕ)
    → LeftAt old place (n ∷ todo) → MovesOn old new place next → LeftAt new next todo
left_step old new place next n todo left moves =
    let front = left.front in
    let behind = left.behind in
    ⊎_elim
    (λ (stay : (next ≡ place + 1) × (new ≡ old)). record {
      front = front ++ n ∷ [];
      behind = behind;
      is = stay.1 ∙ (left.is ∙ shifted front n (todo ++ behind));
      size = let long = size_push front n in let to = stay.0 in let size = left.size in
          omega (arith, long, size, to);
    })
    (λ (gone : (next ≡ place) × (k : ℕ) × (new ≡ remove old place ++ k ∷ [])).
    let rest : remove old place ≡ front ++ (todo ++ behind) =
    ap (λ (l : List ℕ). remove l place) left.is
    ∙ (ap (λ (k : ℕ). remove (front ++ n ∷ (todo ++ behind)) k) (sym left.size)
    ∙ gone_first front n (todo ++ behind)) in
    record {
      front = front;
      behind = behind ++ gone.1 ∷ [];
      is = gone.2 ∙ (ap (λ (l : List ℕ). l ++ gone.1 ∷ []) rest
          ∙ (grouped front (todo ++ behind) (gone.1 ∷ [])
          ∙ ap (λ (l : List ℕ). front ++ l) (grouped todo behind (gone.1 ∷ []))));
      size = left.size ∙ sym gone.0;
    })
    moves.step

-- the item at a place
pub each_at : {X : Type 0} (P : X → Type 0) (xs : List X) → AllByRecursion P xs → (i : ℕ) (x : X)
    → slice_get xs i ≡ Some x → P x
each_at P [] h i x at = absurd (cc)
each_at P (y ∷ xs) h zero x at = subst P (same_Some y x at) h.0
each_at P (y ∷ xs) h (suc i) x at = each_at P xs h.1 i x at

take_suc : {X : Type 0} (xs : List X) (i : ℕ) (x : X) → slice_get xs i ≡ Some x
    → take (suc i) xs ≡ take i xs ++ x ∷ []
take_suc [] i x at = absurd (cc)
take_suc {X} (y ∷ xs) zero x at = ap (λ (z : X). z ∷ []) (same_Some y x at)
take_suc {X} (y ∷ xs) (suc i) x at = ap (λ (l : List X). y ∷ l) (take_suc xs i x at)

-- the items before the next place
pub take_push : {X : Type 0} (xs : List X) (i : ℕ) (x : X) → slice_get xs i ≡ Some x
    → take (i + 1) xs ≡ take i xs ++ x ∷ []
take_push {X} xs i x at =
    let one : i + 1 ≡ suc i = omega arith in
    ap (λ (k : ℕ). take k xs) one ∙ take_suc xs i x at

behind : (ns : List ℕ) (i n : ℕ) → slice_get ns i ≡ Some n → drop i ns ≡ n ∷ drop (suc i) ns
behind [] i n at = absurd (cc)
behind (m ∷ ns) zero n at = ap (λ (k : ℕ). k ∷ ns) (same_Some m n at)
behind (m ∷ ns) (suc i) n at = behind ns i n at

-- those from a place on
pub drop_item : (ns : List ℕ) (i n : ℕ) → slice_get ns i ≡ Some n
    → drop i ns ≡ n ∷ drop (i + 1) ns
drop_item ns i n at =
    let one : i + 1 ≡ suc i = omega arith in
    behind ns i n at ∙ ap (λ (k : ℕ). n ∷ drop k ns) (sym one)

pub take_whole : {X : Type 0} (xs : List X) (i : ℕ) → length xs ≤ i → take i xs ≡ xs
take_whole [] zero all = refl
take_whole [] (suc i) all = refl
take_whole (x ∷ xs) zero all = absurd (omega (arith, all))
take_whole {X} (x ∷ xs) (suc i) all =
    ap (λ (l : List X). x ∷ l) (take_whole xs i (omega (arith, all)))
