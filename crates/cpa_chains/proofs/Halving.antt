-- Rooms of lines are filled part by part: what holds of the halves holds of the whole.
use Rattle.std.proofs.Common.{◌≡◌, ℕ, zero, suc, ◌+◌, ◌<◌, List, [], ◌∷◌, ◌++◌, length, map, take}
use Rattle.std.proofs.Common.{drop}
use Rattle.std.proofs.Common.{◌≤◌, refl, sym, ap, ◌∙◌, subst, arith, get_or, Bool}
use Rattle.std.specs.List.{AllZip}
use Rattle.std.proofs.lemmas.List.{take_more, take_all}
use Rattle.cpa_cnf.specs.declared.formula.Line.{Line}
use Rattle.cpa_chains.specs.declared.parallel.Room.{Room}
use Rattle.cpa_chains.specs.Rooms.{IsRoomFor, partial_in}
use Rattle.cpa_chains.specs.Tables.{partial_by}

-- ---- the halves of lines and of their rooms

pub zip_take : (R : Line → Room → Type 0) (m : ℕ) (xs : List Line) (us : List Room)
    → AllZip R xs us → AllZip R (take m xs) (take m us)
zip_take R zero xs us all = tt
zip_take R (suc m) [] [] all = tt
zip_take R (suc m) [] (u ∷ us) all = absurd all
zip_take R (suc m) (x ∷ xs) [] all = absurd all
zip_take R (suc m) (x ∷ xs) (u ∷ us) all = (all.0, zip_take R m xs us all.1)

pub zip_drop : (R : Line → Room → Type 0) (m : ℕ) (xs : List Line) (us : List Room)
    → AllZip R xs us → AllZip R (drop m xs) (drop m us)
zip_drop R zero xs us all = all
zip_drop R (suc m) [] [] all = tt
zip_drop R (suc m) [] (u ∷ us) all = absurd all
zip_drop R (suc m) (x ∷ xs) [] all = absurd all
zip_drop R (suc m) (x ∷ xs) (u ∷ us) all = zip_drop R m xs us all.1

pub zip_push : (R : Line → Room → Type 0) (xs : List Line) (us : List Room) (x : Line) (u : Room)
    → AllZip R xs us → R x u → AllZip R (xs ++ x ∷ []) (us ++ u ∷ [])
zip_push R [] [] x u all here = (here, tt)
zip_push R [] (v ∷ vs) x u all here = absurd all
zip_push R (y ∷ ys) [] x u all here = absurd all
zip_push R (y ∷ ys) (v ∷ vs) x u all here = (all.0, zip_push R ys vs x u all.1 here)

pub zip_lengths : (R : Line → Room → Type 0) (xs : List Line) (us : List Room) → AllZip R xs us
    → length us ≡ length xs
zip_lengths R [] [] all = refl
zip_lengths R [] (u ∷ us) all = absurd all
zip_lengths R (x ∷ xs) [] all = absurd all
zip_lengths R (x ∷ xs) (u ∷ us) all = ap (λ n. suc n) (zip_lengths R xs us all.1)

-- ---- a run, line after line

-- the first i are filled, and room is left for those behind them
pub record IsFilled (table : List Bool) (lines : List Line) (rooms : List Room) (i : ℕ) : Type 0
  where
    pub filled : map partial_in (take i rooms) ≡ map (partial_by table) (take i lines)
    pub left : AllZip IsRoomFor (drop i lines) (drop i rooms)
    pub long : length rooms ≡ length lines

pub none_filled : (table : List Bool) (lines : List Line) (rooms : List Room)
    → AllZip IsRoomFor lines rooms → IsFilled table lines rooms 0
none_filled table lines rooms all = record {
  filled = refl;
  left = all;
  long = zip_lengths IsRoomFor lines rooms all;
}

-- no line is left
pub all_filled : (table : List Bool) (lines : List Line) (rooms : List Room) (i : ℕ)
    → length lines ≤ i → IsFilled table lines rooms i
    → map partial_in rooms ≡ map (partial_by table) lines
all_filled table lines rooms i over is =
    ap (map partial_in) (sym (take_all i rooms (omega (arith, is.long, over))))
    ∙ is.filled ∙ ap (map (partial_by table)) (take_all i lines over)

-- ---- room for the lines

-- one room more is taken
pub room_taken : (lines : List Line) (rooms : List Room) (i : ℕ) (line : Line) (room : Room)
    → i < length lines → line ≡ get_or lines i line → AllZip IsRoomFor (take i lines) rooms
    → IsRoomFor line room → AllZip IsRoomFor (take (i + 1) lines) (rooms ++ room ∷ [])
room_taken lines rooms i line room below is all here =
    subst (λ (xs : List Line). AllZip IsRoomFor xs (rooms ++ room ∷ []))
    (sym (take_more lines i line below))
    (zip_push IsRoomFor (take i lines) rooms (get_or lines i line) room all
    (subst (λ (l : Line). IsRoomFor l room) is here))
