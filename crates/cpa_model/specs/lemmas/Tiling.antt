-- Lists of numbers whose trees stand one after another: where the parts begin and end.
use Rattle.std.proofs.Common.{◌≡◌, ℕ, zero, suc, ◌<◌, ◌≤◌, List, [], ◌∷◌, Option, Some, slice_get}
use Rattle.std.proofs.Common.{sym, ◌∙◌, ap, subst, refl, arith, ⊎_elim}
use Rattle.std.proofs.lemmas.Option.{none-some, same_Some}
use Rattle.std.proofs.lemmas.Bool.{cases_lt}
use Rattle.cpa_model.specs.Programs.{Tiles}

-- from first on, a tree ends after the number at which it begins
abbrev pub Grows : List ℕ → ℕ → Type 0
Grows ends first = (m end : ℕ) → first ≤ m → slice_get ends m ≡ Some end → m < end

-- one place of a list has one value
pub one_value : {X : Type 0} (o : Option X) (x y : X) → o ≡ Some x → o ≡ Some y → x ≡ y
one_value o x y e f = same_Some x y (sym e ∙ f)

pub Tiles-grow : (ends : List ℕ) (first : ℕ) (cs : List ℕ) (last : ℕ) → Grows ends first
    → Tiles ends first cs last → first ≤ last
Tiles-grow ends first [] last grows t = omega arith
Tiles-grow ends first (c ∷ cs) last grows t =
    let above : c < t.1 = grows c t.1 (omega (arith, t.0)) t.2 in
    let rest : t.1 ≤ last =
    Tiles-grow ends t.1 cs last (λ m end h. grows m end (omega (arith, t.0))) t.3 in
    omega (arith, t.0)

-- a part begins where the whole does or later, and ends where the whole does or earlier
pub part_within : (ends : List ℕ) (first : ℕ) (cs : List ℕ) (last k c end : ℕ) → Grows ends first
    → Tiles ends first cs last → slice_get cs k ≡ Some c → slice_get ends c ≡ Some end
    → (first ≤ c) × (c < end) × (end ≤ last)
part_within ends first [] last k c end grows t at ends_at = absurd (none-some c at)
part_within ends first (d ∷ ds) last zero c end grows t at ends_at =
    let same : d ≡ c = same_Some d c at in
    let end_is : t.1 ≡ end =
    one_value (slice_get ends c) t.1 end (subst (λ (x : ℕ). slice_get ends x ≡ Some t.1) same t.2)
    ends_at in
    let above : c < end = grows c end (omega (arith, t.0)) ends_at in
    let rest : t.1 ≤ last =
    Tiles-grow ends t.1 ds last (λ m e h. grows m e (omega (arith, t.0))) t.3 in
    (omega (arith, t.0), above, omega arith)
part_within ends first (d ∷ ds) last (suc k) c end grows t at ends_at =
    let above : d < t.1 = grows d t.1 (omega (arith, t.0)) t.2 in
    let rest : (t.1 ≤ c) × (c < end) × (end ≤ last) =
    part_within ends t.1 ds last k c end (λ m e h. grows m e (omega (arith, t.0))) t.3 at ends_at in
    (omega (arith, t.0), rest.1, rest.2)

-- each part has an end
pub part_ends : (ends : List ℕ) (first : ℕ) (cs : List ℕ) (last k c : ℕ) → Tiles ends first cs last
    → slice_get cs k ≡ Some c → (end : ℕ) × (slice_get ends c ≡ Some end)
part_ends ends first [] last k c t at = absurd (none-some c at)
part_ends ends first (d ∷ ds) last zero c t at =
    (t.1, subst (λ (x : ℕ). slice_get ends x ≡ Some t.1) (same_Some d c at) t.2)
part_ends ends first (d ∷ ds) last (suc k) c t at = part_ends ends t.1 ds last k c t.3 at

-- of two parts the greater begins where the other ends or later
pub parts_apart : (ends : List ℕ) (first : ℕ) (cs : List ℕ) (last j k c d end : ℕ)
    → Grows ends first → Tiles ends first cs last → slice_get cs j ≡ Some c
    → slice_get cs k ≡ Some d → c < d → slice_get ends c ≡ Some end → end ≤ d
parts_apart ends first [] last j k c d end grows t at_c at_d less ends_at =
    absurd (none-some c at_c)
parts_apart ends first (x ∷ xs) last zero zero c d end grows t at_c at_d less ends_at =
    let one : x ≡ c = same_Some x c at_c in
    let two : x ≡ d = same_Some x d at_d in
    omega arith
parts_apart ends first (x ∷ xs) last zero (suc k) c d end grows t at_c at_d less ends_at =
    let same : x ≡ c = same_Some x c at_c in
    let end_is : t.1 ≡ end =
    one_value (slice_get ends c) t.1 end (subst (λ (y : ℕ). slice_get ends y ≡ Some t.1) same t.2)
    ends_at in
    let later : Grows ends t.1 =
    λ m e h. grows m e (let up : x < t.1 = grows x t.1
    (omega (arith, t.0)) t.2 in omega (arith, t.0)) in
    let end_of_d : (e : ℕ) × (slice_get ends d ≡ Some e) =
    part_ends ends t.1 xs last k d t.3 at_d in
    let where_d : (t.1 ≤ d) × (d < end_of_d.0) × (end_of_d.0 ≤ last) =
    part_within ends t.1 xs last k d end_of_d.0 later t.3 at_d end_of_d.1 in
    omega (arith, where_d.0)
parts_apart ends first (x ∷ xs) last (suc j) zero c d end grows t at_c at_d less ends_at =
    let same : x ≡ d = same_Some x d at_d in
    let up : x < t.1 = grows x t.1 (omega (arith, t.0)) t.2 in
    let later : Grows ends t.1 = λ m e h. grows m e (omega (arith, t.0)) in
    let where_c : (t.1 ≤ c) × (c < end) × (end ≤ last) =
    part_within ends t.1 xs last j c end later t.3 at_c ends_at in
    omega (arith, where_c.0)
parts_apart ends first (x ∷ xs) last (suc j) (suc k) c d end grows t at_c at_d less ends_at =
    let up : x < t.1 = grows x t.1 (omega (arith, t.0)) t.2 in
    parts_apart ends t.1 xs last j k c d end (λ m e h. grows m e (omega (arith, t.0)))
    t.3 at_c at_d less ends_at

-- a part stands at one place
pub one_place : (ends : List ℕ) (first : ℕ) (cs : List ℕ) (last j k c : ℕ) → Grows ends first
    → Tiles ends first cs last → slice_get cs j ≡ Some c → slice_get cs k ≡ Some c → j ≡ k
one_place ends first [] last j k c grows t at_j at_k = absurd (none-some c at_j)
one_place ends first (x ∷ xs) last zero zero c grows t at_j at_k = refl
one_place ends first (x ∷ xs) last zero (suc k) c grows t at_j at_k =
    let same : x ≡ c = same_Some x c at_j in
    let up : x < t.1 = grows x t.1 (omega (arith, t.0)) t.2 in
    let end_of_c : (e : ℕ) × (slice_get ends c ≡ Some e) =
    part_ends ends t.1 xs last k c t.3 at_k in
    let where_c : (t.1 ≤ c) × (c < end_of_c.0) × (end_of_c.0 ≤ last) =
    part_within ends t.1 xs last k c end_of_c.0
    (λ m e h. grows m e (omega (arith, t.0))) t.3 at_k end_of_c.1 in
    absurd (omega (arith, where_c.0))
one_place ends first (x ∷ xs) last (suc j) zero c grows t at_j at_k =
    let same : x ≡ c = same_Some x c at_k in
    let up : x < t.1 = grows x t.1 (omega (arith, t.0)) t.2 in
    let end_of_c : (e : ℕ) × (slice_get ends c ≡ Some e) =
    part_ends ends t.1 xs last j c t.3 at_j in
    let where_c : (t.1 ≤ c) × (c < end_of_c.0) × (end_of_c.0 ≤ last) =
    part_within ends t.1 xs last j c end_of_c.0
    (λ m e h. grows m e (omega (arith, t.0))) t.3 at_j end_of_c.1 in
    absurd (omega (arith, where_c.0))
one_place ends first (x ∷ xs) last (suc j) (suc k) c grows t at_j at_k =
    let up : x < t.1 = grows x t.1 (omega (arith, t.0)) t.2 in
    ap suc (one_place ends t.1 xs last j k c (λ m e h. grows m e (omega (arith, t.0))) t.3 at_j
    at_k)

-- the part whose tree has the number n
pub record Covering (ends cs : List ℕ) (n : ℕ) : Type 0 where
  pub place : ℕ
  pub part : ℕ
  pub end : ℕ
  pub at : slice_get cs place ≡ Some part
  pub ends_at : slice_get ends part ≡ Some end
  pub from : part ≤ n
  pub below : n < end

pub covering : (ends : List ℕ) (first : ℕ) (cs : List ℕ) (last n : ℕ) → Tiles ends first cs last
    → first ≤ n → n < last → Covering ends cs n
covering ends first [] last n t from below = absurd (omega arith)
covering ends first (c ∷ cs) last n t from below =
    ⊎_elim
    (λ less. record {
      place = 0;
      part = c;
      end = t.1;
      at = refl;
      ends_at = t.2;
      from = omega (arith, t.0);
      below = less;
    })
    (λ more. let rest : Covering ends cs n = covering ends t.1 cs last n t.3 more below in
    record {
      place = suc rest.place;
      part = rest.part;
      end = rest.end;
      at = rest.at;
      ends_at = rest.ends_at;
      from = rest.from;
      below = rest.below;
    })
    (cases_lt n t.1)
