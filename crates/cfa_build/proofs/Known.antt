-- The place of a part follows from the place of the whole, and so the table grows from each
-- statement to its parts.
use Rattle.std.proofs.Common.{◌≡◌, ◌≢◌, ℕ, ◌+◌, ◌<◌, ◌≤◌, false, List, length, get_or, set, Option}
use Rattle.std.proofs.Common.{Some, None, refl, sym, ap, ◌∙◌, subst, inl, inr, ⊎_elim, arith, cond}
use Rattle.std.proofs.Common.{IfSome, IsSomeAnd}
use Rattle.std.specs.List.{All, slice_get}
use Rattle.std.proofs.lemmas.Bool.{cases_eq, cases_Bool, cond-true, cond-false}
use Rattle.std.proofs.lemmas.List.Elements.{Contains-get_or}
use Rattle.std.proofs.lemmas.Option.{same_Some, IfSome_then, slice_get_within}
use Rattle.cpa_model.specs.declared.program.Stmt.{Stmt}
use Rattle.cpa_model.specs.declared.program.Program.{Program}
use Rattle.cpa_model.specs.declared.program.Successor.{Successor}
use Rattle.cpa_model.specs.declared.program.Successor.TheVariants.{GoesTo, AfterWhole}
use Rattle.cpa_model.specs.Programs.{IsStmt, IsBody, IsPart, after_part, parts_of, exit_of, Next}
use Rattle.cpa_model.specs.Programs.{next_body, next_within, next_whole, is_loop, InLoop}
use Rattle.cpa_model.specs.Programs.{loop_nearest, loop_further, function_body, function_part}
use Rattle.cpa_model.specs.TreeLaws.{TreeLaws}
use Rattle.cfa_build.specs.declared.places.Place.{Place}
use Rattle.cfa_build.specs.Places.{IsPlace, ArePlaces, ArePlacesBelow, IsKnown, PartsPlaced}
use Rattle.cfa_build.specs.Places.{place_at, point_of, within}
use Rattle.cfa_build.proofs.Tables.{slice_get-set_same, slice_get-set_other}

-- a part of a statement that is no loop stands in the loops in which the statement stands
loop_of_whole : (P : Program) → TreeLaws P → (n c l : ℕ) (s : Stmt) (t : Successor) → IsStmt P n s
    → after_part n s c ≡ Some t → is_loop s ≡ false → InLoop P l c → InLoop P l n
loop_of_whole P T n c l s t is e not_loop (loop_nearest u x is_u loops f) =
    let same : s ≡ u = (T.one_place_after n l c s u t x is is_u e f).1 in
    absurd (cc)
loop_of_whole P T n c l s t is e not_loop (loop_further b u x is_u plain f up) =
    subst (λ (k : ℕ). InLoop P l k) (sym (T.one_place_after n b c s u t x is is_u e f).0) up

-- a body stands in no loop
no_loop_of_body : (P : Program) → TreeLaws P → (f n l : ℕ) → IsBody P f n → InLoop P l n → ⊥
no_loop_of_body P T f n l body (loop_nearest s x is loops e) =
    T.body_apart f l n body (record { stmt = s; is = is; place = x; part = e })
no_loop_of_body P T f n l body (loop_further b s x is plain e up) =
    T.body_apart f b n body (record { stmt = s; is = is; place = x; part = e })

next_of_part : (P : Program) (n c : ℕ) (s : Stmt) (t : Successor) (next : ℕ) → IsStmt P n s
    → after_part n s c ≡ Some t → Next P n next → Next P c (point_of next t)
next_of_part P n c s (GoesTo m) next is e up = next_within n s is e
next_of_part P n c s AfterWhole next is e up = next_whole n s is e up

-- the place of a part
pub place_of_part : (P : Program) → TreeLaws P
    → (n c : ℕ) (s : Stmt) (t : Successor) (whole : Place) → IsStmt P n s
    → after_part n s c ≡ Some t → IsPlace P n whole → IsPlace P c (place_at (within n s whole) t)
place_of_part P T n c s t whole is e h = record {
  next = next_of_part P n c s t whole.next is e h.next;
  inner = ⊎_elim
      (λ loops. let inner : IfSome (cond (is_loop s) (Some n) whole.inner_loop)
      (λ l. InLoop P l c) = rw loops (loop_nearest s t is loops e) in inner)
      (λ plain. let inner : IfSome (cond (is_loop s) (Some n) whole.inner_loop)
      (λ l. InLoop P l c) = rw plain
      (IfSome_then whole.inner_loop h.inner (λ l up. loop_further n s t is plain e up)) in inner)
      (cases_Bool (is_loop s));
  outer = λ none l in_loop. ⊎_elim
      (λ loops. let wrong : Some n ≡ None = sym (cond-true (is_loop s) (Some n) whole.inner_loop
      loops) ∙ none in absurd (cc))
      (λ plain. h.outer (sym (cond-false (is_loop s) (Some n) whole.inner_loop plain) ∙ none) l
      (loop_of_whole P T n c l s t is e plain in_loop))
      (cases_Bool (is_loop s));
  function = function_part n (record { stmt = s; is = is; place = t; part = e }) h.function;
}

-- the place of a body
pub place_of_body : (P : Program) → TreeLaws P → (f n : ℕ) → IsBody P f n
    → IsPlace P n (record { next = exit_of P f; inner_loop = None; function = f })
place_of_body P T f n body = record {
  next = next_body f body;
  inner = tt;
  outer = λ none l in_loop. no_loop_of_body P T f n l body in_loop;
  function = function_body body;
}

-- the table has room for the parts of a statement
pub parts_inside : (P : Program) → TreeLaws P → (n : ℕ) (s : Stmt) (size : ℕ) → IsStmt P n s
    → size ≡ length P.stmts → All (λ c. c < size) (parts_of s)
parts_inside P T n s size is e k d h =
    let part = (T.parts n s (get_or (parts_of s) k d)).0 (Contains-get_or (parts_of s) k d h) in
    let above =
    T.part_above n (get_or (parts_of s) k d)
    (record { stmt = s; is = is; place = part.0; part = part.1 }) in
    omega (arith, above.1)

-- the place that the table has for a statement that it knows
pub known_place : (P : Program) → TreeLaws P → (n : ℕ) (places : List Place) (whole : Place)
    → n < length P.stmts → ArePlacesBelow P n places → slice_get places n ≡ Some whole
    → IsPlace P n whole
known_place P T n places whole inside h e =
    let is : IsSomeAnd (slice_get places n) (IsPlace P n) = h.right n (T.has_origin n inside) in
    rw e at is

by_successor : (o : Option Successor) (Q : Type 0) → ((t : Successor) → o ≡ Some t → Q)
    → (o ≡ None → Q) → Q
by_successor (Some t) Q f g = f t refl
by_successor None Q f g = g refl

-- what is no part of n, and known one step later, was known
known_before : (P : Program) (n : ℕ) (s : Stmt) (k : ℕ) → IsStmt P n s → after_part n s k ≡ None
    → IsKnown P (n + 1) k → IsKnown P n k
known_before P n s k is none (inl body) = inl body
known_before P n s k is none (inr part) =
    ⊎_elim
    (λ same.
    let p : IsPart P part.0 k = part.2 in
    let stmts : p.stmt ≡ s = same_Some p.stmt s (sym p.is ∙ ap (slice_get P.stmts) same ∙ is) in
    let wrong : Some p.place ≡ None =
    sym p.part ∙ ap (λ b. after_part b p.stmt k) same ∙ ap (λ v. after_part n v k) stmts ∙ none in
    absurd (cc))
    (λ other. inr (part.0, omega (arith, part.1, other), part.2))
    (cases_eq part.0 n)

-- after the parts of the statement n are written the table knows the parts of the statements up to
-- n
pub more_known : (P : Program) → TreeLaws P
    → (n : ℕ) (s : Stmt) (whole : Place) (old new : List Place) → IsStmt P n s
    → ArePlacesBelow P n old → slice_get old n ≡ Some whole → length new ≡ length old
    → PartsPlaced (after_part n s) (within n s whole) old new → ArePlacesBelow P (n + 1) new
more_known P T n s whole old new is below at len placed =
    let inside : n < length P.stmts = slice_get_within P.stmts n s is in
    let here : IsPlace P n whole = known_place P T n old whole inside below at in
    let Right : ℕ → Type 0 = λ k. IsSomeAnd (slice_get new k) (IsPlace P k) in
    let part : (k : ℕ) (t : Successor) → after_part n s k ≡ Some t → Right k =
    λ k t e. rw (placed.parts k t e) (place_of_part P T n k s t whole is e here) in
    let other : (k : ℕ) → after_part n s k ≡ None → IsKnown P n k → Right k =
    λ k e known. rw (placed.others k e) (below.right k known) in
    record {
      each = len ∙ below.each;
      right =
          λ k known. by_successor (after_part n s k) (Right k) (part k)
          (λ none. other k none (known_before P n s k is none known));
    }

-- a write of a right place keeps what is right
pub right_after_write : (P : Program) (places : List Place) (c k : ℕ) (place : Place)
    → c < length places → IsPlace P c place → (k ≢ c → IsSomeAnd (slice_get places k) (IsPlace P k))
    → IsSomeAnd (slice_get (set places c place) k) (IsPlace P k)
right_after_write P places c k place inside right other =
    ⊎_elim
    (λ same. rw same (rw (slice_get-set_same places c place inside) right))
    (λ apart. rw (slice_get-set_other places c k place apart) (other apart))
    (cases_eq k c)

-- once the parts of all statements are written the table is whole
pub all_known : (P : Program) → TreeLaws P → (n : ℕ) (places : List Place) → length P.stmts ≤ n
    → ArePlacesBelow P n places → ArePlaces P places
all_known P T n places all h = record {
  each = h.each;
  right =
      λ k inside. h.right k (⊎_elim (λ body. inl body)
      (λ part. inr (part.0, omega (arith, part.1), part.2)) (T.has_origin k inside));
}

-- the table has the places of the bodies of the functions below f
abbrev pub BodiesPlaced : Program → ℕ → List Place → Type 0
BodiesPlaced P f places =
    (g n : ℕ) → g < f → IsBody P g n → IsSomeAnd (slice_get places n) (IsPlace P n)

pub body_in_table : (P : Program) → TreeLaws P → (f body : ℕ) (places : List Place)
    → IsBody P f body → length places ≡ length P.stmts → body < length places
body_in_table P T f body places is len = omega (arith, T.body_inside f body is)

pub one_more_body : (P : Program) → TreeLaws P → (f exit body : ℕ) (places : List Place)
    → IsBody P f body → exit ≡ exit_of P f → length places ≡ length P.stmts
    → BodiesPlaced P f places
    → BodiesPlaced P (f + 1) (set places body
    (record { next = exit; inner_loop = None; function = f }))
one_more_body P T f exit body places at e len below g n less is =
    let place : Place = record { next = exit; inner_loop = None; function = f } in
    let here : IsPlace P body place = rw e (place_of_body P T f body at) in
    right_after_write P places body n place (body_in_table P T f body places at len) here
    (λ apart.
    let other : g ≡ f → ⊥ =
    λ same. apart (same_Some n body (sym is ∙ ap (slice_get P.bodies) same ∙ at)) in
    below g n (omega arith) is)

-- once the bodies of all functions are written
pub bodies_known : (P : Program) (f : ℕ) (places : List Place) → length P.bodies ≤ f
    → length places ≡ length P.stmts → BodiesPlaced P f places → ArePlacesBelow P 0 places
bodies_known P f places all len h = record {
  each = len;
  right =
      λ k known. ⊎_elim (λ body. h body.0 k
      (let inside = slice_get_within P.bodies body.0 k body.1 in omega arith) body.1)
      (λ part. absurd (omega (arith, part.1))) known;
}
