-- Numbered programs: each statement has one origin, a body or one statement before it.
use Rattle.std.proofs.Common.{◌≡◌, ℕ, zero, suc, ◌+◌, ◌<◌, ◌≤◌, ◌↔◌, Option, Some, None, IfSome}
use Rattle.std.proofs.Common.{IsSome, length, slice_get, get_or, ◌⊎◌, true, sym, ◌∙◌, ap, subst}
use Rattle.std.proofs.Common.{inl, inr, refl, arith, ⊎_elim}
use Rattle.std.proofs.lemmas.Option.{none-some, same_Some, slice_get_within, slice_get-get_or}
use Rattle.std.proofs.lemmas.Bool.{false≢true, cases_eq, cases_order}
use Rattle.cpa_model.specs.declared.program.Stmt.{Stmt}
use Rattle.cpa_model.specs.declared.program.Stmt.TheVariants as stmt
use Rattle.cpa_model.specs.declared.program.Program.{Program}
use Rattle.cpa_model.specs.declared.program.Successor.{Successor}
use Rattle.cpa_model.specs.declared.program.Successor.TheVariants.{GoesTo, AfterWhole}
use Rattle.cpa_model.specs.Programs.{IsStmt, IsBody, IsPart, IsNumbered, Tiles, after_part}
use Rattle.cpa_model.specs.Programs.{parts_of, exit_of, point_count, Next, next_body, next_within}
use Rattle.cpa_model.specs.Programs.{next_whole, is_loop, InLoop, loop_nearest, loop_further}
use Rattle.cpa_model.specs.Programs.{InFunction, function_body, function_part}
use Rattle.cpa_model.specs.Successors.{IsPartAt}
use Rattle.cpa_model.specs.TreeLaws.{TreeLaws}
use Rattle.cpa_model.specs.lemmas.Tiling.{Grows, one_value, part_within, parts_apart, part_ends}
use Rattle.cpa_model.specs.lemmas.Tiling.{one_place, Covering, covering, Tiles-grow}
use Rattle.cpa_model.specs.lemmas.Parts.{part_of_place, place_of_part, successor_of_part}
pub use Rattle.cpa_model.specs.lemmas.Parts.{part_of_parts, parts_of_part}
use Rattle.cpa_model.specs.lemmas.Parts.{parts_are}

-- a statement of the program
stmt_at : (P : Program) → (n : ℕ) → n < length P.stmts → (s : Stmt) × IsStmt P n s
stmt_at P n h = (get_or P.stmts n stmt.Break, slice_get-get_or P.stmts n stmt.Break h)

-- a number below the length has an end
end_at : (P : Program) (N : IsNumbered P) (n : ℕ) → n < length P.stmts
    → (end : ℕ) × (slice_get N.ends n ≡ Some end)
end_at P N n h = (get_or N.ends n 0, slice_get-get_or N.ends n 0 (omega (arith, N.each)))

-- what has an end is a statement
stmt_of_end : (P : Program) (N : IsNumbered P) (n end : ℕ) → slice_get N.ends n ≡ Some end
    → (s : Stmt) × IsStmt P n s
stmt_of_end P N n end e =
    stmt_at P n (let h : n < length N.ends = slice_get_within N.ends n end
    e in omega (arith, N.each))

-- the tree of each statement ends after it: shown from the last statement down
grows_from : (P : Program) (N : IsNumbered P) (k first : ℕ) → length P.stmts ≤ first + k
    → Grows N.ends first
grows_from P N zero first enough n end from e =
    let h : n < length N.ends = slice_get_within N.ends n end e in
    absurd (omega (arith, N.each))
grows_from P N (suc k) first enough n end from e =
    let s : (s : Stmt) × IsStmt P n s = stmt_of_end P N n end e in
    let later : Grows N.ends (n + 1) = grows_from P N k (n + 1) (omega arith) in
    let up : n + 1 ≤ end =
    Tiles-grow N.ends (n + 1) (parts_of s.0) end later (N.parts n s.0 end s.1 e) in
    omega arith

grows : (P : Program) (N : IsNumbered P) (first : ℕ) → Grows N.ends first
grows P N first = grows_from P N (length P.stmts) first (omega arith)

-- trees nest: the tree of a statement within another tree ends there too
nested : (P : Program) (N : IsNumbered P) (k r n end_r end_n : ℕ) → n ≤ r + k
    → slice_get N.ends r ≡ Some end_r → slice_get N.ends n ≡ Some end_n → r ≤ n → n < end_r
    → end_n ≤ end_r
nested P N zero r n end_r end_n near at_r at_n from below =
    let same : n ≡ r = omega arith in
    let ends : end_n ≡ end_r =
    one_value (slice_get N.ends r) end_n end_r
    (subst (λ (x : ℕ). slice_get N.ends x ≡ Some end_n) same at_n) at_r in
    omega arith
nested P N (suc k) r n end_r end_n near at_r at_n from below =
    ⊎_elim
    (λ same.
    let ends : end_n ≡ end_r =
    one_value (slice_get N.ends r) end_n end_r
    (subst (λ (x : ℕ). slice_get N.ends x ≡ Some end_n) same at_n) at_r in
    omega arith)
    (λ other.
    let s : (s : Stmt) × IsStmt P r s = stmt_of_end P N r end_r at_r in
    let tiles : Tiles N.ends (r + 1) (parts_of s.0) end_r = N.parts r s.0 end_r s.1 at_r in
    let part : Covering N.ends (parts_of s.0) n =
    covering N.ends (r + 1) (parts_of s.0) end_r n tiles (omega (arith, other)) below in
    let inside : (r + 1 ≤ part.part) × (part.part < part.end) × (part.end ≤ end_r) =
    part_within N.ends (r + 1) (parts_of s.0) end_r part.place part.part part.end
    (grows P N (r + 1)) tiles part.at part.ends_at in
    let smaller : end_n ≤ part.end =
    nested P N k part.part n part.end end_n (omega (arith, inside.0)) part.ends_at at_n
    part.from part.below in
    omega (arith, inside.2, smaller))
    (cases_eq n r)

-- the tree of a statement ends within the statements
ends_within : (P : Program) (N : IsNumbered P) (n end : ℕ) → slice_get N.ends n ≡ Some end
    → end ≤ length P.stmts
ends_within P N n end e =
    let h : n < length N.ends = slice_get_within N.ends n end e in
    let root : Covering N.ends P.bodies n =
    covering N.ends 0 P.bodies (length P.stmts) n N.bodies (omega arith) (omega (arith, N.each)) in
    let inside : (0 ≤ root.part) × (root.part < root.end) × (root.end ≤ length P.stmts) =
    part_within N.ends 0 P.bodies (length P.stmts) root.place root.part root.end (grows P N 0)
    N.bodies root.at root.ends_at in
    let smaller : end ≤ root.end =
    nested P N n root.part n root.end end (omega arith) root.ends_at e root.from root.below in
    omega (arith, inside.2)

-- a part with its tree, within the tree of the whole
pub record Placed (P : Program) (N : IsNumbered P) (b c : ℕ) : Type 0 where
  pub stmt : Stmt
  pub is : IsStmt P b stmt
  pub place : ℕ
  pub at : slice_get (parts_of stmt) place ≡ Some c
  pub end : ℕ
  pub ends_at : slice_get N.ends b ≡ Some end
  pub end_of_part : ℕ
  pub part_ends_at : slice_get N.ends c ≡ Some end_of_part
  pub tiles : Tiles N.ends (b + 1) (parts_of stmt) end
  pub above : b < c
  pub grown : c < end_of_part
  pub inside : end_of_part ≤ end
  pub below : end ≤ length P.stmts

placed : (P : Program) (N : IsNumbered P) (b c : ℕ) → IsPart P b c → Placed P N b c
placed P N b c part =
    let s = part.stmt in
    let at : (k : ℕ) × (slice_get (parts_of s) k ≡ Some c) =
    place_of_part b s c part.place part.part in
    let end_b : (end : ℕ) × (slice_get N.ends b ≡ Some end) =
    end_at P N b (slice_get_within P.stmts b s part.is) in
    let tiles : Tiles N.ends (b + 1) (parts_of s) end_b.0 = N.parts b s end_b.0 part.is end_b.1 in
    let end_c : (end : ℕ) × (slice_get N.ends c ≡ Some end) =
    part_ends N.ends (b + 1) (parts_of s) end_b.0 at.0 c tiles at.1 in
    let inside : (b + 1 ≤ c) × (c < end_c.0) × (end_c.0 ≤ end_b.0) =
    part_within N.ends (b + 1) (parts_of s) end_b.0 at.0 c end_c.0
    (grows P N (b + 1)) tiles at.1 end_c.1 in
    record {
      stmt = s;
      is = part.is;
      place = at.0;
      at = at.1;
      end = end_b.0;
      ends_at = end_b.1;
      end_of_part = end_c.0;
      part_ends_at = end_c.1;
      tiles = tiles;
      above = omega (arith, inside.0);
      grown = inside.1;
      inside = inside.2;
      below = ends_within P N b end_b.0 end_b.1;
    }

-- a part stands after its whole, and is a statement
pub part_above : (P : Program) → IsNumbered P → (b c : ℕ) → IsPart P b c
    → (b < c) × (c < length P.stmts)
part_above P N b c part =
    let w : Placed P N b c = placed P N b c part in
    (w.above, omega arith)

-- of two statements with one part the later does not stand after the earlier
no_second_parent : (P : Program) → IsNumbered P → (a b c : ℕ) → IsPart P a c → IsPart P b c → a < b
    → ⊥
no_second_parent P N a b c part_a part_b less =
    let u : Placed P N a c = placed P N a c part_a in
    let v : Placed P N b c = placed P N b c part_b in
    let same : u.end_of_part ≡ v.end_of_part =
    one_value (slice_get N.ends c) u.end_of_part v.end_of_part u.part_ends_at v.part_ends_at in
    let d : Covering N.ends (parts_of u.stmt) b =
    covering N.ends (a + 1) (parts_of u.stmt) u.end b u.tiles (omega arith)
    (omega (arith, v.above, u.grown, u.inside)) in
    let within : v.end ≤ d.end =
    nested P N b d.part b d.end v.end (omega arith) d.ends_at v.ends_at d.from d.below in
    let apart : d.end ≤ c =
    parts_apart N.ends (a + 1) (parts_of u.stmt) u.end d.place u.place d.part c d.end
    (grows P N (a + 1)) u.tiles d.at u.at
    (omega (arith, d.from, v.above)) d.ends_at in
    omega (arith, within, apart, v.grown, v.inside)

-- a part has one whole
pub one_parent : (P : Program) → IsNumbered P → (a b c : ℕ) → IsPart P a c → IsPart P b c → a ≡ b
one_parent P N a b c part_a part_b =
    ⊎_elim
    (λ same. same)
    (λ other.
    ⊎_elim
    (λ less. absurd (no_second_parent P N a b c part_a part_b less))
    (λ more. absurd (no_second_parent P N b a c part_b part_a more))
    other)
    (cases_order a b)

-- a body is no part
pub body_apart : (P : Program) → IsNumbered P → (f b n : ℕ) → IsBody P f n → IsPart P b n → ⊥
body_apart P N f b n body part =
    let w : Placed P N b n = placed P N b n part in
    let r : Covering N.ends P.bodies b =
    covering N.ends 0 P.bodies (length P.stmts) b N.bodies (omega arith)
    (omega (arith, w.above, w.grown, w.inside, w.below)) in
    let within : w.end ≤ r.end =
    nested P N b r.part b r.end w.end (omega arith) r.ends_at w.ends_at r.from r.below in
    let apart : r.end ≤ n =
    parts_apart N.ends 0 P.bodies (length P.stmts) r.place f r.part n r.end
    (grows P N 0) N.bodies r.at body
    (omega (arith, r.from, w.above)) r.ends_at in
    omega (arith, within, apart, w.grown, w.inside)

-- a statement is the body of one function
pub one_body : (P : Program) → IsNumbered P → (f g n : ℕ) → IsBody P f n → IsBody P g n → f ≡ g
one_body P N f g n body_f body_g =
    one_place N.ends 0 P.bodies (length P.stmts) f g n (grows P N 0) N.bodies body_f body_g

-- a body is a statement
pub body_inside : (P : Program) → IsNumbered P → (f n : ℕ) → IsBody P f n → n < length P.stmts
body_inside P N f n body =
    let end : (end : ℕ) × (slice_get N.ends n ≡ Some end) =
    part_ends N.ends 0 P.bodies (length P.stmts) f n N.bodies body in
    let h : n < length N.ends = slice_get_within N.ends n end.0 end.1 in
    omega (arith, N.each)

-- the whole of a statement within a tree, found from the root down
whole_within : (P : Program) (N : IsNumbered P) (k r n end : ℕ) → n ≤ r + k
    → slice_get N.ends r ≡ Some end → r < n → n < end → (b : ℕ) × (b < n) × IsPart P b n
whole_within P N zero r n end near at less below = absurd (omega arith)
whole_within P N (suc k) r n end near at less below =
    let s : (s : Stmt) × IsStmt P r s = stmt_of_end P N r end at in
    let tiles : Tiles N.ends (r + 1) (parts_of s.0) end = N.parts r s.0 end s.1 at in
    let d : Covering N.ends (parts_of s.0) n =
    covering N.ends (r + 1) (parts_of s.0) end n tiles (omega arith) below in
    let inside : (r + 1 ≤ d.part) × (d.part < d.end) × (d.end ≤ end) =
    part_within N.ends (r + 1) (parts_of s.0) end d.place d.part d.end
    (grows P N (r + 1)) tiles d.at d.ends_at in
    let place : (place : Successor) × (after_part r s.0 d.part ≡ Some place) =
    part_of_place r s.0 d.place d.part d.at in
    ⊎_elim
    (λ same. (
      r,
      less,
      record {
        stmt = s.0;
        is = s.1;
        place = place.0;
        part = subst (λ (x : ℕ). after_part r s.0 x ≡ Some place.0) (sym same) place.1;
      },
    ))
    (λ other. whole_within P N k d.part n d.end (omega (arith, inside.0)) d.ends_at
    (let from : d.part ≤ n = d.from in omega (arith, from, other)) d.below)
    (cases_eq n d.part)

-- each statement is a body, or a part of a statement before it
pub has_origin : (P : Program) → IsNumbered P → (n : ℕ) → n < length P.stmts
    → ((f : ℕ) × IsBody P f n) ⊎ ((b : ℕ) × (b < n) × IsPart P b n)
has_origin P N n h =
    let r : Covering N.ends P.bodies n =
    covering N.ends 0 P.bodies (length P.stmts) n N.bodies (omega arith) h in
    ⊎_elim
    (λ same. inl (r.place, r.at ∙ ap Some (sym same)))
    (λ other. inr (whole_within P N n r.part n r.end (omega arith) r.ends_at
    (let from : r.part ≤ n = r.from in omega (arith, from, other)) r.below))
    (cases_eq n r.part)

-- what stands at a place of the program is one statement
one_stmt : (P : Program) → (n : ℕ) (s t : Stmt) → IsStmt P n s → IsStmt P n t → s ≡ t
one_stmt P n s t e f = one_value (slice_get P.stmts n) s t e f

-- control goes on from a part of one statement in one way
pub one_place_after : (P : Program) → IsNumbered P → (b c n : ℕ) (s t : Stmt) (x y : Successor)
    → IsStmt P b s → IsStmt P c t → after_part b s n ≡ Some x → after_part c t n ≡ Some y
    → (b ≡ c) × (s ≡ t) × (x ≡ y)
one_place_after P N b c n s t x y is_s is_t e f =
    let same : b ≡ c =
    one_parent P N b c n (record { stmt = s; is = is_s; place = x; part = e })
    (record { stmt = t; is = is_t; place = y; part = f }) in
    let is : s ≡ t = one_stmt P c s t (subst (λ (k : ℕ). IsStmt P k s) same is_s) is_t in
    let after : after_part c t n ≡ Some x =
    subst (λ (v : Stmt). after_part c v n ≡ Some x) is
    (subst (λ (k : ℕ). after_part k s n ≡ Some x) same e) in
    (same, is, same_Some x y (sym after ∙ f))

-- after a statement control goes to one point
pub one_next : (P : Program) → IsNumbered P → (n m k : ℕ) → Next P n m → Next P n k → m ≡ k
one_next P N n m k (next_body f is_f) (next_body g is_g) =
    ap (exit_of P) (one_body P N f g n is_f is_g)
one_next P N n m k (next_body f is_f) (next_within b s is e) =
    absurd (body_apart P N f b n is_f (record { stmt = s; is = is; place = GoesTo k; part = e }))
one_next P N n m k (next_body f is_f) (next_whole b s is e up) =
    absurd (body_apart P N f b n is_f (record { stmt = s; is = is; place = AfterWhole; part = e }))
one_next P N n m k (next_within b s is e) (next_body f is_f) =
    absurd (body_apart P N f b n is_f (record { stmt = s; is = is; place = GoesTo m; part = e }))
one_next P N n m k (next_within b s is e) (next_within c t is_t f) =
    let same : GoesTo m ≡ GoesTo k =
    (one_place_after P N b c n s t (GoesTo m) (GoesTo k) is is_t e f).2 in
    cc
one_next P N n m k (next_within b s is e) (next_whole c t is_t f up) =
    let same : GoesTo m ≡ AfterWhole =
    (one_place_after P N b c n s t (GoesTo m) AfterWhole is is_t e f).2 in
    absurd (cc)
one_next P N n m k (next_whole b s is e up) (next_body f is_f) =
    absurd (body_apart P N f b n is_f (record { stmt = s; is = is; place = AfterWhole; part = e }))
one_next P N n m k (next_whole b s is e up) (next_within c t is_t f) =
    let same : AfterWhole ≡ GoesTo k =
    (one_place_after P N b c n s t AfterWhole (GoesTo k) is is_t e f).2 in
    absurd (cc)
one_next P N n m k (next_whole b s is e up) (next_whole c t is_t f up_t) =
    one_next P N b m k up (subst (λ (x : ℕ). Next P x k)
    (sym (one_place_after P N b c n s t AfterWhole AfterWhole is is_t e f).0) up_t)

-- the loop that encloses a statement nearest is one
pub one_loop : (P : Program) → IsNumbered P → (l k n : ℕ) → InLoop P l n → InLoop P k n → l ≡ k
one_loop P N l k n (loop_nearest s x is yes_s e) (loop_nearest t y is_t yes_t f) =
    (one_place_after P N l k n s t x y is is_t e f).0
one_loop P N l k n (loop_nearest s x is yes_s e) (loop_further c t y is_t no_t f up) =
    let same : s ≡ t = (one_place_after P N l c n s t x y is is_t e f).1 in
    absurd (cc)
one_loop P N l k n (loop_further b s x is no_s e up) (loop_nearest t y is_t yes_t f) =
    let same : s ≡ t = (one_place_after P N b k n s t x y is is_t e f).1 in
    absurd (cc)
one_loop P N l k n (loop_further b s x is no_s e up) (loop_further c t y is_t no_t f up_t) =
    one_loop P N l k b up (subst (λ (v : ℕ). InLoop P k v)
    (sym (one_place_after P N b c n s t x y is is_t e f).0) up_t)

-- a statement stands in one function
pub one_function : (P : Program) → IsNumbered P → (f g n : ℕ) → InFunction P f n → InFunction P g n
    → f ≡ g
one_function P N f g n (function_body is_f) (function_body is_g) = one_body P N f g n is_f is_g
one_function P N f g n (function_body is_f) (function_part c part up) =
    absurd (body_apart P N f c n is_f part)
one_function P N f g n (function_part b part up) (function_body is_g) =
    absurd (body_apart P N g b n is_g part)
one_function P N f g n (function_part b part up) (function_part c part_c up_c) =
    one_function P N f g b up (subst (λ (v : ℕ). InFunction P g v)
    (sym (one_parent P N b c n part part_c)) up_c)

-- after a statement control goes to a point of the program
pub next_inside : (P : Program) → IsNumbered P → (n m : ℕ) → Next P n m → m < point_count P
next_inside P N n m (next_body f is_f) =
    let h : f < length P.bodies = slice_get_within P.bodies f n is_f in
    omega arith
next_inside P N n m (next_within b s is e) =
    ⊎_elim
    (λ same.
    let h : b < length P.stmts = slice_get_within P.stmts b s is in
    omega arith)
    (λ part.
    let place : (place : Successor) × (after_part b s m ≡ Some place) = part_of_parts b s m part in
    let h : (b < m) × (m < length P.stmts) =
    part_above P N b m (record { stmt = s; is = is; place = place.0; part = place.1 }) in
    omega (arith, h.1))
    (successor_of_part b s n m e)
next_inside P N n m (next_whole b s is e up) = next_inside P N b m up

-- the nearest loop is a statement
pub loop_inside : (P : Program) → IsNumbered P → (l n : ℕ) → InLoop P l n → l < length P.stmts
loop_inside P N l n (loop_nearest s x is yes_s e) = slice_get_within P.stmts l s is
loop_inside P N l n (loop_further b s x is no_s e up) = loop_inside P N l b up

-- only a loop is one
loop_of_test : (s : Stmt) → is_loop s ≡ true → (body : ℕ) × (step : ℕ) × (s ≡ stmt.Loop body step)
loop_of_test (stmt.Loop body step) e = (body, step, refl)
loop_of_test _ e = absurd (cc)

-- the nearest loop is a Loop
pub loop_is : (P : Program) → (l n : ℕ) → InLoop P l n
    → (body step : ℕ) × IsStmt P l (stmt.Loop body step)
loop_is P l n (loop_nearest s x is yes_s e) =
    let shape : (body : ℕ) × (step : ℕ) × (s ≡ stmt.Loop body step) = loop_of_test s yes_s in
    (shape.0, shape.1, is ∙ ap Some shape.2)
loop_is P l n (loop_further b s x is no_s e up) = loop_is P l b up

-- the nearest loop stands before the statement
pub loop_above : (P : Program) → IsNumbered P → (l n : ℕ) → InLoop P l n → l < n
loop_above P N l n (loop_nearest s x is yes_s e) =
    (part_above P N l n (record { stmt = s; is = is; place = x; part = e })).0
loop_above P N l n (loop_further b s x is no_s e up) =
    let outer : l < b = loop_above P N l b up in
    let here : (b < n) × (n < length P.stmts) =
    part_above P N b n (record { stmt = s; is = is; place = x; part = e }) in
    omega (arith, here.0)

-- a statement stands in a function of the program
pub function_inside : (P : Program) → IsNumbered P → (f n : ℕ) → InFunction P f n
    → f < length P.bodies
function_inside P N f n (function_body is_f) = slice_get_within P.bodies f n is_f
function_inside P N f n (function_part b part up) = function_inside P N f b up

-- what stands in a function is a statement
pub in_function_inside : (P : Program) → IsNumbered P → (f n : ℕ) → InFunction P f n
    → n < length P.stmts
in_function_inside P N f n (function_body is_f) = body_inside P N f n is_f
in_function_inside P N f n (function_part b part up) = (part_above P N b n part).1

-- each statement stands in a function
some_function_within : (P : Program) → IsNumbered P → (k n : ℕ) → n < k → n < length P.stmts
    → (f : ℕ) × InFunction P f n
some_function_within P N zero n less inside = absurd (omega arith)
some_function_within P N (suc k) n less inside =
    ⊎_elim
    (λ body. (body.0, function_body body.1))
    (λ part.
    let rest : (f : ℕ) × InFunction P f part.0 =
    some_function_within P N k part.0 (omega (arith, part.1)) (omega (arith, part.1)) in
    (rest.0, function_part part.0 part.2 rest.1))
    (has_origin P N n inside)

pub some_function : (P : Program) → IsNumbered P → (n : ℕ) → n < length P.stmts
    → (f : ℕ) × InFunction P f n
some_function P N n inside = some_function_within P N (suc n) n (omega arith) inside

-- after a part: by its place
next_of_place : (P : Program) → (b n : ℕ) (s : Stmt) (place : Successor) → IsStmt P b s
    → after_part b s n ≡ Some place → (m : ℕ) × Next P b m → (m : ℕ) × Next P n m
next_of_place P b n s (GoesTo m) is e up = (m, next_within b s is e)
next_of_place P b n s AfterWhole is e up = (up.0, next_whole b s is e up.1)

-- after each statement control goes to some point
some_next_within : (P : Program) → IsNumbered P → (k n : ℕ) → n < k → n < length P.stmts
    → (m : ℕ) × Next P n m
some_next_within P N zero n less inside = absurd (omega arith)
some_next_within P N (suc k) n less inside =
    ⊎_elim
    (λ body. (exit_of P body.0, next_body body.0 body.1))
    (λ part.
    let p : IsPart P part.0 n = part.2 in
    let up : (m : ℕ) × Next P part.0 m =
    some_next_within P N k part.0 (omega (arith, part.1)) (omega (arith, part.1)) in
    next_of_place P part.0 n p.stmt p.place p.is p.part up)
    (has_origin P N n inside)

pub some_next : (P : Program) → IsNumbered P → (n : ℕ) → n < length P.stmts → (m : ℕ) × Next P n m
some_next P N n inside = some_next_within P N (suc n) n (omega arith) inside

-- a statement with no successor after a part has no such part
pub no_part : (P : Program) → (b c : ℕ) (s : Stmt) → IsStmt P b s → after_part b s c ≡ None
    → IsPart P b c → ⊥
no_part P b c s is none part =
    let same : s ≡ part.stmt = one_stmt P b s part.stmt is part.is in
    none-some part.place (sym none ∙ subst (λ (v : Stmt). after_part b v c ≡ Some part.place)
    (sym same) part.part)

-- control goes on after a body or a part only
pub next_needs : (P : Program) → (n m : ℕ) → Next P n m → ((f : ℕ) → IsBody P f n → ⊥)
    → ((b : ℕ) → IsPart P b n → ⊥) → ⊥
next_needs P n m (next_body f is_f) no_body no_whole = no_body f is_f
next_needs P n m (next_within b s is e) no_body no_whole =
    no_whole b (record { stmt = s; is = is; place = GoesTo m; part = e })
next_needs P n m (next_whole b s is e up) no_body no_whole =
    no_whole b (record { stmt = s; is = is; place = AfterWhole; part = e })

-- after the last part of a statement control goes where it goes after the statement
pub next_of_whole : (P : Program) → IsNumbered P → (b n m : ℕ) → IsPartAt P b n AfterWhole
    → Next P n m → Next P b m
next_of_whole P N b n m (s, is, e) (next_body f is_f) =
    absurd (body_apart P N f b n is_f (record { stmt = s; is = is; place = AfterWhole; part = e }))
next_of_whole P N b n m (s, is, e) (next_within c t is_t f) =
    let same : AfterWhole ≡ GoesTo m =
    (one_place_after P N b c n s t AfterWhole (GoesTo m) is is_t e f).2 in
    absurd (cc)
next_of_whole P N b n m (s, is, e) (next_whole c t is_t f up) =
    subst (λ (v : ℕ). Next P v m) (sym (one_place_after P N b c n s t AfterWhole
    AfterWhole is is_t e f).0) up

-- what has a successor is a statement
next_from_inside : (P : Program) → IsNumbered P → (n m : ℕ) → Next P n m → n < length P.stmts
next_from_inside P N n m (next_body f is_f) = body_inside P N f n is_f
next_from_inside P N n m (next_within b s is e) =
    (part_above P N b n (record { stmt = s; is = is; place = GoesTo m; part = e })).1
next_from_inside P N n m (next_whole b s is e up) =
    (part_above P N b n (record { stmt = s; is = is; place = AfterWhole; part = e })).1

-- the successor, if it is found exactly where there is one, is found exactly for statements
pub next_found : (P : Program) → IsNumbered P → (n : ℕ) (r : Option ℕ) → IfSome r (λ m. Next P n m)
    → ((m : ℕ) → Next P n m → r ≡ Some m) → IsSome r ↔ (n < length P.stmts)
next_found P N n None goes only = (
  (λ none. absurd (false≢true none)),
  (λ inside. let m : (m : ℕ) × Next P n m = some_next P N n inside in
      absurd (none-some m.0 (only m.0 m.1))),
)
next_found P N n (Some m) goes only = ((λ some. next_from_inside P N n m goes), (λ inside. refl))

-- all of this of a numbered program
pub tree_laws : (P : Program) → IsNumbered P → TreeLaws P
tree_laws P N = record {
  parts = parts_are;
  has_origin = has_origin P N;
  body_inside = body_inside P N;
  part_above = part_above P N;
  one_body = one_body P N;
  one_parent = one_parent P N;
  body_apart = body_apart P N;
  one_place_after = one_place_after P N;
  one_next = one_next P N;
  some_next = some_next P N;
  next_inside = next_inside P N;
  one_loop = one_loop P N;
  loop_inside = loop_inside P N;
  loop_above = loop_above P N;
  loop_is = loop_is P;
  one_function = one_function P N;
  some_function = some_function P N;
  function_inside = function_inside P N;
}
