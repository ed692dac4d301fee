-- Tables of truth values, one line a row.
use Rattle.std.specs.Prelude.{◌≡◌, ◌&&◌, ◌||◌, Bool, true, false, not, if◌then◌else◌}
use Rattle.std.proofs.Common.{refl}
use mathlib.Core.Bool.{beq}
use Rattle.cpa_blast_gates.specs.Gates.{differ, majority}

pub and_same : (x : Bool) → x ≡ (x && x)
and_same true = refl
and_same false = refl

pub and_unlike : (x : Bool) → false ≡ (x && not x)
and_unlike true = refl
and_unlike false = refl

pub and_swap : (x y : Bool) → (x && y) ≡ (y && x)
and_swap true true = refl
and_swap true false = refl
and_swap false true = refl
and_swap false false = refl

pub or_by_and : (x y : Bool) → not (not x && not y) ≡ (x || y)
or_by_and true true = refl
or_by_and true false = refl
or_by_and false true = refl
or_by_and false false = refl

pub differ_same : (x : Bool) → false ≡ differ x x
differ_same true = refl
differ_same false = refl

pub differ_unlike : (x : Bool) → true ≡ differ x (not x)
differ_unlike true = refl
differ_unlike false = refl

pub differ_swap : (x y : Bool) → differ x y ≡ differ y x
differ_swap true true = refl
differ_swap true false = refl
differ_swap false true = refl
differ_swap false false = refl

pub differ_both : (x y : Bool) → differ x y ≡ differ (not x) (not y)
differ_both true true = refl
differ_both true false = refl
differ_both false true = refl
differ_both false false = refl

pub differ_left : (x y : Bool) → not (differ x y) ≡ differ (not x) y
differ_left true true = refl
differ_left true false = refl
differ_left false true = refl
differ_left false false = refl

pub differ_right : (x y : Bool) → not (differ x y) ≡ differ x (not y)
differ_right true true = refl
differ_right true false = refl
differ_right false true = refl
differ_right false false = refl

pub majority_swap : (x y z : Bool) → majority x y z ≡ majority y x z
majority_swap true true true = refl
majority_swap true true false = refl
majority_swap true false true = refl
majority_swap true false false = refl
majority_swap false true true = refl
majority_swap false true false = refl
majority_swap false false true = refl
majority_swap false false false = refl

pub majority_turn : (x y z : Bool) → majority z x y ≡ majority x y z
majority_turn true true true = refl
majority_turn true true false = refl
majority_turn true false true = refl
majority_turn true false false = refl
majority_turn false true true = refl
majority_turn false true false = refl
majority_turn false false true = refl
majority_turn false false false = refl

pub majority_first : (x z : Bool) → x ≡ majority x x z
majority_first true true = refl
majority_first true false = refl
majority_first false true = refl
majority_first false false = refl

pub majority_first_unlike : (y z : Bool) → z ≡ majority (not y) y z
majority_first_unlike true true = refl
majority_first_unlike true false = refl
majority_first_unlike false true = refl
majority_first_unlike false false = refl

pub majority_outer : (x y : Bool) → x ≡ majority x y x
majority_outer true true = refl
majority_outer true false = refl
majority_outer false true = refl
majority_outer false false = refl

pub majority_outer_unlike : (y z : Bool) → y ≡ majority (not z) y z
majority_outer_unlike true true = refl
majority_outer_unlike true false = refl
majority_outer_unlike false true = refl
majority_outer_unlike false false = refl

pub majority_last : (x y : Bool) → y ≡ majority x y y
majority_last true true = refl
majority_last true false = refl
majority_last false true = refl
majority_last false false = refl

pub majority_last_unlike : (x z : Bool) → x ≡ majority x (not z) z
majority_last_unlike true true = refl
majority_last_unlike true false = refl
majority_last_unlike false true = refl
majority_last_unlike false false = refl

pub choice_same : (t x : Bool) → x ≡ (if t then x else x)
choice_same true true = refl
choice_same true false = refl
choice_same false true = refl
choice_same false false = refl

pub choice_unlike : (t y : Bool) → not (differ t (not y)) ≡ (if t then not y else y)
choice_unlike true true = refl
choice_unlike true false = refl
choice_unlike false true = refl
choice_unlike false false = refl

pub choice_first_true : (t y : Bool) → (t || y) ≡ (if t then true else y)
choice_first_true true true = refl
choice_first_true true false = refl
choice_first_true false true = refl
choice_first_true false false = refl

pub choice_first_false : (t y : Bool) → (not t && y) ≡ (if t then false else y)
choice_first_false true true = refl
choice_first_false true false = refl
choice_first_false false true = refl
choice_first_false false false = refl

pub choice_second_true : (t x : Bool) → (not t || x) ≡ (if t then x else true)
choice_second_true true true = refl
choice_second_true true false = refl
choice_second_true false true = refl
choice_second_true false false = refl

pub choice_second_false : (t x : Bool) → (t && x) ≡ (if t then x else false)
choice_second_false true true = refl
choice_second_false true false = refl
choice_second_false false true = refl
choice_second_false false false = refl

pub not_twice : (x : Bool) → not (not x) ≡ x
not_twice true = refl
not_twice false = refl

pub beq_same : (x : Bool) → true ≡ beq x x
beq_same true = refl
beq_same false = refl

pub and_clauses : (v a b : Bool) → ((not v || (a || false)) && ((not v || (b || false)) && ((v ||
    (not a || (not b || false))) && true))) ≡ beq v (a && b)
and_clauses true true true = refl
and_clauses true true false = refl
and_clauses true false true = refl
and_clauses true false false = refl
and_clauses false true true = refl
and_clauses false true false = refl
and_clauses false false true = refl
and_clauses false false false = refl

pub xor_clauses : (v a b : Bool) → ((not v || (a || (b || false))) && ((not v || (not a || (not b
    || false))) && ((v || (not a || (b || false))) && ((v || (a || (not b || false))) && true))))
    ≡ beq v (differ a b)
xor_clauses true true true = refl
xor_clauses true true false = refl
xor_clauses true false true = refl
xor_clauses true false false = refl
xor_clauses false true true = refl
xor_clauses false true false = refl
xor_clauses false false true = refl
xor_clauses false false false = refl

pub majority_clauses : (v a b c : Bool) → ((v || (not a || (not b || false))) && ((not v || (a ||
    (b || false))) && ((v || (not a || (not c || false))) && ((not v || (a || (c || false))) &&
    ((v || (not b || (not c || false))) && ((not v || (b || (c || false))) && true)))))) ≡ beq v
    (majority a b c)
majority_clauses true true true true = refl
majority_clauses true true true false = refl
majority_clauses true true false true = refl
majority_clauses true true false false = refl
majority_clauses true false true true = refl
majority_clauses true false true false = refl
majority_clauses true false false true = refl
majority_clauses true false false false = refl
majority_clauses false true true true = refl
majority_clauses false true true false = refl
majority_clauses false true false true = refl
majority_clauses false true false false = refl
majority_clauses false false true true = refl
majority_clauses false false true false = refl
majority_clauses false false false true = refl
majority_clauses false false false false = refl

pub choice_clauses : (v a b c : Bool) → ((v || (not a || (not b || false))) && ((not v || (not a
    || (b || false))) && ((v || (not (not a) || (not c || false))) && ((not v || (not (not a) ||
    (c || false))) && ((v || (not b || (not c || false))) && ((not v || (b || (c || false))) &&
    true)))))) ≡ beq v (if a then b else c)
choice_clauses true true true true = refl
choice_clauses true true true false = refl
choice_clauses true true false true = refl
choice_clauses true true false false = refl
choice_clauses true false true true = refl
choice_clauses true false true false = refl
choice_clauses true false false true = refl
choice_clauses true false false false = refl
choice_clauses false true true true = refl
choice_clauses false true true false = refl
choice_clauses false true false true = refl
choice_clauses false true false false = refl
choice_clauses false false true true = refl
choice_clauses false false true false = refl
choice_clauses false false false true = refl
choice_clauses false false false false = refl

pub equal_from_beq : (x y : Bool) → beq x y ≡ true → x ≡ y
equal_from_beq true true h = refl
equal_from_beq true false h = cc
equal_from_beq false true h = cc
equal_from_beq false false h = refl

pub beq_from_equal : (x y : Bool) → x ≡ y → beq x y ≡ true
beq_from_equal true true h = refl
beq_from_equal true false h = cc
beq_from_equal false true h = cc
beq_from_equal false false h = refl
