-- The parts of a statement are what control goes on from by `after_part`.
use Rattle.std.proofs.Common.{◌≡◌, ℕ, zero, suc, ◌↔◌, List, [], ◌∷◌, Option, Some, None, slice_get}
use Rattle.std.proofs.Common.{◌⊎◌, Bool, true, false, cond, eqb, sym, ◌∙◌, ap, subst, inl, inr}
use Rattle.std.proofs.Common.{refl, ⊎_elim, eqb-true, eq-eqb, ne_eqb}
use Rattle.std.specs.List.{Contains}
use Rattle.std.proofs.lemmas.Option.{none-some, same_Some}
use Rattle.std.proofs.lemmas.Bool.{cases_eq, cond-true, cond-false}
use Rattle.cpa_model.specs.declared.program.Stmt.{Stmt}
use Rattle.cpa_model.specs.declared.program.Stmt.TheVariants as stmt
use Rattle.cpa_model.specs.declared.program.Successor.{Successor}
use Rattle.cpa_model.specs.declared.program.Successor.TheVariants.{GoesTo, AfterWhole}
use Rattle.cpa_model.specs.Programs.{first_of, after_items, after_item, after_parts, after_part}
use Rattle.cpa_model.specs.Programs.{firsts, look_up, parts_of}
use Rattle.cpa_model.specs.lemmas.Lists.{place_of, in_list}

-- the parts of a statement do not depend on its number
firsts_alike : (n : ℕ) (s : Stmt) → firsts (after_parts n s) ≡ parts_of s
firsts_alike n (stmt.Block items) = refl
firsts_alike n _ = refl

-- the parts of a block are its items
pub firsts_items : (items : List ℕ) → firsts (after_items items) ≡ items
firsts_items [] = refl
firsts_items (item ∷ items) = ap (λ xs. item ∷ xs) (firsts_items items)

-- a test that picks a value has held
tested : (b : Bool) (x y : Successor) (o : Option Successor) → cond b (Some x) o ≡ Some y
    → ((b ≡ true) × (x ≡ y)) ⊎ ((b ≡ false) × (o ≡ Some y))
tested true x y o e = inl (refl, same_Some x y e)
tested false x y o e = inr (refl, e)

-- what is looked up stands at a place, and what stands at a place is found
found_at : (ps : List (ℕ × Successor)) (k c : ℕ) → slice_get (firsts ps) k ≡ Some c
    → (place : Successor) × (look_up c ps ≡ Some place)
found_at [] k c at = absurd (none-some c at)
found_at ((a, x) ∷ ps) zero c at =
    (x, cond-true (eqb a c) (Some x) (look_up c ps) (eq-eqb a c (same_Some a c at)))
found_at ((a, x) ∷ ps) (suc k) c at =
    let rest : (place : Successor) × (look_up c ps ≡ Some place) = found_at ps k c at in
    ⊎_elim
    (λ same. (x, cond-true (eqb a c) (Some x) (look_up c ps) (eq-eqb a c same)))
    (λ other. (rest.0, cond-false (eqb a c) (Some x) (look_up c ps) (ne_eqb a c other) ∙ rest.1))
    (cases_eq a c)

place_found : (ps : List (ℕ × Successor)) (c : ℕ) (place : Successor) → look_up c ps ≡ Some place
    → (k : ℕ) × (slice_get (firsts ps) k ≡ Some c)
place_found [] c place e = absurd (none-some place e)
place_found ((a, x) ∷ ps) c place e =
    ⊎_elim
    (λ same. (0, ap Some (eqb-true a c same.0)))
    (λ other.
    let rest : (k : ℕ) × (slice_get (firsts ps) k ≡ Some c) = place_found ps c place other.1 in
    (suc rest.0, rest.1))
    (tested (eqb a c) x place (look_up c ps) e)

-- what stands at a place of the parts has a successor
pub part_of_place : (n : ℕ) (s : Stmt) (k c : ℕ) → slice_get (parts_of s) k ≡ Some c
    → (place : Successor) × (after_part n s c ≡ Some place)
part_of_place n s k c at =
    found_at (after_parts n s) k c
    (subst (λ cs. slice_get cs k ≡ Some c) (sym (firsts_alike n s)) at)

-- what has a successor stands at a place of the parts
pub place_of_part : (n : ℕ) (s : Stmt) (c : ℕ) (place : Successor) → after_part n s c ≡ Some place
    → (k : ℕ) × (slice_get (parts_of s) k ≡ Some c)
place_of_part n s c place e =
    let at = place_found (after_parts n s) c place e in
    (at.0, subst (λ cs. slice_get cs at.0 ≡ Some c) (firsts_alike n s) at.1)

pub part_of_parts : (n : ℕ) (s : Stmt) (c : ℕ) → Contains (parts_of s) c
    → (place : Successor) × (after_part n s c ≡ Some place)
part_of_parts n s c h = let at = place_of (parts_of s) c h in part_of_place n s at.0 c at.1

pub parts_of_part : (n : ℕ) (s : Stmt) (c : ℕ) (place : Successor) → after_part n s c ≡ Some place
    → Contains (parts_of s) c
parts_of_part n s c place e =
    let at = place_of_part n s c place e in in_list (parts_of s) at.0 c at.1

-- a later element of a longer list
later : (a : ℕ) (cs : List ℕ) (c : ℕ) → Contains cs c → Contains (a ∷ cs) c
later a cs c h = let at = place_of cs c h in in_list (a ∷ cs) (suc at.0) c at.1

-- where control goes after an item of a block: to an item
first_is : (a : ℕ) (items : List ℕ) (m : ℕ) → first_of items ≡ GoesTo m → Contains (a ∷ items) m
first_is a [] m e = absurd (cc)
first_is a (b ∷ items) m e = let is : b ≡ m = cc in in_list (a ∷ b ∷ items) 1 m (ap Some is)

item_after : (items : List ℕ) (c m : ℕ) → after_item items c ≡ Some (GoesTo m) → Contains items m
item_after [] c m e = absurd (none-some (GoesTo m) e)
item_after (a ∷ items) c m e =
    ⊎_elim
    (λ here. first_is a items m here.1)
    (λ other. later a items m (item_after items c m other.1))
    (tested (eqb a c) (first_of items) (GoesTo m) (after_item items c) e)

-- control goes from a part to another part, or back to the statement
pub successor_of_part : (n : ℕ) (s : Stmt) (c m : ℕ) → after_part n s c ≡ Some (GoesTo m)
    → (m ≡ n) ⊎ Contains (parts_of s) m
successor_of_part n (stmt.Block items) c m e =
    inr (subst (λ cs. Contains cs m) (sym (firsts_items items)) (item_after items c m e))
successor_of_part n (stmt.If test first second) c m e =
    ⊎_elim
    (λ here. absurd (cc (here.1)))
    (λ other.
    ⊎_elim
    (λ here. absurd (cc (here.1)))
    (λ none. absurd (none-some (GoesTo m) none.1))
    (tested (eqb second c) AfterWhole (GoesTo m) None other.1))
    (tested (eqb first c) AfterWhole (GoesTo m) (look_up c ((second, AfterWhole) ∷ [])) e)
successor_of_part n (stmt.Loop body step) c m e =
    ⊎_elim
    (λ here.
    let is : step ≡ m = cc (here.1) in
    inr (in_list (body ∷ step ∷ []) 1 m (ap Some is)))
    (λ other.
    ⊎_elim
    (λ here. inl (cc (here.1)))
    (λ none. absurd (none-some (GoesTo m) none.1))
    (tested (eqb step c) (GoesTo n) (GoesTo m) None other.1))
    (tested (eqb body c) (GoesTo step) (GoesTo m) (look_up c ((step, GoesTo n) ∷ [])) e)
successor_of_part n _ c m e = absurd (none-some (GoesTo m) e)

-- the parts of a statement are what has a successor
pub parts_are : (n : ℕ) (s : Stmt) (c : ℕ)
    → Contains (parts_of s) c ↔ ((place : Successor) × (after_part n s c ≡ Some place))
parts_are n s c = (part_of_parts n s c, λ part. parts_of_part n s c part.0 part.1)
