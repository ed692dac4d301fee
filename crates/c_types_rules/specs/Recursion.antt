-- Which function reaches which by calls, and calls that lead back (this project's own: its programs
-- have no recursion).
use Rattle.std.specs.Prelude.{◌≡◌, ◌⊎◌, ℕ, List, [], ◌∷◌}
use Rattle.c_types_rules.specs.Items.{Call}

-- it is one of these
abbrev pub Among : {T : Type 0} → T → List T → Type 0
Among x [] = ⊥
Among x (y ∷ ys) = (x ≡ y) ⊎ Among x ys

-- a body calls another one
abbrev pub Calls : List Call → ℕ → ℕ → Type 0
Calls calls caller callee =
    (place : ℕ) × Among (record { caller = caller; callee = callee; place = place }) calls

-- a call, and one in the body that it calls, and so on, through these
abbrev pub Through : List Call → ℕ → List ℕ → ℕ → Type 0
Through calls from [] to_body = from ≡ to_body
Through calls from (next ∷ more) to_body = Calls calls from next × Through calls next more to_body

-- a body reaches another one, or itself by no call
pub record Reaches (calls : List Call) (from to_body : ℕ) : Type 0 where
  pub way : List ℕ
  pub through : Through calls from way to_body

-- a call at this place whose called function reaches the function in which the call stands
pub record LeadsBack (calls : List Call) (place : ℕ) : Type 0 where
  pub call : Call
  pub stands : Among call calls
  pub there : call.place ≡ place
  pub back : Reaches calls call.callee call.caller
