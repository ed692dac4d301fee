-- Room that is taken for the partials of lines before they are filled (this project's own).
use Rattle.std.specs.Prelude.{◌≡◌, ◌≤◌, [], length, vec_capacity}
use Rattle.cpa_cnf.specs.declared.formula.Line.{Line}
use Rattle.cpa_chains.specs.declared.partial.Partial.{Partial}
use Rattle.cpa_chains.specs.declared.parallel.Room.{Room}

-- the room has the line's first number and no joint yet, and one for each step fits
pub record IsRoomFor (line : Line) (room : Room) : Type 0 where
  pub first : room.first ≡ line.first
  pub blank : room.joints.items ≡ []
  pub fits : length line.steps ≤ vec_capacity room.joints

-- the partial that stands in it
abbrev pub partial_in : Room → Partial
partial_in room = record { first = room.first; joints = room.joints.items }
