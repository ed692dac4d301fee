-- What the parts of a form under construction are. Nothing here is promised to a caller.
use Rattle.std.specs.Prelude.{ℕ, Bool, true, false, List, [], ◌∷◌, ◌++◌, Option, None, Some}
use Rattle.std.specs.Prelude.{slice_set}
use Rattle.cpa_ints.specs.declared.integers.IntType.{IntType}
use Rattle.cpa_expr.specs.Cells.{scalar_read}
use Rattle.cpa_form_renaming.specs.declared.places.Place.{Place}
use Rattle.cpa_form_rules.specs.declared.drafts.Draft.{Draft}
use Rattle.cpa_form_rules.specs.Drafts.{next, named, place_at}
use Rattle.cpa_form_rules.specs.Forms.{Form}
use Rattle.cpa_edgeform.specs.declared.parts.Parts.{Parts}

-- the form that the parts make
abbrev pub form_in : Parts → Form
form_in parts = record {
  query = record { cells = parts.cells.items; wanted = parts.wanted.items };
  places = parts.places.items;
  inputs = parts.inputs.items;
  weight = parts.weight;
}

-- new places where there are some, else the old ones
abbrev pub places_or : Option (List Place) → List Place → List Place
places_or None places = places
places_or (Some moved) places = moved

-- a form with other places
abbrev pub with_places : List Place → Form → Form
with_places places form = record form { places = places }

-- a form with one input more, which is the present value of a cell of the program
abbrev pub with_one_input : ℕ → ℕ → IntType → Form → Form
with_one_input cell number t form =
    record form {
      inputs = form.inputs ++ number ∷ [];
      places = slice_set form.places cell (place_at number t);
    }

-- a draft, and the place of one cell
pub record Stood : Type 0 where
  pub draft : Draft
  pub place : Place

abbrev pub stood : Draft → Place → Stood
stood draft place = record { draft = draft; place = place }

-- one cell of `copied`: where it is marked it has a cell of its own
abbrev pub own_place : Bool → Place → Draft → Stood
own_place true place draft =
    stood (named (scalar_read place.ty place.number) draft) (place_at (next draft) place.ty)
own_place false place draft = stood draft place
