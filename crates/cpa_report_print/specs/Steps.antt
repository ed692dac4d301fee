-- Steps of the code: the members of a report by where they stand in it. Nothing here is promised to
-- a caller.
use Rattle.std.specs.Prelude.{ℕ, List, [], ◌∷◌, codes}
use Rattle.json.specs.Token.{Token, begin_object, end_object, key}
use Rattle.serde_json.specs.Data.{Members, no_members, member}
use Rattle.cpa_ints.specs.declared.data_model.DataModel.{DataModel}
use Rattle.cpa_report_print.specs.declared.report.Body.{Body}
use Rattle.cpa_report_print.specs.declared.report.Body.TheVariants as body
use Rattle.cpa_report_print.specs.declared.report.Report.{Report}
use Rattle.cpa_report_print.specs.Reports.{Member, at_key, number_data, integer_data, list_data}
use Rattle.cpa_report_print.specs.Reports.{listed_data, turn_data, path_data, refined_data}
use Rattle.cpa_report_print.specs.Reports.{line_data, precision_data, form_of, model_members}
use Rattle.cpa_report_print.specs.Tokens.{onto}

-- the tokens of members, in front of others
abbrev pub front : List Member → List Token → List Token
front [] ts = ts
front (m ∷ ms) ts = key m.key ∷ onto m.value (front ms ts)

-- the members of a body whose keys stand before "form"
abbrev pub before_form : Body → List Member
before_form (body.True entries) = at_key (codes "entries") (list_data listed_data entries) ∷ []
before_form (body.Proof entries logs) =
    at_key (codes "entries") (list_data listed_data entries) ∷ []
before_form _ = []

-- those that stand between "form" and "model"
abbrev pub before_model : Body → List Member
before_model (body.False inputs steps) =
    at_key (codes "inputs") (list_data integer_data inputs) ∷ []
before_model (body.Turns journal) = at_key (codes "journal") (list_data turn_data journal) ∷ []
before_model (body.Rounds path history) =
    at_key (codes "history") (list_data refined_data history) ∷ []
before_model (body.Learnt path lines) = at_key (codes "lines") (list_data line_data lines) ∷ []
before_model (body.Proof entries logs) =
    at_key (codes "logs") (list_data (list_data line_data) logs) ∷ []
before_model _ = []

-- those that stand between "model" and "points"
abbrev pub before_points : Body → List Member
before_points (body.Rounds path history) = at_key (codes "path") (path_data path) ∷ []
before_points (body.Learnt path lines) = at_key (codes "path") (path_data path) ∷ []
before_points (body.Gates path weight) = at_key (codes "path") (path_data path) ∷ []
before_points (body.NoNew path precisions) = at_key (codes "path") (path_data path) ∷ []
before_points _ = []

-- those that stand between "points" and "text"
abbrev pub before_text : Body → List Member
before_text (body.False inputs steps) = at_key (codes "steps") (number_data steps) ∷ []
before_text (body.NoNew path precisions) =
    at_key (codes "precisions") (list_data precision_data precisions) ∷ []
before_text _ = []

-- those that stand behind "text"
abbrev pub behind_text : Body → List Member
behind_text (body.Gates path weight) = at_key (codes "weight") (number_data weight) ∷ []
behind_text _ = []

-- members, in front of others
abbrev pub chain : List Member → Members → Members
chain [] rest = rest
chain (m ∷ ms) rest = member m.key m.value (chain ms rest)

-- the members of a report, one after another as they are written
abbrev pub ordered : Report → Members
ordered r =
    member (codes "cells") (number_data r.cells) (member (codes "edges") (number_data r.edges)
    (chain (before_form r.body) (member (codes "form") (number_data (form_of r.model))
    (chain (before_model r.body) (chain (model_members r.model) (chain (before_points r.body)
    (member (codes "points") (number_data r.points) (chain (before_text r.body)
    (member (codes "text") (number_data r.text) (chain (behind_text r.body) no_members))))))))))

-- and their tokens, in front of others
abbrev pub spelled : Report → List Token → List Token
spelled r ts =
    begin_object ∷ key (codes "cells") ∷ onto (number_data r.cells)
    (key (codes "edges") ∷ onto (number_data r.edges)
    (front (before_form r.body) (key (codes "form") ∷ onto (number_data (form_of r.model))
    (front (before_model r.body) (front (model_members r.model)
    (front (before_points r.body) (key (codes "points") ∷ onto (number_data r.points)
    (front (before_text r.body) (key (codes "text") ∷ onto (number_data r.text)
    (front (behind_text r.body) (end_object ∷ ts)))))))))))

-- the report of these parts
abbrev pub told : ℕ → ℕ → ℕ → ℕ → DataModel → Body → Report
told text points cells edges model body = record {
  text = text;
  points = points;
  cells = cells;
  edges = edges;
  model = model;
  body = body;
}
