use Rattle.std.proofs.Common.{rules, ◌≡◌, ◌∙◌, ap, true, codes, refl}
use Rattle.std.specs.Option.{is_none}
use Rattle.std.specs.Str.{bytes_eq}
use Rattle.toml.proofs.Views.{view-Array}
use Rattle.toml.specs.Data.{array}
use Rattle.cpa_config.proofs.Defaults.{none_there, told}
use Rattle.cpa_config.proofs.reading.add_default.Goals as goal

pub returns-in_ok-insert : goal.returns-in_ok-insert
returns-in_ok-insert c = λ key.
    let missing : is_none c.value_of.result ≡ true = search rules in
    let none = none_there c.value_of.result missing c.value_of.ensures in
    rw c.in_ok-insert.ensures.entries
    (told (bytes_eq key (codes "analyses")) key c.in_ok-from_str.field-0 (codes "analyses") _ _
    c.args.table.now.entries c.in_ok-from_str.ensures.ok
    (view-Array c.in_ok-names.names ∙ ap array c.in_ok-names.ensures) none refl)
