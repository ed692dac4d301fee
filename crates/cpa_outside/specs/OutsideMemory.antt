-- Files in memory by their names, calls by their numbers, counts that stop (this project's own).
use Rattle.std.specs.Prelude.{ℕ, ◌+◌, ◌-◌, ◌^◌, min, Bool, ◌==◌, List, Option, String, Vec}
use Rattle.std.specs.Prelude.{string_bytes}
use Rattle.std.specs.List.{find, list_any, position_or_len}
use Rattle.std.specs.Option.{option_map}
use Rattle.std.specs.Str.{bytes_eq}
use Rattle.std.specs.declared.alloc.Global.{Global}

-- a call's number is on a list
abbrev pub is_listed : List ℕ → ℕ → Bool
is_listed numbers call = list_any (λ number. number == call) numbers

-- one more, up to the greatest u64
abbrev pub one_more : ℕ → ℕ
one_more count = min (count + 1) (2 ^ 64 - 1)

-- a file has this name
abbrev pub has_name : List ℕ → String Global × Vec ℕ Global → Bool
has_name name file = bytes_eq (string_bytes file.0) name

-- the place of the first file of a name, or how many files there are
abbrev pub place_of : List (String Global × Vec ℕ Global) → List ℕ → ℕ
place_of files name = position_or_len (has_name name) files

-- the bytes of the first file of a name
abbrev pub first_bytes : List (String Global × Vec ℕ Global) → List ℕ → Option (List ℕ)
first_bytes files name = option_map (λ file. file.1.items) (find (has_name name) files)
