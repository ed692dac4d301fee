-- A number made of values, by which lists of values are told apart (this project's own). Where two
-- prints of as many values differ, some value does.
use Rattle.std.specs.Prelude.{ℕ, ◌+◌, ◌*◌, ◌%◌, ℤ, unsigned_abs}

-- the print of one value more
abbrev pub mixed : ℕ → ℤ → ℕ
mixed print value = (print * 31 + unsigned_abs value % 4294967296) % 4294967296
