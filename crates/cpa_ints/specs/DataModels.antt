-- The types `long` and `unsigned long` in a data model (C11 6.2.5p4 to p6 leave the width to the
-- implementation: 64 bits in LP64, 32 in ILP32, as gcc has them with -m64 and -m32).
use Rattle.cpa_ints.specs.declared.integers.IntType.{IntType}
use Rattle.cpa_ints.specs.declared.integers.IntType.TheVariants as ty
use Rattle.cpa_ints.specs.declared.data_model.DataModel.{DataModel}
use Rattle.cpa_ints.specs.declared.data_model.DataModel.TheVariants as model
use Rattle.cpa_ints.specs.Conversions.{unsigned_of}

-- the type of `long`
abbrev pub long : DataModel → IntType
long model.Lp64 = ty.I64
long model.Ilp32 = ty.I32

-- the type of `unsigned long`, which corresponds to it
abbrev pub unsigned_long : DataModel → IntType
unsigned_long m = unsigned_of (long m)
