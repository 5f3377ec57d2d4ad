-- The direction in which a duration counts, as the sign of the duration.
use Rattle.std.specs.Prelude.{Bool, true, false}
use Rattle.cal_arith.specs.declared.direction.Direction.{Direction}
use Rattle.cal_arith.specs.declared.direction.Direction.TheVariants.{Forward, Backward}

-- whether a direction leads to earlier days
abbrev pub is_backward : Direction → Bool
is_backward Forward = false
is_backward Backward = true
