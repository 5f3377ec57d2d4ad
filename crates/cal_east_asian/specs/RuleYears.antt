-- The nearest year that year rules are used for.
use Rattle.std.proofs.Common.{int_lt, if◌then◌else◌, ℤ, pos, neg_ℤ}

-- the nearest year that year rules are used for
abbrev pub rule_year : ℤ → ℤ
rule_year y =
    if int_lt y (neg_ℤ (pos 8000000)) then neg_ℤ (pos 8000000) else (if int_lt (pos 8000000) y then pos 8000000 else y)
