use Rattle.std.proofs.Common.{◌≡◌, ℕ, ◌<◌, ℤ}
use Rattle.cal_julian.specs.PersianAccepted.{IsListed, year_before, MeetsAll}
use Rattle.cal_julian.proofs.persian_corrections.check.Given as goal

-- the years that were looked at are accepted, and the last of them is at hand
abbrev pub invariant-loop-index : goal.invariant-loop-index
invariant-loop-index l = record {
  met : (i : ℕ) (y : ℤ) → i < l.index → IsListed l.years i y → MeetsAll (year_before l.fn.years i) y;
  last : l.before ≡ year_before l.fn.years l.index;
}
