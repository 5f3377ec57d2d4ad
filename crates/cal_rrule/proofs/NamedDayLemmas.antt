-- Days that places name in a stretch.
use Rattle.std.proofs.Common.{◌≡◌, ◌∙◌, ℕ, ◌≤◌, Some, ℤ, pos, ◌+ℤ◌, ◌-ℤ◌, sym, arith}
use mathlib.Core.Logic.{inl, inr}
use Rattle.cal_rule.specs.declared.place_set.Place.TheVariants.{FromFront, FromBack}
use Rattle.cal_rule.specs.declared.skip.Skip.{Skip}
use Rattle.cal_rrule.specs.NamedDays.{IsOnly}
use Rattle.cal_rrule.specs.Stretches.{NamesDay, Stretch, end_of}

-- from the front
pub front-inside : (skip : Skip) (s : Stretch) (d : ℕ) (day : ℤ) → 1 ≤ d → d ≤ s.days →
    day ≡ s.first +ℤ pos d -ℤ pos 1 → IsOnly (NamesDay skip s (FromFront d)) (Some day)
front-inside skip s d day low high is = (inl (low, high, is), by_side)
  where
    by_side : (n : ℤ) → NamesDay skip s (FromFront d) n → n ≡ day
    by_side n (inl p) = p.2 ∙ sym is
    by_side n (inr q) = absurd (omega (arith, high, q.0))

-- and from the back
pub back-inside : (skip : Skip) (s : Stretch) (d : ℕ) (day : ℤ) → 1 ≤ d → d ≤ s.days →
    day ≡ end_of s -ℤ pos d → IsOnly (NamesDay skip s (FromBack d)) (Some day)
back-inside skip s d day low high is = (inl (low, high, is), by_side)
  where
    by_side : (n : ℤ) → NamesDay skip s (FromBack d) n → n ≡ day
    by_side n (inl p) = p.2 ∙ sym is
    by_side n (inr q) = absurd (omega (arith, high, q.0))
