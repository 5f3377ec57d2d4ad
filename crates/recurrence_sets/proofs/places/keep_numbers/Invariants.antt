use Rattle.std.proofs.Common.{◌≡◌, ℕ, ◌-◌, ◌≤◌, ◌&&◌, nat_lt}
use Rattle.cal_rule.specs.Sets.{has_number}
use Rattle.recurrence_sets.specs.Numbers.{count_below, has_position}
use Rattle.recurrence_sets.proofs.places.keep_numbers.Given as goal

-- the numbers below `from` are kept by their places
abbrev pub invariant-numbers : goal.invariant-numbers
invariant-numbers l = record {
  kept : (i : ℕ) → has_number l.kept i
      ≡ (nat_lt i l.from && (has_number l.numbers i && has_position l.positions (has_number l.numbers) 448 i));
  counted : l.before ≡ count_below (has_number l.numbers) l.from;
  total : l.total ≡ count_below (has_number l.numbers) 448;
  within : l.from ≤ 448;
}

abbrev pub decreases-numbers : goal.decreases-numbers
decreases-numbers l = 448 - l.from
