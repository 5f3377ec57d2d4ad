use Rattle.std.proofs.Common.{length, ◌-◌, ◌≡◌, ◌≤◌, ℤ, drop, take}
use Rattle.date_calls.specs.Holidays.{left_in, pairs_before, window_left}
use Rattle.date_calls.specs.Lists.{EndsOn}
use Rattle.date_calls.proofs.books.fill_holidays.Given as goal

-- the holidays are the items that were written, and those that are left
abbrev pub invariant-given : goal.invariant-given
invariant-given l = record {
  rules : l.list.rules ≡ l.initial.list.rules;
  parts : left_in l.initial.list.rules l.initial.list.rest ≡ pairs_before (take l.written l.items) (left_in l.initial.list.rules l.list.rest);
  behind : drop l.written l.items ≡ drop l.written l.initial.items;
  fits : l.written ≤ length l.initial.items;
  size : length l.items ≡ length l.initial.items;
  ends : (last : ℤ) → EndsOn last (window_left l.initial.list.rest) → EndsOn last (window_left l.list.rest);
}

abbrev pub decreases-given : goal.decreases-given
decreases-given l = length l.initial.items - l.written
