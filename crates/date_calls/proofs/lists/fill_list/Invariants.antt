use Rattle.std.proofs.Common.{length, ◌-◌, ◌≡◌, ◌++◌, ◌≤◌, ℤ, drop, take}
use Rattle.date_calls.specs.Lists.{EndsOn, items_in}
use Rattle.date_calls.proofs.lists.fill_list.Given as goal

-- the list is the items that were written, and those that are left
abbrev pub invariant-given : goal.invariant-given
invariant-given g l = record {
  parts :
      items_in (g.L.WindowList.between l.initial.list) (g.L.WindowList.left l.initial.list)
      ≡ take l.written l.items ++ items_in (g.L.WindowList.between l.list) (g.L.WindowList.left l.list);
  same : g.L.WindowList.between l.list ≡ g.L.WindowList.between l.initial.list;
  behind : drop l.written l.items ≡ drop l.written l.initial.items;
  fits : l.written ≤ length l.initial.items;
  size : length l.items ≡ length l.initial.items;
  ends : (last : ℤ) → EndsOn last (g.L.WindowList.left l.initial.list) → EndsOn last (g.L.WindowList.left l.list);
}

abbrev pub decreases-given : goal.decreases-given
decreases-given g l = length l.initial.items - l.written
