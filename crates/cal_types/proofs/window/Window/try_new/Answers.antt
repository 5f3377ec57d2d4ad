use Rattle.std.proofs.Common.{arith}
use Rattle.std.proofs.lemmas.Int.{ints}
use Rattle.cal_types.proofs.window.Window.try_new.Goals as goal

pub invariant_of-result : goal.invariant_of-result
invariant_of-result c = record {
  days = record {
    from = grind (arith, ints);
    to = grind (arith, ints);
    order = grind (arith, ints);
  };
}

pub returns-then-not-is_valid_day-clause-exact : goal.returns-then-not-is_valid_day-clause-exact
returns-then-not-is_valid_day-clause-exact c = grind (arith, ints)

pub returns-clause-exact : goal.returns-clause-exact
returns-clause-exact c = grind (arith, ints)
