use Rattle.std.proofs.Common.{◌≡◌, length, rules}
use Rattle.recurrence_set_tests.proofs.HundredLemmas.{within-row}
use Rattle.recurrence_set_tests.proofs.hundreds.are_within.Goals as goal

pub returns : goal.returns
returns c =
    let long : length c.args.days.now.words ≡ 7 = search rules in
    within-row c.args.days.now long
