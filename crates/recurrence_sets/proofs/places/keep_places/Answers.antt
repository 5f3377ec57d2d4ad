use Rattle.std.proofs.Common.{◌≡◌, length, rules}
use Rattle.recurrence_sets.proofs.PlaceLemmas.{none-numbers, places-meant}
use Rattle.recurrence_sets.proofs.places.keep_places.Goals as goal

pub keep_numbers-requires : goal.keep_numbers-requires
keep_numbers-requires c = none-numbers c.new-kept.result c.new-kept.ensures.none

pub returns-clause-days : goal.returns-clause-days
returns-clause-days c =
    let d = c.args.days.now in
    let long : length d.words ≡ 7 = search rules in
    places-meant d (record { first = c.new-kept.result.first; words = c.keep_numbers.new.kept }) long c.new-kept.ensures.first c.args.positions.now c.keep_numbers.ensures
