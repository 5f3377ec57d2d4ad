use Rattle.std.proofs.Common.{◌∙◌, sym, ap}
use Rattle.cal_hebrew.specs.laws.HebrewMonths.{month_count-hebrew}
use Rattle.cal_hebrew.specs.HebrewPlaces.{place_count}
use Rattle.cal_hebrew.proofs.HebrewGiven.{given-length}
use Rattle.cal_hebrew.proofs.hebrew.HebrewYearShapes.months_in_provided_year.Goals as goal

pub returns : goal.returns
returns c =
    let y = c.args.year in
    c.months_in_year.ensures.value ∙ sym (month_count-hebrew y.extended_year ∙ ap place_count (given-length y c.requires))
