use Rattle.std.proofs.Common.{◌∙◌, Bool, sym, ap}
use Rattle.cal_types.specs.MonthParts.{month_parts}
use Rattle.cal_hebrew.specs.HebrewPlaces.{hebrew_place}
use Rattle.cal_hebrew.proofs.HebrewGiven.{given-leap}
use Rattle.cal_hebrew.proofs.HebrewOrdinals.{ordinal_month-hebrew}
use Rattle.cal_hebrew.proofs.hebrew.HebrewYearShapes.ordinal_from_month.Goals as goal

pub returns : goal.returns
returns c =
    let y = c.args.year in
    let m = month_parts c.args.month in
    c.place_of_month.ensures
    ∙ sym (ordinal_month-hebrew y.extended_year m c.args.overflow ∙ ap (λ (leap : Bool). hebrew_place leap m c.args.overflow) (given-leap y c.requires))
