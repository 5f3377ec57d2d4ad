use Rattle.std.proofs.Common.{◌∙◌, Bool, sym, ap}
use Rattle.cal_types.specs.MonthParts.{month_parts}
use Rattle.cal_hebrew.specs.HebrewPlaces.{formatted_month_of_place, leap_status_of_place}
use Rattle.cal_hebrew.proofs.HebrewGiven.{given-leap}
use Rattle.cal_hebrew.proofs.hebrew.HebrewNamedYears.shown_month.Goals as goal

pub returns-clause-status : goal.returns-clause-status
returns-clause-status c =
    c.leap_status.ensures ∙ ap (λ (leap : Bool). leap_status_of_place leap c.args.ordinal_month) (sym (given-leap c.args.year c.requires.year.given))

pub returns-clause-month : goal.returns-clause-month
returns-clause-month c =
    c.formatted_month.ensures ∙ ap (λ (leap : Bool). formatted_month_of_place leap c.args.ordinal_month (month_parts c.args.month)) (sym (given-leap c.args.year c.requires.year.given))
