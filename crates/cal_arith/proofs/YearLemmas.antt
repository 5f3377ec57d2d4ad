-- Days of a year, counted from its first.
use Rattle.std.proofs.Common.{◌≡◌, ℕ, ℤ, pos, ◌+◌, ◌<◌, ◌≤◌, ◌+ℤ◌, ◌-ℤ◌, ◌<ℤ◌, ◌≤ℤ◌, ◌∙◌, arith}
use Rattle.cal_days.proofs.Signed.{signed}
use Rattle.cal_types.specs.CalendarList.{CalendarList, Date, date, HasPlace, IsDate, IsLawful, day_number, month_count, month_length, start_of_year, year_length}
use Rattle.cal_types.proofs.ListLemmas.{date-in_year, day_number-first, days_before-end, days_before-next, year_length-most}
use borrow.Author.Differences.{up, down}

-- the days from the first of a year to a date of it are few, and lead to the date
pub days-since_first : (c : CalendarList) → IsLawful c → (t : Date) → IsDate c t → (n first days : ℤ) → n ≡ day_number c t → first ≡ day_number c (date t.year 1 1) → days ≡ n -ℤ first → (up days < down days + 403) × (down days ≤ up days) × (start_of_year c t.year +ℤ days ≡ day_number c t)
days-since_first c law t h n first days e f g =
    let start : first ≡ start_of_year c t.year = f ∙ day_number-first c t.year in
    let within = date-in_year c t h in
    let most = year_length-most c t.year law in
    (omega (arith, signed, within, most, start, h.day), omega (arith, signed, start), omega (arith, signed, start))

-- the days from the first of a year to a day within it
pub days-since_start : (c : CalendarList) → IsLawful c → (y n first days : ℤ) → first ≡ day_number c (date y 1 1) → days ≡ n -ℤ first → start_of_year c y ≤ℤ n → n <ℤ (start_of_year c y +ℤ pos (year_length c y))
    → (up days < down days + 403) × (down days ≤ up days) × (start_of_year c y +ℤ days ≡ n)
days-since_start c law y n first days f g low high =
    let start : first ≡ start_of_year c y = f ∙ day_number-first c y in
    let most = year_length-most c y law in
    (omega (arith, signed, g, start, high, most), omega (arith, signed, g, start, low), omega (arith, signed, g, start))

-- the last day of a year has the number of its days
pub year_length-last : (c : CalendarList) → IsLawful c → (y : ℤ) (i d n : ℕ) → i ≡ month_count c y → d ≡ month_length c y i → start_of_year c y +ℤ pos n ≡ day_number c (date y i d) +ℤ pos 1 → n ≡ year_length c y
year_length-last c law y i d n e f g =
    let here : HasPlace c y i = (omega (arith, law.count y), omega arith) in
    omega (arith, signed, days_before-next c y i here, days_before-end c y (i + 1) (omega arith), law.lengths y i here)
