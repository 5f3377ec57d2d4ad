-- The ranges of what the eras of the Japanese calendar read as, and that a year in its era has its extended year.
use Rattle.std.proofs.Common.{◌≡◌, ℕ, ℤ, pos, ◌-ℤ◌, ◌+ℤ◌, List, [], ◌∷◌, Option, None, Some, Bool, true, false, if◌then◌else◌, refl, subst, arith}
use Rattle.std.specs.Prelude.{IfSome, ◌&&◌, nat_le, take}
use Rattle.std.specs.Option.{option_or}
use Rattle.cal_days.specs.Day.{IsBetween, is_between, IsConstructorYear, IsCoveredYear, IsFieldYear, IsNearEra, IsRuleYear}
use Rattle.cal_days.proofs.RangeLemmas.{is_between-true}
use Rattle.cal_days.proofs.Signed.{signed}
use Rattle.cal_types.specs.CalendarList.{Date}
use Rattle.cal_types.specs.Eras.{common_era_reads}
use Rattle.cal_types.specs.YearNames.{is_code}
use Rattle.cal_types.proofs.DateTests.{and-left}
use Rattle.cal_types.proofs.EraLemmas.{common_era_reads-in_range, common_era_reads-near, near_era-covered}
use Rattle.cal_gregory.specs.laws.CommonEraLaws.{common_era_year-named, either_extended}
use Rattle.cal_gregory.specs.JapaneseEraList.{IsStartYear, ListedEra, last_era, has_started, year_of_era, japanese_reads, is_early_meiji, year_printed, japanese_era_year}
use Rattle.cal_gregory.specs.JapaneseEras.{later_eras, listed_eras}
use Rattle.cal_gregory.specs.LastEra.{is_last_code, is_last_index, is_last_start}
use Rattle.cal_gregory.specs.declared.era_start_date.EraStartDate.{EraStartDate}
use Rattle.cal_gregory.specs.declared.later_era.LaterEra.{LaterEra}
use Rattle.cal_gregory.specs.declared.japanese_eras.JapaneseEras.{JapaneseEras}

-- each era starts in them
abbrev AllNear : List ListedEra → Type 0
AllNear [] = Unit {0}
AllNear (e ∷ es) = IsStartYear e.0.year × AllNear es

-- an era after Reiwa starts from 2026 to 2089
last_start-years : (start : EraStartDate) → is_last_start start ≡ true → IsBetween (pos 2026) (pos 2089) start.year
last_start-years start h =
    let is_year = is_between (pos 2026) (pos 2089) start.year in
    let is_month = nat_le 1 start.month && nat_le start.month 15 in
    let is_day = nat_le 1 start.day && nat_le start.day 31 in
    is_between-true (pos 2026) (pos 2089) start.year (and-left is_year is_month (and-left (is_year && is_month) is_day h))

later_near : (later : Option LaterEra) → AllNear (later_eras later)
later_near None = tt
later_near (Some e) =
    let years = last_start-years e.start (and-left (is_last_start e.start) (is_last_code (take e.len e.code)) (and-left (is_last_start e.start && is_last_code (take e.len e.code)) (is_last_index e.index) e.accepted)) in
    ((omega (arith, signed, years), omega (arith, signed, years)), tt)

listed_near : (eras : JapaneseEras) → AllNear (listed_eras eras)
listed_near eras = (
  (omega (arith, signed), omega (arith, signed)),
  (
    (omega (arith, signed), omega (arith, signed)),
    (
      (omega (arith, signed), omega (arith, signed)),
      (
        (omega (arith, signed), omega (arith, signed)),
        ((omega (arith, signed), omega (arith, signed)), later_near eras.later),
      ),
    ),
  ),
)

-- the same of the era that is found
abbrev pub FoundNear : Option ListedEra → Type 0
FoundNear found = IfSome found (λ e. IsStartYear e.0.year)

near_of_two : (a : Option ListedEra) (passes : Bool) (e : ListedEra) → FoundNear a → IsStartYear e.0.year → FoundNear (option_or a (if passes then Some e else None))
near_of_two (Some x) passes e h k = h
near_of_two None true e h k = k
near_of_two None false e h k = tt

found_near : (passes : ListedEra → Bool) (es : List ListedEra) → AllNear es → FoundNear (last_era passes es)
found_near passes [] h = tt
found_near passes (e ∷ es) h = near_of_two (last_era passes es) (passes e) e (found_near passes es h.1) h.0

-- a listed era starts in those years
pub listed-near : (passes : ListedEra → Bool) (eras : JapaneseEras) → FoundNear (last_era passes (listed_eras eras))
listed-near passes eras = found_near passes (listed_eras eras) (listed_near eras)

-- a year is read by the Gregorian eras, or by a listed one
by_eras : (P : ℤ → Type 0) (n : ℤ) (a : Option ℤ) (found : Option ListedEra) → FoundNear found → ((y : ℤ) → a ≡ Some y → P y) → ((s : ℤ) → IsStartYear s → P (n -ℤ pos 1 +ℤ s)) → (y : ℤ) → option_or a (year_of_era found n) ≡ Some y → P y
by_eras P n (Some x) found near common listed y e = common y e
by_eras P n None None near common listed y e = absurd (differ e) where
  differ : ◌≡◌ {A = Option ℤ} None (Some y) → ⊥
  differ h = cc
by_eras P n None (Some era) near common listed y e =
    let same : n -ℤ pos 1 +ℤ era.0.year ≡ y = cc in
    subst P same (listed era.0.year near)

pub japanese_reads-in_range : (eras : JapaneseEras) (era : List ℕ) (n y : ℤ) → IsFieldYear n → japanese_reads (listed_eras eras) era n ≡ Some y → IsRuleYear y
japanese_reads-in_range eras era n y h e =
    by_eras IsRuleYear n (common_era_reads era n) (last_era (λ e. is_code era e.1) (listed_eras eras)) (listed-near (λ e. is_code era e.1) eras)
    (λ z same. common_era_reads-in_range era n z h same)
    (λ s near. (omega (arith, signed, h, near), omega (arith, signed, h, near))) y e

pub japanese_reads-near : (eras : JapaneseEras) (era : List ℕ) (n y : ℤ) → IsConstructorYear n → japanese_reads (listed_eras eras) era n ≡ Some y → IsNearEra y
japanese_reads-near eras era n y h e =
    by_eras IsNearEra n (common_era_reads era n) (last_era (λ e. is_code era e.1) (listed_eras eras)) (listed-near (λ e. is_code era e.1) eras)
    (λ z same. common_era_reads-near era n z h same)
    (λ s near. (omega (arith, signed, h, near), omega (arith, signed, h, near))) y e

-- so their days are valid
pub japanese_reads-covered : (eras : JapaneseEras) (era : List ℕ) (n y : ℤ) → IsConstructorYear n → japanese_reads (listed_eras eras) era n ≡ Some y → IsCoveredYear y
japanese_reads-covered eras era n y h e = near_era-covered y (japanese_reads-near eras era n y h e)

printed_named : (found : Option ListedEra) (y : ℤ) → (year_printed found y).extended_year ≡ y
printed_named None y = common_era_year-named y
printed_named (Some e) y = either_extended (is_early_meiji e y) _ _ y (common_era_year-named y) refl

pub japanese_era-named : (eras : JapaneseEras) (t : Date) → (japanese_era_year (listed_eras eras) t).extended_year ≡ t.year
japanese_era-named eras t = printed_named (last_era (has_started t) (listed_eras eras)) t.year
