-- What the published tables hold.
use Rattle.std.specs.Prelude.{ℕ, zero, suc, ℤ, pos, ◌+ℤ◌, ◌-ℤ◌, nat_abs, List, [], ◌∷◌}
use Rattle.cal_east_asian.specs.EastAsianRows as east_asian
use Rattle.cal_gregory.specs.JapaneseEraList.{eras_up_to_reiwa}
use Rattle.cal_hijri.specs.HijriRows as hijri
use Rattle.cal_tables.specs.Kinds.{TableContents}
use Rattle.published_years.specs.declared.east_asian_data.TheConstants.{CHINA, KOREA}
use Rattle.published_years.specs.declared.hijri_data.TheConstants.{UMM_AL_QURA}
use Rattle.published_years.specs.declared.persian_data.TheConstants.{CORRECTED_YEARS}

-- so many numbers in a row, from the first on
abbrev pub numbers_from : ℤ → ℕ → List ℤ
numbers_from first zero = []
numbers_from first (suc n) = first ∷ numbers_from (first +ℤ pos 1) n

-- the numbers in a row from the first to the last, which isn't below it
abbrev pub numbers_through : ℤ → ℤ → List ℤ
numbers_through first last = numbers_from first (nat_abs (last +ℤ pos 1 -ℤ first))

-- the published rows, and the eras up to Reiwa
abbrev pub published_contents : TableContents
published_contents = record {
  china = east_asian.years_of CHINA;
  korea = east_asian.years_of KOREA;
  hijri = hijri.years_of UMM_AL_QURA;
  persian = CORRECTED_YEARS;
  eras = eras_up_to_reiwa [];
}
