-- The calendar algorithms by their names, and which of them a preference stands for.
-- Source: the key `ca` of CLDR (UTS 35).
use Rattle.std.specs.Prelude.{ℕ, List, [], ◌∷◌, Option, Some, None, codes}
use Rattle.std.specs.List.{find}
use Rattle.std.specs.Str.{bytes_eq}
use Rattle.cal_errors.specs.declared.algorithm.CalendarAlgorithm.{CalendarAlgorithm}
use Rattle.cal_errors.specs.declared.algorithm.CalendarAlgorithm.TheVariants.{Buddhist, Chinese, Coptic, Dangi, Ethioaa, Ethiopic, Gregory, Hebrew, Hijri, Indian, Iso8601, Japanese, Persian, Roc}
use Rattle.cal_errors.specs.declared.algorithm.HijriCalendarAlgorithm.TheVariants.{Civil, Rgsa, Tbla, Umalqura}
use Rattle.cal_errors.specs.declared.calendar_preference.CalendarPreference.{CalendarPreference}

-- the name of an algorithm
abbrev pub algorithm_name : CalendarAlgorithm → List ℕ
algorithm_name Buddhist = codes "buddhist"
algorithm_name Chinese = codes "chinese"
algorithm_name Coptic = codes "coptic"
algorithm_name Dangi = codes "dangi"
algorithm_name Ethioaa = codes "ethioaa"
algorithm_name Ethiopic = codes "ethiopic"
algorithm_name Gregory = codes "gregory"
algorithm_name Hebrew = codes "hebrew"
algorithm_name (Hijri None) = codes "islamic"
algorithm_name (Hijri (Some Civil)) = codes "islamic-civil"
algorithm_name (Hijri (Some Rgsa)) = codes "islamic-rgsa"
algorithm_name (Hijri (Some Tbla)) = codes "islamic-tbla"
algorithm_name (Hijri (Some Umalqura)) = codes "islamic-umalqura"
algorithm_name Indian = codes "indian"
algorithm_name Iso8601 = codes "iso8601"
algorithm_name Japanese = codes "japanese"
algorithm_name Persian = codes "persian"
algorithm_name Roc = codes "roc"

-- all algorithms
abbrev pub algorithms : List CalendarAlgorithm
algorithms =
    Buddhist ∷ Chinese ∷ Coptic ∷ Dangi ∷ Ethioaa ∷ Ethiopic ∷ Gregory ∷ Hebrew
    ∷ Hijri None ∷ Hijri (Some Civil) ∷ Hijri (Some Rgsa) ∷ Hijri (Some Tbla) ∷ Hijri (Some Umalqura)
    ∷ Indian ∷ Iso8601 ∷ Japanese ∷ Persian ∷ Roc ∷ []

-- the algorithm with a name
abbrev pub algorithm_named : List ℕ → Option CalendarAlgorithm
algorithm_named name = find (λ a. bytes_eq name (algorithm_name a)) algorithms

-- the algorithm that is meant: the default one where none is given, and the default kind where `islamic` is given alone
abbrev pub resolved : CalendarPreference → Option CalendarAlgorithm → CalendarAlgorithm
resolved p None = p.default_algorithm
resolved p (Some (Hijri None)) = Hijri (Some p.default_hijri_algorithm)
resolved p (Some a) = a
