-- The kinds of calendars by their names: the program's, those of the variants, and CLDR's (the key `ca` of UTS 35).
use Rattle.std.specs.Prelude.{ℕ, List, [], ◌∷◌, Option, Some, None, if◌then◌else◌, codes}
use Rattle.cal_errors.specs.declared.algorithm.CalendarAlgorithm.{CalendarAlgorithm}
use Rattle.cal_errors.specs.declared.algorithm.CalendarAlgorithm.TheVariants as algorithm
use Rattle.cal_errors.specs.declared.algorithm.HijriCalendarAlgorithm.TheVariants.{Civil, Rgsa, Tbla, Umalqura}
use Rattle.cal_types.specs.YearNames.{is_code}
use Rattle.cal_kinds.specs.declared.any_calendar_kind.AnyCalendarKind.{AnyCalendarKind}
use Rattle.cal_kinds.specs.declared.any_calendar_kind.AnyCalendarKind.TheVariants as kind

-- the program's names
abbrev pub program_names : List (List ℕ × AnyCalendarKind)
program_names =
    (codes "iso", kind.Iso)
    ∷ (codes "gregorian", kind.Gregorian)
    ∷ (codes "julian", kind.Julian)
    ∷ (codes "buddhist", kind.Buddhist)
    ∷ (codes "chinese", kind.Chinese)
    ∷ (codes "coptic", kind.Coptic)
    ∷ (codes "dangi", kind.Dangi)
    ∷ (codes "ethiopic", kind.Ethiopian)
    ∷ (codes "ethioaa", kind.EthiopianAmeteAlem)
    ∷ (codes "hebrew", kind.Hebrew)
    ∷ (codes "indian", kind.Indian)
    ∷ (codes "islamic-civil", kind.HijriTabularTypeIIFriday)
    ∷ (codes "islamic-simulated", kind.HijriSimulatedMecca)
    ∷ (codes "islamic-tbla", kind.HijriTabularTypeIIThursday)
    ∷ (codes "islamic-umalqura", kind.HijriUmmAlQura)
    ∷ (codes "japanese", kind.Japanese)
    ∷ (codes "persian", kind.Persian)
    ∷ (codes "roc", kind.Roc)
    ∷ (codes "islamic-type1-friday", kind.HijriTabularTypeIFriday)
    ∷ (codes "islamic-type1-thursday", kind.HijriTabularTypeIThursday)
    ∷ []

-- the kind of the first of the names that is the word
abbrev pub kind_among : List ℕ → List (List ℕ × AnyCalendarKind) → Option AnyCalendarKind
kind_among word [] = None
kind_among word (named ∷ others) = if is_code word named.0 then Some named.1 else kind_among word others

abbrev pub kind_named : List ℕ → Option AnyCalendarKind
kind_named word = kind_among word program_names

-- a kind's text is the name of its variant
abbrev pub variant_name : AnyCalendarKind → List ℕ
variant_name kind.Buddhist = codes "Buddhist"
variant_name kind.Chinese = codes "Chinese"
variant_name kind.Coptic = codes "Coptic"
variant_name kind.Dangi = codes "Dangi"
variant_name kind.Ethiopian = codes "Ethiopian"
variant_name kind.EthiopianAmeteAlem = codes "EthiopianAmeteAlem"
variant_name kind.Gregorian = codes "Gregorian"
variant_name kind.Hebrew = codes "Hebrew"
variant_name kind.Indian = codes "Indian"
variant_name kind.HijriTabularTypeIIFriday = codes "HijriTabularTypeIIFriday"
variant_name kind.HijriSimulatedMecca = codes "HijriSimulatedMecca"
variant_name kind.HijriTabularTypeIIThursday = codes "HijriTabularTypeIIThursday"
variant_name kind.HijriUmmAlQura = codes "HijriUmmAlQura"
variant_name kind.Iso = codes "Iso"
variant_name kind.Japanese = codes "Japanese"
variant_name kind.JapaneseExtended = codes "JapaneseExtended"
variant_name kind.Julian = codes "Julian"
variant_name kind.Persian = codes "Persian"
variant_name kind.Roc = codes "Roc"
variant_name kind.HijriTabularTypeIFriday = codes "HijriTabularTypeIFriday"
variant_name kind.HijriTabularTypeIThursday = codes "HijriTabularTypeIThursday"

-- the kind of calendar that CLDR's name stands for; `islamic` and `islamic-rgsa` stand for none
abbrev pub kind_of_algorithm : CalendarAlgorithm → Option AnyCalendarKind
kind_of_algorithm algorithm.Buddhist = Some kind.Buddhist
kind_of_algorithm algorithm.Chinese = Some kind.Chinese
kind_of_algorithm algorithm.Coptic = Some kind.Coptic
kind_of_algorithm algorithm.Dangi = Some kind.Dangi
kind_of_algorithm algorithm.Ethioaa = Some kind.EthiopianAmeteAlem
kind_of_algorithm algorithm.Ethiopic = Some kind.Ethiopian
kind_of_algorithm algorithm.Gregory = Some kind.Gregorian
kind_of_algorithm algorithm.Hebrew = Some kind.Hebrew
kind_of_algorithm (algorithm.Hijri None) = None
kind_of_algorithm (algorithm.Hijri (Some Civil)) = Some kind.HijriTabularTypeIIFriday
kind_of_algorithm (algorithm.Hijri (Some Rgsa)) = None
kind_of_algorithm (algorithm.Hijri (Some Tbla)) = Some kind.HijriTabularTypeIIThursday
kind_of_algorithm (algorithm.Hijri (Some Umalqura)) = Some kind.HijriUmmAlQura
kind_of_algorithm algorithm.Indian = Some kind.Indian
kind_of_algorithm algorithm.Iso8601 = Some kind.Iso
kind_of_algorithm algorithm.Japanese = Some kind.Japanese
kind_of_algorithm algorithm.Persian = Some kind.Persian
kind_of_algorithm algorithm.Roc = Some kind.Roc
