-- What `explain` writes for the lines of an input.
use Rattle.std.specs.Prelude.{ℕ, ◌+◌, ◌-◌, ◌||◌, Bool, true, false, List, [], ◌∷◌, ◌++◌, nat_lt, length, drop, codes, Option, Some, None, if◌then◌else◌}
use Rattle.std.specs.Borrow.{Bor}
use Rattle.std.specs.Fmt.{decimal}
use Rattle.std.specs.Option.{option_map}
use Rattle.std.specs.Str.Lines.{strip_carriage_return}
use Rattle.request_lines.specs.Lines.{is_silent}
use Rattle.request_lines.specs.Words.{words_of}
use Rattle.line_faults.specs.Faults.{first_of}
use Rattle.line_faults.specs.declared.expected.Expected.{Expected}
use Rattle.line_faults.specs.declared.expected.Expected.TheVariants.{First, Calendar, Shown, Unit, Overflow, MissingFields, From, FieldOrTo, Field, Table, LunisolarYear, LunisolarStart, LunisolarLengths, NoLeapMonth, LeapMonth, HijriYear, HijriStart, HijriLengths, PersianYear, EraYear, EraMonth, EraDay, EraCode, EraIndex, End}
use Rattle.row_faults.specs.Stages.{after_line, line_fault, word_of}
use Rattle.row_faults.specs.declared.allowed.Allowed.{Allowed}
use Rattle.row_faults.specs.declared.allowed.Allowed.TheVariants as allowed
use Rattle.row_faults.specs.declared.faults.Fault.{Fault}
use Rattle.row_faults.specs.declared.faults.Fault.TheVariants.{Malformed, Misplaced}
use Rattle.row_faults.specs.declared.stages.Stage.{Stage}
use Rattle.calspan_run.specs.Converted.{Answer}

-- what may stand at a place, at the end of a line
abbrev pub ending_of : Expected → List ℕ
ending_of First = codes ": span or row" ++ 10 ∷ []
ending_of Calendar =
    codes ": a calendar: iso, gregorian, julian, buddhist, roc, japanese, chinese, dangi, hebrew, "
    ++ codes "islamic-umalqura, islamic-civil, islamic-tbla, islamic-type1-friday, islamic-type1-thursday, "
    ++ codes "islamic-simulated, persian, indian, coptic, ethiopic or ethioaa" ++ 10 ∷ []
ending_of Shown =
    codes ": a calendar: iso, gregorian, julian, buddhist, roc, japanese, chinese, dangi, hebrew, "
    ++ codes "islamic-umalqura, islamic-civil, islamic-tbla, islamic-type1-friday, islamic-type1-thursday, "
    ++ codes "islamic-simulated, persian, indian, coptic, ethiopic or ethioaa" ++ 10 ∷ []
ending_of Unit = codes ": years, months, weeks, days or none" ++ 10 ∷ []
ending_of Overflow = codes ": constrain, reject or none" ++ 10 ∷ []
ending_of MissingFields = codes ": reject, ecma or none" ++ 10 ∷ []
ending_of From = codes ": from" ++ 10 ∷ []
ending_of FieldOrTo =
    codes ": to, or a new field: era=BYTES, era-year=INT, year=INT, month=CODE, "
    ++ codes "month-code=BYTES, ordinal=BYTE or day=BYTE" ++ 10 ∷ []
ending_of Field =
    codes ": a new field: era=BYTES, era-year=INT, year=INT, month=CODE, "
    ++ codes "month-code=BYTES, ordinal=BYTE or day=BYTE" ++ 10 ∷ []
ending_of Table = codes ": china, korea, hijri, persian or era" ++ 10 ∷ []
ending_of LunisolarYear = codes ": YEAR, an optional - and 1 to 9 digits" ++ 10 ∷ []
ending_of LunisolarStart = codes ": START, an optional - and 1 to 9 digits" ++ 10 ∷ []
ending_of LunisolarLengths = codes ": LENGTHS, 12 or 13 letters l and s" ++ 10 ∷ []
ending_of NoLeapMonth = codes ": LEAP, 0 after 12 lengths" ++ 10 ∷ []
ending_of LeapMonth = codes ": LEAP, 1 to 255 after 13 lengths" ++ 10 ∷ []
ending_of HijriYear = codes ": YEAR, an optional - and 1 to 9 digits" ++ 10 ∷ []
ending_of HijriStart = codes ": START, an optional - and 1 to 9 digits" ++ 10 ∷ []
ending_of HijriLengths = codes ": LENGTHS, 12 letters l and s" ++ 10 ∷ []
ending_of PersianYear = codes ": YEAR, an optional - and 1 to 9 digits" ++ 10 ∷ []
ending_of EraYear = codes ": YEAR, an optional - and 1 to 9 digits" ++ 10 ∷ []
ending_of EraMonth = codes ": MONTH, 1 to 3 digits up to 255" ++ 10 ∷ []
ending_of EraDay = codes ": DAY, 1 to 3 digits up to 255" ++ 10 ∷ []
ending_of EraCode = codes ": CODE, 1 to 8 letters a to z" ++ 10 ∷ []
ending_of EraIndex = codes ": INDEX, 1 to 3 digits up to 255" ++ 10 ∷ []
ending_of End = codes ": the end of the line" ++ 10 ∷ []

-- what may stand in place of a word that its form allows
abbrev pub allowed_ending : Allowed → List ℕ
allowed_ending allowed.Span = codes ": span" ++ 10 ∷ []
allowed_ending allowed.SpanForRow = codes ": span, since rows come before the first request" ++ 10 ∷ []
allowed_ending allowed.YearTable =
    codes ": china, korea, hijri or persian, since an earlier row has an era" ++ 10 ∷ []
allowed_ending allowed.RuleYear = codes ": YEAR, -8000000 to 8000000" ++ 10 ∷ []
allowed_ending allowed.LunisolarStart = codes ": START, 0 to 34 days after January 19 of the year" ++ 10 ∷ []
allowed_ending allowed.HijriStart = codes ": START, at most 5 days from the start of the mean year" ++ 10 ∷ []
allowed_ending allowed.LeapMonth = codes ": LEAP, 2 to 13 after 13 lengths" ++ 10 ∷ []
allowed_ending allowed.EraYear = codes ": YEAR, up to 2089" ++ 10 ∷ []
allowed_ending allowed.EraMonth = codes ": MONTH, 1 to 15" ++ 10 ∷ []
allowed_ending allowed.EraDay = codes ": DAY, 1 to 31" ++ 10 ∷ []
allowed_ending allowed.EraIndex = codes ": INDEX, 7 or 8" ++ 10 ∷ []

abbrev pub fault_ending : Fault → List ℕ
fault_ending (Malformed fault) = ending_of fault.expected
fault_ending (Misplaced allowed) = allowed_ending allowed

-- the numbers of a line and of a word
abbrev pub place_text : ℕ → ℕ → List ℕ
place_text n word = (codes "line " ++ decimal n) ++ (codes " word " ++ decimal word)

-- the bytes of a word, if there is one
abbrev pub word_bytes : Option (Bor (List ℕ)) → Option (List ℕ)
word_bytes word = option_map (λ bytes. bytes.now) word

-- the word that stands there, if there is one
abbrev pub standing : Option (List ℕ) → List ℕ
standing None = []
standing (Some word) = 32 ∷ word

-- the line about a fault
abbrev pub fault_text : ℕ → Fault → Option (List ℕ) → List ℕ
fault_text n fault word = (place_text n (word_of fault) ++ standing word) ++ fault_ending fault

-- the line about a line of more than 512 bytes
abbrev pub long_text : ℕ → List ℕ
long_text n = (codes "line " ++ decimal n) ++ (codes ": at most 512 bytes" ++ 10 ∷ [])

-- the line about the fault of some words, and whether there is one
abbrev pub fault_explained : ℕ → List (List ℕ) → Option Fault → Answer
fault_explained n words None = ([], false)
fault_explained n words (Some fault) = (fault_text n fault (first_of (drop (word_of fault - 1) words)), true)

-- the line about the line of number n
abbrev pub explained_line : Stage → ℕ → List ℕ → Answer
explained_line stage n line =
    if is_silent line then ([], false)
    else (if nat_lt 512 (length line) then (long_text n, true)
    else fault_explained n (words_of (strip_carriage_return line)) (line_fault stage line))

-- the lines about some lines, the first of which has number n
abbrev pub explained : Stage → ℕ → List (List ℕ) → List ℕ
explained stage n [] = []
explained stage n (line ∷ more) = (explained_line stage n line).0 ++ explained (after_line stage line) (n + 1) more

-- whether one of them has a fault, or one before had
abbrev pub any_malformed : Bool → Stage → ℕ → List (List ℕ) → Bool
any_malformed before stage n [] = before
any_malformed before stage n (line ∷ more) =
    any_malformed (before || (explained_line stage n line).1) (after_line stage line) (n + 1) more
