use Rattle.std.proofs.Common.{◌≡◌, Bool, List, ℕ, ℤ, pos, ◌+ℤ◌, ◌-ℤ◌, Some, sym, ap, ◌∙◌, to_z, of_z, w32, arith}
use Rattle.std.specs.Prelude.{◌&&◌, codes, int_lt}
use Rattle.cal_days.specs.Day.{IsFieldYear}
use Rattle.cal_days.proofs.Signed.{signed}
use Rattle.cal_types.specs.declared.year.EraYear.{EraYear}
use Rattle.cal_types.specs.declared.year.YearAmbiguity.TheVariants.{CenturyRequired}
use Rattle.cal_types.specs.YearNames.{is_code}
use Rattle.cal_gregory.specs.CommonEra.{common_era_year}
use Rattle.cal_gregory.specs.JapaneseEraList.{IsStartYear, ListedEra, number_in_era, is_early_meiji}
use Rattle.cal_gregory.proofs.japanese.year_in_era.Goals as goal

early : (era : ListedEra) (year : ℤ) (code : List ℕ) (number : ℤ) (r : Bool) → code ≡ era.1 → number ≡ number_in_era era year → r ≡ (is_code code (codes "meiji") && int_lt number (pos 6)) → is_early_meiji era year ≡ r
early era year code number r same counted test =
    sym (test ∙ ap (λ (cs : List ℕ). is_code cs (codes "meiji") && int_lt number (pos 6)) same
    ∙ ap (λ (z : ℤ). is_code era.1 (codes "meiji") && int_lt z (pos 6)) counted)

-- the number of the year as it is computed
number_argument : (year start : ℤ) → IsFieldYear year → IsStartYear start → to_z w32 (of_z w32 (to_z w32 (of_z w32 (to_z w32 (of_z w32 year) -ℤ to_z w32 (of_z w32 start))) +ℤ pos 1)) ≡ year -ℤ start +ℤ pos 1
number_argument year start h k = omega (arith, signed, h, k)

abbrev shown : ℤ → ℤ → List ℕ → ℕ → EraYear
shown number year code index = record { year = number; extended_year = year; era = code; era_index = Some index; ambiguity = CenturyRequired }

shown_same : (m n y z : ℤ) (code text : List ℕ) (index : ℕ) → m ≡ n → y ≡ z → code ≡ text → shown m y code index ≡ shown n z text index
shown_same m n y z code text index p q r = ap (λ (x : ℤ). shown x y code index) p ∙ (ap (λ (x : ℤ). shown n x code index) q ∙ ap (λ (cs : List ℕ). shown n z cs index) r)

pub returns-then-is_early_meiji : goal.returns-then-is_early_meiji
returns-then-is_early_meiji c =
    let era = c.args.era in
    let counted = number_argument c.args.year era.0.year c.requires.year c.requires.start in
    let kept : to_z w32 (of_z w32 c.args.year) ≡ c.args.year = omega (arith, signed) in
    let test = early era c.args.year _ _ _ c.as_bytes.ensures.value counted c.is_early_meiji.ensures ∙ c.if-is_early_meiji.true in
    rw test (c.era_year.ensures ∙ ap common_era_year kept)

pub returns-else-is_early_meiji : goal.returns-else-is_early_meiji
returns-else-is_early_meiji c =
    let era = c.args.era in
    let counted = number_argument c.args.year era.0.year c.requires.year c.requires.start in
    let kept : to_z w32 (of_z w32 c.args.year) ≡ c.args.year = omega (arith, signed) in
    let test = early era c.args.year _ _ _ c.as_bytes.ensures.value counted c.is_early_meiji.ensures ∙ c.if-is_early_meiji.false in
    rw test (shown_same _ _ _ _ _ _ era.2 counted kept c.resize.ensures)
