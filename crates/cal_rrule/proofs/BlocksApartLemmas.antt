-- Blocks of periods that aren't next to each other have their days in order.
use Rattle.std.proofs.Common.{◌≡◌, ◌<ℤ◌, refl}
use Rattle.cal_days.proofs.Signed.{by_bool}
use Rattle.cal_types.specs.CalendarList.{CalendarList, Date, IsLawful}
use Rattle.cal_rule.specs.declared.frequency.Frequency.{Frequency}
use Rattle.cal_rule.specs.declared.frequency.Frequency.TheVariants.{Yearly, Monthly, Weekly, Daily}
use Rattle.cal_rule.specs.declared.rule.RecurrenceRule.{RecurrenceRule}
use Rattle.cal_rrule.specs.Blocks.{AreApart, IsOfBlocks}
use Rattle.cal_rrule.specs.Looks.{AreMissing}
use Rattle.cal_rrule.specs.Periods.{NoWeeks}
use Rattle.cal_rrule.specs.declared.missing.Missing.{Missing}
use Rattle.cal_rrule.proofs.ApartLemmas.{daily-apart, weekly-apart, weeks-apart}
use Rattle.cal_rrule.proofs.AskedLemmas.{there-by}
use Rattle.cal_rrule.specs.laws.MonthlyApart.{monthly-apart}
use Rattle.cal_rrule.proofs.YearlyLemmas.{yearly-apart}

-- the days of a block are before those of the blocks behind the next one
pub blocks-apart : (c : CalendarList) → IsLawful c → (rule : RecurrenceRule) (missing : Missing) → AreMissing rule missing →
    (t : Date) → AreApart c rule t
blocks-apart c law rule missing are t i j m n far left right p q = by_frequency rule.frequency refl p q
  where
    by_frequency : (f : Frequency) → rule.frequency ≡ f → IsOfBlocks f c rule t i m → IsOfBlocks f c rule t j n → m <ℤ n
    by_frequency Yearly is a b = by_bool missing.weeks
        (λ e. yearly-apart c rule t is (are.no_weeks.0 e) law missing are rule.every i j m n far a b)
        (λ e. weeks-apart c rule t is (there-by (NoWeeks rule) missing.weeks are.no_weeks e) i j m n far a b)
    by_frequency Monthly is a b = monthly-apart c law rule t is rule.every i j m n far a b
    by_frequency Weekly is a b = weekly-apart c rule t is i j m n far a b
    by_frequency Daily is a b = daily-apart c law rule t i j m n far a b
