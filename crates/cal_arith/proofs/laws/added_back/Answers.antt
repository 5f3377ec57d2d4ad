use Rattle.std.proofs.Common.{◌≡◌, ℤ, pos, ◌+ℤ◌, Result, Ok, Err, sym, ap, subst, ◌∙◌, arith}
use Rattle.std.specs.Prelude.{MatchResult, IfOk}
use Rattle.cal_days.specs.Day.{IsFieldYear}
use Rattle.cal_days.proofs.Signed.{signed}
use Rattle.cal_errors.specs.declared.errors.DateAddError.{DateAddError}
use Rattle.cal_types.specs.declared.options.Overflow.TheVariants.{Constrain}
use Rattle.cal_types.specs.CalendarList.{Date, IsValidDate}
use Rattle.cal_types.specs.Difference.{largest_unit_of}
use Rattle.cal_types.proofs.AddingLemmas.{difference-added_back}
use Rattle.cal_types.proofs.SumLaws.{sum-unique}
use Rattle.cal_arith.specs.Given.{CalendarYears, IsGiven}
use Rattle.cal_arith.specs.Dates.{answer_by, date_of, ymd, Belongs}
use Rattle.cal_arith.specs.declared.dates.Ymd.{Ymd}
use Rattle.cal_arith.proofs.laws.added_back.Goals as goal

-- a year shifted by nothing
unshifted : (y : ℤ) → IsFieldYear y → IsFieldYear (y +ℤ pos 0)
unshifted y h = let same : y ≡ y +ℤ pos 0 = omega (arith, signed) in subst IsFieldYear same h

-- dates of given years that are the same in extended years have the same parts
same_parts : {Y : Type 0} (years : CalendarYears Y) (p q : Ymd Y) → IsGiven years p.year → IsGiven years q.year → date_of years p ≡ date_of years q → p ≡ q
same_parts years p q h k e =
    let year = sym h.same ∙ (ap years.year_of (ap (λ (t : Date). t.year) e) ∙ k.same) in
    let month = ap (λ (t : Date). t.month) e in
    let day = ap (λ (t : Date). t.day) e in
    ap (λ (y : _). ymd y p.month p.day) year ∙ (ap (λ (i : _). ymd q.year i p.day) month ∙ ap (ymd q.year q.month) day)

ok_same : {t u : Date} → ◌≡◌ {A = Result Date DateAddError} (Ok t) (Ok u) → t ≡ u
ok_same e = cc

-- an answer that is the date u has its parts
answered : {A Y : Type 0} (years : CalendarYears Y) (parts : A → Ymd Y) (r : Result A DateAddError) (q : Ymd Y) → IfOk r (λ a. Belongs years (parts a)) → IsGiven years q.year → answer_by (λ a. date_of years (parts a)) r ≡ Ok (date_of years q) → MatchResult r (λ a. parts a ≡ q) (λ _. ⊥)
answered years parts (Ok a) q h k e = same_parts years (parts a) q h.year k (ok_same e)
answered years parts (Err f) q h k e = cc

pub returns : goal.returns
returns g c =
    let s = c.args.cal.now in let years = g.C.YearShapes.years s in let laws = g.met.C.YearShapes in
    let first = c.requires.first in let second = c.requires.second in
    let t = date_of years c.args.first.now.parts in let u = date_of years c.args.second.now.parts in
    let h : IsValidDate years.list t = record { date = first.date; valid = first.valid } in
    let k : IsValidDate years.list u = record { date = second.date; valid = second.valid } in
    let p = (laws.ranged s t h).0 in let q = (laws.ranged s u k).0 in
    let back = difference-added_back years.list (laws.lawful s) t u h k (largest_unit_of c.args.options.largest_unit) c.until-duration.result c.until-duration.ensures.difference (pos 0) p q (unshifted t.year p) (unshifted u.year q) (laws.apart s t u h k) in
    let same = sum-unique years.list (pos 0) t c.until-duration.result Constrain (answer_by (λ a. date_of years a.parts) c.added.result) (Ok u) c.added.ensures.sum back in
    answered years (λ a. a.parts) c.added.result c.args.second.now.parts c.added.ensures.belongs second.year same
