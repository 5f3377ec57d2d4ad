use Rattle.std.proofs.Common.{◌≡◌, ◌∙◌, ℕ, ◌+◌, Bool, true, false, if◌then◌else◌, refl, to_z, of_z, w32, w64, ap, arith}
use Rattle.cal_days.specs.Easter.{adjusted_epact, century_of, gregorian_epact, gregorian_shifted_epact, is_moon_earlier, metonic_year}
use Rattle.cal_days.proofs.Signed.{signed}
use Rattle.cal_days.proofs.gregorian.adjusted_epact.Goals as goal
use mir.Val.{bool_byte}

added : (b : Bool) (e : ℕ) → e + bool_byte b ≡ e + (if b then 1 else 0)
added true e = refl
added false e = refl

pub returns-clause-value : goal.returns-clause-value
unfolding gregorian_epact
returns-clause-value c =
    let same : to_z w32 (of_z w32 c.args.year) ≡ c.args.year = omega (arith, signed) in
    let century : to_z w64 (of_z w64 c.century.result) ≡ century_of c.args.year = omega (arith, signed, c.century.ensures, rw same at c.century.ensures.value) in
    let metonic : c.year_in_metonic_cycle-metonic.result ≡ metonic_year c.args.year = rw same at c.year_in_metonic_cycle-metonic.ensures.value in
    let epact : c.shifted_epact-epact.result ≡ gregorian_shifted_epact (metonic_year c.args.year) (century_of c.args.year) = rw (century, metonic) at c.shifted_epact-epact.ensures.value in
    let earlier = ap bool_byte c.is_full_moon_earlier.ensures in
    let sum : c.shifted_epact-epact.result + c.from.result ≡ adjusted_epact c.shifted_epact-epact.result c.year_in_metonic_cycle-metonic.result = ap (λ (n : ℕ). c.shifted_epact-epact.result + n) (c.from.ensures ∙ earlier) ∙ added (is_moon_earlier c.shifted_epact-epact.result c.year_in_metonic_cycle-metonic.result) c.shifted_epact-epact.result in
    sum ∙ (ap (λ (e : ℕ). adjusted_epact e c.year_in_metonic_cycle-metonic.result) epact ∙ ap (adjusted_epact (gregorian_shifted_epact (metonic_year c.args.year) (century_of c.args.year))) metonic)
