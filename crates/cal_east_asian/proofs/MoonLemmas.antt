-- The least number that meets a test, step by step, and facts where a call's arguments come back from their bits.
use Rattle.std.proofs.Common.{◌≡◌, ℕ, zero, suc, ◌+◌, ◌<◌, Bool, true, false, cond, Some, refl, sym, ap, arith, ℤ, pos, ◌+ℤ◌}
use Rattle.cal_days.proofs.Signed.{signed}
use Rattle.cal_east_asian.specs.MeanYears.{moon, term, last_moon, lacks_term, least, leap_month}

pub moon-first : (o : ℤ) → moon o (pos 0) ≡ pos 63082865640000 +ℤ o
unfolding moon
moon-first o = omega (arith, signed)

pub least-here : (t : ℕ → Bool) (i n : ℕ) → 0 < n → t i ≡ true → least t i n ≡ Some i
least-here t i zero h e = absurd (omega arith)
least-here t i (suc n) h e = ap (λ (b : Bool). cond b (Some i) (least t (i + 1) n)) e

pub least-next : (t : ℕ → Bool) (i n m : ℕ) → n ≡ m + 1 → t i ≡ false → least t i n ≡ least t (i + 1) m
least-next t i n m h e =
    let one : n ≡ suc m = omega arith in
    rw one (ap (λ (b : Bool). cond b (Some i) (least t (i + 1) m)) e)

pub leap_month-begin : (o y : ℤ) → leap_month o y ≡ least (lacks_term o y) 0 15
unfolding leap_month
leap_month-begin o y = refl

-- the same facts where a call's arguments come back from their bits
pub term-by : (o y a b : ℤ) → a ≡ o → b ≡ y → (x : ℤ) (i : ℕ) → x ≡ term a b i → x ≡ term o y i
term-by o y a b e f x i h = rw (sym e, sym f) h

pub first-by : (o a k : ℤ) → a ≡ o → (d : ℤ) → k ≡ last_moon a d → k ≡ last_moon o d
first-by o a k e d h = rw (sym e) h

pub moon-by : (o a : ℤ) → a ≡ o → (x k m : ℤ) → k ≡ m → x ≡ moon a k → x ≡ moon o m
moon-by o a e x k m f h = rw (sym e, sym f) h
