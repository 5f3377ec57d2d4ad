-- Facts of twelve or thirteen months, month by month.
use Rattle.std.proofs.Common.{ℕ, zero, suc, ◌≤◌, arith}

-- what holds of each month from 1 to 12
pub by_month : (P : ℕ → Type 0) → P 1 → P 2 → P 3 → P 4 → P 5 → P 6 → P 7 → P 8 → P 9 → P 10 → P 11 → P 12 → (i : ℕ) → 1 ≤ i → i ≤ 12 → P i
by_month P a b c d e f g h j k l m zero low high = absurd (omega arith)
by_month P a b c d e f g h j k l m (suc zero) low high = a
by_month P a b c d e f g h j k l m (suc (suc zero)) low high = b
by_month P a b c d e f g h j k l m (suc (suc (suc zero))) low high = c
by_month P a b c d e f g h j k l m (suc (suc (suc (suc zero)))) low high = d
by_month P a b c d e f g h j k l m (suc (suc (suc (suc (suc zero))))) low high = e
by_month P a b c d e f g h j k l m (suc (suc (suc (suc (suc (suc zero)))))) low high = f
by_month P a b c d e f g h j k l m (suc (suc (suc (suc (suc (suc (suc zero))))))) low high = g
by_month P a b c d e f g h j k l m (suc (suc (suc (suc (suc (suc (suc (suc zero)))))))) low high = h
by_month P a b c d e f g h j k l m (suc (suc (suc (suc (suc (suc (suc (suc (suc zero))))))))) low high = j
by_month P a b c d e f g h j k l m (suc (suc (suc (suc (suc (suc (suc (suc (suc (suc zero)))))))))) low high = k
by_month P a b c d e f g h j k l m (suc (suc (suc (suc (suc (suc (suc (suc (suc (suc (suc zero))))))))))) low high = l
by_month P a b c d e f g h j k l m (suc (suc (suc (suc (suc (suc (suc (suc (suc (suc (suc (suc zero)))))))))))) low high = m
by_month P a b c d e f g h j k l m (suc (suc (suc (suc (suc (suc (suc (suc (suc (suc (suc (suc (suc i))))))))))))) low high = absurd (omega arith)

-- what holds of each month from 1 to 13
pub by_thirteen : (P : ℕ → Type 0) → P 1 → P 2 → P 3 → P 4 → P 5 → P 6 → P 7 → P 8 → P 9 → P 10 → P 11 → P 12 → P 13 → (i : ℕ) → 1 ≤ i → i ≤ 13 → P i
by_thirteen P a b c d e f g h j k l m n zero low high = absurd (omega arith)
by_thirteen P a b c d e f g h j k l m n (suc zero) low high = a
by_thirteen P a b c d e f g h j k l m n (suc (suc zero)) low high = b
by_thirteen P a b c d e f g h j k l m n (suc (suc (suc zero))) low high = c
by_thirteen P a b c d e f g h j k l m n (suc (suc (suc (suc zero)))) low high = d
by_thirteen P a b c d e f g h j k l m n (suc (suc (suc (suc (suc zero))))) low high = e
by_thirteen P a b c d e f g h j k l m n (suc (suc (suc (suc (suc (suc zero)))))) low high = f
by_thirteen P a b c d e f g h j k l m n (suc (suc (suc (suc (suc (suc (suc zero))))))) low high = g
by_thirteen P a b c d e f g h j k l m n (suc (suc (suc (suc (suc (suc (suc (suc zero)))))))) low high = h
by_thirteen P a b c d e f g h j k l m n (suc (suc (suc (suc (suc (suc (suc (suc (suc zero))))))))) low high = j
by_thirteen P a b c d e f g h j k l m n (suc (suc (suc (suc (suc (suc (suc (suc (suc (suc zero)))))))))) low high = k
by_thirteen P a b c d e f g h j k l m n (suc (suc (suc (suc (suc (suc (suc (suc (suc (suc (suc zero))))))))))) low high = l
by_thirteen P a b c d e f g h j k l m n (suc (suc (suc (suc (suc (suc (suc (suc (suc (suc (suc (suc zero)))))))))))) low high = m
by_thirteen P a b c d e f g h j k l m n (suc (suc (suc (suc (suc (suc (suc (suc (suc (suc (suc (suc (suc zero))))))))))))) low high = n
by_thirteen P a b c d e f g h j k l m n (suc (suc (suc (suc (suc (suc (suc (suc (suc (suc (suc (suc (suc (suc i)))))))))))))) low high = absurd (omega arith)
