-- The occurrences of kinds of days that have the same valid days.
use Rattle.std.proofs.Common.{ℕ, ◌↔◌, List, ℤ, ◌<ℤ◌}
use Rattle.cal_days.specs.Day.{IsValidDay}
use Rattle.recurrence_sets.specs.Listing.{HasBefore}
use Rattle.recurrence_sets.specs.Occurrences.{AreOccurrences, Occurs, Recurs}
use Rattle.recurrence_sets.specs.declared.bounds.Bounds.{Bounds}
use Rattle.recurrence_sets.specs.declared.occurrence.Occurrence.{Occurrence}
use Rattle.recurrence_sets.proofs.DayLemmas.{count-like}

-- two kinds have the same valid days
abbrev pub HaveSame : (ℤ → Type 0) → (ℤ → Type 0) → Type 0
HaveSame Is Other = (n : ℤ) → IsValidDay n → Is n ↔ Other n

pub turned : (Is Other : ℤ → Type 0) → HaveSame Is Other → HaveSame Other Is
turned Is Other same n valid = ((same n valid).1, (same n valid).0)

recurs-like : (Is Other : ℤ → Type 0) (b : Bounds) → HaveSame Is Other → (n : ℤ) → Recurs Is b n → Recurs Other b n
recurs-like Is Other b same n r =
    record { kept = (same n r.valid).0 r.kept; started = r.started; valid = r.valid; ended = r.ended }

pub before-like : (Is Other : ℤ → Type 0) (b : Bounds) → HaveSame Is Other → (day : ℤ) (index : ℕ) →
    HasBefore Is b day index → HasBefore Other b day index
before-like Is Other b same day index h =
    count-like (λ m. Recurs Is b m × (m <ℤ day)) (λ m. Recurs Other b m × (m <ℤ day)) index
    (λ m p. (recurs-like Is Other b same m p.0, p.1))
    (λ m p. (recurs-like Other Is b (turned Is Other same) m p.0, p.1)) h

occurs-like : (Is Other : ℤ → Type 0) (b : Bounds) → HaveSame Is Other → (index : ℕ) (n : ℤ) →
    Occurs Is b index n → Occurs Other b index n
occurs-like Is Other b same index n o =
    record { recurs = recurs-like Is Other b same n o.recurs; counted = before-like Is Other b same n index o.counted; few = o.few }

pub occurrences-like : (Is Other : ℤ → Type 0) (b : Bounds) → HaveSame Is Other → (first last : ℤ) (xs : List Occurrence) →
    AreOccurrences Is b first last xs → AreOccurrences Other b first last xs
occurrences-like Is Other b same first last xs are = record {
  rising = are.rising;
  exact = λ x. (
    λ has. let o = (are.exact x).0 has in (occurs-like Is Other b same x.index x.day o.0, o.1),
    λ o. (are.exact x).1 (occurs-like Other Is b (turned Is Other same) x.index x.day o.0, o.1),
  );
}
