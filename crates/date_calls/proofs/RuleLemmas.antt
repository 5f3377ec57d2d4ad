-- The occurrences of a rule from a day on are those that a listing left.
use Rattle.std.proofs.Common.{◌≡◌, ℕ, List, [], ◌∷◌, Option, Some, None, refl, sym, subst, arith, ℤ, pos, ◌+ℤ◌, ◌≤ℤ◌, ◌<ℤ◌}
use Rattle.std.specs.Prelude.{◌↔◌, Contains}
use Rattle.std.specs.Option.{ForSome}
use Rattle.std.proofs.lemmas.Int.{by_lt_z}
use Rattle.cal_days.specs.Day.{IsValidDay}
use Rattle.cal_days.proofs.Signed.{signed}
use Rattle.cal_types.specs.declared.window.Window.{Window}
use Rattle.recurrence_sets.specs.Bounds.{IsRestOf}
use Rattle.recurrence_sets.specs.Listing.{HasBefore}
use Rattle.recurrence_sets.specs.Occurrences.{AreLeft, AreOccurrences, Occurs, Recurs}
use Rattle.recurrence_sets.specs.declared.bounds.Bounds.{Bounds}
use Rattle.recurrence_sets.specs.declared.occurrence.Occurrence.{Occurrence}
use Rattle.recurrence_sets.proofs.DayLemmas.{count-like}
use Rattle.date_calls.specs.Lists.{EndsOn, next_day}
use Rattle.date_calls.specs.Rules.{FillsRule, IsRuleListed}
use Rattle.date_calls.specs.declared.repeated.CalendarOccurrence.{CalendarOccurrence}

-- two kinds have the same valid days
abbrev HaveSame : (ℤ → Type 0) → (ℤ → Type 0) → Type 0
HaveSame Is Other = (n : ℤ) → IsValidDay n → Is n ↔ Other n

turned : (Is Other : ℤ → Type 0) → HaveSame Is Other → HaveSame Other Is
turned Is Other same n valid = ((same n valid).1, (same n valid).0)

recurs-like : (Is Other : ℤ → Type 0) (b : Bounds) → HaveSame Is Other → (n : ℤ) → Recurs Is b n → Recurs Other b n
recurs-like Is Other b same n r =
    record { kept = (same n r.valid).0 r.kept; started = r.started; valid = r.valid; ended = r.ended }

before-like : (Is Other : ℤ → Type 0) (b : Bounds) → HaveSame Is Other → (day : ℤ) (index : ℕ) →
    HasBefore Is b day index → HasBefore Other b day index
before-like Is Other b same day index h =
    count-like (λ m. Recurs Is b m × (m <ℤ day)) (λ m. Recurs Other b m × (m <ℤ day)) index
    (λ m p. (recurs-like Is Other b same m p.0, p.1))
    (λ m p. (recurs-like Other Is b (turned Is Other same) m p.0, p.1)) h

occurs-like : (Is Other : ℤ → Type 0) (b : Bounds) → HaveSame Is Other → (index : ℕ) (n : ℤ) →
    Occurs Is b index n → Occurs Other b index n
occurs-like Is Other b same index n o =
    record { recurs = recurs-like Is Other b same n o.recurs; counted = before-like Is Other b same n index o.counted; few = o.few }

occurrences-like : (Is Other : ℤ → Type 0) (b : Bounds) → HaveSame Is Other → (first last : ℤ) (xs : List Occurrence) →
    AreOccurrences Is b first last xs → AreOccurrences Other b first last xs
occurrences-like Is Other b same first last xs are = record {
  rising = are.rising;
  exact = λ x. (
    λ has. let o = (are.exact x).0 has in (occurs-like Is Other b same x.index x.day o.0, o.1),
    λ o. (are.exact x).1 (occurs-like Other Is b (turned Is Other same) x.index x.day o.0, o.1),
  );
}

no-items : (xs : List Occurrence) → ((x : Occurrence) → Contains xs x → ⊥) → xs ≡ []
no-items [] none = refl
no-items (x ∷ xs) none = absurd (none x (0, omega arith, refl))

-- what is left of a window ends where it ended before
ends-there : (rest : Option Window) (r : Window) → ((last : ℤ) → EndsOn last rest → EndsOn last (Some r)) → (P : ℤ → Type 0) → ((v : Window) → rest ≡ Some v → P v.last) → P r.last
ends-there None r ends P p = absurd (omega (arith, signed, ends (pos 0) tt, ends (pos 1) tt))
ends-there (Some v) r ends P p = subst P (sym (ends v.last refl)) (p v refl)

module _ (Is : ℤ → Type 0) (b : Bounds) (w : Window) where
  -- a day of the window on which the set recurs is in the rest, or before it
  rest-reaches : (v : Window) → IsRestOf b w v → (n : ℤ) → Recurs Is b n → n ≤ℤ w.last → n ≤ℤ v.last
  rest-reaches v is n recurs le =
      by_lt_z {P = n ≤ℤ v.last} v.last n
      (λ late. ((is.exact n).1 (record {
        within = (omega (arith, signed, is.reached, v.days.order, late), le);
        started = recurs.started;
        ended = recurs.ended;
      })).1)
      (λ ge. ge)

  rest-within : (v : Window) → IsRestOf b w v → v.last ≤ℤ w.last
  rest-within v is = ((is.exact v.last).0 (v.days.order, omega (arith, signed))).within.1

  -- the occurrences up to the end of the window are those up to the end of what is left
  shorter : (first last : ℤ) → ((n : ℤ) → Recurs Is b n → n ≤ℤ w.last → n ≤ℤ last) → last ≤ℤ w.last → (xs : List Occurrence) →
      AreOccurrences Is b first w.last xs → AreOccurrences Is b first last xs
  shorter first last reaches within xs are = record {
    rising = are.rising;
    exact = λ x. (
      λ has. let o = (are.exact x).0 has in (o.0, (o.1.0, reaches x.day o.0.recurs o.1.1)),
      λ o. (are.exact x).1 (o.0, (o.1.0, omega (arith, signed, o.1.1, within))),
    );
  }

  left-of : (rest left : Option Window) → ForSome rest (IsRestOf b w) → ((last : ℤ) → EndsOn last rest → EndsOn last left) → (xs : List Occurrence) →
      AreOccurrences Is b (next_day w.last left) w.last xs → AreLeft Is b left xs
  left-of rest None rests ends xs are =
      no-items xs (λ x has. let o = (are.exact x).0 has in absurd (omega (arith, signed, o.1.0, o.1.1)))
  left-of rest (Some r) rests ends xs are =
      shorter r.first r.last
      (ends-there rest r ends (λ last. (n : ℤ) → Recurs Is b n → n ≤ℤ w.last → n ≤ℤ last) (λ v e. rest-reaches v (rests v e)))
      (ends-there rest r ends (λ last. last ≤ℤ w.last) (λ v e. rest-within v (rests v e))) xs are

-- what was written of a listing by other periods is what the rule says
pub rule-listed : (Is Other : ℤ → Type 0) → HaveSame Is Other → (b of : Bounds) → b ≡ of → (w : Window) (rest left : Option Window) → ForSome rest (IsRestOf b w) →
    ((xs : List Occurrence) → AreLeft Is b rest xs ↔ AreOccurrences Other of w.first w.last xs) →
    (before now : List CalendarOccurrence) (written : ℕ) → FillsRule Is b rest left before now written →
    IsRuleListed (AreOccurrences Other of) w.first w.last before now written (next_day w.last left)
rule-listed Is Other same b of bounds w rest left rests items before now written fills = record {
  whole = λ xs are. (items _).0 (fills.whole xs (left-of Is b w rest left rests fills.ends xs
      (occurrences-like Other Is b (turned Is Other same) (next_day w.last left) w.last xs
      (subst (λ (a : Bounds). AreOccurrences Other a (next_day w.last left) w.last xs) (sym bounds) are))));
  behind = fills.behind;
  fits = fills.fits;
  complete = λ short. ended left (fills.complete short);
} where
  ended : (o : Option Window) → o ≡ None → next_day w.last o ≡ w.last +ℤ pos 1
  ended None e = refl
  ended (Some r) e = none-some e where
    none-some : {A : Type 0} → Some r ≡ None → A
    none-some e = cc
