-- The first day to which an occurrence of a recurrence rule moves is found from occurrence to occurrence.
use Rattle.std.proofs.Common.{◌≡◌, ◌∙◌, ◌⊎◌, inl, inr, ⊎_elim, ℕ, Bool, true, false, if◌then◌else◌, List, [], Option, Some, None, refl, sym, ap, subst, arith, ℤ, pos, ◌+ℤ◌, ◌-ℤ◌, ◌≤ℤ◌, ◌<ℤ◌}
use Rattle.std.specs.Prelude.{◌↔◌, IfSome, IsSome}
use Rattle.std.specs.Option.{ForSome}
use Rattle.std.proofs.lemmas.Int.{by_lt_z}
use Rattle.cal_days.specs.Day.{IsBetween, IsValidDay, is_between}
use Rattle.cal_days.specs.Division.{floor_mod}
use Rattle.cal_days.proofs.RangeLemmas.{is_between-true, true-is_between}
use Rattle.cal_days.proofs.Signed.{signed}
use Rattle.cal_kinds.specs.declared.any_calendar_kind.AnyCalendarKind.{AnyCalendarKind}
use Rattle.cal_types.specs.CalendarList.{CalendarList, Date, IsLawful, IsOn}
use Rattle.cal_types.specs.DayDates.{date_on}
use Rattle.cal_types.specs.WindowDays.{IsAfter}
use Rattle.cal_types.specs.Windows.{IsWindow}
use Rattle.cal_types.specs.declared.window.Window.{Window}
use Rattle.cal_types.proofs.DayDateLemmas.{date_on-on}
use Rattle.cal_types.proofs.ListLemmas.{on-unique}
use Rattle.cal_rule.specs.RuleText.{IsRuleText}
use Rattle.cal_rule.specs.declared.rule.RecurrenceRule.{RecurrenceRule}
use Rattle.cal_rrule.specs.Listing.{AreDayItems, day_bounds}
use Rattle.cal_rrule.specs.Occurrences as rules
use Rattle.cal_rrule.specs.Occurrences.{IsKept}
use Rattle.recurrence_sets.specs.Bounds.{IsRestOf}
use Rattle.recurrence_sets.specs.Listing.{GoesOn}
use Rattle.recurrence_sets.specs.Occurrences.{AreLeft, IsOfSome, Occurs, Recurs}
use Rattle.recurrence_sets.specs.declared.bounds.Bounds.{Bounds}
use Rattle.recurrence_sets.specs.declared.occurrence.Occurrence.{Occurrence}
use Rattle.recurrence_sets.proofs.DayLemmas.{count-like}
use Rattle.rule_lists.specs.TextOccurrences.{OccursByText}
use Rattle.rule_lists.proofs.AlikeRules.{alike-occurs, said-alike}
use Rattle.rule_lists.proofs.NearOccurrences.{far-occurs, near-occurs}
use Rattle.cal_holidays.specs.FirstRepeated.{IsAround, IsWithin, MovesFrom, OccursOn}
use Rattle.cal_holidays.specs.Moving.{IsLeast, earlier_day, is_settled, moved_between}
use Rattle.cal_holidays.specs.Observing as observing
use Rattle.cal_holidays.specs.Observing.{is_kept, move_on}
use Rattle.cal_holidays.specs.RepeatedDays.{RepeatsOn}
use Rattle.cal_holidays.specs.Rules.{Repeated}
use Rattle.cal_holidays.specs.declared.rule_years.RuleYears.{RuleYears}
use Rattle.cal_holidays.proofs.MovingLemmas.{least-both, least-same}
use Rattle.cal_holidays.proofs.ObservingLemmas.{kept-true, true-kept}

none-some : {A B : Type 0} {x : A} → None ≡ Some x → B
none-some e = cc

-- ---- the window

-- the days around two days are those of the window from the first valid one to the last
pub around-window : (first last reach from to : ℤ) (days : Option Window) → IsValidDay from → IsValidDay to →
    ((n : ℤ) → IsValidDay n → (first -ℤ reach) ≤ℤ n → from ≤ℤ n) →
    ((n : ℤ) → IsValidDay n → n ≤ℤ (last +ℤ reach) → n ≤ℤ to) → IsSome days ↔ IsWindow from to →
    IfSome days (λ w. (w.first ≡ from) × (w.last ≡ to)) → IsAround first last reach days
around-window first last reach from to None begin end low high exact ends n valid within =
    let later = low n valid within.0 in
    let sooner = high n valid within.1 in
    let never = exact.1 (record { from = begin; to = end; order = omega (arith, signed, later, sooner) }) in absurd cc
around-window first last reach from to (Some w) begin end low high exact ends n valid within =
    let later = low n valid within.0 in
    let sooner = high n valid within.1 in
    (omega (arith, signed, ends.0, later), omega (arith, signed, ends.1, sooner))

-- a day lies in what is left of a window, or it doesn't
or-within : (P : Type 0) (days : Option Window) (n : ℤ) →
    (IsWithin days n → P) → (¬ (IsWithin days n) → P) → P
or-within P None n f g = g (λ h. h)
or-within P (Some w) n f g =
    by_lt_z {P = P} n w.first (λ early. g (λ h. omega (arith, signed, early, h.0))) (λ from.
    by_lt_z {P = P} w.last n (λ late. g (λ h. omega (arith, signed, late, h.1))) (λ to. f (from, to)))

-- the days after one are those of the window behind it
after-within : (w : Window) (day : ℤ) (left : Option Window) → IsAfter w day left → (n : ℤ) →
    IsWithin left n → (day <ℤ n) × (n ≤ℤ w.last)
after-within w day None after n h = absurd h
after-within w day (Some r) after n h = (omega (arith, signed, after.0, h.0), omega (arith, signed, after.1, h.1))

-- and such days are the window's
within-after : (w : Window) (day : ℤ) (left : Option Window) → IsAfter w day left → (n : ℤ) →
    day <ℤ n → n ≤ℤ w.last → IsWithin left n
within-after w day None after n late le = absurd (omega (arith, signed, after, late, le))
within-after w day (Some r) after n late le = (omega (arith, signed, after.0, late), omega (arith, signed, after.1, le))

-- ---- one own day

-- the day to which a day moves
abbrev moved_day : List (Option ℤ) → ℤ → ℤ
moved_day moves own = own +ℤ move_on moves (floor_mod own 7)

-- this own day moves to a day
abbrev pub MovesAlone : CalendarList → ℤ → RuleYears → List (Option ℤ) → ℤ → Type 0
MovesAlone c own years moves n = MovesFrom c (λ m. m ≡ own) years moves n

module _ (c : CalendarList) (law : IsLawful c) (own year : ℤ) (is_year : (t : Date) → IsOn c own t → t.year ≡ year)
    (years : RuleYears) (moves : List (Option ℤ)) (first last : ℤ) where
  -- the day to which one day moves, in whose year a rule is kept
  pub moved-kept : is_kept years year ≡ true → (day : Option ℤ) → day ≡ moved_between moves first last (Some own) →
      IsLeast (MovesAlone c own years moves) first last day
  moved-kept kept day is =
      subst (IsLeast (MovesAlone c own years moves) first last) (sym is)
      (by (is_between first last (moved_day moves own)) refl)
    where
      there : (n : ℤ) → MovesAlone c own years moves n → n ≡ moved_day moves own
      there n h = h.moved ∙ ap (moved_day moves) h.is_own

      by : (b : Bool) → is_between first last (moved_day moves own) ≡ b →
          IsLeast (MovesAlone c own years moves) first last (if b then Some (moved_day moves own) else None)
      by true e = (
        is_between-true first last _ e,
        record {
          own = own;
          is_own = refl;
          year = year;
          in_year = (date_on c own, date_on-on c law own, is_year (date_on c own) (date_on-on c law own));
          kept = kept-true years year kept;
          moved = refl;
        },
        λ n within h. omega (arith, signed, there n h),
      )
      by false e = λ n within h.
          let inside = subst (λ (z : ℤ). IsBetween first last z) (there n h) within in
          let yes = true-is_between first last _ inside in
          let no : true ≡ false = sym yes ∙ e in absurd cc

  -- and no day, if the rule isn't kept
  pub moved-not_kept : is_kept years year ≡ false → (n : ℤ) → ¬ (MovesAlone c own years moves n)
  moved-not_kept not n h =
      let (t, on, is) = h.in_year in
      let same : h.year ≡ year = sym is ∙ is_year t (subst (λ (m : ℤ). IsOn c m t) h.is_own on) in
      let yes = true-kept years year (subst (observing.IsKept years) same h.kept) in
      let no : true ≡ false = sym yes ∙ not in absurd cc

-- ---- one occurrence after another

-- a day to which an occurrence moves, from the first days that were left, that is left no more
abbrev pub Passed : CalendarList → (ℤ → Type 0) → Bounds → RuleYears → List (Option ℤ) →
    Option Window → Option Window → ℤ → Type 0
Passed c Is b years moves start rest n =
    (h : MovesFrom c (OccursOn Is b start) years moves n) × ¬ (IsWithin rest h.own)

-- no day moves by more than so many days
abbrev pub AreMoves : List (Option ℤ) → ℤ → Type 0
AreMoves moves reach = (d : ℕ) → IsBetween (pos 0 -ℤ reach) reach (move_on moves d)

-- days that are left are among others
abbrev pub AreAmong : Option Window → Option Window → Type 0
AreAmong rest start = (n : ℤ) → IsWithin rest n → IsWithin start n

module _ (Is : ℤ → Type 0) (b : Bounds) where
  -- the days after an occurrence are left
  left-behind : (rest left : Option Window) (item : Occurrence) → GoesOn Is b rest (Some item) left →
      (n : ℤ) → IsWithin left n → item.day <ℤ n
  left-behind None left item goes n h = none-some (sym goes.next.0)
  left-behind (Some w) left item goes n h = (after-within w item.day left goes.next.1 n h).0

  -- they were left before
  pub left-among : (rest left start : Option Window) (item : Occurrence) → GoesOn Is b rest (Some item) left →
      AreAmong rest start → AreAmong left start
  left-among None left start item goes among n h = none-some (sym goes.next.0)
  left-among (Some w) left start item goes among n h =
      let behind = after-within w item.day left goes.next.1 n h in
      among n (omega (arith, signed, goes.next.0.within.0, behind.0), behind.1)

  -- the occurrence was left before, and is left no more
  item-within : (rest left : Option Window) (item : Occurrence) → GoesOn Is b rest (Some item) left →
      OccursOn Is b rest item.day × ¬ (IsWithin left item.day)
  item-within None left item goes = none-some (sym goes.next.0)
  item-within (Some w) left item goes = (
    (goes.next.0.within, item.index, goes.next.0.occurs),
    λ h. omega (arith, signed, left-behind (Some w) left item goes item.day h),
  )

  -- an occurrence is on the day that was found, if it was left before, and is left no more
  only-item : (rest left : Option Window) (item : Occurrence) → GoesOn Is b rest (Some item) left →
      (n : ℤ) → OccursOn Is b rest n → ¬ (IsWithin left n) → n ≡ item.day
  only-item None left item goes n (within, index, occurs) out = absurd within
  only-item (Some w) left item goes n (within, index, occurs) out =
      by_lt_z {P = n ≡ item.day} n item.day
      (λ early. absurd (goes.next.0.least index n within.0 early occurs)) (λ from.
      by_lt_z {P = n ≡ item.day} item.day n
      (λ late. absurd (out (within-after w item.day left goes.next.1 n late within.1)))
      (λ to. omega (arith, signed, from, to)))

  -- an occurrence that is found is on a valid day
  pub item-valid : (rest left : Option Window) (item : Occurrence) → GoesOn Is b rest (Some item) left →
      IsValidDay item.day
  item-valid None left item goes = none-some (sym goes.next.0)
  item-valid (Some w) left item goes = goes.next.0.occurs.recurs.valid

  -- where none is found, none was left
  none-within : (rest left : Option Window) → GoesOn Is b rest None left → (n : ℤ) (index : ℕ) →
      Occurs Is b index n → ¬ (IsWithin rest n)
  none-within None left goes n index occurs within = within
  none-within (Some w) left goes n index occurs within = goes.next.0 index n within occurs

  module _ (c : CalendarList) (years : RuleYears) (moves : List (Option ℤ)) (first last : ℤ)
      (start : Option Window) where
    -- before the first call
    pub passed-none : IsLeast (Passed c Is b years moves start start) first last None
    passed-none n within p = p.1 p.0.is_own.0

    -- one more occurrence is left no more
    next-passed : (rest left : Option Window) (item : Occurrence) → GoesOn Is b rest (Some item) left →
        AreAmong rest start → (n : ℤ) → MovesAlone c item.day years moves n → Passed c Is b years moves start left n
    next-passed rest left item goes among n h =
        let there = item-within rest left item goes in (
          record {
            own = h.own;
            is_own = subst (OccursOn Is b start) (sym h.is_own) (among item.day there.0.0, there.0.1, there.0.2);
            year = h.year;
            in_year = h.in_year;
            kept = h.kept;
            moved = h.moved;
          },
          subst (λ (m : ℤ). ¬ (IsWithin left m)) (sym h.is_own) there.1,
        )

    -- and those that were left no more before it
    still-passed : (rest left : Option Window) (item : Occurrence) → GoesOn Is b rest (Some item) left →
        (n : ℤ) → Passed c Is b years moves start rest n → Passed c Is b years moves start left n
    still-passed rest left item goes n p =
        (p.0, λ h. p.1 (left-among rest left rest item goes (λ m k. k) p.0.own h))

    -- no others
    only-passed : (rest left : Option Window) (item : Occurrence) → GoesOn Is b rest (Some item) left →
        (n : ℤ) → Passed c Is b years moves start left n →
        Passed c Is b years moves start rest n ⊎ MovesAlone c item.day years moves n
    only-passed rest left item goes n p =
        or-within (Passed c Is b years moves start rest n ⊎ MovesAlone c item.day years moves n) rest p.0.own
        (λ h. inr (record {
          own = p.0.own;
          is_own = only-item rest left item goes p.0.own (h, p.0.is_own.1, p.0.is_own.2) p.1;
          year = p.0.year;
          in_year = p.0.in_year;
          kept = p.0.kept;
          moved = p.0.moved;
        }))
        (λ out. inl (p.0, out))

    -- so the first day to which they move is the earlier of two
    pub passed-next : (rest left : Option Window) (item : Occurrence) (best moved next : Option ℤ) →
        GoesOn Is b rest (Some item) left → AreAmong rest start →
        IsLeast (Passed c Is b years moves start rest) first last best →
        IsLeast (MovesAlone c item.day years moves) first last moved → next ≡ earlier_day best moved →
        IsLeast (Passed c Is b years moves start left) first last next
    passed-next rest left item best moved next goes among before one e =
        subst (IsLeast (Passed c Is b years moves start left) first last) (sym e)
        (least-same first last
        (λ n. Passed c Is b years moves start rest n ⊎ MovesAlone c item.day years moves n)
        (Passed c Is b years moves start left) (earlier_day best moved)
        (λ n within is. ⊎_elim (still-passed rest left item goes n) (next-passed rest left item goes among n) is)
        (λ n within p. only-passed rest left item goes n p)
        (least-both first last (Passed c Is b years moves start rest) (MovesAlone c item.day years moves) best moved
        before one))

    -- behind the last occurrence
    pub passed-ended : (rest left : Option Window) (best : Option ℤ) → GoesOn Is b rest None left →
        IsLeast (Passed c Is b years moves start rest) first last best →
        IsLeast (MovesFrom c (OccursOn Is b start) years moves) first last best
    passed-ended rest left best goes is =
        least-same first last (Passed c Is b years moves start rest) (MovesFrom c (OccursOn Is b start) years moves)
        best (λ n within p. p.0)
        (λ n within h. (h, none-within rest left goes h.own h.is_own.1 h.is_own.2)) is

    -- or where no later occurrence moves before the day that was found
    pub passed-settled : (rest left : Option Window) (item : Occurrence) (best : Option ℤ) (reach : ℤ) →
        AreMoves moves reach → GoesOn Is b rest (Some item) left →
        IsLeast (Passed c Is b years moves start left) first last best →
        is_settled best (Some item.day) reach ≡ true →
        IsLeast (MovesFrom c (OccursOn Is b start) years moves) first last best
    passed-settled rest left item None reach near goes is h = absurd cc
    passed-settled rest left item (Some x) reach near goes is h = (
      is.0,
      is.1.0,
      λ n within t. or-within (x ≤ℤ n) left t.own
          (λ here.
          let late = left-behind rest left item goes t.own here in
          omega (arith, signed, late, t.moved, (near (floor_mod t.own 7)).0, h))
          (λ out. is.2 n within (t, out)),
    )

-- a list goes on with the set and the bounds that it was made for
pub goes-with : {P : Type 0} (Has : P → ℤ → Type 0) (p q r : P) (a b d : Bounds) (rest left : Option Window)
    (o : Option Occurrence) → p ≡ q → a ≡ b → GoesOn (Has p) a rest o left × (r ≡ p) × (d ≡ a) →
    GoesOn (Has q) b rest o left × (r ≡ q) × (d ≡ b)
goes-with Has p q r a b d rest left o e f (goes, same, alike) = (
  subst (λ x. GoesOn (Has q) x rest o left) f (subst (λ x. GoesOn (Has x) a rest o left) e goes),
  same ∙ e,
  alike ∙ f,
)

-- ---- two kinds of days that have the same valid days

abbrev HaveSame : (ℤ → Type 0) → (ℤ → Type 0) → Type 0
HaveSame Is Other = (n : ℤ) → IsValidDay n → Is n ↔ Other n

turned : (Is Other : ℤ → Type 0) → HaveSame Is Other → HaveSame Other Is
turned Is Other same n valid = ((same n valid).1, (same n valid).0)

recurs-like : (Is Other : ℤ → Type 0) (b : Bounds) → HaveSame Is Other →
    (n : ℤ) → Recurs Is b n → Recurs Other b n
recurs-like Is Other b same n r =
    record { kept = (same n r.valid).0 r.kept; started = r.started; valid = r.valid; ended = r.ended }

-- they have the same occurrences
occurs-like : (Is Other : ℤ → Type 0) (b : Bounds) → HaveSame Is Other → (index : ℕ) (n : ℤ) →
    Occurs Is b index n → Occurs Other b index n
occurs-like Is Other b same index n o = record {
  recurs = recurs-like Is Other b same n o.recurs;
  counted = count-like (λ m. Recurs Is b m × (m <ℤ n)) (λ m. Recurs Other b m × (m <ℤ n)) index
      (λ m p. (recurs-like Is Other b same m p.0, p.1))
      (λ m p. (recurs-like Other Is b (turned Is Other same) m p.0, p.1)) o.counted;
  few = o.few;
}

-- ---- all occurrences of a rule

-- the rule's occurrences from a date on are those by any rule that its text spells
text-occurs : (c : CalendarList) (kind : AnyCalendarKind) (text : List ℕ) (rule : RecurrenceRule) (t : Date) →
    IsRuleText kind text rule → (n : ℤ) → OccursByText c kind text t n → (index : ℕ) × rules.Occurs c rule t index n
text-occurs c kind text rule t spelled n (other, said, index, occurs) =
    let same = said-alike kind text other rule said spelled in
    (index, alike-occurs c other rule t index n same occurs)

-- a day that moves into a window is near it
moved-near : (moves : List (Option ℤ)) (first last reach own n : ℤ) → AreMoves moves reach →
    n ≡ own +ℤ move_on moves (floor_mod own 7) → IsBetween first last n →
    IsBetween (first -ℤ reach) (last +ℤ reach) own
moved-near moves first last reach own n near moved within =
    let move = near (floor_mod own 7) in
    (omega (arith, signed, within.0, moved, move.1), omega (arith, signed, within.1, moved, move.0))

-- no day is named, where no valid day is near
pub repeated-none : (c : CalendarList) (r : Repeated) (years : RuleYears) (moves : List (Option ℤ))
    (first last reach : ℤ) → AreMoves moves reach → IsAround first last reach None →
    IsLeast (RepeatsOn c r years moves) first last None
repeated-none c r years moves first last reach near around n within h =
    let (rule, said, index, occurs) = h.occurs in
    around h.own occurs.recurs.valid (moved-near moves first last reach h.own n near h.moved within)

-- a rule's list over a window has the occurrences that may move to a day
module _ (c : CalendarList) (law : IsLawful c) (r : Repeated) (rule : RecurrenceRule) (t : Date)
    (spelled : IsRuleText r.calendar r.text rule) (on : IsOn c r.start t) (Is : ℤ → Type 0) (b : Bounds)
    (same : HaveSame Is (IsOfSome (IsKept c rule t))) (w : Window) (bounds : b ≡ day_bounds c rule t w.first)
    (rest : Option Window) (rests : ForSome rest (IsRestOf b w))
    (items : AreLeft Is b rest [] → AreDayItems c rule t w.first w.last []) where
  -- the date of its start
  starts : t ≡ date_on c r.start
  starts = on-unique c r.start t (date_on c r.start) on (date_on-on c law r.start)

  -- an occurrence of the set is on a day of one of the rule's
  to-rule : (index : ℕ) (n : ℤ) → Occurs Is b index n → (i : ℕ) × rules.Occurs c rule t i n
  to-rule index n o =
      far-occurs c law rule t on.date w.first index n
      (subst (λ (a : Bounds). Occurs (IsOfSome (IsKept c rule t)) a index n) bounds
      (occurs-like Is (IsOfSome (IsKept c rule t)) b same index n o))

  -- and an occurrence of the rule is on a day of one of the set's, from the window's first day on
  of-rule : (index : ℕ) (n : ℤ) → w.first ≤ℤ n → rules.Occurs c rule t index n → (i : ℕ) × Occurs Is b i n
  of-rule index n late o =
      let (i, near) = near-occurs c law rule t on.date w.first index n late o in (
        i,
        occurs-like (IsOfSome (IsKept c rule t)) Is b (turned Is (IsOfSome (IsKept c rule t)) same) i n
            (subst (λ (a : Bounds). Occurs (IsOfSome (IsKept c rule t)) a i n) (sym bounds) near),
      )

  -- those that its text spells, too
  to-text : (index : ℕ) (n : ℤ) → Occurs Is b index n → OccursByText c r.calendar r.text (date_on c r.start) n
  to-text index n o =
      let (i, occurs) = to-rule index n o in
      subst (λ (u : Date). OccursByText c r.calendar r.text u n) starts (rule, spelled, i, occurs)

  of-text : (n : ℤ) → OccursByText c r.calendar r.text (date_on c r.start) n →
      (index : ℕ) × rules.Occurs c rule t index n
  of-text n o =
      text-occurs c r.calendar r.text rule t spelled n
      (subst (λ (u : Date). OccursByText c r.calendar r.text u n) (sym starts) o)

  -- an occurrence on a day of the window is left at first
  at-first : (days : Option Window) → ForSome days (IsRestOf b w) →
      (AreLeft Is b days [] → AreDayItems c rule t w.first w.last []) →
      (index : ℕ) (n : ℤ) → rules.Occurs c rule t index n → IsBetween w.first w.last n → IsWithin days n
  at-first None is all index n occurs within =
      let (i, near) = near-occurs c law rule t on.date w.first index n within.0 occurs in
      let has = ((all refl).exact (record { index = i; day = n })).1 (near, within) in
      omega (arith, has.1)
  at-first (Some v) is all index n occurs within =
      let (i, o) = of-rule index n within.0 occurs in
      ((is v refl).exact n).1 (record { within = within; started = o.recurs.started; ended = o.recurs.ended })

  -- the first day to which one of them moves is the first that the rule names
  pub repeated-first : (years : RuleYears) (moves : List (Option ℤ)) (first last reach : ℤ) (day : Option ℤ) →
      AreMoves moves reach → IsAround first last reach (Some w) →
      IsLeast (MovesFrom c (OccursOn Is b rest) years moves) first last day →
      IsLeast (RepeatsOn c r years moves) first last day
  repeated-first years moves first last reach day near around is =
      least-same first last (MovesFrom c (OccursOn Is b rest) years moves) (RepeatsOn c r years moves) day
      (λ n within h. to n h) (λ n within h. from n within h) is
    where
      to : (n : ℤ) → MovesFrom c (OccursOn Is b rest) years moves n → RepeatsOn c r years moves n
      to n h = record {
        own = h.own;
        occurs = to-text h.is_own.1 h.own h.is_own.2;
        year = h.year;
        in_year = h.in_year;
        kept = h.kept;
        moved = h.moved;
      }

      from : (n : ℤ) → IsBetween first last n → RepeatsOn c r years moves n →
          MovesFrom c (OccursOn Is b rest) years moves n
      from n within h =
          let (index, occurs) = of-text h.own h.occurs in
          let here = around h.own occurs.recurs.valid (moved-near moves first last reach h.own n near h.moved within) in
          let (i, o) = of-rule index h.own here.0 occurs in
          record {
            own = h.own;
            is_own = (at-first rest rests items index h.own occurs here, i, o);
            year = h.year;
            in_year = h.in_year;
            kept = h.kept;
            moved = h.moved;
          }
