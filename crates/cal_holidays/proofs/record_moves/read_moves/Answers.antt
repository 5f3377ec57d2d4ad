use Rattle.std.proofs.Common.{◌≡◌, ◌∙◌, ap, sym, rules, arith, get_or, set, Option, Some, None, FitsSigned, to_z, of_z, w8, ℤ, ℕ}
use Rattle.std.specs.Option.{is_some}
use Rattle.cal_days.proofs.Signed.{signed}
use Rattle.cal_types.specs.Weekday.{days_since_sunday}
use Rattle.cal_holidays.specs.Observing.{is_move}
use Rattle.cal_holidays.specs.RecordMoves.{words_from, words_of}
use Rattle.cal_holidays.proofs.MoveLemmas.{none_of, proper-set, reading-begins, reading-goes_on, reading-twice, some_of}
use Rattle.cal_holidays.proofs.record_moves.read_moves.Goals as goal

pub words-init : goal.words-init
words-init c = reading-begins (words_of c.args.text.now)

pub words-preserved : goal.words-preserved
words-preserved c =
    let days = c.words.days in
    let day = c.in_ok-day.day in
    let by = c.in_ok-day.by in
    let place = c.place_of-place.result in
    let at = c.place_of-place.ensures.value in
    let fits : FitsSigned w8 by = search rules in
    let held : to_z w8 (of_z w8 by) ≡ by = omega (arith, signed) in
    let cut = ap words_from c.in-Some.is ∙ c.cut.ensures in
    let free = ap (λ (i : ℕ). get_or days i None) (sym at) ∙ none_of (get_or days place None) (sym c.is_some.ensures ∙ c.if-is_some.false) in
    let is = ap (λ (x : ℤ). set days place (Some x)) held ∙ ap (λ (i : ℕ). set days i (Some by)) at in
    let proper = proper-set days place (Some (to_z w8 (of_z w8 by))) c.words.invariant.proper (ap (λ (x : ℤ). is_move (Some x)) held ∙ c.in_ok-day.ensures.range) in
    reading-goes_on days _ (words_of c.args.text.now) _ _ c.cut.result.0.now day by c.words.invariant cut c.in_ok-day.ensures.value free is proper

pub returns-then-is_some-clause-value : goal.returns-then-is_some-clause-value
returns-then-is_some-clause-value c =
    let days = c.words.days in
    let day = c.in_ok-day.day in
    let by = c.in_ok-day.by in
    let place = c.place_of-place.result in
    let at = c.place_of-place.ensures.value in
    let cut = ap words_from c.in-Some.is ∙ c.cut.ensures in
    let there = some_of (get_or days place None) (sym c.is_some.ensures ∙ c.if-is_some.true) in
    reading-twice days (words_of c.args.text.now) _ _ c.cut.result.0.now day by there.0 c.words.invariant cut c.in_ok-day.ensures.value (ap (λ (i : ℕ). get_or days i None) (sym at) ∙ there.1)
