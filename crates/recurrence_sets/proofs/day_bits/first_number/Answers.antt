use Rattle.std.proofs.Common.{◌≡◌, ◌-◌, ◌*◌, min, ap, ◌∙◌, rules}
use Rattle.recurrence_sets.proofs.WordLemmas.{first-word, none-word}
use Rattle.recurrence_sets.proofs.day_bits.first_number.Goals as goal

pub returns-in-Some : goal.returns-in-Some
returns-in-Some c =
    let low : c.least.result ≡ min (c.args.from - 64 * c.loop-place.place) 64 = c.least.ensures ∙ ap (λ n. min n 64) c.saturating_sub.ensures in
    first-word c.args.words.now c.loop-place.place c.args.from c.least.result c.in-Some.bit (search rules) low c.loop-place.invariant c.in-Some.ensures

pub loop-place-preserved : goal.loop-place-preserved
loop-place-preserved c =
    let low : c.least.result ≡ min (c.args.from - 64 * c.loop-place.place) 64 = c.least.ensures ∙ ap (λ n. min n 64) c.saturating_sub.ensures in
    none-word c.args.words.now c.loop-place.place c.args.from c.least.result low c.loop-place.invariant c.in_default.ensures
