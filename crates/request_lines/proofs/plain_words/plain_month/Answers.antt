use Rattle.std.proofs.Common.{true, ◌≡◌, ℕ, ◌∷◌, drop, codes, refl, sym, ap, ◌∙◌}
use Rattle.cal_types.specs.Month.{month_read}
use Rattle.cal_types.specs.MonthParts.{month_parts}
use Rattle.request_lines.specs.Words.{words_of}
use Rattle.request_lines.specs.Reading.{next_word}
use Rattle.request_lines.specs.Bags.{Month}
use Rattle.request_lines.proofs.TakingLemmas.{first_bytes_are}
use Rattle.request_lines.proofs.PlainWordLemmas.{first_field, month_first}
use Rattle.request_lines.proofs.plain_words.plain_month.Goals as goal

pub returns : goal.returns
returns c =
    let text = c.args.text.now in
    let value = c.in_ok-key.value.now in
    let others = c.in_ok-space.others.now in
    let m = month_parts c.in_ok-month.month in
    let key = c.in_ok-key.ensures.cases in
    let code = c.in_ok-code.ensures.cases in
    let behind : drop 3 value ≡ 32 ∷ others =
    sym code.1 ∙ (c.in_ok-space.ensures.cases.0 ∙ ap (λ (b : ℕ). b ∷ others) c.if-space-ne32.false) in
    let reads = ap month_read (sym code.0) ∙ sym c.in_ok-month.ensures in
    first_field Month (codes "month=") month_read text (words_of others) m (λ word h. h) refl
    (first_bytes_are (codes "month=") text c.in_ok-key.key.now 6 c.ne.result true refl key.0 c.ne.ensures c.if-ne.false)
    (ap (λ t. next_word month_read (words_of t)) (sym key.1) ∙ month_first value others m reads behind)
