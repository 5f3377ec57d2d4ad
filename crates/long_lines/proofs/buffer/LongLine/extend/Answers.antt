use Rattle.std.proofs.Common.{◌≡◌, ◌-◌, ◌++◌, min, length, arith, ◌∙◌, ap, sym}
use Rattle.std.proofs.lemmas.Grind.{common_steps}
use Rattle.long_lines.proofs.BufferLemmas.{take-append, over-more, over-fits, min_take}
use Rattle.long_lines.proofs.buffer.LongLine.extend.Goals as goal

pub returns-then-count-bytes : goal.returns-then-count-bytes
returns-then-count-bytes c line h =
    let is : c.min-count.result ≡ min (length c.args.bytes.now) (65536 - length c.args.self.now.prefix.items) = omega (arith, c.min-count.ensures, c.len.ensures) in
    record {
      prefix = c.push_all.ensures.items ∙ (ap (λ r. c.args.self.now.prefix.items ++ r) (min_take c.min-count.result _ c.args.bytes.now is) ∙ sym (take-append 65536 c.args.self.now.prefix.items line c.args.bytes.now h.prefix));
      over = over-more 65536 c.min-count.result c.args.self.now.prefix.items line c.args.bytes.now h.prefix is c.if-count-bytes.true;
    }

pub returns-else-count-bytes : goal.returns-else-count-bytes
returns-else-count-bytes c line h =
    let is : c.min-count.result ≡ min (length c.args.bytes.now) (65536 - length c.args.self.now.prefix.items) = omega (arith, c.min-count.ensures, c.len.ensures) in
    record {
      prefix = c.push_all.ensures.items ∙ (ap (λ r. c.args.self.now.prefix.items ++ r) (min_take c.min-count.result _ c.args.bytes.now is) ∙ sym (take-append 65536 c.args.self.now.prefix.items line c.args.bytes.now h.prefix));
      over = over-fits 65536 c.min-count.result c.args.self.now.prefix.items line c.args.bytes.now _ h.prefix is c.if-count-bytes.false h.over;
    }
