use Rattle.std.proofs.Common.{◌≡◌, ◌-◌, ◌++◌, min, length, arith, ◌∙◌, ap, sym}
use Rattle.std.proofs.lemmas.Grind.{common_steps}
use Rattle.byte_io.proofs.BufferLemmas.{take-append, over-more, over-fits, min_take}
use Rattle.byte_io.proofs.buffer.LineBuffer.extend.Goals as goal

pub returns-then-count-bytes : goal.returns-then-count-bytes
returns-then-count-bytes c line h =
    let is : c.min-count.result ≡ min (length c.args.bytes.now) (512 - length c.args.self.now.prefix.items) = omega (arith, c.min-count.ensures, c.remaining_capacity.ensures) in
    record {
      prefix = c.push_all.ensures ∙ (ap (λ r. c.args.self.now.prefix.items ++ r) (min_take c.min-count.result _ c.args.bytes.now is) ∙ sym (take-append 512 c.args.self.now.prefix.items line c.args.bytes.now h.prefix));
      over = over-more 512 c.min-count.result c.args.self.now.prefix.items line c.args.bytes.now h.prefix is c.if-count-bytes.true;
    }

pub returns-else-count-bytes : goal.returns-else-count-bytes
returns-else-count-bytes c line h =
    let is : c.min-count.result ≡ min (length c.args.bytes.now) (512 - length c.args.self.now.prefix.items) = omega (arith, c.min-count.ensures, c.remaining_capacity.ensures) in
    record {
      prefix = c.push_all.ensures ∙ (ap (λ r. c.args.self.now.prefix.items ++ r) (min_take c.min-count.result _ c.args.bytes.now is) ∙ sym (take-append 512 c.args.self.now.prefix.items line c.args.bytes.now h.prefix));
      over = over-fits 512 c.min-count.result c.args.self.now.prefix.items line c.args.bytes.now _ h.prefix is c.if-count-bytes.false h.over;
    }

pub returns-then-is_empty : goal.returns-then-is_empty
returns-then-is_empty c line h = grind (arith, common_steps)

pub invariant_of-self : goal.invariant_of-self
invariant_of-self c = grind (arith, common_steps)
