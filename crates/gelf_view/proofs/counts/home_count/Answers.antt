use Rattle.std.proofs.Common.{◌%◌, ◌/◌, ℕ, Ok, sym, ap, ◌∙◌}
use Rattle.elf_descriptor.specs.elf_xlate.Items.{item_size}
use Rattle.gelf_view.proofs.CountLemmas.{home_outside, home_is_ragged, home_is_whole}
use Rattle.gelf_view.proofs.counts.home_count.Goals as goal

pub returns-then-is_out-clause-answer : goal.returns-then-is_out-clause-answer
returns-then-is_out-clause-answer g c = home_outside c.args.elf.now.o c.args.s.0 (sym c.is_out.ensures.out ∙ c.if-is_out.true)

pub returns-then-len-size-ne0-clause-answer : goal.returns-then-len-size-ne0-clause-answer
returns-then-len-size-ne0-clause-answer g c =
    let o = c.args.elf.now.o in
    let size = c.size-size.ensures ∙ ap (item_size g.T.Listed.kind) c.class.ensures in
    home_is_ragged o c.args.s.0 g.T.Listed.kind c.home_len-len.result c.is_out.ensures.object c.requires.kind (sym c.is_out.ensures.out ∙ c.if-is_out.false) c.home_len-len.ensures
    (g.met.T.Item.sized o.header.class) (λ even. c.if-len-size-ne0.true (ap (λ (n : ℕ). c.home_len-len.result % n) size ∙ even))

pub returns-clause-answer : goal.returns-clause-answer
returns-clause-answer g c =
    let o = c.args.elf.now.o in
    let size = c.size-size.ensures ∙ ap (item_size g.T.Listed.kind) c.class.ensures in
    ap (λ (n : ℕ). Ok (c.home_len-len.result / n)) size
    ∙ home_is_whole o c.args.s.0 g.T.Listed.kind c.home_len-len.result c.is_out.ensures.object c.requires.kind (sym c.is_out.ensures.out ∙ c.if-is_out.false) c.home_len-len.ensures
    (g.met.T.Item.sized o.header.class) (sym (ap (λ (n : ℕ). c.home_len-len.result % n) size) ∙ c.if-len-size-ne0.false)
