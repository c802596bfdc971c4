use Rattle.std.proofs.Common.{◌+◌, ℕ, min, sym, ap, refl, ◌∙◌, arith}
use Rattle.elf_descriptor.specs.elf_layout.Layout.{rounded_up}
use Rattle.gelf_view.proofs.NoteLemmas.{rounded_up_le, name_passes, desc_passes, both_lie}
use Rattle.gelf_view.proofs.notes.note_with.Goals as goal

pub returns-then-size-name_at-clause-value : goal.returns-then-size-name_at-clause-value
returns-then-size-name_at-clause-value c =
    let names = c.from-namesz.ensures ∙ c.word_at.ensures in
    sym (name_passes c.args.order c.args.align c.args.size c.args.header.now c.args.at (omega (arith, names, c.requires.within, c.if-size-name_at.true)))

pub returns-then-size-desc_at-clause-value : goal.returns-then-size-desc_at-clause-value
returns-then-size-desc_at-clause-value c =
    let names = c.from-namesz.ensures ∙ c.word_at.ensures in
    let count = c.from-descsz.ensures ∙ c.word_at-2.ensures in
    let place = c.rounded_up_to-desc_at.ensures ∙ ap (λ (n : ℕ). min (rounded_up (c.args.at + 12 + n) c.args.align) c.args.size) names in
    sym (desc_passes c.args.order c.args.align c.args.size c.args.header.now c.args.at (omega (arith, count, place, c.if-size-desc_at.true)))

pub returns-clause-value : goal.returns-clause-value
returns-clause-value c =
    let names = c.from-namesz.ensures ∙ c.word_at.ensures in
    let count = c.from-descsz.ensures ∙ c.word_at-2.ensures in
    let place = c.rounded_up_to-desc_at.ensures ∙ ap (λ (n : ℕ). min (rounded_up (c.args.at + 12 + n) c.args.align) c.args.size) names in
    let whole = both_lie c.args.order c.args.align c.args.size c.args.header.now c.args.at (omega (arith, names, c.requires.within, c.if-size-name_at.false)) (omega (arith, count, place, c.if-size-desc_at.false, c.rounded_up_to-desc_at.ensures)) in
    let ntype = c.word_at-ntype.ensures in
    let next = c.rounded_up_to-next.ensures in
    cc

pub returns-clause-within : goal.returns-clause-within
returns-clause-within c =
    let place = c.rounded_up_to-desc_at.ensures in
    let next = c.rounded_up_to-next.ensures in
    let later = rounded_up_le (c.args.at + 12 + c.from-namesz.result) c.args.align in
    let last = rounded_up_le (c.rounded_up_to-desc_at.result + c.from-descsz.result) c.args.align in
    record {
      name_at = refl;
      name = omega (arith, c.requires.within, c.if-size-name_at.false);
      desc = omega (arith, place, c.if-size-desc_at.false);
      after = omega (arith, place, next, later, last, c.requires.within, c.if-size-name_at.false, c.if-size-desc_at.false);
      next = omega (arith, next);
    }
