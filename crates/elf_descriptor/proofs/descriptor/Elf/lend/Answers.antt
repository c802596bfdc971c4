use Rattle.std.proofs.Common.{[], refl, sym, ap, ◌∙◌}
use Rattle.elf_types.specs.declared.records.Kind.{Kind}
use Rattle.section_table.specs.elf_object.Answers.{count_at}
use Rattle.elf_descriptor.proofs.OwnedCalls.{lend_reads}
use Rattle.elf_descriptor.proofs.LendCalls.{lent_object, lent_value, lent_count, to_own_then, lent_reads}
use Rattle.elf_descriptor.proofs.descriptor.Elf.lend.Goals as goal

pub returns-in-Ok : goal.returns-in-Ok
unfolding count_at
returns-in-Ok g c =
    let s = c.args.d.section in
    let p = c.args.d.piece in
    let kind = g.T.Listed.kind in (
      (
        refl,
        (λ w is. record {
          object = lent_object _ c.args.self.now.o c.own.new.self.o kind s p _ c.in-Ok.ensures.object c.in-Ok.ensures.own (g.T.Listed.variant w);
          reads = lent_reads g.S.Source _ c.args.self.now c.own.new.self kind s p (g.T.Listed.variant w) _ _ c.in-Ok.ensures.own
              (ap (λ (k : Kind). lend_reads c.args.self.now.o k s p) (g.met.T.Listed.of_kind [] ∙ sym (g.met.T.Listed.of_kind w)))
              (to_own_then g.S.Source _ _ c.args.self.now c.own.new.self _ _ (λ refused. tt) tt c.in-Ok.ensures.reads);
        }),
        tt,
      ),
      record {
        lends = tt;
        answer = c.in-Ok.ensures.answer;
        value = lent_value _ c.args.self.now.o c.own.new.self.o kind s p _ c.in-Ok.ensures.object c.in-Ok.ensures.own g.T.Listed.list_of c.own_list.result.now c.own_list.ensures.value;
        sized = lent_count _ c.args.self.now.o c.own.new.self.o kind s p _ c.in-Ok.ensures.object c.in-Ok.ensures.own _ c.own_list.ensures.counted;
      },
    )
