use Rattle.std.proofs.Common.{List, ℕ, ap, sym, subst, ◌∙◌}
use Rattle.elf_object.specs.Answers.{bytes_of}
use Rattle.section_data.specs.Nuls.{IsLastEnd}
use Rattle.section_data.proofs.raw.RawBytes.note_end.Goals as goal

pub invariant_of-self : goal.invariant_of-self
invariant_of-self c =
    subst (λ (l : List ℕ). IsLastEnd l c.ended_len.result)
    (c.bytes.ensures ∙ ap bytes_of (sym c.self.view_is)) c.ended_len.ensures
