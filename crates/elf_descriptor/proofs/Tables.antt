-- A table of strings that is held, as the state says it.
use Rattle.std.proofs.Common.{ℕ, ◌<◌, length, sym, ap, ◌∙◌, subst}
use Rattle.section_table.specs.elf_outside.declared.sources.Source.{Ghosts}
use Rattle.section_table.specs.elf_object.Object.{Section, Piece}
use Rattle.section_table.specs.elf_object.Answers.{piece_count}
use Rattle.section_table.specs.section_data.Held.{piece_in}
use Rattle.section_table.proofs.section_data.Holdings.{none_of}
use Rattle.elf_descriptor.specs.declared.body.Body.{Body}
use Rattle.elf_descriptor.specs.Views.{section_of, scn_at, state_of}
use Rattle.elf_descriptor.specs.Sound.{IsElf}
use Rattle.elf_descriptor.specs.Tables.{IsHeldTable, IsTableIn}
use Rattle.elf_descriptor.proofs.Objects.{section_is, no_section_is, piece_is}
use Rattle.elf_descriptor.proofs.Loaded.{loaded_is, raw_is}
use Rattle.elf_descriptor.proofs.PieceCalls.{raw_length}
use Rattle.elf_descriptor.proofs.RawCalls.{scn_there}

pub held_table : {S : Type 0} (g : Ghosts S) (source : S) (b : Body) (s offset : ℕ) → IsElf (g.holds source) (g.size source) b → IsTableIn b s offset
    → IsHeldTable (state_of g source b) s offset
unfolding section_of piece_count
held_table g source b s offset sound table = record {
  there = no_section_is (g.holds source) (g.size source) b s ∙ scn_there b s table.there;
  of_strings = ap (λ (c : Section). c.header.stype) (section_is (g.holds source) (g.size source) b s) ∙ table.of_strings;
  inside = ap (λ (c : Section). c.home.out) (section_is (g.holds source) (g.size source) b s) ∙ table.alone.inside;
  alone = ap (λ (c : Section). length c.pieces) (section_is (g.holds source) (g.size source) b s) ∙ table.alone.alone;
  clean = ap (λ (p : Piece). p.own) (piece_is (g.holds source) (g.size source) b s 0) ∙ none_of (piece_in (scn_at b s).cell 0).own table.alone.clean;
  of_bytes = ap (λ (c : Section). c.home.kind) (section_is (g.holds source) (g.size source) b s) ∙ table.alone.of_bytes;
  loaded = loaded_is b s ∙ table.alone.loaded;
  within = subst (λ (n : ℕ). offset < n) (sym (ap length (raw_is (g.holds source) (g.size source) b s) ∙ raw_length (g.holds source) (g.size source) b s sound table.there table.alone.inside)) table.alone.within;
}
