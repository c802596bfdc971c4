-- Sections that are the same but for their places (`SameSection`), from lists that can be computed.
use Rattle.std.proofs.Common.{◌≡◌, ℕ, Bool, true, false, List, get_or, refl, sym, ap, ◌∙◌}
use Rattle.std.specs.Prelude.{◌&&◌, if◌then◌else◌, map}
use Rattle.std.proofs.Math.ListN.{get_or-map}
use Rattle.elf_types.specs.declared.records.Kind.{Kind}
use Rattle.elf_types.specs.declared.records.Shdr.{Shdr}
use Rattle.hash_model.specs.elf_object.Object.{Section, Piece, absent_section}
use Rattle.hash_model.specs.elf_object.Sections.{is_allocated}
use Rattle.rebuild_model.specs.KeepingLaws.{SameSection}

-- what is compared of a section: its place counts where it is allocated, in a program
abbrev pub compared : Bool → Section → Shdr × Kind × List ℕ × List Piece
compared program c = (
  record c.header { offset = if program && is_allocated c.header then c.header.offset else 0 },
  c.home.kind,
  c.raw,
  c.pieces,
)

counts : (program allocated : Bool) (n : ℕ) → program ≡ true → allocated ≡ true → (if program && allocated then n else 0) ≡ n
counts true true n p a = refl
counts true false n p a = cc
counts false allocated n p a = cc

same_section : (program : Bool) (x y : Section) → compared program x ≡ compared program y → SameSection program x y
unfolding is_allocated
same_section program x y e =
    let allocated : is_allocated x.header ≡ is_allocated y.header = ap (λ (t : Shdr × Kind × List ℕ × List Piece). is_allocated t.0) e in
    record {
      header = ap (λ (t : Shdr × Kind × List ℕ × List Piece). record t.0 { offset = 0 }) e;
      place = λ p a.
          sym (counts program (is_allocated x.header) x.header.offset p a)
          ∙ ap (λ (t : Shdr × Kind × List ℕ × List Piece). t.0.offset) e
          ∙ counts program (is_allocated y.header) y.header.offset p (sym allocated ∙ a);
      kind = ap (λ (t : Shdr × Kind × List ℕ × List Piece). t.1) e;
      raw = ap (λ (t : Shdr × Kind × List ℕ × List Piece). t.2) e;
      pieces = ap (λ (t : Shdr × Kind × List ℕ × List Piece). t.3) e;
    }

-- the sections of two lists, one by one
pub same_sections : (program : Bool) (a b : List Section) → map (compared program) a ≡ map (compared program) b
    → (s : ℕ) → SameSection program (get_or a s absent_section) (get_or b s absent_section)
same_sections program a b same s = same_section program (get_or a s absent_section) (get_or b s absent_section)
    (sym (get_or-map (compared program) a s absent_section)
    ∙ ap (λ (l : List (Shdr × Kind × List ℕ × List Piece)). get_or l s (compared program absent_section)) same
    ∙ get_or-map (compared program) b s absent_section)
