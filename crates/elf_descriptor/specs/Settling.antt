-- A descriptor after an update in place: what was written is what it is over (elf_update with
-- ELF_C_WRITE, elf(3E)).
use Rattle.std.specs.Prelude.{◌≡◌, ℕ, Bool, false, All, List, map, Option, Some, None, is_some}
use Rattle.section_table.specs.elf_xlate.Headers.{IsPhdr}
use Rattle.section_table.specs.elf_object.Derived.{written_header}
use Rattle.section_table.specs.elf_object.Refusal.{refusal}
use Rattle.section_table.specs.elf_object.Settled.{settled}
use Rattle.section_table.specs.elf_object.Object.{Object}
use Rattle.section_table.specs.Sections.{reopened_scn}
use Rattle.elf_descriptor.specs.declared.body.Written.{Written}
use Rattle.elf_descriptor.specs.declared.body.Body.{Body}
use Rattle.elf_descriptor.specs.declared.body.Base.TheVariants as bases
use Rattle.elf_descriptor.specs.State.{State}
use Rattle.elf_descriptor.specs.Sound.{IsSound}

-- ---- The descriptor

-- of as many sections, that nothing of any is held or kept aside
abbrev pub cleared : List Bool → List Bool
cleared l = map (λ b. false) l

-- the object is settled, nothing of it is held, and an update wants memory again
abbrev pub settled_state : {S : Type 0} → State S → State S
settled_state s = record s {
  o = settled s.told s.o;
  loaded = cleared s.loaded;
  held = cleared s.held;
  room = cleared s.room;
  ready = false;
}

-- What is settled is an object. Where the source tells its bytes, the object is that of its base,
-- and what is not dirty stands there.
abbrev pub SettlingIsSound : Type 0
SettlingIsSound =
    (image : Option (List ℕ)) (o : Object) → IsSound image o → All IsPhdr o.phdrs
    → refusal o ≡ None → IsSound image (settled (is_some image) o)

-- ---- What the program keeps

-- the front as it is written
abbrev pub front_as_written : Body → Written
front_as_written b = record {
  header = written_header b.header;
  pad = b.pad;
  phdrs = b.phdrs;
  shdrs = map (λ s. s.header) b.sections;
}

-- all of an object whose places are stored, over the image that was written
pub record SettlesBody (size : ℕ) (old new : Body) : Type 0 where
  pub rest : new ≡ record old {
    sections = new.sections;
    base = bases.Source size;
    written = Some (front_as_written old);
    spare = new.spare;
    marked = false;
    header_marked = false;
    segments_marked = false;
    ready = false;
  }
  pub sections : new.sections ≡ map (reopened_scn size) old.sections
  pub ranged : All IsPhdr old.phdrs
