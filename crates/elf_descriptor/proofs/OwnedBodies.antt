-- One section of what the program keeps is written: a piece of it became own, or the call was refused.
use Rattle.std.proofs.Common.{◌≡◌, ◌≢◌, ℕ, ◌<◌, List, length, set, Option, Result, Ok, Err, sym, ap, ◌∙◌, subst}
use Rattle.std.specs.Prelude.{OnOk, OnErr, IfErr, IfSome, IsSome, is_some}
use Rattle.elf_types.specs.declared.records.Kind.{Kind}
use Rattle.elf_types.specs.declared.errors.ElfError.{ElfError}
use Rattle.elf_types.specs.declared.errors.ElfError.TheVariants.{Memory}
use Rattle.section_table.specs.elf_xlate.declared.content.Items.{Items}
use Rattle.section_table.specs.elf_xlate.Translation.{items_kind}
use Rattle.section_table.specs.elf_object.Object.{Piece}
use Rattle.section_table.specs.section_data.Views.{CellView, IsCell}
use Rattle.section_table.specs.section_data.Held.{piece_in, HeldIs}
use Rattle.section_table.specs.section_data.Leaves.{Owns, OwnsKind, Stays}
use Rattle.section_table.specs.Sections.{SectionView as Scn}
use Rattle.elf_descriptor.specs.declared.body.Body.{Body}
use Rattle.elf_descriptor.specs.Views.{scn_at}
use Rattle.elf_descriptor.specs.Warmed.{Warmed}
use Rattle.elf_descriptor.specs.Owned.{IsOwned}
use Rattle.elf_descriptor.proofs.Warming.{warmed_by, cell_written}

module _ (image : Option (List ℕ)) (kind : Kind) (old new : Body) (s p : ℕ) (x : Scn)
    (cell : CellView) (there : s < length old.sections) (read : x ≡ scn_at old s)
    (rest : new ≡ record old { sections = new.sections })
    (is : new.sections ≡ set old.sections s (record x { cell = cell })) where
  -- a piece became own
  pub owned_by : (r : Result (Unit {0}) ElfError) → OnOk r (Owns image old.header.class old.header.order x.cell cell p) → IsCell cell → OnOk r (p < length cell.pieces) → OnOk r (OwnsKind kind (piece_in cell p))
      → HeldIs old.header.class old.header.order cell → OnOk r (IsOwned image kind old.ready old new s p)
  owned_by (Err e) owns kept piece own items = tt
  owned_by (Ok v) owns kept piece own items = record {
    cell = cell;
    rest = rest;
    sections = is ∙ ap (λ (y : Scn). set old.sections s (record y { cell = cell })) read;
    owns = subst (λ (y : Scn). Owns image old.header.class old.header.order y.cell cell p) read owns;
    kept = kept;
    there = there;
    piece = piece;
    own = own;
    items = items;
  }

  -- the call was refused
  pub stays_warmed : (r : Result (Unit {0}) ElfError) → OnErr r (Stays image r x.cell cell) → HeldIs old.header.class old.header.order cell → OnErr r (Warmed image old new s)
  stays_warmed (Ok v) stays items = tt
  stays_warmed (Err e) stays items = warmed_by image old new s x cell read rest is stays.warms (λ held. items)

  pub stays_held : (r : Result (Unit {0}) ElfError) → OnErr r (Stays image r x.cell cell) → OnErr r ((scn_at new s).cell.held ≡ (scn_at old s).cell.held)
  stays_held (Ok v) stays = tt
  stays_held (Err e) stays =
      cell_written (λ (c : CellView). c.held ≡ (scn_at old s).cell.held) old new s x cell there is (stays.held ∙ ap (λ (y : Scn). y.cell.held) read)

  pub stays_unchanged : (r : Result (Unit {0}) ElfError) → OnErr r (Stays image r x.cell cell) → IfErr r (λ e. e ≢ Memory → (scn_at new s).cell ≡ (scn_at old s).cell)
  stays_unchanged (Ok v) stays = tt
  stays_unchanged (Err e) stays = λ other.
      cell_written (λ (c : CellView). c ≡ (scn_at old s).cell) old new s x cell there is (stays.unchanged other ∙ ap (λ (y : Scn). y.cell) read)

-- ---- A piece with items of its own of a kind

pub own_is_some : (kind : Kind) (q : Piece) → OwnsKind kind q → IsSome q.own
own_is_some kind q own = ap (λ (o : Option Items). is_some o) own.own

pub own_is_kind : (kind : Kind) (q : Piece) → OwnsKind kind q → IfSome q.own (λ items. items_kind items ≡ kind)
own_is_kind kind q own = subst (λ (o : Option Items). IfSome o (λ items. items_kind items ≡ kind)) (sym own.own) own.of_kind
