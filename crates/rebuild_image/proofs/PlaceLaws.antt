-- Where a section stands behind an end, by its header and its size.
use Rattle.std.proofs.Common.{◌≡◌, ◌-◌, ◌<◌, ◌^◌, ℕ, Bool, true, false, not, ◌&&◌, min, sym, ap, ◌∙◌, subst, arith}
use Rattle.std.specs.Prelude.{if◌then◌else◌}
use Rattle.elf_types.specs.declared.records.Shdr.{Shdr}
use Rattle.elf_layout.specs.Layout.{place_of, end_after, limit_of}
use Rattle.rebuild_model.specs.elf_object.Object.{Object, section_at, is_null, occupies_file}
use Rattle.rebuild_model.specs.elf_object.Joined.{pieces_end}
use Rattle.rebuild_model.specs.elf_object.Layout.{section_part}
use Rattle.elf_update_to.proofs.law_object.ImageLaws.{length-joined}
use Rattle.elf_update_to.proofs.law_object.StandLaws.{file_bytes_when}
use Rattle.rebuild_model.specs.elf_object.Sections.{is_allocated, header_at}
use Rattle.rebuild_making.specs.Placing.{is_movable, FitsBehind, MayStand}
use Rattle.rebuild_making.proofs.PlaceLaws.{class_limit_small, stays_behind, goes_behind}
use Rattle.rebuild_image.specs.Listed.Listing.{IsRow}
use Rattle.rebuild_image.specs.Places.{StandsBehind}

pub limit_is_small : (o : Object) (limit : ℕ) → limit ≡ limit_of o.header.class → limit < 2 ^ 63
limit_is_small o limit is = subst (λ (n : ℕ). n < 2 ^ 63) (sym is) (class_limit_small o.header.class)

-- its bytes are those of its pieces
pub size_told : (o : Object) (s size : ℕ) (h : Shdr) → IsRow o s h size → 0 < s
    → occupies_file h ≡ true → size < 2 ^ 64 → size ≡ min (pieces_end o s) (2 ^ 64 - 1)
size_told o s size h row first filled small =
    let kind : occupies_file (section_at o s).header ≡ true =
    ap (λ (x : Shdr). occupies_file x) (sym row.header) ∙ filled in
    let long = length-joined o s (file_bytes_when s (section_at o s) first ∙ kind) in
    let told = row.long in
    omega (arith, long, told, small)

movable_is : (o : Object) (s : ℕ) (h : Shdr) (b : Bool) → h ≡ header_at o s
    → (not (is_null h) && not (is_allocated h)) ≡ b → is_movable o s ≡ b
movable_is o s h b same is =
    ap (λ (x : Shdr). not (is_null x) && not (is_allocated x)) (sym same) ∙ is

pub stays_placed : (o : Object) (s end limit : ℕ) (h : Shdr) → h ≡ header_at o s
    → (not (is_null h) && not (is_allocated h)) ≡ false → StandsBehind o s end limit (h, end)
stays_placed o s end limit h same out =
    let keeps = movable_is o s h false same out in
    let stays = stays_behind o s end limit keeps in
    record {
      may = stays.0;
      header = same ∙ sym (ap (λ (b : Bool). if b
          then record (header_at o s) { offset = place_of end (section_part o s) }
          else header_at o s) keeps);
      end_is = stays.1;
    }

pub goes_movable : (o : Object) (s : ℕ) (h : Shdr) → h ≡ header_at o s
    → (not (is_null h) && not (is_allocated h)) ≡ true → is_movable o s ≡ true
goes_movable o s h same is = movable_is o s h true same is

pub goes_placed : (o : Object) (s end limit place next : ℕ) (h : Shdr) → h ≡ header_at o s
    → is_movable o s ≡ true
    → FitsBehind limit end (section_part o s)
    × ◌≡◌ {A = ℕ × ℕ} (place, next)
    (place_of end (section_part o s), end_after end (section_part o s))
    → StandsBehind o s end limit (record h { offset = place }, next)
goes_placed o s end limit place next h same moves found =
    let goes = goes_behind o s end limit place next moves found in
    record {
      may = goes.0;
      header = ap (λ (x : Shdr). record x { offset = place }) same
          ∙ ap (λ (p : ℕ × ℕ). record (header_at o s) { offset = p.0 }) found.1
          ∙ sym (ap (λ (b : Bool). if b
          then record (header_at o s) { offset = place_of end (section_part o s) }
          else header_at o s) moves);
      end_is = goes.1;
    }

pub never_placed : (o : Object) (s end limit : ℕ) → is_movable o s ≡ true
    → (FitsBehind limit end (section_part o s) → ⊥) → MayStand o limit end s → ⊥
never_placed o s end limit moves never may = never (may moves)
