-- An object whose places are stored, and one whose write failed, settle as the object itself.
use Rattle.std.proofs.Common.{◌≡◌, ℕ, ◌+◌, ◌<◌, Bool, true, false, List, length, get_or, None, refl, sym, ap, ◌∙◌, arith}
use Rattle.std.specs.Prelude.{map}
use Rattle.std.specs.List.{enumerate_from}
use Rattle.std.proofs.lemmas.List.{length-map, get_or-map, ext_get_or}
use Rattle.std.proofs.lemmas.List.FromFn.{length-enumerate_from, get_or-enumerate_from}
use Rattle.elf_object.specs.Object.{Object, Section, absent_section, section_at, is_dirty}
use Rattle.elf_object.specs.Joined.{file_bytes}
use Rattle.elf_object.specs.Layout.{places_of, placed_by, placed}
use Rattle.elf_object.specs.Image.{front_blocks, image}
use Rattle.elf_object.specs.Refusal.{refusal}
use Rattle.elf_object.specs.Settled.{settled_section, settled_over, settle}
use Rattle.elf_object.specs.Changed.{torn_over, is_moved, torn}
use Rattle.elf_object.specs.Valid.{IsObject}
use Rattle.law_object.specs.Laws.{IsTornImage}
use Rattle.law_object.proofs.ImageLaws.{placed-dirty, placed-clean}
use Rattle.law_object.proofs.SettledLaws.{settle-dirty}
use Rattle.law_object.proofs.StandLaws.{section_count-placed, joined-placed}
use Rattle.law_object.proofs.AgainLaws.{SameFront, header_again, headers_again, front_again}
use Rattle.law_object.proofs.TornLaws.{dirty-placed, placed_stays, torn-is, torn_front, torn_dirty, torn_law}
use Rattle.law_object.specs.Writing.Ready.{IsReady}
use Rattle.law_object.specs.Writing.Writing.{SettlesAlike}

-- ---- Objects that settle alike

-- what of an object is kept when it settles
record SameSettled (p q : Object) : Type 0 where
  header : p.header ≡ q.header
  pad : p.pad ≡ q.pad
  phdrs : p.phdrs ≡ q.phdrs
  layout : p.layout ≡ q.layout
  fill : p.fill ≡ q.fill
  count : length p.sections ≡ length q.sections
  headers : (s : ℕ) → (section_at p s).header ≡ (section_at q s).header
  bytes : (s : ℕ) → file_bytes p s ≡ file_bytes q s
  front : front_blocks p ≡ front_blocks q

settled_at : (n : ℕ) (q : Object) (s : ℕ) → s < length q.sections → get_or (map (λ row. settled_section n (file_bytes q row.0) row.1.header) (enumerate_from 0 q.sections)) s absent_section ≡ settled_section n (file_bytes q s) (section_at q s).header
unfolding section_at
settled_at n q s h =
    let count = length-enumerate_from 0 q.sections in
    let row : get_or (enumerate_from 0 q.sections) s (0, absent_section) ≡ (0 + s, get_or q.sections s absent_section) = get_or-enumerate_from 0 q.sections s (0, absent_section) h in
    let number : 0 + s ≡ s = omega arith in
    get_or-map (λ (r : ℕ × Section). settled_section n (file_bytes q r.0) r.1.header) (enumerate_from 0 q.sections) s (0, absent_section) absent_section (omega arith)
    ∙ ap (λ (r : ℕ × Section). settled_section n (file_bytes q r.0) r.1.header) row
    ∙ ap (λ (k : ℕ). settled_section n (file_bytes q k) (get_or q.sections s absent_section).header) number

settled_sections : (n : ℕ) (p q : Object) → SameSettled p q → map (λ row. settled_section n (file_bytes p row.0) row.1.header) (enumerate_from 0 p.sections) ≡ map (λ row. settled_section n (file_bytes q row.0) row.1.header) (enumerate_from 0 q.sections)
settled_sections n p q same =
    let left = length-map (enumerate_from 0 p.sections) (λ (row : ℕ × Section). settled_section n (file_bytes p row.0) row.1.header) in
    let right = length-map (enumerate_from 0 q.sections) (λ (row : ℕ × Section). settled_section n (file_bytes q row.0) row.1.header) in
    let left_count = length-enumerate_from 0 p.sections in
    let right_count = length-enumerate_from 0 q.sections in
    let count = same.count in
    ext_get_or absent_section (map (λ row. settled_section n (file_bytes p row.0) row.1.header) (enumerate_from 0 p.sections)) (map (λ row. settled_section n (file_bytes q row.0) row.1.header) (enumerate_from 0 q.sections)) (omega arith) (λ s h.
    settled_at n p s (omega arith)
    ∙ ap (λ (l : List ℕ). settled_section n l (section_at p s).header) (same.bytes s)
    ∙ ap (settled_section n (file_bytes q s)) (same.headers s)
    ∙ sym (settled_at n q s (omega arith)))

settled_same : (bytes : List ℕ) (p q : Object) → SameSettled p q → settled_over bytes p ≡ settled_over bytes q
unfolding settled_over
settled_same bytes p q same =
    let sections = settled_sections (length bytes) p q same in
    let header = same.header in
    let pad = same.pad in
    let phdrs = same.phdrs in
    let layout = same.layout in
    let fill = same.fill in
    let front = same.front in
    cc

-- objects with the same front and fill byte settle alike
stored_fields : (o : Object) → ((placed_by (places_of o) o).header ≡ (placed_by (places_of o) o).header) × ((placed_by (places_of o) o).pad ≡ o.pad) × ((placed_by (places_of o) o).phdrs ≡ o.phdrs) × ((placed_by (places_of o) o).layout ≡ o.layout) × ((placed_by (places_of o) o).fill ≡ o.fill)
unfolding placed_by
stored_fields o = (refl, refl, refl, refl, refl)

header_stored : (t o : Object) → SameFront t o → (placed_by (places_of t) t).header ≡ (placed_by (places_of o) o).header
unfolding placed_by
header_stored t o same = header_again t o same

front_settles : (t o : Object) → SameFront t o → t.fill ≡ o.fill → SameSettled (placed_by (places_of t) t) (placed_by (places_of o) o)
front_settles t o same fill =
    let left = stored_fields t in
    let right = stored_fields o in
    record {
      header = header_stored t o same;
      pad = left.1 ∙ same.pad ∙ sym right.1;
      phdrs = left.2 ∙ same.phdrs ∙ sym right.2;
      layout = left.3 ∙ same.layout ∙ sym right.3;
      fill = left.4 ∙ fill ∙ sym right.4;
      count = section_count-placed (places_of t) t ∙ same.count ∙ sym (section_count-placed (places_of o) o);
      headers = λ s. headers_again t o s same;
      bytes = λ s. joined-placed (places_of t) t s ∙ same.bytes s ∙ sym (joined-placed (places_of o) o s);
      front = front_again t o same;
    }

-- ---- A failed write

fill_torn : (moved : ℕ → Bool) (bytes : List ℕ) (o : Object) → (torn_over moved bytes (placed_by (places_of o) o)).fill ≡ o.fill
unfolding torn_over placed_by
fill_torn moved bytes o = refl

torn_alike : (o : Object) (bytes : List ℕ) → IsReady o → IsTornImage o bytes → settle (torn o bytes) ≡ settle o
torn_alike o bytes ready between =
    let t = torn_over (is_moved o) bytes (placed_by (places_of o) o) in
    let is = torn-is o bytes ready.dirty in
    let marked = torn_dirty (is_moved o) bytes (placed_by (places_of o) o) in
    let alike = torn_law o bytes ready.object ready.dirty ready.passed between in
    let picture : image (torn_over (is_moved o) bytes (placed_by (places_of o) o)) ≡ image o = sym (ap image is) ∙ alike.1 in
    ap settle is
    ∙ settle-dirty (torn_over (is_moved o) bytes (placed_by (places_of o) o)) marked
    ∙ ap (settled_over (image (torn_over (is_moved o) bytes (placed_by (places_of o) o)))) (placed-dirty (torn_over (is_moved o) bytes (placed_by (places_of o) o)) marked)
    ∙ settled_same (image (torn_over (is_moved o) bytes (placed_by (places_of o) o))) (placed_by (places_of (torn_over (is_moved o) bytes (placed_by (places_of o) o))) (torn_over (is_moved o) bytes (placed_by (places_of o) o))) (placed_by (places_of o) o)
    (front_settles (torn_over (is_moved o) bytes (placed_by (places_of o) o)) o (torn_front o (is_moved o) bytes) (fill_torn (is_moved o) bytes o))
    ∙ ap (λ (l : List ℕ). settled_over l (placed_by (places_of o) o)) picture
    ∙ ap (settled_over (image o)) (sym (placed-dirty o ready.dirty))
    ∙ sym (settle-dirty o ready.dirty)

-- ---- Stored places

placed_alike : (o : Object) → IsObject o → refusal o ≡ None → settle (placed o) ≡ settle o
placed_alike o ok passed = by_test (is_dirty o) refl
  where
    by_test : (b : Bool) → is_dirty o ≡ b → settle (placed o) ≡ settle o
    by_test true dirty =
        let stays = placed_stays o ok passed in
        let marked : is_dirty (placed o) ≡ true = ap is_dirty (placed-dirty o dirty) ∙ dirty-placed (places_of o) o ∙ dirty in
        settle-dirty (placed o) marked
        ∙ ap (λ (l : List ℕ). settled_over l (placed (placed o))) stays.2
        ∙ ap (settled_over (image o)) stays.0
        ∙ sym (settle-dirty o dirty)
    by_test false clean = ap settle (placed-clean o clean)

pub settles_alike : (o : Object) → SettlesAlike o
settles_alike o = record { placed = placed_alike o; torn = torn_alike o }
