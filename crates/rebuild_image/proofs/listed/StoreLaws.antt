-- Listed headers with the places of an object's parts.
use Rattle.std.proofs.Common.{◌≡◌, ℕ, ◌+◌, ◌-◌, ◌<◌, Bool, true, false, List, [], ◌∷◌, ◌++◌, length, get_or, refl, sym, ap, ◌∙◌, subst, arith, ⊎_elim, length-append}
use Rattle.std.specs.Prelude.{if◌then◌else◌, ◌==◌}
use Rattle.std.proofs.Math.Seq.{get_or-append_seam}
use Rattle.std.proofs.lemmas.Bool.{cases_lt, ne_eqb}
use Rattle.std.proofs.lemmas.List.{get_or_default, get_or_append_left}
use Rattle.elf_types.specs.declared.records.Ehdr.{Ehdr}
use Rattle.elf_types.specs.declared.records.Shdr.{Shdr}
use Rattle.elf_update_plan.specs.elf_ident.Front.{zero_shdr}
use Rattle.elf_layout.specs.declared.parts.Places.{Places}
use Rattle.elf_update_plan.specs.elf_object.Object.{Object, Section, header_of, section_at, is_dirty}
use Rattle.elf_update_plan.specs.elf_object.Joined.{file_bytes}
use Rattle.elf_update_plan.specs.elf_object.Derived.{derived_header, numbered_shdr}
use Rattle.elf_update_plan.specs.elf_object.Layout.{places_of, placed_by, placed, placed_header, placed_shdr, placed_section}
use Rattle.elf_update_plan.proofs.law_object.ImageLaws.{placed-dirty, section_at-placed}
use Rattle.elf_update_plan.proofs.law_object.StandLaws.{joined-placed, section_count-placed}
use Rattle.rebuild_image.specs.declared.listed.listed.HeaderListing.{HeaderListing}
use Rattle.rebuild_image.specs.Listed.Listing.{IsHeaderListing, IsRow, AreStored, shdr_stored}

-- ---- One header

pub header_placed : (o : Object) (x : HeaderListing) (places : Places) (at : List ℕ) (last : ℕ) (r : Ehdr)
    → at ≡ places.at → last ≡ length x.headers - 1
    → r ≡ derived_header (get_or at 1 0) (get_or at (last + 2) 0) x.header → IsHeaderListing o x
    → r ≡ placed_header places o
unfolding placed_header
header_placed o x places at last r same count put is =
    let index : last + 2 ≡ length o.sections - 1 + 2 = omega (arith, count, is.count) in
    put
    ∙ ap (λ (l : List ℕ). derived_header (get_or l 1 0) (get_or l (last + 2) 0) x.header) same
    ∙ ap (λ (n : ℕ). derived_header (get_or places.at 1 0) (get_or places.at n 0) x.header) index
    ∙ ap (derived_header (get_or places.at 1 0) (get_or places.at (length o.sections - 1 + 2) 0))
    is.header

pub row_listed : (o : Object) (x : HeaderListing) (s : ℕ) (headers : List Shdr) (sizes : List ℕ) (d : Shdr)
    (e : ℕ) → headers ≡ x.headers → sizes ≡ x.sizes → s < length x.headers → IsHeaderListing o x
    → IsRow o s (get_or headers s d) (get_or sizes s e)
row_listed o x s headers sizes d e first second there is =
    let within : s < length o.sections = omega (arith, there, is.count) in
    let sized : s < length x.sizes = omega (arith, there, is.count, is.sized) in
    record {
      header = ap (λ (l : List Shdr). get_or l s d) first
          ∙ get_or_default x.headers s d zero_shdr there ∙ is.headers s within;
      long = ap (λ (l : List ℕ). get_or l s e) second
          ∙ get_or_default x.sizes s e 0 sized ∙ is.sizes s within;
    }

pub first_placed : (o : Object) (places : Places) (s : ℕ) (header : Ehdr) (h r : Shdr) → s ≡ 0
    → header ≡ placed_header places o → h ≡ (section_at o s).header → r ≡ numbered_shdr header h
    → r ≡ placed_shdr places o s (section_at o s).header
unfolding placed_shdr
first_placed o places s header h r none known same put =
    put ∙ ap (λ (x : Ehdr). numbered_shdr x h) known ∙ ap (numbered_shdr
    (placed_header places o)) same
    ∙ sym (ap (λ (n : ℕ). if n == 0 then numbered_shdr (placed_header places o)
    (section_at o s).header
    else shdr_stored (section_at o s).header (get_or places.at (s + 1) 0) (length
    (file_bytes o s))) none)

pub other_placed : (o : Object) (places : Places) (s size : ℕ) (at : List ℕ) (h r : Shdr)
    → 0 < s → at ≡ places.at → IsRow o s h size
    → r ≡ shdr_stored h (get_or at (s + 1) 0) size → r ≡ placed_shdr places o s
    (section_at o s).header
unfolding placed_shdr
other_placed o places s size at h r some same row put =
    let other : (s == 0) ≡ false = ne_eqb s 0 (λ e. omega (arith, e, some)) in
    put
    ∙ ap (λ (l : List ℕ). shdr_stored h (get_or l (s + 1) 0) size) same
    ∙ ap (λ (x : Shdr). shdr_stored x (get_or places.at (s + 1) 0) size) row.header
    ∙ ap (shdr_stored (section_at o s).header (get_or places.at (s + 1) 0)) row.long
    ∙ sym (ap (λ (b : Bool). if b then numbered_shdr (placed_header places o)
    (section_at o s).header
    else shdr_stored (section_at o s).header (get_or places.at (s + 1) 0) (length (file_bytes o s)))
    other)

-- ---- All of them

-- the first of the headers are stored
pub record StoredBelow (places : Places) (o : Object) (headers : List Shdr) (n : ℕ) : Type 0 where
  pub count : length headers ≡ n
  pub each : (s : ℕ) → s < n → get_or headers s zero_shdr ≡ placed_shdr places o s
      (section_at o s).header

pub no_place_stored : (places : Places) (o : Object) → StoredBelow places o [] 0
no_place_stored places o = record { count = refl; each = λ s below. absurd (omega (arith, below)) }

pub one_stored : (places : Places) (o : Object) (headers next : List Shdr) (n : ℕ) (h : Shdr)
    → StoredBelow places o headers n → next ≡ headers ++ h ∷ []
    → h ≡ placed_shdr places o n (section_at o n).header → StoredBelow places o next (n + 1)
one_stored places o headers next n h so_far more put = record {
  count = ap (λ (l : List Shdr). length l) more ∙ length-append headers (h ∷ [])
      ∙ ap (λ (k : ℕ). k + 1) so_far.count;
  each = λ s below. ap (λ (l : List Shdr). get_or l s zero_shdr) more
      ∙ ⊎_elim (λ less. get_or_append_left headers (h ∷ []) zero_shdr s
      (omega (arith, less, so_far.count)) ∙ so_far.each s less)
      (λ last. let same : n ≡ s = omega (arith, below, last) in
      subst (λ (k : ℕ). get_or (headers ++ h ∷ []) k zero_shdr
      ≡ placed_shdr places o k (section_at o k).header)
      same (at_end ∙ put)) (cases_lt s n);
}
  where
    at_end : get_or (headers ++ h ∷ []) n zero_shdr ≡ h
    at_end =
        ap (λ (k : ℕ). get_or (headers ++ h ∷ []) k zero_shdr) (sym so_far.count)
        ∙ get_or-append_seam headers h [] zero_shdr

pub all_stored : (places : Places) (o : Object) (headers : List Shdr) (n : ℕ)
    → n ≡ length o.sections
    → StoredBelow places o headers n → AreStored places o headers
all_stored places o headers n all so_far = record {
  count = so_far.count ∙ all;
  each = λ s there. so_far.each s (omega (arith, there, all));
}

-- ---- They are the placed object's

placed_counts : (places : Places) (o : Object) → placed_header places o
    ≡ header_of (placed_by places o)
unfolding placed_header derived_header header_of placed_by
placed_counts places o =
    ap (λ (n : ℕ). record (placed_header places o) { shnum = n }) (sym
    (section_count-placed places o))

pub stored_listed : (o : Object) (x next : HeaderListing) (places : Places) → IsHeaderListing o x
    → is_dirty o ≡ true
    → places ≡ places_of o → next.header ≡ placed_header places o → AreStored places o next.headers
    → next.sizes ≡ x.sizes → IsHeaderListing (placed o) next
unfolding placed_section
stored_listed o x next places is dirty known header stored sizes =
    let at : placed o ≡ placed_by places o =
    placed-dirty o dirty ∙ ap (λ (p : Places). placed_by p o) (sym known) in
    let count = section_count-placed places o in
    subst (λ (q : Object). IsHeaderListing q next) (sym at) (record {
      header = header ∙ placed_counts places o;
      count = stored.count ∙ sym count;
      sized = ap (λ (l : List ℕ). length l) sizes ∙ is.sized ∙ sym count;
      headers = λ s there.
          let within : s < length o.sections = omega (arith, there, count) in
          stored.each s within
          ∙ ap (λ (c : Section). c.header) (sym (section_at-placed places o s within));
      sizes = λ s there.
          let within : s < length o.sections = omega (arith, there, count) in
          ap (λ (l : List ℕ). get_or l s 0) sizes ∙ is.sizes s within
          ∙ ap (λ (l : List ℕ). length l) (sym (joined-placed places o s));
      small = λ s there.
          let within : s < length o.sections = omega (arith, there, count) in
          let same = ap (λ (l : List ℕ). length l) (joined-placed places o s) in
          let small = is.small s within in
          omega (arith, same, small);
    })
