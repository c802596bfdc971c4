-- The front of an image, behind bytes that are held.
use Rattle.std.proofs.Common.{◌≡◌, ℕ, ◌<◌, List, ◌++◌, length, map, sym, ap, ◌∙◌, append_assoc, arith}
use Rattle.std.proofs.lemmas.List.{length-map, get_or-map, ext_get_or}
use Rattle.elf_types.specs.declared.records.Ehdr.{Ehdr}
use Rattle.elf_types.specs.declared.records.Phdr.{Phdr}
use Rattle.rebuild_model.specs.elf_ident.Front.{zero_shdr}
use Rattle.elf_xlate.specs.Headers.{ehdr_bytes}
use Rattle.rebuild_model.specs.elf_object.Object.{Object, Section, section_at, absent_section}
use Rattle.rebuild_model.specs.elf_object.Open.{front_in_image, phdrs_bytes, shdrs_bytes}
use Rattle.rebuild_model.specs.elf_object.Derived.{written_header}
use Rattle.rebuild_model.specs.elf_object.Image.{front_blocks}
use Rattle.elf_update_to.proofs.FrontLaws.{object_header_is, header_bytes_are}
use Rattle.rebuild_image.specs.declared.listed.listed.HeaderListing.{HeaderListing}
use Rattle.rebuild_image.specs.Listed.Listing.{IsHeaderListing}
use Rattle.rebuild_image.specs.declared.ranges.ranges.ByteRange.{ByteRange}
use Rattle.rebuild_image.specs.Ranges.Ranges.{range_bytes}
use Rattle.rebuild_image.specs.Fronts.{HoldsAppended}
use Rattle.rebuild_image.specs.Holding.{HoldsFront, HeldFrontsAreStored}
use Rattle.rebuild_image.proofs.FrontLaws.{held_bytes_stay}

-- three that are held, one behind the other
module _ (x : HeaderListing) (pad : List ℕ) (phdrs : List Phdr) (headers old one two all : List ℕ)
    (h s t : ByteRange)
    (first : HoldsAppended (ehdr_bytes (written_header x.header) pad) old one h)
    (second : HoldsAppended (phdrs_bytes x.header.class x.header.order phdrs) one two s)
    (third : HoldsAppended headers two all t)
    (are : headers ≡ shdrs_bytes x.header.class x.header.order x.headers) where
  behind_two : (more : List ℕ) → all ++ more ≡ two ++ (headers ++ more)
  behind_two more =
      ap (λ (l : List ℕ). l ++ more) third.all ∙ append_assoc two headers more

  behind_one : (more : List ℕ) → all ++ more
      ≡ one ++ (phdrs_bytes x.header.class x.header.order phdrs ++ (headers ++ more))
  behind_one more =
      behind_two more
      ∙ ap (λ (l : List ℕ). l ++ (headers ++ more)) second.all
      ∙ append_assoc one (phdrs_bytes x.header.class x.header.order phdrs) (headers ++ more)

  pub holds_front : HoldsFront x pad phdrs old all (record { header = h; segments = s; table = t })
  holds_front = record {
    bytes = ehdr_bytes (written_header x.header) pad
        ++ (phdrs_bytes x.header.class x.header.order phdrs ++ headers);
    all = third.all
        ∙ ap (λ (l : List ℕ). l ++ headers) second.all
        ∙ append_assoc one (phdrs_bytes x.header.class x.header.order phdrs) headers
        ∙ ap (λ (l : List ℕ). l ++ (phdrs_bytes x.header.class x.header.order phdrs ++ headers))
        first.all
        ∙ append_assoc old (ehdr_bytes (written_header x.header) pad)
        (phdrs_bytes x.header.class x.header.order phdrs ++ headers);
    header = λ more base.
        ap (λ (l : List ℕ). range_bytes l base h) (behind_one more)
        ∙ held_bytes_stay (ehdr_bytes (written_header x.header) pad) old one
        (phdrs_bytes x.header.class x.header.order phdrs ++ (headers ++ more)) base h first;
    segments = λ more base.
        ap (λ (l : List ℕ). range_bytes l base s) (behind_two more)
        ∙ held_bytes_stay (phdrs_bytes x.header.class x.header.order phdrs) one two
        (headers ++ more) base s second;
    table = λ more base. held_bytes_stay headers two all more base t third ∙ are;
  }

-- ---- It is the object's

headers_are : (o : Object) (x : HeaderListing) → IsHeaderListing o x → x.headers ≡ map (λ c. c.header) o.sections
unfolding section_at
headers_are o x is =
    let long : length (map (λ c. c.header) o.sections) ≡ length o.sections =
    length-map o.sections (λ (c : Section). c.header) in
    ext_get_or zero_shdr x.headers (map (λ c. c.header) o.sections) (is.count ∙ sym long)
    (λ s there.
    let within : s < length o.sections = omega (arith, there, is.count) in
    is.headers s within
    ∙ sym (get_or-map (λ (c : Section). c.header) o.sections s absent_section zero_shdr within))

pub held_fronts_are_stored : HeldFrontsAreStored
unfolding front_blocks front_in_image written_header
held_fronts_are_stored o x old new more base ranges object is holds =
    let header : x.header ≡ o.header = is.header ∙ object_header_is o object in
    record {
      header = holds.header more base ∙ header_bytes_are o x.header header;
      segments = holds.segments more base
          ∙ ap (λ (h : Ehdr). phdrs_bytes h.class h.order o.phdrs) header;
      table = holds.table more base
          ∙ ap (λ (h : Ehdr). shdrs_bytes h.class h.order x.headers) header
          ∙ ap (shdrs_bytes o.header.class o.header.order) (headers_are o x is);
    }
