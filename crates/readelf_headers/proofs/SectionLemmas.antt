-- The line of a section is what stands before its name, the name, and the rest.
use Rattle.std.proofs.Common.{◌≡◌, ◌++◌, ◌∷◌, [], ℕ, List, Some, None, refl, sym, ap, ◌∙◌, append_assoc}
use Rattle.std.specs.Prelude.{codes}
use Rattle.elf_types.specs.declared.records.Shdr.{Shdr}
use Rattle.elf_types.specs.Names.{section_type_names, section_type_name_of}
use Rattle.tool_objects.specs.Sections.{bracketed}
use Rattle.readelf_rows.specs.Fields.{name_or_hex, row_start}
use Rattle.readelf_rows.proofs.ShortNames.{IsShort, short_in}
use Rattle.readelf_headers.specs.Sections.{section_start, section_places, section_number_columns, section_front, section_end, section_line}

pub section_type_short : (n : ℕ) → IsShort (section_type_name_of n)
unfolding section_type_name_of section_type_names
section_type_short n = short_in section_type_names n refl

-- texts in a row, each before those behind it
in_a_row : (r b t p m : List ℕ)
    → (((((r ++ codes " ") ++ b) ++ codes " ") ++ t) ++ p) ++ m ≡ r ++ (32 ∷ (b ++ (32 ∷ (t ++ (p ++ m)))))
in_a_row r b t p m =
    append_assoc ((((r ++ codes " ") ++ b) ++ codes " ") ++ t) p m
    ∙ append_assoc (((r ++ codes " ") ++ b) ++ codes " ") t (p ++ m)
    ∙ append_assoc ((r ++ codes " ") ++ b) (codes " ") (t ++ (p ++ m))
    ∙ append_assoc (r ++ codes " ") b (32 ∷ (t ++ (p ++ m)))
    ∙ append_assoc r (codes " ") (b ++ (32 ∷ (t ++ (p ++ m))))

module _ (i : ℕ) (h : Shdr) where
  pub named : (n : List ℕ)
      → (section_front i (codes " [") ++ n) ++ section_end (codes "] ") h
      ≡ section_line i (Some n) h
  unfolding section_front section_end section_start section_line bracketed
  named n =
      let r = row_start i in
      let t = name_or_hex (section_type_name_of h.stype) h.stype in
      let p = section_places h in
      let m = section_number_columns h in
      let z = t ++ (p ++ (m ++ codes "\n")) in
      let b = (codes "[" ++ n) ++ codes "]" in
      append_assoc (r ++ codes " [") n (codes "] " ++ z)
      ∙ append_assoc r (codes " [") (n ++ (codes "] " ++ z))
      ∙ ap (λ (l : List ℕ). r ++ (32 ∷ 91 ∷ l)) (sym (append_assoc n (93 ∷ []) (32 ∷ z)))
      ∙ sym (in_a_row r b t p (m ++ codes "\n"))
      ∙ sym (append_assoc (((((r ++ codes " ") ++ b) ++ codes " ") ++ t) ++ p) m (codes "\n"))

  -- the same, with the name before the rest
  pub named_before : (n : List ℕ)
      → section_front i (codes " [") ++ (n ++ section_end (codes "] ") h)
      ≡ section_line i (Some n) h
  named_before n =
      sym (append_assoc (section_front i (codes " [")) n (section_end (codes "] ") h)) ∙ named n

  pub unnamed : section_front i (codes " <none>") ++ section_end (codes " ") h
      ≡ section_line i None h
  unfolding section_front section_end section_start section_line bracketed
  unnamed =
      let r = row_start i in
      let t = name_or_hex (section_type_name_of h.stype) h.stype in
      let p = section_places h in
      let m = section_number_columns h in
      let z = t ++ (p ++ (m ++ codes "\n")) in
      let b = codes "<none>" in
      append_assoc r (codes " <none>") (codes " " ++ z)
      ∙ sym (in_a_row r b t p (m ++ codes "\n"))
      ∙ sym (append_assoc (((((r ++ codes " ") ++ b) ++ codes " ") ++ t) ++ p) m (codes "\n"))
