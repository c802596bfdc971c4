-- The line of a relocation is what stands before the name of its symbol, the name, and the rest.
use Rattle.std.proofs.Common.{◌≡◌, ◌++◌, ◌∷◌, [], ℕ, ℤ, List, Option, Some, None, sym, ap, ◌∙◌, append_assoc}
use Rattle.std.specs.Prelude.{codes}
use Rattle.elf_types.specs.declared.records.Rel.{Rel}
use Rattle.tool_objects.specs.Sections.{bracketed}
use Rattle.readelf_rows.specs.Fields.{hex_column, decimal_column, row_start}
use Rattle.readelf_tables.specs.Blocks.RelocationLines.{relocation_start, relocation_front, relocation_end, addend_text, relocation_line}

-- texts in a row, each before those behind it
five_behind : (r o t y s z : List ℕ)
    → ((((r ++ o) ++ t) ++ y) ++ s) ++ z ≡ r ++ (o ++ (t ++ (y ++ (s ++ z))))
five_behind r o t y s z =
    append_assoc (((r ++ o) ++ t) ++ y) s z
    ∙ append_assoc ((r ++ o) ++ t) y (s ++ z)
    ∙ append_assoc (r ++ o) t (y ++ (s ++ z))
    ∙ append_assoc r o (t ++ (y ++ (s ++ z)))

-- what stands behind a front
behind : (r o t y s z : List ℕ)
    → (r ++ (o ++ (t ++ (y ++ s)))) ++ z ≡ r ++ (o ++ (t ++ (y ++ (s ++ z))))
behind r o t y s z =
    append_assoc r (o ++ (t ++ (y ++ s))) z
    ∙ ap (λ (l : List ℕ). r ++ l) (append_assoc o (t ++ (y ++ s)) z
    ∙ ap (λ (l : List ℕ). o ++ l) (append_assoc t (y ++ s) z
    ∙ ap (λ (l : List ℕ). t ++ l) (append_assoc y s z)))

module _ (i : ℕ) (x : Rel) (addend : Option ℤ) where
  pub named : (n : List ℕ)
      → (relocation_front i x (codes " [") ++ n) ++ relocation_end (codes "]") addend
      ≡ relocation_line i x addend (Some n)
  unfolding relocation_front relocation_end relocation_start relocation_line bracketed
  named n =
      let r = row_start i in
      let o = hex_column (codes "offset") x.offset in
      let t = decimal_column (codes "type") x.rtype in
      let y = decimal_column (codes "sym") x.sym in
      let a = addend_text addend in
      let z = a ++ codes "\n" in
      let b = (codes "[" ++ n) ++ codes "]" in
      let q = (((r ++ o) ++ t) ++ y) ++ codes " " in
      append_assoc (r ++ (o ++ (t ++ (y ++ codes " [")))) n (codes "]" ++ z)
      ∙ behind r o t y (codes " [") (n ++ (codes "]" ++ z))
      ∙ ap (λ (l : List ℕ). r ++ (o ++ (t ++ (y ++ (32 ∷ 91 ∷ l))))) (sym (append_assoc n (93 ∷ []) z))
      ∙ sym (five_behind r o t y (codes " ") (b ++ z))
      ∙ sym (append_assoc q b z)
      ∙ sym (append_assoc (q ++ b) a (codes "\n"))

  -- the same, with the name before the rest
  pub named_before : (n : List ℕ)
      → relocation_front i x (codes " [") ++ (n ++ relocation_end (codes "]") addend)
      ≡ relocation_line i x addend (Some n)
  named_before n =
      sym (append_assoc (relocation_front i x (codes " [")) n (relocation_end (codes "]") addend))
      ∙ named n

  pub unnamed : relocation_front i x (codes " <none>") ++ relocation_end [] addend
      ≡ relocation_line i x addend None
  unfolding relocation_front relocation_end relocation_start relocation_line bracketed
  unnamed =
      let r = row_start i in
      let o = hex_column (codes "offset") x.offset in
      let t = decimal_column (codes "type") x.rtype in
      let y = decimal_column (codes "sym") x.sym in
      let a = addend_text addend in
      let z = a ++ codes "\n" in
      let b = codes "<none>" in
      let q = (((r ++ o) ++ t) ++ y) ++ codes " " in
      behind r o t y (codes " <none>") z
      ∙ sym (five_behind r o t y (codes " ") (b ++ z))
      ∙ sym (append_assoc q b z)
      ∙ sym (append_assoc (q ++ b) a (codes "\n"))
