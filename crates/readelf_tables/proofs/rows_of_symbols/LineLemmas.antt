-- The line of a symbol is what stands before its name, the name, and what closes it.
use Rattle.std.proofs.Common.{◌≡◌, ◌++◌, ◌∷◌, [], ℕ, List, Option, Some, None, sym, ap, ◌∙◌, append_assoc}
use Rattle.std.specs.Prelude.{codes}
use Rattle.elf_types.specs.declared.records.Sym.{Sym}
use Rattle.tool_objects.specs.gelf_view.declared.symbols.SymPlace.{SymPlace}
use Rattle.tool_objects.specs.Sections.{bracketed}
use Rattle.readelf_tables.specs.RowsOfSymbols.SymbolLines.{place_text, symbol_start, symbol_names, symbol_end, symbol_line}
use Rattle.readelf_tables.specs.RowsOfSymbols.Fronts.{symbol_front}

-- a line's texts, each before those behind it
in_a_row : (s m w p b : List ℕ)
    → (s ++ m) ++ ((((w ++ p) ++ codes " ") ++ b) ++ codes "\n") ≡ s ++ (m ++ (w ++ (p ++ (codes " " ++ (b ++ codes "\n")))))
in_a_row s m w p b =
    append_assoc s m ((((w ++ p) ++ codes " ") ++ b) ++ codes "\n")
    ∙ ap (λ (l : List ℕ). s ++ (m ++ l))
    (append_assoc ((w ++ p) ++ codes " ") b (codes "\n")
    ∙ append_assoc (w ++ p) (codes " ") (b ++ codes "\n")
    ∙ append_assoc w p (codes " " ++ (b ++ codes "\n")))

-- what stands behind a front
behind : (s m w p o r : List ℕ) → (s ++ (m ++ (w ++ (p ++ o)))) ++ r ≡ s ++ (m ++ (w ++ (p ++ (o ++ r))))
behind s m w p o r =
    append_assoc s (m ++ (w ++ (p ++ o))) r
    ∙ ap (λ (l : List ℕ). s ++ l) (append_assoc m (w ++ (p ++ o)) r
    ∙ ap (λ (l : List ℕ). m ++ l) (append_assoc w (p ++ o) r ∙ ap (λ (l : List ℕ). w ++ l) (append_assoc p o r)))

module _ (i : ℕ) (x : Sym) (place : Option SymPlace) where
  pub front_named : (n : List ℕ) → (symbol_front i x place (codes " [") ++ n) ++ codes "]\n" ≡ symbol_line i x place (Some n)
  unfolding symbol_front symbol_line symbol_end bracketed
  front_named n =
      let s = symbol_start i x in
      let m = symbol_names x in
      let w = codes " shndx " in
      let p = place_text x place in
      append_assoc (s ++ (m ++ (w ++ (p ++ codes " [")))) n (codes "]\n")
      ∙ behind s m w p (codes " [") (n ++ codes "]\n")
      ∙ ap (λ (l : List ℕ). s ++ (m ++ (w ++ (p ++ (32 ∷ 91 ∷ l))))) (sym (append_assoc n (93 ∷ []) (10 ∷ [])))
      ∙ sym (in_a_row s m w p ((codes "[" ++ n) ++ codes "]"))

  -- the same, with the name before what closes it
  pub behind_named : (n : List ℕ) → symbol_front i x place (codes " [") ++ (n ++ codes "]\n") ≡ symbol_line i x place (Some n)
  behind_named n = sym (append_assoc (symbol_front i x place (codes " [")) n (codes "]\n")) ∙ front_named n

  pub front_unnamed : symbol_front i x place (codes " <none>\n") ≡ symbol_line i x place None
  unfolding symbol_front symbol_line symbol_end bracketed
  front_unnamed = sym (in_a_row (symbol_start i x) (symbol_names x) (codes " shndx ") (place_text x place) (codes "<none>"))
