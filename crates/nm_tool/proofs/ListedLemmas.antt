-- The symbols that are listed, gathered one after another.
use Rattle.std.proofs.Common.{◌≡◌, ◌⊎◌, inl, inr, ◌++◌, ◌+◌, ◌-◌, ◌<◌, ◌≤◌, ℕ, zero, suc, List, [], length, drop, get_or, Some, None, sym, ap, ◌∙◌, subst, arith, append_assoc, append-nil}
use Rattle.std.specs.Prelude.{slice_get}
use Rattle.std.proofs.lemmas.List.{at_drop_more, at_drop_all}
use Rattle.std.proofs.lemmas.Option.{slice_get_cases}
use Rattle.elf_types.specs.declared.records.Sym.{Sym}
use Rattle.elf_object.specs.Object.{Object}
use Rattle.nm_tool.specs.declared.options.NmOptions.{NmOptions}
use Rattle.nm_tool.specs.Order.{SymbolEntry}
use Rattle.nm_tool.specs.Listed.{symbols_in_table, entry_if, listed_from, listed_entries}

-- what is made of the first n symbols after symbol 0 is none at first, and then each time has the
-- entry of one more
module _ (options : NmOptions) (o : Object) (s : ℕ) (made : ℕ → List SymbolEntry) (none : made 0 ≡ [])
    (more : (n : ℕ) (x : Sym) → slice_get (symbols_in_table o s) (n + 1) ≡ Some x
    → made (suc n) ≡ made n ++ entry_if options o s (n + 1) x) where
  abbrev rest : ℕ → List SymbolEntry
  rest k = listed_from options o s k (drop k (symbols_in_table o s))

  next_left : (n : ℕ) (x : Sym) → slice_get (symbols_in_table o s) (n + 1) ≡ Some x
      → n + 1 < length (symbols_in_table o s) → x ≡ get_or (symbols_in_table o s) (n + 1) x
      → made (suc n) ++ rest (n + 1 + 1) ≡ made n ++ rest (n + 1)
  unfolding listed_from
  next_left n x is lt here =
      let later = listed_from options o s (n + 1 + 1) (drop (n + 1 + 1) (symbols_in_table o s)) in
      ap (λ (es : List SymbolEntry). es ++ later) (more n x is)
      ∙ append_assoc (made n) (entry_if options o s (n + 1) x) later
      ∙ ap (λ (es : List SymbolEntry). made n ++ es)
      (ap (λ (y : Sym). entry_if options o s (n + 1) y ++ later) here
      ∙ sym (at_drop_more (listed_from options o s (n + 1)) (symbols_in_table o s) (n + 1) x lt))

  left_by : (n : ℕ) → n + 1 ≤ length (symbols_in_table o s) - 1
      → made n ++ rest (n + 1) ≡ listed_entries options o s
      → ((x : Sym) × (n + 1 < length (symbols_in_table o s)) × (slice_get (symbols_in_table o s) (n + 1) ≡ Some x)
      × (get_or (symbols_in_table o s) (n + 1) x ≡ x))
      ⊎ ((length (symbols_in_table o s) ≤ n + 1) × (slice_get (symbols_in_table o s) (n + 1) ≡ None))
      → made (suc n) ++ rest (n + 1 + 1) ≡ listed_entries options o s
  left_by n le before (inl there) =
      next_left n there.0 there.2 there.1 (sym there.3) ∙ before
  left_by n le before (inr past) = absurd (omega (arith, past.0, le))

  made_left : (n : ℕ) → n ≤ length (symbols_in_table o s) - 1
      → made n ++ rest (n + 1) ≡ listed_entries options o s
  unfolding listed_entries
  made_left zero le = ap (λ (es : List SymbolEntry). es ++ rest 1) none
  made_left (suc n) le =
      let at : suc n + 1 ≡ n + 1 + 1 = omega arith in
      subst (λ (k : ℕ). made (suc n) ++ rest k ≡ listed_entries options o s) (sym at)
      (left_by n (omega (arith, le)) (made_left n (omega (arith, le)))
      (slice_get_cases (symbols_in_table o s) (n + 1)).1)

  -- what is made of all of them is what is listed
  pub all_listed : (count : ℕ) → count ≡ length (symbols_in_table o s) → made (count - 1) ≡ listed_entries options o s
  unfolding listed_from
  all_listed count is =
      let n = count - 1 in
      let done : rest (n + 1) ≡ [] =
      at_drop_all (listed_from options o s (n + 1)) (symbols_in_table o s) (n + 1) (omega (arith, is)) in
      sym (append-nil (made n)) ∙ ap (λ (es : List SymbolEntry). made n ++ es) (sym done)
      ∙ made_left n (omega (arith, is))
