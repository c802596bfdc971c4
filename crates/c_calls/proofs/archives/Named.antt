-- The name of a kept symbol.
use Rattle.std.proofs.Common.{◌≡◌, ℕ, List, length, slice_get, Option, Some, None, IfSome, sym, ap, ◌∙◌, subst}
use Rattle.ar_members.specs.declared.symbols.ArSym.{ArSym}

module _ (symbols : List ArSym) (i : ℕ) where
  pub room_for_name : (x : ArSym) (out name : List ℕ) → Some x ≡ slice_get symbols i
      → name ≡ x.name
      → IfSome (slice_get symbols i) (λ symbol. length out ≡ length symbol.name)
      → length out ≡ length name
  room_for_name x out name is named room =
      let there : length out ≡ length x.name =
      subst (λ (o : Option ArSym). IfSome o (λ symbol. length out ≡ length symbol.name)) (sym is)
      room in
      there ∙ ap length (sym named)

  pub name_given : (x : ArSym) (out name : List ℕ) → Some x ≡ slice_get symbols i
      → name ≡ x.name → out ≡ name → IfSome (slice_get symbols i) (λ symbol. out ≡ symbol.name)
  name_given x out name is named copied =
      subst (λ (o : Option ArSym). IfSome o (λ symbol. out ≡ symbol.name)) is (copied ∙ named)

  pub no_name : (out : List ℕ) → None ≡ slice_get symbols i
      → IfSome (slice_get symbols i) (λ symbol. out ≡ symbol.name)
  no_name out is = subst (λ (o : Option ArSym). IfSome o (λ symbol. out ≡ symbol.name)) is tt
