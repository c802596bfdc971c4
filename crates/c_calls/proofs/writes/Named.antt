-- The bytes of a write.
use Rattle.std.proofs.Common.{◌≡◌, ℕ, List, length, slice_get, Option, Some, None, IfSome, sym, ap, ◌∙◌, subst}
use Rattle.c_handles.specs.declared.lent.writes.KeptWrite.{KeptWrite}

module _ (writes : List KeptWrite) (i : ℕ) where
  pub room_for_bytes : (x : KeptWrite) (out bytes : List ℕ) → Some x ≡ slice_get writes i
      → bytes ≡ x.bytes
      → IfSome (slice_get writes i) (λ w. length out ≡ length w.bytes)
      → length out ≡ length bytes
  room_for_bytes x out bytes is named room =
      let there : length out ≡ length x.bytes =
      subst (λ (o : Option KeptWrite). IfSome o (λ w. length out ≡ length w.bytes)) (sym is)
      room in
      there ∙ ap length (sym named)

  pub bytes_given_out : (x : KeptWrite) (out bytes : List ℕ) → Some x ≡ slice_get writes i
      → bytes ≡ x.bytes → out ≡ bytes → IfSome (slice_get writes i) (λ w. out ≡ w.bytes)
  bytes_given_out x out bytes is named copied =
      subst (λ (o : Option KeptWrite). IfSome o (λ w. out ≡ w.bytes)) is (copied ∙ named)

  pub no_bytes : (out : List ℕ) → None ≡ slice_get writes i
      → IfSome (slice_get writes i) (λ w. out ≡ w.bytes)
  no_bytes out is = subst (λ (o : Option KeptWrite). IfSome o (λ w. out ≡ w.bytes)) is tt
