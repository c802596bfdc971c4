-- A clause that holds where a source tells its bytes.
use Rattle.std.proofs.Common.{◌≡◌, ℕ, List, Option, Some, None, IfSome, refl, subst}
use Rattle.std.specs.Bool.{⊤}
use Rattle.std.proofs.lemmas.Option.{MatchOption-at_some}

-- what holds of the bytes that are told
pub told_by : {P : List ℕ → Type 0} (told : Option (List ℕ)) → ((image : List ℕ) → told ≡ Some image → P image) → IfSome told P
told_by None each = tt
told_by (Some image) each = each image refl

-- a clause at the bytes that are told
pub told_at : (P : List ℕ → Type 0) (told : Option (List ℕ)) (image : List ℕ) → told ≡ Some image → IfSome told P → P image
told_at P told image is clause = MatchOption-at_some ⊤ P image is clause

-- what follows from a clause, and from two
pub told_then : {X : Type 0} {Q : X → Type 0} (P : X → Type 0) (told : Option X) → IfSome told P → ((x : X) → P x → Q x) → IfSome told Q
told_then P None p each = tt
told_then P (Some x) p each = each x p

pub told_both : {X : Type 0} {R : X → Type 0} (P Q : X → Type 0) (told : Option X) → IfSome told P → IfSome told Q → ((x : X) → P x → Q x → R x) → IfSome told R
told_both P Q None p q each = tt
told_both P Q (Some x) p q each = each x p q

-- a clause at the bytes that a source tells as it did before
pub told_as : (P : List ℕ → Type 0) (old new : Option (List ℕ)) → new ≡ old → IfSome new P → IfSome old P
told_as P old new same clause = subst (λ told. IfSome told P) same clause
