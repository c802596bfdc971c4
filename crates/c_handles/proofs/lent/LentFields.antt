-- The two fields of a loan, a pointer and a count, as the machine has them.
use Rattle.std.proofs.Common.{◌≡◌, ℕ, ◌^◌, ◌<◌, List, [], ◌∷◌, ◌++◌, T, ◌∙◌, refl, lit<, w64, arith}
use seplogic.Ra.Ura.{Ura}
use mir.Syntax.{Ty, ty_ptr, ty_int, ty_struct, tcons, tnil}
use mir.Val.{Val, vint, vstruct, vcons, vnil, of_list, has_ty, WT}
use types.Logic.{Logic}
use denote.RattleType.{RattleType}
use denote.Laws.{Is}
use denote.Opens.{Opens}
use denote.Copied.{Struct-Copied}
use denote.RawPtr.{Ptr, block_ptr, null_ptr, ptr_val}
use denote.Struct.Laws.{RawPtr-copy, usize-copy}
use denote.Struct.Struct.{Struct}
use denote.Struct.Owning.{shape}
use Rattle.c_handles.specs.contracts.lent.loan.Loan as loan

-- the machine value
abbrev pub word : Ptr → ℕ → Val
word place count = vstruct (vcons (ptr_val place) (vcons (vint w64 count) vnil))

-- its type, whatever the struct is called
abbrev word_ty : Ty
word_ty = ty_struct [] (tcons ty_ptr (tcons (ty_int w64) tnil))

pub pointer_good : (place : Ptr) → T (has_ty ty_ptr (ptr_val place)) × WT (ptr_val place)
pointer_good (block_ptr b o) = (tt, tt)
pointer_good null_ptr = (tt, record { fits = lit< tt })

pub word_good : (place : Ptr) (count : ℕ) → count < 2 ^ 64
    → T (has_ty word_ty (word place count)) × WT (word place count)
word_good (block_ptr b o) count fits = (tt, (tt, (record { fits = fits }, tt)))
word_good null_ptr count fits = (tt, (record { fits = lit< tt }, (record { fits = fits }, tt)))

-- a count of lent bytes fits a machine word, and so do their bytes
pub wide : (count : ℕ) → count < 2 ^ 63 → count < 2 ^ 64
wide count small = omega arith

-- the fields of a loan, as a row of their own
abbrev pub Fields : RattleType
Fields = Struct (shape loan.the_type)

pub told : (place : Ptr) (count : ℕ) (vs : List Val) → Is Fields (place, (count, tt)) vs
    → vs ≡ word place count ∷ []
told place count vs is =
    is.1.0 ∙ (λ j. vstruct (of_list (is.1.1.0 j ++ (is.1.1.1.0.0 j ++ []))) ∷ [])

pub opened : {M : Type 1} {𝓤 : Ura M} (𝓛 : Logic 𝓤) → Opens 𝓛 Fields
opened {M} {𝓤 = 𝓤} 𝓛 =
    (Struct-Copied 𝓛 (shape loan.the_type) (refl, (refl, tt))
    (RawPtr-copy.copied M 𝓤 𝓛, (usize-copy.copied M 𝓤 𝓛, tt))).opens
