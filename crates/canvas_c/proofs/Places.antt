-- Structs that are one pointer: their machine value, and what it takes to own one. Assumes `Logic`.
use Rattle.std.proofs.Common.{◌≡◌, List, [], ◌∷◌, ◌++◌, refl, ◌∙◌}
use seplogic.Ra.Ura.{Ura}
use lib.Dec.{T}
use mir.Syntax.{ty_ptr, ty_struct, tcons, tnil}
use mir.Val.{Val, WT, has_ty, vstruct, vcons, vnil, of_list}
use base.Logic.{ent, emp}
use base.Fml.{Fml}
use types.Logic.{Logic, sem}
use denote.RawPtr.{Ptr, RawPtr, ptr_val, rawptr_Lawful}
use denote.Shadow.{shadow, makes_shadow}
use denote.Struct.Struct.{Struct}
use Rattle.std_alloc.proofs.ResultValues.{and_tt}

-- the machine value of a struct whose only field is this pointer
abbrev pub place : Ptr → Val
place p = vstruct (vcons (ptr_val p) vnil)

-- what the fields of such a struct own
abbrev pub place_owns : Ptr → List Val → Fml
place_owns p = (Struct (record { name = []; args = []; types = []; fields = RawPtr ∷ [] })).own_val (p, tt)

-- whoever owns them knows the machine value,
pub place_is : (p : Ptr) (vs : List Val) → shadow (place_owns p vs) → vs ≡ place p ∷ []
place_is p vs told = told.1.0 ∙ (λ i. vstruct (of_list (told.1.1.0 i ++ [])) ∷ [])

-- and at that machine value they are owned from nothing
pub place_made : {M : Type 1} {𝓤 : Ura M} (𝓛 : Logic 𝓤) (p : Ptr) → ent 𝓤 (emp 𝓤) (sem 𝓛 (place_owns p (place p ∷ [])))
place_made 𝓛 p = makes_shadow 𝓛 (place_owns p (place p ∷ [])) (λ _. (tt, (tt, tt))) ((ptr_val p ∷ [], tt), (refl, (refl, tt)))

-- The machine value of a pointer is one of a pointer's type,
pub ptr_fits : {M : Type 1} {𝓤 : Ura M} (𝓛 : Logic 𝓤) (p : Ptr) → T (has_ty ty_ptr (ptr_val p)) × WT (ptr_val p)
ptr_fits 𝓛 p = ((rawptr_Lawful 𝓛).typed p (ptr_val p ∷ []) refl).0

-- and that of the struct is one of the struct's
pub place_fits : {M : Type 1} {𝓤 : Ura M} (𝓛 : Logic 𝓤) (p : Ptr) → T (has_ty (ty_struct [] (tcons ty_ptr tnil)) (place p)) × WT (place p)
place_fits 𝓛 p = (and_tt (has_ty ty_ptr (ptr_val p)) (ptr_fits 𝓛 p).0, ((ptr_fits 𝓛 p).1, tt))
