-- An allocator that refuses, as its calls have it at hand: as a lent wrapper, in which the allocator inside and the count lie. Assumes `Logic`.
use Rattle.std.proofs.Common.{◌≡◌, ℕ, ◌+◌, [], ◌∷◌}
use seplogic.Ra.Ura.{Ura}
use mir.Syntax.{Ty, Args, a_type, dnil, dcons}
use Rattle.std.proofs.Common.{Bor}
use base.Fml.{Lft, Share, ftrue, flft}
use prog.Memory.{size, align, capped, up}
use types.Kit.{Item, ‵, ◌⊛◌}
use denote.Param.{bounded, param}
use denote.Signature.{Slot, plain}
use denote.Builtin.{RefOf}
use Rattle.std.proofs.alloc.Calls.{Al, α}
use Rattle.refusing.specs.contracts.Refusing as wrapper

module _ (Z : Al) where
  -- the type that a call is of: that of the allocator inside
  abbrev pub of_inside : Args
  of_inside = bounded (a_type ∷ []) (Z.row, tt) (dcons Z.d (dcons Z.drops dnil))

  abbrev pub lent : Slot 2
  lent = RefOf (0 ∷ []) tt (plain (λ _. wrapper.the_row (param 0 Z.row))) (λ _. tt)

  abbrev pub Lent : Type 0
  Lent = Bor (wrapper.the_row Z.row).Denot

  -- where the two parts of a lent wrapper lie, one behind the other
  abbrev pub inside : Lent → ℕ × ℕ
  inside r = (r.ref_ptr.0, r.ref_ptr.1 + up (align (α Z)) 0)

  abbrev pub count : Lent → ℕ × ℕ
  count r = (r.ref_ptr.0, r.ref_ptr.1 + up 8 (up (align (α Z)) 0 + size (α Z)))

-- the size and the alignment that are asked for are those of the type
abbrev pub IsOf : Ty → ℕ → ℕ → Type 0
IsOf τ size_asked align_asked = (capped (size τ) ≡ size_asked) × (capped (align τ) ≡ align_asked)

-- the tokens of the two lifetimes of a call
abbrev pub alive : {M : Type 1} (𝓤 : Ura M) → Lft → Lft → Share → Share → Item 𝓤
alive 𝓤 κ₁ κ₂ q₁ q₂ = ‵ (flft κ₁ q₁) ⊛ ‵ (flft κ₂ q₂) ⊛ ‵ ftrue
